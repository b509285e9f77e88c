-- What a cipher over formats means, as plain data, and the laws of it. Assumes nothing.
--   Meaning  the shapes taken, the codes barred, and the map each way
--   Free     a code that may be swapped
--   Undone   one map keeps the free codes, and another undoes it
--   Laws     each map is undone by the other
use Rattle.std.specs.Prelude.{◌≡◌, ℕ, Bool, true, List, None, Option}
use Rattle.formats.specs.Forms.{Form}
use Rattle.formats.specs.Codes.{Code}

pub record Meaning : Type 0 where
  pub taken : Form → Bool
  -- the depth at which a code is barred, if it is
  pub barred : Form → List ℕ → Option ℕ
  -- by form, run name and code
  pub forward : Form → List ℕ → List ℕ → List ℕ
  pub backward : Form → List ℕ → List ℕ → List ℕ

pub record Free (m : Meaning) (f : Form) (c : List ℕ) : Type 0 where
  pub code : Code f c
  pub open_to : m.barred f c ≡ None

pub record Undone (m : Meaning) (f : Form) (go undo : List ℕ → List ℕ) : Type 0 where
  -- it keeps the shape, and leads to no barred code
  pub stays : (c : List ℕ) → Free m f c → Free m f (go c)
  pub undoes : (c : List ℕ) → Free m f c → undo (go c) ≡ c

-- for each shape taken and each run
pub record Laws (m : Meaning) : Type 0 where
  pub onward : (f : Form) (run : List ℕ) → m.taken f ≡ true → Undone m f (m.forward f run) (m.backward f run)
  pub homeward : (f : Form) (run : List ℕ) → m.taken f ≡ true → Undone m f (m.backward f run) (m.forward f run)
