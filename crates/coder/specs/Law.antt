-- The law over every list of calls: what a coder's own replies keep. Assumes nothing.
--   Alike     two ciphers mean the same
--   Between   what the replies to two lists of calls keep
--   OneList   what the replies to a list of calls on a new coder are, and keep
--   TwoLists  the same of two lists on two new coders, within each and between them
use Rattle.std.specs.Prelude.{◌≡◌, ℕ, true, List, [], Some, Ok}
use Rattle.std.specs.List.{slice_get}
use Rattle.formats.specs.Codes.{Code}
use Rattle.formats.specs.Forms.{Form, Exists, remade}
use Rattle.alphabets.specs.RunNames.{legal}
use Rattle.ciphers.specs.Meanings.{Meaning, Free}
use Rattle.coder.specs.Calls.{Call, masks, unmasks, Reply}
use Rattle.coder.specs.LastStart.{LastStart}
use Rattle.coder.specs.Lists.{before, told, Asked, leaves, on, results}
use Rattle.coder.specs.Machine.{Held, held}

-- the same shapes are taken, the same codes of them barred at the same depth, and under each legal run name the
-- codes that are not barred have the same images; a form that no shape has does not matter
pub record Alike (m n : Meaning) : Type 0 where
  pub taken : (f : Form) → Exists f → m.taken f ≡ n.taken f
  pub barred : (f : Form) (c : List ℕ) → Exists f → m.taken f ≡ true → Code f c → m.barred f c ≡ n.barred f c
  pub forward : (f : Form) (run c : List ℕ) → Exists f → m.taken f ≡ true → legal run ≡ true → Free m f c →
      m.forward f run c ≡ n.forward f run c
  pub backward : (f : Form) (run c : List ℕ) → Exists f → m.taken f ≡ true → legal run ≡ true → Free m f c →
      m.backward f run c ≡ n.backward f run c

pub record Between (m n : Meaning) (cs ds : List Call) (replies others : List Reply) : Type 0 where
  -- of two masked codes under one run and shape, from any lanes: they are equal exactly when the plain codes were
  pub one_to_one : (i j : ℕ) (u : Held) (x y t s : List ℕ) →
      Asked m cs masks i u x → Asked n ds masks j u y →
      slice_get replies i ≡ Some (leaves t) → slice_get others j ≡ Some (leaves s) →
      (t ≡ s → x ≡ y) × (x ≡ y → t ≡ s)
  -- of a mask of x and an unmask of t under one run and shape: the unmask gives x exactly when the mask gives t
  pub undone : (i j : ℕ) (u : Held) (x t : List ℕ) →
      Asked m cs masks i u x → Asked n ds unmasks j u t →
      (slice_get replies i ≡ Some (leaves t) → slice_get others j ≡ Some (leaves x)) ×
      (slice_get others j ≡ Some (leaves x) → slice_get replies i ≡ Some (leaves t))
  -- the same calls on a lane and the same restarts, in the same order, give that lane the same results
  pub lane_alone : (k : ℕ) → on k cs ≡ on k ds → results k cs replies ≡ results k ds others

pub record OneList (m : Meaning) (cs : List Call) (replies : List Reply) : Type 0 where
  -- each reply is the reference machine's
  pub each : replies ≡ told m [] cs
  -- what that machine has a lane under is what the last accepted start on it named, if no accepted end on it and no
  -- restart came since, and nothing otherwise
  pub under : (h : List Call) (k : ℕ) (u : Held) → (held m h k ≡ Some u → LastStart m h k u) × (LastStart m h k u → held m h k ≡ Some u)
  -- at each call, the check that makes a lane's shape again does not fail
  pub rebuilds : (i k : ℕ) (u : Held) → LastStart m (before cs i) k u → remade u.shape ≡ Ok u.shape
  -- two calls of the list
  pub within : Between m m cs cs replies replies

pub record TwoLists (m n : Meaning) (cs ds : List Call) (replies others : List Reply) : Type 0 where
  pub first : OneList m cs replies
  pub second : OneList n ds others
  -- a call of each list, where the ciphers are alike, either way round
  pub between : Alike m n → Between m n cs ds replies others
  pub across : Alike m n → Between n m ds cs others replies
