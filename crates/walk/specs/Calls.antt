-- The steps of a call of the walk. Assumes nothing.
--   admitted  what is refused before the first swap: what every cipher refuses by itself, and then what the rule denies
--   outcome   what a swap by the walk gives, one way
--   First     the number of swaps after which a rule first says yes
--   Reaches   it does so after a number of swaps at most
--   OnTheWay  a code that is swapped on: it can be swapped below, and an allowed code is few swaps away
use Rattle.std.specs.Prelude.{◌≡◌, ℕ, ◌<◌, ◌≤◌, Bool, true, false, cond, List, Ok, Err, Result}
use Rattle.faults.specs.declared.fault.Cause.TheVariants.{CodeBarred}
use Rattle.faults.specs.declared.fault.Fault.{Fault}
use Rattle.faults.specs.Faults.{own}
use Rattle.formats.specs.Forms.{Form}
use Rattle.alphabets.specs.RunNames.{legal}
use Rattle.ciphers.specs.Meanings.{Meaning, Free}
use Rattle.ciphers.specs.Swaps.{checked, Outcome, swap}
use Rattle.ciphers.specs.declared.way.Way.{Way}
use Rattle.ciphers.specs.Ways.{map_of}
use Rattle.walk.specs.Walks.{Allowed, times, denied_count, walked_by, walking}

abbrev pub unless_denied : Result Unit Fault → Bool → Result Unit Fault
unless_denied (Ok u) says = cond says (Ok tt) (Err (own CodeBarred))
unless_denied (Err fault) says = Err fault

unfoldable pub admitted : Bool → Bool → Form → List ℕ → List ℕ → Result Unit Fault
admitted taken says f run c = unless_denied (checked taken f run c) says

abbrev pub outcome : Way → Meaning → Allowed → Form → List ℕ → List ℕ → Outcome
outcome way m allowed = swap (walking m allowed) (walked_by m allowed (map_of m way))

pub record First (go : List ℕ → List ℕ) (says : List ℕ → Bool) (c : List ℕ) (n : ℕ) : Type 0 where
  pub reached : says (times go n c) ≡ true
  pub before : (k : ℕ) → k < n → says (times go k c) ≡ false

pub record Reaches (go : List ℕ → List ℕ) (says : List ℕ → Bool) (most : ℕ) (c : List ℕ) : Type 0 where
  pub swaps : ℕ
  pub few : swaps ≤ most
  pub first : First go says c swaps

pub record OnTheWay (m : Meaning) (allowed : Allowed) (go : Form → List ℕ → List ℕ → List ℕ) (f : Form) (run c : List ℕ) : Type 0 where
  pub name : legal run ≡ true
  pub taken : m.taken f ≡ true
  pub free : Free m f c
  pub reaches : Reaches (go f run) (allowed f) (denied_count m allowed f) c
