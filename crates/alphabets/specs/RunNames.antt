-- Run names: 1 to 32 bytes, each printable and no space. Assumes nothing.
--   IsRunName     what a run name is
--   legal         the test for run names
--   name_verdict  what a check of one answers
--   Tells         the test passes the run names, and nothing else
use Rattle.std.specs.Prelude.{◌≡◌, ℕ, ◌≤◌, Bool, true, cond, ◌&&◌, List, length, Ok, Err, Result, nat_le}
use Rattle.std.specs.List.{AllByRecursion, list_all}
use Rattle.faults.specs.declared.fault.Cause.TheVariants.{RunName}
use Rattle.faults.specs.declared.fault.Fault.{Fault}
use Rattle.faults.specs.Faults.{own}

pub record IsRunName (name : List ℕ) : Type 0 where
  pub some : 1 ≤ length name
  pub short : length name ≤ 32
  pub shown : AllByRecursion (λ b. (33 ≤ b) × (b ≤ 126)) name

abbrev pub printable : ℕ → Bool
printable b = nat_le 33 b && nat_le b 126

unfoldable pub legal : List ℕ → Bool
legal name = (nat_le 1 (length name) && nat_le (length name) 32) && list_all printable name

abbrev pub name_verdict : List ℕ → Result Unit Fault
name_verdict name = cond (legal name) (Ok tt) (Err (own RunName))

pub record Tells (name : List ℕ) : Type 0 where
  pub passes : IsRunName name → legal name ≡ true
  pub only : legal name ≡ true → IsRunName name
