use Rattle.std.proofs.Common.{◌≡◌, ℕ, ◌<◌, ◌++◌, map, take, drop}
use Rattle.formats.proofs.code.change_each.Given as goal

abbrev pub invariant-loop-x : goal.invariant-loop-x
invariant-loop-x g l =
    (f : ℕ → ℕ) → ((x y : ℕ) → x < 256 → goal.F-post g l.change x y → y ≡ f x) → l.xs ≡ map f (take l.x-index l.initial.xs) ++ drop l.x-index l.initial.xs
