-- The window that layers move over. Assumes nothing.
--   AtHand  a symbol that was written shortly before is at hand
use Rattle.std.specs.Prelude.{◌≡◌, ℕ}
use Rattle.ciphers.specs.declared.window.Recent.{Recent}

-- the symbol x, written so many symbols ago, if it is one of the last three
pub record AtHand (r : Recent) (ago x : ℕ) : Type 0 where
  pub first : ago ≡ 1 → r.first ≡ x
  pub second : ago ≡ 2 → r.second ≡ x
  pub third : ago ≡ 3 → r.third ≡ x
