-- A message read where it stands, and its tag. Assumes nothing.
use Rattle.std.proofs.Common.{◌≡◌, ℕ, ◌-◌, ◌≤◌, List, length, take, drop, Some, None, Ok, Option, ap, ◌∙◌, arith}
use Rattle.std.specs.Option.{option_map, ok_or}
use Rattle.std.proofs.lemmas.List.{length-append, take_at}
use Rattle.text.specs.Hex.{in_place}
use Rattle.block_cipher.specs.Cmac.{cmac}
use Rattle.block_lines.specs.declared.unreadable.Unreadable.TheVariants.{Message}
use Rattle.block_lines.specs.Requests.{and_then}

-- d is what the digits spell, and n its length
pub room : (d : Option (List ℕ)) (digits after : List ℕ) (n : ℕ) → Some n ≡ option_map length d → after ≡ in_place digits d → n ≤ length after
unfolding in_place
room None digits after n e h = absurd (grind arith)
room (Some m) digits after n e h =
    let k : n ≡ length m = cc in
    omega (arith, k, ap length h, length-append m (drop (length m) digits))

pub tagged : (d : Option (List ℕ)) (digits after key made out : List ℕ) (n : ℕ) → Some n ≡ option_map length d → after ≡ in_place digits d
    → made ≡ key → out ≡ cmac made (take (n - 0) after)
    → Ok out ≡ and_then (ok_or d Message) (λ m. Ok (cmac key m))
unfolding in_place
tagged None digits after key made out n e h ek eo = absurd (grind arith)
tagged (Some m) digits after key made out n e h ek eo =
    let k : n ≡ length m = cc in
    let part : take (n - 0) after ≡ m = ap (take (n - 0)) h ∙ take_at m (drop (length m) digits) (n - 0) (omega (arith, k)) in
    ap (λ t. Ok t) (eo ∙ ap (λ q. cmac q (take (n - 0) after)) ek ∙ ap (cmac key) part)
