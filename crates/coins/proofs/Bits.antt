-- Bits: the bits of bytes by their places, and the number that bits form. Assumes nothing.
use Rattle.std.proofs.Common.{◌≡◌, ℕ, zero, suc, ◌+◌, ◌-◌, ◌*◌, ◌/◌, ◌%◌, ◌^◌, ◌<◌, ◌≤◌, List, [], ◌∷◌, ◌++◌, length, get_or, take, drop, Some, None, sym, refl, ap, ◌∙◌, ⊎_elim, mul_assoc, mul_comm, add-one, arith, lit<, pow_mono, pow-add}
use lib.Arith.{digits_lt}
use Rattle.std.specs.List.{AllByRecursion, slice_get}
use Rattle.std.proofs.lemmas.List.{get_or_append_left, get_or-append_right, get_or-drop, length-drop, length-take, length_push, take_more}
use Rattle.std.proofs.lemmas.Option.{none-some, slice_get-get_or, slice_get_within, get_or_from_slice_get}
use Rattle.std.proofs.ByRecursion.{All-get_or, All-take, All-drop}
use Rattle.std.proofs.lemmas.Bool.{cases_lt}
use Rattle.coins.specs.Coins.{number, byte_bits, bits_of}

pub length_bits_of : (bs : List ℕ) → length (bits_of bs) ≡ 8 * length bs
length_bits_of [] = refl
length_bits_of (b ∷ bs) = let e = length_bits_of bs in omega arith

-- the bit at a place of a byte
pub byte_at : (b r : ℕ) → r < 8 → get_or (byte_bits b) r 0 ≡ b / 2 ^ (7 - r) % 2
byte_at b zero h = refl
byte_at b (suc zero) h = refl
byte_at b (suc (suc zero)) h = refl
byte_at b (suc (suc (suc zero))) h = refl
byte_at b (suc (suc (suc (suc zero)))) h = refl
byte_at b (suc (suc (suc (suc (suc zero))))) h = refl
byte_at b (suc (suc (suc (suc (suc (suc zero)))))) h = refl
byte_at b (suc (suc (suc (suc (suc (suc (suc zero))))))) h = omega arith
byte_at b (suc (suc (suc (suc (suc (suc (suc (suc r)))))))) h = absurd (omega arith)

first_byte : (b : ℕ) (bs : List ℕ) (p : ℕ) → p < 8 → get_or (bits_of (b ∷ bs)) p 0 ≡ get_or (b ∷ bs) (p / 8) 0 / 2 ^ (7 - p % 8) % 2
first_byte b bs p k =
    let q : p / 8 ≡ 0 = omega arith in
    let r : p % 8 ≡ p = omega arith in
    get_or_append_left (byte_bits b) (bits_of bs) 0 p k ∙ byte_at b p k ∙ simp (q, r)

later_byte : (b : ℕ) (bs : List ℕ) (p : ℕ) → 8 ≤ p →
    get_or (bits_of bs) (p - 8) 0 ≡ get_or bs ((p - 8) / 8) 0 / 2 ^ (7 - (p - 8) % 8) % 2 →
    get_or (bits_of (b ∷ bs)) p 0 ≡ get_or (b ∷ bs) (p / 8) 0 / 2 ^ (7 - p % 8) % 2
later_byte b bs p k e =
    let q : p / 8 ≡ suc ((p - 8) / 8) = omega arith in
    let r : p % 8 ≡ (p - 8) % 8 = omega arith in
    get_or-append_right (byte_bits b) (bits_of bs) 8 p 0 refl k ∙ e ∙ simp (q, r)

-- the bit at a place of bytes
pub bits_at : (bs : List ℕ) (p : ℕ) → p < 8 * length bs → get_or (bits_of bs) p 0 ≡ get_or bs (p / 8) 0 / 2 ^ (7 - p % 8) % 2
bits_at [] p h = absurd (omega arith)
bits_at (b ∷ bs) p h = ⊎_elim (first_byte b bs p) (λ k. later_byte b bs p k (bits_at bs (p - 8) (omega arith))) (cases_lt p 8)

-- which is one of its byte's
pub bit_of_bytes : (bs : List ℕ) (p : ℕ) → p < 8 * length bs → get_or (bits_of bs) p 0 ≡ get_or (byte_bits (get_or bs (p / 8) 0)) (p % 8) 0
bit_of_bytes bs p h = bits_at bs p h ∙ sym (byte_at (get_or bs (p / 8) 0) (p % 8) (omega arith))

pub bits_below : (bs : List ℕ) → AllByRecursion (λ b. b < 2) (bits_of bs)
bits_below [] = tt
bits_below (b ∷ bs) =
    (omega arith, (omega arith, (omega arith, (omega arith, (omega arith, (omega arith, (omega arith, (omega arith, bits_below bs))))))))

-- one bit more at the end
pub number_push : (xs : List ℕ) (b : ℕ) → number (xs ++ b ∷ []) ≡ 2 * number xs + b
number_push [] b = omega arith
number_push (x ∷ xs) b =
    rw (length_push xs b, number_push xs b, pow-add 2 (length xs) 1) (omega (arith, mul_assoc x (2 ^ length xs) 2))

pub number_below : (xs : List ℕ) → AllByRecursion (λ b. b < 2) xs → number xs < 2 ^ length xs
number_below [] h = lit< tt
number_below (x ∷ xs) h =
    let n = number_below xs h.1 in
    let e : 2 ^ suc (length xs) ≡ 2 * 2 ^ length xs = ap (λ n. 2 ^ n) (sym (add-one (length xs))) ∙ pow-add 2 (length xs) 1 ∙ mul_comm (2 ^ length xs) 2 in
    omega (arith, digits_lt {m = 2} h.0 n)

module _ (bs : List ℕ) (from : ℕ) where
  -- the number of one bit more
  pub number_more : (i : ℕ) → from + i < 8 * length bs →
      number (take (i + 1) (drop from (bits_of bs))) ≡ 2 * number (take i (drop from (bits_of bs))) + get_or (bits_of bs) (from + i) 0
  number_more i h =
      let k : i < length (drop from (bits_of bs)) = simp (length-drop, length_bits_of) (omega arith) in
      ap number (take_more (drop from (bits_of bs)) i 0 k) ∙ number_push _ _ ∙
      ap (λ b. 2 * number (take i (drop from (bits_of bs))) + b) (get_or-drop from (bits_of bs) i 0)

  -- fewer than 16 bits leave room for one more in 16
  pub number_room : (i : ℕ) → i < 16 → number (take i (drop from (bits_of bs))) < 2 ^ 15
  number_room i h =
      let n = number_below (take i (drop from (bits_of bs))) (All-take (λ b. b < 2) i _ (All-drop (λ b. b < 2) from _ (bits_below bs))) in
      let l : length (take i (drop from (bits_of bs))) ≤ 15 = simp length-take (omega arith) in
      omega (arith, pow_mono l)

pub bit_below : (bs : List ℕ) (p : ℕ) → p < 8 * length bs → get_or (bits_of bs) p 0 < 2
bit_below bs p h = All-get_or (λ b. b < 2) (bits_of bs) p 0 (rw length_bits_of h) (bits_below bs)

-- what a look for a bit says
pub bit_told : (bs : List ℕ) (p x : ℕ) → Some x ≡ slice_get (bits_of bs) p → (p < 8 * length bs) × (x ≡ get_or (bits_of bs) p 0)
bit_told bs p x e =
    let h = slice_get_within (bits_of bs) p x (sym e) in
    (omega (arith, length_bits_of bs), sym (get_or_from_slice_get (bits_of bs) p x 0 (sym e)))

pub bit_missing : (bs : List ℕ) (p : ℕ) → None ≡ slice_get (bits_of bs) p → 8 * length bs ≤ p
bit_missing bs p e =
    ⊎_elim
    (λ h. absurd (none-some (get_or (bits_of bs) p 0) (e ∙ slice_get-get_or (bits_of bs) p 0 (rw length_bits_of h))))
    (λ h. h)
    (cases_lt p (8 * length bs))
