-- Codes and numbers go one to one. Assumes nothing.
use Rattle.std.specs.Prelude.{◌≡◌, ℕ, zero, suc, ◌+◌, ◌*◌, ◌/◌, ◌%◌, ◌^◌, ◌<◌, List, [], ◌∷◌, length, refl}
use Rattle.std.proofs.Common.{sym, ap, subst, ◌∙◌, arith, add_assoc, add_comm, add-mul, mul_assoc, mul-one, mod-lt, mod-eq_of_lt}
use Rattle.std.proofs.Math.Nat.{pow-zero, pow-succ', one-le-pow, add-mul-div_right, add-mul-mod_self_right}
use Rattle.std.proofs.Math.Arith.{digits_div, mod-mul}
use Rattle.std.specs.Int.Digits.{number_from_digits_after}
use Rattle.std.specs.List.{AllByRecursion}
use Rattle.std.proofs.lemmas.Int.Digits.{number_lt}
use Rattle.codebook.specs.Numbers.{number, written, Numbering}

nothing_before : (a x : ℕ) → 0 * a + x ≡ x
nothing_before a x = omega arith

-- what stands before a code counts by the power of its length
after : (a n : ℕ) (c : List ℕ) → number_from_digits_after a n c ≡ n * a ^ length c + number a c
after a n [] =
    let one : n * a ^ 0 ≡ n = ap (λ m. n * m) (pow-zero a) ∙ mul-one n in
    omega arith
after a n (x ∷ c) =
    let here : (n * a + x) * a ^ length c ≡ n * a ^ suc (length c) + x * a ^ length c =
    add-mul (n * a) x (a ^ length c) ∙ ap (λ m. m + x * a ^ length c) (mul_assoc n a (a ^ length c) ∙ ap (λ m. n * m) (sym (pow-succ' a (length c)))) in
    let low : number a (x ∷ c) ≡ x * a ^ length c + number a c = after a (0 * a + x) c ∙ ap (λ m. m * a ^ length c + number a c) (nothing_before a x) in
    after a (n * a + x) c ∙ ap (λ m. m + number a c) here ∙ add_assoc (n * a ^ suc (length c)) (x * a ^ length c) (number a c) ∙ ap (λ m. n * a ^ suc (length c) + m) (sym low)

pub first_highest : (a x : ℕ) (c : List ℕ) → number a (x ∷ c) ≡ x * a ^ length c + number a c
first_highest a x c = after a (0 * a + x) c ∙ ap (λ m. m * a ^ length c + number a c) (nothing_before a x)

-- whole multiples of the count are not written
unwritten : (a n k w : ℕ) → 0 < a → written a n (w + k * a ^ n) ≡ written a n w
unfolding written
unwritten a zero k w p = refl
unwritten a (suc n) k w p =
    let q : 0 < a ^ n = one-le-pow n a p in
    let e : w + k * a ^ suc n ≡ w + k * a * a ^ n = ap (λ m. w + m) (ap (λ m. k * m) (pow-succ' a n) ∙ sym (mul_assoc k a (a ^ n))) in
    let head : (w + k * a ^ suc n) / a ^ n % a ≡ w / a ^ n % a =
    ap (λ m. m / a ^ n % a) e ∙ ap (λ m. m % a) (add-mul-div_right w (k * a) q) ∙ add-mul-mod_self_right (w / a ^ n) k a in
    let rest : written a n (w + k * a ^ suc n) ≡ written a n w = ap (written a n) e ∙ unwritten a n (k * a) w p in
    ap (λ m. m ∷ written a n (w + k * a ^ suc n)) head ∙ ap (λ l. w / a ^ n % a ∷ l) rest

pub written_long : (a n v : ℕ) → length (written a n v) ≡ n
unfolding written
written_long a zero v = refl
written_long a (suc n) v = ap suc (written_long a n v)

pub written_symbols : (a n v : ℕ) → 0 < a → AllByRecursion (λ x. x < a) (written a n v)
unfolding written
written_symbols a zero v p = tt
written_symbols a (suc n) v p = (mod-lt (v / a ^ n) p, written_symbols a n v p)

-- what is written reads as the number, up to whole multiples of the count
reads_back : (a n v : ℕ) → 0 < a → number a (written a n v) ≡ v % a ^ n
unfolding written
reads_back a zero v p =
    let whole : v % a ^ 0 ≡ v % 1 = ap (λ m. v % m) (pow-zero a) in
    omega arith
reads_back a (suc n) v p =
    let e : a ^ length (written a n v) ≡ a ^ n = ap (λ m. a ^ m) (written_long a n v) in
    first_highest a (v / a ^ n % a) (written a n v) ∙ ap (λ m. v / a ^ n % a * m + number a (written a n v)) e
    ∙ ap (λ m. v / a ^ n % a * a ^ n + m) (reads_back a n v p) ∙ sym (mod-mul v p (one-le-pow n a p)) ∙ ap (λ m. v % m) (sym (pow-succ' a n))

pub number_below : (a : ℕ) (c : List ℕ) (n : ℕ) → length c ≡ n → AllByRecursion (λ x. x < a) c → number a c < a ^ n
number_below a c n e s = subst (λ (m : ℕ). number a c < a ^ m) e (number_lt a c s)

pub writes_again : (a n : ℕ) (c : List ℕ) → length c ≡ n → AllByRecursion (λ x. x < a) c → written a n (number a c) ≡ c
unfolding written
writes_again a zero [] e s = refl
writes_again a (suc n) [] e s = absurd (omega arith)
writes_again a zero (x ∷ c) e s = absurd (omega arith)
writes_again a (suc n) (x ∷ c) e s =
    let p : 0 < a = omega (arith, s.0) in
    let l : length c ≡ n = omega arith in
    let w = number a c in
    let low : w < a ^ n = number_below a c n l s.1 in
    let whole : number a (x ∷ c) ≡ x * a ^ n + w = first_highest a x c ∙ ap (λ m. x * a ^ m + w) l in
    let head : number a (x ∷ c) / a ^ n % a ≡ x =
    ap (λ m. m / a ^ n % a) whole ∙ ap (λ m. m % a) (digits_div x low) ∙ mod-eq_of_lt s.0 in
    let rest : written a n (number a (x ∷ c)) ≡ c =
    ap (written a n) (whole ∙ add_comm (x * a ^ n) w) ∙ unwritten a n x w p ∙ writes_again a n c l s.1 in
    ap (λ m. m ∷ written a n (number a (x ∷ c))) head ∙ ap (λ l. x ∷ l) rest

pub numbering : (a n : ℕ) → Numbering a n
numbering a n = record {
  first = first_highest a;
  below = λ c. number_below a c n;
  again = writes_again a n;
  long = written_long a n;
  symbols = written_symbols a n;
  back = λ v p h. reads_back a n v p ∙ mod-eq_of_lt h;
}
