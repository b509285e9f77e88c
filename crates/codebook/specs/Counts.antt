-- How many codes there are, and the loops that count, read and write. Assumes nothing.
use Rattle.std.specs.Prelude.{◌≡◌, ℕ, suc, ◌+◌, ◌-◌, ◌*◌, ◌/◌, ◌%◌, ◌^◌, ◌<◌, ◌≤◌, List, [], ◌∷◌, ◌++◌, length, take, set, Some, None, slice_index, slice_index_or, slice_set}
use Rattle.std.proofs.Math.Path.{sym, ap}
use Rattle.std.proofs.Common.{◌∙◌, pow-suc}
use Rattle.std.proofs.Math.Nat.{pow-zero, pow-le-pow_right, div-div-eq-div-mul}
use native.Mathlib.Omega.{arith}
use Rattle.std.specs.List.{AllByRecursion}
use Rattle.std.proofs.lemmas.Int.Digits.{number_more, number_lt}
use Rattle.std.proofs.ByRecursion.{All-get_or, All-take}
use Rattle.std.proofs.lemmas.List.{append-nil, append_assoc, length-take-le, set_at, take_all, take_more}
use Rattle.std.proofs.lemmas.Bool.{cond-true, cond-false, le-leb, lt-leb}
use Rattle.alphabets.specs.declared.alphabet.Alphabet.{Alphabet}
use Rattle.alphabets.specs.declared.alphabet.Alphabet.TheVariants.{Decimal, Hex, Upper, Alphanumeric}
use Rattle.alphabets.specs.Alphabets.{radix_of}
use Rattle.formats.specs.Forms.{Form, code_count}
use Rattle.codebook.specs.Numbers.{number, written, most_codes, few_codes}

-- each alphabet has at least ten symbols and at most 36
pub some_symbols : (a : Alphabet) → 10 ≤ radix_of a
some_symbols Decimal = omega arith
some_symbols Hex = omega arith
some_symbols Upper = omega arith
some_symbols Alphanumeric = omega arith

pub few_symbols : (a : Alphabet) → radix_of a ≤ 36
few_symbols Decimal = omega arith
few_symbols Hex = omega arith
few_symbols Upper = omega arith
few_symbols Alphanumeric = omega arith

-- one more factor
pub power_more : (a i : ℕ) → a ^ i * a ≡ a ^ (i + 1)
power_more a i = sym (pow-suc a i) ∙ ap (λ m. a ^ m) (omega arith)

-- a power that is too high tells that the count is
pub too_many : (f : Form) (i : ℕ) → i ≤ f.len → most_codes < radix_of f.alphabet ^ i → None ≡ few_codes f
unfolding code_count
too_many f i h more =
    let some = some_symbols f.alphabet in
    let up : radix_of f.alphabet ^ i ≤ radix_of f.alphabet ^ f.len = pow-le-pow_right (omega arith) h in
    sym (cond-false _ _ _ (lt-leb (code_count f) most_codes (omega arith)))

pub few_enough : (f : Form) (i : ℕ) → i ≡ f.len → radix_of f.alphabet ^ i ≤ most_codes → Some (radix_of f.alphabet ^ i) ≡ few_codes f
unfolding code_count
few_enough f i e few =
    let same : radix_of f.alphabet ^ i ≡ radix_of f.alphabet ^ f.len = ap (λ m. radix_of f.alphabet ^ m) e in
    ap Some same ∙ sym (cond-true _ _ _ (le-leb (code_count f) most_codes (omega arith)))

-- what is read so far leaves room for one more symbol
pub room_for : (a : ℕ) (c : List ℕ) (i : ℕ) → i < length c → AllByRecursion (λ x. x < a) c → a ^ length c ≤ most_codes →
    {so_far radix : ℕ} → so_far ≡ number a (take i c) → radix ≡ a → so_far * radix + slice_index c i < most_codes
room_for a c i h s few {so_far} {radix} e r =
    let x = All-get_or (λ (n : ℕ). n < a) c i 0 h s in
    let below = number_lt a (take (i + 1) c) (All-take (λ (n : ℕ). n < a) (i + 1) c s) in
    let long : a ^ length (take (i + 1) c) ≡ a ^ (i + 1) = ap (λ m. a ^ m) (length-take-le (i + 1) c (omega arith)) in
    let some : 0 < a = omega arith in
    let up : a ^ (i + 1) ≤ a ^ length c = pow-le-pow_right some (omega arith) in
    let more = number_more a c i h in
    let same : so_far * radix ≡ number a (take i c) * a = ap (λ n. n * radix) e ∙ ap (λ n. number a (take i c) * n) r in
    omega arith

-- writing from the last symbol to the first: the symbols from i on are written, and the rest of the number is left
module _ (a v : ℕ) (old : List ℕ) where
  pub none_written : (old ≡ take (length old) old ++ written a (length old - length old) v) × (v ≡ v / a ^ (length old - length old))
  unfolding written
  none_written =
      let none : length old - length old ≡ 0 = omega arith in
      let whole : v / a ^ (length old - length old) ≡ v / 1 = ap (λ m. v / a ^ m) none ∙ ap (λ m. v / m) (pow-zero a) in (
        sym (ap (λ m. take (length old) old ++ written a m v) none ∙ append-nil (take (length old) old) ∙ take_all (length old) old (omega arith)),
        omega arith,
      )

  pub one_written : (i rest : ℕ) (code : List ℕ) → 0 < i → i ≤ length old →
      (code ≡ take i old ++ written a (length old - i) v) × (rest ≡ v / a ^ (length old - i)) →
      (slice_set code (i - 1) (rest % a) ≡ take (i - 1) old ++ written a (length old - (i - 1)) v) × (rest / a ≡ v / a ^ (length old - (i - 1)))
  unfolding written
  one_written i rest code p h e =
      let j = i - 1 in
      let k = length old - i in
      let y = slice_index_or old j 0 in
      let w = written a k v in
      let up : i ≡ j + 1 = omega arith in
      let longer : length old - j ≡ suc k = omega arith in
      let whole : code ≡ take j old ++ (y ∷ w) =
      e.0 ∙ ap (λ m. take m old ++ w) up ∙ ap (λ l. l ++ w) (take_more old j 0 (omega arith)) ∙ append_assoc (take j old) (y ∷ []) w in
      let put : set (take j old ++ (y ∷ w)) j (rest % a) ≡ take j old ++ (rest % a ∷ w) =
      set_at (take j old) y w (rest % a) j (length-take-le j old (omega arith)) in (
        ap (λ l. set l j (rest % a)) whole ∙ put ∙ ap (λ m. take j old ++ (m % a ∷ w)) e.1 ∙ ap (λ m. take j old ++ written a m v) (sym longer),
        ap (λ m. m / a) e.1 ∙ div-div-eq-div-mul v (a ^ k) a ∙ ap (λ m. v / m) (sym (pow-suc a k)) ∙ ap (λ m. v / a ^ m) (sym longer),
      )

  pub all_written : (i : ℕ) (code : List ℕ) → i ≤ 0 → code ≡ take i old ++ written a (length old - i) v → code ≡ written a (length old) v
  all_written i code h e =
      let none : i ≡ 0 = omega arith in
      let all : length old - 0 ≡ length old = omega arith in
      e ∙ ap (λ m. take m old ++ written a (length old - m) v) none ∙ ap (λ m. written a m v) all
