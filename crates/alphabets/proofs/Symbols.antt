-- The symbols and the bytes of each alphabet by spans. Assumes nothing.
use Rattle.std.proofs.Common.{◌≡◌, ℕ, suc, ◌+◌, ◌<◌, true, cond, eqb, ltb, List, [], ◌∷◌, length, get_or, Some, None, Option, sym, refl, ap, ◌∙◌, inl, inr, add-suc, suc-add, zero-add, arith}
use Rattle.std.proofs.lemmas.Bool.{cases_Bool, cond-true, cond-false, eqb-true, lt-ltb, le-ltb, cases_lt}
use Rattle.std.specs.Option.{option_or}
use Rattle.alphabets.specs.declared.alphabet.Alphabet.{Alphabet}
use Rattle.alphabets.specs.declared.alphabet.Alphabet.TheVariants.{Decimal, Hex, Upper, Alphanumeric}
use Rattle.alphabets.specs.Alphabets.{bytes_of, radix_of, letter_of, alphabet_of, place_from, symbol_of, byte_of, span_at}
use Rattle.alphabets.specs.AlphabetLaws.{OneToOne}
use Rattle.alphabets.proofs.Tables.{all_below, at_below, alike, alike_equal}
use Rattle.faults.proofs.Variants.{none≢some, same_some}

abbrev symbol_by : Alphabet → ℕ → Option ℕ
symbol_by Decimal b = span_at b 48 57 0
symbol_by Hex b = option_or (span_at b 48 57 0) (span_at b 65 70 10)
symbol_by Upper b = span_at b 65 90 0
symbol_by Alphanumeric b = option_or (span_at b 48 57 0) (span_at b 65 90 10)

abbrev byte_by : Alphabet → ℕ → Option ℕ
byte_by Decimal x = span_at x 0 9 48
byte_by Hex x = option_or (span_at x 0 9 48) (span_at x 10 15 65)
byte_by Upper x = span_at x 0 25 65
byte_by Alphanumeric x = option_or (span_at x 0 9 48) (span_at x 10 35 65)

-- two functions of a byte are equal at every byte
equal : (f g : ℕ → Option ℕ) → all_below (λ b. alike (f b) (g b)) 256 ≡ true → (b : ℕ) → b < 256 → f b ≡ g b
equal f g e b h = alike_equal (f b) (g b) (at_below (λ n. alike (f n) (g n)) 256 e b h)

pub symbol_by_spans : (a : Alphabet) (b : ℕ) → b < 256 → symbol_by a b ≡ symbol_of a b
unfolding symbol_of
symbol_by_spans Decimal b h = equal (symbol_by Decimal) (symbol_of Decimal) refl b h
symbol_by_spans Hex b h = equal (symbol_by Hex) (symbol_of Hex) refl b h
symbol_by_spans Upper b h = equal (symbol_by Upper) (symbol_of Upper) refl b h
symbol_by_spans Alphanumeric b h = equal (symbol_by Alphanumeric) (symbol_of Alphanumeric) refl b h

pub byte_by_spans : (a : Alphabet) (x : ℕ) → x < 256 → byte_by a x ≡ byte_of a x
unfolding byte_of
byte_by_spans Decimal x h = equal (byte_by Decimal) (byte_of Decimal) refl x h
byte_by_spans Hex x h = equal (byte_by Hex) (byte_of Hex) refl x h
byte_by_spans Upper x h = equal (byte_by Upper) (byte_of Upper) refl x h
byte_by_spans Alphanumeric x h = equal (byte_by Alphanumeric) (byte_of Alphanumeric) refl x h

-- what is found stands there
place_at : (b : ℕ) (xs : List ℕ) (i x : ℕ) → place_from i b xs ≡ Some x → (k : ℕ) × (x ≡ i + k) × (k < length xs) × (get_or xs k 0 ≡ b)
place_at b [] i x e = absurd (none≢some x e)
place_at b (y ∷ ys) i x e =
    elim (cases_Bool (eqb b y)) [
      | inl yep ↦
          let here = same_some i x (sym (cond-true (eqb b y) (Some i) (place_from (suc i) b ys) yep) ∙ e) in
          (0, omega arith, omega arith, sym (eqb-true b y yep))
      | inr nope ↦
          let later = place_at b ys (suc i) x (sym (cond-false (eqb b y) (Some i) (place_from (suc i) b ys) nope) ∙ e) in
          (suc later.0, later.1 ∙ suc-add i later.0 ∙ sym (add-suc i later.0), omega arith, later.3)
    ]

pub as_many : (a : Alphabet) → length (bytes_of a) ≡ radix_of a
as_many Decimal = refl
as_many Hex = refl
as_many Upper = refl
as_many Alphanumeric = refl

pub symbol_below : (a : Alphabet) (b x : ℕ) → symbol_of a b ≡ Some x → x < radix_of a
unfolding symbol_of
symbol_below a b x e = let p = place_at b (bytes_of a) 0 x e in let n = as_many a in omega arith

byte_there : (a : Alphabet) (x : ℕ) → x < radix_of a → byte_of a x ≡ Some (get_or (bytes_of a) x 0)
unfolding byte_of
byte_there a x h = cond-true (ltb x (radix_of a)) (Some (get_or (bytes_of a) x 0)) None (lt-ltb x (radix_of a) h)

pub written_for : (a : Alphabet) (b x : ℕ) → symbol_of a b ≡ Some x → byte_of a x ≡ Some b
unfolding symbol_of
written_for a b x e =
    let p = place_at b (bytes_of a) 0 x e in
    let here : x ≡ p.0 = p.1 ∙ zero-add p.0 in
    byte_there a x (symbol_below a b x e) ∙ ap (λ n. Some (get_or (bytes_of a) n 0)) here ∙ ap Some p.3

symbol_there : (a : Alphabet) (x : ℕ) → x < radix_of a → symbol_of a (get_or (bytes_of a) x 0) ≡ Some x
unfolding symbol_of
symbol_there Decimal x h = alike_equal _ _ (at_below (λ n. alike (symbol_of Decimal (get_or (bytes_of Decimal) n 0)) (Some n)) 10 refl x h)
symbol_there Hex x h = alike_equal _ _ (at_below (λ n. alike (symbol_of Hex (get_or (bytes_of Hex) n 0)) (Some n)) 16 refl x h)
symbol_there Upper x h = alike_equal _ _ (at_below (λ n. alike (symbol_of Upper (get_or (bytes_of Upper) n 0)) (Some n)) 26 refl x h)
symbol_there Alphanumeric x h = alike_equal _ _ (at_below (λ n. alike (symbol_of Alphanumeric (get_or (bytes_of Alphanumeric) n 0)) (Some n)) 36 refl x h)

pub read_for : (a : Alphabet) (b x : ℕ) → byte_of a x ≡ Some b → symbol_of a b ≡ Some x
unfolding byte_of
read_for a b x e =
    elim (cases_lt x (radix_of a)) [
      | inl less ↦
          let here = same_some (get_or (bytes_of a) x 0) b (sym (byte_there a x less) ∙ e) in
          ap (symbol_of a) (sym here) ∙ symbol_there a x less
      | inr more ↦
          absurd (none≢some b (sym (cond-false (ltb x (radix_of a)) (Some (get_or (bytes_of a) x 0)) None (le-ltb x (radix_of a) more)) ∙ e))
    ]

pub own_letter : (a : Alphabet) → alphabet_of (letter_of a) ≡ Some a
own_letter Decimal = refl
own_letter Hex = refl
own_letter Upper = refl
own_letter Alphanumeric = refl

-- a letter is the first alphabet's, or one of the rest
first_or : (letter : ℕ) (a x : Alphabet) (rest : Option Alphabet) → (rest ≡ Some a → letter ≡ letter_of a) → cond (eqb letter (letter_of x)) (Some x) rest ≡ Some a → letter ≡ letter_of a
first_or letter a x rest more e =
    elim (cases_Bool (eqb letter (letter_of x))) [
      | inl yep ↦ eqb-true letter (letter_of x) yep ∙ ap letter_of (same_some x a (sym (cond-true (eqb letter (letter_of x)) (Some x) rest yep) ∙ e))
      | inr nope ↦ more (sym (cond-false (eqb letter (letter_of x)) (Some x) rest nope) ∙ e)
    ]

pub only_letter : (a : Alphabet) (letter : ℕ) → alphabet_of letter ≡ Some a → letter ≡ letter_of a
only_letter a letter e =
    let never : ◌≡◌ {A = Option Alphabet} None (Some a) → letter ≡ letter_of a = λ h. absurd (none≢some a h) in
    first_or letter a Decimal _ (first_or letter a Hex _ (first_or letter a Upper _ (first_or letter a Alphanumeric None never))) e

pub one_to_one : (a : Alphabet) → OneToOne a
one_to_one a =
    record {
      named = own_letter a;
      alone = only_letter a;
      counted = as_many a;
      below = symbol_below a;
      each = λ x h. (get_or (bytes_of a) x 0, byte_there a x h);
      written = written_for a;
      read = read_for a;
    }
