-- What digits spell. Assumes nothing.
use Rattle.std.proofs.Common.{◌≡◌, ℕ, zero, suc, ◌-◌, cond, Bool, ◌&&◌, ◌≤◌, ◌+◌, ◌*◌, ◌/◌, ◌%◌, ◌<◌, true, false, eqb, List, [], ◌∷◌, ◌++◌, length, get_or, take, drop, set, is_some, Some, None, Option, sym, refl, ap, ◌∙◌, arith, length-set}
use Rattle.std.specs.Option.{option_map}
use Rattle.std.specs.Simd.{first_chunks}
use Rattle.std.specs.List.{list_all}
use Rattle.std.proofs.lemmas.List.{drop_more, append_assoc, append-nil, take_all, take_more, take_more_set, at_drop_more, at_drop_all}
use Rattle.std.proofs.lemmas.Bool.Decides.{nat_tests}
use Rattle.std.proofs.lemmas.Bool.{eq-eqb, ne_eqb, cond-true, cond-false}
use Rattle.text.specs.declared.hex.Letters.{Letters}
use Rattle.text.specs.declared.hex.Letters.TheVariants.{Upper, Either}
use Rattle.text.specs.Hex.{within, digit_of, both, byte_of, bytes_of, block_of, lower_digit, digits_of, Bytes, ReadsBack}

-- a digit's value is below 16
pub digit_below : (l : Letters) (b d : ℕ) → Some d ≡ digit_of l b → d < 16
unfolding digit_of
digit_below Upper b d e = grind (arith, nat_tests)
digit_below Either b d e = grind (arith, nat_tests)

-- whether small letters are digits
abbrev pub takes_small : Letters → Bool
takes_small Upper = false
takes_small Either = true

-- the value of a digit, by one list of cases for both
pub digit_is : (l : Letters) (b : ℕ) → digit_of l b ≡ cond (within 48 57 b) (Some (b - 48)) (cond (within 65 70 b) (Some (b - 65 + 10)) (cond (takes_small l && within 97 102 b) (Some (b - 97 + 10)) None))
unfolding digit_of
digit_is Upper b = grind (arith, nat_tests)
digit_is Either b = grind (arith, nat_tests)

-- the byte of two digits
two_digits : (l : Letters) (high low h d : ℕ) → Some h ≡ digit_of l high → Some d ≡ digit_of l low → Some (16 * h + d) ≡ byte_of l high low
unfolding byte_of
two_digits l high low h d eh e = ap (both (λ h d. 16 * h + d) (Some h)) e ∙ ap (λ o. both (λ h d. 16 * h + d) o (digit_of l low)) eh

-- the bytes from digit 2 i on
pub bytes_step : (l : Letters) (text : List ℕ) (i : ℕ) → 2 * i + 1 < length text → bytes_of l (drop (2 * i) text) ≡ both (λ b bs. b ∷ bs) (byte_of l (get_or text (2 * i) 0) (get_or text (2 * i + 1) 0)) (bytes_of l (drop (2 * (i + 1)) text))
unfolding bytes_of
bytes_step l text i h =
    let k : 2 * i < length text = omega arith in
    let n : 2 * i + 1 + 1 ≡ 2 * (i + 1) = omega arith in
    ap (bytes_of l) (drop_more text (2 * i) 0 k) ∙ ap (λ r. bytes_of l (get_or text (2 * i) 0 ∷ r)) (drop_more text (2 * i + 1) 0 h) ∙ ap (λ m. bytes_of l (get_or text (2 * i) 0 ∷ get_or text (2 * i + 1) 0 ∷ drop m text)) n

-- bytes that were read, before those still to be read
abbrev pub before : List ℕ → Option (List ℕ) → Option (List ℕ)
before p o = option_map (λ r. p ++ r) o

-- one byte more
before_more : (p : List ℕ) (b : ℕ) (o : Option (List ℕ)) → before (p ++ b ∷ []) o ≡ before p (both (λ b bs. b ∷ bs) (Some b) o)
before_more p b None = refl
before_more p b (Some r) = ap (λ l. Some l) (append_assoc p (b ∷ []) r)

-- what is written is read as what it was
read_lower : (n : ℕ) → n < 16 → Some n ≡ digit_of Either (lower_digit n)
unfolding digit_of
read_lower n h = grind (arith, nat_tests)

read_bytes : (bs : List ℕ) → Bytes bs → bytes_of Either (digits_of bs) ≡ Some bs
unfolding bytes_of digits_of
read_bytes [] h = refl
read_bytes (b ∷ bs) h =
    let e = two_digits Either _ _ (b / 16) (b % 16) (read_lower (b / 16) (omega (arith, h.0))) (read_lower (b % 16) (omega arith)) in
    let n : 16 * (b / 16) + b % 16 ≡ b = omega arith in
    ap (λ o. both (λ b bs. b ∷ bs) o (bytes_of Either (digits_of bs))) (sym e) ∙ ap (both (λ b bs. b ∷ bs) (Some (16 * (b / 16) + b % 16))) (read_bytes bs h.1) ∙ ap (λ m. Some (m ∷ bs)) n

module _ (l : Letters) (text : List ℕ) (i : ℕ) (pair : 2 * i + 1 < length text) where
  -- one pair more is read, and its byte put at place i of out
  pub pair_more : (out : List ℕ) (b : ℕ) → i < length out → Some b ≡ byte_of l (get_or text (2 * i) 0) (get_or text (2 * i + 1) 0)
      → before (take i out) (bytes_of l (drop (2 * i) text)) ≡ bytes_of l text
      → before (take (i + 1) (set out i b)) (bytes_of l (drop (2 * (i + 1)) text)) ≡ bytes_of l text
  pair_more out b h e inv =
      let rest = bytes_of l (drop (2 * (i + 1)) text) in
      ap (λ p. before p rest) (take_more_set out i b h) ∙ before_more (take i out) b rest
      ∙ ap (before (take i out)) (ap (λ o. both (λ b bs. b ∷ bs) o rest) e ∙ sym (bytes_step l text i pair)) ∙ inv

  -- a pair that is no byte
  no_byte : None ≡ byte_of l (get_or text (2 * i) 0) (get_or text (2 * i + 1) 0) → bytes_of l (drop (2 * i) text) ≡ None
  no_byte e = bytes_step l text i pair ∙ ap (λ o. both (λ b bs. b ∷ bs) o (bytes_of l (drop (2 * (i + 1)) text))) (sym e)

  pub no_pair : (out : List ℕ) → None ≡ byte_of l (get_or text (2 * i) 0) (get_or text (2 * i + 1) 0)
      → before (take i out) (bytes_of l (drop (2 * i) text)) ≡ bytes_of l text
      → None ≡ bytes_of l text
  no_pair out e inv = sym (ap (before (take i out)) (no_byte e)) ∙ inv

-- the pairs of a text, as `as_chunks` parts it
pub pair_at : (text : List ℕ) (k i : ℕ) (d : List ℕ) → i < k → 2 * k ≤ length text → get_or (first_chunks 2 k text) i d ≡ get_or text (2 * i) 0 ∷ get_or text (2 * i + 1) 0 ∷ []
pair_at text zero i d h j = absurd (omega (arith, h))
pair_at [] (suc k) i d h j = absurd (omega (arith, j))
pair_at (x ∷ []) (suc k) i d h j = absurd (omega (arith, j))
pair_at (x ∷ y ∷ rest) (suc k) zero d h j = refl
pair_at (x ∷ y ∷ rest) (suc k) (suc i) d h j =
    let e : 2 * suc i ≡ suc (suc (2 * i)) = omega arith in
    let f : 2 * suc i + 1 ≡ suc (suc (2 * i + 1)) = omega arith in
    pair_at rest k i d (omega (arith, h)) (omega (arith, j))
    ∙ ap (λ n. get_or (x ∷ y ∷ rest) n 0 ∷ get_or rest (2 * i + 1) 0 ∷ []) (sym e)
    ∙ ap (λ n. get_or (x ∷ y ∷ rest) (2 * suc i) 0 ∷ get_or (x ∷ y ∷ rest) n 0 ∷ []) (sym f)

-- whether a pair of digits is a byte
abbrev pub is_byte : Letters → List ℕ → Bool
is_byte l p = is_some (byte_of l (get_or p 0 0) (get_or p 1 0))

both_there : (o : Option ℕ) (p : Option (List ℕ)) → is_some o && is_some p ≡ is_some (both (λ b bs. b ∷ bs) o p)
both_there None p = refl
both_there (Some b) None = refl
both_there (Some b) (Some bs) = refl

pub all_bytes : (l : Letters) (k : ℕ) (text : List ℕ) → length text ≡ 2 * k → list_all (is_byte l) (first_chunks 2 k text) ≡ is_some (bytes_of l text)
unfolding bytes_of
all_bytes l zero [] h = refl
all_bytes l zero (x ∷ text) h = absurd (omega (arith, h))
all_bytes l (suc k) [] h = absurd (omega (arith, h))
all_bytes l (suc k) (x ∷ []) h = absurd (omega (arith, h))
all_bytes l (suc k) (x ∷ y ∷ rest) h =
    ap (λ t. is_some (byte_of l x y) && t) (all_bytes l k rest (omega (arith, h))) ∙ both_there (byte_of l x y) (bytes_of l rest)

none_rest : (o : Option ℕ) → both (λ b bs. b ∷ bs) o None ≡ None
none_rest None = refl
none_rest (Some b) = refl

pub odd_length : (l : Letters) (text : List ℕ) (k : ℕ) → length text ≡ 2 * k + 1 → bytes_of l text ≡ None
unfolding bytes_of
odd_length l [] k h = absurd (omega (arith, h))
odd_length l (x ∷ []) k h = refl
odd_length l (x ∷ y ∷ rest) zero h = absurd (omega (arith, h))
odd_length l (x ∷ y ∷ rest) (suc k) h = ap (both (λ b bs. b ∷ bs) (byte_of l x y)) (odd_length l rest k (omega (arith, h))) ∙ none_rest (byte_of l x y)

-- no pair is left
pub last_even : (l : Letters) (text : List ℕ) (i : ℕ) → length text ≡ 2 * i → bytes_of l (drop (2 * i) text) ≡ Some []
unfolding bytes_of
last_even l text i h = at_drop_all (bytes_of l) text (2 * i) (omega (arith, h))

pub last_odd : (l : Letters) (text : List ℕ) (i : ℕ) → length text ≡ 2 * i + 1 → bytes_of l (drop (2 * i) text) ≡ None
unfolding bytes_of
last_odd l text i h =
    let k : 2 * i < length text = omega (arith, h) in
    at_drop_more (bytes_of l) text (2 * i) 0 k ∙ at_drop_all (λ r. bytes_of l (get_or text (2 * i) 0 ∷ r)) text (2 * i + 1) (omega (arith, h))

-- all pairs of a block are read
pub block_read : (l : Letters) (text out : List ℕ) (i : ℕ) → length text ≡ 32 → length out ≡ 16 → i ≡ 16
    → before (take i out) (bytes_of l (drop (2 * i) text)) ≡ bytes_of l text
    → Some out ≡ block_of l text
unfolding block_of
block_read l text out i h k e inv =
    sym (cond-true (eqb (length text) 32) (bytes_of l text) None (eq-eqb (length text) 32 h) ∙ sym inv ∙ ap (before (take i out)) (last_even l text i (omega (arith, h, e)))
    ∙ ap (λ p. Some p) (append-nil (take i out) ∙ take_all i out (omega (arith, k, e))))

pub no_block : (l : Letters) (text : List ℕ) → (length text ≡ 32 → ⊥) → None ≡ block_of l text
unfolding block_of
no_block l text h = sym (cond-false (eqb (length text) 32) (bytes_of l text) None (ne_eqb (length text) 32 h))

pub no_block_byte : (l : Letters) (text : List ℕ) → length text ≡ 32 → None ≡ bytes_of l text → None ≡ block_of l text
unfolding block_of
no_block_byte l text h e = e ∙ sym (cond-true (eqb (length text) 32) (bytes_of l text) None (eq-eqb (length text) 32 h))

-- writing one byte more
digits_append : (xs : List ℕ) (b : ℕ) → digits_of (xs ++ b ∷ []) ≡ digits_of xs ++ lower_digit (b / 16) ∷ lower_digit (b % 16) ∷ []
unfolding digits_of
digits_append [] b = refl
digits_append (x ∷ xs) b = ap (λ r. lower_digit (x / 16) ∷ lower_digit (x % 16) ∷ r) (digits_append xs b)

pub digits_more : (bs out : List ℕ) (i x y : ℕ) → i < length bs → 2 * i + 1 < length out
    → x ≡ lower_digit (get_or bs i 0 / 16) → y ≡ lower_digit (get_or bs i 0 % 16)
    → take (2 * i) out ≡ digits_of (take i bs)
    → take (2 * (i + 1)) (set (set out (2 * i) x) (2 * i + 1) y) ≡ digits_of (take (i + 1) bs)
digits_more bs out i x y h k ex ey inv =
    let once = set out (2 * i) x in
    let n : 2 * (i + 1) ≡ 2 * i + 1 + 1 = omega arith in
    let first : 2 * i < length out = omega arith in
    let second : 2 * i + 1 < length once = rw (length-set out (2 * i) x) k in
    ap (λ m. take m (set once (2 * i + 1) y)) n ∙ take_more_set once (2 * i + 1) y second ∙ ap (λ p. p ++ y ∷ []) (take_more_set out (2 * i) x first)
    ∙ append_assoc (take (2 * i) out) (x ∷ []) (y ∷ []) ∙ cc (ex, ey, inv) ∙ sym (digits_append (take i bs) (get_or bs i 0)) ∙ ap digits_of (sym (take_more bs i 0 h))

pub digits_all : (bs out : List ℕ) (i : ℕ) → length bs ≡ 16 → length out ≡ 32 → i ≡ 16 → take (2 * i) out ≡ digits_of (take i bs) → out ≡ digits_of bs
digits_all bs out i h k e inv = sym (take_all (2 * i) out (omega (arith, k, e))) ∙ inv ∙ ap digits_of (take_all i bs (omega (arith, h, e)))

two_each : (bs : List ℕ) → length (digits_of bs) ≡ 2 * length bs
unfolding digits_of
two_each [] = refl
two_each (b ∷ bs) = let e = two_each bs in omega (arith, e)

upper_either : (b d : ℕ) → digit_of Upper b ≡ Some d → digit_of Either b ≡ Some d
unfolding digit_of
upper_either b d e = grind (arith, nat_tests)

pub reads_back : ReadsBack
unfolding block_of
reads_back = record {
  bytes = read_bytes;
  block = λ bs h k. cond-true (eqb (length (digits_of bs)) 32) (bytes_of Either (digits_of bs)) None (eq-eqb (length (digits_of bs)) 32 (omega (arith, two_each bs, k))) ∙ read_bytes bs h;
  long = two_each;
  either = upper_either;
}
