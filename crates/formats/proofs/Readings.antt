-- Reading the text of a shape, part by part. Assumes nothing.
use Rattle.std.proofs.Common.{◌≡◌, ℕ, zero, suc, ◌+◌, ◌-◌, ◌*◌, ◌/◌, ◌%◌, ◌^◌, ◌<◌, ◌≤◌, cond, ◌&&◌, eqb, ltb, leb, List, [], ◌∷◌, ◌++◌, length, get_or, drop, Some, None, Ok, Err, Option, sym, refl, ap, ◌∙◌, subst, inl, inr, add-zero, arith}
use Rattle.std.proofs.lemmas.Bool.{cases_Bool, cond-true, cond-false, and_parts, and_from, eqb-true, eqb-false, ne_eqb, leb-true, le-leb, ltb-true}
use Rattle.alphabets.specs.declared.alphabet.Alphabet.{Alphabet}
use Rattle.faults.specs.declared.fault.Cause.TheVariants.{ShapeText, Rounds}
use Rattle.alphabets.specs.Alphabets.{symbol_of, letter_of, alphabet_of}
use Rattle.faults.specs.Faults.{own}
use Rattle.formats.specs.Forms.{Form, Exists, form_of, default_rounds, remade, made}
use Rattle.formats.specs.LeastRounds.{least, tabled, column_below, column_above}
use Rattle.formats.specs.ShapeLaws.{Spelled, Spells, ReadsExactly, Examples}
use Rattle.formats.specs.ShapeTexts.{Parts, gathered, parts_of, digit, digit_of, followed, two_digits, three_digits, number_after, named, named_rounds, stem, tail, answered, read_form, text_of}
use Rattle.formats.proofs.Limits.{bounded, none_at_one}
use Rattle.std.specs.Option.{option_and_then}
use Rattle.std.proofs.lemmas.List.{at_drop_more}
use Rattle.alphabets.specs.declared.alphabet.Alphabet.TheVariants.{Decimal}
use Rattle.alphabets.proofs.Symbols.{symbol_by_spans, own_letter, only_letter}
use Rattle.faults.proofs.Variants.{none≢some, err≢ok, same_some}

gathered_by : {letter : Option Alphabet} {two : Option ℕ} {rest : Option (Option ℕ)} (a : Alphabet) (n : ℕ) (r : Option ℕ) → Some a ≡ letter → Some n ≡ two → Some r ≡ rest → ◌≡◌ {A = Option Parts} (Some (a, n, r)) (gathered letter two rest)
gathered_by {letter} {two} {rest} a n r e h k =
    ap (λ o. gathered o (Some n) (Some r)) e ∙ ap (λ o. gathered letter o (Some r)) h ∙ ap (λ o. gathered letter two o) k

-- a digit is a symbol of the decimal alphabet
pub symbol_is_digit : (b : ℕ) → b < 256 → symbol_of Decimal b ≡ digit_of b
symbol_is_digit b h =
    sym (symbol_by_spans Decimal b h) ∙ ap (λ n. cond (leb 48 b && leb b 57) (Some n) None) (add-zero (b - 48))

-- one more digit of a number, or none where another byte stands
pub digit_more : (n d i : ℕ) (bs : List ℕ) → i < length bs → Some d ≡ digit_of (get_or bs i 0) → number_after n (drop i bs) ≡ number_after (10 * n + d) (drop (i + 1) bs)
digit_more n d i bs h e =
    at_drop_more (number_after n) bs i 0 h ∙ ap (option_and_then (λ x. number_after (10 * n + x) (drop (i + 1) bs))) (sym e)

pub no_digit : (n i : ℕ) (bs : List ℕ) → i < length bs → None ≡ digit_of (get_or bs i 0) → None ≡ number_after n (drop i bs)
no_digit n i bs h e =
    ap (option_and_then (λ x. number_after (10 * n + x) (drop (i + 1) bs))) e ∙ sym (at_drop_more (number_after n) bs i 0 h)

-- below the power of ten, for as many digits
pub small_number : (n k : ℕ) → k ≤ 3 → (k ≤ 0 → n < 1) → (k ≤ 1 → n < 10) → (k ≤ 2 → n < 100) → n < 1000 → n < 10 ^ k
small_number n zero h none one two three = none (omega arith)
small_number n (suc zero) h none one two three = one (omega arith)
small_number n (suc (suc zero)) h none one two three = two (omega arith)
small_number n (suc (suc (suc zero))) h none one two three = three
small_number n (suc (suc (suc (suc k)))) h none one two three = let never : ⊥ = omega arith in absurd never

-- a digit
digit_is : (b d : ℕ) → digit_of b ≡ Some d → (b ≡ digit d) × (d < 10)
digit_is b d e =
    let test = leb 48 b && leb b 57 in
    elim (cases_Bool test) [
      | inl yep ↦
          let parts = and_parts (leb 48 b) (leb b 57) yep in
          let low = leb-true 48 b parts.0 in
          let high = leb-true b 57 parts.1 in
          let same : b - 48 ≡ d = same_some (b - 48) d (sym (cond-true test (Some (b - 48)) None yep) ∙ e) in
          (omega arith, omega arith)
      | inr nope ↦ absurd (none≢some d (sym (cond-false test (Some (b - 48)) None nope) ∙ e))
    ]

digit_read : (d : ℕ) → d < 10 → digit_of (digit d) ≡ Some d
digit_read d h =
    let back : digit d - 48 ≡ d = omega arith in
    cond-true (leb 48 (digit d) && leb (digit d) 57) (Some (digit d - 48)) None (and_from _ _ (le-leb 48 (digit d) (omega arith)) (le-leb (digit d) 57 (omega arith))) ∙ ap Some back

followed_is : (o p : Option ℕ) (n : ℕ) → followed o p ≡ Some n → (x : ℕ) × (y : ℕ) × (o ≡ Some x) × (p ≡ Some y) × (n ≡ 10 * x + y)
followed_is None p n e = absurd (none≢some n e)
followed_is (Some x) None n e = absurd (none≢some n e)
followed_is (Some x) (Some y) n e = (x, y, refl, refl, sym (same_some (10 * x + y) n e))

followed_read : {o p : Option ℕ} (x y : ℕ) → o ≡ Some x → p ≡ Some y → followed o p ≡ Some (10 * x + y)
followed_read {o} {p} x y e h = ap (λ q. followed q p) e ∙ ap (λ q. followed (Some x) q) h

two_is : (t o n : ℕ) → two_digits t o ≡ Some n → (t ≡ digit (n / 10)) × (o ≡ digit (n % 10)) × (n < 100)
two_is t o n e =
    let w = followed_is (digit_of t) (digit_of o) n e in
    let x = digit_is t w.0 w.2 in
    let y = digit_is o w.1 w.3 in
    let high : n / 10 ≡ w.0 = omega arith in
    let low : n % 10 ≡ w.1 = omega arith in
    (omega arith, omega arith, omega arith)

two_read : (n : ℕ) → n < 100 → two_digits (digit (n / 10)) (digit (n % 10)) ≡ Some n
two_read n h =
    let whole : 10 * (n / 10) + n % 10 ≡ n = omega arith in
    followed_read (n / 10) (n % 10) (digit_read (n / 10) (omega arith)) (digit_read (n % 10) (omega arith)) ∙ ap Some whole

three_is : (a b c n : ℕ) → three_digits a b c ≡ Some n → (a ≡ digit (n / 100)) × (b ≡ digit (n / 10 % 10)) × (c ≡ digit (n % 10)) × (n < 1000)
three_is a b c n e =
    let w = followed_is (two_digits a b) (digit_of c) n e in
    let front = two_is a b w.0 w.2 in
    let y = digit_is c w.1 w.3 in
    let high : n / 100 ≡ w.0 / 10 = omega arith in
    let middle : n / 10 % 10 ≡ w.0 % 10 = omega arith in
    let low : n % 10 ≡ w.1 = omega arith in
    (omega arith, omega arith, omega arith, omega arith)

three_read : (n : ℕ) → n < 1000 → three_digits (digit (n / 100)) (digit (n / 10 % 10)) (digit (n % 10)) ≡ Some n
three_read n h =
    let whole : 10 * (n / 10) + n % 10 ≡ n = omega arith in
    let front : n / 100 ≡ n / 10 / 10 = omega arith in
    let two : two_digits (digit (n / 100)) (digit (n / 10 % 10)) ≡ Some (n / 10) = ap (λ m. two_digits (digit m) (digit (n / 10 % 10))) front ∙ two_read (n / 10) (omega arith) in
    followed_read (n / 10) (n % 10) two (digit_read (n % 10) (omega arith)) ∙ ap Some whole

-- what stands after the length
abbrev After : List ℕ → Option ℕ → Type 0
After rest None = rest ≡ []
After rest (Some r) = (rest ≡ tail r) × (r < 1000)

named_is : (o p : Option ℕ) → named o ≡ Some p → (x : ℕ) × (o ≡ Some x) × (p ≡ Some x)
named_is None p e = absurd (none≢some p e)
named_is (Some x) p e = (x, refl, sym (same_some (Some x) p e))

nothing_after : (o : Option ℕ) → ◌≡◌ {A = Option (Option ℕ)} (Some None) (Some o) → After [] o
nothing_after None e = refl
nothing_after (Some r) e = absurd (none≢some r (same_some None (Some r) e))

four_after : (s a b c : ℕ) (o : Option ℕ) → named_rounds (s ∷ a ∷ b ∷ c ∷ []) ≡ Some o → After (s ∷ a ∷ b ∷ c ∷ []) o
four_after s a b c o e =
    elim (cases_Bool (eqb s 47)) [
      | inl yep ↦
          let slash = eqb-true s 47 yep in
          let w = named_is (three_digits a b c) o (sym (cond-true (eqb s 47) (named (three_digits a b c)) None yep) ∙ e) in
          let t = three_is a b c w.0 w.1 in
          let one = t.0 in
          let two = t.1 in
          let three = t.2 in
          let all : s ∷ a ∷ b ∷ c ∷ [] ≡ tail w.0 = cc in
          subst (λ (p : Option ℕ). After (s ∷ a ∷ b ∷ c ∷ []) p) (sym w.2) (all, t.3)
      | inr nope ↦ absurd (none≢some o (sym (cond-false (eqb s 47) (named (three_digits a b c)) None nope) ∙ e))
    ]

after_is : (rest : List ℕ) (o : Option ℕ) → named_rounds rest ≡ Some o → After rest o
after_is [] o e = nothing_after o e
after_is (s ∷ []) o e = absurd (none≢some o e)
after_is (s ∷ a ∷ []) o e = absurd (none≢some o e)
after_is (s ∷ a ∷ b ∷ []) o e = absurd (none≢some o e)
after_is (s ∷ a ∷ b ∷ c ∷ []) o e = four_after s a b c o e
after_is (s ∷ a ∷ b ∷ c ∷ d ∷ more) o e = absurd (none≢some o e)

gathered_is : (letter : Option Alphabet) (two : Option ℕ) (rest : Option (Option ℕ)) (p : Parts) → gathered letter two rest ≡ Some p → (letter ≡ Some p.0) × (two ≡ Some p.1) × (rest ≡ Some p.2)
gathered_is None two rest p e = absurd (none≢some p e)
gathered_is (Some a) None rest p e = absurd (none≢some p e)
gathered_is (Some a) (Some n) None p e = absurd (none≢some p e)
gathered_is (Some a) (Some n) (Some r) p e =
    let same : ◌≡◌ {A = Parts} (a, n, r) p = same_some (a, n, r) p e in
    (ap (λ q. Some q.0) same, ap (λ q. Some q.1) same, ap (λ q. Some q.2) same)

spelled_by : (x y z : ℕ) (rest : List ℕ) (a : Alphabet) (n : ℕ) (o : Option ℕ) → x ≡ letter_of a → y ≡ digit (n / 10) → z ≡ digit (n % 10) → n < 100 → After rest o → Spelled (x ∷ y ∷ z ∷ rest) a n o
spelled_by x y z rest a n None i j k h e = let all : x ∷ y ∷ z ∷ rest ≡ stem a n = cc in (all, h)
spelled_by x y z rest a n (Some r) i j k h e =
    let end = e.0 in
    let all : x ∷ y ∷ z ∷ rest ≡ stem a n ++ tail r = cc in (all, h, e.1)

-- a text with parts is made of them
parts_spelled : (text : List ℕ) (p : Parts) → parts_of text ≡ Some p → Spelled text p.0 p.1 p.2
parts_spelled [] p e = absurd (none≢some p e)
parts_spelled (x ∷ []) p e = absurd (none≢some p e)
parts_spelled (x ∷ y ∷ []) p e = absurd (none≢some p e)
parts_spelled (x ∷ y ∷ z ∷ rest) p e =
    let g = gathered_is (alphabet_of x) (two_digits y z) (named_rounds rest) p e in
    let two = two_is y z p.1 g.1 in
    spelled_by x y z rest p.0 p.1 p.2 (only_letter p.0 x g.0) two.0 two.1 two.2 (after_is rest p.2 g.2)

-- and a text made of them has them
spelled_parts : (text : List ℕ) (a : Alphabet) (n : ℕ) (o : Option ℕ) → Spelled text a n o → parts_of text ≡ Some (a, n, o)
spelled_parts text a n None s = ap parts_of s.0 ∙ sym (gathered_by a n None (sym (own_letter a)) (sym (two_read n s.1)) refl)
spelled_parts text a n (Some r) s =
    ap parts_of s.0 ∙ sym (gathered_by a n (Some r) (sym (own_letter a)) (sym (two_read n s.1)) (sym (ap named (three_read r s.2))))

module _ (text : List ℕ) where
  made_spelled : (a : Alphabet) (n : ℕ) (o : Option ℕ) (f : Form) → Spelled text a n o → made a n o ≡ Ok f → Spells text f × Exists f
  made_spelled a n None f s e =
      let w = (bounded (form_of a n (default_rounds a n))).without f e in
      subst (λ (g : Form). Spells text g × Exists g) w.0 (inl (s, refl), w.1)
  made_spelled a n (Some r) f s e =
      elim (cases_Bool (eqb n 1)) [
        | inl yep ↦ absurd (err≢ok (own Rounds) f (sym (cond-true (eqb n 1) (Err (own Rounds)) (remade (form_of a n r)) yep) ∙ e))
        | inr nope ↦
            let w = (bounded (form_of a n r)).without f (sym (cond-false (eqb n 1) (Err (own Rounds)) (remade (form_of a n r)) nope) ∙ e) in
            let apart = eqb-false n 1 nope in
            let some = w.1.some in
            let two : 2 ≤ n = omega arith in
            subst (λ (g : Form). Spells text g × Exists g) w.0 (inr (s, two), w.1)
      ]

  accepted_from : (o : Option Parts) (f : Form) → parts_of text ≡ o → answered o ≡ Ok f → Spells text f × Exists f
  accepted_from None f e h = absurd (err≢ok (own ShapeText) f h)
  accepted_from (Some p) f e h = made_spelled p.0 p.1 p.2 f (parts_spelled text p e) h

  unread_from : (o : Option Parts) → parts_of text ≡ o → ((a : Alphabet) (n : ℕ) (r : Option ℕ) → Spelled text a n r → ⊥) → answered o ≡ Err (own ShapeText)
  unread_from None e no-parts = refl
  unread_from (Some p) e no-parts = absurd (no-parts p.0 p.1 p.2 (parts_spelled text p e))

  parted : (a : Alphabet) (n : ℕ) (r : Option ℕ) → Spelled text a n r → read_form text ≡ made a n r
  unfolding read_form
  parted a n r s = ap answered (spelled_parts text a n r s)

  short_read : (f : Form) → Exists f → Spelled text f.alphabet f.len None → f.rounds ≡ default_rounds f.alphabet f.len → read_form text ≡ Ok f
  short_read f x s e =
      parted f.alphabet f.len None s ∙ ap (λ r. remade (form_of f.alphabet f.len r)) (sym e) ∙ (bounded f).within x

  long_read : (f : Form) → Exists f → Spelled text f.alphabet f.len (Some f.rounds) → (f.len ≡ 1 → ⊥) → read_form text ≡ Ok f
  long_read f x s apart =
      parted f.alphabet f.len (Some f.rounds) s ∙ cond-false (eqb f.len 1) (Err (own Rounds)) (remade f) (ne_eqb f.len 1 apart) ∙ (bounded f).within x

  spelled_read : (f : Form) → Spells text f → Exists f → read_form text ≡ Ok f
  spelled_read f s x =
      elim s [
        | inl short ↦ short_read f x short.0 short.1
        | inr long ↦ long_read f x long.0 (λ one. let two = long.1 in omega arith)
      ]

  written_read : (f : Form) → Exists f → text_of f ≡ Some text → read_form text ≡ Ok f
  written_read f x e =
      let a = f.alphabet in
      let n = f.len in
      let r = f.rounds in
      let whole = cond (ltb r 1000) (Some (stem a n ++ tail r)) None in
      let short = x.short in
      let small : n < 100 = omega arith in
      elim (cases_Bool (eqb n 1)) [
        | inl yep ↦
            let one = eqb-true n 1 yep in
            let is = same_some (stem a n) text (sym (cond-true (eqb n 1) (Some (stem a n)) whole yep) ∙ e) in
            short_read f x (sym is, small) (x.alone one ∙ sym (ap (default_rounds a) one ∙ none_at_one a))
        | inr nope ↦
            let e2 : whole ≡ Some text = sym (cond-false (eqb n 1) (Some (stem a n)) whole nope) ∙ e in
            elim (cases_Bool (ltb r 1000)) [
              | inl less ↦
                  let is = same_some (stem a n ++ tail r) text (sym (cond-true (ltb r 1000) (Some (stem a n ++ tail r)) None less) ∙ e2) in
                  long_read f x (sym is, small, ltb-true r 1000 less) (eqb-false n 1 nope)
              | inr more ↦ absurd (none≢some text (sym (cond-false (ltb r 1000) (Some (stem a n ++ tail r)) None more) ∙ e2))
            ]
      ]

  pub reads_exactly : ReadsExactly text
  unfolding read_form
  reads_exactly =
      record {
        accepted = λ f e. accepted_from (parts_of text) f refl e;
        spelled = spelled_read;
        parted = parted;
        unread = λ no-parts. unread_from (parts_of text) refl no-parts;
        written = written_read;
      }

pub examples : Examples
unfolding read_form remade least tabled column_below column_above
examples =
    record {
      default_ten = refl;
      default_signs = refl;
      least_named = refl;
      one_fewer = refl;
      most_layers_read = refl;
      one_more = refl;
      one_digit = refl;
      named_at_one = refl;
      no_digits = refl;
      too_long = refl;
      unknown_letter = refl;
      two_digits_of_rounds = refl;
    }
