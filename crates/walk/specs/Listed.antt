-- Lists with no element twice, and the list of all codes. Assumes nothing.
use Rattle.std.specs.Prelude.{◌≡◌, ℕ, zero, suc, ◌+◌, ◌*◌, ◌^◌, ◌<◌, ◌≤◌, Bool, true, ◌⊎◌, List, [], ◌∷◌, ◌++◌, map, length, filter, ◌≢◌, refl}
use Rattle.std.proofs.Common.{sym, ap, subst, ◌∙◌, inl, inr, suc-mul, zero-mul, pow-suc, mul_comm, arith, length-append}
use Rattle.std.proofs.Math.Nat.{pow-zero}
use Rattle.std.proofs.lemmas.List.{length-map}
use Rattle.std.specs.List.{AllByRecursion}
use Rattle.std.proofs.lemmas.Bool.{both_ways, cases_eq, cond_both}
use Rattle.alphabets.specs.Alphabets.{radix_of}
use Rattle.formats.specs.Forms.{Form}
use Rattle.walk.specs.CodeLists.{In, Once, fronted, strings, codes_of, AllCodes}

module _ {X : Type 0} where
  -- a list less an element of it
  abbrev without : (x : X) (ys : List X) → In x ys → List X
  without x [] m = absurd m
  without x (y ∷ ys) (inl e) = ys
  without x (y ∷ ys) (inr m) = y ∷ without x ys m

  length_without : (x : X) (ys : List X) (m : In x ys) → length ys ≡ suc (length (without x ys m))
  length_without x [] m = absurd m
  length_without x (y ∷ ys) (inl e) = refl
  length_without x (y ∷ ys) (inr m) = ap suc (length_without x ys m)

  in_without : (x z : X) (ys : List X) (m : In x ys) → In z ys → (z ≢ x) → In z (without x ys m)
  in_without x z [] m i apart = absurd m
  in_without x z (y ∷ ys) (inl e) (inl d) apart = absurd (apart (d ∙ sym e))
  in_without x z (y ∷ ys) (inl e) (inr i) apart = i
  in_without x z (y ∷ ys) (inr m) (inl d) apart = inl d
  in_without x z (y ∷ ys) (inr m) (inr i) apart = inr (in_without x z ys m i apart)

  -- what lies in a list, each once, is no more than the list has
  pub pigeonhole : (xs ys : List X) → Once xs → ((z : X) → In z xs → In z ys) → length xs ≤ length ys
  pigeonhole [] ys once sub = omega arith
  pigeonhole (x ∷ xs) ys once sub =
      let m = sub x (inl refl) in
      let less = pigeonhole xs (without x ys m) once.1
      (λ z i. in_without x z ys m (sub z (inr i)) (λ e. once.0 (subst (λ (w : X). In w xs) e i))) in
      let more = length_without x ys m in
      omega arith

  pub in_kept : (p : X → Bool) (z : X) (xs : List X) → In z xs → p z ≡ true → In z (filter p xs)
  in_kept p z [] m yep = absurd m
  in_kept p z (x ∷ xs) (inl e) yep =
      cond_both (p x) (x ∷ filter p xs) (filter p xs) (λ l. In z l) (λ t. inl e) (λ n. absurd (both_ways (p x) n (ap p (sym e) ∙ yep)))
  in_kept p z (x ∷ xs) (inr i) yep =
      cond_both (p x) (x ∷ filter p xs) (filter p xs) (λ l. In z l) (λ t. inr (in_kept p z xs i yep)) (λ n. in_kept p z xs i yep)

  in_left : (z : X) (xs ys : List X) → In z xs → In z (xs ++ ys)
  in_left z [] ys m = absurd m
  in_left z (x ∷ xs) ys (inl e) = inl e
  in_left z (x ∷ xs) ys (inr m) = inr (in_left z xs ys m)

  in_right : (z : X) (xs ys : List X) → In z ys → In z (xs ++ ys)
  in_right z [] ys m = m
  in_right z (x ∷ xs) ys m = inr (in_right z xs ys m)

  in_either : (z : X) (xs ys : List X) → In z (xs ++ ys) → In z xs ⊎ In z ys
  in_either z [] ys m = inr m
  in_either z (x ∷ xs) ys (inl e) = inl (inl e)
  in_either z (x ∷ xs) ys (inr m) = elim (in_either z xs ys m) [ inl i ↦ inl (inr i) | inr i ↦ inr i ]

  once_both : (xs ys : List X) → Once xs → Once ys → ((z : X) → In z xs → In z ys → ⊥) → Once (xs ++ ys)
  once_both [] ys a b apart = b
  once_both (x ∷ xs) ys a b apart = (
    λ m. elim (in_either x xs ys m) [ inl i ↦ a.0 i | inr i ↦ apart x (inl refl) i ],
    once_both xs ys a.1 b (λ z i j. apart z (inr i) j),
  )

-- a symbol in front of each string
abbrev front : ℕ → List (List ℕ) → List (List ℕ)
front s rest = map (λ c. s ∷ c) rest

in_front : (s : ℕ) (c : List ℕ) (rest : List (List ℕ)) → In c rest → In (s ∷ c) (front s rest)
in_front s c [] m = absurd m
in_front s c (d ∷ rest) (inl e) = inl (ap (λ x. s ∷ x) e)
in_front s c (d ∷ rest) (inr m) = inr (in_front s c rest m)

front_in : (s : ℕ) (z : List ℕ) (rest : List (List ℕ)) → In z (front s rest) → (c : List ℕ) × (z ≡ s ∷ c) × In c rest
front_in s z [] m = absurd m
front_in s z (d ∷ rest) (inl e) = (d, e, inl refl)
front_in s z (d ∷ rest) (inr m) = let w = front_in s z rest m in (w.0, w.1, inr w.2)

same_rest : (s t : ℕ) (c d : List ℕ) → s ∷ c ≡ t ∷ d → c ≡ d
same_rest s t c d e = cc

same_first : (s t : ℕ) (c d : List ℕ) → s ∷ c ≡ t ∷ d → s ≡ t
same_first s t c d e = cc

once_front : (s : ℕ) (rest : List (List ℕ)) → Once rest → Once (front s rest)
once_front s [] a = tt
once_front s (d ∷ rest) a = (
  λ m. let w = front_in s (s ∷ d) rest m in a.0 (subst (λ (x : List ℕ). In x rest) (sym (same_rest s s d w.0 w.1)) w.2),
  once_front s rest a.1,
)

in_fronted : (a s : ℕ) (c : List ℕ) (rest : List (List ℕ)) → s < a → In c rest → In (s ∷ c) (fronted a rest)
unfolding fronted
in_fronted zero s c rest h m = absurd (omega arith)
in_fronted (suc a) s c rest h m =
    elim (cases_eq s a) [
      | inl e ↦ in_right (s ∷ c) (fronted a rest) (front a rest) (subst (λ (t : ℕ). In (s ∷ c) (front t rest)) e (in_front s c rest m))
      | inr n ↦ in_left (s ∷ c) (fronted a rest) (front a rest) (in_fronted a s c rest (omega arith) m)
    ]

fronted_in : (a : ℕ) (z : List ℕ) (rest : List (List ℕ)) → In z (fronted a rest) → (s : ℕ) × (c : List ℕ) × (z ≡ s ∷ c) × (s < a) × In c rest
unfolding fronted
fronted_in zero z rest m = absurd m
fronted_in (suc a) z rest m =
    elim (in_either z (fronted a rest) (front a rest) m) [
      | inl i ↦ let w = fronted_in a z rest i in (w.0, w.1, w.2, omega arith, w.4)
      | inr i ↦ let w = front_in a z rest i in (a, w.0, w.1, omega arith, w.2)
    ]

once_fronted : (a : ℕ) (rest : List (List ℕ)) → Once rest → Once (fronted a rest)
unfolding fronted
once_fronted zero rest once = tt
once_fronted (suc a) rest once =
    once_both (fronted a rest) (front a rest) (once_fronted a rest once) (once_front a rest once)
    (λ z i j.
    let v = fronted_in a z rest i in
    let w = front_in a z rest j in
    let same = same_first v.0 a v.1 w.0 (sym v.2 ∙ w.1) in
    let below = v.3 in
    omega arith)

length_fronted : (a : ℕ) (rest : List (List ℕ)) → length (fronted a rest) ≡ a * length rest
unfolding fronted
length_fronted zero rest = sym (zero-mul (length rest))
length_fronted (suc a) rest =
    length-append (fronted a rest) (front a rest) ∙ ap (λ n. n + length (front a rest)) (length_fronted a rest) ∙
    ap (λ n. a * length rest + n) (length-map rest (λ c. a ∷ c)) ∙ sym (suc-mul a (length rest))

in_strings : (a n : ℕ) (c : List ℕ) → length c ≡ n → AllByRecursion (λ x. x < a) c → In c (strings a n)
unfolding strings
in_strings a zero [] e all = inl refl
in_strings a zero (x ∷ c) e all = absurd (omega arith)
in_strings a (suc n) [] e all = absurd (omega arith)
in_strings a (suc n) (x ∷ c) e all = in_fronted a x c (strings a n) all.0 (in_strings a n c (omega arith) all.1)

strings_in : (a n : ℕ) (c : List ℕ) → In c (strings a n) → (length c ≡ n) × AllByRecursion (λ x. x < a) c
unfolding strings
strings_in a zero c (inl e) = (ap length e, subst (λ (z : List ℕ). AllByRecursion (λ x. x < a) z) (sym e) tt)
strings_in a zero c (inr m) = absurd m
strings_in a (suc n) c m =
    let w = fronted_in a c (strings a n) m in
    let rest = strings_in a n w.1 w.4 in
    (ap length w.2 ∙ ap suc rest.0, subst (λ (z : List ℕ). AllByRecursion (λ x. x < a) z) (sym w.2) (w.3, rest.1))

once_strings : (a n : ℕ) → Once (strings a n)
unfolding strings
once_strings a zero = (λ m. m, tt)
once_strings a (suc n) = once_fronted a (strings a n) (once_strings a n)

length_strings : (a n : ℕ) → length (strings a n) ≡ a ^ n
unfolding strings
length_strings a zero = sym (pow-zero a)
length_strings a (suc n) =
    length_fronted a (strings a n) ∙ ap (λ k. a * k) (length_strings a n) ∙ mul_comm a (a ^ n) ∙ sym (pow-suc a n)

pub all_codes : (f : Form) → AllCodes f
unfolding codes_of
all_codes f =
    let a = radix_of f.alphabet in
    let n = f.len in
    record {
      every = λ c h. in_strings a n c h.long h.symbols;
      only = λ c m. let w = strings_in a n c m in record { long = w.0; symbols = w.1 };
      once = once_strings a n;
      count = length_strings a n;
    }
