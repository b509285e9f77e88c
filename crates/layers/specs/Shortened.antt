-- The form of the rest: its parts, and that it exists. Assumes nothing.
use Rattle.std.specs.Prelude.{◌≡◌, ℕ, ◌-◌, ◌*◌, ◌<◌, ◌≤◌, max, List, drop, Ok, Err, Option, Result, MatchOption, ◌==◌, ◌≢◌, refl}
use Rattle.std.proofs.Common.{sym, subst, ◌∙◌, inl, inr, zero-mul, mul-le-mul_left, mul-le-mul_right, arith}
use Rattle.std.proofs.Math.Path.{ap}
use Rattle.std.proofs.Math.Nat.{le-max_left, le-max_right, max-eq_left, max-eq_right}
use Rattle.std.proofs.Math.ListN.{length-drop}
use Rattle.std.specs.Result.{result_ok}
use Rattle.std.proofs.ByRecursion.{All-drop}
use Rattle.std.proofs.lemmas.Bool.{cases_lt, cases_eq, cond-true, cond-false, eq-eqb, ne_eqb}
use Rattle.alphabets.specs.declared.alphabet.Alphabet.{Alphabet}
use Rattle.faults.specs.declared.fault.Fault.{Fault}
use Rattle.formats.specs.declared.shape.Shape.{Shape}
use Rattle.alphabets.specs.Alphabets.{radix_of}
use Rattle.formats.specs.Codes.{Code}
use Rattle.formats.specs.Forms.{Form, Exists, form_of, least_of, default_rounds, remade}
use Rattle.formats.specs.Shapes.{form, formed}
use Rattle.formats.proofs.Limits.{bounded, defaults_exist, form_exists}
use Rattle.faults.proofs.Variants.{err≢ok, same_ok}
use Rattle.layers.specs.Keeps.{shorter, shorter_rounds}
use Rattle.layers.specs.LayerLaws.{Shortens}

-- the least number of a length makes few enough layers, and is none at length 1, since the default is no less
least_few : (a : Alphabet) (n : ℕ) → 1 ≤ n → n ≤ 32 → least_of a n * n ≤ 2048
least_few a n some short =
    let default = defaults_exist a n some short in
    let up : least_of a n * n ≤ default_rounds a n * n = mul-le-mul_right n default.enough in
    let few = default.few in
    omega arith

none_at_one : (a : Alphabet) (n : ℕ) → n ≡ 1 → least_of a n ≡ 0
none_at_one a n e =
    let default = defaults_exist a n (omega arith) (omega arith) in
    let none = default.alone e in
    let enough = default.enough in
    omega arith

module _ (p : ℕ) (f : Form) where
  abbrev n : ℕ
  n = f.len - p

  abbrev least : ℕ
  least = least_of f.alphabet n

  rounds_one : n ≡ 1 → shorter_rounds f n ≡ 0
  rounds_one e = cond-true (n == 1) 0 (max f.rounds least) (eq-eqb n 1 e)

  rounds_more : (n ≢ 1) → shorter_rounds f n ≡ max f.rounds least
  rounds_more e = cond-false (n == 1) 0 (max f.rounds least) (ne_eqb n 1 e)

  fewer : Exists f → f.rounds * n ≤ 2048
  fewer is =
      let less : n ≤ f.len = omega arith in
      let down : f.rounds * n ≤ f.rounds * f.len = mul-le-mul_left f.rounds less in
      let few = is.few in
      omega arith

  few_rounds : Exists f → 1 ≤ n → shorter_rounds f n * n ≤ 2048
  few_rounds is some =
      elim (cases_eq n 1) [
        | inl one ↦ let e : shorter_rounds f n * n ≡ 0 = ap (λ r. r * n) (rounds_one one) ∙ zero-mul n in omega arith
        | inr more ↦
            elim (cases_lt f.rounds least) [
              | inl lt ↦
                  let e : shorter_rounds f n * n ≡ least * n = ap (λ r. r * n) (rounds_more more ∙ max-eq_right (omega arith)) in
                  omega (arith, least_few f.alphabet n some (omega (arith, is.short)))
              | inr ge ↦
                  let e : shorter_rounds f n * n ≡ f.rounds * n = ap (λ r. r * n) (rounds_more more ∙ max-eq_left ge) in
                  omega (arith, fewer is)
            ]
      ]

  enough_rounds : least ≤ shorter_rounds f n
  enough_rounds =
      elim (cases_eq n 1) [
        | inl one ↦ omega (arith, none_at_one f.alphabet n one)
        | inr more ↦ omega (arith, rounds_more more, le-max_right f.rounds least)
      ]

  pub shorter_exists : Exists f → p < f.len → Exists (shorter p f)
  unfolding shorter
  shorter_exists is longer = record {
    some = omega arith;
    short = omega (arith, is.short);
    alone = rounds_one;
    enough = enough_rounds;
    few = few_rounds is (omega arith);
  }

  pub shortens : Shortens p f
  unfolding shorter
  shortens = record {
    alphabet = refl;
    len = refl;
    given = λ two. omega (arith, rounds_more (λ one. omega arith), le-max_left f.rounds least);
    enough = λ two. enough_rounds;
    stand = λ two ge. rounds_more (λ one. omega arith) ∙ max-eq_left ge;
    raised = λ two le. rounds_more (λ one. omega arith) ∙ max-eq_right le;
    single = rounds_one;
    exists = shorter_exists;
  }

  -- the rest of a code is a code of it
  pub rest_code : (c : List ℕ) → Code f c → Code (shorter p f) (drop p c)
  unfolding shorter
  rest_code c code = record {
    long = length-drop p c ∙ ap (λ n. n - p) code.long;
    symbols = All-drop (λ x. x < radix_of f.alphabet) p c code.symbols;
  }

-- a form that exists is made
made_form : (r : Result Shape Fault) (g : Form) (P : Type 0) (Q : Shape → Type 0) → formed r ≡ Ok g → ((s : Shape) → form s ≡ g → Q s) → MatchOption (result_ok r) P Q
made_form (Ok s) g P Q e q = q s (same_ok (form s) g e)
made_form (Err fault) g P Q e q = absurd (err≢ok fault g e)

-- so the shape of the rest is never refused
pub rest_made : (p : ℕ) (s : Shape) {a : Alphabet} {n rounds : ℕ} (r : Result Shape Fault) (o : Option Shape) → p < s.len →
    a ≡ s.alphabet → n ≡ s.len - p → rounds ≡ shorter_rounds (form s) n → formed r ≡ remade (form_of a n rounds) → o ≡ result_ok r →
    MatchOption o (s.len ≤ p) (λ t. (p < s.len) × (form t ≡ shorter p (form s)))
unfolding shorter
rest_made p s {a} {n} {rounds} r o longer ea en er is eo =
    let g = shorter p (form s) in
    let same : form_of a n rounds ≡ g =
    ap (λ (a : Alphabet). form_of a n rounds) ea ∙ ap (form_of s.alphabet n) er ∙ ap (λ n. form_of s.alphabet n (shorter_rounds (form s) n)) en in
    let made : formed r ≡ Ok g = is ∙ ap remade same ∙ (bounded g).within (shorter_exists p (form s) (form_exists s) longer) in
    subst (λ (o : Option Shape). MatchOption o (s.len ≤ p) (λ t. (p < s.len) × (form t ≡ shorter p (form s)))) (sym eo)
    (made_form r g (s.len ≤ p) (λ t. (p < s.len) × (form t ≡ g)) made (λ t e. (longer, e)))
