-- Why a codebook is refused, and what it is where it is made. Assumes nothing.
use Rattle.std.proofs.Common.{◌≡◌, ℕ, zero, suc, ◌-◌, ◌*◌, ◌^◌, ◌<◌, ◌≤◌, List, Some, None, Ok, Err, Option, Result, sym, refl, ap, ◌∙◌, subst, inl, inr, pow-suc, arith}
use native.Mathlib.Nat.{pow-le-pow_right, pow-zero}
use Rattle.std.specs.List.{range_with_len, AllByRecursion}
use Rattle.std.proofs.lemmas.Result.{IfOk-at_ok}
use Rattle.std.proofs.lemmas.Bool.{cases_lt}
use Rattle.faults.specs.declared.fault.Cause.TheVariants.{CoinsShort}
use Rattle.faults.specs.declared.fault.Fault.{Fault}
use Rattle.alphabets.specs.Alphabets.{radix_of}
use Rattle.faults.specs.Faults.{own, deeper}
use Rattle.formats.specs.Forms.{Form, code_count}
use Rattle.faults.proofs.Variants.{err≢ok}
use Rattle.coins.specs.Boxes.{Permutation, follow, swapped, swaps, making}
use Rattle.coins.specs.Coins.{Outcome, after}
use Rattle.coins.specs.Draws.{tries, first_from, drawn_at, drawing}
use Rattle.coins.proofs.Boxes.{shuffles}
use Rattle.coins.proofs.Draws.{draw_within}
use Rattle.coins.proofs.Swaps.{make_within}
use Rattle.codebook.specs.BookLaws.{Sound, short, Made}
use Rattle.codebook.specs.Books.{Book, book_of, in_book, making_book}
use Rattle.codebook.specs.Numbers.{most_codes}
use Rattle.codebook.specs.Counts.{some_symbols}
use Rattle.codebook.proofs.Makings.{making_many, making_few}

-- a draw is refused for want of coins
draw_cause : (k : ℕ) (coins : List ℕ) (o : Option ℕ) (fault : Fault) → (drawn_at k coins o).answer ≡ Err fault → fault ≡ deeper (own CoinsShort)
draw_cause k coins (Some n) fault e = let z : ◌≡◌ {A = ℕ} 0 1 = cc in absurd (omega arith)
draw_cause k coins None fault e = cc

-- what follows a call is refused by that call, or by itself
follow_cause : {A B : Type 0} (r : Result A Fault) (n : ℕ) (next : A → Outcome B) (fault : Fault) (P : Fault → Type 0) →
    ((g : Fault) → r ≡ Err g → P (deeper g)) → ((x : A) → (next x).answer ≡ Err fault → P fault) → (follow r n next).answer ≡ Err fault → P fault
follow_cause (Ok x) n next fault P first then e = then x e
follow_cause (Err g) n next fault P first then e = let same : deeper g ≡ fault = cc in subst P same (first g refl)

-- so a box is, one deeper
swaps_cause : (i : ℕ) (table coins : List ℕ) (fault : Fault) → i < 4096 → (swaps i table coins).answer ≡ Err fault → fault ≡ deeper (deeper (own CoinsShort))
unfolding swaps
swaps_cause zero table coins fault h e = let z : ◌≡◌ {A = ℕ} 0 1 = cc in absurd (omega arith)
swaps_cause (suc i) table coins fault h e =
    let k = suc (suc i) in
    let within = draw_within k coins (omega arith) (omega arith) in
    follow_cause (drawing k coins).answer (drawing k coins).gone (λ j. swaps i (swapped table (suc i) j) (after (drawing k coins) coins)) fault (λ g. g ≡ deeper (deeper (own CoinsShort)))
    (λ g r. ap deeper (draw_cause k coins (first_from k coins 0 (tries k coins)) g (ap (λ o. o.answer) (sym within) ∙ r)))
    (λ j r. swaps_cause i (swapped table (suc i) j) (after (drawing k coins) coins) fault (omega arith) r) e

-- the parts of a codebook's answer
in_book_err : (f : Form) (r : Result (List ℕ) Fault) (fault : Fault) → in_book f r ≡ Err fault → (g : Fault) × (r ≡ Err g) × (deeper g ≡ fault)
in_book_err f (Ok table) fault e = let z : ◌≡◌ {A = ℕ} 0 1 = cc in absurd (omega arith)
in_book_err f (Err g) fault e = (g, refl, (cc))

in_book_ok : (f : Form) (r : Result (List ℕ) Fault) (b : Book) → in_book f r ≡ Ok b → (table : List ℕ) × (r ≡ Ok table) × (book_of f table ≡ b)
in_book_ok f (Ok table) b e = (table, refl, (cc))
in_book_ok f (Err g) b e = let z : ◌≡◌ {A = ℕ} 0 1 = cc in absurd (omega arith)

-- there are at least two codes
pub some_codes : (f : Form) → 1 ≤ f.len → 2 ≤ code_count f
unfolding code_count
some_codes f h =
    let a = radix_of f.alphabet in
    let some : 10 ≤ a = some_symbols f.alphabet in
    let positive : 0 < a = omega arith in
    let up : a ^ 1 ≤ a ^ f.len = pow-le-pow_right positive h in
    let one : a ^ 1 ≡ 1 * a = pow-suc a 0 ∙ ap (λ m. m * a) (pow-zero a) in
    omega arith

few_cause : (f : Form) (coins : List ℕ) → code_count f ≤ most_codes → 1 ≤ f.len → (fault : Fault) → (making_book f coins).answer ≡ Err fault → fault ≡ short
few_cause f coins few long fault e =
    let n = code_count f in
    let some = some_codes f long in
    let p = in_book_err f (making n coins).answer fault (ap (λ o. o.answer) (sym (making_few f coins few)) ∙ e) in
    let r : (swaps (n - 1) (range_with_len 0 n) coins).answer ≡ Err p.0 = ap (λ o. o.answer) (sym (make_within n coins some few)) ∙ p.1 in
    sym p.2 ∙ ap deeper (swaps_cause (n - 1) (range_with_len 0 n) coins p.0 (omega arith) r)

many_or_few : (f : Form) (coins : List ℕ) (b : Book) → (making_book f coins).answer ≡ Ok b → code_count f ≤ most_codes
many_or_few f coins b e =
    elim (cases_lt most_codes (code_count f)) [
      | inl h ↦ absurd (err≢ok _ b (ap (λ o. o.answer) (sym (making_many f coins h)) ∙ e))
      | inr h ↦ h
    ]

made_sound : (f : Form) (coins : List ℕ) → AllByRecursion (λ b. b < 2) coins → (b : Book) → (making_book f coins).answer ≡ Ok b →
    (b.alphabet ≡ f.alphabet) × (b.len ≡ f.len) × Sound b
unfolding code_count
made_sound f coins bits b e =
    let n = code_count f in
    let p = in_book_ok f (making n coins).answer b (ap (λ o. o.answer) (sym (making_few f coins (many_or_few f coins b e))) ∙ e) in
    subst (λ (b : Book). (b.alphabet ≡ f.alphabet) × (b.len ≡ f.len) × Sound b) p.2
    (refl, refl, IfOk-at_ok (Permutation n) p.1 (shuffles n coins bits))

pub made : (f : Form) (coins : List ℕ) → Made f coins
made f coins = record { many = making_many f coins; few = few_cause f coins; sound = made_sound f coins }
