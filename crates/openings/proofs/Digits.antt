-- Digits of coins, read where they stand in a buffer. Assumes nothing.
use Rattle.std.proofs.Common.{◌≡◌, ℕ, ◌+◌, ◌≤◌, ◌↔◌, leb, List, [], ◌++◌, length, take, drop, Some, None, Ok, Err, Option, Result, IsOk, OnOk, sym, ap, ◌∙◌, ⊎_elim, arith, append-nil, drop_of_length-le}
use Rattle.std.specs.Option.{option_map, ok_or}
use Rattle.std.specs.List.{refill}
use Rattle.std.proofs.lemmas.List.{take_at, take_all}
use Rattle.std.proofs.lemmas.Bool.{cond-true, cond-false, le-leb, lt-leb, cases_lt}
use Rattle.faults.specs.declared.fault.Cause.TheVariants.{Line}
use Rattle.faults.specs.declared.fault.Fault.{Fault}
use Rattle.faults.specs.Faults.{own}
use Rattle.text.specs.declared.hex.Letters.TheVariants.{Upper}
use Rattle.text.specs.Hex.{bytes_of, in_place}
use Rattle.openings.specs.OpenedBooks.{coins_of}

-- digits that were put into an empty buffer
pub put : {E : Type 0} (r : Result Unit E) (old new text digits : List ℕ) → IsOk r → old ≡ []
    → (IsOk r ↔ (length old + length digits ≤ 4096)) → OnOk r (new ≡ old ++ digits) → text ≡ new → (length digits ≤ 4096) × (text ≡ digits)
put (Ok x) old new text digits ok empty fits holds shown =
    (let few : length old + length digits ≤ 4096 = fits.0 ok in omega arith, shown ∙ holds ∙ ap (λ l. l ++ digits) empty)
put (Err x) old new text digits ok empty fits holds shown = absurd (cc)

few : (digits : List ℕ) (r : Result (List ℕ) Fault) → length digits ≤ 4096 → r ≡ ok_or (bytes_of Upper digits) (own Line) → r ≡ coins_of digits
unfolding coins_of
few digits r h e =
    e ∙ sym (cond-true (leb (length digits) 4096) (ok_or (bytes_of Upper digits) (own Line)) (Err (own Line)) (le-leb (length digits) 4096 h))

pub many : (digits : List ℕ) → (length digits ≤ 4096 → ⊥) → Err (own Line) ≡ coins_of digits
unfolding coins_of
many digits h =
    let over = ⊎_elim (λ l. l) (λ l. absurd (h l)) (cases_lt 4096 (length digits)) in
    sym (cond-false (leb (length digits) 4096) (ok_or (bytes_of Upper digits) (own Line)) (Err (own Line)) (lt-leb (length digits) 4096 over))

-- d is what the digits spell, and n what the reading of them answered
unspelled : (d : Option (List ℕ)) (n : Option ℕ) (fault why : Fault) → n ≡ option_map length d → ◌≡◌ {A = Result ℕ Fault} (Err fault) (ok_or n why)
    → ◌≡◌ {A = Result (List ℕ) Fault} (Err fault) (ok_or d why)
unspelled None n fault why e h = let z : ◌≡◌ {A = Result ℕ Fault} (Err fault) (Err why) = h ∙ ap (λ o. ok_or o why) e in cc
unspelled (Some m) n fault why e h = let z : ◌≡◌ {A = Result ℕ Fault} (Err fault) (Ok (length m)) = h ∙ ap (λ o. ok_or o why) e in absurd (cc)

front : (d : Option (List ℕ)) (digits after : List ℕ) (n : Option ℕ) (count : ℕ) → n ≡ option_map length d → n ≡ Some count → after ≡ in_place digits d
    → ◌≡◌ {A = Result (List ℕ) Fault} (Ok (take count after)) (ok_or d (own Line))
unfolding in_place
front None digits after n count e some h = let z : ◌≡◌ {A = Option ℕ} (Some count) None = sym some ∙ e in absurd (cc)
front (Some m) digits after n count e some h =
    let z : ◌≡◌ {A = Option ℕ} (Some count) (Some (length m)) = sym some ∙ e in
    let k : count ≡ length m = cc in
    ap Ok (ap (take count) h ∙ take_at m (drop (length m) digits) count (sym k))

written_over : (old after : List ℕ) → length after ≡ length old → refill (length old) old after ≡ after
written_over old after same =
    ap (λ rest. take (length old) (after ++ rest)) (drop_of_length-le old (omega arith))
    ∙ ap (take (length old)) (append-nil after) ∙ take_all (length old) after (omega arith)

-- few digits, in a buffer
module _ (digits text : List ℕ) (n : Option ℕ) (fits : (length digits ≤ 4096) × (text ≡ digits)) (value : n ≡ option_map length (bytes_of Upper text)) where
  pub refused : (fault : Fault) → ◌≡◌ {A = Result ℕ Fault} (Err fault) (ok_or n (own Line)) → Err fault ≡ coins_of digits
  refused fault h = few digits (Err fault) fits.0 (unspelled (bytes_of Upper text) n fault (own Line) value h ∙ ap (λ l. ok_or (bytes_of Upper l) (own Line)) fits.1)

  pub spelled : (count : ℕ) (after : List ℕ) → n ≡ Some count → after ≡ in_place text (bytes_of Upper text) → length after ≡ length text
      → Ok (take count (refill (length text) text after)) ≡ coins_of digits
  spelled count after some left long =
      few digits (Ok (take count (refill (length text) text after))) fits.0
      (ap (λ l. Ok (take count l)) (written_over text after long)
      ∙ front (bytes_of Upper text) text after n count value some left
      ∙ ap (λ l. ok_or (bytes_of Upper l) (own Line)) fits.1)
