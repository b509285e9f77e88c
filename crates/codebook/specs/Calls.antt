-- A call of a codebook, from what its steps answer. Assumes nothing.
use Rattle.std.specs.Prelude.{◌≡◌, ℕ, ◌^◌, ◌<◌, ◌≤◌, Bool, List, length, Ok, Err, Option, Result}
use Rattle.std.proofs.Math.Path.{refl, sym, ap}
use Rattle.std.proofs.Common.{subst, ◌∙◌, arith}
use Rattle.std.specs.Option.{unwrap_or}
use Rattle.std.specs.List.{AllByRecursion}
use Rattle.faults.specs.declared.fault.Fault.{Fault}
use Rattle.alphabets.specs.Alphabets.{radix_of}
use Rattle.formats.specs.Forms.{Form}
use Rattle.faults.proofs.Variants.{err≢ok, same_ok}
use Rattle.coins.specs.declared.sbox.Sbox.{Sbox}
use Rattle.coins.specs.Boxes.{Permutation}
use Rattle.coins.specs.Sboxes.{entries}
use Rattle.coins.proofs.Boxes.{undone_permutes}
use Rattle.ciphers.specs.Swaps.{checked, refused, swapped, swap}
use Rattle.ciphers.proofs.Checked.{passed, swap_refused, swap_passed}
use Rattle.codebook.specs.declared.book.Codebook.{Codebook}
use Rattle.codebook.specs.BookLaws.{Sound}
use Rattle.codebook.specs.Books.{Book, taken_by, and_number, numbered, through, meaning_of}
use Rattle.codebook.specs.Codebooks.{book}
use Rattle.codebook.specs.Numbers.{number, written}
use Rattle.codebook.specs.Permuted.{taken_same}

-- a codebook's box is a permutation of the numbers of its codes
pub box_permutes : (x : Sbox) {n : ℕ} → x.radix ≡ n → Permutation n (entries x)
box_permutes x {n} e =
    subst (λ (m : ℕ). Permutation m (entries x)) e (undone_permutes x.radix x.forward x.inverse x.there (omega arith) x.back)

pub sound : (s : Codebook) → Sound (book s)
sound s = box_permutes s.sbox s.whole

-- the number of a code, where the checks pass
and_number_ok : (r : Result Unit Fault) (m n : ℕ) → Ok n ≡ and_number r m → (r ≡ Ok tt) × (n ≡ m)
and_number_ok (Ok u) m n e = (refl, same_ok n m e)
and_number_ok (Err fault) m n e = absurd (err≢ok fault n (sym e))

and_number_err : (r : Result Unit Fault) (m : ℕ) (fault : Fault) → Err fault ≡ and_number r m → r ≡ Err fault
and_number_err (Ok u) m fault e = absurd (err≢ok fault m e)
and_number_err (Err g) m fault e = cc

module _ (b : Book) (f : Form) (run c : List ℕ) where
  pub number_refused : {t : Bool} {fault : Fault} → t ≡ taken_by b f → Err fault ≡ checked t f run c → Err fault ≡ numbered b f run c
  unfolding numbered
  number_refused {t} {fault} takes e = ap (λ r. and_number r (number (radix_of b.alphabet) c)) (e ∙ ap (λ t. checked t f run c) takes)

  module _ {t : Bool} (takes : t ≡ taken_by b f) (ok : Ok tt ≡ checked t f run c) {a : ℕ} (radix : a ≡ radix_of b.alphabet) where
    good : checked (taken_by b f) f run c ≡ Ok tt
    good = ap (λ t. checked t f run c) (sym takes) ∙ sym ok

    pub readable : radix_of b.alphabet ^ b.len ≤ 4096 → AllByRecursion (λ x. x < a) c × (a ^ length c ≤ 4096)
    readable few =
        let p = passed (taken_by b f) f run c (sym good) in
        let same = taken_same b f p.takes in
        let symbols : radix_of f.alphabet ≡ a = ap radix_of (sym same.0) ∙ sym radix in
        let power : a ^ length c ≡ radix_of b.alphabet ^ b.len =
        ap (λ n. n ^ length c) radix ∙ ap (λ n. radix_of b.alphabet ^ n) (p.code.long ∙ sym same.1) in
        (subst (λ (n : ℕ). AllByRecursion (λ x. x < n) c) symbols p.code.symbols, omega arith)

    pub number_read : {n : ℕ} → n ≡ number a c → Ok n ≡ numbered b f run c
    unfolding numbered
    number_read {n} reads =
        ap Ok (reads ∙ ap (λ m. number m c) radix) ∙ ap (λ r. and_number r (number (radix_of b.alphabet) c)) (sym good)

  -- a call that is refused
  pub call_refused : (map : ℕ → Option ℕ) {fault : Fault} → Err fault ≡ numbered b f run c → swap (meaning_of b) (λ f run c. through b map c) f run c ≡ refused fault
  unfolding numbered
  call_refused map {fault} e = swap_refused (meaning_of b) _ f run c _ refl fault (sym (and_number_err _ _ fault e))

  -- a call that swaps: the code's number is mapped, and the image written
  pub call_passed : (map : ℕ → Option ℕ) {a n v : ℕ} {out : List ℕ} →
      Ok n ≡ numbered b f run c → v ≡ unwrap_or (map n) 0 → a ≡ radix_of b.alphabet → out ≡ written a (length c) v →
      swap (meaning_of b) (λ f run c. through b map c) f run c ≡ swapped out
  unfolding numbered through
  call_passed map {a} {n} {v} {out} number_is value radix writes =
      let read = and_number_ok (checked (taken_by b f) f run c) (number (radix_of b.alphabet) c) n number_is in
      let p = passed (taken_by b f) f run c (sym read.0) in
      let long : length c ≡ b.len = p.code.long ∙ sym (taken_same b f p.takes).1 in
      let out_is : out ≡ through b map c =
      writes ∙ ap (λ m. written m (length c) v) radix ∙ ap (λ m. written (radix_of b.alphabet) m v) long ∙
      ap (written (radix_of b.alphabet) b.len) (value ∙ ap (λ m. unwrap_or (map m) 0) read.1) in
      swap_passed (meaning_of b) _ f run c _ refl (sym read.0) refl ∙ ap swapped (sym out_is)
