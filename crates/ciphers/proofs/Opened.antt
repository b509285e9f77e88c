-- A window with a code in it: its parts, its length and its symbols. Assumes nothing.
use Rattle.std.proofs.Common.{◌≡◌, ℕ, zero, suc, ◌+◌, ◌-◌, ◌<◌, ◌≤◌, List, ◌++◌, length, take, drop, replicate, sym, refl, ap, ◌∙◌, subst, arith}
use borrow.Rule.Slice.PartMut.{put_mid}
use Rattle.ciphers.specs.Tables.{Reads}
use Rattle.std.specs.List.{AllByRecursion}
use Rattle.std.proofs.ByRecursion.{All-append}
use Rattle.std.proofs.lemmas.List.{length-append, length-replicate, take-replicate, drop-replicate, drop-drop, drop_at, take_at}

pub opens : (code part : List ℕ) (from k : ℕ) → part ≡ code → k ≡ length code → from + length code ≤ 2080
    → put_mid from k (replicate 2080 0) part ≡ replicate from 0 ++ (code ++ replicate (2080 - (from + length code)) 0)
opens code part from k ep ek h =
    let front : take from (replicate 2080 0) ≡ replicate from 0 = take-replicate from 2080 0 (omega arith) in
    let rest : drop k (drop from (replicate 2080 0)) ≡ replicate (2080 - (from + length code)) 0 =
    drop-drop k from (replicate 2080 0) ∙ (drop-replicate (from + k) 2080 0 ∙ ap (λ n. replicate (2080 - (from + n)) 0) ek) in
    ap (λ l. l ++ (part ++ drop k (drop from (replicate 2080 0)))) front
    ∙ (ap (λ l. replicate from 0 ++ (l ++ drop k (drop from (replicate 2080 0)))) ep ∙ ap (λ l. replicate from 0 ++ (code ++ l)) rest)

module _ (code window : List ℕ) (from : ℕ) (is : window ≡ replicate from 0 ++ (code ++ replicate (2080 - (from + length code)) 0)) (room : from + length code ≤ 2080) where
  pub window_long : length window ≡ 2080
  window_long =
      ap length is
      ∙ (length-append (replicate from 0) _ ∙ omega (arith, length-replicate {A = ℕ} from 0, length-append code (replicate (2080 - (from + length code)) 0), length-replicate {A = ℕ} (2080 - (from + length code)) 0))

  pub window_code : take (length code) (drop from window) ≡ code
  window_code =
      ap (λ l. take (length code) (drop from l)) is
      ∙ (ap (take (length code)) (drop_at (replicate from 0) _ from (length-replicate from 0)) ∙ take_at code _ (length code) refl)

  pub window_symbols : (a : ℕ) → 0 < a → AllByRecursion (λ x. x < a) code → AllByRecursion (λ x. x < a) window
  window_symbols a p h =
      let P : ℕ → Type 0 = λ x. x < a in
      let zeros : (n : ℕ) → AllByRecursion P (replicate n 0) = λ n. all_zeros a p n in
      let whole : AllByRecursion P (replicate from 0 ++ (code ++ replicate (2080 - (from + length code)) 0)) =
      All-append P (replicate from 0) _ (zeros from) (All-append P code _ h (zeros (2080 - (from + length code)))) in
      rw is whole
    where
      all_zeros : (a : ℕ) → 0 < a → (n : ℕ) → AllByRecursion (λ x. x < a) (replicate n 0)
      all_zeros a p zero = tt
      all_zeros a p (suc n) = (p, all_zeros a p n)

-- what is said of a radix and a table, said of their equals
pub same_core : (a b : ℕ) → a ≡ b → (t u : List ℕ) → t ≡ u → (f : ℕ → List ℕ → List ℕ) → f a t ≡ f b u
same_core a b e t u d f = ap (λ n. f n t) e ∙ ap (f b) d

pub reads_as : (a b : ℕ) → a ≡ b → (t u : List ℕ) → t ≡ u → Reads b u → Reads a t
reads_as a b e t u d r = subst (λ (n : ℕ). Reads n t) (sym e) (subst (λ (l : List ℕ). Reads b l) (sym d) r)
