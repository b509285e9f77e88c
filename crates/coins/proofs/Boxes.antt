-- Boxes: swaps keep a permutation, and a permutation has an inverse. Assumes nothing.
use Rattle.std.proofs.Common.{◌≡◌, ℕ, zero, suc, ◌+◌, ◌-◌, ◌<◌, ◌≤◌, cond, eqb, ◌≢◌, List, length, get_or, take, drop, set, IfOk, Ok, Err, Result, sym, refl, ap, ◌∙◌, subst, ⊎_elim, zero-add, arith, below_more}
use Rattle.std.specs.List.{range_with_len, AllByRecursion}
use Rattle.std.proofs.Math.Seq.{take-set-lt}
use Rattle.std.proofs.lemmas.List.FromFn.{length-range_with_len, get_or-range_with_len, fill_by_all}
use Rattle.std.proofs.lemmas.List.{ext_get_or, map-id, get_or-take, length-take-le, length-set, get_or-set_same, get_or-set_other}
use Rattle.std.proofs.lemmas.Bool.{cases_eq, cases_lt, cond_both, eqb-true, eqb-false}
use Rattle.std.proofs.ByRecursion.{All-drop}
use Rattle.faults.specs.declared.fault.Fault.{Fault}
use Rattle.coins.specs.Boxes.{Permutation, Undoes, swapped, follow, swaps, Shuffles}
use Rattle.coins.specs.Coins.{Outcome}
use Rattle.coins.specs.Draws.{drawing}
use Rattle.coins.proofs.Draws.{drawn_below}
use Rattle.coins.proofs.Swaps.{make_low, make_high, make_within}

-- each number at its own place
pub identity_permutes : (a : ℕ) → Permutation a (range_with_len 0 a)
identity_permutes a =
    record {
      long = length-range_with_len 0 a;
      inside = λ x h. omega (arith, at x h);
      once = λ x y h k e. omega (arith, at x h, at y k);
      everywhere = λ y h. (y, h, at y h);
    }
  where
    at : (x : ℕ) → x < a → get_or (range_with_len 0 a) x 0 ≡ x
    at x h = get_or-range_with_len 0 a x 0 h ∙ zero-add x

-- what stands at a place after a swap
module _ (table : List ℕ) (i j : ℕ) (low : i < length table) (high : j < length table) where
  swapped_second : get_or (swapped table i j) j 0 ≡ get_or table i 0
  swapped_second = get_or-set_same (set table i (get_or table j 0)) j _ 0 (rw length-set high)

  swapped_first : get_or (swapped table i j) i 0 ≡ get_or table j 0
  swapped_first =
      ⊎_elim
      (λ (e : i ≡ j). ap (λ n. get_or (swapped table i j) n 0) e ∙ swapped_second ∙ ap (λ n. get_or table n 0) e)
      (λ ne. get_or-set_other (set table i (get_or table j 0)) j i _ 0 ne ∙ get_or-set_same table i _ 0 low)
      (cases_eq i j)

  swapped_other : (x : ℕ) → x ≢ i → x ≢ j → get_or (swapped table i j) x 0 ≡ get_or table x 0
  swapped_other x n m = get_or-set_other (set table i (get_or table j 0)) j x _ 0 m ∙ get_or-set_other table i x _ 0 n

  -- where the entry at a place came from, which is also where its old entry went
  abbrev source : ℕ → ℕ
  source x = cond (eqb x i) j (cond (eqb x j) i x)

  source_cases : (P : ℕ → Type 0) (x : ℕ) → (x ≡ i → P j) → (x ≡ j → P i) → (x ≢ i → x ≢ j → P x) → P (source x)
  source_cases P x first second other =
      cond_both (eqb x i) j _ P (λ e. first (eqb-true x i e)) (λ n.
      cond_both (eqb x j) i x P (λ e. second (eqb-true x j e)) (λ m. other (eqb-false x i n) (eqb-false x j m)))

  source_same : (x : ℕ) → get_or (swapped table i j) x 0 ≡ get_or table (source x) 0
  source_same x =
      source_cases (λ p. get_or (swapped table i j) x 0 ≡ get_or table p 0) x
      (λ e. ap (λ n. get_or (swapped table i j) n 0) e ∙ swapped_first)
      (λ e. ap (λ n. get_or (swapped table i j) n 0) e ∙ swapped_second)
      (swapped_other x)

  source_below : (x : ℕ) → x < length table → source x < length table
  source_below x h = source_cases (λ p. p < length table) x (λ _. high) (λ _. low) (λ _ _. h)

  source_source : (x : ℕ) → source (source x) ≡ x
  source_source x =
      source_cases (λ p. source p ≡ x) x
      (λ e. source_cases (λ q. q ≡ x) j (λ f. f ∙ sym e) (λ _. sym e) (λ _ n. absurd (n refl)))
      (λ e. source_cases (λ q. q ≡ x) i (λ _. sym e) (λ f. f ∙ sym e) (λ n _. absurd (n refl)))
      (λ n m. source_cases (λ q. q ≡ x) x (λ e. absurd (n e)) (λ e. absurd (m e)) (λ _ _. refl))

-- a swap keeps a permutation
pub swap_permutes : (a : ℕ) (table : List ℕ) (i j : ℕ) → i < a → j < a → Permutation a table → Permutation a (swapped table i j)
swap_permutes a table i j h k p =
    record {
      long = simp length-set p.long;
      inside = λ x l. rw (source_same table i j low high x) (p.inside (source table i j low high x) (below x l));
      once = λ x y l m e.
          sym (source_source table i j low high x) ∙
          ap (source table i j low high)
          (p.once (source table i j low high x) (source table i j low high y) (below x l) (below y m)
          (sym (source_same table i j low high x) ∙ e ∙ source_same table i j low high y)) ∙
          source_source table i j low high y;
      everywhere = λ y l.
          let at = p.everywhere y l in
          let x = at.0 in (
            source table i j low high x,
            below x at.1,
            source_same table i j low high (source table i j low high x) ∙ ap (λ n. get_or table n 0) (source_source table i j low high x) ∙ at.2,
          );
    }
  where
    low : i < length table
    low = rw p.long h

    high : j < length table
    high = rw p.long k

    below : (x : ℕ) → x < a → source table i j low high x < a
    below x l = let e = p.long in omega (arith, source_below table i j low high x (omega arith))

-- whatever the coins, the swaps keep a permutation
follow_made : {A B : Type 0} (r : Result A Fault) (n : ℕ) (next : A → Outcome B) (P : B → Type 0) →
    ((x : A) → r ≡ Ok x → IfOk (next x).answer P) → IfOk (follow r n next).answer P
follow_made (Ok x) n next P h = h x refl
follow_made (Err f) n next P h = tt

pub swaps_permute : (a i : ℕ) (table coins : List ℕ) → AllByRecursion (λ b. b < 2) coins → i < a → a ≤ 4096 → Permutation a table →
    IfOk (swaps i table coins).answer (Permutation a)
unfolding swaps
swaps_permute a zero table coins b h m p = p
swaps_permute a (suc i) table coins b h m p =
    follow_made (drawing (suc (suc i)) coins).answer (drawing (suc (suc i)) coins).gone _ (Permutation a)
    (λ j e.
    let l = drawn_below (suc (suc i)) coins j b (omega arith) (omega arith) e in
    swaps_permute a i (swapped table (suc i) j) (drop (drawing (suc (suc i)) coins).gone coins) (All-drop (λ b. b < 2) _ coins b) (omega arith) m
    (swap_permutes a table (suc i) j h (omega arith) p))

pub shuffles : Shuffles
shuffles a coins b =
    ⊎_elim
    (λ h. rw (make_low a coins h) tt)
    (λ h. ⊎_elim
    (λ m. rw (make_high a coins m) tt)
    (λ m. rw (make_within a coins h m) (swaps_permute a (a - 1) (range_with_len 0 a) coins b (omega arith) m (identity_permutes a)))
    (cases_lt 4096 a))
    (cases_lt a 2)

-- the numbers at the front of a table, each at its own place
pub counted_front : (a : ℕ) (table : List ℕ) → a ≤ length table → ((k : ℕ) → k < a → get_or table k 0 ≡ k) → take a table ≡ range_with_len 0 a
counted_front a table l at =
    fill_by_all (λ k. k) (take a table) a 0 (length-take-le a table l) (λ k h. get_or-take a table k 0 h ∙ at k h) ∙ map-id _

-- a swap at the front of a table
pub swapped_front : (a : ℕ) (table made : List ℕ) (i j : ℕ) → i < a → j < a → made ≡ swapped table i j → take a made ≡ swapped (take a table) i j
swapped_front a table made i j h k e =
    let first = get_or-take a table i 0 h in
    let second = get_or-take a table j 0 k in
    ap (take a) e ∙ take-set-lt a (set table i (get_or table j 0)) j (get_or table i 0) k ∙
    ap (λ l. set l j (get_or table i 0)) (take-set-lt a table i (get_or table j 0) h) ∙
    ap (λ n. set (set (take a table) i n) j (get_or table i 0)) (sym second) ∙
    ap (λ n. set (set (take a table) i (get_or (take a table) j 0)) j n) (sym first)

-- the tables of a permutation: one has its entries, and the other the places of the numbers
module _ (a : ℕ) (table : List ℕ) (p : Permutation a table) where
  pub invert_more : (inverse : List ℕ) (x : ℕ) → a ≤ length inverse → x < a →
      ((z : ℕ) → z < x → get_or inverse (get_or table z 0) 0 ≡ z) →
      (z : ℕ) → z < x + 1 → get_or (set inverse (get_or table x 0) x) (get_or table z 0) 0 ≡ z
  invert_more inverse x l h inv =
      below_more (λ z. get_or (set inverse (get_or table x 0) x) (get_or table z 0) 0 ≡ z) x
      (λ z k.
      let n : get_or table z 0 ≢ get_or table x 0 = λ e. let s = p.once z x (omega arith) h e in omega arith in
      get_or-set_other inverse (get_or table x 0) (get_or table z 0) x 0 n ∙ inv z k)
      (let i = p.inside x h in get_or-set_same inverse (get_or table x 0) x 0 (omega arith))

  module _ (forward inverse : List ℕ) (images : (k : ℕ) → k < a → get_or forward k 0 ≡ get_or table k 0)
      (places : (k : ℕ) → k < a → get_or inverse (get_or table k 0) 0 ≡ k) where
    pub tables_there : Undoes a forward inverse
    tables_there x h = (rw (images x h) (p.inside x h), rw (images x h) (places x h))

    pub tables_back : Undoes a inverse forward
    tables_back y h =
        let at = p.everywhere y h in
        let f : get_or inverse y 0 ≡ at.0 = ap (λ n. get_or inverse n 0) (sym at.2) ∙ places at.0 at.1 in
        (subst (λ (n : ℕ). n < a) (sym f) at.1, ap (λ n. get_or forward n 0) f ∙ images at.0 at.1 ∙ at.2)

    pub tables_front : a ≤ length forward → take a forward ≡ table
    tables_front l =
        let m = length-take-le a forward l in
        ext_get_or 0 (take a forward) table (m ∙ sym p.long) (λ k h. get_or-take a forward k 0 (omega arith) ∙ images k (omega arith))

-- tables that undo each other, cut at the radix
module _ (a : ℕ) (table back : List ℕ) (there : Undoes a table back) where
  pub front_undoes : Undoes a (take a table) (take a back)
  front_undoes x h =
      let t = there x h in
      let e = get_or-take a table x 0 h in
      (subst (λ (n : ℕ). n < a) (sym e) t.0, ap (λ n. get_or (take a back) n 0) e ∙ get_or-take a back (get_or table x 0) 0 t.0 ∙ t.1)

  pub undone_permutes : a ≤ length table → Undoes a back table → Permutation a (take a table)
  undone_permutes l again =
      record {
        long = length-take-le a table l;
        inside = λ x h. (front_undoes x h).0;
        once = λ x y h k e. sym (front_undoes x h).1 ∙ ap (λ n. get_or (take a back) n 0) e ∙ (front_undoes y k).1;
        everywhere = λ y h. (get_or back y 0, (again y h).0, get_or-take a table (get_or back y 0) 0 (again y h).0 ∙ (again y h).1);
      }
