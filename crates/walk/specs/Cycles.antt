-- A map that can be undone leads from an allowed code back to an allowed code, on the cycle. Assumes nothing.
use Rattle.std.specs.Prelude.{◌≡◌, ℕ, zero, suc, ◌+◌, ◌-◌, ◌<◌, ◌≤◌, Bool, true, false, cond, ◌⊎◌, List, [], ◌∷◌, length}
use Rattle.std.proofs.Math.Path.{refl}
use Rattle.std.proofs.Common.{sym, ap, subst, ◌∙◌, inl, inr, zero-add, suc-add, arith}
use Rattle.std.proofs.lemmas.Bool.{both_ways, cases_Bool, cond-true, cond-false}
use Rattle.walk.specs.CodeLists.{In, Once}
use Rattle.walk.specs.Calls.{First, Reaches}
use Rattle.walk.specs.Walks.{times, seek}
use Rattle.walk.specs.Listed.{pigeonhole}

module _ (go : List ℕ → List ℕ) where
  pub times_go : (n : ℕ) (c : List ℕ) → times go n (go c) ≡ go (times go n c)
  times_go zero c = refl
  times_go (suc n) c = times_go n (go c)

  pub times_swap : (n k : ℕ) (c : List ℕ) → times go n (times go k c) ≡ times go k (times go n c)
  times_swap zero k c = refl
  times_swap (suc n) k c = ap (times go n) (sym (times_go k c)) ∙ times_swap n k (go c)

  -- the codes of so many swaps, from a code on
  abbrev trail : ℕ → List ℕ → List (List ℕ)
  trail zero c = []
  trail (suc n) c = c ∷ trail n (go c)

  length_trail : (n : ℕ) (c : List ℕ) → length (trail n c) ≡ n
  length_trail zero c = refl
  length_trail (suc n) c = ap suc (length_trail n (go c))

  trail_in : (n : ℕ) (c z : List ℕ) → In z (trail n c) → (k : ℕ) × (k < n) × (z ≡ times go k c)
  trail_in zero c z m = absurd m
  trail_in (suc n) c z (inl e) = (0, omega arith, e)
  trail_in (suc n) c z (inr m) = let w = trail_in n (go c) z m in (suc w.0, omega arith, w.2)

  -- the first yes within so many swaps, or none
  module _ (says : List ℕ → Bool) where
    pub first_later : (n : ℕ) (c : List ℕ) → First go says c (suc n) → First go says (go c) n
    first_later n c first = record { reached = first.reached; before = λ k h. first.before (suc k) (omega arith) }

    pub first_sooner : (n : ℕ) (c : List ℕ) → says c ≡ false → First go says (go c) n → First go says c (suc n)
    first_sooner n c nope first = record { reached = first.reached; before = denied }
      where
        denied : (k : ℕ) → k < suc n → says (times go k c) ≡ false
        denied zero h = nope
        denied (suc k) h = first.before k (omega arith)

    look : (n : ℕ) (c : List ℕ) → ((k : ℕ) × (k < n) × First go says c k) ⊎ ((k : ℕ) → k < n → says (times go k c) ≡ false)
    look zero c = inr (λ k h. let never : ⊥ = omega arith in absurd never)
    look (suc n) c =
        elim (cases_Bool (says c)) [
          | inl yep ↦ inl (0, omega arith, record { reached = yep; before = λ k h. let never : ⊥ = omega arith in absurd never })
          | inr nope ↦
              elim (look n (go c)) [
                | inl w ↦ inl (suc w.0, omega arith, first_sooner w.0 c nope w.2)
                | inr none ↦ inr (none_more n c nope none)
              ]
        ]
      where
        none_more : (n : ℕ) (c : List ℕ) → says c ≡ false → ((k : ℕ) → k < n → says (times go k (go c)) ≡ false) → (k : ℕ) → k < suc n → says (times go k c) ≡ false
        none_more n c nope none zero h = nope
        none_more n c nope none (suc k) h = none k (omega arith)

    -- what is sought is found
    pub seek_first : (fuel n : ℕ) (c : List ℕ) → First go says c n → n ≤ fuel → seek fuel go says c ≡ times go n c
    unfolding seek
    seek_first zero zero c first h = refl
    seek_first zero (suc n) c first h = absurd (omega arith)
    seek_first (suc fuel) zero c first h = cond-true (says c) c _ first.reached
    seek_first (suc fuel) (suc n) c first h =
        cond-false (says c) c _ (first.before 0 (omega arith)) ∙ seek_first fuel n (go c) (first_later n c first) (omega arith)

    -- how many swaps are left
    abbrev pub swaps_left : ℕ → List ℕ → ℕ
    swaps_left zero c = 0
    swaps_left (suc fuel) c = cond (says c) 0 (suc (swaps_left fuel (go c)))

    pub left_first : (fuel n : ℕ) (c : List ℕ) → First go says c n → n ≤ fuel → swaps_left fuel c ≡ n
    left_first zero zero c first h = refl
    left_first zero (suc n) c first h = absurd (omega arith)
    left_first (suc fuel) zero c first h = cond-true (says c) 0 _ first.reached
    left_first (suc fuel) (suc n) c first h =
        cond-false (says c) 0 _ (first.before 0 (omega arith)) ∙ ap suc (left_first fuel n (go c) (first_later n c first) (omega arith))

-- a map that keeps the open codes, and can be undone there
module _ (Open : List ℕ → Type 0) (go undo : List ℕ → List ℕ) (stays : (c : List ℕ) → Open c → Open (go c))
    (undoes : (c : List ℕ) → Open c → undo (go c) ≡ c) where
  pub times_stays : (n : ℕ) (c : List ℕ) → Open c → Open (times go n c)
  times_stays zero c o = o
  times_stays (suc n) c o = times_stays n (go c) (stays c o)

  times_once : (n : ℕ) (c d : List ℕ) → Open c → Open d → times go n c ≡ times go n d → c ≡ d
  times_once zero c d o p e = e
  times_once (suc n) c d o p e =
      sym (undoes c o) ∙ ap undo (times_once n (go c) (go d) (stays c o) (stays d p) e) ∙ undoes d p

  unwind : (k j : ℕ) (c : List ℕ) → Open c → times undo k (times go (k + j) c) ≡ times go j c
  unwind zero j c o = ap (λ m. times go m c) (zero-add j)
  unwind (suc k) j c o =
      ap (times undo k) (ap (λ m. undo (times go m c)) (suc-add k j) ∙ ap undo (times_go go (k + j) c) ∙ undoes (times go (k + j) c) (times_stays (k + j) c o)) ∙
      unwind k j c o

  module _ (says : List ℕ → Bool) (c : List ℕ) (open_to : Open c) (allowed : says c ≡ true) where
    -- where no code on the way is allowed, none comes twice
    trail_once : (n i : ℕ) (x : List ℕ) → x ≡ times go (suc i) c → ((k : ℕ) → k < n → says (times go k (go c)) ≡ false) → Once (trail go n x)
    trail_once zero i x at never = tt
    trail_once (suc n) i x at never = (
      λ m.
          let w = trail_in go n (go x) x m in
          let again : times go (suc i) c ≡ times go (suc i) (times go (suc w.0) c) =
          sym at ∙ w.2 ∙ ap (times go (suc w.0)) at ∙ times_swap go (suc w.0) (suc i) c in
          let same = times_once (suc i) c (times go (suc w.0) c) open_to (times_stays (suc w.0) c open_to) again in
          both_ways (says c) (ap says same ∙ never w.0 (omega arith)) allowed,
      trail_once n (suc i) (go x) (ap go at ∙ sym (times_go go (suc i) c)) (λ k h. never k (omega arith)),
    )

    -- so the rule says yes after no more swaps than there are denied codes
    pub first_return : (denied : List (List ℕ)) → ((d : List ℕ) → Open d → says d ≡ false → In d denied) → Reaches go says (length denied) (go c)
    first_return denied all =
        elim (look go says (suc (length denied)) (go c)) [
          | inl w ↦ record { swaps = w.0; few = omega arith; first = w.2 }
          | inr never ↦
              let most = pigeonhole (trail go (suc (length denied)) (go c)) denied (trail_once (suc (length denied)) 0 (go c) refl never)
              (λ z i.
              let w = trail_in go (suc (length denied)) (go c) z i in
              all z (subst Open (sym w.2) (times_stays w.0 (go c) (stays c open_to))) (ap says w.2 ∙ never w.0 w.1)) in
              let long = length_trail go (suc (length denied)) (go c) in
              let never_so : ⊥ = omega arith in
              absurd never_so
        ]

    -- and the way back passes the same codes
    back_at : (n k : ℕ) → k ≤ suc n → times undo k (times go (suc n) c) ≡ times go (suc n - k) c
    back_at n k h =
        let whole : k + (suc n - k) ≡ suc n = omega arith in
        ap (λ m. times undo k (times go m c)) (sym whole) ∙ unwind k (suc n - k) c open_to

    pub back_home : (n : ℕ) → times undo n (undo (times go n (go c))) ≡ c
    back_home n =
        let none : suc n - suc n ≡ 0 = omega arith in
        back_at n (suc n) (omega arith) ∙ ap (λ m. times go m c) none

    pub first_back : (n : ℕ) → First go says (go c) n → First undo says (undo (times go n (go c))) n
    first_back n first = record {
      reached = ap says (back_home n) ∙ allowed;
      before = λ k h.
          let less : suc n - suc k ≡ suc (n - suc k) = omega arith in
          ap says (back_at n (suc k) (omega arith) ∙ ap (λ m. times go m c) less) ∙ first.before (n - suc k) (omega arith);
    }
