-- Draws: one try after the other. Assumes nothing.
use Rattle.std.proofs.Common.{◌≡◌, ℕ, zero, suc, ◌+◌, ◌-◌, ◌*◌, ◌/◌, ◌%◌, ◌^◌, ◌<◌, ◌≤◌, true, false, ◌&&◌, leb, List, length, take, drop, Some, None, Ok, Err, Option, Result, sym, refl, ap, ◌∙◌, subst, ⊎_elim, zero-le, mul-le-mul_right, suc-mul, mul_comm, zero-mul, div-mul-le_self, arith, pow_pos, pow_mono}
use native.Mathlib.Nat.{sub-zero}
use lib.Arith.{digits_lt}
use Rattle.std.specs.List.{AllByRecursion}
use Rattle.std.proofs.lemmas.Nat.{div_below, le-div}
use Rattle.std.proofs.ByRecursion.{All-take, All-drop}
use Rattle.std.proofs.lemmas.List.{drop-drop, length-drop, length-take, length-take-le}
use Rattle.std.proofs.lemmas.Bool.{cond-true, cond-false, le-leb, lt-leb, le-ltb, lt-ltb, and_from, and_left, and_right, cases_lt, cases_Bool}
use Rattle.faults.specs.declared.fault.Cause.TheVariants.{Range, CoinsShort}
use Rattle.faults.specs.declared.fault.Fault.{Fault}
use Rattle.faults.specs.Faults.{own, deeper}
use Rattle.coins.specs.Coins.{number, Outcome, refusal, taking, after, Bits}
use Rattle.coins.specs.Draws.{width, given_by, rejects, share, tries, try_at, first_from, drawn_at, drawing, FirstGives}
use Rattle.coins.proofs.Bits.{number_below}
use Rattle.coins.proofs.Takes.{leaves, taken_good, taken_short}
use Rattle.coins.proofs.Widths.{width_least, width_most}

pub cong_outcome : {A : Type 0} {a b : Result A Fault} {m n : ℕ} → a ≡ b → m ≡ n →
    ◌≡◌ {A = Outcome A} (record { answer = a; gone = m }) (record { answer = b; gone = n })
cong_outcome e f = cc

-- a draw after n rejected tries: what waits, and what is taken
pub record Passed (k : ℕ) (coins : List ℕ) (n : ℕ) (rest : List ℕ) (taken : ℕ) : Type 0 where
  pub room : n ≤ tries k coins
  pub waits : rest ≡ drop (n * width k) coins
  pub gone : taken ≡ n * width k
  pub bits : 0 < n → Bits coins
  pub search : first_from k coins n (tries k coins - n) ≡ first_from k coins 0 (tries k coins)

module _ (k : ℕ) (coins : List ℕ) where
  pub passed_none : Passed k coins 0 coins 0
  passed_none =
      record {
        room = zero-le;
        waits = ap (λ n. drop n coins) (sym (zero-mul (width k)));
        gone = sym (zero-mul (width k));
        bits = λ h. absurd (omega arith);
        search = ap (first_from k coins 0) (sub-zero (tries k coins));
      }

  -- a try that finds its coins is one of the tries
  module _ (n : ℕ) (rest : List ℕ) (taken : ℕ) (p : Passed k coins n rest taken) where
    long : length rest ≡ length coins - n * width k
    long = ap length p.waits ∙ length-drop (n * width k) coins

    next : suc n * width k ≡ n * width k + width k
    next = suc-mul n (width k)

    whole : width k ≤ length rest → n < tries k coins
    whole h =
        let w = width_least k in
        let e = long in
        let f = next in
        le-div (suc n) (length coins) (width k) (omega arith) (omega arith)

    last : length rest < width k → n ≡ tries k coins
    last h =
        let w = width_least k in
        let e = long in
        let f = next in
        let l = div_below (length coins) (width k) (suc n) (omega arith) (omega arith) in
        let r = p.room in
        omega arith

    try_is : number (take (width k) rest) ≡ try_at k coins n
    try_is = ap (λ l. number (take (width k) l)) p.waits

    pub all_bits : Bits rest → Bits coins
    all_bits b =
        ⊎_elim p.bits
        (λ h.
        let z : n ≡ 0 = omega arith in
        let e : rest ≡ coins = p.waits ∙ ap (λ i. drop i coins) (ap (λ i. i * width k) z ∙ zero-mul (width k)) in
        subst Bits e b)
        (cases_lt 0 n)

    -- a rejected try
    pub passed_more : Bits rest → width k ≤ length rest → rejects k (number (take (width k) rest)) ≡ true →
        Passed k coins (suc n) (drop (width k) rest) (taken + width k)
    passed_more b h r =
        let m = whole h in
        let s : tries k coins - n ≡ suc (tries k coins - suc n) = omega arith in
        record {
          room = m;
          waits = ap (drop (width k)) p.waits ∙ drop-drop (width k) (n * width k) coins ∙ ap (λ i. drop i coins) (sym next);
          gone = ap (λ i. i + width k) p.gone ∙ sym next;
          bits = λ _. all_bits b;
          search =
              sym (cond-true (rejects k (try_at k coins n)) _ (Some n) (ap (rejects k) (sym try_is) ∙ r)) ∙
              ap (first_from k coins n) (sym s) ∙ p.search;
        }

    -- an accepted try
    pub draw_given : width k ≤ length rest → rejects k (number (take (width k) rest)) ≡ false →
        drawn_at k coins (first_from k coins 0 (tries k coins)) ≡ record { answer = Ok (share k (number (take (width k) rest))); gone = taken + width k }
    draw_given h r =
        let m = whole h in
        let s : tries k coins - n ≡ suc (tries k coins - suc n) = omega arith in
        let f : first_from k coins 0 (tries k coins) ≡ Some n =
        sym p.search ∙ ap (first_from k coins n) s ∙
        cond-false (rejects k (try_at k coins n)) _ (Some n) (ap (rejects k) (sym try_is) ∙ r) in
        let g : suc n * width k ≡ taken + width k = next ∙ ap (λ i. i + width k) (sym p.gone) in
        ap (drawn_at k coins) f ∙ cong_outcome (ap (λ v. Ok (share k v)) (sym try_is)) g

    -- too few coins for another try
    pub draw_short : length rest < width k →
        drawn_at k coins (first_from k coins 0 (tries k coins)) ≡ record { answer = Err (deeper (own CoinsShort)); gone = taken }
    draw_short h =
        let m = last h in
        let s : tries k coins - n ≡ 0 = omega arith in
        let f : first_from k coins 0 (tries k coins) ≡ None = sym p.search ∙ ap (first_from k coins n) s in
        ap (drawn_at k coins) f ∙ cong_outcome refl (ap (λ i. i * width k) (sym m) ∙ sym p.gone)

    pub taken_fits : Bits rest → width k ≤ length rest → taken + width k < 2 ^ 128
    taken_fits b h =
        let e = long in
        let w = width_least k in
        let g = p.gone in
        let a = (all_bits b).countable in
        omega arith

  -- the bounds of a draw
  pub draw_low : k < 2 → drawing k coins ≡ refusal (own Range)
  unfolding drawing
  draw_low h = cond-false (leb 2 k && leb k 4096) _ _ (and_left _ _ (lt-leb 2 k h))

  pub draw_high : 4096 < k → drawing k coins ≡ refusal (own Range)
  unfolding drawing
  draw_high h = cond-false (leb 2 k && leb k 4096) _ _ (and_right _ _ (lt-leb k 4096 h))

  pub draw_within : 2 ≤ k → k ≤ 4096 → drawing k coins ≡ drawn_at k coins (first_from k coins 0 (tries k coins))
  unfolding drawing
  draw_within l h = cond-true (leb 2 k && leb k 4096) _ _ (and_from _ _ (le-leb 2 k l) (le-leb k 4096 h))

pub share_below : (k v : ℕ) → 0 < k → v < 2 ^ width k → share k v < k
share_below k v l h =
    div_below (v * k) (2 ^ width k) k (pow_pos (width k)) (omega (arith, digits_lt {r = 0} h l, mul_comm (2 ^ width k) k))

-- what a try gave, read backwards
pub given_some : (k v x : ℕ) → Some x ≡ given_by k v → (rejects k v ≡ false) × (x ≡ share k v)
given_some k v x e =
    ⊎_elim
    (λ r. let f = cond-true (rejects k v) None (Some (share k v)) r in let z : ◌≡◌ {A = ℕ} 0 1 = cc in absurd (omega arith))
    (λ r. let f = cond-false (rejects k v) None (Some (share k v)) r in (r, (cc)))
    (cases_Bool (rejects k v))

pub given_none : (k v : ℕ) → None ≡ given_by k v → rejects k v ≡ true
given_none k v e =
    ⊎_elim
    (λ r. r)
    (λ r. let f = cond-false (rejects k v) None (Some (share k v)) r in let z : ◌≡◌ {A = ℕ} 0 1 = cc in absurd (omega arith))
    (cases_Bool (rejects k v))

-- a draw at the start of a turn
pub record Turn (k : ℕ) (coins : List ℕ) (count : ℕ) (rest : List ℕ) (taken : ℕ) : Type 0 where
  pub low : 2 ≤ k
  pub high : k ≤ 4096
  pub right : count ≡ width k
  pub n : ℕ
  pub passed : Passed k coins n rest taken

-- what the turn's take says, and what comes of it
module _ {k : ℕ} {coins : List ℕ} {count : ℕ} {rest : List ℕ} {taken : ℕ} (t : Turn k coins count rest taken) where
  least : 1 ≤ count
  least = let w = width_least k in let e = t.right in omega arith

  most : count ≤ 16
  most = let w = width_most k t.high in let e = t.right in omega arith

  -- the take was good
  module _ (v : ℕ) (good : Ok v ≡ (taking count rest).answer) where
    pub turn_whole : width k ≤ length rest
    turn_whole = let g = taken_good count rest least most v good in omega (arith, g.0, t.right)

    turn_try : v ≡ number (take (width k) rest)
    turn_try = (taken_good count rest least most v good).1 ∙ ap (λ c. number (take c rest)) t.right

    pub turn_rest : after (taking count rest) rest ≡ drop (width k) rest
    turn_rest = (taken_good count rest least most v good).2 ∙ ap (λ c. drop c rest) t.right

    pub turn_below : AllByRecursion (λ b. b < 2) rest → v < 2 ^ count
    turn_below b =
        let g = taken_good count rest least most v good in
        let l = length-take-le count rest g.0 in
        let h = number_below (take count rest) (All-take (λ b. b < 2) count rest b) in
        omega (arith, g.1, ap (λ c. 2 ^ c) l)

    pub turn_again : Bits rest → None ≡ given_by k v → Turn k coins count (after (taking count rest) rest) (taken + count)
    turn_again b r =
        record {
          low = t.low;
          high = t.high;
          right = t.right;
          n = suc t.n;
          passed =
              rw (turn_rest, t.right) (passed_more k coins t.n rest taken t.passed b turn_whole (ap (rejects k) (sym turn_try) ∙ given_none k v r));
        }

    pub turn_done : (x : ℕ) → Some x ≡ given_by k v → drawing k coins ≡ record { answer = Ok x; gone = taken + count }
    turn_done x r =
        draw_within k coins t.low t.high ∙
        draw_given k coins t.n rest taken t.passed turn_whole (ap (rejects k) (sym turn_try) ∙ (given_some k v x r).0) ∙
        cong_outcome (ap Ok (ap (share k) (sym turn_try) ∙ sym (given_some k v x r).1)) (ap (λ c. taken + c) (sym t.right))

    pub turn_left : (x : ℕ) → Some x ≡ given_by k v → after (taking count rest) rest ≡ after (drawing k coins) coins
    turn_left x r =
        turn_rest ∙ ap (drop (width k)) t.passed.waits ∙ drop-drop (width k) (t.n * width k) coins ∙
        ap (λ m. drop m coins) (ap (λ m. m + width k) (sym t.passed.gone) ∙ ap (λ c. taken + c) (sym t.right)) ∙ sym (leaves coins (turn_done x r))

    pub turn_bits : Bits rest → Bits coins
    turn_bits b = all_bits k coins t.n rest taken t.passed b

    pub turn_share : AllByRecursion (λ b. b < 2) rest → (x : ℕ) → Some x ≡ given_by k v → x < k
    turn_share b x r =
        let h = turn_below b in
        let l = t.low in
        let f : v < 2 ^ width k = rw (← t.right) h in
        omega (arith, share_below k v (omega arith) f, (given_some k v x r).1)

    pub turn_fits : Bits rest → taken + count < 2 ^ 128
    turn_fits b = let f = taken_fits k coins t.n rest taken t.passed b turn_whole in let e = t.right in omega arith

    pub turn_less : length (after (taking count rest) rest) < length rest
    turn_less =
        let w = width_least k in
        let h = turn_whole in
        rw turn_rest (simp length-drop (omega arith))

  -- the take was refused
  module _ (f : Fault) (bad : Err f ≡ (taking count rest).answer) where
    pub turn_short : drawing k coins ≡ record { answer = Err (deeper f); gone = taken }
    turn_short =
        let s = taken_short count rest least most f bad in
        draw_within k coins t.low t.high ∙ draw_short k coins t.n rest taken t.passed (omega (arith, s.0, t.right)) ∙
        cong_outcome (ap (λ y. Err (deeper y)) (sym s.1)) refl

    pub short_left : after (taking count rest) rest ≡ after (drawing k coins) coins
    short_left =
        (taken_short count rest least most f bad).2 ∙ t.passed.waits ∙ ap (λ m. drop m coins) (sym t.passed.gone) ∙ sym (leaves coins turn_short)

-- what a draw gives is below its bound, and it takes no more coins than there are
try_below : (k : ℕ) (coins : List ℕ) (n : ℕ) → AllByRecursion (λ b. b < 2) coins → try_at k coins n < 2 ^ width k
try_below k coins n b =
    let rest = drop (n * width k) coins in
    let h = number_below (take (width k) rest) (All-take (λ b. b < 2) (width k) rest (All-drop (λ b. b < 2) (n * width k) coins b)) in
    let l : length (take (width k) rest) ≤ width k = simp length-take (omega arith) in
    omega (arith, pow_mono l)

drawn_at_below : (k : ℕ) (coins : List ℕ) (o : Option ℕ) (j : ℕ) → AllByRecursion (λ b. b < 2) coins → 0 < k → (drawn_at k coins o).answer ≡ Ok j → j < k
drawn_at_below k coins (Some n) j b h e =
    let s : share k (try_at k coins n) ≡ j = cc in
    omega (arith, share_below k (try_at k coins n) h (try_below k coins n b))
drawn_at_below k coins None j b h e = let z : ◌≡◌ {A = ℕ} 0 1 = cc in absurd (omega arith)

pub drawn_below : (k : ℕ) (coins : List ℕ) (j : ℕ) → AllByRecursion (λ b. b < 2) coins → 2 ≤ k → k ≤ 4096 → (drawing k coins).answer ≡ Ok j → j < k
drawn_below k coins j b l h e =
    drawn_at_below k coins (first_from k coins 0 (tries k coins)) j b (omega arith) (sym (ap (λ o. o.answer) (draw_within k coins l h)) ∙ e)

first_within : (k : ℕ) (coins : List ℕ) (n more m : ℕ) → first_from k coins n more ≡ Some m → m < n + more
first_within k coins n zero m e = let z : ◌≡◌ {A = ℕ} 0 1 = cc in absurd (omega arith)
first_within k coins n (suc more) m e =
    ⊎_elim
    (λ r.
    let f = cond-true (rejects k (try_at k coins n)) (first_from k coins (suc n) more) (Some n) r in
    let h = first_within k coins (suc n) more m (sym f ∙ e) in
    omega arith)
    (λ r.
    let f = cond-false (rejects k (try_at k coins n)) (first_from k coins (suc n) more) (Some n) r in
    let s : n ≡ m = cc in
    omega arith)
    (cases_Bool (rejects k (try_at k coins n)))

drawn_at_within : (k : ℕ) (coins : List ℕ) (o : Option ℕ) → ((m : ℕ) → o ≡ Some m → m < tries k coins) → (drawn_at k coins o).gone ≤ length coins
drawn_at_within k coins (Some n) h =
    let l = div-mul-le_self (length coins) (width k) in
    let m = mul-le-mul_right (width k) (h n refl) in
    omega arith
drawn_at_within k coins None h = div-mul-le_self (length coins) (width k)

pub drawn_within : (k : ℕ) (coins : List ℕ) → (drawing k coins).gone ≤ length coins
drawn_within k coins =
    ⊎_elim
    (λ h. rw (draw_low k coins h) zero-le)
    (λ h. ⊎_elim
    (λ m. rw (draw_high k coins m) zero-le)
    (λ m. rw (draw_within k coins h m) (drawn_at_within k coins (first_from k coins 0 (tries k coins)) (λ n e. let l = first_within k coins 0 (tries k coins) n e in omega arith)))
    (cases_lt 4096 k))
    (cases_lt k 2)

-- what a try gives, in words of what the code holds for the bound, the try and the power
module _ (k v b a whole : ℕ) (for-bound : b ≡ k) (for-try : a ≡ v) (for-power : whole ≡ 2 ^ width k) where
  at_code : (f : ℕ → ℕ → ℕ → ℕ) → f b a whole ≡ f k v (2 ^ width k)
  at_code f = cc

  pub given_rejected : a * b % whole < whole % b → None ≡ given_by k v
  given_rejected h =
      let p : v * k % 2 ^ width k < 2 ^ width k % k = rw (← for-power, ← for-bound, ← for-try) h in
      sym (cond-true (rejects k v) _ _ (lt-ltb _ _ p))

  pub given_accepted : whole % b ≤ a * b % whole → Some (a * b / whole) ≡ given_by k v
  given_accepted h =
      let p : 2 ^ width k % k ≤ v * k % 2 ^ width k = rw (← for-power, ← for-bound, ← for-try) h in
      let e = at_code (λ y x w. x * y / w) in
      ap Some e ∙ sym (cond-false (rejects k v) _ _ (le-ltb _ _ p))

  pub given_below : 0 < k → v < 2 ^ width k → a * b / whole < k
  given_below l h =
      let e = at_code (λ y x w. x * y / w) in
      rw e (share_below k v l h)

-- ---- the first accepted try
first_is : (k : ℕ) (coins : List ℕ) (n from more : ℕ) → from ≤ n → n < from + more → ((i : ℕ) → from ≤ i → i < n → rejects k (try_at k coins i) ≡ true) →
    rejects k (try_at k coins n) ≡ false → first_from k coins from more ≡ Some n
first_is k coins n from zero l h passed accepted = absurd (omega arith)
first_is k coins n from (suc more) l h passed accepted =
    ⊎_elim
    (λ m.
    cond-true (rejects k (try_at k coins from)) (first_from k coins (suc from) more) (Some from) (passed from (omega arith) m) ∙
    first_is k coins n (suc from) more m (omega arith) (λ i j p. passed i (omega arith) p) accepted)
    (λ m.
    let e : from ≡ n = omega arith in
    cond-false (rejects k (try_at k coins from)) (first_from k coins (suc from) more) (Some from) (ap (λ i. rejects k (try_at k coins i)) e ∙ accepted) ∙ ap Some e)
    (cases_lt from n)

first_none : (k : ℕ) (coins : List ℕ) (from more : ℕ) → ((i : ℕ) → i < from + more → rejects k (try_at k coins i) ≡ true) → first_from k coins from more ≡ None
first_none k coins from zero rejected = refl
first_none k coins from (suc more) rejected =
    cond-true (rejects k (try_at k coins from)) (first_from k coins (suc from) more) (Some from) (rejected from (omega arith)) ∙
    first_none k coins (suc from) more (λ i h. rejected i (omega arith))

pub first_gives : FirstGives
first_gives k coins l h =
    record {
      given = λ n f.
          draw_within k coins l h ∙
          ap (drawn_at k coins) (first_is k coins n 0 (tries k coins) zero-le (omega (arith, f.whole)) (λ i _ p. f.passed i p) f.accepted);
      short = λ rejected.
          draw_within k coins l h ∙ ap (drawn_at k coins) (first_none k coins 0 (tries k coins) (λ i p. rejected i (omega arith)));
    }
