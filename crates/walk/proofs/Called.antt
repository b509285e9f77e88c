-- The calls of the walk, way by way. Assumes nothing.
use Rattle.std.proofs.Common.{◌≡◌, ℕ, zero, suc, ◌<◌, Bool, true, false, List, Some, None, Ok, Err, Option, Result, sym, refl, ap, ◌∙◌, subst, arith}
use Rattle.std.proofs.lemmas.Bool.{and_parts, both_ways}
use Rattle.faults.specs.declared.fault.Cause.TheVariants.{CodeBarred}
use Rattle.faults.specs.declared.fault.Fault.{Fault}
use Rattle.faults.specs.Faults.{own}
use Rattle.formats.specs.Forms.{Form}
use Rattle.ciphers.specs.Meanings.{Meaning, Free, Undone, Laws}
use Rattle.ciphers.specs.Swaps.{checked, refused, swapped, unless_barred, unless_refused, swap, answer, left, barred_past, passed_up}
use Rattle.ciphers.proofs.Checked.{Passed, passed, passing, swap_passed, swap_checked}
use Rattle.ciphers.specs.Ways.{map_of}
use Rattle.walk.specs.Calls.{unless_denied, admitted, First, OnTheWay}
use Rattle.ciphers.specs.declared.way.Way.{Way}
use Rattle.ciphers.specs.declared.way.Way.TheVariants.{Forward, Backward}
use Rattle.walk.specs.Walks.{Allowed, times, denied_count, few_codes, barred_by, sought, walked_by, walking}
use Rattle.walk.specs.Cycles.{seek_first, first_later, swaps_left, left_first}
use Rattle.walk.specs.Walked.{reaches}

-- what is refused before the first swap
module _ (taken says : Bool) (f : Form) (run c : List ℕ) where
  pub admit_refused : (fault : Fault) → Err fault ≡ checked taken f run c → Err fault ≡ admitted taken says f run c
  unfolding admitted
  admit_refused fault e = ap (λ r. unless_denied r says) e

  pub admit_allowed : Ok tt ≡ checked taken f run c → says ≡ true → Ok tt ≡ admitted taken says f run c
  unfolding admitted
  admit_allowed e s = ap (λ b. unless_denied (Ok tt) b) (sym s) ∙ ap (λ r. unless_denied r says) e

  pub admit_denied : Ok tt ≡ checked taken f run c → says ≡ false → Err (own CodeBarred) ≡ admitted taken says f run c
  unfolding admitted
  admit_denied e s = ap (λ b. unless_denied (Ok tt) b) (sym s) ∙ ap (λ r. unless_denied r says) e

-- the map that undoes the one that swaps a way
abbrev pub undoing : Way → Meaning → Form → List ℕ → List ℕ → List ℕ
undoing Forward m = m.backward
undoing Backward m = m.forward

pub way_law : (way : Way) (m : Meaning) → Laws m → (f : Form) (run : List ℕ) → m.taken f ≡ true → Undone m f (map_of m way f run) (undoing way m f run)
way_law Forward m laws f run t = laws.onward f run t
way_law Backward m laws f run t = laws.homeward f run t

-- a turn of the loop: the meaning below is as it was, and the same code is sought
pub record Walking (m now : Meaning) (allowed : Allowed) (go : Form → List ℕ → List ℕ → List ℕ) (f : Form) (run start c : List ℕ) : Type 0 where
  pub same : now ≡ m
  pub on : OnTheWay m allowed go f run c
  pub goal : sought m allowed go f run c ≡ sought m allowed go f run start

-- one swap closer
later : (go : List ℕ → List ℕ) (says : List ℕ → Bool) (n : ℕ) (c : List ℕ) → First go says c n → says c ≡ false → (k : ℕ) × (n ≡ suc k) × First go says (go c) k
later go says zero c first nope = absurd (both_ways (says c) nope first.reached)
later go says (suc n) c first nope = (n, refl, first_later go says n c first)

module _ (m : Meaning) (allowed : Allowed) (pick : Meaning → Form → List ℕ → List ℕ → List ℕ) (f : Form) (run c : List ℕ) (on : OnTheWay m allowed (pick m) f run c) where
  -- a swap below of a code on the way is not refused
  pub swapped_on : (now : Meaning) → now ≡ m → (next : List ℕ) → next ≡ left (swap now (pick now) f run c) c → next ≡ pick m f run c
  swapped_on now same next e =
      e ∙ ap (λ n. left (swap n (pick n) f run c) c) same ∙
      ap (λ o. left o c) (swap_passed m (pick m) f run c (m.taken f) refl (passing (m.taken f) f run c on.name on.taken on.free.code) on.free.open_to)

  module _ (nope : allowed f c ≡ false) where
    sooner : (k : ℕ) × (on.reaches.swaps ≡ suc k) × First (pick m f run) (allowed f) (pick m f run c) k
    sooner = later (pick m f run) (allowed f) on.reaches.swaps c on.reaches.first nope

    pub on_more : (undo : List ℕ → List ℕ) → Undone m f (pick m f run) undo → OnTheWay m allowed (pick m) f run (pick m f run c)
    on_more undo law = record {
      name = on.name;
      taken = on.taken;
      free = law.stays c on.free;
      reaches = let few = on.reaches.few in let e = sooner.1 in record { swaps = sooner.0; few = omega arith; first = sooner.2 };
    }

    pub goal_more : sought m allowed (pick m) f run (pick m f run c) ≡ sought m allowed (pick m) f run c
    goal_more =
        let few = on.reaches.few in
        let e = sooner.1 in
        seek_first (pick m f run) (allowed f) (denied_count m allowed f) sooner.0 (pick m f run c) sooner.2 (omega arith) ∙
        ap (λ n. times (pick m f run) n c) (sym e) ∙ sym (seek_first (pick m f run) (allowed f) (denied_count m allowed f) on.reaches.swaps c on.reaches.first few)

    pub less_left : swaps_left (pick m f run) (allowed f) (denied_count m allowed f) (pick m f run c) < swaps_left (pick m f run) (allowed f) (denied_count m allowed f) c
    less_left =
        let few = on.reaches.few in
        let e = sooner.1 in
        let here = left_first (pick m f run) (allowed f) (denied_count m allowed f) on.reaches.swaps c on.reaches.first few in
        let there = left_first (pick m f run) (allowed f) (denied_count m allowed f) sooner.0 (pick m f run c) sooner.2 (omega arith) in
        omega arith

  -- an allowed code is the one that is sought
  pub goal_all : allowed f c ≡ true → sought m allowed (pick m) f run c ≡ c
  goal_all yep =
      seek_first (pick m f run) (allowed f) (denied_count m allowed f) 0 c (record { reached = yep; before = λ k h. let never : ⊥ = omega arith in absurd never }) (omega arith)

-- a call of the walk, from the checks to the answer
same_err : (x y : Fault) → ◌≡◌ {A = Result Unit Fault} (Err x) (Err y) → x ≡ y
same_err x y e = cc

never_err : (x : Fault) → ◌≡◌ {A = Result Unit Fault} (Err x) (Ok tt) → ⊥
never_err x e = let z : ◌≡◌ {A = ℕ} 0 1 = cc in omega arith

refused_by : (r : Result Unit Fault) (says : Bool) (below : Option ℕ) (image : List ℕ) (e : Fault) → Err e ≡ unless_denied r says → unless_refused r (unless_barred (barred_by says below) image) ≡ refused e
refused_by (Ok u) true below image e h = absurd (never_err e h)
refused_by (Ok u) false below image e h = ap refused (sym (same_err e (own CodeBarred) h))
refused_by (Err fault) says below image e h = ap refused (sym (same_err e fault h))

passed_by : (r : Result Unit Fault) (says : Bool) → Ok tt ≡ unless_denied r says → (Ok tt ≡ r) × (says ≡ true)
passed_by (Ok u) true h = (refl, refl)
passed_by (Ok u) false h = absurd (never_err (own CodeBarred) (sym h))
passed_by (Err fault) says h = absurd (never_err fault (sym h))

up_refused : (below : Option ℕ) (y z c : List ℕ) (e : Fault) → Err e ≡ passed_up (answer (unless_barred below y)) → (unless_barred (barred_past below) z ≡ refused e) × (left (unless_barred below y) c ≡ c)
up_refused None y z c e h = absurd (never_err e h)
up_refused (Some d) y z c e h = (ap refused (sym (same_err e _ h)), refl)

up_open : (below : Option ℕ) (y : List ℕ) → Ok tt ≡ passed_up (answer (unless_barred below y)) → below ≡ None
up_open None y h = refl
up_open (Some d) y h = absurd (never_err _ (sym h))

module _ (m : Meaning) (allowed : Allowed) (pick : Meaning → Form → List ℕ → List ℕ → List ℕ) (f : Form) (run c : List ℕ) (taken : Bool) (et : taken ≡ (walking m allowed).taken f) where
  -- the map of the walk
  abbrev up : Form → List ℕ → List ℕ → List ℕ
  up = walked_by m allowed (pick m)

  pub call_refused : (e : Fault) → Err e ≡ admitted taken (allowed f c) f run c → swap (walking m allowed) up f run c ≡ refused e
  unfolding swap admitted
  call_refused e h =
      ap (λ t. unless_refused (checked t f run c) (unless_barred (barred_by (allowed f c) (m.barred f c)) (up f run c))) (sym et) ∙
      refused_by (checked taken f run c) (allowed f c) (m.barred f c) (up f run c) e h

  module _ (admits : Ok tt ≡ admitted taken (allowed f c) f run c) where
    checks : (Ok tt ≡ checked taken f run c) × (allowed f c ≡ true)
    unfolding admitted
    checks = passed_by (checked taken f run c) (allowed f c) admits

    passes : Passed taken f run c
    passes = passed taken f run c checks.0

    pub taken_below : m.taken f ≡ true
    taken_below = (and_parts (m.taken f) (few_codes f) (sym et ∙ passes.takes)).0

    -- what the call gives, and what the call below gives
    here : swap (walking m allowed) up f run c ≡ unless_barred (barred_past (m.barred f c)) (up f run c)
    here =
        swap_checked (walking m allowed) up f run c taken et checks.0 ∙ ap (λ b. unless_barred (barred_by b (m.barred f c)) (up f run c)) checks.1

    there : swap m (pick m) f run c ≡ unless_barred (m.barred f c) (pick m f run c)
    there = swap_checked m (pick m) f run c (m.taken f) refl (passing (m.taken f) f run c passes.name taken_below passes.code)

    module _ (r : Result Unit Fault) (value : r ≡ answer (swap m (pick m) f run c)) where
      pub call_barred : (e : Fault) → Err e ≡ passed_up r → swap (walking m allowed) up f run c ≡ refused e
      call_barred e h = here ∙ (up_refused (m.barred f c) (pick m f run c) (up f run c) c e (h ∙ ap passed_up (value ∙ ap answer there))).0

      pub code_kept : (e : Fault) → Err e ≡ passed_up r → left (swap m (pick m) f run c) c ≡ c
      code_kept e h = ap (λ o. left o c) there ∙ (up_refused (m.barred f c) (pick m f run c) (up f run c) c e (h ∙ ap passed_up (value ∙ ap answer there))).1

      module _ (ok : Ok tt ≡ passed_up r) where
        free : Free m f c
        free = record { code = passes.code; open_to = up_open (m.barred f c) (pick m f run c) (ok ∙ ap passed_up (value ∙ ap answer there)) }

        swapped_once : left (swap m (pick m) f run c) c ≡ pick m f run c
        swapped_once = ap (λ o. left o c) (there ∙ ap (λ b. unless_barred b (pick m f run c)) free.open_to)

        -- after the first swap the code is on the way, under the meaning that the call below left
        pub call_on : (undo : List ℕ → List ℕ) → Undone m f (pick m f run) undo → (now : Meaning) → now ≡ m → (next : List ℕ) → next ≡ left (swap m (pick m) f run c) c →
            OnTheWay now allowed (pick now) f run next
        call_on undo law now same next e =
            subst (λ (n : Meaning). OnTheWay n allowed (pick n) f run next) (sym same)
            (subst (λ (d : List ℕ). OnTheWay m allowed (pick m) f run d) (sym (e ∙ swapped_once))
            (record { name = passes.name; taken = taken_below; free = law.stays c free; reaches = reaches m allowed f (pick m f run) undo law c free checks.1 }))

        pub call_passed : swap (walking m allowed) up f run c ≡ swapped (up f run c)
        call_passed = here ∙ ap (λ b. unless_barred (barred_past b) (up f run c)) free.open_to

        -- and what is sought from there is the image
        pub call_found : (now : Meaning) → now ≡ m → (next last : List ℕ) → next ≡ left (swap m (pick m) f run c) c → last ≡ sought now allowed (pick now) f run next → last ≡ up f run c
        call_found now same next last e l =
            l ∙ ap (λ n. sought n allowed (pick n) f run next) same ∙ ap (sought m allowed (pick m) f run) (e ∙ swapped_once)
