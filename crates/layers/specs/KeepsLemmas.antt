-- The layer that keeps a prefix: its laws, and a call of it. Assumes nothing.
use Rattle.std.specs.Prelude.{◌≡◌, ℕ, ◌+◌, ◌-◌, ◌<◌, ◌≤◌, true, List, [], ◌++◌, length, take, drop, Some, None, Ok, Err, Option, Result, nat_lt, refl}
use Rattle.std.proofs.Common.{sym, ◌∙◌, arith, length-drop, take-append-drop, take_all}
use Rattle.std.proofs.Math.Path.{ap}
use Rattle.std.proofs.Math.ListN.{length-append}
use borrow.Rule.Slice.PartMut.{put_mid, post_of}
use Rattle.std.proofs.ByRecursion.{All-append, All-take}
use Rattle.std.proofs.lemmas.List.{take_at, drop_at, append-nil, drop_all, length-take-le}
use Rattle.std.proofs.lemmas.Bool.{and_parts, ltb-true}
use Rattle.faults.specs.declared.fault.Fault.{Fault}
use Rattle.alphabets.specs.Alphabets.{radix_of}
use Rattle.formats.specs.Codes.{Code}
use Rattle.formats.specs.Forms.{Form}
use Rattle.ciphers.specs.Meanings.{Meaning, Free, Undone, Laws}
use Rattle.ciphers.specs.declared.way.Way.{Way}
use Rattle.ciphers.specs.declared.way.Way.TheVariants.{Forward, Backward}
use Rattle.ciphers.specs.Ways.{map_of}
use Rattle.ciphers.specs.Swaps.{checked, refused, unless_barred, swap, answer, left, barred_past, passed_up}
use Rattle.ciphers.proofs.Checked.{passed, passing, swap_refused, swap_checked, open_below}
use Rattle.layers.specs.Keeps.{shorter, keeping}
use Rattle.layers.specs.LayerLaws.{KeepsPrefix}
use Rattle.layers.specs.Handed.{up_value}
use Rattle.layers.specs.Shortened.{rest_code}

module _ (p : ℕ) (m : Meaning) (f : Form) (longer : p < f.len) where
  front : (c : List ℕ) → length c ≡ f.len → length (take p c) ≡ p
  front c e = length-take-le p c (omega (arith, e, longer))

  part : (c : List ℕ) → Free (keeping p m) f c → Free m (shorter p f) (drop p c)
  part c r = record { code = rest_code p f c r.code; open_to = open_below (m.barred (shorter p f) (drop p c)) r.open_to }

  -- a front and a rest make a code
  whole_code : (c y : List ℕ) → Code f c → Code (shorter p f) y → Code f (take p c ++ y)
  unfolding shorter
  whole_code c y r s = record {
    long = length-append (take p c) y ∙ ap (λ n. n + length y) (front c r.long) ∙ ap (λ n. p + n) s.long ∙ omega (arith, longer);
    symbols = let P : ℕ → Type 0 = λ x. x < radix_of f.alphabet in All-append P (take p c) y (All-take P p c r.symbols) s.symbols;
  }

  whole : (c y : List ℕ) → Free (keeping p m) f c → Free m (shorter p f) y → Free (keeping p m) f (take p c ++ y)
  whole c y r s = record {
    code = whole_code c y r.code s.code;
    open_to = ap (λ z. barred_past (m.barred (shorter p f) z)) (drop_at (take p c) y p (front c r.code.long)) ∙ ap barred_past s.open_to;
  }

  kept_undone : (go undo : List ℕ → List ℕ) → Undone m (shorter p f) go undo → Undone (keeping p m) f (λ c. take p c ++ go (drop p c)) (λ c. take p c ++ undo (drop p c))
  kept_undone go undo law = record {
    stays = λ c r. whole c (go (drop p c)) r (law.stays (drop p c) (part c r));
    undoes = λ c r.
        let short = front c r.code.long in
        let y = go (drop p c) in
        ap (λ a. a ++ undo (drop p (take p c ++ y))) (take_at (take p c) y p short)
        ∙ ap (λ b. take p c ++ undo b) (drop_at (take p c) y p short)
        ∙ ap (λ b. take p c ++ b) (law.undoes (drop p c) (part c r))
        ∙ take-append-drop p c;
  }

pub keep_laws : (p : ℕ) (m : Meaning) → Laws m → Laws (keeping p m)
keep_laws p m laws = record {
  onward = λ f run t.
      let q = and_parts (nat_lt p f.len) (m.taken (shorter p f)) t in
      kept_undone p m f (ltb-true p f.len q.0) (m.forward (shorter p f) run) (m.backward (shorter p f) run) (laws.onward (shorter p f) run q.1);
  homeward = λ f run t.
      let q = and_parts (nat_lt p f.len) (m.taken (shorter p f)) t in
      kept_undone p m f (ltb-true p f.len q.0) (m.backward (shorter p f) run) (m.forward (shorter p f) run) (laws.homeward (shorter p f) run q.1);
}

-- what stays, and what is swapped
pub keeps_prefix : (p : ℕ) (m : Meaning) → KeepsPrefix p m
keeps_prefix p m = record {
  front = λ f run c h. take_at (take p c) (m.forward (shorter p f) run (drop p c)) p (length-take-le p c h);
  front_back = λ f run c h. take_at (take p c) (m.backward (shorter p f) run (drop p c)) p (length-take-le p c h);
  rest = λ f run c h. drop_at (take p c) (m.forward (shorter p f) run (drop p c)) p (length-take-le p c h);
  rest_back = λ f run c h. drop_at (take p c) (m.backward (shorter p f) run (drop p c)) p (length-take-le p c h);
  longer = λ f t. ltb-true p f.len (and_parts (nat_lt p f.len) (m.taken (shorter p f)) t).0;
  codes = λ f c code. rest_code p f c code;
}

-- the rest of a slice, as a call is handed it
rest_is : (p : ℕ) (c : List ℕ) → take (length c - p) (drop p c) ≡ drop p c
rest_is p c = take_all (length c - p) (drop p c) (omega (arith, length-drop p c))

-- a call that the checks refuse
pub kept_refused : (p : ℕ) (m : Meaning) (go : Form → List ℕ → List ℕ → List ℕ) (f : Form) (run c : List ℕ) → true ≡ (keeping p m).taken f → {fault : Fault} → Err fault ≡ checked true f run c
    → swap (keeping p m) (λ h r x. take p x ++ go (shorter p h) r (drop p x)) f run c ≡ refused fault
kept_refused p m go f run c takes {fault} e = swap_refused (keeping p m) (λ h r x. take p x ++ go (shorter p h) r (drop p x)) f run c true takes fault e

-- a prefix fits into a code that passes the checks
pub fits : (p : ℕ) (m : Meaning) (f : Form) (run c : List ℕ) → true ≡ (keeping p m).taken f → Ok tt ≡ checked true f run c → p ≤ length c
fits p m f run c takes ok =
    let q = and_parts (nat_lt p f.len) (m.taken (shorter p f)) (sym takes) in
    omega (arith, ltb-true p f.len q.0, (passed true f run c ok).code.long)

-- a call on a code that passes the checks, from what the cipher below promised of the rest
module _ (p : ℕ) (m : Meaning) (go : Form → List ℕ → List ℕ → List ℕ) (f : Form) (run c : List ℕ) (takes : true ≡ (keeping p m).taken f) (ok : Ok tt ≡ checked true f run c)
    (g : Form) (is : g ≡ shorter p f) where
  abbrev whole_go : Form → List ℕ → List ℕ → List ℕ
  whole_go h r x = take p x ++ go (shorter p h) r (drop p x)

  abbrev barred : Option ℕ
  barred = m.barred (shorter p f) (drop p c)

  abbrev image : List ℕ
  image = go (shorter p f) run (drop p c)

  abbrev slice : List ℕ
  slice = take (length c - p) (drop p c)

  above : swap (keeping p m) whole_go f run c ≡ unless_barred (barred_past barred) (take p c ++ image)
  above = swap_checked (keeping p m) whole_go f run c true takes ok

  below : swap m go g run slice ≡ unless_barred barred image
  below =
      let q = and_parts (nat_lt p f.len) (m.taken (shorter p f)) (sym takes) in
      let seen = passed true f run c ok in
      ap (λ x. swap m go x run slice) is
      ∙ ap (swap m go (shorter p f) run) (rest_is p c)
      ∙ swap_checked m go (shorter p f) run (drop p c) true (sym q.1) (passing true (shorter p f) run (drop p c) seen.name refl (rest_code p f c seen.code))

  pub kept_value : {result : Result Unit Fault} → result ≡ answer (swap m go g run slice) → passed_up result ≡ answer (swap (keeping p m) whole_go f run c)
  kept_value = up_value barred image (take p c ++ image) above below

  up_left : (b : Option ℕ) (y none : List ℕ) → none ≡ [] → take p c ++ (left (unless_barred b y) (drop p c) ++ none) ≡ left (unless_barred (barred_past b) (take p c ++ y)) c
  up_left None y none e = ap (λ r. take p c ++ (y ++ r)) e ∙ ap (λ z. take p c ++ z) (append-nil y)
  up_left (Some d) y none e = ap (λ r. take p c ++ (drop p c ++ r)) e ∙ ap (λ z. take p c ++ z) (append-nil (drop p c)) ∙ take-append-drop p c

  pub kept_after : {code : List ℕ} → code ≡ left (swap m go g run slice) slice → put_mid p (length c - p) c code ≡ left (swap (keeping p m) whole_go f run c) c
  kept_after after =
      ap (λ x. take p c ++ (x ++ post_of p (length c - p) c)) (after ∙ ap (λ o. left o slice) below ∙ ap (left (unless_barred barred image)) (rest_is p c))
      ∙ up_left barred image (post_of p (length c - p) c) (drop_all (length c - p) (drop p c) (omega (arith, length-drop p c)))
      ∙ sym (ap (λ o. left o c) above)

-- each way, the map of the layer keeps the prefix
pub kept_either : (p : ℕ) (m : Meaning) (way : Way) (f : Form) (run c : List ℕ) →
    swap (keeping p m) (map_of (keeping p m) way) f run c ≡ swap (keeping p m) (λ h r x. take p x ++ map_of m way (shorter p h) r (drop p x)) f run c
kept_either p m Forward f run c = refl
kept_either p m Backward f run c = refl
