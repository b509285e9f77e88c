use Rattle.std.proofs.Common.{◌≡◌, ℕ, ◌+◌, ◌<◌, true, length, get_or, set, Some, sym, ap, ◌∙◌, subst, arith}
use Rattle.std.proofs.lemmas.List.{length-set}
use Rattle.std.proofs.lemmas.List.Edits.{fill_by_more}
use Rattle.std.proofs.lemmas.Bool.{cond-true, and_from, le-leb}
use Rattle.coins.specs.Boxes.{permutes}
use Rattle.coins.proofs.Boxes.{invert_more, tables_there, tables_back, tables_front}
use Rattle.coins.proofs.Tells.{tells}
use Rattle.coins.proofs.sbox.Sbox.from_entries.Goals as goal

pub loop-x-preserved : goal.loop-x-preserved
loop-x-preserved c =
    let t = c.args.entries.now in
    let x = c.loop-x.x in
    let told : permutes t ≡ true = sym c.if-not-is_permutation.ensures in
    let f = fill_by_more (λ k. get_or t k 0) c.loop-x.forward x 0 (omega arith) c.loop-x.invariant.images in
    let g = invert_more (length t) t ((tells t).sound told) c.loop-x.inverse x (omega arith) (omega arith) c.loop-x.invariant.places in
    record {
      whole = simp length-set (omega arith);
      whole_inverse = simp length-set (omega arith);
      images = subst (λ (n : ℕ). (k : ℕ) → k < x + 1 → get_or (set c.loop-x.forward x n) k 0 ≡ get_or t k 0) (sym c.from.ensures) f;
      places = subst (λ (n : ℕ). (k : ℕ) → k < x + 1 → get_or (set c.loop-x.inverse n x) (get_or t k 0) 0 ≡ k) (sym c.from-in-loop-x.ensures) g;
    }

pub invariant_of-result : goal.invariant_of-result
invariant_of-result c =
    let t = c.args.entries.now in
    let told : permutes t ≡ true = sym c.if-not-is_permutation.ensures in
    let images : (k : ℕ) → k < length t → get_or c.loop-x.forward k 0 ≡ get_or t k 0 = λ k h. c.loop-x.invariant.images k (omega arith) in
    let places : (k : ℕ) → k < length t → get_or c.loop-x.inverse (get_or t k 0) 0 ≡ k = λ k h. c.loop-x.invariant.places k (omega arith) in
    record {
      least = c.if-entries-lt2.false;
      most = c.if-entries-gt4096.false;
      whole = c.loop-x.invariant.whole;
      whole_inverse = c.loop-x.invariant.whole_inverse;
      there = tables_there (length t) t ((tells t).sound told) c.loop-x.forward c.loop-x.inverse images places;
      back = tables_back (length t) t ((tells t).sound told) c.loop-x.forward c.loop-x.inverse images places;
    }

pub returns : goal.returns
returns c =
    let t = c.args.entries.now in
    let told : permutes t ≡ true = sym c.if-not-is_permutation.ensures in
    let images : (k : ℕ) → k < length t → get_or c.loop-x.forward k 0 ≡ get_or t k 0 = λ k h. c.loop-x.invariant.images k (omega arith) in
    let places : (k : ℕ) → k < length t → get_or c.loop-x.inverse (get_or t k 0) 0 ≡ k = λ k h. c.loop-x.invariant.places k (omega arith) in
    ap Some (tables_front (length t) t ((tells t).sound told) c.loop-x.forward c.loop-x.inverse images places (omega arith)) ∙
    sym (cond-true _ _ _ (and_from _ _ (and_from _ _ (le-leb 2 (length t) c.if-entries-lt2.false) (le-leb (length t) 4096 c.if-entries-gt4096.false)) told))
