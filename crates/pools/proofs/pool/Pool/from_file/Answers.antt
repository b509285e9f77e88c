use Rattle.std.proofs.Common.{◌≡◌, ℕ, ◌+◌, ◌*◌, ◌<◌, ◌++◌, ◌∷◌, [], List, length, drop, Some, Ok, Err, Option, Bor, sym, ap, ◌∙◌, subst, arith}
use Rattle.std.specs.Iterator.Adapters.{enumerate_source, enumerate_count}
use Rattle.std.specs.Option.{option_map, option_copied}
use Rattle.std.specs.Slice.Iter.{chunks_exact_rest, chunks_exact_size}
use Rattle.std.proofs.lemmas.List.{length-drop}
use Rattle.faults.specs.declared.fault.Cause.TheVariants.{PoolRow}
use Rattle.faults.specs.Faults.{own, placed}
use Rattle.coins.specs.Sboxes.{entries}
use Rattle.coins.proofs.Held.{given_some, given_none}
use Rattle.coins.proofs.Passes.{lacking}
use Rattle.pools.specs.File.{parts, cut, radix_of, first_bad, unless}
use Rattle.pools.specs.Pools.{held}
use Rattle.pools.specs.Rows.{rows_of}
use Rattle.pools.proofs.File.{Form, Reading, parts_told, parts_missing, reading_form, reading_start, reading_bad, reading_more, reading_end, reading_boxes, reading_good}
use Rattle.pools.proofs.pool.Pool.from_file.Goals as goal

-- what the parts are
told : (bytes : List ℕ) (o : Option (ℕ × Bor (List ℕ))) (r : ℕ) (rows : Bor (List ℕ)) → o ≡ Some (r, rows) → option_map {U = ℕ × List ℕ} (λ p. (p.0, p.1.now)) o ≡ parts bytes →
    Form bytes × (r ≡ radix_of bytes) × (rows.now ≡ drop 6 bytes)
told bytes o r rows e h = parts_told bytes rows.now r (ap (option_map {U = ℕ × List ℕ} (λ p. (p.0, p.1.now))) (sym e) ∙ h)

pub new-tables-requires-clause-least : goal.new-tables-requires-clause-least
new-tables-requires-clause-least c =
    let t = told c.args.bytes.now c.parts.result c.in_ok-radix.radix c.in_ok-radix.rows c.in_ok-radix.ensures.ok_part c.parts.ensures in
    omega (arith, t.0.least, t.1)

pub new-tables-requires-clause-most : goal.new-tables-requires-clause-most
new-tables-requires-clause-most c =
    let t = told c.args.bytes.now c.parts.result c.in_ok-radix.radix c.in_ok-radix.rows c.in_ok-radix.ensures.ok_part c.parts.ensures in
    omega (arith, t.0.most, t.1)

pub loop-n-init : goal.loop-n-init
loop-n-init c =
    let t = told c.args.bytes.now c.parts.result c.in_ok-radix.radix c.in_ok-radix.rows c.in_ok-radix.ensures.ok_part c.parts.ensures in
    let at = c.into_iter-n-iterator.ensures.into_iter_gives in
    let source = ap enumerate_source at ∙ c.enumerate-n-items.ensures.source in
    let size : length (drop 6 c.args.bytes.now) ≡ 256 * c.in_ok-radix.radix = simp length-drop (omega (arith, t.0.size, t.1)) in
    record {
      read =
          reading_start c.in_ok-radix.radix c.new-tables.result.radix c.new-tables.result.count (drop 6 c.args.bytes.now)
          (chunks_exact_rest (enumerate_source c.into_iter-n-iterator.result)) c.new-tables.result.forward
          c.new-tables.ensures.1 (ap chunks_exact_rest source ∙ c.chunks_exact.ensures.rest ∙ t.2) size;
      size = ap chunks_exact_size source ∙ c.chunks_exact.ensures.size ∙ c.from.ensures;
      place = ap enumerate_count at ∙ c.enumerate-n-items.ensures.count ∙ sym c.new-tables.ensures.1;
      same = c.new-tables.ensures.0;
    }

pub returns-in_err-radix-clause-value : goal.returns-in_err-radix-clause-value
returns-in_err-radix-clause-value c =
    let l = lacking c.parts.result c.own.result c.from_residual.result c.in_err-radix.field-0.0 c.in_err-radix.ensures.value c.from_residual.ensures.1 in
    ap held (l.1 ∙ ap Err c.own.ensures) ∙ sym (parts_missing c.args.bytes.now (ap (option_map {U = ℕ × List ℕ} (λ p. (p.0, p.1.now))) l.0 ∙ c.parts.ensures))

pub returns-in_err-sbox-clause-value : goal.returns-in_err-sbox-clause-value
returns-in_err-sbox-clause-value c =
    let t = told c.args.bytes.now c.parts.result c.in_ok-radix.radix c.in_ok-radix.rows c.in_ok-radix.ensures.ok_part c.parts.ensures in
    let h = c.in-Some.ensures.steps in
    let a = c.in_ok-radix.radix in
    let inv = c.loop-n.invariant in
    let row = c.in-Some.row.now in
    let long : length row ≡ a = h.0.1.1 ∙ inv.size in
    let l =
    lacking c.as_ref.result c.at.result c.from_residual-in_err-sbox.result c.in_err-sbox.field-0.0 c.in_err-sbox.ensures.value c.from_residual-in_err-sbox.ensures.1 in
    let bad = given_none row (omega (arith, t.0.least, t.1)) (omega (arith, t.0.most, t.1)) (ap (option_map entries) (ap option_copied l.0 ∙ c.as_ref.ensures.value) ∙ c.from_entries-given.ensures) in
    let found = reading_bad inv.read (omega (arith, t.0.least, t.1)) row (chunks_exact_rest (enumerate_source c.next.new.self)) h.0.1.0 long bad in
    let rows = cut a 256 (drop 6 c.args.bytes.now) in
    let there : (k : ℕ) → k ≡ c.loop-n.tables.count → placed c.own-in-loop-n.result k ≡ placed (own PoolRow) c.loop-n.tables.count =
    λ k e. ap (λ f. placed f k) c.own-in-loop-n.ensures ∙ ap (placed (own PoolRow)) e in
    ap held (l.1 ∙ ap Err (c.at.ensures ∙ there _ (omega (arith, h.1, inv.place)))) ∙
    sym (ap (λ o. unless o rows) found) ∙
    ap (λ a. unless (first_bad 0 (cut a 256 (drop 6 c.args.bytes.now))) (cut a 256 (drop 6 c.args.bytes.now))) t.1 ∙
    sym (reading_form c.args.bytes.now t.0)

pub loop-n-preserved : goal.loop-n-preserved
loop-n-preserved c =
    let t = told c.args.bytes.now c.parts.result c.in_ok-radix.radix c.in_ok-radix.rows c.in_ok-radix.ensures.ok_part c.parts.ensures in
    let h = c.in-Some.ensures.steps in
    let a = c.in_ok-radix.radix in
    let inv = c.loop-n.invariant in
    let row = c.in-Some.row.now in
    let long : length row ≡ a = h.0.1.1 ∙ inv.size in
    let b = c.in_ok-sbox.sbox.now in
    let good = given_some row (entries b) (ap (option_map entries) (ap option_copied (sym c.in_ok-sbox.ensures.ok_part) ∙ c.as_ref.ensures.value) ∙ c.from_entries-given.ensures) in
    let left = chunks_exact_rest (enumerate_source c.next.new.self) in
    let more = reading_more inv.read (omega (arith, t.0.least, t.1)) row left h.0.1.0 long good.0 in
    let u = c.loop-n.tables in
    record {
      read =
          subst (λ (n : ℕ). Reading a (drop 6 c.args.bytes.now) n (rows_of c.push.new.self.radix c.push.new.self.count c.push.new.self.forward) left) (sym c.push.ensures.more)
          (subst (λ (l : List (List ℕ)). Reading a (drop 6 c.args.bytes.now) (u.count + 1) l left)
          (ap (λ r. rows_of u.radix u.count u.forward ++ r ∷ []) (sym good.1) ∙ sym c.push.ensures.rows) more);
      size = h.0.0 ∙ inv.size;
      place = h.2 ∙ ap (λ n. n + 1) inv.place ∙ sym c.push.ensures.more;
      same = c.push.ensures.same ∙ inv.same;
    }

pub returns-clause-value : goal.returns-clause-value
returns-clause-value c =
    let t = told c.args.bytes.now c.parts.result c.in_ok-radix.radix c.in_ok-radix.rows c.in_ok-radix.ensures.ok_part c.parts.ensures in
    let h = c.in-None.ensures.steps in
    let a = c.in_ok-radix.radix in
    let inv = c.loop-n.invariant in
    let u = c.loop-n.tables in
    let bytes = drop 6 c.args.bytes.now in
    let some : 0 < a = omega (arith, t.0.least, t.1) in
    let short : length (chunks_exact_rest (enumerate_source c.loop-n.n-iterator)) < a = omega (arith, h.0.1.0, inv.size) in
    let end = reading_end inv.read some short in
    let boxes = ap (λ n. rows_of u.radix n u.forward) (sym end) ∙ reading_boxes inv.read some short in
    ap Ok (c.pool.ensures.boxes ∙ boxes) ∙ sym (ap (λ o. unless o (cut a 256 bytes)) (reading_good inv.read some short)) ∙
    ap (λ a. unless (first_bad 0 (cut a 256 bytes)) (cut a 256 bytes)) t.1 ∙ sym (reading_form c.args.bytes.now t.0)
