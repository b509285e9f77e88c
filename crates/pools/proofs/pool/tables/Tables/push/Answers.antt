use Rattle.std.proofs.Common.{◌≡◌, ℕ, List, ◌<◌, length, ap, ◌∙◌, arith}
use Rattle.std.proofs.lemmas.List.{length-take-le}
use Rattle.coins.specs.declared.sbox.Sbox.{Sbox}
use Rattle.coins.specs.Boxes.{Permutation}
use Rattle.coins.specs.Sboxes.{entries, inverses}
use Rattle.pools.specs.declared.pool.tables.Tables.{Tables}
use Rattle.pools.specs.Rows.{written}
use Rattle.pools.proofs.Fills.{Grown, grown}
use Rattle.pools.proofs.Rows.{entries_bytes}
use Rattle.pools.proofs.pool.tables.Tables.push.Goals as goal

pub write_row-requires : goal.write_row-requires
write_row-requires c =
    let s = c.args.self.now in
    let b = c.args.sbox.now in
    let p = c.images.ensures.permutes in
    record {
      row = c.requires.room;
      most = omega (arith, p.long);
      bytes = entries_bytes b.radix c.images.result.now p.long (omega arith) p.inside;
    }

pub write_row-requires-2 : goal.write_row-requires-2
write_row-requires-2 c =
    let b = c.args.sbox.now in
    let long : length c.preimages.result.now ≡ b.radix =
    ap length c.preimages.ensures.value ∙ length-take-le b.radix b.inverse (omega arith) in
    record {
      row = c.requires.room;
      most = omega arith;
      bytes = entries_bytes b.radix c.preimages.result.now long (omega arith) (λ x h. (c.preimages.ensures.back x h).0);
    }

-- what the writes made of the tables
grew : (b : Sbox) (t : Tables) (forward inverse images preimages : List ℕ) → t.count < 256 → b.radix ≡ t.radix →
    images ≡ entries b → Permutation b.radix images → preimages ≡ inverses b →
    forward ≡ written (length images) t.count t.forward images → inverse ≡ written (length preimages) t.count t.inverse preimages →
    Grown t.radix t.count t.forward forward inverse (entries b)
grew b t forward inverse images preimages room radix there permutes back put put-inverse =
    let long : length preimages ≡ b.radix = ap length back ∙ length-take-le b.radix b.inverse (omega (arith, b.most, b.whole_inverse)) in
    grown b t.count t.forward t.inverse forward inverse room t.whole t.whole_inverse
    (put ∙ ap (λ a. written a t.count t.forward images) permutes.long ∙ ap (written b.radix t.count t.forward) there)
    (put-inverse ∙ ap (λ a. written a t.count t.inverse preimages) long ∙ ap (written b.radix t.count t.inverse) back)
    t.radix radix t.most t.filled

pub invariant_of-self-clause-filled : goal.invariant_of-self-clause-filled
invariant_of-self-clause-filled c =
    (grew c.args.sbox.now c.args.self.now c.write_row.new.table c.write_row-2.new.table c.images.result.now c.preimages.result.now c.requires.room c.requires.radix
    c.images.ensures.value c.images.ensures.permutes c.preimages.ensures.value c.write_row.ensures c.write_row-2.ensures).0

pub returns-clause-rows : goal.returns-clause-rows
returns-clause-rows c =
    (grew c.args.sbox.now c.args.self.now c.write_row.new.table c.write_row-2.new.table c.images.result.now c.preimages.result.now c.requires.room c.requires.radix
    c.images.ensures.value c.images.ensures.permutes c.preimages.ensures.value c.write_row.ensures c.write_row-2.ensures).1
