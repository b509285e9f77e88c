use Rattle.std.proofs.Common.{ℕ, ◌+◌, ◌<◌, length, get_or, ap, ◌∙◌, arith}
use Rattle.std.proofs.ByRecursion.{All-set}
use Rattle.pools.specs.Rows.{rows_of}
use Rattle.ciphers.specs.Layers.{image, plus, less}
use Rattle.ciphers.proofs.Moves.{encrypt_more, encrypt_end, oldest_next, older_next, newer_next}
use Rattle.ciphers.proofs.window.encrypt.Goals as goal

pub loop-k-preserved : goal.loop-k-preserved
loop-k-preserved c =
    let a = c.args.boxes.radix in
    let boxes = rows_of a 256 c.args.boxes.table.now in
    let r = c.args.reach in
    let k = c.loop-k.k in
    let buf = c.loop-k.window in
    let i = get_or c.args.indices.now k 0 in
    let symbol = c.forward_symbol-symbol.result in
    let some : 1 < r.len = omega (arith, r.near.some, r.near.behind) in
    let room : k + r.len < length buf = omega (arith, c.loop-k-test.true, c.loop-k.auto.window, c.requires.room.0) in
    let value = c.forward_symbol-symbol.ensures.value ∙ ap (λ b. image boxes i (less a r.w (image boxes i (plus a (get_or buf k 0) b)) (get_or buf (k + r.w) 0))) c.symbol_of_three-behind.ensures in
    record {
      symbols = All-set (λ (x : ℕ). x < a) buf (k + r.len) symbol c.forward_symbol-symbol.ensures.small c.loop-k.invariant.symbols;
      core = encrypt_more boxes a r.len r.w r.v r.near c.args.indices.now buf k symbol c.loop-k-test.true (omega (arith, c.loop-k.auto.window, c.requires.room.0)) value ∙ c.loop-k.invariant.core;
      first = ap (λ x. x.first) c.then-recent.ensures ∙ newer_next r.len k symbol buf some room;
      second = ap (λ x. x.second) c.then-recent.ensures ∙ (c.loop-k.invariant.first ∙ older_next r.len k symbol buf some room);
      third = λ h. ap (λ x. x.third) c.then-recent.ensures ∙ (c.loop-k.invariant.second ∙ oldest_next r.len k symbol buf some room h);
    }

pub returns : goal.returns
returns c =
    let r = c.args.reach in
    encrypt_end (rows_of c.args.boxes.radix 256 c.args.boxes.table.now) c.args.boxes.radix r.len r.w r.v r.near c.args.indices.now c.loop-k.window _ c.loop-k.k c.loop-k-test.false c.loop-k.auto.k-end c.loop-k.invariant.core
