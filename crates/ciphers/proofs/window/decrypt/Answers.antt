use Rattle.std.proofs.Common.{◌≡◌, ℕ, ◌+◌, ◌-◌, ◌<◌, ◌≤◌, length, get_or, refl, ap, ◌∙◌, arith}
use Rattle.std.proofs.ByRecursion.{All-set}
use Rattle.pools.specs.Rows.{rows_of}
use Rattle.ciphers.specs.Layers.{image, minus, more}
use Rattle.ciphers.proofs.Moves.{decrypt_down, decrypt_start, first_next, second_next, third_next}
use Rattle.ciphers.proofs.window.decrypt.Goals as goal

pub loop-k-init : goal.loop-k-init
loop-k-init c =
    let r = c.args.reach in
    let n = length c.args.indices.now in
    record {
      symbols = c.requires.symbols;
      core = decrypt_start (rows_of c.args.boxes.radix 256 c.args.boxes.table.now) c.args.boxes.radix r.len r.w r.v r.near c.args.indices.now _;
      first = refl;
      second = refl;
      third = λ h. let two : n + c.min.result ≡ n + 2 = omega (arith, c.min.ensures, h) in ap (λ k. get_or c.args.window.now k 0) two;
    }

pub loop-k-preserved : goal.loop-k-preserved
loop-k-preserved c =
    let a = c.args.boxes.radix in
    let boxes = rows_of a 256 c.args.boxes.table.now in
    let r = c.args.reach in
    let k = c.loop-k.k in
    let buf = c.loop-k.window in
    let i = get_or c.args.indices.now (k - 1) 0 in
    let symbol = c.backward_symbol-symbol.result in
    let below : k ≤ length c.args.indices.now = omega (arith, c.loop-k.auto.k) in
    let room : k ≤ length buf = omega (arith, below, c.loop-k.auto.window, c.requires.room.0) in
    let value = c.backward_symbol-symbol.ensures.value ∙ ap (λ x. minus a (image boxes i (more a r.w (image boxes i (get_or buf (k - 1 + r.len) 0)) x)) (get_or buf (k - 1 + (r.len - r.v)) 0)) c.symbol-ahead.ensures in
    record {
      symbols = All-set (λ (x : ℕ). x < a) buf (k - 1) symbol c.backward_symbol-symbol.ensures.small c.loop-k.invariant.symbols;
      core = decrypt_down boxes a r.len r.w r.v r.near c.args.indices.now buf _ k symbol c.loop-k-test.true below (omega (arith, c.loop-k.auto.window, c.requires.room.0)) value c.loop-k.invariant.core;
      first = ap (λ x. x.first) c.then-recent.ensures ∙ first_next k symbol buf c.loop-k-test.true room;
      second = ap (λ x. x.second) c.then-recent.ensures ∙ (c.loop-k.invariant.first ∙ second_next k symbol buf c.loop-k-test.true room);
      third = λ h. ap (λ x. x.third) c.then-recent.ensures ∙ (c.loop-k.invariant.second ∙ third_next k symbol buf c.loop-k-test.true room);
    }
