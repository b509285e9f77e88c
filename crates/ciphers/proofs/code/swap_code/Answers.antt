use Rattle.std.proofs.Common.{◌≡◌, ℕ, ◌+◌, ◌-◌, ◌<◌, ◌≤◌, length, take, drop, sym, ap, ◌∙◌, subst, arith}
use Rattle.std.specs.List.{AllByRecursion}
use Rattle.pools.specs.Rows.{rows_of}
use Rattle.ciphers.specs.Cores.{core}
use Rattle.ciphers.specs.Layers.{core_encrypt, core_decrypt}
use Rattle.ciphers.proofs.Opened.{window_long, window_code, window_symbols, same_core}
use Rattle.ciphers.proofs.code.swap_code.Goals as goal

pub opened-window-requires : goal.opened-window-requires
opened-window-requires c = (omega (arith, c.requires.symbols.long, c.args.reach.short), omega arith)

pub opened-window-requires-in-Backward : goal.opened-window-requires-in-Backward
opened-window-requires-in-Backward c = (omega (arith, c.requires.symbols.long, c.args.reach.short), c.requires.few)

pub encrypt-requires : goal.encrypt-requires
encrypt-requires c =
    let p = c.args.pool.now in
    let code = c.args.code.now in
    let a = c.of.result.radix in
    let radix : a ≡ p.radix = c.of.ensures.radix in
    let room : 0 + length code ≤ 2080 = omega (arith, c.requires.symbols.long, c.args.reach.short) in
    record {
      room = (omega (arith, window_long code c.opened-window.result 0 c.opened-window.ensures room, c.requires.few, c.args.reach.short), c.requires.few);
      symbols = window_symbols code c.opened-window.result 0 c.opened-window.ensures room a (omega (arith, radix, p.least)) (subst (λ (n : ℕ). AllByRecursion (λ x. x < n) code) (sym radix) c.requires.symbols.each);
    }

pub returns-in-Forward : goal.returns-in-Forward
returns-in-Forward c =
    let p = c.args.pool.now in
    let r = c.args.reach in
    let b = c.of.result in
    let code = c.args.code.now in
    let is = c.args.indices.now in
    let n = length is in
    let room : 0 + length code ≤ 2080 = omega (arith, c.requires.symbols.long, r.short) in
    let part : n + r.len - n ≡ r.len = omega arith in
    let out : c.copy_from_slice.new.self ≡ take r.len (drop n c.encrypt.new.window) = c.copy_from_slice.ensures.after ∙ ap (λ k. take k (drop n c.encrypt.new.window)) part in
    let held : take r.len c.opened-window.result ≡ code = ap (λ k. take k c.opened-window.result) (sym c.requires.symbols.long) ∙ window_code code c.opened-window.result 0 c.opened-window.ensures room in
    out
    ∙ (c.encrypt.ensures
    ∙ (ap (core_encrypt (rows_of b.radix 256 b.table.now) b.radix r.w r.v is) held
    ∙ same_core b.radix p.radix c.of.ensures.radix b.table.now p.forward c.of.ensures.table (λ a t. core_encrypt (rows_of a 256 t) a r.w r.v is code)
    ∙ ap (λ x. core x p r.w r.v is code) (sym c.in-Forward.is)))

pub decrypt-requires : goal.decrypt-requires
decrypt-requires c =
    let p = c.args.pool.now in
    let code = c.args.code.now in
    let a = c.inverses.result.radix in
    let n = length c.args.indices.now in
    let radix : a ≡ p.radix = c.inverses.ensures.radix in
    let room : n + length code ≤ 2080 = omega (arith, c.requires.symbols.long, c.args.reach.short, c.requires.few) in
    record {
      room = (omega (arith, window_long code c.opened-window-in-Backward.result n c.opened-window-in-Backward.ensures room, c.requires.few, c.args.reach.short), c.requires.few);
      symbols = window_symbols code c.opened-window-in-Backward.result n c.opened-window-in-Backward.ensures room a (omega (arith, radix, p.least)) (subst (λ (n : ℕ). AllByRecursion (λ x. x < n) code) (sym radix) c.requires.symbols.each);
    }

pub returns-in-Backward : goal.returns-in-Backward
returns-in-Backward c =
    let p = c.args.pool.now in
    let r = c.args.reach in
    let b = c.inverses.result in
    let code = c.args.code.now in
    let is = c.args.indices.now in
    let n = length is in
    let room : n + length code ≤ 2080 = omega (arith, c.requires.symbols.long, r.short, c.requires.few) in
    let held : take r.len (drop n c.opened-window-in-Backward.result) ≡ code = ap (λ k. take k (drop n c.opened-window-in-Backward.result)) (sym c.requires.symbols.long) ∙ window_code code c.opened-window-in-Backward.result n c.opened-window-in-Backward.ensures room in
    c.copy_from_slice-in-Backward.ensures.after
    ∙ (c.decrypt.ensures
    ∙ (ap (core_decrypt (rows_of b.radix 256 b.table.now) b.radix r.w r.v is) held
    ∙ same_core b.radix p.radix c.inverses.ensures.radix b.table.now p.inverse c.inverses.ensures.table (λ a t. core_decrypt (rows_of a 256 t) a r.w r.v is code)
    ∙ ap (λ x. core x p r.w r.v is code) (sym c.in-Backward.is)))
