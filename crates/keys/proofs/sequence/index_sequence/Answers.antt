use Rattle.std.proofs.Common.{Err, sym, ap, ◌∙◌}
use Rattle.std.proofs.lemmas.Result.{err_from_is_err_and}
use Rattle.block_cipher.specs.MacKey.{mac_key_of}
use Rattle.keys.proofs.Ranges.{refused_range, refused_name, given}
use Rattle.keys.proofs.sequence.index_sequence.Goals as goal

pub returns-then-not-is_sized : goal.returns-then-not-is_sized
returns-then-not-is_sized c =
    let outcome = refused_range (mac_key_of c.args.mac.now) c.args.sequence c.args.radix c.args.len c.args.run.now c.args.indices.now (sym c.is_sized.ensures ∙ c.if-not-is_sized.true) in
    record { value = ap Err c.own.ensures ∙ outcome.0; after = outcome.1; cleared = c.drop-key.ensures }

pub returns-in_err-run-clause-value : goal.returns-in_err-run-clause-value
returns-in_err-run-clause-value c =
    let p = err_from_is_err_and c.from_residual.result c.from_residual.ensures.1 in
    let outcome = refused_name (mac_key_of c.args.mac.now) c.args.sequence c.args.radix c.args.len c.args.run.now c.args.indices.now (sym c.is_sized.ensures ∙ c.if-not-is_sized.false) c.in_err-run.ensures.1 in
    rw (p.1, p.2) (ap Err c.in_err-run.ensures.0 ∙ outcome.0)

pub returns-in_err-run-clause-after : goal.returns-in_err-run-clause-after
returns-in_err-run-clause-after c =
    (refused_name (mac_key_of c.args.mac.now) c.args.sequence c.args.radix c.args.len c.args.run.now c.args.indices.now (sym c.is_sized.ensures ∙ c.if-not-is_sized.false) c.in_err-run.ensures.1).1

pub returns : goal.returns
returns c =
    let outcome = given (mac_key_of c.args.mac.now) c.args.sequence c.args.radix c.args.len c.args.run.now c.args.indices.now (sym c.is_sized.ensures ∙ c.if-not-is_sized.false) c.in_ok-run.ensures.1 _ _ _ _ c.from.ensures c.in_ok-run.ensures.0 c.derive_sequence.ensures c.write_indices.ensures in
    record { value = outcome.0; after = outcome.1; cleared = c.drop-key-2.ensures }
