use Rattle.std.proofs.Common.{ap, ◌∙◌}
use Rattle.block_cipher.specs.MacKey.{mac_key_of}
use Rattle.keys.specs.Encodings.{of_pool, encode}
use Rattle.keys.proofs.Derives.{derives}
use Rattle.keys.proofs.derive.derive_pool.Goals as goal

pub returns : goal.returns
returns c =
    derives (mac_key_of c.args.mac.now) (of_pool c.args.radix) _ _ _ _ _
    (c.encode_pool-first.ensures ∙ ap (λ x. encode 0 (of_pool x)) c.from.ensures)
    (c.encode_pool-second.ensures ∙ ap (λ x. encode 1 (of_pool x)) c.from-2.ensures)
    c.tag.ensures c.tag-2.ensures c.join.ensures
