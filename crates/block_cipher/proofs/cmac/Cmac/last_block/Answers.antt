use Rattle.std.proofs.Common.{◌≡◌, ◌≤◌, ◌<◌, length, take, ◌∙◌, arith}
use Rattle.std.proofs.lemmas.List.{take_all}
use Rattle.block_cipher.specs.MacKey.{mac_key_of}
use Rattle.block_cipher.proofs.Digits.{little_xor}
use Rattle.block_cipher.proofs.Macs.{last_complete, last_padded}
use Rattle.block_cipher.proofs.cmac.Cmac.last_block.Goals as goal

pub returns-in-Some : goal.returns-in-Some
unfolding mac_key_of
returns-in-Some c =
    let rest = c.args.rest.now in
    let enough : 16 ≤ length rest = c.in-Some.ensures.cases.enough in
    let same : c.in-Some.block.now ≡ take 16 rest = c.in-Some.ensures.cases.same in
    last_complete _ _ _ rest (c.load.ensures ∙ c.args.self.now.first) c.args.self.now.second _ _ (omega (arith, enough, c.requires)) (c.load-in-Some.ensures ∙ same ∙ take_all 16 rest c.requires) (little_xor c.load.result c.load-in-Some.result)

pub returns-in-None : goal.returns-in-None
unfolding mac_key_of
returns-in-None c =
    let short : length c.args.rest.now < 16 = c.in-None.ensures.cases in
    last_padded _ _ _ c.args.rest.now c.args.self.now.first (c.load-in-None.ensures ∙ c.args.self.now.second) _ _ (λ e. omega (arith, e, short)) (c.load-in-None-2.ensures ∙ c.pad.ensures) (little_xor c.load-in-None.result c.load-in-None-2.result)
