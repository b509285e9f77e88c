use Rattle.std.proofs.Common.{◌≡◌, [], map, get_or, take, sym, ap, ◌∙◌, subst}
use Rattle.std.proofs.lemmas.List.{get_or-map}
use Rattle.formats.specs.Forms.{layers_of}
use Rattle.formats.specs.Shapes.{form}
use Rattle.keys.specs.Distances.{w_of, w'_of}
use Rattle.ciphers.specs.declared.fast.kept.KeptSequence.{KeptSequence}
use Rattle.ciphers.specs.Ways.{map_of}
use Rattle.ciphers.specs.Held.{network_of}
use Rattle.ciphers.specs.Kept.{Label, Stands}
use Rattle.ciphers.specs.Networks.{Network, networked, indices_of}
use Rattle.ciphers.proofs.Keeping.{found_indices, core_is_mapped}
use Rattle.ciphers.proofs.fast.Fast.swap_checked.Goals as goal

pub returns-clause-after : goal.returns-clause-after
returns-clause-after c =
    let s = c.place-place.new.self in
    let f = form c.args.shape.now in
    let run = c.args.run.now in
    let code = c.args.code.now in
    let r = c.of-reach.result in
    let wanted = c.of-wanted.ensures in
    let place = c.place-place.result in
    let stands = c.place-place.ensures.stands in
    let len : c.of-wanted.result.len ≡ f.len = ap (λ (l : Label). l.len) wanted in
    let layers : c.of-wanted.result.layers ≡ layers_of f = ap (λ (l : Label). l.layers) wanted in
    let at : Stands _ s.kept place = subst (λ (l : Label). Stands l s.kept place) wanted stands in
    let held : c.first-indices.result.now ≡ indices_of (network_of s) f run =
    c.first-indices.ensures
    ∙ (sym (ap (take c.of-wanted.result.layers) (get_or-map (λ (x : KeptSequence). x.indices) s.kept place _ [] at.0))
    ∙ (ap (λ n. take n (get_or (map (λ (x : KeptSequence). x.indices) s.kept) place [])) layers ∙ found_indices s f run place at)) in
    c.swap_code.ensures
    ∙ (core_is_mapped s c.args.way f run code c.first-indices.result.now r.w r.v (c.of-reach.ensures.w ∙ ap w_of len) (c.of-reach.ensures.v ∙ ap w'_of len) held
    ∙ ap (λ (n : Network). map_of (networked n) c.args.way f run code) c.place-place.ensures.same)
