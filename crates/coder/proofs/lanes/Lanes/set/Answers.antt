use Rattle.std.proofs.Common.{◌-◌, set, ap, ◌∙◌}
use Rattle.std.specs.Option.{option_map}
use Rattle.std.proofs.lemmas.List.{map-set}
use Rattle.coder.specs.Records.{named, views}
use Rattle.coder.proofs.lanes.Lanes.set.Goals as goal

pub returns : goal.returns
returns c =
    map-set (option_map named) c.self.inside.records c.place.result c.args.held
    ∙ ap (λ i. set (views c.self.inside.records) i (option_map named c.args.held)) c.place.ensures.value
    ∙ ap (λ lanes. set lanes (c.args.lane.number - 1) (option_map named c.args.held)) c.self.view_is
