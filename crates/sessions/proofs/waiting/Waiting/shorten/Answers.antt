use Rattle.std.proofs.Common.{take, ap, ◌∙◌}
use Rattle.sessions.proofs.Fronts.{shortened}
use Rattle.sessions.proofs.waiting.Waiting.shorten.Goals as goal

pub returns : goal.returns
returns c = shortened c.self.inside.bytes c.self.inside.len c.min-self-inside.result c.min-self-inside.ensures ∙ ap (take 4097) c.self.view_is
