use Rattle.std.proofs.Common.{◌≡◌, Option, ℕ, Some, None, rules, tests, ◌∙◌}
use Rattle.std.specs.List.{position}
use Rattle.std.proofs.lemmas.Iterator.{YieldsList-from_slice}
use Rattle.std.proofs.lemmas.Iterator.Search.{position_from_yields_List}
use Rattle.sessions.proofs.Cuts.{is_feed, ends, none_ends, headed, followed, whole, nothing}
use Rattle.sessions.proofs.cut.cut_first.Goals as goal

pub returns-in-Some : goal.returns-in-Some
returns-in-Some c =
    let block = c.args.block.now in
    let at : c.position.result ≡ position is_feed block = position_from_yields_List is_feed _ _ _ c.position.ensures.ran (YieldsList-from_slice block cc) (λ x b q k. search (rules, tests)) in
    let is : ◌≡◌ {A = Option ℕ} (Some c.in-Some.end) c.position.result = cc in
    let end = ends block c.in-Some.end (is ∙ at) in
    record { line = headed block c.in-Some.end end; rest = followed block c.in-Some.end end }

pub returns-in-None : goal.returns-in-None
returns-in-None c =
    let block = c.args.block.now in
    let at : c.position.result ≡ position is_feed block = position_from_yields_List is_feed _ _ _ c.position.ensures.ran (YieldsList-from_slice block cc) (λ x b q k. search (rules, tests)) in
    let is : ◌≡◌ {A = Option ℕ} None c.position.result = cc in
    let none = none_ends block (is ∙ at) in
    record { line = whole block none; rest = nothing block none }
