use Rattle.std.proofs.Common.{◌≡◌, ℕ, ◌<◌, List, sym, ap, ◌∙◌, subst}
use Rattle.formats.specs.Forms.{Form}
use Rattle.formats.specs.Shapes.{form}
use Rattle.ciphers.specs.Meanings.{Meaning}
use Rattle.ciphers.specs.Ways.{map_of}
use Rattle.walk.specs.Calls.{OnTheWay}
use Rattle.walk.specs.Walks.{denied_count, sought}
use Rattle.walk.proofs.Called.{swapped_on, on_more, goal_more, less_left, goal_all, way_law}
use Rattle.walk.specs.Cycles.{swaps_left}
use Rattle.walk.proofs.cycle.CycleWalk.walk_on.Goals as goal

pub loop-way-smaller : goal.loop-way-smaller
loop-way-smaller g c =
    let m = g.T.FormatCipher.meaning c.args.self.now.below in
    let allowed = g.R.Rule.allowed c.args.self.now.rule in
    let f = form c.args.shape.now in
    let run = c.args.run.now in
    let pick : Meaning → Form → List ℕ → List ℕ → List ℕ = λ n. map_of n c.args.way in
    let inv = c.loop-way.invariant.1 in
    let code = c.loop-way.code in
    let next = swapped_on m allowed pick f run code inv.on (g.T.FormatCipher.meaning c.loop-way.self.below) inv.same c.swap.new.code c.swap.ensures.after in
    let left : List ℕ → ℕ = swaps_left (pick m f run) (allowed f) (denied_count m allowed f) in
    let nope = ap (λ r. g.R.Rule.allowed r f code) (sym c.loop-way.invariant.0) ∙ sym c.loop-way-test.ensures in
    subst (λ (d : List ℕ). left d < left code) (sym next) (less_left m allowed pick f run code inv.on nope)

pub loop-way-preserved : goal.loop-way-preserved
loop-way-preserved g c =
    let m = g.T.FormatCipher.meaning c.args.self.now.below in
    let allowed = g.R.Rule.allowed c.args.self.now.rule in
    let f = form c.args.shape.now in
    let run = c.args.run.now in
    let pick : Meaning → Form → List ℕ → List ℕ → List ℕ = λ n. map_of n c.args.way in
    let inv = c.loop-way.invariant.1 in
    let code = c.loop-way.code in
    let nope = ap (λ r. g.R.Rule.allowed r f code) (sym c.loop-way.invariant.0) ∙ sym c.loop-way-test.ensures in
    let law = way_law c.args.way m (g.met.T.FormatCipher.lawful c.args.self.now.below) f run inv.on.taken in
    let next = swapped_on m allowed pick f run code inv.on (g.T.FormatCipher.meaning c.loop-way.self.below) inv.same c.swap.new.code c.swap.ensures.after in (
      c.loop-way.invariant.0,
      record {
        same = c.swap.ensures.same ∙ inv.same;
        on = subst (λ (d : List ℕ). OnTheWay m allowed (pick m) f run d) (sym next) (on_more m allowed pick f run code inv.on nope _ law);
        goal = subst (λ (d : List ℕ). sought m allowed (pick m) f run d ≡ sought m allowed (pick m) f run c.args.code.now) (sym next) (goal_more m allowed pick f run code inv.on nope ∙ inv.goal);
      },
    )

pub returns : goal.returns
returns g c =
    let m = g.T.FormatCipher.meaning c.args.self.now.below in
    let f = form c.args.shape.now in
    let inv = c.loop-way.invariant.1 in
    let yep = ap (λ r. g.R.Rule.allowed r f c.loop-way.code) (sym c.loop-way.invariant.0) ∙ sym c.loop-way-test.ensures in
    let here = goal_all m (g.R.Rule.allowed c.args.self.now.rule) (λ n. map_of n c.args.way) f c.args.run.now c.loop-way.code inv.on yep in
    record { after = sym here ∙ inv.goal; same = inv.same; rule = c.loop-way.invariant.0 }
