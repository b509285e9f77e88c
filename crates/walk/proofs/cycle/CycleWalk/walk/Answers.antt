use Rattle.std.proofs.Common.{ℕ, List, Err, sym, refl, ap, ◌∙◌}
use Rattle.std.proofs.lemmas.Result.{err_from_is_err_and}
use Rattle.formats.specs.Forms.{Form}
use Rattle.formats.specs.Shapes.{form}
use Rattle.ciphers.specs.Meanings.{Meaning}
use Rattle.ciphers.specs.Swaps.{answer, left}
use Rattle.ciphers.specs.Ways.{map_of}
use Rattle.walk.specs.Walks.{walking}
use Rattle.walk.proofs.Called.{call_refused, call_barred, code_kept, call_on, call_passed, call_found, taken_below, way_law}
use Rattle.walk.proofs.cycle.CycleWalk.walk.Goals as goal

pub walk_on-requires : goal.walk_on-requires
walk_on-requires g c =
    let m = g.T.FormatCipher.meaning c.args.self.now.below in
    let allowed = g.R.Rule.allowed c.args.self.now.rule in
    let f = form c.args.shape.now in
    let run = c.args.run.now in
    let code = c.args.code.now in
    let pick : Meaning → Form → List ℕ → List ℕ → List ℕ = λ n. map_of n c.args.way in
    let taken = taken_below m allowed pick f run code ((walking m allowed).taken f) refl c.in_ok-admit.ensures in
    let law = way_law c.args.way m (g.met.T.FormatCipher.lawful c.args.self.now.below) f run taken in
    call_on m allowed pick f run code ((walking m allowed).taken f) refl c.in_ok-admit.ensures c.swap.result c.swap.ensures.value c.in_ok-pass_up.ensures
    _ law (g.T.FormatCipher.meaning c.swap.new.cipher) c.swap.ensures.same c.swap.new.code c.swap.ensures.after

pub returns-in_err-admit : goal.returns-in_err-admit
returns-in_err-admit g c =
    let m = g.T.FormatCipher.meaning c.args.self.now.below in
    let allowed = g.R.Rule.allowed c.args.self.now.rule in
    let f = form c.args.shape.now in
    let run = c.args.run.now in
    let code = c.args.code.now in
    let is = call_refused m allowed (λ (n : Meaning). map_of n c.args.way) f run code ((walking m allowed).taken f) refl c.in_err-admit.field-0.0 c.in_err-admit.ensures in
    let p = err_from_is_err_and c.from_residual.result c.from_residual.ensures.1 in
    record { value = p.1 ∙ ap Err p.2 ∙ sym (ap answer is); after = sym (ap (λ o. left o code) is); same = refl }

pub returns-in_err-pass_up : goal.returns-in_err-pass_up
returns-in_err-pass_up g c =
    let m = g.T.FormatCipher.meaning c.args.self.now.below in
    let allowed = g.R.Rule.allowed c.args.self.now.rule in
    let f = form c.args.shape.now in
    let run = c.args.run.now in
    let code = c.args.code.now in
    let pick : Meaning → Form → List ℕ → List ℕ → List ℕ = λ n. map_of n c.args.way in
    let is = call_barred m allowed pick f run code ((walking m allowed).taken f) refl c.in_ok-admit.ensures c.swap.result c.swap.ensures.value c.in_err-pass_up.field-0.0 c.in_err-pass_up.ensures in
    let kept = code_kept m allowed pick f run code ((walking m allowed).taken f) refl c.in_ok-admit.ensures c.swap.result c.swap.ensures.value c.in_err-pass_up.field-0.0 c.in_err-pass_up.ensures in
    let p = err_from_is_err_and c.from_residual-in_err-pass_up.result c.from_residual-in_err-pass_up.ensures.1 in
    record {
      value = p.1 ∙ ap Err p.2 ∙ sym (ap answer is);
      after = c.swap.ensures.after ∙ kept ∙ sym (ap (λ o. left o code) is);
      same = ap (λ n. walking n allowed) c.swap.ensures.same;
    }

pub returns : goal.returns
returns g c =
    let m = g.T.FormatCipher.meaning c.args.self.now.below in
    let allowed = g.R.Rule.allowed c.args.self.now.rule in
    let f = form c.args.shape.now in
    let run = c.args.run.now in
    let code = c.args.code.now in
    let pick : Meaning → Form → List ℕ → List ℕ → List ℕ = λ n. map_of n c.args.way in
    let now = g.T.FormatCipher.meaning c.swap.new.cipher in
    let is = call_passed m allowed pick f run code ((walking m allowed).taken f) refl c.in_ok-admit.ensures c.swap.result c.swap.ensures.value c.in_ok-pass_up.ensures in
    let found = call_found m allowed pick f run code ((walking m allowed).taken f) refl c.in_ok-admit.ensures c.swap.result c.swap.ensures.value c.in_ok-pass_up.ensures
    now c.swap.ensures.same c.swap.new.code c.walk_on.new.code c.swap.ensures.after c.walk_on.ensures.after in
    record {
      value = sym (ap answer is);
      after = found ∙ sym (ap (λ o. left o code) is);
      same = ap (λ n. walking n (g.R.Rule.allowed c.walk_on.new.self.rule)) (c.walk_on.ensures.same ∙ c.swap.ensures.same) ∙ ap (λ r. walking m (g.R.Rule.allowed r)) c.walk_on.ensures.rule;
    }
