use Rattle.std.proofs.Common.{[], sym, refl, ap, ◌∙◌}
use Rattle.formats.specs.Shapes.{form}
use Rattle.coder.specs.Calls.{starts, ends, masks, unmasks}
use Rattle.coder.specs.Entries.{call_of, bare}
use Rattle.coder.proofs.Followed.{carried, in_vec}
use Rattle.coder.proofs.list.call.Goals as goal

pub returns-in-Start : goal.returns-in-Start
returns-in-Start g c = record {
  called =
      carried (call_of c.args.command.now) (starts c.in-Start.lane c.deref.result.now (form c.in-Start.shape)) c.start.result [] []
      (ap call_of c.in-Start.is ∙ ap (λ r. starts c.in-Start.lane r (form c.in-Start.shape)) (sym c.deref.ensures.value)) refl c.start.ensures;
  kept = sym (ap (λ x. bare (call_of x)) c.in-Start.is);
}

pub returns-in-End : goal.returns-in-End
returns-in-End g c = record {
  called = carried (call_of c.args.command.now) (ends c.in-End.lane) c.end.result [] [] (ap call_of c.in-End.is) refl c.end.ensures;
  kept = sym (ap (λ x. bare (call_of x)) c.in-End.is);
}

pub returns-in-Mask : goal.returns-in-Mask
returns-in-Mask g c = record {
  called =
      let was = c.deref_mut.result.now in
      carried (call_of c.args.command.now) (masks c.in-Mask.lane was) c.mask.result _ c.mask.new.text
      (ap call_of c.in-Mask.is ∙ ap (masks c.in-Mask.lane) (sym c.deref_mut.ensures.value)) (in_vec _ was c.mask.new.text _ c.mask.auto.text c.deref_mut.ensures.len)
      c.mask.ensures;
  kept = sym (ap (λ x. bare (call_of x)) c.in-Mask.is);
}

pub returns-in-Unmask : goal.returns-in-Unmask
returns-in-Unmask g c = record {
  called =
      let was = c.deref_mut-in-Unmask.result.now in
      carried (call_of c.args.command.now) (unmasks c.in-Unmask.lane was) c.unmask.result _ c.unmask.new.text
      (ap call_of c.in-Unmask.is ∙ ap (unmasks c.in-Unmask.lane) (sym c.deref_mut-in-Unmask.ensures.value))
      (in_vec _ was c.unmask.new.text _ c.unmask.auto.text c.deref_mut-in-Unmask.ensures.len) c.unmask.ensures;
  kept = sym (ap (λ x. bare (call_of x)) c.in-Unmask.is);
}
