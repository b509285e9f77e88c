-- What a cipher that was made for a call does to the call's code. Assumes nothing.
--   by_ready   a code swapped by the cipher under one run after the other
--   walk_over  the walk to codes that do not begin with 0, over the cipher
use Rattle.std.specs.Prelude.{ℕ, List}
use Rattle.formats.specs.Shapes.{form}
use Rattle.ciphers.specs.Meanings.{Meaning}
use Rattle.ciphers.specs.declared.way.Way.{Way}
use Rattle.rules.specs.declared.nonzero_lead.NonzeroLead.{NonzeroLead}
use Rattle.walk.specs.declared.cycle.CycleWalk.{CycleWalk}
use Rattle.network_c.specs.declared.ffi.Run.{Run}
use Rattle.network_c.specs.declared.ready.Ready.{Ready}
use Rattle.network_c.specs.Under.{Ended, toward, under}

abbrev pub by_ready : {C : Type 0} → (C → Meaning) → Way → Ready C → List Run → List ℕ → Ended
by_ready means to r = under (toward to (means r.cipher) (form r.shape))

abbrev pub walk_over : {C : Type 0} → Ready C → Ready (CycleWalk C NonzeroLead)
walk_over r = record { cipher = record { below = r.cipher; rule = record {} }; shape = r.shape }
