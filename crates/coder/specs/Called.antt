-- What one call of a coder gives and leaves. Assumes nothing.
--   Called  a coder before and after a call, and the reply, where `meaning` tells what its cipher means
use Rattle.std.specs.Prelude.{◌≡◌}
use Rattle.ciphers.specs.Meanings.{Meaning}
use Rattle.coder.specs.declared.coder.Coder.{Coder}
use Rattle.coder.specs.Calls.{Call, Reply, said}
use Rattle.coder.specs.Handed.{Follows}
use Rattle.coder.specs.Steps.{stepped}

pub record Called {T : Type 0} (meaning : T → Meaning) (before after : Coder T) (c : Call) (r : Reply) : Type 0 where
  -- whatever the lanes hold: the answer and the text, and the lanes then
  pub reply : r ≡ said c (stepped (meaning before.cipher) before.lanes c).outcome
  pub lanes : after.lanes ≡ (stepped (meaning before.cipher) before.lanes c).lanes
  -- the cipher means what it meant
  pub same : meaning after.cipher ≡ meaning before.cipher
  -- a coder that was handed on through calls is handed on through this one, as the reference machine is
  pub follows : Follows (meaning before.cipher) before.lanes after.lanes c r
