use Rattle.std.proofs.Common.{◌≡◌, length}
use Rattle.block_cipher.specs.Aes.{round_key}
use Rattle.block_cipher.specs.Words.{bytes_of}
use Rattle.block_cipher.proofs.Schedule.{Scheduled}
use Rattle.block_cipher.proofs.aes.Aes128.new.Given as goal

abbrev pub invariant-loop-i : goal.invariant-loop-i
invariant-loop-i l = record { long : length l.round_keys ≡ 11; now : bytes_of l.k ≡ round_key l.fn.key l.i; so_far : Scheduled l.fn.key l.round_keys l.i }
