use Rattle.std.proofs.Common.{◌≡◌}
use Rattle.block_cipher.specs.Aes.{add_round_key, round_key, rounds}
use Rattle.block_cipher.specs.Keyed.{key_of}
use Rattle.block_cipher.specs.Words.{bytes_of, little16}
use Rattle.block_cipher.proofs.aes.Aes128.encrypt_number.Given as goal

abbrev pub invariant-loop-k : goal.invariant-loop-k
invariant-loop-k l = bytes_of l.s ≡ rounds (key_of l.self) (add_round_key (little16 l.fn.block) (round_key (key_of l.self) 0)) l.k-index
