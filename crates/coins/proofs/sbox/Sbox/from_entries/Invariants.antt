use Rattle.std.proofs.Common.{◌≡◌, ℕ, ◌<◌, length, get_or}
use Rattle.coins.proofs.sbox.Sbox.from_entries.Given as goal

abbrev pub invariant-loop-x : goal.invariant-loop-x
invariant-loop-x l = record {
  whole : length l.forward ≡ 4096;
  whole_inverse : length l.inverse ≡ 4096;
  images : (k : ℕ) → k < l.x → get_or l.forward k 0 ≡ get_or l.entries k 0;
  places : (k : ℕ) → k < l.x → get_or l.inverse (get_or l.entries k 0) 0 ≡ k;
}
