use Rattle.std.proofs.Common.{◌≡◌, ◌+◌, ◌<◌, ◌≤◌, length, get_or, take, drop}
use Rattle.std.specs.List.{AllByRecursion}
use Rattle.pools.specs.Rows.{rows_of}
use Rattle.ciphers.specs.Layers.{core_decrypt}
use Rattle.ciphers.proofs.window.decrypt.Given as goal

abbrev pub invariant-loop-k : goal.invariant-loop-k
invariant-loop-k l =
    let a = l.boxes.radix in
    let boxes = rows_of a 256 l.boxes.table.now in
    record {
      symbols : AllByRecursion (λ x. x < a) l.window;
      core : take l.len (drop l.k l.window) ≡ core_decrypt boxes a l.reach.w l.reach.v (drop l.k l.indices) (take l.len (drop (length l.indices) l.initial.window));
      first : l.recent.first ≡ get_or l.window l.k 0;
      second : l.recent.second ≡ get_or l.window (l.k + 1) 0;
      third : 3 ≤ l.len → l.recent.third ≡ get_or l.window (l.k + 2) 0;
    }
