use Rattle.std.proofs.Common.{◌≡◌, ◌+◌, ◌-◌, ◌<◌, ◌≤◌, get_or, take, drop}
use Rattle.std.specs.List.{AllByRecursion}
use Rattle.pools.specs.Rows.{rows_of}
use Rattle.ciphers.specs.Layers.{core_encrypt}
use Rattle.ciphers.proofs.window.encrypt.Given as goal

abbrev pub invariant-loop-k : goal.invariant-loop-k
invariant-loop-k l =
    let a = l.boxes.radix in
    let boxes = rows_of a 256 l.boxes.table.now in
    record {
      symbols : AllByRecursion (λ x. x < a) l.window;
      core : core_encrypt boxes a l.reach.w l.reach.v (drop l.k l.indices) (take l.len (drop l.k l.window)) ≡ core_encrypt boxes a l.reach.w l.reach.v l.indices (take l.len l.initial.window);
      first : l.recent.first ≡ get_or l.window (l.k + (l.len - 1)) 0;
      second : l.recent.second ≡ get_or l.window (l.k + (l.len - 2)) 0;
      third : 3 ≤ l.len → l.recent.third ≡ get_or l.window (l.k + (l.len - 3)) 0;
    }
