-- FAST's core over a pool, each way. Assumes nothing.
--   core  the layers of a list of indices, or the backward layers
use Rattle.std.specs.Prelude.{ℕ, List}
use Rattle.pools.specs.declared.pool.Pool.{Pool}
use Rattle.pools.specs.Pools.{boxes, inverses}
use Rattle.ciphers.specs.Layers.{core_encrypt, core_decrypt}
use Rattle.ciphers.specs.declared.way.Way.{Way}
use Rattle.ciphers.specs.declared.way.Way.TheVariants.{Forward, Backward}

-- by the branch distances w and v
abbrev pub core : Way → Pool → ℕ → ℕ → List ℕ → List ℕ → List ℕ
core Forward p w v is c = core_encrypt (boxes p) p.radix w v is c
core Backward p w v is c = core_decrypt (inverses p) p.radix w v is c
