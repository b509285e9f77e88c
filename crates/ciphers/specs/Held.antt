-- What a network holds. Assumes nothing.
--   network_of  the network as plain data
use Rattle.block_cipher.specs.MacKey.{mac_key_of}
use Rattle.pools.specs.Pools.{boxes, inverses}
use Rattle.ciphers.specs.Networks.{Network, sequence_of}
use Rattle.ciphers.specs.declared.fast.Fast.{Fast}

abbrev pub network_of : Fast → Network
network_of s = record {
  key = mac_key_of s.mac;
  sequence = sequence_of s.pool.origin;
  radix = s.pool.radix;
  boxes = boxes s.pool;
  inverses = inverses s.pool;
}
