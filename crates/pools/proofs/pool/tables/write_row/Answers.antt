use Rattle.std.proofs.Common.{◌+◌, length, refl, arith, rules}
use Rattle.pools.proofs.Rows.{part_written, rows_room}
use Rattle.pools.proofs.pool.tables.write_row.Goals as goal

pub slice_bounds-write_twice-end : goal.slice_bounds-write_twice-end
slice_bounds-write_twice-end c =
    let room = rows_room (length c.args.entries.now) c.args.n c.requires.row c.requires.most in
    search rules

pub returns : goal.returns
returns c =
    let a = length c.args.entries.now in
    part_written a c.args.n (a + a) _ c.args.table.now c.args.entries.now c.write_twice.new.row refl (omega arith) c.write_twice.ensures
