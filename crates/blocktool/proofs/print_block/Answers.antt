use Rattle.std.proofs.Common.{[], ◌∷◌, arith, length-append}
use Rattle.blocktool.proofs.print_block.Goals as goal

-- the 32 digits and the line's end are 33 bytes
pub slice_bounds-write_all-end : goal.slice_bounds-write_all-end
slice_bounds-write_all-end c =
    omega (arith, length-append c.copy_from_slice.new.self (10 ∷ []), c.copy_from_slice.ensures.len)
