-- What the lines that are printed are held to. Assumes nothing.
--   Decimal   a number in decimal is read as that number
--   Examples  some lines
use Rattle.std.specs.Prelude.{◌≡◌, ℕ, ◌^◌, ◌<◌, [], ◌∷◌, ◌++◌, Some, None, codes, decimal, slice_index}
use Rattle.std.specs.Str.Parse.{IsNumeral, digits_value}
use Rattle.faults.specs.declared.fault.Cause.TheVariants.{LaneHasNoRun, CodeBarred, Line}
use Rattle.faults.specs.Faults.{own, deeper}
use Rattle.printing.specs.Replies.{ok_line, code_line, fault_line, line_feed}

pub record Decimal : Type 0 where
  -- some digits, which write the number
  pub digits : (n : ℕ) → n < 2 ^ 64 → IsNumeral 10 (decimal n)
  pub reads : (n : ℕ) → n < 2 ^ 64 → digits_value 10 (decimal n) ≡ n
  -- the first of them is 0 in the number 0 alone
  pub leads : (n : ℕ) → 0 < n → n < 2 ^ 64 → 48 < slice_index (decimal n) 0

pub record Examples : Type 0 where
  pub restarted : ok_line None ≡ codes "- ok" ++ (line_feed ∷ [])
  pub started : ok_line (Some 1) ≡ codes "1 ok" ++ (line_feed ∷ [])
  pub masked : code_line (Some 1) (codes "9") ≡ codes "1 9" ++ (line_feed ∷ [])
  pub no_run : fault_line (Some 2) (own LaneHasNoRun) ≡ codes "2 !9 0 0" ++ (line_feed ∷ [])
  pub barred : fault_line (Some 1) (deeper (own CodeBarred)) ≡ codes "1 !12 0 1" ++ (line_feed ∷ [])
  pub unreadable : fault_line None (own Line) ≡ codes "- !16 0 0" ++ (line_feed ∷ [])
