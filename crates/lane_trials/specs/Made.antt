-- Lists of calls that were made where they stand. Assumes nothing.
--   Kept      each entry is answered, and nothing of it changed but its answer and its text
--   Made      the calls of a list were made on a new coder, and the law holds of them
--   BothMade  the same of two lists, within each and between them
use Rattle.std.specs.Prelude.{◌≡◌, List, map}
use Rattle.std.specs.List.{AllByRecursion}
use Rattle.ciphers.specs.Meanings.{Meaning}
use Rattle.coder.specs.declared.list.Entry.{Entry}
use Rattle.coder.specs.Entries.{asks, says, still, Answered}
use Rattle.coder.specs.Law.{OneList, TwoLists}

pub record Kept (before after : List Entry) : Type 0 where
  pub answered : AllByRecursion Answered after
  pub same : map still after ≡ map still before

pub record Made (m : Meaning) (before after : List Entry) : Type 0 where
  pub kept : Kept before after
  pub law : OneList m (map asks before) (map says after)

pub record BothMade (m n : Meaning) (before after others_before others_after : List Entry) : Type 0 where
  pub kept : Kept before after
  pub others_kept : Kept others_before others_after
  pub law : TwoLists m n (map asks before) (map asks others_before) (map says after) (map says others_after)
