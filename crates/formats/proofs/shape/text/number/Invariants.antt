use Rattle.std.proofs.Common.{◌≡◌, ◌<◌, ◌≤◌, drop}
use Rattle.formats.specs.ShapeTexts.{number_after, number_of}
use Rattle.formats.proofs.shape.text.number.Given as goal

abbrev pub invariant-loop-byte : goal.invariant-loop-byte
invariant-loop-byte l = record {
  so_far : number_after l.number (drop l.byte-index l.digits) ≡ number_of l.digits;
  none : l.byte-index ≤ 0 → l.number < 1;
  one : l.byte-index ≤ 1 → l.number < 10;
  two : l.byte-index ≤ 2 → l.number < 100;
  three : l.number < 1000;
}
