-- Two ciphers side by side. Assumes nothing.
--   preferring  what the first of two that takes a form means for it
use Rattle.std.specs.Prelude.{cond, ◌||◌}
use Rattle.ciphers.specs.Meanings.{Meaning}
use Rattle.ciphers.specs.Swaps.{barred_past}

-- it takes what either takes; the left one swaps and bars if it takes the form, and otherwise the right one does; what
-- is barred is barred one deeper
abbrev pub preferring : Meaning → Meaning → Meaning
preferring l r = record {
  taken = λ f. l.taken f || r.taken f;
  barred = λ f c. barred_past (cond (l.taken f) (l.barred f c) (r.barred f c));
  forward = λ f run c. cond (l.taken f) (l.forward f run c) (r.forward f run c);
  backward = λ f run c. cond (l.taken f) (l.backward f run c) (r.backward f run c);
}
