-- The worked examples, computed. Assumes nothing.
use Rattle.std.proofs.Common.{◌≡◌, ℕ, true, cond, List, [], ◌∷◌, Ok, Err, refl, ap}
use Rattle.faults.specs.declared.fault.Cause.TheVariants.{RunName, ShapeNotTaken, CoinsShort}
use Rattle.faults.specs.Faults.{own}
use Rattle.alphabets.specs.RunNames.{legal}
use Rattle.formats.specs.Codes.{code_verdict}
use Rattle.formats.specs.Forms.{Form}
use Rattle.formats.proofs.Limits.{tabled_as_published}
use Rattle.formats.proofs.Readings.{examples as readings}
use Rattle.coins.specs.Boxes.{swaps, making}
use Rattle.coins.specs.Coins.{bits_of}
use Rattle.coins.specs.Draws.{least_from, log2_up, width, drawing}
use Rattle.keys.specs.Distances.{root, w_of, w'_of}
use Rattle.ciphers.specs.Layers.{image, forward_layer, core_encrypt}
use Rattle.ciphers.specs.Meanings.{Meaning}
use Rattle.ciphers.specs.Swaps.{checked, swap, onward, unless_refused, unless_barred}
use Rattle.codebook.specs.Books.{through, taken_by}
use Rattle.codebook.specs.Numbers.{written}
use Rattle.layers.specs.Keeps.{shorter, keeping}
use Rattle.rules.specs.Rules.{is_code, leads_nonzero}
use Rattle.rules.specs.Told.{examples as rules}
use Rattle.walk.specs.CodeLists.{codes_of, strings, fronted}
use Rattle.walk.specs.Walks.{seek, denied_count, few_codes, walking}
use Rattle.piles.specs.WorkedExamples.{adds_one, Gives, Bars, d01, d02, next_digit, WorkedExamples}

-- draws and boxes
box_4 : making 4 (bits_of (0x00 ∷ 0x10 ∷ 0x00 ∷ [])) ≡ record { answer = Ok (1 ∷ 2 ∷ 3 ∷ 0 ∷ []); gone = 17 }
unfolding making swaps drawing width log2_up least_from
box_4 = refl

box_10 : making 10 (bits_of (0x01 ∷ 0x01 ∷ 0x02 ∷ 0x04 ∷ 0x08 ∷ 0x10 ∷ 0x41 ∷ 0x08 ∷ [])) ≡ record { answer = Ok (adds_one 10); gone = 61 }
unfolding making swaps drawing width log2_up least_from
box_10 = refl

box_short : making 10 (bits_of (0x01 ∷ 0x01 ∷ 0x02 ∷ 0x04 ∷ 0x08 ∷ 0x10 ∷ 0x41 ∷ [])) ≡ record { answer = Err (record { cause = CoinsShort; place = 0; depth = 2 }); gone = 56 }
unfolding making swaps drawing width log2_up least_from
box_short = refl

-- layers
two_layers : core_encrypt ((1 ∷ 2 ∷ 3 ∷ 0 ∷ []) ∷ []) 4 (w_of 2) (w'_of 2) (0 ∷ 0 ∷ []) (0 ∷ 0 ∷ []) ≡ 2 ∷ 0 ∷ []
unfolding core_encrypt forward_layer image w'_of w_of root
two_layers = refl

one_layer : core_encrypt ((1 ∷ 2 ∷ 3 ∷ 0 ∷ []) ∷ []) 4 (w_of 2) (w'_of 2) (0 ∷ []) (1 ∷ 0 ∷ []) ≡ 0 ∷ 3 ∷ []
unfolding core_encrypt forward_layer image w'_of w_of root
one_layer = refl

-- under a legal run's name, a call comes down to the shape, the code and what is barred
legal_run : (m : Meaning) (f : Form) (run c : List ℕ) → legal run ≡ true →
    onward m f run c ≡ unless_refused (cond (m.taken f) (code_verdict f c) (Err (own ShapeNotTaken))) (unless_barred (m.barred f c) (m.forward f run c))
unfolding swap checked
legal_run m f run c e =
    ap (λ b. unless_refused (cond b (cond (m.taken f) (code_verdict f c) (Err (own ShapeNotTaken))) (Err (own RunName))) (unless_barred (m.barred f c) (m.forward f run c))) e

book_9 : Gives next_digit d01 (9 ∷ []) (0 ∷ [])
unfolding code_verdict taken_by through written
book_9 run e = legal_run next_digit d01 run (9 ∷ []) e

walk_9 : Gives (walking next_digit leads_nonzero) d01 (9 ∷ []) (1 ∷ [])
unfolding code_verdict taken_by through written denied_count codes_of strings fronted seek few_codes leads_nonzero is_code
walk_9 run e = legal_run (walking next_digit leads_nonzero) d01 run (9 ∷ []) e

walk_8 : Gives (walking next_digit leads_nonzero) d01 (8 ∷ []) (9 ∷ [])
unfolding code_verdict taken_by through written denied_count codes_of strings fronted seek few_codes leads_nonzero is_code
walk_8 run e = legal_run (walking next_digit leads_nonzero) d01 run (8 ∷ []) e

walk_0 : Bars (walking next_digit leads_nonzero) d01 (0 ∷ []) 0
unfolding code_verdict taken_by few_codes leads_nonzero is_code
walk_0 run e = legal_run (walking next_digit leads_nonzero) d01 run (0 ∷ []) e

keep_44 : Gives (keeping 1 next_digit) d02 (4 ∷ 4 ∷ []) (4 ∷ 5 ∷ [])
unfolding code_verdict taken_by through written shorter
keep_44 run e = legal_run (keeping 1 next_digit) d02 run (4 ∷ 4 ∷ []) e

pub worked_examples : WorkedExamples
unfolding width log2_up least_from w_of w'_of root
worked_examples = record {
  try_0 = refl;
  try_1 = refl;
  try_21 = refl;
  try_22 = refl;
  try_63 = refl;
  box_4 = box_4;
  box_10 = box_10;
  box_short = box_short;
  short_number = refl;
  distances_2 = refl;
  distances_3 = refl;
  distances_4 = refl;
  distances_10 = refl;
  distances_32 = refl;
  two_layers = two_layers;
  one_layer = one_layer;
  least_d07 = tabled_as_published.seven_digits;
  least_d10 = tabled_as_published.ten_digits;
  least_d11 = tabled_as_published.eleven_digits;
  least_m10 = tabled_as_published.ten_signs;
  read_d08_042 = readings.least_named;
  read_d08_041 = readings.one_fewer;
  read_d32_064 = readings.most_layers_read;
  read_d32_065 = readings.one_more;
  rounds_number = refl;
  book_9 = book_9;
  walk_9 = walk_9;
  walk_8 = walk_8;
  walk_0 = walk_0;
  keep_44 = keep_44;
  luhn_18 = (rules d02.rounds).eighteen;
  luhn_81 = (rules d02.rounds).eighty_one;
}
