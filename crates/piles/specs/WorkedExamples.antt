-- Worked examples of all the parts, from a single draw to a layer over a cipher. Assumes nothing.
--   adds_one        the box of a radix that takes each number to the next, and the last to 0
--   Gives           a cipher takes a code to an image, under every run's name
--   Bars            it refuses a code as barred, at a depth
--   d01, d02        the forms of one digit, and of two with the default rounds
--   next_digit      what the codebook of one digit with such a box means
--   WorkedExamples  the examples
use Rattle.std.specs.Prelude.{◌≡◌, ℕ, ◌+◌, ◌%◌, true, false, List, [], ◌∷◌, map, Some, None, Ok, Err, codes}
use Rattle.std.specs.List.{range_with_len}
use Rattle.faults.specs.declared.fault.Cause.TheVariants.{Rounds, CoinsShort}
use Rattle.faults.specs.Faults.{number_of, own}
use Rattle.alphabets.specs.declared.alphabet.Alphabet.TheVariants.{Decimal, Alphanumeric}
use Rattle.alphabets.specs.RunNames.{legal}
use Rattle.formats.specs.Forms.{Form, form_of, least_of}
use Rattle.formats.specs.ShapeTexts.{read_form}
use Rattle.coins.specs.Boxes.{making}
use Rattle.coins.specs.Coins.{bits_of}
use Rattle.coins.specs.Draws.{given_by}
use Rattle.keys.specs.Distances.{w_of, w'_of, distances_of}
use Rattle.ciphers.specs.Layers.{core_encrypt}
use Rattle.ciphers.specs.Meanings.{Meaning}
use Rattle.ciphers.specs.Swaps.{onward, swapped, refused, barred_at}
use Rattle.codebook.specs.Books.{book_of, meaning_of}
use Rattle.layers.specs.Keeps.{keeping}
use Rattle.rules.specs.Rules.{leads_nonzero, passes_luhn}
use Rattle.walk.specs.Walks.{walking}

abbrev pub adds_one : ℕ → List ℕ
adds_one radix = map (λ i. (i + 1) % radix) (range_with_len 0 radix)

abbrev pub Gives : Meaning → Form → List ℕ → List ℕ → Type 0
Gives m f c image = (run : List ℕ) → legal run ≡ true → onward m f run c ≡ swapped image

abbrev pub Bars : Meaning → Form → List ℕ → ℕ → Type 0
Bars m f c depth = (run : List ℕ) → legal run ≡ true → onward m f run c ≡ refused (barred_at depth)

abbrev pub d01 : Form
d01 = form_of Decimal 1 0

abbrev pub d02 : Form
d02 = form_of Decimal 2 (least_of Decimal 2)

abbrev pub next_digit : Meaning
next_digit = meaning_of (book_of d01 (adds_one 10))

pub record WorkedExamples : Type 0 where
  -- in a draw below 3, the try 0 is rejected
  pub try_0 : given_by 3 0 ≡ None
  -- 1, the first that is accepted, gives 0
  pub try_1 : given_by 3 1 ≡ Some 0
  -- 21 is the last that gives 0
  pub try_21 : given_by 3 21 ≡ Some 0
  -- 22 is the first that gives 1
  pub try_22 : given_by 3 22 ≡ Some 1
  -- 63, the last, gives 2
  pub try_63 : given_by 3 63 ≡ Some 2
  -- three bytes of coins make a box of radix 4, and 17 bits are gone
  pub box_4 : making 4 (bits_of (0x00 ∷ 0x10 ∷ 0x00 ∷ [])) ≡ record { answer = Ok (1 ∷ 2 ∷ 3 ∷ 0 ∷ []); gone = 17 }
  -- eight bytes make the box of radix 10 that adds 1, and 61 bits are gone
  pub box_10 : making 10 (bits_of (0x01 ∷ 0x01 ∷ 0x02 ∷ 0x04 ∷ 0x08 ∷ 0x10 ∷ 0x41 ∷ 0x08 ∷ [])) ≡ record { answer = Ok (adds_one 10); gone = 61 }
  -- without the last byte the coins are too few, and the bits of the finished tries are gone
  pub box_short : making 10 (bits_of (0x01 ∷ 0x01 ∷ 0x02 ∷ 0x04 ∷ 0x08 ∷ 0x10 ∷ 0x41 ∷ [])) ≡ record { answer = Err (record { cause = CoinsShort; place = 0; depth = 2 }); gone = 56 }
  -- too few coins are cause 13
  pub short_number : number_of CoinsShort ≡ 13
  -- at length 2 the branch distances are 0 and 1
  pub distances_2 : distances_of 2 ≡ Ok (record { w = 0; w_prime = 1 })
  -- at 3 they are 1 and 1
  pub distances_3 : distances_of 3 ≡ Ok (record { w = 1; w_prime = 1 })
  -- at 4 they are 2 and 1
  pub distances_4 : distances_of 4 ≡ Ok (record { w = 2; w_prime = 1 })
  -- at 10 they are 3 and 2
  pub distances_10 : distances_of 10 ≡ Ok (record { w = 3; w_prime = 2 })
  -- at 32 they are 5 and 4
  pub distances_32 : distances_of 32 ≡ Ok (record { w = 5; w_prime = 4 })
  -- at radix 4 and length 2, with a box that adds 1, two layers take 0 0 to 2 0
  pub two_layers : core_encrypt ((1 ∷ 2 ∷ 3 ∷ 0 ∷ []) ∷ []) 4 (w_of 2) (w'_of 2) (0 ∷ 0 ∷ []) (0 ∷ 0 ∷ []) ≡ 2 ∷ 0 ∷ []
  -- and one takes 1 0 to 0 3
  pub one_layer : core_encrypt ((1 ∷ 2 ∷ 3 ∷ 0 ∷ []) ∷ []) 4 (w_of 2) (w'_of 2) (0 ∷ []) (1 ∷ 0 ∷ []) ≡ 0 ∷ 3 ∷ []
  -- seven digits have at least 45 rounds
  pub least_d07 : least_of Decimal 7 ≡ 45
  -- ten have at least 39
  pub least_d10 : least_of Decimal 10 ≡ 39
  -- and so have eleven, which stand between two columns of the table
  pub least_d11 : least_of Decimal 11 ≡ 39
  -- ten letters and digits have at least 34
  pub least_m10 : least_of Alphanumeric 10 ≡ 34
  -- eight digits with their least number of rounds are read
  pub read_d08_042 : read_form (codes "d08/042") ≡ Ok (form_of Decimal 8 42)
  -- one round fewer is refused
  pub read_d08_041 : read_form (codes "d08/041") ≡ Err (own Rounds)
  -- 32 digits with 64 rounds, which make the most layers, are read
  pub read_d32_064 : read_form (codes "d32/064") ≡ Ok (form_of Decimal 32 64)
  -- one round more is refused
  pub read_d32_065 : read_form (codes "d32/065") ≡ Err (own Rounds)
  -- both are refused by cause 4
  pub rounds_number : number_of Rounds ≡ 4
  -- the codebook takes 9 to 0
  pub book_9 : Gives next_digit d01 (9 ∷ []) (0 ∷ [])
  -- the walk over it to codes that do not begin with 0 goes on from there to 1
  pub walk_9 : Gives (walking next_digit leads_nonzero) d01 (9 ∷ []) (1 ∷ [])
  -- it takes 8 to 9
  pub walk_8 : Gives (walking next_digit leads_nonzero) d01 (8 ∷ []) (9 ∷ [])
  -- and bars 0 itself
  pub walk_0 : Bars (walking next_digit leads_nonzero) d01 (0 ∷ []) 0
  -- with the first symbol kept, the codebook takes 44 to 45
  pub keep_44 : Gives (keeping 1 next_digit) d02 (4 ∷ 4 ∷ []) (4 ∷ 5 ∷ [])
  -- 18 passes the Luhn test
  pub luhn_18 : passes_luhn d02 (1 ∷ 8 ∷ []) ≡ true
  -- 81 does not
  pub luhn_81 : passes_luhn d02 (8 ∷ 1 ∷ []) ≡ false
