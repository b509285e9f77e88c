-- Encodings: the lists that keys are derived for, as bytes. Assumes nothing.
--   two      a number below 65,536 as two bytes, the high one first
--   Detail   what the lists of index sequences go on with
--   Purpose  what a key is derived for: with a counter, a list
--   opening  the bytes that every list opens with
--   sizes    the bytes that the lists of index sequences have between the opening and the run name
--   encode   a list as bytes
--   InRange  the ranges that the fields of a list have
--   Apart    lists are encoded alike exactly when they are equal
--   Worked   an example, to the byte
use Rattle.std.specs.Prelude.{◌≡◌, ℕ, ◌/◌, ◌%◌, ◌<◌, ◌≤◌, List, [], ◌∷◌, ◌++◌, length}
use Rattle.keys.specs.declared.label.Label.{Label}
use Rattle.keys.specs.declared.label.Label.TheVariants.{FpePool}
use Rattle.keys.specs.declared.label.Sequence.{Sequence}
use Rattle.keys.specs.declared.label.Sequence.TheVariants.{KeyPool}
use Rattle.keys.specs.Labels.{number_of, label_of}

abbrev pub two : ℕ → List ℕ
two n = n / 256 % 256 ∷ n % 256 ∷ []

-- the length, the layers, the branch distances and the run name
pub record Detail : Type 0 where
  pub len : ℕ
  pub layers : ℕ
  pub w : ℕ
  pub w' : ℕ
  pub run : List ℕ

-- an index sequence of a radix, or the pool of a radix
pub data Purpose : Type 0 where
  of_sequence : Sequence → ℕ → Detail → Purpose
  of_pool : ℕ → Purpose

-- the counter, the label, 256 for the bits of the key, the radix, and 256 for the boxes of a pool
abbrev pub opening : ℕ → Label → ℕ → List ℕ
opening counter label radix = counter ∷ number_of label ∷ (two 256 ++ two radix ++ two 256)

-- the sizes and the length of the run name
abbrev pub sizes : Detail → List ℕ
sizes d = d.len ∷ (two d.layers ++ d.w ∷ d.w' ∷ length d.run ∷ [])

unfoldable pub encode : ℕ → Purpose → List ℕ
encode counter (of_sequence s radix d) = opening counter (label_of s) radix ++ (sizes d ++ d.run)
encode counter (of_pool radix) = opening counter FpePool radix

pub record DetailInRange (d : Detail) : Type 0 where
  pub len : d.len < 256
  pub layers : d.layers < 65536
  pub w : d.w < 256
  pub w' : d.w' < 256
  pub named : 1 ≤ length d.run
  pub short : length d.run ≤ 32

abbrev pub InRange : ℕ → Purpose → Type 0
InRange counter (of_sequence s radix d) = (counter < 256) × (radix < 65536) × DetailInRange d
InRange counter (of_pool radix) = (counter < 256) × (radix < 65536)

pub record Apart (i j : ℕ) (p q : Purpose) : Type 0 where
  -- two that are encoded alike are one list
  pub told : InRange i p → InRange j q → encode i p ≡ encode j q → (i ≡ j) × (p ≡ q)
  -- and one list is encoded in one way
  pub alike : i ≡ j → p ≡ q → encode i p ≡ encode j q

-- the first list of run RED7, ten digits in 390 layers, over the pool from the key
abbrev pub Worked : Type 0
Worked =
    encode 0 (of_sequence KeyPool 10 (record { len = 10; layers = 390; w = 3; w' = 2; run = 0x52 ∷ 0x45 ∷ 0x44 ∷ 0x37 ∷ [] }))
    ≡ 0x00 ∷ 0x02 ∷ 0x01 ∷ 0x00 ∷ 0x00 ∷ 0x0A ∷ 0x01 ∷ 0x00 ∷ 0x0A ∷ 0x01 ∷ 0x86 ∷ 0x03 ∷ 0x02 ∷ 0x04 ∷ 0x52 ∷ 0x45 ∷ 0x44 ∷ 0x37 ∷ []
