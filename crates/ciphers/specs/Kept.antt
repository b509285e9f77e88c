-- Kept index sequences: what each is the sequence of, and what it holds. Assumes nothing.
--   Label            a run, a length and a number of layers
--   label            the label of these three
--   label_in         the label of the sequence that is wanted
--   kept_label       a label that is kept
--   label_of         what a kept sequence is the sequence of, if one was kept yet
--   held_indices     the indices that it holds then
--   defined_of       the index sequence of a label, under a key and for a pool's radix
--   defined_indices  the index sequence of what a kept sequence is the sequence of
--   labels           the labels of kept sequences
--   Stands           a label stands at a place among them
--   Defined          each kept sequence holds what its label defines
use Rattle.std.specs.Prelude.{◌≡◌, ℕ, ◌<◌, List, Some, None, Option, map, length, take, slice_index_or, option_map}
use Rattle.keys.specs.declared.label.Sequence.{Sequence}
use Rattle.keys.specs.Sequences.{index_sequence}
use Rattle.ciphers.specs.declared.fast.kept.KeptSequence.{KeptSequence}
use Rattle.ciphers.specs.declared.fast.kept.Label.{Label as KeptLabel}
use Rattle.ciphers.specs.declared.fast.wanted.Wanted.{Wanted}

pub record Label : Type 0 where
  pub len : ℕ
  pub layers : ℕ
  pub run : List ℕ

abbrev pub label : ℕ → ℕ → List ℕ → Label
label len layers run = record { len = len; layers = layers; run = run }

abbrev pub label_in : Wanted → Label
label_in w = label w.len w.layers w.run.now

abbrev pub kept_label : KeptLabel → Label
kept_label k = label k.len k.layers k.name.items

abbrev pub label_of : KeptSequence → Option Label
label_of e = option_map kept_label e.label

abbrev pub held_indices : KeptSequence → Option (List ℕ)
held_indices e = option_map (λ l. take l.layers e.indices) (label_of e)

abbrev pub defined_of : List ℕ → Sequence → ℕ → Label → List ℕ
defined_of key s radix l = index_sequence key s radix l.len l.run l.layers

abbrev pub defined_indices : List ℕ → Sequence → ℕ → KeptSequence → Option (List ℕ)
defined_indices key s radix e = option_map (defined_of key s radix) (label_of e)

abbrev pub labels : List KeptSequence → List (Option Label)
labels = map label_of

abbrev pub Stands : Label → List KeptSequence → ℕ → Type 0
Stands l kept i = (i < length kept) × (slice_index_or (labels kept) i None ≡ Some l)

abbrev pub Defined : List ℕ → Sequence → ℕ → List KeptSequence → Type 0
Defined key s radix kept = map held_indices kept ≡ map (defined_indices key s radix) kept
