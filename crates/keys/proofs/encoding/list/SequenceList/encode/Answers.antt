use Rattle.std.proofs.Common.{◌≡◌, ℕ, ◌+◌, ◌≤◌, List, [], ◌∷◌, ◌++◌, length, sym, ap, ◌∙◌, arith, rules}
use Rattle.keys.specs.Distances.{w_of, w'_of}
use Rattle.keys.specs.Encodings.{two, opening, encode}
use Rattle.keys.specs.Labels.{label_of}
use Rattle.keys.specs.Sequences.{sequence_list}
use Rattle.keys.proofs.Pieces.{three_pieces}
use Rattle.keys.proofs.Ranges.{legal_short}
use Rattle.keys.proofs.encoding.list.SequenceList.encode.Goals as goal

pub overflow_cast-run : goal.overflow_cast-run
overflow_cast-run c =
    let name = c.args.self.now.run in
    let short : length c.as_bytes-run.result.now ≤ 32 = omega (arith, ap length c.as_bytes-run.ensures, legal_short name.bytes.now name.legal) in
    search rules

pub slice_bounds-bytes-end-3 : goal.slice_bounds-bytes-end-3
slice_bounds-bytes-end-3 c =
    let name = c.args.self.now.run in
    let short : length c.as_bytes-run.result.now ≤ 32 = omega (arith, ap length c.as_bytes-run.ensures, legal_short name.bytes.now name.legal) in
    search rules

pub returns : goal.returns
unfolding encode sequence_list
returns c =
    let s = c.args.self.now in
    let run = c.as_bytes-run.result.now in
    let n = length run in
    let sizes : ℕ → List ℕ = λ k. s.len ∷ (two s.layers ++ w_of s.len ∷ w'_of s.len ∷ k ∷ []) in
    let front = opening c.args.counter (label_of s.sequence) s.radix in
    let head : c.copy_from_slice.new.self ≡ front =
    c.copy_from_slice.ensures.after ∙ c.opening.ensures ∙ ap (λ l. opening c.args.counter l s.radix) c.label.ensures in
    let middle : c.copy_from_slice-2.new.self ≡ sizes n = c.copy_from_slice-2.ensures.after ∙ c.sizes.ensures in
    let tail : c.copy_from_slice-3.new.self ≡ run = c.copy_from_slice-3.ensures.after in
    three_pieces c.copy_from_slice.new.self c.copy_from_slice-2.new.self c.copy_from_slice-3.new.self _ _ _ (ap length head) (ap length middle) (ap (λ l. 14 + length l) (sym tail))
    ∙ ap (λ l. l ++ (c.copy_from_slice-2.new.self ++ c.copy_from_slice-3.new.self)) head
    ∙ ap (λ l. front ++ (l ++ c.copy_from_slice-3.new.self)) middle
    ∙ ap (λ l. front ++ (sizes n ++ l)) tail
    ∙ ap (λ l. front ++ (sizes (length l) ++ l)) c.as_bytes-run.ensures
