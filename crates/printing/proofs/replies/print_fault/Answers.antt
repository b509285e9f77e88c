use Rattle.std.proofs.Common.{◌≡◌, ℕ, ◌<◌, ◌≤◌, List, [], ◌∷◌, ◌++◌, length, codes, decimal, ap, ◌∙◌, arith, append_assoc}
use Rattle.std.proofs.lemmas.List.{length-append}
use Rattle.faults.specs.Faults.{number_of}
use Rattle.printing.proofs.Bounds.{short_fault, short_line}
use Rattle.printing.specs.Replies.{lane_text, fault_text, replied, line_feed}
use Rattle.printing.proofs.replies.print_fault.Goals as goal

abbrev spelled : List ℕ → List ℕ → List ℕ → List ℕ
spelled number place depth = codes "!" ++ number ++ codes " " ++ place ++ codes " " ++ depth

-- a fault's text is written part by part
in_parts : (start number place depth : List ℕ) → start ++ codes "!" ++ number ++ codes " " ++ place ++ codes " " ++ depth ≡ start ++ spelled number place depth
in_parts start number place depth = simp append_assoc

pub returns-clause-value : goal.returns-clause-value
unfolding replied fault_text
returns-clause-value c =
    let f = c.args.fault in
    let start = lane_text c.args.lane ++ codes " " in
    c.put-4.ensures
    ∙ ap (λ t. t ++ (line_feed ∷ [])) (c.put_number-3.ensures.grows
    ∙ ap (λ t. t ++ decimal f.depth) (c.put-3.ensures
    ∙ ap (λ t. t ++ codes " ") (c.put_number-2.ensures.grows
    ∙ ap (λ t. t ++ decimal f.place) (c.put-2.ensures
    ∙ ap (λ t. t ++ codes " ") (c.put_number.ensures.grows
    ∙ ap (λ t. t ++ decimal c.number.result) (c.put.ensures ∙ ap (λ t. t ++ codes "!") c.begin-line.ensures.text)))))
    ∙ in_parts start (decimal c.number.result) (decimal f.place) (decimal f.depth)
    ∙ ap (λ n. start ++ spelled (decimal n) (decimal f.place) (decimal f.depth)) c.number.ensures)

pub returns-clause-short : goal.returns-clause-short
returns-clause-short c =
    let f = c.args.fault in
    let lane = lane_text c.args.lane in
    let few : length lane ≤ 3 = omega (arith, c.begin-line.ensures.few, ap length c.begin-line.ensures.text, length-append lane (codes " ")) in
    let small : number_of f.cause < 256 = omega (arith, c.number.ensures) in
    let said = short_fault f small (omega arith) (omega arith) in
    omega (arith, short_line c.args.lane (fault_text f) few (omega (arith, said)), ap length (returns-clause-value c))
