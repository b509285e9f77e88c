use Rattle.std.proofs.Common.{◌≡◌, ℕ, min, List, length, take, ap, ◌∙◌, arith}
use Rattle.std.proofs.lemmas.List.{take_min}
use Rattle.printing.specs.Replies.{replied}
use Rattle.printing.proofs.replies.print_code.Goals as goal

-- at most 32 bytes of a code
front : (code : List ℕ) (n : ℕ) → n ≡ min (length code) 32 → take n code ≡ take 32 code
front code n e = ap (λ k. take k code) (let z : n ≡ min 32 (length code) = omega arith in z) ∙ take_min 32 code

pub returns-clause-value : goal.returns-clause-value
returns-clause-value c = c.reply.ensures.value ∙ ap (replied c.args.lane) (front c.args.code.now _ (omega (arith, c.min-most.ensures)))
