-- The answer to a request. Assumes nothing.
use Rattle.std.proofs.Common.{◌≡◌, ℕ, List, Some, None, Ok, ap}
use Rattle.block_lines.specs.declared.request.Request.{Request}
use Rattle.block_lines.specs.Requests.{and_then, request_of}
use Rattle.block_lines.specs.Answers.{answer_to, reply, answer_of}

module _ (line : List ℕ) where
  pub replies : (q : Request) → Ok (Some q) ≡ request_of line → answer_to line q ≡ answer_of line
  unfolding answer_of
  replies q e = ap (λ r. and_then r (reply line)) e

  pub silence : Ok None ≡ request_of line → Ok None ≡ answer_of line
  unfolding answer_of
  silence e = ap (λ r. and_then r (reply line)) e
