-- One reading after another. Assumes nothing.
use Rattle.std.proofs.Common.{◌≡◌, ℕ, true, false, List, Some, None, Ok, Option, Result, sym, ap, ◌∙◌}
use Rattle.block_lines.specs.declared.unreadable.Unreadable.{Unreadable}
use Rattle.text.specs.Words.{words_of}
use Rattle.std.proofs.lemmas.Bool.{cond-true, cond-false}
use Rattle.block_lines.specs.Requests.{and_then, mapped_ok, words_ask, silent, request_of}

-- g reads the word w, which is v: the rest decides
pub goes_on : {A B : Type 0} (g : Option (List ℕ) → Result A Unreadable) (k : A → Result B Unreadable) (w v : Option (List ℕ)) → w ≡ v → (x : A) → Ok x ≡ g w → k x ≡ and_then (g v) k
goes_on g k w v same x e = ap (λ r. and_then r k) (e ∙ ap g same)

pub nothing_asked : (line : List ℕ) → true ≡ silent line → Ok None ≡ request_of line
unfolding request_of
nothing_asked line e = sym (cond-true (silent line) (Ok None) (mapped_ok (λ q. Some q) (words_ask (words_of line))) (sym e))

pub words_ask_lem : (line : List ℕ) → false ≡ silent line → mapped_ok (λ q. Some q) (words_ask (words_of line)) ≡ request_of line
unfolding request_of
words_ask_lem line e = sym (cond-false (silent line) (Ok None) (mapped_ok (λ q. Some q) (words_ask (words_of line))) (sym e))
