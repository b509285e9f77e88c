-- Derives: a derived key from the tags of its two lists. Assumes nothing.
use Rattle.std.proofs.Common.{◌≡◌, List, ℕ, ◌++◌, ap, ◌∙◌}
use Rattle.block_cipher.specs.Cmac.{cmac}
use Rattle.keys.specs.Derived.{derived_key}
use Rattle.keys.specs.Encodings.{Purpose, encode}

pub derives : (main : List ℕ) (p : Purpose) (first second t u key : List ℕ)
    → first ≡ encode 0 p → second ≡ encode 1 p → t ≡ cmac main first → u ≡ cmac main second → key ≡ t ++ u
    → key ≡ derived_key main p
unfolding derived_key
derives main p first second t u key ef eg et eu ek =
    ek ∙ ap (λ x. x ++ u) (et ∙ ap (cmac main) ef) ∙ ap (λ x. cmac main (encode 0 p) ++ x) (eu ∙ ap (cmac main) eg)
