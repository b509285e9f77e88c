-- The forms of lines, read word by word. Assumes nothing.
use Rattle.std.proofs.Common.{◌≡◌, ℕ, ◌&&◌, List, [], ◌∷◌, Some, None, codes, Option, refl, ap, ◌∙◌}
use Rattle.std.specs.Option.{option_map}
use Rattle.commands.specs.Words.{filled, all_filled, lane_of, filled_in, lane_in, ended}
use Rattle.commands.specs.Commands.{Spelled, start, end, mask, unmask, restart, read_words}
use Rattle.text.specs.Readers.{first_of, rest_of}
use Rattle.commands.proofs.Readings.{and_then, then, goes_on, stops, nothing, built, either_way}

-- no word more
abbrev pub finally : Spelled → List (List ℕ) → Option Spelled
finally command = then ended (λ _ _. Some command)

pub last_word : (command : Spelled) (ws : List (List ℕ)) (u : Unit {0}) → Some u ≡ ended (first_of ws) → Some command ≡ finally command ws
last_word command ws u e = goes_on ended (λ _ _. Some command) ws (rest_of ws) refl u e

pub more_words : (command : Spelled) (ws : List (List ℕ)) → None ≡ ended (first_of ws) → None ≡ finally command ws
more_words command ws e = stops ended (λ _ _. Some command) ws e

-- after a lane, and after a run
abbrev pub after_run : ℕ → List ℕ → List (List ℕ) → Option Spelled
after_run k run = then filled_in (λ shape. finally (start k run shape))

abbrev pub after_lane : ℕ → List (List ℕ) → Option Spelled
after_lane k = then filled_in (after_run k)

abbrev pub start_form : List (List ℕ) → Option Spelled
start_form = then lane_in after_lane

abbrev pub end_form : List (List ℕ) → Option Spelled
end_form = then lane_in (λ k. finally (end k))

-- after a lane and a code
abbrev pub after_code : ℕ → List ℕ → List (List ℕ) → Option (ℕ × List ℕ)
after_code k code = then ended (λ _ _. Some (k, code))

abbrev pub before_code : ℕ → List (List ℕ) → Option (ℕ × List ℕ)
before_code k = then filled_in (after_code k)

abbrev pub code_form : List (List ℕ) → Option (ℕ × List ℕ)
code_form = then lane_in before_code

paired : (kind : ℕ → List ℕ → Spelled) (code : List ℕ) (o : Option ℕ) → option_map (λ (p : ℕ × List ℕ). kind p.0 p.1) (and_then o (λ k. Some (k, code))) ≡ option_map (λ k. kind k code) o
paired kind code None = refl
paired kind code (Some k) = refl

unpaired : (kind : ℕ → List ℕ → Spelled) (o : Option ℕ) → option_map (λ (p : ℕ × List ℕ). kind p.0 p.1) (and_then o (λ k. None)) ≡ None
unpaired kind None = refl
unpaired kind (Some k) = refl

pub start_form_lem : (ws : List (List ℕ)) → start_form ws ≡ read_words (codes "S" ∷ ws)
unfolding read_words
start_form_lem [] = refl
start_form_lem ([] ∷ ws) = refl
start_form_lem ((b ∷ bs) ∷ []) = nothing (lane_of (b ∷ bs))
start_form_lem ((b ∷ bs) ∷ [] ∷ ws) = nothing (lane_of (b ∷ bs))
start_form_lem ((b ∷ bs) ∷ (d ∷ ds) ∷ []) = nothing (lane_of (b ∷ bs))
start_form_lem ((b ∷ bs) ∷ (d ∷ ds) ∷ [] ∷ ws) = nothing (lane_of (b ∷ bs))
start_form_lem ((b ∷ bs) ∷ (d ∷ ds) ∷ (e ∷ es) ∷ []) = built (λ k. start k (d ∷ ds) (e ∷ es)) (lane_of (b ∷ bs))
start_form_lem ((b ∷ bs) ∷ (d ∷ ds) ∷ (e ∷ es) ∷ w ∷ ws) = nothing (lane_of (b ∷ bs)) ∙ either_way (filled w && all_filled ws) None

pub end_form_lem : (ws : List (List ℕ)) → end_form ws ≡ read_words (codes "E" ∷ ws)
unfolding read_words
end_form_lem [] = refl
end_form_lem ([] ∷ ws) = refl
end_form_lem ((b ∷ bs) ∷ []) = built end (lane_of (b ∷ bs))
end_form_lem ((b ∷ bs) ∷ w ∷ []) = nothing (lane_of (b ∷ bs)) ∙ either_way (filled w && all_filled []) None
end_form_lem ((b ∷ bs) ∷ w ∷ v ∷ []) = nothing (lane_of (b ∷ bs)) ∙ either_way (filled w && all_filled (v ∷ [])) None
end_form_lem ((b ∷ bs) ∷ w ∷ v ∷ u ∷ us) = nothing (lane_of (b ∷ bs)) ∙ either_way (filled w && all_filled (v ∷ u ∷ us)) None

mask_form : (ws : List (List ℕ)) → option_map (λ (p : ℕ × List ℕ). mask p.0 p.1) (code_form ws) ≡ read_words (codes "M" ∷ ws)
unfolding read_words
mask_form [] = refl
mask_form ([] ∷ ws) = refl
mask_form ((b ∷ bs) ∷ []) = unpaired mask (lane_of (b ∷ bs))
mask_form ((b ∷ bs) ∷ [] ∷ ws) = unpaired mask (lane_of (b ∷ bs))
mask_form ((b ∷ bs) ∷ (d ∷ ds) ∷ []) = paired mask (d ∷ ds) (lane_of (b ∷ bs))
mask_form ((b ∷ bs) ∷ (d ∷ ds) ∷ w ∷ []) = unpaired mask (lane_of (b ∷ bs)) ∙ either_way (filled w && all_filled []) None
mask_form ((b ∷ bs) ∷ (d ∷ ds) ∷ w ∷ v ∷ vs) = unpaired mask (lane_of (b ∷ bs)) ∙ either_way (filled w && all_filled (v ∷ vs)) None

unmask_form : (ws : List (List ℕ)) → option_map (λ (p : ℕ × List ℕ). unmask p.0 p.1) (code_form ws) ≡ read_words (codes "U" ∷ ws)
unfolding read_words
unmask_form [] = refl
unmask_form ([] ∷ ws) = refl
unmask_form ((b ∷ bs) ∷ []) = unpaired unmask (lane_of (b ∷ bs))
unmask_form ((b ∷ bs) ∷ [] ∷ ws) = unpaired unmask (lane_of (b ∷ bs))
unmask_form ((b ∷ bs) ∷ (d ∷ ds) ∷ []) = paired unmask (d ∷ ds) (lane_of (b ∷ bs))
unmask_form ((b ∷ bs) ∷ (d ∷ ds) ∷ w ∷ []) = unpaired unmask (lane_of (b ∷ bs)) ∙ either_way (filled w && all_filled []) None
unmask_form ((b ∷ bs) ∷ (d ∷ ds) ∷ w ∷ v ∷ vs) = unpaired unmask (lane_of (b ∷ bs)) ∙ either_way (filled w && all_filled (v ∷ vs)) None

-- a lane and a code that were read are those of a mask, and of an unmask
pub both_ways : (o : Option (ℕ × List ℕ)) (ws : List (List ℕ)) → o ≡ code_form ws → (option_map (λ (p : ℕ × List ℕ). mask p.0 p.1) o ≡ read_words (codes "M" ∷ ws)) × (option_map (λ (p : ℕ × List ℕ). unmask p.0 p.1) o ≡ read_words (codes "U" ∷ ws))
both_ways o ws e = (ap (option_map (λ (p : ℕ × List ℕ). mask p.0 p.1)) e ∙ mask_form ws, ap (option_map (λ (p : ℕ × List ℕ). unmask p.0 p.1)) e ∙ unmask_form ws)

pub restart_form : (ws : List (List ℕ)) → finally restart ws ≡ read_words (codes "R" ∷ ws)
unfolding read_words
restart_form [] = refl
restart_form (w ∷ []) = either_way (filled w && all_filled []) None
restart_form (w ∷ v ∷ []) = either_way (filled w && all_filled (v ∷ [])) None
restart_form (w ∷ v ∷ u ∷ []) = either_way (filled w && all_filled (v ∷ u ∷ [])) None
restart_form (w ∷ v ∷ u ∷ x ∷ xs) = either_way (filled w && all_filled (v ∷ u ∷ x ∷ xs)) None
