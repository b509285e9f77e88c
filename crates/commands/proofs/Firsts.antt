-- A first line, read word by word. Assumes nothing.
use Rattle.std.proofs.Common.{◌≡◌, ℕ, ◌<◌, ◌≤◌, ◌&&◌, leb, List, [], ◌∷◌, length, Some, None, Option, sym, refl, ap, ◌∙◌}
use Rattle.std.proofs.lemmas.Bool.{cond-true, cond-false, le-leb, lt-leb}
use Rattle.text.specs.Readers.{first_of, rest_of}
use Rattle.text.specs.Words.{words_of}
use Rattle.commands.specs.Words.{filled, all_filled, filled_in, ended}
use Rattle.commands.specs.Openings.{Opening, chosen, read_opening, opening}
use Rattle.commands.proofs.Readings.{then, goes_on, stops, either_way}

abbrev after_digits : List ℕ → List ℕ → List ℕ → List (List ℕ) → Option Opening
after_digits name subject digits = then ended (λ _ _. chosen name subject digits)

abbrev after_subject : List ℕ → List ℕ → List (List ℕ) → Option Opening
after_subject name subject = then filled_in (after_digits name subject)

abbrev after_name : List ℕ → List (List ℕ) → Option Opening
after_name name = then filled_in (after_subject name)

abbrev first_form : List (List ℕ) → Option Opening
first_form = then filled_in after_name

first_form_lem : (ws : List (List ℕ)) → first_form ws ≡ read_opening ws
unfolding read_opening
first_form_lem [] = refl
first_form_lem ([] ∷ ws) = refl
first_form_lem ((b ∷ bs) ∷ []) = refl
first_form_lem ((b ∷ bs) ∷ [] ∷ ws) = refl
first_form_lem ((b ∷ bs) ∷ (d ∷ ds) ∷ []) = refl
first_form_lem ((b ∷ bs) ∷ (d ∷ ds) ∷ [] ∷ ws) = refl
first_form_lem ((b ∷ bs) ∷ (d ∷ ds) ∷ (e ∷ es) ∷ []) = refl
first_form_lem ((b ∷ bs) ∷ (d ∷ ds) ∷ (e ∷ es) ∷ w ∷ ws) = either_way (filled w && all_filled ws) None

pub too_long : (line : List ℕ) → 4096 < length line → None ≡ opening line
unfolding opening
too_long line h = sym (cond-false (leb (length line) 4096) (read_opening (words_of line)) None (lt-leb (length line) 4096 h))

-- a line that is not too long, and a reader over it, as it hands out words
module _ (line : List ℕ) (fits : length line ≤ 4096) (ws : List (List ℕ)) (begun : ws ≡ words_of line) where
  read : first_form ws ≡ opening line
  unfolding opening
  read =
      first_form_lem ws ∙ ap read_opening begun
      ∙ sym (cond-true (leb (length line) 4096) (read_opening (words_of line)) None (le-leb (length line) 4096 fits))

  pub no_name : None ≡ filled_in (first_of ws) → None ≡ opening line
  no_name e = stops filled_in after_name ws e ∙ read

  module _ (name : List ℕ) (first : Some name ≡ filled_in (first_of ws)) (vs : List (List ℕ)) (rest : vs ≡ rest_of ws) where
    named : after_name name vs ≡ opening line
    named = goes_on filled_in after_name ws vs rest name first ∙ read

    pub no_subject : None ≡ filled_in (first_of vs) → None ≡ opening line
    no_subject e = stops filled_in (after_subject name) vs e ∙ named

    module _ (subject : List ℕ) (second : Some subject ≡ filled_in (first_of vs)) (us : List (List ℕ)) (rest-2 : us ≡ rest_of vs) where
      about : after_subject name subject us ≡ opening line
      about = goes_on filled_in (after_subject name) vs us rest-2 subject second ∙ named

      pub no_digits : None ≡ filled_in (first_of us) → None ≡ opening line
      no_digits e = stops filled_in (after_digits name subject) us e ∙ about

      module _ (digits : List ℕ) (third : Some digits ≡ filled_in (first_of us)) (ts : List (List ℕ)) (rest-3 : ts ≡ rest_of us) where
        spelled_out : after_digits name subject digits ts ≡ opening line
        spelled_out = goes_on filled_in (after_digits name subject) us ts rest-3 digits third ∙ about

        pub more_words : None ≡ ended (first_of ts) → None ≡ opening line
        more_words e = stops ended (λ _ _. chosen name subject digits) ts e ∙ spelled_out

        pub three_words : (u : Unit {0}) → Some u ≡ ended (first_of ts) → chosen name subject digits ≡ opening line
        three_words u e = goes_on ended (λ _ _. chosen name subject digits) ts (rest_of ts) refl u e ∙ spelled_out
