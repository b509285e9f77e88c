-- A line by its first word. Assumes nothing.
use Rattle.std.proofs.Common.{◌≡◌, ℕ, ◌-◌, ◌<◌, ◌≤◌, Bool, true, false, ◌&&◌, cond, eqb, leb, List, [], ◌∷◌, length, Some, None, codes, Option, sym, refl, ap, ◌∙◌, add-zero, arith}
use Rattle.std.proofs.lemmas.Bool.{cond-true, cond-false, le-leb, lt-leb, ne_eqb, and_left, and_right}
use Rattle.alphabets.specs.declared.alphabet.Alphabet.TheVariants.{Decimal}
use Rattle.alphabets.specs.Alphabets.{symbol_of}
use Rattle.alphabets.proofs.Symbols.{symbol_by_spans}
use Rattle.formats.specs.ShapeTexts.{digit_of}
use Rattle.text.specs.Readers.{first_of, rest_of}
use Rattle.text.specs.Words.{words_of}
use Rattle.commands.specs.Words.{all_filled, is, filled_in, only_byte, lane_of}
use Rattle.commands.specs.Commands.{Spelled, command_of, read_words, spelled}

pub too_long : (line : List ℕ) → 4096 < length line → None ≡ spelled line
unfolding spelled
too_long line h = sym (cond-false (leb (length line) 4096) (read_words (words_of line)) None (lt-leb (length line) 4096 h))

-- no first word, or an empty one
no_name : (ws : List (List ℕ)) → None ≡ filled_in (first_of ws) → None ≡ read_words ws
unfolding read_words
no_name [] e = refl
no_name ([] ∷ ws) e = refl
no_name ((b ∷ bs) ∷ ws) e = absurd (let z : ◌≡◌ {A = ℕ} 0 1 = cc in omega arith)

pub first_of_lem : (ws : List (List ℕ)) (w : List ℕ) → Some w ≡ filled_in (first_of ws) → w ∷ rest_of ws ≡ ws
first_of_lem [] w e = absurd (let z : ◌≡◌ {A = ℕ} 0 1 = cc in omega arith)
first_of_lem ([] ∷ ws) w e = absurd (let z : ◌≡◌ {A = ℕ} 0 1 = cc in omega arith)
first_of_lem ((b ∷ bs) ∷ ws) w e = let k : w ≡ b ∷ bs = cc in ap (λ v. v ∷ ws) k

pub byte_of_lem : (w : List ℕ) (b : ℕ) → Some b ≡ only_byte w → w ≡ b ∷ []
byte_of_lem [] b e = absurd (let z : ◌≡◌ {A = ℕ} 0 1 = cc in omega arith)
byte_of_lem (d ∷ []) b e = let k : b ≡ d = cc in ap (λ x. x ∷ []) (sym k)
byte_of_lem (d ∷ f ∷ more) b e = absurd (let z : ◌≡◌ {A = ℕ} 0 1 = cc in omega arith)

-- a lane is the symbol that its one byte writes
digit_is : (b : ℕ) → b < 256 → symbol_of Decimal b ≡ digit_of b
digit_is b h = sym (symbol_by_spans Decimal b h) ∙ ap (λ n. cond (leb 48 b && leb b 57) (Some n) None) (add-zero (b - 48))

pub lane_is : (w : List ℕ) (b : ℕ) → b < 256 → Some b ≡ only_byte w → symbol_of Decimal b ≡ lane_of w
lane_is w b h e = digit_is b h ∙ sym (ap lane_of (byte_of_lem w b e))

-- a word that is no command's name
record Unknown (w : List ℕ) : Type 0 where
  s : is (codes "S") w ≡ false
  e : is (codes "E") w ≡ false
  m : is (codes "M") w ≡ false
  u : is (codes "U") w ≡ false
  r : is (codes "R") w ≡ false

unknown_command : (w : List ℕ) (ws : List (List ℕ)) → Unknown w → command_of (w ∷ ws) ≡ None
unknown_command w [] h = cond-false (is (codes "R") w) _ None h.r
unknown_command w (lane ∷ []) h = cond-false (is (codes "E") w) _ None h.e
unknown_command w (lane ∷ code ∷ []) h =
    cond-false (is (codes "M") w) _ _ h.m ∙ cond-false (is (codes "U") w) _ None h.u
unknown_command w (lane ∷ run ∷ shape ∷ []) h = cond-false (is (codes "S") w) _ None h.s
unknown_command w (lane ∷ run ∷ shape ∷ more ∷ ws) h = refl

dull : (b : Bool) (o : Option Spelled) → o ≡ None → None ≡ cond b o None
dull true o e = sym e
dull false o e = refl

unknown_name : (w : List ℕ) (ws : List (List ℕ)) → Unknown w → None ≡ read_words (w ∷ ws)
unfolding read_words
unknown_name w ws h = dull (all_filled (w ∷ ws)) (command_of (w ∷ ws)) (unknown_command w ws h)

-- a name of several bytes, and one of one byte that is none of the five letters
long_name : (b d : ℕ) (more : List ℕ) → Unknown (b ∷ d ∷ more)
long_name b d more = record {
  s = and_right (eqb b 83) false refl;
  e = and_right (eqb b 69) false refl;
  m = and_right (eqb b 77) false refl;
  u = and_right (eqb b 85) false refl;
  r = and_right (eqb b 82) false refl;
}

other_name : (b : ℕ) → (b ≡ 83 → ⊥) → (b ≡ 69 → ⊥) → (b ≡ 77 → ⊥) → (b ≡ 85 → ⊥) → (b ≡ 82 → ⊥) → Unknown (b ∷ [])
other_name b s e m u r = record {
  s = and_left (eqb b 83) true (ne_eqb b 83 s);
  e = and_left (eqb b 69) true (ne_eqb b 69 e);
  m = and_left (eqb b 77) true (ne_eqb b 77 m);
  u = and_left (eqb b 85) true (ne_eqb b 85 u);
  r = and_left (eqb b 82) true (ne_eqb b 82 r);
}

odd_name : (w : List ℕ) (ws : List (List ℕ)) → None ≡ only_byte w → None ≡ read_words (w ∷ ws)
unfolding read_words
odd_name [] ws e = refl
odd_name (b ∷ []) ws e = absurd (let z : ◌≡◌ {A = ℕ} 0 1 = cc in omega arith)
odd_name (b ∷ d ∷ more) ws e = unknown_name (b ∷ d ∷ more) ws (long_name b d more)

-- a line that is not too long, and a reader over it
module _ (line : List ℕ) (fits : length line ≤ 4096) (ws : List (List ℕ)) (begun : ws ≡ words_of line) where
  read : read_words ws ≡ spelled line
  unfolding spelled
  read = ap read_words begun ∙ sym (cond-true (leb (length line) 4096) (read_words (words_of line)) None (le-leb (length line) 4096 fits))

  pub nameless : None ≡ filled_in (first_of ws) → None ≡ spelled line
  nameless e = no_name ws e ∙ read

  module _ (w : List ℕ) (first : Some w ≡ filled_in (first_of ws)) (vs : List (List ℕ)) (rest : vs ≡ rest_of ws) where
    whole : read_words (w ∷ vs) ≡ spelled line
    whole = ap (λ us. read_words (w ∷ us)) rest ∙ ap read_words (first_of_lem ws w first) ∙ read

    pub oddly_named : None ≡ only_byte w → None ≡ spelled line
    oddly_named e = odd_name w vs e ∙ whole

    pub named : (b n : ℕ) → Some b ≡ only_byte w → b ≡ n → read_words ((n ∷ []) ∷ vs) ≡ spelled line
    named b n e is-n = ap (λ v. read_words (v ∷ vs)) (ap (λ x. x ∷ []) (sym is-n) ∙ sym (byte_of_lem w b e)) ∙ whole

    pub otherwise_named : (b : ℕ) → Some b ≡ only_byte w → (b ≡ 83 → ⊥) → (b ≡ 69 → ⊥) → (b ≡ 77 → ⊥) → (b ≡ 85 → ⊥) → (b ≡ 82 → ⊥) → None ≡ spelled line
    otherwise_named b e s f m u r = unknown_name (b ∷ []) vs (other_name b s f m u r) ∙ named b b e refl
