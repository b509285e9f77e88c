-- A codebook permutes the codes, and undoes itself. Assumes nothing.
use Rattle.std.specs.Prelude.{◌≡◌, ℕ, zero, suc, ◌+◌, ◌^◌, ◌<◌, true, List, [], ◌∷◌, length, Some, Option, ◌==◌, ◌≢◌, slice_index, refl}
use Rattle.std.proofs.Math.Path.{sym, ap, subst}
use Rattle.std.proofs.Common.{◌∙◌, add-zero, arith}
use Rattle.std.specs.Option.{unwrap_or}
use Rattle.std.specs.List.{AllByRecursion, slice_get}
use Rattle.std.proofs.lemmas.Option.{slice_get-get_or}
use Rattle.std.proofs.lemmas.Bool.{cond-true, cond-false, eq-eqb, ne_eqb, eqb-true, and_parts, and_from}
use Rattle.alphabets.specs.declared.alphabet.Alphabet.{Alphabet}
use Rattle.alphabets.specs.Alphabets.{radix_of, letter_of, alphabet_of}
use Rattle.formats.specs.Codes.{Code}
use Rattle.formats.specs.Forms.{Form}
use Rattle.alphabets.proofs.Symbols.{own_letter}
use Rattle.faults.proofs.Variants.{same_some}
use Rattle.coins.specs.Boxes.{Permutation}
use Rattle.coins.specs.Sboxes.{place_from, place_of}
use Rattle.ciphers.specs.Meanings.{Free, Undone, Laws}
use Rattle.codebook.specs.BookLaws.{PermutesCodes, Sound, KeepsLaws}
use Rattle.codebook.specs.Books.{Book, taken_by, through, meaning_of}
use Rattle.codebook.specs.Numbers.{number, written}
use Rattle.codebook.specs.Counts.{some_symbols}
use Rattle.codebook.specs.Numberings.{numbering}

-- the first place at which a number stands, counted from i
place_found : (i y : ℕ) (table : List ℕ) (x : ℕ) → x < length table → slice_index table x ≡ y →
    ((z : ℕ) → z < x → slice_index table z ≢ y) → place_from i y table ≡ Some (i + x)
place_found i y [] x h e first = absurd (omega arith)
place_found i y (t ∷ ts) zero h e first = cond-true (t == y) (Some i) _ (eq-eqb t y e) ∙ ap Some (sym (add-zero i))
place_found i y (t ∷ ts) (suc x) h e first =
    cond-false (t == y) (Some i) _ (ne_eqb t y (first 0 (omega arith))) ∙
    place_found (suc i) y ts x (omega arith) e (λ z l. first (suc z) (omega arith)) ∙ ap Some (omega arith)

-- a box at a number, and at an image
module _ (count : ℕ) (table : List ℕ) (p : Permutation count table) where
  pub image_is : (x : ℕ) → x < count → unwrap_or (slice_get table x) 0 ≡ slice_index table x
  image_is x h = ap (λ o. unwrap_or o 0) (slice_get-get_or table x 0 (omega (arith, p.long)))

  pub place_is : (x : ℕ) → x < count → unwrap_or (place_of (slice_index table x) table) 0 ≡ x
  place_is x h =
      ap (λ o. unwrap_or o 0) (place_found 0 (slice_index table x) table x (omega (arith, p.long)) refl
      (λ z l e. let same = p.once z x (omega arith) h e in omega arith)) ∙ omega arith

  pub image_below : (x : ℕ) → x < count → unwrap_or (slice_get table x) 0 < count
  image_below x h = subst (λ (n : ℕ). n < count) (sym (image_is x h)) (p.inside x h)

  pub place_below : (y : ℕ) → y < count → unwrap_or (place_of y table) 0 < count
  place_below y h =
      let at = p.everywhere y h in
      let e : unwrap_or (place_of y table) 0 ≡ at.0 = ap (λ n. unwrap_or (place_of n table) 0) (sym at.2) ∙ place_is at.0 at.1 in
      subst (λ (n : ℕ). n < count) (sym e) at.1

  pub place_of_image : (x : ℕ) → x < count → unwrap_or (place_of (unwrap_or (slice_get table x) 0) table) 0 ≡ x
  place_of_image x h = ap (λ n. unwrap_or (place_of n table) 0) (image_is x h) ∙ place_is x h

  pub image_of_place : (y : ℕ) → y < count → unwrap_or (slice_get table (unwrap_or (place_of y table) 0)) 0 ≡ y
  image_of_place y h =
      let at = p.everywhere y h in
      let e : unwrap_or (place_of y table) 0 ≡ at.0 = ap (λ n. unwrap_or (place_of n table) 0) (sym at.2) ∙ place_is at.0 at.1 in
      ap (λ n. unwrap_or (slice_get table n) 0) e ∙ image_is at.0 at.1 ∙ at.2

-- alphabets with the same letter are the same
pub same_letter : (a b : Alphabet) → letter_of a ≡ letter_of b → a ≡ b
same_letter a b e = same_some a b (sym (own_letter a) ∙ ap alphabet_of e ∙ own_letter b)

pub taken_same : (b : Book) (f : Form) → taken_by b f ≡ true → (b.alphabet ≡ f.alphabet) × (b.len ≡ f.len)
unfolding taken_by
taken_same b f t =
    let both = and_parts _ _ t in
    (same_letter b.alphabet f.alphabet (eqb-true _ _ both.0), eqb-true _ _ both.1)

pub same_taken : (b : Book) (f : Form) → b.alphabet ≡ f.alphabet → b.len ≡ f.len → taken_by b f ≡ true
unfolding taken_by
same_taken b f e l = and_from _ _ (eq-eqb _ _ (ap letter_of e)) (eq-eqb _ _ l)

-- numbers that are swapped and swapped back give codes that are
module _ (b : Book) (go undo : ℕ → Option ℕ)
    (below : (x : ℕ) → x < radix_of b.alphabet ^ b.len → unwrap_or (go x) 0 < radix_of b.alphabet ^ b.len)
    (back : (x : ℕ) → x < radix_of b.alphabet ^ b.len → unwrap_or (undo (unwrap_or (go x) 0)) 0 ≡ x)
    (f : Form) (taken : taken_by b f ≡ true) where
  some : 0 < radix_of b.alphabet
  some = omega (arith, some_symbols b.alphabet)

  pub through_stays : (c : List ℕ) → Code f c → Code f (through b go c)
  unfolding through
  through_stays c h =
      let same = taken_same b f taken in
      let v = unwrap_or (go (number (radix_of b.alphabet) c)) 0 in
      let all = numbering (radix_of b.alphabet) b.len in
      record {
        long = all.long v ∙ same.1;
        symbols = subst (λ (a : Alphabet). AllByRecursion (λ x. x < radix_of a) (written (radix_of b.alphabet) b.len v)) same.0 (all.symbols v some);
      }

  pub through_undone : (c : List ℕ) → Code f c → through b undo (through b go c) ≡ c
  unfolding through
  through_undone c h =
      let a = radix_of b.alphabet in
      let n = b.len in
      let same = taken_same b f taken in
      let all = numbering a n in
      let long : length c ≡ n = h.long ∙ sym same.1 in
      let symbols : AllByRecursion (λ x. x < a) c = subst (λ (s : Alphabet). AllByRecursion (λ x. x < radix_of s) c) (sym same.0) h.symbols in
      let low = all.below c long symbols in
      let v = unwrap_or (go (number a c)) 0 in
      ap (λ m. written a n (unwrap_or (undo m) 0)) (all.back v some (below (number a c) low)) ∙
      ap (written a n) (back (number a c) low) ∙ all.again c long symbols

  pub through_laws : Undone (meaning_of b) f (through b go) (through b undo)
  through_laws = record {
    stays = λ c h. record { code = through_stays c h.code; open_to = refl };
    undoes = λ c h. through_undone c h.code;
  }

pub lawful : (b : Book) → Sound b → Laws (meaning_of b)
lawful b s =
    let t = b.table in
    let n = radix_of b.alphabet ^ b.len in
    record {
      onward = λ f run taken. through_laws b (slice_get t) (λ y. place_of y t) (image_below n t s) (place_of_image n t s) f taken;
      homeward = λ f run taken. through_laws b (λ y. place_of y t) (slice_get t) (place_below n t s) (image_of_place n t s) f taken;
    }

-- maps that undo each other permute the codes, where none is barred
permutes : (b : Book) (f : Form) (go undo : List ℕ → List ℕ) → Undone (meaning_of b) f go undo → Undone (meaning_of b) f undo go → PermutesCodes f go
permutes b f go undo there again = record {
  stays = λ c h. (there.stays c (free c h)).code;
  once = λ c d h k e. sym (there.undoes c (free c h)) ∙ ap undo e ∙ there.undoes d (free d k);
  onto = λ d h. (undo d, (again.stays d (free d h)).code, again.undoes d (free d h));
}
  where
    free : (c : List ℕ) → Code f c → Free (meaning_of b) f c
    free c h = record { code = h; open_to = refl }

pub keeps_laws : (b : Book) → Sound b → KeepsLaws b
keeps_laws b s =
    let laws = lawful b s in
    record {
      takes = λ f e l. same_taken b f (sym e) (sym l);
      takes_only = λ f t. let same = taken_same b f t in (sym same.0, sym same.1);
      open_to = λ f c. refl;
      alike = λ f g run other c. refl;
      forward = λ f run t. permutes b f _ _ (laws.onward f run t) (laws.homeward f run t);
      backward = λ f run t. permutes b f _ _ (laws.homeward f run t) (laws.onward f run t);
      lawful = laws;
    }
