-- The network undoes itself: sums and differences, one layer, a list of layers. Assumes nothing.
use Rattle.std.specs.Prelude.{◌≡◌, ℕ, suc, ◌+◌, ◌-◌, ◌%◌, ◌<◌, List, [], ◌∷◌, ◌++◌, length, take, drop, ◌==◌, slice_index, slice_index_or}
use Rattle.std.proofs.Math.Path.{refl, sym, ap}
use Rattle.std.proofs.Common.{subst, ◌∙◌, inl, inr, arith, mod-lt, mod-eq_of_lt}
use Rattle.std.proofs.Math.Nat.{add-mod_right, mod-add-mod}
use Rattle.std.specs.List.{AllByRecursion}
use Rattle.std.proofs.ByRecursion.{All-get_or, All-push, All-take, All-drop}
use Rattle.std.proofs.lemmas.List.{length_push, length-take-le, length-drop, get_or_push, get_or_append_left, get_or-take, take_at, take_more, take_all}
use Rattle.std.proofs.lemmas.Bool.{cases_Bool, cond-true, cond-false, eqb-false}
use Rattle.ciphers.specs.Layers.{plus, minus, image, less, more, forward_layer, backward_layer, core_encrypt, core_decrypt, Permutes, Near, Symbols, LayersUndo, CoreUndoes}

-- sums and differences modulo a undo each other
pub plus_below : (a x y : ℕ) → 0 < a → plus a x y < a
plus_below a x y p = mod-lt (x + y) p

pub minus_below : (a x y : ℕ) → 0 < a → minus a x y < a
minus_below a x y p = mod-lt (x + (a - y)) p

pub minus_plus : (a x y : ℕ) → x < a → y < a → minus a (plus a x y) y ≡ x
minus_plus a x y hx hy =
    let whole : x + y + (a - y) ≡ x + a = omega arith in
    mod-add-mod (x + y) a (a - y) ∙ ap (λ n. n % a) whole ∙ add-mod_right x a ∙ mod-eq_of_lt hx

pub plus_minus : (a x y : ℕ) → x < a → y < a → plus a (minus a x y) y ≡ x
plus_minus a x y hx hy =
    let whole : x + (a - y) + y ≡ x + a = omega arith in
    mod-add-mod (x + (a - y)) a y ∙ ap (λ n. n % a) whole ∙ add-mod_right x a ∙ mod-eq_of_lt hx

less_below : (a w u y : ℕ) → u < a → less a w u y < a
less_below a w u y h =
    elim (cases_Bool (w == 0)) [
      | inl e ↦ subst (λ n. n < a) (sym (cond-true (w == 0) u (minus a u y) e)) h
      | inr e ↦ subst (λ n. n < a) (sym (cond-false (w == 0) u (minus a u y) e)) (minus_below a u y (omega arith))
    ]

more_below : (a w u y : ℕ) → u < a → more a w u y < a
more_below a w u y h =
    elim (cases_Bool (w == 0)) [
      | inl e ↦ subst (λ n. n < a) (sym (cond-true (w == 0) u (plus a u y) e)) h
      | inr e ↦ subst (λ n. n < a) (sym (cond-false (w == 0) u (plus a u y) e)) (plus_below a u y (omega arith))
    ]

-- what is taken off comes back, where the same symbol is added; at w = 0 none is
more_less : (a w u y z : ℕ) → u < a → y < a → (0 < w → z ≡ y) → more a w (less a w u y) z ≡ u
more_less a w u y z hu hy e =
    elim (cases_Bool (w == 0)) [
      | inl t ↦ cond-true (w == 0) _ _ t ∙ cond-true (w == 0) _ _ t
      | inr t ↦
          let p : 0 < w = omega (arith, eqb-false w 0 t) in
          cond-false (w == 0) _ _ t ∙ ap (λ n. plus a n z) (cond-false (w == 0) _ _ t) ∙ ap (plus a (minus a u y)) (e p) ∙ plus_minus a u y hu hy
    ]

less_more : (a w u y z : ℕ) → u < a → y < a → (0 < w → z ≡ y) → less a w (more a w u y) z ≡ u
less_more a w u y z hu hy e =
    elim (cases_Bool (w == 0)) [
      | inl t ↦ cond-true (w == 0) _ _ t ∙ cond-true (w == 0) _ _ t
      | inr t ↦
          let p : 0 < w = omega (arith, eqb-false w 0 t) in
          cond-false (w == 0) _ _ t ∙ ap (λ n. minus a n z) (cond-false (w == 0) _ _ t) ∙ ap (minus a (plus a u y)) (e p) ∙ minus_plus a u y hu hy
    ]

module _ (a count len w v : ℕ) (boxes inverses : List (List ℕ)) (good : Permutes a count boxes inverses) (near : Near len w v) where
  -- a symbol of a string
  at : (x : List ℕ) (k : ℕ) → Symbols a len x → k < len → slice_index x k < a
  at x k s h = All-get_or (λ (y : ℕ). y < a) x k 0 (omega (arith, s.long, h)) s.each

  -- the symbols from the second on, and the one that comes last
  moved : (x : List ℕ) (z : ℕ) → Symbols a len x → z < a → Symbols a len (drop 1 x ++ (z ∷ []))
  moved x z s h = record {
    long = length_push (drop 1 x) z ∙ ap (λ n. n + 1) (length-drop 1 x ∙ ap (λ n. n - 1) s.long) ∙ omega (arith, near.behind);
    each = All-push (λ (y : ℕ). y < a) (drop 1 x) z (All-drop (λ (y : ℕ). y < a) 1 x s.each) h;
  }

  -- the one that comes first, and the symbols but for the last
  pushed : (y : List ℕ) (z : ℕ) → Symbols a len y → z < a → Symbols a len (z ∷ take (length y - 1) y)
  pushed y z s h = record {
    long = ap suc (length-take-le (length y - 1) y (omega arith)) ∙ omega (arith, s.long, near.behind);
    each = (h, All-take (λ (n : ℕ). n < a) (length y - 1) y s.each);
  }

  first_image : (i : ℕ) (x : List ℕ) → i < count → Symbols a len x → image boxes i (plus a (slice_index x 0) (slice_index x (length x - v))) < a
  first_image i x h s = good.inside i _ h (plus_below a (slice_index x 0) (slice_index x (length x - v)) (omega (arith, at x 0 s (omega (arith, near.behind)))))

  forward_stays : (i : ℕ) (x : List ℕ) → i < count → Symbols a len x → Symbols a len (forward_layer boxes a w v i x)
  unfolding forward_layer
  forward_stays i x h s = moved x _ s (good.inside i _ h (less_below a w _ (slice_index x w) (first_image i x h s)))

  backward_stays : (i : ℕ) (y : List ℕ) → i < count → Symbols a len y → Symbols a len (backward_layer inverses a w v i y)
  unfolding backward_layer
  backward_stays i y h s = pushed y _ s (minus_below a _ (slice_index y (length y - v - 1)) (omega (arith, at y 0 s (omega (arith, near.behind)))))

  -- a symbol of a string with another first: one place down
  inner : (x0 z : ℕ) (xs : List ℕ) (j k : ℕ) → k < length xs → j ≡ suc k → slice_index (xs ++ (z ∷ [])) k ≡ slice_index (x0 ∷ xs) j
  inner x0 z xs j k h e = get_or_append_left xs (z ∷ []) 0 k h ∙ ap (λ n. slice_index (x0 ∷ xs) n) (sym e)

  forward_undone : (i : ℕ) (x : List ℕ) → i < count → Symbols a len x → backward_layer inverses a w v i (forward_layer boxes a w v i x) ≡ x
  unfolding forward_layer backward_layer
  forward_undone i [] h s = absurd (omega (arith, s.long, near.behind))
  forward_undone i (x0 ∷ xs) h s =
      let x : List ℕ = x0 ∷ xs in
      let b = slice_index_or x (length x - v) 0 in
      let u = image boxes i (plus a x0 b) in
      let t = less a w u (slice_index x w) in
      let z = image boxes i t in
      let y : List ℕ = xs ++ (z ∷ []) in
      let ly : length y ≡ length xs + 1 = length_push xs z in
      let ends : length xs ≡ length y - 1 = omega (arith, ly) in
      let hx : x0 < a = s.each.0 in
      let hb : b < a = at x (length x - v) s (omega (arith, s.long, near.behind, near.some)) in
      let hu : u < a = first_image i x h s in
      let ht : t < a = less_below a w u (slice_index x w) hu in
      let last : slice_index_or y (length y - 1) 0 ≡ z = get_or_push xs z 0 (length y - 1) ends in
      let behind : slice_index_or y (length y - v - 1) 0 ≡ b = inner x0 z xs (length x - v) (length y - v - 1) (omega (arith, ly, s.long, near.behind, near.some)) (omega (arith, ly, s.long, near.behind, near.some)) in
      let ahead : 0 < w → slice_index y (w - 1) ≡ slice_index_or x w 0 = λ p. inner x0 z xs w (w - 1) (omega (arith, s.long, near.ahead, p)) (omega (arith, p)) in
      let first : image inverses i (slice_index y (length y - 1)) ≡ t = ap (image inverses i) last ∙ good.there i t h ht in
      let second : more a w (image inverses i (slice_index y (length y - 1))) (slice_index y (w - 1)) ≡ u =
      ap (λ n. more a w n (slice_index y (w - 1))) first ∙ more_less a w u (slice_index x w) (slice_index y (w - 1)) hu (at x w s near.ahead) ahead in
      let third : image inverses i (more a w (image inverses i (slice_index y (length y - 1))) (slice_index y (w - 1))) ≡ plus a x0 b =
      ap (image inverses i) second ∙ good.there i (plus a x0 b) h (plus_below a x0 b (omega (arith, hx))) in
      let head : minus a (image inverses i (more a w (image inverses i (slice_index y (length y - 1))) (slice_index y (w - 1)))) (slice_index y (length y - v - 1)) ≡ x0 =
      ap (λ n. minus a n (slice_index y (length y - v - 1))) third ∙ (ap (minus a (plus a x0 b)) behind ∙ minus_plus a x0 b hx hb) in
      ap (λ n. n ∷ take (length y - 1) y) head ∙ ap (λ l. x0 ∷ l) (take_at xs (z ∷ []) (length y - 1) ends)

  backward_undone : (i : ℕ) (y : List ℕ) → i < count → Symbols a len y → forward_layer boxes a w v i (backward_layer inverses a w v i y) ≡ y
  unfolding forward_layer backward_layer
  backward_undone i y h s =
      let l = slice_index_or y (length y - 1) 0 in
      let b = slice_index_or y (length y - v - 1) 0 in
      let c = slice_index_or y (w - 1) 0 in
      let ys = take (length y - 1) y in
      let u = image inverses i l in
      let m = more a w u c in
      let t = image inverses i m in
      let x0 = minus a t b in
      let x : List ℕ = x0 ∷ ys in
      let long : 1 < length y = omega (arith, s.long, near.behind, near.some) in
      let lys : length ys ≡ length y - 1 = length-take-le (length y - 1) y (omega arith) in
      let hl : l < a = at y (length y - 1) s (omega (arith, s.long, long)) in
      let hb : b < a = at y (length y - v - 1) s (omega (arith, s.long, near.behind, long)) in
      let hc : c < a = at y (w - 1) s (omega (arith, near.ahead, s.long, long)) in
      let hu : u < a = good.inside_inverse i l h hl in
      let hm : m < a = more_below a w u c hu in
      let ht : t < a = good.inside_inverse i m h hm in
      let place : (j k : ℕ) → k < length y - 1 → j ≡ suc k → slice_index x j ≡ slice_index_or y k 0 = λ j k p e. ap (λ n. slice_index x n) e ∙ get_or-take (length y - 1) y k 0 p in
      let behind : slice_index_or x (length x - v) 0 ≡ b = place (length x - v) (length y - v - 1) (omega (arith, s.long, near.behind, near.some, long)) (omega (arith, lys, s.long, near.behind, near.some, long)) in
      let ahead : 0 < w → slice_index x w ≡ c = λ p. place w (w - 1) (omega (arith, s.long, near.ahead, p)) (omega (arith, p)) in
      let sum : plus a x0 (slice_index x (length x - v)) ≡ t = ap (plus a x0) behind ∙ plus_minus a t b ht hb in
      let first : image boxes i (plus a x0 (slice_index x (length x - v))) ≡ m = ap (image boxes i) sum ∙ good.back i m h hm in
      let second : less a w (image boxes i (plus a x0 (slice_index x (length x - v)))) (slice_index x w) ≡ u =
      ap (λ n. less a w n (slice_index x w)) first ∙ less_more a w u c (slice_index x w) hu hc ahead in
      let last : image boxes i (less a w (image boxes i (plus a x0 (slice_index x (length x - v)))) (slice_index x w)) ≡ l = ap (image boxes i) second ∙ good.back i l h hl in
      let whole : ys ++ (l ∷ []) ≡ y = sym (take_more y (length y - 1) 0 (omega (arith, long))) ∙ take_all (length y - 1 + 1) y (omega (arith, long)) in
      ap (λ n. ys ++ (n ∷ [])) last ∙ whole

  pub layers_undo : LayersUndo a count len w v boxes inverses
  layers_undo = record { forward_stays = forward_stays; backward_stays = backward_stays; forward_undone = forward_undone; backward_undone = backward_undone }

-- a list of layers, from the laws of one
module _ (a count len w v : ℕ) (boxes inverses : List (List ℕ)) (one : LayersUndo a count len w v boxes inverses) where
  encrypt_stays : (is x : List ℕ) → AllByRecursion (λ i. i < count) is → Symbols a len x → Symbols a len (core_encrypt boxes a w v is x)
  unfolding core_encrypt
  encrypt_stays [] x h s = s
  encrypt_stays (i ∷ is) x h s = encrypt_stays is (forward_layer boxes a w v i x) h.1 (one.forward_stays i x h.0 s)

  decrypt_stays : (is y : List ℕ) → AllByRecursion (λ i. i < count) is → Symbols a len y → Symbols a len (core_decrypt inverses a w v is y)
  unfolding core_decrypt
  decrypt_stays [] y h s = s
  decrypt_stays (i ∷ is) y h s = one.backward_stays i (core_decrypt inverses a w v is y) h.0 (decrypt_stays is y h.1 s)

  encrypt_undone : (is x : List ℕ) → AllByRecursion (λ i. i < count) is → Symbols a len x → core_decrypt inverses a w v is (core_encrypt boxes a w v is x) ≡ x
  unfolding core_encrypt core_decrypt
  encrypt_undone [] x h s = refl
  encrypt_undone (i ∷ is) x h s =
      ap (backward_layer inverses a w v i) (encrypt_undone is (forward_layer boxes a w v i x) h.1 (one.forward_stays i x h.0 s)) ∙ one.forward_undone i x h.0 s

  decrypt_undone : (is y : List ℕ) → AllByRecursion (λ i. i < count) is → Symbols a len y → core_encrypt boxes a w v is (core_decrypt inverses a w v is y) ≡ y
  unfolding core_encrypt core_decrypt
  decrypt_undone [] y h s = refl
  decrypt_undone (i ∷ is) y h s =
      ap (core_encrypt boxes a w v is) (one.backward_undone i (core_decrypt inverses a w v is y) h.0 (decrypt_stays is y h.1 s)) ∙ decrypt_undone is y h.1 s

  pub core_undoes : (is : List ℕ) → AllByRecursion (λ i. i < count) is → CoreUndoes a len w v boxes inverses is
  core_undoes is h = record {
    encrypt_stays = λ x. encrypt_stays is x h;
    decrypt_stays = λ y. decrypt_stays is y h;
    encrypt_undone = λ x. encrypt_undone is x h;
    decrypt_undone = λ y. decrypt_undone is y h;
  }
