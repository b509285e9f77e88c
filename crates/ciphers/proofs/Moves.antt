-- The window: what a layer writes, and how the window moves on, up and down. Assumes nothing.
use Rattle.std.proofs.Common.{◌≡◌, ℕ, zero, suc, ◌+◌, ◌-◌, ◌%◌, ◌<◌, ◌≤◌, eqb, ◌≢◌, List, [], ◌∷◌, ◌++◌, length, get_or, take, drop, set, sym, refl, ap, ◌∙◌, not-suc-le-zero, add-zero, mod-eq_of_lt, suc-add, zero-add, add-one, arith, get_or-set_other, get_or-set_same, take-suc-set}
use native.Mathlib.Nat.{add-mod_right}
use Rattle.std.proofs.lemmas.List.{get_or-take, get_or-drop, drop_more, drop_all, length-take-le, length-drop, take-take, drop-set}
use Rattle.std.proofs.lemmas.Bool.{cond-true, cond-false, eq-eqb, ne_eqb}
use Rattle.ciphers.specs.Layers.{plus, minus, image, less, more, forward_layer, backward_layer, core_encrypt, core_decrypt, Near}

-- what a look-up for the second box finds, with and without a symbol taken off
module _ (boxes : List (List ℕ)) (a w i c u r : ℕ) (small : u < a) where
  pub less_none : w ≡ 0 → r ≡ image boxes i (u % a) → r ≡ image boxes i (less a w u c)
  less_none e h = h ∙ ap (image boxes i) (mod-eq_of_lt small ∙ sym (cond-true (eqb w 0) u (minus a u c) (eq-eqb w 0 e)))

  pub less_some : (w ≡ 0 → ⊥) → r ≡ image boxes i ((u + (a - c)) % a) → r ≡ image boxes i (less a w u c)
  less_some e h = h ∙ ap (image boxes i) (sym (cond-false (eqb w 0) u (minus a u c) (ne_eqb w 0 e)))

  pub more_none : w ≡ 0 → r ≡ image boxes i (u % a) → r ≡ image boxes i (more a w u c)
  more_none e h = h ∙ ap (image boxes i) (mod-eq_of_lt small ∙ sym (cond-true (eqb w 0) u (plus a u c) (eq-eqb w 0 e)))

  pub more_some : (w ≡ 0 → ⊥) → r ≡ image boxes i ((u + c) % a) → r ≡ image boxes i (more a w u c)
  more_some e h = h ∙ ap (image boxes i) (sym (cond-false (eqb w 0) u (plus a u c) (ne_eqb w 0 e)))

slide : (m k : ℕ) (buf : List ℕ) (z : ℕ) → k + suc m < length buf
    → drop 1 (take (suc m) (drop k buf)) ++ (z ∷ []) ≡ take (suc m) (drop (suc k) (set buf (k + suc m) z))
slide m zero [] z h = absurd (not-suc-le-zero h)
slide m zero (b ∷ bs) z h = rw zero-add (sym (take-suc-set bs m z (omega arith)))
slide m (suc k) [] z h = absurd (not-suc-le-zero h)
slide m (suc k) (b ∷ bs) z h = rw suc-add (slide m k bs z (omega arith))

moved : (len k : ℕ) (buf : List ℕ) (z : ℕ) → 0 < len → k + len < length buf
    → drop 1 (take len (drop k buf)) ++ (z ∷ []) ≡ take len (drop (k + 1) (set buf (k + len) z))
moved zero k buf z p h = absurd (not-suc-le-zero p)
moved (suc m) k buf z p h = rw add-one (slide m k buf z h)

-- a symbol of the window, and the window's length
at : (len k j : ℕ) (buf : List ℕ) → j < len → get_or (take len (drop k buf)) j 0 ≡ get_or buf (k + j) 0
at len k j buf h = get_or-take len (drop k buf) j 0 h ∙ get_or-drop k buf j 0

wide : (len k : ℕ) (buf : List ℕ) → k + len ≤ length buf → length (take len (drop k buf)) ≡ len
wide len k buf h = length-take-le len (drop k buf) (omega (arith, length-drop k buf))

-- the last three symbols, once another is written after them
module _ (len k z : ℕ) (buf : List ℕ) (some : 1 < len) (room : k + len < length buf) where
  pub older_next : get_or buf (k + (len - 1)) 0 ≡ get_or (set buf (k + len) z) (k + 1 + (len - 2)) 0
  older_next =
      let place : k + 1 + (len - 2) ≡ k + (len - 1) = omega arith in
      let apart : k + (len - 1) ≢ k + len = omega arith in
      sym (ap (λ n. get_or (set buf (k + len) z) n 0) place ∙ get_or-set_other buf (k + len) (k + (len - 1)) z 0 apart)

  pub oldest_next : 3 ≤ len → get_or buf (k + (len - 2)) 0 ≡ get_or (set buf (k + len) z) (k + 1 + (len - 3)) 0
  oldest_next h =
      let place : k + 1 + (len - 3) ≡ k + (len - 2) = omega arith in
      let apart : k + (len - 2) ≢ k + len = omega arith in
      sym (ap (λ n. get_or (set buf (k + len) z) n 0) place ∙ get_or-set_other buf (k + len) (k + (len - 2)) z 0 apart)

  pub newer_next : z ≡ get_or (set buf (k + len) z) (k + 1 + (len - 1)) 0
  newer_next =
      let place : k + 1 + (len - 1) ≡ k + len = omega arith in
      sym (ap (λ n. get_or (set buf (k + len) z) n 0) place ∙ get_or-set_same buf (k + len) z 0 room)

-- the first three, once another is written before them
module _ (k z : ℕ) (buf : List ℕ) (some : 0 < k) (room : k ≤ length buf) where
  pub first_next : z ≡ get_or (set buf (k - 1) z) (k - 1) 0
  first_next = sym (get_or-set_same buf (k - 1) z 0 (omega arith))

  pub second_next : get_or buf k 0 ≡ get_or (set buf (k - 1) z) (k - 1 + 1) 0
  second_next =
      let place : k - 1 + 1 ≡ k = omega arith in
      let apart : k ≢ k - 1 = omega arith in
      sym (ap (λ n. get_or (set buf (k - 1) z) n 0) place ∙ get_or-set_other buf (k - 1) k z 0 apart)

  pub third_next : get_or buf (k + 1) 0 ≡ get_or (set buf (k - 1) z) (k - 1 + 2) 0
  third_next =
      let place : k - 1 + 2 ≡ k + 1 = omega arith in
      let apart : k + 1 ≢ k - 1 = omega arith in
      sym (ap (λ n. get_or (set buf (k - 1) z) n 0) place ∙ get_or-set_other buf (k - 1) (k + 1) z 0 apart)

module _ (boxes : List (List ℕ)) (a len w v : ℕ) (near : Near len w v) where
  pub encrypt_more : (seq buf : List ℕ) (k z : ℕ) → k < length seq → length seq + len ≤ length buf
      → z ≡ image boxes (get_or seq k 0) (less a w (image boxes (get_or seq k 0) (plus a (get_or buf k 0) (get_or buf (k + (len - v)) 0))) (get_or buf (k + w) 0))
      → core_encrypt boxes a w v (drop (k + 1) seq) (take len (drop (k + 1) (set buf (k + len) z))) ≡ core_encrypt boxes a w v (drop k seq) (take len (drop k buf))
  unfolding core_encrypt forward_layer
  encrypt_more seq buf k z hk hn ez =
      let x : List ℕ = take len (drop k buf) in
      let i = get_or seq k 0 in
      let some : 0 < len = omega (arith, near.behind) in
      let lx : length x ≡ len = wide len k buf (omega (arith, hn, hk)) in
      let d : drop k seq ≡ i ∷ drop (k + 1) seq = drop_more seq k 0 hk in
      let e0 : get_or x 0 0 ≡ get_or buf k 0 = at len k 0 buf some ∙ ap (λ n. get_or buf n 0) (add-zero k) in
      let eb : get_or x (length x - v) 0 ≡ get_or buf (k + (len - v)) 0 = ap (λ n. get_or x (n - v) 0) lx ∙ at len k (len - v) buf (omega (arith, near.some, near.behind)) in
      let ew : get_or x w 0 ≡ get_or buf (k + w) 0 = at len k w buf near.ahead in
      let e : image boxes i (less a w (image boxes i (plus a (get_or x 0 0) (get_or x (length x - v) 0))) (get_or x w 0)) ≡ z =
      ap (λ n. image boxes i (less a w (image boxes i (plus a n (get_or x (length x - v) 0))) (get_or x w 0))) e0
      ∙ (ap (λ n. image boxes i (less a w (image boxes i (plus a (get_or buf k 0) n)) (get_or x w 0))) eb
      ∙ (ap (λ n. image boxes i (less a w (image boxes i (plus a (get_or buf k 0) (get_or buf (k + (len - v)) 0))) n)) ew ∙ sym ez)) in
      ap (core_encrypt boxes a w v (drop (k + 1) seq)) (sym (moved len k buf z some (omega (arith, hn, hk))) ∙ ap (λ n. drop 1 x ++ (n ∷ [])) (sym e))
      ∙ ap (λ l. core_encrypt boxes a w v l x) (sym d)

  pub encrypt_end : (seq buf x : List ℕ) (k : ℕ) → length seq ≤ k → k ≤ length seq
      → core_encrypt boxes a w v (drop k seq) (take len (drop k buf)) ≡ core_encrypt boxes a w v seq x → take len (drop (length seq) buf) ≡ core_encrypt boxes a w v seq x
  unfolding core_encrypt
  encrypt_end seq buf x k h g inv =
      let n : length seq ≡ k = omega arith in
      ap (λ m. take len (drop m buf)) n ∙ (ap (λ l. core_encrypt boxes a w v l (take len (drop k buf))) (sym (drop_all k seq h)) ∙ inv)

-- the symbol that is added matters only where one is
more_same : (a w u c d : ℕ) → (0 < w → c ≡ d) → more a w u c ≡ more a w u d
more_same a zero u c d e = refl
more_same a (suc w) u c d e = ap (λ n. more a (suc w) u n) (e (omega arith))

-- the new first symbol, and the window without its last
fronted : (len k : ℕ) (buf : List ℕ) (z : ℕ) → 0 < len → k < length buf → take len (drop k (set buf k z)) ≡ z ∷ take (len - 1) (take len (drop (k + 1) buf))
fronted zero k buf z p h = absurd (not-suc-le-zero p)
fronted (suc m) k buf z p h =
    let one : suc m - 1 ≡ m = omega arith in
    ap (take (suc m)) (drop-set buf k z h)
    ∙ ap (λ l. z ∷ l) (sym (ap (λ n. take n (take (suc m) (drop (k + 1) buf))) one ∙ take-take m (suc m) (drop (k + 1) buf) (omega arith)))

module _ (inverses : List (List ℕ)) (a len w v : ℕ) (near : Near len w v) where
  pub decrypt_more : (seq buf code : List ℕ) (k z : ℕ) → k < length seq → length seq + len ≤ length buf
      → z ≡ minus a (image inverses (get_or seq k 0) (more a w (image inverses (get_or seq k 0) (get_or buf (k + len) 0)) (get_or buf (k + w) 0))) (get_or buf (k + (len - v)) 0)
      → take len (drop (k + 1) buf) ≡ core_decrypt inverses a w v (drop (k + 1) seq) code
      → take len (drop k (set buf k z)) ≡ core_decrypt inverses a w v (drop k seq) code
  unfolding core_decrypt backward_layer
  decrypt_more seq buf code k z hk hn ez inv =
      let y : List ℕ = take len (drop (k + 1) buf) in
      let i = get_or seq k 0 in
      let some : 0 < len = omega (arith, near.behind) in
      let ly : length y ≡ len = wide len (k + 1) buf (omega (arith, hn, hk)) in
      let el : get_or y (length y - 1) 0 ≡ get_or buf (k + len) 0 =
      ap (λ n. get_or y (n - 1) 0) ly ∙ (at len (k + 1) (len - 1) buf (omega (arith, some)) ∙ ap (λ n. get_or buf n 0) (omega (arith, some))) in
      let ew : 0 < w → get_or buf (k + w) 0 ≡ get_or y (w - 1) 0 = λ p. sym (at len (k + 1) (w - 1) buf (omega (arith, near.ahead)) ∙ ap (λ n. get_or buf n 0) (omega (arith, p))) in
      let eb : get_or y (length y - v - 1) 0 ≡ get_or buf (k + (len - v)) 0 =
      ap (λ n. get_or y (n - v - 1) 0) ly ∙ (at len (k + 1) (len - v - 1) buf (omega (arith, near.behind)) ∙ ap (λ n. get_or buf n 0) (omega (arith, near.behind))) in
      let ends : take (length y - 1) y ≡ take (len - 1) y = ap (λ n. take (n - 1) y) ly in
      let u = image inverses i (get_or y (length y - 1) 0) in
      let eu : image inverses i (get_or buf (k + len) 0) ≡ u = ap (image inverses i) (sym el) in
      let first : z ≡ minus a (image inverses i (more a w u (get_or y (w - 1) 0))) (get_or y (length y - v - 1) 0) =
      ez
      ∙ (ap (λ n. minus a (image inverses i (more a w n (get_or buf (k + w) 0))) (get_or buf (k + (len - v)) 0)) eu
      ∙ (ap (λ n. minus a (image inverses i n) (get_or buf (k + (len - v)) 0)) (more_same a w u (get_or buf (k + w) 0) (get_or y (w - 1) 0) ew)
      ∙ ap (minus a (image inverses i (more a w u (get_or y (w - 1) 0)))) (sym eb))) in
      fronted len k buf z some (omega (arith, hn, hk))
      ∙ (ap (λ n. n ∷ take (len - 1) y) first
      ∙ (ap (λ l. minus a (image inverses i (more a w u (get_or y (w - 1) 0))) (get_or y (length y - v - 1) 0) ∷ l) (sym ends)
      ∙ (ap (backward_layer inverses a w v i) inv ∙ ap (λ l. core_decrypt inverses a w v l code) (sym (drop_more seq k 0 hk)))))

  -- the same from k to k - 1
  pub decrypt_down : (seq buf code : List ℕ) (k z : ℕ) → 0 < k → k ≤ length seq → length seq + len ≤ length buf
      → z ≡ minus a (image inverses (get_or seq (k - 1) 0) (more a w (image inverses (get_or seq (k - 1) 0) (get_or buf (k - 1 + len) 0)) (get_or buf (k - 1 + w) 0))) (get_or buf (k - 1 + (len - v)) 0)
      → take len (drop k buf) ≡ core_decrypt inverses a w v (drop k seq) code
      → take len (drop (k - 1) (set buf (k - 1) z)) ≡ core_decrypt inverses a w v (drop (k - 1) seq) code
  decrypt_down seq buf code k z p hk hn ez inv =
      let e : k - 1 + 1 ≡ k = omega arith in
      decrypt_more seq buf code (k - 1) z (omega arith) hn ez (ap (λ n. take len (drop n buf)) e ∙ (inv ∙ ap (λ n. core_decrypt inverses a w v (drop n seq) code) (sym e)))

  pub decrypt_end : (seq buf y : List ℕ) (k : ℕ) → k ≤ 0 → take len (drop k buf) ≡ core_decrypt inverses a w v (drop k seq) y → take len buf ≡ core_decrypt inverses a w v seq y
  decrypt_end seq buf y k h inv =
      let e : 0 ≡ k = omega arith in
      ap (λ n. take len (drop n buf)) e ∙ (inv ∙ ap (λ n. core_decrypt inverses a w v (drop n seq) y) (sym e))

  pub decrypt_start : (seq code : List ℕ) → code ≡ core_decrypt inverses a w v (drop (length seq) seq) code
  unfolding core_decrypt
  decrypt_start seq code = ap (λ l. core_decrypt inverses a w v l code) (sym (drop_all (length seq) seq (omega arith)))

-- a difference, by whether the radix has to be added
pub minus_below : (a t b : ℕ) → t < b → b < a → t + (a - b) ≡ minus a t b
minus_below a t b h g = let low : t + (a - b) < a = omega arith in sym (mod-eq_of_lt low)

pub minus_above : (a t b : ℕ) → b ≤ t → t < a → b < a → t - b ≡ minus a t b
minus_above a t b h g k =
    let low : t - b < a = omega arith in
    let whole : t + (a - b) ≡ t - b + a = omega arith in
    sym (ap (λ n. n % a) whole ∙ (add-mod_right (t - b) a ∙ mod-eq_of_lt low))
