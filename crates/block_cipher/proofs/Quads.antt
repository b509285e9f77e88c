-- The bytes of a word: under xor, under a rotation, and put together. Assumes nothing.
use Rattle.std.proofs.Common.{◌≡◌, ℕ, zero, suc, ◌+◌, ◌*◌, ◌/◌, ◌%◌, ◌<◌, List, [], ◌∷◌, ◌++◌, length, get_or, sym, refl, ap, ◌∙◌, arith}
use lib.Bits.{bit_xor, xor_zero_r, xor_shr, xor_mod, xor_assoc, xor_comm}
use Rattle.block_cipher.specs.Field.{mul, sbox}
use Rattle.block_cipher.specs.Aes.{block, mix_row, xor_word, sub_word, rot_word, rcon_word}
use Rattle.block_cipher.specs.Words.{quad, around}

cons4 : {a b c d e f g h : ℕ} → a ≡ e → b ≡ f → c ≡ g → d ≡ h → ◌≡◌ {A = List ℕ} (a ∷ b ∷ c ∷ d ∷ []) (e ∷ f ∷ g ∷ h ∷ [])
cons4 p q r s = cc

pub quad_xor : (v w : ℕ) → quad (bit_xor v w) ≡ xor_word (quad v) (quad w)
quad_xor v w =
    cons4 (xor_mod v w 8) (ap (λ x. x % 256) (xor_shr v w 8) ∙ xor_mod (v / 256) (w / 256) 8)
    (ap (λ x. x % 256) (xor_shr v w 16) ∙ xor_mod (v / 65536) (w / 65536) 8)
    (ap (λ x. x % 256) (xor_shr v w 24) ∙ xor_mod (v / 16777216) (w / 16777216) 8)

pub quad_word : (a b c d : ℕ) → a < 256 → b < 256 → c < 256 → d < 256 → quad (a + b * 256 + c * 65536 + d * 16777216) ≡ a ∷ b ∷ c ∷ d ∷ []
quad_word a b c d ha hb hc hd = cons4 (omega arith) (omega arith) (omega arith) (omega arith)

-- the same sum from the second term on
from_second : (a b c d : ℕ) → bit_xor (bit_xor (bit_xor a b) c) d ≡ bit_xor (bit_xor (bit_xor b c) d) a
from_second a b c d = ap (λ y. bit_xor y d) (xor_assoc a b c) ∙ xor_assoc a (bit_xor b c) d ∙ xor_comm a (bit_xor (bit_xor b c) d)

-- what a byte adds to its column, in row 0
abbrev pub adds : ℕ → List ℕ
adds x = mul x 2 ∷ x ∷ x ∷ mul x 3 ∷ []

-- MixColumns of one column
abbrev pub mix_quad : ℕ → ℕ → ℕ → ℕ → List ℕ
mix_quad p q r s = mix_row p q r s ∷ mix_row q r s p ∷ mix_row r s p q ∷ mix_row s p q r ∷ []

mixes : (p q r s : ℕ) → xor_word (xor_word (xor_word (adds p) (around (adds q))) (around (around (adds r)))) (around (around (around (adds s)))) ≡ mix_quad p q r s
mixes p q r s =
    cons4 refl (from_second p (mul q 2) (mul r 3) s) (from_second p q (mul r 2) (mul s 3) ∙ from_second q (mul r 2) (mul s 3) p)
    (from_second (mul p 3) q r (mul s 2) ∙ from_second q r (mul s 2) (mul p 3) ∙ from_second r (mul s 2) (mul p 3) q)

-- (a + k) + b + (c + d) is a + b + c + d + k
regroup : (a b c d k : ℕ) → bit_xor (bit_xor (bit_xor a k) b) (bit_xor c d) ≡ bit_xor (bit_xor (bit_xor (bit_xor a b) c) d) k
regroup a b c d k =
    ap (λ n. bit_xor n (bit_xor c d)) (xor_assoc a k b ∙ ap (bit_xor a) (xor_comm k b) ∙ sym (xor_assoc a b k))
    ∙ xor_assoc (bit_xor a b) k (bit_xor c d)
    ∙ ap (bit_xor (bit_xor a b)) (xor_comm k (bit_xor c d))
    ∙ sym (xor_assoc (bit_xor a b) (bit_xor c d) k)
    ∙ ap (λ n. bit_xor n k) (sym (xor_assoc (bit_xor a b) c d))

-- the four look-ups of a column
pub column : (x y z w k : ℕ) (p q r s : ℕ)
    → quad x ≡ adds p
    → quad y ≡ around (adds q)
    → quad z ≡ around (around (adds r))
    → quad w ≡ around (around (around (adds s)))
    → quad (bit_xor (bit_xor (bit_xor x k) y) (bit_xor z w)) ≡ xor_word (mix_quad p q r s) (quad k)
column x y z w k p q r s ex ey ez ew =
    ap quad (regroup x y z w k)
    ∙ quad_xor (bit_xor (bit_xor (bit_xor x y) z) w) k
    ∙ ap (λ l. xor_word l (quad k)) (quad_xor (bit_xor (bit_xor x y) z) w ∙ ap (λ l. xor_word l (quad w)) (quad_xor (bit_xor x y) z ∙ ap (λ l. xor_word l (quad z)) (quad_xor x y)))
    ∙ cc (ex, ey, ez, ew, mixes p q r s)

tab : ℕ → (ℕ → ℕ) → List ℕ
tab zero f = []
tab (suc n) f = f zero ∷ tab n (λ k. f (suc k))

tab_all : (xs : List ℕ) → tab (length xs) (λ k. get_or xs k 0) ≡ xs
unfolding tab
tab_all [] = refl
tab_all (x ∷ xs) = ap (λ l. x ∷ l) (tab_all xs)

-- a list of sixteen is its sixteen entries
pub whole : (xs : List ℕ) → length xs ≡ 16 → block (λ k. get_or xs k 0) ≡ xs
unfolding tab
whole xs h = ap (λ n. tab n (λ k. get_or xs k 0)) (sym h) ∙ tab_all xs

-- RotWord, SubWord and the round constant, byte by byte
pub turned : (w c : ℕ) (b q : List ℕ) (s0 s1 s2 s3 : ℕ)
    → b ≡ quad w
    → s0 ≡ sbox (get_or b 1 0)
    → s1 ≡ sbox (get_or b 2 0)
    → s2 ≡ sbox (get_or b 3 0)
    → s3 ≡ sbox (get_or b 0 0)
    → q ≡ bit_xor s0 c ∷ s1 ∷ s2 ∷ s3 ∷ []
    → q ≡ xor_word (sub_word (rot_word (quad w))) (rcon_word c)
turned w c b q s0 s1 s2 s3 eb e0 e1 e2 e3 eq =
    let sub : (i : ℕ) → sbox (get_or b i 0) ≡ sbox (get_or (quad w) i 0) = λ i. ap (λ l. sbox (get_or l i 0)) eb in
    eq ∙ cons4 (ap (λ s. bit_xor s c) (e0 ∙ sub 1)) (e1 ∙ sub 2 ∙ sym (xor_zero_r _)) (e2 ∙ sub 3 ∙ sym (xor_zero_r _)) (e3 ∙ sub 0 ∙ sym (xor_zero_r _))

pub join4 : {a b c d e f g h : List ℕ} → a ≡ e → b ≡ f → c ≡ g → d ≡ h → a ++ (b ++ (c ++ d)) ≡ e ++ (f ++ (g ++ h))
join4 p q r s = cc

-- the four words of the next round key, from those of p, q, r and s and from the first one's partner t
pub schedule : (p q r s t : ℕ) (u : List ℕ) → quad t ≡ u
    → (let w0 = bit_xor p t in let w1 = bit_xor q w0 in let w2 = bit_xor r w1 in let w3 = bit_xor s w2 in
    quad w0 ++ (quad w1 ++ (quad w2 ++ quad w3)))
    ≡ (let w0 = xor_word (quad p) u in let w1 = xor_word (quad q) w0 in let w2 = xor_word (quad r) w1 in let w3 = xor_word (quad s) w2 in
    w0 ++ (w1 ++ (w2 ++ w3)))
schedule p q r s t u h =
    let next : (x y : ℕ) (v : List ℕ) → quad y ≡ v → quad (bit_xor x y) ≡ xor_word (quad x) v = λ x y v e. quad_xor x y ∙ ap (xor_word (quad x)) e in
    let e0 = next p t u h in
    let e1 = next q _ _ e0 in
    let e2 = next r _ _ e1 in
    join4 e0 e1 e2 (next s _ _ e2)

-- a word by its bytes, each of them known
pub word_of : {q : List ℕ} {a b c d e f g h : ℕ} → q ≡ a ∷ b ∷ c ∷ d ∷ [] → a ≡ e → b ≡ f → c ≡ g → d ≡ h → q ≡ e ∷ f ∷ g ∷ h ∷ []
word_of w p q r s = w ∙ cons4 p q r s
