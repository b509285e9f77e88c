-- The tables' rules and the inverse, each by one computed test and a lemma that gives it at each entry.
-- Assumes nothing.
use Rattle.std.proofs.Common.{◌≡◌, ℕ, zero, suc, ◌/◌, ◌%◌, ◌<◌, Bool, ◌&&◌, T, eqb, List, [], ◌∷◌, length, get_or, arith, eqb→eq, refl, ◌∙◌}
use Rattle.block_cipher.specs.Field.{x_times, mul_low, mul, square, squares, inverse, sbox, Inverts}
use Rattle.block_cipher.specs.Words.{quad, turned}
use Rattle.block_cipher.proofs.Quads.{adds}
use Rattle.block_cipher.proofs.Entries.{every, at, all_below, below, both_left, both_right}

-- an entry of the S-box
abbrev pub substitutes : ℕ → ℕ → Bool
substitutes k x = eqb x (sbox k)

pub substituted : (table : List ℕ) → length table ≡ 256 → T (every substitutes 0 table) → (k : ℕ) → k < 256 → get_or table k 0 ≡ sbox k
substituted table e t k h = eqb→eq (get_or table k 0) (sbox k) (at substitutes table 0 t k (rw e h))

-- a word has these four bytes
abbrev holds : ℕ → ℕ → ℕ → ℕ → ℕ → Bool
holds w a b c d = eqb (w % 256) a && (eqb (w / 256 % 256) b && (eqb (w / 65536 % 256) c && eqb (w / 16777216 % 256) d))

holds_quad : (w a b c d : ℕ) → T (holds w a b c d) → quad w ≡ a ∷ b ∷ c ∷ d ∷ []
holds_quad w a b c d t =
    let t1 = both_right (eqb (w % 256) a) _ t in
    let t2 = both_right (eqb (w / 256 % 256) b) _ t1 in
    let e0 = eqb→eq (w % 256) a (both_left _ _ t) in
    let e1 = eqb→eq (w / 256 % 256) b (both_left _ _ t1) in
    let e2 = eqb→eq (w / 65536 % 256) c (both_left _ _ t2) in
    let e3 = eqb→eq (w / 16777216 % 256) d (both_right (eqb (w / 65536 % 256) c) _ t2) in
    cc

-- an entry of the table of row r
abbrev pub mixes : ℕ → ℕ → ℕ → Bool
mixes r k w = let l = turned r (adds (sbox k)) in holds w (get_or l 0 0) (get_or l 1 0) (get_or l 2 0) (get_or l 3 0)

-- the table of row r
abbrev pub row_mixes : ℕ → List ℕ → Bool
row_mixes r table = eqb (length table) 256 && every (mixes r) 0 table

four : (r x : ℕ) → (let l = turned r (adds x) in get_or l 0 0 ∷ get_or l 1 0 ∷ get_or l 2 0 ∷ get_or l 3 0 ∷ []) ≡ turned r (adds x)
four zero x = refl
four (suc r) x = refl

pub mixed : (tables : List (List ℕ)) → length tables ≡ 4 → T (every row_mixes 0 tables) → (r k : ℕ) → r < 4 → k < 256 → quad (get_or (get_or tables r []) k 0) ≡ turned r (adds (sbox k))
mixed tables e t r k hr hk =
    let table = get_or tables r [] in
    let row = at row_mixes tables [] t r (rw e hr) in
    let long : length table ≡ 256 = eqb→eq (length table) 256 (both_left (eqb (length table) 256) (every (mixes r) 0 table) row) in
    let entry = at (mixes r) table 0 (both_right (eqb (length table) 256) (every (mixes r) 0 table) row) k (rw long hk) in
    holds_quad (get_or table k 0) _ _ _ _ entry ∙ four r (sbox k)

-- the inverse, at b + 1
abbrev inverts : ℕ → Bool
inverts b = eqb (mul (suc b) (inverse (suc b))) 1

all_invert : T (all_below inverts 255)
unfolding x_times mul_low mul square squares inverse
all_invert = tt

pub inverted : (b : ℕ) → b < 256 → Inverts b
inverted zero h p = absurd (omega arith)
inverted (suc b) h p = eqb→eq (mul (suc b) (inverse (suc b))) 1 (below inverts 255 all_invert b (omega arith))
