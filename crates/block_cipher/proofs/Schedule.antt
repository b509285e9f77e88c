-- The round keys and the rounds, one after the other. Assumes nothing.
use Rattle.std.proofs.Common.{◌≡◌, ℕ, suc, ◌+◌, ◌<◌, ◌≤◌, T, eqb, eqb→eq, List, [], length, get_or, set, take, drop, map, sym, ap, ◌∙◌, inl, inr, arith}
use Rattle.std.proofs.lemmas.Bool.{cases_eq}
use Rattle.std.proofs.lemmas.List.{length-map, map-set, get_or-map, get_or-set_other, get_or-take, get_or-drop, length-take-le, length-drop}
use Rattle.std.proofs.lemmas.List.FromFn.{fill_by_all, get_or-map-range_with_len}
use Rattle.std.proofs.lemmas.Grind.{get_or-set_at}
use Rattle.block_cipher.specs.Aes.{sub_bytes, shift_rows, mix_columns, add_round_key, next_round_key, rcon, round_key, key_expansion, rounds, cipher}
use Rattle.block_cipher.specs.Words.{bytes_of}
use Rattle.block_cipher.specs.declared.columns.Columns.{Columns}
use Rattle.block_cipher.proofs.Entries.{every, at}

next : (key w n : List ℕ) (c i : ℕ) → w ≡ round_key key i → c ≡ rcon i → n ≡ next_round_key w c → n ≡ round_key key (suc i)
unfolding round_key
next key w n c i ew ec en = en ∙ ap (λ x. next_round_key x c) ew ∙ ap (λ x. next_round_key (round_key key i) x) ec

-- the constants of the ten rounds
pub constants : (table : List ℕ) → length table ≡ 10 → T (every (λ i c. eqb c (rcon i)) 0 table) → (i : ℕ) → i < 10 → get_or table i 0 ≡ rcon i
constants table e t i h = eqb→eq (get_or table i 0) (rcon i) (at (λ i c. eqb c (rcon i)) table 0 t i (rw e h))

-- the round keys up to i are at their places
abbrev pub Scheduled : List ℕ → List Columns → ℕ → Type 0
Scheduled key ks i = (j : ℕ) → j ≤ i → get_or (map bytes_of ks) j [] ≡ round_key key j

-- one round key more
pub one_more : (key : List ℕ) (ks : List Columns) (k n : Columns) (c i : ℕ) → length ks ≡ 11 → i < 10 → c ≡ rcon i → bytes_of k ≡ round_key key i
    → bytes_of n ≡ next_round_key (bytes_of k) c → Scheduled key ks i → (bytes_of n ≡ round_key key (i + 1)) × Scheduled key (set ks (i + 1) n) (i + 1)
one_more key ks k n c i e h ec ek en inv =
    let p : i + 1 ≡ suc i = omega arith in
    let now : bytes_of n ≡ round_key key (i + 1) = next key (bytes_of k) (bytes_of n) c i ek ec en ∙ ap (round_key key) (sym p) in
    let long : length (map bytes_of ks) ≡ 11 = length-map ks bytes_of ∙ e in (
      now,
      λ j l. ap (λ xs. get_or xs j []) (map-set bytes_of ks (i + 1) n)
          ∙ elim (cases_eq j (i + 1)) [
            | inl s ↦ get_or-set_at (map bytes_of ks) (i + 1) j (bytes_of n) [] s (omega (arith, long, h)) ∙ now ∙ ap (round_key key) (sym s)
            | inr o ↦ get_or-set_other (map bytes_of ks) (i + 1) j (bytes_of n) [] o ∙ inv j (omega (arith, l, o))
          ],
    )

-- all eleven are there
pub expansion : (key : List ℕ) (ks : List Columns) → length ks ≡ 11 → Scheduled key ks 10 → map bytes_of ks ≡ key_expansion (get_or (map bytes_of ks) 0 [])
unfolding round_key
expansion key ks e inv =
    fill_by_all (round_key key) (map bytes_of ks) 11 [] (length-map ks bytes_of ∙ e) (λ j h. inv j (omega (arith, h)))
    ∙ ap key_expansion (sym (inv 0 (omega arith)))

-- a round key, out of the expanded key
pub round_key_at : (key : List ℕ) (ks : List Columns) → length ks ≡ 11 → map bytes_of ks ≡ key_expansion key → (j : ℕ) (d : Columns) → j < 11 → bytes_of (get_or ks j d) ≡ round_key key j
round_key_at key ks e x j d h =
    sym (get_or-map bytes_of ks j d [] (omega (arith, e, h))) ∙ ap (λ l. get_or l j []) x ∙ get_or-map-range_with_len (round_key key) 0 11 j j [] h (omega arith)

-- the round keys of the nine rounds in the middle
pub middle_long : (ks : List Columns) → length ks ≡ 11 → length (take 9 (drop 1 ks)) ≡ 9
middle_long ks e = length-take-le 9 (drop 1 ks) (omega (arith, length-drop 1 ks, e))

pub middle_at : (key : List ℕ) (ks : List Columns) → length ks ≡ 11 → map bytes_of ks ≡ key_expansion key → (i : ℕ) (d : Columns) → i < 9 → bytes_of (get_or (take 9 (drop 1 ks)) i d) ≡ round_key key (suc i)
middle_at key ks e x i d h =
    let n : 1 + i ≡ suc i = omega arith in
    ap bytes_of (get_or-take 9 (drop 1 ks) i d h ∙ get_or-drop 1 ks i d) ∙ ap (λ j. bytes_of (get_or ks j d)) n ∙ round_key_at key ks e x (suc i) d (omega (arith, h))

-- before the first round
pub started : (key input f k s : List ℕ) → f ≡ input → k ≡ round_key key 0 → s ≡ add_round_key f k → s ≡ rounds key (add_round_key input (round_key key 0)) 0
unfolding rounds
started key input f k s ef ek es = es ∙ ap (λ x. add_round_key x k) ef ∙ ap (add_round_key input) ek

-- one round more
pub turn : (key s0 s r k : List ℕ) (i : ℕ) → s ≡ rounds key s0 i → k ≡ round_key key (suc i) → r ≡ add_round_key (mix_columns (shift_rows (sub_bytes s))) k
    → r ≡ rounds key s0 (suc i)
unfolding rounds
turn key s0 s r k i es ek er =
    er ∙ ap (λ x. add_round_key (mix_columns (shift_rows (sub_bytes x))) k) es ∙ ap (λ x. add_round_key (mix_columns (shift_rows (sub_bytes (rounds key s0 i)))) x) ek

-- from the state after nine rounds to the cipher
pub encrypted : (key input out s k : List ℕ) → s ≡ rounds key (add_round_key input (round_key key 0)) 9 → k ≡ round_key key 10
    → out ≡ add_round_key (shift_rows (sub_bytes s)) k → out ≡ cipher key input
unfolding cipher
encrypted key input out s k es ek eo =
    eo ∙ ap (λ x. add_round_key (shift_rows (sub_bytes x)) k) es
    ∙ ap (λ x. add_round_key (shift_rows (sub_bytes (rounds key (add_round_key input (round_key key 0)) 9))) x) ek
