-- The network's laws, its branch distances and its index sequences. Assumes nothing.
use Rattle.std.specs.Prelude.{◌≡◌, ℕ, zero, suc, ◌+◌, ◌-◌, ◌*◌, ◌/◌, ◌<◌, ◌≤◌, true, ◌&&◌, T, List, length, Ok, Err, Result, ◌==◌, nat_le, nat_lt, refl}
use Rattle.std.proofs.Common.{sym, ap, subst, ◌∙◌, mul-le-mul_right, one-mul, arith, ltb→lt}
use Rattle.std.proofs.Math.Nat.{mul-mod_left}
use Rattle.std.specs.List.{AllByRecursion}
use Rattle.std.proofs.ByRecursion.{All-append, All-take}
use Rattle.std.proofs.lemmas.Bool.{and_parts, and_from, eqb-true, leb-true, le-leb, eq-eqb, cond-true}
use Rattle.block_cipher.specs.Cmac.{cmac}
use Rattle.block_cipher.specs.Counter.{counter_block}
use Rattle.block_cipher.proofs.Bytes.{Bytes, counter_bytes, cmac_bytes, mac_key_bytes}
use Rattle.block_cipher.proofs.Entries.{all_below, below}
use Rattle.alphabets.specs.declared.alphabet.Alphabet.{Alphabet}
use Rattle.alphabets.specs.declared.alphabet.Alphabet.TheVariants.{Decimal, Hex, Upper, Alphanumeric}
use Rattle.alphabets.specs.Alphabets.{radix_of}
use Rattle.formats.specs.Codes.{Code}
use Rattle.formats.specs.Forms.{Form, least_of, layers_of, Exists}
use Rattle.formats.specs.LeastRounds.{least, tabled, column_below, column_above}
use Rattle.faults.specs.declared.fault.Cause.TheVariants.{Range}
use Rattle.faults.specs.declared.fault.Fault.{Fault}
use Rattle.faults.specs.Faults.{own}
use Rattle.keys.specs.Derived.{derived_key}
use Rattle.keys.specs.declared.distances.Distances.{Distances}
use Rattle.keys.specs.Distances.{w_of, w'_of, distances, distances_of}
use Rattle.keys.specs.Encodings.{Purpose, encode}
use Rattle.keys.specs.Sequences.{index_sequence, sequence_list, first_half, start_of, blocks, stream, sized}
use Rattle.pools.specs.declared.pool.Pool.{Pool}
use Rattle.pools.specs.Pools.{boxes, inverses}
use Rattle.ciphers.specs.Held.{network_of}
use Rattle.ciphers.specs.Layers.{image, Permutes, Near, Symbols, CoreUndoes}
use Rattle.ciphers.specs.Meanings.{Free, Undone, Laws}
use Rattle.ciphers.specs.Networks.{Network, networked, indices_of}
use Rattle.ciphers.specs.declared.fast.Fast.{Fast}
use Rattle.ciphers.specs.Layered.{layers_undo, core_undoes}

-- the branch distances lie within the length
pub near : (len : ℕ) → 2 ≤ len → Near len (w_of len) (w'_of len)
unfolding w_of w'_of
near len h = record { ahead = omega arith; some = omega arith; behind = omega arith }

-- an index is the number of a box
blocks_bytes : (key iv : List ℕ) (n : ℕ) → Bytes key → Bytes (blocks key iv n)
unfolding blocks
blocks_bytes key iv zero h = tt
blocks_bytes key iv (suc n) h = All-append (λ (x : ℕ). x < 256) (blocks key iv n) (counter_block key iv n) (blocks_bytes key iv n h) (counter_bytes key iv n h)

derived_bytes : (key : List ℕ) (p : Purpose) → Bytes key → Bytes (derived_key key p)
unfolding derived_key
derived_bytes key p h = All-append (λ (x : ℕ). x < 256) (cmac key (encode 0 p)) (cmac key (encode 1 p)) (cmac_bytes key (encode 0 p) h) (cmac_bytes key (encode 1 p) h)

pub indices_bytes : (net : Network) (f : Form) (run : List ℕ) → Bytes net.key → Bytes (indices_of net f run)
unfolding indices_of index_sequence stream
indices_bytes net f run h =
    let P : ℕ → Type 0 = λ x. x < 256 in
    let d = derived_key net.key (sequence_list net.sequence net.radix f.len (layers_of f) run) in
    All-take P (layers_of f) (blocks (first_half d) (start_of d) ((layers_of f + 15) / 16)) (blocks_bytes (first_half d) (start_of d) ((layers_of f + 15) / 16) (All-take P 16 d (derived_bytes net.key _ h)))

-- codes of a taken form are strings of symbols of the radix
module _ (net : Network) (f : Form) (t : (networked net).taken f ≡ true) where
  same_radix : radix_of f.alphabet ≡ net.radix
  same_radix = eqb-true _ _ (and_parts (radix_of f.alphabet == net.radix) (nat_le 2 f.len) t).0

  pub two_symbols : 2 ≤ f.len
  two_symbols = leb-true _ _ (and_parts (radix_of f.alphabet == net.radix) (nat_le 2 f.len) t).1

  pub as_symbols_lem : (c : List ℕ) → Code f c → Symbols net.radix f.len c
  as_symbols_lem c h = record { long = h.long; each = subst (λ (a : ℕ). AllByRecursion (λ x. x < a) c) same_radix h.symbols }

  as_code : (c : List ℕ) → Symbols net.radix f.len c → Code f c
  as_code c s = record { long = s.long; symbols = subst (λ (a : ℕ). AllByRecursion (λ x. x < a) c) (sym same_radix) s.each }

  free : (c : List ℕ) → Symbols net.radix f.len c → Free (networked net) f c
  free c s = record { code = as_code c s; open_to = refl }

  module _ (go undo : List ℕ → List ℕ) (stays : (c : List ℕ) → Symbols net.radix f.len c → Symbols net.radix f.len (go c)) (undoes : (c : List ℕ) → Symbols net.radix f.len c → undo (go c) ≡ c) where
    undone : Undone (networked net) f go undo
    undone = record {
      stays = λ c r. free (go c) (stays c (as_symbols_lem c r.code));
      undoes = λ c r. undoes c (as_symbols_lem c r.code);
    }

pub network_laws : (net : Network) → Permutes net.radix 256 net.boxes net.inverses → Bytes net.key → Laws (networked net)
network_laws net good bytes =
    let core : (f : Form) (run : List ℕ) → (networked net).taken f ≡ true → CoreUndoes net.radix f.len (w_of f.len) (w'_of f.len) net.boxes net.inverses (indices_of net f run) = λ f run t.
    core_undoes net.radix 256 f.len (w_of f.len) (w'_of f.len) net.boxes net.inverses (layers_undo net.radix 256 f.len (w_of f.len) (w'_of f.len) net.boxes net.inverses good (near f.len (two_symbols net f t))) (indices_of net f run) (indices_bytes net f run bytes) in
    record {
      onward = λ f run t. undone net f t _ _ (core f run t).encrypt_stays (core f run t).encrypt_undone;
      homeward = λ f run t. undone net f t _ _ (core f run t).decrypt_stays (core f run t).decrypt_undone;
    }

-- a pool holds permutations
pub pool_permutes : (p : Pool) → Permutes p.radix 256 (boxes p) (inverses p)
unfolding image
pool_permutes p = record {
  inside = λ i x hi hx. p.inside i x (hi, hx);
  inside_inverse = λ i x hi hx. p.inside_inverse i x (hi, hx);
  there = λ i x hi hx. p.there i x (hi, hx);
  back = λ i x hi hx. p.back i x (hi, hx);
}

pub fast_laws : (s : Fast) → Laws (networked (network_of s))
fast_laws s = network_laws (network_of s) (pool_permutes s.pool) (mac_key_bytes s.mac)

-- every shape from length 2 on has rounds
rounds_by : (a : Alphabet) → T (all_below (λ k. nat_lt 0 (least_of a (k + 2))) 31) → (n : ℕ) → 2 ≤ n → n ≤ 32 → 0 < least_of a n
rounds_by a t n h g =
    let e : n - 2 + 2 ≡ n = omega arith in
    subst (λ (m : ℕ). 0 < least_of a m) e (ltb→lt 0 (least_of a (n - 2 + 2)) (below (λ k. nat_lt 0 (least_of a (k + 2))) 31 t (n - 2) (omega arith)))

some_rounds : (a : Alphabet) (n : ℕ) → 2 ≤ n → n ≤ 32 → 0 < least_of a n
unfolding least tabled column_below column_above
some_rounds Decimal = rounds_by Decimal tt
some_rounds Hex = rounds_by Hex tt
some_rounds Upper = rounds_by Upper tt
some_rounds Alphanumeric = rounds_by Alphanumeric tt

-- so an index sequence of its layers is never refused
pub sized_form : (a : ℕ) (f : Form) → 4 ≤ a → a ≤ 64 → 2 ≤ f.len → Exists f → sized a f.len (layers_of f) ≡ true
sized_form a f least most two is =
    let rounds : 1 ≤ f.rounds = omega (arith, some_rounds f.alphabet f.len two is.short, is.enough) in
    let wide : 1 * f.len ≤ f.rounds * f.len = mul-le-mul_right f.len rounds in
    and_from _ _ (and_from _ _ (le-leb 4 a least) (le-leb a 64 most))
    (and_from _ _ (and_from _ _ (le-leb 2 f.len two) (le-leb f.len 32 is.short))
    (and_from _ _ (eq-eqb _ 0 (mul-mod_left f.rounds f.len)) (and_from _ _ (le-leb f.len (layers_of f) (omega (arith, wide, one-mul f.len))) (le-leb (layers_of f) 2048 is.few))))

-- a length from 2 to 32 has distances
pub in_range : (len : ℕ) → 2 ≤ len → len ≤ 32 → distances_of len ≡ Ok (distances len)
in_range len two short = cond-true (nat_le 2 len && nat_le len 32) (Ok (distances len)) (Err (own Range)) (and_from _ _ (le-leb 2 len two) (le-leb len 32 short))

-- the distances that were answered are those of the length
pub measured : (len : ℕ) (d : Distances) → 2 ≤ len → len ≤ 32 → Ok d ≡ distances_of len → (d.w ≡ w_of len) × (d.w_prime ≡ w'_of len)
measured len d two short e =
    let is : ◌≡◌ {A = Result Distances Fault} (Ok d) (Ok (distances len)) = e ∙ in_range len two short in
    let same : d ≡ distances len = cc in
    (ap (λ x. x.w) same, ap (λ x. x.w_prime) same)

module _ (net : Network) (f : Form) (t : (networked net).taken f ≡ true) (is : Exists f) (len : ℕ) (d : Distances) (el : len ≡ f.len) (ed : Ok d ≡ distances_of len) where
  of_form : (d.w ≡ w_of f.len) × (d.w_prime ≡ w'_of f.len)
  of_form = measured f.len d (two_symbols net f t) is.short (ed ∙ ap distances_of el)

  pub near_code : (code : List ℕ) → Code f code → Near (length code) d.w d.w_prime
  near_code code c =
      subst (λ (n : ℕ). Near n d.w d.w_prime) (sym c.long)
      (subst (λ (n : ℕ). Near f.len n d.w_prime) (sym of_form.0) (subst (λ (n : ℕ). Near f.len (w_of f.len) n) (sym of_form.1) (near f.len (two_symbols net f t))))

-- a code of a taken form is a string of symbols
pub symbols_code : (net : Network) (f : Form) → (networked net).taken f ≡ true → (code : List ℕ) → Code f code → Symbols net.radix f.len code
symbols_code = as_symbols_lem

-- what the branch distances of a form and its index sequence give, their equals give
pub by_form : (net : Network) (f : Form) (w v : ℕ) → w ≡ w_of f.len → v ≡ w'_of f.len → (g : ℕ → ℕ → List ℕ → List ℕ) (run is : List ℕ) → is ≡ indices_of net f run
    → g w v is ≡ g (w_of f.len) (w'_of f.len) (indices_of net f run)
by_form net f w v ew ev g run is e = ap (λ x. g x v is) ew ∙ (ap (λ x. g (w_of f.len) x is) ev ∙ ap (g (w_of f.len) (w'_of f.len)) e)
