-- The laws of piles, from those of their layers, and the calls that can be refused. Assumes nothing.
use Rattle.std.proofs.Common.{◌≡◌, ℕ, ◌&&◌, leb, List, Err, Result, sym, ap, ◌∙◌, ⊎_elim}
use Rattle.std.proofs.lemmas.Bool.{cases_Bool, cond-true, cond-false, and_parts, and_from, le-leb, leb-true}
use Rattle.faults.specs.declared.fault.Cause.TheVariants.{Range}
use Rattle.faults.specs.declared.fault.Fault.{Fault}
use Rattle.faults.specs.Faults.{own}
use Rattle.formats.specs.Forms.{Form}
use Rattle.ciphers.specs.Held.{network_of}
use Rattle.ciphers.specs.Meanings.{Meaning, Laws}
use Rattle.ciphers.specs.Networks.{networked}
use Rattle.ciphers.specs.Swaps.{Outcome, refused, swap, answer, left}
use Rattle.ciphers.specs.declared.fast.Fast.{Fast}
use Rattle.ciphers.specs.Networked.{fast_laws}
use Rattle.codebook.specs.Books.{meaning_of}
use Rattle.codebook.specs.Codebooks.{book}
use Rattle.codebook.specs.declared.book.Codebook.{Codebook}
use Rattle.codebook.specs.Calls.{sound}
use Rattle.codebook.specs.Permuted.{lawful}
use Rattle.layers.specs.Firsts.{preferring}
use Rattle.layers.specs.Keeps.{Keepable, keeping}
use Rattle.layers.specs.FirstsLemmas.{first_laws}
use Rattle.layers.specs.KeepsLemmas.{keep_laws}
use Rattle.rules.specs.Rules.{leads_nonzero, passes_luhn}
use Rattle.walk.specs.Walks.{Allowed, walking}
use Rattle.walk.specs.Walked.{walk_laws}
use Rattle.piles.specs.Piles.{if_keepable, nonzero_over_kept_pile, kept_over_first_pile, over_first_pile, nonzero_over_luhn_pile}

pub keepable : (kept : ℕ) (o : Outcome) → Keepable kept → if_keepable kept o ≡ o
unfolding if_keepable
keepable kept o h = cond-true _ o _ (and_from _ _ (le-leb 1 kept h.0) (le-leb kept 31 h.1))

pub unkeepable : (kept : ℕ) (o : Outcome) → (Keepable kept → ⊥) → if_keepable kept o ≡ refused (own Range)
unfolding if_keepable
unkeepable kept o n =
    ⊎_elim
    (λ e. let p = and_parts _ _ e in absurd (n (leb-true 1 kept p.0, leb-true kept 31 p.1)))
    (λ e. cond-false _ o _ e)
    (cases_Bool (leb 1 kept && leb kept 31))

-- the calls of a pile that can be refused, by either map
module _ (kept : ℕ) (m : Meaning) (pick : Meaning → Form → List ℕ → List ℕ → List ℕ) (f : Form) (run c : List ℕ) where
  abbrev pub called : Outcome
  called = if_keepable kept (swap m (pick m) f run c)

  module _ (n : Keepable kept → ⊥) where
    pub unkept_value : Err (own Range) ≡ answer called
    unkept_value = sym (ap answer (unkeepable kept (swap m (pick m) f run c) n))

    pub unkept_after : c ≡ left called c
    unkept_after = sym (ap (λ o. left o c) (unkeepable kept (swap m (pick m) f run c) n))

  module _ (h : Keepable kept) (here : Meaning) (same : here ≡ m) where
    pub kept_value : (r : Result Unit Fault) → r ≡ answer (swap here (pick here) f run c) → r ≡ answer called
    kept_value r e = e ∙ ap (λ n. answer (swap n (pick n) f run c)) same ∙ sym (ap answer (keepable kept (swap m (pick m) f run c) h))

    pub kept_after : (last : List ℕ) → last ≡ left (swap here (pick here) f run c) c → last ≡ left called c
    kept_after last e = e ∙ ap (λ n. left (swap n (pick n) f run c) c) same ∙ sym (ap (λ o. left o c) (keepable kept (swap m (pick m) f run c) h))

-- a pile of the same parts means the same
pub same_kept : (p kept : ℕ) (a network : Fast) → p ≡ kept → a ≡ network → nonzero_over_kept_pile p (network_of a) ≡ nonzero_over_kept_pile kept (network_of network)
same_kept p kept a network ep ea = ap (λ n. nonzero_over_kept_pile n (network_of a)) ep ∙ ap (λ x. nonzero_over_kept_pile kept (network_of x)) ea

pub same_first : (p kept : ℕ) (a walked : Codebook) (s allowed : Allowed) (b other : Codebook) → p ≡ kept → a ≡ walked → s ≡ allowed → b ≡ other →
    over_first_pile p (book a) s (book b) ≡ over_first_pile kept (book walked) allowed (book other)
same_first p kept a walked s allowed b other ep ea es eb =
    ap (λ n. over_first_pile n (book a) s (book b)) ep ∙ ap (λ x. over_first_pile kept (book x) s (book b)) ea ∙
    ap (λ u. over_first_pile kept (book walked) u (book b)) es ∙ ap (λ y. over_first_pile kept (book walked) allowed (book y)) eb

pub nonzero_over_kept_laws : (kept : ℕ) (network : Fast) → Laws (nonzero_over_kept_pile kept (network_of network))
nonzero_over_kept_laws kept network =
    let below = networked (network_of network) in
    walk_laws (keeping kept below) leads_nonzero (keep_laws kept below (fast_laws network))

pub kept_over_first_laws : (kept : ℕ) (walked other : Codebook) → Laws (kept_over_first_pile kept (book walked) (book other))
kept_over_first_laws kept walked other =
    let left = walking (meaning_of (book walked)) passes_luhn in
    let right = meaning_of (book other) in
    let left_laws = walk_laws (meaning_of (book walked)) passes_luhn (lawful (book walked) (sound walked)) in
    keep_laws kept (preferring left right) (first_laws left right left_laws (lawful (book other) (sound other)))

pub nonzero_over_luhn_laws : (network : Fast) → Laws (nonzero_over_luhn_pile (network_of network))
nonzero_over_luhn_laws network =
    let below = networked (network_of network) in
    walk_laws (walking below passes_luhn) leads_nonzero (walk_laws below passes_luhn (fast_laws network))
