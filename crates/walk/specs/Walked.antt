-- The walk keeps the laws, and leads to the first allowed code. Assumes nothing.
use Rattle.std.specs.Prelude.{◌≡◌, ℕ, suc, Bool, true, false, not, List, length, is_some, None, filter, Option, refl}
use Rattle.std.proofs.Common.{sym, ap, subst, ◌∙◌}
use Rattle.std.proofs.lemmas.List.Sums.{length-filter}
use Rattle.std.proofs.lemmas.Bool.{and_parts, and_from, not_from_false}
use Rattle.formats.specs.Forms.{Form}
use Rattle.formats.specs.Codes.{code_verdict}
use Rattle.faults.proofs.Variants.{some≢none}
use Rattle.ciphers.specs.Meanings.{Meaning, Free, Undone, Laws}
use Rattle.ciphers.specs.Swaps.{barred_past}
use Rattle.ciphers.proofs.Checked.{open_below}
use Rattle.rules.specs.Rules.{is_code, leads_nonzero}
use Rattle.walk.specs.Calls.{Reaches}
use Rattle.walk.specs.CodeLists.{In, fronted, strings, codes_of}
use Rattle.walk.specs.WalkLaws.{FirstAllowed, Walks, Examples}
use Rattle.walk.specs.Walks.{Allowed, times, seek, denied_open, denied_count, few_codes, barred_by, walking}
use Rattle.walk.specs.Cycles.{times_stays, seek_first, first_return, back_home, first_back}
use Rattle.walk.specs.Listed.{in_kept, all_codes}

abbrev walked : ℕ → (List ℕ → List ℕ) → (List ℕ → Bool) → List ℕ → List ℕ
walked most go says c = seek most go says (go c)

-- what is barred
pub bar_parts : (says : Bool) (below : Option ℕ) → barred_by says below ≡ None → (says ≡ true) × (below ≡ None)
bar_parts true below e = (refl, open_below below e)
bar_parts false below e = absurd (some≢none 0 e)

pub bar_none : (says : Bool) (below : Option ℕ) → says ≡ true → below ≡ None → barred_by says below ≡ None
bar_none says below y b = ap (λ t. barred_by t below) y ∙ ap barred_past b

module _ (m : Meaning) (allowed : Allowed) (f : Form) where
  pub free_below : (c : List ℕ) → Free (walking m allowed) f c → Free m f c
  free_below c h = record { code = h.code; open_to = (bar_parts (allowed f c) (m.barred f c) h.open_to).1 }

  pub free_allowed : (c : List ℕ) → Free (walking m allowed) f c → allowed f c ≡ true
  free_allowed c h = (bar_parts (allowed f c) (m.barred f c) h.open_to).0

  pub free_above : (c : List ℕ) → Free m f c → allowed f c ≡ true → Free (walking m allowed) f c
  free_above c h y = record { code = h.code; open_to = bar_none (allowed f c) (m.barred f c) y h.open_to }

  -- the codes that are denied and not barred below
  abbrev denied : List (List ℕ)
  denied = filter (denied_open m allowed f) (codes_of f)

  length_denied : length denied ≡ denied_count m allowed f
  unfolding denied_count
  length_denied = length-filter (denied_open m allowed f) (codes_of f)

  all_denied : (d : List ℕ) → Free m f d → allowed f d ≡ false → In d denied
  all_denied d h nope =
      in_kept (denied_open m allowed f) d (codes_of f) ((all_codes f).every d h.code)
      (and_from (not (allowed f d)) (not (is_some (m.barred f d))) (not_from_false (allowed f d) nope) (ap (λ o. not (is_some o)) h.open_to))

  module _ (go undo : List ℕ → List ℕ) (law : Undone m f go undo) where
    -- a swap below leads on to an allowed code, few swaps away
    pub reaches : (c : List ℕ) → Free m f c → allowed f c ≡ true → Reaches go (allowed f) (denied_count m allowed f) (go c)
    reaches c h y =
        subst (λ (n : ℕ). Reaches go (allowed f) n (go c)) length_denied
        (first_return (Free m f) go undo law.stays law.undoes (allowed f) c h y denied all_denied)

    found : (c : List ℕ) → (r : Reaches go (allowed f) (denied_count m allowed f) (go c)) → walked (denied_count m allowed f) go (allowed f) c ≡ times go (suc r.swaps) c
    found c r = seek_first go (allowed f) (denied_count m allowed f) r.swaps (go c) r.first r.few

    pub first_allowed : (c : List ℕ) → Free (walking m allowed) f c →
        FirstAllowed go (allowed f) (denied_count m allowed f) c (walked (denied_count m allowed f) go (allowed f) c)
    first_allowed c h =
        let r = reaches c (free_below c h) (free_allowed c h) in
        record {
          more = r.swaps;
          few = r.few;
          reached = found c r;
          allowed = ap (allowed f) (found c r) ∙ r.first.reached;
          denied = r.first.before;
        }

    pub walk_undone : Undone (walking m allowed) f (walked (denied_count m allowed f) go (allowed f)) (walked (denied_count m allowed f) undo (allowed f))
    walk_undone = record {
      stays = λ c h.
          let r = reaches c (free_below c h) (free_allowed c h) in
          let free = times_stays (Free m f) go undo law.stays law.undoes (suc r.swaps) c (free_below c h) in
          subst (λ (d : List ℕ). Free (walking m allowed) f d) (sym (found c r)) (free_above (times go (suc r.swaps) c) free r.first.reached);
      undoes = λ c h.
          let r = reaches c (free_below c h) (free_allowed c h) in
          let n = r.swaps in
          let w = times go (suc n) c in
          let back = first_back (Free m f) go undo law.stays law.undoes (allowed f) c (free_below c h) (free_allowed c h) n r.first in
          ap (walked (denied_count m allowed f) undo (allowed f)) (found c r) ∙ seek_first undo (allowed f) (denied_count m allowed f) n (undo w) back r.few ∙
          back_home (Free m f) go undo law.stays law.undoes (allowed f) c (free_below c h) (free_allowed c h) n;
    }

pub walk_laws : (m : Meaning) (allowed : Allowed) → Laws m → Laws (walking m allowed)
walk_laws m allowed laws = record {
  onward = λ f run t. walk_undone m allowed f (m.forward f run) (m.backward f run) (laws.onward f run (and_parts (m.taken f) (few_codes f) t).0);
  homeward = λ f run t. walk_undone m allowed f (m.backward f run) (m.forward f run) (laws.homeward f run (and_parts (m.taken f) (few_codes f) t).0);
}

pub walks : (m : Meaning) (allowed : Allowed) → Laws m → Walks m allowed
walks m allowed laws = record {
  forward = λ f run c t h. first_allowed m allowed f (m.forward f run) (m.backward f run) (laws.onward f run (and_parts (m.taken f) (few_codes f) t).0) c h;
  backward = λ f run c t h. first_allowed m allowed f (m.backward f run) (m.forward f run) (laws.homeward f run (and_parts (m.taken f) (few_codes f) t).0) c h;
  lawful = walk_laws m allowed laws;
}

pub examples : (run : List ℕ) (rounds : ℕ) → Examples run rounds
unfolding denied_count codes_of strings fronted seek few_codes leads_nonzero is_code code_verdict
examples run rounds = record {
  one_denied = refl;
  nine = refl;
  eight = refl;
  back_to_nine = refl;
  zero_barred = refl;
  fifteen_hex = refl;
  sixteen_hex = refl;
  eighteen_digits = refl;
  nineteen_digits = refl;
}
