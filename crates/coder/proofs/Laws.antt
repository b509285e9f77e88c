-- The law over every list of calls. Assumes nothing.
use Rattle.std.proofs.Common.{◌≡◌, ℕ, zero, suc, List, [], ◌∷◌, take, Some, sym, refl, ap, ◌∙◌, subst}
use Rattle.std.specs.List.{slice_get}
use Rattle.std.proofs.lemmas.Bool.{cond-true}
use Rattle.faults.specs.declared.fault.Cause.TheVariants.{Lane}
use Rattle.faults.specs.Faults.{own}
use Rattle.formats.specs.Forms.{Form}
use Rattle.faults.proofs.Variants.{none≢some, same_some, err≢ok}
use Rattle.ciphers.specs.Meanings.{Meaning, Laws}
use Rattle.ciphers.specs.Swaps.{Outcome, refused, swapped, answer, left}
use Rattle.coder.specs.Calls.{Call, masks, unmasks, Reply, said}
use Rattle.coder.specs.Handed.{AllExisting}
use Rattle.coder.specs.Law.{Alike, Between, OneList, TwoLists}
use Rattle.coder.specs.Lists.{past, before, told, Asked, leaves}
use Rattle.coder.specs.Machine.{Held, is_lane, on_lane, if_held, swapped_text, held, reply}
use Rattle.coder.proofs.Alike.{alike_back, kept, same_told, same_asked}
use Rattle.coder.proofs.Handed.{Begun}
use Rattle.coder.proofs.Lasts.{last_start, held_since, all_before, started_exists}
use Rattle.coder.proofs.OneLane.{same_results}
use Rattle.coder.proofs.Undoing.{same_swapped, swap_back}

-- the reply to the call at a place
pub told_at : (m : Meaning) (cs h : List Call) (i : ℕ) (c : Call) → slice_get cs i ≡ Some c → slice_get (told m h cs) i ≡ Some (said c (reply m (past (take i cs) h) c))
told_at m [] h i c e = absurd (none≢some c e)
told_at m (d ∷ cs) h zero c e = ap (λ y. Some (said y (reply m h y))) (same_some d c e)
told_at m (d ∷ cs) h (suc i) c e = told_at m cs (d ∷ h) i c e

-- the reply to a swap of x
abbrev replied : List ℕ → Outcome → Reply
replied x o = record { answer = answer o; text = left o x }

left_by : (x t : List ℕ) (o : Outcome) → replied x o ≡ leaves t → o ≡ swapped t
left_by x t (refused fault) q = absurd (err≢ok fault tt (ap (λ r. r.answer) q))
left_by x t (swapped s) q = ap swapped (ap (λ r. r.text) q)

-- a kind of call that swaps a text by a map
abbrev Swaps : Meaning → (ℕ → List ℕ → Call) → (Form → List ℕ → List ℕ → List ℕ) → Type 0
Swaps m kind go = (h : List Call) (k : ℕ) (x : List ℕ) → said (kind k x) (reply m h (kind k x)) ≡ replied x (on_lane k (if_held (held m h k) (swapped_text m go x)))

module _ (m : Meaning) (kind : ℕ → List ℕ → Call) (go : Form → List ℕ → List ℕ → List ℕ) (swaps : Swaps m kind go) (cs : List Call) (i : ℕ) (u : Held) (x : List ℕ) (asked : Asked m cs kind i u x) where
  is_held : held m (before cs i) asked.lane ≡ Some u
  is_held = held_since m (before cs i) asked.lane u asked.under

  is_kept : Begun m asked.lane u.run u.shape
  is_kept = kept m (before cs i) asked.lane u is_held

  -- the reply is the swap's
  gives : slice_get (told m [] cs) i ≡ Some (replied x (swapped_text m go x u))
  gives =
      let k = asked.lane in
      let o = if_held (held m (before cs i) k) (swapped_text m go x) in
      told_at m cs [] i (kind k x) asked.call ∙
      ap Some (swaps (before cs i) k x ∙ ap (replied x) (cond-true (is_lane k) o (refused (own Lane)) is_kept.lane ∙ ap (λ w. if_held w (swapped_text m go x)) is_held))

  was_swapped : (t : List ℕ) → slice_get (told m [] cs) i ≡ Some (leaves t) → swapped_text m go x u ≡ swapped t
  was_swapped t e = left_by x t (swapped_text m go x u) (same_some _ _ (sym gives ∙ e))

  swapped_then : (t : List ℕ) → swapped_text m go x u ≡ swapped t → slice_get (told m [] cs) i ≡ Some (leaves t)
  swapped_then t e = gives ∙ ap (λ o. Some (replied x o)) e

masking : (m : Meaning) → Swaps m masks m.forward
masking m h k x = refl

unmasking : (m : Meaning) → Swaps m unmasks m.backward
unmasking m h k x = refl

-- two lists on one cipher
same_cipher : (m : Meaning) → Laws m → (cs ds : List Call) → Between m m cs ds (told m [] cs) (told m [] ds)
same_cipher m laws cs ds =
    let forth : Held → List ℕ → Outcome = λ u x. swapped_text m m.forward x u in
    let back : Held → List ℕ → Outcome = λ u x. swapped_text m m.backward x u in
    record {
      one_to_one = λ i j u x y t s a b p q.
          let law = laws.onward u.shape u.run (is_kept m masks m.forward (masking m) cs i u x a).takes in
          let first = was_swapped m masks m.forward (masking m) cs i u x a t p in
          let second = was_swapped m masks m.forward (masking m) ds j u y b s q in (
            λ e. same_swapped (sym (swap_back m m.forward m.backward u x t law first) ∙ ap (back u) e ∙ swap_back m m.forward m.backward u y s law second),
            λ e. same_swapped (sym first ∙ ap (forth u) e ∙ second),
          );
      undone = λ i j u x t a b.
          let takes = (is_kept m masks m.forward (masking m) cs i u x a).takes in (
            λ p.
                swapped_then m unmasks m.backward (unmasking m) ds j u t b x
                (swap_back m m.forward m.backward u x t (laws.onward u.shape u.run takes) (was_swapped m masks m.forward (masking m) cs i u x a t p)),
            λ p.
                swapped_then m masks m.forward (masking m) cs i u x a t
                (swap_back m m.backward m.forward u t x (laws.homeward u.shape u.run takes) (was_swapped m unmasks m.backward (unmasking m) ds j u t b x p)),
          );
      lane_alone = λ k e. same_results m k cs ds [] [] refl e;
    }

-- and on two ciphers that are alike
pub two_ciphers : (m n : Meaning) → Laws m → Alike m n → (cs ds : List Call) → AllExisting ds → Between m n cs ds (told m [] cs) (told n [] ds)
two_ciphers m n laws a cs ds exist =
    let P : List Reply → Type 0 = λ others. Between m m cs ds (told m [] cs) others in
    let w = subst P (same_told m n a ds [] exist tt) (same_cipher m laws cs ds) in
    record {
      one_to_one = λ i j u x y t s b d. w.one_to_one i j u x y t s b (same_asked m n a ds exist masks j u y d);
      undone = λ i j u x t b d. w.undone i j u x t b (same_asked m n a ds exist unmasks j u t d);
      lane_alone = λ k e. w.lane_alone k e;
    }

pub one_list : (m : Meaning) → Laws m → (cs : List Call) → AllExisting cs → OneList m cs (told m [] cs)
one_list m laws cs exist = record {
  each = refl;
  under = last_start m;
  rebuilds = λ i k u s. started_exists m (before cs i) k u (all_before cs i exist) s;
  within = same_cipher m laws cs cs;
}

pub two_lists : (m n : Meaning) → Laws m → Laws n → (cs ds : List Call) → AllExisting cs → AllExisting ds → TwoLists m n cs ds (told m [] cs) (told n [] ds)
two_lists m n laws others cs ds exist exist-too = record {
  first = one_list m laws cs exist;
  second = one_list n others ds exist-too;
  between = λ a. two_ciphers m n laws a cs ds exist-too;
  across = λ a. two_ciphers n m others (alike_back a) ds cs exist;
}

-- the same of replies that are the reference machine's
pub one_list_of : (m : Meaning) (cs : List Call) (replies : List Reply) → Laws m → AllExisting cs → replies ≡ told m [] cs → OneList m cs replies
one_list_of m cs replies laws exist e =
    let P : List Reply → Type 0 = λ x. OneList m cs x in
    subst P (sym e) (one_list m laws cs exist)

pub two_lists_of : (m n : Meaning) (cs ds : List Call) (replies others : List Reply) → Laws m → Laws n → AllExisting cs → AllExisting ds →
    replies ≡ told m [] cs → others ≡ told n [] ds → TwoLists m n cs ds replies others
two_lists_of m n cs ds replies others laws laws-too exist exist-too e f =
    let P : List Reply → Type 0 = λ x. TwoLists m n cs ds x (told n [] ds) in
    let Q : List Reply → Type 0 = λ y. TwoLists m n cs ds replies y in
    subst Q (sym f) (subst P (sym e) (two_lists m n laws laws-too cs ds exist exist-too))
