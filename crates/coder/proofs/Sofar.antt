-- A list of entries, answered from the front on. Assumes nothing.
--   Sofar   the first i entries are answered, and the others as they were
use Rattle.std.proofs.Common.{◌≡◌, ℕ, ◌+◌, ◌<◌, ◌≤◌, List, [], ◌∷◌, map, length, get_or, take, drop, set, replicate, None, Option, sym, refl, ap, ◌∙◌, subst, arith}
use Rattle.std.specs.List.{AllByRecursion}
use Rattle.std.proofs.ByRecursion.{All-push}
use Rattle.std.proofs.lemmas.List.{length-map, take_all, take_more_set, drop_more, drop-set-lt, map-set, set-get_or, get_or-map, get_or_default}
use Rattle.ciphers.specs.Meanings.{Meaning}
use Rattle.coder.specs.declared.list.Command.{Command}
use Rattle.coder.specs.declared.list.Command.TheVariants.{Start, End, Mask, Unmask, Restart}
use Rattle.coder.specs.declared.list.Entry.{Entry}
use Rattle.coder.specs.Calls.{Call, Reply}
use Rattle.coder.specs.Entries.{call_of, asks, says, still, Answered}
use Rattle.coder.specs.Handed.{Through, Follows, Existing, AllExisting}
use Rattle.coder.specs.Lists.{past, told}
use Rattle.coder.specs.Machine.{Held}
use Rattle.coder.proofs.Handed.{remakes, new_through}
use Rattle.coder.proofs.Listed.{FollowsAll, follows_none, follows_more, follows_whole, all_existing}

-- entries name shapes that can be made again
command_exists : (c : Command) → Existing (call_of c)
command_exists (Start k run shape) = remakes shape
command_exists (End k) = tt
command_exists (Mask k t) = tt
command_exists (Unmask k t) = tt
command_exists Restart = tt

pub entries_exist : (xs : List Entry) → AllExisting (map asks xs)
entries_exist xs = all_existing asks (λ e. command_exists e.command) xs

-- xs as they came, ys as they stand
pub record Sofar (m : Meaning) (start lanes : List (Option Held)) (xs ys : List Entry) (i : ℕ) : Type 0 where
  pub follow : FollowsAll m start lanes (map asks (take i xs)) (map says (take i ys))
  pub rest : drop i ys ≡ drop i xs
  pub kept : map still ys ≡ map still xs
  pub answered : AllByRecursion Answered (take i ys)

pub sofar_none : (m : Meaning) (lanes : List (Option Held)) (xs : List Entry) → Sofar m lanes lanes xs xs 0
sofar_none m lanes xs = record { follow = follows_none m lanes; rest = refl; kept = refl; answered = tt }

head_same : {X : Type 0} {x y : X} {xs ys : List X} → ◌≡◌ {A = List X} (x ∷ xs) (y ∷ ys) → x ≡ y
head_same e = cc

tail_same : {X : Type 0} {x y : X} {xs ys : List X} → ◌≡◌ {A = List X} (x ∷ xs) (y ∷ ys) → xs ≡ ys
tail_same e = cc

pub sofar_more : {m : Meaning} {start lanes after : List (Option Held)} (xs ys : List Entry) (i : ℕ) (d y : Entry) → Sofar m start lanes xs ys i → i < length xs →
    Follows m lanes after (asks (get_or ys i d)) (says y) → still y ≡ still (get_or ys i d) → Answered y → Sofar m start after xs (set ys i y) (i + 1)
sofar_more {m} {start} {lanes} {after} xs ys i d y so inside one same done =
    let long : length ys ≡ length xs = sym (length-map ys still) ∙ (ap length so.kept ∙ length-map xs still) in
    let within : i < length ys = omega arith in
    let next = sym (drop_more ys i d within) ∙ (so.rest ∙ drop_more xs i d inside) in
    let small : i < i + 1 = omega arith in
    let x = get_or ys i d in
    let P : List Entry → Type 0 = AllByRecursion Answered in
    record {
      follow =
          follows_more asks says xs i x (take i ys) (take (i + 1) (set ys i y)) y inside (head_same next ∙ get_or_default xs i d x inside) (take_more_set ys i y within) so.follow one;
      rest = drop-set-lt (i + 1) ys i y small ∙ tail_same next;
      kept =
          map-set still ys i y
          ∙ (ap (set (map still ys) i) (same ∙ sym (get_or-map still ys i d (still d) within)) ∙ (set-get_or (map still ys) i (still d) ∙ so.kept));
      answered = subst P (sym (take_more_set ys i y within)) (All-push Answered (take i ys) y so.answered done);
    }

-- at the end of the list
module _ {m : Meaning} {start lanes : List (Option Held)} (xs ys : List Entry) (i : ℕ) (so : Sofar m start lanes xs ys i) (past_end : length xs ≤ i) where
  none_left : length ys ≤ i
  none_left = let long : length ys ≡ length xs = sym (length-map ys still) ∙ (ap length so.kept ∙ length-map xs still) in omega arith

  pub sofar_all : FollowsAll m start lanes (map asks xs) (map says ys)
  sofar_all =
      let P : List Entry → Type 0 = λ zs. FollowsAll m start lanes (map asks xs) (map says zs) in
      subst P (take_all i ys none_left) (follows_whole asks says xs i (take i ys) past_end so.follow)

  pub all_answered : AllByRecursion Answered ys
  all_answered = let P : List Entry → Type 0 = AllByRecursion Answered in subst P (take_all i ys none_left) so.answered

-- a list on a new coder
pub from_new : (m n : Meaning) (start lanes : List (Option Held)) (cs : List Call) (replies : List Reply) → n ≡ m → start ≡ replicate 8 None → FollowsAll n start lanes cs replies →
    Through m lanes (past cs []) × (replies ≡ told m [] cs)
from_new m n start lanes cs replies e new all =
    let P : Meaning → Type 0 = λ x. FollowsAll x start lanes cs replies in
    let Q : List (Option Held) → Type 0 = λ x. FollowsAll m x lanes cs replies in
    subst Q new (subst P e all) [] (new_through m)
