-- A list of calls, one call after the other. Assumes nothing.
--   FollowsAll      a list of calls hands the lanes on, and its replies are the reference machine's
--   lanes_through    any lanes after the calls of a list
--   replies_through  what the calls of a list give on any lanes
use Rattle.std.proofs.Common.{◌≡◌, ℕ, ◌+◌, ◌<◌, ◌≤◌, List, [], ◌∷◌, ◌++◌, map, length, get_or, take, replicate, None, Option, sym, refl, ap, ◌∙◌, subst}
use Rattle.std.proofs.lemmas.List.{take_all, map_more, map_push}
use Rattle.ciphers.specs.Meanings.{Meaning}
use Rattle.coder.specs.Calls.{Call, Reply, said}
use Rattle.coder.specs.Handed.{Through, Follows, Existing, AllExisting}
use Rattle.coder.specs.Lists.{past, told}
use Rattle.coder.specs.Machine.{Held, reply}
use Rattle.coder.specs.Steps.{stepped}
use Rattle.coder.proofs.Handed.{new_through, step_follows}

abbrev pub FollowsAll : Meaning → List (Option Held) → List (Option Held) → List Call → List Reply → Type 0
FollowsAll m start after cs replies = (h : List Call) → Through m start h → Through m after (past cs h) × (replies ≡ told m h cs)

-- one call more, at the end of the list
pub past_push : (cs : List Call) (c : Call) (h : List Call) → past (cs ++ (c ∷ [])) h ≡ c ∷ past cs h
past_push [] c h = refl
past_push (d ∷ cs) c h = past_push cs c (d ∷ h)

pub told_push : (m : Meaning) (cs : List Call) (c : Call) (h : List Call) → told m h (cs ++ (c ∷ [])) ≡ told m h cs ++ (said c (reply m (past cs h) c) ∷ [])
told_push m [] c h = refl
told_push m (d ∷ cs) c h = ap (λ xs. said d (reply m h d) ∷ xs) (told_push m cs c (d ∷ h))

pub follows_none : (m : Meaning) (lanes : List (Option Held)) → FollowsAll m lanes lanes [] []
follows_none m lanes h t = (t, refl)

pub follows_push : {m : Meaning} {start lanes after : List (Option Held)} (cs : List Call) (replies : List Reply) (c : Call) (r : Reply) → FollowsAll m start lanes cs replies →
    Follows m lanes after c r → FollowsAll m start after (cs ++ (c ∷ [])) (replies ++ (r ∷ []))
follows_push {m} {start} {lanes} {after} cs replies c r all one h t =
    let sofar = all h t in
    let step = one (past cs h) sofar.0 in
    let P : List Call → Type 0 = λ x. Through m after x in (
      subst P (sym (past_push cs c h)) step.0,
      ap (λ xs. xs ++ (r ∷ [])) sofar.1 ∙ ap (λ x. told m h cs ++ (x ∷ [])) step.1 ∙ sym (told_push m cs c h),
    )

-- one call more, at its front
pub follows_first : {m : Meaning} {start lanes after : List (Option Held)} (cs : List Call) (replies : List Reply) (c : Call) (r : Reply) → Follows m start lanes c r →
    FollowsAll m lanes after cs replies → FollowsAll m start after (c ∷ cs) (r ∷ replies)
follows_first {m} cs replies c r one all h t =
    let step = one h t in
    let rest = all (c ∷ h) step.0 in
    (rest.0, ap (λ x. x ∷ replies) step.1 ∙ ap (λ xs. said c (reply m h c) ∷ xs) rest.1)

-- what the calls of a list do to any lanes, step by step, and what they give
abbrev pub lanes_through : Meaning → List (Option Held) → List Call → List (Option Held)
lanes_through m lanes [] = lanes
lanes_through m lanes (c ∷ cs) = lanes_through m (stepped m lanes c).lanes cs

abbrev pub replies_through : Meaning → List (Option Held) → List Call → List Reply
replies_through m lanes [] = []
replies_through m lanes (c ∷ cs) = said c (stepped m lanes c).outcome ∷ replies_through m (stepped m lanes c).lanes cs

pub follows_list : (m : Meaning) (lanes : List (Option Held)) (cs : List Call) → AllExisting cs → FollowsAll m lanes (lanes_through m lanes cs) cs (replies_through m lanes cs)
follows_list m lanes [] exist = follows_none m lanes
follows_list m lanes (c ∷ cs) exist =
    let then = (stepped m lanes c).lanes in
    follows_first cs (replies_through m then cs) c (said c (stepped m lanes c).outcome) (step_follows m lanes c exist.0) (follows_list m then cs exist.1)

pub lanes_push : (m : Meaning) (lanes : List (Option Held)) (cs : List Call) (c : Call) → lanes_through m lanes (cs ++ (c ∷ [])) ≡ (stepped m (lanes_through m lanes cs) c).lanes
lanes_push m lanes [] c = refl
lanes_push m lanes (d ∷ cs) c = lanes_push m (stepped m lanes d).lanes cs c

pub replies_push : (m : Meaning) (lanes : List (Option Held)) (cs : List Call) (c : Call) →
    replies_through m lanes (cs ++ (c ∷ [])) ≡ replies_through m lanes cs ++ (said c (stepped m (lanes_through m lanes cs) c).outcome ∷ [])
replies_push m lanes [] c = refl
replies_push m lanes (d ∷ cs) c = ap (λ xs. said d (stepped m lanes d).outcome ∷ xs) (replies_push m (stepped m lanes d).lanes cs c)

-- a loop over things that say calls, which collects things that say replies
module _ {X Y : Type 0} (call : X → Call) (reply-of : Y → Reply) {m : Meaning} {start : List (Option Held)} where
  pub follows_more : {lanes after : List (Option Held)} (xs : List X) (i : ℕ) (x : X) (ys ys' : List Y) (y : Y) → i < length xs → x ≡ get_or xs i x → ys' ≡ ys ++ (y ∷ []) →
      FollowsAll m start lanes (map call (take i xs)) (map reply-of ys) → Follows m lanes after (call x) (reply-of y) →
      FollowsAll m start after (map call (take (i + 1) xs)) (map reply-of ys')
  follows_more {lanes} {after} xs i x ys ys' y within at pushed all one =
      let P : List Call → Type 0 = λ cs. FollowsAll m start after cs (map reply-of ys') in
      let Q : List Reply → Type 0 = λ replies. FollowsAll m start after (map call (take i xs) ++ (call x ∷ [])) replies in
      let calls : map call (take i xs) ++ (call x ∷ []) ≡ map call (take (i + 1) xs) =
      ap (λ z. map call (take i xs) ++ (call z ∷ [])) at ∙ sym (map_more call xs i x within) in
      let replies : map reply-of ys ++ (reply-of y ∷ []) ≡ map reply-of ys' = sym (ap (map reply-of) pushed ∙ map_push reply-of ys y) in
      subst P calls (subst Q replies (follows_push (map call (take i xs)) (map reply-of ys) (call x) (reply-of y) all one))

  pub follows_whole : {after : List (Option Held)} (xs : List X) (i : ℕ) (ys : List Y) → length xs ≤ i → FollowsAll m start after (map call (take i xs)) (map reply-of ys) →
      FollowsAll m start after (map call xs) (map reply-of ys)
  follows_whole {after} xs i ys past_end all =
      let P : List X → Type 0 = λ zs. FollowsAll m start after (map call zs) (map reply-of ys) in
      subst P (take_all i xs past_end) all

-- what says calls whose shapes can all be made again
pub all_existing : {X : Type 0} (call : X → Call) → ((x : X) → Existing (call x)) → (xs : List X) → AllExisting (map call xs)
all_existing call each [] = tt
all_existing call each (x ∷ xs) = (each x, all_existing call each xs)

-- on a new coder
pub new_told : (m : Meaning) (after : List (Option Held)) (cs : List Call) (replies : List Reply) → FollowsAll m (replicate 8 None) after cs replies → replies ≡ told m [] cs
new_told m after cs replies all = (all [] (new_through m)).1
