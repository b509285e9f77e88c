-- Passes: what `map_err(Fault::passed_up)?` and `ok_or(..)?` take and hand back. Assumes nothing.
use Rattle.std.proofs.Common.{◌≡◌, Some, None, Ok, Err, Option, Result, sym, refl, ap, ◌∙◌, subst}
use Rattle.std.specs.Option.{ok_or}
use Rattle.std.specs.Result.{MatchResult, OnOk, IsErrAnd}
use Rattle.std.proofs.lemmas.Result.{err_from_is_err_and, IfOk-at_ok}
use Rattle.faults.specs.declared.fault.Fault.{Fault}
use Rattle.faults.specs.Faults.{deeper}
use Rattle.faults.proofs.Variants.{err≢ok}

-- `made` is the call's answer r, with its refusal changed
abbrev pub Changed : {T E : Type 0} → (E → Fault → Type 0) → Result T E → Result T Fault → Type 0
Changed {T} {E} P r made = MatchResult r (λ x. made ≡ Ok x) (λ e. IsErrAnd made (P e))

same_ok : {T : Type 0} (x y : T) → ◌≡◌ {A = Result T Fault} (Ok x) (Ok y) → x ≡ y
same_ok x y e = cc

pub changed_ok : {T E : Type 0} (P : E → Fault → Type 0) (r : Result T E) (made : Result T Fault) (x : T) → made ≡ Ok x → Changed P r made → Ok x ≡ r
changed_ok P (Ok y) made x e h = ap Ok (same_ok x y (sym e ∙ h))
changed_ok P (Err f) made x e h = let p = err_from_is_err_and made h in absurd (err≢ok p.0 x (sym p.1 ∙ e))

same_err : {X : Type 0} (m n : Fault) → ◌≡◌ {A = Result X Fault} (Err m) (Err n) → m ≡ n
same_err m n e = cc

-- the refusal at the exit of a `?`
pub handed_err : {U : Type 0} (out : Result U Fault) (m : Fault) → IsErrAnd out (λ y. y ≡ m) → out ≡ Err m
handed_err out m o = let q = err_from_is_err_and out o in q.1 ∙ ap Err q.2

-- the refusal of the call, and what became of it
pub changed_err : {T E : Type 0} (P : E → Fault → Type 0) (r : Result T E) (made : Result T Fault) (m : Fault) → made ≡ Err m → Changed P r made → (e : E) × (Err e ≡ r) × P e m
changed_err P (Ok x) made m e h = absurd (err≢ok m x (sym e ∙ h))
changed_err P (Err f) made m e h =
    let p = err_from_is_err_and made h in
    let same = same_err p.0 m (sym p.1 ∙ e) in
    (f, refl, subst (P f) same p.2)

-- the same where it is passed up
abbrev pub PassedUp : Fault → Fault → Type 0
PassedUp e d = d ≡ deeper e

pub passed_ok : {T : Type 0} (r made : Result T Fault) (x : T) → made ≡ Ok x → Changed PassedUp r made → Ok x ≡ r
passed_ok r made x e h = changed_ok PassedUp r made x e h

-- and what the caller answers then
pub passed_err : {T U : Type 0} (r made : Result T Fault) (out : Result U Fault) (m : Fault) → made ≡ Err m → Changed PassedUp r made →
    IsErrAnd out (λ y. y ≡ m) → (e : Fault) × (Err e ≡ r) × (out ≡ Err (deeper e))
passed_err r made out m e h o =
    let p = changed_err PassedUp r made m e h in
    (p.0, p.1, handed_err out m o ∙ ap Err p.2)

-- the exit of `ok_or(..)?`
pub lacking : {T U : Type 0} (o : Option T) (f : Fault) (out : Result U Fault) (m : Fault) → Err m ≡ ok_or o f → IsErrAnd out (λ y. y ≡ m) → (None ≡ o) × (out ≡ Err f)
lacking None f out m e o = (refl, handed_err out m o ∙ ap Err (same_err m f e))
lacking (Some x) f out m e o = absurd (err≢ok m x e)

-- what a good answer says
pub OnOk-at_ok : {T E P : Type 0} {r : Result T E} {x : T} → Ok x ≡ r → OnOk r P → P
OnOk-at_ok {T} {E} {P} {r} {x} e h = IfOk-at_ok (λ _. P) (sym e) h
