-- Two variants are never equal, and equal values of one variant hold equals. Assumes nothing.
use Rattle.std.proofs.Common.{◌≡◌, ℕ, Some, None, Ok, Err, Option, Result, arith}

pub none≢some : {X : Type 0} (x : X) → ◌≡◌ {A = Option X} None (Some x) → ⊥
none≢some x e = let z : ◌≡◌ {A = ℕ} 0 1 = cc in omega arith

pub some≢none : {X : Type 0} (x : X) → ◌≡◌ {A = Option X} (Some x) None → ⊥
some≢none x e = let z : ◌≡◌ {A = ℕ} 0 1 = cc in omega arith

pub err≢ok : {X Y : Type 0} (y : Y) (x : X) → ◌≡◌ {A = Result X Y} (Err y) (Ok x) → ⊥
err≢ok y x e = let z : ◌≡◌ {A = ℕ} 0 1 = cc in omega arith

pub same_some : {X : Type 0} (x y : X) → ◌≡◌ {A = Option X} (Some x) (Some y) → x ≡ y
same_some x y e = cc

pub same_ok : {X Y : Type 0} (x y : X) → ◌≡◌ {A = Result X Y} (Ok x) (Ok y) → x ≡ y
same_ok x y e = cc
