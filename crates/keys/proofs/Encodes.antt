-- Encodes: lists that are encoded alike are equal. Assumes nothing.
use Rattle.std.proofs.Common.{◌≡◌, ℕ, ◌/◌, ◌%◌, ◌<◌, List, refl, ap, ◌∙◌, arith}
use Rattle.keys.specs.declared.label.Sequence.{Sequence}
use Rattle.keys.specs.declared.label.Sequence.TheVariants.{GivenPool, KeyPool}
use Rattle.keys.specs.Labels.{number_of, label_of}
use Rattle.keys.specs.Encodings.{Detail, Purpose, of_sequence, of_pool, encode, InRange, Apart}

-- two bytes tell a number below 65,536
two_same : (m n : ℕ) → m < 65536 → n < 65536 → m / 256 % 256 ≡ n / 256 % 256 → m % 256 ≡ n % 256 → m ≡ n
two_same m n hm hn high low = omega arith

label_same : (s t : Sequence) → number_of (label_of s) ≡ number_of (label_of t) → s ≡ t
label_same GivenPool GivenPool h = refl
label_same GivenPool KeyPool h = absurd (omega arith)
label_same KeyPool GivenPool h = absurd (omega arith)
label_same KeyPool KeyPool h = refl

not_pool : (s : Sequence) → number_of (label_of s) ≡ 3 → ⊥
not_pool GivenPool h = omega arith
not_pool KeyPool h = omega arith

abbrev detail : ℕ → ℕ → ℕ → ℕ → List ℕ → Detail
detail len layers w w' run = record { len = len; layers = layers; w = w; w' = w'; run = run }

detail_same : (d e : Detail) → d.len ≡ e.len → d.layers ≡ e.layers → d.w ≡ e.w → d.w' ≡ e.w' → d.run ≡ e.run → d ≡ e
detail_same d e a b c f g =
    ap (λ x. detail x d.layers d.w d.w' d.run) a ∙ ap (λ x. detail e.len x d.w d.w' d.run) b
    ∙ ap (λ x. detail e.len e.layers x d.w' d.run) c
    ∙ ap (λ x. detail e.len e.layers e.w x d.run) f
    ∙ ap (λ x. detail e.len e.layers e.w e.w' x) g

told : (i j : ℕ) (p q : Purpose) → InRange i p → InRange j q → encode i p ≡ encode j q → (i ≡ j) × (p ≡ q)
unfolding encode
told i j (of_sequence s a d) (of_sequence t b e) hi hj h =
    let l : number_of (label_of s) ≡ number_of (label_of t) = cc in
    let a1 : a / 256 % 256 ≡ b / 256 % 256 = cc in
    let a2 : a % 256 ≡ b % 256 = cc in
    let n1 : d.layers / 256 % 256 ≡ e.layers / 256 % 256 = cc in
    let n2 : d.layers % 256 ≡ e.layers % 256 = cc in
    let es = label_same s t l in
    let ea = two_same a b hi.1 hj.1 a1 a2 in
    let ed = detail_same d e (cc) (two_same d.layers e.layers hi.2.layers hj.2.layers n1 n2) (cc) (cc) (cc) in
    ((cc), ap (λ x. of_sequence x a d) es ∙ ap (λ x. of_sequence t x d) ea ∙ ap (of_sequence t b) ed)
told i j (of_sequence s a d) (of_pool b) hi hj h =
    let l : number_of (label_of s) ≡ 3 = cc in absurd (not_pool s l)
told i j (of_pool a) (of_sequence t b e) hi hj h =
    let l : number_of (label_of t) ≡ 3 = cc in absurd (not_pool t l)
told i j (of_pool a) (of_pool b) hi hj h =
    let a1 : a / 256 % 256 ≡ b / 256 % 256 = cc in
    let a2 : a % 256 ≡ b % 256 = cc in
    ((cc), ap of_pool (two_same a b hi.1 hj.1 a1 a2))

pub apart : (i j : ℕ) (p q : Purpose) → Apart i j p q
apart i j p q = record { told = told i j p q; alike = λ ei ep. ap (λ x. encode x p) ei ∙ ap (encode j) ep }
