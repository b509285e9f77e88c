use Rattle.std.proofs.Common.{◌≡◌, ℕ, List, Ok, Err, Result, sym, ap, ◌∙◌, inl, inr, arith}
use Rattle.std.proofs.lemmas.Result.{err_from_is_err_and}
use Rattle.std.proofs.lemmas.Bool.{cases_Bool, cond-true, cond-false}
use Rattle.faults.specs.declared.fault.Cause.TheVariants.{Range}
use Rattle.faults.specs.declared.fault.Fault.{Fault}
use Rattle.faults.specs.Faults.{own}
use Rattle.block_cipher.specs.MacKey.{mac_key_of}
use Rattle.coins.specs.Coins.{Outcome, refusal}
use Rattle.keys.specs.KeyBits.{key_bits, coins_for}
use Rattle.keys.specs.Sequences.{pooled}
use Rattle.pools.specs.Shuffled.{makings, pooling}
use Rattle.ciphers.proofs.key_pool.key_pool.Goals as goal

-- a radix that has no coins from the key has no pool either, and for the same cause
no_pool : (main : List ℕ) (radix : ℕ) (fault : Fault) → Err fault ≡ coins_for main radix → Err fault ≡ (pooling radix (key_bits main radix)).answer
unfolding pooling
no_pool main radix fault e =
    elim (cases_Bool (pooled radix)) [
      | inl t ↦
          let never : ◌≡◌ {A = Result (List ℕ) Fault} (Err fault) (Ok (key_bits main radix)) = e ∙ cond-true (pooled radix) (Ok (key_bits main radix)) (Err (own Range)) t in
          let z : ◌≡◌ {A = ℕ} 0 1 = cc in
          absurd (omega arith)
      | inr n ↦
          let is : ◌≡◌ {A = Result (List ℕ) Fault} (Err fault) (Err (own Range)) = e ∙ cond-false (pooled radix) (Ok (key_bits main radix)) (Err (own Range)) n in
          let same : fault ≡ own Range = cc in
          ap Err same
          ∙ sym (ap (λ (o : Outcome (List (List ℕ))). o.answer) (cond-false (pooled radix) (makings radix 0 256 (key_bits main radix)) (refusal (own Range)) n))
    ]

pub returns-in_err-coins-clause-value : goal.returns-in_err-coins-clause-value
returns-in_err-coins-clause-value c =
    let p = err_from_is_err_and c.from_residual.result c.from_residual.ensures.1 in
    rw (p.1, p.2) (no_pool (mac_key_of c.args.mac.now) c.args.radix c.in_err-coins.field-0.0 c.in_err-coins.ensures.value)
