-- What was made for a call, and the plan of it. Assumes nothing.
use Rattle.std.proofs.Common.{◌≡◌, ℕ, List, Ok, Err, Result, ap, ◌∙◌}
use Rattle.faults.specs.declared.fault.Fault.{Fault}
use Rattle.formats.specs.Shapes.{form}
use Rattle.pools.specs.Pools.{inverses}
use Rattle.ciphers.specs.declared.fast.Fast.{Fast}
use Rattle.ciphers.specs.declared.way.Way.{Way}
use Rattle.ciphers.specs.declared.way.Way.TheVariants.{Forward}
use Rattle.ciphers.specs.Held.{network_of}
use Rattle.ciphers.specs.Meanings.{Meaning}
use Rattle.ciphers.specs.Networked.{pool_permutes}
use Rattle.ciphers.specs.Networks.{Network, networked}
use Rattle.rules.specs.declared.nonzero_lead.NonzeroLead.{NonzeroLead}
use Rattle.walk.specs.declared.cycle.CycleWalk.{CycleWalk}
use Rattle.network_c.specs.declared.ffi.Run.{Run}
use Rattle.network_c.specs.declared.ready.Ready.{Ready}
use Rattle.network_c.specs.Exports.{Plan, nonzero, plan_for, network_for, masked, ByInverses, SwappedBy}
use Rattle.network_c.specs.Readies.{by_ready}
use Rattle.network_c.specs.Under.{number_in}
use Rattle.network_c.proofs.Runs.{by_plan}

-- the meaning of the walk over a network
abbrev pub walk_of : CycleWalk Fast NonzeroLead → Meaning
walk_of w = nonzero (network_of w.below)

-- by the network that was made, or a walk over it
pub swapped_by : (means : Network → Meaning) (to : Way) (r : Ready Fast) (runs : List Run) (c : List ℕ) (n : ℕ) (after : List ℕ)
    → n ≡ number_in (by_ready (λ s. means (network_of s)) to r runs c).answer → after ≡ (by_ready (λ s. means (network_of s)) to r runs c).code
    → ByInverses means to (plan_for (network_of r.cipher) (form r.shape)) runs c n after
swapped_by means to r runs c n after value left =
    record { inverses = inverses r.cipher.pool; undo = pool_permutes r.cipher.pool; value = value; after = left }

-- a swap forward is a mask, which looks into no inverse
pub masked_by : (p : Result Plan Fault) (runs : List Run) (c : List ℕ) (n : ℕ) (after : List ℕ) → SwappedBy networked Forward p runs c n after
    → (n ≡ number_in (masked p runs c).answer) × (after ≡ (masked p runs c).code)
masked_by (Ok p) runs c n after s =
    let is = by_plan (network_for p s.inverses) p.codes runs c in
    (s.value ∙ ap (λ e. number_in e.answer) is, s.after ∙ ap (λ e. e.code) is)
masked_by (Err fault) runs c n after s = s
