-- What the exported calls of the network give. Assumes nothing.
--   Plan       a network as a first line names it, without the inverses of its boxes, and the form of its codes
--   plan_of    the plan of a network that was made, or why none was
--   planned    the plan for a key and a shape's text: over the pool from the key
--   masked     a code masked by a plan, if there is one, under one run after the other
--   nonzero    what the walk to codes that do not begin with 0 means, over a network
--   SwappedBy  a code swapped so, either way, by the network or by a walk over it
--   Unmasked   a code unmasked by the network
--   Walked     a code swapped by that walk
use Rattle.std.specs.Prelude.{◌≡◌, ℕ, Bool, List, [], Ok, Err, Result}
use Rattle.faults.specs.declared.fault.Fault.{Fault}
use Rattle.faults.specs.Faults.{number_of}
use Rattle.formats.specs.Forms.{Form}
use Rattle.formats.specs.Shapes.{form}
use Rattle.formats.specs.ShapeTexts.{read_form}
use Rattle.ciphers.specs.declared.fast.Fast.{Fast}
use Rattle.ciphers.specs.declared.way.Way.{Way}
use Rattle.ciphers.specs.declared.way.Way.TheVariants.{Backward}
use Rattle.ciphers.specs.Held.{network_of}
use Rattle.ciphers.specs.Layers.{Permutes}
use Rattle.ciphers.specs.Meanings.{Meaning}
use Rattle.ciphers.specs.Networks.{Network, networked}
use Rattle.ciphers.specs.Swaps.{onward}
use Rattle.rules.specs.Rules.{leads_nonzero}
use Rattle.walk.specs.Walks.{walking}
use Rattle.openings.specs.OpenedNetworks.{Opened, opened, opened_network}
use Rattle.network_c.specs.declared.ffi.Run.{Run}
use Rattle.network_c.specs.declared.ready.Ready.{Ready}
use Rattle.network_c.specs.Under.{Ended, toward, way_of, under, number_in}

pub record Plan : Type 0 where
  pub network : Opened
  pub codes : Form

abbrev pub plan_for : Network → Form → Plan
plan_for net f = record { network = opened net; codes = f }

abbrev pub plan_of : Result (Ready Fast) Fault → Result Plan Fault
plan_of (Ok r) = Ok (plan_for (network_of r.cipher) (form r.shape))
plan_of (Err fault) = Err fault

abbrev pub with_network : Form → Result Opened Fault → Result Plan Fault
with_network f (Ok net) = Ok (record { network = net; codes = f })
with_network f (Err fault) = Err fault

abbrev pub with_form : List ℕ → Result Form Fault → Result Plan Fault
with_form key (Ok f) = with_network f (opened_network f.alphabet key)
with_form key (Err fault) = Err fault

abbrev pub planned : List ℕ → List ℕ → Result Plan Fault
planned key text = with_form key (read_form text)

abbrev pub network_for : Plan → List (List ℕ) → Network
network_for p inverses = record { key = p.network.key; sequence = p.network.sequence; radix = p.network.radix; boxes = p.network.boxes; inverses = inverses }

-- masking looks into no inverse
abbrev pub masked : Result Plan Fault → List Run → List ℕ → Ended
masked (Ok p) runs c = under (onward (networked (network_for p [])) p.codes) runs c
masked (Err fault) runs c = record { code = c; answer = Err fault }

-- the walk to codes that do not begin with 0, over a network
abbrev pub nonzero : Network → Meaning
nonzero net = walking (networked net) leads_nonzero

-- by what a network means, and by inverses of the boxes, which for symbols are all alike
pub record ByInverses (means : Network → Meaning) (to : Way) (p : Plan) (runs : List Run) (c : List ℕ) (number : ℕ) (left : List ℕ) : Type 0 where
  pub inverses : List (List ℕ)
  pub undo : Permutes p.network.radix 256 p.network.boxes inverses
  pub value : number ≡ number_in (under (toward to (means (network_for p inverses)) p.codes) runs c).answer
  pub after : left ≡ (under (toward to (means (network_for p inverses)) p.codes) runs c).code

-- what a call answers and leaves
abbrev pub SwappedBy : (Network → Meaning) → Way → Result Plan Fault → List Run → List ℕ → ℕ → List ℕ → Type 0
SwappedBy means to (Ok p) runs c number left = ByInverses means to p runs c number left
SwappedBy means to (Err fault) runs c number left = (number ≡ number_of fault.cause) × (left ≡ c)

abbrev pub Unmasked : Result Plan Fault → List Run → List ℕ → ℕ → List ℕ → Type 0
Unmasked = SwappedBy networked Backward

abbrev pub Walked : Bool → Result Plan Fault → List Run → List ℕ → ℕ → List ℕ → Type 0
Walked back = SwappedBy nonzero (way_of back)
