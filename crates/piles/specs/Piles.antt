-- Piles: what some layers over layers over ciphers mean, and when a pile is refused. Assumes nothing.
--   if_keepable             what a call gives where so many symbols may stay, and a refusal where they may not
--   nonzero_over_kept_pile  a walk to codes that do not begin with 0, over a kept prefix, over the network
--   kept_over_first_pile    a kept prefix, over the first of two: a walk to codes that pass the Luhn test over one
--                           codebook, and another codebook
--   over_first_pile         the same, with a walk to codes that any rule allows
--   nonzero_over_luhn_pile  a walk to codes that do not begin with 0, over a walk to codes that pass the Luhn test,
--                           over the network
use Rattle.std.specs.Prelude.{ℕ, cond, ◌&&◌, nat_le}
use Rattle.faults.specs.declared.fault.Cause.TheVariants.{Range}
use Rattle.faults.specs.Faults.{own}
use Rattle.ciphers.specs.Meanings.{Meaning}
use Rattle.ciphers.specs.Networks.{Network, networked}
use Rattle.ciphers.specs.Swaps.{Outcome, refused}
use Rattle.codebook.specs.Books.{Book, meaning_of}
use Rattle.layers.specs.Firsts.{preferring}
use Rattle.layers.specs.Keeps.{keeping}
use Rattle.rules.specs.Rules.{leads_nonzero, passes_luhn}
use Rattle.walk.specs.Walks.{Allowed, walking}

-- from 1 to 31 symbols may stay
unfoldable pub if_keepable : ℕ → Outcome → Outcome
if_keepable kept o = cond (nat_le 1 kept && nat_le kept 31) o (refused (own Range))

abbrev pub nonzero_over_kept_pile : ℕ → Network → Meaning
nonzero_over_kept_pile kept net = walking (keeping kept (networked net)) leads_nonzero

abbrev pub kept_over_first_pile : ℕ → Book → Book → Meaning
kept_over_first_pile kept walked other = keeping kept (preferring (walking (meaning_of walked) passes_luhn) (meaning_of other))

abbrev pub over_first_pile : ℕ → Book → Allowed → Book → Meaning
over_first_pile kept walked allowed other = keeping kept (preferring (walking (meaning_of walked) allowed) (meaning_of other))

abbrev pub nonzero_over_luhn_pile : Network → Meaning
nonzero_over_luhn_pile net = walking (walking (networked net) passes_luhn) leads_nonzero
