-- Where a session stands after its first line, and what is printed for that line. Assumes nothing.
--   Refused        a first line was refused for a fault, and there is no session
--   NoRuns         no lane has a run, as in a new coder
--   BookBegun      lanes over a codebook
--   NetworkBegun   lanes over the network
--   Led            a cipher was opened, or refused, and that led to a session or to the fault
--   LedTo          the same, by what a first line spells
--   Replied        a first line opened a cipher, or was refused, and that was printed
--   BookOpened     the same of a codebook
--   NetworkOpened  the same of the network
--   Opened         the same, by what the line spells
use Rattle.std.specs.Prelude.{◌≡◌, List, [], replicate, Some, None, Ok, Err, Option, Result}
use Rattle.std.specs.Option.{IsSomeAnd}
use Rattle.std.specs.Result.{IsOkAnd}
use Rattle.faults.specs.declared.fault.Cause.TheVariants.{Line}
use Rattle.faults.specs.declared.fault.Fault.{Fault}
use Rattle.faults.specs.Faults.{own}
use Rattle.ciphers.specs.declared.fast.Fast.{Fast}
use Rattle.ciphers.specs.Held.{network_of}
use Rattle.ciphers.specs.Meanings.{Meaning}
use Rattle.ciphers.specs.Networks.{networked}
use Rattle.codebook.specs.declared.book.Codebook.{Codebook}
use Rattle.codebook.specs.Books.{Book, meaning_of}
use Rattle.codebook.specs.Codebooks.{book}
use Rattle.rules.specs.declared.nonzero_lead.NonzeroLead.{NonzeroLead}
use Rattle.rules.specs.Rules.{leads_nonzero}
use Rattle.walk.specs.declared.cycle.CycleWalk.{CycleWalk}
use Rattle.walk.specs.Walks.{walking}
use Rattle.coder.specs.declared.coder.Coder.{Coder}
use Rattle.coder.specs.Handed.{Through}
use Rattle.coder.specs.Machine.{Held}
use Rattle.commands.specs.Openings.{Opening, codebook, network}
use Rattle.printing.specs.declared.printed.Printed.{Printed}
use Rattle.printing.specs.Replies.{ok_line, fault_line}
use Rattle.openings.specs.OpenedBooks.{opened_book}
use Rattle.openings.specs.OpenedNetworks.{Opened as OpenedNetwork, opened, opened_network}
use Rattle.sessions.specs.declared.session.Session.{Session}
use Rattle.sessions.specs.declared.session.Session.TheVariants.{Codebook as OverBook, Network as OverNetwork}

pub record Refused (fault : Fault) (s : Option Session) (p : Printed) : Type 0 where
  pub over : s ≡ None
  pub printed : p ≡ fault_line None fault

-- the lanes of a new coder
pub record NoRuns (m : Meaning) (lanes : List (Option Held)) : Type 0 where
  pub none : lanes ≡ replicate 8 None
  pub through : Through m lanes []

-- the codebook and the meaning of lanes over a walked codebook
abbrev pub book_of : Coder (CycleWalk Codebook NonzeroLead) → Book
book_of c = book c.cipher.below

abbrev pub walked : Coder (CycleWalk Codebook NonzeroLead) → Meaning
walked c = walking (meaning_of (book_of c)) leads_nonzero

pub record BookBegun (b : Book) (c : Coder (CycleWalk Codebook NonzeroLead)) : Type 0 where
  pub cipher : book_of c ≡ b
  pub lanes : NoRuns (walked c) c.lanes

pub record NetworkBegun (net : OpenedNetwork) (c : Coder Fast) : Type 0 where
  pub cipher : opened (network_of c.cipher) ≡ net
  pub lanes : NoRuns (networked (network_of c.cipher)) c.lanes

abbrev pub OverBookBegun : Book → Session → Type 0
OverBookBegun b (OverBook c) = BookBegun b c
OverBookBegun b (OverNetwork c) = ⊥

abbrev pub OverNetworkBegun : OpenedNetwork → Session → Type 0
OverNetworkBegun net (OverBook c) = ⊥
OverNetworkBegun net (OverNetwork c) = NetworkBegun net c

-- what was opened led to a session, and a refusal to its fault
abbrev pub Led : {X : Type 0} → (X → Session → Type 0) → Result X Fault → Result Session Fault → Type 0
Led Begins (Ok x) r = IsOkAnd r (Begins x)
Led Begins (Err fault) r = r ≡ Err fault

abbrev pub LedTo : Option Opening → Result Session Fault → Type 0
LedTo None r = r ≡ Err (own Line)
LedTo (Some (codebook shape digits)) r = Led OverBookBegun (opened_book shape digits) r
LedTo (Some (network a key)) r = Led OverNetworkBegun (opened_network a key) r

-- a session that began, and what is printed for it
pub record Begun (Begins : Session → Type 0) (s : Option Session) (p : Printed) : Type 0 where
  pub session : IsSomeAnd s Begins
  pub printed : p ≡ ok_line None

abbrev pub Replied : {X : Type 0} → (X → Session → Type 0) → Result X Fault → Option Session → Printed → Type 0
Replied Begins (Ok x) s p = Begun (Begins x) s p
Replied Begins (Err fault) s p = Refused fault s p

abbrev pub BookOpened : Result Book Fault → Option Session → Printed → Type 0
BookOpened = Replied OverBookBegun

abbrev pub NetworkOpened : Result OpenedNetwork Fault → Option Session → Printed → Type 0
NetworkOpened = Replied OverNetworkBegun

abbrev pub Opened : Option Opening → Option Session → Printed → Type 0
Opened None s p = Refused (own Line) s p
Opened (Some (codebook shape digits)) s p = BookOpened (opened_book shape digits) s p
Opened (Some (network a key)) s p = NetworkOpened (opened_network a key) s p
