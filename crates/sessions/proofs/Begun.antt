-- A first line, and the reply to it. Assumes nothing.
use Rattle.std.proofs.Common.{◌≡◌, Some, None, Ok, Err, Option, Result, refl, subst}
use Rattle.faults.specs.declared.fault.Fault.{Fault}
use Rattle.faults.specs.declared.fault.Cause.TheVariants.{Line}
use Rattle.faults.specs.Faults.{own}
use Rattle.commands.specs.Openings.{Opening, codebook, network}
use Rattle.openings.specs.OpenedBooks.{opened_book}
use Rattle.openings.specs.OpenedNetworks.{opened_network}
use Rattle.printing.specs.declared.printed.Printed.{Printed}
use Rattle.printing.specs.Replies.{ok_line, fault_line}
use Rattle.sessions.specs.declared.session.Session.{Session}
use Rattle.sessions.specs.Sessions.{Refused, OverBookBegun, OverNetworkBegun, Led, LedTo, Replied, Opened}

-- a session is no refusal, and a refusal is its own fault
no_refusal : {P : Type 0} (s : Session) (fault : Fault) → ◌≡◌ {A = Result Session Fault} (Ok s) (Err fault) → P
no_refusal s fault e = absurd (cc)

refusal : (why fault : Fault) (p : Printed) → p ≡ fault_line None why → ◌≡◌ {A = Result Session Fault} (Err why) (Err fault) → Refused fault None p
refusal why fault p holds e =
    let same : why ≡ fault = cc in
    record { over = refl; printed = subst (λ f. p ≡ fault_line None f) same holds }

module _ {X : Type 0} (Begins : X → Session → Type 0) where
  begun_by : (o : Result X Fault) (s : Session) (p : Printed) → Led Begins o (Ok s) → p ≡ ok_line None → Replied Begins o (Some s) p
  begun_by (Ok x) s p led holds = record { session = led; printed = holds }
  begun_by (Err fault) s p led holds = no_refusal s fault led

  refused_by : (o : Result X Fault) (why : Fault) (p : Printed) → Led Begins o (Err why) → p ≡ fault_line None why → Replied Begins o None p
  refused_by (Ok x) why p led holds = absurd led
  refused_by (Err fault) why p led holds = refusal why fault p holds led

pub begun : (o : Option Opening) (s : Session) (p : Printed) → LedTo o (Ok s) → p ≡ ok_line None → Opened o (Some s) p
begun None s p led holds = no_refusal s (own Line) led
begun (Some (codebook shape digits)) s p led holds = begun_by OverBookBegun (opened_book shape digits) s p led holds
begun (Some (network a key)) s p led holds = begun_by OverNetworkBegun (opened_network a key) s p led holds

pub refused : (o : Option Opening) (why : Fault) (p : Printed) → LedTo o (Err why) → p ≡ fault_line None why → Opened o None p
refused None why p led holds = refusal why (own Line) p holds led
refused (Some (codebook shape digits)) why p led holds = refused_by OverBookBegun (opened_book shape digits) why p led holds
refused (Some (network a key)) why p led holds = refused_by OverNetworkBegun (opened_network a key) why p led holds
