-- How a session begins, and what it shows of its blocks.
use Rattle.std.specs.Prelude.{◌≡◌, ℕ, List, Option, Some, None, Result, Ok, Err}
use Rattle.std.specs.Borrow.{Bor}
use Rattle.qpack_base.specs.Refusals.{IsRefusedFor}
use Rattle.qpack_rules.specs.Session.{Session, StartRefusal, CapacityTooLarge, LimitTooLarge}
use Rattle.qpack_table.specs.declared.dynamic.Error.{Error}
use Rattle.qpack_table.specs.declared.dynamic.Error.TheVariants.{MaximumTableSizeTooLarge, MaxBlockedStreamsTooLarge}
use Rattle.h3_qpack.specs.Sessions.{StoredBlock, SessionView, Shows}

-- why a session does not begin, as an error reports it
abbrev pub start_refusal_of : Error → Option StartRefusal
start_refusal_of MaximumTableSizeTooLarge = Some CapacityTooLarge
start_refusal_of MaxBlockedStreamsTooLarge = Some LimitTooLarge
start_refusal_of e = None

-- a session begins as the definition says, or is refused as it says
abbrev pub Begins : Result SessionView Error → Result Session StartRefusal → Type 0
Begins (Ok s) read = (v : Session) × (read ≡ Ok v) × Shows s v
Begins (Err e) read = IsRefusedFor read (start_refusal_of e)

-- the bytes of a block, or that there is none
abbrev pub IsBlock : Option (Bor (List ℕ)) → Option StoredBlock → Type 0
IsBlock (Some bytes) (Some b) = bytes.now ≡ b.bytes
IsBlock None None = Unit {0}
IsBlock bytes b = ⊥
