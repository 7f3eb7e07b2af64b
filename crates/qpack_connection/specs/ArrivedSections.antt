-- When a section can be decoded: its own end wrote all that it requires before it (RFC 9204, section 2.1.2).
use Rattle.std.specs.Prelude.{ℕ, ◌≤◌, List, length, Ok}
use Rattle.qpack_spec.specs.Field.{FieldLine}
use Rattle.qpack_spec.specs.Table.{insert_count}
use Rattle.qpack_connection.specs.Connections.{Connection, IsNew, Call, Encode, Receive, Step, Run}
use Rattle.qpack_connection.specs.TwoEndsHeadline.{Fits, AllFit}

-- once a call that receives bytes of the encoder stream succeeds, and all bytes were received that had been written
-- when a section was encoded, all insertions are there that it requires, whatever was written since
abbrev pub SectionsArrive : Type 0
SectionsArrive =
    (before since : List Call) (first old sent now new : Connection) (s : ℕ) (fields : List FieldLine)
    (required many total : ℕ) → IsNew first
    → (run : Run before first old) → AllFit before first old run
    → (step : Step (Encode s fields (Ok required)) old sent) → Fits (Encode s fields (Ok required)) old sent step
    → (later : Run since sent now) → AllFit since sent now later
    → Step (Receive many (Ok total)) now new
    → length sent.encoder_stream.written ≤ new.encoder_stream.received
    → required ≤ insert_count new.decoder.table
