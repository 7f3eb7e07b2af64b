-- What a script says: an event a line, its parts separated by TABs.
use Rattle.std.specs.Prelude.{◌≡◌, ℕ, ◌^◌, List, [], ◌∷◌, codes, map, Option, None, Some, Result, Ok, Err}
use Rattle.std.specs.Prelude.{if◌then◌else◌, nat_eq, nat_lt}
use Rattle.std.specs.Borrow.{Bor}
use Rattle.std.specs.Global.{Vec}
use Rattle.std.specs.Str.{all_ascii_digits, bytes_eq}
use Rattle.std.specs.Str.Parse.{digits_value, without_leading_plus}
use Rattle.qpack_spec.specs.Field.{Field}
use Rattle.qpack_rules.specs.Session.{Event, Encode, Decode, ToDecoder, ToEncoder, Acknowledge, Cancel, ChangeCapacity}
use Rattle.qpack_base.specs.declared.field.HeaderField.{HeaderField}
use Rattle.h3_qpack.specs.Sessions.{event_of}
use Rattle.qpack_codec.specs.Stateless.{fields_in}
use Rattle.h3_qpack.specs.declared.session.Event.{Event as ReadEvent}
use Rattle.qpk.specs.Answers.{FailsEvents}
use Rattle.qpk_qif.specs.Lines.{with_byte, lines_of}
use Rattle.qpk.specs.LineItems.{items_from}
use Rattle.qpk.specs.declared.text.Fault.{Fault}
use Rattle.qpk.specs.declared.text.Fault.TheVariants.{Memory}

-- the parts of a line, separated by TABs: one more than it has TABs
abbrev pub parts_of : List ℕ → List (List ℕ)
parts_of [] = [] ∷ []
parts_of (b ∷ bytes) = if nat_eq b 9 then [] ∷ parts_of bytes else with_byte b (parts_of bytes)

-- the number of 64 bits that digits say, if they are some and decimal
abbrev pub number_of_digits : List ℕ → Option ℕ
number_of_digits [] = None
number_of_digits (d ∷ digits) =
    if all_ascii_digits (d ∷ digits) then (if nat_lt (digits_value 10 (d ∷ digits)) (2 ^ 64)
    then Some (digits_value 10 (d ∷ digits)) else None)
    else None

-- the number of a part, after a plus or not
abbrev pub number_of : List ℕ → Option ℕ
number_of part = number_of_digits (without_leading_plus part)

-- one more field at the front
abbrev pub with_pair : List ℕ → List ℕ → Option (List Field) → Option (List Field)
with_pair name value None = None
with_pair name value (Some fs) = Some (record { name = name; value = value } ∷ fs)

-- the fields of parts that are names and values by turns
abbrev pub fields_of_parts : List (List ℕ) → Option (List Field)
fields_of_parts [] = Some []
fields_of_parts (name ∷ []) = None
fields_of_parts (name ∷ value ∷ parts) = with_pair name value (fields_of_parts parts)

-- an encoding of fields for a stream
abbrev pub encode_of : ℕ → Option (List Field) → Option Event
encode_of stream None = None
encode_of stream (Some fs) = Some (Encode stream fs)

-- the event of this name that has a number alone
abbrev pub event_of_number : List ℕ → ℕ → Option Event
event_of_number name n =
    if bytes_eq name (codes "decode") then Some (Decode n)
    else if bytes_eq name (codes "todecoder") then Some (ToDecoder n)
    else if bytes_eq name (codes "toencoder") then Some (ToEncoder n)
    else if bytes_eq name (codes "ack") then Some (Acknowledge n)
    else if bytes_eq name (codes "cancel") then Some (Cancel n)
    else if bytes_eq name (codes "setcapacity") then Some (ChangeCapacity n)
    else None

-- the event of a name and a number, if no part follows the number
abbrev pub event_alone : List ℕ → ℕ → List (List ℕ) → Option Event
event_alone name n [] = event_of_number name n
event_alone name n (part ∷ parts) = None

-- the event of a name, the number after it, and the parts after that
abbrev pub event_named : List ℕ → Option ℕ → List (List ℕ) → Option Event
event_named name None parts = None
event_named name (Some n) parts =
    if bytes_eq name (codes "encode") then encode_of n (fields_of_parts parts) else event_alone name n parts

-- the event of a line's parts: a name, a number, and the parts that follow
abbrev pub event_of_parts : List (List ℕ) → Option Event
event_of_parts [] = None
event_of_parts (name ∷ []) = None
event_of_parts (name ∷ number ∷ parts) = event_named name (number_of number) parts

-- the event of a line, if it has one
abbrev pub event_of_line : List ℕ → Option Event
event_of_line line = event_of_parts (parts_of line)

-- the event of each line, or the number of the first line that is no event, the lines being numbered from n
abbrev pub script_from : ℕ → List (List ℕ) → Result (List Event) ℕ
script_from n lines = items_from event_of_line n lines

-- the events of a script
abbrev pub script_events : List ℕ → Result (List Event) ℕ
script_events text = script_from 1 (lines_of text)

-- ---- what reading a script returns

-- the parts after a part, if it has a TAB
abbrev pub parts_behind : Option (Bor (List ℕ)) → List (List ℕ)
parts_behind None = []
parts_behind (Some rest) = parts_of rest.now

-- the fields that were read of names and values by turns
abbrev pub IsPairs : Option (Vec HeaderField) → Option (List Field) → Type 0
IsPairs None read = read ≡ None
IsPairs (Some fields) read = read ≡ Some (fields_in fields.items)

-- the fields that were read of names and values by turns; or memory was refused
abbrev pub ReadsPairs : Result (Option (Vec HeaderField)) Fault → Option (List Field) → Type 0
ReadsPairs (Ok fields) read = IsPairs fields read
ReadsPairs (Err fault) read = fault ≡ Memory

-- the events that were read
abbrev pub events_in : List ReadEvent → List Event
events_in events = map event_of events

-- the events of the script's lines
abbrev pub ReadsScript : Result (Vec ReadEvent) Fault → Result (List Event) ℕ → Type 0
ReadsScript (Ok events) read = read ≡ Ok (events_in events.items)
ReadsScript (Err fault) read = FailsEvents fault read
