-- A stream of instructions as an onlooker sees it (RFC 9204, section 4.2).
use Rattle.std.specs.Prelude.{ℕ, ◌-◌, Bool, true, if◌then◌else◌, ◌||◌, nat_eq, List, drop, length, Option, None, Some, Result, Ok}
use Rattle.std.specs.Prelude.{Err}
use Rattle.qpack_wire.specs.Alone.{KindFault, is_cut_kind}
use Rattle.qpk_show.specs.declared.stream.Cut.{Cut}

-- the bytes that came, how many of them were consumed, and whether those after them are refused
pub record Stream : Type 0 where
  pub received : List ℕ
  pub taken : ℕ
  pub is_refused : Bool

-- the bytes that are not taken
abbrev pub unread : Stream → List ℕ
unread s = drop s.taken s.received

-- the stream, which is refused from here on
abbrev pub refused : Stream → Stream
refused s = record s { is_refused = true }

-- the result of reading: the line that was read, or none if none is whole, or why there is none; and the stream after
-- it
abbrev pub line_read : {L : Type 0} → Stream → Result (L × List ℕ) KindFault → Result (Option L) KindFault × Stream
line_read s (Ok r) = (Ok (Some r.0), record s { taken = length s.received - length r.1 })
line_read s (Err fault) = if is_cut_kind fault then (Ok None, s) else (Err fault, refused s)

-- the next line of a stream; one that is refused has none any more
abbrev pub next_of : {L : Type 0} → (List ℕ → Result (L × List ℕ) KindFault) → Stream
    → Result (Option L) KindFault × Stream
next_of read s = if s.is_refused then (Ok None, s) else line_read s (read (unread s))

-- the front of a line that is not whole, once nothing more is taken: the bytes that are not consumed, if there are some
-- and they are not refused
abbrev pub cut_of : Stream → Option Cut
cut_of s =
    if s.is_refused || nat_eq (length s.received - s.taken) 0 then None
    else Some (record { offset = s.taken; bytes = length s.received - s.taken })
