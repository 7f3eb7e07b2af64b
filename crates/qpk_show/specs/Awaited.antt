-- What an encoder that sent what an onlooker saw makes of the decoder stream (RFC 9204, sections 2.1.4 and 4.4).
use Rattle.std.specs.Prelude.{◌≡◌, ℕ, ◌+◌, ⊤, Bool, true, false, if◌then◌else◌, not, nat_eq, nat_lt, List, [], ◌∷◌, ◌++◌}
use Rattle.std.specs.Prelude.{filter, position, remove, slice_get, Option, None, Some, Result, Ok, Err}
use Rattle.qpack_spec.specs.Instruction.{DecoderInstruction, Acknowledgment, Cancellation, Increment}
use Rattle.qpack_rules.specs.StrictInstructions.{HearingRefusal, ZeroIncrement, PastInsertions, UnknownStream}
use Rattle.qpk_show.specs.declared.awaited.Sent.{Sent}
use Rattle.qpk_show.specs.declared.awaited.HearingFault.{HearingFault}
use Rattle.qpk_show.specs.declared.awaited.HearingFault.TheVariants as fault

-- the known received count, and the sections with a required insert count that are not acknowledged yet, in the order in
-- which they came
pub record Awaited : Type 0 where
  pub known : ℕ
  pub sent : List Sent

-- nothing was sent
abbrev pub nothing_awaited : Awaited
nothing_awaited = record { known = 0; sent = [] }

-- one more section
abbrev pub with_sent : Awaited → ℕ → ℕ → Awaited
with_sent w stream required = record w { sent = w.sent ++ record { stream = stream; required = required } ∷ [] }

-- the known received count, if this many insertions are known to be received too
abbrev pub known_with : ℕ → ℕ → ℕ
known_with known required = if nat_lt known required then required else known

-- the section at an index is acknowledged, if it is there: then all was received that it required
abbrev pub acknowledged_one : Awaited → ℕ → ℕ → Option Sent → Result Awaited HearingRefusal
acknowledged_one w stream index None = Err (UnknownStream stream)
acknowledged_one w stream index (Some s) =
    Ok (record { known = known_with w.known s.required; sent = remove w.sent index })

abbrev pub acknowledged_at : Awaited → ℕ → Option ℕ → Result Awaited HearingRefusal
acknowledged_at w stream None = Err (UnknownStream stream)
acknowledged_at w stream (Some index) = acknowledged_one w stream index (slice_get w.sent index)

-- the oldest section of a stream is acknowledged (section 4.4.1)
abbrev pub acknowledged : Awaited → ℕ → Result Awaited HearingRefusal
acknowledged w stream = acknowledged_at w stream (position (λ s. nat_eq s.stream stream) w.sent)

-- the sections of other streams
abbrev pub on_other_streams : ℕ → List Sent → List Sent
on_other_streams stream sent = filter (λ s. not (nat_eq s.stream stream)) sent

-- the sections of a stream are released (section 4.4.2)
abbrev pub cancelled : Awaited → ℕ → Awaited
cancelled w stream = record w { sent = on_other_streams stream w.sent }

-- the known received count is raised by 1 at least, and to the insertions that were made at most (section 4.4.3)
abbrev pub incremented : ℕ → Awaited → ℕ → Result Awaited HearingRefusal
incremented inserted w by =
    if nat_eq by 0 then Err ZeroIncrement
    else if nat_lt inserted (w.known + by) then Err (PastInsertions by)
    else Ok (record w { known = w.known + by })

-- what a decoder instruction makes of what is awaited, after that many insertions
unfoldable pub hear : ℕ → Awaited → DecoderInstruction → Result Awaited HearingRefusal
hear inserted w (Acknowledgment stream) = acknowledged w stream
hear inserted w (Cancellation stream) = Ok (cancelled w stream)
hear inserted w (Increment by) = incremented inserted w by

-- the refusal that a fault is
abbrev pub refusal_of : HearingFault → HearingRefusal
refusal_of fault.ZeroIncrement = ZeroIncrement
refusal_of (fault.PastInsertions by) = PastInsertions by
refusal_of (fault.UnknownStream stream) = UnknownStream stream

-- what is awaited is what the instruction makes of it, or unchanged if it is refused
abbrev pub Hears : Result ⊤ HearingFault → Result Awaited HearingRefusal → Awaited → Awaited → Type 0
Hears (Ok done) heard old new = heard ≡ Ok new
Hears (Err e) heard old new = (heard ≡ Err (refusal_of e)) × (new ≡ old)
