-- Which streams may be blocked, on examples (RFC 9204, section 2.1.2).
use Rattle.std.proofs.Common.{◌≡◌, ℕ, List, [], ◌∷◌, Some, refl}
use Rattle.qpack_spec.specs.Reading.{greatest_of}
use Rattle.qpack_spec.specs.Table.{Table, UnacknowledgedBlock, empty_table, with_number}
use Rattle.qpack_spec.specs.Table.{without_stream}
use Rattle.qpack_encoding.specs.Risk.{streams_at_risk}

section : ℕ → List ℕ → UnacknowledgedBlock
section stream entries = record { stream = stream; entries = entries }

-- a table whose sections are these, and of which so many insertions are known to be received
sections : ℕ → List UnacknowledgedBlock → Table
sections known bs =
    record (empty_table 4096 (Some 4096) 4096) { known_received_count = known; unacknowledged = bs }

-- two sections of a stream put it at risk once
once : streams_at_risk (sections 0 (section 4 (1 ∷ []) ∷ section 8 (2 ∷ []) ∷ section 4 (3 ∷ 1 ∷ []) ∷ [])) ≡ 4 ∷ 8 ∷ []
unfolding sections section greatest_of with_number
once = refl

-- a section that requires what is known puts none at risk
not_known : streams_at_risk (sections 2 (section 4 (1 ∷ 2 ∷ []) ∷ section 8 (3 ∷ []) ∷ [])) ≡ 8 ∷ []
unfolding sections section greatest_of with_number
not_known = refl

-- a stream that was cancelled is not at risk, though nothing more is known to be received
not_cancelled : streams_at_risk (record (sections 0 (section 4 (1 ∷ []) ∷ section 8 (2 ∷ []) ∷ [])) {
  unacknowledged = without_stream 4 (section 4 (1 ∷ []) ∷ section 8 (2 ∷ []) ∷ []);
}) ≡ 8 ∷ []
unfolding sections section greatest_of with_number without_stream
not_cancelled = refl

-- an acknowledged section tells what is known, so that a later one that requires more still counts
still_later : streams_at_risk (sections 1 (section 4 (2 ∷ []) ∷ [])) ≡ 4 ∷ []
unfolding sections section greatest_of with_number
still_later = refl
