-- What an encoding end promises, with any peer and with a lawful decoder, on tables and results that break it: the promise
-- refuses each, whatever call it is of, unless a row names it.
use Rattle.std.proofs.Common.{◌≡◌, ◌+◌, ◌<◌, ◌≤◌, ◌^◌, ℕ, false, List, [], ◌∷◌, ◌++◌, length, Some, Ok, Err, refl}
use Rattle.std.proofs.Common.{sym, ap, subst, ◌∙◌, arith, lit≤}
use Rattle.std.specs.Prelude.{codes, IsOk}
use Rattle.qpack_spec.specs.Field.{FieldLine}
use Rattle.qpack_spec.specs.Reading.{greatest_of}
use Rattle.qpack_spec.specs.StaticTable.{field}
use Rattle.qpack_spec.specs.Table.{Table, UnacknowledgedBlock, empty_table, put_entry, insert_count, with_number}
use Rattle.qpack_spec.specs.Table.{with_unacknowledged, with_capacity}
use Rattle.qpack_spec.specs.Window.{AboveMaximum}
use Rattle.qpack_spec.proofs.Computing.{computed}
use Rattle.qpack_rules.specs.LawfulDecoders.{KeepsNeeded, IsQuiet, IsToBeInserted}
use Rattle.qpack_codec.specs.declared.encoder.choices.Wish.{Wish}
use Rattle.qpack_codec.specs.declared.encoder.choices.Wish.TheVariants.{Insert}
use Rattle.qpack_encoding.specs.Encoders.{EncodingEnd, StopsTelling, begun, is_full}
use Rattle.qpack_encoding.specs.Risk.{streams_at_risk}
use Rattle.qpack_encoding.specs.declared.encoder.EncoderSettings.{EncoderSettings}
use Rattle.qpack_encoding.specs.declared.encoder.EncodingError.{EncodingError}
use Rattle.qpack_encoding.specs.declared.encoder.EncodingError.TheVariants as encoding
use Rattle.qpack_connection.specs.LawfulDecoders.{Call, Encode, SetCapacity, Run, AllCareful, AllAnswer}

-- ---- with any peer

-- settings by which this many streams may be blocked
abbrev settings : ℕ → EncoderSettings
settings most =
    record { max_capacity = 64; max_blocked = most; capacity = 64; most_unacknowledged = 100; seed = 0 }

section : ℕ → List ℕ → UnacknowledgedBlock
section stream entries = record { stream = stream; entries = entries }

-- a table of two insertions, the first of which is evicted
evicting : ℕ → List UnacknowledgedBlock → Table
evicting known sections =
    record (empty_table 64 (Some 64) 4096) {
      dropped = 1;
      live = put_entry (field (codes "foo") (codes "baz")) ∷ [];
      known_received_count = known;
      unacknowledged = sections;
    }

-- a call that leads to a table is careless
abbrev IsCareless : ℕ → Table → Type 0
IsCareless most t =
    (call : Call) (old new : EncodingEnd) (run : Run (call ∷ []) old new) → run.0.table ≡ t
    → AllCareful (settings most) (call ∷ []) old new run → ⊥

-- an entry is evicted that an unacknowledged section references, though it is known to be received
referenced_is_evicted : IsCareless 1 (evicting 2 (section 4 (1 ∷ []) ∷ []))
unfolding evicting section
referenced_is_evicted call old new run is r =
    let k = subst KeepsNeeded is r.1.needed in absurd (omega (arith, k.referenced.0.0.0))

-- one is evicted that only the last entry of the second section references
last_reference_is_evicted : IsCareless 1 (evicting 2 (section 4 (2 ∷ []) ∷ section 8 (2 ∷ 1 ∷ []) ∷ []))
unfolding evicting section
last_reference_is_evicted call old new run is r =
    let k = subst KeepsNeeded is r.1.needed in absurd (omega (arith, k.referenced.1.0.1.0.0))

-- one is evicted that is not known to be received, though no section references it
unknown_is_evicted : IsCareless 1 (evicting 0 [])
unfolding evicting section
unknown_is_evicted call old new run is r =
    let k = subst KeepsNeeded is r.1.needed in absurd (omega (arith, (k.unknown 1 (lit≤ tt) (lit≤ tt)).0))

-- a section references an insertion that was not made
unmade_is_referenced : IsCareless 1 (evicting 2 (section 4 (3 ∷ []) ∷ []))
unfolding evicting section
unmade_is_referenced call old new run is r =
    let k = subst KeepsNeeded is r.1.needed in absurd (omega (arith, k.referenced.0.0.1))

-- two streams are at risk where one may be blocked, or one where none may
second_at_risk : IsCareless 1 (evicting 1 (section 4 (2 ∷ []) ∷ section 8 (2 ∷ []) ∷ []))
unfolding evicting section greatest_of with_number
second_at_risk call old new run is r =
    absurd (omega (arith, subst (λ (t : Table). length (streams_at_risk t) ≤ 1) is r.1.blocked))

first_at_risk : IsCareless 0 (evicting 1 (section 4 (2 ∷ []) ∷ []))
unfolding evicting section greatest_of with_number
first_at_risk call old new run is r =
    absurd (omega (arith, subst (λ (t : Table). length (streams_at_risk t) ≤ 0) is r.1.blocked))

-- it is careful to have two sections of one stream at risk, and one of another stream that requires no more than is known
-- to be received
fewer_at_risk : (e : EncodingEnd)
    → e.table ≡ evicting 2 (section 4 (3 ∷ 2 ∷ []) ∷ section 4 (3 ∷ []) ∷ section 8 (2 ∷ []) ∷ [])
    → length (streams_at_risk e.table) ≤ 1
unfolding evicting section greatest_of with_number
fewer_at_risk e is = subst (λ (t : Table). length (streams_at_risk t) ≤ 1) (sym is) (lit≤ tt)

-- ---- what counts as unacknowledged

-- after a section of a stream was written these count, where those counted before it
abbrev Miscounts : ℕ → List UnacknowledgedBlock → List UnacknowledgedBlock → Type 0
Miscounts s before after =
    (required : ℕ) (fields : List FieldLine) (wishes : List Wish) (bytes : List ℕ) (old new : EncodingEnd)
    (run : Run (Encode s fields wishes bytes (Ok required) ∷ []) old new)
    → (begun old).table.unacknowledged ≡ before → run.0.table.unacknowledged ≡ after
    → AllCareful (settings 1) (Encode s fields wishes bytes (Ok required) ∷ []) old new run → ⊥

-- no section more counts, or this one of the stream, which is the last
miscounts : (s : ℕ) (before after : List UnacknowledgedBlock) → (before ≡ after → ⊥)
    → ((a : ℕ) (more : List ℕ) → before ++ section s (a ∷ more) ∷ [] ≡ after → ⊥) → Miscounts s before after
unfolding section
miscounts s before after none one required fields wishes bytes old new run is_before is_after r =
    by _ (sym is_after ∙ r.0.counted)
  where
    by : (entries : List ℕ) → after ≡ with_unacknowledged (begun old).table.unacknowledged s entries → ⊥
    by [] e = none (sym is_before ∙ sym e)
    by (a ∷ more) e =
        one a more
        (ap (λ (bs : List UnacknowledgedBlock). bs ++ section s (a ∷ more) ∷ []) (sym is_before) ∙ sym e)

-- the stream of the first of some sections
abbrev first_stream : List UnacknowledgedBlock → ℕ
first_stream [] = 0
first_stream (b ∷ bs) = b.stream

-- an earlier section is forgotten; this one counts twice, on another stream, or before the earlier one
earlier_is_forgotten : Miscounts 8 (section 4 (1 ∷ []) ∷ []) []
unfolding section
earlier_is_forgotten = miscounts 8 (section 4 (1 ∷ []) ∷ []) [] (λ e. absurd cc) (λ a more e. absurd cc)

counted_twice : Miscounts 8 [] (section 8 (1 ∷ []) ∷ section 8 (1 ∷ []) ∷ [])
unfolding section
counted_twice =
    miscounts 8 [] (section 8 (1 ∷ []) ∷ section 8 (1 ∷ []) ∷ []) (λ e. absurd cc) (λ a more e. absurd cc)

on_another_stream : Miscounts 8 [] (section 4 (1 ∷ []) ∷ [])
unfolding section
on_another_stream =
    miscounts 8 [] (section 4 (1 ∷ []) ∷ []) (λ e. absurd cc)
    (λ a more e. let x : 8 ≡ 4 = ap first_stream e in absurd (omega (arith, x)))

before_the_earlier : Miscounts 8 (section 4 (1 ∷ []) ∷ []) (section 8 (2 ∷ []) ∷ section 4 (1 ∷ []) ∷ [])
unfolding section
before_the_earlier =
    miscounts 8 (section 4 (1 ∷ []) ∷ []) (section 8 (2 ∷ []) ∷ section 4 (1 ∷ []) ∷ []) (λ e. absurd cc)
    (λ a more e. let x : 4 ≡ 8 = ap first_stream e in absurd (omega (arith, x)))

-- ---- with a lawful decoder

-- a call with such a result breaks the promise
abbrev Breaks : Call → Type 0
Breaks call =
    (s : EncoderSettings) (old new : EncodingEnd) (run : Run (call ∷ []) old new)
    → AllAnswer s (call ∷ []) old new run → ⊥

-- a section is refused: a valid stream number, another one, or for a reason of another call
valid_number_refused : Breaks (Encode 4 [] [] [] (Err (encoding.NoStream 4)))
valid_number_refused s old new run r = grind (r, arith)

another_number_refused : Breaks (Encode (2 ^ 62) [] [] [] (Err (encoding.NoStream (2 ^ 62 + 4))))
another_number_refused s old new run r = grind (r, arith)

encode_is_too_large : Breaks (Encode 4 [] [] [] (Err encoding.CapacityTooLarge))
encode_is_too_large s old new run r = grind (r, arith)

-- a capacity of an empty table whose maximum is 64 is refused: one that it takes, or one above the maximum out of memory
abbrev BreaksCapacity : ℕ → EncodingError → Type 0
BreaksCapacity capacity e =
    (s : EncoderSettings) (old new : EncodingEnd) (run : Run (SetCapacity capacity (Err e) ∷ []) old new)
    → old.table ≡ empty_table 32 (Some 64) 4096 → AllAnswer s (SetCapacity capacity (Err e) ∷ []) old new run → ⊥

within_is_too_large : BreaksCapacity 64 encoding.CapacityTooLarge
unfolding computed
within_is_too_large s old new run is r =
    absurd (let x = subst (λ (t : Table). StopsTelling t 64 encoding.CapacityTooLarge) is r.0 in cc)

nothing_to_hold : BreaksCapacity 0 encoding.EntriesHeld
unfolding computed
nothing_to_hold s old new run is r =
    absurd (let x = subst (λ (t : Table). StopsTelling t 0 encoding.EntriesHeld) is r.0 in cc)

above_without_memory : BreaksCapacity 65 encoding.Memory
unfolding computed
above_without_memory s old new run is r =
    let above : with_capacity (empty_table 32 (Some 64) 4096) 65 ≡ Err AboveMaximum = refl in
    absurd (let x = subst IsOk above (subst (λ (t : Table). StopsTelling t 65 encoding.Memory) is r.0) in cc)

changed_maximum : BreaksCapacity 64 encoding.MaximumChanged
changed_maximum s old new run is r = r.0

-- insertions do not go on: all is acknowledged and known to be received of a table of one entry, and a section of a new
-- field, which is to be inserted, requires only that entry
quiet : Table
quiet =
    record (empty_table 128 (Some 128) 4096) {
      live = put_entry (field (codes "foo") (codes "bar")) ∷ [];
      known_received_count = 1;
    }

new_line : FieldLine
new_line = record { field = field (codes "new") (codes "bar"); never_indexed = false }

is_quiet : IsQuiet quiet
unfolding quiet
is_quiet = record { acknowledged = refl; known = lit≤ tt }

to_be_inserted : IsToBeInserted quiet new_line
unfolding computed quiet new_line
to_be_inserted = record { indexable = refl; fits = lit≤ tt; not_static = refl; not_there = refl }

nothing_is_inserted : (s : ℕ) (bytes : List ℕ) (old new : EncodingEnd)
    (run : Run (Encode s (new_line ∷ []) (Insert ∷ []) bytes (Ok 1) ∷ []) old new)
    → (begun old).table ≡ quiet → is_full (begun old) ≡ false
    → AllAnswer (settings 1) (Encode s (new_line ∷ []) (Insert ∷ []) bytes (Ok 1) ∷ []) old new run → ⊥
unfolding quiet
nothing_is_inserted s bytes old new run is room r =
    omega (
      arith,
      ap insert_count is,
      r.0 (subst IsQuiet (sym is) is_quiet)
          (subst (λ (t : Table). IsToBeInserted t new_line) (sym is) to_be_inserted) (lit≤ tt) room
          (omega (arith, ap insert_count is)),
    )
