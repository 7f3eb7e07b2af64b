-- What events and outcomes say of a connection is what it keeps, and why its ends stop.
use Rattle.std.proofs.Common.{◌≡◌, ◌<◌, ◌≤◌, ◌+◌, ◌-◌, ◌^◌, ℕ, zero, suc, Bool, true, false, cond, List, [], length}
use Rattle.std.proofs.Common.{drop, Option, None, Some, Result, Ok, Err, refl, sym, ap, subst, ◌∙◌, arith, inl, inr, ◌⊎◌, min}
use Rattle.std.proofs.lemmas.Bool.{leb-true, leb-false}
use Rattle.std.specs.Option.{IfSome}
use Rattle.std.specs.Prelude.{nat_le}
use Rattle.qpack_spec.specs.History.{window_of}
use Rattle.qpack_spec.specs.StrictReading.{StrictReading, Read, Blocked, Refused}
use Rattle.qpack_spec.specs.StrictReading as strict
use Rattle.qpack_spec.specs.Table.{Table, empty_table, insert_count, window, with_capacity, can_evict, fields_in}
use Rattle.qpack_spec.specs.Window.{Window, DoesNotFit, AboveMaximum, greatest_capacity, eviction_count}
use Rattle.qpack_safety.specs.AbstractSession.{abstract_start}
use Rattle.qpack_safety.specs.TwoEnds.{EndStep, after_end_steps}
use Rattle.qpack_safety.proofs.Invariant.{agreed_made}
use Rattle.qpack_safety.proofs.TwoEnds.{holds_started, holds_behind}
use Rattle.qpack_shared.specs.Streams.{without}
use Rattle.qpack_decoding.specs.Decoders.{DecodingEnd, acknowledged, StopsDecoding, IsNotAnswered}
use Rattle.qpack_decoding.specs.Decoders as decoders
use Rattle.qpack_encoding.specs.Encoders.{EncodingEnd}
use Rattle.qpack_decoding.specs.Sections.{TellsReading, code_of}
use Rattle.qpack_shared.specs.declared.streams.BlockedStream.{BlockedStream}
use Rattle.qpack_decoding.specs.declared.decoder.DecodingError.{DecodingError}
use Rattle.qpack_decoding.specs.declared.decoder.DecodingError.TheVariants as decoding
use Rattle.qpack_encoding.specs.declared.encoder.EncodingError.{EncodingError}
use Rattle.qpack_encoding.specs.declared.encoder.EncodingError.TheVariants as encoding
use Rattle.qpack_decoding.specs.declared.section.LineError.TheVariants as line
use Rattle.qpack_decoding.specs.declared.section.SectionError.{SectionError}
use Rattle.qpack_decoding.specs.declared.section.SectionError.TheVariants as section
use Rattle.qpack_connection.specs.declared.connection.ConnectionSettings.{ConnectionSettings}
use Rattle.qpack_connection.specs.ConnectionEvents.{Shows}
use Rattle.qpack_connection.specs.Connections.{Connection, Receive, Step}
use Rattle.qpack_connection.specs.Headline.{SoFar, known_to_wait, AnswersEncode, IsOfLimit, AnswersCancellation}
use Rattle.qpack_connection.specs.RefinedConnections.{received_of, RefinesSession}
use Rattle.qpack_connection.proofs.CountedWaits.{AreCounted}
use Rattle.qpack_connection.proofs.FollowedRuns.{Follows, IsSent, follows_shown, sent_shown}
use Rattle.qpack_connection.proofs.HandedStreams.{AreStreams, IsStream}
use Rattle.qpack_connection.proofs.KeptDecoderCalls.{ends_keep}
use Rattle.qpack_connection.proofs.KeptEncoderCalls.{IsKept}
use Rattle.qpack_connection.proofs.RefinedDecodes.{stops_for_memory}

-- ---- the decoding end

-- it has these settings, has received no fewer insertions than this and fewer than a number that is known, and counts all
-- streams that wait
pub record IsDecoder (settings : ConnectionSettings) (received : ℕ) (below : Option ℕ) (waiting : List BlockedStream)
    (d : DecodingEnd) : Type 0 where
  pub settings_are : d.settings ≡ settings.decoder
  pub least : received ≤ insert_count d.table
  pub fewer : IfSome below (λ n. insert_count d.table < n)
  pub counted : AreCounted (insert_count d.table) waiting d.blocked

-- a call leaves its settings and its table, and these streams are blocked
pub record KeepsTable (old new : DecodingEnd) (blocked : List BlockedStream) : Type 0 where
  pub settings : new.settings ≡ old.settings
  pub table : new.table ≡ old.table
  pub blocked_are : new.blocked ≡ blocked

counted_at : (waiting : List BlockedStream) (old new : DecodingEnd) (blocked : List BlockedStream)
    → KeepsTable old new blocked → AreCounted (insert_count old.table) waiting blocked
    → AreCounted (insert_count new.table) waiting new.blocked
counted_at waiting old new blocked keeps counted =
    subst (λ (t : Table). AreCounted (insert_count t) waiting new.blocked) (sym keeps.table)
    (subst (λ (bs : List BlockedStream). AreCounted (insert_count old.table) waiting bs) (sym keeps.blocked_are)
    counted)

pub still_decoder : (settings : ConnectionSettings) (received : ℕ) (below : Option ℕ) (waiting : List BlockedStream)
    (old new : DecodingEnd) (blocked : List BlockedStream) → old.settings ≡ settings.decoder
    → received ≤ insert_count old.table → IfSome below (λ n. insert_count old.table < n)
    → KeepsTable old new blocked → AreCounted (insert_count old.table) waiting blocked
    → IsDecoder settings received below waiting new
still_decoder settings received below waiting old new blocked are least fewer keeps counted =
    record {
      settings_are = keeps.settings ∙ are;
      least = omega (arith, least, ap insert_count keeps.table);
      fewer = subst (λ (t : Table). IfSome below (λ n. insert_count t < n)) (sym keeps.table) fewer;
      counted = counted_at waiting old new blocked keeps counted;
    }

-- bytes that it receives
pub received_keeps : (maximum limit most : ℕ) (old new : Connection) (many : ℕ) (answer : Result ℕ DecodingError)
    (steps : List EndStep) → IsKept maximum limit most old steps → Step (Receive many answer) old new
    → (new.decoder.settings ≡ old.decoder.settings) × (new.decoder.blocked ≡ old.decoder.blocked)
received_keeps maximum limit most old new many answer steps k step =
    let x = step.receives k.alive.decoder (empty_table 0 (Some maximum) 0) (received_of old.encoder_stream)
    k.refines.received in
    let keeps = ends_keep (decoders.received step.decoder.table step.decoder.stream old.decoder) step.decoder x.taken
    answer x.ends in (
      ap (λ (c : Connection). c.decoder.settings) step.new_is ∙ keeps.0,
      ap (λ (c : Connection). c.decoder.blocked) step.new_is ∙ keeps.1,
    )

pub acknowledged_keeps_table : (old new : DecodingEnd) (s required : ℕ) → new ≡ acknowledged s required old
    → KeepsTable old new (without s old.blocked)
acknowledged_keeps_table old new s zero is =
    record {
      settings = ap (λ (d : DecodingEnd). d.settings) is;
      table = ap (λ (d : DecodingEnd). d.table) is;
      blocked_are = ap (λ (d : DecodingEnd). d.blocked) is;
    }
acknowledged_keeps_table old new s (suc many) is =
    record {
      settings = ap (λ (d : DecodingEnd). d.settings) is;
      table = ap (λ (d : DecodingEnd). d.table) is;
      blocked_are = ap (λ (d : DecodingEnd). d.blocked) is;
    }

-- a section that is refused
pub refused_keeps : (old new : DecodingEnd) (s q : ℕ) (read : StrictReading) (e : SectionError) → old.failure ≡ None
    → IsNotAnswered old new s (decoding.Section q e)
    ⊎ (decoders.Checks old s (Ok tt) × StopsDecoding old new s read (decoding.Section q e))
    → KeepsTable old new (without s old.blocked) × TellsReading e read
refused_keeps old new s q read e alive (inl (inl ended, same)) = absurd (let x = sym alive ∙ ended in cc)
refused_keeps old new s q read e alive (inl (inr number, same)) = absurd (let x = number.2 in cc)
refused_keeps old new s q read e alive (inr (checks, stops)) = (
  record {
    settings = ap (λ (d : DecodingEnd). d.settings) stops.2;
    table = ap (λ (d : DecodingEnd). d.table) stops.2;
    blocked_are = ap (λ (d : DecodingEnd). d.blocked) stops.2;
  },
  stops.1,
)

-- one for which memory is refused
pub memory_keeps : (old new : DecodingEnd) (s : ℕ) (read : StrictReading) → old.failure ≡ None
    → IsNotAnswered old new s decoding.Memory
    ⊎ (decoders.Checks old s (Ok tt) × StopsDecoding old new s read decoding.Memory) → KeepsTable old new old.blocked
memory_keeps old new s read alive (inl (inl ended, same)) = absurd (let x = sym alive ∙ ended in cc)
memory_keeps old new s read alive (inl (inr number, same)) = absurd (let x = number.2 in cc)
memory_keeps old new s read alive (inr (checks, stops)) = elim (stops_for_memory old new read stops) [
  | inl same ↦ record {
    settings = ap (λ (d : DecodingEnd). d.settings) same;
    table = ap (λ (d : DecodingEnd). d.table) same;
    blocked_are = ap (λ (d : DecodingEnd). d.blocked) same;
  }
  | inr same ↦ record {
    settings = ap (λ (d : DecodingEnd). d.settings) same;
    table = ap (λ (d : DecodingEnd). d.table) same;
    blocked_are = ap (λ (d : DecodingEnd). d.blocked) same;
  }
]

-- an error of a section that ends nothing, and is not of memory, is of the limit
pub is_of_limit : (e : SectionError) (read : StrictReading) → code_of e ≡ None → TellsReading e read → IsOfLimit e
is_of_limit section.TooLong read none tells = tt
is_of_limit (section.Prefix e) read none tells = absurd cc
is_of_limit section.CountAtZero read none tells = absurd cc
is_of_limit (section.Line number offset (line.Meaningless e)) read none tells = absurd cc
is_of_limit (section.Line number offset (line.PastRequired index)) read none tells = absurd cc
is_of_limit (section.Line number offset (line.TooLarge sum)) read none tells = tt
is_of_limit (section.Line number offset line.Memory) read none tells = absurd (no_memory read tells)
  where
    no_memory : (read : StrictReading) → TellsReading (section.Line number offset line.Memory) read → ⊥
    no_memory (Read fields required) told = told
    no_memory (Blocked required) told = told
    no_memory (Refused strict.TooLong) told = told
    no_memory (Refused (strict.InPrefix fault)) told = told
    no_memory (Refused strict.CountAtZero) told = told
    no_memory (Refused (strict.InLine n o fault)) told = told.2
is_of_limit section.Memory read none tells = absurd (no_memory read tells)
  where
    no_memory : (read : StrictReading) → TellsReading section.Memory read → ⊥
    no_memory (Read fields required) told = told
    no_memory (Blocked required) told = told
    no_memory (Refused fault) told = told

-- ---- what is kept of a connection

-- calls lead to it from the first one on, some of which sent the section that requires most. Its decoding end and its
-- streams are what events and outcomes say. Nothing is in the table of its encoding end before an encode. And no more
-- streams are known to wait than may
pub record Kept (settings : ConnectionSettings) (first : Connection) (h : SoFar) (c : Connection) : Type 0 where
  pub follows : Follows first c
  pub sent : IsSent first h.required c
  pub decoder : IsDecoder settings h.received h.below h.waiting c.decoder
  pub streams : AreStreams h.streams c.streams
  pub empty : h.has_encoded ≡ false → c.encoder.table.live ≡ []
  pub few : length (known_to_wait h.below h.waiting) ≤ settings.decoder.max_blocked

pub shown : (settings : ConnectionSettings) (first : Connection) (h : SoFar) (old new : Connection)
    → Kept settings first h old → Shows new old → Kept settings first h new
shown settings first h old new k shows =
    record {
      follows = follows_shown first old new k.follows shows;
      sent = sent_shown first old new h.required k.sent shows;
      decoder = subst (IsDecoder settings h.received h.below h.waiting) shows.decoder k.decoder;
      streams = λ s. subst (IsStream s (h.streams s)) (shows.streams s) (k.streams s);
      empty = λ none. ap (λ (e : EncodingEnd). e.table.live) (sym shows.encoder) ∙ k.empty none;
      few = k.few;
    }

-- ---- an event

-- the greatest capacity of a session's encoder is the maximum that was agreed on
pub agreed_is : (maximum limit : ℕ) (c : Connection) (steps : List EndStep) → maximum < 2 ^ 30
    → RefinesSession maximum c (after_end_steps steps (abstract_start 0 maximum limit))
    → greatest_capacity c.encoder.table.agreed_max ≡ maximum
unfolding window window_of
agreed_is maximum limit c steps small r =
    let w = after_end_steps steps (abstract_start 0 maximum limit) in
    let k = (holds_behind 0 maximum limit steps (abstract_start 0 maximum limit)
    (holds_started 0 maximum limit (omega arith))).invariant in
    let is : c.encoder.table.agreed_max ≡ Some maximum =
    ap (λ (t : Table). t.agreed_max) r.encoder_is ∙ ap (λ (v : Window). v.agreed_max) k.encoder.shares
    ∙ (agreed_made 0 maximum limit w k).is_agreed in
    let least : min maximum (2 ^ 30 - 1) ≡ maximum = omega (arith, small) in
    ap greatest_capacity is ∙ least

-- no capacity above the greatest one is set, for that reason
abbrev pub IsAboveOrWithin : Table → ℕ → Type 0
IsAboveOrWithin t n =
    ((n ≤ greatest_capacity t.agreed_max) × (with_capacity t n ≡ Err AboveMaximum → ⊥))
    ⊎ ((greatest_capacity t.agreed_max < n) × (with_capacity t n ≡ Err AboveMaximum))

not_above : (u : Table) (a b : Bool) → a ≡ true
    → cond a (cond b (Ok u) (Err DoesNotFit)) (Err AboveMaximum) ≡ Err AboveMaximum → ⊥
not_above u true true e h = absurd cc
not_above u true false e h = absurd cc
not_above u false b e h = absurd cc

pub above_or_within : (t : Table) (n : ℕ) → IsAboveOrWithin t n
unfolding with_capacity
above_or_within t n = by (nat_le n (greatest_capacity t.agreed_max)) refl
  where
    by : (b : Bool) → nat_le n (greatest_capacity t.agreed_max) ≡ b → IsAboveOrWithin t n
    by true e =
        let evicted = eviction_count n (fields_in t.live) in
        let u : Table = record t { capacity = n; dropped = t.dropped + evicted; live = drop evicted t.live } in
        inl (
          leb-true n (greatest_capacity t.agreed_max) e,
          λ is. not_above u (nat_le n (greatest_capacity t.agreed_max)) (can_evict t evicted) e is,
        )
    by false e = inr (leb-false n (greatest_capacity t.agreed_max) e, (rw e refl))

pub encode_stops : (s : ℕ) (e : EncodingError)
    → ((e ≡ encoding.Memory) × (s < 2 ^ 62)) ⊎ ((e ≡ encoding.NoStream s) × (2 ^ 62 ≤ s)) → AnswersEncode s (Err e)
encode_stops s e (inl memory) =
    subst (λ (x : EncodingError). AnswersEncode s (Err x)) (sym memory.0) memory.1
encode_stops s e (inr number) =
    subst (λ (x : EncodingError). AnswersEncode s (Err x)) (sym number.0) (refl, number.1)

pub cancel_stops : (maximum s : ℕ) (e : DecodingError)
    → ((e ≡ decoding.Memory) × (s < 2 ^ 62) × (0 < maximum)) ⊎ ((e ≡ decoding.NoStream s) × (2 ^ 62 ≤ s))
    → AnswersCancellation maximum s (Err e)
cancel_stops maximum s e (inl memory) =
    subst (λ (x : DecodingError). AnswersCancellation maximum s (Err x)) (sym memory.0) (memory.1, memory.2)
cancel_stops maximum s e (inr number) =
    subst (λ (x : DecodingError). AnswersCancellation maximum s (Err x)) (sym number.0) (refl, number.1)
