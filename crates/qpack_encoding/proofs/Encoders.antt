-- What an encoding end makes of a capacity, and what stays while it receives.
use Rattle.std.proofs.Common.{◌≡◌, ◌≤◌, ◌<◌, ◌^◌, ◌+◌, ℕ, drop, true, false, List, [], ◌∷◌, ◌++◌, Option, None, Some}
use Rattle.std.proofs.Common.{Result, Ok, Err, inl, inr, IfSome, refl, sym, ap, subst, ◌∙◌, arith, nat_le, nat_lt, nat_eq}
use Rattle.std.proofs.Common.{unwrap_or}
use Rattle.std.specs.Prelude.{⊤}
use Rattle.std.specs.Option.{IsSome}
use Rattle.std.proofs.lemmas.Bool.{cond_both, leb-true, le-leb}
use Rattle.qpack_spec.specs.Bytes.{◌>>=◌}
use Rattle.qpack_spec.specs.Instruction.{DecoderInstruction, Acknowledgment, Cancellation, Increment}
use Rattle.qpack_spec.specs.Table.{Table, UnacknowledgedBlock, insert_count, can_evict, fields_in, with_capacity}
use Rattle.qpack_spec.specs.Table.{all_evictable, with_increment, without_oldest, apply_decoder_instruction}
use Rattle.qpack_spec.specs.Window.{TableRefusal, UnknownStream, AboveMaximum, DoesNotFit, or_refusal, eviction_count}
use Rattle.qpack_spec.specs.Window.{greatest_capacity}
use Rattle.qpack_spec.proofs.Results.{bind_ok, ok_is}
use Rattle.qpack_table.proofs.Changes.{resized_to}
use Rattle.qpack_table.specs.Tables.{oldest_required}
use Rattle.qpack_table.specs.declared.dynamic.Error.TheVariants as table
use Rattle.qpack_codec.specs.Hearing.{SetsCapacity}
use Rattle.qpack_codec.specs.declared.error.EncoderError.{EncoderError}
use Rattle.qpack_codec.specs.declared.error.EncoderError.TheVariants as encoder
use Rattle.qpack_encoding.specs.Encoders.{EncodingEnd, IsSound, IsToBeTold, StopsTelling}
use Rattle.qpack_encoding.specs.Encoders.{TellsCapacity, Begins, begun, begun_with, told_if, is_held, received}
use Rattle.qpack_encoding.specs.Encoders.{capacity_failure, code_of, Shrinks}
use Rattle.qpack_encoding.specs.Encoders as setting
use Rattle.qpack_encoding.specs.Hearing.{strict_hear, hear_in_turn, or_unknown, known_at_least}
use Rattle.qpack_encoding.specs.Hearing.{StreamView, Receives, ReceivesMore}
use Rattle.qpack_encoding.specs.declared.encoder.EncodingError.{EncodingError}
use Rattle.qpack_encoding.specs.declared.encoder.EncodingError.TheVariants.{DecoderStream, CapacityTooLarge}
use Rattle.qpack_encoding.specs.declared.encoder.EncodingError.TheVariants.{EntriesHeld, Memory}
use Rattle.qpack_encoding.specs.declared.decoder_stream.DecoderStreamError.{DecoderStreamError}
use Rattle.qpack_shared.specs.declared.streams.BlockedStream.{BlockedStream}
use Rattle.qpack_encoding.specs.Risk.{TracksRisk, still_at_risk}
use Rattle.qpack_encoding.proofs.LimitedSections.{tracks_hearing}

-- ---- a capacity that is refused

-- no capacity is refused for a stream
not_for_a_stream : (t : Table) (n stream : ℕ) → with_capacity t n ≡ Err (UnknownStream stream) → ⊥
unfolding with_capacity
not_for_a_stream t n stream e =
    cond_both (nat_le n (greatest_capacity t.agreed_max)) _ _ (λ r. r ≡ Err (UnknownStream stream) → ⊥)
    (λ _. cond_both (can_evict t (eviction_count n (fields_in t.live))) _ _
    (λ r. r ≡ Err (UnknownStream stream) → ⊥) (λ _ q. cc) (λ _ q. cc))
    (λ _ q. cc)
    e

-- why a capacity was not told, by the error of the call that sets it
pub not_told : (capacity : ℕ) (t u : Table) (written more : List ℕ) (e : EncoderError)
    → SetsCapacity capacity t u written more (Err e)
    → StopsTelling t capacity (capacity_failure e) × (u ≡ t) × (more ≡ written)
not_told capacity t u written more (encoder.Insertion table.MaxTableSizeReached) h = h
not_told capacity t u written more (encoder.Insertion table.MaximumTableSizeTooLarge) h = h
not_told capacity t u written more (encoder.Insertion (table.UnknownStreamId stream)) h =
    absurd (not_for_a_stream t capacity stream h.0)
not_told capacity t u written more (encoder.Insertion e) h = absurd h.0
not_told capacity t u written more encoder.Memory h = h
not_told capacity t u written more e h = absurd h.0

-- ---- the capacity that waits

none_evicted : (t : Table) (n : ℕ) → t.live ≡ [] → eviction_count n (fields_in t.live) ≡ 0
unfolding eviction_count
none_evicted t n nothing = rw nothing refl

none_held : (t : Table) → can_evict t 0 ≡ true
unfolding all_evictable
none_held t = refl

-- a table in which nothing is takes a capacity that is within its maximum
pub takes_capacity : (t : Table) (n most : ℕ) → n ≤ most → most < 2 ^ 30 → t.agreed_max ≡ Some most → t.live ≡ []
    → with_capacity t n ≡ Ok (record t { capacity = n })
takes_capacity t n most within small agreed nothing =
    let evicted = none_evicted t n nothing in
    resized_to t n t.dropped t.live (rw agreed (omega arith))
    (ap (λ (k : ℕ). can_evict t k) evicted ∙ none_held t)
    (omega (arith, evicted))
    (ap (λ (k : ℕ). drop k t.live) (sym evicted))

-- one within the maximum is never above it
not_above : (t : Table) (n : ℕ) → n ≤ greatest_capacity t.agreed_max → with_capacity t n ≡ Err AboveMaximum → ⊥
unfolding with_capacity
not_above t n within e =
    cond_both (nat_le n (greatest_capacity t.agreed_max)) _ _ (λ r. r ≡ Err AboveMaximum → ⊥)
    (λ _. cond_both (can_evict t (eviction_count n (fields_in t.live))) _ _ (λ r. r ≡ Err AboveMaximum → ⊥) (λ _ q. cc)
    (λ _ q. cc))
    (λ above _. absurd (let fits = le-leb n (greatest_capacity t.agreed_max) within in cc))
    e

-- and one that only entries refuse is within it
pub held_within : (t : Table) (n : ℕ) → with_capacity t n ≡ Err DoesNotFit → n ≤ greatest_capacity t.agreed_max
unfolding with_capacity
held_within t n e =
    cond_both (nat_le n (greatest_capacity t.agreed_max)) _ _
    (λ r. r ≡ Err DoesNotFit → n ≤ greatest_capacity t.agreed_max)
    (λ within _. leb-true n (greatest_capacity t.agreed_max) within)
    (λ _ q. absurd cc)
    e

begins_as : (d new : EncodingEnd) (capacity : ℕ) (r : Result Table TableRefusal) → d.wanted ≡ Some capacity
    → with_capacity d.table capacity ≡ r → new ≡ told_if capacity d r → new ≡ begun d
begins_as d new capacity r wanted is same =
    same
    ∙ ap (λ (x : Result Table TableRefusal). told_if capacity d x) (sym is)
    ∙ ap (λ (o : Option ℕ). begun_with o d) (sym wanted)

-- a capacity that waits is told, or memory is refused for it
begins_with : (d new : EncodingEnd) (capacity : ℕ) (r : Result ⊤ EncodingError) → IsToBeTold d capacity
    → d.wanted ≡ Some capacity → TellsCapacity d new capacity r → (r ≡ Err EntriesHeld → ⊥) → Begins d new r
begins_with d new capacity (Ok done) k wanted h goes = begins_as d new capacity (Ok new.table) wanted h.0 h.1
begins_with d new capacity (Err CapacityTooLarge) k wanted h goes = absurd (not_above d.table capacity k h.0)
begins_with d new capacity (Err EntriesHeld) k wanted h goes = absurd (goes refl)
begins_with d new capacity (Err Memory) k wanted h goes = (refl, (capacity, wanted, h.0), h.1)
begins_with d new capacity (Err e) k wanted h goes = absurd h.0

pub begins_sound : (d new : EncodingEnd) (capacity : ℕ) (r : Result ⊤ EncodingError) → IsSound d
    → d.wanted ≡ Some capacity → TellsCapacity d new capacity r → (r ≡ Err EntriesHeld → ⊥) → Begins d new r
begins_sound d new capacity r sound wanted tells goes =
    begins_with d new capacity r (subst (λ o. IfSome o (λ c. IsToBeTold d c)) wanted sound.wanted) wanted tells goes

pub held_is : (r : Result ⊤ EncodingError) → is_held r ≡ true → r ≡ Err EntriesHeld
held_is (Ok done) is = absurd cc
held_is (Err EntriesHeld) is = refl
held_is (Err e) is = absurd cc

pub not_held : (r : Result ⊤ EncodingError) → is_held r ≡ false → r ≡ Err EntriesHeld → ⊥
not_held r is held = absurd (let x = sym is ∙ ap is_held held in cc)

-- or it waits on
pub begins_held : (d new : EncodingEnd) (capacity : ℕ) (r : Result ⊤ EncodingError) → d.wanted ≡ Some capacity
    → TellsCapacity d new capacity r → r ≡ Err EntriesHeld → Begins d new (Ok tt)
begins_held d new capacity r wanted tells held =
    let h = subst (λ (x : Result ⊤ EncodingError). TellsCapacity d new capacity x) held tells in
    begins_as d new capacity (Err DoesNotFit) wanted h.0 h.1

-- a capacity that may wait: it was set, or why not, or it waits
pub shrinks_set : (d new : EncodingEnd) (capacity : ℕ) (r : Result ⊤ EncodingError)
    → setting.SetsCapacity d new capacity r → is_held r ≡ false → Shrinks d new capacity r
shrinks_set d new capacity (Ok done) h goes = (h.0, inl h.1)
shrinks_set d new capacity (Err e) h goes = (λ is. not_held (Err e) goes (ap (λ x. Err x) is), h)

never_ends : (d : EncodingEnd) → IsSound d → d.failure ≡ Some EntriesHeld → ⊥
never_ends d sound ended =
    absurd (let x = subst (λ (o : Option EncodingError). IfSome o (λ e. IsSome (code_of e))) ended sound.failure in cc)

pub shrinks_held : (d new : EncodingEnd) (capacity : ℕ) (r : Result ⊤ EncodingError) → IsSound new
    → setting.SetsCapacity d new capacity r → is_held r ≡ true
    → (new ≡ d) × (with_capacity d.table capacity ≡ Err DoesNotFit) × (d.failure ≡ None)
shrinks_held d new capacity r sound h held =
    by (subst (λ (x : Result ⊤ EncodingError). setting.SetsCapacity d new capacity x) (held_is r held) h)
  where
    by : setting.SetsCapacity d new capacity (Err EntriesHeld)
        → (new ≡ d) × (with_capacity d.table capacity ≡ Err DoesNotFit) × (d.failure ≡ None)
    by (inl ended) = absurd (never_ends new sound (ap (λ (x : EncodingEnd). x.failure) ended.1 ∙ ended.0))
    by (inr stops) = (stops.2.1, stops.2.0, stops.0)

-- ---- what stays while the decoder stream is received

-- the maximum capacity is the same
abbrev pub Keeps : Table → Table → Type 0
Keeps t u = u.agreed_max ≡ t.agreed_max

kept_as : (t u v : Table) → Keeps t u → v ≡ u → Keeps t v
kept_as t u v k is = subst (λ (x : Table). Keeps t x) (sym is) k

-- an instruction keeps it
one_keeps : (t u : Table) (i : DecoderInstruction) → strict_hear t i ≡ Ok u → Keeps t u
unfolding strict_hear apply_decoder_instruction with_increment
one_keeps t u (Acknowledgment stream) e = go (without_oldest stream t.unacknowledged) e
  where
    go : (o : Option (List UnacknowledgedBlock))
        → (or_unknown stream (or_refusal o (UnknownStream stream)
        >>= λ bs. Ok (record t { unacknowledged = bs }))
        >>= λ v. Ok (known_at_least (unwrap_or (oldest_required stream t.unacknowledged) 0) v)) ≡ Ok u → Keeps t u
    go None q = absurd cc
    go (Some bs) q = kept_as t _ u refl (sym (ok_is _ _ q))
one_keeps t u (Cancellation stream) e = kept_as t _ u refl (sym (ok_is _ _ e))
one_keeps t u (Increment by) e =
    cond_both (nat_eq by 0) _ _ (λ r. r ≡ Ok u → Keeps t u) (λ _ q. absurd cc)
    (λ _. cond_both (nat_lt (insert_count t) (t.known_received_count + by)) _ _ (λ r. r ≡ Ok u → Keeps t u)
    (λ _ q. absurd cc)
    (λ _ q. kept_as t _ u refl (sym (ok_is _ _ q))))
    e

-- and so do some in turn
all_keep : (t u : Table) (is : List DecoderInstruction) → hear_in_turn t is ≡ Ok u → Keeps t u
all_keep t u [] e = kept_as t t u refl (sym (ok_is t u e))
all_keep t u (i ∷ is) e =
    let one = bind_ok (strict_hear t i) (λ v. hear_in_turn v is) u e in
    all_keep one.0 u is one.2 ∙ one_keeps t one.0 i one.1

-- a capacity that waits is still within it
pub told_still : (d new : EncodingEnd) (o : Option ℕ) → Keeps d.table new.table → IfSome o (λ c. IsToBeTold d c)
    → IfSome o (λ c. IsToBeTold new c)
told_still d new None keeps k = k
told_still d new (Some c) keeps k = subst (λ (o : Option ℕ). c ≤ greatest_capacity o) (sym keeps) k

-- what all calls so far received, and this one
abbrev pub HearsAll : EncodingEnd → Table → StreamView → List ℕ → Result ⊤ DecoderStreamError → Type 0
HearsAll d t s bytes r =
    (heard : List DecoderInstruction) (before : List ℕ) → Receives heard before d.stream
    → ReceivesMore d.table t heard before bytes s r

-- the end is sound behind bytes that were received
pub received_sound : (d : EncodingEnd) (t : Table) (s : StreamView) (bytes : List ℕ) → IsSound d → d.failure ≡ None
    → HearsAll d t s bytes (Ok tt) → IsSound (received t s d)
received_sound d t s bytes sound live hears =
    let was = sound.stream live in
    let more = hears was.0 was.1 was.2 in
    record {
      wanted = told_still d (received t s d) d.wanted (all_keep d.table t more.more more.applies) sound.wanted;
      stream = λ _. (was.0 ++ more.more, was.1 ++ bytes, more.behind_them);
      failure = sound.failure;
    }

-- and behind bytes at which the stream is refused, which ends the connection
pub refused_sound : (d : EncodingEnd) (t : Table) (s : StreamView) (bytes : List ℕ) (e : DecoderStreamError) → IsSound d
    → d.failure ≡ None → HearsAll d t s bytes (Err e)
    → IsSound (record (received t s d) { failure = Some (DecoderStream e) })
refused_sound d t s bytes e sound live hears =
    let was = sound.stream live in
    let more = (hears was.0 was.1 was.2).0 in
    record {
      wanted = told_still d (record (received t s d) { failure = Some (DecoderStream e) }) d.wanted
          (all_keep d.table t more.more more.applies) sound.wanted;
      stream = λ q. absurd cc;
      failure = refl;
    }

-- ---- the streams at risk

-- those that are kept are those of the table behind bytes that were received
pub received_tracks : (d : EncodingEnd) (t : Table) (s : StreamView) (bytes : List ℕ) (rs kept : List BlockedStream)
    → IsSound d → d.failure ≡ None → HearsAll d t s bytes (Ok tt) → kept ≡ still_at_risk t rs → TracksRisk rs d.table
    → TracksRisk kept t
received_tracks d t s bytes rs kept sound live hears is tracks =
    let was = sound.stream live in
    let more = hears was.0 was.1 was.2 in
    tracks_hearing rs kept d.table t more.more more.applies is tracks

-- and behind bytes at which the stream is refused
pub refused_tracks : (d : EncodingEnd) (t : Table) (s : StreamView) (bytes : List ℕ) (e : DecoderStreamError)
    (rs kept : List BlockedStream) → IsSound d → d.failure ≡ None → HearsAll d t s bytes (Err e)
    → kept ≡ still_at_risk t rs → TracksRisk rs d.table → TracksRisk kept t
refused_tracks d t s bytes e rs kept sound live hears is tracks =
    let was = sound.stream live in
    let more = (hears was.0 was.1 was.2).0 in
    tracks_hearing rs kept d.table t more.more more.applies is tracks
