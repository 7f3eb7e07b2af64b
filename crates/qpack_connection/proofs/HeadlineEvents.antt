-- What each call of a connection of two ends answers, by events and outcomes alone, and what is kept after it.
use Rattle.std.proofs.Common.{◌≡◌, ◌<◌, ◌≤◌, ◌+◌, ◌^◌, ℕ, Bool, true, false, cond, List, [], ◌∷◌, ◌++◌, drop, Option, None, Some}
use Rattle.std.proofs.Common.{Result, Ok, Err, refl, sym, ap, subst, ◌∙◌, arith, inl, inr, ◌⊎◌}
use Rattle.std.specs.Global.{Vec}
use Rattle.std.specs.Option.{IfSome}
use Rattle.std.specs.Prelude.{⊤, nat_lt, IsOk}
use Rattle.qpack_spec.specs.Field.{FieldLine, fields_of_lines, total_size}
use Rattle.qpack_rules.specs.Session.{stream_at}
use Rattle.qpack_spec.specs.Stateless.{saturated_size}
use Rattle.qpack_spec.specs.Table.{Table, insert_count, window, with_capacity}
use Rattle.qpack_spec.specs.Window.{DoesNotFit, greatest_capacity}
use Rattle.qpack_rules.proofs.PutTables.{count_put}
use Rattle.qpack_rules.proofs.StrictReadings.{strict_are_within}
use Rattle.qpack_safety.specs.AbstractSession.{abstract_start}
use Rattle.qpack_safety.specs.TwoEnds.{after_end_steps}
use Rattle.qpack_decoding.specs.FieldSections.{SectionView}
use Rattle.qpack_shared.specs.Streams.{without}
use Rattle.qpack_decoding.specs.Blocked.{with_blocked}
use Rattle.qpack_decoding.specs.Decoders.{DecodingEnd, acknowledged, blocked_streams}
use Rattle.qpack_decoding.specs.Decoders as decoders
use Rattle.qpack_encoding.specs.Encoders.{EncodingEnd, SetsIt, SetsCapacity, Shrinks, StopsTelling}
use Rattle.qpack_encoding.proofs.Encoders.{held_within}
use Rattle.qpack_encoding.specs.Encoders as encoders
use Rattle.qpack_shared.specs.declared.streams.BlockedStream.{BlockedStream}
use Rattle.qpack_decoding.specs.declared.decoder.DecoderSettings.{DecoderSettings}
use Rattle.qpack_decoding.specs.declared.decoder.DecodingError.{DecodingError}
use Rattle.qpack_decoding.specs.declared.decoder.DecodingError.TheVariants as decoding
use Rattle.qpack_encoding.specs.declared.encoder.EncoderSettings.{EncoderSettings}
use Rattle.qpack_encoding.specs.declared.encoder.EncodingError.{EncodingError}
use Rattle.qpack_encoding.specs.declared.encoder.EncodingError.TheVariants as encoding
use Rattle.qpack_decoding.specs.declared.section.Reading.{Reading}
use Rattle.qpack_decoding.specs.declared.section.Reading.TheVariants as reading
use Rattle.qpack_connection.specs.declared.connection.ConnectionSettings.{ConnectionSettings}
use Rattle.qpack_connection.specs.declared.connection.Event.{Event}
use Rattle.qpack_connection.specs.declared.connection.Event.TheVariants as event
use Rattle.qpack_connection.specs.declared.connection.Outcome.{Outcome}
use Rattle.qpack_connection.specs.declared.connection.Outcome.TheVariants as outcome
use Rattle.qpack_connection.specs.declared.connection.fields.OwnedFieldLine.{OwnedFieldLine}
use Rattle.qpack_connection.specs.ConnectionEvents.{BeginsWith, cancel_skip}
use Rattle.qpack_connection.specs.Connections.{SentSection, Connection, Call, Encode, SetCapacity, Shrink, Hear, Receive}
use Rattle.qpack_connection.specs.Connections.{Decode, Cancel, Step, next_of, with_decoder}
use Rattle.qpack_connection.specs.Headline.{SoFar, least_of, others, after, Answers, AnswersCapacity, AnswersDelivery}
use Rattle.qpack_connection.specs.Headline.{AnswersSection}
use Rattle.qpack_connection.specs.OwnedLines.{lines_of}
use Rattle.qpack_connection.specs.RefinedConnections.{received_of}
use Rattle.qpack_connection.specs.RefinedStreams.{IsOpen}
use Rattle.qpack_connection.specs.TwoEndsHeadline.{Fits}
use Rattle.qpack_connection.specs.TwoEndsHeadline as calls
use Rattle.qpack_connection.proofs.CountedWaits.{AreCounted, within_counted, others_counted, later_counted, told_counted}
use Rattle.qpack_connection.proofs.CountedWaits.{one_counted}
use Rattle.qpack_connection.proofs.EmptyTables.{live_heard, live_resized, none_held}
use Rattle.qpack_connection.proofs.FollowedRuns.{Follows, IsSent, follows_call, follows_kept, sent_call, sent_more}
use Rattle.qpack_connection.proofs.FollowedRuns.{all_arrive}
use Rattle.qpack_connection.proofs.HandedStreams.{AreStreams, handed_of, one_handed, one_decoded, now_cancelled}
use Rattle.qpack_connection.proofs.HandedStreams.{one_changed, is_number, decode_answers, cancel_answers}
use Rattle.qpack_connection.proofs.KeptEncoderCalls.{taken_same}
use Rattle.qpack_connection.proofs.TakenInstructions.{received_grows}
use Rattle.qpack_connection.proofs.TwoEndsHeadline.{step_kept, kept_within}
use Rattle.qpack_connection.proofs.HeadlineEnds.{IsDecoder, still_decoder, received_keeps, acknowledged_keeps_table}
use Rattle.qpack_connection.proofs.HeadlineEnds.{refused_keeps, memory_keeps, is_of_limit, KeepsTable, Kept, agreed_is}
use Rattle.qpack_connection.proofs.HeadlineEnds.{IsAboveOrWithin, above_or_within, encode_stops, cancel_stops}

module _ (settings : ConnectionSettings) (first : Connection) (begins : BeginsWith settings first) where
  abbrev maximum : ℕ
  maximum = begins.new.encoder_settings.max_capacity

  abbrev most : ℕ
  most = begins.new.decoder_settings.max_blocked

  -- what an event is to answer, and what is kept after it
  abbrev pub Right : SoFar → Event → Outcome → Connection → Type 0
  Right h e o c =
      Answers settings h e o × Kept settings first (after e o h) c

  -- what a call shows of the two ends
  record Done (call : Call) (old new : Connection) (step : Step call old new) : Type 0 where
    answers : calls.Answers call old new step
    alive : IsOpen old
    agreed : greatest_capacity old.encoder.table.agreed_max ≡ settings.decoder.max_capacity
    grows : insert_count old.decoder.table ≤ insert_count new.decoder.table
    blocked : blocked_streams new.decoder ≤ settings.decoder.max_blocked

  done : (h : SoFar) (call : Call) (old new : Connection) (step : Step call old new) → Fits call old new step
      → Kept settings first h old → Done call old new step
  done h call old new step fits kept =
      let k = follows_kept first old begins.new kept.follows in
      let b = step_kept maximum 4096 most call old new k.0 k.1 step fits in
      let w = after_end_steps k.0 (abstract_start 0 maximum 4096) in
      let x = after_end_steps (k.0 ++ b.1) (abstract_start 0 maximum 4096) in
      record {
        answers = b.0;
        alive = k.1.alive;
        agreed = agreed_is maximum 4096 old k.0 begins.new.encoder.capacity_in_range k.1.refines
            ∙ ap (λ (s : EncoderSettings). s.max_capacity) begins.encoder_is;
        grows = omega (
          arith,
          received_grows maximum 4096 k.0 b.1,
          ap insert_count k.1.refines.decoder_is,
          count_put w.decoder,
          ap insert_count b.2.refines.decoder_is,
          count_put x.decoder,
        );
        blocked = omega (
          arith,
          (kept_within maximum 4096 most new (k.0 ++ b.1) b.2).waiting,
          ap (λ (s : DecoderSettings). s.max_blocked) begins.decoder_is,
        );
      }

  -- what is kept after a call
  stepped : (h : SoFar) (call : Call) (old new : Connection) (step : Step call old new) → Follows first old
      → Fits call old new step → blocked_streams new.decoder ≤ settings.decoder.max_blocked
      → IsSent first h.required new → IsDecoder settings h.received h.below h.waiting new.decoder
      → AreStreams h.streams new.streams → (h.has_encoded ≡ false → new.encoder.table.live ≡ [])
      → Kept settings first h new
  stepped h call old new step follows fits blocked sent decoder streams empty =
      record {
        follows = follows_call first old new call follows step fits;
        sent = sent;
        decoder = decoder;
        streams = streams;
        empty = empty;
        few = omega (
          arith,
          within_counted (insert_count new.decoder.table) h.below h.waiting new.decoder.blocked decoder.fewer
              decoder.counted,
          blocked,
        );
      }

  -- a call of the encoding end that leaves the streams
  encoder_stepped : (h : SoFar) (has_encoded : Bool) (call : Call) (old new : Connection) (step : Step call old new)
      → Fits call old new step → Kept settings first h old → new.decoder ≡ old.decoder → new.streams ≡ old.streams
      → (has_encoded ≡ false → new.encoder.table.live ≡ [])
      → Kept settings first (record h { has_encoded = has_encoded }) new
  encoder_stepped h has_encoded call old new step fits k decoder streams empty =
      stepped (record h { has_encoded = has_encoded }) call old new step k.follows fits
      (done h call old new step fits k).blocked (sent_call first old new h.required call k.sent step fits)
      (subst (IsDecoder settings h.received h.below h.waiting) (sym decoder) k.decoder)
      (subst (AreStreams h.streams) (sym streams) k.streams) empty

  -- a call that leaves the encoding end
  still_empty : (h : SoFar) (old new : Connection) → Kept settings first h old → new.encoder ≡ old.encoder
      → h.has_encoded ≡ false → new.encoder.table.live ≡ []
  still_empty h old new k same none = ap (λ (e : EncodingEnd). e.table.live) same ∙ k.empty none

  pub encoded : (h : SoFar) (old new : Connection) (s : ℕ) (fields : Vec OwnedFieldLine)
      (r : Result ℕ EncodingError) (step : Step (Encode s (lines_of fields.items) r) old new)
      → Fits (Encode s (lines_of fields.items) r) old new step → Kept settings first h old
      → Right h (event.Encode s fields) (outcome.Encoded r) new
  encoded h old new s fields (Ok required) step fits k =
      let call = Encode s (lines_of fields.items) (Ok required) in
      let d = done h call old new step fits k in
      let next : SoFar = after (event.Encode s fields) (outcome.Encoded (Ok required)) h in
      let sent : SentSection =
      record { fields = lines_of fields.items; bytes = step.section; required = required } in (
        step.call.0.1,
        stepped next call old new step k.follows fits d.blocked
            (sent_more first old new s (lines_of fields.items) h.required required k.sent k.follows step fits)
            (subst (IsDecoder settings h.received h.below h.waiting)
            (sym (ap (λ (c : Connection). c.decoder) step.new_is)) k.decoder)
            (subst (AreStreams next.streams) (sym (ap (λ (c : Connection). c.streams) step.new_is))
            (one_changed h.streams old.streams s
            (record (h.streams s) { sections = (h.streams s).sections ++ handed_of sent ∷ [] })
            (record (stream_at old.streams s) { blocks = (stream_at old.streams s).blocks ++ sent ∷ [] })
            (one_handed s (h.streams s) (stream_at old.streams s) sent step.call.0.1 (k.streams s)) k.streams))
            (λ none. absurd (let x = none in cc)),
      )
  encoded h old new s fields (Err e) step fits k =
      let call = Encode s (lines_of fields.items) (Err e) in
      let d = done h call old new step fits k in (
        encode_stops s e (why d.alive step.call.1),
        encoder_stepped h true call old new step fits k (ap (λ (c : Connection). c.decoder) step.new_is)
            (ap (λ (c : Connection). c.streams) step.new_is) (λ none. absurd (let x = none in cc)),
      )
    where
      why : IsOpen old
          → (encoders.Checks old.encoder s (Err e) × (step.encoder ≡ old.encoder))
          ⊎ (encoders.Checks old.encoder s (Ok tt)
          × (e ≡ encoding.Memory)
          × encoders.StopsForMemory old.encoder step.encoder s (lines_of fields.items))
          → ((e ≡ encoding.Memory) × (s < 2 ^ 62)) ⊎ ((e ≡ encoding.NoStream s) × (2 ^ 62 ≤ s))
      why alive (inl (inl ended, same)) = absurd (let x = sym alive.encoder ∙ ended in cc)
      why alive (inl (inr number, same)) = inr (number.2, number.1)
      why alive (inr (checks, memory, stops)) = inl (memory, checks.1)

  -- a capacity
  never_held : (bound n : ℕ) (x : EncodingError) → (x ≡ encoding.EntriesHeld → ⊥)
      → AnswersCapacity true bound n (Err x) → AnswersCapacity false bound n (Err x)
  never_held bound n encoding.EntriesHeld goes right = absurd (goes refl)
  never_held bound n encoding.Memory goes right = right
  never_held bound n encoding.CapacityTooLarge goes right = right
  never_held bound n (encoding.NoStream q) goes right = absurd right
  never_held bound n encoding.MaximumChanged goes right = absurd right
  never_held bound n encoding.LimitLowered goes right = absurd right
  never_held bound n encoding.MaximumTooLarge goes right = absurd right
  never_held bound n (encoding.DecoderStream y) goes right = absurd right

  has_entries : (t : Table) (n : ℕ) (b : Bool) → (b ≡ false → t.live ≡ []) → with_capacity t n ≡ Err DoesNotFit
      → b ≡ true
  has_entries t n true empty held = refl
  has_entries t n false empty held = absurd (none_held t n (empty refl) held)

  capacity_right : (b : Bool) (old : Connection) (e : EncodingEnd) (n : ℕ) (r : Result ⊤ EncodingError)
      → (b ≡ false → old.encoder.table.live ≡ [])
      → greatest_capacity old.encoder.table.agreed_max ≡ settings.decoder.max_capacity → IsOpen old
      → SetsCapacity old.encoder e n r → AnswersCapacity b settings.decoder.max_capacity n r
  capacity_right b old e n (Ok it) empty agreed alive (is, inl none) = omega (arith, none.0.1)
  capacity_right b old e n (Ok it) empty agreed alive (is, inr tells) = elim (above_or_within old.encoder.table n) [
    | inl within ↦ omega (arith, within.0, agreed)
    | inr above ↦ absurd (let x = sym tells.1.0 ∙ above.1 in cc)
  ]
  capacity_right b old e n (Err x) empty agreed alive (inl ended) = absurd (let y = sym alive.encoder ∙ ended.0 in cc)
  capacity_right b old e n (Err x) empty agreed alive (inr stops) =
      by x (above_or_within old.encoder.table n) stops.2.0
    where
      by : (x : EncodingError) → IsAboveOrWithin old.encoder.table n
          → StopsTelling old.encoder.table n x → AnswersCapacity b settings.decoder.max_capacity n (Err x)
      by encoding.CapacityTooLarge (inl within) stops = absurd (within.1 stops)
      by encoding.CapacityTooLarge (inr above) stops = omega (arith, above.0, agreed)
      by encoding.EntriesHeld (inl within) stops =
          (omega (arith, within.0, agreed), has_entries old.encoder.table n b empty stops)
      by encoding.EntriesHeld (inr above) stops = absurd (let y = sym above.1 ∙ stops in cc)
      by encoding.Memory (inl within) stops = omega (arith, within.0, agreed)
      by encoding.Memory (inr above) stops = absurd (let y = subst IsOk above.1 stops in cc)
      by (encoding.NoStream q) within stops = absurd stops
      by encoding.MaximumChanged within stops = absurd stops
      by encoding.LimitLowered within stops = absurd stops
      by encoding.MaximumTooLarge within stops = absurd stops
      by (encoding.DecoderStream y) within stops = absurd stops

  capacity_empty : (old new : EncodingEnd) (n : ℕ) (r : Result ⊤ EncodingError) → SetsCapacity old new n r
      → old.table.live ≡ [] → new.table.live ≡ []
  capacity_empty old new n (Ok it) (alive, inl none) empty =
      ap (λ (e : EncodingEnd). e.table.live) none.1 ∙ empty
  capacity_empty old new n (Ok it) (alive, inr tells) empty = live_resized old.table new.table n empty tells.1.0
  capacity_empty old new n (Err x) (inl ended) empty = ap (λ (e : EncodingEnd). e.table.live) ended.1 ∙ empty
  capacity_empty old new n (Err x) (inr stops) empty = ap (λ (e : EncodingEnd). e.table.live) stops.2.1 ∙ empty

  pub capacity_set : (h : SoFar) (old new : Connection) (n : ℕ) (r : Result ⊤ EncodingError)
      (step : Step (SetCapacity n r) old new) → Fits (SetCapacity n r) old new step → Kept settings first h old
      → Right h (event.SetCapacity n) (outcome.CapacitySet r) new
  capacity_set h old new n r step fits k =
      let d = done h (SetCapacity n r) old new step fits k in (
        capacity_right h.has_encoded old step.encoder n r k.empty d.agreed d.alive step.call,
        encoder_stepped h h.has_encoded (SetCapacity n r) old new step fits k
            (ap (λ (c : Connection). c.decoder) step.new_is) (ap (λ (c : Connection). c.streams) step.new_is)
            (λ none. ap (λ (c : Connection). c.encoder.table.live) step.new_is
            ∙ capacity_empty old.encoder step.encoder n r step.call (k.empty none)),
      )

  -- one that may wait
  shrink_right : (old : Connection) (e : EncodingEnd) (n : ℕ) (r : Result ⊤ EncodingError)
      → greatest_capacity old.encoder.table.agreed_max ≡ settings.decoder.max_capacity → IsOpen old
      → Shrinks old.encoder e n r → AnswersCapacity false settings.decoder.max_capacity n r
  shrink_right old e n (Ok it) agreed alive (is, inl none) = by_set none
    where
      by_set : SetsIt old.encoder e n → n ≤ settings.decoder.max_capacity
      by_set (inl none) = omega (arith, none.0.1)
      by_set (inr tells) = elim (above_or_within old.encoder.table n) [
        | inl within ↦ omega (arith, within.0, agreed)
        | inr above ↦ absurd (let x = sym tells.1.0 ∙ above.1 in cc)
      ]
  shrink_right old e n (Ok it) agreed alive (is, inr waits) =
      omega (arith, held_within old.encoder.table n waits.0, agreed)
  shrink_right old e n (Err x) agreed alive (goes, stops) =
      never_held settings.decoder.max_capacity n x goes (capacity_right true old e n (Err x) (λ q. absurd cc) agreed alive stops)

  shrink_empty : (old new : EncodingEnd) (n : ℕ) (r : Result ⊤ EncodingError) → Shrinks old new n r
      → old.table.live ≡ [] → new.table.live ≡ []
  shrink_empty old new n (Ok it) (alive, inl sets) empty = capacity_empty old new n (Ok it) (alive, sets) empty
  shrink_empty old new n (Ok it) (alive, inr waits) empty = ap (λ (e : EncodingEnd). e.table.live) waits.1 ∙ empty
  shrink_empty old new n (Err x) (goes, stops) empty = capacity_empty old new n (Err x) stops empty

  pub shrunk : (h : SoFar) (old new : Connection) (n : ℕ) (r : Result ⊤ EncodingError)
      (step : Step (Shrink n r) old new) → Fits (Shrink n r) old new step → Kept settings first h old
      → Right h (event.Shrink n) (outcome.CapacitySet r) new
  shrunk h old new n r step fits k =
      let d = done h (Shrink n r) old new step fits k in (
        shrink_right old step.encoder n r d.agreed d.alive step.call,
        encoder_stepped h h.has_encoded (Shrink n r) old new step fits k
            (ap (λ (c : Connection). c.decoder) step.new_is) (ap (λ (c : Connection). c.streams) step.new_is)
            (λ none. ap (λ (c : Connection). c.encoder.table.live) step.new_is
            ∙ shrink_empty old.encoder step.encoder n r step.call (k.empty none)),
      )

  heard_live : (h : SoFar) (old new : Connection) (many : ℕ) (r : Result ⊤ EncodingError)
      (step : Step (Hear many r) old new) → Kept settings first h old → r ≡ Ok tt
      → step.hears.encoder.table.live ≡ old.encoder.table.live
  heard_live h old new many r step k ok =
      let at = (follows_kept first old begins.new k.follows).1 in
      let stream = (with_decoder step.decoder old).decoder_stream in
      let hears = subst (λ (a : Result ⊤ EncodingError). encoders.ReceivesBytes at.refines.heard
      (received_of old.decoder_stream) old.encoder step.hears.encoder (next_of many stream) a) ok
      (step.hears.receives at.alive.encoder at.refines.heard (received_of old.decoder_stream) at.refines.hears) in
      live_heard old.encoder.table step.hears.encoder.table hears.0.more hears.0.applies

  pub heard : (h : SoFar) (old new : Connection) (many : ℕ) (r : Result ⊤ EncodingError)
      (step : Step (Hear many r) old new) → Fits (Hear many r) old new step → Kept settings first h old
      → Right h (event.ToEncoder many) (outcome.Heard r) new
  heard h old new many r step fits k =
      let d = done h (Hear many r) old new step fits k in
      let is = step.hears.new_is in
      let same = taken_same old.decoder step.decoder step.takes in (
        d.answers,
        stepped h (Hear many r) old new step k.follows fits d.blocked
            (sent_call first old new h.required (Hear many r) k.sent step fits)
            (still_decoder settings h.received h.below h.waiting old.decoder new.decoder old.decoder.blocked
            k.decoder.settings_are k.decoder.least k.decoder.fewer
            (record {
              settings = ap (λ (c : Connection). c.decoder.settings) is ∙ same.0;
              table = ap (λ (c : Connection). c.decoder.table) is ∙ same.2;
              blocked_are = ap (λ (c : Connection). c.decoder.blocked) is ∙ same.1;
            }) k.decoder.counted)
            (subst (AreStreams h.streams) (sym (ap (λ (c : Connection). c.streams) is)) k.streams)
            (λ none. ap (λ (c : Connection). c.encoder.table.live) is
            ∙ heard_live h old new many r step k d.answers ∙ k.empty none),
      )

  -- a delivery to the decoding end
  delivered_keeps : (h : SoFar) (old new : Connection) (many : ℕ) (r : Result ℕ DecodingError)
      → Step (Receive many r) old new → Kept settings first h old
      → (new.decoder.settings ≡ old.decoder.settings) × (new.decoder.blocked ≡ old.decoder.blocked)
  delivered_keeps h old new many r step k =
      let at = follows_kept first old begins.new k.follows in
      received_keeps maximum 4096 most old new many r at.0 at.1 step

  pub delivered : (h : SoFar) (old new : Connection) (many : ℕ) (r : Result ℕ DecodingError)
      (step : Step (Receive many r) old new) → Fits (Receive many r) old new step → Kept settings first h old
      → Right h (event.ToDecoder many) (outcome.Delivered r) new
  delivered h old new many (Ok total) step fits k =
      let d = done h (Receive many (Ok total)) old new step fits k in
      let keeps = delivered_keeps h old new many (Ok total) step k in
      let told : total ≡ insert_count new.decoder.table = d.answers.0 in
      let next : SoFar = after (event.ToDecoder many) (outcome.Delivered (Ok total)) h in (
        (
          omega (arith, k.decoder.least, d.grows, told),
          λ all. omega (
            arith,
            all_arrive first old new begins.new many total h.required k.follows k.sent step all,
            told,
          ),
        ),
        stepped next (Receive many (Ok total)) old new step k.follows fits d.blocked
            (sent_call first old new h.required (Receive many (Ok total)) k.sent step fits)
            (record {
              settings_are = keeps.0 ∙ k.decoder.settings_are;
              least = omega (arith, told);
              fewer = omega (arith, told);
              counted = subst (λ (bs : List BlockedStream). AreCounted (insert_count new.decoder.table) next.waiting bs)
                  (sym keeps.1)
                  (subst (λ (n : ℕ). AreCounted n next.waiting old.decoder.blocked) told
                  (told_counted (insert_count old.decoder.table) total h.waiting old.decoder.blocked
                  (omega (arith, d.grows, told)) k.decoder.counted));
            })
            (subst (AreStreams h.streams) (sym (ap (λ (c : Connection). c.streams) step.new_is)) k.streams)
            (still_empty h old new k (ap (λ (c : Connection). c.encoder) step.new_is)),
      )
  delivered h old new many (Err e) step fits k =
      let d = done h (Receive many (Err e)) old new step fits k in
      let keeps = delivered_keeps h old new many (Err e) step k in
      let next : SoFar = after (event.ToDecoder many) (outcome.Delivered (Err e)) h in (
        subst (λ (x : DecodingError). AnswersDelivery h many (Err x)) (sym d.answers.0) tt,
        stepped next (Receive many (Err e)) old new step k.follows fits d.blocked
            (sent_call first old new h.required (Receive many (Err e)) k.sent step fits)
            (record {
              settings_are = keeps.0 ∙ k.decoder.settings_are;
              least = omega (arith, k.decoder.least, d.grows);
              fewer = tt;
              counted = subst (AreCounted (insert_count new.decoder.table) h.waiting) (sym keeps.1)
                  (later_counted (insert_count old.decoder.table) (insert_count new.decoder.table) h.waiting
                  old.decoder.blocked d.grows k.decoder.counted);
            })
            (subst (AreStreams h.streams) (sym (ap (λ (c : Connection). c.streams) step.new_is)) k.streams)
            (still_empty h old new k (ap (λ (c : Connection). c.encoder) step.new_is)),
      )

  -- a decode
  abbrev limit : ℕ
  limit = settings.decoder.max_section_size

  decode_right : (h : SoFar) (old new : Connection) (s : ℕ) (shown : SectionView) (r : Result Reading DecodingError)
      (step : Step (Decode s shown.fields r) old new) → Kept settings first h old
      → AnswersSection limit h s (handed_of step.section) r shown.fields
      → Answers settings h (event.Decode s) (outcome.Decoded r shown)
  decode_right h old new s shown r step k a =
      decode_answers limit h s (h.streams s) (stream_at old.streams s) step.section r shown step.live step.is_next
      (k.streams s) a

  -- a section that is decoded requires fewer insertions than are known not to be received
  may_be_decoded : (below : Option ℕ) (n required : ℕ) → required ≤ n → IfSome below (λ m. n < m)
      → IfSome below (λ m. required < m)
  may_be_decoded None n required within fewer = tt
  may_be_decoded (Some m) n required within fewer = omega (arith, within, fewer)

  -- as many are known not to be received as a section that waits requires, and as were known before
  fewer_than_least : (below : Option ℕ) (n required : ℕ) → n < required → IfSome below (λ m. n < m)
      → n < least_of required below
  fewer_than_least None n required more fewer = more
  fewer_than_least (Some m) n required more fewer = omega (arith, more, fewer)

  -- one that leaves the streams
  decode_stepped : (h : SoFar) (below : Option ℕ) (waiting : List BlockedStream) (old new : Connection) (s : ℕ)
      (fields : List FieldLine) (r : Result Reading DecodingError) (step : Step (Decode s fields r) old new)
      (blocked : List BlockedStream) → IfSome below (λ n. insert_count old.decoder.table < n) → Fits (Decode s fields r) old new step → Kept settings first h old
      → new.decoder ≡ record step.decoder { unsent = [] } → new.streams ≡ old.streams → new.encoder ≡ old.encoder
      → KeepsTable old.decoder step.decoder blocked
      → AreCounted (insert_count old.decoder.table) waiting blocked
      → Kept settings first (record h { below = below; waiting = waiting }) new
  decode_stepped h below waiting old new s fields r step blocked fewer fits k is streams encoder keeps counted =
      stepped (record h { below = below; waiting = waiting }) (Decode s fields r) old new step k.follows fits
      (done h (Decode s fields r) old new step fits k).blocked
      (sent_call first old new h.required (Decode s fields r) k.sent step fits)
      (still_decoder settings h.received below waiting old.decoder new.decoder blocked k.decoder.settings_are
      k.decoder.least fewer
      (record {
        settings = ap (λ (d : DecodingEnd). d.settings) is ∙ keeps.settings;
        table = ap (λ (d : DecodingEnd). d.table) is ∙ keeps.table;
        blocked_are = ap (λ (d : DecodingEnd). d.blocked) is ∙ keeps.blocked_are;
      }) counted)
      (subst (AreStreams h.streams) (sym streams) k.streams) (still_empty h old new k encoder)

  within_limit : (h : SoFar) (old new : Connection) (s : ℕ) (fields : List FieldLine) (required : ℕ)
      (step : Step (Decode s fields (Ok (reading.Fields required))) old new) → Kept settings first h old
      → fields ≡ step.section.fields → saturated_size (total_size (fields_of_lines step.section.fields)) ≤ limit
  within_limit h old new s fields required step k same =
      subst (λ (m : ℕ). saturated_size (total_size (fields_of_lines step.section.fields)) ≤ m)
      (ap (λ (x : DecoderSettings). x.max_section_size) k.decoder.settings_are)
      (subst (λ (fs : List FieldLine). saturated_size (total_size (fields_of_lines fs))
      ≤ old.decoder.settings.max_section_size) same
      (strict_are_within (window old.decoder.table) old.decoder.settings.max_section_size step.section.bytes fields
      required step.call.1.0))

  pub decoded : (h : SoFar) (old new : Connection) (s : ℕ) (shown : SectionView) (r : Result Reading DecodingError)
      (step : Step (Decode s shown.fields r) old new) → Fits (Decode s shown.fields r) old new step → Kept settings first h old
      → Right h (event.Decode s) (outcome.Decoded r shown) new
  decoded h old new s shown (Ok (reading.Fields required)) step fits k =
      let call = Decode s shown.fields (Ok (reading.Fields required)) in
      let d = done h call old new step fits k in
      let a = d.answers.0 in
      let next : SoFar = after (event.Decode s) (outcome.Decoded (Ok (reading.Fields required)) shown) h in
      let keeps = acknowledged_keeps_table old.decoder step.decoder s required step.call.1.1 in (
        decode_right h old new s shown (Ok (reading.Fields required)) step k (
          a.0,
          a.1,
          may_be_decoded h.below (insert_count old.decoder.table) step.section.required a.2 k.decoder.fewer,
          within_limit h old new s shown.fields required step k a.0,
        ),
        stepped next call old new step k.follows fits d.blocked
            (sent_call first old new h.required call k.sent step fits)
            (still_decoder settings next.received h.below next.waiting old.decoder new.decoder
            (without s old.decoder.blocked) k.decoder.settings_are (omega (arith, k.decoder.least, a.1, a.2))
            k.decoder.fewer
            (record {
              settings = ap (λ (c : Connection). c.decoder.settings) step.new_is ∙ keeps.settings;
              table = ap (λ (c : Connection). c.decoder.table) step.new_is ∙ keeps.table;
              blocked_are = ap (λ (c : Connection). c.decoder.blocked) step.new_is ∙ keeps.blocked_are;
            })
            (others_counted (insert_count old.decoder.table) s h.waiting old.decoder.blocked k.decoder.counted))
            (subst (AreStreams next.streams) (sym (ap (λ (c : Connection). c.streams) step.new_is))
            (one_changed h.streams old.streams s (record (h.streams s) { sections = drop 1 (h.streams s).sections })
            (record (stream_at old.streams s) {
              decoded = (stream_at old.streams s).decoded + 1;
              acknowledged = (stream_at old.streams s).acknowledged + (cond (nat_lt 0 required) 1 0);
            })
            (one_decoded s ((stream_at old.streams s).acknowledged + (cond (nat_lt 0 required) 1 0)) (h.streams s)
            (stream_at old.streams s) step.section step.is_next (k.streams s)) k.streams))
            (still_empty h old new k (ap (λ (c : Connection). c.encoder) step.new_is)),
      )
  decoded h old new s shown (Ok (reading.Blocked required)) step fits k =
      let r : Result Reading DecodingError = Ok (reading.Blocked required) in
      let a = (done h (Decode s shown.fields r) old new step fits k).answers.0 in
      let b : BlockedStream = record { stream = s; required = required } in
      let is = step.call.1.3 in (
        decode_right h old new s shown r step k (a.0, a.1, omega (arith, a.2, k.decoder.least)),
        decode_stepped h (Some (least_of required h.below)) (b ∷ others s h.waiting) old new s shown.fields r step
            (with_blocked b old.decoder.blocked)
            (fewer_than_least h.below (insert_count old.decoder.table) required (omega (arith, a.1, a.2))
            k.decoder.fewer) fits k
            (ap (λ (c : Connection). c.decoder) step.new_is) (ap (λ (c : Connection). c.streams) step.new_is)
            (ap (λ (c : Connection). c.encoder) step.new_is)
            (record {
              settings = ap (λ (d : DecodingEnd). d.settings) is;
              table = ap (λ (d : DecodingEnd). d.table) is;
              blocked_are = ap (λ (d : DecodingEnd). d.blocked) is;
            })
            (one_counted (insert_count old.decoder.table) s required h.waiting old.decoder.blocked k.decoder.counted),
      )
  decoded h old new s shown (Err (decoding.Section q e)) step fits k =
      let r : Result Reading DecodingError = Err (decoding.Section q e) in
      let d = done h (Decode s shown.fields r) old new step fits k in
      let a = d.answers.0 in
      let keeps = refused_keeps old.decoder step.decoder s q _ e d.alive.decoder step.call.1 in (
        decode_right h old new s shown r step k (
          a.0,
          a.1,
          is_of_limit e _ a.2 keeps.1,
          omega (arith, a.3, ap (λ (x : DecoderSettings). x.max_section_size) k.decoder.settings_are),
        ),
        decode_stepped h h.below (others s h.waiting) old new s shown.fields r step (without s old.decoder.blocked)
            k.decoder.fewer fits k
            (ap (λ (c : Connection). c.decoder) step.new_is) (ap (λ (c : Connection). c.streams) step.new_is)
            (ap (λ (c : Connection). c.encoder) step.new_is) keeps.0
            (others_counted (insert_count old.decoder.table) s h.waiting old.decoder.blocked k.decoder.counted),
      )
  decoded h old new s shown (Err decoding.Memory) step fits k =
      let r : Result Reading DecodingError = Err decoding.Memory in
      let d = done h (Decode s shown.fields r) old new step fits k in (
        decode_right h old new s shown r step k d.answers.0,
        decode_stepped h h.below h.waiting old new s shown.fields r step old.decoder.blocked k.decoder.fewer fits k
            (ap (λ (c : Connection). c.decoder) step.new_is) (ap (λ (c : Connection). c.streams) step.new_is)
            (ap (λ (c : Connection). c.encoder) step.new_is)
            (memory_keeps old.decoder step.decoder s _ d.alive.decoder step.call.1) k.decoder.counted,
      )
  decoded h old new s shown (Err (decoding.NoStream q)) step fits k =
      let a = (done h (Decode s shown.fields (Err (decoding.NoStream q))) old new step fits k).answers.0 in
      absurd (omega (
        arith,
        a.2,
        is_number s (h.streams s) (stream_at old.streams s) step.section step.is_next (k.streams s),
      ))
  decoded h old new s shown (Err (decoding.TooManyBlocked q)) step fits k =
      absurd (done h (Decode s shown.fields (Err (decoding.TooManyBlocked q))) old new step fits k).answers.0
  decoded h old new s shown (Err (decoding.EncoderStream place e)) step fits k =
      absurd (done h (Decode s shown.fields (Err (decoding.EncoderStream place e))) old new step fits k).answers.0

  -- a cancellation
  pub cancelled : (h : SoFar) (old new : Connection) (s : ℕ) (r : Result ⊤ DecodingError)
      (step : Step (Cancel s r) old new) → Fits (Cancel s r) old new step → Kept settings first h old
      → cancel_skip (stream_at old.streams s) ≡ None → Right h (event.Cancel s) (outcome.Cancelled r) new
  cancelled h old new s (Ok it) step fits k live =
      let d = done h (Cancel s (Ok it)) old new step fits k in
      let next : SoFar = after (event.Cancel s) (outcome.Cancelled (Ok it)) h in
      let is = step.call.1 in (
        cancel_answers settings.decoder.max_capacity s (h.streams s) (stream_at old.streams s)
            (outcome.Cancelled (Ok it)) live (k.streams s) step.call.0.1,
        stepped next (Cancel s (Ok it)) old new step k.follows fits d.blocked
            (sent_call first old new h.required (Cancel s (Ok it)) k.sent step fits)
            (still_decoder settings h.received h.below next.waiting old.decoder new.decoder
            (without s old.decoder.blocked) k.decoder.settings_are k.decoder.least k.decoder.fewer
            (record {
              settings = ap (λ (c : Connection). c.decoder.settings) step.new_is
                  ∙ ap (λ (d : DecodingEnd). d.settings) is;
              table = ap (λ (c : Connection). c.decoder.table) step.new_is ∙ ap (λ (d : DecodingEnd). d.table) is;
              blocked_are = ap (λ (c : Connection). c.decoder.blocked) step.new_is
                  ∙ ap (λ (d : DecodingEnd). d.blocked) is;
            })
            (others_counted (insert_count old.decoder.table) s h.waiting old.decoder.blocked k.decoder.counted))
            (subst (AreStreams next.streams) (sym (ap (λ (c : Connection). c.streams) step.new_is))
            (one_changed h.streams old.streams s (record (h.streams s) { cancelled = true })
            (record (stream_at old.streams s) { cancelled = true })
            (now_cancelled s (h.streams s) (stream_at old.streams s) (k.streams s)) k.streams))
            (still_empty h old new k (ap (λ (c : Connection). c.encoder) step.new_is)),
      )
  cancelled h old new s (Err e) step fits k live =
      let d = done h (Cancel s (Err e)) old new step fits k in
      let is = why d.alive step.call in (
        cancel_answers settings.decoder.max_capacity s (h.streams s) (stream_at old.streams s)
            (outcome.Cancelled (Err e)) live (k.streams s) (cancel_stops settings.decoder.max_capacity s e is.0),
        stepped h (Cancel s (Err e)) old new step k.follows fits d.blocked
            (sent_call first old new h.required (Cancel s (Err e)) k.sent step fits)
            (still_decoder settings h.received h.below h.waiting old.decoder new.decoder old.decoder.blocked
            k.decoder.settings_are k.decoder.least k.decoder.fewer
            (record {
              settings = ap (λ (c : Connection). c.decoder.settings) step.new_is
                  ∙ ap (λ (d : DecodingEnd). d.settings) is.1;
              table = ap (λ (c : Connection). c.decoder.table) step.new_is ∙ ap (λ (d : DecodingEnd). d.table) is.1;
              blocked_are = ap (λ (c : Connection). c.decoder.blocked) step.new_is
                  ∙ ap (λ (d : DecodingEnd). d.blocked) is.1;
            }) k.decoder.counted)
            (subst (AreStreams h.streams) (sym (ap (λ (c : Connection). c.streams) step.new_is)) k.streams)
            (still_empty h old new k (ap (λ (c : Connection). c.encoder) step.new_is)),
      )
    where
      why : IsOpen old → decoders.Cancels old.decoder step.decoder s (Err e)
          → (((e ≡ decoding.Memory) × (s < 2 ^ 62) × (0 < settings.decoder.max_capacity))
          ⊎ ((e ≡ decoding.NoStream s) × (2 ^ 62 ≤ s)))
          × (step.decoder ≡ old.decoder)
      why alive (inl (inl ended, same)) = absurd (let x = sym alive.decoder ∙ ended in cc)
      why alive (inl (inr number, same)) = (inr (number.2, number.1), same)
      why alive (inr (checks, memory, some, same)) = (
        inl (
          memory,
          checks.1,
          omega (arith, some, ap (λ (x : DecoderSettings). x.max_capacity) k.decoder.settings_are),
        ),
        same,
      )
