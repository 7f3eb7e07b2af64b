-- What each event makes of a connection of which both ends keep all that they wrote.
use Rattle.std.proofs.Common.{◌≡◌, ◌<◌, ◌^◌, ◌+◌, ◌-◌, ℕ, Bool, true, false, cond, List, [], ◌++◌, length, take, drop}
use Rattle.std.proofs.Common.{Option, None, Some, Result, Ok, Err, IfSome, inl, inr, refl, sym, ap, subst, ◌∙◌, arith}
use Rattle.std.proofs.lemmas.List.{append-nil}
use Rattle.std.proofs.lemmas.Bool.{eqb-true}
use Rattle.std.specs.Prelude.{⊤, nat_eq}
use Rattle.std.specs.declared.vec.Vec.{Vec}
use Rattle.std.specs.Global.{Global}
use Rattle.qpack_spec.specs.Field.{FieldLine}
use Rattle.qpack_spec.specs.Instruction.{DecoderInstruction}
use Rattle.qpack_rules.specs.Session.{RequestStream, stream_at, with_stream, oldest_undecoded}
use Rattle.qpack_spec.specs.StrictReading.{StrictReading, Read, Blocked, Refused, strict_reading}
use Rattle.qpack_spec.specs.Table.{Table, insert_count, window}
use Rattle.qpack_codec.specs.RequestStreams.{KeepsStreams, ChangesStream}
use Rattle.qpack_connection.specs.declared.connection.Event.{Event}
use Rattle.qpack_connection.specs.declared.connection.Event.TheVariants as event
use Rattle.qpack_connection.specs.declared.connection.Outcome.{Outcome}
use Rattle.qpack_connection.specs.declared.connection.Outcome.TheVariants as outcome
use Rattle.qpack_connection.specs.declared.connection.Skip.{Skip}
use Rattle.qpack_connection.specs.declared.connection.Skip.TheVariants.{StreamCancelled}
use Rattle.qpack_connection.specs.declared.connection.fields.OwnedFieldLine.{OwnedFieldLine}
use Rattle.qpack_decoding.specs.FieldSections.{SectionView}
use Rattle.qpack_decoding.specs.declared.decoder.DecodingError.{DecodingError}
use Rattle.qpack_decoding.specs.declared.decoder.DecodingError.TheVariants as decoding
use Rattle.qpack_encoding.specs.declared.encoder.EncodingError.{EncodingError}
use Rattle.qpack_encoding.specs.declared.encoder.EncodingError.TheVariants as encoding
use Rattle.qpack_decoding.specs.declared.encoder_stream.EncoderStreamError.{EncoderStreamError}
use Rattle.qpack_decoding.specs.declared.section.Reading.{Reading}
use Rattle.qpack_decoding.specs.declared.section.Reading.TheVariants as reading
use Rattle.qpack_connection.specs.ConnectionEvents.{connection_of, Shows, IsReached, HasBytes, decoded_with}
use Rattle.qpack_connection.specs.ConnectionEvents.{SendsAmong, decode_skip, cancel_skip, Makes, Goes}
use Rattle.qpack_connection.specs.Connections.{Wire, SentSection, Connection, HearsOn, Encode, SetCapacity, Shrink}
use Rattle.qpack_connection.specs.Connections.{with_encoder, with_decoder, with_section, with_reading}
use Rattle.qpack_connection.specs.Connections.{with_cancelled, behind_received}
use Rattle.qpack_decoding.specs.Decoders.{DecodingEnd, DecoderView, end_of, IsTaken, Decodes, Cancels, EndsReceiving}
use Rattle.qpack_decoding.specs.Decoders.{AsksBehind, AsksToDecode, NeedsMemoryBehind, NeedsMemoryToDecode}
use Rattle.qpack_decoding.specs.FieldSections.{SectionView}
use Rattle.qpack_decoding.specs.Decoders as decoders
use Rattle.qpack_encoding.specs.Encoders.{EncodingEnd, SetsCapacity, Shrinks}
use Rattle.qpack_encoding.specs.Encoders as encoders
use Rattle.qpack_encoding.specs.Hearing as hearing
use Rattle.qpack_decoding.specs.Receiving as receiving
use Rattle.qpack_connection.specs.OwnedLines.{lines_of}
use Rattle.qpack_connection.proofs.FramedEncoderCalls as encoder
use Rattle.qpack_connection.proofs.FramedDecoderCalls as decoder
use Rattle.qpack_connection.proofs.ReachedConnections.{reached_holds, cond_same}

-- ---- streams

-- all of a stream that was written, and so much of it received
pub wire_is : (a b : List ℕ) (n : ℕ) → a ≡ b
    → (let v : Wire = record { written = a; received = n } in v) ≡ record { written = b; received = n }
wire_is a b n same = ap (λ (x : List ℕ). let w : Wire = record { written = x; received = n } in w) same

-- one stream is changed as a call changes it
put_shown : (ps qs : List (ℕ × RequestStream SentSection)) (s : ℕ) (st : RequestStream SentSection)
    → ChangesStream s st ps qs → KeepsStreams qs (with_stream ps s st)
put_shown ps qs s st changes n = sym (changes n)

-- ---- the view of the ends

pub goes_from : (old now new : Connection) (e : Event) (o : Outcome) → old ≡ now → Goes old new e o → Goes now new e o
goes_from old now new e o same goes = subst (λ (c : Connection). Goes c new e o) same goes

-- an end that is not called, and streams that stay
pub shown_still : (e e' : EncodingEnd) (d : DecodingEnd) (er dr : ℕ) (ps qs : List (ℕ × RequestStream SentSection))
    (now : Connection) → connection_of e d er dr ps ≡ now → e' ≡ e → KeepsStreams ps qs
    → Shows (connection_of e' d er dr qs) now
shown_still e e' d er dr ps qs now same still keeps =
    subst (λ (c : Connection). Shows (connection_of e' d er dr qs) c) same
    (subst (λ (x : EncodingEnd). Shows (connection_of x d er dr qs) (connection_of e d er dr ps)) (sym still)
    (record {
      encoder = refl;
      decoder = refl;
      encoder_stream = refl;
      decoder_stream = refl;
      streams = λ n. sym (keeps n);
    }))

-- ---- the encoding end

module _ (e e' : EncodingEnd) (d : DecodingEnd) (er dr : ℕ) (ps qs : List (ℕ × RequestStream SentSection)) where
  abbrev old : Connection
  old = connection_of e d er dr ps

  abbrev new : Connection
  new = connection_of e' d er dr qs

  encoder_shown : (a : (_ : EncodingEnd) → (_ : EncodingEnd) → Type 0) (k : encoder.Adds e e' a)
      (ks : List (ℕ × RequestStream SentSection)) → KeepsStreams qs ks
      → Shows new (let c : Connection = record (with_encoder (encoder.with_unsent k.more e') old) {
        streams = ks;
      } in c)
  encoder_shown a k ks keeps =
      record {
        encoder = refl;
        decoder = refl;
        encoder_stream = wire_is (e.unsent ++ k.more) e'.unsent er (sym k.written);
        decoder_stream = refl;
        streams = keeps;
      }

  encode_makes : (s : ℕ) (fields : List FieldLine) (answer : Result ℕ EncodingError)
      → SendsAmong s fields e e' ps qs answer → Makes (Encode s fields answer) old new
  encode_makes s fields (Ok required) k =
      let f = encoder.encode_framed e e' s fields k.sends.section (Ok required) k.sends.call in
      let next = with_section s fields k.sends.section (Ok required)
      (with_encoder (encoder.with_unsent f.more e') old) in
      record {
        next = next;
        step = record {
          encoder = encoder.with_unsent f.more e';
          section = k.sends.section;
          call = f.call;
          new_is = refl;
        };
        fits = (
          k.sends.are_bytes,
          subst (λ (x : List ℕ). length x < 2 ^ 63) f.written k.sends.written_short,
          k.sends.short,
        );
        shows = encoder_shown _ f next.streams
            (λ n. sym (k.changes n
            ∙ ap (λ (st : RequestStream SentSection). cond (nat_eq s n) st (stream_at ps n)) k.sends.kept));
      }
  encode_makes s fields (Err x) k =
      let f = encoder.encode_framed e e' s fields k.sends.section (Err x) k.sends.call in
      record {
        next = with_encoder (encoder.with_unsent f.more e') old;
        step = record {
          encoder = encoder.with_unsent f.more e';
          section = k.sends.section;
          call = f.call;
          new_is = refl;
        };
        fits = (
          k.sends.are_bytes,
          subst (λ (x : List ℕ). length x < 2 ^ 63) f.written k.sends.written_short,
        );
        shows = encoder_shown _ f ps (λ n. same (nat_eq s n) n refl (k.changes n) k.sends.kept);
      }
    where
      same : (b : Bool) (n : ℕ) → nat_eq s n ≡ b → stream_at qs n ≡ cond (nat_eq s n) k.stream (stream_at ps n)
          → k.stream ≡ stream_at ps s → stream_at ps n ≡ stream_at qs n
      same true n is changed kept =
          sym (subst (λ (t : Bool). stream_at qs n ≡ cond t k.stream (stream_at ps n)) is changed ∙ kept
          ∙ ap (λ (x : ℕ). stream_at ps x) (eqb-true s n is))
      same false n is changed kept =
          sym (subst (λ (t : Bool). stream_at qs n ≡ cond t k.stream (stream_at ps n)) is changed)

  capacity_makes : (n : ℕ) (answer : Result ⊤ EncodingError) → SetsCapacity e e' n answer → KeepsStreams qs ps
      → Makes (SetCapacity n answer) old new
  capacity_makes n answer call keeps =
      let f = encoder.capacity_framed e e' n answer call in
      record {
        next = with_encoder (encoder.with_unsent f.more e') old;
        step = record { encoder = encoder.with_unsent f.more e'; call = f.call; new_is = refl };
        fits = tt;
        shows = encoder_shown _ f ps keeps;
      }

  shrink_makes : (n : ℕ) (answer : Result ⊤ EncodingError) → Shrinks e e' n answer → KeepsStreams qs ps
      → Makes (Shrink n answer) old new
  shrink_makes n answer call keeps =
      let f = encoder.shrink_framed e e' n answer call in
      record {
        next = with_encoder (encoder.with_unsent f.more e') old;
        step = record { encoder = encoder.with_unsent f.more e'; call = f.call; new_is = refl };
        fits = tt;
        shows = encoder_shown _ f ps keeps;
      }

  pub encode_goes : (now : Connection) (s : ℕ) (fields : Vec OwnedFieldLine Global) (answer : Result ℕ EncodingError)
      → old ≡ now → SendsAmong s (lines_of fields.items) e e' ps qs answer
      → Goes now new (event.Encode s fields) (outcome.Encoded answer)
  encode_goes now s fields answer same k =
      goes_from old now new (event.Encode s fields) (outcome.Encoded answer) same
      (refl, encode_makes s (lines_of fields.items) answer k)

pub capacity_goes : (e e' : EncodingEnd) (d : DecodingEnd) (er dr : ℕ) (ps : List (ℕ × RequestStream SentSection))
    (now : Connection) (n : ℕ) (answer : Result ⊤ EncodingError) → connection_of e d er dr ps ≡ now
    → SetsCapacity e e' n answer
    → Goes now (connection_of e' d er dr ps) (event.SetCapacity n) (outcome.CapacitySet answer)
capacity_goes e e' d er dr ps now n answer same call =
    goes_from (connection_of e d er dr ps) now (connection_of e' d er dr ps) (event.SetCapacity n)
    (outcome.CapacitySet answer) same (refl, capacity_makes e e' d er dr ps ps n answer call (λ q. refl))

pub shrink_goes : (e e' : EncodingEnd) (d : DecodingEnd) (er dr : ℕ) (ps : List (ℕ × RequestStream SentSection))
    (now : Connection) (n : ℕ) (answer : Result ⊤ EncodingError) → connection_of e d er dr ps ≡ now
    → Shrinks e e' n answer
    → Goes now (connection_of e' d er dr ps) (event.Shrink n) (outcome.CapacitySet answer)
shrink_goes e e' d er dr ps now n answer same call =
    goes_from (connection_of e d er dr ps) now (connection_of e' d er dr ps) (event.Shrink n)
    (outcome.CapacitySet answer) same (refl, shrink_makes e e' d er dr ps ps n answer call (λ q. refl))

-- ---- what an encoding end hears

module _ (e e' : EncodingEnd) (d d' : DecodingEnd) (er dr : ℕ) (ps : List (ℕ × RequestStream SentSection))
    (many : ℕ) (left : List ℕ) (answer : Result ⊤ EncodingError) where
  abbrev HearsSo : EncodingEnd → EncodingEnd → Type 0
  HearsSo x y = (heard : List DecoderInstruction) (before : List ℕ) → hearing.Receives heard before x.stream
      → encoders.ReceivesBytes heard before x y (take many (drop dr d'.unsent)) answer

  hearing_still : (a : Result ⊤ EncodingError) (heard : List DecoderInstruction) (before bytes : List ℕ)
      → encoders.ReceivesBytes heard before e e' bytes a → e'.unsent ≡ e.unsent
  hearing_still (Ok it) heard before bytes r = ap (λ (y : EncodingEnd). y.unsent) r.1
  hearing_still (Err (encoding.DecoderStream x)) heard before bytes r = ap (λ (y : EncodingEnd). y.unsent) r.1
  hearing_still (Err encoding.CapacityTooLarge) heard before bytes r = absurd r
  hearing_still (Err encoding.EntriesHeld) heard before bytes r = absurd r
  hearing_still (Err (encoding.NoStream s)) heard before bytes r = absurd r
  hearing_still (Err encoding.MaximumChanged) heard before bytes r = absurd r
  hearing_still (Err encoding.LimitLowered) heard before bytes r = absurd r
  hearing_still (Err encoding.MaximumTooLarge) heard before bytes r = absurd r
  hearing_still (Err encoding.Memory) heard before bytes r = absurd r

  hearing_framed : (a : Result ⊤ EncodingError) (heard : List DecoderInstruction) (before bytes : List ℕ)
      → encoders.ReceivesBytes heard before e e' bytes a
      → encoders.ReceivesBytes heard before (encoder.with_unsent [] e) (encoder.with_unsent [] e') bytes a
  hearing_framed (Ok it) heard before bytes r = (r.0, ap (encoder.with_unsent []) r.1)
  hearing_framed (Err (encoding.DecoderStream x)) heard before bytes r = (r.0, ap (encoder.with_unsent []) r.1)
  hearing_framed (Err encoding.CapacityTooLarge) heard before bytes r = absurd r
  hearing_framed (Err encoding.EntriesHeld) heard before bytes r = absurd r
  hearing_framed (Err (encoding.NoStream s)) heard before bytes r = absurd r
  hearing_framed (Err encoding.MaximumChanged) heard before bytes r = absurd r
  hearing_framed (Err encoding.LimitLowered) heard before bytes r = absurd r
  hearing_framed (Err encoding.MaximumTooLarge) heard before bytes r = absurd r
  hearing_framed (Err encoding.Memory) heard before bytes r = absurd r

  hear_makes : (position : ℕ) → IsReached (connection_of e d er dr ps) → IsTaken d d'
      → (e.failure ≡ None → HearsSo e e') → (e.failure ≡ None → left ≡ [])
      → position + length left ≡ length (take many (drop dr d'.unsent))
      → Goes (connection_of e d er dr ps) (connection_of e' d' er (dr + position) ps) (event.ToEncoder many)
      (outcome.Heard answer)
  hear_makes position at takes receives none_left counts =
      let k = (reached_holds (connection_of e d er dr ps) at).kept in
      let alive = k.alive.encoder in
      let bytes = take many (drop dr d'.unsent) in
      let still = hearing_still answer k.refines.heard _ bytes
      (receives alive k.refines.heard _ k.refines.hears) in
      let moved : dr + (length bytes - length left) ≡ dr + position = omega (arith, counts) in
      let adds = decoder.taken_framed d d' takes in
      let taken = connection_of e d' er dr ps in
      let is : taken ≡ with_decoder (decoder.with_unsent adds.more d') (connection_of e d er dr ps) =
      ap (λ (b : List ℕ). let x : Connection = record taken {
        decoder_stream = record { written = b; received = dr };
      } in x) adds.written in
      let next : Connection = record (with_encoder (encoder.with_unsent [] e') taken) {
        decoder_stream = behind_received (length bytes - length left) (record { written = d'.unsent; received = dr });
      } in
      let hears : HearsOn taken next many answer = record {
        encoder = encoder.with_unsent [] e';
        left = left;
        receives = λ none heard before h. hearing_framed answer heard before bytes (receives none heard before h);
        nothing_left = none_left;
        ended = subst (λ (o : Option EncodingError). IfSome o (λ x. (answer ≡ Err x)
            × (encoder.with_unsent [] e' ≡ encoder.with_unsent [] e) × (left ≡ bytes))) (sym alive) tt;
        new_is = refl;
      } in (
        refl,
        record {
          next = next;
          step = record {
            decoder = decoder.with_unsent adds.more d';
            takes = adds.call;
            hears = subst (λ (x : Connection). HearsOn x next many answer) is hears;
          };
          fits = tt;
          shows = record {
            encoder = refl;
            decoder = refl;
            encoder_stream = wire_is (e.unsent ++ []) e'.unsent er (append-nil e.unsent ∙ sym still);
            decoder_stream = ap (λ (n : ℕ). let w : Wire = record { written = d'.unsent; received = n } in w) moved;
            streams = λ n. refl;
          };
        },
      )

  pub hear_goes : (now : Connection) (position : ℕ) → connection_of e d er dr ps ≡ now → IsReached now → IsTaken d d'
      → (e.failure ≡ None → HearsSo e e') → (e.failure ≡ None → left ≡ [])
      → position + length left ≡ length (take many (drop dr d'.unsent))
      → Goes now (connection_of e' d' er (dr + position) ps) (event.ToEncoder many) (outcome.Heard answer)
  hear_goes now position same at takes receives none_left counts =
      goes_from (connection_of e d er dr ps) now (connection_of e' d' er (dr + position) ps) (event.ToEncoder many)
      (outcome.Heard answer) same
      (hear_makes position (subst IsReached (sym same) at) takes receives none_left counts)

-- ---- what a decoding end receives

module _ (e : EncodingEnd) (d d' : DecodingEnd) (er dr : ℕ) (ps : List (ℕ × RequestStream SentSection))
    (many : ℕ) (left : List ℕ) where
  -- it writes nothing
  ends_still : (taken : Result ⊤ EncoderStreamError) (r : Result ℕ DecodingError)
      → EndsReceiving (decoders.received d'.table d'.stream d) d' taken r → d'.unsent ≡ d.unsent
  ends_still (Ok it) (Ok total) ends = ap (λ (y : DecodingEnd). y.unsent) ends.1
  ends_still (Ok it) (Err x) ends = absurd ends
  ends_still (Err y) (Ok total) ends = absurd (let z : Ok total ≡ Err (decoders.stream_failure y) = ends.0 in cc)
  ends_still (Err y) (Err x) ends = ap (λ (y : DecodingEnd). y.unsent) ends.1

  ends_framed : (taken : Result ⊤ EncoderStreamError) (r : Result ℕ DecodingError)
      → EndsReceiving (decoders.received d'.table d'.stream d) d' taken r
      → EndsReceiving (decoders.received d'.table d'.stream (decoder.with_unsent [] d)) (decoder.with_unsent [] d') taken
      r
  ends_framed (Ok it) (Ok total) ends = (ends.0, ap (decoder.with_unsent []) ends.1)
  ends_framed (Ok it) (Err x) ends = absurd ends
  ends_framed (Err y) (Ok total) ends = absurd (let z : Ok total ≡ Err (decoders.stream_failure y) = ends.0 in cc)
  ends_framed (Err y) (Err x) ends = (ends.0, ap (decoder.with_unsent []) ends.1)

  receive_framed : (start : Table) (before bytes : List ℕ) (r : Result ℕ DecodingError)
      → decoders.ReceivesBytes start before d d' bytes left r
      → decoders.ReceivesBytes start before (decoder.with_unsent [] d) (decoder.with_unsent [] d') bytes left r
  receive_framed start before bytes r k =
      record { taken = k.taken; stream = k.stream; ends = ends_framed k.taken r k.ends }

  receive_makes : (answer : Result ℕ DecodingError) (position : ℕ) → IsReached (connection_of e d er dr ps)
      → (d.failure ≡ None → (start : Table) (before : List ℕ) → receiving.Receives start d.table before d.stream
      → decoders.ReceivesBytes start before d d' (take many (drop er e.unsent)) left answer)
      → position + length left ≡ length (take many (drop er e.unsent))
      → Goes (connection_of e d er dr ps) (connection_of e d' (er + position) dr ps) (event.ToDecoder many)
      (outcome.Delivered answer)
  receive_makes answer position at receives counts =
      let k = (reached_holds (connection_of e d er dr ps) at).kept in
      let alive = k.alive.decoder in
      let bytes = take many (drop er e.unsent) in
      let one = receives alive _ _ k.refines.received in
      let still = ends_still one.taken answer one.ends in
      let moved : er + (length bytes - length left) ≡ er + position = omega (arith, counts) in (
        refl,
        record {
          next = record (with_decoder (decoder.with_unsent [] d') (connection_of e d er dr ps)) {
            encoder_stream = behind_received (length bytes - length left)
                (record { written = e.unsent; received = er });
          };
          step = record {
            decoder = decoder.with_unsent [] d';
            left = left;
            receives = λ none start before h. receive_framed start before bytes answer (receives none start before h);
            ended = subst (λ (o : Option DecodingError). IfSome o (λ x. (answer ≡ Err x)
                × (decoder.with_unsent [] d' ≡ decoder.with_unsent [] d) × (left ≡ bytes)))
                (sym alive) tt;
            new_is = refl;
          };
          fits = tt;
          shows = record {
            encoder = refl;
            decoder = refl;
            encoder_stream = ap (λ (n : ℕ). let w : Wire = record { written = e.unsent; received = n } in w) moved;
            decoder_stream = wire_is (d.unsent ++ []) d'.unsent dr (append-nil d.unsent ∙ sym still);
            streams = λ n. refl;
          };
        },
      )

  pub receive_goes : (now : Connection) (answer : Result ℕ DecodingError) (position : ℕ)
      → connection_of e d er dr ps ≡ now → IsReached now
      → (d.failure ≡ None → (start : Table) (before : List ℕ) → receiving.Receives start d.table before d.stream
      → decoders.ReceivesBytes start before d d' (take many (drop er e.unsent)) left answer)
      → position + length left ≡ length (take many (drop er e.unsent))
      → Goes now (connection_of e d' (er + position) dr ps) (event.ToDecoder many) (outcome.Delivered answer)
  receive_goes now answer position same at receives counts =
      goes_from (connection_of e d er dr ps) now (connection_of e d' (er + position) dr ps) (event.ToDecoder many)
      (outcome.Delivered answer) same (receive_makes answer position (subst IsReached (sym same) at) receives counts)

-- ---- sections and streams that are given up

-- memory that is needed may be asked for
needs_behind : (d : DecoderView) (s : ℕ) (read : StrictReading) → NeedsMemoryBehind d s read
    → AsksBehind (end_of d) s read
needs_behind d s (Read fields required) needs = needs.0
needs_behind d s (Blocked required) needs = needs
needs_behind d s (Refused fault) needs = needs

pub needs_asks : (d : DecoderView) (s : ℕ) (bytes : List ℕ) (fields : SectionView)
    → NeedsMemoryToDecode d s bytes fields → AsksToDecode (end_of d) s bytes
needs_asks d s bytes fields (inl needs) = inl needs.0
needs_asks d s bytes fields (inr needs) = inr (needs_behind d s _ needs)

-- a reading is no want of memory
pub read_stops : (r : Reading) → (let a : Result Reading DecodingError = Ok r in a) ≡ Err decoding.Memory → ⊥
read_stops r h = cc

module _ (e : EncodingEnd) (d d' : DecodingEnd) (er dr : ℕ) (ps qs : List (ℕ × RequestStream SentSection)) where
  decoder_shown : (a : (_ : DecodingEnd) → (_ : DecodingEnd) → Type 0) (k : decoder.Adds d d' a)
      (ks : List (ℕ × RequestStream SentSection)) → KeepsStreams qs ks
      → Shows (connection_of e d' er dr qs)
      (let c : Connection = record (with_decoder (decoder.with_unsent k.more d') (connection_of e d er dr ps)) {
        streams = ks;
      } in c)
  decoder_shown a k ks keeps =
      record {
        encoder = refl;
        decoder = refl;
        encoder_stream = refl;
        decoder_stream = wire_is (d.unsent ++ k.more) d'.unsent dr (sym k.written);
        streams = keeps;
      }

  -- the streams behind a section that is decoded
  abbrev pub Reads : ℕ → Result Reading DecodingError → Type 0
  Reads s (Ok (reading.Fields required)) = ChangesStream s (decoded_with required (stream_at ps s)) ps qs
  Reads s (Ok (reading.Blocked required)) = KeepsStreams qs ps
  Reads s (Err x) = KeepsStreams qs ps

  reading_shown : (s : ℕ) (answer : Result Reading DecodingError) (a : (_ : DecodingEnd) → (_ : DecodingEnd) → Type 0)
      (k : decoder.Adds d d' a) → Reads s answer
      → Shows (connection_of e d' er dr qs)
      (with_reading s answer (with_decoder (decoder.with_unsent k.more d') (connection_of e d er dr ps)))
  reading_shown s (Ok (reading.Fields required)) a k reads =
      decoder_shown a k (with_stream ps s (decoded_with required (stream_at ps s)))
      (put_shown ps qs s (decoded_with required (stream_at ps s)) reads)
  reading_shown s (Ok (reading.Blocked required)) a k reads = decoder_shown a k ps reads
  reading_shown s (Err x) a k reads = decoder_shown a k ps reads

  found_section : (o : Option SentSection) (bytes : List ℕ) → HasBytes o bytes
      → (k : SentSection) × (o ≡ Some k) × (bytes ≡ k.bytes)
  found_section None bytes h = absurd h
  found_section (Some k) bytes h = (k, refl, h)

  live_of : (b : Bool) (o : Option Skip) → (cond b (Some StreamCancelled) o) ≡ None → b ≡ false
  live_of true o h = absurd cc
  live_of false o h = refl

  decode_makes : (s : ℕ) (bytes : List ℕ) (shown : SectionView) (answer : Result Reading DecodingError)
      → HasBytes (oldest_undecoded (stream_at ps s)) bytes → decode_skip (stream_at ps s) ≡ None
      → Decodes d d' s (strict_reading (window d.table) d.settings.max_section_size bytes) shown.fields answer
      → (answer ≡ Err decoding.Memory → AsksToDecode d s bytes) → Reads s answer
      → Goes (connection_of e d er dr ps) (connection_of e d' er dr qs) (event.Decode s)
      (outcome.Decoded answer shown)
  decode_makes s bytes shown answer has live call memory reads =
      let f = found_section (oldest_undecoded (stream_at ps s)) bytes has in
      let k = f.0 in
      let called = subst (λ (b : List ℕ). Decodes d d' s
      (strict_reading (window d.table) d.settings.max_section_size b) shown.fields answer) f.2 call in
      let framed = decoder.decode_framed d d' s
      (strict_reading (window d.table) d.settings.max_section_size k.bytes) shown.fields answer called in (
        live,
        record {
          next = with_reading s answer
              (with_decoder (decoder.with_unsent framed.more d') (connection_of e d er dr ps));
          step = record {
            live = live_of (stream_at ps s).cancelled _ live;
            section = k;
            is_next = f.1;
            decoder = decoder.with_unsent framed.more d';
            call = framed.call;
            memory = λ stops. subst (λ (b : List ℕ). AsksToDecode d s b) f.2 (memory stops);
            new_is = refl;
          };
          fits = tt;
          shows = reading_shown s answer _ framed reads;
        },
      )

  pub decode_goes : (now : Connection) (s : ℕ) (bytes : List ℕ) (shown : SectionView)
      (answer : Result Reading DecodingError) → connection_of e d er dr ps ≡ now
      → HasBytes (oldest_undecoded (stream_at ps s)) bytes → decode_skip (stream_at ps s) ≡ None
      → Decodes d d' s (strict_reading (window d.table) d.settings.max_section_size bytes) shown.fields answer
      → (answer ≡ Err decoding.Memory → AsksToDecode d s bytes) → Reads s answer
      → Goes now (connection_of e d' er dr qs) (event.Decode s) (outcome.Decoded answer shown)
  decode_goes now s bytes shown answer same has live call memory reads =
      goes_from (connection_of e d er dr ps) now (connection_of e d' er dr qs) (event.Decode s)
      (outcome.Decoded answer shown) same (decode_makes s bytes shown answer has live call memory reads)

  -- the streams behind one that is cancelled
  abbrev pub Gives : ℕ → Result ⊤ DecodingError → Type 0
  Gives s (Ok it) = ChangesStream s (record (stream_at ps s) { cancelled = true }) ps qs
  Gives s (Err x) = KeepsStreams qs ps

  -- through streams of which one was opened
  pub gives_through : (s : ℕ) (os : List (ℕ × RequestStream SentSection)) → KeepsStreams ps os
      → ChangesStream s (record (stream_at os s) { cancelled = true }) os qs → Gives s (Ok tt)
  gives_through s os keeps changes n =
      changes n
      ∙ cond_same (nat_eq s n) (record (stream_at os s) { cancelled = true }) (stream_at os n)
      (record (stream_at ps s) { cancelled = true }) (stream_at ps n)
      (ap (λ (st : RequestStream SentSection). let k : RequestStream SentSection = record st { cancelled = true } in k)
      (keeps s)) (keeps n)

  cancel_shown : (s : ℕ) (answer : Result ⊤ DecodingError) (a : (_ : DecodingEnd) → (_ : DecodingEnd) → Type 0)
      (k : decoder.Adds d d' a) → Gives s answer
      → Shows (connection_of e d' er dr qs)
      (with_cancelled s answer (with_decoder (decoder.with_unsent k.more d') (connection_of e d er dr ps)))
  cancel_shown s (Ok it) a k gives =
      decoder_shown a k (with_stream ps s (record (stream_at ps s) { cancelled = true }))
      (put_shown ps qs s (record (stream_at ps s) { cancelled = true }) gives)
  cancel_shown s (Err x) a k gives = decoder_shown a k ps gives

  cancel_makes : (s : ℕ) (answer : Result ⊤ DecodingError) → cancel_skip (stream_at ps s) ≡ None
      → Cancels d d' s answer → Gives s answer
      → Goes (connection_of e d er dr ps) (connection_of e d' er dr qs) (event.Cancel s) (outcome.Cancelled answer)
  cancel_makes s answer live call gives =
      let framed = decoder.cancel_framed d d' s answer call in (
        live,
        record {
          next = with_cancelled s answer
              (with_decoder (decoder.with_unsent framed.more d') (connection_of e d er dr ps));
          step = record {
            live = live_of (stream_at ps s).cancelled _ live;
            decoder = decoder.with_unsent framed.more d';
            call = framed.call;
            new_is = refl;
          };
          fits = tt;
          shows = cancel_shown s answer _ framed gives;
        },
      )

  pub cancel_goes : (now : Connection) (s : ℕ) (answer : Result ⊤ DecodingError) → connection_of e d er dr ps ≡ now
      → cancel_skip (stream_at ps s) ≡ None → Cancels d d' s answer → Gives s answer
      → Goes now (connection_of e d' er dr qs) (event.Cancel s) (outcome.Cancelled answer)
  cancel_goes now s answer same live call gives =
      goes_from (connection_of e d er dr ps) now (connection_of e d' er dr qs) (event.Cancel s)
      (outcome.Cancelled answer) same (cancel_makes s answer live call gives)

-- ---- what is offered

pub offered_is : (all stream next rest : List ℕ) (received many : ℕ) → stream ≡ all
    → next ≡ take many (drop received stream) → rest ≡ next → rest ≡ take many (drop received all)
offered_is all stream next rest received many same is rests =
    rests ∙ is ∙ ap (λ (x : List ℕ). take many (drop received x)) same
