-- The bytes that a session delivers.
use Rattle.std.proofs.Common.{◌≡◌, ◌+◌, ◌-◌, ℕ, List, ◌++◌, length, take, drop, min}
use Rattle.std.proofs.Common.{length-append}
use Rattle.std.proofs.Common.{Bool, true, false, Result, Ok, Err, if◌then◌else◌}
use Rattle.std.proofs.Common.{refl, sym, ap, subst, ◌∙◌, arith}
use Rattle.std.proofs.lemmas.List.{take_min}
use Rattle.std.specs.Prelude.{⊤}
use Rattle.qpack_rules.specs.Session as spec
use Rattle.qpack_rules.specs.Session.{Session, LawfulStep, skip_reason, EndsAtDecoder, EndsAtEncoder, takes_all}
use Rattle.qpack_rules.specs.Session.{no_memory, bad_bytes, bad_instruction, takes_all_at_encoder}
use Rattle.qpack_rules.specs.Session.{bad_bytes_at_encoder, bad_decoder_instruction, DeliversToDecoder}
use Rattle.qpack_rules.specs.Session.{DeliversToEncoder}
use Rattle.qpack_rules.specs.Session.{with_decoder_moved, with_encoder_moved, unreported_after, is_consumed}
use Rattle.qpack_rules.specs.Session.{apply_encoder_instructions, apply_decoder_instructions}
use Rattle.qpack_spec.specs.Table.{Table, insert_count}
use Rattle.h3_qpack.proofs.Sessions.{fits_reached, lawful}
use Rattle.qpack_codec.specs.Hearing as hearing
use Rattle.qpack_codec.specs.Receiving as receiving
use Rattle.qpack_codec.specs.Receiving.{DecoderView, Receives, EndsReceiving, EndsTaking, Stops, to_report}
use Rattle.qpack_codec.specs.Receiving.{written_report}
use Rattle.qpack_codec.specs.Hearing.{Hears, EndsHearing, StopsHearing}
use Rattle.qpack_codec.specs.Sections.{form_fault_of}
use Rattle.h3_qpack.specs.Sessions.{SessionView, Shows, IsReached, Follows, Goes, Answers, TellsStreamFault}
use Rattle.qpack_codec.specs.declared.error.DecoderError.{DecoderError}
use Rattle.qpack_codec.specs.declared.error.DecoderError.TheVariants as decoder
use Rattle.qpack_codec.specs.declared.error.EncoderError.{EncoderError}
use Rattle.h3_qpack.specs.declared.session.Outcome.TheVariants as outcome

-- so many bytes were consumed of a front and a rest of which the rest is left
pub front_consumed : (bytes front rest left : List ℕ) (position : ℕ) → bytes ≡ front ++ rest → left ≡ rest
    → position + length left ≡ length bytes → position ≡ length front
front_consumed bytes front rest left position cut same counts =
    let whole = ap (λ (l : List ℕ). length l) cut in
    let rests = ap (λ (l : List ℕ). length l) same in
    omega (arith, whole, rests, counts, length-append front rest)

-- or of which some more was consumed
more_consumed : (bytes front rest encoding more left : List ℕ) (consumed : Bool) (position : ℕ) → bytes ≡ front ++ rest
    → rest ≡ encoding ++ more → left ≡ (if consumed then more else rest) → position + length left ≡ length bytes
    → position ≡ length front + (if consumed then length encoding else 0)
more_consumed bytes front rest encoding more left true position cut split same counts =
    let whole = ap (λ (l : List ℕ). length l) cut in
    let parts = ap (λ (l : List ℕ). length l) split in
    let rests = ap (λ (l : List ℕ). length l) same in
    omega (arith, whole, parts, rests, counts, length-append front rest, length-append encoding more)
more_consumed bytes front rest encoding more left false position cut split same counts =
    front_consumed bytes front rest left position cut same counts ∙ omega arith

-- ---- to the decoder

-- an error tells the fault of a stream
tells_fault : (e : DecoderError) (fault : spec.StreamFault)
    → TellsStreamFault (form_fault_of e) (receiving.refusal_of e) fault
    → Answers (outcome.Delivered (Err e)) (spec.Refused fault)
tells_fault decoder.Memory (spec.BadBytes fault) h = absurd cc
tells_fault decoder.Memory (spec.BadInstruction refusal) h = absurd cc
tells_fault e fault h = (fault, refl, h)

-- the session behind a delivery to the decoder
abbrev pub decoder_moved : SessionView → DecoderView → ℕ → ℕ → List ℕ → SessionView
decoder_moved s decoder delivered taken written =
    record s {
      decoder = decoder;
      encoder_stream_delivered = delivered;
      encoder_stream_taken = taken;
      decoder_stream = written;
    }

-- what moved, as far as both know it
pub record Moves (s : SessionView) (decoder : DecoderView) (count delivered taken position : ℕ) (written : List ℕ)
    (v : Session)
    : Type 0 where
  pub shows : Shows s v
  pub reached : IsReached s
  pub delivered_is : delivered ≡ min (s.encoder_stream_delivered + count) (length s.encoder_stream)
  pub taken_is : taken ≡ s.encoder_stream_taken + position

moved_shown : (s : SessionView) (decoder : DecoderView) (count delivered taken position : ℕ) (written : List ℕ)
    (v : Session)
    (unreported consumed : ℕ) (written' : List ℕ) → Moves s decoder count delivered taken position written v
    → unreported ≡ decoder.unreported → position ≡ consumed → written' ≡ written
    → Shows (decoder_moved s decoder delivered taken written)
    (with_decoder_moved v count decoder.table consumed unreported written')
moved_shown s decoder count delivered taken position written v unreported consumed written' m same moved wrote =
    let shows = m.shows in
    record {
      encoder = shows.encoder;
      decoder = refl;
      unreported = same;
      encoder_stream = shows.encoder_stream;
      encoder_stream_delivered =
          ap (λ (n : ℕ). min (n + count) (length v.encoder_stream)) shows.encoder_stream_delivered
          ∙ ap (λ (l : List ℕ). min (s.encoder_stream_delivered + count) (length l)) shows.encoder_stream
          ∙ sym m.delivered_is;
      encoder_stream_taken =
          ap (λ (n : ℕ). n + consumed) shows.encoder_stream_taken
          ∙ ap (λ (n : ℕ). s.encoder_stream_taken + n) (sym moved) ∙ sym m.taken_is;
      decoder_stream = wrote;
      decoder_stream_delivered = shows.decoder_stream_delivered;
      decoder_stream_taken = shows.decoder_stream_taken;
      streams = shows.streams;
    }

-- the insertions to be reported are those of the definition
reported_same : (s : SessionView) (v : Session) (t : Table) → Shows s v → unreported_after v t ≡ to_report s.decoder t
reported_same s v t shows =
    ap (λ (n : ℕ). n + (insert_count t - insert_count v.decoder)) shows.unreported
    ∙ ap (λ (u : Table). s.decoder.unreported + (insert_count t - insert_count u)) shows.decoder

-- what is offered is what the definition offers
offered_same : (s : SessionView) (v : Session) (count : ℕ) → Shows s v
    → drop v.encoder_stream_taken (take (v.encoder_stream_delivered + count) v.encoder_stream)
    ≡ drop s.encoder_stream_taken (take (s.encoder_stream_delivered + count) s.encoder_stream)
offered_same s v count shows =
    ap (λ (n : ℕ). drop n (take (v.encoder_stream_delivered + count) v.encoder_stream)) shows.encoder_stream_taken
    ∙ ap (λ (n : ℕ). drop s.encoder_stream_taken (take (n + count) v.encoder_stream)) shows.encoder_stream_delivered
    ∙ ap (λ (l : List ℕ). drop s.encoder_stream_taken (take (s.encoder_stream_delivered + count) l))
    shows.encoder_stream

-- how the delivery ended, as the definition has it
module _ (s : SessionView) (new : DecoderView) (count delivered taken position : ℕ) (written : List ℕ) (v : Session)
    (bytes left : List ℕ) (m : Moves s new count delivered taken position written v)
    (counts : position + length left ≡ length bytes) where
  abbrev pub after : SessionView
  after = decoder_moved s new delivered taken written

  -- the way that the delivery went, to an answer
  record Ends (front rest : List ℕ) (r : Result ℕ DecoderError) : Type 0 where
    answer : spec.Outcome
    next : Session
    answers : Answers (outcome.Delivered r) answer
    shown : Shows after next
    ends : EndsAtDecoder v count new.table front rest answer next

  unreported_is : new.unreported ≡ to_report s.decoder new.table → unreported_after v new.table ≡ new.unreported
  unreported_is h = reported_same s v new.table m.shows ∙ sym h

  saturated_is : written ≡ s.decoder_stream → v.decoder_stream ≡ written
  saturated_is h = m.shows.decoder_stream ∙ sym h

  -- a refusal for memory
  memory_ends : (front rest : List ℕ) → bytes ≡ front ++ rest → left ≡ rest
      → new.unreported ≡ to_report s.decoder new.table → written ≡ s.decoder_stream
      → Ends front rest (Err decoder.Memory)
  memory_ends front rest cut same kept wrote =
      record {
        answer = spec.NoMemory;
        next = with_decoder_moved v count new.table (length front) (unreported_after v new.table) v.decoder_stream;
        answers = refl;
        shown = moved_shown s new count delivered taken position written v _ _ _ m (unreported_is kept)
            (front_consumed bytes front rest left position cut same counts) (saturated_is wrote);
        ends = no_memory refl refl;
      }

  -- the next instruction is not taken
  stop_ends : (front rest : List ℕ) (e : DecoderError) → bytes ≡ front ++ rest → Stops new.table rest left e
      → new.unreported ≡ to_report s.decoder new.table → written ≡ s.decoder_stream → Ends front rest (Err e)
  stop_ends front rest e cut (receiving.no_memory asks is same) kept wrote =
      subst (λ (x : DecoderError). Ends front rest (Err x)) (sym is) (memory_ends front rest cut same kept wrote)
  stop_ends front rest e cut (receiving.bad_bytes fault begins is same) kept wrote =
      record {
        answer = spec.Refused (spec.BadBytes fault);
        next = with_decoder_moved v count new.table (length front) (unreported_after v new.table) v.decoder_stream;
        answers = tells_fault e (spec.BadBytes fault) is;
        shown = moved_shown s new count delivered taken position written v _ _ _ m (unreported_is kept)
            (front_consumed bytes front rest left position cut same counts) (saturated_is wrote);
        ends = bad_bytes fault begins refl refl;
      }
  stop_ends front rest e cut (receiving.bad_instruction encoding more i refusal split spells refuses is same) kept
      wrote =
      record {
        answer = spec.Refused (spec.BadInstruction refusal);
        next = with_decoder_moved v count new.table
            (length front + (if is_consumed refusal then length encoding else 0)) (unreported_after v new.table)
            v.decoder_stream;
        answers = tells_fault e (spec.BadInstruction refusal) is;
        shown = moved_shown s new count delivered taken position written v _ _ _ m (unreported_is kept)
            (more_consumed bytes front rest encoding more left (is_consumed refusal) position cut split same counts)
            (saturated_is wrote);
        ends = bad_instruction encoding more i refusal split spells refuses refl refl;
      }

  delivery_ends : (front rest : List ℕ) (taking : Result ⊤ DecoderError) (r : Result ℕ DecoderError)
      → bytes ≡ front ++ rest → EndsTaking new.table rest left taking
      → EndsReceiving s.decoder new taking s.decoder_stream written r → Ends front rest r
  delivery_ends front rest (Ok done) (Ok total) cut takes ends =
      let same : unreported_after v new.table ≡ to_report s.decoder new.table = reported_same s v new.table m.shows in
      record {
        answer = spec.Delivered total;
        next = with_decoder_moved v count new.table (length front) 0
            (v.decoder_stream ++ written_report (unreported_after v new.table));
        answers = refl;
        shown = moved_shown s new count delivered taken position written v _ _ _ m (sym ends.1)
            (front_consumed bytes front rest left position cut takes.1 counts)
            (ap (λ (l : List ℕ). l ++ written_report (unreported_after v new.table)) m.shows.decoder_stream
            ∙ ap (λ (n : ℕ). s.decoder_stream ++ written_report n) same
            ∙ sym ends.2);
        ends = takes_all takes.0 (ap (λ (n : ℕ). spec.Delivered n) ends.0) refl;
      }
  delivery_ends front rest (Ok done) (Err e) cut takes ends =
      subst (λ (x : DecoderError). Ends front rest (Err x)) (sym ends.0)
      (memory_ends front rest cut takes.1 ends.2 ends.3)
  delivery_ends front rest (Err e) r cut takes ends =
      subst (λ (x : Result ℕ DecoderError). Ends front rest x) (sym ends.0)
      (stop_ends front rest e cut takes ends.1 ends.2)

  pub delivers : (r : Result ℕ DecoderError)
      → drop s.encoder_stream_taken (take (s.encoder_stream_delivered + count) s.encoder_stream) ≡ bytes
      → Receives s.decoder new bytes left s.decoder_stream written r
      → Goes after (spec.ToDecoder count) (outcome.Delivered r) v
  unfolding LawfulStep skip_reason
  delivers r offered receives =
      let takes = receives.takes in
      let ends = delivery_ends takes.front takes.rest receives.taken r takes.cut takes.ends receives.ends in
      let fits = fits_reached s m.reached in
      lawful after (spec.ToDecoder count) (outcome.Delivered r) v ends.answer ends.next ends.answers ends.shown tt tt
      refl
      (record {
        table = new.table;
        takes = record {
          lines = takes.lines;
          front = takes.front;
          rest = takes.rest;
          cut = offered_same s v count m.shows ∙ offered ∙ takes.cut;
          joined = takes.joined;
          applies = ap (λ (t : Table). apply_encoder_instructions t takes.lines) m.shows.decoder ∙ takes.applies;
          ends = ends.ends;
        };
      })
      (record { encoder_stream = fits.encoder_stream; blocks = fits.blocks })

-- what a call was offered, and what it left
pub record Offers (items bytes left : List ℕ) (taken before count delivered position : ℕ) : Type 0 where
  pub delivered_is : delivered ≡ min (before + count) (length items)
  pub offered : drop taken (take (before + count) items) ≡ bytes
  pub counts : position + length left ≡ length bytes

pub offers : (items seen offered bytes left : List ℕ) (taken before count delivered len position total total' : ℕ)
    → delivered ≡ min (before + count) len → len ≡ length items → seen ≡ items
    → offered ≡ drop taken (take delivered seen) → bytes ≡ offered → total ≡ length offered → total' ≡ total
    → position + length left ≡ total' → Offers items bytes left taken before count delivered position
offers items seen offered bytes left taken before count delivered len position total total' is long same part rest all
    still counts =
    let delivered_is = is ∙ ap (λ (n : ℕ). min (before + count) n) long in
    record {
      delivered_is = delivered_is;
      offered = ap (drop taken) (sym (take_min (before + count) items))
          ∙ ap (λ (n : ℕ). drop taken (take n items)) (sym delivered_is)
          ∙ ap (λ (l : List ℕ). drop taken (take delivered l)) (sym same) ∙ sym part ∙ sym rest;
      counts = counts ∙ still ∙ all ∙ ap (λ (l : List ℕ). length l) (sym rest);
    }

pub delivers_offered : (s : SessionView) (new : DecoderView) (count delivered position : ℕ)
    (written bytes left : List ℕ)
    (r : Result ℕ DecoderError) → IsReached s
    → Offers s.encoder_stream bytes left s.encoder_stream_taken s.encoder_stream_delivered count delivered position
    → Receives s.decoder new bytes left s.decoder_stream written r
    → Follows s (decoder_moved s new delivered (s.encoder_stream_taken + position) written) (spec.ToDecoder count)
    (outcome.Delivered r)
delivers_offered s new count delivered position written bytes left r at o receives v shows =
    delivers s new count delivered (s.encoder_stream_taken + position) position written v bytes left
    (record { shows = shows; reached = at; delivered_is = o.delivered_is; taken_is = refl }) o.counts r o.offered
    receives

-- ---- to the encoder

-- an error tells the fault of a stream
tells_heard_fault : (e : EncoderError) (fault : spec.StreamFault)
    → TellsStreamFault (hearing.form_fault_of e) (hearing.refusal_of e) fault
    → Answers (outcome.Heard (Err e)) (spec.Refused fault)
tells_heard_fault e fault h = (fault, refl, h)

-- the session behind a delivery to the encoder
abbrev pub encoder_moved : SessionView → Table → ℕ → ℕ → SessionView
encoder_moved s encoder delivered taken =
    record s { encoder = encoder; decoder_stream_delivered = delivered; decoder_stream_taken = taken }

encoder_moved_shown : (s : SessionView) (encoder : Table) (count delivered position consumed : ℕ) (v : Session)
    → Shows s v → delivered ≡ min (s.decoder_stream_delivered + count) (length s.decoder_stream) → position ≡ consumed
    → Shows (encoder_moved s encoder delivered (s.decoder_stream_taken + position))
    (with_encoder_moved v count encoder consumed)
encoder_moved_shown s encoder count delivered position consumed v shows is moved =
    record {
      encoder = refl;
      decoder = shows.decoder;
      unreported = shows.unreported;
      encoder_stream = shows.encoder_stream;
      encoder_stream_delivered = shows.encoder_stream_delivered;
      encoder_stream_taken = shows.encoder_stream_taken;
      decoder_stream = shows.decoder_stream;
      decoder_stream_delivered =
          ap (λ (n : ℕ). min (n + count) (length v.decoder_stream)) shows.decoder_stream_delivered
          ∙ ap (λ (l : List ℕ). min (s.decoder_stream_delivered + count) (length l)) shows.decoder_stream ∙ sym is;
      decoder_stream_taken =
          ap (λ (n : ℕ). n + consumed) shows.decoder_stream_taken
          ∙ ap (λ (n : ℕ). s.decoder_stream_taken + n) (sym moved);
      streams = shows.streams;
    }

heard_same : (s : SessionView) (v : Session) (count : ℕ) → Shows s v
    → drop v.decoder_stream_taken (take (v.decoder_stream_delivered + count) v.decoder_stream)
    ≡ drop s.decoder_stream_taken (take (s.decoder_stream_delivered + count) s.decoder_stream)
heard_same s v count shows =
    ap (λ (n : ℕ). drop n (take (v.decoder_stream_delivered + count) v.decoder_stream)) shows.decoder_stream_taken
    ∙ ap (λ (n : ℕ). drop s.decoder_stream_taken (take (n + count) v.decoder_stream)) shows.decoder_stream_delivered
    ∙ ap (λ (l : List ℕ). drop s.decoder_stream_taken (take (s.decoder_stream_delivered + count) l))
    shows.decoder_stream

module _ (s : SessionView) (new : Table) (count delivered position : ℕ) (bytes left : List ℕ) (v : Session)
    (shows : Shows s v) (at : IsReached s)
    (o : Offers s.decoder_stream bytes left s.decoder_stream_taken s.decoder_stream_delivered count delivered position)
  where
    abbrev behind : SessionView
    behind = encoder_moved s new delivered (s.decoder_stream_taken + position)

    record EndsHeard (front rest : List ℕ) (r : Result ⊤ EncoderError) : Type 0 where
      answer : spec.Outcome
      next : Session
      answers : Answers (outcome.Heard r) answer
      shown : Shows behind next
      ends : EndsAtEncoder v count new front rest answer next

    hearing_ends : (front rest : List ℕ) (r : Result ⊤ EncoderError) → bytes ≡ front ++ rest
        → EndsHearing new rest left r → EndsHeard front rest r
    hearing_ends front rest (Ok done) cut ends =
        record {
          answer = spec.Heard;
          next = with_encoder_moved v count new (length front);
          answers = refl;
          shown = encoder_moved_shown s new count delivered position _ v shows o.delivered_is
              (front_consumed bytes front rest left position cut ends.1 o.counts);
          ends = takes_all_at_encoder ends.0 refl refl;
        }
    hearing_ends front rest (Err e) cut (hearing.bad_bytes fault begins is same) =
        record {
          answer = spec.Refused (spec.BadBytes fault);
          next = with_encoder_moved v count new (length front);
          answers = tells_heard_fault e (spec.BadBytes fault) is;
          shown = encoder_moved_shown s new count delivered position _ v shows o.delivered_is
              (front_consumed bytes front rest left position cut same o.counts);
          ends = bad_bytes_at_encoder fault begins refl refl;
        }
    hearing_ends front rest (Err e) cut (hearing.bad_instruction encoding i refusal split spells refuses is) =
        record {
          answer = spec.Refused (spec.BadInstruction refusal);
          next = with_encoder_moved v count new (length front + length encoding);
          answers = tells_heard_fault e (spec.BadInstruction refusal) is;
          shown = encoder_moved_shown s new count delivered position _ v shows o.delivered_is
              (more_consumed bytes front rest encoding left left true position cut split refl o.counts);
          ends = bad_decoder_instruction encoding left i refusal split spells refuses refl refl;
        }

    hears_so : (r : Result ⊤ EncoderError) → Hears s.encoder new bytes left r
        → Goes behind (spec.ToEncoder count) (outcome.Heard r) v
    unfolding LawfulStep skip_reason
    hears_so r hears =
        let ends = hearing_ends hears.front hears.rest r hears.cut hears.ends in
        let fits = fits_reached s at in
        lawful behind (spec.ToEncoder count) (outcome.Heard r) v ends.answer ends.next ends.answers ends.shown tt tt
        refl
        (record {
          table = new;
          takes = record {
            lines = hears.lines;
            front = hears.front;
            rest = hears.rest;
            cut = heard_same s v count shows ∙ o.offered ∙ hears.cut;
            joined = hears.joined;
            applies = ap (λ (t : Table). apply_decoder_instructions t hears.lines) shows.encoder ∙ hears.applies;
            ends = ends.ends;
          };
        })
        (record { encoder_stream = fits.encoder_stream; blocks = fits.blocks })

pub hears_offered : (s : SessionView) (new : Table) (count delivered position : ℕ) (bytes left : List ℕ)
    (r : Result ⊤ EncoderError) → IsReached s
    → Offers s.decoder_stream bytes left s.decoder_stream_taken s.decoder_stream_delivered count delivered position
    → Hears s.encoder new bytes left r
    → Follows s (encoder_moved s new delivered (s.decoder_stream_taken + position)) (spec.ToEncoder count)
    (outcome.Heard r)
hears_offered s new count delivered position bytes left r at o hears v shows =
    hears_so s new count delivered position bytes left v shows at o r hears
