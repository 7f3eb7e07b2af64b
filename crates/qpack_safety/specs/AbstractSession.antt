-- The session as values in place of bytes, in small steps: what the proof of the session theorem goes over (RFC 9204,
-- section 2). No contract names it.
use Rattle.std.specs.Prelude.{ℕ, ◌+◌, ◌-◌, Bool, true, if◌then◌else◌, ◌&&◌, not, nat_eq, List, [], ◌∷◌, ◌++◌, length}
use Rattle.std.specs.Prelude.{Option, None, Some, Result, Ok, Err}
use Rattle.qpack_spec.specs.Field.{Field, FieldLine, fields_of_lines}
use Rattle.qpack_spec.specs.Instruction.{EncoderInstruction, SetCapacity, DecoderInstruction, Acknowledgment}
use Rattle.qpack_spec.specs.Instruction.{Cancellation}
use Rattle.qpack_spec.specs.Window.{Window, window_insert_count, TableRefusal, apply}
use Rattle.qpack_spec.specs.History.{initial_history, window_of}
use Rattle.qpack_spec.specs.Chosen.{Chosen, chosen_rule}
use Rattle.qpack_spec.specs.Marked.{stateless_block_marked}
use Rattle.qpack_spec.specs.Reading.{Block, Reading, reading, greatest_of}
use Rattle.qpack_spec.specs.Table.{Table, empty_table, without_references, apply_decoder_instruction, with_capacity}
use Rattle.qpack_spec.specs.Rule.{Draft, rule, block_of, committed_table}
use Rattle.qpack_rules.specs.Session.{RequestStream, stream_at, with_stream, oldest_undecoded, awaits_acknowledgment}
use Rattle.qpack_rules.specs.Session.{is_read, sum_of}
use Rattle.qpack_rules.specs.Session.{increments}

-- a block that was written: the entries that it references, how many instructions were written by its end, and the
-- fields that were passed to the encoder
pub record AbstractBlock : Type 0 where
  pub block : Block
  pub referenced : List ℕ
  pub end : ℕ
  pub fields : List Field

-- the required insert count of a block
abbrev pub required_count : AbstractBlock → ℕ
required_count b = greatest_of b.referenced

-- it requires an entry, so it is to be acknowledged (section 2.2.2.1)
abbrev pub is_dynamic : AbstractBlock → Bool
is_dynamic b = not (nat_eq (required_count b) 0)

-- a stream of such blocks
abbrev pub AbstractStream : Type 0
AbstractStream = RequestStream AbstractBlock

-- both tables, the insertions that the decoder did not yet report, the encoder instructions that it took and those
-- under way, the decoder instructions under way, and the streams
pub record AbstractSession : Type 0 where
  pub encoder : Table
  pub decoder : Window
  pub unreported : ℕ
  pub taken : List EncoderInstruction
  pub in_flight : List EncoderInstruction
  pub decoder_in_flight : List DecoderInstruction
  pub streams : List (ℕ × AbstractStream)

-- the small steps: the encoder writes a block; it is refused memory after some fields of a block; it sets a capacity;
-- the decoder applies an instruction; it reports its insertions, in pieces; the encoder applies a decoder instruction;
-- the decoder decodes the next block of a stream; it acknowledges one; it cancels a stream. And what only the ends of a
-- connection do: the encoder writes a block of fields some of which are marked, under any choices, or runs out of
-- memory after some of them, or writes a block that references no entry; the decoder gives up a stream and reports
-- nothing
pub data SmallStep : Type 0 where
  Encode : (stream : ℕ) (fields : List Field) → SmallStep
  Abandon : (fields : List Field) → SmallStep
  Resize : (capacity : ℕ) → SmallStep
  Take : SmallStep
  Report : (pieces : List ℕ) → SmallStep
  Hear : SmallStep
  Decode : (stream : ℕ) → SmallStep
  Acknowledge : (stream : ℕ) → SmallStep
  Cancel : (stream : ℕ) → SmallStep
  EncodeChosen : (stream : ℕ) (lines : List FieldLine) (choices : List Chosen) → SmallStep
  AbandonChosen : (lines : List FieldLine) (choices : List Chosen) → SmallStep
  EncodeAlone : (stream : ℕ) (lines : List FieldLine) → SmallStep
  Forget : (stream : ℕ) → SmallStep

-- how a session begins: both tables empty and of this capacity, this maximum capacity agreed
abbrev pub abstract_start : ℕ → ℕ → ℕ → AbstractSession
abstract_start capacity maximum limit =
    record {
      encoder = empty_table capacity (Some maximum) limit;
      decoder = window_of (initial_history capacity maximum);
      unreported = 0;
      taken = [];
      in_flight = [];
      decoder_in_flight = [];
      streams = [];
    }

-- the session after a block was written
abbrev pub after_encode : AbstractSession → ℕ → List Field → Draft → AbstractSession
after_encode w s fs d =
    let st = stream_at w.streams s in
    let in_flight = w.in_flight ++ d.instructions in
    record w {
      encoder = committed_table d s;
      in_flight = in_flight;
      streams = with_stream w.streams s (record st {
        blocks =
            st.blocks ++ record {
              block = block_of w.encoder d;
              referenced = d.table.referenced;
              end = length (w.taken ++ in_flight);
              fields = fs;
            } ∷ [];
      });
    }

-- the session after a block was written that references no entry
abbrev pub after_alone : AbstractSession → ℕ → List FieldLine → AbstractSession
after_alone w s ls =
    let st = stream_at w.streams s in
    record w {
      streams = with_stream w.streams s (record st {
        blocks =
            st.blocks ++ record {
              block = stateless_block_marked ls;
              referenced = [];
              end = length (w.taken ++ w.in_flight);
              fields = fields_of_lines ls;
            } ∷ [];
      });
    }

-- the session after a block was given up: its insertions stay, what it referenced is referenced no more
abbrev pub after_abandon : AbstractSession → Draft → AbstractSession
after_abandon w d = record w { encoder = without_references d.table; in_flight = w.in_flight ++ d.instructions }

-- the session after a capacity was set, or refused
abbrev pub after_resize : AbstractSession → ℕ → Result Table TableRefusal → AbstractSession
after_resize w n (Err e) = w
after_resize w n (Ok t) = record w { encoder = t; in_flight = w.in_flight ++ SetCapacity n ∷ [] }

-- the session after the decoder took an instruction, or refused it
abbrev pub after_take : AbstractSession → EncoderInstruction → List EncoderInstruction → Result Window TableRefusal
    → AbstractSession
after_take w i rest (Err e) = w
after_take w i rest (Ok new) =
    record w {
      decoder = new;
      unreported = w.unreported + (window_insert_count new - window_insert_count w.decoder);
      taken = w.taken ++ i ∷ [];
      in_flight = rest;
    }

-- the decoder takes the next instruction
abbrev pub take_next : AbstractSession → List EncoderInstruction → AbstractSession
take_next w [] = w
take_next w (i ∷ rest) = after_take w i rest (apply w.decoder i)

-- the session after the encoder took a decoder instruction, or refused it
abbrev pub after_hear : AbstractSession → List DecoderInstruction → Result Table TableRefusal → AbstractSession
after_hear w rest (Err e) = w
after_hear w rest (Ok t) = record w { encoder = t; decoder_in_flight = rest }

-- the encoder takes the next decoder instruction
abbrev pub hear_next : AbstractSession → List DecoderInstruction → AbstractSession
hear_next w [] = w
hear_next w (r ∷ rest) = after_hear w rest (apply_decoder_instruction w.encoder r)

-- what a block reads as, if there is one
abbrev pub read_block : Window → Option AbstractBlock → Option Reading
read_block w None = None
read_block w (Some b) = Some (reading w b.block)

-- what the oldest undecoded block of a stream reads as, unless the stream is cancelled
abbrev pub next_reading : AbstractSession → ℕ → Option Reading
next_reading w s =
    let st = stream_at w.streams s in
    if st.cancelled then None else read_block w.decoder (oldest_undecoded st)

-- a decoded dynamic block of the stream is to be acknowledged
abbrev pub waits_for_acknowledgment : AbstractStream → Bool
waits_for_acknowledgment st = not st.cancelled && awaits_acknowledgment is_dynamic st

-- the session after a small step
abbrev pub after_step : AbstractSession → SmallStep → AbstractSession
after_step w (Encode s fs) = after_encode w s fs (rule w.encoder fs)
after_step w (Abandon fs) = after_abandon w (rule w.encoder fs)
after_step w (Resize n) = after_resize w n (with_capacity w.encoder n)
after_step w Take = take_next w w.in_flight
after_step w (Report ps) =
    if nat_eq (sum_of ps) w.unreported then record w {
      decoder_in_flight = w.decoder_in_flight ++ increments ps;
      unreported = 0;
    } else w
after_step w Hear = hear_next w w.decoder_in_flight
after_step w (Decode s) =
    let st = stream_at w.streams s in
    if is_read (next_reading w s) then record w
    { streams = with_stream w.streams s (record st { decoded = st.decoded + 1 }) } else w
after_step w (Acknowledge s) =
    let st = stream_at w.streams s in
    if waits_for_acknowledgment st
    then record w {
      decoder_in_flight = w.decoder_in_flight ++ Acknowledgment s ∷ [];
      streams = with_stream w.streams s (record st { acknowledged = st.acknowledged + 1 });
    } else w
after_step w (Cancel s) =
    let st = stream_at w.streams s in
    if st.cancelled then w
    else record w {
      decoder_in_flight = w.decoder_in_flight ++ Cancellation s ∷ [];
      streams = with_stream w.streams s (record st { cancelled = true });
    }
after_step w (EncodeChosen s ls cs) = after_encode w s (fields_of_lines ls) (chosen_rule w.encoder ls cs)
after_step w (AbandonChosen ls cs) = after_abandon w (chosen_rule w.encoder ls cs)
after_step w (EncodeAlone s ls) = after_alone w s ls
after_step w (Forget s) =
    record w { streams = with_stream w.streams s (record (stream_at w.streams s) { cancelled = true }) }

-- the session after some steps
abbrev pub after_steps : List SmallStep → AbstractSession → AbstractSession
after_steps [] w = w
after_steps (e ∷ es) w = after_steps es (after_step w e)
