-- What each end of a connection writes is what the laws of the other end require of a peer (RFC 9204, sections 2.1,
-- 2.2, 3.2 and 4.3 to 4.5). All that an encoding end wrote is lawful, whatever its peer writes. A decoding end writes
-- what it may.
use Rattle.std.specs.Prelude.{◌≡◌, ◌<◌, ◌≤◌, ◌^◌, ℕ, zero, suc, if◌then◌else◌, not, nat_eq, List, [], ◌∷◌, ◌++◌}
use Rattle.std.specs.Prelude.{length, map, take, None, Some, Ok}
use Rattle.std.specs.List.{AllByRecursion, filter}
use Rattle.qpack_spec.specs.Field.{FieldLine, fields_of_lines}
use Rattle.qpack_spec.specs.History.{History}
use Rattle.qpack_spec.specs.Instruction.{EncoderInstruction, DecoderInstruction, Acknowledgment, Cancellation}
use Rattle.qpack_spec.specs.Instruction.{Increment, SpellsDecoderInstruction}
use Rattle.qpack_rules.specs.LawfulDecoders.{MayWrite}
use Rattle.qpack_rules.specs.LawfulEncoders.{IsLawfulSection}
use Rattle.qpack_rules.specs.StrictInstructions.{required_by, oldest_required, hear_in_turn}
use Rattle.qpack_spec.specs.Stream.{SpellsAll}
use Rattle.qpack_spec.specs.Table.{Table, UnacknowledgedBlock, insert_count, without_oldest, without_stream}
use Rattle.qpack_spec.specs.WrittenLaws.{IsByteField}
use Rattle.qpack_safety.specs.Refines.{Agrees}
use Rattle.qpack_encoding.specs.declared.encoder.EncoderSettings.{EncoderSettings}
use Rattle.qpack_decoding.specs.declared.decoder.DecoderSettings.{DecoderSettings}
use Rattle.qpack_decoding.specs.declared.section.Reading.TheVariants as reading
use Rattle.qpack_decoding.specs.declared.section.reader.Progress.TheVariants as progress
use Rattle.qpack_decoding.specs.Decoders.{DecodingEnd, Begins}
use Rattle.qpack_encoding.specs.Encoders.{EncodingEnd, IsUnused}
use Rattle.qpack_connection.specs.LawfulDecoders.{Call, Encode, Receive, Sent, Step, Run}
use Rattle.qpack_connection.specs.LawfulEncoders.{UnderWay, Encoder, IsLawful, IsUnderWay, KeepsToLimit, Decoder}
use Rattle.qpack_connection.specs.LawfulEncoders as decoding

-- ---- an encoding end and what it wrote

-- a section that was written: its stream, how many insertions it requires, its fields and its bytes
pub record Section : Type 0 where
  pub stream : ℕ
  pub required : ℕ
  pub fields : List FieldLine
  pub bytes : List ℕ

-- an encoding end, the bytes of the encoder stream that were sent, and the sections that wait: those that were written,
-- require insertions, and are neither acknowledged nor cancelled, in order
pub record Writer : Type 0 where
  pub end : EncodingEnd
  pub sent : List ℕ
  pub sections : List Section

-- all bytes that it wrote on the encoder stream: those that were sent, and those that are to be sent
abbrev pub written : Writer → List ℕ
written w = w.sent ++ w.end.unsent

-- the bytes that a call sends, and the section that it writes, if that requires insertions
abbrev pub sent_by : Call → EncodingEnd → List ℕ
sent_by (Sent many) e = take many e.unsent
sent_by call e = []

abbrev pub if_required : ℕ → Section → List Section
if_required zero k = []
if_required (suc n) k = k ∷ []

abbrev pub written_by : Call → List Section
written_by (Encode s fields wishes section (Ok required)) =
    if_required required (record { stream = s; required = required; fields = fields; bytes = section })
written_by call = []

-- the instructions of the decoder stream that a call heard
abbrev pub IsHeardBy : Call → EncodingEnd → EncodingEnd → List DecoderInstruction → Type 0
IsHeardBy (Receive bytes answer) old new heard = hear_in_turn old.table heard ≡ Ok new.table
IsHeardBy call old new heard = heard ≡ []

-- the sections without the oldest of a stream, and those that wait once instructions were heard
abbrev pub without_first : ℕ → List Section → List Section
without_first s [] = []
without_first s (k ∷ ks) = if nat_eq k.stream s then ks else k ∷ without_first s ks

abbrev pub released : List DecoderInstruction → List Section → List Section
released [] ks = ks
released (Acknowledgment s ∷ heard) ks = released heard (without_first s ks)
released (Cancellation s ∷ heard) ks = released heard (filter (λ k. not (nat_eq k.stream s)) ks)
released (Increment by ∷ heard) ks = released heard ks

-- what a call makes of it, as its contract says
pub record Writes (call : Call) (old new : Writer) : Type 0 where
  pub step : Step call old.end new.end
  pub sent : new.sent ≡ old.sent ++ sent_by call old.end
  pub heard : List DecoderInstruction
  pub hears : IsHeardBy call old.end new.end heard
  pub sections : new.sections ≡ released heard old.sections ++ written_by call

-- what calls in turn make of it
abbrev pub WritesAll : List Call → Writer → Writer → Type 0
WritesAll [] old new = new ≡ old
WritesAll (call ∷ calls) old new = (now : Writer) × Writes call old now × WritesAll calls now new

-- what a call requires: the names and values of a section are bytes; the section takes fewer than 2^63, and so does
-- what is to be sent, as all that one vector keeps
abbrev pub Fits : Call → Writer → Type 0
Fits (Encode s fields wishes section answer) new =
    AllByRecursion IsByteField (fields_of_lines fields) × (length new.end.unsent < 2 ^ 63)
    × (length section < 2 ^ 63)
Fits call new = Unit {0}

abbrev pub AllFit : (calls : List Call) (old new : Writer) → WritesAll calls old new → Type 0
AllFit [] old new run = Unit {0}
AllFit (call ∷ calls) old new run = Fits call run.0 × AllFit calls run.0 new run.2

-- ---- all that it wrote is lawful

-- a section under way: one that is neither acknowledged nor cancelled; and one on this stream that requires nothing
abbrev pub open_section : UnacknowledgedBlock → UnderWay
open_section b = record { stream = b.stream; required = required_by b }

abbrev pub free_section : ℕ → UnderWay
free_section s = record { stream = s; required = 0 }

-- the encoder that a decoder sees: what was written, the insertions that it makes, and how many are known to be
-- received. Its sections under way are those that are neither acknowledged nor cancelled, and any on these streams that
-- require nothing
abbrev pub encoder_of : List EncoderInstruction → History → List ℕ → Writer → Encoder
encoder_of instructions made free w =
    record {
      sent = instructions;
      bytes = written w;
      made = made;
      known = w.end.table.known_received_count;
      sections = map (λ b. open_section b) w.end.table.unacknowledged ++ map (λ s. free_section s) free;
    }

-- a decoding end of its peer: it has the maximum capacity that the encoder knows, permits no fewer blocked streams, and
-- has reported all insertions that the encoder knows to be received
pub record IsPeer (settings : EncoderSettings) (w : Writer) (d : DecodingEnd) : Type 0 where
  pub capacity : d.settings.max_capacity ≡ settings.max_capacity
  pub blocked : settings.max_blocked ≤ d.settings.max_blocked
  pub told : w.end.table.known_received_count ≤ d.reported

-- a section that waits is the one that the table has as not acknowledged, and it is lawful still
pub record IsLawfulStill (maximum : ℕ) (made : History) (k : Section) (b : UnacknowledgedBlock) : Type 0 where
  pub stream_is : k.stream ≡ b.stream
  pub required_is : k.required ≡ required_by b
  pub lawful : IsLawfulSection maximum made k.required k.fields k.bytes

-- all that was written is lawful for each decoding end of a peer (sections 2.1.1 and 2.1.2): the encoder stream,
-- however much of it has come; each section that waits, which are those that the table has; and for each section under
-- way the limit of blocked streams, if those that wait at the decoder are under way too
pub record KeepsToTheStandard (settings : EncoderSettings) (w : Writer) : Type 0 where
  pub instructions : List EncoderInstruction
  pub made : History
  pub stream : (free : List ℕ) (d : DecodingEnd) (come behind : List ℕ) → IsPeer settings w d
      → written w ≡ come ++ behind → IsLawful (encoder_of instructions made free w) d come
  pub sections : Agrees (IsLawfulStill settings.max_capacity made) w.sections w.end.table.unacknowledged
  pub limit : (free : List ℕ) (d : DecodingEnd) (stream required : ℕ) → IsPeer settings w d
      → IsUnderWay (encoder_of instructions made free w) stream required
      → AllByRecursion (λ b. IsUnderWay (encoder_of instructions made free w) b.stream b.required) d.blocked
      → KeepsToLimit (encoder_of instructions made free w) d stream required

-- a section that a call wrote is lawful, and under way
abbrev pub WritesSection : EncoderSettings → List EncoderInstruction → History → Call → Writer → Type 0
WritesSection settings instructions made (Encode s fields wishes section (Ok required)) w =
    IsLawfulSection settings.max_capacity made required fields section
    × IsUnderWay (encoder_of instructions made (s ∷ []) w) s required
WritesSection settings instructions made call w = Unit {0}

-- so it is after each call
abbrev pub AllKeep : EncoderSettings → (calls : List Call) (old new : Writer) → WritesAll calls old new → Type 0
AllKeep settings [] old new run = Unit {0}
AllKeep settings (call ∷ calls) old new run =
    (k : KeepsToTheStandard settings run.0) × WritesSection settings k.instructions k.made call run.0
    × AllKeep settings calls run.0 new run.2

-- for all calls from an unused encoder on, whatever its peer writes
abbrev pub EncodersKeepToTheStandard : Type 0
EncodersKeepToTheStandard =
    (settings : EncoderSettings) (calls : List Call) (first last : Writer) → IsUnused settings first.end
    → first.sent ≡ [] → first.sections ≡ [] → (run : WritesAll calls first last) → AllFit calls first last run
    → KeepsToTheStandard settings first × AllKeep settings calls first last run

-- and all calls from an unused encoder on are such, with nothing sent and no section waiting at first
abbrev pub EncodersAreWriters : Type 0
EncodersAreWriters =
    (settings : EncoderSettings) (calls : List Call) (first last : EncodingEnd) → IsUnused settings first
    → Run calls first last
    → (w : Writer) × (w.end ≡ last) × WritesAll calls (record { end = first; sent = []; sections = [] }) w

-- ---- what a decoding end writes

-- the bytes of the decoder stream that a call sends, and that calls in turn send
abbrev pub sends : decoding.Call → DecodingEnd → List ℕ
sends (decoding.Sent many) d = take many d.unsent
sends call d = []

abbrev pub all_sent : (calls : List decoding.Call) (old new : Decoder) → decoding.Run calls old new → List ℕ
all_sent [] old new run = []
all_sent (call ∷ calls) old new run = sends call old.end ++ all_sent calls run.0 new run.2

-- of the sections of its peer that are neither acknowledged nor cancelled, those that are so after a call (sections
-- 2.2.2.1 and 2.2.2.2). A section that is decoded, or ends in pieces, and requires insertions is the oldest of its stream.
-- A stream that is cancelled has none; at a maximum of 0 no cancellation is written
abbrev pub Releases : ℕ → decoding.Call → List UnacknowledgedBlock → List UnacknowledgedBlock → Type 0
Releases maximum (decoding.Decode s section fields (Ok (reading.Fields (suc n)))) sections others =
    (oldest_required s sections ≡ Some section.required) × (without_oldest s sections ≡ Some others)
Releases maximum (decoding.Read s bytes left last fields (Ok (progress.Ends (suc n)))) sections others =
    (oldest_required s sections ≡ Some (suc n)) × (without_oldest s sections ≡ Some others)
Releases maximum (decoding.Cancel s (Ok done)) sections others =
    others ≡ (if nat_eq maximum 0 then sections else without_stream s sections)
Releases maximum call sections others = others ≡ sections

-- so the sections of each stream are decoded in the order in which they were written
abbrev pub AreInOrder : ℕ → List decoding.Call → List UnacknowledgedBlock → Type 0
AreInOrder maximum [] sections = Unit {0}
AreInOrder maximum (call ∷ calls) sections =
    (others : List UnacknowledgedBlock) × Releases maximum call sections others × AreInOrder maximum calls others

-- the bytes are instructions that a decoder may write which has received this number of insertions (sections 2.1.4 and
-- 4.4): acknowledgments of sections that it has decoded, cancellations, and increments of no more than it has received
pub record WritesWhatItMay (received : ℕ) (sections : List UnacknowledgedBlock) (bytes : List ℕ) : Type 0 where
  pub instructions : List DecoderInstruction
  pub spelled : SpellsAll SpellsDecoderInstruction bytes instructions
  pub may : MayWrite received 0 sections instructions

-- all that it wrote is what it may write, after any calls from a new decoder on, with any lawful encoder whose sections
-- that require insertions are these
abbrev pub DecodersWriteWhatTheyMay : Type 0
DecodersWriteWhatTheyMay =
    (settings : DecoderSettings) (calls : List decoding.Call) (first last : Decoder)
    (sections : List UnacknowledgedBlock) → Begins settings first.end → first.come ≡ []
    → ((s : ℕ) → first.coming s ≡ None) → (run : decoding.Run calls first last) → decoding.AreLawful calls first last run
    → AreInOrder settings.max_capacity calls sections
    → WritesWhatItMay (insert_count last.end.table) sections (all_sent calls first last run ++ last.end.unsent)

-- a decoder that has received this number of insertions may write these instructions next, by what an encoder with this
-- table knows of it
pub record MayStillWrite (received : ℕ) (t : Table) (more : List DecoderInstruction) : Type 0 where
  pub may : MayWrite received t.known_received_count t.unacknowledged more
  pub known : t.known_received_count ≤ received
  pub made : received ≤ insert_count t
  pub few : insert_count t < 2 ^ 64

-- once a front of them was heard it may write the rest, as the encoder knows of it then
abbrev pub HeardFrontsLeaveTheRest : Type 0
HeardFrontsLeaveTheRest =
    (t u : Table) (received : ℕ) (front more : List DecoderInstruction) → MayStillWrite received t (front ++ more)
    → hear_in_turn t front ≡ Ok u → MayStillWrite received u more
