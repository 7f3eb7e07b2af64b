-- What the decoding end of a connection promises with any peer that follows the standard, over calls and their results:
-- it refuses nothing of the encoder stream, and decodes each section, whole or in pieces, to exactly what it means (RFC
-- 9204, sections 2.1, 2.2, 3.2, 4.3 and 4.5).
use Rattle.std.specs.Prelude.{◌≡◌, ◌<◌, ◌≤◌, ◌^◌, ℕ, ⊤, Bool, true, false, List, [], ◌∷◌, ◌++◌, length, drop}
use Rattle.std.specs.Prelude.{Option, None, Some, Result, Ok, Err, slice_get}
use Rattle.std.specs.List.{AllByRecursion}
use Rattle.qpack_spec.specs.Field.{FieldLine, fields_of_lines, total_size}
use Rattle.qpack_spec.specs.History.{History}
use Rattle.qpack_spec.specs.Instruction.{EncoderInstruction, SpellsEncoderInstruction}
use Rattle.qpack_rules.specs.LawfulEncoders.{IsLawfulEncoder, IsLawfulSection}
use Rattle.qpack_spec.specs.Stream.{SpellsAll}
use Rattle.qpack_spec.specs.StrictReading.{strict_reading}
use Rattle.qpack_spec.specs.Table.{Table, insert_count, window, has_number}
use Rattle.qpack_decoding.specs.declared.decoder.DecoderSettings.{DecoderSettings}
use Rattle.qpack_decoding.specs.declared.decoder.DecodingError.{DecodingError}
use Rattle.qpack_decoding.specs.declared.decoder.DecodingError.TheVariants.{NoStream, Memory}
use Rattle.qpack_decoding.specs.declared.section.Reading.{Reading}
use Rattle.qpack_decoding.specs.declared.section.reader.Progress.{Progress}
use Rattle.qpack_decoding.specs.declared.section.reader.Progress.TheVariants as progress
use Rattle.qpack_connection.specs.Connections.{SentSection}
use Rattle.qpack_decoding.specs.Decoders.{DecodingEnd, Begins, IsTaken, Decodes, Cancels, ReceivesBytes}
use Rattle.qpack_decoding.specs.PieceDecoders.{ReadsPiece}
use Rattle.qpack_decoding.specs.Pieces.{ReaderView, fresh}
use Rattle.qpack_decoding.specs.Receiving.{Receives}
use Rattle.qpack_connection.specs.RefinedDecodes.{AnswersSection}
use Rattle.qpack_connection.specs.RefinedRefusals.{StopsCancelling}

-- ---- what the peer follows

-- a section that an encoder has written, and that is not acknowledged, nor its stream cancelled: the stream, and how
-- many insertions it requires
pub record UnderWay : Type 0 where
  pub stream : ℕ
  pub required : ℕ

-- an encoder as it is when a call is made: the instructions that it has written and their bytes, the insertions that
-- they make, how many of these it knows to be received, and its sections that are under way
pub record Encoder : Type 0 where
  pub sent : List EncoderInstruction
  pub bytes : List ℕ
  pub made : History
  pub known : ℕ
  pub sections : List UnderWay

-- it follows the standard, in any spelling; these bytes have come of what it wrote; and it knows of no more insertions
-- than this decoder has reported (section 2.1.4)
pub record IsLawful (p : Encoder) (d : DecodingEnd) (come : List ℕ) : Type 0 where
  pub encoder : IsLawfulEncoder d.settings.max_capacity p.known p.sent p.made
  pub spelled : SpellsAll SpellsEncoderInstruction p.bytes p.sent
  pub behind : List ℕ
  pub come_is : p.bytes ≡ come ++ behind
  pub told : p.known ≤ d.reported

-- a section of a stream that requires this many insertions is under way
abbrev pub IsUnderWay : Encoder → ℕ → ℕ → Type 0
IsUnderWay p stream required =
    (i : ℕ) × (slice_get p.sections i ≡ Some (record { stream = stream; required = required }))

-- a stream may become blocked: a section of it requires an insertion that is not known to be received (section 2.1.2)
abbrev pub IsAtRisk : Encoder → ℕ → Type 0
IsAtRisk p stream = (required : ℕ) × IsUnderWay p stream required × (p.known < required)

-- numbers that differ from each other, and from those that were seen
abbrev pub Differ : List ℕ → List ℕ → Type 0
Differ seen [] = Unit {0}
Differ seen (n ∷ ns) = (has_number n seen ≡ false) × Differ (n ∷ seen) ns

-- the encoder keeps the limit of blocked streams: no more of them are at risk than may be blocked. A section that is
-- decoded now is under way, and so are those that wait at the decoder, which has not acknowledged them (section 2.1.2)
pub record KeepsToLimit (p : Encoder) (d : DecodingEnd) (stream required : ℕ) : Type 0 where
  pub few : (streams : List ℕ) → Differ [] streams → AllByRecursion (IsAtRisk p) streams
      → length streams ≤ d.settings.max_blocked
  pub this : IsUnderWay p stream required
  pub waiting : AllByRecursion (λ b. IsUnderWay p b.stream b.required) d.blocked

-- ---- the calls

-- a section that comes in pieces: what was written, its reader, the bytes that are still to be read, and the fields that
-- are still to be given
pub record Coming : Type 0 where
  pub sent : SentSection
  pub reader : ReaderView
  pub rest : List ℕ
  pub fields : List FieldLine

-- one that begins to come on a stream
abbrev pub begins : ℕ → SentSection → Coming
begins stream sent = record { sent = sent; reader = fresh stream; rest = sent.bytes; fields = sent.fields }

-- a decoding end, the bytes of the encoder stream that it has received, and for each stream the section that comes on it
-- in pieces
pub record Decoder : Type 0 where
  pub end : DecodingEnd
  pub come : List ℕ
  pub coming : ℕ → Option Coming

-- a call of it, and its result; of the bytes that are received some may be left, which come again. A section that is to
-- come in pieces begins, and is read on. The decoder stream is taken, and bytes of it are sent
pub data Call : Type 0 where
  Receive : (bytes left : List ℕ) (answer : Result ℕ DecodingError) → Call
  Decode : (stream : ℕ) (section : SentSection) (fields : List FieldLine) (answer : Result Reading DecodingError) → Call
  Begin : (stream : ℕ) (section : SentSection) → Call
  Read : (stream : ℕ) (bytes left : List ℕ) (last : Bool) (fields : List FieldLine)
      (answer : Result Progress DecodingError) → Call
  Cancel : (stream : ℕ) (answer : Result ⊤ DecodingError) → Call
  Take : Call
  Sent : (bytes : ℕ) → Call

-- this comes on a stream, and on each other what came before
pub record Comes (stream : ℕ) (this : Option Coming) (old new : ℕ → Option Coming) : Type 0 where
  pub here : new stream ≡ this
  pub others : (s : ℕ) → (s ≡ stream → ⊥) → new s ≡ old s

-- what is still to come after a call that read on; once the section has ended, nothing
abbrev pub after_piece : Coming → ReaderView → List ℕ → List ℕ → List FieldLine → Result Progress DecodingError
    → Option Coming
after_piece c reader bytes left fields (Ok (progress.Ends required)) = None
after_piece c reader bytes left fields answer =
    Some (record c {
      reader = reader;
      rest = left ++ drop (length bytes) c.rest;
      fields = drop (length fields) c.fields;
    })

-- the section of a stream is read on, as the contract says
pub record ReadsOnStream (old new : Decoder) (stream : ℕ) (bytes left : List ℕ) (last : Bool) (fields : List FieldLine)
    (answer : Result Progress DecodingError) : Type 0 where
  pub coming : Coming
  pub is : old.coming stream ≡ Some coming
  pub reader : ReaderView
  pub reads : ReadsPiece old.end new.end last coming.reader reader bytes left fields answer
  pub comes : Comes stream (after_piece coming reader bytes left fields answer) old.coming new.coming

-- what a call makes of the decoder, as its contract says
abbrev pub Step : Call → Decoder → Decoder → Type 0
Step (Receive bytes left answer) old new =
    (old.end.failure ≡ None → (start : Table) (before : List ℕ) → Receives start old.end.table before old.end.stream
    → ReceivesBytes start before old.end new.end bytes left answer)
    × (new.come ++ left ≡ old.come ++ bytes) × (new.coming ≡ old.coming)
Step (Decode s section fields answer) old new =
    Decodes old.end new.end s (strict_reading (window old.end.table) old.end.settings.max_section_size section.bytes)
    fields answer
    × (new.come ≡ old.come) × (new.coming ≡ old.coming)
Step (Begin s section) old new =
    (new.end ≡ old.end) × (new.come ≡ old.come) × Comes s (Some (begins s section)) old.coming new.coming
Step (Read s bytes left last fields answer) old new =
    ReadsOnStream old new s bytes left last fields answer × (new.come ≡ old.come)
Step (Cancel s answer) old new = Cancels old.end new.end s answer × (new.come ≡ old.come) × (new.coming ≡ old.coming)
Step Take old new = IsTaken old.end new.end × (new.come ≡ old.come) × (new.coming ≡ old.coming)
Step (Sent bytes) old new =
    (new.end ≡ record old.end { unsent = drop bytes old.end.unsent }) × (new.come ≡ old.come)
    × (new.coming ≡ old.coming)

-- what calls in turn make of it
abbrev pub Run : List Call → Decoder → Decoder → Type 0
Run [] old new = new ≡ old
Run (call ∷ calls) old new = (now : Decoder) × Step call old now × Run calls now new

-- ---- what is required, and what is promised

-- the bytes are the next of a section that comes in pieces, and with `last` its last: a lawful encoder may have written
-- it within the limit of blocked streams, its fields are within the decoder's own limit, and it has fewer than 2^64 bytes
pub record IsLawfulPiece (d : Decoder) (stream : ℕ) (bytes : List ℕ) (last : Bool) : Type 0 where
  pub coming : Coming
  pub is : d.coming stream ≡ Some coming
  pub encoder : Encoder
  pub lawful : IsLawful encoder d.end d.come
  pub section : IsLawfulSection d.end.settings.max_capacity encoder.made coming.sent.required coming.sent.fields
      coming.sent.bytes
  pub limit : KeepsToLimit encoder d.end stream coming.sent.required
  pub within : total_size (fields_of_lines coming.sent.fields) ≤ d.end.settings.max_section_size
  pub short : length coming.sent.bytes < 2 ^ 64
  pub more : List ℕ
  pub next : coming.rest ≡ bytes ++ more
  pub whole : last ≡ true → more ≡ []

-- what a call requires: the bytes are the next that a lawful encoder wrote; or the section, or a piece of it, is one that
-- it may have written within the limit of blocked streams
abbrev pub IsLawfulCall : Call → Decoder → Type 0
IsLawfulCall (Receive bytes left answer) d = (p : Encoder) × IsLawful p d.end (d.come ++ bytes)
IsLawfulCall (Decode s section fields answer) d =
    (p : Encoder) × IsLawful p d.end d.come
    × IsLawfulSection d.end.settings.max_capacity p.made section.required section.fields section.bytes
    × KeepsToLimit p d.end s section.required
IsLawfulCall (Read s bytes left last fields answer) d = IsLawfulPiece d s bytes last
IsLawfulCall call d = Unit {0}

abbrev pub AreLawful : (calls : List Call) (old new : Decoder) → Run calls old new → Type 0
AreLawful [] old new run = Unit {0}
AreLawful (call ∷ calls) old new run = IsLawfulCall call old × AreLawful calls run.0 new run.2

-- what a piece of a section gives: the next of its fields; before the first of them, how many insertions the section
-- requires, and how many it waits for, while fewer were received; nothing, if all bytes were consumed and others are to
-- come; and the end, once all bytes were read and all fields given
abbrev pub AnswersPiece : DecodingEnd → ℕ → Coming → List ℕ → List ℕ → Bool → List FieldLine
    → Result Progress DecodingError → Type 0
AnswersPiece d stream c more left last fields (Ok progress.Waits) = (fields ≡ []) × (left ≡ []) × (last ≡ false)
AnswersPiece d stream c more left last fields (Ok (progress.Prefix required)) =
    (fields ≡ []) × (required ≡ c.sent.required)
AnswersPiece d stream c more left last fields (Ok (progress.Blocked required)) =
    (fields ≡ []) × (required ≡ c.sent.required) × (insert_count d.table < c.sent.required)
AnswersPiece d stream c more left last fields (Ok progress.Field) =
    (f : FieldLine) × (others : List FieldLine) × (fields ≡ f ∷ []) × (c.fields ≡ f ∷ others)
AnswersPiece d stream c more left last fields (Ok (progress.Ends required)) =
    (fields ≡ []) × (c.fields ≡ []) × (left ++ more ≡ []) × (required ≡ c.sent.required)
    × (c.sent.required ≤ insert_count d.table)
AnswersPiece d stream c more left last fields (Err Memory) = fields ≡ []
AnswersPiece d stream c more left last fields (Err (NoStream s)) = (fields ≡ []) × (s ≡ stream) × (2 ^ 62 ≤ stream)
AnswersPiece d stream c more left last fields (Err e) = ⊥

-- what a call returns: how many insertions were received so far, which are all that were made once all bytes have come
-- that the encoder wrote; exactly the fields that the section means, with their marks, or how many insertions it waits
-- for; or that memory is refused, that the stream number is invalid, or that the sizes of the fields are past the
-- decoder's own limit
abbrev pub Answers : (call : Call) (old new : Decoder) → IsLawfulCall call old → Type 0
Answers (Receive bytes left (Ok total)) old new asked =
    (total ≡ insert_count new.end.table) × (left ≡ [])
    × (asked.0.bytes ≡ old.come ++ bytes → total ≡ length asked.0.made.inserted)
Answers (Receive bytes left (Err e)) old new asked = e ≡ Memory
Answers (Decode s section fields answer) old new asked = AnswersSection old.end s section fields answer
Answers (Begin s section) old new asked = Unit {0}
Answers (Read s bytes left last fields answer) old new asked =
    AnswersPiece old.end s asked.coming asked.more left last fields answer
Answers (Cancel s (Ok done)) old new asked = Unit {0}
Answers (Cancel s (Err e)) old new asked = StopsCancelling s e
Answers Take old new asked = Unit {0}
Answers (Sent bytes) old new asked = Unit {0}

-- each call in turn returns this, and no error ends the connection
abbrev pub AllAnswer : (calls : List Call) (old new : Decoder) (run : Run calls old new) → AreLawful calls old new run
    → Type 0
AllAnswer [] old new run asked = Unit {0}
AllAnswer (call ∷ calls) old new run asked =
    Answers call old run.0 asked.0 × (run.0.end.failure ≡ None) × AllAnswer calls run.0 new run.2 asked.1

-- for all calls from a new decoder on, with any lawful encoder
abbrev pub LawfulEncodersAreUnderstood : Type 0
LawfulEncodersAreUnderstood =
    (settings : DecoderSettings) (calls : List Call) (first last : Decoder) → Begins settings first.end
    → first.come ≡ [] → ((s : ℕ) → first.coming s ≡ None) → (run : Run calls first last)
    → (asked : AreLawful calls first last run)
    → AllAnswer calls first last run asked
