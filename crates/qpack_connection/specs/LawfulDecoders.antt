-- What the encoding end of a connection promises, over calls and their results. With any peer it evicts nothing that
-- may still be needed, and keeps the limit of blocked streams. With a peer that follows the standard it refuses nothing
-- of the decoder stream, and goes on inserting (RFC 9204, sections 2.1, 2.2.2 and 4.4).
use Rattle.std.specs.Prelude.{◌≡◌, ◌<◌, ◌≤◌, ◌^◌, ℕ, ⊤, false, List, [], ◌∷◌, ◌++◌, length, drop, None, Result, Ok, Err}
use Rattle.std.specs.Option.{IfSome}
use Rattle.qpack_spec.specs.Field.{FieldLine}
use Rattle.qpack_spec.specs.Instruction.{DecoderInstruction, SpellsDecoderInstruction}
use Rattle.qpack_rules.specs.LawfulDecoders.{MayWrite, KeepsNeeded, IsQuiet, IsToBeInserted}
use Rattle.qpack_spec.specs.Marked.{coded_marked_block}
use Rattle.qpack_spec.specs.Reading.{Block, references_of}
use Rattle.qpack_spec.specs.Stream.{SpellsAll}
use Rattle.qpack_spec.specs.Table.{insert_count, with_numbers, with_unacknowledged}
use Rattle.qpack_spec.specs.Text.{WhereShorter}
use Rattle.qpack_encoding.specs.declared.encoder.EncoderSettings.{EncoderSettings}
use Rattle.qpack_encoding.specs.declared.encoder.EncodingError.{EncodingError}
use Rattle.qpack_encoding.specs.Encoders.{EncodingEnd, IsUnused, begun, is_full, Encodes, SetsCapacity, StopsTelling}
use Rattle.qpack_encoding.specs.Encoders.{Shrinks, StopsShrinking, ReceivesBytes}
use Rattle.qpack_encoding.specs.Hearing.{Receives}
use Rattle.qpack_encoding.specs.Risk.{streams_at_risk}
use Rattle.qpack_encoding.specs.Wishes.{EncodesAsWished}
use Rattle.qpack_codec.specs.declared.encoder.choices.Wish.{Wish}
use Rattle.qpack_codec.specs.declared.encoder.choices.Wish.TheVariants.{Insert}
use Rattle.qpack_connection.specs.RefinedRefusals.{StopsEncoding}

-- ---- the calls

-- a call of an encoding end, and its result
pub data Call : Type 0 where
  Encode : (stream : ℕ) (fields : List FieldLine) (wishes : List Wish) (section : List ℕ)
      (answer : Result ℕ EncodingError) → Call
  SetCapacity : (capacity : ℕ) (answer : Result ⊤ EncodingError) → Call
  Shrink : (capacity : ℕ) (answer : Result ⊤ EncodingError) → Call
  Receive : (bytes : List ℕ) (answer : Result ⊤ EncodingError) → Call
  Sent : (bytes : ℕ) → Call

-- what a call makes of the end, as its contract says
abbrev pub Step : Call → EncodingEnd → EncodingEnd → Type 0
Step (Encode s fields wishes section answer) old new =
    Encodes old new s fields [] section answer × EncodesAsWished old new s fields wishes [] section answer
Step (SetCapacity capacity answer) old new = SetsCapacity old new capacity answer
Step (Shrink capacity answer) old new = Shrinks old new capacity answer
Step (Receive bytes answer) old new =
    (old.failure ≡ None → (heard : List DecoderInstruction) (before : List ℕ) → Receives heard before old.stream
    → ReceivesBytes heard before old new bytes answer)
    × IfSome old.failure (λ e. (answer ≡ Err e) × (new ≡ old))
Step (Sent bytes) old new = new ≡ record old { unsent = drop bytes old.unsent }

-- what calls in turn make of it
abbrev pub Run : List Call → EncodingEnd → EncodingEnd → Type 0
Run [] old new = new ≡ old
Run (call ∷ calls) old new = (now : EncodingEnd) × Step call old now × Run calls now new

-- ---- with any peer

-- what holds after each call: nothing is evicted that may still be needed, and no more streams may be blocked than the
-- peer permits: those with a section that is neither acknowledged nor cancelled, and requires insertions that are not
-- known to be received (sections 2.1.1 and 2.1.2)
pub record IsCareful (settings : EncoderSettings) (e : EncodingEnd) : Type 0 where
  pub needed : KeepsNeeded e.table
  pub blocked : length (streams_at_risk e.table) ≤ settings.max_blocked

-- a section that was written counts as not acknowledged, with exactly the entries that its lines reference; one that
-- references none does not count (sections 2.1.1 and 2.2.2.1)
pub record CountsSection (old new : EncodingEnd) (stream : ℕ) (fields : List FieldLine) (section : List ℕ) :
    Type 0 where
  pub block : Block
  pub written : section ≡ coded_marked_block WhereShorter fields block
  pub counted : new.table.unacknowledged
      ≡ with_unacknowledged old.table.unacknowledged stream
      (with_numbers [] (references_of (insert_count old.table) block.lines))

-- so does each section that a call wrote
abbrev pub Counts : Call → EncodingEnd → EncodingEnd → Type 0
Counts (Encode s fields wishes section (Ok required)) old new = CountsSection (begun old) new s fields section
Counts call old new = Unit {0}

abbrev pub AllCareful : EncoderSettings → (calls : List Call) (old new : EncodingEnd) → Run calls old new → Type 0
AllCareful settings [] old new run = Unit {0}
AllCareful settings (call ∷ calls) old new run =
    Counts call old run.0 × IsCareful settings run.0 × AllCareful settings calls run.0 new run.2

-- for all calls from an unused encoder on, whatever its peer writes
abbrev pub EncodersAreCareful : Type 0
EncodersAreCareful =
    (settings : EncoderSettings) (calls : List Call) (first last : EncodingEnd) → IsUnused settings first
    → (run : Run calls first last) → AllCareful settings calls first last run

-- ---- with a lawful peer

-- a decoder as it is when some bytes of it come: what the end has heard of it, and what is under way, in any spelling,
-- of which these bytes come next; of the insertions that were made it has received some, and what is under way it may
-- write (section 4.4)
pub record IsLawful (e : EncodingEnd) (bytes : List ℕ) : Type 0 where
  pub heard : List DecoderInstruction
  pub before : List ℕ
  pub receives : Receives heard before e.stream
  pub under_way : List DecoderInstruction
  pub behind : List ℕ
  pub spelled : SpellsAll SpellsDecoderInstruction ((before ++ bytes) ++ behind) (heard ++ under_way)
  pub received : ℕ
  pub made : received ≤ insert_count e.table
  pub known : e.table.known_received_count ≤ received
  pub may : MayWrite received e.table.known_received_count e.table.unacknowledged under_way

-- what a call requires: the bytes are the next that a lawful decoder wrote
abbrev pub IsLawfulCall : Call → EncodingEnd → Type 0
IsLawfulCall (Receive bytes answer) e = IsLawful e bytes
IsLawfulCall call e = Unit {0}

abbrev pub AreLawful : (calls : List Call) (old new : EncodingEnd) → Run calls old new → Type 0
AreLawful [] old new run = Unit {0}
AreLawful (call ∷ calls) old new run = IsLawfulCall call old × AreLawful calls run.0 new run.2

-- a section whose first field is new, and is to be inserted by the caller's wish, requires an insertion that was not
-- made before, if nothing is under way, some stream may be blocked, and some section may wait for its acknowledgment
abbrev pub GoesOn : EncoderSettings → EncodingEnd → List FieldLine → List Wish → ℕ → Type 0
GoesOn settings e (l ∷ more) (Insert ∷ words) required =
    IsQuiet e.table → IsToBeInserted e.table l → 0 < settings.max_blocked → is_full e ≡ false
    → insert_count e.table < 2 ^ 62 → insert_count e.table < required
GoesOn settings e fields wishes required = Unit {0}

-- what a call returns: a section is encoded, and insertions go on, or memory is refused or the stream number is
-- invalid; a capacity is set, or it is above the maximum, or it would evict an entry that may be needed, or memory is
-- refused; one that may wait is set or waits, or it is above the maximum, or memory is refused; and nothing of the decoder
-- stream is refused
abbrev pub Answers : EncoderSettings → Call → EncodingEnd → Type 0
Answers settings (Encode s fields wishes section (Ok required)) old =
    GoesOn settings (begun old) fields wishes required
Answers settings (Encode s fields wishes section (Err e)) old = StopsEncoding s e
Answers settings (SetCapacity capacity (Ok done)) old = Unit {0}
Answers settings (SetCapacity capacity (Err e)) old = StopsTelling old.table capacity e
Answers settings (Shrink capacity (Ok done)) old = Unit {0}
Answers settings (Shrink capacity (Err e)) old = StopsShrinking old.table capacity e
Answers settings (Receive bytes answer) old = answer ≡ Ok tt
Answers settings (Sent bytes) old = Unit {0}

-- each call in turn returns this, and no error ends the connection
abbrev pub AllAnswer : EncoderSettings → (calls : List Call) (old new : EncodingEnd) → Run calls old new → Type 0
AllAnswer settings [] old new run = Unit {0}
AllAnswer settings (call ∷ calls) old new run =
    Answers settings call old × (run.0.failure ≡ None) × AllAnswer settings calls run.0 new run.2

-- for all calls from an unused encoder on, with any lawful decoder
abbrev pub LawfulDecodersAreUnderstood : Type 0
LawfulDecodersAreUnderstood =
    (settings : EncoderSettings) (calls : List Call) (first last : EncodingEnd) → IsUnused settings first
    → (run : Run calls first last) → AreLawful calls first last run → AllAnswer settings calls first last run
