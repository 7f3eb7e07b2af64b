-- A decoding end writes what it may, with any lawful encoder.
use Rattle.std.proofs.Common.{◌≡◌, ◌<◌, ◌≤◌, ◌+◌, ◌-◌, ◌^◌, ◌⊎◌, ℕ, zero, suc, max, Bool, true, false, cond, List, []}
use Rattle.std.proofs.Common.{◌∷◌, ◌++◌, drop, Some, Result, Ok, Err, refl, sym, ap, subst}
use Rattle.std.proofs.Common.{◌∙◌, arith, inl, inr}
use Rattle.std.specs.List.{AllByRecursion}
use Rattle.std.specs.Prelude.{⊤, nat_eq, nat_lt}
use Rattle.std.proofs.lemmas.Bool.{ltb-false}
use Rattle.std.proofs.lemmas.List.{append_assoc, append-nil, take-append-drop}
use Rattle.qpack_spec.specs.Field.{FieldLine}
use Rattle.qpack_spec.specs.Instruction.{DecoderInstruction, Acknowledgment, Cancellation, SpellsDecoderInstruction}
use Rattle.qpack_spec.specs.Instruction.{written_decoder_instruction}
use Rattle.qpack_rules.specs.LawfulDecoders.{MayWrite}
use Rattle.qpack_rules.specs.Session.{sum_of, increments, IsPiece, pieces_of}
use Rattle.qpack_spec.specs.Stream.{SpellsAll}
use Rattle.qpack_rules.specs.StrictInstructions.{oldest_required}
use Rattle.qpack_spec.specs.StrictReading.{StrictReading, strict_reading}
use Rattle.qpack_spec.specs.Table.{UnacknowledgedBlock, insert_count, window, without_oldest, without_stream}
use Rattle.qpack_spec.proofs.Cuttings.{joined_append}
use Rattle.qpack_rules.proofs.Pieces.{pieces_add_up, pieces_small}
use Rattle.qpack_spec.proofs.WrittenForms.{decoder_instructions_spelled}
use Rattle.qpack_safety.proofs.Shown.{decoder_instructions_joined, increments_writable, one_joined}
use Rattle.qpack_codec.specs.Receiving.{written_report}
use Rattle.qpack_decoding.specs.declared.decoder.DecoderSettings.{DecoderSettings}
use Rattle.qpack_decoding.specs.declared.decoder.DecodingError.{DecodingError}
use Rattle.qpack_decoding.specs.declared.decoder.DecodingError.TheVariants.{EncoderStream, Section, TooManyBlocked}
use Rattle.qpack_decoding.specs.declared.decoder.DecodingError.TheVariants.{NoStream, Memory}
use Rattle.qpack_decoding.specs.declared.encoder_stream.EncoderStreamError.{EncoderStreamError}
use Rattle.qpack_decoding.specs.declared.section.Reading.{Reading}
use Rattle.qpack_decoding.specs.declared.section.Reading.TheVariants as reading
use Rattle.qpack_decoding.specs.declared.section.reader.Progress.{Progress}
use Rattle.qpack_decoding.specs.declared.section.reader.Progress.TheVariants as progress
use Rattle.qpack_decoding.specs.Decoders.{DecodingEnd, acknowledged, blocked_behind, with_report, received, cancelled, Checks}
use Rattle.qpack_decoding.specs.Decoders.{report_before, IsTaken, Decodes, Cancels, EndsReceiving, IsNotAnswered, StopsDecoding}
use Rattle.qpack_decoding.specs.PieceDecoders.{ReadsPiece, StopsPiece, Follows, unblocked}
use Rattle.qpack_decoding.specs.Pieces.{ReaderView}
use Rattle.qpack_connection.specs.Connections.{SentSection}
use Rattle.qpack_connection.specs.LawfulEncoders.{Decoder, Coming, Call, Receive, Decode, Begin, Read as ReadPiece}
use Rattle.qpack_connection.specs.LawfulEncoders.{Cancel, Take, Sent, Step, Run, AnswersPiece}
use Rattle.qpack_connection.specs.LawfulEncoders.{IsLawfulCall, AreLawful}
use Rattle.qpack_connection.specs.LawfulEnds.{sends, all_sent, Releases, AreInOrder}
use Rattle.qpack_connection.specs.LawfulEnds.{DecodersWriteWhatTheyMay}
use Rattle.qpack_connection.specs.RefinedDecodes.{AnswersSection}
use Rattle.qpack_connection.proofs.RefinedDecodes.{refusal_is, stops_for_memory}
use Rattle.qpack_connection.proofs.UnderstoodCalls.{Holds, holds_first, some_is, step_answers}
use Rattle.qpack_connection.proofs.UnderstoodEncoders.{receive_answers}

-- ---- increments

may_increments : (most told : ℕ) (sections : List UnacknowledgedBlock) (ps : List ℕ) (more : List DecoderInstruction)
    → AllByRecursion IsPiece ps → told + sum_of ps ≤ most → MayWrite most (told + sum_of ps) sections more
    → MayWrite most told sections (increments ps ++ more)
may_increments most told sections [] more small within may =
    subst (λ (n : ℕ). MayWrite most n sections more) (omega arith) may
may_increments most told sections (p ∷ ps) more small within may = (
  omega (arith, small.0.0),
  omega (arith, within),
  may_increments most (told + p) sections ps more small.1 (omega (arith, within))
      (subst (λ (n : ℕ). MayWrite most n sections more) (omega arith) may),
)

-- what reports all insertions that were received
may_report : (most told count : ℕ) (sections : List UnacknowledgedBlock) (more : List DecoderInstruction) → told ≤ count
    → count ≤ most → MayWrite most count sections more
    → MayWrite most told sections (increments (pieces_of (count - told)) ++ more)
may_report most told count sections more low within may =
    let sum : told + sum_of (pieces_of (count - told)) ≡ count = omega (arith, low, pieces_add_up (count - told)) in
    may_increments most told sections (pieces_of (count - told)) more (pieces_small (count - told))
    (omega (arith, sum, within)) (subst (λ (n : ℕ). MayWrite most n sections more) (sym sum) may)

report_spelled : (many : ℕ) → SpellsAll SpellsDecoderInstruction (written_report many) (increments (pieces_of many))
report_spelled many =
    decoder_instructions_joined (increments (pieces_of many)) (increments_writable (pieces_of many) (pieces_small many))

-- ---- what a call writes

-- the bytes that are to be sent, of which a call sends some
abbrev left_of : Call → List ℕ → List ℕ
left_of (Sent many) b = drop many b
left_of call b = b

-- a call writes these instructions, which it may write before all that may be written after it
record WritesMore (call : Call) (x y : DecodingEnd) (sections others : List UnacknowledgedBlock) : Type 0 where
  pub instructions : List DecoderInstruction
  pub bytes : List ℕ
  pub unsent : y.unsent ≡ left_of call x.unsent ++ bytes
  pub spelled : SpellsAll SpellsDecoderInstruction bytes instructions
  pub may : (most : ℕ) (more : List DecoderInstruction) → insert_count y.table ≤ most
      → MayWrite most y.reported others more → MayWrite most x.reported sections (instructions ++ more)

-- it writes nothing
writes_none : (call : Call) (x y : DecodingEnd) (sections others : List UnacknowledgedBlock)
    → y.unsent ≡ left_of call x.unsent → y.reported ≡ x.reported → others ≡ sections
    → WritesMore call x y sections others
writes_none call x y sections others unsent reported same =
    record {
      instructions = [];
      bytes = [];
      unsent = unsent ∙ sym (append-nil (left_of call x.unsent));
      spelled = refl;
      may = λ most more within may.
          subst (λ (n : ℕ). MayWrite most n sections more) reported
          (subst (λ (bs : List UnacknowledgedBlock). MayWrite most y.reported bs more) same may);
    }

-- it reports what was received, of which no more was reported before
writes_report : (call : Call) (x d y : DecodingEnd) (sections others : List UnacknowledgedBlock)
    → d.unsent ≡ left_of call x.unsent → d.reported ≡ x.reported → d.reported ≤ insert_count d.table
    → y ≡ with_report d → others ≡ sections → WritesMore call x y sections others
writes_report call x d y sections others unsent reported told is same =
    let many = insert_count d.table - d.reported in
    record {
      instructions = increments (pieces_of many);
      bytes = written_report many;
      unsent = ap (λ (e : DecodingEnd). e.unsent) is ∙ ap (λ (b : List ℕ). b ++ written_report many) unsent;
      spelled = report_spelled many;
      may = λ most more within may.
          subst (λ (n : ℕ). MayWrite most n sections (increments (pieces_of many) ++ more)) reported
          (may_report most d.reported (insert_count d.table) sections more told
          (omega (arith, within, ap (λ (e : DecodingEnd). insert_count e.table) is))
          (subst (λ (n : ℕ). MayWrite most n sections more) (ap (λ (e : DecodingEnd). e.reported) is)
          (subst (λ (bs : List UnacknowledgedBlock). MayWrite most y.reported bs more) same may)));
    }

-- it acknowledges a section, after reporting all that was received, unless the acknowledgment does
writes_acknowledgment : (call : Call) (x y : DecodingEnd) (s n required : ℕ)
    (sections others : List UnacknowledgedBlock) → left_of call x.unsent ≡ x.unsent → s < 2 ^ 62
    → x.reported ≤ insert_count x.table → y ≡ acknowledged s (suc n) x → oldest_required s sections ≡ Some required
    → without_oldest s sections ≡ Some others → required ≤ insert_count x.table → required ≡ suc n
    → WritesMore call x y sections others
writes_acknowledgment call x y s n required sections others left small told is oldest released decoded asks =
    by (nat_lt (suc n) (insert_count x.table)) refl
  where
    many : ℕ
    many = insert_count x.table - x.reported

    all : List DecoderInstruction
    all = increments (pieces_of many)

    ack : List ℕ
    ack = written_decoder_instruction (Acknowledgment s)

    spelled_ack : SpellsAll SpellsDecoderInstruction ack (Acknowledgment s ∷ [])
    spelled_ack =
        one_joined SpellsDecoderInstruction ack (Acknowledgment s)
        (decoder_instructions_spelled (Acknowledgment s) (omega (arith, small)))

    table : insert_count y.table ≡ insert_count x.table
    table = ap (λ (e : DecodingEnd). insert_count e.table) is

    reported : y.reported ≡ insert_count x.table
    reported = ap (λ (e : DecodingEnd). e.reported) is

    unsent : (b : Bool) → nat_lt (suc n) (insert_count x.table) ≡ b
        → y.unsent ≡ left_of call x.unsent ++ (cond b (written_report many) [] ++ ack)
    unsent b e =
        ap (λ (z : DecodingEnd). z.unsent) is
        ∙ append_assoc x.unsent (report_before (suc n) x) ack
        ∙ ap (λ (t : Bool). x.unsent ++ (cond t (written_report many) [] ++ ack)) e
        ∙ ap (λ (front : List ℕ). front ++ (cond b (written_report many) [] ++ ack)) (sym left)

    acknowledges : (most told : ℕ) (more : List DecoderInstruction) → insert_count y.table ≤ most
        → max told required ≡ insert_count x.table → MayWrite most y.reported others more
        → MayWrite most told sections (Acknowledgment s ∷ more)
    acknowledges most told more within count may = (
      record {
        required = required;
        others = others;
        oldest = oldest;
        others_are = released;
        decoded = omega (arith, decoded, within, table);
      },
      subst (λ (k : ℕ). MayWrite most k others more) (reported ∙ sym count) may,
    )

    by : (b : Bool) → nat_lt (suc n) (insert_count x.table) ≡ b → WritesMore call x y sections others
    by true e =
        record {
          instructions = all ++ Acknowledgment s ∷ [];
          bytes = written_report many ++ ack;
          unsent = unsent true e;
          spelled = joined_append SpellsDecoderInstruction (written_report many) ack all (Acknowledgment s ∷ [])
              (report_spelled many) spelled_ack;
          may = λ most more within may.
              subst (λ (is : List DecoderInstruction). MayWrite most x.reported sections is)
              (sym (append_assoc all (Acknowledgment s ∷ []) more))
              (may_report most x.reported (insert_count x.table) sections (Acknowledgment s ∷ more) told
              (omega (arith, within, table))
              (acknowledges most (insert_count x.table) more within (omega (arith, decoded)) may));
        }
    by false e =
        record {
          instructions = Acknowledgment s ∷ [];
          bytes = ack;
          unsent = unsent false e;
          spelled = spelled_ack;
          may = λ most more within may.
              acknowledges most x.reported more within
              (omega (arith, told, decoded, asks, ltb-false (suc n) (insert_count x.table) e)) may;
        }

-- it cancels a stream
writes_cancellation : (x y : DecodingEnd) (s : ℕ) (sections others : List UnacknowledgedBlock) → s < 2 ^ 62
    → y ≡ cancelled s x
    → others ≡ cond (nat_eq x.settings.max_capacity 0) sections (without_stream s sections)
    → WritesMore (Cancel s (Ok tt)) x y sections others
writes_cancellation x y s sections others small is released = by (nat_eq x.settings.max_capacity 0) refl
  where
    reported : y.reported ≡ x.reported
    reported = ap (λ (e : DecodingEnd). e.reported) is

    by : (b : Bool) → nat_eq x.settings.max_capacity 0 ≡ b → WritesMore (Cancel s (Ok tt)) x y sections others
    by true none =
        writes_none (Cancel s (Ok tt)) x y sections others
        (ap (λ (e : DecodingEnd). e.unsent) is
        ∙ ap (λ (b : Bool). cond b x.unsent (x.unsent ++ written_decoder_instruction (Cancellation s))) none) reported
        (released ∙ ap (λ (b : Bool). cond b sections (without_stream s sections)) none)
    by false some =
        record {
          instructions = Cancellation s ∷ [];
          bytes = written_decoder_instruction (Cancellation s);
          unsent = ap (λ (e : DecodingEnd). e.unsent) is
              ∙ ap (λ (b : Bool). cond b x.unsent (x.unsent ++ written_decoder_instruction (Cancellation s))) some;
          spelled = one_joined SpellsDecoderInstruction (written_decoder_instruction (Cancellation s)) (Cancellation s)
              (decoder_instructions_spelled (Cancellation s) (omega (arith, small)));
          may = λ most more within may.
              subst (λ (n : ℕ). MayWrite most n (without_stream s sections) more) reported
              (subst (λ (bs : List UnacknowledgedBlock). MayWrite most y.reported bs more)
              (released ∙ ap (λ (b : Bool). cond b sections (without_stream s sections)) some) may);
        }

-- ---- a call

receive_writes : (call : Call) (x y : DecodingEnd) (sections others : List UnacknowledgedBlock)
    (taken : Result ⊤ EncoderStreamError) (answer : Result ℕ DecodingError) → left_of call x.unsent ≡ x.unsent
    → EndsReceiving (received y.table y.stream x) y taken answer → others ≡ sections
    → WritesMore call x y sections others
receive_writes call x y sections others (Ok done) (Ok total) left ends same =
    writes_none call x y sections others (ap (λ (d : DecodingEnd). d.unsent) ends.1 ∙ sym left)
    (ap (λ (d : DecodingEnd). d.reported) ends.1) same
receive_writes call x y sections others (Ok done) (Err e) left ends same = absurd ends
receive_writes call x y sections others (Err e) answer left ends same =
    writes_none call x y sections others (ap (λ (d : DecodingEnd). d.unsent) ends.1 ∙ sym left)
    (ap (λ (d : DecodingEnd). d.reported) ends.1) same

take_writes : (x y : DecodingEnd) (sections others : List UnacknowledgedBlock)
    → x.reported ≤ insert_count x.table → IsTaken x y → others ≡ sections → WritesMore Take x y sections others
take_writes x y sections others told (inl reports) same =
    writes_report Take x x y sections others refl refl told reports same
take_writes x y sections others told (inr is) same =
    writes_none Take x y sections others (ap (λ (d : DecodingEnd). d.unsent) is) (ap (λ (d : DecodingEnd). d.reported) is)
    same

take_counts : (x y : DecodingEnd) → IsTaken x y → insert_count x.table ≤ insert_count y.table
take_counts x y (inl reports) = omega (arith, ap (λ (d : DecodingEnd). insert_count d.table) reports)
take_counts x y (inr is) = omega (arith, ap (λ (d : DecodingEnd). insert_count d.table) is)

decode_writes : (x y : DecodingEnd) (s : ℕ) (k : SentSection) (fields : List FieldLine)
    (answer : Result Reading DecodingError) (read : StrictReading) (sections others : List UnacknowledgedBlock)
    (maximum : ℕ) → x.reported ≤ insert_count x.table → AnswersSection x s k fields answer
    → Decodes x y s read fields answer → Releases maximum (Decode s k fields answer) sections others
    → WritesMore (Decode s k fields answer) x y sections others
decode_writes x y s k fields (Ok (reading.Fields zero)) read sections others maximum told answers call same =
    writes_none (Decode s k fields (Ok (reading.Fields zero))) x y sections others
    (ap (λ (d : DecodingEnd). d.unsent) call.1.1) (ap (λ (d : DecodingEnd). d.reported) call.1.1) same
decode_writes x y s k fields (Ok (reading.Fields (suc n))) read sections others maximum told answers call released =
    writes_acknowledgment (Decode s k fields (Ok (reading.Fields (suc n)))) x y s n k.required sections others refl
    call.0.1 told call.1.1 released.0 released.1 answers.2 (sym answers.1)
decode_writes x y s k fields (Ok (reading.Blocked required)) read sections others maximum told answers call same =
    writes_none (Decode s k fields (Ok (reading.Blocked required))) x y sections others
    (ap (λ (d : DecodingEnd). d.unsent) call.1.3) (ap (λ (d : DecodingEnd). d.reported) call.1.3) same
decode_writes x y s k fields (Err e) read sections others maximum told answers call same = by_error e answers call.1
  where
    -- nothing is written where the end is one that has the same to send
    none : (f : DecodingError) (d : DecodingEnd) → y ≡ d → d.unsent ≡ x.unsent → d.reported ≡ x.reported
        → WritesMore (Decode s k fields (Err f)) x y sections others
    none f d is unsent reported =
        writes_none (Decode s k fields (Err f)) x y sections others (ap (λ (e : DecodingEnd). e.unsent) is ∙ unsent)
        (ap (λ (e : DecodingEnd). e.reported) is ∙ reported) same

    by_error : (f : DecodingError) → AnswersSection x s k fields (Err f)
        → IsNotAnswered x y s f ⊎ (Checks x s (Ok tt) × StopsDecoding x y s read f)
        → WritesMore (Decode s k fields (Err f)) x y sections others
    by_error f answers (inl stopped) = none f x stopped.1 refl refl
    by_error (Section q f) answers (inr stopped) =
        none (Section q f) (acknowledged s 0 x) (refusal_is x y s f answers.2 stopped.1.2) refl refl
    by_error (TooManyBlocked q) answers (inr stopped) = absurd answers
    by_error Memory answers (inr stopped) = elim (stops_for_memory x y read stopped.1) [
      | inl is ↦ none Memory x is refl refl
      | inr reported ↦
          writes_report (Decode s k fields (Err Memory)) x x y sections others refl refl told reported same
    ]
    by_error (EncoderStream q f) answers (inr stopped) = absurd answers
    by_error (NoStream q) answers (inr stopped) = absurd stopped.1

cancel_writes : (settings : DecoderSettings) (x y : DecodingEnd) (s : ℕ) (answer : Result ⊤ DecodingError)
    (sections others : List UnacknowledgedBlock) → x.settings ≡ settings → Cancels x y s answer
    → Releases settings.max_capacity (Cancel s answer) sections others
    → WritesMore (Cancel s answer) x y sections others
cancel_writes settings x y s (Ok done) sections others same call released =
    writes_cancellation x y s sections others call.0.1 call.1
    (released ∙ ap (λ (c : DecoderSettings). cond (nat_eq c.max_capacity 0) sections (without_stream s sections))
    (sym same))
cancel_writes settings x y s (Err e) sections others same (inl stopped) released =
    writes_none (Cancel s (Err e)) x y sections others (ap (λ (d : DecodingEnd). d.unsent) stopped.1)
    (ap (λ (d : DecodingEnd). d.reported) stopped.1) released
cancel_writes settings x y s (Err e) sections others same (inr stopped) released =
    writes_none (Cancel s (Err e)) x y sections others (ap (λ (d : DecodingEnd). d.unsent) stopped.3)
    (ap (λ (d : DecodingEnd). d.reported) stopped.3) released

-- neither a section nor a cancellation changes what was received
decode_counts : (x y : DecodingEnd) (s : ℕ) (k : SentSection) (fields : List FieldLine)
    (answer : Result Reading DecodingError) (read : StrictReading) → AnswersSection x s k fields answer
    → Decodes x y s read fields answer → insert_count x.table ≤ insert_count y.table
decode_counts x y s k fields (Ok (reading.Fields zero)) read answers call =
    omega (arith, ap (λ (d : DecodingEnd). insert_count d.table) call.1.1)
decode_counts x y s k fields (Ok (reading.Fields (suc n))) read answers call =
    omega (arith, ap (λ (d : DecodingEnd). insert_count d.table) call.1.1)
decode_counts x y s k fields (Ok (reading.Blocked required)) read answers call =
    omega (arith, ap (λ (d : DecodingEnd). insert_count d.table) call.1.3)
decode_counts x y s k fields (Err e) read answers call = by_error e answers call.1
  where
    counted : (d : DecodingEnd) → y ≡ d → insert_count d.table ≡ insert_count x.table
        → insert_count x.table ≤ insert_count y.table
    counted d is same = omega (arith, same, ap (λ (e : DecodingEnd). insert_count e.table) is)

    by_error : (f : DecodingError) → AnswersSection x s k fields (Err f)
        → IsNotAnswered x y s f ⊎ (Checks x s (Ok tt) × StopsDecoding x y s read f)
        → insert_count x.table ≤ insert_count y.table
    by_error f answers (inl stopped) = counted x stopped.1 refl
    by_error (Section q f) answers (inr stopped) =
        counted (acknowledged s 0 x) (refusal_is x y s f answers.2 stopped.1.2) refl
    by_error (TooManyBlocked q) answers (inr stopped) = absurd answers
    by_error Memory answers (inr stopped) = elim (stops_for_memory x y read stopped.1) [
      | inl is ↦ counted x is refl
      | inr reported ↦ counted (with_report x) reported refl
    ]
    by_error (EncoderStream q f) answers (inr stopped) = absurd answers
    by_error (NoStream q) answers (inr stopped) = absurd stopped.1

cancel_counts : (x y : DecodingEnd) (s : ℕ) (answer : Result ⊤ DecodingError) → Cancels x y s answer
    → insert_count x.table ≤ insert_count y.table
cancel_counts x y s (Ok done) call = omega (arith, ap (λ (d : DecodingEnd). insert_count d.table) call.1)
cancel_counts x y s (Err e) (inl stopped) = omega (arith, ap (λ (d : DecodingEnd). insert_count d.table) stopped.1)
cancel_counts x y s (Err e) (inr stopped) = omega (arith, ap (λ (d : DecodingEnd). insert_count d.table) stopped.3)

-- nothing is written for a piece, but at the end of its section the acknowledgment
piece_writes : (x y : DecodingEnd) (s : ℕ) (c : Coming) (reader : ReaderView) (bytes left more : List ℕ) (last : Bool)
    (fields : List FieldLine) (answer : Result Progress DecodingError) (sections others : List UnacknowledgedBlock)
    (maximum : ℕ) → x.reported ≤ insert_count x.table → c.reader.stream ≡ s
    → AnswersPiece x s c more left last fields answer → ReadsPiece x y last c.reader reader bytes left fields answer
    → Releases maximum (ReadPiece s bytes left last fields answer) sections others
    → WritesMore (ReadPiece s bytes left last fields answer) x y sections others
    × (insert_count x.table ≤ insert_count y.table)
piece_writes x y s c reader bytes left more last fields answer sections others maximum told of answers call released =
    by_answer answer answers call released
  where
    -- the end has the same to send, and has received as much
    none : (a : Result Progress DecodingError) (d : DecodingEnd) → y ≡ d → d.unsent ≡ x.unsent → d.reported ≡ x.reported
        → d.table ≡ x.table → others ≡ sections
        → WritesMore (ReadPiece s bytes left last fields a) x y sections others
        × (insert_count x.table ≤ insert_count y.table)
    none a d is unsent reported table same = (
      writes_none (ReadPiece s bytes left last fields a) x y sections others (ap (λ (e : DecodingEnd). e.unsent) is ∙ unsent)
          (ap (λ (e : DecodingEnd). e.reported) is ∙ reported) same,
      omega (arith, ap (λ (e : DecodingEnd). insert_count e.table) is, ap insert_count table),
    )

    report : y ≡ with_report x → others ≡ sections
        → WritesMore (ReadPiece s bytes left last fields (Err Memory)) x y sections others
        × (insert_count x.table ≤ insert_count y.table)
    report is same = (
      writes_report (ReadPiece s bytes left last fields (Err Memory)) x x y sections others refl refl told is same,
      omega (arith, ap (λ (e : DecodingEnd). insert_count e.table) is),
    )

    stopped : (p : Progress) → Follows x y c.reader.stream p (Err Memory) → others ≡ sections
        → WritesMore (ReadPiece s bytes left last fields (Err Memory)) x y sections others
        × (insert_count x.table ≤ insert_count y.table)
    stopped progress.Waits f same = absurd f
    stopped (progress.Prefix required) f same = absurd f
    stopped progress.Field f same = absurd f
    stopped (progress.Blocked required) f same = none (Err Memory) x f.0 refl refl refl same
    stopped (progress.Ends required) f same = elim f.2 [
      | inl is ↦ none (Err Memory) x is refl refl refl same
      | inr is ↦ report is.1 same
    ]

    by_error : (e : DecodingError) → AnswersPiece x s c more left last fields (Err e)
        → StopsPiece x y last c.reader reader bytes left fields e → others ≡ sections
        → WritesMore (ReadPiece s bytes left last fields (Err e)) x y sections others
        × (insert_count x.table ≤ insert_count y.table)
    by_error Memory h (inl same) is = none (Err Memory) x same.0 refl refl refl is
    by_error Memory h (inr u) is = stopped u.progress u.follows is
    by_error (Section q f) h stops is = absurd h
    by_error (TooManyBlocked q) h stops is = absurd h
    by_error (EncoderStream place f) h stops is = absurd h
    by_error (NoStream q) h u is = no_stream u.progress u.follows
      where
        no_stream : (p : Progress) → Follows x y c.reader.stream p (Err (NoStream q))
            → WritesMore (ReadPiece s bytes left last fields (Err (NoStream q))) x y sections others
            × (insert_count x.table ≤ insert_count y.table)
        no_stream progress.Waits f = absurd f
        no_stream (progress.Prefix required) f = absurd f
        no_stream progress.Field f = absurd f
        no_stream (progress.Blocked required) f = absurd f
        no_stream (progress.Ends required) f = absurd (let e = f.0 in cc)

    by_answer : (a : Result Progress DecodingError) → AnswersPiece x s c more left last fields a
        → ReadsPiece x y last c.reader reader bytes left fields a
        → Releases maximum (ReadPiece s bytes left last fields a) sections others
        → WritesMore (ReadPiece s bytes left last fields a) x y sections others
        × (insert_count x.table ≤ insert_count y.table)
    by_answer (Ok progress.Waits) h r same = none (Ok progress.Waits) (unblocked c.reader.stream x) r.1.2 refl refl refl same
    by_answer (Ok (progress.Prefix n)) h r same =
        none (Ok (progress.Prefix n)) (unblocked c.reader.stream x) r.1.2 refl refl refl same
    by_answer (Ok progress.Field) h r same = none (Ok progress.Field) (unblocked c.reader.stream x) r.1.2 refl refl refl same
    by_answer (Ok (progress.Blocked n)) h r same =
        none (Ok (progress.Blocked n)) (blocked_behind c.reader.stream n x) r.1.2.1 refl refl refl same
    by_answer (Ok (progress.Ends zero)) h r same =
        none (Ok (progress.Ends zero)) (acknowledged c.reader.stream 0 x) r.1.2 refl refl refl same
    by_answer (Ok (progress.Ends (suc n))) h r released = (
      writes_acknowledgment (ReadPiece s bytes left last fields (Ok (progress.Ends (suc n)))) x y s n (suc n) sections others
          refl (omega (arith, r.0.1, of)) told (r.1.2 ∙ ap (λ (q : ℕ). acknowledged q (suc n) x) of) released.0 released.1
          (omega (arith, h.3, h.4)) refl,
      omega (arith, ap (λ (e : DecodingEnd). insert_count e.table) r.1.2),
    )
    by_answer (Err e) h (inl not) same = none (Err e) x not.0.1 refl refl refl same
    by_answer (Err e) h (inr stopped) same = by_error e h stopped.1 same

-- what holds after a call: it wrote what it may, no fewer insertions were received, and what holds between calls
record StepWrites (settings : DecoderSettings) (call : Call) (x y : Decoder)
    (sections others : List UnacknowledgedBlock) : Type 0 where
  pub writes : WritesMore call x.end y.end sections others
  pub counts : insert_count x.end.table ≤ insert_count y.end.table
  pub holds : Holds settings y

step_writes : (settings : DecoderSettings) (call : Call) (x y : Decoder) (sections others : List UnacknowledgedBlock)
    → Holds settings x → Step call x y → IsLawfulCall call x → Releases settings.max_capacity call sections others
    → StepWrites settings call x y sections others
step_writes settings (Receive bytes left answer) x y sections others k step asked released =
    let r = receive_answers settings x y bytes left answer asked.0 k.stays asked.1 step in
    let call = step.0 k.stays.alive _ x.come k.stays.stream in
    record {
      writes = receive_writes (Receive bytes left answer) x.end y.end sections others call.taken answer refl call.ends
          released;
      counts = r.2;
      holds = (step_answers settings (Receive bytes left answer) x y k step asked).1;
    }
step_writes settings (Decode s section fields answer) x y sections others k step asked released =
    let r = step_answers settings (Decode s section fields answer) x y k step asked in
    record {
      writes = decode_writes x.end y.end s section fields answer
          (strict_reading (window x.end.table) x.end.settings.max_section_size section.bytes) sections others
          settings.max_capacity k.stays.told r.0 step.0 released;
      counts = decode_counts x.end y.end s section fields answer
          (strict_reading (window x.end.table) x.end.settings.max_section_size section.bytes) r.0 step.0;
      holds = r.1;
    }
step_writes settings (Begin s section) x y sections others k step asked released =
    record {
      writes = writes_none (Begin s section) x.end y.end sections others (ap (λ (d : DecodingEnd). d.unsent) step.0)
          (ap (λ (d : DecodingEnd). d.reported) step.0) released;
      counts = omega (arith, ap (λ (d : DecodingEnd). insert_count d.table) step.0);
      holds = (step_answers settings (Begin s section) x y k step asked).1;
    }
step_writes settings (ReadPiece s bytes left last fields answer) x y sections others k step asked released =
    let r = step_answers settings (ReadPiece s bytes left last fields answer) x y k step asked in
    let w = piece_writes x.end y.end s step.0.coming step.0.reader bytes left asked.more last fields answer sections others
    settings.max_capacity k.stays.told (k.goes s step.0.coming step.0.is).of_stream
    (subst (λ (c : Coming). AnswersPiece x.end s c asked.more left last fields answer)
    (some_is asked.coming step.0.coming (x.coming s) asked.is step.0.is) r.0) step.0.reads released in
    record { writes = w.0; counts = w.1; holds = r.1 }
step_writes settings (Cancel s answer) x y sections others k step asked released =
    let r = step_answers settings (Cancel s answer) x y k step asked in
    record {
      writes = cancel_writes settings x.end y.end s answer sections others k.stays.settings_are step.0 released;
      counts = cancel_counts x.end y.end s answer step.0;
      holds = r.1;
    }
step_writes settings Take x y sections others k step asked released =
    record {
      writes = take_writes x.end y.end sections others k.stays.told step.0 released;
      counts = take_counts x.end y.end step.0;
      holds = (step_answers settings Take x y k step asked).1;
    }
step_writes settings (Sent many) x y sections others k step asked released =
    record {
      writes = writes_none (Sent many) x.end y.end sections others (ap (λ (d : DecodingEnd). d.unsent) step.0)
          (ap (λ (d : DecodingEnd). d.reported) step.0) released;
      counts = omega (arith, ap (λ (d : DecodingEnd). insert_count d.table) step.0);
      holds = (step_answers settings (Sent many) x y k step asked).1;
    }

-- ---- all calls

-- what calls wrote, after what was to be sent before them
record AllWrite (x last : DecodingEnd) (sections : List UnacknowledgedBlock) (all : List ℕ) : Type 0 where
  pub instructions : List DecoderInstruction
  pub bytes : List ℕ
  pub all_is : all ≡ x.unsent ++ bytes
  pub spelled : SpellsAll SpellsDecoderInstruction bytes instructions
  pub may : MayWrite (insert_count last.table) x.reported sections instructions
  pub counts : insert_count x.table ≤ insert_count last.table

-- what is sent, and what is left
sent_and_left : (call : Call) (d : DecodingEnd) → sends call d ++ left_of call d.unsent ≡ d.unsent
sent_and_left (Receive bytes left answer) d = refl
sent_and_left (Decode s section fields answer) d = refl
sent_and_left (Begin s section) d = refl
sent_and_left (ReadPiece s bytes left last fields answer) d = refl
sent_and_left (Cancel s answer) d = refl
sent_and_left Take d = refl
sent_and_left (Sent many) d = take-append-drop many d.unsent

all_write : (settings : DecoderSettings) (calls : List Call) (x last : Decoder) (sections : List UnacknowledgedBlock)
    (run : Run calls x last) → Holds settings x → AreLawful calls x last run
    → AreInOrder settings.max_capacity calls sections
    → AllWrite x.end last.end sections (all_sent calls x last run ++ last.end.unsent)
all_write settings [] x last sections run k asked order =
    record {
      instructions = [];
      bytes = [];
      all_is = ap (λ (d : Decoder). d.end.unsent) run ∙ sym (append-nil x.end.unsent);
      spelled = refl;
      may = tt;
      counts = omega (arith, ap (λ (d : Decoder). insert_count d.end.table) run);
    }
all_write settings (call ∷ calls) x last sections run k asked order =
    let y = run.0 in
    let one = step_writes settings call x y sections order.0 k run.1 asked.0 order.1 in
    let w = one.writes in
    let rest = all_write settings calls y last order.0 run.2 one.holds asked.1 order.2 in
    let sent = sends call x.end in
    let left = left_of call x.end.unsent in
    record {
      instructions = w.instructions ++ rest.instructions;
      bytes = w.bytes ++ rest.bytes;
      all_is = append_assoc sent (all_sent calls y last run.2) last.end.unsent
          ∙ ap (λ (b : List ℕ). sent ++ b)
          (rest.all_is ∙ ap (λ (b : List ℕ). b ++ rest.bytes) w.unsent ∙ append_assoc left w.bytes rest.bytes)
          ∙ sym (append_assoc sent left (w.bytes ++ rest.bytes))
          ∙ ap (λ (b : List ℕ). b ++ (w.bytes ++ rest.bytes)) (sent_and_left call x.end);
      spelled = joined_append SpellsDecoderInstruction w.bytes rest.bytes w.instructions rest.instructions w.spelled
          rest.spelled;
      may = w.may (insert_count last.end.table) rest.instructions rest.counts rest.may;
      counts = omega (arith, one.counts, rest.counts);
    }

pub decoders_may : DecodersWriteWhatTheyMay
decoders_may settings calls first last sections begins none no_section run asked order =
    let all = all_write settings calls first last sections run (holds_first settings first begins none no_section) asked order in
    record {
      instructions = all.instructions;
      spelled = subst (λ (b : List ℕ). SpellsAll SpellsDecoderInstruction b all.instructions)
          (sym (all.all_is ∙ ap (λ (b : List ℕ). b ++ all.bytes) begins.unsent)) all.spelled;
      may = subst (λ (n : ℕ). MayWrite (insert_count last.end.table) n sections all.instructions) begins.reported
          all.may;
    }
