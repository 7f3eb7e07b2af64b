-- What a connection in bytes decodes is what the session of values decodes.
use Rattle.std.proofs.Common.{◌≡◌, ◌≤◌, ◌<◌, ◌^◌, ◌+◌, ℕ, zero, suc, Bool, true, false, cond, List, [], ◌∷◌, ◌++◌}
use Rattle.std.proofs.Common.{length, Option, None, Some, Result, Ok, Err, refl, sym, ap, subst, ◌∙◌, arith}
use Rattle.std.proofs.Common.{inl, inr, ◌⊎◌}
use Rattle.std.specs.List.{AllByRecursion}
use Rattle.std.specs.Option.{is_some}
use Rattle.std.specs.Prelude.{nat_eq, nat_lt, not, slice_get}
use Rattle.std.proofs.lemmas.Bool.{cases_lt, ne_eqb, eq-eqb, lt-ltb, ltb-false}
use Rattle.std.proofs.lemmas.List.{append_assoc, append-nil}
use Rattle.qpack_spec.specs.Field.{FieldLine, fields_of_lines, total_size}
use Rattle.qpack_spec.specs.Instruction.{DecoderInstruction, Acknowledgment, written_decoder_instruction}
use Rattle.qpack_spec.specs.Instruction.{written_decoder_instructions}
use Rattle.qpack_rules.specs.Session.{RequestStream, stream_at, with_stream, oldest_undecoded, increments, pieces_of}
use Rattle.qpack_spec.specs.StrictReading.{StrictReading, strict_reading, Read, Blocked, Refused}
use Rattle.qpack_spec.specs.StrictReading as strict
use Rattle.qpack_spec.specs.Table.{window, insert_count}
use Rattle.qpack_spec.specs.Window.{Window, window_insert_count}
use Rattle.qpack_spec.specs.WrittenLaws.{IsWritableDecoderInstruction}
use Rattle.qpack_spec.specs.Text.{WhereShorter}
use Rattle.qpack_spec.proofs.Lists.{every_append}
use Rattle.qpack_rules.proofs.Pieces.{pieces_small}
use Rattle.qpack_rules.proofs.PutTables.{window_put, count_put}
use Rattle.qpack_safety.specs.AbstractSession.{AbstractBlock, required_count, is_dynamic, AbstractStream}
use Rattle.qpack_safety.specs.AbstractSession.{AbstractSession, abstract_start}
use Rattle.qpack_safety.specs.HandedSections.{IsReadStrictly, section_of, IsOverLimit}
use Rattle.qpack_safety.specs.TwoEnds.{EndStep, Report, Decode, after_end_step, after_end_steps}
use Rattle.qpack_safety.proofs.HandedSections.{block_read}
use Rattle.qpack_safety.proofs.Limits.{IsAnswer, Limited, reading_limited}
use Rattle.qpack_safety.proofs.Shown.{agrees_get, increments_writable}
use Rattle.qpack_safety.proofs.TwoEnds.{Holds, holds_started, holds_behind, next_read, decoded_plain, decoded_dynamic}
use Rattle.qpack_decoding.specs.declared.decoder.DecodingError.{DecodingError}
use Rattle.qpack_decoding.specs.declared.decoder.DecodingError.TheVariants.{EncoderStream, Section, TooManyBlocked}
use Rattle.qpack_decoding.specs.declared.decoder.DecodingError.TheVariants.{NoStream, Memory}
use Rattle.qpack_decoding.specs.declared.section.LineError.TheVariants as line
use Rattle.qpack_decoding.specs.declared.section.Reading.{Reading}
use Rattle.qpack_decoding.specs.declared.section.Reading.TheVariants as reading
use Rattle.qpack_decoding.specs.declared.section.SectionError.{SectionError}
use Rattle.qpack_decoding.specs.declared.section.SectionError.TheVariants as section
use Rattle.qpack_connection.specs.Connections.{SentSection, Connection, with_decoder, with_reading}
use Rattle.qpack_shared.specs.Streams.{without}
use Rattle.qpack_decoding.specs.Decoders.{DecodingEnd, acknowledged, report_before, with_report, unreported, section_refused}
use Rattle.qpack_decoding.specs.Decoders.{Checks, IsNotAnswered, StopsForMemory, StopsDecoding, Decodes}
use Rattle.qpack_connection.specs.RefinedConnections.{RefinesSection, RefinesStream, RefinesSession}
use Rattle.qpack_connection.specs.RefinedDecodes.{AnswersSection, DecodesAreRefined}
use Rattle.qpack_connection.specs.RefinedStreams.{IsOpen}
use Rattle.qpack_decoding.specs.Sections.{TellsReading, code_of}
use Rattle.qpack_connection.proofs.RefinedCancellations.{written_back, nothing_back}
use Rattle.qpack_connection.proofs.RefinedConnections.{after_more}
use Rattle.qpack_connection.proofs.RefinedReports.{all_reported}
use Rattle.qpack_connection.proofs.ThinnedSessions.{IsUnderWay, report_and_acknowledgment, acknowledgment_under_way}
use Rattle.qpack_connection.proofs.ThinnedSessions.{alone_under_way}

-- ---- the next section

-- the next section of a stream, and the session's block of it
pub record NextBlock (c : Connection) (w : AbstractSession) (s : ℕ) (k : SentSection) : Type 0 where
  pub block : AbstractBlock
  pub next : oldest_undecoded (stream_at w.streams s) ≡ Some block
  pub refines : RefinesSection k block

pub next_block : (maximum : ℕ) (c : Connection) (w : AbstractSession) (s : ℕ) (k : SentSection)
    → RefinesSession maximum c w → oldest_undecoded (stream_at c.streams s) ≡ Some k → NextBlock c w s k
next_block maximum c w s k r e =
    let st = r.streams s in
    let found = agrees_get RefinesSection (stream_at c.streams s).blocks (stream_at w.streams s).blocks
    (stream_at c.streams s).decoded k st.sections e in
    record {
      block = found.0;
      next = ap (λ (n : ℕ). slice_get (stream_at w.streams s).blocks n) (sym st.decoded_is) ∙ found.1;
      refines = found.2;
    }

-- what is read of it: its fields, or that it is blocked; or it is over the limit
record IsReadAs (d : DecodingEnd) (k : SentSection) (read : StrictReading) : Type 0 where
  pub blocked : insert_count d.table < k.required
      → (read ≡ Blocked k.required)
      ⊎ (IsOverLimit read × (d.settings.max_section_size < total_size (fields_of_lines k.fields)))
  pub reads : k.required ≤ insert_count d.table
      → (read ≡ Read k.fields k.required)
      ⊎ (IsOverLimit read × (d.settings.max_section_size < total_size (fields_of_lines k.fields)))

is_read_as : (maximum limit : ℕ) (c : Connection) (w : AbstractSession) (s : ℕ) (k : SentSection)
    → RefinesSession maximum c w → Holds 0 maximum limit w → (stream_at c.streams s).cancelled ≡ false
    → NextBlock c w s k
    → IsReadAs c.decoder k (strict_reading (window c.decoder.table) c.decoder.settings.max_section_size k.bytes)
is_read_as maximum limit c w s k r h live n =
    record {
      blocked = λ missing. by_size (Blocked k.required) tt
          (λ big low. (exactly big low).blocked (omega (arith, missing, count, n.refines.required_is))
          ∙ ap (λ (m : ℕ). Blocked m) (sym n.refines.required_is));
      reads = λ received. by_size (Read k.fields k.required) tt
          (λ big low. (exactly big low).read (omega (arith, received, count, n.refines.required_is))
          ∙ ap (λ (m : ℕ). Read k.fields m) (sym n.refines.required_is));
    }
  where
    size : ℕ
    size = c.decoder.settings.max_section_size

    total : ℕ
    total = total_size (fields_of_lines k.fields)

    count : insert_count c.decoder.table ≡ window_insert_count w.decoder
    count = ap insert_count r.decoder_is ∙ count_put w.decoder

    exactly : (big : ℕ) → total ≤ big → IsReadStrictly WhereShorter w.decoder big k.fields n.block
    exactly big low =
        block_read WhereShorter 0 maximum limit big w h.invariant s k.fields n.block
        (sym (r.streams s).cancelled_is ∙ live) n.next n.refines.block_is n.refines.are_bytes
        (subst (λ (b : List ℕ). length b < 2 ^ 63) n.refines.bytes_are n.refines.short) low

    same : (big : ℕ) → strict_reading (window c.decoder.table) big k.bytes
        ≡ strict_reading w.decoder big (section_of WhereShorter k.fields n.block)
    same big =
        ap (λ (x : Window). strict_reading x big k.bytes) (ap window r.decoder_is ∙ window_put w.decoder)
        ∙ ap (strict_reading w.decoder big) n.refines.bytes_are

    by_size : (a : StrictReading) → IsAnswer a
        → ((big : ℕ) → total ≤ big → strict_reading w.decoder big (section_of WhereShorter k.fields n.block) ≡ a)
        → (strict_reading (window c.decoder.table) size k.bytes ≡ a)
        ⊎ (IsOverLimit (strict_reading (window c.decoder.table) size k.bytes) × (size < total))
    by_size a is reads = pick (cases_lt size total)
      where
        limited : Limited (strict_reading w.decoder size (section_of WhereShorter k.fields n.block)) a → size < total
            → (strict_reading (window c.decoder.table) size k.bytes ≡ a)
            ⊎ (IsOverLimit (strict_reading (window c.decoder.table) size k.bytes) × (size < total))
        limited (inl e) over = inl (same size ∙ e)
        limited (inr e) over = inr (subst IsOverLimit (sym (same size)) e, over)

        pick : (size < total) ⊎ (total ≤ size)
            → (strict_reading (window c.decoder.table) size k.bytes ≡ a)
            ⊎ (IsOverLimit (strict_reading (window c.decoder.table) size k.bytes) × (size < total))
        pick (inl over) =
            limited (reading_limited w.decoder size total (section_of WhereShorter k.fields n.block) a is
            (reads total (omega arith))) over
        pick (inr low) = inl (same size ∙ reads size low)

-- an error that tells that a section is over the limit ends nothing
pub over_code : (read : StrictReading) (e : SectionError) → IsOverLimit read → TellsReading e read → code_of e ≡ None
over_code (Refused strict.TooLong) section.TooLong over tells = refl
over_code (Refused strict.TooLong) (section.Prefix x) over tells = absurd tells
over_code (Refused strict.TooLong) section.CountAtZero over tells = absurd (let t = tells in cc)
over_code (Refused strict.TooLong) (section.Line n o x) over tells = absurd tells
over_code (Refused strict.TooLong) section.Memory over tells = absurd tells
over_code (Refused (strict.InLine n o (strict.TooLarge all))) section.TooLong over tells = absurd (let t = tells in cc)
over_code (Refused (strict.InLine n o (strict.TooLarge all))) (section.Prefix x) over tells = absurd tells
over_code (Refused (strict.InLine n o (strict.TooLarge all))) section.CountAtZero over tells =
    absurd (let t = tells in cc)
over_code (Refused (strict.InLine n o (strict.TooLarge all))) (section.Line m p (line.TooLarge sum)) over tells = refl
over_code (Refused (strict.InLine n o (strict.TooLarge all))) (section.Line m p line.Memory) over tells = refl
over_code (Refused (strict.InLine n o (strict.TooLarge all))) (section.Line m p (line.Meaningless x)) over tells =
    absurd tells.2
over_code (Refused (strict.InLine n o (strict.TooLarge all))) (section.Line m p (line.PastRequired i)) over tells =
    absurd tells.2
over_code (Refused (strict.InLine n o (strict.TooLarge all))) section.Memory over tells = absurd tells
over_code read e over tells = absurd over

-- ---- a section is decoded at both

twice : {X : Type 0} (b : Bool) (x y z : X) → cond b x (cond b y z) ≡ cond b x z
twice true x y z = refl
twice false x y z = refl

both_decoded : (s many a : ℕ) (ps : List (ℕ × RequestStream SentSection)) (qs vs : List (ℕ × AbstractStream))
    → ((q : ℕ) → stream_at vs q ≡ cond (nat_eq s q)
    (record (stream_at qs s) { decoded = (stream_at qs s).decoded + 1; acknowledged = a }) (stream_at qs q))
    → a ≡ (stream_at qs s).acknowledged + many → ((q : ℕ) → RefinesStream (stream_at ps q) (stream_at qs q)) → (q : ℕ)
    → RefinesStream (stream_at (with_stream ps s (record (stream_at ps s) {
      decoded = (stream_at ps s).decoded + 1;
      acknowledged = (stream_at ps s).acknowledged + many;
    })) q) (stream_at vs q)
both_decoded s many a ps qs vs at is all q = rw (at q) (both (nat_eq s q))
  where
    both : (e : Bool) → RefinesStream (cond e (record (stream_at ps s) {
      decoded = (stream_at ps s).decoded + 1;
      acknowledged = (stream_at ps s).acknowledged + many;
    }) (stream_at ps q))
        (cond e (record (stream_at qs s) { decoded = (stream_at qs s).decoded + 1; acknowledged = a }) (stream_at qs q))
    both true =
        let old = all s in
        record {
          sections = old.sections;
          decoded_is = ap (λ (n : ℕ). n + 1) old.decoded_is;
          acknowledged_is = ap (λ (n : ℕ). n + many) old.acknowledged_is ∙ sym is;
          cancelled_is = old.cancelled_is;
        }
    both false = all q

-- the decoder wrote nothing, and its table is as before
quiet : (maximum : ℕ) (c : Connection) (w : AbstractSession) (d : DecodingEnd)
    (ps : List (ℕ × RequestStream SentSection)) (qs : List (ℕ × AbstractStream)) → RefinesSession maximum c w
    → d.table ≡ c.decoder.table → d.stream ≡ c.decoder.stream → d.reported ≡ c.decoder.reported
    → d.unsent ≡ c.decoder.unsent → ((q : ℕ) → RefinesStream (stream_at ps q) (stream_at qs q))
    → RefinesSession maximum (record (with_decoder d c) { streams = ps }) (record w { streams = qs })
quiet maximum c w d ps qs r table stream reported unsent streams =
    nothing_back maximum c w d ps qs r table stream reported (unsent ∙ r.decoder_sent) streams

written_last : (rs : List DecoderInstruction) (r : DecoderInstruction)
    → written_decoder_instructions (rs ++ r ∷ []) ≡ written_decoder_instructions rs ++ written_decoder_instruction r
unfolding written_decoder_instructions
written_last [] r = append-nil (written_decoder_instruction r)
written_last (x ∷ rs) r =
    ap (λ (b : List ℕ). written_decoder_instruction x ++ b) (written_last rs r)
    ∙ sym (append_assoc (written_decoder_instruction x) (written_decoder_instructions rs)
    (written_decoder_instruction r))

written_one : (r : DecoderInstruction) → written_decoder_instruction r ≡ written_decoder_instructions (r ∷ [])
unfolding written_decoder_instructions
written_one r = sym (append-nil (written_decoder_instruction r))

-- one that requires no entry
plain_refined : (maximum limit : ℕ) (c : Connection) (w : AbstractSession) (s : ℕ) (k : SentSection) (d : DecodingEnd)
    (fields : List FieldLine) → RefinesSession maximum c w → Holds 0 maximum limit w
    → (stream_at c.streams s).cancelled ≡ false → (n : NextBlock c w s k) → required_count n.block ≡ 0
    → d ≡ acknowledged s 0 c.decoder
    → RefinesSession maximum (with_reading s (Ok (reading.Fields 0)) (with_decoder d c)) (after_end_step w (Decode s))
plain_refined maximum limit c w s k d fields r h live n none is =
    let st = stream_at w.streams s in
    let can = next_read 0 maximum limit w s n.block h.invariant (sym (r.streams s).cancelled_is ∙ live) n.next
    (omega (arith, none)) in
    let plain : is_dynamic n.block ≡ false = ap not (eq-eqb (required_count n.block) 0 none) in
    subst (λ (x : AbstractSession). RefinesSession maximum
    (with_reading s (Ok (reading.Fields 0)) (with_decoder d c)) x)
    (sym (decoded_plain w s n.block n.next can plain))
    (quiet maximum c w d _ _ r (ap (λ (x : DecodingEnd). x.table) is) (ap (λ (x : DecodingEnd). x.stream) is)
    (ap (λ (x : DecodingEnd). x.reported) is) (ap (λ (x : DecodingEnd). x.unsent) is)
    (both_decoded s 0 st.acknowledged c.streams w.streams
    (with_stream w.streams s (record st { decoded = st.decoded + 1 })) (λ q. refl) (omega arith) r.streams))

-- what is written for one that does
record Acknowledged (maximum : ℕ) (c : Connection) (w : AbstractSession) (r : RefinesSession maximum c w) (s many : ℕ) :
    Type 0 where
  pub instructions : List DecoderInstruction
  pub unsent : (acknowledged s (suc many) c.decoder).unsent ≡ written_decoder_instructions instructions
  pub are : AllByRecursion IsWritableDecoderInstruction instructions
  pub under_way : IsUnderWay w (r.under_way ++ instructions) (w.decoder_in_flight ++ report_and_acknowledgment w s)

acknowledged_is : (maximum limit : ℕ) (c : Connection) (w : AbstractSession) (s many : ℕ) (k : SentSection)
    → (r : RefinesSession maximum c w) → Holds 0 maximum limit w
    → (stream_at c.streams s).cancelled ≡ false → (n : NextBlock c w s k) → required_count n.block ≡ suc many
    → s < 2 ^ 62 → Acknowledged maximum c w r s many
acknowledged_is maximum limit c w s many k r h live n some small =
    by (nat_lt (suc many) (insert_count c.decoder.table)) refl
  where
    pieces : List DecoderInstruction
    pieces = increments (pieces_of w.unreported)

    ack : List ℕ
    ack = written_decoder_instruction (Acknowledgment s)

    alive : (stream_at w.streams s).cancelled ≡ false
    alive = sym (r.streams s).cancelled_is ∙ live

    dynamic : is_dynamic n.block ≡ true
    dynamic = ap not (ne_eqb (required_count n.block) 0 (λ none. absurd (omega (arith, none, some))))

    fits : s < 2 ^ 63
    fits = omega (arith, small)

    told : unreported c.decoder ≡ w.unreported
    told = omega (arith, r.reported_is)

    unsent : (b : Bool) → nat_lt (suc many) (insert_count c.decoder.table) ≡ b
        → (acknowledged s (suc many) c.decoder).unsent
        ≡ cond b (written_decoder_instructions (increments (pieces_of (unreported c.decoder)))) [] ++ ack
    unsent b is =
        ap (λ (x : List ℕ). (x ++ report_before (suc many) c.decoder) ++ ack) r.decoder_sent
        ∙ ap (λ (x : Bool). cond x (written_decoder_instructions (increments (pieces_of (unreported c.decoder)))) [] ++ ack)
        is

    by : (b : Bool) → nat_lt (suc many) (insert_count c.decoder.table) ≡ b → Acknowledged maximum c w r s many
    by true is =
        record {
          instructions = pieces ++ Acknowledgment s ∷ [];
          unsent = unsent true is
              ∙ ap (λ (m : ℕ). written_decoder_instructions (increments (pieces_of m)) ++ ack) told
              ∙ sym (written_last pieces (Acknowledgment s));
          are = every_append IsWritableDecoderInstruction pieces (Acknowledgment s ∷ [])
              (increments_writable (pieces_of w.unreported) (pieces_small w.unreported)) (fits, tt);
          under_way = acknowledgment_under_way maximum limit w r.under_way s n.block h r.thins alive n.next dynamic;
        }
    by false is =
        let all : window_insert_count w.decoder ≤ required_count n.block =
        omega (
          arith,
          ltb-false (suc many) (insert_count c.decoder.table) is,
          some,
          ap insert_count r.decoder_is,
          count_put w.decoder,
        ) in
        record {
          instructions = Acknowledgment s ∷ [];
          unsent = unsent false is ∙ written_one (Acknowledgment s);
          are = (fits, tt);
          under_way = alone_under_way maximum limit w r.under_way s n.block h r.thins alive n.next dynamic all;
        }

dynamic_refined : (maximum limit : ℕ) (c : Connection) (w : AbstractSession) (s many : ℕ) (k : SentSection)
    (d : DecodingEnd) → RefinesSession maximum c w → Holds 0 maximum limit w
    → (stream_at c.streams s).cancelled ≡ false → (n : NextBlock c w s k) → required_count n.block ≡ suc many
    → required_count n.block ≤ window_insert_count w.decoder → s < 2 ^ 62 → d ≡ acknowledged s (suc many) c.decoder
    → RefinesSession maximum (with_reading s (Ok (reading.Fields (suc many))) (with_decoder d c))
    (after_end_step w (Decode s))
dynamic_refined maximum limit c w s many k d r h live n some within small is =
    let st = stream_at w.streams s in
    let can = next_read 0 maximum limit w s n.block h.invariant (sym (r.streams s).cancelled_is ∙ live) n.next
    within in
    let dynamic : is_dynamic n.block ≡ true =
    ap not (ne_eqb (required_count n.block) 0 (λ none. absurd (omega (arith, none, some)))) in
    let table : d.table ≡ c.decoder.table = ap (λ (x : DecodingEnd). x.table) is in
    let v1 : AbstractStream = record st { decoded = st.decoded + 1 } in
    let v2 : AbstractStream = record st { decoded = st.decoded + 1; acknowledged = st.acknowledged + 1 } in
    let a = acknowledged_is maximum limit c w s many k r h live n some small in
    subst (λ (x : AbstractSession). RefinesSession maximum
    (with_reading s (Ok (reading.Fields (suc many))) (with_decoder d c)) x)
    (sym (decoded_dynamic 0 maximum limit w s n.block h.strict n.next can dynamic))
    (written_back maximum c w d a.instructions
    ((w.decoder_in_flight ++ increments (pieces_of w.unreported)) ++ Acknowledgment s ∷ []) 0 _ _ r table
    (ap (λ (x : DecodingEnd). x.stream) is)
    (omega (arith, ap (λ (x : DecodingEnd). x.reported) is, ap insert_count table))
    (ap (λ (x : DecodingEnd). x.unsent) is ∙ a.unsent) a.are
    (subst (λ (flight : List DecoderInstruction). IsUnderWay w (r.under_way ++ a.instructions) flight)
    (sym (append_assoc w.decoder_in_flight (increments (pieces_of w.unreported)) (Acknowledgment s ∷ []))) a.under_way)
    (both_decoded s (cond (nat_lt 0 (suc many)) 1 0) (st.acknowledged + 1) c.streams w.streams
    (with_stream (with_stream w.streams s v1) s v2) (λ q. twice (nat_eq s q) v2 v1 (stream_at w.streams q))
    (ap (λ (b : Bool). st.acknowledged + cond b 1 0) (sym (lt-ltb 0 (suc many) (omega arith)))) r.streams))

-- ---- a call

-- where memory is refused, nothing changed, or the increments were written
pub stops_for_memory : (old new : DecodingEnd) (read : StrictReading) → StopsForMemory old new read
    → (new ≡ old) ⊎ (new ≡ with_report old)
stops_for_memory old new (Read fields zero) same = inl same
stops_for_memory old new (Read fields (suc required)) (inl same) = inl same
stops_for_memory old new (Read fields (suc required)) (inr written) = inr written.1
stops_for_memory old new (Blocked required) same = inl same
stops_for_memory old new (Refused fault) same = inl same

pub read_fields : (fs gs : List FieldLine) (m n : ℕ) → Read fs m ≡ Read gs n → fs ≡ gs
read_fields fs gs m n e = cc

pub read_count : (fs gs : List FieldLine) (m n : ℕ) → Read fs m ≡ Read gs n → m ≡ n
read_count fs gs m n e = cc

pub blocked_count : (m n : ℕ) → Blocked m ≡ Blocked n → m ≡ n
blocked_count m n e = cc

-- after a refusal without a code the stream is blocked no more, and nothing else changes
pub refusal_is : (d new : DecodingEnd) (s : ℕ) (e : SectionError) → code_of e ≡ None → new ≡ section_refused s e d
    → new ≡ acknowledged s 0 d
refusal_is d new s e none is =
    is ∙ ap (λ (o : Option ℕ). let x : DecodingEnd = record d {
      failure = cond (is_some o) (Some (Section s e)) d.failure;
      blocked = without s d.blocked;
    } in x) none

pub decodes_refined : DecodesAreRefined
decodes_refined maximum limit c new steps s fields answer r alive call may =
    by_answer answer call.call call.new_is
  where
    start : AbstractSession
    start = abstract_start 0 maximum limit

    w : AbstractSession
    w = after_end_steps steps start

    k : SentSection
    k = call.section

    d : DecodingEnd
    d = call.decoder

    holds : Holds 0 maximum limit w
    holds = holds_behind 0 maximum limit steps start (holds_started 0 maximum limit (omega arith))

    n : NextBlock c w s k
    n = next_block maximum c w s k r call.is_next

    read : StrictReading
    read = strict_reading (window c.decoder.table) c.decoder.settings.max_section_size k.bytes

    reads : IsReadAs c.decoder k read
    reads = is_read_as maximum limit c w s k r holds call.live n

    -- the connection behind a call that changed no stream
    unchanged : (a : Result Reading DecodingError) → with_reading s a (with_decoder d c) ≡ with_decoder d c
        → new ≡ with_reading s a (with_decoder d c) → AnswersSection c.decoder s k fields a
        → d.failure ≡ c.decoder.failure → (more : List EndStep)
        → RefinesSession maximum (with_decoder d c) (after_end_steps more w)
        → AnswersSection c.decoder s k fields a × IsOpen new × (more : List EndStep)
        × RefinesSession maximum new (after_end_steps (steps ++ more) start)
    unchanged a same is told failure more refines =
        let now : new ≡ with_decoder d c = is ∙ same in (
          told,
          record {
            encoder = ap (λ (y : Connection). y.encoder.failure) now ∙ alive.encoder;
            decoder = ap (λ (y : Connection). y.decoder.failure) now ∙ failure ∙ alive.decoder;
          },
          more,
          subst (λ (y : Connection). RefinesSession maximum y (after_end_steps (steps ++ more) start)) (sym now)
              (subst (λ (x : AbstractSession). RefinesSession maximum (with_decoder d c) x)
              (sym (after_more steps more start)) refines),
        )

    same_end : d ≡ c.decoder → RefinesSession maximum (with_decoder d c) w
    same_end is =
        quiet maximum c w d c.streams w.streams r (ap (λ (x : DecodingEnd). x.table) is)
        (ap (λ (x : DecodingEnd). x.stream) is) (ap (λ (x : DecodingEnd). x.reported) is)
        (ap (λ (x : DecodingEnd). x.unsent) is) r.streams

    -- the fields were read
    decoded : (required : ℕ) → read ≡ Read fields required → (fields ≡ k.fields) × (required ≡ k.required)
        × (k.required ≤ insert_count c.decoder.table)
    decoded required e = pick (cases_lt (insert_count c.decoder.table) k.required)
      where
        pick : (insert_count c.decoder.table < k.required) ⊎ (k.required ≤ insert_count c.decoder.table)
            → (fields ≡ k.fields) × (required ≡ k.required) × (k.required ≤ insert_count c.decoder.table)
        pick (inl missing) = elim (reads.blocked missing) [
          | inl b ↦ absurd (let x = sym e ∙ b in cc)
          | inr over ↦ absurd (subst IsOverLimit e over.0)
        ]
        pick (inr within) = elim (reads.reads within) [
          | inl b ↦ let x = sym e ∙ b in (
            read_fields fields k.fields required k.required x,
            read_count fields k.fields required k.required x,
            within,
          )
          | inr over ↦ absurd (subst IsOverLimit e over.0)
        ]

    stays : (d : DecodingEnd) (required : ℕ) → d ≡ acknowledged s required c.decoder → d.failure ≡ c.decoder.failure
    stays d zero is = ap (λ (x : DecodingEnd). x.failure) is
    stays d (suc many) is = ap (λ (x : DecodingEnd). x.failure) is

    gives : (required : ℕ) → read ≡ Read fields required → s < 2 ^ 62 → d ≡ acknowledged s required c.decoder
        → RefinesSession maximum (with_reading s (Ok (reading.Fields required)) (with_decoder d c))
        (after_end_step w (Decode s))
    gives zero e small is =
        plain_refined maximum limit c w s k d fields r holds call.live n
        (sym n.refines.required_is ∙ sym (decoded 0 e).1) is
    gives (suc many) e small is =
        dynamic_refined maximum limit c w s many k d r holds call.live n
        (sym n.refines.required_is ∙ sym (decoded (suc many) e).1)
        (omega (arith, (decoded (suc many) e).2, n.refines.required_is, ap insert_count r.decoder_is, count_put w.decoder))
        small is

    -- it is blocked
    waits : (required : ℕ) → read ≡ Blocked required → (required ≡ k.required)
        × (insert_count c.decoder.table < k.required)
    waits required e = pick (cases_lt (insert_count c.decoder.table) k.required)
      where
        pick : (insert_count c.decoder.table < k.required) ⊎ (k.required ≤ insert_count c.decoder.table)
            → (required ≡ k.required) × (insert_count c.decoder.table < k.required)
        pick (inl missing) = elim (reads.blocked missing) [
          | inl b ↦ (blocked_count required k.required (sym e ∙ b), missing)
          | inr over ↦ absurd (subst IsOverLimit e over.0)
        ]
        pick (inr within) = elim (reads.reads within) [
          | inl b ↦ absurd (let x = sym e ∙ b in cc)
          | inr over ↦ absurd (subst IsOverLimit e over.0)
        ]

    -- it is refused: it is over the limit
    over_limit : (e : SectionError) → TellsReading e read
        → IsOverLimit read × (c.decoder.settings.max_section_size < total_size (fields_of_lines k.fields))
    over_limit e tells = pick (cases_lt (insert_count c.decoder.table) k.required)
      where
        pick : (insert_count c.decoder.table < k.required) ⊎ (k.required ≤ insert_count c.decoder.table)
            → IsOverLimit read × (c.decoder.settings.max_section_size < total_size (fields_of_lines k.fields))
        pick (inl missing) = elim (reads.blocked missing) [
          | inl b ↦ absurd (subst (TellsReading e) b tells)
          | inr over ↦ over
        ]
        pick (inr within) = elim (reads.reads within) [
          | inl b ↦ absurd (subst (TellsReading e) b tells)
          | inr over ↦ over
        ]

    by_error : (e : DecodingError) → fields ≡ []
        → IsNotAnswered c.decoder d s e ⊎ (Checks c.decoder s (Ok tt) × StopsDecoding c.decoder d s read e)
        → new ≡ with_reading s (Err e) (with_decoder d c)
        → AnswersSection c.decoder s k fields (Err e) × IsOpen new × (more : List EndStep)
        × RefinesSession maximum new (after_end_steps (steps ++ more) start)
    by_error e none (inl (inl ended, same)) is = absurd (let x = sym alive.decoder ∙ ended in cc)
    by_error e none (inl (inr number, same)) is =
        unchanged (Err e) refl is
        (subst (λ (x : DecodingError). AnswersSection c.decoder s k fields (Err x)) (sym number.2)
        (none, refl, number.1))
        (ap (λ (x : DecodingEnd). x.failure) same) [] (same_end same)
    by_error (Section q x) none (inr (checks, tells)) is =
        let over = over_limit x tells.1 in
        let code = over_code read x over.0 tells.1 in
        let same = refusal_is c.decoder d s x code tells.2 in
        unchanged (Err (Section q x)) refl is (none, tells.0, code, over.1)
        (ap (λ (y : DecodingEnd). y.failure) same) []
        (quiet maximum c w d c.streams w.streams r (ap (λ (y : DecodingEnd). y.table) same)
        (ap (λ (y : DecodingEnd). y.stream) same) (ap (λ (y : DecodingEnd). y.reported) same)
        (ap (λ (y : DecodingEnd). y.unsent) same) r.streams)
    by_error (TooManyBlocked q) none (inr (checks, tells)) is =
        absurd (may (waits tells.1.0 tells.1.1).1 tells.2)
    by_error Memory none (inr (checks, stops)) is = elim (stops_for_memory c.decoder d read stops) [
      | inl same ↦ unchanged (Err Memory) refl is none (ap (λ (y : DecodingEnd). y.failure) same) [] (same_end same)
      | inr reported ↦
          unchanged (Err Memory) refl is none (ap (λ (y : DecodingEnd). y.failure) reported) (Report ∷ [])
          (all_reported maximum limit c w d r holds reported)
    ]
    by_error (EncoderStream p x) none (inr (checks, tells)) is = absurd tells
    by_error (NoStream q) none (inr (checks, tells)) is = absurd tells

    by_answer : (a : Result Reading DecodingError) → Decodes c.decoder d s read fields a
        → new ≡ with_reading s a (with_decoder d c)
        → AnswersSection c.decoder s k fields a × IsOpen new × (more : List EndStep)
        × RefinesSession maximum new (after_end_steps (steps ++ more) start)
    by_answer (Ok (reading.Fields required)) h is = (
      decoded required h.1.0,
      record {
        encoder = ap (λ (y : Connection). y.encoder.failure) is ∙ alive.encoder;
        decoder = ap (λ (y : Connection). y.decoder.failure) is ∙ stays d required h.1.1 ∙ alive.decoder;
      },
      Decode s ∷ [],
      subst (λ (y : Connection). RefinesSession maximum y (after_end_steps (steps ++ Decode s ∷ []) start)) (sym is)
          (subst (λ (x : AbstractSession). RefinesSession maximum
          (with_reading s (Ok (reading.Fields required)) (with_decoder d c)) x)
          (sym (after_more steps (Decode s ∷ []) start)) (gives required h.1.0 h.0.1 h.1.1)),
    )
    by_answer (Ok (reading.Blocked required)) h is =
        unchanged (Ok (reading.Blocked required)) refl is (let x = waits required h.1.0 in (h.1.1, x.0, x.1))
        (ap (λ (x : DecodingEnd). x.failure) h.1.3) []
        (quiet maximum c w d c.streams w.streams r (ap (λ (x : DecodingEnd). x.table) h.1.3)
        (ap (λ (x : DecodingEnd). x.stream) h.1.3) (ap (λ (x : DecodingEnd). x.reported) h.1.3)
        (ap (λ (x : DecodingEnd). x.unsent) h.1.3) r.streams)
    by_answer (Err e) h is = by_error e h.0 h.1 is
