-- The decoding end of a connection understands any encoder that keeps to the standard, call for call.
use Rattle.std.proofs.Common.{◌≡◌, ◌≤◌, ◌+◌, ◌⊎◌, ℕ, zero, suc, List, [], ◌∷◌, ◌++◌, length, None, Some, Result}
use Rattle.std.proofs.Common.{Ok, Err, refl, sym, ap, subst, ◌∙◌, arith, length-append, inl, inr}
use Rattle.std.specs.Prelude.{⊤, drop, IsOk}
use Rattle.std.proofs.lemmas.List.{append_assoc, append-nil, append_cancel_right}
use Rattle.qpack_spec.specs.Field.{FieldLine}
use Rattle.qpack_spec.specs.Form.{Truncates}
use Rattle.qpack_spec.specs.Instruction.{EncoderInstruction, SpellsEncoderInstruction, encoder_instruction_form}
use Rattle.qpack_rules.specs.LawfulStreams.{IsLawfulStream}
use Rattle.qpack_spec.specs.Stream.{SpellsAll}
use Rattle.qpack_rules.specs.StrictInstructions.{strict_apply}
use Rattle.qpack_spec.specs.StrictReading.{StrictReading, strict_reading}
use Rattle.qpack_spec.specs.Table.{Table, empty_table, insert_count, window}
use Rattle.qpack_rules.specs.Taking.{apply_in_turn}
use Rattle.qpack_spec.proofs.Cuttings.{wire, reads_front}
use Rattle.qpack_spec.proofs.Lists.{front_of}
use Rattle.qpack_decoding.specs.declared.decoder.DecodingError.{DecodingError}
use Rattle.qpack_decoding.specs.declared.decoder.DecodingError.TheVariants.{EncoderStream, Section, TooManyBlocked}
use Rattle.qpack_decoding.specs.declared.decoder.DecodingError.TheVariants.{NoStream, Memory}
use Rattle.qpack_decoding.specs.declared.section.Reading.{Reading}
use Rattle.qpack_decoding.specs.declared.section.Reading.TheVariants as reading
use Rattle.qpack_connection.specs.Connections.{SentSection}
use Rattle.qpack_decoding.specs.declared.decoder.DecoderSettings.{DecoderSettings}
use Rattle.qpack_decoding.specs.Decoders.{DecodingEnd, Begins, acknowledged, with_report, Checks, blocked_behind}
use Rattle.qpack_decoding.specs.Decoders.{IsNotAnswered, StopsDecoding, Decodes, cancelled, Cancels}
use Rattle.qpack_decoding.specs.declared.encoder_stream.EncoderStreamError.{EncoderStreamError}
use Rattle.qpack_decoding.specs.declared.encoder_stream.EncoderStreamError.TheVariants as stream
use Rattle.qpack_decoding.specs.Decoders.{received, IsTaken, EndsReceiving, ReceivesBytes}
use Rattle.qpack_decoding.specs.Receiving.{ReceivesMore}
use Rattle.qpack_connection.proofs.LawfulPieces.{encoder_streams_taken}
use Rattle.qpack_shared.specs.declared.streams.BlockedStream.{BlockedStream}
use Rattle.qpack_connection.specs.LawfulEncoders.{IsUnderWay, IsAtRisk, Differ, KeepsToLimit}
use Rattle.qpack_connection.specs.RefinedDecodes.{MayWait}
use Rattle.qpack_connection.specs.Waiting.{AreOfOneEach}
use Rattle.qpack_decoding.proofs.BlockedStreams.{once_without, once_with}
use Rattle.qpack_connection.proofs.WaitingStreams.{none_of, Apart, apart_more, not_waiting}
use Rattle.std.proofs.Common.{Bool, true, false, cond, map}
use Rattle.std.proofs.lemmas.List.{length-map}
use Rattle.std.specs.List.{AllByRecursion, filter}
use Rattle.std.specs.Prelude.{nat_lt}
use Rattle.std.proofs.lemmas.Bool.{ltb-true}
use Rattle.qpack_connection.specs.LawfulEncoders.{Encoder, IsLawful, Decoder, Call, Receive, Decode, Cancel, Sent}
use Rattle.qpack_connection.specs.LawfulEncoders.{Step, Run, IsLawfulCall, AreLawful, Answers, AllAnswer}
use Rattle.qpack_connection.specs.LawfulEncoders.{LawfulEncodersAreUnderstood}
use Rattle.qpack_connection.proofs.RefinedReceptions.{applied_front, no_fewer, least_whole}
use Rattle.qpack_decoding.proofs.StrictCounts.{all_count}
use Rattle.qpack_decoding.specs.Receiving.{StreamView, Receives}
use Rattle.qpack_connection.specs.RefinedDecodes.{AnswersSection}
use Rattle.qpack_connection.proofs.RefinedDecodes.{refusal_is}
use Rattle.qpack_connection.proofs.RefinedDecodes.{stops_for_memory}
use Rattle.qpack_rules.specs.LawfulEncoders.{IsLawfulEncoder}
use Rattle.qpack_connection.proofs.LawfulEncoders.{all_made, taken, is_read_as, decode_answers}

-- ---- between calls

-- what holds between calls: no error ended the connection, what came of the encoder stream is received, no more
-- insertions are reported than were made, each stream that waits is counted once, and the settings are as they were
pub record Stays (settings : DecoderSettings) (x : Decoder) : Type 0 where
  pub alive : x.end.failure ≡ None
  pub settings_are : x.end.settings ≡ settings
  pub stream : Receives (empty_table 0 (Some settings.max_capacity) 0) x.end.table x.come x.end.stream
  pub told : x.end.reported ≤ insert_count x.end.table
  pub once : AreOfOneEach x.end.blocked

pub stays_first : (settings : DecoderSettings) (x : Decoder) → Begins settings x.end → x.come ≡ [] → Stays settings x
stays_first settings x b none =
    record {
      alive = b.failure;
      settings_are = b.settings_are;
      stream =
          subst (λ (t : Table). Receives t x.end.table x.come x.end.stream) b.table
          (subst (λ (c : List ℕ). Receives x.end.table x.end.table c x.end.stream) (sym none) b.stream);
      told = omega (arith, b.reported);
      once = subst AreOfOneEach (sym b.blocked) tt;
    }

-- the parts that a call may have left as they were
stays_same : (settings : DecoderSettings) (x y : Decoder) → Stays settings x → y.end.failure ≡ x.end.failure
    → y.end.settings ≡ x.end.settings → y.end.table ≡ x.end.table → y.end.stream ≡ x.end.stream → y.come ≡ x.come
    → y.end.reported ≤ insert_count x.end.table → AreOfOneEach y.end.blocked → Stays settings y
stays_same settings x y k failure same table stream come told once =
    record {
      alive = failure ∙ k.alive;
      settings_are = same ∙ k.settings_are;
      stream =
          subst (λ (t : Table). Receives (empty_table 0 (Some settings.max_capacity) 0) t y.come y.end.stream) (sym table)
          (subst (λ (s : StreamView). Receives (empty_table 0 (Some settings.max_capacity) 0) x.end.table y.come s)
          (sym stream)
          (subst (λ (c : List ℕ). Receives (empty_table 0 (Some settings.max_capacity) 0) x.end.table c x.end.stream)
          (sym come) k.stream));
      told = omega (arith, told, ap insert_count table);
      once = once;
    }

-- the same where the end is one that is known
pub stays_as : (settings : DecoderSettings) (x y : Decoder) (d : DecodingEnd) → Stays settings x → y.end ≡ d
    → y.come ≡ x.come → d.failure ≡ x.end.failure → d.settings ≡ x.end.settings → d.table ≡ x.end.table
    → d.stream ≡ x.end.stream → d.reported ≤ insert_count x.end.table → AreOfOneEach d.blocked → Stays settings y
stays_as settings x y d k is come failure same table stream told once =
    stays_same settings x y k (ap (λ (e : DecodingEnd). e.failure) is ∙ failure)
    (ap (λ (e : DecodingEnd). e.settings) is ∙ same) (ap (λ (e : DecodingEnd). e.table) is ∙ table)
    (ap (λ (e : DecodingEnd). e.stream) is ∙ stream) come
    (omega (arith, ap (λ (e : DecodingEnd). e.reported) is, told))
    (subst (λ (e : DecodingEnd). AreOfOneEach e.blocked) (sym is) once)

-- ---- a section is decoded

pub stays_acknowledged : (settings : DecoderSettings) (x y : Decoder) (s required : ℕ) → Stays settings x
    → y.come ≡ x.come → y.end ≡ acknowledged s required x.end → Stays settings y
stays_acknowledged settings x y s zero k come is =
    stays_as settings x y (acknowledged s 0 x.end) k is come refl refl refl refl k.told
    (once_without s x.end.blocked k.once)
stays_acknowledged settings x y s (suc many) k come is =
    stays_as settings x y (acknowledged s (suc many) x.end) k is come refl refl refl refl (omega arith)
    (once_without s x.end.blocked k.once)

pub stays_told : (settings : DecoderSettings) (x y : Decoder) → Stays settings x → y.come ≡ x.come
    → y.end ≡ with_report x.end → Stays settings y
stays_told settings x y k come is =
    stays_as settings x y (with_report x.end) k is come refl refl refl refl (omega arith) k.once

pub stays_still : (settings : DecoderSettings) (x y : Decoder) → Stays settings x → y.come ≡ x.come → y.end ≡ x.end
    → Stays settings y
stays_still settings x y k come is = stays_as settings x y x.end k is come refl refl refl refl k.told k.once

-- where its stream is taken
pub stays_taken : (settings : DecoderSettings) (x y : Decoder) → Stays settings x → y.come ≡ x.come
    → IsTaken x.end y.end → Stays settings y
stays_taken settings x y k come (inl reports) =
    stays_told settings x y k come reports
stays_taken settings x y k come (inr same) = stays_still settings x y k come same

-- a call that answers what a section means leaves the end so
pub stays_decoded : (settings : DecoderSettings) (x y : Decoder) (s : ℕ) (k : SentSection) (fields : List FieldLine)
    (answer : Result Reading DecodingError) (read : StrictReading) → Stays settings x → y.come ≡ x.come
    → AnswersSection x.end s k fields answer → Decodes x.end y.end s read fields answer → Stays settings y
stays_decoded settings x y s k fields (Ok (reading.Fields required)) read h come answers call =
    stays_acknowledged settings x y s required h come call.1.1
stays_decoded settings x y s k fields (Ok (reading.Blocked required)) read h come answers call =
    stays_as settings x y (blocked_behind s required x.end) h call.1.3 come refl refl refl refl h.told
    (once_with (record { stream = s; required = required }) x.end.blocked h.once)
stays_decoded settings x y s k fields (Err e) read h come answers call = by_error e answers call.1
  where
    by_error : (e : DecodingError) → AnswersSection x.end s k fields (Err e)
        → IsNotAnswered x.end y.end s e ⊎ (Checks x.end s (Ok tt) × StopsDecoding x.end y.end s read e)
        → Stays settings y
    by_error e answers (inl stopped) = stays_still settings x y h come stopped.1
    by_error (Section q f) answers (inr stopped) =
        stays_acknowledged settings x y s 0 h come (refusal_is x.end y.end s f answers.2 stopped.1.2)
    by_error (TooManyBlocked q) answers (inr stopped) = absurd answers
    by_error Memory answers (inr stopped) = elim (stops_for_memory x.end y.end read stopped.1) [
      | inl same ↦ stays_still settings x y h come same
      | inr reported ↦ stays_told settings x y h come reported
    ]
    by_error (EncoderStream q f) answers (inr stopped) = absurd answers
    by_error (NoStream q) answers (inr stopped) = absurd stopped.1

-- ---- a stream is cancelled

pub cancel_answers : (settings : DecoderSettings) (x y : Decoder) (s : ℕ) (answer : Result ⊤ DecodingError)
    → Stays settings x → Cancels x.end y.end s answer → y.come ≡ x.come
    → Answers (Cancel s answer) x y tt × Stays settings y
cancel_answers settings x y s (Ok done) h call come = (
  tt,
  stays_as settings x y (cancelled s x.end) h call.1 come refl refl refl refl h.told
      (once_without s x.end.blocked h.once),
)
cancel_answers settings x y s (Err e) h (inl (inl ended, same)) come = absurd (let z = sym h.alive ∙ ended in cc)
cancel_answers settings x y s (Err e) h (inl (inr number, same)) come =
    (inr (number.2, number.1), stays_still settings x y h come same)
cancel_answers settings x y s (Err e) h (inr stopped) come =
    (inl stopped.1, stays_still settings x y h come stopped.3)

-- ---- bytes are received

-- what came before is the first of what came now, so insertions are only added
record Further (x : DecodingEnd) (t : Table) : Type 0 where
  pub more : List EncoderInstruction
  pub applies : apply_in_turn strict_apply x.table more ≡ Ok t

further : (start : Table) (x y : DecodingEnd) (come bytes behind : List ℕ) (sent : List EncoderInstruction)
    → SpellsAll SpellsEncoderInstruction ((come ++ bytes) ++ behind) sent
    → (k : Receives start x.table come x.stream) → (r : Receives start y.table (come ++ bytes) y.stream)
    → length k.0.lines ≤ length r.0.lines → Further x y.table
further start x y come bytes behind sent spelled k r fewer =
    let w = wire encoder_instruction_form in
    let old = reads_front SpellsEncoderInstruction w k.0.lines sent k.0.front k.0.rest (bytes ++ behind) k.0.joined
    (subst (λ (b : List ℕ). SpellsAll SpellsEncoderInstruction b sent)
    (append_assoc come bytes behind ∙ ap (λ (b : List ℕ). b ++ (bytes ++ behind)) k.0.cut
    ∙ append_assoc k.0.front k.0.rest (bytes ++ behind)) spelled) in
    let new = reads_front SpellsEncoderInstruction w r.0.lines sent r.0.front r.0.rest behind r.0.joined
    (subst (λ (b : List ℕ). SpellsAll SpellsEncoderInstruction b sent)
    (ap (λ (b : List ℕ). b ++ behind) r.0.cut ∙ append_assoc r.0.front r.0.rest behind) spelled) in
    let f = front_of k.0.lines old.still r.0.lines new.still (sym old.goes_on ∙ new.goes_on) fewer in
    record {
      more = f.0;
      applies = applied_front start x.table y.table k.0.lines f.0 k.0.applies
          (subst (λ (is : List EncoderInstruction). apply_in_turn strict_apply start is ≡ Ok y.table) (sym f.1)
          r.0.applies);
    }

further_counts : (x : DecodingEnd) (t : Table) → Further x t → insert_count x.table ≤ insert_count t
further_counts x t f = all_count f.more x.table t f.applies

-- what came is the front of what a lawful encoder wrote
ok_of : {X E : Type 0} (r : Result X E) → IsOk r → (x : X) × (r ≡ Ok x)
ok_of (Ok x) is = (x, refl)
ok_of (Err e) is = absurd cc

lawful_stream : (settings : DecoderSettings) (p : Encoder) (d : DecodingEnd) (come : List ℕ) → d.settings ≡ settings
    → (l : IsLawful p d come)
    → (last : Table) × IsLawfulStream (empty_table 0 (Some settings.max_capacity) 0) last (come ++ l.behind) p.sent
lawful_stream settings p d come same l =
    let ok = ok_of (apply_in_turn strict_apply (empty_table 0 (Some d.settings.max_capacity) 0) p.sent) l.encoder.taken in (
      ok.0,
      record {
        spelled = subst (λ (b : List ℕ). SpellsAll SpellsEncoderInstruction b p.sent) l.come_is l.spelled;
        applied = subst (λ (s : DecoderSettings). apply_in_turn strict_apply (empty_table 0 (Some s.max_capacity) 0) p.sent
            ≡ Ok ok.0) same ok.1;
      },
    )

pub receive_answers : (settings : DecoderSettings) (x y : Decoder) (bytes left : List ℕ) (answer : Result ℕ DecodingError)
    (p : Encoder) → Stays settings x → (l : IsLawful p x.end (x.come ++ bytes)) → Step (Receive bytes left answer) x y
    → Answers (Receive bytes left answer) x y (p, l) × Stays settings y
    × (insert_count x.end.table ≤ insert_count y.end.table)
receive_answers settings x y bytes left answer p k l step = by_taken answer call.taken call.stream call.ends
  where
    start : Table
    start = empty_table 0 (Some settings.max_capacity) 0

    call : ReceivesBytes start x.come x.end y.end bytes left answer
    call = step.0 k.alive start x.come k.stream

    sent : (last : Table) × IsLawfulStream start last ((x.come ++ bytes) ++ l.behind) p.sent
    sent = lawful_stream settings p x.end (x.come ++ bytes) k.settings_are l

    -- what came before is in front of what came now
    behind_old : (more : List ℕ) (r : Receives start y.end.table (x.come ++ more) y.end.stream)
        → k.stream.0.front ++ (k.stream.0.rest ++ more) ≡ r.0.front ++ r.0.rest
    behind_old more r =
        sym (append_assoc k.stream.0.front k.stream.0.rest more)
        ∙ ap (λ (b : List ℕ). b ++ more) (sym k.stream.0.cut) ∙ r.0.cut

    counts : (more others : List ℕ) → bytes ≡ more ++ others
        → (r : Receives start y.end.table (x.come ++ more) y.end.stream)
        → length k.stream.0.lines ≤ length r.0.lines → insert_count x.end.table ≤ insert_count y.end.table
    counts more others cut r fewer =
        further_counts x.end y.end.table
        (further start x.end y.end x.come more (others ++ l.behind) p.sent
        (subst (λ (b : List ℕ). SpellsAll SpellsEncoderInstruction b p.sent)
        (ap (λ (b : List ℕ). (x.come ++ b) ++ l.behind) cut
        ∙ ap (λ (b : List ℕ). b ++ l.behind) (sym (append_assoc x.come more others))
        ∙ append_assoc (x.come ++ more) others l.behind) sent.1.spelled) k.stream r fewer)

    counts_whole : ReceivesMore start x.end.table y.end.table x.come bytes left x.end.stream y.end.stream (Ok tt)
        → insert_count x.end.table ≤ insert_count y.end.table
    counts_whole (none, whole, r, short) =
        counts bytes [] (sym (append-nil bytes)) r
        (least_whole k.stream.0.lines r.0.lines k.stream.0.front (k.stream.0.rest ++ bytes) r.0.front r.0.rest
        k.stream.0.joined r.0.joined (behind_old bytes r)
        (subst (λ (b : List ℕ). Truncates encoder_instruction_form b) (whole.0.ends.0 ∙ sym r.0.ends.0)
        whole.0.ends.1.cut))

    counts_longer : (more others : List ℕ) → bytes ≡ more ++ others
        → (r : Receives start y.end.table (x.come ++ more) y.end.stream)
        → length y.end.stream.pending ≤ length x.end.stream.pending + length more
        → insert_count x.end.table ≤ insert_count y.end.table
    counts_longer more others cut r fewer =
        counts more others cut r
        (no_fewer k.stream.0.lines r.0.lines k.stream.0.front r.0.front (k.stream.0.rest ++ more) r.0.rest
        k.stream.0.joined r.0.joined (behind_old more r)
        (omega (
          arith,
          fewer,
          ap length (behind_old more r),
          length-append k.stream.0.front (k.stream.0.rest ++ more),
          length-append k.stream.0.rest more,
          length-append r.0.front r.0.rest,
          ap length k.stream.0.ends.0,
          ap length r.0.ends.0,
        )))

    -- what came of the bytes, but those that are left
    come_front : (more : List ℕ) → bytes ≡ more ++ left → x.come ++ more ≡ y.come
    come_front more cut =
        sym (append_cancel_right y.come (x.come ++ more) left
        (step.1 ∙ ap (λ (b : List ℕ). x.come ++ b) cut ∙ sym (append_assoc x.come more left)))

    came : (more : List ℕ) → bytes ≡ more ++ left → Receives start y.end.table (x.come ++ more) y.end.stream
        → y.end.failure ≡ x.end.failure → y.end.settings ≡ x.end.settings → y.end.blocked ≡ x.end.blocked
        → y.end.reported ≤ insert_count y.end.table → Stays settings y
    came more cut r failure same waits told =
        record {
          alive = failure ∙ k.alive;
          settings_are = same ∙ k.settings_are;
          stream = subst (λ (c : List ℕ). Receives start y.end.table c y.end.stream) (come_front more cut) r;
          told = told;
          once = subst AreOfOneEach (sym waits) k.once;
        }

    -- none are left
    all_cut : left ≡ [] → bytes ≡ bytes ++ left
    all_cut none = sym (append-nil bytes) ∙ ap (λ (b : List ℕ). bytes ++ b) (sym none)

    -- all that the encoder wrote has come
    all_came : p.bytes ≡ x.come ++ bytes
        → ReceivesMore start x.end.table y.end.table x.come bytes left x.end.stream y.end.stream (Ok tt)
        → insert_count y.end.table ≡ length p.made.inserted
    all_came all s =
        all_made settings.max_capacity p y.end.table (x.come ++ bytes) y.end.stream.place y.end.stream.pending
        (subst (λ (c : DecoderSettings). IsLawfulEncoder c.max_capacity p.known p.sent p.made) k.settings_are l.encoder)
        l.spelled all s.1

    by_memory : (a : Result ℕ DecodingError)
        → ReceivesMore start x.end.table y.end.table x.come bytes left x.end.stream y.end.stream (Err stream.Memory)
        → EndsReceiving (received y.end.table y.end.stream x.end) y.end (Err stream.Memory) a
        → Answers (Receive bytes left a) x y (p, l) × Stays settings y
        × (insert_count x.end.table ≤ insert_count y.end.table)
    by_memory a more ends =
        let t = more.0 in (
          subst (λ (r : Result ℕ DecodingError). Answers (Receive bytes left r) x y (p, l)) (sym ends.0) refl,
          came t.taken t.cut t.stream (ap (λ (e : DecodingEnd). e.failure) ends.1)
              (ap (λ (e : DecodingEnd). e.settings) ends.1) (ap (λ (e : DecodingEnd). e.blocked) ends.1)
              (omega (
                arith,
                ap (λ (e : DecodingEnd). e.reported) ends.1,
                k.told,
                counts_longer t.taken left t.cut t.stream t.no_longer,
              )),
          counts_longer t.taken left t.cut t.stream t.no_longer,
        )

    by_taken : (a : Result ℕ DecodingError) (taken : Result ⊤ EncoderStreamError)
        → ReceivesMore start x.end.table y.end.table x.come bytes left x.end.stream y.end.stream taken
        → EndsReceiving (received y.end.table y.end.stream x.end) y.end taken a
        → Answers (Receive bytes left a) x y (p, l) × Stays settings y
        × (insert_count x.end.table ≤ insert_count y.end.table)
    by_taken (Ok total) (Ok it) s ends = (
      (ends.0, s.0, λ all. ends.0 ∙ all_came all s),
      came bytes (all_cut s.0) s.2 (ap (λ (e : DecodingEnd). e.failure) ends.1) (ap (λ (e : DecodingEnd). e.settings) ends.1)
          (ap (λ (e : DecodingEnd). e.blocked) ends.1)
          (omega (arith, ap (λ (e : DecodingEnd). e.reported) ends.1, k.told, counts_whole s)),
      counts_whole s,
    )
    by_taken (Err e) (Ok it) s ends = absurd ends
    by_taken a (Err stream.Memory) s ends = by_memory a s ends
    by_taken a (Err (stream.Refused place e)) s ends =
        absurd (encoder_streams_taken start x.end.table y.end.table sent.0 x.come bytes l.behind left p.sent x.end.stream
        y.end.stream place e sent.1 s)

-- ---- no stream is one too many

-- those that wait are different streams
waiting_differ : (n : ℕ) (seen : List ℕ) (bs : List BlockedStream) → AreOfOneEach bs → Apart n seen bs
    → Differ seen (map (λ (b : BlockedStream). b.stream) (filter (λ b. nat_lt n b.required) bs))
waiting_differ n seen [] once apart = tt
waiting_differ n seen (b ∷ bs) once apart =
    both (nat_lt n b.required) refl (waiting_differ n seen bs once.1 apart.1)
    (waiting_differ n (b.stream ∷ seen) bs once.1 (apart_more n b.stream seen bs (none_of b.stream bs once.0) apart.1))
  where
    both : (t : Bool) → nat_lt n b.required ≡ t
        → Differ seen (map (λ (x : BlockedStream). x.stream) (filter (λ x. nat_lt n x.required) bs))
        → Differ (b.stream ∷ seen) (map (λ (x : BlockedStream). x.stream) (filter (λ x. nat_lt n x.required) bs))
        → Differ seen (map (λ (x : BlockedStream). x.stream)
        (cond t (b ∷ filter (λ x. nat_lt n x.required) bs) (filter (λ x. nat_lt n x.required) bs)))
    both true e others behind = (apart.0 (ltb-true n b.required e), behind)
    both false e others behind = others

-- and each is at risk
waiting_at_risk : (p : Encoder) (n : ℕ) (bs : List BlockedStream) → p.known ≤ n
    → AllByRecursion (λ (b : BlockedStream). IsUnderWay p b.stream b.required) bs
    → AllByRecursion (IsAtRisk p) (map (λ (b : BlockedStream). b.stream) (filter (λ b. nat_lt n b.required) bs))
waiting_at_risk p n [] known h = tt
waiting_at_risk p n (b ∷ bs) known h = both (nat_lt n b.required) refl (waiting_at_risk p n bs known h.1)
  where
    both : (t : Bool) → nat_lt n b.required ≡ t
        → AllByRecursion (IsAtRisk p) (map (λ (x : BlockedStream). x.stream) (filter (λ x. nat_lt n x.required) bs))
        → AllByRecursion (IsAtRisk p) (map (λ (x : BlockedStream). x.stream)
        (cond t (b ∷ filter (λ x. nat_lt n x.required) bs) (filter (λ x. nat_lt n x.required) bs)))
    both true e rest = ((b.required, h.0, omega (arith, ltb-true n b.required e, known)), rest)
    both false e rest = rest

pub may_wait : (p : Encoder) (d : DecodingEnd) (s : ℕ) (k : SentSection) → KeepsToLimit p d s k.required
    → p.known ≤ insert_count d.table → AreOfOneEach d.blocked → MayWait d s k
may_wait p d s k limit known once missing one =
    let n = insert_count d.table in
    let waiting = filter (λ (b : BlockedStream). nat_lt n b.required) d.blocked in
    let few = limit.few (s ∷ map (λ (b : BlockedStream). b.stream) waiting)
    (refl, waiting_differ n (s ∷ []) d.blocked once (not_waiting n s d.blocked one.0 once))
    ((k.required, limit.this, omega (arith, missing, known)), waiting_at_risk p n d.blocked known limit.waiting) in
    omega (arith, few, one.1, length-map waiting (λ (b : BlockedStream). b.stream))
