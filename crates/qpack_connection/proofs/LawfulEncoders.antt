-- A section that a lawful encoder wrote is decoded to what it means.
use Rattle.std.proofs.Common.{◌∷◌}
use Rattle.std.proofs.Common.{◌≡◌, ◌≤◌, ◌<◌, ◌⊎◌, ℕ, zero, suc, List, [], ◌++◌, length, None, Some, Result}
use Rattle.std.proofs.Common.{Ok, Err, refl, sym, ap, subst, ◌∙◌, arith, inl, inr}
use Rattle.std.specs.Prelude.{IsOk}
use Rattle.std.proofs.lemmas.Bool.{cases_lt}
use Rattle.std.proofs.lemmas.List.{append_assoc}
use Rattle.qpack_spec.specs.Field.{FieldLine, fields_of_lines, total_size}
use Rattle.qpack_spec.specs.History.{History, window_of, initial_history, Leads}
use Rattle.qpack_spec.specs.Instruction.{EncoderInstruction, SpellsEncoderInstruction, encoder_instruction_form}
use Rattle.qpack_rules.specs.LawfulEncoders.{IsLawfulSection, ReadsLawfully}
use Rattle.qpack_spec.specs.Stream.{SpellsAll}
use Rattle.qpack_rules.specs.StrictInstructions.{strict_apply}
use Rattle.qpack_spec.specs.StrictReading.{StrictReading, strict_reading, Read, Blocked}
use Rattle.qpack_spec.specs.Table.{Table, empty_table, table_of, insert_count, window}
use Rattle.qpack_rules.specs.Taking.{apply_in_turn}
use Rattle.qpack_spec.specs.Window.{Window}
use Rattle.qpack_spec.proofs.Cuttings.{wire, reads_front}
use Rattle.qpack_rules.proofs.LawfulEncoders.{all_counted, strict_leads, begins_empty, lawful_sections_read}
use Rattle.qpack_rules.proofs.PutTables.{count_put, window_put}
use Rattle.qpack_spec.proofs.Windows.{Sound, sound_start, leads_sound}
use Rattle.qpack_safety.specs.HandedSections.{IsOverLimit}
use Rattle.qpack_safety.proofs.Limits.{IsAnswer, Limited, reading_limited}
use Rattle.qpack_decoding.specs.declared.decoder.DecodingError.{DecodingError}
use Rattle.qpack_decoding.specs.declared.decoder.DecodingError.TheVariants.{EncoderStream, Section, TooManyBlocked}
use Rattle.qpack_decoding.specs.declared.decoder.DecodingError.TheVariants.{NoStream, Memory}
use Rattle.qpack_decoding.specs.declared.section.Reading.{Reading}
use Rattle.qpack_decoding.specs.declared.section.Reading.TheVariants as reading
use Rattle.qpack_decoding.specs.declared.section.SectionError.{SectionError}
use Rattle.qpack_connection.specs.Connections.{SentSection}
use Rattle.qpack_decoding.specs.Decoders.{DecodingEnd, acknowledged, Checks}
use Rattle.qpack_decoding.specs.Decoders.{IsNotAnswered, StopsDecoding, Decodes}
use Rattle.qpack_connection.specs.LawfulEncoders.{Encoder, IsLawful}
use Rattle.qpack_decoding.specs.Receiving.{Receives}
use Rattle.qpack_connection.specs.RefinedDecodes.{AnswersSection, MayWait}
use Rattle.qpack_shared.specs.declared.place.Place.{Place}
use Rattle.qpack_decoding.specs.Receiving.{HasReceived}
use Rattle.qpack_spec.specs.Form.{Truncates}
use Rattle.qpack_rules.specs.LawfulEncoders.{IsLawfulEncoder}
use Rattle.qpack_spec.proofs.Windows.{leads_unique}
use Rattle.std.proofs.lemmas.List.{append-nil}
use Rattle.qpack_decoding.specs.Sections.{TellsReading}
use Rattle.qpack_connection.proofs.RefinedDecodes.{over_code, refusal_is, read_fields, read_count, blocked_count}
use Rattle.qpack_connection.proofs.RefinedDecodes.{stops_for_memory}

-- ---- what was received

-- the front of an encoder's instructions that was taken, and the insertions that it makes
pub record Taken (p : Encoder) (d : DecodingEnd) : Type 0 where
  pub front : List EncoderInstruction
  pub others : List EncoderInstruction
  pub sent : p.sent ≡ front ++ others
  pub history : History
  pub leads : Leads (initial_history 0 d.settings.max_capacity) front history
  pub table : d.table ≡ table_of (window_of history)

pub taken : (p : Encoder) (d : DecodingEnd) (come : List ℕ) → IsLawful p d come
    → Receives (empty_table 0 (Some d.settings.max_capacity) 0) d.table come d.stream → Taken p d
taken p d come l r =
    let k = r.0 in
    let x = reads_front SpellsEncoderInstruction (wire encoder_instruction_form) k.lines p.sent k.front k.rest l.behind
    k.joined (subst (λ (b : List ℕ). SpellsAll SpellsEncoderInstruction b p.sent)
    (l.come_is ∙ ap (λ (b : List ℕ). b ++ l.behind) k.cut ∙ append_assoc k.front k.rest l.behind) l.spelled) in
    let most = d.settings.max_capacity in
    let h = strict_leads (initial_history 0 most) k.lines d.table (sound_start 0 most)
    (subst (λ (t : Table). apply_in_turn strict_apply t k.lines ≡ Ok d.table) (begins_empty most) k.applies) in
    record { front = k.lines; others = x.still; sent = x.goes_on; history = h.0; leads = h.1; table = h.2 }

sound_taken : (p : Encoder) (d : DecodingEnd) (t : Taken p d) → Sound t.history
sound_taken p d t =
    leads_sound (initial_history 0 d.settings.max_capacity) t.front t.history t.leads
    (sound_start 0 d.settings.max_capacity)

count_taken : (p : Encoder) (d : DecodingEnd) (t : Taken p d) → insert_count d.table ≡ length t.history.inserted
count_taken p d t =
    ap insert_count t.table ∙ count_put (window_of t.history) ∙ all_counted t.history (sound_taken p d t)

-- ---- all that was written

-- nothing is behind whole instructions but one that is cut
none_still : (rest : List ℕ) (still : List EncoderInstruction) → Truncates encoder_instruction_form rest
    → SpellsAll SpellsEncoderInstruction (rest ++ []) still → still ≡ []
none_still rest [] cut s = refl
none_still rest (i ∷ is) cut s = absurd ((cut s.0 s.1 (sym (append-nil rest) ∙ s.2)).0 i s.3)

-- once all bytes of an encoder are received, so are all its insertions
pub all_made : (maximum : ℕ) (p : Encoder) (t : Table) (come : List ℕ) (place : Place) (pending : List ℕ)
    → IsLawfulEncoder maximum p.known p.sent p.made → SpellsAll SpellsEncoderInstruction p.bytes p.sent
    → p.bytes ≡ come → HasReceived (empty_table 0 (Some maximum) 0) t come place pending
    → insert_count t ≡ length p.made.inserted
all_made maximum p t come place pending e spelled all h =
    let k = h.0 in
    let start = initial_history 0 maximum in
    let x = reads_front SpellsEncoderInstruction (wire encoder_instruction_form) k.lines p.sent k.front k.rest []
    k.joined (subst (λ (b : List ℕ). SpellsAll SpellsEncoderInstruction b p.sent)
    (all ∙ k.cut ∙ ap (λ (b : List ℕ). k.front ++ b) (sym (append-nil k.rest))) spelled) in
    let none = none_still k.rest x.still k.ends.1.cut x.left in
    let same : p.sent ≡ k.lines =
    x.goes_on ∙ ap (λ (is : List EncoderInstruction). k.lines ++ is) none ∙ append-nil k.lines in
    let l = strict_leads start k.lines t (sound_start 0 maximum)
    (subst (λ (u : Table). apply_in_turn strict_apply u k.lines ≡ Ok t) (begins_empty maximum) k.applies) in
    let made : l.0 ≡ p.made =
    leads_unique start k.lines l.0 p.made l.1
    (subst (λ (is : List EncoderInstruction). Leads start is p.made) same e.makes) in
    ap insert_count l.2 ∙ count_put (window_of l.0)
    ∙ all_counted l.0 (leads_sound start k.lines l.0 l.1 (sound_start 0 maximum))
    ∙ ap (λ (h : History). length h.inserted) made

-- ---- a section

-- what is read of it: its fields, or that it is blocked; or it is over the limit
pub record IsReadAs (d : DecodingEnd) (k : SentSection) (read : StrictReading) : Type 0 where
  pub blocked : insert_count d.table < k.required
      → (read ≡ Blocked k.required)
      ⊎ (IsOverLimit read × (d.settings.max_section_size < total_size (fields_of_lines k.fields)))
  pub reads : k.required ≤ insert_count d.table
      → (read ≡ Read k.fields k.required)
      ⊎ (IsOverLimit read × (d.settings.max_section_size < total_size (fields_of_lines k.fields)))

pub is_read_as : (p : Encoder) (d : DecodingEnd) (come : List ℕ) (k : SentSection) → IsLawful p d come → Taken p d
    → d.reported ≤ insert_count d.table
    → IsLawfulSection d.settings.max_capacity p.made k.required k.fields k.bytes
    → IsReadAs d k (strict_reading (window d.table) d.settings.max_section_size k.bytes)
is_read_as p d come k l t told section =
    record {
      blocked = λ missing. by_size (Blocked k.required) tt
          (λ big low. same big ∙ (exactly big low).blocked (omega (arith, missing, count_taken p d t)));
      reads = λ received. by_size (Read k.fields k.required) tt
          (λ big low. same big ∙ (exactly big low).read (omega (arith, received, count_taken p d t)));
    }
  where
    size : ℕ
    size = d.settings.max_section_size

    total : ℕ
    total = total_size (fields_of_lines k.fields)

    exactly : (big : ℕ) → total ≤ big → ReadsLawfully t.history big k.required k.fields k.bytes
    exactly big low =
        lawful_sections_read d.settings.max_capacity p.known big k.required t.front t.others t.history p.made k.fields
        k.bytes
        (record {
          taken = subst (λ (is : List EncoderInstruction). IsOk (apply_in_turn strict_apply
              (empty_table 0 (Some d.settings.max_capacity) 0) is)) t.sent l.encoder.taken;
          makes = subst (λ (is : List EncoderInstruction). Leads (initial_history 0 d.settings.max_capacity) is p.made)
              t.sent l.encoder.makes;
          evicted = l.encoder.evicted;
        }) t.leads (omega (arith, l.told, told, count_taken p d t)) section low

    same : (big : ℕ) → strict_reading (window d.table) big k.bytes
        ≡ strict_reading (window_of t.history) big k.bytes
    same big =
        ap (λ (x : Window). strict_reading x big k.bytes) (ap window t.table ∙ window_put (window_of t.history))

    by_size : (a : StrictReading) → IsAnswer a
        → ((big : ℕ) → total ≤ big → strict_reading (window d.table) big k.bytes ≡ a)
        → (strict_reading (window d.table) size k.bytes ≡ a)
        ⊎ (IsOverLimit (strict_reading (window d.table) size k.bytes) × (size < total))
    by_size a is reads = pick (cases_lt size total)
      where
        limited : Limited (strict_reading (window d.table) size k.bytes) a → size < total
            → (strict_reading (window d.table) size k.bytes ≡ a)
            ⊎ (IsOverLimit (strict_reading (window d.table) size k.bytes) × (size < total))
        limited (inl e) over = inl e
        limited (inr e) over = inr (e, over)

        pick : (size < total) ⊎ (total ≤ size)
            → (strict_reading (window d.table) size k.bytes ≡ a)
            ⊎ (IsOverLimit (strict_reading (window d.table) size k.bytes) × (size < total))
        pick (inl over) =
            limited (reading_limited (window d.table) size total k.bytes a is (reads total (omega arith))) over
        pick (inr low) = inl (reads size low)

-- what a decode answers, by what is read; and the end behind it
abbrev pub AnswersSo : DecodingEnd → DecodingEnd → ℕ → SentSection → List FieldLine → Result Reading DecodingError
    → Type 0
AnswersSo old new s k fields answer =
    AnswersSection old s k fields answer × (new.failure ≡ old.failure)

pub decode_answers : (d new : DecodingEnd) (s : ℕ) (k : SentSection) (fields : List FieldLine)
    (answer : Result Reading DecodingError) (read : StrictReading) → IsReadAs d k read → MayWait d s k
    → d.failure ≡ None → Decodes d new s read fields answer → AnswersSo d new s k fields answer
decode_answers d new s k fields answer read reads may alive call = by_answer answer call
  where
    -- the fields were read
    decoded : (required : ℕ) → read ≡ Read fields required → (fields ≡ k.fields) × (required ≡ k.required)
        × (k.required ≤ insert_count d.table)
    decoded required e = pick (cases_lt (insert_count d.table) k.required)
      where
        pick : (insert_count d.table < k.required) ⊎ (k.required ≤ insert_count d.table)
            → (fields ≡ k.fields) × (required ≡ k.required) × (k.required ≤ insert_count d.table)
        pick (inl missing) = elim (reads.blocked missing) [
          | inl b ↦ absurd (let x = sym e ∙ b in cc)
          | inr over ↦ absurd (subst IsOverLimit e over.0)
        ]
        pick (inr within) = elim (reads.reads within) [
          | inl b ↦ let x = sym e ∙ b in (
            read_fields fields k.fields required k.required x,
            read_count fields k.fields required k.required x,
            within,
          )
          | inr over ↦ absurd (subst IsOverLimit e over.0)
        ]

    -- it is blocked
    waits : (required : ℕ) → read ≡ Blocked required → (required ≡ k.required) × (insert_count d.table < k.required)
    waits required e = pick (cases_lt (insert_count d.table) k.required)
      where
        pick : (insert_count d.table < k.required) ⊎ (k.required ≤ insert_count d.table)
            → (required ≡ k.required) × (insert_count d.table < k.required)
        pick (inl missing) = elim (reads.blocked missing) [
          | inl b ↦ (blocked_count required k.required (sym e ∙ b), missing)
          | inr over ↦ absurd (subst IsOverLimit e over.0)
        ]
        pick (inr within) = elim (reads.reads within) [
          | inl b ↦ absurd (let x = sym e ∙ b in cc)
          | inr over ↦ absurd (subst IsOverLimit e over.0)
        ]

    -- it is refused: it is over the limit
    over_limit : (e : SectionError) → TellsReading e read
        → IsOverLimit read × (d.settings.max_section_size < total_size (fields_of_lines k.fields))
    over_limit e tells = pick (cases_lt (insert_count d.table) k.required)
      where
        pick : (insert_count d.table < k.required) ⊎ (k.required ≤ insert_count d.table)
            → IsOverLimit read × (d.settings.max_section_size < total_size (fields_of_lines k.fields))
        pick (inl missing) = elim (reads.blocked missing) [
          | inl b ↦ absurd (subst (TellsReading e) b tells)
          | inr over ↦ over
        ]
        pick (inr within) = elim (reads.reads within) [
          | inl b ↦ absurd (subst (TellsReading e) b tells)
          | inr over ↦ over
        ]

    stays : (required : ℕ) → new ≡ acknowledged s required d → new.failure ≡ d.failure
    stays zero is = ap (λ (x : DecodingEnd). x.failure) is
    stays (suc many) is = ap (λ (x : DecodingEnd). x.failure) is

    by_error : (e : DecodingError) → fields ≡ []
        → IsNotAnswered d new s e ⊎ (Checks d s (Ok tt) × StopsDecoding d new s read e)
        → AnswersSo d new s k fields (Err e)
    by_error e none (inl (inl ended, same)) = absurd (let x = sym alive ∙ ended in cc)
    by_error e none (inl (inr number, same)) = (
      subst (λ (x : DecodingError). AnswersSection d s k fields (Err x)) (sym number.2) (none, refl, number.1),
      ap (λ (x : DecodingEnd). x.failure) same,
    )
    by_error (Section q x) none (inr (checks, tells)) =
        let over = over_limit x tells.1 in
        let code = over_code read x over.0 tells.1 in (
          (none, tells.0, code, over.1),
          ap (λ (y : DecodingEnd). y.failure) (refusal_is d new s x code tells.2),
        )
    by_error (TooManyBlocked q) none (inr (checks, tells)) = absurd (may (waits tells.1.0 tells.1.1).1 tells.2)
    by_error Memory none (inr (checks, stops)) = elim (stops_for_memory d new read stops) [
      | inl same ↦ (none, ap (λ (y : DecodingEnd). y.failure) same)
      | inr reported ↦ (none, ap (λ (y : DecodingEnd). y.failure) reported)
    ]
    by_error (EncoderStream q x) none (inr (checks, tells)) = absurd tells
    by_error (NoStream q) none (inr (checks, tells)) = absurd tells

    by_answer : (a : Result Reading DecodingError) → Decodes d new s read fields a → AnswersSo d new s k fields a
    by_answer (Ok (reading.Fields required)) h = (decoded required h.1.0, stays required h.1.1)
    by_answer (Ok (reading.Blocked required)) h =
        (let x = waits required h.1.0 in (h.1.1, x.0, x.1), ap (λ (x : DecodingEnd). x.failure) h.1.3)
    by_answer (Err e) h = by_error e h.0 h.1
