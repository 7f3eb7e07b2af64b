-- All calls of the decoding end, with any encoder that keeps to the standard.
use Rattle.std.proofs.Common.{◌≡◌, ◌<◌, ◌≤◌, ◌⊎◌, ℕ, List, [], ◌∷◌, drop, Option, None, Some, refl, sym, ap, subst, ◌∙◌, arith, inl, inr}
use Rattle.std.proofs.lemmas.Bool.{cases_eq}
use Rattle.std.proofs.lemmas.Option.{none-some}
use Rattle.qpack_spec.specs.StrictReading.{StrictReading, Read, Blocked, strict_reading}
use Rattle.qpack_spec.specs.Table.{empty_table, insert_count, window}
use Rattle.qpack_spec.specs.Field.{fields_of_lines, total_size}
use Rattle.qpack_decoding.specs.declared.decoder.DecoderSettings.{DecoderSettings}
use Rattle.qpack_decoding.specs.Decoders.{DecodingEnd, Begins}
use Rattle.qpack_decoding.specs.PieceDecoders.{ReadsPiece}
use Rattle.qpack_decoding.specs.PieceLaws.{ReadsOrWaits}
use Rattle.qpack_decoding.specs.Receiving.{Receives}
use Rattle.qpack_safety.specs.HandedSections.{IsOverLimit}
use Rattle.std.proofs.lemmas.Bool.{cases_lt}
use Rattle.qpack_connection.specs.Connections.{SentSection}
use Rattle.qpack_connection.specs.LawfulEncoders.{Encoder, IsLawful, Decoder, Coming, begins, Comes, Call, Receive, Decode}
use Rattle.qpack_connection.specs.LawfulEncoders.{Begin, Read as ReadPiece, Cancel, Take, Sent, Step, Run, IsLawfulPiece}
use Rattle.qpack_connection.specs.LawfulEncoders.{IsLawfulCall, AreLawful, Answers, AllAnswer, after_piece}
use Rattle.qpack_connection.specs.LawfulEncoders.{LawfulEncodersAreUnderstood}
use Rattle.qpack_connection.proofs.ComingSections.{ReadsWhole, Goes, goes_begins}
use Rattle.qpack_connection.proofs.LawfulEncoders.{Taken, taken, IsReadAs, is_read_as, decode_answers}
use Rattle.qpack_connection.proofs.UnderstoodEncoders.{Stays, stays_first, stays_as, stays_still, stays_decoded}
use Rattle.qpack_connection.proofs.UnderstoodEncoders.{receive_answers, cancel_answers, stays_taken, may_wait}
use Rattle.qpack_connection.proofs.UnderstoodPieces.{PieceDone, piece_done}

-- ---- between calls

-- the end, and each section that comes in pieces
pub record Holds (settings : DecoderSettings) (x : Decoder) : Type 0 where
  pub stays : Stays settings x
  pub goes : (s : ℕ) (c : Coming) → x.coming s ≡ Some c → Goes settings.max_section_size s c

pub holds_first : (settings : DecoderSettings) (x : Decoder) → Begins settings x.end → x.come ≡ []
    → ((s : ℕ) → x.coming s ≡ None) → Holds settings x
holds_first settings x b none no_section =
    record {
      stays = stays_first settings x b none;
      goes = λ s c is. absurd (none-some c (sym (no_section s) ∙ is));
    }

-- nothing else comes in pieces
holds_same : (settings : DecoderSettings) (x y : Decoder) → Holds settings x → Stays settings y → y.coming ≡ x.coming
    → Holds settings y
holds_same settings x y k stays same =
    record {
      stays = stays;
      goes = λ s c is. k.goes s c (ap (λ (f : ℕ → Option Coming). f s) (sym same) ∙ is);
    }

-- another section comes on one stream, or what is left of one
holds_with : (settings : DecoderSettings) (x y : Decoder) (stream : ℕ) (this : Option Coming) → Holds settings x
    → Stays settings y → Comes stream this x.coming y.coming
    → ((c : Coming) → this ≡ Some c → Goes settings.max_section_size stream c) → Holds settings y
holds_with settings x y stream this k stays comes goes =
    record { stays = stays; goes = λ s c is. pick s c is (cases_eq s stream) }
  where
    pick : (s : ℕ) (c : Coming) → y.coming s ≡ Some c → (s ≡ stream) ⊎ (s ≡ stream → ⊥)
        → Goes settings.max_section_size s c
    pick s c is (inl same) =
        subst (λ (n : ℕ). Goes settings.max_section_size n c) (sym same)
        (goes c (sym comes.here ∙ ap y.coming (sym same) ∙ is))
    pick s c is (inr other) = k.goes s c (sym (comes.others s other) ∙ is)

-- ---- a piece

pub some_is : (a b : Coming) (o : Option Coming) → o ≡ Some a → o ≡ Some b → a ≡ b
some_is a b o p q = let same : (let x : Option Coming = Some a in x ≡ Some b) = sym p ∙ q in cc

-- a section within the limit is read whole, or waits
reads_whole : (d : DecodingEnd) (k : SentSection)
    → IsReadAs d k (strict_reading (window d.table) d.settings.max_section_size k.bytes)
    → total_size (fields_of_lines k.fields) ≤ d.settings.max_section_size
    → ReadsWhole (window d.table) d.settings.max_section_size k
reads_whole d k is within = pick (cases_lt (insert_count d.table) k.required)
  where
    read : StrictReading
    read = strict_reading (window d.table) d.settings.max_section_size k.bytes

    pick : (insert_count d.table < k.required) ⊎ (k.required ≤ insert_count d.table)
        → ReadsOrWaits k.fields k.required read
    pick (inl missing) = elim (is.blocked missing) [
      | inl b ↦ inr b
      | inr over ↦ absurd (omega (arith, over.1, within))
    ]
    pick (inr there) = elim (is.reads there) [
      | inl r ↦ inl r
      | inr over ↦ absurd (omega (arith, over.1, within))
    ]

-- what came of the encoder stream was received from its start
received : (settings : DecoderSettings) (x : Decoder) → Stays settings x
    → Receives (empty_table 0 (Some x.end.settings.max_capacity) 0) x.end.table x.come x.end.stream
received settings x k =
    subst (λ (c : DecoderSettings). Receives (empty_table 0 (Some c.max_capacity) 0) x.end.table x.come x.end.stream)
    (sym k.settings_are) k.stream

-- ---- all calls

pub step_answers : (settings : DecoderSettings) (call : Call) (x y : Decoder) → Holds settings x → Step call x y
    → (asked : IsLawfulCall call x) → Answers call x y asked × Holds settings y
step_answers settings (Receive bytes left answer) x y k step asked =
    let r = receive_answers settings x y bytes left answer asked.0 k.stays asked.1 step in
    (r.0, holds_same settings x y k r.1 step.2)
step_answers settings (Decode s section fields answer) x y k step asked =
    let p = asked.0 in
    let read = strict_reading (window x.end.table) x.end.settings.max_section_size section.bytes in
    let answers = decode_answers x.end y.end s section fields answer read
    (is_read_as p x.end x.come section asked.1 (taken p x.end x.come asked.1 (received settings x k.stays)) k.stays.told asked.2)
    (may_wait p x.end s section asked.3 (omega (arith, asked.1.told, k.stays.told)) k.stays.once) k.stays.alive
    step.0 in (
      answers.0,
      holds_same settings x y k
          (stays_decoded settings x y s section fields answer read k.stays step.1 answers.0 step.0) step.2,
    )
step_answers settings (Begin s section) x y k step asked = (
  tt,
  holds_with settings x y s (Some (begins s section)) k (stays_still settings x y k.stays step.1 step.0) step.2
      (λ c e. subst (λ (d : Coming). Goes settings.max_section_size s d)
      (some_is (begins s section) c (Some (begins s section)) refl e) (goes_begins settings.max_section_size s section)),
)
step_answers settings (ReadPiece s bytes left last fields answer) x y k step asked =
    let r = step.0 in
    let p = asked.encoder in
    let c = asked.coming in
    let same : r.coming ≡ c = some_is r.coming c (x.coming s) r.is asked.is in
    let done = piece_done settings x y s c r.reader bytes left asked.more last fields answer k.stays (k.goes s c asked.is)
    step.1 asked.short
    (subst (λ (d : DecoderSettings). ReadsWhole (window x.end.table) d.max_section_size c.sent) k.stays.settings_are
    (reads_whole x.end c.sent
    (is_read_as p x.end x.come c.sent asked.lawful (taken p x.end x.come asked.lawful (received settings x k.stays))
    k.stays.told asked.section) asked.within))
    (may_wait p x.end s c.sent asked.limit (omega (arith, asked.lawful.told, k.stays.told)) k.stays.once) asked.next
    asked.whole
    (subst (λ (d : Coming). ReadsPiece x.end y.end last d.reader r.reader bytes left fields answer) same r.reads) in (
      done.answers,
      holds_with settings x y s (after_piece c r.reader bytes left fields answer) k done.stays
          (subst (λ (d : Coming). Comes s (after_piece d r.reader bytes left fields answer) x.coming y.coming) same
          r.comes) done.goes,
    )
step_answers settings (Cancel s answer) x y k step asked =
    let r = cancel_answers settings x y s answer k.stays step.0 step.1 in (r.0, holds_same settings x y k r.1 step.2)
step_answers settings Take x y k step asked =
    (tt, holds_same settings x y k (stays_taken settings x y k.stays step.1 step.0) step.2)
step_answers settings (Sent bytes) x y k step asked = (
  tt,
  holds_same settings x y k
      (stays_as settings x y (record x.end { unsent = drop bytes x.end.unsent }) k.stays step.0 step.1 refl refl refl refl
      k.stays.told k.stays.once) step.2,
)

all_answer : (settings : DecoderSettings) (calls : List Call) (x last : Decoder) (run : Run calls x last)
    → Holds settings x → (asked : AreLawful calls x last run) → AllAnswer calls x last run asked
all_answer settings [] x last run k asked = tt
all_answer settings (call ∷ calls) x last run k asked =
    let one = step_answers settings call x run.0 k run.1 asked.0 in
    (one.0, one.1.stays.alive, all_answer settings calls run.0 last run.2 one.1 asked.1)

pub encoders_understood : LawfulEncodersAreUnderstood
encoders_understood settings calls first last b none no_section run asked =
    all_answer settings calls first last run (holds_first settings first b none no_section) asked
