-- An encoding end of maximum capacity 0 keeps its table as it began: nothing is inserted, and no section waits.
use Rattle.std.proofs.Common.{◌≡◌, ◌+◌, ℕ, Bool, true, List, [], ◌∷◌, ◌++◌, None, Some, Ok, Err, refl, sym, ap, ◌∙◌, subst}
use Rattle.std.proofs.Common.{arith, append-nil, take}
use Rattle.std.specs.Prelude.{nat_eq, nat_lt, nat_le}
use Rattle.std.proofs.lemmas.Bool.{cond_both, eq-eqb, leb-true, ltb-false}
use Rattle.qpack_spec.specs.Chosen.{Chosen, chosen_rule}
use Rattle.qpack_spec.specs.Field.{Field, FieldLine, fields_of_lines, has_name, is_field}
use Rattle.qpack_spec.specs.Instruction.{EncoderInstruction, DecoderInstruction, Acknowledgment, Cancellation, Increment}
use Rattle.qpack_spec.specs.Instruction.{coded_encoder_instructions}
use Rattle.qpack_spec.specs.Reading.{greatest_of}
use Rattle.qpack_spec.specs.Rule.{Draft, empty_draft, committed_table}
use Rattle.qpack_rules.specs.StrictInstructions.{strict_hear, hear_in_turn}
use Rattle.qpack_spec.specs.Table.{Table, empty_table, insert_count, commit, without_references, with_capacity}
use Rattle.qpack_spec.specs.Table.{without_oldest, without_stream, apply_decoder_instruction}
use Rattle.qpack_spec.specs.Window.{greatest_capacity}
use Rattle.qpack_spec.specs.Text.{WhereShorter}
use Rattle.qpack_rules.proofs.ChosenSteps.{IsKept, every_kept, kept_chosen_fields}
use Rattle.qpack_spec.proofs.Positions.{FoundEntry}
use Rattle.qpack_spec.proofs.Results.{bind_ok, ok_is}
use Rattle.qpack_rules.proofs.StrictSections.{no_room}
use Rattle.qpack_codec.specs.ChosenSections.{EncodesChosen, GivesUpChosen}
use Rattle.qpack_encoding.specs.Encoders.{EncodingEnd, IsSound}
use Rattle.qpack_encoding.specs.Hearing.{StreamView}
use Rattle.qpack_encoding.specs.declared.decoder_stream.DecoderStreamError.{DecoderStreamError}
use Rattle.qpack_encoding.proofs.Encoders.{takes_capacity, HearsAll}

-- the table of such an end
abbrev pub bare : Table
bare = empty_table 0 (Some 0) 4096

-- ---- a section

-- nothing was inserted or referenced
abbrev IsBareDraft : Draft → Type 0
IsBareDraft d = (d.table ≡ bare) × (d.instructions ≡ [])

no_entry : (t : Table) (p : Field → Bool) (a : ℕ) → t ≡ bare → FoundEntry t p a → ⊥
no_entry t p a is k =
    let none : insert_count t ≡ 0 = ap (λ (x : Table). insert_count x) is in
    omega (arith, k.above, k.within, none)

bare_kept : (base : ℕ) (f : Field) → IsKept IsBareDraft base f
bare_kept base f =
    record {
      static_line = λ d i e k. k;
      static_name = λ d i e k. k;
      literal = λ d k. k;
      entry = λ d a at may k. absurd (no_entry d.table (is_field f) a k.0 at);
      name = λ d a at may k. absurd (no_entry d.table (has_name f.name) a k.0 at);
      insertion = λ d names below r k. absurd (let none = no_room d.table f (ap (λ (x : Table). x.capacity) k.0) in cc);
      unreferenced = λ d names r k. absurd (let none = no_room d.table f (ap (λ (x : Table). x.capacity) k.0) in cc);
    }

chosen_bare : (t : Table) (ls : List FieldLine) (cs : List Chosen) → t ≡ bare → IsBareDraft (chosen_rule t ls cs)
unfolding chosen_rule without_references
chosen_bare t ls cs is =
    kept_chosen_fields IsBareDraft (insert_count t) (empty_draft t) ls cs
    (every_kept IsBareDraft (insert_count t) (fields_of_lines ls) (bare_kept (insert_count t)))
    (ap (λ (x : Table). without_references x) is, refl)

committed_bare : (d : Draft) (stream : ℕ) → d.table ≡ bare → committed_table d stream ≡ bare
unfolding commit greatest_of
committed_bare d stream is = ap (λ (x : Table). commit x stream (greatest_of x.referenced)) is

unnamed_bare : (t : Table) → t ≡ bare → without_references t ≡ bare
unfolding without_references
unnamed_bare t is = ap (λ (x : Table). without_references x) is

nothing_written : (written : List ℕ) (is : List EncoderInstruction) → is ≡ []
    → written ++ coded_encoder_instructions WhereShorter is ≡ written
unfolding coded_encoder_instructions
nothing_written written is none =
    ap (λ (l : List EncoderInstruction). written ++ coded_encoder_instructions WhereShorter l) none ∙ append-nil written

-- a section leaves the table as it began, and writes nothing on the encoder stream
pub encoded_bare : (stream : ℕ) (fields : List FieldLine) (t u : Table) (before after written more : List ℕ)
    (required : ℕ) → EncodesChosen WhereShorter stream fields t u before after written more required → t ≡ bare
    → (u ≡ bare) × (more ≡ written)
encoded_bare stream fields t u before after written more required k is =
    let d = chosen_bare t fields k.choices is in (
      k.table ∙ committed_bare (chosen_rule t fields k.choices) stream d.0,
      k.written ∙ nothing_written written (chosen_rule t fields k.choices).instructions d.1,
    )

-- and so does one that is given up
pub given_up_bare : (fields : List FieldLine) (t u : Table) (written more : List ℕ)
    → GivesUpChosen WhereShorter fields t u written more → t ≡ bare → (u ≡ bare) × (more ≡ written)
given_up_bare fields t u written more k is =
    let d = chosen_bare t (take k.many fields) k.choices is in (
      k.table ∙ unnamed_bare (chosen_rule t (take k.many fields) k.choices).table d.0,
      k.written ∙ nothing_written written (chosen_rule t (take k.many fields) k.choices).instructions d.1,
    )

-- ---- a capacity

only_zero : (m : ℕ) (v : Table) → with_capacity bare m ≡ Ok v → m ≡ 0
unfolding with_capacity
only_zero m v q =
    cond_both (nat_le m (greatest_capacity (Some 0))) _ _ (λ r. r ≡ Ok v → m ≡ 0)
    (λ small _. omega (arith, leb-true m (greatest_capacity (Some 0)) small))
    (λ _ r. absurd cc)
    q

-- the only capacity is 0
pub sized_bare : (t u : Table) (n : ℕ) → with_capacity t n ≡ Ok u → t ≡ bare → (n ≡ 0) × (u ≡ bare)
sized_bare t u n e is =
    let zero = only_zero n u (subst (λ (x : Table). with_capacity x n ≡ Ok u) is e) in (
      zero,
      ok_is u bare
          (sym e ∙ ap (λ (x : Table). with_capacity x n) is ∙ ap (λ (m : ℕ). with_capacity bare m) zero
          ∙ takes_capacity bare 0 0 (omega arith) (omega arith) refl refl),
    )

-- ---- the decoder stream

-- no section waits for an acknowledgment, and no insertion for an increment
one_bare : (u : Table) (i : DecoderInstruction) → strict_hear bare i ≡ Ok u → u ≡ bare
unfolding strict_hear apply_decoder_instruction without_oldest without_stream
one_bare u (Acknowledgment stream) e = absurd cc
one_bare u (Cancellation stream) e = sym (ok_is _ _ e)
one_bare u (Increment by) e =
    cond_both (nat_eq by 0) _ _ (λ r. r ≡ Ok u → u ≡ bare) (λ _ q. absurd cc)
    (λ some. cond_both (nat_lt 0 (0 + by)) _ _ (λ r. r ≡ Ok u → u ≡ bare) (λ _ q. absurd cc)
    (λ none _. absurd (let zero : by ≡ 0 = omega (arith, ltb-false 0 (0 + by) none) in
    let is : nat_eq by 0 ≡ true = eq-eqb by 0 zero in cc)))
    e

pub heard_bare : (t u : Table) (is : List DecoderInstruction) → hear_in_turn t is ≡ Ok u → t ≡ bare → u ≡ bare
heard_bare t u [] e is = sym (ok_is t u e) ∙ is
heard_bare t u (i ∷ more) e is =
    let one = bind_ok (strict_hear t i) (λ v. hear_in_turn v more) u e in
    heard_bare one.0 u more one.2
    (one_bare one.0 i (subst (λ (x : Table). strict_hear x i ≡ Ok one.0) is one.1))

-- bytes of the decoder stream leave the table as it began, also where the stream is refused
pub received_bare : (d : EncodingEnd) (t : Table) (s : StreamView) (bytes : List ℕ) → IsSound d → d.failure ≡ None
    → HearsAll d t s bytes (Ok tt) → d.table ≡ bare → t ≡ bare
received_bare d t s bytes sound live hears is =
    let was = sound.stream live in
    let more = hears was.0 was.1 was.2 in
    heard_bare d.table t more.more more.applies is

pub refused_bare : (d : EncodingEnd) (t : Table) (s : StreamView) (bytes : List ℕ) (e : DecoderStreamError) → IsSound d
    → d.failure ≡ None → HearsAll d t s bytes (Err e) → d.table ≡ bare → t ≡ bare
refused_bare d t s bytes e sound live hears is =
    let was = sound.stream live in
    let more = (hears was.0 was.1 was.2).0 in
    heard_bare d.table t more.more more.applies is
