-- A strict decoder refuses nothing of a stream that is lawful to its end, however it is cut.
use Rattle.std.proofs.Common.{◌≡◌, ◌≢◌, ℕ, ◌<◌, ◌≤◌, Bool, true, false, cond, List, [], ◌∷◌, ◌++◌}
use Rattle.std.proofs.Common.{Option, None, Some, Result, Ok, Err, refl, sym, ap, ◌∙◌, subst, inl, inr, arith}
use Rattle.std.specs.Prelude.{nat_eq, nat_le, nat_lt, ◌&&◌, IsOk, slice_get}
use Rattle.std.proofs.lemmas.Bool.{cond_both, ltb-true, ltb-false, le-ltb, le-leb, eqb-true, eqb-false, leb-true}
use Rattle.std.proofs.lemmas.List.{append_assoc}
use Rattle.qpack_spec.specs.Bytes.{◌>>=◌}
use Rattle.qpack_spec.specs.Field.{Field, field_size}
use Rattle.qpack_spec.specs.Form.{Form, Index, IndexAndValue, NameAndValue, SpellsForm}
use Rattle.qpack_spec.specs.Instruction.{EncoderInstruction, InsertStaticName, InsertDynamicName, InsertLiteralName}
use Rattle.qpack_spec.specs.Instruction.{Duplicate, SetCapacity, encoder_instruction_form, SpellsEncoderInstruction}
use Rattle.qpack_rules.specs.LawfulStreams.{begins_insertion, IsNotRefused, IsLawfulStream, GoesOn}
use Rattle.qpack_rules.specs.LawfulStreams.{LawfulStreamsAreNeverRefused, LawfulStreamsAreTaken}
use Rattle.qpack_spec.specs.StaticTable.{static_table}
use Rattle.qpack_spec.specs.Stream.{SpellsAll}
use Rattle.qpack_rules.specs.StrictInstructions.{inserts, strict_apply}
use Rattle.qpack_spec.specs.Table.{Table, window, put, apply_encoder_instruction}
use Rattle.qpack_rules.specs.Taking.{apply_in_turn}
use Rattle.qpack_spec.specs.Wanted.{least_field_size}
use Rattle.qpack_rules.specs.WantedLaws.{size_of_strings}
use Rattle.qpack_spec.specs.Window.{TableRefusal, NoEntry, NoStaticField, DoesNotFit, or_refusal, with_value}
use Rattle.qpack_spec.specs.Window.{relative_entry}
use Rattle.qpack_spec.proofs.Cuttings.{wire, refusal_apart, nil_append, reads_front}
use Rattle.qpack_spec.proofs.Results.{bind_ok, chosen, ok_is}
use Rattle.qpack_rules.proofs.StreamReadings.{stream_reads}
use Rattle.qpack_rules.proofs.WaitingFields.{fields_as_large}

-- ---- the first byte tells whether a field is inserted

AgreesIn : ℕ → Form EncoderInstruction → Type 0
AgreesIn b (Index n make) = (index : ℕ) → inserts (make index) ≡ nat_le 64 b
AgreesIn b (IndexAndValue n make) = (index : ℕ) (value : List ℕ) → inserts (make index value) ≡ nat_le 64 b
AgreesIn b (NameAndValue n make) = (name value : List ℕ) → inserts (make name value) ≡ nat_le 64 b

abbrev Agrees : ℕ → Option (Form EncoderInstruction) → Type 0
Agrees b None = Unit {0}
Agrees b (Some form) = AgreesIn b form

below : (b : ℕ) → b < 64 → false ≡ nat_le 64 b
below b less = sym (le-ltb 63 b (omega (arith, less)))

above : (b : ℕ) → 64 ≤ b → true ≡ nat_le 64 b
above b least = sym (le-leb 64 b least)

agrees : (b : ℕ) → Agrees b (encoder_instruction_form b)
unfolding encoder_instruction_form AgreesIn
agrees b =
    cond_both (nat_lt b 32) _ _ (Agrees b) (λ t. λ index. below b (omega (arith, ltb-true b 32 t)))
    (λ _. cond_both (nat_lt b 64) _ _ (Agrees b) (λ t. λ index. below b (ltb-true b 64 t))
    (λ f. cond_both (nat_lt b 128) _ _ (Agrees b) (λ _. λ name value. above b (ltb-false b 64 f))
    (λ _. cond_both (nat_lt b 192) _ _ (Agrees b) (λ _. λ index value. above b (ltb-false b 64 f))
    (λ _. cond_both (nat_lt b 256) (Some (IndexAndValue 6 InsertStaticName)) None (Agrees b)
    (λ _. λ index value. above b (ltb-false b 64 f)) (λ _. tt)))))

form_agrees : (b : ℕ) (form : Form EncoderInstruction) (encoding : List ℕ) (i : EncoderInstruction) → AgreesIn b form
    → SpellsForm form encoding i → inserts i ≡ nat_le 64 b
unfolding AgreesIn
form_agrees b (Index n make) encoding i has s = ap inserts s.2 ∙ has s.0
form_agrees b (IndexAndValue n make) encoding i has s = ap inserts s.3 ∙ has s.0 s.1
form_agrees b (NameAndValue n make) encoding i has s = ap inserts s.3 ∙ has s.0 s.1

pub inserts_by : (encoding rest left : List ℕ) (i : EncoderInstruction) → rest ≡ encoding ++ left
    → SpellsEncoderInstruction encoding i → inserts i ≡ begins_insertion rest
inserts_by encoding rest left i cut s =
    form_agrees s.first s.form encoding i
    (subst (λ (o : Option (Form EncoderInstruction)). Agrees s.first o) s.names (agrees s.first)) s.spells
    ∙ sym (ap begins_insertion (cut ∙ ap (λ (x : List ℕ). x ++ left) s.begins))

-- ---- an instruction that is applied inserts a field that fits

abbrev table_ok : Table → Result Table TableRefusal
table_ok t = Ok t

put_fits : (t u : Table) (f : Field) → t.capacity ≢ 0 → put t f ≡ Ok u → field_size f ≤ t.capacity
unfolding put
put_fits t u f some h =
    elim (chosen (nat_eq t.capacity 0) (table_ok t) _ (Ok u) h) [
      | inl none ↦ absurd (some (eqb-true t.capacity 0 none.0))
      | inr rest ↦
          elim (chosen (nat_le (field_size f) t.capacity) _ (Err DoesNotFit) (Ok u) rest.1) [
            | inl fits ↦ leb-true (field_size f) t.capacity fits.0
            | inr large ↦ absurd (let l = large.1 in cc)
          ]
    ]

applied_fits : (t u : Table) (i : EncoderInstruction) → t.capacity ≢ 0 → apply_encoder_instruction t i ≡ Ok u
    → size_of_strings i ≤ t.capacity
unfolding apply_encoder_instruction size_of_strings
applied_fits t u (InsertStaticName index value) some h =
    let f = bind_ok (or_refusal (slice_get static_table index) (NoStaticField index))
    (λ f. put t (with_value value f)) u h in
    omega (arith, put_fits t u (with_value value f.0) some f.2)
applied_fits t u (InsertDynamicName relative value) some h =
    let f = bind_ok (or_refusal (relative_entry (window t) relative) (NoEntry relative))
    (λ f. put t (with_value value f)) u h in
    omega (arith, put_fits t u (with_value value f.0) some f.2)
applied_fits t u (InsertLiteralName name value) some h =
    put_fits t u (record { name = name; value = value }) some h
applied_fits t u (Duplicate relative) some h = omega arith
applied_fits t u (SetCapacity n) some h = omega arith

-- nothing is inserted but what is spelled
no_strings : (i : EncoderInstruction) → inserts i ≡ false → size_of_strings i ≡ 0
unfolding size_of_strings
no_strings (InsertStaticName index value) h = absurd cc
no_strings (InsertDynamicName relative value) h = absurd cc
no_strings (InsertLiteralName name value) h = absurd cc
no_strings (Duplicate relative) h = refl
no_strings (SetCapacity n) h = refl

-- at capacity 0 nothing is inserted
none_at_zero : (t u : Table) (i : EncoderInstruction) → strict_apply t i ≡ Ok u → t.capacity ≡ 0 → inserts i ≡ false
unfolding strict_apply
none_at_zero t u i h zero = both (nat_eq t.capacity 0) refl (inserts i) refl h
  where
    both : (c : Bool) → nat_eq t.capacity 0 ≡ c → (b : Bool) → inserts i ≡ b
        → cond (c && b) (Err DoesNotFit) (apply_encoder_instruction t i) ≡ Ok u → inserts i ≡ false
    both true z true is h = absurd cc
    both true z false is h = is
    both false z b is h = absurd (eqb-false t.capacity 0 z zero)

strict_fits : (t u : Table) (i : EncoderInstruction) → strict_apply t i ≡ Ok u → size_of_strings i ≤ t.capacity
unfolding strict_apply
strict_fits t u i h = both (nat_eq t.capacity 0) refl h
  where
    both : (c : Bool) → nat_eq t.capacity 0 ≡ c
        → cond (c && inserts i) (Err DoesNotFit) (apply_encoder_instruction t i) ≡ Ok u → size_of_strings i ≤ t.capacity
    both true z h = omega (arith, no_strings i (none_at_zero t u i (rw z h) (eqb-true t.capacity 0 z)))
    both false z h = applied_fits t u i (eqb-false t.capacity 0 z) h

-- ---- nothing of what is left is refused

least_nothing : (t : Table) → least_field_size [] ≤ t.capacity
unfolding least_field_size
least_nothing t = omega arith

-- what is left of a lawful stream with what comes behind it
not_refused : (now last : Table) (rest behind : List ℕ) (others : List EncoderInstruction)
    → SpellsAll SpellsEncoderInstruction (rest ++ behind) others → apply_in_turn strict_apply now others ≡ Ok last
    → IsNotRefused now rest
not_refused now last rest behind [] spelled applied =
    let none : rest ≡ [] = nil_append rest behind spelled in
    record {
      bytes = λ fault b. absurd (let e = b.holds.begins in let p = b.parts in cc);
      instruction = λ i b. absurd (let e = b.holds.begins in let p = b.parts in cc);
      capacity = λ _. ap begins_insertion none;
      size = λ _. subst (λ (x : List ℕ). least_field_size x ≤ now.capacity) (sym none) (least_nothing now);
    }
not_refused now last rest behind (i ∷ others) spelled applied =
    let first = bind_ok (strict_apply now i) (λ u. apply_in_turn strict_apply u others) last applied in
    record {
      bytes = λ fault b.
          refusal_apart encoder_instruction_form fault b.encoding spelled.0 (b.rest ++ behind) spelled.1 i b.holds
          spelled.3 (sym (append_assoc b.encoding b.rest behind) ∙ ap (λ x. x ++ behind) (sym b.parts) ∙ spelled.2);
      instruction = λ j b.
          (let same = (wire encoder_instruction_form).one_spelling b.encoding spelled.0 (b.rest ++ behind) spelled.1 j i
          b.holds spelled.3
          (sym (append_assoc b.encoding b.rest behind) ∙ ap (λ x. x ++ behind) (sym b.parts) ∙ spelled.2) in
          subst (λ (x : EncoderInstruction). IsOk (strict_apply now x)) (sym same.1)
          (subst (λ (r : Result Table TableRefusal). IsOk r) (sym first.1) refl));
      capacity = λ zero. at_zero rest spelled.2 (none_at_zero now first.0 i first.1 zero);
      size = λ cut. omega (
        arith,
        fields_as_large rest behind spelled.0 spelled.1 i cut spelled.2 spelled.3,
        strict_fits now first.0 i first.1,
      );
    }
  where
    at_zero : (rest : List ℕ) → rest ++ behind ≡ spelled.0 ++ spelled.1 → inserts i ≡ false
        → begins_insertion rest ≡ false
    at_zero [] e none = refl
    at_zero (b ∷ bytes) e none =
        sym (inserts_by spelled.0 ((b ∷ bytes) ++ behind) spelled.1 i e spelled.3) ∙ none

-- the table behind the first of some instructions
applied_front : (first now last : Table) (lines others : List EncoderInstruction)
    → apply_in_turn strict_apply first lines ≡ Ok now → apply_in_turn strict_apply first (lines ++ others) ≡ Ok last
    → apply_in_turn strict_apply now others ≡ Ok last
applied_front first now last [] others h k =
    subst (λ (t : Table). apply_in_turn strict_apply t others ≡ Ok last) (ok_is first now h) k
applied_front first now last (l ∷ lines) others h k =
    let one = bind_ok (strict_apply first l) (λ u. apply_in_turn strict_apply u lines) now h in
    applied_front one.0 now last lines others one.2
    (ap (λ (r : Result Table TableRefusal). r >>= λ u. apply_in_turn strict_apply u (lines ++ others)) (sym one.1) ∙ k)

-- behind instructions that were taken a lawful stream goes on
goes_on : (first now last : Table) (front rest behind : List ℕ) (lines sent : List EncoderInstruction)
    → SpellsAll SpellsEncoderInstruction front lines → apply_in_turn strict_apply first lines ≡ Ok now
    → IsLawfulStream first last (front ++ (rest ++ behind)) sent → GoesOn now last lines sent rest behind
goes_on first now last front rest behind lines sent joined applied s =
    let r = reads_front SpellsEncoderInstruction (wire encoder_instruction_form) lines sent front rest behind joined
    s.spelled in
    let others = applied_front first now last lines r.still applied
    (subst (λ (is : List EncoderInstruction). apply_in_turn strict_apply first is ≡ Ok last) r.goes_on s.applied) in
    record {
      others = r.still;
      first = r.goes_on;
      stream = record { spelled = r.left; applied = others };
      refuses_nothing = not_refused now last rest behind r.still r.left others;
    }

cut_stream : (first last : Table) (piece front rest behind : List ℕ) (sent : List EncoderInstruction)
    → piece ≡ front ++ rest → IsLawfulStream first last (piece ++ behind) sent
    → IsLawfulStream first last (front ++ (rest ++ behind)) sent
cut_stream first last piece front rest behind sent cut s =
    subst (λ (b : List ℕ). IsLawfulStream first last b sent)
    (ap (λ x. x ++ behind) cut ∙ append_assoc front rest behind) s

pub never_refused : LawfulStreamsAreNeverRefused
never_refused first now last piece behind sent s k =
    goes_on first now last k.front k.rest behind k.lines sent k.joined k.applies
    (cut_stream first last piece k.front k.rest behind sent k.cut s)

-- ---- all whole instructions are taken

-- the table behind the first of some instructions that are applied
front_applied : (first last : Table) (lines others : List EncoderInstruction)
    → apply_in_turn strict_apply first (lines ++ others) ≡ Ok last
    → (now : Table) × (apply_in_turn strict_apply first lines ≡ Ok now)
front_applied first last [] others h = (first, refl)
front_applied first last (l ∷ lines) others h =
    let one = bind_ok (strict_apply first l) (λ u. apply_in_turn strict_apply u (lines ++ others)) last h in
    let more = front_applied one.0 last lines others one.2 in
    (more.0, ap (λ (r : Result Table TableRefusal). r >>= λ u. apply_in_turn strict_apply u lines) one.1 ∙ more.1)

pub are_taken : LawfulStreamsAreTaken
are_taken first last piece behind sent s =
    let r = stream_reads encoder_instruction_form piece in
    let cut = cut_stream first last piece r.holds.front r.rest behind sent r.holds.cut s in
    let read = reads_front SpellsEncoderInstruction (wire encoder_instruction_form) r.lines sent r.holds.front r.rest
    behind r.holds.joined cut.spelled in
    let now = front_applied first last r.lines read.still
    (subst (λ (is : List EncoderInstruction). apply_in_turn strict_apply first is ≡ Ok last) read.goes_on s.applied) in
    let g = goes_on first now.0 last r.holds.front r.rest behind r.lines sent r.holds.joined now.1 cut in (
      now.0,
      record {
        lines = r.lines;
        front = r.holds.front;
        rest = r.rest;
        cut = r.holds.cut;
        joined = r.holds.joined;
        applies = now.1;
        ends = elim r.ends [
          | inl truncated ↦ record { cut = truncated; fits = g.refuses_nothing.size truncated }
          | inr refused ↦ absurd (g.refuses_nothing.bytes refused.0 refused.1)
        ];
      },
    )
