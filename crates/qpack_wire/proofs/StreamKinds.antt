-- The kinds of an instruction, each told by its own first bits, make up each stream.
use Rattle.std.proofs.Common.{◌≡◌, ℕ, ◌/◌, ◌<◌, List, Option, Some, sym, ◌∙◌, arith, inl, inr, ◌⊎◌}
use Rattle.std.specs.Prelude.{nat_eq}
use Rattle.std.proofs.lemmas.Bool.{eqb-true, le-ltb, cases_lt}
use Rattle.qpack_spec.specs.Form.{Form, Spells}
use Rattle.qpack_spec.specs.Instruction.{EncoderInstruction, DecoderInstruction, SpellsEncoderInstruction}
use Rattle.qpack_spec.specs.Instruction.{SpellsDecoderInstruction, encoder_instruction_form}
use Rattle.qpack_spec.specs.Instruction.{decoder_instruction_form}
use Rattle.qpack_wire.specs.Alone.{Kind, form_for, SpellsKind}
use Rattle.qpack_wire.specs.Instructions.{insert_with_name_ref, insert_without_name_ref, duplicate}
use Rattle.qpack_wire.specs.Instructions.{dynamic_table_size_update, insert_count_increment, header_ack, stream_cancel}
use Rattle.qpack_wire.specs.KindLaws.{EncodersHaveFourKinds, DecodersHaveThreeKinds}
use Rattle.qpack_wire.proofs.FiveForms.{test_holds}
use Rattle.qpack_wire.proofs.StreamForms.{Shares, shares_duplicate, shares_size_update, shares_literal, shares_name}
use Rattle.qpack_wire.proofs.StreamForms.{shares_increment, shares_cancel, shares_ack}

-- a spelling of the stream is one of the kind that shares its first byte's form, and back
alone : {L : Type 0} (form_of : ℕ → Option (Form L)) (a : Kind L) (encoding : List ℕ) (l : L)
    (s : Spells L form_of encoding l)
    → Shares form_of a s.first → SpellsKind a encoding l
alone form_of a encoding l s h = record {
  first = s.first;
  more = s.more;
  form = s.form;
  begins = s.begins;
  names = h.1 ∙ sym h.2 ∙ s.names;
  spells = s.spells;
}

spelled : {L : Type 0} (form_of : ℕ → Option (Form L)) (a : Kind L) (encoding : List ℕ) (l : L)
    → ((b : ℕ) (form : Form L) → form_for a b ≡ Some form → Shares form_of a b) → SpellsKind a encoding l
    → Spells L form_of encoding l
spelled form_of a encoding l shares s =
    let h = shares s.first s.form s.names in
    record {
      first = s.first;
      more = s.more;
      form = s.form;
      begins = s.begins;
      names = h.2 ∙ sym h.1 ∙ s.names;
      spells = s.spells;
    }

-- ---- encoder instructions

encoder_byte : (b : ℕ) (form : Form EncoderInstruction) → encoder_instruction_form b ≡ Some form → b < 256
unfolding encoder_instruction_form
encoder_byte b form e =
    elim (cases_lt b 256) [
      | inl h ↦ h
      | inr h ↦
          absurd (let t32 = le-ltb b 32 (omega arith) in
          let t64 = le-ltb b 64 (omega arith) in
          let t128 = le-ltb b 128 (omega arith) in
          let t192 = le-ltb b 192 (omega arith) in
          let t256 = le-ltb b 256 h in
          let n = rw (t32, t64, t128, t192, t256) at e in
          cc)
    ]

duplicates : (b : ℕ) (form : Form EncoderInstruction) → form_for duplicate b ≡ Some form
    → Shares encoder_instruction_form duplicate b
duplicates b form e =
    let q = eqb-true (b / 32) 0 (test_holds (nat_eq (b / 32) 0) _ form e) in shares_duplicate b (omega (arith, q))

size_updates : (b : ℕ) (form : Form EncoderInstruction) → form_for dynamic_table_size_update b ≡ Some form
    → Shares encoder_instruction_form dynamic_table_size_update b
size_updates b form e = let q = eqb-true (b / 32) 1 (test_holds (nat_eq (b / 32) 1) _ form e) in
    shares_size_update b (omega (arith, q)) (omega (arith, q))

literals : (b : ℕ) (form : Form EncoderInstruction) → form_for insert_without_name_ref b ≡ Some form
    → Shares encoder_instruction_form insert_without_name_ref b
literals b form e = let q = eqb-true (b / 64) 1 (test_holds (nat_eq (b / 64) 1) _ form e) in
    shares_literal b (omega (arith, q)) (omega (arith, q))

names : (b : ℕ) (form : Form EncoderInstruction) → form_for insert_with_name_ref b ≡ Some form
    → Shares encoder_instruction_form insert_with_name_ref b
names b form e =
    let q = eqb-true (b / 64 / 2) 1 (test_holds (nat_eq (b / 64 / 2) 1) _ form e) in
    shares_name b (omega (arith, q)) (omega (arith, q))

encoder_kind : (encoding : List ℕ) (i : EncoderInstruction) → SpellsEncoderInstruction encoding i
    → SpellsKind duplicate encoding i
    ⊎ (SpellsKind dynamic_table_size_update encoding i
    ⊎ (SpellsKind insert_without_name_ref encoding i ⊎ SpellsKind insert_with_name_ref encoding i))
encoder_kind encoding i s =
    elim (cases_lt s.first 32) [
      | inl h ↦ inl (alone encoder_instruction_form duplicate encoding i s (shares_duplicate s.first h))
      | inr h32 ↦
          elim (cases_lt s.first 64) [
            | inl h ↦ inr (inl (alone encoder_instruction_form dynamic_table_size_update encoding i s
                (shares_size_update s.first h32 h)))
            | inr h64 ↦
                elim (cases_lt s.first 128) [
                  | inl h ↦ inr (inr (inl (alone encoder_instruction_form insert_without_name_ref encoding i s
                      (shares_literal s.first h64 h))))
                  | inr h128 ↦ inr (inr (inr (alone encoder_instruction_form insert_with_name_ref encoding i s
                      (shares_name s.first h128 (encoder_byte s.first s.form s.names)))))
                ]
          ]
    ]

pub four_kinds : EncodersHaveFourKinds
four_kinds encoding i = (encoder_kind encoding i, together)
  where
    together : SpellsKind duplicate encoding i
        ⊎ (SpellsKind dynamic_table_size_update encoding i
        ⊎ (SpellsKind insert_without_name_ref encoding i ⊎ SpellsKind insert_with_name_ref encoding i))
        → SpellsEncoderInstruction encoding i
    together (inl s) = spelled encoder_instruction_form duplicate encoding i duplicates s
    together (inr (inl s)) = spelled encoder_instruction_form dynamic_table_size_update encoding i size_updates s
    together (inr (inr (inl s))) = spelled encoder_instruction_form insert_without_name_ref encoding i literals s
    together (inr (inr (inr s))) = spelled encoder_instruction_form insert_with_name_ref encoding i names s

-- ---- decoder instructions

decoder_byte : (b : ℕ) (form : Form DecoderInstruction) → decoder_instruction_form b ≡ Some form → b < 256
unfolding decoder_instruction_form
decoder_byte b form e =
    elim (cases_lt b 256) [
      | inl h ↦ h
      | inr h ↦
          absurd (let t64 = le-ltb b 64 (omega arith) in
          let t128 = le-ltb b 128 (omega arith) in
          let t256 = le-ltb b 256 h in
          let n = rw (t64, t128, t256) at e in
          cc)
    ]

increments : (b : ℕ) (form : Form DecoderInstruction) → form_for insert_count_increment b ≡ Some form
    → Shares decoder_instruction_form insert_count_increment b
increments b form e =
    let q = eqb-true (b / 64) 0 (test_holds (nat_eq (b / 64) 0) _ form e) in shares_increment b (omega (arith, q))

cancels : (b : ℕ) (form : Form DecoderInstruction) → form_for stream_cancel b ≡ Some form
    → Shares decoder_instruction_form stream_cancel b
cancels b form e = let q = eqb-true (b / 64) 1 (test_holds (nat_eq (b / 64) 1) _ form e) in
    shares_cancel b (omega (arith, q)) (omega (arith, q))

acks : (b : ℕ) (form : Form DecoderInstruction) → form_for header_ack b ≡ Some form
    → Shares decoder_instruction_form header_ack b
acks b form e = let q = eqb-true (b / 128) 1 (test_holds (nat_eq (b / 128) 1) _ form e) in
    shares_ack b (omega (arith, q)) (omega (arith, q))

decoder_kind : (encoding : List ℕ) (r : DecoderInstruction) → SpellsDecoderInstruction encoding r
    → SpellsKind insert_count_increment encoding r
    ⊎ (SpellsKind stream_cancel encoding r ⊎ SpellsKind header_ack encoding r)
decoder_kind encoding r s =
    elim (cases_lt s.first 64) [
      | inl h ↦ inl (alone decoder_instruction_form insert_count_increment encoding r s (shares_increment s.first h))
      | inr h64 ↦
          elim (cases_lt s.first 128) [
            | inl h ↦ inr (inl (alone decoder_instruction_form stream_cancel encoding r s
                (shares_cancel s.first h64 h)))
            | inr h128 ↦ inr (inr (alone decoder_instruction_form header_ack encoding r s
                (shares_ack s.first h128 (decoder_byte s.first s.form s.names))))
          ]
    ]

pub three_kinds : DecodersHaveThreeKinds
three_kinds encoding r = (decoder_kind encoding r, together)
  where
    together : SpellsKind insert_count_increment encoding r
        ⊎ (SpellsKind stream_cancel encoding r ⊎ SpellsKind header_ack encoding r) → SpellsDecoderInstruction encoding r
    together (inl s) = spelled decoder_instruction_form insert_count_increment encoding r increments s
    together (inr (inl s)) = spelled decoder_instruction_form stream_cancel encoding r cancels s
    together (inr (inr s)) = spelled decoder_instruction_form header_ack encoding r acks s
