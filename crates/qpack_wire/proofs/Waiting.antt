-- What is known of an encoder instruction that ends early, by the kind that its first byte names.
use Rattle.std.proofs.Common.{◌≡◌, ℕ, suc, ◌+◌, ◌<◌, ◌≤◌, List, [], ◌∷◌, Some, length, drop, refl, sym, ap, ◌∙◌, arith}
use Rattle.std.proofs.Common.{inl, inr}
use Rattle.std.proofs.lemmas.Bool.{lt-ltb, le-ltb, cases_lt}
use Rattle.qpack_spec.specs.Integer.{integer_at}
use Rattle.qpack_spec.specs.Form.{Form, Index, IndexAndValue, NameAndValue}
use Rattle.qpack_spec.specs.Instruction as instruction
use Rattle.qpack_spec.specs.Instruction.{EncoderInstruction, InsertStaticName, InsertDynamicName, InsertLiteralName}
use Rattle.qpack_spec.specs.Instruction.{SetCapacity, encoder_instruction_form}
use Rattle.qpack_spec.specs.Wanted.{wanted_in, wanted, value_behind_index_wanted, value_behind_name_wanted}
use Rattle.qpack_spec.specs.Wanted.{least_size_in, least_field_size, least_value_behind_index, least_name_and_value}
use Rattle.qpack_wire.specs.StreamLines.{encoder_instruction_of_first}
use Rattle.qpack_wire.specs.declared.stream.encoder_stream.EncoderInstruction.TheVariants as encoder
use Rattle.qpack_wire.proofs.StreamForms.{BeginsWith, first_of_encoder, no_unknown_encoder}

-- ---- of no bytes

pub wanted_of_nothing : (bytes : List ℕ) → length bytes ≡ 0 → wanted bytes ≡ 1
unfolding wanted
wanted_of_nothing [] none = refl
wanted_of_nothing (b ∷ bytes) none = absurd (omega (arith, none))

pub least_of_nothing : (bytes : List ℕ) → length bytes ≡ 0 → least_field_size bytes ≡ 0
unfolding least_field_size
least_of_nothing [] none = refl
least_of_nothing (b ∷ bytes) none = absurd (omega (arith, none))

-- ---- the form of each kind

-- what is known of bytes is known by the form that the first one names
record IsKnownBy (bytes : List ℕ) (form : Form EncoderInstruction) : Type 0 where
  pub many : wanted bytes ≡ wanted_in (Some form) bytes
  pub large : least_field_size bytes ≡ least_size_in (Some form) bytes

known_by : (b : ℕ) (bytes : List ℕ) (form : Form EncoderInstruction) → BeginsWith b bytes
    → encoder_instruction_form b ≡ Some form → IsKnownBy bytes form
unfolding wanted least_field_size
known_by b bytes form e names = record {
  many = ap wanted e ∙ ap (λ o. wanted_in o (b ∷ drop 1 bytes)) names ∙ sym (ap (wanted_in (Some form)) e);
  large = ap least_field_size e ∙ ap (λ o. least_size_in o (b ∷ drop 1 bytes)) names
      ∙ sym (ap (least_size_in (Some form)) e);
}

duplicate_known : (b : ℕ) (bytes : List ℕ) → BeginsWith b bytes → encoder_instruction_of_first b ≡ encoder.Duplicate
    → IsKnownBy bytes (Index 5 instruction.Duplicate)
unfolding encoder_instruction_form
duplicate_known b bytes e f =
    known_by b bytes (Index 5 instruction.Duplicate) e (rw (lt-ltb b 32 (first_of_encoder b encoder.Duplicate f)) refl)

size_update_known : (b : ℕ) (bytes : List ℕ) → BeginsWith b bytes
    → encoder_instruction_of_first b ≡ encoder.DynamicTableSizeUpdate → IsKnownBy bytes (Index 5 SetCapacity)
unfolding encoder_instruction_form
size_update_known b bytes e f =
    let t = first_of_encoder b encoder.DynamicTableSizeUpdate f in
    known_by b bytes (Index 5 SetCapacity) e (rw (le-ltb b 32 t.0, lt-ltb b 64 t.1) refl)

literal_known : (b : ℕ) (bytes : List ℕ) → BeginsWith b bytes
    → encoder_instruction_of_first b ≡ encoder.InsertWithoutNameRef → IsKnownBy bytes (NameAndValue 6 InsertLiteralName)
unfolding encoder_instruction_form
literal_known b bytes e f =
    let t = first_of_encoder b encoder.InsertWithoutNameRef f in
    known_by b bytes (NameAndValue 6 InsertLiteralName) e
    (rw (le-ltb b 32 (omega (arith, t.0)), le-ltb b 64 t.0, lt-ltb b 128 t.1) refl)

dynamic_named : (b : ℕ) → 128 ≤ b → b < 192 → encoder_instruction_form b ≡ Some (IndexAndValue 6 InsertDynamicName)
unfolding encoder_instruction_form
dynamic_named b low high =
    rw (le-ltb b 32 (omega (arith, low)), le-ltb b 64 (omega (arith, low)), le-ltb b 128 low, lt-ltb b 192 high) refl

static_named : (b : ℕ) → 192 ≤ b → b < 256 → encoder_instruction_form b ≡ Some (IndexAndValue 6 InsertStaticName)
unfolding encoder_instruction_form
static_named b low high =
    rw (
      le-ltb b 32 (omega (arith, low)),
      le-ltb b 64 (omega (arith, low)),
      le-ltb b 128 (omega (arith, low)),
      le-ltb b 192 low,
      lt-ltb b 256 high,
    ) refl

name_known : (b : ℕ) (bytes : List ℕ) → b < 256 → BeginsWith b bytes
    → encoder_instruction_of_first b ≡ encoder.InsertWithNameRef
    → IsKnownBy bytes (IndexAndValue 6 InsertDynamicName)
name_known b bytes h e f =
    let low = first_of_encoder b encoder.InsertWithNameRef f in
    elim (cases_lt b 192) [
      | inl lt ↦ known_by b bytes (IndexAndValue 6 InsertDynamicName) e (dynamic_named b low lt)
      | inr le ↦
          let k = known_by b bytes (IndexAndValue 6 InsertStaticName) e (static_named b le h) in
          record { many = k.many; large = k.large }
    ]

-- ---- how many bytes are wanted

pub wanted_of_duplicate : (b : ℕ) (bytes : List ℕ) → BeginsWith b bytes
    → encoder_instruction_of_first b ≡ encoder.Duplicate → wanted bytes ≡ suc (length bytes)
wanted_of_duplicate b bytes e f = (duplicate_known b bytes e f).many

pub wanted_of_size_update : (b : ℕ) (bytes : List ℕ) → BeginsWith b bytes
    → encoder_instruction_of_first b ≡ encoder.DynamicTableSizeUpdate → wanted bytes ≡ suc (length bytes)
wanted_of_size_update b bytes e f = (size_update_known b bytes e f).many

pub wanted_of_literal : (b : ℕ) (bytes : List ℕ) → BeginsWith b bytes
    → encoder_instruction_of_first b ≡ encoder.InsertWithoutNameRef
    → wanted bytes ≡ value_behind_name_wanted (length bytes) (integer_at 5 bytes)
wanted_of_literal b bytes e f = (literal_known b bytes e f).many

pub wanted_of_name : (b : ℕ) (bytes : List ℕ) → b < 256 → BeginsWith b bytes
    → encoder_instruction_of_first b ≡ encoder.InsertWithNameRef
    → wanted bytes ≡ value_behind_index_wanted (length bytes) (integer_at 6 bytes)
wanted_of_name b bytes h e f = (name_known b bytes h e f).many

-- by the kind that the first byte tells
pub ruleset wanted_by_kind = (
  wanted_of_duplicate,
  wanted_of_size_update,
  wanted_of_literal,
  wanted_of_name,
  no_unknown_encoder,
)

-- ---- how large a field is at least

pub least_of_duplicate : (b : ℕ) (bytes : List ℕ) → BeginsWith b bytes
    → encoder_instruction_of_first b ≡ encoder.Duplicate → least_field_size bytes ≡ 0
least_of_duplicate b bytes e f = (duplicate_known b bytes e f).large

pub least_of_size_update : (b : ℕ) (bytes : List ℕ) → BeginsWith b bytes
    → encoder_instruction_of_first b ≡ encoder.DynamicTableSizeUpdate → least_field_size bytes ≡ 0
least_of_size_update b bytes e f = (size_update_known b bytes e f).large

pub least_of_literal : (b : ℕ) (bytes : List ℕ) → BeginsWith b bytes
    → encoder_instruction_of_first b ≡ encoder.InsertWithoutNameRef
    → least_field_size bytes ≡ least_name_and_value (integer_at 5 bytes) + 32
least_of_literal b bytes e f = (literal_known b bytes e f).large

pub least_of_name : (b : ℕ) (bytes : List ℕ) → b < 256 → BeginsWith b bytes
    → encoder_instruction_of_first b ≡ encoder.InsertWithNameRef
    → least_field_size bytes ≡ least_value_behind_index (integer_at 6 bytes) + 32
least_of_name b bytes h e f = (name_known b bytes h e f).large

-- by the kind that the first byte tells
pub ruleset least_by_kind = (
  least_of_duplicate,
  least_of_size_update,
  least_of_literal,
  least_of_name,
  no_unknown_encoder,
)
