-- An instruction is that which its first byte names.
use Rattle.std.proofs.Common.{◌≡◌, ℕ, ◌/◌, ◌<◌, ◌≤◌, List, [], ◌∷◌, Option, Some, Result, Err, refl, sym}
use Rattle.std.proofs.Common.{ap, subst, ◌∙◌, arith, drop, length, inl, inr}
use Rattle.std.proofs.lemmas.Bool.{lt-ltb, le-ltb, cases_lt}
use Rattle.qpack_spec.specs.Integer.{UnexpectedEnd}
use Rattle.qpack_spec.specs.Form.{BadInteger, Form, Index, IndexAndValue, NameAndValue, form_at}
use Rattle.qpack_spec.specs.Instruction as instruction
use Rattle.qpack_spec.specs.Instruction.{EncoderInstruction, InsertStaticName, InsertDynamicName, InsertLiteralName}
use Rattle.qpack_spec.specs.Instruction.{SetCapacity, DecoderInstruction, Acknowledgment, Cancellation, Increment}
use Rattle.qpack_spec.specs.Instruction.{encoder_instruction_form}
use Rattle.qpack_spec.specs.Instruction.{decoder_instruction_form, SpellsEncoderInstruction, SpellsDecoderInstruction}
use Rattle.qpack_wire.specs.Alone.{Kind, KindFault, Unreadable, form_for, or_unreadable, kind_at}
use Rattle.qpack_wire.specs.Instructions.{insert_with_name_ref, insert_without_name_ref, duplicate}
use Rattle.qpack_wire.specs.Instructions.{dynamic_table_size_update, insert_count_increment, header_ack, stream_cancel}
use Rattle.qpack_wire.specs.StreamLines.{encoder_instruction_of_first, decoder_instruction_of_first, RefusesEncoderLine}
use Rattle.qpack_wire.specs.StreamLines.{RefusesDecoderLine, encoder_instruction_at, decoder_instruction_at}
use Rattle.qpack_wire.specs.declared.stream.encoder_stream.EncoderInstruction.{EncoderInstruction as EncoderKind}
use Rattle.qpack_wire.specs.declared.stream.encoder_stream.EncoderInstruction.TheVariants as encoder
use Rattle.qpack_wire.specs.declared.stream.decoder_stream.DecoderInstruction.{DecoderInstruction as DecoderKind}
use Rattle.qpack_wire.specs.declared.stream.decoder_stream.DecoderInstruction.TheVariants as decoder
use Rattle.qpack_wire.specs.Memory.{AsksForMemory, AsksAt}
use Rattle.qpack_wire.proofs.Asking.{asks_alone, asks_same}
use Rattle.qpack_wire.proofs.Readers.{Follows}
use Rattle.qpack_wire.proofs.Alones.{Coherent, alone_own, form_own, forms_follow}
use Rattle.qpack_wire.proofs.InstructionForms.{coherent_insert_with_name_ref, coherent_duplicate}
use Rattle.qpack_wire.proofs.InstructionForms.{coherent_dynamic_table_size_update, coherent_insert_count_increment}
use Rattle.qpack_wire.proofs.InstructionForms.{coherent_header_ack, coherent_stream_cancel}

-- a byte list that begins with this byte
abbrev pub BeginsWith : ℕ → List ℕ → Type 0
BeginsWith b rest = rest ≡ b ∷ drop 1 rest

-- where the form alone and the stream name the same form, it is read as the stream's
abbrev pub Shares : {L : Type 0} → (ℕ → Option (Form L)) → Kind L → ℕ → Type 0
Shares {L} form_of a b = (form : Form L) × (form_for a b ≡ Some form) × (form_of b ≡ Some form)

as_form : {L : Type 0} (form_of : ℕ → Option (Form L)) (a : Kind L) → Coherent a → (b : ℕ) (rest : List ℕ)
    → BeginsWith b rest → Shares form_of a b → kind_at a rest ≡ or_unreadable (form_at form_of rest)
as_form form_of a c b rest e s =
    ap (kind_at a) e ∙ alone_own a c b (drop 1 rest) s.0 s.1
    ∙ sym (ap or_unreadable (form_own form_of b (drop 1 rest) s.0 s.2))
    ∙ sym (ap (λ bytes. or_unreadable (form_at form_of bytes)) e)

-- ---- encoder instructions

pub shares_duplicate : (b : ℕ) → b < 32 → Shares encoder_instruction_form duplicate b
unfolding encoder_instruction_form
shares_duplicate b h =
    (Index 5 instruction.Duplicate, (let q : b / 32 ≡ 0 = omega arith in rw q refl), rw (lt-ltb b 32 h) refl)

pub shares_size_update : (b : ℕ) → 32 ≤ b → b < 64 → Shares encoder_instruction_form dynamic_table_size_update b
unfolding encoder_instruction_form
shares_size_update b low high =
    (Index 5 SetCapacity, (let q : b / 32 ≡ 1 = omega arith in rw q refl), rw (le-ltb b 32 low, lt-ltb b 64 high) refl)

pub shares_literal : (b : ℕ) → 64 ≤ b → b < 128 → Shares encoder_instruction_form insert_without_name_ref b
unfolding encoder_instruction_form
shares_literal b low high = (
  NameAndValue 6 InsertLiteralName,
  (let q : b / 64 ≡ 1 = omega arith in rw q refl),
  rw (le-ltb b 32 (omega arith), le-ltb b 64 low, lt-ltb b 128 high) refl,
)

shares_dynamic : (b : ℕ) → 128 ≤ b → b < 192 → Shares encoder_instruction_form insert_with_name_ref b
unfolding encoder_instruction_form
shares_dynamic b low high = (
  IndexAndValue 6 InsertDynamicName,
  (let q : b / 64 ≡ 2 = omega arith in rw q refl),
  rw (le-ltb b 32 (omega arith), le-ltb b 64 (omega arith), le-ltb b 128 low, lt-ltb b 192 high) refl,
)

shares_static : (b : ℕ) → 192 ≤ b → b < 256 → Shares encoder_instruction_form insert_with_name_ref b
unfolding encoder_instruction_form
shares_static b low high = (
  IndexAndValue 6 InsertStaticName,
  (let q : b / 64 ≡ 3 = omega arith in rw q refl),
  rw (
    le-ltb b 32 (omega arith),
    le-ltb b 64 (omega arith),
    le-ltb b 128 (omega arith),
    le-ltb b 192 low,
    lt-ltb b 256 high,
  ) refl,
)

pub shares_name : (b : ℕ) → 128 ≤ b → b < 256 → Shares encoder_instruction_form insert_with_name_ref b
shares_name b low high =
    elim (cases_lt b 192) [
      | inl h ↦ shares_dynamic b low h
      | inr h ↦ shares_static b h high
    ]

-- the first bytes of each encoder instruction
abbrev pub IsFirstOfEncoder : ℕ → EncoderKind → Type 0
IsFirstOfEncoder b encoder.DynamicTableSizeUpdate = (32 ≤ b) × (b < 64)
IsFirstOfEncoder b encoder.InsertWithNameRef = 128 ≤ b
IsFirstOfEncoder b encoder.InsertWithoutNameRef = (64 ≤ b) × (b < 128)
IsFirstOfEncoder b encoder.Duplicate = b < 32
IsFirstOfEncoder b encoder.Unknown = ⊥

first_of_duplicate : (b : ℕ) → b < 32 → encoder_instruction_of_first b ≡ encoder.Duplicate
first_of_duplicate b h = rw (lt-ltb b 32 h) refl

first_of_size_update : (b : ℕ) → 32 ≤ b → b < 64 → encoder_instruction_of_first b ≡ encoder.DynamicTableSizeUpdate
first_of_size_update b low high = rw (le-ltb b 32 low, lt-ltb b 64 high) refl

first_of_literal : (b : ℕ) → 64 ≤ b → b < 128 → encoder_instruction_of_first b ≡ encoder.InsertWithoutNameRef
first_of_literal b low high = rw (le-ltb b 32 (omega arith), le-ltb b 64 low, lt-ltb b 128 high) refl

first_of_name : (b : ℕ) → 128 ≤ b → encoder_instruction_of_first b ≡ encoder.InsertWithNameRef
first_of_name b low = rw (le-ltb b 32 (omega arith), le-ltb b 64 (omega arith), le-ltb b 128 low) refl

pub first_of_encoder : (b : ℕ) (i : EncoderKind) → encoder_instruction_of_first b ≡ i → IsFirstOfEncoder b i
first_of_encoder b i e =
    subst (IsFirstOfEncoder b) e
    (elim (cases_lt b 32) as (λ _. IsFirstOfEncoder b (encoder_instruction_of_first b)) [
      | inl h ↦ subst (IsFirstOfEncoder b) (sym (first_of_duplicate b h)) h
      | inr h32 ↦
          elim (cases_lt b 64) as (λ _. IsFirstOfEncoder b (encoder_instruction_of_first b)) [
            | inl h ↦ subst (IsFirstOfEncoder b) (sym (first_of_size_update b h32 h)) (h32, h)
            | inr h64 ↦
                elim (cases_lt b 128) as (λ _. IsFirstOfEncoder b (encoder_instruction_of_first b)) [
                  | inl h ↦ subst (IsFirstOfEncoder b) (sym (first_of_literal b h64 h)) (h64, h)
                  | inr h128 ↦ subst (IsFirstOfEncoder b) (sym (first_of_name b h128)) h128
                ]
          ]
    ])

pub no_unknown_encoder : (b : ℕ) → encoder_instruction_of_first b ≡ encoder.Unknown → ⊥
no_unknown_encoder b e = first_of_encoder b encoder.Unknown e

pub as_duplicate : (b : ℕ) (rest : List ℕ) → b < 256 → BeginsWith b rest
    → encoder_instruction_of_first b ≡ encoder.Duplicate → kind_at duplicate rest ≡ encoder_instruction_at rest
as_duplicate b rest h e f = as_form encoder_instruction_form duplicate coherent_duplicate b rest e
    (shares_duplicate b (first_of_encoder b encoder.Duplicate f))

pub as_size_update : (b : ℕ) (rest : List ℕ) → b < 256 → BeginsWith b rest
    → encoder_instruction_of_first b ≡ encoder.DynamicTableSizeUpdate
    → kind_at dynamic_table_size_update rest ≡ encoder_instruction_at rest
as_size_update b rest h e f =
    let t = first_of_encoder b encoder.DynamicTableSizeUpdate f in
    as_form encoder_instruction_form dynamic_table_size_update coherent_dynamic_table_size_update b rest e
    (shares_size_update b t.0 t.1)

pub as_literal_insert : (b : ℕ) (rest : List ℕ) → b < 256 → BeginsWith b rest
    → encoder_instruction_of_first b ≡ encoder.InsertWithoutNameRef
    → kind_at insert_without_name_ref rest ≡ encoder_instruction_at rest
as_literal_insert b rest h e f =
    let t = first_of_encoder b encoder.InsertWithoutNameRef f in
    as_form encoder_instruction_form insert_without_name_ref tt b rest e (shares_literal b t.0 t.1)

pub as_name_insert : (b : ℕ) (rest : List ℕ) → b < 256 → BeginsWith b rest
    → encoder_instruction_of_first b ≡ encoder.InsertWithNameRef
    → kind_at insert_with_name_ref rest ≡ encoder_instruction_at rest
as_name_insert b rest h e f =
    as_form encoder_instruction_form insert_with_name_ref coherent_insert_with_name_ref b rest e
    (shares_name b (first_of_encoder b encoder.InsertWithNameRef f) h)

-- memory is asked for the instruction where it is for its kind

asks_form : {L : Type 0} (form_of : ℕ → Option (Form L)) (a : Kind L) (b : ℕ) (rest : List ℕ) → BeginsWith b rest
    → Shares form_of a b → AsksAt a rest → AsksForMemory form_of rest
asks_form form_of a b rest e s h = asks_same (form_for a) form_of b rest e (s.1 ∙ sym s.2) (asks_alone a rest h)

pub asks_name_insert : (b : ℕ) (rest : List ℕ) → b < 256 → BeginsWith b rest
    → encoder_instruction_of_first b ≡ encoder.InsertWithNameRef → AsksAt insert_with_name_ref rest
    → AsksForMemory encoder_instruction_form rest
asks_name_insert b rest h e f a = asks_form encoder_instruction_form insert_with_name_ref b rest e
    (shares_name b (first_of_encoder b encoder.InsertWithNameRef f) h) a

pub asks_literal_insert : (b : ℕ) (rest : List ℕ) → b < 256 → BeginsWith b rest
    → encoder_instruction_of_first b ≡ encoder.InsertWithoutNameRef → AsksAt insert_without_name_ref rest
    → AsksForMemory encoder_instruction_form rest
asks_literal_insert b rest h e f a =
    let t = first_of_encoder b encoder.InsertWithoutNameRef f in
    asks_form encoder_instruction_form insert_without_name_ref b rest e (shares_literal b t.0 t.1) a

-- each encoder instruction, where the first byte tells it
pub ruleset encoder_by_first = (
  as_duplicate,
  as_size_update,
  as_literal_insert,
  as_name_insert,
  no_unknown_encoder,
  asks_name_insert,
  asks_literal_insert,
)

-- ---- decoder instructions

pub shares_increment : (b : ℕ) → b < 64 → Shares decoder_instruction_form insert_count_increment b
unfolding decoder_instruction_form
shares_increment b h = (Index 6 Increment, (let q : b / 64 ≡ 0 = omega arith in rw q refl), rw (lt-ltb b 64 h) refl)

pub shares_cancel : (b : ℕ) → 64 ≤ b → b < 128 → Shares decoder_instruction_form stream_cancel b
unfolding decoder_instruction_form
shares_cancel b low high =
    let first : b / 64 ≡ 1 = omega arith in
    (Index 6 Cancellation, rw first refl, rw (le-ltb b 64 low, lt-ltb b 128 high) refl)

pub shares_ack : (b : ℕ) → 128 ≤ b → b < 256 → Shares decoder_instruction_form header_ack b
unfolding decoder_instruction_form
shares_ack b low high = (
  Index 7 Acknowledgment,
  (let q : b / 128 ≡ 1 = omega arith in rw q refl),
  rw (le-ltb b 64 (omega arith), le-ltb b 128 low, lt-ltb b 256 high) refl,
)

-- the first bytes of each decoder instruction
abbrev IsFirstOfDecoder : ℕ → DecoderKind → Type 0
IsFirstOfDecoder b decoder.HeaderAck = 128 ≤ b
IsFirstOfDecoder b decoder.StreamCancel = (64 ≤ b) × (b < 128)
IsFirstOfDecoder b decoder.InsertCountIncrement = b < 64
IsFirstOfDecoder b decoder.Unknown = ⊥

first_of_increment : (b : ℕ) → b < 64 → decoder_instruction_of_first b ≡ decoder.InsertCountIncrement
first_of_increment b h = rw (lt-ltb b 64 h) refl

first_of_cancel : (b : ℕ) → 64 ≤ b → b < 128 → decoder_instruction_of_first b ≡ decoder.StreamCancel
first_of_cancel b low high = rw (le-ltb b 64 low, lt-ltb b 128 high) refl

first_of_ack : (b : ℕ) → 128 ≤ b → decoder_instruction_of_first b ≡ decoder.HeaderAck
first_of_ack b low = rw (le-ltb b 64 (omega arith), le-ltb b 128 low) refl

first_of_decoder : (b : ℕ) (i : DecoderKind) → decoder_instruction_of_first b ≡ i → IsFirstOfDecoder b i
first_of_decoder b i e =
    subst (IsFirstOfDecoder b) e
    (elim (cases_lt b 64) as (λ _. IsFirstOfDecoder b (decoder_instruction_of_first b)) [
      | inl h ↦ subst (IsFirstOfDecoder b) (sym (first_of_increment b h)) h
      | inr h64 ↦
          elim (cases_lt b 128) as (λ _. IsFirstOfDecoder b (decoder_instruction_of_first b)) [
            | inl h ↦ subst (IsFirstOfDecoder b) (sym (first_of_cancel b h64 h)) (h64, h)
            | inr h128 ↦ subst (IsFirstOfDecoder b) (sym (first_of_ack b h128)) h128
          ]
    ])

pub no_unknown_decoder : (b : ℕ) → decoder_instruction_of_first b ≡ decoder.Unknown → ⊥
no_unknown_decoder b e = first_of_decoder b decoder.Unknown e

pub as_increment : (b : ℕ) (rest : List ℕ) → b < 256 → BeginsWith b rest
    → decoder_instruction_of_first b ≡ decoder.InsertCountIncrement
    → kind_at insert_count_increment rest ≡ decoder_instruction_at rest
as_increment b rest h e f =
    as_form decoder_instruction_form insert_count_increment coherent_insert_count_increment b rest e
    (shares_increment b (first_of_decoder b decoder.InsertCountIncrement f))

pub as_cancel : (b : ℕ) (rest : List ℕ) → b < 256 → BeginsWith b rest
    → decoder_instruction_of_first b ≡ decoder.StreamCancel → kind_at stream_cancel rest ≡ decoder_instruction_at rest
as_cancel b rest h e f =
    let t = first_of_decoder b decoder.StreamCancel f in
    as_form decoder_instruction_form stream_cancel coherent_stream_cancel b rest e (shares_cancel b t.0 t.1)

pub as_ack : (b : ℕ) (rest : List ℕ) → b < 256 → BeginsWith b rest → decoder_instruction_of_first b ≡ decoder.HeaderAck
    → kind_at header_ack rest ≡ decoder_instruction_at rest
as_ack b rest h e f =
    as_form decoder_instruction_form header_ack coherent_header_ack b rest e
    (shares_ack b (first_of_decoder b decoder.HeaderAck f) h)

-- each decoder instruction, where the first byte tells it
pub ruleset decoder_by_first = (as_increment, as_cancel, as_ack, no_unknown_decoder)

-- ---- reading a stream's line is its relation

nothing_at : {L : Type 0} (form_of : ℕ → Option (Form L)) (seen rest : List ℕ) → length seen ≡ 0 → seen ≡ rest
    → (let r : Result (L × List ℕ) KindFault = or_unreadable (form_at form_of rest) in r)
    ≡ Err (Unreadable (BadInteger UnexpectedEnd))
unfolding form_at
nothing_at form_of [] rest h e = ap (λ bytes. or_unreadable (form_at form_of bytes)) (sym e)
nothing_at form_of (x ∷ xs) rest h e = absurd (omega arith)

pub no_instruction : (seen rest : List ℕ) → length seen ≡ 0 → seen ≡ rest
    → encoder_instruction_at rest ≡ Err (Unreadable (BadInteger UnexpectedEnd))
no_instruction seen rest h e = nothing_at encoder_instruction_form seen rest h e

pub no_decoder_instruction : (seen rest : List ℕ) → length seen ≡ 0 → seen ≡ rest
    → decoder_instruction_at rest ≡ Err (Unreadable (BadInteger UnexpectedEnd))
no_decoder_instruction seen rest h e = nothing_at decoder_instruction_form seen rest h e

pub instruction_follows : Follows EncoderInstruction SpellsEncoderInstruction RefusesEncoderLine encoder_instruction_at
instruction_follows = forms_follow encoder_instruction_form RefusesEncoderLine (λ encoding f. (λ r. r, λ r. r))
    (λ encoding bits r. r)

pub decoder_instruction_follows : Follows DecoderInstruction SpellsDecoderInstruction RefusesDecoderLine
    decoder_instruction_at
decoder_instruction_follows = forms_follow decoder_instruction_form RefusesDecoderLine (λ encoding f. (λ r. r, λ r. r))
    (λ encoding bits r. r)
