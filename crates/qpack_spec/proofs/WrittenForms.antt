-- What is written of lines, instructions and decoder_instructions is a spelling.
use Rattle.std.proofs.Common.{◌≡◌, ℕ, suc, ◌+◌, ◌-◌, ◌*◌, ◌/◌, ◌%◌, ◌^◌, ◌<◌, ◌≤◌, List, [], ◌∷◌, ◌++◌, length, Option}
use Rattle.std.proofs.Common.{Some, refl, ap, arith, lit≤, Bool, true, false, cond}
use Rattle.std.proofs.lemmas.Bool.{lt-ltb, le-ltb, eq-eqb, ne_eqb}
use Rattle.qpack_spec.specs.Integer.{SpellsInteger, written_integer}
use Rattle.qpack_spec.specs.Huffman.{payload_of}
use Rattle.qpack_spec.specs.Text.{SpellsString, Coding, is_coded, payload_under, written_literal_of, coded_string}
use Rattle.qpack_spec.specs.Form.{Form, Index, IndexAndValue, NameAndValue, Spells}
use Rattle.qpack_spec.specs.Line.{IndexedStatic, IndexedDynamic, IndexedPostBase, NamedStatic, NamedDynamic}
use Rattle.qpack_spec.specs.Line.{NamedPostBase, Literal, line_form, coded_line}
use Rattle.qpack_spec.specs.Instruction.{InsertStaticName, InsertDynamicName, InsertLiteralName, Duplicate, SetCapacity}
use Rattle.qpack_spec.specs.Instruction.{Acknowledgment, Cancellation, Increment, encoder_instruction_form}
use Rattle.qpack_spec.specs.Instruction.{decoder_instruction_form}
use Rattle.qpack_spec.specs.Instruction.{coded_encoder_instruction, written_decoder_instruction}
use Rattle.qpack_spec.specs.WrittenLaws.{IsSmall, IsWritableUnder, WrittenLinesAreSpellings}
use Rattle.qpack_spec.specs.WrittenLaws.{WrittenEncoderInstructionsAreSpellings, WrittenDecoderInstructionsAreSpellings}
use Rattle.qpack_spec.proofs.WrittenIntegers.{written_spells}
use Rattle.qpack_spec.proofs.WrittenStrings.{written_literal}

-- a text and its first byte
pub record Starts (n flags : ℕ) (encoding : List ℕ) : Type 0 where
  pub first : ℕ
  pub more : List ℕ
  pub begins : encoding ≡ first ∷ more
  pub high : flags ≡ first / 2 ^ n

pub integer_starts : (n : ℕ) (encoding : List ℕ) (flags value : ℕ) → SpellsInteger n encoding flags value
    → Starts n flags encoding
integer_starts n [] flags value s = absurd s.stands
integer_starts n (b ∷ cs) flags value s = record { first = b; more = cs; begins = refl; high = s.stands.0 }

pub behind : (n flags : ℕ) (head tail : List ℕ) → Starts n flags head → Starts n flags (head ++ tail)
behind n flags head tail s =
    record { first = s.first; more = s.more ++ tail; begins = ap (λ x. x ++ tail) s.begins; high = s.high }

-- an integer as it is written: of 3 to 7 bits, the flags fitting above
pub integer_written : (n flags value : ℕ) → 1 ≤ n → n ≤ 8 → flags < 2 ^ (8 - n) → IsSmall value
    → SpellsInteger n (written_integer n flags value) flags value
integer_written n flags value least most fit small =
    written_spells n flags value (record { least = least; most = most; high = fit; low = omega arith }) (omega arith)

string_written : (coding : Coding) (n flags : ℕ) (value : List ℕ) → 2 ≤ n → n ≤ 8 → flags < 2 ^ (8 - n)
    → IsWritableUnder coding value → SpellsString n (coded_string coding n flags value) flags value
string_written coding n flags value least most fit w =
    written_literal coding n flags value (record {
      least = least;
      most = most;
      flags_fit = fit;
      bytes = w.bytes;
      size = omega (arith, w.size);
    })

value_written : (coding : Coding) (value : List ℕ) → IsWritableUnder coding value
    → SpellsString 8 (coded_string coding 8 0 value) 0 value
value_written coding value w = string_written coding 8 0 value (lit≤ tt) (lit≤ tt) (lit≤ tt) w

-- a text and its first byte, whose flags end with whether the string is coded
pub record NameStarts (n flags : ℕ) (encoding : List ℕ) : Type 0 where
  pub huffman : ℕ
  pub few : huffman < 2
  pub starts : Starts n (2 * flags + huffman) encoding

payload_starts : (n flags huffman : ℕ) (payload : List ℕ) → 1 ≤ n → n ≤ 7 → 2 * flags + huffman < 2 ^ (8 - n)
    → length payload < 2 ^ 63 → Starts n (2 * flags + huffman) (written_literal_of (suc n) flags huffman payload)
payload_starts n flags huffman payload least most fit small =
    let e : suc n - 1 ≡ n = omega arith in
    let s = written_spells n (2 * flags + huffman) (length payload)
    (record { least = least; most = omega arith; high = fit; low = omega arith }) (omega arith) in
    rw e (behind n (2 * flags + huffman) (written_integer n (2 * flags + huffman) (length payload)) payload
    (integer_starts n (written_integer n (2 * flags + huffman) (length payload)) (2 * flags + huffman)
    (length payload) s))

-- the first byte of a written name
pub name_starts : (coding : Coding) (n flags : ℕ) (name : List ℕ) → 1 ≤ n → n ≤ 7 → 2 * flags + 1 < 2 ^ (8 - n)
    → length (payload_under coding name) < 2 ^ 63 → NameStarts n flags (coded_string coding (suc n) flags name)
unfolding coded_string
name_starts coding n flags name least most fit small = both (is_coded coding name) small
  where
    both : (b : Bool) → length (cond b (payload_of name) name) < 2 ^ 63
        → NameStarts n flags (cond b (written_literal_of (suc n) flags 1 (payload_of name))
        (written_literal_of (suc n) flags 0 name))
    both true size =
        record {
          huffman = 1;
          few = lit≤ tt;
          starts = payload_starts n flags 1 (payload_of name) least most fit size;
        }
    both false size =
        record {
          huffman = 0;
          few = lit≤ tt;
          starts = payload_starts n flags 0 name least most (omega (arith, fit)) size;
        }

-- ---- a form that is named by the first byte

by_index : {L : Type 0} (form_of : ℕ → Option (Form L)) (n flags index : ℕ) (make : ℕ → L) → 1 ≤ n → n ≤ 8
    → flags < 2 ^ (8 - n) → IsSmall index
    → ((b : ℕ) → flags ≡ b / 2 ^ n → form_of b ≡ Some (Index n make))
    → Spells L form_of (written_integer n flags index) (make index)
by_index {L} form_of n flags index make least most fit small named =
    let s = integer_written n flags index least most fit small in
    let b = integer_starts n (written_integer n flags index) flags index s in
    record {
      first = b.first;
      more = b.more;
      form = Index n make;
      begins = b.begins;
      names = named b.first b.high;
      spells = (index, (flags, s), refl);
    }

pub by_index_and_value : {L : Type 0} (form_of : ℕ → Option (Form L)) (coding : Coding) (n flags index : ℕ)
    (value : List ℕ) (make : ℕ → List ℕ → L) → 1 ≤ n → n ≤ 8 → flags < 2 ^ (8 - n) → IsSmall index
    → IsWritableUnder coding value
    → ((b : ℕ) → flags ≡ b / 2 ^ n → form_of b ≡ Some (IndexAndValue n make))
    → Spells L form_of (written_integer n flags index ++ coded_string coding 8 0 value) (make index value)
by_index_and_value {L} form_of coding n flags index value make least most fit small w named =
    let s = integer_written n flags index least most fit small in
    let b = behind n flags (written_integer n flags index) (coded_string coding 8 0 value)
    (integer_starts n (written_integer n flags index) flags index s) in
    record {
      first = b.first;
      more = b.more;
      form = IndexAndValue n make;
      begins = b.begins;
      names = named b.first b.high;
      spells = (
        index,
        value,
        record {
          head = written_integer n flags index;
          tail = coded_string coding 8 0 value;
          parts = refl;
          first = (flags, s);
          second = (0, value_written coding value w);
        },
        refl,
      );
    }

pub by_name_and_value : {L : Type 0} (form_of : ℕ → Option (Form L)) (coding : Coding) (n flags : ℕ)
    (name value : List ℕ) (make : List ℕ → List ℕ → L) → 1 ≤ n → n ≤ 7 → 2 * flags + 1 < 2 ^ (8 - n)
    → flags < 2 ^ (8 - suc n) → IsWritableUnder coding name → IsWritableUnder coding value
    → ((b huffman : ℕ) → huffman < 2 → 2 * flags + huffman ≡ b / 2 ^ n → form_of b ≡ Some (NameAndValue (suc n) make))
    → Spells L form_of (coded_string coding (suc n) flags name ++ coded_string coding 8 0 value) (make name value)
by_name_and_value {L} form_of coding n flags name value make least most fit fit' w v named =
    let s = string_written coding (suc n) flags name (omega arith) (omega arith) fit' w in
    let start = name_starts coding n flags name least most fit w.size in
    let b = behind n (2 * flags + start.huffman) (coded_string coding (suc n) flags name) (coded_string coding 8 0 value)
    start.starts in
    record {
      first = b.first;
      more = b.more;
      form = NameAndValue (suc n) make;
      begins = b.begins;
      names = named b.first start.huffman start.few b.high;
      spells = (
        name,
        value,
        record {
          head = coded_string coding (suc n) flags name;
          tail = coded_string coding 8 0 value;
          parts = refl;
          first = (flags, s);
          second = (0, value_written coding value v);
        },
        refl,
      );
    }

-- ---- lines

first_named_post_base : (b : ℕ) → 0 ≡ b / 2 ^ 3 → line_form b ≡ Some (IndexAndValue 3 NamedPostBase)
unfolding line_form
first_named_post_base b e = rw (lt-ltb b 16 (omega arith)) refl

first_post_base : (b : ℕ) → 1 ≡ b / 2 ^ 4 → line_form b ≡ Some (Index 4 IndexedPostBase)
unfolding line_form
first_post_base b e = rw (le-ltb b 16 (omega arith), lt-ltb b 32 (omega arith)) refl

first_literal : (b huffman : ℕ) → huffman < 2 → 2 * 2 + huffman ≡ b / 2 ^ 3
    → line_form b ≡ Some (NameAndValue 4 Literal)
unfolding line_form
first_literal b huffman few e = rw (le-ltb b 16 (omega arith), le-ltb b 32 (omega arith), lt-ltb b 64 (omega arith)) refl

first_named_static : (b : ℕ) → 5 ≡ b / 2 ^ 4 → line_form b ≡ Some (IndexAndValue 4 NamedStatic)
unfolding line_form
first_named_static b e =
    rw (
      le-ltb b 16 (omega arith),
      le-ltb b 32 (omega arith),
      le-ltb b 64 (omega arith),
      lt-ltb b 128 (omega arith),
      eq-eqb (b / 16 % 2) 1 (omega arith),
    ) refl

first_named_dynamic : (b : ℕ) → 4 ≡ b / 2 ^ 4 → line_form b ≡ Some (IndexAndValue 4 NamedDynamic)
unfolding line_form
first_named_dynamic b e =
    rw (
      le-ltb b 16 (omega arith),
      le-ltb b 32 (omega arith),
      le-ltb b 64 (omega arith),
      lt-ltb b 128 (omega arith),
      ne_eqb (b / 16 % 2) 1 (λ h. absurd (omega arith)),
    ) refl

first_dynamic : (b : ℕ) → 2 ≡ b / 2 ^ 6 → line_form b ≡ Some (Index 6 IndexedDynamic)
unfolding line_form
first_dynamic b e =
    rw (
      le-ltb b 16 (omega arith),
      le-ltb b 32 (omega arith),
      le-ltb b 64 (omega arith),
      le-ltb b 128 (omega arith),
      lt-ltb b 192 (omega arith),
    ) refl

first_static : (b : ℕ) → 3 ≡ b / 2 ^ 6 → line_form b ≡ Some (Index 6 IndexedStatic)
unfolding line_form
first_static b e =
    rw (
      le-ltb b 16 (omega arith),
      le-ltb b 32 (omega arith),
      le-ltb b 64 (omega arith),
      le-ltb b 128 (omega arith),
      le-ltb b 192 (omega arith),
      lt-ltb b 256 (omega arith),
    ) refl

pub lines_spelled : WrittenLinesAreSpellings
unfolding coded_line
lines_spelled coding (IndexedStatic i) w = by_index line_form 6 3 i IndexedStatic (lit≤ tt) (lit≤ tt) (lit≤ tt) w first_static
lines_spelled coding (IndexedDynamic i) w =
    by_index line_form 6 2 i IndexedDynamic (lit≤ tt) (lit≤ tt) (lit≤ tt) w first_dynamic
lines_spelled coding (IndexedPostBase i) w =
    by_index line_form 4 1 i IndexedPostBase (lit≤ tt) (lit≤ tt) (lit≤ tt) w first_post_base
lines_spelled coding (NamedStatic i v) w =
    by_index_and_value line_form coding 4 5 i v NamedStatic (lit≤ tt) (lit≤ tt) (lit≤ tt) w.0 w.1 first_named_static
lines_spelled coding (NamedDynamic i v) w =
    by_index_and_value line_form coding 4 4 i v NamedDynamic (lit≤ tt) (lit≤ tt) (lit≤ tt) w.0 w.1 first_named_dynamic
lines_spelled coding (NamedPostBase i v) w =
    by_index_and_value line_form coding 3 0 i v NamedPostBase (lit≤ tt) (lit≤ tt) (lit≤ tt) w.0 w.1 first_named_post_base
lines_spelled coding (Literal n v) w =
    by_name_and_value line_form coding 3 2 n v Literal (lit≤ tt) (lit≤ tt) (lit≤ tt) (lit≤ tt) w.0 w.1 first_literal

-- ---- instructions

first_duplicate : (b : ℕ) → 0 ≡ b / 2 ^ 5 → encoder_instruction_form b ≡ Some (Index 5 Duplicate)
unfolding encoder_instruction_form
first_duplicate b e = rw (lt-ltb b 32 (omega arith)) refl

first_capacity : (b : ℕ) → 1 ≡ b / 2 ^ 5 → encoder_instruction_form b ≡ Some (Index 5 SetCapacity)
unfolding encoder_instruction_form
first_capacity b e = rw (le-ltb b 32 (omega arith), lt-ltb b 64 (omega arith)) refl

first_literal_name : (b huffman : ℕ) → huffman < 2 → 2 * 1 + huffman ≡ b / 2 ^ 5
    → encoder_instruction_form b ≡ Some (NameAndValue 6 InsertLiteralName)
unfolding encoder_instruction_form
first_literal_name b huffman few e = rw (le-ltb b 32 (omega arith), le-ltb b 64 (omega arith), lt-ltb b 128 (omega arith)) refl

first_dynamic_name : (b : ℕ) → 2 ≡ b / 2 ^ 6 → encoder_instruction_form b ≡ Some (IndexAndValue 6 InsertDynamicName)
unfolding encoder_instruction_form
first_dynamic_name b e =
    rw (le-ltb b 32 (omega arith), le-ltb b 64 (omega arith), le-ltb b 128 (omega arith), lt-ltb b 192 (omega arith))
    refl

first_static_name : (b : ℕ) → 3 ≡ b / 2 ^ 6 → encoder_instruction_form b ≡ Some (IndexAndValue 6 InsertStaticName)
unfolding encoder_instruction_form
first_static_name b e =
    rw (
      le-ltb b 32 (omega arith),
      le-ltb b 64 (omega arith),
      le-ltb b 128 (omega arith),
      le-ltb b 192 (omega arith),
      lt-ltb b 256 (omega arith),
    ) refl

pub instructions_spelled : WrittenEncoderInstructionsAreSpellings
unfolding coded_encoder_instruction
instructions_spelled coding (InsertStaticName i v) w =
    by_index_and_value encoder_instruction_form coding 6 3 i v InsertStaticName (lit≤ tt) (lit≤ tt)
    (lit≤ tt) w.0 w.1 first_static_name
instructions_spelled coding (InsertDynamicName i v) w =
    by_index_and_value encoder_instruction_form coding 6 2 i v InsertDynamicName (lit≤ tt) (lit≤ tt) (lit≤ tt) w.0 w.1
    first_dynamic_name
instructions_spelled coding (InsertLiteralName n v) w =
    by_name_and_value encoder_instruction_form coding 5 1 n v InsertLiteralName (lit≤ tt) (lit≤ tt) (lit≤ tt) (lit≤ tt) w.0 w.1
    first_literal_name
instructions_spelled coding (Duplicate i) w =
    by_index encoder_instruction_form 5 0 i Duplicate (lit≤ tt) (lit≤ tt) (lit≤ tt) w first_duplicate
instructions_spelled coding (SetCapacity c) w =
    by_index encoder_instruction_form 5 1 c SetCapacity (lit≤ tt) (lit≤ tt) (lit≤ tt) w first_capacity

-- ---- decoder_instructions

first_increment : (b : ℕ) → 0 ≡ b / 2 ^ 6 → decoder_instruction_form b ≡ Some (Index 6 Increment)
unfolding decoder_instruction_form
first_increment b e = rw (lt-ltb b 64 (omega arith)) refl

first_cancellation : (b : ℕ) → 1 ≡ b / 2 ^ 6 → decoder_instruction_form b ≡ Some (Index 6 Cancellation)
unfolding decoder_instruction_form
first_cancellation b e = rw (le-ltb b 64 (omega arith), lt-ltb b 128 (omega arith)) refl

first_acknowledgment : (b : ℕ) → 1 ≡ b / 2 ^ 7 → decoder_instruction_form b ≡ Some (Index 7 Acknowledgment)
unfolding decoder_instruction_form
first_acknowledgment b e = rw (le-ltb b 64 (omega arith), le-ltb b 128 (omega arith), lt-ltb b 256 (omega arith)) refl

pub decoder_instructions_spelled : WrittenDecoderInstructionsAreSpellings
unfolding written_decoder_instruction
decoder_instructions_spelled (Acknowledgment s) w =
    by_index decoder_instruction_form 7 1 s Acknowledgment (lit≤ tt) (lit≤ tt) (lit≤ tt) w first_acknowledgment
decoder_instructions_spelled (Cancellation s) w =
    by_index decoder_instruction_form 6 1 s Cancellation (lit≤ tt) (lit≤ tt) (lit≤ tt) w first_cancellation
decoder_instructions_spelled (Increment k) w = by_index decoder_instruction_form 6 0 k Increment (lit≤ tt) (lit≤ tt)
    (lit≤ tt) w first_increment
