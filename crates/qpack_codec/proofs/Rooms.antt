-- How much room instructions need.
use Rattle.std.proofs.Common.{◌≡◌, ℕ, ◌+◌, ◌*◌, ◌-◌, ◌<◌, ◌≤◌, List, length, inl, inr, arith}
use Rattle.std.proofs.Common.{Result, Ok, Err, Bool, true, false, length-append}
use Rattle.std.specs.Prelude.{IsOk, ◌&&◌}
use Rattle.std.proofs.lemmas.Bool.{cases_lt, le-ltb, lt-leb, lt-ltb, cond_both}
use Rattle.qpack_spec.specs.Field.{Field, field_size}
use Rattle.qpack_spec.specs.Handle.{Insertion, Duplicated, InsertedWithStaticName, InsertedWithName, Inserted}
use Rattle.qpack_spec.specs.Handle.{NotInserted, insert_field, Insertable}
use Rattle.qpack_spec.specs.Huffman.{payload_of}
use Rattle.qpack_spec.specs.Instruction.{SetCapacity, coded_encoder_instruction, written_encoder_instruction}
use Rattle.qpack_spec.specs.Integer.{full, written_integer}
use Rattle.qpack_spec.specs.Table.{Table, has_room, below_limit}
use Rattle.qpack_spec.specs.Text.{Coding, is_coded, written_literal_of, coded_string}
use Rattle.qpack_spec.proofs.WrittenIntegers.{groups_most}
use Rattle.qpack_base.proofs.CodeRoom.{payload_most}
use Rattle.qpack_codec.specs.Encoding.{written_insertion}

-- a number takes eleven bytes at most
integer_most : (n flags value : ℕ) → length (written_integer n flags value) ≤ 11
unfolding written_integer
integer_most n flags value =
    elim (cases_lt value (full n)) [
      | inl lt ↦ rw (lt-ltb value (full n) lt) (omega arith)
      | inr le ↦ let g = groups_most 9 (value - full n) in rw (le-ltb value (full n) le) (omega (arith, g))
    ]

pub capacity_most : (size : ℕ) → length (written_encoder_instruction (SetCapacity size)) ≤ 11
unfolding coded_encoder_instruction
capacity_most size = integer_most 5 1 size

-- ---- strings

literal_most : (n flags huffman : ℕ) (payload : List ℕ)
    → length (written_literal_of n flags huffman payload) ≤ 11 + length payload
literal_most n flags huffman payload =
    omega (
      arith,
      length-append (written_integer (n - 1) (2 * flags + huffman) (length payload)) payload,
      integer_most (n - 1) (2 * flags + huffman) (length payload),
    )

string_most : (coding : Coding) (n flags : ℕ) (value : List ℕ)
    → length (coded_string coding n flags value) ≤ 11 + 4 * length value
unfolding coded_string
string_most coding n flags value =
    cond_both (is_coded coding value) (written_literal_of n flags 1 (payload_of value))
    (written_literal_of n flags 0 value) (λ (x : List ℕ). length x ≤ 11 + 4 * length value)
    (λ _. omega (arith, literal_most n flags 1 (payload_of value), payload_most value))
    (λ _. omega (arith, literal_most n flags 0 value))

-- ---- instructions

pub insertion_most : (coding : Coding) (f : Field) (i : Insertion) → length (written_insertion coding f i) ≤ 4 * field_size f
unfolding coded_encoder_instruction
insertion_most coding f (Duplicated relative post_base absolute) = let n = integer_most 5 0 relative in omega (arith, n)
insertion_most coding f (InsertedWithStaticName post_base index absolute) =
    omega (
      arith,
      length-append (written_integer 6 3 index) (coded_string coding 8 0 f.value),
      integer_most 6 3 index,
      string_most coding 8 0 f.value,
    )
insertion_most coding f (InsertedWithName relative post_base absolute) =
    omega (
      arith,
      length-append (written_integer 6 2 relative) (coded_string coding 8 0 f.value),
      integer_most 6 2 relative,
      string_most coding 8 0 f.value,
    )
insertion_most coding f (Inserted post_base absolute) =
    omega (
      arith,
      length-append (coded_string coding 6 1 f.name) (coded_string coding 8 0 f.value),
      string_most coding 6 1 f.name,
      string_most coding 8 0 f.value,
    )
insertion_most coding f (NotInserted lookup) = omega arith

-- a field that is larger than the capacity is not inserted
pub large_writes_none : (coding : Coding) (t : Table) (base : ℕ) (f : Field) → t.capacity < field_size f
    → length (written_insertion coding f (insert_field t base f).insertion) ≤ 0
unfolding insert_field has_room
large_writes_none coding t base f large =
    rw (lt-leb (field_size f) t.capacity large)
    (cond_both (below_limit t && false) _ _
    (λ (i : Insertable). length (written_insertion coding f i.insertion) ≤ 0)
    (λ b. absurd (both_false (below_limit t) b)) (λ b. omega arith))
  where
    both_false : (b : Bool) → b && false ≡ true → ⊥
    both_false true e = absurd cc
    both_false false e = absurd cc

-- ---- what succeeds is not refused

pub no_err : {A E : Type 0} (r : Result A E) (e : E) → IsOk r → r ≡ Err e → ⊥
no_err (Ok x) e ok is = absurd cc
no_err (Err d) e ok is = absurd (let f = ok in cc)
