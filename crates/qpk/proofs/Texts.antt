-- The block of the fields of a text, in hexadecimal.
use Rattle.std.proofs.Common.{◌≡◌, ℕ, List, [], ◌++◌, Ok, refl}
use Rattle.std.proofs.iter.Yields.{fronts}
use Rattle.std.specs.Slice.Iter.{iter_rest}
use Rattle.std.specs.declared.slice.Iter.{Iter}
use Rattle.hex.specs.Hex.{encode_lower}
use Rattle.qpack_spec.specs.Field.{total_size}
use Rattle.qpack_spec.specs.BlockReading.{written_block}
use Rattle.qpack_spec.specs.Stateless.{stateless_block, saturated_size}
use Rattle.qpack_base.specs.declared.field.HeaderField.{HeaderField}
use Rattle.qpack_base.specs.HeaderFields.{DrainsFields}
use Rattle.qpack_base.proofs.FieldLists.{fields_from_slice}
use Rattle.qpack_codec.specs.Stateless.{fields_in}
use Rattle.qpk.specs.Answers.{encode_answer}
use Rattle.qpk_qif.specs.Lines.{lines_of}
use Rattle.qpk.specs.FieldText.{fields_from}

pub encoded : (bytes : List ℕ) (s : Iter HeaderField) (xs : List HeaderField) (before block text : List ℕ) (size : ℕ)
    → before ≡ [] → iter_rest s ≡ xs → fields_from 1 (lines_of bytes) ≡ Ok (fields_in xs)
    → DrainsFields fronts s
    (λ fs. (block ≡ before ++ written_block (stateless_block fs)) × (size ≡ saturated_size (total_size fs)))
    → text ≡ encode_lower block → encode_answer bytes ≡ Ok text
encoded bytes s xs before block text size b e read d t =
    let same = fields_from_slice s xs d.0 e d.1 in
    rw (read, t, d.2.0, b, same) refl
