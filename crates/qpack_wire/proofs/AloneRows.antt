-- Worked rows of forms read alone, computed by the definitions.
use Rattle.std.proofs.Common.{ℕ, ◌≡◌, [], ◌∷◌, Ok, Err, refl}
use Rattle.qpack_spec.specs.Integer.{groups_at, integer_at, UnexpectedEnd}
use Rattle.qpack_spec.specs.Huffman.{is_padding, item_at, text_at, text_of_bits}
use Rattle.qpack_spec.specs.Text.{string_at}
use Rattle.qpack_spec.specs.Form.{BadInteger, made_at}
use Rattle.qpack_spec.specs.Line.{NamedStatic, NamedPostBase, Literal}
use Rattle.qpack_spec.specs.Instruction.{Cancellation}
use Rattle.qpack_wire.specs.Alone.{Unreadable, Foreign, kind_at}
use Rattle.qpack_wire.specs.Lines.{indexed_line, literal_with_name_ref, literal_with_post_base_name_ref, literal}
use Rattle.qpack_wire.specs.Instructions.{insert_without_name_ref, duplicate, dynamic_table_size_update}
use Rattle.qpack_wire.specs.Instructions.{insert_count_increment, header_ack, stream_cancel}

-- all that has to unfold
rows : ℕ
unfolding groups_at integer_at is_padding item_at text_at text_of_bits string_at made_at kind_at
rows = 0

-- a static line where a name reference is expected
foreign_name : (kind_at literal_with_name_ref (209 ∷ [])) ≡ Err (Foreign 13)
unfolding rows
foreign_name = refl

-- a name reference where an indexed line is
foreign_indexed : (kind_at indexed_line (81 ∷ [])) ≡ Err (Foreign 1)
unfolding rows
foreign_indexed = refl

-- an indexed post-base line where a post-base name is
foreign_post_base : (kind_at literal_with_post_base_name_ref (17 ∷ [])) ≡ Err (Foreign 2)
unfolding rows
foreign_post_base = refl

-- a static line where a literal is
foreign_literal : (kind_at literal (209 ∷ [])) ≡ Err (Foreign 209)
unfolding rows
foreign_literal = refl

-- a name reference where a literal name is
foreign_insert : (kind_at insert_without_name_ref (192 ∷ [])) ≡ Err (Foreign 192)
unfolding rows
foreign_insert = refl

-- an integer that is cut is told before foreign bits
cut_before_foreign : (kind_at indexed_line (127 ∷ [])) ≡ Err (Unreadable (BadInteger UnexpectedEnd))
unfolding rows
cut_before_foreign = refl

-- no bytes
no_literal : (kind_at literal []) ≡ Err (Unreadable (BadInteger UnexpectedEnd))
unfolding rows
no_literal = refl

-- a static name and the empty value
named_static : (kind_at literal_with_name_ref (113 ∷ 128 ∷ [])) ≡ Ok (NamedStatic 1 [], [])
unfolding rows
named_static = refl

-- a post-base name
named_post_base : (kind_at literal_with_post_base_name_ref (8 ∷ 128 ∷ [])) ≡ Ok (NamedPostBase 0 [], [])
unfolding rows
named_post_base = refl

-- an empty literal
empty_literal : (kind_at literal (56 ∷ 128 ∷ [])) ≡ Ok (Literal [] [], [])
unfolding rows
empty_literal = refl

-- a duplicate where a capacity is expected
foreign_capacity : (kind_at dynamic_table_size_update (0 ∷ [])) ≡ Err (Foreign 0)
unfolding rows
foreign_capacity = refl

-- a capacity where a duplicate is
foreign_duplicate : (kind_at duplicate (32 ∷ [])) ≡ Err (Foreign 1)
unfolding rows
foreign_duplicate = refl

-- an increment where an acknowledgment is
foreign_acknowledgment : (kind_at header_ack (1 ∷ [])) ≡ Err (Foreign 0)
unfolding rows
foreign_acknowledgment = refl

-- an acknowledgment where a cancellation is
foreign_cancellation : (kind_at stream_cancel (132 ∷ [])) ≡ Err (Foreign 2)
unfolding rows
foreign_cancellation = refl

-- a cancellation where an increment is
foreign_increment : (kind_at insert_count_increment (68 ∷ [])) ≡ Err (Foreign 1)
unfolding rows
foreign_increment = refl

-- a cancellation
cancellation : (kind_at stream_cancel (68 ∷ [])) ≡ Ok (Cancellation 4, [])
unfolding rows
cancellation = refl
