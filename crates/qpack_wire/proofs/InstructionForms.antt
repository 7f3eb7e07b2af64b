-- The seven instructions are read alone as their relation.
use Rattle.std.proofs.Common.{◌≡◌, ℕ, ◌/◌, ◌%◌, None, Some, refl}
use Rattle.std.specs.Prelude.{nat_eq, if◌then◌else◌}
use Rattle.qpack_spec.specs.Form.{Form, Index, IndexAndValue}
use Rattle.qpack_spec.specs.Instruction as instruction
use Rattle.qpack_spec.specs.Instruction.{EncoderInstruction, InsertStaticName, InsertDynamicName, SetCapacity}
use Rattle.qpack_spec.specs.Instruction.{DecoderInstruction}
use Rattle.qpack_spec.specs.Instruction.{Acknowledgment, Cancellation, Increment}
use Rattle.qpack_wire.specs.Alone.{SpellsKind, RefusesKind, kind_at}
use Rattle.qpack_wire.specs.Instructions.{insert_with_name_ref, insert_without_name_ref, duplicate}
use Rattle.qpack_wire.specs.Instructions.{dynamic_table_size_update, insert_count_increment, header_ack, stream_cancel}
use Rattle.qpack_wire.proofs.Readers.{Follows}
use Rattle.qpack_wire.proofs.Alones.{HasPrefix, Coherent, alone_follows}
use Rattle.qpack_wire.proofs.LineForms.{chosen_prefix, this_prefix, none_prefix}

-- one value of the flags names a form
one_prefix : {L : Type 0} (n k flags : ℕ) (f form : Form L) → HasPrefix n f
    → (if nat_eq flags k then Some f else None) ≡ Some form → HasPrefix n form
one_prefix n k flags f form h e =
    chosen_prefix n (nat_eq flags k) (Some f) None form (λ g. this_prefix n f g h) (λ g. none_prefix n g) e

pub coherent_insert_with_name_ref : Coherent insert_with_name_ref
coherent_insert_with_name_ref flags form e =
    chosen_prefix 6 (nat_eq (flags / 2) 1) (if nat_eq (flags % 2) 1 then Some
    (IndexAndValue 6 InsertStaticName) else Some (IndexAndValue 6 InsertDynamicName)) None form
    (λ f. chosen_prefix 6 (nat_eq (flags % 2) 1) (Some (IndexAndValue 6 InsertStaticName))
    (Some (IndexAndValue 6 InsertDynamicName)) f
    (λ g. this_prefix 6 (IndexAndValue 6 InsertStaticName) g refl)
    (λ g. this_prefix 6 (IndexAndValue 6 InsertDynamicName) g refl))
    (λ f. none_prefix 6 f)
    e

pub coherent_duplicate : Coherent duplicate
coherent_duplicate flags form e = one_prefix 5 0 flags (Index 5 instruction.Duplicate) form refl e

pub coherent_dynamic_table_size_update : Coherent dynamic_table_size_update
coherent_dynamic_table_size_update flags form e = one_prefix 5 1 flags (Index 5 SetCapacity) form refl e

pub coherent_insert_count_increment : Coherent insert_count_increment
coherent_insert_count_increment flags form e = one_prefix 6 0 flags (Index 6 Increment) form refl e

pub coherent_header_ack : Coherent header_ack
coherent_header_ack flags form e = one_prefix 7 1 flags (Index 7 Acknowledgment) form refl e

pub coherent_stream_cancel : Coherent stream_cancel
coherent_stream_cancel flags form e = one_prefix 6 1 flags (Index 6 Cancellation) form refl e

-- ---- each instruction

pub insert_with_name_ref_follows : Follows EncoderInstruction (SpellsKind insert_with_name_ref)
    (RefusesKind insert_with_name_ref) (kind_at insert_with_name_ref)
insert_with_name_ref_follows = alone_follows insert_with_name_ref coherent_insert_with_name_ref

pub insert_without_name_ref_follows : Follows EncoderInstruction (SpellsKind insert_without_name_ref)
    (RefusesKind insert_without_name_ref) (kind_at insert_without_name_ref)
insert_without_name_ref_follows = alone_follows insert_without_name_ref tt

pub duplicate_follows : Follows EncoderInstruction (SpellsKind duplicate) (RefusesKind duplicate) (kind_at duplicate)
duplicate_follows = alone_follows duplicate coherent_duplicate

pub dynamic_table_size_update_follows : Follows EncoderInstruction (SpellsKind dynamic_table_size_update)
    (RefusesKind dynamic_table_size_update) (kind_at dynamic_table_size_update)
dynamic_table_size_update_follows = alone_follows dynamic_table_size_update coherent_dynamic_table_size_update

pub insert_count_increment_follows : Follows DecoderInstruction (SpellsKind insert_count_increment)
    (RefusesKind insert_count_increment) (kind_at insert_count_increment)
insert_count_increment_follows = alone_follows insert_count_increment coherent_insert_count_increment

pub header_ack_follows : Follows DecoderInstruction (SpellsKind header_ack) (RefusesKind header_ack)
    (kind_at header_ack)
header_ack_follows = alone_follows header_ack coherent_header_ack

pub stream_cancel_follows : Follows DecoderInstruction (SpellsKind stream_cancel) (RefusesKind stream_cancel)
    (kind_at stream_cancel)
stream_cancel_follows = alone_follows stream_cancel coherent_stream_cancel
