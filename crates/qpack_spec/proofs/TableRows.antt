-- Worked rows of tables and of the rule, computed by the definitions.
use Rattle.std.proofs.Common.{ℕ, ◌+◌, ◌-◌, ◌^◌, ◌≡◌, true, false, List, [], ◌∷◌, length, take, None, Result, Ok, Err}
use Rattle.std.proofs.Common.{refl}
use Rattle.std.specs.Prelude.{codes}
use Rattle.qpack_spec.specs.Bytes.{◌>>=◌}
use Rattle.qpack_spec.specs.Field.{Field}
use Rattle.qpack_spec.specs.StaticTable.{field}
use Rattle.qpack_spec.specs.Instruction.{EncoderInstruction, InsertStaticName, InsertDynamicName, InsertLiteralName}
use Rattle.qpack_spec.specs.Instruction.{Duplicate, SetCapacity, DecoderInstruction, Acknowledgment, Cancellation}
use Rattle.qpack_spec.specs.Instruction.{Increment, written_encoder_instructions}
use Rattle.qpack_spec.specs.Window.{TableRefusal, NoEntry, NoStaticField, DoesNotFit, AboveMaximum, UnknownStream}
use Rattle.qpack_spec.specs.BlockReading.{written_block}
use Rattle.qpack_spec.specs.Table.{Table, empty_table, has_room, put, with_capacity, apply_encoder_instruction}
use Rattle.qpack_spec.specs.Table.{with_increment, apply_decoder_instruction, fields_in, insert_count}
use Rattle.qpack_spec.specs.Rule.{entries_left, instruction_for, rule, block_of, committed_table}
use Rattle.qpack_spec.proofs.Computing.{computed}

-- fields put into a table in turn; a refused one ends it
put_all : List Field → Table → Result Table TableRefusal
put_all [] t = Ok t
put_all (f ∷ fs) t = put t f >>= λ u. put_all fs u

put_into : ℕ → ℕ → List Field → Result Table TableRefusal
put_into capacity limit fs = put_all fs (empty_table capacity None limit)

-- the live fields, the oldest first
live_of : Result Table TableRefusal → Result (List Field) TableRefusal
live_of r = r >>= λ t. Ok (fields_in t.live)

-- the absolute index of the oldest live entry, and how many insertions were made
counts_of : Result Table TableRefusal → Result (ℕ × ℕ) TableRefusal
counts_of r = r >>= λ t. Ok (t.dropped + 1, insert_count t)

-- instructions applied in turn, from their bytes
apply_all : List EncoderInstruction → Table → Result Table TableRefusal
apply_all [] t = Ok t
apply_all (i ∷ is) t = apply_encoder_instruction t i >>= λ u. apply_all is u

-- a block written on a stream, and the table behind it
writes_on : Table → ℕ → List Field → Table
writes_on t s fs = committed_table (rule t fs) s

-- the bytes of a block
block_bytes : Table → List Field → List ℕ
block_bytes t fs = written_block (block_of t (rule t fs))

hear_all : List DecoderInstruction → Table → Result Table TableRefusal
hear_all [] t = Ok t
hear_all (r ∷ rs) t = apply_decoder_instruction t r >>= λ u. hear_all rs u

open_count : Result Table TableRefusal → Result ℕ TableRefusal
open_count r = r >>= λ t. Ok (length t.unacknowledged)

waiting_count : Result Table TableRefusal → Result ℕ TableRefusal
waiting_count r = r >>= λ t. Ok (length t.blocked)

duplicates : ℕ → List EncoderInstruction
duplicates n = Rattle.std.specs.Prelude.replicate n (Duplicate 0)

-- all that has to unfold
rows : ℕ
unfolding computed put_all put_into live_of counts_of apply_all writes_on block_bytes hear_all open_count
    waiting_count duplicates
rows = 0

-- the live entries are the longest tail that fits
live_tail : (live_of (put_into 76 0 ((field (codes "foo") (codes "bar")) ∷ (field (codes "baz") (codes "bar"))
    ∷ (field (codes "foo") (codes "quxx")) ∷ []))) ≡ Ok ((field (codes "foo") (codes "quxx")) ∷ [])
unfolding rows
live_tail = refl

-- nothing is put at capacity 0
put_at_0 : (counts_of (put_into 0 0 ((field (codes "foo") (codes "bar")) ∷ []))) ≡ Ok (1, 0)
unfolding rows
put_at_0 = refl

-- a field larger than the capacity is refused
put_too_large : (counts_of (put_into 33 0 ((field (codes "foo") (codes "bar")) ∷ []))) ≡ Err DoesNotFit
unfolding rows
put_too_large = refl

-- a capacity evicts the oldest
resize_evicts : (live_of (put_into 4096 0 ((field (codes "foo") (codes "bar")) ∷ (field (codes "baz") (codes "bar"))
    ∷ []) >>= λ t. with_capacity t 38)) ≡ Ok ((field (codes "baz") (codes "bar")) ∷ [])
unfolding rows
resize_evicts = refl

-- the greatest capacity
greatest_taken : (counts_of (with_capacity (empty_table 0 None 0) 1073741823)) ≡ Ok (1, 0)
unfolding rows
greatest_taken = refl

-- and one past it
past_greatest : (counts_of (with_capacity (empty_table 0 None 0) 1073741824)) ≡ Err AboveMaximum
unfolding rows
past_greatest = refl

-- the entry that is evicted is not duplicated
equal_goes_first : (put_into 76 4 ((field (codes "foo") (codes "bar")) ∷ (field (codes "baz") (codes "bar")) ∷ [])
    >>= λ t. Ok (instruction_for (field (codes "foo") (codes "bar"))
    (entries_left t (field (codes "foo") (codes "bar")))))
    ≡ Ok (InsertLiteralName (codes "foo") (codes "bar"))
unfolding rows
equal_goes_first = refl

-- an equal entry is duplicated, a name referred to by its newest entry
references : (put_into 4096 100 ((field (codes "Name-A") (codes "Value-A"))
    ∷ (field (codes "Name-B") (codes "Value-B")) ∷ [])
    >>= λ t. Ok (rule t ((field (codes "Name-B") (codes "New Value-B"))
    ∷ (field (codes "Name-B") (codes "Newer Value-B")) ∷ (field (codes "Name-C") (codes "Value-C"))
    ∷ [])).instructions) ≡ Ok (InsertDynamicName 0 (codes "New Value-B") ∷ InsertDynamicName 0 (codes "Newer Value-B")
    ∷ InsertLiteralName (codes "Name-C") (codes "Value-C") ∷ [])
unfolding rows
references = refl

-- a block with each kind of line
mixed_block : (put_into 4096 100 ((field (codes "foo1") (codes "bar1")) ∷ (field (codes "foo2") (codes "bar2"))
    ∷ (field (codes "foo3") (codes "bar3")) ∷ (field (codes "foo4") (codes "bar4")) ∷ [])
    >>= λ t. Ok (block_bytes t ((field (codes ":method") (codes "GET")) ∷ (field (codes "foo1") (codes "bar1"))
    ∷ (field (codes "foo3") (codes "new bar3")) ∷ (field (codes ":method") (codes "staticnameref"))
    ∷ (field (codes "newfoo") (codes "newbar")) ∷ []))) ≡ Ok (8 ∷ 130 ∷ 209 ∷ 131 ∷ 16 ∷ 17 ∷ 18 ∷ [])
unfolding rows
mixed_block = refl

-- its instructions
mixed_instructions : (put_into 4096 100 ((field (codes "foo1") (codes "bar1")) ∷ (field (codes "foo2") (codes "bar2"))
    ∷ (field (codes "foo3") (codes "bar3")) ∷ (field (codes "foo4") (codes "bar4")) ∷ [])
    >>= λ t. Ok (take 8 (written_encoder_instructions
    (rule t ((field (codes ":method") (codes "GET")) ∷ (field (codes "foo1") (codes "bar1"))
    ∷ (field (codes "foo3") (codes "new bar3")) ∷ (field (codes ":method") (codes "staticnameref"))
    ∷ (field (codes "newfoo") (codes "newbar")) ∷ [])).instructions)))
    ≡ Ok (129 ∷ 134 ∷ 168 ∷ 190 ∷ 20 ∷ 140 ∷ 118 ∷ 51 ∷ [])
unfolding rows
mixed_instructions = refl

-- at limit 0 and capacity 4096 a literal
literal_0_4096 : (block_bytes (empty_table 4096 None 0) ((field (codes "foo") (codes "bar")) ∷ []))
    ≡ 0 ∷ 0 ∷ 42 ∷ 148 ∷ 231 ∷ 131 ∷ 140 ∷ 118 ∷ 127 ∷ []
unfolding rows
literal_0_4096 = refl

-- at limit 1 and capacity 0 a literal
literal_1_0 : (block_bytes (empty_table 0 None 1) ((field (codes "foo") (codes "bar")) ∷ []))
    ≡ 0 ∷ 0 ∷ 42 ∷ 148 ∷ 231 ∷ 131 ∷ 140 ∷ 118 ∷ 127 ∷ []
unfolding rows
literal_1_0 = refl

-- the second block names the entry
second_block : (block_bytes (writes_on (empty_table 4096 None 3) 4 ((field (codes "foo") (codes "bar")) ∷ []))
    ((field (codes "foo") (codes "bar")) ∷ [])) ≡ 2 ∷ 0 ∷ 128 ∷ []
unfolding rows
second_block = refl

-- three blocks are open
three_open : (open_count (Ok (writes_on
    (writes_on (writes_on (empty_table 4096 None 3) 4 ((field (codes "foo") (codes "bar")) ∷ [])) 4
    ((field (codes "foo") (codes "bar")) ∷ [])) 4 ((field (codes "foo") (codes "bar")) ∷ [])))) ≡ Ok 3
unfolding rows
three_open = refl

-- a cancellation releases them all
cancel_all : (open_count (hear_all (Cancellation 4 ∷ [])
    (writes_on (writes_on (writes_on (empty_table 4096 None 3) 4 ((field (codes "foo") (codes "bar")) ∷ [])) 4
    ((field (codes "foo") (codes "bar")) ∷ [])) 4 ((field (codes "foo") (codes "bar")) ∷ [])))) ≡ Ok 0
unfolding rows
cancel_all = refl

-- so that an acknowledgment finds none
then_unknown : (open_count (hear_all (Cancellation 4 ∷ Acknowledgment 4 ∷ [])
    (writes_on (writes_on (writes_on (empty_table 4096 None 3) 4 ((field (codes "foo") (codes "bar")) ∷ [])) 4
    ((field (codes "foo") (codes "bar")) ∷ [])) 4 ((field (codes "foo") (codes "bar")) ∷ [])))) ≡ Err (UnknownStream 4)
unfolding rows
then_unknown = refl

-- an acknowledgment releases one
ack_oldest : (open_count (hear_all (Acknowledgment 4 ∷ [])
    (writes_on (writes_on (writes_on (empty_table 4096 None 3) 4 ((field (codes "foo") (codes "bar")) ∷ [])) 4
    ((field (codes "foo") (codes "bar")) ∷ [])) 4 ((field (codes "foo") (codes "bar")) ∷ [])))) ≡ Ok 2
unfolding rows
ack_oldest = refl

-- none is open on another stream
unknown_ack : (open_count (hear_all (Acknowledgment 8 ∷ [])
    (writes_on (writes_on (writes_on (empty_table 4096 None 3) 4 ((field (codes "foo") (codes "bar")) ∷ [])) 4
    ((field (codes "foo") (codes "bar")) ∷ [])) 4 ((field (codes "foo") (codes "bar")) ∷ [])))) ≡ Err (UnknownStream 8)
unfolding rows
unknown_ack = refl

-- a cancellation of an unknown stream is nothing
unknown_cancel : (open_count (hear_all (Cancellation 8 ∷ [])
    (writes_on (writes_on (writes_on (empty_table 4096 None 3) 4 ((field (codes "foo") (codes "bar")) ∷ [])) 4
    ((field (codes "foo") (codes "bar")) ∷ [])) 4 ((field (codes "foo") (codes "bar")) ∷ [])))) ≡ Ok 3
unfolding rows
unknown_cancel = refl

-- a block that names nothing is not open
no_reference_not_opened : (open_count (Ok
    (writes_on (empty_table 4096 None 3) 4 ((field (codes ":method") (codes "GET")) ∷ [])))) ≡ Ok 0
unfolding rows
no_reference_not_opened = refl

-- nor does it count as blocked
static_not_waiting : (waiting_count (Ok
    (writes_on (empty_table 4096 None 3) 4 ((field (codes ":method") (codes "GET")) ∷ [])))) ≡ Ok 0
unfolding rows
static_not_waiting = refl

-- a block that requires an unreceived entry does
one_waiting : (waiting_count (Ok (writes_on (empty_table 4096 None 3) 4 ((field (codes "foo") (codes "bar")) ∷ []))))
    ≡ Ok 1
unfolding rows
one_waiting = refl

-- one that requires what is known to be received does not
known_not_waiting : (waiting_count ((hear_all (Increment 1 ∷ [])
    (writes_on (empty_table 4096 None 3) 4 ((field (codes "foo") (codes "bar")) ∷ [])))
    >>= λ t. Ok (writes_on t 8 ((field (codes "foo") (codes "bar")) ∷ [])))) ≡ Ok 0
unfolding rows
known_not_waiting = refl

-- the 2^62th insertion is made
last_insertion : (counts_of (put (record (empty_table 4096 None 0) { dropped = 2 ^ 62 - 1 })
    (field (codes "foo") (codes "bar")))) ≡ Ok (4611686018427387904, 4611686018427387904)
unfolding rows
last_insertion = refl

-- and none behind it
past_last_insertion : (counts_of (put (record (empty_table 4096 None 0) { dropped = 2 ^ 62 })
    (field (codes "foo") (codes "bar")))) ≡ Ok (4611686018427387905, 4611686018427387904)
unfolding rows
past_last_insertion = refl

-- by the encoder neither
no_room_past_last : (has_room (record (empty_table 4096 None 1) { dropped = 2 ^ 62 })
    (field (codes "foo") (codes "bar"))) ≡ false
unfolding rows
no_room_past_last = refl

-- which makes that one
room_for_last : (has_room (record (empty_table 4096 None 1) { dropped = 2 ^ 62 - 1 })
    (field (codes "foo") (codes "bar"))) ≡ true
unfolding rows
room_for_last = refl

-- an entry whose name alone an unacknowledged block uses is held
literal_name_held : (counts_of (put_into 64 0 ((field (codes "foo") (codes "bar")) ∷ [])
    >>= λ t. with_capacity (writes_on (with_increment t 1) 4 ((field (codes "foo") (codes "quxx")) ∷ [])) 37))
    ≡ Err DoesNotFit
unfolding rows
literal_name_held = refl

-- which another block does not hold
literal_name_free : (counts_of (put_into 64 0 ((field (codes "foo") (codes "bar")) ∷ [])
    >>= λ t. with_capacity (writes_on (with_increment t 1) 4 ((field (codes ":method") (codes "GET")) ∷ [])) 37))
    ≡ Ok (2, 1)
unfolding rows
literal_name_free = refl

-- a capacity that an unacknowledged block stands against
resize_held : (counts_of
    (with_capacity (writes_on (empty_table 4096 None 1) 4 ((field (codes "foo") (codes "bar")) ∷ []))
    37)) ≡ Err DoesNotFit
unfolding rows
resize_held = refl

-- or an entry not known to be received
resize_unreceived : (counts_of (hear_all (Acknowledgment 4 ∷ [])
    (writes_on (empty_table 4096 None 1) 4 ((field (codes "foo") (codes "bar")) ∷ [])) >>= λ t. with_capacity t 37))
    ≡ Err DoesNotFit
unfolding rows
resize_unreceived = refl

-- once it is received
resize_received : (counts_of (hear_all (Acknowledgment 4 ∷ Increment 1 ∷ [])
    (writes_on (empty_table 4096 None 1) 4 ((field (codes "foo") (codes "bar")) ∷ [])) >>= λ t. with_capacity t 37))
    ≡ Ok (2, 1)
unfolding rows
resize_received = refl

-- an insertion at capacity 0
ignored_at_0 : (counts_of
    (apply_encoder_instruction (empty_table 0 None 0) (InsertLiteralName (codes "foo") (codes "bar")))) ≡ Ok (1, 0)
unfolding rows
ignored_at_0 = refl

-- at capacity 33
too_large_at_33 : (counts_of
    (apply_encoder_instruction (empty_table 33 None 0) (InsertLiteralName (codes "foo") (codes "bar"))))
    ≡ Err DoesNotFit
unfolding rows
too_large_at_33 = refl

-- a duplicate of nothing
no_entry : (counts_of (apply_encoder_instruction (empty_table 4096 None 0) (Duplicate 0))) ≡ Err (NoEntry 0)
unfolding rows
no_entry = refl

-- also at capacity 0
no_entry_at_0 : (counts_of (apply_encoder_instruction (empty_table 0 None 0) (Duplicate 0))) ≡ Err (NoEntry 0)
unfolding rows
no_entry_at_0 = refl

-- and a static name that is not there
no_static_at_0 : (counts_of (apply_encoder_instruction (empty_table 0 None 0) (InsertStaticName 99 [])))
    ≡ Err (NoStaticField 99)
unfolding rows
no_static_at_0 = refl

-- an entry far away
no_far_entry : (counts_of
    (apply_encoder_instruction (empty_table 4096 None 0) (InsertDynamicName 9223372036854775870 [])))
    ≡ Err (NoEntry 9223372036854775870)
unfolding rows
no_far_entry = refl

-- a capacity past the greatest
capacity_past_greatest :
    (counts_of (apply_encoder_instruction (empty_table 4096 None 0) (SetCapacity 9223372036854775838)))
    ≡ Err AboveMaximum
unfolding rows
capacity_past_greatest = refl

-- capacity 0 empties the table
capacity_0 : (live_of
    (put_into 4096 0 ((field (codes "foo") (codes "bar")) ∷ []) >>= λ t. apply_encoder_instruction t (SetCapacity 0)))
    ≡ Ok []
unfolding rows
capacity_0 = refl

-- 129 duplicates of one field
many_duplicates : (counts_of (apply_all (InsertLiteralName (codes "foo") (codes "bar") ∷ duplicates 129)
    (empty_table 4096 None 0))) ≡ Ok (24, 130)
unfolding rows
many_duplicates = refl

-- an increment of any size is heard
known_grows : (hear_all (Increment 65 ∷ []) (empty_table 4096 None 0) >>= λ t. Ok t.known_received_count) ≡ Ok 65
unfolding rows
known_grows = refl
