-- What decoder instructions make of a table, by cases.
use Rattle.std.proofs.Common.{◌≡◌, ℕ, suc, ◌+◌, ◌-◌, ◌^◌, List, length, Option, None, Some, Ok, Err, refl, min}
use Rattle.std.specs.Prelude.{⊤, true, false, filter, nat_lt, Result, IsErr, is_ok}
use Rattle.qpack_base.specs.Refusals.{IsRefusedFor}
use Rattle.qpack_spec.specs.Instruction.{Acknowledgment, Cancellation, Increment}
use Rattle.qpack_spec.specs.Window.{UnknownStream}
use Rattle.qpack_spec.specs.Table.{Table, Entry, UnacknowledgedBlock, without_oldest, with_increment}
use Rattle.qpack_spec.specs.Table.{apply_decoder_instruction}
use Rattle.qpack_table.specs.Tables.{Changes, refusal_of}
use Rattle.qpack_table.specs.declared.dynamic.Error.{Error}
use Rattle.qpack_table.proofs.Tracking.{left_shorter, others_go, none_go}

pub unknown_stream : (t : Table) (s : ℕ) → without_oldest s t.unacknowledged ≡ None
    → apply_decoder_instruction t (Acknowledgment s) ≡ Err (UnknownStream s)
unfolding apply_decoder_instruction
unknown_stream t s none = rw none refl

pub acknowledged : (t : Table) (s : ℕ) (left : List UnacknowledgedBlock) (live : List Entry)
    → without_oldest s t.unacknowledged ≡ Some left → live ≡ t.live
    → apply_decoder_instruction t (Acknowledgment s) ≡ Ok (record t { live = live; unacknowledged = left })
unfolding apply_decoder_instruction
acknowledged t s left live some same = rw (some, same) refl

-- one block more of a stream that is cancelled
pub cancelled_more : (t u : Table) (s : ℕ) → apply_decoder_instruction t (Acknowledgment s) ≡ Ok u
    → (apply_decoder_instruction u (Cancellation s) ≡ apply_decoder_instruction t (Cancellation s))
    × (suc (length u.unacknowledged) ≡ length t.unacknowledged)
unfolding apply_decoder_instruction
cancelled_more t u s e = by (without_oldest s t.unacknowledged) refl
  where
    by : (o : Option (List UnacknowledgedBlock)) → without_oldest s t.unacknowledged ≡ o
        → (apply_decoder_instruction u (Cancellation s) ≡ apply_decoder_instruction t (Cancellation s))
        × (suc (length u.unacknowledged) ≡ length t.unacknowledged)
    by None is = let same = rw is at e in absurd cc
    by (Some left) is =
        let same = rw is at e in
        let it : record t { unacknowledged = left } ≡ u = cc in
        rw (← it, others_go s t.unacknowledged left is) (refl, left_shorter s t.unacknowledged left is)

-- an acknowledgment that is taken, and one that is refused
pub taken_so : (r : Result ⊤ Error) (t u : Table) (s : ℕ)
    → Changes r (apply_decoder_instruction t (Acknowledgment s)) t u → is_ok r ≡ true
    → apply_decoder_instruction t (Acknowledgment s) ≡ Ok u
taken_so (Ok done) t u s h is = h
taken_so (Err e) t u s h is = absurd cc

refused_for : {A E : Type 0} (read : Result A E) (reason : Option E) → IsRefusedFor read reason → IsErr read
refused_for read (Some reason) h = rw h refl
refused_for read None h = absurd h

pub refused_so : (r : Result ⊤ Error) (t u : Table) (s : ℕ)
    → Changes r (apply_decoder_instruction t (Acknowledgment s)) t u → is_ok r ≡ false
    → IsErr (apply_decoder_instruction t (Acknowledgment s)) × (u ≡ t)
refused_so (Ok done) t u s h is = absurd cc
refused_so (Err e) t u s h is =
    (refused_for (apply_decoder_instruction t (Acknowledgment s)) (refusal_of e) h.0, h.1)

-- no block of it is left
pub cancelled_all : (t : Table) (s : ℕ) → IsErr (apply_decoder_instruction t (Acknowledgment s))
    → Ok t ≡ apply_decoder_instruction t (Cancellation s)
unfolding apply_decoder_instruction
cancelled_all t s e = by (without_oldest s t.unacknowledged) refl
  where
    by : (o : Option (List UnacknowledgedBlock)) → without_oldest s t.unacknowledged ≡ o
        → Ok t ≡ apply_decoder_instruction t (Cancellation s)
    by None is = rw (none_go s t.unacknowledged is) refl
    by (Some left) is = let same = rw is at e in absurd cc

pub received : (t : Table) (n count : ℕ) (blocked : List ℕ) → count ≡ min (t.known_received_count + n) (2 ^ 64 - 1)
    → blocked ≡ filter (λ r. nat_lt count r) t.blocked
    → Ok (record t { known_received_count = count; blocked = blocked }) ≡ apply_decoder_instruction t (Increment n)
unfolding apply_decoder_instruction with_increment
received t n count blocked is left = rw (left, is) refl
