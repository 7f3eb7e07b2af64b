use Rattle.std.proofs.Common.{◌≡◌, ℕ, ◌≤◌, Option, Some, None, IfErr, IfNone, false, arith}
use Rattle.std.specs.Option.{ok_or}
use Rattle.qpack_base.specs.Refusals.{IsRefusedFor}
use Rattle.qpack_spec.specs.Table.{Table, can_evict, fields_in, with_capacity}
use Rattle.qpack_spec.specs.Window.{eviction_count, greatest_capacity}
use Rattle.qpack_table.specs.Tables.{refusal_of}
use Rattle.qpack_table.specs.declared.dynamic.Error.TheVariants.{MaxTableSizeReached}
use Rattle.qpack_table.proofs.Changes.{resized_above, resized_against_held}
use Rattle.qpack_table.proofs.dynamic.table.DynamicTable.evicted_for_capacity.Goals as goal

pub returns-then-size-greatest_capacity-clause-err : goal.returns-then-size-greatest_capacity-clause-err
returns-then-size-greatest_capacity-clause-err g c =
    resized_above c.args.self.now c.args.size (omega (arith, c.greatest_capacity.ensures.agreed_max))

-- an entry that would have to go is held
held : (t : Table) (n : ℕ) (o : Option ℕ) → n ≤ greatest_capacity t.agreed_max
    → IfNone o (can_evict t (eviction_count n (fields_in t.live)) ≡ false)
    → IfErr (ok_or o MaxTableSizeReached) (λ e. IsRefusedFor (with_capacity t n) (refusal_of e))
held t n (Some evicted) most h = tt
held t n None most h = resized_against_held t n most h

pub returns-clause-err : goal.returns-clause-err
returns-clause-err g c =
    rw c.ok_or.ensures.value
    (held c.args.self.now c.args.size c.evictable_count.result
    (omega (arith, c.if-size-greatest_capacity.false, c.greatest_capacity.ensures.agreed_max))
    c.evictable_count.ensures.held)
