-- Worked rows of a decoder that keeps to the standard: what it may write where two sections are not acknowledged, one
-- on stream 4, which requires one insertion, and one on stream 8, which requires three, of which two were received; and
-- of a table at which insertions go on.
use Rattle.std.proofs.Common.{ℕ, ◌≡◌, false, List, [], ◌∷◌, Some, refl, arith, lit≤}
use Rattle.std.specs.Prelude.{codes}
use Rattle.qpack_spec.specs.Field.{FieldLine}
use Rattle.qpack_spec.specs.StaticTable.{field}
use Rattle.qpack_spec.specs.Instruction.{Acknowledgment, Cancellation, Increment}
use Rattle.qpack_rules.specs.LawfulDecoders.{MayWrite, KeepsNeeded, IsQuiet, IsToBeInserted}
use Rattle.qpack_spec.specs.Table.{Table, UnacknowledgedBlock, empty_table, put_entry}
use Rattle.qpack_spec.proofs.Computing.{computed}

sections : List UnacknowledgedBlock
sections = record { stream = 4; entries = 1 ∷ [] } ∷ record { stream = 8; entries = 3 ∷ 2 ∷ [] } ∷ []

later : List UnacknowledgedBlock
later = record { stream = 8; entries = 3 ∷ 2 ∷ [] } ∷ []

-- all that has to unfold
rows : ℕ
unfolding computed sections later
rows = 0

-- it may acknowledge the section that it has decoded, report the other insertion, and give up the other stream
may_write : MayWrite 2 0 sections (Acknowledgment 4 ∷ Increment 1 ∷ Cancellation 8 ∷ [])
unfolding rows
may_write = (
  record { required = 1; others = later; oldest = refl; others_are = refl; decoded = lit≤ tt },
  (lit≤ tt, lit≤ tt, tt),
)

-- it may not acknowledge a section twice
not_twice : MayWrite 2 0 sections (Acknowledgment 4 ∷ Acknowledgment 4 ∷ []) → ⊥
unfolding rows
not_twice m = absurd (let d = m.0.others_are in let e = m.1.0.oldest in cc)

-- nor one that it cannot have decoded
not_blocked : MayWrite 2 0 sections (Acknowledgment 8 ∷ []) → ⊥
unfolding rows
not_blocked m = absurd (let e = m.0.oldest in let is : 3 ≡ m.0.required = cc in omega (arith, is, m.0.decoded))

-- nor report nothing
not_nothing : MayWrite 2 0 sections (Increment 0 ∷ []) → ⊥
unfolding rows
not_nothing m = absurd (omega (arith, m.0))

-- nor more than it has received, be it by an acknowledgment that has told it already
not_more : MayWrite 2 0 sections (Increment 3 ∷ []) → ⊥
unfolding rows
not_more m = absurd (omega (arith, m.1))

-- a table of two entries, the second of which a section references, and the first is not known to be received
table : Table
table =
    record (empty_table 128 (Some 128) 1) {
      live = put_entry (field (codes "foo") (codes "bar")) ∷ put_entry (field (codes "foo") (codes "baz")) ∷ [];
      unacknowledged = record { stream = 4; entries = 2 ∷ [] } ∷ [];
    }

-- it keeps what is needed
keeps : KeepsNeeded table
unfolding table
keeps = record { referenced = ((((lit≤ tt, lit≤ tt), tt)), tt); unknown = λ a above made. (above, made) }

-- and does not where an entry is evicted that is not known to be received
evicted : Table
unfolding table
evicted = record table { dropped = 1; live = put_entry (field (codes "foo") (codes "baz")) ∷ []; unacknowledged = [] }

not_kept : KeepsNeeded evicted → ⊥
unfolding evicted table
not_kept k = absurd (let h = k.unknown 1 (lit≤ tt) (lit≤ tt) in omega (arith, h.0))

-- once all is acknowledged nothing is under way, and a field that is in no table is to be inserted
quiet_table : Table
unfolding table
quiet_table = record table { unacknowledged = []; known_received_count = 2 }

is_quiet : IsQuiet quiet_table
unfolding quiet_table table
is_quiet = record { acknowledged = refl; known = lit≤ tt }

new_line : FieldLine
new_line = record { field = field (codes "new") (codes "bar"); never_indexed = false }

to_be_inserted : IsToBeInserted quiet_table new_line
unfolding rows quiet_table table new_line
to_be_inserted = record { indexable = refl; fits = lit≤ tt; not_static = refl; not_there = refl }
