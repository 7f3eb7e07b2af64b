-- A block that references an entry under some choices is of a table in which an entry fits, and the instruction of an
-- insertion fits its room.
use Rattle.std.proofs.Common.{◌≡◌, ℕ, ◌<◌, ◌≤◌, List, [], ap, arith}
use Rattle.qpack_spec.specs.Chosen.{Chosen, chosen_fields}
use Rattle.qpack_spec.specs.Field.{Field, FieldLine, fields_of_lines, total_size}
use Rattle.qpack_spec.specs.Reading.{greatest_of}
use Rattle.qpack_spec.specs.Rule.{Draft}
use Rattle.qpack_spec.specs.Table.{Table, fields_in}
use Rattle.qpack_rules.proofs.ChosenSteps.{IsKept, every_kept, kept_chosen_fields}
use Rattle.qpack_spec.proofs.Drafts.{room}
use Rattle.qpack_table.proofs.Greatest.{greatest_none}
use Rattle.qpack_codec.specs.Encoding.{draft_at}
use Rattle.qpack_codec.proofs.ReferencedRoom.{Fits, fits_reference, fits_entry, fits_unreferenced, live_takes}

fits_kept : (most base : ℕ) (f : Field) → IsKept (λ (d : Draft). Fits most d.table) base f
fits_kept most base f =
    record {
      static_line = λ d i e k. k;
      static_name = λ d i e k. k;
      literal = λ d k. k;
      entry = λ d a at may k. fits_reference most d.table a
          (omega (arith, k.live, live_takes d.table.live (omega (arith, at.above, at.within)))) k;
      name = λ d a at may k. fits_reference most d.table a
          (omega (arith, k.live, live_takes d.table.live (omega (arith, at.above, at.within)))) k;
      insertion = λ d names below r k. fits_entry most d.table f (room d.table f r).fits k;
      unreferenced = λ d names r k. fits_unreferenced most d.table f (room d.table f r).fits k;
    }

-- a block that references an entry has a maximum capacity of 32 at least
pub room_chosen : (most base : ℕ) (t : Table) (ls : List FieldLine) (cs : List Chosen) (new : Table)
    → t.referenced ≡ [] → t.capacity ≤ most → total_size (fields_in t.live) ≤ most
    → new ≡ (chosen_fields base (draft_at t) ls cs).table → 0 < greatest_of new.referenced → 32 ≤ most
room_chosen most base t ls cs new begins capacity live is =
    let k : Fits most t = record {
      capacity = capacity;
      live = live;
      roomy = λ h. absurd (omega (arith, h, ap greatest_of begins, greatest_none));
    } in
    let all = kept_chosen_fields (λ (d : Draft). Fits most d.table) base (draft_at t) ls cs
    (every_kept (λ (d : Draft). Fits most d.table) base (fields_of_lines ls) (fits_kept most base)) k in
    rw is (all.roomy)
