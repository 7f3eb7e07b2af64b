-- Where nothing is under way, a section whose first field is chosen to be inserted requires a new insertion.
use Rattle.std.proofs.Common.{ℕ, ◌+◌, ◌^◌, ◌<◌, ◌≤◌, ◌≡◌, Bool, false, [], length, refl, arith}
use Rattle.std.proofs.Common.{subst, sym}
use Rattle.std.proofs.lemmas.Bool.{lt-ltb}
use Rattle.qpack_spec.specs.Chosen.{Chosen, Inserts, Naming, chosen_rule, chosen_field, unreferenced_chosen}
use Rattle.qpack_spec.specs.Chosen.{instruction_naming}
use Rattle.qpack_spec.specs.Instruction.{EncoderInstruction}
use Rattle.qpack_spec.specs.Field.{Field, FieldLine, field_size, fields_of_lines}
use Rattle.qpack_rules.specs.LawfulDecoders.{IsQuiet, ChosenInsertionsGoOn}
use Rattle.qpack_spec.specs.Reading.{greatest_of}
use Rattle.qpack_spec.specs.Rule.{Draft, empty_draft, with_inserted}
use Rattle.qpack_spec.specs.Table.{insert_count, with_reference, with_entry, without_references}
use Rattle.qpack_rules.proofs.ChosenSteps.{IsKept, every_kept, kept_chosen_fields, kept_unreferenced_chosen}
use Rattle.qpack_rules.proofs.LawfulDecoders.{has_room_quiet}
use Rattle.qpack_spec.proofs.References.{greatest_track}

abbrev Reaches : ℕ → Draft → Type 0
Reaches n d = n ≤ greatest_of d.table.referenced

reaches_kept : (n base : ℕ) (f : Field) → IsKept (Reaches n) base f
unfolding with_reference with_entry
reaches_kept n base f =
    record {
      static_line = λ d i e k. k;
      static_name = λ d i e k. k;
      literal = λ d k. k;
      entry = λ d a at may k. omega (arith, k, greatest_track d.table.referenced a);
      name = λ d a at may k. omega (arith, k, greatest_track d.table.referenced a);
      insertion = λ d names below r k. omega (arith, k, greatest_track d.table.referenced (insert_count d.table + 1));
      unreferenced = λ d names r k. k;
    }

new_reaches : (base : ℕ) (d : Draft) (f : Field) (i : EncoderInstruction)
    → Reaches (insert_count d.table + 1) (with_inserted base d f i)
unfolding with_reference with_entry
new_reaches base d f i = omega (arith, greatest_track d.table.referenced (insert_count d.table + 1))

-- the choice of the first field
inserts : Bool → Naming → Chosen
inserts unreferenced names = record { line = Inserts; unreferenced = unreferenced; names = names }

first_inserted : (base : ℕ) (d : Draft) (l : FieldLine) (unreferenced : Bool) (names : Naming) → IsQuiet d.table
    → d.table.referenced ≡ [] → l.never_indexed ≡ false → field_size l.field ≤ d.table.capacity
    → length d.table.blocked < d.table.limit → insert_count d.table < 2 ^ 62
    → chosen_field base d l (inserts unreferenced names)
    ≡ unreferenced_chosen names unreferenced
    (with_inserted base d l.field (instruction_naming names d.table l.field)) l.field
unfolding inserts
first_inserted base d l unreferenced names quiet unnamed plain fits below few =
    rw (
      plain,
      lt-ltb (length d.table.blocked) d.table.limit below,
      has_room_quiet d.table l.field quiet unnamed fits few,
    ) refl

pub go_on_chosen : ChosenInsertionsGoOn
unfolding chosen_rule without_references inserts
go_on_chosen t l more unreferenced names cs quiet plain fits below few =
    let base = insert_count t in
    let d = empty_draft t in
    let i = instruction_naming names d.table l.field in
    let new = chosen_field base d l (inserts unreferenced names) in
    let still : IsQuiet d.table = record { acknowledged = quiet.acknowledged; known = quiet.known } in
    let first = first_inserted base d l unreferenced names still refl plain fits below few in
    let P = Reaches (insert_count t + 1) in
    let kept = reaches_kept (insert_count t + 1) base in
    let one : P new =
    subst P (sym first) (kept_unreferenced_chosen P names base unreferenced (with_inserted base d l.field i) l.field
    (kept l.field) (new_reaches base d l.field i)) in
    let all = kept_chosen_fields P base new more cs (every_kept P base (fields_of_lines more) kept) one in
    omega (arith, all)
