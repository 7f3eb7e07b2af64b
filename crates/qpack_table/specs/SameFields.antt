-- Entries with the same fields.
use Rattle.std.specs.Prelude.{◌≡◌, ℕ, List, length}
use Rattle.std.proofs.Common.{ap, subst, sym, ◌∙◌}
use Rattle.std.proofs.lemmas.List.{length-map}
use Rattle.qpack_spec.specs.Field.{Field}
use Rattle.qpack_spec.specs.Table as table
use Rattle.qpack_spec.specs.Table.{fields_in}
use Rattle.qpack_table.specs.Entries.{Entry}
use Rattle.qpack_table.specs.Tables.{entry_of, entries_of, live_fields}

-- what holds of the fields of entries, and of their number, holds of others with the same fields
pub with_same_fields : (P : List Field → ℕ → Type 0) (es now : List Entry) → entries_of now ≡ entries_of es
    → P (live_fields es) (length es) → P (live_fields now) (length now)
with_same_fields P es now same is =
    let long : length es ≡ length now =
    sym (length-map es entry_of) ∙ ap (λ (l : List table.Entry). length l) (sym same) ∙ length-map now entry_of in
    subst (λ (n : ℕ). P (live_fields now) n) long
    (subst (λ (l : List table.Entry). P (fields_in l) (length es)) (sym same) is)
