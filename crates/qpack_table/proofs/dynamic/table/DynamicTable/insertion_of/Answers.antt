use Rattle.std.proofs.Common.{◌≡◌, ℕ, ◌+◌, None, Some, sym, refl, ap, ◌∙◌}
use Rattle.qpack_base.specs.HeaderFields.{line_of}
use Rattle.qpack_spec.specs.Field.{Field, is_field, has_name}
use Rattle.qpack_spec.specs.StaticTable.{static_name_index}
use Rattle.qpack_spec.specs.Table.{Table, newest_index}
use Rattle.qpack_table.proofs.Newest.{stays, none_stays}
use Rattle.qpack_table.proofs.Insertions.{as_duplicate, with_static_name, with_entry_name, with_own_name}
use Rattle.qpack_table.proofs.Insertions.{stays_inserted}
use Rattle.qpack_table.proofs.dynamic.table.DynamicTable.insertion_of.Goals as goal

pub overflow_sub-result : goal.overflow_sub-result
overflow_sub-result g c =
    let f : Field = (line_of c.args.field.now).field in
    let at : c.total_dropped.result + c.args.passed ≡ c.args.self.now.dropped + c.args.passed =
    ap (λ (n : ℕ). n + c.args.passed) (c.total_dropped.ensures.exact ∙ ap (λ (t : Table). t.dropped) c.self.view_is) in
    let equal = stays c.args.self.now (is_field f) c.args.passed c.in-Some.newest _ _ _ at c.requires.sought.newest
    c.above.ensures c.in-Some.is in
    stays_inserted c.args.self.now (is_field f) c.args.passed _ _ equal c.requires.passed
    c.total_inserted-total.ensures

pub returns-in-Some : goal.returns-in-Some
returns-in-Some g c =
    let f : Field = (line_of c.args.field.now).field in
    let at : c.total_dropped.result + c.args.passed ≡ c.args.self.now.dropped + c.args.passed =
    ap (λ (n : ℕ). n + c.args.passed) (c.total_dropped.ensures.exact ∙ ap (λ (t : Table). t.dropped) c.self.view_is) in
    let equal = stays c.args.self.now (is_field f) c.args.passed c.in-Some.newest _ _ _ at c.requires.sought.newest
    c.above.ensures c.in-Some.is in
    as_duplicate c.args.self.now f c.args.passed _ _ c.args.base _ _ equal c.requires.passed
    c.total_inserted-total.ensures c.saturating_sub-postbase.ensures refl

pub returns-in-Some-static_name : goal.returns-in-Some-static_name
returns-in-Some-static_name g c =
    let f : Field = (line_of c.args.field.now).field in
    let at : c.total_dropped.result + c.args.passed ≡ c.args.self.now.dropped + c.args.passed =
    ap (λ (n : ℕ). n + c.args.passed) (c.total_dropped.ensures.exact ∙ ap (λ (t : Table). t.dropped) c.self.view_is) in
    let none = none_stays c.args.self.now (is_field f) c.args.passed _ _ _ at c.requires.sought.newest c.above.ensures
    c.in_default.is in
    let known : static_name_index f.name ≡ Some c.in-Some-static_name.index =
    sym c.requires.sought.static_name ∙ c.in-Some-static_name.is in
    with_static_name c.args.self.now f c.args.passed _ _ c.args.base _ _ none known
    c.total_inserted-total.ensures c.saturating_sub-postbase.ensures refl

pub overflow_sub-result-in-Some-above : goal.overflow_sub-result-in-Some-above
overflow_sub-result-in-Some-above g c =
    let f : Field = (line_of c.args.field.now).field in
    let at : c.total_dropped.result + c.args.passed ≡ c.args.self.now.dropped + c.args.passed =
    ap (λ (n : ℕ). n + c.args.passed) (c.total_dropped.ensures.exact ∙ ap (λ (t : Table). t.dropped) c.self.view_is) in
    let newest : c.newest_sought_name.result ≡ newest_index c.args.self.now (has_name f.name) =
    c.newest_sought_name.ensures in
    let named = stays c.args.self.now (has_name f.name) c.args.passed c.in-Some-above.newest _ _ _ at newest
    c.above-2.ensures c.in-Some-above.is in
    stays_inserted c.args.self.now (has_name f.name) c.args.passed _ _ named c.requires.passed
    c.total_inserted-total.ensures

pub returns-in-Some-above : goal.returns-in-Some-above
returns-in-Some-above g c =
    let f : Field = (line_of c.args.field.now).field in
    let at : c.total_dropped.result + c.args.passed ≡ c.args.self.now.dropped + c.args.passed =
    ap (λ (n : ℕ). n + c.args.passed) (c.total_dropped.ensures.exact ∙ ap (λ (t : Table). t.dropped) c.self.view_is) in
    let none = none_stays c.args.self.now (is_field f) c.args.passed _ _ _ at c.requires.sought.newest c.above.ensures
    c.in_default.is in
    let unknown : static_name_index f.name ≡ None =
    sym c.requires.sought.static_name ∙ c.in_default-static_name.is in
    let newest : c.newest_sought_name.result ≡ newest_index c.args.self.now (has_name f.name) =
    c.newest_sought_name.ensures in
    let named = stays c.args.self.now (has_name f.name) c.args.passed c.in-Some-above.newest _ _ _ at newest
    c.above-2.ensures c.in-Some-above.is in
    with_entry_name c.args.self.now f c.args.passed _ _ c.args.base _ _ none unknown named c.requires.passed
    c.total_inserted-total.ensures c.saturating_sub-postbase.ensures refl

pub returns-in-None : goal.returns-in-None
returns-in-None g c =
    let f : Field = (line_of c.args.field.now).field in
    let at : c.total_dropped.result + c.args.passed ≡ c.args.self.now.dropped + c.args.passed =
    ap (λ (n : ℕ). n + c.args.passed) (c.total_dropped.ensures.exact ∙ ap (λ (t : Table). t.dropped) c.self.view_is) in
    let none = none_stays c.args.self.now (is_field f) c.args.passed _ _ _ at c.requires.sought.newest c.above.ensures
    c.in_default.is in
    let unknown : static_name_index f.name ≡ None =
    sym c.requires.sought.static_name ∙ c.in_default-static_name.is in
    let newest : c.newest_sought_name.result ≡ newest_index c.args.self.now (has_name f.name) =
    c.newest_sought_name.ensures in
    let other = none_stays c.args.self.now (has_name f.name) c.args.passed _ _ _ at newest c.above-2.ensures
    c.in-None.is in
    with_own_name c.args.self.now f c.args.passed _ c.args.base _ _ none unknown other
    c.total_inserted-total.ensures c.saturating_sub-postbase.ensures refl
