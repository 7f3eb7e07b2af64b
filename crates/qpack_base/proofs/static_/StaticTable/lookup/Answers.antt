use Rattle.std.proofs.Common.{ℕ, List, Some, rules, ap, ◌∙◌}
use Rattle.std.specs.Prelude.{slice_get}
use Rattle.qpack_spec.specs.StaticTable.{field}
use Rattle.qpack_base.specs.declared.static_.StaticMatch.TheVariants.{Name}
use Rattle.qpack_base.proofs.StaticNames.{index_is_first, first_is_name_index}
use Rattle.qpack_base.proofs.StaticRows.{match_field, match_name}
use Rattle.qpack_base.proofs.static_.StaticTable.lookup.Goals as goal

pub returns-in-Some-default : goal.returns-in-Some-default
returns-in-Some-default c =
    match_field (field c.args.name.now c.args.value.now) c.index_of_value.result _
    (search (rules, index_is_first)) c.in-Some-default.is-0

pub returns-in-None-Some : goal.returns-in-None-Some
returns-in-None-Some c =
    ap (λ (i : ℕ). Some (Name i)) c.from.ensures
    ∙ match_name (field c.args.name.now c.args.value.now) c.index_of_value.result _
    (search (rules, index_is_first)) c.in-None-Some.is-0
    (c.in-None-Some.ensures'.value ∙ ap (λ (l : List ℕ). slice_get l 0) c.indexes_of-indexes.ensures
    ∙ first_is_name_index c.args.name.now)

pub returns-in-None-None : goal.returns-in-None-None
returns-in-None-None c =
    match_name (field c.args.name.now c.args.value.now) c.index_of_value.result _
    (search (rules, index_is_first)) c.in-None-None.is-0
    (c.in-None-None.ensures'.value ∙ ap (λ (l : List ℕ). slice_get l 0) c.indexes_of-indexes.ensures
    ∙ first_is_name_index c.args.name.now)
