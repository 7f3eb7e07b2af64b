use Rattle.std.proofs.Common.{◌≡◌, ◌-◌, ℕ, [], sym, subst, ap, ◌∙◌, arith}
use Rattle.std.specs.Prelude.{slice_index_or}
use Rattle.qpack_base.specs.StaticFields.{AreNamesOfLength, name_rows_at}
use Rattle.qpack_base.proofs.static_.names.names_of_length.Goals as goal

pub returns-then-length-lt9 : goal.returns-then-length-lt9
returns-then-length-lt9 c =
    let n : c.args.length - 0 ≡ c.args.length = omega arith in
    let row = ap (λ (i : ℕ). slice_index_or (name_rows_at c.short_names.result.now) i []) n ∙ sym c.names_in.ensures in
    subst (AreNamesOfLength c.args.length) row (c.short_names.ensures.at c.args.length (omega arith) (omega arith))

pub returns-then-length-lt16 : goal.returns-then-length-lt16
returns-then-length-lt16 c =
    subst (AreNamesOfLength c.args.length) (sym c.names_in-then-length-lt16.ensures)
    (c.middle_names.ensures.at c.args.length (omega arith) (omega arith))

pub returns : goal.returns
returns c =
    subst (AreNamesOfLength c.args.length) (sym c.names_in-2.ensures)
    (c.long_names.ensures.at c.args.length (omega arith) (omega arith))
