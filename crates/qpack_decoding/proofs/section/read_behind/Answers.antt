use Rattle.std.proofs.Common.{◌∙◌, ap, arith}
use Rattle.std.proofs.lemmas.Result.{err_from_is_err_and}
use Rattle.qpack_spec.specs.StrictReading.{lines_behind}
use Rattle.qpack_spec.specs.Table.{window}
use Rattle.qpack_wire.specs.Prefixes.{prefix_of}
use Rattle.qpack_decoding.specs.SectionPrefixes.{strict_numbers}
use Rattle.qpack_decoding.proofs.SectionParts.{after_numbers, behind_numbers, numbers_blocked, numbers_read, numbers_fail}
use Rattle.qpack_decoding.proofs.SectionParts.{count_is, lines_fail}
use Rattle.qpack_decoding.proofs.section.read_behind.Goals as goal

pub returns-in_err-required-clause-exact : goal.returns-in_err-required-clause-exact
returns-in_err-required-clause-exact g c =
    let e = err_from_is_err_and c.from_residual.result c.from_residual.ensures.1 in
    let p = prefix_of c.args.prefix in
    let w = window c.args.table.now in
    rw (e.1, e.2, behind_numbers w c.args.limit c.args.buf.now.total p c.args.buf.now.rest)
    (numbers_fail w c.args.limit c.args.buf.now.total c.args.buf.now.rest _ (strict_numbers w p) c.in_err-required.ensures)

pub returns-then-required-total_inserted-clause-exact : goal.returns-then-required-total_inserted-clause-exact
returns-then-required-total_inserted-clause-exact g c =
    let p = prefix_of c.args.prefix in
    let w = window c.args.table.now in (
      behind_numbers w c.args.limit c.args.buf.now.total p c.args.buf.now.rest
          ∙ ap (after_numbers w c.args.limit c.args.buf.now.total c.args.buf.now.rest) c.in_ok-required.ensures
          ∙ numbers_blocked w c.args.limit c.args.buf.now.total c.args.buf.now.rest c.in_ok-required.required
          c.in_ok-required.base
          (omega (arith, c.if-required-total_inserted.true, c.total_inserted.ensures, count_is c.args.table.now)),
      c.requires,
    )

pub returns-in_err-read_lines-clause-exact : goal.returns-in_err-read_lines-clause-exact
returns-in_err-read_lines-clause-exact g c =
    let e = err_from_is_err_and c.from_residual-in_err-read_lines.result
    c.from_residual-in_err-read_lines.ensures.1 in
    let p = prefix_of c.args.prefix in
    let w = window c.args.table.now in
    let read = behind_numbers w c.args.limit c.args.buf.now.total p c.args.buf.now.rest
    ∙ ap (after_numbers w c.args.limit c.args.buf.now.total c.args.buf.now.rest) c.in_ok-required.ensures
    ∙ numbers_read w c.args.limit c.args.buf.now.total c.args.buf.now.rest c.in_ok-required.required
    c.in_ok-required.base
    (omega (arith, c.if-required-total_inserted.false, c.total_inserted.ensures, count_is c.args.table.now)) in
    rw (e.1, e.2, read) (lines_fail _ c.in_ok-required.required _ c.in_err-read_lines.ensures.exact)

pub returns-clause-exact : goal.returns-clause-exact
returns-clause-exact g c =
    let p = prefix_of c.args.prefix in
    let w = window c.args.table.now in
    behind_numbers w c.args.limit c.args.buf.now.total p c.args.buf.now.rest
    ∙ ap (after_numbers w c.args.limit c.args.buf.now.total c.args.buf.now.rest) c.in_ok-required.ensures
    ∙ numbers_read w c.args.limit c.args.buf.now.total c.args.buf.now.rest c.in_ok-required.required
    c.in_ok-required.base
    (omega (arith, c.if-required-total_inserted.false, c.total_inserted.ensures, count_is c.args.table.now))
    ∙ ap (lines_behind c.in_ok-required.required) c.in_ok-read_lines.ensures.exact
