use Rattle.std.proofs.Common.{◌∙◌, ◌++◌, ap}
use Rattle.std.proofs.lemmas.Result.{err_from_is_err_and}
use Rattle.qpack_spec.specs.Form.{or_bad_string}
use Rattle.qpack_spec.specs.Text.{string_at}
use Rattle.qpack_base.specs.Writes.{kept_within}
use Rattle.qpack_decoding.proofs.LineParts.{fails_in_bytes, extends_none, literal_name_bad, literal_value_bad}
use Rattle.qpack_decoding.proofs.LineParts.{literal_good, stands_named}
use Rattle.qpack_decoding.proofs.section.lines.append_literal.Goals as goal

pub returns-in_err-name-clause-exact : goal.returns-in_err-name-clause-exact
returns-in_err-name-clause-exact c u =
    let p = err_from_is_err_and c.from_residual.result c.from_residual.ensures.1 in
    rw (p.1, p.2, c.in_err-name.ensures.exact.1) (
      fails_in_bytes _ (or_bad_string (string_at 4 c.args.buf.now.rest)) _ c.in_err-name.ensures.exact.0
          (literal_name_bad u c.args.buf.now.rest),
      extends_none c.args.text.now.items,
    )

pub returns-in_err-value-clause-exact : goal.returns-in_err-value-clause-exact
returns-in_err-value-clause-exact c u =
    let p = err_from_is_err_and c.from_residual-in_err-value.result c.from_residual-in_err-value.ensures.1 in
    let n = c.in_ok-name.ensures.exact in
    rw (p.1, p.2) (
      fails_in_bytes _ (or_bad_string (string_at 8 c.append_string.new.buf.rest)) _ c.in_err-value.ensures.exact.0
          (λ x q. literal_value_bad u c.args.buf.now.rest c.append_string.new.buf.rest n.1 n.0 x n.2 q),
      (kept_within c.args.most n.1, c.in_err-value.ensures.exact.1 ∙ n.4),
    )

pub returns-clause-exact : goal.returns-clause-exact
returns-clause-exact c u =
    let n = c.in_ok-name.ensures.exact in
    let v = c.in_ok-value.ensures.exact in (
      record { name = n.1; value = v.1 },
      literal_good u c.args.buf.now.rest c.append_string.new.buf.rest c.append_string-2.new.buf.rest n.1 v.1 n.0 v.0 n.2
          v.2,
      stands_named c.args.most c.args.text.now.items c.append_string.new.text.items c.append_string-2.new.text.items v.1
          _ (record { name = n.1; value = v.1 }) n.3 v.3 n.4
          (v.4 ∙ ap (λ left. c.append_string.new.text.items ++ kept_within left v.1) c.saturating_sub.ensures),
      v.5 ∙ n.5,
    )
