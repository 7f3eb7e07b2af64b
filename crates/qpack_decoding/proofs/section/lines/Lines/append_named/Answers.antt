use Rattle.std.proofs.Common.{◌∙◌, ◌++◌, ap, sym}
use Rattle.std.proofs.lemmas.Result.{err_from_is_err_and}
use Rattle.qpack_spec.specs.Form.{or_bad_integer, or_bad_string}
use Rattle.qpack_spec.specs.Integer.{integer_at}
use Rattle.qpack_spec.specs.Text.{string_at}
use Rattle.qpack_spec.specs.Window.{with_value}
use Rattle.qpack_base.specs.Writes.{kept_within}
use Rattle.qpack_wire.specs.BlockLines.{named_line}
use Rattle.qpack_decoding.specs.Lines.{under, entry_of}
use Rattle.qpack_decoding.proofs.LineParts.{fails_in_bytes, fails_by, extends_none, extends_same}
use Rattle.qpack_decoding.proofs.LineParts.{name_bad, value_bad, value_good, stands_named, value_is, value_fails}
use Rattle.qpack_decoding.proofs.Asking.{asks_named}
use Rattle.qpack_decoding.proofs.section.lines.Lines.append_named.Goals as goal

pub returns-in_err-index-clause-exact : goal.returns-in_err-index-clause-exact
returns-in_err-index-clause-exact g c =
    let p = err_from_is_err_and c.from_residual.result c.from_residual.ensures.1 in
    rw (sym c.name_index_size.ensures, p.1, p.2) (
      fails_in_bytes _ (or_bad_integer (integer_at c.name_index_size.result c.args.buf.now.rest)) _ c.in_err-index.ensures.exact
          (name_bad (under c.args.self.now 0) c.name_index_size.result (named_line c.args.reference) c.args.buf.now.rest),
      extends_none c.args.text.now.items,
    )

pub returns-in_err-value-in-Ok-clause-exact : goal.returns-in_err-value-in-Ok-clause-exact
returns-in_err-value-in-Ok-clause-exact g c =
    let p = err_from_is_err_and c.from_residual-in_err-value-in-Ok.result c.from_residual-in_err-value-in-Ok.ensures.1 in
    let n = c.in-Ok.ensures.exact in
    rw (sym c.name_index_size.ensures, p.1, p.2) (
      fails_in_bytes _ (or_bad_string (string_at 8 c.read_index.new.buf.rest)) _ c.in_err-value-in-Ok.ensures.exact.0
          (λ x q. value_bad (under c.args.self.now 0) c.name_index_size.result (named_line c.args.reference) c.args.buf.now.rest
          c.read_index.new.buf.rest c.in_ok-index.ensures.exact.0.0 c.in_ok-index.index x
          c.in_ok-index.ensures.exact.0.1 q),
      (kept_within c.args.most n.0.name, c.in_err-value-in-Ok.ensures.exact.1 ∙ n.3),
    )

pub returns-in_err-append_string-in-Err-clause-exact : goal.returns-in_err-append_string-in-Err-clause-exact
returns-in_err-append_string-in-Err-clause-exact g c =
    let p = err_from_is_err_and c.from_residual-in_err-append_string-in-Err.result
    c.from_residual-in_err-append_string-in-Err.ensures.1 in
    rw (sym c.name_index_size.ensures, p.1, p.2) (
      fails_in_bytes _ (or_bad_string (string_at 8 c.read_index.new.buf.rest)) _ c.in_err-append_string-in-Err.ensures.exact.0
          (λ x q. value_bad (under c.args.self.now 0) c.name_index_size.result (named_line c.args.reference) c.args.buf.now.rest
          c.read_index.new.buf.rest c.in_ok-index.ensures.exact.0.0 c.in_ok-index.index x
          c.in_ok-index.ensures.exact.0.1 q),
      extends_same c.args.text.now.items _ (c.in_err-append_string-in-Err.ensures.exact.1 ∙ c.in-Err.ensures.exact.1),
    )

pub returns-in_ok-append_string-in-Err-clause-exact : goal.returns-in_ok-append_string-in-Err-clause-exact
returns-in_ok-append_string-in-Err-clause-exact g c =
    let s = c.in_ok-append_string-in-Err.ensures.exact in
    let bad = c.in-Err.ensures.exact in
    let rest = c.append_string-in-Err.new.buf.rest in rw (sym c.name_index_size.ensures) (
      fails_by _ (entry_of (under c.args.self.now 0) c.args.reference c.in_ok-index.index) _ bad.0
          (λ x q. value_good (under c.args.self.now 0) c.args.reference c.name_index_size.result c.args.buf.now.rest
          c.read_index.new.buf.rest rest c.in_ok-index.ensures.exact.0.0 c.in_ok-index.index s.0 s.1
          c.in_ok-index.ensures.exact.0.1 s.2
          ∙ value_fails rest s.1 (entry_of (under c.args.self.now 0) c.args.reference c.in_ok-index.index) x q),
      (kept_within 0 s.1, s.4 ∙ ap (λ text. text ++ kept_within 0 s.1) bad.1),
    )

pub returns-in_ok-value-in-Ok-clause-exact : goal.returns-in_ok-value-in-Ok-clause-exact
returns-in_ok-value-in-Ok-clause-exact g c =
    let s = c.in_ok-value-in-Ok.ensures.exact in
    let n = c.in-Ok.ensures.exact in
    let rest = c.append_string.new.buf.rest in
    let mid = c.append_name_of.new.text.items in rw (sym c.name_index_size.ensures) (
      with_value s.1 n.0,
      value_good (under c.args.self.now 0) c.args.reference c.name_index_size.result c.args.buf.now.rest c.read_index.new.buf.rest
          rest
          c.in_ok-index.ensures.exact.0.0 c.in_ok-index.index s.0 s.1 c.in_ok-index.ensures.exact.0.1 s.2
          ∙ value_is rest s.1 (entry_of (under c.args.self.now 0) c.args.reference c.in_ok-index.index) n.0 n.1,
      stands_named c.args.most c.args.text.now.items mid c.append_string.new.text.items s.1 _ n.0 n.2 s.3 n.3
          (s.4 ∙ ap (λ left. mid ++ kept_within left s.1) c.saturating_sub.ensures),
      s.5 ∙ c.in_ok-index.ensures.exact.1,
    )

pub returns-in_ok-append_string-in-Err-clause-memory : goal.returns-in_ok-append_string-in-Err-clause-memory
returns-in_ok-append_string-in-Err-clause-memory g c e =
    let s = c.in_ok-append_string-in-Err.ensures.exact in
    rw (sym c.name_index_size.ensures) (asks_named c.name_index_size.result (named_line c.args.reference) c.args.buf.now.rest c.read_index.new.buf.rest
    c.append_string-in-Err.new.buf.rest s.1 c.in_ok-index.ensures.exact.0.0 c.in_ok-index.index s.0
    c.in_ok-index.ensures.exact.0.1 s.2)
