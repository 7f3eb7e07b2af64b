use Rattle.std.proofs.Common.{sym}
use Rattle.std.proofs.lemmas.Result.{err_from_is_err_and}
use Rattle.qpack_spec.specs.Form.{or_bad_integer}
use Rattle.qpack_spec.specs.Integer.{integer_at}
use Rattle.qpack_wire.specs.BlockLines.{indexed_line}
use Rattle.qpack_decoding.specs.Lines.{under, entry_of}
use Rattle.qpack_decoding.proofs.LineParts.{fails_in_bytes, extends_none, index_bad, index_good, entry_line}
use Rattle.qpack_decoding.proofs.Asking.{asks_index}
use Rattle.qpack_decoding.proofs.section.lines.Lines.append_indexed.Goals as goal

pub returns-in_err-index-clause-exact : goal.returns-in_err-index-clause-exact
returns-in_err-index-clause-exact g c =
    let p = err_from_is_err_and c.from_residual.result c.from_residual.ensures.1 in
    rw (sym c.index_size.ensures, p.1, p.2) (
      fails_in_bytes _ (or_bad_integer (integer_at c.index_size.result c.args.buf.now.rest)) _ c.in_err-index.ensures.exact
          (index_bad (under c.args.self.now 0) c.index_size.result (indexed_line c.args.reference) c.args.buf.now.rest),
      extends_none c.args.text.now.items,
    )

pub returns-clause-exact : goal.returns-clause-exact
returns-clause-exact g c =
    rw (sym c.index_size.ensures) (entry_line c.args.most c.args.buf.now c.read_index.new.buf c.args.text.now.items c.append_entry.new.text.items
    c.append_entry.result (entry_of (under c.args.self.now 0) c.args.reference c.in_ok-index.index) _
    (index_good (under c.args.self.now 0) c.args.reference c.index_size.result c.args.buf.now.rest c.read_index.new.buf.rest
    c.in_ok-index.ensures.exact.0.0 c.in_ok-index.index c.in_ok-index.ensures.exact.0.1)
    c.in_ok-index.ensures.exact.1 c.append_entry.ensures.exact)

pub returns-clause-memory : goal.returns-clause-memory
returns-clause-memory g c e =
    rw (sym c.index_size.ensures) (asks_index c.index_size.result (indexed_line c.args.reference) c.args.buf.now.rest c.read_index.new.buf.rest
    c.in_ok-index.ensures.exact.0.0 c.in_ok-index.index c.in_ok-index.ensures.exact.0.1)
