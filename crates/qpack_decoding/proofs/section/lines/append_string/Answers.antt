use Rattle.std.proofs.Common.{◌≡◌, ◌∙◌, Err, ap, sym}
use Rattle.qpack_spec.specs.Text.{string_at}
use Rattle.qpack_decoding.specs.declared.section.LineError.TheVariants.{Memory}
use Rattle.qpack_decoding.specs.Lines.{line_error_of_parse}
use Rattle.qpack_decoding.proofs.Asking.{string_memory_of}
use Rattle.qpack_decoding.proofs.section.lines.append_string.Goals as goal

pub returns-in-Err-clause-memory : goal.returns-in-Err-clause-memory
returns-in-Err-clause-memory c e =
    let same : c.from-in-Err.result ≡ Memory = cc in
    c.in-Err.ensures.whole (ap Err (string_memory_of c.in-Err.e (string_at c.args.size c.args.buf.now.rest)
    c.in-Err.ensures.exact.0 (ap line_error_of_parse (sym c.from.ensures) ∙ sym c.from-in-Err.ensures ∙ same)))

pub returns-in-Err-clause-asks : goal.returns-in-Err-clause-asks
returns-in-Err-clause-asks c e =
    let same : c.from-in-Err.result ≡ Memory = cc in
    c.in-Err.ensures.asks (ap Err (string_memory_of c.in-Err.e (string_at c.args.size c.args.buf.now.rest)
    c.in-Err.ensures.exact.0 (ap line_error_of_parse (sym c.from.ensures) ∙ sym c.from-in-Err.ensures ∙ same)))
