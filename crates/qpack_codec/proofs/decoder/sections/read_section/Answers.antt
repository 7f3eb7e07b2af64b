use Rattle.std.proofs.Common.{◌≡◌, Result, List, refl, ap, sym, ◌∙◌, nat_lt, subst}
use Rattle.std.proofs.lemmas.Result.{err_from_is_err_and}
use Rattle.qpack_spec.specs.Field.{Field}
use Rattle.qpack_spec.specs.Reading.{Fault, reading_of_fields}
use Rattle.qpack_spec.specs.BlockReading.{fields_in_bytes}
use Rattle.qpack_spec.specs.Table.{window}
use Rattle.qpack_wire.specs.Prefixes.{prefix_of}
use Rattle.qpack_codec.specs.Sections.{FailsWith}
use Rattle.qpack_wire.proofs.Asking.{asks_section}
use Rattle.qpack_codec.proofs.SectionAnswers.{section_out, section_missing, section_read, section_fails}
use Rattle.qpack_codec.proofs.decoder.sections.read_section.Goals as goal

pub returns-in_err-required-clause-exact : goal.returns-in_err-required-clause-exact
returns-in_err-required-clause-exact g c =
    let p = err_from_is_err_and c.from_residual-in_err-required.result c.from_residual-in_err-required.ensures.1 in
    rw (p.1, p.2)
    (section_out c.args.table.now c.args.buf.now.rest c.decode.new.buf.rest (prefix_of c.in_ok-prefix.prefix)
    c.total_inserted-inserted.result c.agreed_max.result c.in_err-required.field-0.0
    c.in_ok-prefix.ensures.exact.0 c.total_inserted-inserted.ensures c.agreed_max.ensures.exact
    c.in_err-required.ensures)

pub returns-then-required-inserted-clause-exact : goal.returns-then-required-inserted-clause-exact
returns-then-required-inserted-clause-exact g c =
    rw (section_missing c.args.table.now c.args.buf.now.rest c.decode.new.buf.rest (prefix_of c.in_ok-prefix.prefix)
    c.total_inserted-inserted.result c.agreed_max.result c.in_ok-required.required c.in_ok-required.base
    c.in_ok-prefix.ensures.exact.0 c.total_inserted-inserted.ensures c.agreed_max.ensures.exact c.in_ok-required.ensures
    c.if-required-inserted.true) refl

pub returns-in_err-read-clause-exact : goal.returns-in_err-read-clause-exact
returns-in_err-read-clause-exact g c =
    let same : fields_in_bytes (window c.decoder.result.table.now) c.decoder.result.base c.decode.new.buf.rest
    ≡ fields_in_bytes (window c.args.table.now) c.in_ok-required.base c.decode.new.buf.rest =
    (λ i. fields_in_bytes (window (c.decoder.ensures.table i)) (c.decoder.ensures.base i) c.decode.new.buf.rest) in
    let p = err_from_is_err_and c.from_residual-in_err-read.result c.from_residual-in_err-read.ensures.1 in
    rw (p.1, p.2)
    (section_fails c.in_err-read.field-0.0
    (fields_in_bytes (window c.args.table.now) c.in_ok-required.base c.decode.new.buf.rest) _
    (nat_lt 0 c.in_ok-required.required)
    (section_read c.args.table.now c.args.buf.now.rest c.decode.new.buf.rest (prefix_of c.in_ok-prefix.prefix)
    c.total_inserted-inserted.result c.agreed_max.result c.in_ok-required.required c.in_ok-required.base
    c.in_ok-prefix.ensures.exact.0 c.total_inserted-inserted.ensures c.agreed_max.ensures.exact c.in_ok-required.ensures
    c.if-required-inserted.false)
    (subst (λ (q : Result (List Field) Fault). FailsWith c.in_err-read.field-0.0 q) same c.in_err-read.ensures.exact))

pub returns-in_err-read-clause-memory : goal.returns-in_err-read-clause-memory
returns-in_err-read-clause-memory g c e =
    let p = err_from_is_err_and c.from_residual-in_err-read.result c.from_residual-in_err-read.ensures.1 in
    asks_section c.args.buf.now c.decode.new.buf (prefix_of c.in_ok-prefix.prefix)
    c.in_ok-prefix.ensures.decodes.found
    (c.in_err-read.ensures.memory (let s = p.1 in let t = p.2 in cc))

pub returns-clause-exact : goal.returns-clause-exact
returns-clause-exact g c =
    let same : fields_in_bytes (window c.decoder.result.table.now) c.decoder.result.base c.decode.new.buf.rest
    ≡ fields_in_bytes (window c.args.table.now) c.in_ok-required.base c.decode.new.buf.rest =
    (λ i. fields_in_bytes (window (c.decoder.ensures.table i)) (c.decoder.ensures.base i) c.decode.new.buf.rest) in (
      section_read c.args.table.now c.args.buf.now.rest c.decode.new.buf.rest (prefix_of c.in_ok-prefix.prefix)
          c.total_inserted-inserted.result c.agreed_max.result c.in_ok-required.required c.in_ok-required.base
          c.in_ok-prefix.ensures.exact.0 c.total_inserted-inserted.ensures c.agreed_max.ensures.exact
          c.in_ok-required.ensures
          c.if-required-inserted.false
          ∙ ap (λ q. reading_of_fields q (nat_lt 0 c.in_ok-required.required))
          (sym same ∙ c.in_ok-read.ensures.exact.0),
      c.in_ok-read.ensures.exact.1,
    )
