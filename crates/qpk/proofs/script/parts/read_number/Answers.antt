use Rattle.std.proofs.Common.{sym, ap, ◌∙◌}
use Rattle.qpk.specs.Scripts.{number_of}
use Rattle.qpk.proofs.Parts.{is_text, no_text, number_read, no_text_no_number}
use Rattle.qpk.proofs.script.parts.read_number.Goals as goal

pub returns-in_err-ok : goal.returns-in_err-ok
returns-in_err-ok c =
    c.from_residual.ensures
    ∙ sym (no_text_no_number c.args.part.now (no_text c.args.part.now _ _ c.from_utf8.result c.in_err-ok.ensures.value
    c.from_utf8.ensures.cases))

pub returns : goal.returns
returns c =
    c.ok-2.ensures.value ∙ sym (number_read c.in_ok-ok.field-0.now c.parse.result c.parse.ensures.value.0)
    ∙ ap number_of (is_text c.args.part.now _ c.from_utf8.result c.in_ok-ok.field-0 c.in_ok-ok.ensures.value
    c.from_utf8.ensures.cases)
