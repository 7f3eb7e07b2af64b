use Rattle.std.proofs.Common.{◌∙◌, ℕ, List, ap, sym, subst, arith}
use Rattle.qpack_spec.specs.StrictReading.{LineFault}
use Rattle.qpack_spec.specs.Field.{FieldLine}
use Rattle.std.specs.Prelude.{Result, slice_get}
use Rattle.qpack_decoding.specs.FieldSections.{fields_in}
use Rattle.qpack_decoding.specs.Lines.{under}
use Rattle.qpack_decoding.specs.Pieces.{ReadsOneLine}
use Rattle.qpack_decoding.proofs.OneField.{line_is, one_in_turn, one_read, read_into_none}
use Rattle.qpack_decoding.proofs.SectionLines.{first_is}
use Rattle.qpack_decoding.proofs.field_section.FieldSection.read_line.Goals as goal

pub invariant_of-self : goal.invariant_of-self
invariant_of-self g c =
    one_in_turn _ _ _ _ _ _ _
    (read_into_none _ _ _ _ _ _ _ _ _ c.clear.ensures.items c.clear-2.ensures.items
    (c.read_line.ensures.exact c.args.sum (omega (arith, c.ranges.sum.fits))))

pub returns-clause-exact : goal.returns-clause-exact
returns-clause-exact g c =
    subst (λ (r : Result (FieldLine × List ℕ) LineFault). ReadsOneLine c.args.buf.now c.read_line.new.buf
    (fields_in c.read_line.new.text.items 0 c.read_line.new.spans.items) c.args.sum c.read_line.result r)
    (line_is (under c.args.lines.now 0) c.args.sum c.args.buf.now.rest c.in-Some.first.now
    (first_is c.args.buf.now.rest c.in-Some.first.now
    (ap (λ (l : List ℕ). slice_get l 0) (sym c.chunk.ensures) ∙ sym c.in-Some.ensures.value)))
    (one_read _ _ _ _ _ _ _
    (read_into_none _ _ _ _ _ _ _ _ _ c.clear.ensures.items c.clear-2.ensures.items
    (c.read_line.ensures.exact c.args.sum (omega (arith, c.ranges.sum.fits)))))
