use Rattle.std.proofs.Common.{ℕ, List, Bool, sym, ap, subst, ◌∙◌}
use Rattle.qpack_spec.specs.Handle.{line_of as line_of_insertion, literal_at}
use Rattle.qpack_spec.specs.Line.{coded_line, coded_marked_line}
use Rattle.qpack_base.specs.HeaderFields.{line_of}
use Rattle.qpack_base.specs.Writes.{Writes}
use Rattle.qpack_table.specs.Handles.{insertion_of, lookup_of}
use Rattle.qpack_table.specs.declared.dynamic.encoder.DynamicInsertionResult.{DynamicInsertionResult}
use Rattle.qpack_codec.proofs.MarkedFields.{written_unmarked}
use Rattle.qpack_base.specs.Codings.{coding_of}
use Rattle.qpack_codec.proofs.encoder.fields.append_inserted.Goals as goal

pub returns-in-NotInserted : goal.returns-in-NotInserted
returns-in-NotInserted g c =
    let f = (line_of c.args.field.now).field in
    let l = literal_at f (lookup_of c.in-NotInserted.lookup) in
    record {
      writes = subst (λ (e : List ℕ). Writes e c.args.buf.now c.append_literal.new.buf c.append_literal.result)
          (ap (λ (b : Bool). coded_marked_line (coding_of c.args.coding) b l) c.requires.unmarked ∙ written_unmarked (coding_of c.args.coding) f l
          ∙ ap (λ (i : DynamicInsertionResult). coded_line (coding_of c.args.coding) (line_of_insertion f (insertion_of i))) (sym
          c.in-NotInserted.is))
          c.append_literal.ensures.writes;
    }
