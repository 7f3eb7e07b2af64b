use Rattle.std.proofs.Common.{ℕ, List, subst}
use Rattle.qpack_base.specs.HeaderFields.{line_of}
use Rattle.qpack_base.specs.Writes.{Writes}
use Rattle.qpack_codec.proofs.MarkedFields.{alone_unmarked}
use Rattle.qpack_base.specs.Codings.{coding_of}
use Rattle.qpack_codec.proofs.stateless.field_lines.append_line.Goals as goal

pub returns : goal.returns
returns g c =
    record {
      writes = subst (λ (e : List ℕ). Writes e c.args.block.now c.append_unmarked.new.block c.append_unmarked.result)
          (alone_unmarked (coding_of c.args.coding) (line_of c.args.field.now) c.if-field.false) c.append_unmarked.ensures.writes;
    }
