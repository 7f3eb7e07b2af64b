use Rattle.std.proofs.Common.{refl}
use Rattle.qpack_base.specs.HeaderFields.{line_of}
use Rattle.qpack_codec.proofs.ChosenLines.{adds_literal_alone}
use Rattle.qpack_codec.proofs.Stills.{still_written}
use Rattle.qpack_codec.proofs.encoder.chosen_fields.append_never_indexed.Goals as goal

pub returns : goal.returns
returns g c =
    record {
      same_table = refl;
      stream = refl;
      base = refl;
      ok = adds_literal_alone c.args.block.now.table.now c.args.block.now.base (line_of c.args.field.now) c.args.choice
          c.args.lines.now.items c.append_alone.new.lines.items c.in_default.not-Named
          c.in_ok-append_alone.ensures.writes.ok;
      err = tt;
      as_before = tt;
      capacity = c.append_alone.ensures.writes.capacity;
      still = still_written _ c.args.lines.now c.append_alone.new.lines c.in_ok-append_alone.ensures.writes.ok
          c.in_ok-append_alone.ensures.writes.still;
    }
