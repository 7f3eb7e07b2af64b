use Rattle.std.proofs.Common.{◌≡◌, length, rules, ap, arith}
use Rattle.std.proofs.lemmas.List.{length-map}
use Rattle.qpack_base.specs.HeaderFields.{line_of}
use Rattle.qpack_spec.specs.Field.{is_field}
use Rattle.qpack_spec.specs.Table.{Table}
use Rattle.qpack_table.specs.Tables.{entry_of}
use Rattle.qpack_table.proofs.SoughtFields.{newest_of_nothing}
use Rattle.qpack_table.proofs.dynamic.table.DynamicTable.seek.Goals as goal

pub returns-then-is_empty : goal.returns-then-is_empty
returns-then-is_empty g c =
    let len : 0 ≡ length c.self.inside.entries.items = search rules in
    record {
      hashes = tt;
      newest = newest_of_nothing c.args.self.now (is_field (line_of c.args.field.now).field) (omega (
        arith,
        len,
        ap (λ (t : Table). length t.live) c.self.view_is,
        length-map c.self.inside.entries.items entry_of,
      ));
      static_name = c.requires;
    }
