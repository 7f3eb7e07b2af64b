use Rattle.std.proofs.Common.{◌≡◌, map, take}
use Rattle.serde_json.specs.View.{view}
use Rattle.qpack_codec.specs.Stateless.{fields_in}
use Rattle.qpk.specs.Json.{field_data}
use Rattle.qpk.proofs.json.fields_value.Given as goal

abbrev pub invariant-loop-field : goal.invariant-loop-field
invariant-loop-field l = map view l.values.items ≡ map field_data (fields_in (take l.field-index l.fields))
