use Rattle.std.proofs.Common.{◌≡◌, length}
use Rattle.qpack_codec.specs.Stateless.{fields_in}
use Rattle.qpk.specs.Scripts.{parts_behind, fields_of_parts}
use Rattle.qpk.proofs.Parts.{with_fields}
use Rattle.qpk.proofs.script.parts.read_field_parts.Given as goal

abbrev pub invariant-loop-rest : goal.invariant-loop-rest
invariant-loop-rest l =
    with_fields (fields_in l.fields.items) (fields_of_parts (parts_behind l.rest))
    ≡ fields_of_parts (parts_behind l.parts)

abbrev pub decreases-loop-rest : goal.decreases-loop-rest
decreases-loop-rest l = length (parts_behind l.rest)
