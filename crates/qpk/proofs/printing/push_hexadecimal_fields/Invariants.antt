use Rattle.std.proofs.Common.{◌≡◌, ◌++◌, take}
use Rattle.std.specs.Prelude.{string_bytes}
use Rattle.qpack_codec.specs.Stateless.{fields_in}
use Rattle.qpk.specs.Inspecting.{hexadecimal_fields}
use Rattle.qpk.proofs.printing.push_hexadecimal_fields.Given as goal

abbrev pub invariant-loop-field : goal.invariant-loop-field
invariant-loop-field l =
    string_bytes l.text ≡ string_bytes l.fn.text ++ hexadecimal_fields (fields_in (take l.field-index l.fields))
