use Rattle.std.proofs.Common.{◌≡◌, ◌++◌, take, map}
use Rattle.std.specs.List.{flat_map}
use Rattle.std.specs.Prelude.{string_bytes}
use Rattle.qpack_wire.specs.BlockLines.{line_of}
use Rattle.qpk.specs.Inspecting.{line_text}
use Rattle.qpk.proofs.inspect.blocks.push_field_lines.Given as goal

abbrev pub invariant-loop-line : goal.invariant-loop-line
invariant-loop-line l =
    string_bytes l.text ≡ string_bytes l.fn.text ++ flat_map line_text (map line_of (take l.line-index l.lines))
