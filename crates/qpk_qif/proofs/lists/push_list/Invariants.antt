use Rattle.std.proofs.Common.{◌≡◌, ◌++◌, take}
use Rattle.std.specs.List.{flat_map}
use Rattle.qpack_codec.specs.Stateless.{fields_in}
use Rattle.qpk_qif.specs.Lists.{text_of_field}
use Rattle.qpk_qif.proofs.lists.push_list.Given as goal

abbrev pub invariant-loop-field : goal.invariant-loop-field
invariant-loop-field l =
    l.out.items ≡ l.fn.out.items ++ flat_map text_of_field (fields_in (take l.field-index l.fields))
