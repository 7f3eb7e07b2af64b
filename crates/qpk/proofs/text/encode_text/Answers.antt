use Rattle.std.proofs.Common.{ap, ◌∙◌}
use Rattle.hex.specs.Hex.{encode_lower}
use Rattle.qpk.proofs.Texts.{encoded}
use Rattle.qpk.proofs.text.encode_text.Goals as goal

pub returns : goal.returns
returns c =
    encoded c.args.text.now c.iter.result c.in_ok-fields.fields.items c.new-block.result.items
    c.encode_stateless.new.block.items _ c.in-Ok._size c.new-block.ensures.items
    (c.iter.ensures.rest ∙ c.deref.ensures.value) c.in_ok-fields.ensures c.in-Ok.ensures.ok
    (c.in_ok-encode.ensures ∙ ap encode_lower c.as_slice.ensures.value)
