use Rattle.std.proofs.Common.{string_bytes}
use Rattle.std.specs.Char.{encode_utf8}
use Rattle.serde_json.specs.View.{view}
use Rattle.qpack_codec.specs.Stateless.{fields_in}
use Rattle.qpk.proofs.JsonData.{section_text}
use Rattle.qpk.proofs.json.section_json.Goals as goal

pub returns : goal.returns
unfolding encode_utf8
returns c =
    section_text (view c.in_ok-section.section) (fields_in c.args.decoded.now.fields.items)
    (string_bytes c.in_ok-text.text) _ c.in_ok-section.ensures c.in_ok-text.ensures.text c.in_ok-push.ensures.bytes
