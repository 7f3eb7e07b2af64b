use Rattle.std.proofs.Common.{rules, ◌≡◌, codes, sym, ◌∙◌}
use Rattle.hex.specs.Hex.{encode_lower}
use Rattle.serde_json.specs.Data.{string, object, member, no_members}
use Rattle.serde_json.specs.View.{view}
use Rattle.serde_json.specs.declared.value.Value.{String, Object, the_lemmas}
use Rattle.qpk.proofs.JsonData.{text_data, hexadecimal_data}
use Rattle.qpk.proofs.json.bytes_value.Goals as goal

pub returns-in_ok-from_str-in-Ok : goal.returns-in_ok-from_str-in-Ok
returns-in_ok-from_str-in-Ok c =
    let built : view (String c.in_ok-from_str-in-Ok.field-0) ≡ string c.args.bytes.now =
    search (rules, the_lemmas) in
    built ∙ sym (text_data c.args.bytes.now c.in-Ok.ensures.cases.1)

pub returns-in-Ok-json-2 : goal.returns-in-Ok-json-2
returns-in-Ok-json-2 c =
    let built : view (Object _) ≡ object (member (codes "hex") (string (encode_lower c.args.bytes.now)) no_members) =
    search (rules, the_lemmas) in
    built ∙ sym (hexadecimal_data c.args.bytes.now c.in-Err.ensures.cases.0)
