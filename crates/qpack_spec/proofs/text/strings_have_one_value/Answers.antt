use Rattle.qpack_spec.proofs.Texts.{one_value}
use Rattle.qpack_spec.proofs.text.strings_have_one_value.Goals as goal

pub returns : goal.returns
returns c = one_value
