use Rattle.qpack_spec.proofs.Texts.{no_string_begins}
use Rattle.qpack_spec.proofs.text.no_string_begins_another.Goals as goal

pub returns : goal.returns
returns c = no_string_begins
