use Rattle.qpack_wire.proofs.FiveForms.{five_forms}
use Rattle.qpack_wire.proofs.laws.lines_have_five_forms.Goals as goal

pub returns : goal.returns
returns c = five_forms
