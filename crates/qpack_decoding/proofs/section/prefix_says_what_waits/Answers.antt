use Rattle.qpack_decoding.proofs.SectionParts.{says_what_waits}
use Rattle.qpack_decoding.proofs.section.prefix_says_what_waits.Goals as goal

pub returns : goal.returns
returns c = says_what_waits
