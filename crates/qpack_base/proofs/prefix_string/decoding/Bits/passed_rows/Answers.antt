use Rattle.qpack_base.proofs.LongCodes.{past_23, past_15}
use Rattle.qpack_base.proofs.prefix_string.decoding.Bits.passed_rows.Goals as goal

pub returns-then-window-ge-CODES_OF_24-clause-smaller :
    goal.returns-then-window-ge-CODES_OF_24-clause-smaller
returns-then-window-ge-CODES_OF_24-clause-smaller c =
    let b = c.args.self.now in past_23 b.count b.loaded c.if-self-lt24.false c.if-window-ge-CODES_OF_24.true

pub returns-then-window-ge-CODES_OF_19-clause-smaller :
    goal.returns-then-window-ge-CODES_OF_19-clause-smaller
returns-then-window-ge-CODES_OF_19-clause-smaller c =
    let b = c.args.self.now in past_15 b.count b.loaded c.if-self-lt24.false c.if-window-ge-CODES_OF_19.true
