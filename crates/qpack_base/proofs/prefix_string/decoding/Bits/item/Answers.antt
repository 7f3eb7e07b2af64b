use Rattle.qpack_base.proofs.Items.{short_item_of, long_item}
use Rattle.qpack_base.proofs.prefix_string.decoding.Bits.item.Goals as goal

pub returns-then-window-ge-LONG-clause-gives : goal.returns-then-window-ge-LONG-clause-gives
returns-then-window-ge-LONG-clause-gives c =
    long_item c.args.self.now c.long_code.new.self c.long_code.result c.if-self-lt8.false c.long_code.ensures.gives

pub returns-clause-gives : goal.returns-clause-gives
returns-clause-gives c =
    short_item_of c.args.self.now c.pass.new.self _ c.from.result c.if-self-lt8.false
    (c.short_codes.ensures.at _ c.if-window-ge-LONG.false) c.from.ensures c.pass.ensures.rest
