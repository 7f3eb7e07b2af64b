use Rattle.qpack_base.proofs.PushedCodes.{pushed_twice}
use Rattle.qpack_base.proofs.prefix_string.ahead.push_next.Goals as goal

pub returns-in-Some-push_pair : goal.returns-in-Some-push_pair
returns-in-Some-push_pair g c =
    pushed_twice c.args.ahead c.in-Some.left c.in-Some-push_pair.left c.args.text.now c.push_pair.new.text
    c.push_pair-2.new.text c.in-Some.ensures c.in-Some-push_pair.ensures
