use Rattle.std.proofs.Common.{ℕ, List, subst, ◌∙◌}
use Rattle.qpack_base.specs.Payloads.{bits_left, GivesItem}
use Rattle.qpack_base.proofs.Items.{goes_on}
use Rattle.qpack_base.proofs.prefix_string.decoding.DecodeIterIterator.next.Goals as goal

pub returns-clause-goes : goal.returns-clause-goes
returns-clause-goes c =
    goes_on c.args.self.now (bits_left c.item.new.self) c.item.result
    (subst (λ (old : List ℕ). GivesItem old c.item.result (bits_left c.item.new.self)) (c.load.ensures.left
    ∙ c.self.view_is) c.item.ensures.gives)
