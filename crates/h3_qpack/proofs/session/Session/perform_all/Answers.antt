use Rattle.std.proofs.Common.{◌++◌, ◌∷◌, [], take, ap, sym, ◌∙◌, arith}
use Rattle.std.proofs.lemmas.List.{take_more}
use Rattle.h3_qpack.proofs.SessionRuns.{performs_more, performs_within}
use Rattle.h3_qpack.proofs.session.Session.perform_all.Goals as goal

pub loop-event-preserved : goal.loop-event-preserved
loop-event-preserved c =
    let i = c.loop-event.event-index in
    let before = c.loop-event.invariant in record {
      length = omega (arith, before.length, c.push_reserved.ensures.len);
      capacity = c.push_reserved.ensures.capacity ∙ before.capacity;
      performs = performs_more c.args.self.now c.loop-event.self c.perform.new.self
          (take i c.args.events.now) _ c.event-item.result c.perform.result c.args.outcomes.now.items
          c.loop-event.outcomes.items c.push_reserved.new.self.items before.performs c.perform.ensures.goes
          (take_more c.args.events.now i c.event-item.result c.loop-event-test.true
          ∙ ap (λ x. take i c.args.events.now ++ x ∷ []) (sym c.event-item.is)) c.push_reserved.ensures.items;
    }

pub returns : goal.returns
returns c = performs_within c.args.self.now c.loop-event.self c.args.events.now c.loop-event.event-index
    c.args.outcomes.now.items c.loop-event.outcomes.items c.loop-event-test.false
    c.loop-event.invariant.performs
