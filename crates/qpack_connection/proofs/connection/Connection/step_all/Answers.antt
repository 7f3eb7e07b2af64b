use Rattle.std.proofs.Common.{◌≡◌, ◌∷◌, [], length, ap, ◌∙◌, append_assoc, arith, length-append}
use Rattle.std.specs.Vec.Iter.{into_iter_items}
use Rattle.qpack_connection.proofs.ConnectionRuns.{steps_more}
use Rattle.qpack_connection.proofs.connection.Connection.step_all.Goals as goal

pub loop-event-preserved : goal.loop-event-preserved
loop-event-preserved c =
    let at = c.loop-event in
    let e = c.in-Some.event in
    let steps : into_iter_items at.event-iterator ≡ e ∷ into_iter_items c.next.new.self =
    c.in-Some.ensures.steps.0 in
    let was = at.invariant.left in
    let gone = c.in-Some.ensures.steps.1 in
    let short = ap length steps in
    record {
      items = append_assoc at.yielded (e ∷ []) _ ∙ rw (← steps) at.invariant.items;
      left = omega arith;
      length = omega (
        arith,
        at.invariant.length,
        c.push_reserved.ensures.len,
        length-append at.yielded (e ∷ []),
      );
      capacity = c.push_reserved.ensures.capacity ∙ at.invariant.capacity;
      steps = steps_more c.args.self.now at.self c.step.new.self at.yielded e c.step.result c.args.outcomes.now.items
          at.outcomes.items c.push_reserved.new.self.items at.invariant.steps c.step.ensures.goes
          c.push_reserved.ensures.items;
    }
