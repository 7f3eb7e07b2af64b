use Rattle.qpack_rules.specs.Session.{initial_session}
use Rattle.h3_qpack.proofs.SessionStarts.{first_reached, first_is, first_view_is, begins_ok}
use Rattle.h3_qpack.proofs.session.Session.with_maximum.Goals as goal

pub invariant_of-result : goal.invariant_of-result
invariant_of-result c =
    first_is c.args.capacity c.args.maximum c.args.limit c.in_ok-table.ensures.ok.0 _
    (first_view_is c.args.capacity c.args.maximum c.args.limit c.from.result c.in_ok-table.table
    c.set_max_blocked.new.self c.in_ok-empty_table.field-0 c.from-2.result c.new.result.items c.new-2.result.items
    c.new-3.result c.from.ensures c.in_ok-set_max_blocked.ensures.ok.1 c.in_ok-table.ensures.ok.2 c.from-2.ensures
    c.in_ok-empty_table.ensures.ok.2 c.new.ensures.items c.new-2.ensures.items c.new-3.ensures)

pub returns-clause-reaches : goal.returns-clause-reaches
returns-clause-reaches c =
    first_reached c.args.capacity c.args.maximum c.args.limit c.in_ok-table.ensures.ok.0 _
    (first_view_is c.args.capacity c.args.maximum c.args.limit c.from.result c.in_ok-table.table
    c.set_max_blocked.new.self c.in_ok-empty_table.field-0 c.from-2.result c.new.result.items c.new-2.result.items
    c.new-3.result c.from.ensures c.in_ok-set_max_blocked.ensures.ok.1 c.in_ok-table.ensures.ok.2 c.from-2.ensures
    c.in_ok-empty_table.ensures.ok.2 c.new.ensures.items c.new-2.ensures.items c.new-3.ensures)

pub returns-clause-begins : goal.returns-clause-begins
returns-clause-begins c =
    let reaches = first_reached c.args.capacity c.args.maximum c.args.limit c.in_ok-table.ensures.ok.0 _
    (first_view_is c.args.capacity c.args.maximum c.args.limit c.from.result c.in_ok-table.table
    c.set_max_blocked.new.self c.in_ok-empty_table.field-0 c.from-2.result c.new.result.items c.new-2.result.items
    c.new-3.result c.from.ensures c.in_ok-set_max_blocked.ensures.ok.1 c.in_ok-table.ensures.ok.2 c.from-2.ensures
    c.in_ok-empty_table.ensures.ok.2 c.new.ensures.items c.new-2.ensures.items c.new-3.ensures) in (
      initial_session c.args.capacity c.args.maximum c.args.limit,
      begins_ok c.args.capacity c.args.maximum c.args.limit c.in_ok-table.ensures.ok.0 c.in_ok-table.ensures.ok.1
          c.in_ok-set_max_blocked.ensures.ok.0,
      reaches.shows,
    )
