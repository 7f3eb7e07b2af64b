use Rattle.std.proofs.Common.{◌≡◌, ℕ, subst, rules, tests}
use Rattle.std.specs.List.{filter}
use Rattle.std.specs.Option.{is_some}
use Rattle.std.specs.Prelude.{nat_lt, ◌&&◌}
use Rattle.std.proofs.lemmas.Fn.{filter_same}
use Rattle.qpack_rules.specs.StrictInstructions.{oldest_required}
use Rattle.qpack_shared.specs.declared.streams.BlockedStream.{BlockedStream}
use Rattle.qpack_encoding.proofs.at_risk.StreamsAtRisk.keep_open.Goals as goal

pub returns : goal.returns
returns c =
    let sections = c.args.table.now.unacknowledged in
    let old = c.args.self.now.streams.items in
    subst
    (λ (n : ℕ). c.retain.new.self.items
    ≡ filter (λ (r : BlockedStream). nat_lt n r.required && is_some (oldest_required r.stream sections)) old)
    c.known_received_count-known.ensures
    (filter_same _
    (λ (r : BlockedStream). nat_lt c.known_received_count-known.result r.required
    && is_some (oldest_required r.stream sections))
    _ (λ x b f t. search (rules, tests)) old c.retain.new.self.items c.retain.ensures.filtered)
