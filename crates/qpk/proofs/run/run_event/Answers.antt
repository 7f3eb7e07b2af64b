use Rattle.std.proofs.Common.{ℕ, List, length, drop, refl, ap, ◌∙◌}
use Rattle.std.proofs.lemmas.Result.{on_ok_weaker}
use Rattle.h3_qpack.specs.Sessions.{event_of}
use Rattle.qpk.specs.Runs.{stored_stream_bytes}
use Rattle.qpk.proofs.ScriptRuns.{added_is, event_prints}
use Rattle.qpk.proofs.run.run_event.Goals as goal

pub returns : goal.returns
returns c =
    let e = event_of c.args.event.now in
    let added =
    added_is _ c.written_stream.result.now (length c.written_stream-before.result.now) c.get.result _
    c.unwrap_or-added.result c.get.ensures.lookup.0 refl c.unwrap_or-added.ensures
    ∙ ap (λ (xs : List ℕ). drop (length xs) c.written_stream.result.now) c.written_stream-before.ensures
    ∙ ap (λ (xs : List ℕ). drop (length (stored_stream_bytes e c.args.session.now)) xs) c.written_stream.ensures in
    let step = c.step-outcome.ensures in
    on_ok_weaker c.push_outcome_lines.result
    (λ appended. (
      _,
      event_prints c.args.session.now c.step-outcome.new.self e c.step-outcome.result c.made_block.result.now
          c.unwrap_or-added.result.now step.goes step.unrefused step.exact step.asks c.made_block.ensures added,
      appended,
    ))
    c.push_outcome_lines.ensures
