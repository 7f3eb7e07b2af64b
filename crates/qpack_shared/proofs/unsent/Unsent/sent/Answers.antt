use Rattle.std.proofs.Common.{◌≤◌, ◌+◌, ◌∙◌, ap, sym, arith, length}
use Rattle.std.proofs.lemmas.Bool.{eqb-false}
use Rattle.std.proofs.lemmas.List.{length-drop}
use Rattle.qpack_shared.proofs.unsent.Unsent.sent.Goals as goal
use Rattle.qpack_shared.proofs.unsent.Unsent.sent.Goals.{then-sent-left, else-sent-left}

pub returns-else-is_empty-clause-given_back : goal.returns-else-is_empty-clause-given_back
returns-else-is_empty-clause-given_back c none =
    let few : c.if-sent-left.self-inside.sent + c.if-sent-left.self-inside.sent
    ≤ length c.if-sent-left.self-inside.bytes.items = elim c.if-sent-left.branch [
      | then-sent-left w ↦ rw w.self-inside-is (omega arith)
      | else-sent-left w ↦
          rw w.self-inside-is
          (omega (arith, w.if-sent-left.false, c.len.ensures, c.min-many.ensures, c.self.inside.bytes.ok.0))
    ] in
    absurd (eqb-false _ _ (sym c.is_empty.ensures ∙ c.if-is_empty.false) (omega (
      arith,
      few,
      ap length none,
      length-drop c.if-sent-left.self-inside.sent c.if-sent-left.self-inside.bytes.items,
      c.if-sent-left.self-inside.bytes.ok.0,
    )))
