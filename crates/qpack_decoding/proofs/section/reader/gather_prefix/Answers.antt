use Rattle.std.proofs.Common.{◌∙◌, List, ℕ, ap}
use Rattle.std.proofs.lemmas.Result.{err_from_is_err_and}
use Rattle.qpack_spec.specs.Table.{window}
use Rattle.qpack_decoding.specs.Pieces.{front_of}
use Rattle.qpack_decoding.proofs.PieceParts.{gathers_refused, gathers_found}
use Rattle.qpack_decoding.proofs.section.reader.gather_prefix.Goals as goal

pub returns-in_err-prefix-clause-finds : goal.returns-in_err-prefix-clause-finds
returns-in_err-prefix-clause-finds g c =
    let p = err_from_is_err_and c.from_residual-in_err-prefix.result c.from_residual-in_err-prefix.ensures.1 in
    rw (p.1, p.2)
    (gathers_refused (window c.args.table.now) c.args.last c.in_ok-gather.field-0 c.args.pending.now.items
    c.gather.new.pending.items c.args.bytes.now c.front.result.now c.in_err-prefix.field-0.0
    (c.front.ensures ∙ ap (λ (x : List ℕ). front_of x c.args.bytes.now) c.deref.ensures.value) c.if-not-branch.false
    c.in_ok-gather.ensures.gathers c.in_err-prefix.ensures)

pub returns-clause-finds : goal.returns-clause-finds
returns-clause-finds g c =
    gathers_found (window c.args.table.now) c.args.last c.in_ok-gather.field-0 c.args.pending.now.items
    c.gather.new.pending.items c.drop_all.new.pending.items c.args.bytes.now c.front.result.now c.in_ok-prefix.prefix
    c.requires.cut
    (c.front.ensures ∙ ap (λ (x : List ℕ). front_of x c.args.bytes.now) c.deref.ensures.value) c.if-not-branch.false
    c.drop_all.ensures.items c.in_ok-gather.ensures.gathers c.in_ok-prefix.ensures
