use Rattle.std.proofs.Common.{◌≡◌, ◌∙◌, List, ℕ, ap, subst, refl, vec_capacity}
use Rattle.std.proofs.lemmas.Result.{err_from_is_err_and}
use Rattle.qpack_decoding.specs.Lines.{under, FailsLine}
use Rattle.qpack_decoding.specs.Pieces.{front_of, line_at}
use Rattle.qpack_spec.specs.Bytes.{Begins}
use Rattle.qpack_wire.specs.Memory.{AsksLine}
use Rattle.qpack_decoding.specs.declared.section.LineError.TheVariants.{Memory as OutOfMemory}
use Rattle.qpack_decoding.proofs.PieceMemory.{line_asks}
use Rattle.qpack_decoding.proofs.PieceParts.{gathers_line_refused, gathers_line_found}
use Rattle.qpack_decoding.proofs.section.reader.gather_line.Goals as goal

pub returns-in_err-sum-clause-finds : goal.returns-in_err-sum-clause-finds
returns-in_err-sum-clause-finds g c =
    let p = err_from_is_err_and c.from_residual-in_err-sum.result c.from_residual-in_err-sum.ensures.1 in
    rw (p.1, p.2)
    (gathers_line_refused (under c.args.lines.now 0) c.args.sum c.args.last c.in_ok-gather.field-0
    c.args.pending.now.items c.gather.new.pending.items c.args.bytes.now c.front.result.now c.read_line.new.self.fields
    c.in_err-sum.field-0.0
    (c.front.ensures ∙ ap (λ (x : List ℕ). front_of x c.args.bytes.now) c.deref.ensures.value) c.if-not-branch.false
    c.in_ok-gather.ensures.gathers
    (subst (λ (x : List ℕ). FailsLine c.in_err-sum.field-0.0 (line_at (under c.args.lines.now 0) c.args.sum x))
    c.new-buf.ensures.rest c.in_err-sum.ensures.exact.0) c.in_err-sum.ensures.exact.1)

pub returns-in_err-sum-clause-memory : goal.returns-in_err-sum-clause-memory
returns-in_err-sum-clause-memory g c e =
    let p = err_from_is_err_and c.from_residual-in_err-sum.result c.from_residual-in_err-sum.ensures.1 in
    let given = p.1 in
    let same = p.2 in
    let memory : c.in_err-sum.field-0.0 ≡ OutOfMemory = cc in
    line_asks (under c.args.lines.now 0) c.args.sum c.args.last c.in_ok-gather.field-0 c.args.lines.now.limit
    (vec_capacity c.args.pending.now) c.args.pending.now.items c.gather.new.pending.items c.args.bytes.now
    c.front.result.now c.args.fields.now
    (c.front.ensures ∙ ap (λ (x : List ℕ). front_of x c.args.bytes.now) c.deref.ensures.value) c.if-not-branch.false
    c.in_ok-gather.ensures.gathers
    (subst (λ (x : List ℕ). Begins AsksLine x) c.new-buf.ensures.rest (c.in_err-sum.ensures.memory (rw memory refl)))
    (c.in_err-sum.ensures.lacks (rw memory refl))

pub returns-clause-finds : goal.returns-clause-finds
returns-clause-finds g c =
    gathers_line_found (under c.args.lines.now 0) c.args.sum c.in_ok-sum.sum c.args.last c.in_ok-gather.field-0
    c.args.pending.now.items c.gather.new.pending.items c.drop_all.new.pending.items c.args.bytes.now
    c.front.result.now c.new-buf.result c.read_line.new.buf c.position-len.result c.read_line.new.self.fields
    c.requires.cut
    (c.front.ensures ∙ ap (λ (x : List ℕ). front_of x c.args.bytes.now) c.deref.ensures.value) c.if-not-branch.false
    c.drop_all.ensures.items c.in_ok-gather.ensures.gathers c.new-buf.ensures.rest c.new-buf.ensures.total c.in_ok-sum.ensures.exact
    c.position-len.ensures
