use Rattle.std.proofs.Common.{◌≡◌, ◌++◌, ◌∷◌, [], ℕ, List, ap, ◌∙◌, sym}
use Rattle.std.specs.Prelude.{slice_get}
use Rattle.qpk_show.specs.Answers.{under, shown_of, lines_of}
use Rattle.qpk_show.specs.Sections.{shown_line_at}
use Rattle.qpk_show.proofs.Lines.{first_is, none_is, goes_on, goes_bad, goes_end, lines_last}
use Rattle.qpk_show.proofs.Faults.{fails_for}
use Rattle.qpk_show.proofs.section.Under.read_lines.Goals as goal

pub loop-first-preserved : goal.loop-first-preserved
loop-first-preserved c =
    let inv = c.loop-first.invariant in
    let rest = c.loop-first.buf.rest in
    let at = first_is rest c.in-Some.first.now
    (ap (λ (l : List ℕ). slice_get l 0) (sym c.chunk.ensures) ∙ sym c.in-Some.ensures.value) in
    let more : lines_of c.push.new.self.items ≡ lines_of c.loop-first.lines.items ++ shown_of c.in-Ok.line ∷ [] =
    ap lines_of c.in_ok-push-in-Ok.ensures.items ∙ lines_last c.loop-first.lines.items c.in-Ok.line in
    rw more
    (goes_on inv.0 (under c.args.self.now) rest c.in-Some.first.now (lines_of c.loop-first.lines.items) _
    (shown_of c.in-Ok.line) c.read_line.new.buf.rest at.0 at.1 inv.1 inv.2 c.in-Ok.ensures.exact
    c.in-Ok.ensures.shorter)

pub returns-in-Err-Fault : goal.returns-in-Err-Fault
returns-in-Err-Fault c =
    let inv = c.loop-first.invariant in
    let rest = c.loop-first.buf.rest in
    let at = first_is rest c.in-Some.first.now
    (ap (λ (l : List ℕ). slice_get l 0) (sym c.chunk.ensures) ∙ sym c.in-Some.ensures.value) in
    let f = fails_for c.in-Err-Fault.field-0 c.in-Err-Fault.fault
    (shown_line_at (under c.args.self.now) c.in-Some.first.now rest) c.in-Err-Fault.ensures.exact
    c.in-Err-Fault.field-0-is in
    let bad = goes_bad inv.0 (under c.args.self.now) rest c.in-Some.first.now (lines_of c.loop-first.lines.items) _ f.0
    at.0 at.1 inv.1 inv.2 f.2 in
    (bad.0, (f.0, f.1, rw (c.saturating_sub-offset.ensures, c.remaining.ensures) (sym bad.1)))

pub returns : goal.returns
returns c =
    let inv = c.loop-first.invariant in
    let end = goes_end inv.0 (under c.args.self.now) c.loop-first.buf.rest (lines_of c.loop-first.lines.items) _
    (none_is c.loop-first.buf.rest
    (ap (λ (l : List ℕ). slice_get l 0) (sym c.chunk.ensures) ∙ sym c.in_default.ensures.value)) inv.2 in
    (end.0, sym end.1)
