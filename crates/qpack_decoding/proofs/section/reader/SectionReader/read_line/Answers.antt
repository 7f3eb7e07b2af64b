use Rattle.std.proofs.Common.{◌≡◌, ◌∙◌, ◌++◌, ◌+◌, ◌-◌, ℕ, List, Some, Ok, Err, ap, subst, arith, refl, length, drop, rules}
use Rattle.std.proofs.Common.{◌<◌, sym, length-append, vec_capacity}
use Rattle.qpack_decoding.specs.Lines.{under}
use Rattle.qpack_decoding.specs.Pieces.{NeedsMemoryForNext, NeedsMemoryToFind}
use Rattle.qpack_decoding.specs.Pieces.{ReaderView, KeptReader, Answers, next_line, part_behind, FindsLine, kept_failure}
use Rattle.qpack_decoding.specs.Sections.{error_at}
use Rattle.qpack_decoding.specs.declared.section.reader.Progress.TheVariants.{Field}
use Rattle.qpack_decoding.specs.declared.section.LineError.TheVariants.{Memory as OutOfMemory}
use Rattle.qpack_decoding.specs.declared.section.SectionError.TheVariants.{Memory}
use Rattle.qpack_decoding.proofs.PieceMemory.{line_needs, memory_at}
use Rattle.qpack_decoding.proofs.PieceParts.{placed_on, no_line_waits, answers_gives, answers_refused}
use Rattle.qpack_decoding.proofs.section.reader.SectionReader.read_line.Goals as goal
use Rattle.qpack_decoding.proofs.section.reader.SectionReader.read_line.Goals.{else-waited-eq0-via-then-waited-eq0+else-remaining-eq0}
use Rattle.qpack_decoding.proofs.section.reader.SectionReader.read_line.Goals.{else-waited-eq0-via-else-waited-eq0}

pub invariant_of-self : goal.invariant_of-self
invariant_of-self g c =
    let line = ap (λ (v : KeptReader). part_behind v.section.prefix) c.self.view_is ∙ c.requires.prefix in
    let found = rw c.in-Ok-Some.field-0-is at c.in-Ok-Some.ensures.finds in
    record {
      reading = record {
        cut = no_line_waits c.self.inside.prefix c.find_line.new.pending.items line found.4;
        placed = placed_on c.self.inside.prefix _ _ c.in-Ok-Some.taken.len line c.self.invariant.reading.placed refl refl
            (omega (arith, found.6, found.7));
      };
      little = λ empty. c.in-Ok-Some.ensures.little empty;
      told = c.self.invariant.told;
    }

pub returns-in-Ok-Some-clause-reads : goal.returns-in-Ok-Some-clause-reads
returns-in-Ok-Some-clause-reads g c =
    let old : ReaderView = record {
      stream = c.self.inside.stream;
      pending = c.self.inside.pending.items;
      prefix = c.self.inside.prefix;
      lines = c.self.inside.lines;
      offset = c.self.inside.offset;
      sum = c.self.inside.sum;
      failure = c.self.inside.failure;
    } in
    let new : ReaderView = record {
      stream = c.self.inside.stream;
      pending = c.find_line.new.pending.items;
      prefix = c.self.inside.prefix;
      lines = c.self.inside.lines + 1;
      offset = c.self.inside.offset + c.in-Ok-Some.taken.len;
      sum = c.in-Ok-Some.taken.sum;
      failure = c.self.inside.failure;
    } in
    let u = under c.args.lines.now 0 in
    let rest = c.args.buf.now.rest in
    let fields = c.find_line.new.fields.fields in
    let waited : c.len-waited.result ≡ length c.self.inside.pending.items = search rules in
    let found : FindsLine u old.sum c.args.last old.pending c.find_line.new.pending.items rest fields
    (Ok (Some c.in-Ok-Some.taken)) =
    subst (λ (x : List ℕ). FindsLine u old.sum c.args.last old.pending c.find_line.new.pending.items x fields
    (Ok (Some c.in-Ok-Some.taken))) c.chunk.ensures (rw c.in-Ok-Some.field-0-is at c.in-Ok-Some.ensures.finds) in
    subst (λ (o : ReaderView). Answers (next_line u c.args.last o (o.pending ++ rest)) o new (o.pending ++ rest) rest
    c.advance.new.self.rest fields (Ok Field)) (ap (λ (v : KeptReader). v.section) c.self.view_is)
    (answers_gives u c.args.last old new c.find_line.new.pending.items rest c.advance.new.self.rest fields
    c.in-Ok-Some.taken found
    (c.advance.ensures.rest ∙ ap (λ (n : ℕ). drop (c.in-Ok-Some.taken.len - n) rest) waited)
    (ap (λ (l : List ℕ). let v : ReaderView = record new { pending = l } in v) found.4))

pub returns-in-Err-clause-reads : goal.returns-in-Err-clause-reads
returns-in-Err-clause-reads g c =
    let old : ReaderView = record {
      stream = c.self.inside.stream;
      pending = c.self.inside.pending.items;
      prefix = c.self.inside.prefix;
      lines = c.self.inside.lines;
      offset = c.self.inside.offset;
      sum = c.self.inside.sum;
      failure = c.self.inside.failure;
    } in
    let u = under c.args.lines.now 0 in
    let rest = c.args.buf.now.rest in
    let fields = c.find_line.new.fields.fields in
    let number = c.self.inside.lines + 1 in
    let waited : c.len-waited.result ≡ length c.self.inside.pending.items = search rules in
    let some : 0 < length c.self.inside.pending.items + length rest = elim c.else-waited-eq0.branch [
      | else-waited-eq0-via-then-waited-eq0+else-remaining-eq0 w ↦
          omega (arith, w.if-remaining-eq0.false, w.remaining.ensures)
      | else-waited-eq0-via-else-waited-eq0 w ↦ omega (arith, w.if-waited-eq0.false, waited)
    ] in
    let lines = ap (λ (v : KeptReader). v.section.lines) c.refuse.view_is in
    let offset = ap (λ (v : KeptReader). v.section.offset) c.refuse.view_is in
    let at : c.at_line.result ≡ error_at number c.self.inside.offset c.in-Err.error = c.at_line.ensures
    ∙ ap (λ (n : ℕ). error_at (n + 1) c.refuse.inside.offset c.in-Err.error) lines
    ∙ ap (λ (n : ℕ). error_at number n c.in-Err.error) offset in
    let found : FindsLine u old.sum c.args.last old.pending c.find_line.new.pending.items rest fields (Err c.in-Err.error) =
    subst (λ (x : List ℕ). FindsLine u old.sum c.args.last old.pending c.find_line.new.pending.items x fields
    (Err c.in-Err.error)) c.chunk.ensures c.in-Err.ensures.finds in
    rw (c.refuse-in-Err.ensures.is, at)
    (subst (λ (o : ReaderView). Answers (next_line u c.args.last o (o.pending ++ rest)) o c.refuse-in-Err.new.self.section
    (o.pending ++ rest) rest rest fields (Err (error_at number c.self.inside.offset c.in-Err.error))) (ap (λ (v : KeptReader). v.section) c.self.view_is)
    (answers_refused u c.args.last old c.refuse-in-Err.new.self.section c.find_line.new.pending.items rest rest fields number
    c.in-Err.error found some refl (omega arith)
    (c.refuse-in-Err.ensures.kept
    ∙ ap (λ (l : List ℕ). kept_failure c.at_line.result (let v : ReaderView = record old { pending = l } in v)) found.1
    ∙ ap (λ e. kept_failure e old) at)))

pub returns-in-Err-clause-memory : goal.returns-in-Err-clause-memory
returns-in-Err-clause-memory g c e =
    let kept : KeptReader = record {
      section = record {
        stream = c.self.inside.stream;
        pending = c.self.inside.pending.items;
        prefix = c.self.inside.prefix;
        lines = c.self.inside.lines;
        offset = c.self.inside.offset;
        sum = c.self.inside.sum;
        failure = c.self.inside.failure;
      };
      room = vec_capacity c.self.inside.pending;
    } in
    let u = under c.args.lines.now 0 in
    let limit = c.args.lines.now.limit in
    let rest = c.args.buf.now.rest in
    let waited : c.len-waited.result ≡ length c.self.inside.pending.items = search rules in
    let some : 0 < length c.self.inside.pending.items + length rest = elim c.else-waited-eq0.branch [
      | else-waited-eq0-via-then-waited-eq0+else-remaining-eq0 w ↦
          omega (arith, w.if-remaining-eq0.false, w.remaining.ensures)
      | else-waited-eq0-via-else-waited-eq0 w ↦ omega (arith, w.if-waited-eq0.false, waited)
    ] in
    let is = c.refuse-in-Err.ensures.is in
    let told : c.at_line.result ≡ Memory = cc in
    let memory : c.in-Err.error ≡ OutOfMemory = memory_at _ _ c.in-Err.error (sym c.at_line.ensures ∙ told) in
    subst (λ (o : KeptReader). NeedsMemoryForNext (next_line u c.args.last o.section (o.section.pending ++ rest)) limit o
    rest c.args.fields.now) c.self.view_is
    (line_needs u c.args.last limit kept rest c.args.fields.now
    (ap (λ (v : KeptReader). part_behind v.section.prefix) c.self.view_is ∙ c.requires.prefix)
    (omega (arith, some, length-append c.self.inside.pending.items rest))
    (subst (λ (x : List ℕ). NeedsMemoryToFind c.args.last limit (vec_capacity c.self.inside.pending)
    c.self.inside.pending.items x c.args.fields.now) c.chunk.ensures (c.in-Err.ensures.memory (rw memory refl))))
