use Rattle.std.proofs.Common.{◌≡◌, ◌∙◌, ◌++◌, ◌-◌, ℕ, List, [], Some, Ok, ap, subst, arith, refl, length, drop, rules}
use Rattle.qpack_spec.specs.Table.{window}
use Rattle.qpack_decoding.specs.Pieces.{ReaderView, KeptReader, Answers, next_prefix, opened, FindsPrefix}
use Rattle.qpack_decoding.specs.declared.section.reader.Progress.TheVariants.{Prefix}
use Rattle.qpack_decoding.proofs.PieceParts.{none_placed, no_line_waits, answers_opens}
use Rattle.qpack_decoding.proofs.section.reader.SectionReader.read_prefix.Goals as goal

pub invariant_of-self : goal.invariant_of-self
invariant_of-self g c =
    let found = rw c.in-Ok-Some.field-0-is at c.in-Ok-Some.ensures.finds in
    let none = none_placed c.self.inside.prefix _ (ap (λ (v : KeptReader). v.section.prefix) c.self.view_is ∙ c.requires.none)
    c.self.invariant.reading.placed in
    record {
      reading = record {
        cut = no_line_waits (Some c.in-Ok-Some.prefix) c.find_prefix.new.pending.items refl found.1;
        placed = omega (arith, none);
      };
      little = λ empty. c.in-Ok-Some.ensures.little empty;
      told = c.self.invariant.told;
    }

pub returns-in-Ok-Some-clause-reads : goal.returns-in-Ok-Some-clause-reads
returns-in-Ok-Some-clause-reads g c =
    let old : ReaderView = record {
      stream = c.self.inside.stream;
      pending = c.self.inside.pending.items;
      prefix = c.self.inside.prefix;
      lines = c.self.inside.lines;
      offset = c.self.inside.offset;
      sum = c.self.inside.sum;
      failure = c.self.inside.failure;
    } in
    let new : ReaderView = record {
      stream = c.self.inside.stream;
      pending = c.find_prefix.new.pending.items;
      prefix = Some c.in-Ok-Some.prefix;
      lines = c.self.inside.lines;
      offset = c.in-Ok-Some.prefix.length;
      sum = c.self.inside.sum;
      failure = c.self.inside.failure;
    } in
    let rest = c.args.buf.now.rest in
    let waited : c.len-waited.result ≡ length c.self.inside.pending.items = search rules in
    let found : FindsPrefix (window c.args.table.now) c.args.last old.pending c.find_prefix.new.pending.items rest
    (Ok (Some c.in-Ok-Some.prefix)) =
    subst (λ (x : List ℕ). FindsPrefix (window c.args.table.now) c.args.last old.pending
    c.find_prefix.new.pending.items x (Ok (Some c.in-Ok-Some.prefix))) c.chunk.ensures
    (rw c.in-Ok-Some.field-0-is at c.in-Ok-Some.ensures.finds) in
    subst (λ (o : ReaderView). Answers (next_prefix (window c.args.table.now) c.args.last (o.pending ++ rest)) o new
    (o.pending ++ rest) rest c.advance.new.self.rest [] (Ok (Prefix c.in-Ok-Some.prefix.required))) (ap (λ (v : KeptReader). v.section) c.self.view_is)
    (answers_opens (window c.args.table.now) c.args.last old new c.find_prefix.new.pending.items rest
    c.advance.new.self.rest c.in-Ok-Some.prefix found
    (c.advance.ensures.rest ∙ ap (λ (n : ℕ). drop (c.in-Ok-Some.prefix.length - n) rest) waited)
    (ap (λ (l : List ℕ). let v : ReaderView = record (opened c.in-Ok-Some.prefix old) { pending = l } in v) found.1))
