use Rattle.std.proofs.Common.{◌≡◌, ◌∙◌, ◌+◌, ◌++◌, ℕ, true, false, List, Option, None, Some, Ok}
use Rattle.std.proofs.Common.{ap, sym, subst, refl, arith, length}
use Rattle.std.specs.Prelude.{nat_le}
use Rattle.qpack_spec.specs.Field.{FieldLine}
use Rattle.qpack_spec.specs.Table.{window}
use Rattle.std.proofs.lemmas.Bool.{leb-true}
use Rattle.qpack_decoding.specs.Pieces.{Next, NeedsMemoryForNext}
use Rattle.qpack_decoding.specs.Pieces.{KeptReader, Answers, Stays, most_read, next_behind, next_prefix, next_line, lines_under}
use Rattle.qpack_decoding.specs.declared.section.SectionPrefix.{SectionPrefix}
use Rattle.qpack_decoding.specs.declared.section.reader.Progress.TheVariants.{Blocked}
use Rattle.qpack_decoding.proofs.PieceParts.{next_within, next_stays, next_lines, reads_on, reads_none}
use Rattle.qpack_decoding.proofs.SectionParts.{count_is}
use Rattle.qpack_decoding.proofs.section.reader.SectionReader.read.Goals as goal

pub returns-then-not-may_take-clause-reads : goal.returns-then-not-may_take-clause-reads
returns-then-not-may_take-clause-reads g c =
    let r = c.args.self.now.section in
    let live : r.failure ≡ None = sym (ap (λ (v : KeptReader). v.section.failure) c.self.view_is) ∙ c.in_default.is in
    let long : nat_le (r.offset + length r.pending + length c.args.buf.now.rest) (most_read c.args.limit) ≡ false =
    ap (λ (n : ℕ). nat_le (r.offset + length r.pending + n) (most_read c.args.limit)) (sym c.remaining.ensures)
    ∙ sym c.may_take.ensures ∙ c.if-not-may_take.true in
    reads_none (window c.args.table.now) c.args.limit c.args.last r c.refuse.new.self.section c.args.buf.now.rest
    c.args.fields.now.fields c.refuse.result live long c.refuse.ensures.is c.refuse.ensures.kept c.requires

pub returns-in_default-prefix-clause-reads : goal.returns-in_default-prefix-clause-reads
returns-in_default-prefix-clause-reads g c =
    let r = c.args.self.now.section in
    let live : r.failure ≡ None = sym (ap (λ (v : KeptReader). v.section.failure) c.self.view_is) ∙ c.in_default.is in
    let none : r.prefix ≡ None = sym (ap (λ (v : KeptReader). v.section.prefix) c.self.view_is) ∙ c.in_default-prefix.is in
    let fits : nat_le (r.offset + length r.pending + length c.args.buf.now.rest) (most_read c.args.limit) ≡ true =
    ap (λ (n : ℕ). nat_le (r.offset + length r.pending + n) (most_read c.args.limit)) (sym c.remaining.ensures)
    ∙ sym c.may_take.ensures ∙ c.if-not-may_take.false in
    let w = window c.args.table.now in
    let all = r.pending ++ c.args.buf.now.rest in
    reads_on w c.args.limit c.args.last r c.read_prefix.new.self.section c.args.buf.now.rest c.read_prefix.new.buf.rest
    c.args.fields.now.fields c.read_prefix.result (next_prefix w c.args.last all) live
    (next_within w c.args.limit c.args.last r c.args.buf.now.rest fits
    ∙ ap (λ (p : Option SectionPrefix). next_behind w c.args.limit c.args.last r p all) none)
    (subst (λ (fs : List FieldLine). Answers (next_prefix w c.args.last all) r c.read_prefix.new.self.section all
    c.args.buf.now.rest c.read_prefix.new.buf.rest fs c.read_prefix.result) (sym c.requires)
    c.read_prefix.ensures.reads)

pub returns-then-prefix-total_inserted-clause-reads : goal.returns-then-prefix-total_inserted-clause-reads
returns-then-prefix-total_inserted-clause-reads g c =
    let r = c.args.self.now.section in
    let p = c.in-Some-prefix.prefix in
    let live : r.failure ≡ None = sym (ap (λ (v : KeptReader). v.section.failure) c.self.view_is) ∙ c.in_default.is in
    let known : r.prefix ≡ Some p = sym (ap (λ (v : KeptReader). v.section.prefix) c.self.view_is) ∙ c.in-Some-prefix.is in
    let fits : nat_le (r.offset + length r.pending + length c.args.buf.now.rest) (most_read c.args.limit) ≡ true =
    ap (λ (n : ℕ). nat_le (r.offset + length r.pending + n) (most_read c.args.limit)) (sym c.remaining.ensures)
    ∙ sym c.may_take.ensures ∙ c.if-not-may_take.false in
    let w = window c.args.table.now in
    let all = r.pending ++ c.args.buf.now.rest in
    reads_on w c.args.limit c.args.last r r c.args.buf.now.rest c.args.buf.now.rest c.args.fields.now.fields
    (Ok (Blocked p.required)) (Stays p.required) live
    (next_within w c.args.limit c.args.last r c.args.buf.now.rest fits
    ∙ ap (λ (o : Option SectionPrefix). next_behind w c.args.limit c.args.last r o all) known
    ∙ next_stays w c.args.limit c.args.last r p all
    (omega (arith, c.if-prefix-total_inserted.true, c.total_inserted.ensures, count_is c.args.table.now)))
    (refl, refl, refl, c.requires)

pub returns-clause-reads : goal.returns-clause-reads
returns-clause-reads g c =
    let r = c.args.self.now.section in
    let p = c.in-Some-prefix.prefix in
    let live : r.failure ≡ None = sym (ap (λ (v : KeptReader). v.section.failure) c.self.view_is) ∙ c.in_default.is in
    let known : r.prefix ≡ Some p = sym (ap (λ (v : KeptReader). v.section.prefix) c.self.view_is) ∙ c.in-Some-prefix.is in
    let fits : nat_le (r.offset + length r.pending + length c.args.buf.now.rest) (most_read c.args.limit) ≡ true =
    ap (λ (n : ℕ). nat_le (r.offset + length r.pending + n) (most_read c.args.limit)) (sym c.remaining.ensures)
    ∙ sym c.may_take.ensures ∙ c.if-not-may_take.false in
    let w = window c.args.table.now in
    let all = r.pending ++ c.args.buf.now.rest in
    reads_on w c.args.limit c.args.last r c.read_line.new.self.section c.args.buf.now.rest c.read_line.new.buf.rest
    c.read_line.new.fields.fields c.read_line.result (next_line (lines_under w c.args.limit p 0) c.args.last r all) live
    (next_within w c.args.limit c.args.last r c.args.buf.now.rest fits
    ∙ ap (λ (o : Option SectionPrefix). next_behind w c.args.limit c.args.last r o all) known
    ∙ next_lines w c.args.limit c.args.last r p all
    (omega (arith, c.if-prefix-total_inserted.false, c.total_inserted.ensures, count_is c.args.table.now)))
    c.read_line.ensures.reads

pub returns-in_default-prefix-clause-memory : goal.returns-in_default-prefix-clause-memory
returns-in_default-prefix-clause-memory g c e =
    let r = c.args.self.now in
    let rest = c.args.buf.now.rest in
    let none : r.section.prefix ≡ None =
    sym (ap (λ (v : KeptReader). v.section.prefix) c.self.view_is) ∙ c.in_default-prefix.is in
    let fits : nat_le (r.section.offset + length r.section.pending + length rest) (most_read c.args.limit) ≡ true =
    ap (λ (n : ℕ). nat_le (r.section.offset + length r.section.pending + n) (most_read c.args.limit))
    (sym c.remaining.ensures) ∙ sym c.may_take.ensures ∙ c.if-not-may_take.false in
    let w = window c.args.table.now in
    let all = r.section.pending ++ rest in
    record {
      live = sym (ap (λ (v : KeptReader). v.section.failure) c.self.view_is) ∙ c.in_default.is;
      within = leb-true _ _ fits;
      next = subst (λ (n : Next). NeedsMemoryForNext n c.args.limit r rest c.args.fields.now)
          (sym (next_within w c.args.limit c.args.last r.section rest fits
          ∙ ap (λ (p : Option SectionPrefix). next_behind w c.args.limit c.args.last r.section p all) none))
          (c.read_prefix.ensures.memory e c.args.fields.now);
    }

pub returns-clause-memory : goal.returns-clause-memory
returns-clause-memory g c e =
    let r = c.args.self.now in
    let rest = c.args.buf.now.rest in
    let p = c.in-Some-prefix.prefix in
    let known : r.section.prefix ≡ Some p =
    sym (ap (λ (v : KeptReader). v.section.prefix) c.self.view_is) ∙ c.in-Some-prefix.is in
    let fits : nat_le (r.section.offset + length r.section.pending + length rest) (most_read c.args.limit) ≡ true =
    ap (λ (n : ℕ). nat_le (r.section.offset + length r.section.pending + n) (most_read c.args.limit))
    (sym c.remaining.ensures) ∙ sym c.may_take.ensures ∙ c.if-not-may_take.false in
    let w = window c.args.table.now in
    let all = r.section.pending ++ rest in
    record {
      live = sym (ap (λ (v : KeptReader). v.section.failure) c.self.view_is) ∙ c.in_default.is;
      within = leb-true _ _ fits;
      next = subst (λ (n : Next). NeedsMemoryForNext n c.args.limit r rest c.args.fields.now)
          (sym (next_within w c.args.limit c.args.last r.section rest fits
          ∙ ap (λ (o : Option SectionPrefix). next_behind w c.args.limit c.args.last r.section o all) known
          ∙ next_lines w c.args.limit c.args.last r.section p all
          (omega (arith, c.if-prefix-total_inserted.false, c.total_inserted.ensures, count_is c.args.table.now))))
          (c.read_line.ensures.memory e);
    }
