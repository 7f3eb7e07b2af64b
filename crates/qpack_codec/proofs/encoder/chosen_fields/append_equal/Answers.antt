use Rattle.std.proofs.Common.{Some, refl, sym, ap, ◌∙◌}
use Rattle.std.proofs.lemmas.Result.{err_from_is_err_and}
use Rattle.qpack_spec.specs.Field.{is_field}
use Rattle.qpack_spec.specs.Line.{IndexedDynamic, IndexedPostBase}
use Rattle.qpack_base.specs.HeaderFields.{line_of}
use Rattle.qpack_table.specs.Handles.{lookup_of}
use Rattle.qpack_table.specs.declared.dynamic.encoder.DynamicLookupResult.{DynamicLookupResult}
use Rattle.qpack_codec.proofs.ChosenLines.{adds_equal, adds_equal_alone, adds_no_equal, equal_line, found_keeps}
use Rattle.qpack_codec.proofs.ChosenLines.{passes_live, sought_still}
use Rattle.qpack_codec.proofs.encoder.chosen_fields.append_equal.Goals as goal

pub returns-then-not-is_equal-clause-ok : goal.returns-then-not-is_equal-clause-ok
returns-then-not-is_equal-clause-ok g c =
    adds_no_equal c.args.block.now.table.now c.args.block.now.base (line_of c.args.field.now) c.args.entry
    c.args.lines.now.items c.append_alone.new.lines.items (sym c.is_equal.ensures ∙ c.if-not-is_equal.true)
    c.requires.no_static c.in_ok-append_alone.ensures.writes.ok

pub reference-requires-clause-live : goal.reference-requires-clause-live
reference-requires-clause-live g c =
    (passes_live c.args.block.now.table.now (is_field (line_of c.args.field.now).field) c.args.entry
    (sym c.is_equal.ensures ∙ c.if-not-is_equal.false)).above

pub reference-requires-clause-inserted : goal.reference-requires-clause-inserted
reference-requires-clause-inserted g c =
    (passes_live c.args.block.now.table.now (is_field (line_of c.args.field.now).field) c.args.entry
    (sym c.is_equal.ensures ∙ c.if-not-is_equal.false)).within

pub returns-in_err-encode-in-Relative-clause-err : goal.returns-in_err-encode-in-Relative-clause-err
returns-in_err-encode-in-Relative-clause-err g c =
    let p = err_from_is_err_and c.from_residual-in_err-encode-in-Relative.result
    c.from_residual-in_err-encode-in-Relative.ensures.1 in
    rw p.1
    (found_keeps c.args.block.now.table.now c.reference.new.self.table.now c.args.block.now.base (Some c.args.entry)
    (lookup_of c.in-Ok.lookup) c.in-Ok.ensures.found)

pub returns-in_err-encode-in-PostBase-clause-err : goal.returns-in_err-encode-in-PostBase-clause-err
returns-in_err-encode-in-PostBase-clause-err g c =
    let p = err_from_is_err_and c.from_residual-in_err-encode-in-PostBase.result
    c.from_residual-in_err-encode-in-PostBase.ensures.1 in
    rw p.1
    (found_keeps c.args.block.now.table.now c.reference.new.self.table.now c.args.block.now.base (Some c.args.entry)
    (lookup_of c.in-Ok.lookup) c.in-Ok.ensures.found)

pub returns-in_ok-encode-in-Relative-clause-ok : goal.returns-in_ok-encode-in-Relative-clause-ok
returns-in_ok-encode-in-Relative-clause-ok g c =
    let l = line_of c.args.field.now in
    adds_equal c.args.block.now.table.now c.reference.new.self.table.now c.args.block.now.base l c.args.entry
    (lookup_of c.in-Ok.lookup) (IndexedDynamic c.in-Relative.index) c.args.lines.now.items c.encode.new.buf.items
    c.requires.unmarked (sym c.is_equal.ensures ∙ c.if-not-is_equal.false) c.requires.no_static c.in-Ok.ensures.found
    (ap (λ (x : DynamicLookupResult). equal_line l.field (lookup_of x)) c.in-Relative.is) refl
    c.in_ok-encode-in-Relative.ensures.writes.ok

pub returns-in_ok-encode-in-Relative-clause-sought : goal.returns-in_ok-encode-in-Relative-clause-sought
returns-in_ok-encode-in-Relative-clause-sought g c =
    sought_still c.args.block.now.table.now c.reference.new.self.table.now c.args.block.now.base (Some c.args.entry)
    (lookup_of c.in-Ok.lookup) (line_of c.args.field.now).field c.args.sought.now c.in-Ok.ensures.found
    c.requires.sought

pub returns-in_ok-encode-in-PostBase-clause-ok : goal.returns-in_ok-encode-in-PostBase-clause-ok
returns-in_ok-encode-in-PostBase-clause-ok g c =
    let l = line_of c.args.field.now in
    adds_equal c.args.block.now.table.now c.reference.new.self.table.now c.args.block.now.base l c.args.entry
    (lookup_of c.in-Ok.lookup) (IndexedPostBase c.in-PostBase.index) c.args.lines.now.items
    c.encode-in-PostBase.new.buf.items c.requires.unmarked (sym c.is_equal.ensures ∙ c.if-not-is_equal.false)
    c.requires.no_static c.in-Ok.ensures.found
    (ap (λ (x : DynamicLookupResult). equal_line l.field (lookup_of x)) c.in-PostBase.is) refl
    c.in_ok-encode-in-PostBase.ensures.writes.ok

pub returns-in_ok-encode-in-PostBase-clause-sought : goal.returns-in_ok-encode-in-PostBase-clause-sought
returns-in_ok-encode-in-PostBase-clause-sought g c =
    sought_still c.args.block.now.table.now c.reference.new.self.table.now c.args.block.now.base (Some c.args.entry)
    (lookup_of c.in-Ok.lookup) (line_of c.args.field.now).field c.args.sought.now c.in-Ok.ensures.found
    c.requires.sought

pub returns-in_ok-append_alone-in_default-lookup-clause-ok : goal.returns-in_ok-append_alone-in_default-lookup-clause-ok
returns-in_ok-append_alone-in_default-lookup-clause-ok g c =
    adds_equal_alone c.args.block.now.table.now c.reference.new.self.table.now c.args.block.now.base
    (line_of c.args.field.now) c.args.entry c.in-Ok.lookup c.args.lines.now.items
    c.append_alone-in_default-lookup.new.lines.items (sym c.is_equal.ensures ∙ c.if-not-is_equal.false)
    c.requires.no_static c.in-Ok.ensures.found c.in_default-lookup.not-Relative c.in_default-lookup.not-PostBase
    c.in_ok-append_alone-in_default-lookup.ensures.writes.ok
