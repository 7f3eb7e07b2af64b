use Rattle.std.proofs.Common.{◌≡◌, None, Some, inl, refl, sym, ap, ◌∙◌}
use Rattle.std.proofs.lemmas.Result.{err_from_is_err_and}
use Rattle.qpack_spec.specs.Chosen.{alone_chosen}
use Rattle.qpack_base.specs.HeaderFields.{line_of}
use Rattle.qpack_base.specs.declared.static_.StaticMatch.{StaticMatch}
use Rattle.qpack_codec.specs.Choices.{chosen_of}
use Rattle.qpack_codec.proofs.ChosenFields.{asked_marked, asked_new, not_asked}
use Rattle.qpack_codec.proofs.ChosenLines.{adds_marked, static_chosen}
use Rattle.qpack_spec.specs.StaticTable.{static_index}
use Rattle.qpack_codec.proofs.StaticMatches.{field_is, name_alone, no_match}
use Rattle.qpack_codec.proofs.encoder.chosen_fields.append_line.Goals as goal
use Rattle.qpack_codec.proofs.encoder.chosen_fields.append_line.Goals.{in-Some-Name, in-None}

pub returns-in_err-append_never_indexed-clause-err : goal.returns-in_err-append_never_indexed-clause-err
returns-in_err-append_never_indexed-clause-err g c =
    let p = err_from_is_err_and c.from_residual.result c.from_residual.ensures.1 in
    let chosen = chosen_of g.C.Chooses.naming c.args.block.now.table.now (line_of c.args.field.now).field c.choose-choice.result in
    rw p.1 (record {
      choice = chosen;
      after = c.choose-choice.new.self;
      chose = asked_marked g.C.Chooses.chooses c.args.chooser.now c.choose-choice.new.self c.args.block.now.base
          c.args.block.now.table.now (line_of c.args.field.now) c.args.wish chosen c.if-field.true
          c.choose-choice.ensures;
      stops = inl (c.in_err-append_never_indexed.ensures.err, refl);
    })

pub returns-then-field-clause-ok : goal.returns-then-field-clause-ok
returns-then-field-clause-ok g c =
    let chosen = chosen_of g.C.Chooses.naming c.args.block.now.table.now (line_of c.args.field.now).field c.choose-choice.result in
    record {
      choice = chosen;
      chose = asked_marked g.C.Chooses.chooses c.args.chooser.now c.choose-choice.new.self c.args.block.now.base
          c.args.block.now.table.now
          (line_of c.args.field.now) c.args.wish chosen c.if-field.true c.choose-choice.ensures;
      adds = adds_marked c.args.block.now.table.now c.append_never_indexed.new.block.table.now c.args.block.now.base
          (line_of c.args.field.now) chosen c.args.lines.now.items c.append_never_indexed.new.lines.items
          c.args.encoder_buf.now.items c.if-field.true c.in_ok-append_never_indexed.ensures.ok;
    }

pub returns-in_err-encode-in-Some-Field-clause-err : goal.returns-in_err-encode-in-Some-Field-clause-err
returns-in_err-encode-in-Some-Field-clause-err g c =
    let p = err_from_is_err_and c.from_residual-in_err-encode-in-Some-Field.result
    c.from_residual-in_err-encode-in-Some-Field.ensures.1 in
    let known = field_is _ _ _ (sym c.lookup.ensures ∙ c.in-Some-Field.is
    ∙ ap (λ (m : StaticMatch). Some m) c.in-Some-Field.field-0-is) in
    rw p.1 (record {
      choice = alone_chosen;
      after = c.args.chooser.now;
      chose = not_asked g.C.Chooses.chooses c.args.chooser.now c.args.block.now.base c.args.block.now.table.now
          (line_of c.args.field.now) c.args.wish c.in-Some-Field.index c.if-field.false known;
      stops = inl (refl, refl);
    })

pub returns-in-Some-Field-clause-ok : goal.returns-in-Some-Field-clause-ok
returns-in-Some-Field-clause-ok g c =
    let known = field_is _ _ _ (sym c.lookup.ensures ∙ c.in-Some-Field.is
    ∙ ap (λ (m : StaticMatch). Some m) c.in-Some-Field.field-0-is) in
    record {
      choice = alone_chosen;
      chose = not_asked g.C.Chooses.chooses c.args.chooser.now c.args.block.now.base c.args.block.now.table.now (line_of c.args.field.now)
          c.args.wish c.in-Some-Field.index c.if-field.false known;
      adds = static_chosen c.args.block.now.table.now c.args.block.now.base (line_of c.args.field.now)
          c.in-Some-Field.index c.args.lines.now.items c.encode.new.buf.items c.args.encoder_buf.now.items
          c.if-field.false known c.in_ok-encode-in-Some-Field.ensures.writes.ok;
    }

pub returns-in_err-append_chosen-clause-err : goal.returns-in_err-append_chosen-clause-err
returns-in_err-append_chosen-clause-err g c =
    let p = err_from_is_err_and c.from_residual-in_err-append_chosen.result
    c.from_residual-in_err-append_chosen.ensures.1 in
    let chosen = chosen_of g.C.Chooses.naming c.args.block.now.table.now (line_of c.args.field.now).field c.choose-choice-2.result in
    let none : static_index (line_of c.args.field.now).field ≡ None =
    elim c.match-lookup.branch [
      | in-Some-Name w ↦
          name_alone _ _ _
          (sym c.lookup.ensures ∙ w.in-Some-Name.is ∙ ap (λ (m : StaticMatch). Some m) w.in-Some-Name.field-0-is)
      | in-None w ↦ no_match _ _ (sym c.lookup.ensures ∙ w.in-None.is)
    ] in
    rw p.1 (record {
      choice = chosen;
      after = c.choose-choice-2.new.self;
      chose = asked_new g.C.Chooses.chooses c.args.chooser.now c.choose-choice-2.new.self c.args.block.now.base
          c.args.block.now.table.now (line_of c.args.field.now) c.args.wish chosen none c.choose-choice-2.ensures;
      stops = rw (← c.naming-naming.ensures) c.in_err-append_chosen.ensures.err;
    })

pub returns-clause-ok : goal.returns-clause-ok
returns-clause-ok g c =
    let chosen = chosen_of g.C.Chooses.naming c.args.block.now.table.now (line_of c.args.field.now).field c.choose-choice-2.result in
    let none : static_index (line_of c.args.field.now).field ≡ None =
    elim c.match-lookup.branch [
      | in-Some-Name w ↦
          name_alone _ _ _
          (sym c.lookup.ensures ∙ w.in-Some-Name.is ∙ ap (λ (m : StaticMatch). Some m) w.in-Some-Name.field-0-is)
      | in-None w ↦ no_match _ _ (sym c.lookup.ensures ∙ w.in-None.is)
    ] in
    record {
      choice = chosen;
      chose = asked_new g.C.Chooses.chooses c.args.chooser.now c.choose-choice-2.new.self c.args.block.now.base
          c.args.block.now.table.now
          (line_of c.args.field.now) c.args.wish chosen none c.choose-choice-2.ensures;
      adds = rw (← c.naming-naming.ensures) c.in_ok-append_chosen.ensures.ok;
    }
