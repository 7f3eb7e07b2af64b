use Rattle.std.proofs.Common.{◌≡◌, ◌∙◌, ℕ, ap, sym, subst, map}
use Rattle.qpack_spec.specs.Table.{Table}
use Rattle.qpack_spec.specs.Text.{WhereShorter}
use Rattle.qpack_codec.specs.ChosenSections.{EncodesAlong, EncodesChosen, GivesUpChosen}
use Rattle.qpack_encoding.specs.declared.choosing.Chooser.{Chooser}
use Rattle.qpack_encoding.specs.Risk.{with_limit, limit_for}
use Rattle.qpack_encoding.specs.Wishes.{by_wish}
use Rattle.qpack_encoding.proofs.LimitedSections.{encodes_lifted, gives_up_lifted, lowered_known, limit_written}
use Rattle.qpack_encoding.proofs.encoder.write_section.Goals as goal
use Rattle.qpack_encoding.proofs.encoder.write_section.Goals.{then-may_block, else-may_block}

pub returns-in-Ok-clause-section : goal.returns-in-Ok-clause-section
returns-in-Ok-clause-section g c =
    let lines = map g.H.AsField.line c.args.fields.now in
    let t = c.args.table.now.table in
    let v = c.write_section-written.new.table.table in
    let before = c.args.section.now.items in
    let after = c.write_section-written.new.section.items in
    let written = c.args.unsent.now.bytes in
    let more = c.write_section-written.new.unsent.bytes in
    let n : c.if-may_block.limit_blocked ≡ limit_for c.args.may_block = elim c.if-may_block.branch [
      | then-may_block w ↦ w.limit_blocked-is ∙ ap limit_for (sym w.if-may_block.true)
      | else-may_block w ↦ w.limit_blocked-is ∙ ap limit_for (sym w.if-may_block.false)
    ] in
    let table : c.limit_blocked.new.table ≡ with_limit (limit_for c.args.may_block) t =
    c.limit_blocked.ensures ∙ ap (λ (m : ℕ). with_limit m t) n in
    subst (λ (x : Table). EncodesChosen WhereShorter c.args.stream lines t x before after written more c.in-Ok.required)
    (sym c.limit_blocked-2.ensures)
    (encodes_lifted c.args.may_block c.args.stream lines t v before after written more c.in-Ok.required c.requires
    (subst (λ (x : Table). EncodesChosen WhereShorter c.args.stream lines x v before after written more c.in-Ok.required) table
    c.in-Ok.ensures.ok.section))

pub returns-in-Ok-clause-known : goal.returns-in-Ok-clause-known
returns-in-Ok-clause-known g c none =
    let lines = map g.H.AsField.line c.args.fields.now in
    let t = c.args.table.now.table in
    let v = c.write_section-written.new.table.table in
    let before = c.args.section.now.items in
    let after = c.write_section-written.new.section.items in
    let written = c.args.unsent.now.bytes in
    let more = c.write_section-written.new.unsent.bytes in
    let n : c.if-may_block.limit_blocked ≡ limit_for c.args.may_block = elim c.if-may_block.branch [
      | then-may_block w ↦ w.limit_blocked-is ∙ ap limit_for (sym w.if-may_block.true)
      | else-may_block w ↦ w.limit_blocked-is ∙ ap limit_for (sym w.if-may_block.false)
    ] in
    let table : c.limit_blocked.new.table ≡ with_limit (limit_for c.args.may_block) t =
    c.limit_blocked.ensures ∙ ap (λ (m : ℕ). with_limit m t) n in
    lowered_known c.args.may_block c.args.stream lines t v before after written more c.in-Ok.required none
    (subst (λ (x : Table). EncodesChosen WhereShorter c.args.stream lines x v before after written more c.in-Ok.required) table
    c.in-Ok.ensures.ok.section)

pub returns-in-Ok-clause-wishes : goal.returns-in-Ok-clause-wishes
returns-in-Ok-clause-wishes g c =
    let lines = map g.H.AsField.line c.args.fields.now in
    let wishes = map g.H.AsField.wish c.args.fields.now in
    let t = c.args.table.now.table in
    let v = c.write_section-written.new.table.table in
    let before = c.args.section.now.items in
    let after = c.write_section-written.new.section.items in
    let written = c.args.unsent.now.bytes in
    let more = c.write_section-written.new.unsent.bytes in
    let n : c.if-may_block.limit_blocked ≡ limit_for c.args.may_block = elim c.if-may_block.branch [
      | then-may_block w ↦ w.limit_blocked-is ∙ ap limit_for (sym w.if-may_block.true)
      | else-may_block w ↦ w.limit_blocked-is ∙ ap limit_for (sym w.if-may_block.false)
    ] in
    let table : c.limit_blocked.new.table ≡ with_limit (limit_for c.args.may_block) t =
    c.limit_blocked.ensures ∙ ap (λ (m : ℕ). with_limit m t) n in
    let k : EncodesAlong WhereShorter (by_wish Chooser) c.args.stream lines wishes (with_limit (limit_for c.args.may_block) t) v before
    after written more c.in-Ok.required =
    subst (λ (x : Table). EncodesAlong WhereShorter (by_wish Chooser) c.args.stream lines wishes x v before after written more
    c.in-Ok.required) table c.in-Ok.ensures.ok in
    subst (λ (x : Table). EncodesAlong WhereShorter (by_wish Chooser) c.args.stream lines wishes (with_limit (limit_for c.args.may_block) t)
    x before after written more c.in-Ok.required)
    (sym (ap (λ (x : Table). with_limit (limit_for c.args.may_block) x) c.limit_blocked-2.ensures
    ∙ limit_written c.args.stream lines t v before after written more c.in-Ok.required (limit_for c.args.may_block)
    k.section)) k

pub returns-in-Err-clause-err : goal.returns-in-Err-clause-err
returns-in-Err-clause-err g c =
    let lines = map g.H.AsField.line c.args.fields.now in
    let t = c.args.table.now.table in
    let v = c.write_section-written.new.table.table in
    let written = c.args.unsent.now.bytes in
    let more = c.write_section-written.new.unsent.bytes in
    let n : c.if-may_block.limit_blocked ≡ limit_for c.args.may_block = elim c.if-may_block.branch [
      | then-may_block w ↦ w.limit_blocked-is ∙ ap limit_for (sym w.if-may_block.true)
      | else-may_block w ↦ w.limit_blocked-is ∙ ap limit_for (sym w.if-may_block.false)
    ] in
    let table : c.limit_blocked.new.table ≡ with_limit (limit_for c.args.may_block) t =
    c.limit_blocked.ensures ∙ ap (λ (m : ℕ). with_limit m t) n in
    subst (λ (x : Table). GivesUpChosen WhereShorter lines t x written more) (sym c.limit_blocked-2.ensures)
    (gives_up_lifted c.args.may_block lines t v written more c.requires
    (subst (λ (x : Table). GivesUpChosen WhereShorter lines x v written more) table c.in-Err.ensures.err))
