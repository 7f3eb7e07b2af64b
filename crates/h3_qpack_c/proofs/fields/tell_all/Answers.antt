use Rattle.std.proofs.Common.{◌≡◌, ◌<◌, ◌∙◌, sym, ap, arith, length, List, map, take}
use Rattle.std.proofs.lemmas.List.{length-map, length-take-le}
use Rattle.std.specs.Option.{option_map}
use Rattle.qpack_base.specs.HeaderFields.{line_of}
use Rattle.h3_qpack_c.specs.declared.answers.Given.{Given}
use Rattle.h3_qpack_c.specs.Crossing.{written_over, told_of_field}
use Rattle.h3_qpack_c.proofs.Told.{told_next, told_put, some_within}
use Rattle.h3_qpack_c.proofs.fields.tell_all.Goals as goal
use Rattle.h3_qpack_c.proofs.fields.tell_all.Goals.{in-Some, in_default}

pub loop-index-preserved : goal.loop-index-preserved
loop-index-preserved c = elim c.match-get.branch [
  | in-Some w ↦
      let fields = c.args.section.now.fields in
      let i = c.loop-index.index in
      let f = line_of w.in-Some.field in
      let is = sym c.get.ensures ∙ ap (option_map line_of) w.in-Some.is in
      let told = map told_of_field (take i fields) in
      let within : i < length fields = omega (arith, c.loop-index-test.true, c.len-index-end.ensures) in
      let many : i ≡ length told = sym (length-map (take i fields) told_of_field ∙ length-take-le i fields (omega (arith, within))) in
      told_put told c.loop-index.told c.args.told.now c.match-get.told (told_of_field f) w.told_of.result i
      c.loop-index.invariant many w.told_of.ensures (omega (arith, many, within, c.requires)) w.told-is
      ∙ ap (λ (x : List Given). written_over x c.args.told.now) (sym (told_next fields i f is))
  | in_default w ↦ absurd (some_within c.args.section.now.fields c.loop-index.index
      (omega (arith, c.loop-index-test.true, c.len-index-end.ensures))
      (sym c.get.ensures ∙ ap (option_map line_of) w.in_default.is))
]
