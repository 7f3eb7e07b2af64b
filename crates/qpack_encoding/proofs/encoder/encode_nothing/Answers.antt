use Rattle.std.proofs.Common.{◌∙◌, ◌++◌, ap, sym, refl}
use Rattle.qpack_spec.specs.Prefix.{written_prefix}
use Rattle.qpack_encoding.proofs.NoFields.{nothing_written, no_room}
use Rattle.qpack_encoding.proofs.encoder.encode_nothing.Goals as goal

pub returns-in-Ok-clause-ok : goal.returns-in-Ok-clause-ok
returns-in-Ok-clause-ok g c = (
  refl,
  c.in-Ok.ensures.writes.ok
      ∙ ap (λ bytes. c.args.section.now.items ++ bytes) (ap written_prefix c.new.ensures ∙ sym nothing_written),
)

pub returns-in-Err-clause-memory : goal.returns-in-Err-clause-memory
returns-in-Err-clause-memory g c =
    no_room c.args.section.now c.encode.new.buf c.in-Err.field-0 _ c.new.ensures c.in-Err.ensures.writes
