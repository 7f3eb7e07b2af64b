use Rattle.std.proofs.Common.{◌≡◌, arith}
use Rattle.qpack_spec.specs.Field.{field_size}
use Rattle.qpack_spec.specs.Handle.{insert_field}
use Rattle.qpack_base.specs.HeaderFields.{line_of}
use Rattle.qpack_codec.proofs.Rooms.{insertion_most, large_writes_none}
use Rattle.qpack_codec.proofs.encoder.fields.instruction_room.Goals as goal

pub returns-then-size-max_size-clause-enough : goal.returns-then-size-max_size-clause-enough
returns-then-size-max_size-clause-enough g c coding =
    large_writes_none coding c.args.block.now.table.now c.args.block.now.base (line_of c.args.field.now).field
    (omega (arith, c.mem_size-size.ensures, c.max_size.ensures.exact, c.if-size-max_size.true))

pub returns-clause-enough : goal.returns-clause-enough
returns-clause-enough g c coding =
    let most = insertion_most coding (line_of c.args.field.now).field
    (insert_field c.args.block.now.table.now c.args.block.now.base (line_of c.args.field.now).field).insertion in
    let size : c.mem_size-size.result ≡ field_size (line_of c.args.field.now).field =
    omega (arith, c.mem_size-size.ensures, c.max_size.ensures.most, c.if-size-max_size.false) in
    omega (arith, most, size)

pub returns-clause-most : goal.returns-clause-most
returns-clause-most g c = omega (arith, c.mem_size-size.ensures)

pub returns-then-size-max_size-clause-any : goal.returns-then-size-max_size-clause-any
returns-then-size-max_size-clause-any g c fits coding i =
    absurd (omega (arith, c.mem_size-size.ensures, c.max_size.ensures.exact, c.if-size-max_size.true, fits))

pub returns-clause-any : goal.returns-clause-any
returns-clause-any g c fits coding i =
    let size : c.mem_size-size.result ≡ field_size (line_of c.args.field.now).field =
    omega (arith, c.mem_size-size.ensures, c.max_size.ensures.most, c.if-size-max_size.false) in
    omega (arith, insertion_most coding (line_of c.args.field.now).field i, size)
