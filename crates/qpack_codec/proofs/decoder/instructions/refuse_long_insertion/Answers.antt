use Rattle.std.proofs.Common.{refl, arith}
use Rattle.std.proofs.lemmas.Result.{err_from_is_err_and}
use Rattle.qpack_codec.proofs.Instructions.{long_lost, long_passed, long_refused}
use Rattle.qpack_codec.proofs.decoder.instructions.refuse_long_insertion.Goals as goal

pub returns-in_err-find_name-clause-applies : goal.returns-in_err-find_name-clause-applies
returns-in_err-find_name-clause-applies g c =
    let p = err_from_is_err_and c.from_residual.result c.from_residual.ensures.1 in
    rw (p.1, p.2)
    (λ i long. long_lost c.args.table.now c.args.source i c.in_err-find_name.field-0.0 long
    c.in_err-find_name.ensures.lost)

pub returns-then-max_mem_size-eq0-clause-applies : goal.returns-then-max_mem_size-eq0-clause-applies
returns-then-max_mem_size-eq0-clause-applies g c =
    let capacity = c.max_mem_size.ensures.exact in
    λ i long. long_passed c.args.table.now c.args.source i long c.in_ok-find_name.ensures.found
    (omega (arith, capacity, c.if-max_mem_size-eq0.true))

pub returns-clause-applies : goal.returns-clause-applies
returns-clause-applies g c =
    let capacity = c.max_mem_size.ensures.exact in
    λ i long. (
      long_refused c.args.table.now c.args.source i long c.in_ok-find_name.ensures.found
          (λ none. omega (arith, capacity, none, c.if-max_mem_size-eq0.false)),
      refl,
    )
