use Rattle.std.proofs.Common.{◌≤◌, arith}
use Rattle.qpack_spec.specs.Wanted.{wanted}
use Rattle.qpack_base.proofs.PutCodes.{bytes_from}
use Rattle.qpack_decoding.specs.Receiving.{MayGrow}
use Rattle.qpack_decoding.proofs.WaitingLengths.{waiting_short}
use Rattle.qpack_decoding.proofs.encoder_stream.find_wanted.Goals as goal

pub returns-clause-finds : goal.returns-clause-finds
returns-clause-finds g c cut =
    let grows : MayGrow c.args.table.now c.args.pending.now = record {
      cut = cut;
      fits = omega (
        arith,
        c.if-least_field_size-max_mem_size.false,
        c.least_field_size.ensures,
        c.max_mem_size.ensures.exact,
        c.max_mem_size.ensures.most,
      );
    } in
    let few : c.wanted.result ≤ wanted c.args.pending.now = omega (arith, c.wanted.ensures) in (
      grows,
      few,
      waiting_short c.args.table.now c.args.pending.now
          (bytes_from c.args.pending.now (λ i. omega (arith, c.type_inv.pending i))) grows,
    )
