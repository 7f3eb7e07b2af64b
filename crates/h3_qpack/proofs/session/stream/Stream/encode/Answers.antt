use Rattle.std.proofs.Common.{inr, arith}
use Rattle.std.proofs.lemmas.Result.{err_from_is_err_and}
use Rattle.h3_qpack.proofs.Blocks.{counted_more, kept_more, encodes_slice, stops_slice}
use Rattle.h3_qpack.proofs.session.stream.Stream.encode.Goals as goal

pub returns-in_err-required-clause-err : goal.returns-in_err-required-clause-err
returns-in_err-required-clause-err c =
    let p = err_from_is_err_and c.from_residual-in_err-required.result c.from_residual-in_err-required.ensures.1 in
    rw p.1 (record {
      gives_up = inr (stops_slice c.iter.result c.args.fields.now c.args.encoder.now c.encode.new.self
          c.args.encoder_stream.now.items c.encode.new.encoder_buf.items c.iter.ensures.rest
          c.in_err-required.ensures.err);
      written_fits = omega (
        arith,
        c.encode.new.encoder_buf.ok.0,
        c.encode.new.encoder_buf.ok.1,
        c.encode.new.encoder_buf.small,
      );
    })

pub invariant_of-self-2 : goal.invariant_of-self-2
invariant_of-self-2 c =
    counted_more c.self.inside.blocks.items c.reserve.new.self.items c.push_reserved.new.self.items
    c.self.inside.decoded c.self.inside.dynamic _ c.push_reserved.ensures.items c.reserve.ensures.items c.self.invariant

pub returns-clause-ok : goal.returns-clause-ok
returns-clause-ok c =
    record {
      bytes = c.encode.new.block.items;
      encodes = encodes_slice c.args.number c.iter.result c.args.fields.now c.args.encoder.now c.encode.new.self
          c.new-bytes.result.items c.encode.new.block.items c.args.encoder_stream.now.items
          c.encode.new.encoder_buf.items c.in_ok-required.required c.iter.ensures.rest c.new-bytes.ensures.items
          c.in_ok-required.ensures.ok;
      keeps = kept_more _ c.args.self.now _ c.reserve.new.self.items c.push_reserved.new.self.items c.self.view_is
          c.push_reserved.ensures.items c.reserve.ensures.items;
      block_fits = omega (arith, c.encode.new.block.ok.0, c.encode.new.block.ok.1, c.encode.new.block.small);
      written_fits = omega (
        arith,
        c.encode.new.encoder_buf.ok.0,
        c.encode.new.encoder_buf.ok.1,
        c.encode.new.encoder_buf.small,
      );
    }
