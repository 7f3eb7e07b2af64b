use Rattle.std.proofs.Common.{◌∙◌, Ok, ap, sym, subst}
use Rattle.qpack_spec.specs.Table.{window}
use Rattle.qpack_decoding.specs.Decoders.{DecoderView, end_of}
use Rattle.qpack_decoding.specs.Pieces.{ReadsOn}
use Rattle.qpack_decoding.specs.PieceDecoders.{begun_after}
use Rattle.qpack_decoding.proofs.PieceAnswers.{not_ended, not_written}
use Rattle.qpack_decoding.proofs.decoder.ConnectionDecoder.read.Goals as goal

pub returns-in-Ends-clause-reads : goal.returns-in-Ends-clause-reads
returns-in-Ends-clause-reads c = (
  rw (sym c.stream-stream.ensures) c.in_ok-check.ensures.checks,
  (
    c.read.new.self.section,
    record {
      is = subst (λ (v : DecoderView). ReadsOn (window v.table) v.settings.max_section_size c.args.last
          c.args.reader.now.section c.read.new.self.section c.args.buf.now.rest c.read.new.buf.rest c.read.new.fields.fields
          (Ok c.in-Ok.progress) c.args.reader.now.section.failure) c.self.view_is c.in-Ok.ensures.reads;
    },
    rw (sym c.stream-stream.ensures) c.in_ok-follow-in-Ok.ensures.follows,
    c.begin.ensures.section ∙ ap (λ p. begun_after p c.read.new.self.section) (sym c.in-Ends.is),
  ),
)

pub returns-in_default-clause-reads : goal.returns-in_default-clause-reads
returns-in_default-clause-reads c = (
  rw (sym c.stream-stream.ensures) c.in_ok-check.ensures.checks,
  (
    c.read.new.self.section,
    record {
      is = subst (λ (v : DecoderView). ReadsOn (window v.table) v.settings.max_section_size c.args.last
          c.args.reader.now.section c.read.new.self.section c.args.buf.now.rest c.read.new.buf.rest c.read.new.fields.fields
          (Ok c.in-Ok.progress) c.args.reader.now.section.failure) c.self.view_is c.in-Ok.ensures.reads;
    },
    rw (sym c.stream-stream.ensures) c.in_ok-follow-in-Ok.ensures.follows,
    not_ended c.in-Ok.progress c.read.new.self.section c.in_default.not-Ends,
  ),
)

pub returns-in_default-clause-unsent : goal.returns-in_default-clause-unsent
returns-in_default-clause-unsent c =
    not_written c.in-Ok.progress c.stream-stream.result _ (end_of c.args.self.now) _ _ c.in_default.not-Ends
    c.in_ok-follow-in-Ok.ensures.unsent
