use Rattle.std.proofs.Common.{refl}
use Rattle.qpack_decoding.proofs.MissingCode.{nothing_is_prefix}
use Rattle.qpack_decoding.proofs.section.reader.SectionReader.begin.Goals as goal

pub invariant_of-self : goal.invariant_of-self
invariant_of-self c =
    record {
      reading = record { cut = nothing_is_prefix _ c.drop_all.ensures.items; placed = (refl, refl, refl) };
      little = λ none. c.drop_all.ensures.little;
      told = λ e. cc;
    }
