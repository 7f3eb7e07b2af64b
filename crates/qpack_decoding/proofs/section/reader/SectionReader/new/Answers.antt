use Rattle.std.proofs.Common.{refl, arith}
use Rattle.qpack_decoding.proofs.MissingCode.{nothing_is_prefix}
use Rattle.qpack_decoding.proofs.section.reader.SectionReader.new.Goals as goal

pub invariant_of-result : goal.invariant_of-result
invariant_of-result c =
    record {
      reading = record { cut = nothing_is_prefix _ c.new.ensures.items; placed = (refl, refl, refl) };
      little = λ none. omega (arith, c.new.ensures.capacity);
      told = λ e. cc;
    }
