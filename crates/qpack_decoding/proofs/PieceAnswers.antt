-- What the decoding end does with what a section gave that comes in pieces.
use Rattle.std.proofs.Common.{◌≡◌, ℕ, refl, arith, length}
use Rattle.qpack_decoding.specs.Decoders.{DecodingEnd}
use Rattle.qpack_decoding.specs.PieceDecoders.{answer_to_progress, begun_after}
use Rattle.qpack_decoding.specs.Pieces.{ReaderView}
use Rattle.qpack_shared.specs.Unsent.{UnsentView, KeepsRoom}
use Rattle.qpack_decoding.specs.declared.section.reader.Progress.{Progress}
use Rattle.qpack_decoding.specs.declared.section.reader.Progress.TheVariants as progress

-- a section that has not ended is read on
pub not_ended : (p : Progress) (r : ReaderView) → ((required : ℕ) → p ≡ progress.Ends required → ⊥) → r ≡ begun_after p r
not_ended progress.Waits r more = refl
not_ended (progress.Prefix required) r more = refl
not_ended (progress.Blocked required) r more = refl
not_ended progress.Field r more = refl
not_ended (progress.Ends required) r more = absurd (more required refl)

-- with more room nothing else is known
no_less : (many : ℕ) (old new : UnsentView) → KeepsRoom 0 old new → KeepsRoom many old new
no_less many old new k =
    record { still = λ room. k.still (omega (arith, room)); capacity = k.capacity; front = k.front }

-- and nothing is written
pub not_written : (p : Progress) (stream many : ℕ) (d : DecodingEnd) (old new : UnsentView)
    → ((required : ℕ) → p ≡ progress.Ends required → ⊥) → KeepsRoom (length (answer_to_progress stream p d)) old new
    → KeepsRoom many old new
not_written progress.Waits stream many d old new more k = no_less many old new k
not_written (progress.Prefix required) stream many d old new more k = no_less many old new k
not_written (progress.Blocked required) stream many d old new more k = no_less many old new k
not_written progress.Field stream many d old new more k = no_less many old new k
not_written (progress.Ends required) stream many d old new more k = absurd (more required refl)
