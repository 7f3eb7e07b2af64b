-- The decoding end over sections that come in pieces (RFC 9204, sections 2.1.2, 2.2 and 4.4).
use Rattle.std.specs.Prelude.{◌≡◌, ◌<◌, ℕ, ⊤, ◌⊎◌, Bool, List, [], ◌++◌, length, Result, Ok, Err}
use Rattle.qpack_spec.specs.Field.{FieldLine}
use Rattle.qpack_spec.specs.Table.{window}
use Rattle.qpack_shared.specs.Streams.{without}
use Rattle.qpack_decoding.specs.Blocked.{IsCountedAnew}
use Rattle.qpack_decoding.specs.Decoders.{DecodingEnd, DecoderView, end_of, Checks, IsNotAnswered, MayBlock, BlocksStream}
use Rattle.qpack_decoding.specs.Decoders.{Acknowledges, acknowledgment_of, section_refused}
use Rattle.qpack_decoding.specs.FieldSections.{SectionView}
use Rattle.qpack_decoding.specs.Pieces.{ReaderView, KeptReader, NeedsMemoryToReadOn, ReadsOn, Next, Stays, Over, next_of, fresh}
use Rattle.qpack_shared.specs.Unsent.{LacksRoom}
use Rattle.qpack_decoding.specs.declared.decoder.DecodingError.{DecodingError}
use Rattle.qpack_decoding.specs.declared.decoder.DecodingError.TheVariants.{Section, Memory}
use Rattle.qpack_decoding.specs.declared.section.SectionError.{SectionError}
use Rattle.qpack_decoding.specs.declared.section.SectionError.TheVariants as section
use Rattle.qpack_decoding.specs.declared.section.reader.Progress.{Progress}
use Rattle.qpack_decoding.specs.declared.section.reader.Progress.TheVariants as progress

-- the stream waits for nothing
abbrev pub unblocked : ℕ → DecodingEnd → DecodingEnd
unblocked stream d = record d { blocked = without stream d.blocked }

-- what the end does with what a section gave: only its end is acknowledged; while it waits for insertions the stream
-- counts as blocked, and no longer once it is read on
abbrev pub Follows : DecodingEnd → DecodingEnd → ℕ → Progress → Result ⊤ DecodingError → Type 0
Follows old new stream (progress.Blocked required) r = BlocksStream old new stream required r
Follows old new stream (progress.Ends required) r = Acknowledges old new stream required r
Follows old new stream p (Ok done) = new ≡ unblocked stream old
Follows old new stream p (Err e) = ⊥

-- the reader after what it gave: at the end of a section it is at the start of the next
abbrev pub begun_after : Progress → ReaderView → ReaderView
begun_after (progress.Ends required) r = fresh r.stream
begun_after p r = r

-- what reading on gives, and the reader is then so
pub record ReadsAs (d : DecodingEnd) (last : Bool) (old read : ReaderView) (bytes left : List ℕ)
    (fields : List FieldLine) (r : Result Progress SectionError) : Type 0 where
  pub is : ReadsOn (window d.table) d.settings.max_section_size last old read bytes left fields r old.failure

-- what the section gave does not come to pass
pub record Unfollowed (old new : DecodingEnd) (last : Bool) (was reader : ReaderView) (bytes left : List ℕ)
    (fields : List FieldLine) (e : DecodingError) : Type 0 where
  pub progress : Progress
  pub reads : ReadsAs old last was reader bytes left fields (Ok progress)
  pub follows : Follows old new was.stream progress (Err e)

-- why a section is not read on: it is refused; memory was refused for its bytes, and nothing changes; or what it gave does
-- not come to pass, since its stream would be one blocked stream too many, or memory was refused for that
abbrev pub StopsPiece : DecodingEnd → DecodingEnd → Bool → ReaderView → ReaderView → List ℕ → List ℕ → List FieldLine
    → DecodingError → Type 0
StopsPiece old new last was reader bytes left fields (Section stream e) =
    (stream ≡ was.stream) × ReadsAs old last was reader bytes left fields (Err e)
    × (new ≡ section_refused was.stream e old) × (e ≡ section.Memory → ⊥)
StopsPiece old new last was reader bytes left fields Memory =
    ((new ≡ old) × (reader ≡ was) × (left ≡ bytes) × (fields ≡ []))
    ⊎ Unfollowed old new last was reader bytes left fields Memory
StopsPiece old new last was reader bytes left fields e = Unfollowed old new last was reader bytes left fields e

-- what a call makes of the bytes that come next, of which these are left
abbrev pub ReadsPiece : DecodingEnd → DecodingEnd → Bool → ReaderView → ReaderView → List ℕ → List ℕ → List FieldLine
    → Result Progress DecodingError → Type 0
ReadsPiece old new last was reader bytes left fields (Ok p) =
    Checks old was.stream (Ok tt)
    × ((read : ReaderView) × ReadsAs old last was read bytes left fields (Ok p)
    × Follows old new was.stream p (Ok tt) × (reader ≡ begun_after p read))
ReadsPiece old new last was reader bytes left fields (Err e) =
    (IsNotAnswered old new was.stream e × (reader ≡ was) × (left ≡ bytes) × (fields ≡ []))
    ⊎ (Checks old was.stream (Ok tt) × StopsPiece old new last was reader bytes left fields e)

-- what comes next of a section, with these bytes after those that wait
abbrev pub next_here : DecodingEnd → Bool → ReaderView → List ℕ → Next
next_here d last r bytes = next_of (window d.table) d.settings.max_section_size last r (r.pending ++ bytes)

-- what is written for what a section gave: the acknowledgment at its end
abbrev pub answer_to_progress : ℕ → Progress → DecodingEnd → List ℕ
answer_to_progress stream (progress.Ends required) d = acknowledgment_of stream required d
answer_to_progress stream p d = []

-- memory is needed for what a section gave: for the count of a stream that may become blocked and does not yet count with
-- this; or for an acknowledgment that does not fit
abbrev pub NeedsMemoryToFollow : DecoderView → ℕ → Progress → Type 0
NeedsMemoryToFollow d stream (progress.Blocked required) =
    IsCountedAnew (record { stream = stream; required = required }) d.blocked × MayBlock (end_of d) stream
NeedsMemoryToFollow d stream (progress.Ends required) =
    (0 < required) × LacksRoom (length (acknowledgment_of stream required (end_of d))) d.unsent
NeedsMemoryToFollow d stream p = ⊥

-- what is written for what comes next: the acknowledgment at the end of a section
abbrev pub answer_to_next : ℕ → Next → DecodingEnd → List ℕ
answer_to_next stream (Over required) d = acknowledgment_of stream required d
answer_to_next stream next d = []

-- memory is needed after what comes next was read: for a section that waits, or for the end of one
abbrev pub NeedsMemoryBehindNext : DecoderView → ℕ → Next → Type 0
NeedsMemoryBehindNext d stream (Stays required) = NeedsMemoryToFollow d stream (progress.Blocked required)
NeedsMemoryBehindNext d stream (Over required) = NeedsMemoryToFollow d stream (progress.Ends required)
NeedsMemoryBehindNext d stream next = ⊥

-- memory is needed for the bytes that come next: to read on, or after that
abbrev pub NeedsMemoryForPiece : DecoderView → Bool → KeptReader → List ℕ → SectionView → Type 0
NeedsMemoryForPiece d last r bytes fields =
    NeedsMemoryToReadOn (window d.table) d.settings.max_section_size last r bytes fields
    ⊎ NeedsMemoryBehindNext d r.section.stream (next_here (end_of d) last r.section bytes)
