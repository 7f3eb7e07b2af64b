-- When a section that comes in pieces asks for memory.
use Rattle.std.proofs.Common.{◌≡◌, ◌<◌, ◌≤◌, ◌+◌, ◌⊎◌, ℕ, suc, Bool, true, false, cond, List, [], ◌∷◌, ◌++◌, length, Result, Ok}
use Rattle.std.proofs.Common.{Option, None, Some, Err, refl, sym, ap, ◌∙◌, subst, arith, inl, inr, append_assoc, length-append}
use Rattle.std.specs.Prelude.{max}
use Rattle.qpack_spec.specs.Bytes.{Begins}
use Rattle.qpack_spec.specs.Field.{FieldLine}
use Rattle.qpack_spec.specs.StrictReading.{LineFault, SectionFault, LinesUnder}
use Rattle.qpack_spec.specs.Window.{Window}
use Rattle.qpack_wire.specs.Memory.{AsksLine}
use Rattle.qpack_decoding.specs.FieldSections.{SectionView, LacksRoomWithin}
use Rattle.qpack_decoding.specs.Missing.{line_missing, prefix_missing}
use Rattle.qpack_decoding.specs.Pieces.{goes_on, missing_in, part_behind, ReaderView, KeptReader, Next, More, LacksRoomToWait}
use Rattle.qpack_decoding.specs.Pieces.{NeedsMemoryToFind, NeedsMemoryForNext, Gathers, front_of, prefix_says, next_prefix}
use Rattle.qpack_decoding.specs.Pieces.{line_at, line_says, next_line}
use Rattle.qpack_decoding.specs.SectionPrefixes.{strict_prefix}
use Rattle.qpack_decoding.specs.Sections.{error_at}
use Rattle.qpack_decoding.specs.declared.section.LineError.{LineError}
use Rattle.qpack_decoding.specs.declared.section.LineError.TheVariants as line
use Rattle.qpack_decoding.specs.declared.section.SectionError.TheVariants as section
use Rattle.qpack_decoding.specs.declared.section.missing.Part.{Part}
use Rattle.qpack_decoding.specs.declared.section.missing.Part.TheVariants as part
use Rattle.qpack_decoding.proofs.PieceParts.{gathered, line_enough}

-- ---- bytes that wait

-- whether more must come, said otherwise
same_more : (a b : Bool) (room : ℕ) (old bytes : List ℕ) → a ≡ b → LacksRoomToWait a room old bytes
    → LacksRoomToWait b room old bytes
same_more a b room old bytes e k = subst (λ (x : Bool). LacksRoomToWait x room old bytes) e k

-- a prefix
pub prefix_needs : (w : Window) (last : Bool) (limit : ℕ) (r : KeptReader) (bytes : List ℕ) (fields : SectionView)
    → LacksRoomToWait (goes_on last (prefix_missing (r.section.pending ++ bytes))) r.room r.section.pending bytes
    → NeedsMemoryForNext (next_prefix w last (r.section.pending ++ bytes)) limit r bytes fields
prefix_needs w last limit r bytes fields k = pick (goes_on last (prefix_missing all)) refl
  where
    all : List ℕ
    all = r.section.pending ++ bytes

    said : (x : Result (ℕ × ℕ × ℕ) SectionFault) → LacksRoomToWait false r.room r.section.pending bytes
        → NeedsMemoryForNext (prefix_says x) limit r bytes fields
    said (Ok p) lacks = lacks
    said (Err fault) lacks = inl lacks

    pick : (t : Bool) → goes_on last (prefix_missing all) ≡ t
        → NeedsMemoryForNext (cond t More (prefix_says (strict_prefix w all))) limit r bytes fields
    pick true e = same_more (goes_on last (prefix_missing all)) true r.room r.section.pending bytes e k
    pick false e =
        said (strict_prefix w all) (same_more (goes_on last (prefix_missing all)) false r.room r.section.pending bytes e k)

-- ---- a line

begins_more : (P : List ℕ → Type 0) (bytes more : List ℕ) → Begins P bytes → Begins P (bytes ++ more)
begins_more P bytes more b =
    record {
      encoding = b.encoding;
      rest = b.rest ++ more;
      parts = ap (λ (x : List ℕ). x ++ more) b.parts ∙ append_assoc b.encoding b.rest more;
      holds = b.holds;
    }

-- one that was read of bytes that were gathered
pub line_asks : (u : LinesUnder) (sum : ℕ) (last b : Bool) (limit room : ℕ) (old new bytes there : List ℕ)
    (fields : SectionView) → there ≡ front_of new bytes → b ≡ true → Gathers part.Line last old new bytes (Ok b)
    → Begins AsksLine there → LacksRoomWithin limit fields → NeedsMemoryToFind last limit room old bytes fields
line_asks u sum last b limit room old new bytes there fields same h k asks lacks =
    let enough = line_enough u sum last (old ++ bytes) (front_of new bytes) (gathered part.Line last b old new bytes h k).0 in
    inr (
      enough.reads,
      subst (λ (x : List ℕ). Begins AsksLine x) (sym enough.cut)
          (begins_more AsksLine (front_of new bytes) enough.more (subst (λ (x : List ℕ). Begins AsksLine x) same asks)),
      lacks,
    )

pub line_needs : (u : LinesUnder) (last : Bool) (limit : ℕ) (r : KeptReader) (bytes : List ℕ) (fields : SectionView)
    → part_behind r.section.prefix ≡ part.Line → 0 < length (r.section.pending ++ bytes)
    → NeedsMemoryToFind last limit r.room r.section.pending bytes fields
    → NeedsMemoryForNext (next_line u last r.section (r.section.pending ++ bytes)) limit r bytes fields
line_needs u last limit r bytes fields behind some k = go (r.section.pending ++ bytes) refl some
  where
    all : List ℕ
    all = r.section.pending ++ bytes

    waits : (t : Bool) → goes_on last (line_missing all) ≡ t → LacksRoomToWait (goes_on last (line_missing all)) r.room
        r.section.pending bytes → LacksRoomToWait t r.room r.section.pending bytes
    waits t e lacks = same_more (goes_on last (line_missing all)) t r.room r.section.pending bytes e lacks

    said : (number offset : ℕ) (x : Result (FieldLine × List ℕ) LineFault) → goes_on last (line_missing all) ≡ false
        → NeedsMemoryToFind last limit r.room r.section.pending bytes fields
        → NeedsMemoryForNext (line_says number offset x) limit r bytes fields
    said number offset (Ok x) e (inl lacks) = inl (waits false e lacks)
    said number offset (Ok x) e (inr asks) = inr (record { behind = behind; asks = asks.1; lacks = asks.2 })
    said number offset (Err fault) e (inl lacks) = inl (waits false e lacks)
    said number offset (Err fault) e (inr asks) = inr (record { behind = behind; asks = asks.1; lacks = asks.2 })

    must_come : goes_on last (line_missing all) ≡ true → NeedsMemoryToFind last limit r.room r.section.pending bytes fields
        → LacksRoomToWait true r.room r.section.pending bytes
    must_come e (inl lacks) = waits true e lacks
    must_come e (inr asks) = absurd (let x = sym e ∙ asks.0 in cc)

    go : (l : List ℕ) → l ≡ all → 0 < length l → NeedsMemoryForNext (next_line u last r.section l) limit r bytes fields
    go [] e none = absurd (omega (arith, none))
    go (b ∷ more) e there = pick (goes_on last (line_missing (b ∷ more))) refl
      where
        pick : (t : Bool) → goes_on last (line_missing (b ∷ more)) ≡ t → NeedsMemoryForNext
            (cond t More (line_says (suc r.section.lines) r.section.offset (line_at u r.section.sum (b ∷ more)))) limit r
            bytes fields
        pick true q = must_come (ap (λ (x : List ℕ). goes_on last (line_missing x)) (sym e) ∙ q) k
        pick false q =
            said (suc r.section.lines) r.section.offset (line_at u r.section.sum (b ∷ more))
            (ap (λ (x : List ℕ). goes_on last (line_missing x)) (sym e) ∙ q) k

-- out of memory at a line is out of memory
pub memory_at : (number offset : ℕ) (e : LineError) → error_at number offset e ≡ section.Memory → e ≡ line.Memory
memory_at number offset line.Memory is = refl
memory_at number offset (line.Meaningless d) is = absurd cc
memory_at number offset (line.PastRequired i) is = absurd cc
memory_at number offset (line.TooLarge s) is = absurd cc
