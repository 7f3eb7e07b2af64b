-- What a table keeps, when entries go and come.
use Rattle.std.proofs.Common.{◌≡◌, ℕ, ◌+◌, ◌-◌, ◌^◌, ◌<◌, ◌≤◌, false, List, [], ◌∷◌, ◌++◌, length, drop, refl, sym}
use Rattle.std.proofs.Common.{ap, subst, ◌∙◌, arith}
use Rattle.std.proofs.lemmas.List.{length-drop, length-map}
use Rattle.std.specs.List.{AllByRecursion}
use Rattle.qpack_spec.specs.Field.{field_size, total_size}
use Rattle.qpack_spec.specs.Table as table
use Rattle.qpack_spec.specs.Table.{fields_in}
use Rattle.qpack_spec.specs.Window.{eviction_count}
use Rattle.qpack_spec.proofs.Windows.{entries_fit}
use Rattle.qpack_table.specs.Positions.{Positions}
use Rattle.qpack_table.specs.Tables.{entry_of, entries_of, flags_of, references_in, times, AreUsed, AreCounted}
use Rattle.qpack_table.specs.Tables.{NoneTwice}
use Rattle.qpack_table.specs.Tables.{IsKept, IsSized, CountsReferences}
use Rattle.qpack_table.specs.Entries.{Entry}
use Rattle.qpack_table.proofs.Lookups.{fields_long}
use Rattle.qpack_table.proofs.Evictions.{sized_inserted, sized_resized, evicted_within}
use Rattle.qpack_table.proofs.References.{times_append, references_less, references_put, references_released}
use Rattle.qpack_table.proofs.Marks.{used_counted}

-- with fewer entries and another capacity
pub kept_resized : {index shed : ℕ → List Entry → Type 0} (v w : Positions) (es now : List Entry)
    (size left capacity most : ℕ) (referenced : List ℕ)
    (unacknowledged : List table.UnacknowledgedBlock) (k freed : ℕ)
    → IsKept v es size capacity referenced unacknowledged index
    → k ≡ eviction_count most (fields_in (entries_of es)) → most < 2 ^ 30 → now ≡ drop k es
    → freed + total_size (drop k (fields_in (entries_of es))) ≡ total_size (fields_in (entries_of es))
    → left ≡ size - freed → w.dropped ≡ v.dropped + k → w.total ≡ v.total
    → shed w.dropped now
    → IsKept w now left most referenced unacknowledged shed
kept_resized v w es now size left capacity most referenced unacknowledged k freed kept evicted small items
    rest is dropped total indexed = record {
      sized = sized_resized v w es now size left capacity most k freed kept.sized evicted small items rest is dropped
          total;
      references = references_less v w es now referenced unacknowledged k kept.references items dropped total;
      indexed = indexed;
    }

-- with some entries less and one more, which nothing references
pub kept_put : {index more : ℕ → List Entry → Type 0} (v w : Positions) (es now : List Entry)
    (size left capacity : ℕ) (referenced : List ℕ)
    (unacknowledged : List table.UnacknowledgedBlock) (e : Entry) (k : ℕ)
    → IsKept v es size capacity referenced unacknowledged index
    → field_size e.field ≤ capacity
    → k ≡ eviction_count capacity (fields_in (entries_of es) ++ e.field ∷ [])
    → now ≡ drop k es ++ e ∷ []
    → left ≡ total_size (drop k (fields_in (entries_of es))) + field_size e.field
    → e.referenced ≡ false → e.uses ≡ 0
    → w.dropped ≡ v.dropped + k → w.total ≡ v.total + 1
    → more w.dropped now
    → IsKept w now left capacity referenced unacknowledged more
kept_put v w es now size left capacity referenced unacknowledged e k kept room evicted items sum unflagged
    unused dropped total indexed =
    let m : Positions = record { total = v.total; dropped = v.dropped + k } in
    let few : k ≤ length es = evicted_within es e.field capacity k room evicted in
    let counted : v.total ≡ v.dropped + k + length (drop k es) =
    omega (arith, kept.sized.counted, few, length-drop k es) in
    record {
      sized = sized_inserted v w es now size left capacity e k kept.sized room evicted items sum dropped total;
      references = references_put m w (drop k es) now e referenced unacknowledged
          (references_less v m es (drop k es) referenced unacknowledged k kept.references refl refl refl) counted items
          unflagged unused dropped total;
      indexed = indexed;
    }

-- each takes 32 bytes or more (section 3.2.1), so those of the capacity are few
pub few_entries : (v : Positions) (es : List Entry) (size capacity : ℕ) → IsSized v es size capacity
    → length es < 2 ^ 31
few_entries v es size capacity kept = omega (
  arith,
  kept.sum,
  kept.fits,
  kept.small,
  entries_fit (fields_in (entries_of es)),
  fields_long es,
)

-- the sizes are those of other entries with the same fields
pub sized_as : (v : Positions) (es now : List Entry) (size capacity : ℕ) → entries_of now ≡ entries_of es
    → IsSized v es size capacity → IsSized v now size capacity
sized_as v es now size capacity same kept = record {
  counted = omega (
    arith,
    kept.counted,
    length-map now entry_of,
    length-map es entry_of,
    ap (λ (l : List table.Entry). length l) same,
  );
  sum = kept.sum ∙ ap (λ (l : List table.Entry). total_size (fields_in l)) (sym same);
  fits = kept.fits;
  small = kept.small;
}

-- with some blocks released
pub kept_released : {index : ℕ → List Entry → Type 0} (v : Positions) (es now : List Entry) (size capacity : ℕ) (referenced : List ℕ)
    (unacknowledged left : List table.UnacknowledgedBlock) (gone : List ℕ) (dropped : ℕ)
    → IsKept v es size capacity referenced unacknowledged index
    → dropped ≡ v.dropped
    → entries_of now ≡ entries_of es → flags_of now ≡ flags_of es
    → ((rest : List ℕ) → AreUsed dropped es (gone ++ rest) → AreUsed dropped now rest) → index v.dropped now
    → ((a : ℕ) → times a (references_in unacknowledged) ≡ times a gone + times a (references_in left))
    → AllByRecursion (λ b. NoneTwice b.entries) left → length left ≤ length unacknowledged
    → IsKept v now size capacity referenced left index
kept_released {index} v es now size capacity referenced unacknowledged left gone dropped kept is live
    flags lowered indexed parted once fewer = record {
      sized = sized_as v es now size capacity live kept.sized;
      references = references_released v es now referenced unacknowledged left gone kept.references flags
          (subst (λ (d : ℕ). (rest : List ℕ) → AreUsed d es (gone ++ rest)
          → AreUsed d now rest) is lowered) parted once fewer;
      indexed = indexed;
    }

-- what some blocks reference is counted
pub counted_released : (v : Positions) (es : List Entry) (referenced : List ℕ)
    (unacknowledged left : List table.UnacknowledgedBlock) (gone : List ℕ)
    → CountsReferences v es referenced unacknowledged
    → ((a : ℕ) → times a (references_in unacknowledged) ≡ times a gone + times a (references_in left))
    → AreCounted v.dropped es gone
counted_released v es referenced unacknowledged left gone kept parted =
    used_counted v.dropped es gone (referenced ++ references_in unacknowledged) (λ a. omega (
      arith,
      parted a,
      times_append a referenced (references_in unacknowledged),
    )) kept.used
