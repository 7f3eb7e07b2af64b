-- The index as a whole.
use Rattle.std.proofs.Common.{refl, ◌≡◌, ℕ, ◌+◌, ◌-◌, ◌<◌, ◌≤◌, [], ◌∷◌, ◌++◌, List, length, get_or, drop, sym, ap}
use Rattle.std.proofs.Common.{subst, ◌∙◌, arith}
use Rattle.std.proofs.lemmas.List.{length-drop}
use Rattle.qpack_spec.specs.Field.{Field, FieldLine, unmarked}
use Rattle.qpack_table.specs.Positions.{Positions}
use Rattle.qpack_table.specs.Rows.{part_of, part_at}
use Rattle.qpack_table.specs.Indexes.{IsIndexOf, KeepsSlots}
use Rattle.qpack_table.specs.Tables.{live_fields, IsIndexOfEntries}
use Rattle.qpack_table.specs.Entries.{Entry}
use Rattle.qpack_table.specs.declared.dynamic.index.Index.{Index}
use Rattle.qpack_table.specs.declared.dynamic.comparing.Part.{Part}
use Rattle.qpack_table.specs.declared.dynamic.comparing.Part.TheVariants.{Name, Whole}
use Rattle.qpack_table.proofs.RowSearches.{entry_part}
use Rattle.qpack_table.proofs.RowEntries.{entries_pushed}
use Rattle.qpack_table.proofs.Evictions.{joined_fields}
use Rattle.qpack_table.proofs.Lookups.{fields_long}

index_pushed : (dropped : ℕ) (live : List Field) (f : Field) (index : Index)
    → IsIndexOf dropped live (length live) index → IsIndexOf dropped (live ++ f ∷ []) (length live) index
index_pushed dropped live f index is = record {
  fields = entries_pushed (Whole index.seed) dropped live f index.fields.slots.items is.fields;
  names = entries_pushed (Name index.seed) dropped live f index.names.slots.items is.names;
}

-- the index that keeps its slots and its seed
pub index_kept : (old new : Index) → KeepsSlots old new → (dropped : ℕ) (es : List Entry)
    → IsIndexOfEntries old dropped es → IsIndexOfEntries new dropped es
index_kept old new k dropped es is = record {
  fields = rw (k.fields, k.seed) is.fields;
  names = rw (k.names, k.seed) is.names;
}

-- the line of a live entry that was read
pub line_read : (part : Part) (dropped : ℕ) (es : List Entry) (index : ℕ) (e : Entry) (l : FieldLine)
    → (dropped < index) × (index ≤ dropped + length es) → e ≡ get_or es (index - dropped - 1) e
    → l ≡ unmarked e.field → part_of part l.field ≡ part_at part dropped (live_fields es) index
line_read part dropped es index e l live read is =
    ap (λ (x : FieldLine). part_of part x.field) is
    ∙ entry_part part dropped es index e (live.0, omega (arith, live.1, fields_long es)) read

-- ---- as the table's entries come and go

-- the oldest is popped
index_shed : (from to : ℕ) (es rest : List Entry) (e : Entry) (index : Index)
    → IsIndexOf (from + 1) (drop 1 (live_fields es)) (length es - 1) index → es ≡ e ∷ rest → to ≡ from + 1
    → IsIndexOf to (live_fields rest) (length rest) index
index_shed from to es rest e index is items moved =
    let count : length es - 1 ≡ length rest = omega (arith, ap (λ (l : List Entry). length l) items) in
    subst (λ (d : ℕ). IsIndexOf d (live_fields rest) (length rest) index) (sym moved)
    (subst (λ (n : ℕ). IsIndexOf (from + 1) (live_fields rest) n index) count
    (subst (λ (l : List Entry). IsIndexOf (from + 1) (drop 1 (live_fields l)) (length es - 1) index) items is))

-- the oldest is about to be popped
pub index_left : (from : ℕ) (es : List Entry) (index : Index)
    → IsIndexOf (from + 1) (drop 1 (live_fields es)) (length es - 1) index
    → IsIndexOfEntries index (from + 1) (drop 1 es)
index_left from [] index is = is
index_left from (e ∷ es) index is = index_shed from (from + 1) (e ∷ es) es e index is refl refl

-- what finds the entries, once the oldest is popped
pub entries_shed : (is_index_of : ℕ → List Entry → Type 0) (from to : ℕ) (es rest : List Entry) (e : Entry)
    → is_index_of (from + 1) (drop 1 es) → es ≡ e ∷ rest → to ≡ from + 1 → is_index_of to rest
entries_shed is_index_of from to es rest e is items moved =
    subst (λ (d : ℕ). is_index_of d rest) (sym moved)
    (subst (λ (l : List Entry). is_index_of (from + 1) (drop 1 l)) items is)

-- one is pushed that has not come in yet
index_joined : (dropped : ℕ) (es now : List Entry) (e : Entry) (index : Index)
    → IsIndexOf dropped (live_fields es) (length es) index → now ≡ es ++ e ∷ []
    → IsIndexOf dropped (live_fields now) (length es) index
index_joined dropped es now e index is items =
    let long = fields_long es in
    subst (λ (l : List Field). IsIndexOf dropped l (length es) index)
    (sym (ap (λ (l : List Entry). live_fields l) items ∙ joined_fields es e))
    (subst (λ (n : ℕ). IsIndexOf dropped (live_fields es ++ e.field ∷ []) n index) long
    (index_pushed dropped (live_fields es) e.field index
    (subst (λ (n : ℕ). IsIndexOf dropped (live_fields es) n index) (sym long) is)))

-- how many were dropped so far, as the code counts them
pub record DroppedThere (total dropped count inserted len : ℕ) : Type 0 where
  pub fits : len ≤ inserted
  pub is : inserted - len ≡ dropped
  pub whole : total ≡ dropped + count

pub dropped_there : (total dropped from count counter : ℕ) (all now : List Entry) (inserted len : ℕ)
    → count ≡ length now → now ≡ drop counter all → counter ≤ length all → dropped ≡ from + counter
    → total ≡ from + length all → inserted ≡ total → len ≡ length now
    → DroppedThere total dropped count inserted len
dropped_there total dropped from count counter all now inserted len counts items few gone whole is long =
    let left : length now + counter ≡ length all =
    omega (arith, ap (λ (l : List Entry). length l) items, length-drop counter all, few) in
    record {
      fits = omega (arith, left, whole, is, long);
      is = omega (arith, left, whole, is, long, gone);
      whole = omega (arith, counts, left, whole, gone);
    }

-- the newest index, once some of the oldest went and one was inserted
pub record NewestThere (dropped absolute count : ℕ) : Type 0 where
  pub above : dropped < absolute
  pub is : absolute ≡ dropped + count + 1

pub newest_there : (v m w : Positions) (es left : List Entry) (k absolute dropped : ℕ)
    → v.total ≡ v.dropped + length es → left ≡ drop k es → k ≤ length es
    → m ≡ record v { dropped = v.dropped + k } → absolute ≡ m.total + 1 → w ≡ record m { total = m.total + 1 }
    → dropped ≡ w.dropped → NewestThere dropped absolute (length left)
newest_there v m w es left k absolute dropped counted items few gone newest added is =
    let long : length left + k ≡ length es =
    omega (arith, ap (λ (l : List Entry). length l) items, length-drop k es, few) in
    let now : dropped ≡ v.dropped + k =
    is ∙ ap (λ (p : Positions). p.dropped) added ∙ ap (λ (p : Positions). p.dropped) gone in
    let all : absolute ≡ v.total + 1 = newest ∙ ap (λ (p : Positions). p.total + 1) gone in
    record {
      above = omega (arith, now, all, counted, few);
      is = omega (arith, now, all, counted, long);
    }

-- what the index has before the newest comes in, and once it is in
pub index_before : (from dropped absolute : ℕ) (left now : List Entry) (e : Entry) (index : Index)
    → IsIndexOf from (live_fields left) (length left) index → now ≡ left ++ e ∷ [] → dropped ≡ from
    → NewestThere dropped absolute (length left) → IsIndexOf dropped (live_fields now) (absolute - dropped - 1) index
index_before from dropped absolute left now e index is items same at =
    let count : length left ≡ absolute - dropped - 1 = omega (arith, at.is) in
    subst (λ (n : ℕ). IsIndexOf dropped (live_fields now) n index) count
    (subst (λ (d : ℕ). IsIndexOf d (live_fields now) (length left) index) (sym same)
    (index_joined from left now e index is items))
