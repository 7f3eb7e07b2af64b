-- A block that references an entry is of a table in which an entry fits: its prefix counts entries of 32 bytes.
use Rattle.std.proofs.Common.{◌≡◌, ℕ, ◌+◌, ◌<◌, ◌≤◌, List, [], ◌∷◌, ◌++◌, drop, length, refl}
use Rattle.std.proofs.Common.{sym, ap, ◌∙◌, arith}
use Rattle.std.proofs.lemmas.List.{drop-map, map-append}
use Rattle.qpack_spec.specs.Field.{Field, field_size, total_size}
use Rattle.qpack_spec.specs.Reading.{greatest_of}
use Rattle.qpack_spec.specs.Table.{Table, Entry, fields_in, insert_count, with_reference, with_entry, sent_entry}
use Rattle.qpack_spec.specs.Table.{eviction_count_for}
use Rattle.qpack_spec.proofs.Sizes.{total_first}
use Rattle.qpack_spec.proofs.Windows.{eviction_count_fits, size_least}

-- the live entries fit so many bytes, and an entry does if one is referenced
pub record Fits (most : ℕ) (t : Table) : Type 0 where
  pub capacity : t.capacity ≤ most
  pub live : total_size (fields_in t.live) ≤ most
  pub roomy : 0 < greatest_of t.referenced → 32 ≤ most

-- one more is referenced
pub fits_reference : (most : ℕ) (t : Table) (a : ℕ) → 32 ≤ most → Fits most t → Fits most (with_reference t a)
unfolding with_reference
fits_reference most t a h k = record { capacity = k.capacity; live = k.live; roomy = λ _. h }

-- what is left of the entries fits
left_fits : (t : Table) (f : Field) → total_size (fields_in (with_entry t (sent_entry f)).live) ≤ t.capacity
unfolding with_entry
left_fits t f =
    let all : fields_in (t.live ++ sent_entry f ∷ []) ≡ fields_in t.live ++ f ∷ [] =
    map-append (λ (e : Entry). e.field) t.live (sent_entry f ∷ []) in
    let left : fields_in (drop (eviction_count_for t f) (t.live ++ sent_entry f ∷ []))
    ≡ drop (eviction_count_for t f) (fields_in t.live ++ f ∷ []) =
    sym (drop-map (λ (e : Entry). e.field) (eviction_count_for t f) (t.live ++ sent_entry f ∷ []))
    ∙ ap (λ (l : List Field). drop (eviction_count_for t f) l) all in
    rw left (eviction_count_fits t.capacity (fields_in t.live ++ f ∷ []))

same_capacity : (t : Table) (f : Field) → (with_entry t (sent_entry f)).capacity ≡ t.capacity
unfolding with_entry
same_capacity t f = refl

-- one more is inserted
pub fits_unreferenced : (most : ℕ) (t : Table) (f : Field) → field_size f ≤ t.capacity → Fits most t
    → Fits most (with_entry t (sent_entry f))
fits_unreferenced most t f h k =
    record {
      capacity = omega (arith, k.capacity, same_capacity t f);
      live = omega (arith, left_fits t f, k.capacity);
      roomy = λ _. omega (arith, h, k.capacity, size_least f);
    }

-- and referenced
pub fits_entry : (most : ℕ) (t : Table) (f : Field) → field_size f ≤ t.capacity → Fits most t
    → Fits most (with_reference (with_entry t (sent_entry f)) (insert_count t + 1))
fits_entry most t f h k =
    fits_reference most (with_entry t (sent_entry f)) (insert_count t + 1)
    (omega (arith, h, k.capacity, size_least f)) (fits_unreferenced most t f h k)

-- a live entry takes 32 bytes
pub live_takes : (es : List Entry) → 0 < length es → 32 ≤ total_size (fields_in es)
live_takes [] h = absurd (omega (arith, h))
live_takes (e ∷ es) h = omega (arith, total_first e.field (fields_in es), size_least e.field)
