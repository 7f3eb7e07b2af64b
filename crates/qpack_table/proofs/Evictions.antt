-- The entries that go, one at a time.
use Rattle.std.proofs.Common.{◌≡◌, ℕ, zero, suc, ◌+◌, ◌-◌, ◌^◌, ◌<◌, ◌≤◌, List, [], ◌∷◌, ◌++◌, length, drop, get_or}
use Rattle.std.proofs.Common.{refl, sym, ap, subst, ◌∙◌, arith, inl, inr}
use Rattle.std.proofs.lemmas.Bool.{cases_lt}
use Rattle.std.proofs.lemmas.List.{drop-drop, drop-append-le, drop-map, length-drop, length-append, drop_more}
use Rattle.std.proofs.lemmas.List.{map-append}
use Rattle.qpack_spec.specs.Field.{Field, field_size, total_size}
use Rattle.qpack_spec.specs.Table.{fields_in, eviction_count_for}
use Rattle.qpack_spec.specs.Table as table
use Rattle.qpack_spec.specs.Window.{eviction_count}
use Rattle.qpack_spec.proofs.Sizes.{total_first, total_last, drop_smaller}
use Rattle.qpack_spec.proofs.Windows.{eviction_count_fits, eviction_count_least, eviction_count_bound}
use Rattle.qpack_spec.proofs.Windows.{eviction_count_push}
use Rattle.qpack_table.specs.Positions.{Positions}
use Rattle.qpack_table.specs.Tables.{entry_of, entries_of, IsSized, live_fields}
use Rattle.qpack_table.specs.Entries.{Entry}
use Rattle.qpack_table.proofs.Lookups.{fields_long}

further : (n k : ℕ) (fs : List Field) → n ≤ k → total_size (drop k fs) ≤ total_size (drop n fs)
further n k fs h =
    let m : n + (k - n) ≡ k = omega (arith, h) in
    subst (λ (j : ℕ). total_size (drop j fs) ≤ total_size (drop n fs)) m
    (subst (λ (l : List Field). total_size l ≤ total_size (drop n fs)) (drop-drop (k - n) n fs)
    (drop_smaller (k - n) (drop n fs)))

-- while the rest doesn't fit, more have to go
pub still : (room : ℕ) (fs : List Field) (k : ℕ) → room < total_size (drop k fs) → k < eviction_count room fs
still room fs k h =
    elim (cases_lt k (eviction_count room fs)) [
      | inl lt ↦ lt
      | inr le ↦ absurd (omega (arith, h, further (eviction_count room fs) k fs le, eviction_count_fits room fs))
    ]

-- what is left beside a field is what is left in the room beside it
pub eviction_count_beside : (capacity : ℕ) (fs : List Field) (f : Field) → field_size f ≤ capacity
    → eviction_count (capacity - field_size f) fs ≡ eviction_count capacity (fs ++ f ∷ [])
eviction_count_beside capacity fs f fits =
    let room = capacity - field_size f in
    let less = eviction_count room fs in
    let more = eviction_count capacity (fs ++ f ∷ []) in
    let within : less ≤ length fs = eviction_count_bound room fs in
    let few : more ≤ length fs = eviction_count_push capacity fs f fits in
    let left : total_size (drop less (fs ++ f ∷ [])) ≤ capacity =
    omega (
      arith,
      fits,
      ap (λ (l : List Field). total_size l) (drop-append-le less fs (f ∷ []) within),
      total_last (drop less fs) f,
      eviction_count_fits room fs,
    ) in
    let right : total_size (drop more fs) ≤ room =
    omega (
      arith,
      fits,
      ap (λ (l : List Field). total_size l) (drop-append-le more fs (f ∷ []) few),
      total_last (drop more fs) f,
      eviction_count_fits capacity (fs ++ f ∷ []),
    ) in
    omega (arith, eviction_count_least capacity (fs ++ f ∷ []) less left, eviction_count_least room fs more right)

-- the field of an entry
abbrev field_at : Entry → Field
field_at e = e.field

-- the fields of what is left are what is left of the fields
pub fields_drop : (k : ℕ) (es : List Entry) → drop k (live_fields es) ≡ live_fields (drop k es)
fields_drop zero es = refl
fields_drop (suc k) [] = refl
fields_drop (suc k) (e ∷ es) = fields_drop k es

fields_more : (es : List Entry) (k : ℕ) (e : Entry) → k < length es → e ≡ get_or es k e
    → drop k (live_fields es) ≡ field_at e ∷ drop (k + 1) (live_fields es)
fields_more es k e h is =
    fields_drop k es
    ∙ ap (λ (l : List Entry). live_fields l) (drop_more es k e h ∙ ap (λ (x : Entry). x ∷ drop (k + 1) es) (sym is))
    ∙ ap (λ (fs : List Field). field_at e ∷ fs) (sym (fields_drop (k + 1) es))

-- of the oldest, so many go so far
pub record GoneSoFar (room : ℕ) (es : List Entry) (rest evicted : ℕ) : Type 0 where
  pub within : evicted ≤ length es
  pub sum : rest ≡ total_size (drop evicted (fields_in (entries_of es)))
  pub least : evicted ≤ eviction_count room (fields_in (entries_of es))

-- the first of what is left
pub first_size : (room : ℕ) (es : List Entry) (rest evicted : ℕ) (e : Entry) → evicted < length es → e
    ≡ get_or es evicted e
    → GoneSoFar room es rest evicted
    → rest ≡ field_size (field_at e) + total_size (drop (evicted + 1) (fields_in (entries_of es)))
first_size room es rest evicted e h is k =
    k.sum ∙ ap (λ (l : List Field). total_size l) (fields_more es evicted e h is)
    ∙ total_first (field_at e) (drop (evicted + 1) (fields_in (entries_of es)))

pub evicted_more : (room : ℕ) (es : List Entry) (rest evicted size : ℕ) (e : Entry) → evicted < length es → room < rest
    → e ≡ get_or es evicted e → size ≡ field_size (field_at e) → GoneSoFar room es rest evicted
    → GoneSoFar room es (rest - size) (evicted + 1)
evicted_more room es rest evicted size e h more is same k =
    let whole = first_size room es rest evicted e h is k in
    let go : evicted < eviction_count room (fields_in (entries_of es)) =
    still room (fields_in (entries_of es)) evicted (omega (arith, more, k.sum)) in
    record { within = omega (arith, h); sum = omega (arith, whole, same); least = omega (arith, go) }

-- all that has to go went
pub evicted_fits : (room : ℕ) (es : List Entry) (rest evicted : ℕ) → rest ≤ room → GoneSoFar room es rest evicted
    → evicted ≡ eviction_count room (fields_in (entries_of es))
evicted_fits room es rest evicted fits k =
    omega (arith, k.least, eviction_count_least room (fields_in (entries_of es)) evicted (omega (arith, fits, k.sum)))

pub evicted_all : (room : ℕ) (es : List Entry) (rest evicted : ℕ) → length es ≤ evicted → GoneSoFar room es rest evicted
    → evicted ≡ eviction_count room (fields_in (entries_of es))
evicted_all room es rest evicted all k =
    omega (arith, k.least, all, eviction_count_bound room (fields_in (entries_of es)), fields_long es)

-- what is left is no more than what there was
pub evicted_bound : (room : ℕ) (es : List Entry) (rest evicted size : ℕ) → size ≡ total_size (fields_in (entries_of es))
    → GoneSoFar room es rest evicted → rest ≤ size
evicted_bound room es rest evicted size sum k =
    omega (arith, sum, k.sum, drop_smaller evicted (fields_in (entries_of es)))

-- ---- the oldest go

-- an entry less at the front
pub record Shed (all : List Entry) (i size less : ℕ) (rest : List Entry) : Type 0 where
  pub items : rest ≡ drop (i + 1) all
  pub sum : size - less ≡ total_size (drop (i + 1) (fields_in (entries_of all)))
  pub fits : less ≤ size
  pub few : i + 1 ≤ length all

pub shed : (all now : List Entry) (i size less : ℕ) (e : Entry) (rest : List Entry) → now ≡ drop i all
    → size ≡ total_size (drop i (fields_in (entries_of all))) → now ≡ e ∷ rest
    → less ≡ field_size (field_at e) → Shed all i size less rest
shed all now i size less e rest a b front same =
    let r : rest ≡ drop (i + 1) all = ap (drop 1) (sym front) ∙ ap (drop 1) a ∙ drop-drop 1 i all in
    let f : drop (i + 1) (fields_in (entries_of all)) ≡ fields_in (entries_of rest) = fields_drop (i + 1) all
    ∙ ap (λ (es : List Entry). fields_in (entries_of es)) (sym r) in
    let g : drop i (fields_in (entries_of all)) ≡ field_at e ∷ fields_in (entries_of rest) = fields_drop i all
    ∙ ap (λ (es : List Entry). fields_in (entries_of es)) (sym a ∙ front) in
    let whole : size ≡ field_size (field_at e) + total_size (fields_in (entries_of rest)) =
    b ∙ ap (λ (l : List Field). total_size l) g ∙ total_first (field_at e) (fields_in (entries_of rest)) in
    record {
      items = r;
      sum = omega (arith, whole, same, ap (λ (l : List Field). total_size l) f);
      fits = omega (arith, whole, same);
      few = omega (arith, ap (λ (es : List Entry). length es) (sym a ∙ front), length-drop i all);
    }

-- the sizes that a table keeps, with fewer entries
sized_less : (v w : Positions) (es now : List Entry) (size left capacity : ℕ) (k : ℕ) → IsSized v es size capacity
    → k ≤ length es → now ≡ drop k es → left ≡ total_size (drop k (fields_in (entries_of es)))
    → w.dropped ≡ v.dropped + k → w.total ≡ v.total → IsSized w now left capacity
sized_less v w es now size left capacity k kept few items sum dropped total = record {
  counted = omega (
    arith,
    kept.counted,
    few,
    dropped,
    total,
    ap (λ (l : List Entry). length l) items,
    length-drop k es,
  );
  sum = sum ∙ ap (λ (l : List Field). total_size l) (fields_drop k es
      ∙ ap (λ (l : List Entry). fields_in (entries_of l)) (sym items));
  fits = omega (arith, kept.fits, kept.sum, sum, drop_smaller k (fields_in (entries_of es)));
  small = kept.small;
}

pub live_less : (es now : List Entry) (k : ℕ) → now ≡ drop k es → entries_of now ≡ drop k (entries_of es)
live_less es now k items = ap (λ (l : List Entry). entries_of l) items ∙ sym (drop-map entry_of k es)

-- ---- one comes behind the newest

pub joined_entries : (es : List Entry) (e : Entry) → entries_of (es ++ e ∷ []) ≡ entries_of es ++ entry_of e ∷ []
joined_entries es e = map-append entry_of es (e ∷ [])

pub joined_fields : (es : List Entry) (e : Entry) → live_fields (es ++ e ∷ []) ≡ live_fields es ++ e.field ∷ []
joined_fields es e =
    ap (λ (l : List table.Entry). fields_in l) (joined_entries es e)
    ∙ map-append (λ (x : table.Entry). x.field) (entries_of es) (entry_of e ∷ [])

-- the sizes that a table keeps, with some entries less and one more
pub sized_inserted : (v w : Positions) (es now : List Entry) (size left capacity : ℕ) (e : Entry) (k : ℕ)
    → IsSized v es size capacity
    → field_size (field_at e) ≤ capacity → k ≡ eviction_count capacity (fields_in (entries_of es) ++ field_at e ∷ [])
    → now ≡ drop k es ++ e ∷ []
    → left ≡ total_size (drop k (fields_in (entries_of es))) + field_size (field_at e)
    → w.dropped ≡ v.dropped + k → w.total ≡ v.total + 1 → IsSized w now left capacity
sized_inserted v w es now size left capacity e k kept room evicted items sum dropped total =
    let fs = fields_in (entries_of es) in
    let few : k ≤ length es = omega
    (arith, evicted, eviction_count_push capacity fs (field_at e) room, fields_long es) in
    let within : k ≤ length fs = omega (arith, few, fields_long es) in
    let fits : total_size (drop k fs) + field_size (field_at e) ≤ capacity =
    omega (
      arith,
      total_last (drop k fs) (field_at e),
      ap (λ (l : List Field). total_size l) (drop-append-le k fs (field_at e ∷ []) within),
      ap (λ (n : ℕ). total_size (drop n (fs ++ field_at e ∷ []))) evicted,
      eviction_count_fits capacity (fs ++ field_at e ∷ []),
    ) in
    let fields : fields_in (entries_of now) ≡ drop k fs ++ field_at e ∷ [] =
    ap (λ (l : List Entry). fields_in (entries_of l)) items ∙ joined_fields (drop k es) e
    ∙ ap (λ (l : List Field). l ++ field_at e ∷ []) (sym (fields_drop k es)) in
    record {
      counted = omega (
        arith,
        kept.counted,
        few,
        dropped,
        total,
        ap (λ (l : List Entry). length l) items,
        length-append (drop k es) (e ∷ []),
        length-drop k es,
      );
      sum = omega (arith, sum, ap (λ (l : List Field). total_size l) fields, total_last (drop k fs) (field_at e));
      fits = omega (arith, sum, fits);
      small = kept.small;
    }

-- what is freed leaves the rest
pub left_is : (size freed less left all n : ℕ) → size ≡ all → freed + left ≡ all → n ≡ less
    → size - freed + n ≡ left + less
left_is size freed less left all n a b e = omega (arith, a, b, e)

-- a field's room and what goes for it, of a table under another name
pub record RoomFor (t : table.Table) (f : Field) (n : ℕ) : Type 0 where
  pub fits : field_size f ≤ t.capacity
  pub evicted : n ≡ eviction_count_for t f

pub room_as : (u t : table.Table) (f : Field) (n : ℕ) → u ≡ t → field_size f ≤ t.capacity
    → n ≡ eviction_count_for t f → RoomFor u f n
room_as u t f n same fits is = record {
  fits = omega (arith, fits, ap (λ (x : table.Table). x.capacity) same);
  evicted = is ∙ ap (λ (x : table.Table). eviction_count_for x f) (sym same);
}

-- no more have to go than there are
pub evicted_within : (es : List Entry) (f : Field) (capacity k : ℕ) → field_size f ≤ capacity
    → k ≡ eviction_count capacity (fields_in (entries_of es) ++ f ∷ []) → k ≤ length es
evicted_within es f capacity k fits evicted = omega (
  arith,
  evicted,
  eviction_count_push capacity (fields_in (entries_of es)) f fits,
  fields_long es,
)

-- the sizes that a table keeps, with fewer entries and another capacity
pub sized_resized : (v w : Positions) (es now : List Entry) (size left capacity most : ℕ) (k freed : ℕ)
    → IsSized v es size capacity
    → k ≡ eviction_count most (fields_in (entries_of es)) → most < 2 ^ 30 → now ≡ drop k es
    → freed + total_size (drop k (fields_in (entries_of es))) ≡ total_size (fields_in (entries_of es))
    → left ≡ size - freed → w.dropped ≡ v.dropped + k → w.total ≡ v.total → IsSized w now left most
sized_resized v w es now size left capacity most k freed kept evicted small items sum rest dropped total =
    let fs = fields_in (entries_of es) in
    let few : k ≤ length es = omega (arith, evicted, eviction_count_bound most fs, fields_long es) in
    let is : left ≡ total_size (drop k fs) = omega (arith, rest, sum, kept.sum) in
    let less = sized_less v w es now size left capacity k kept few items is dropped total in
    record {
      counted = less.counted;
      sum = less.sum;
      fits = omega (arith, is, ap (λ (n : ℕ). total_size (drop n fs)) evicted, eviction_count_fits most fs);
      small = small;
    }
