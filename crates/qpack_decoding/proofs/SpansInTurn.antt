-- Spans that are in turn, and so tile a text.
use Rattle.std.proofs.Common.{◌≡◌, ℕ, zero, suc, ◌+◌, ◌-◌, ◌≤◌, List, [], ◌∷◌, ◌++◌, ◌∙◌, length, take, drop, slice_range}
use Rattle.std.proofs.Common.{Result, get_or, refl, sym, ap, subst, arith, append_assoc, length-append, drop_of_length-le}
use Rattle.std.proofs.lemmas.List.{length-take-le, length-drop}
use Rattle.std.proofs.lemmas.List.Folds.{drop_split}
use Rattle.std.specs.Prelude.{◌<◌, None, Some, slice_get, slice_index_or}
use Rattle.qpack_spec.specs.Field.{FieldLine}
use Rattle.qpack_spec.specs.StrictReading.{LineFault}
use Rattle.qpack_base.specs.Cursor.{CursorView}
use Rattle.qpack_decoding.specs.declared.field_section.Span.{Span}
use Rattle.qpack_decoding.specs.FieldSections.{IsWithin, AreInTurn, field_at, fields_in, start_of, text_of, text_of_field}
use Rattle.qpack_decoding.specs.FieldSections.{begins_at}
use Rattle.qpack_decoding.specs.Lines.{Adds}

reaches : (start len : ℕ) (spans : List Span) → AreInTurn start spans len → start ≤ len
reaches start len [] k = omega (arith, k)
reaches start len (s ∷ spans) (name, value, more) = omega (arith, name, value, reaches s.end len spans more)

-- the first is within the text
pub first_within : (start len : ℕ) (s : Span) (spans : List Span) → AreInTurn start (s ∷ spans) len
    → IsWithin len start s
first_within start len s spans (name, value, more) =
    record { name = name; value = value; within = reaches s.end len spans more }

pub front_within : (start len : ℕ) (spans : List Span) (s : Span) (rest : List Span) → AreInTurn start spans len
    → spans ≡ s ∷ rest → IsWithin len start s
front_within start len spans s rest k is =
    first_within start len s rest (subst (λ (l : List Span). AreInTurn start l len) is k)

-- past the first, a field begins at the end of the one before it
pub starts_later : (start : ℕ) (spans : List Span) (i : ℕ) (none : Span) → i < length spans
    → start_of start spans (suc i) ≡ (slice_index_or spans i none).end
starts_later start [] i none within = absurd (omega (arith, within))
starts_later start (t ∷ spans) zero none within = refl
starts_later start (t ∷ spans) (suc i) none within = starts_later t.end spans i none (omega (arith, within))

-- the one at an index is within the text
pub within_at : (start len : ℕ) (spans : List Span) (i : ℕ) (s : Span) → AreInTurn start spans len → i < length spans
    → s ≡ get_or spans i s → IsWithin len (start_of start spans i) s
within_at start len [] i s k within is = absurd (omega (arith, within))
within_at start len (t ∷ spans) zero s k within is =
    subst (λ (x : Span). IsWithin len start x) (sym is) (first_within start len t spans k)
within_at start len (t ∷ spans) (suc i) s (name, value, more) within is =
    within_at t.end len spans i s more (omega (arith, within)) is

-- there are as many fields
pub count_in : (text : List ℕ) (start : ℕ) (spans : List Span) → length (fields_in text start spans) ≡ length spans
count_in text start [] = refl
count_in text start (s ∷ spans) = ap suc (count_in text s.end spans)

-- where there is no field, there is no span
pub none_in : (text : List ℕ) (start : ℕ) (spans : List Span) → fields_in text start spans ≡ [] → spans ≡ []
none_in text start [] none = refl
none_in text start (s ∷ spans) none = absurd cc

length_between : (text : List ℕ) (from to : ℕ) → to ≤ length text → length (slice_range text from to) ≡ to - from
length_between text from to within =
    length-take-le (to - from) (drop from text) (omega (arith, within, length-drop from text))

-- the span's field has as many bytes as the span
length_there : (text : List ℕ) (start : ℕ) (s : Span) → IsWithin (length text) start s
    → start + length (text_of_field (field_at text start s)) ≡ s.end
length_there text start s w =
    let name = length_between text start s.middle (omega (arith, w.value, w.within)) in
    let value = length_between text s.middle s.end w.within in
    omega (
      arith,
      w.name,
      w.value,
      name,
      value,
      length-append (slice_range text start s.middle) (slice_range text s.middle s.end),
    )

starts_later_by : (text : List ℕ) (start : ℕ) (spans : List Span) (i : ℕ) → AreInTurn start spans (length text)
    → i < length spans → start_of start spans i ≡ start + begins_at (fields_in text start spans) i
starts_later_by text start [] i k within = absurd (omega (arith, within))
starts_later_by text start (s ∷ spans) zero k within = omega arith
starts_later_by text start (s ∷ spans) (suc i) k within =
    let f = field_at text start s in
    let later = starts_later_by text s.end spans i k.2 (omega (arith, within)) in
    let first = length_there text start s (first_within start (length text) s spans k) in
    omega (arith, later, first, length-append (text_of_field f) (text_of (take i (fields_in text s.end spans))))

-- the field at an index begins behind those before it
pub starts_behind : (text : List ℕ) (spans : List Span) (i : ℕ) → AreInTurn 0 spans (length text) → i < length spans
    → start_of 0 spans i ≡ begins_at (fields_in text 0 spans) i
starts_behind text spans i k within = omega (arith, starts_later_by text 0 spans i k within)

-- the field at an index is that of the span there
pub field_there : (text : List ℕ) (start : ℕ) (spans : List Span) (i : ℕ) (s : Span) → i < length spans
    → s ≡ get_or spans i s → slice_get (fields_in text start spans) i ≡ Some (field_at text (start_of start spans i) s)
field_there text start [] i s within is = absurd (omega (arith, within))
field_there text start (t ∷ spans) zero s within is = ap (λ (x : Span). Some (field_at text start x)) (sym is)
field_there text start (t ∷ spans) (suc i) s within is =
    field_there text t.end spans i s (omega (arith, within)) is

-- or there is none
pub no_field_there : (text : List ℕ) (start : ℕ) (spans : List Span) (i : ℕ) → length spans ≤ i
    → slice_get (fields_in text start spans) i ≡ None
no_field_there text start [] i past = refl
no_field_there text start (s ∷ spans) zero past = absurd (omega (arith, past))
no_field_there text start (s ∷ spans) (suc i) past = no_field_there text s.end spans i (omega (arith, past))

text_from : (start : ℕ) (text : List ℕ) (spans : List Span) → AreInTurn start spans (length text)
    → drop start text ≡ text_of (fields_in text start spans)
text_from start text [] k = drop_of_length-le text (omega (arith, k))
text_from start text (s ∷ spans) (name, value, more) =
    drop_split text start s.middle name
    ∙ ap (λ (t : List ℕ). slice_range text start s.middle ++ t)
    (drop_split text s.middle s.end value
    ∙ ap (λ (t : List ℕ). slice_range text s.middle s.end ++ t) (text_from s.end text spans more))
    ∙ sym (append_assoc (slice_range text start s.middle) (slice_range text s.middle s.end)
    (text_of (fields_in text s.end spans)))

-- their names and values, one after the other, are the whole text
pub text_of_spans : (text : List ℕ) (spans : List Span) → AreInTurn 0 spans (length text)
    → text ≡ text_of (fields_in text 0 spans)
text_of_spans text spans k = text_from 0 text spans k

one_more : (start mid len : ℕ) (spans : List Span) (s : Span) → AreInTurn start spans mid → mid ≤ s.middle
    → s.middle ≤ s.end → s.end ≡ len → AreInTurn start (spans ++ s ∷ []) len
one_more start mid len [] s k name value end = (omega (arith, k, name), value, end)
one_more start mid len (t ∷ spans) s (head, tail, more) name value end =
    (head, tail, one_more t.end mid len spans s more name value end)

-- with one more field they still are
pub in_turn_more : (old new : CursorView) (text_old text_new : List ℕ) (spans_old spans_new : List Span) (all sum : ℕ)
    (read : Result (FieldLine × List ℕ) LineFault)
    → Adds old new text_old text_new spans_old spans_new all sum read → AreInTurn 0 spans_old (length text_old)
    → AreInTurn 0 spans_new (length text_new)
in_turn_more old new text_old text_new spans_old spans_new all sum read a k =
    subst (λ (l : List Span). AreInTurn 0 l (length text_new)) (sym a.spans)
    (one_more 0 (length text_old) (length text_new) spans_old a.span k a.within.name a.within.value a.end)
