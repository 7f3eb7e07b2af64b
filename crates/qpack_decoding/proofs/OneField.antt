-- A line that is read into a field section without fields.
use Rattle.std.proofs.Common.{◌≡◌, ◌∙◌, ℕ, List, [], ◌∷◌, length, drop, Result, Ok, Err, sym, ap, subst, arith}
use Rattle.qpack_spec.specs.Field.{FieldLine}
use Rattle.qpack_spec.specs.StrictReading.{LineFault, LinesUnder, strict_line_at}
use Rattle.qpack_base.specs.Cursor.{CursorView}
use Rattle.qpack_decoding.specs.declared.field_section.Span.{Span}
use Rattle.qpack_decoding.specs.declared.section.LineError.{LineError}
use Rattle.qpack_decoding.specs.FieldSections.{AreInTurn, fields_in}
use Rattle.qpack_decoding.specs.Lines.{ReadsLine}
use Rattle.qpack_decoding.specs.Pieces.{ReadsOneLine, line_at}

pub line_is : (u : LinesUnder) (sum : ℕ) (rest : List ℕ) (b : ℕ) → rest ≡ b ∷ drop 1 rest
    → strict_line_at u sum b (drop 1 rest) ≡ line_at u sum rest
unfolding line_at
line_is u sum [] b cut = absurd (omega (arith, ap length cut))
line_is u sum (x ∷ rest) b cut = let same : b ≡ x = cc in ap (λ (y : ℕ). strict_line_at u sum y rest) same

-- where there was nothing
pub read_into_none : (old new : CursorView) (text_old text : List ℕ) (spans_old spans : List Span) (all : ℕ)
    (r : Result ℕ LineError) (read : Result (FieldLine × List ℕ) LineFault) → text_old ≡ [] → spans_old ≡ []
    → ReadsLine old new text_old text spans_old spans all r read → ReadsLine old new [] text [] spans all r read
read_into_none old new text_old text spans_old spans all r read no_text no_spans k =
    subst (λ (x : List ℕ). ReadsLine old new x text [] spans all r read) no_text
    (subst (λ (x : List Span). ReadsLine old new text_old text x spans all r read) no_spans k)

-- a span alone, from the start
alone_in_turn : (spans : List Span) (s : Span) (len : ℕ) → spans ≡ s ∷ [] → AreInTurn 0 (s ∷ []) len
    → AreInTurn 0 spans len
alone_in_turn spans s len is k = subst (λ (x : List Span). AreInTurn 0 x len) (sym is) k

pub one_in_turn : (old new : CursorView) (text : List ℕ) (spans : List Span) (all : ℕ) (r : Result ℕ LineError)
    (read : Result (FieldLine × List ℕ) LineFault) → ReadsLine old new [] text [] spans all r read
    → AreInTurn 0 spans (length text)
one_in_turn old new text spans all (Ok sum) read k =
    alone_in_turn spans k.span (length text) k.spans (k.within.name, k.within.value, k.end)
one_in_turn old new text spans all (Err e) read k =
    subst (λ (x : List Span). AreInTurn 0 x (length text)) (sym k.2) (ap length (sym k.1))

pub one_read : (old new : CursorView) (text : List ℕ) (spans : List Span) (sum : ℕ) (r : Result ℕ LineError)
    (read : Result (FieldLine × List ℕ) LineFault) → ReadsLine old new [] text [] spans sum r read
    → ReadsOneLine old new (fields_in text 0 spans) sum r read
one_read old new text spans sum (Ok with) read k = (
  k.field,
  k.is,
  ap (fields_in text 0) k.spans ∙ ap (λ f. f ∷ []) k.at,
  k.sum_is,
  k.shorter,
  k.total,
)
one_read old new text spans sum (Err e) read k = (k.0, ap (fields_in text 0) k.2)
