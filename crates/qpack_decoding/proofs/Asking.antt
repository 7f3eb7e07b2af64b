-- Where reading a section asks for memory: of a line that stands whole, or of a string whose payload is not empty.
use Rattle.std.proofs.Common.{◌≡◌, ℕ, List, ◌∷◌, Option, Some, Result, Ok, Err, refl, sym, subst}
use Rattle.std.proofs.Common.{◌∙◌, ◌≤◌, arith, inl, inr}
use Rattle.std.specs.Prelude.{IsOk}
use Rattle.qpack_spec.specs.Bytes.{Begins}
use Rattle.qpack_spec.specs.Field.{Field, FieldLine}
use Rattle.qpack_spec.specs.Form.{FormFault, Form, Index, IndexAndValue, form_at, made_at, or_bad_integer}
use Rattle.qpack_spec.specs.Form.{or_bad_string}
use Rattle.qpack_spec.specs.Integer.{integer_at}
use Rattle.qpack_spec.specs.Line.{Line, line_form}
use Rattle.qpack_spec.specs.StrictReading.{LinesUnder, strict_line_at}
use Rattle.qpack_spec.specs.Text.{StringFault, string_at}
use Rattle.qpack_spec.proofs.FormLaws.{form_takes}
use Rattle.qpack_base.specs.declared.prefix_string.Error.{Error as StringError}
use Rattle.qpack_base.specs.declared.prefix_string.Error.TheVariants as string
use Rattle.qpack_base.specs.ParseErrors.{error_of_string}
use Rattle.qpack_base.specs.Strings.{FailsString}
use Rattle.qpack_wire.specs.Alone.{ByFirstByte}
use Rattle.qpack_wire.specs.Memory.{HoldsLine, AsksLine, AsksFormAt}
use Rattle.qpack_wire.proofs.Asking.{HasBegun, asks_alone, asks_held, asks_line}
use Rattle.qpack_decoding.specs.declared.section.LineError.{LineError}
use Rattle.qpack_decoding.specs.declared.section.LineError.TheVariants as line
use Rattle.qpack_decoding.specs.declared.section.SectionError.TheVariants.{Memory}
use Rattle.qpack_decoding.specs.FieldSections.{LacksRoomFor}
use Rattle.qpack_decoding.specs.Lines.{AsksInForm, field_of_form, line_error_of_parse}
use Rattle.qpack_decoding.specs.Sections.{error_at}
use Rattle.qpack_decoding.proofs.LineParts.{form_is}
use Rattle.qpack_decoding.proofs.LineReads.{within_line, line_at}

-- ---- parts of a line

-- out of memory for a string is the string's
pub string_memory_of : (e : StringError) (read : Result (ℕ × List ℕ × List ℕ) StringFault) → FailsString e read
    → line_error_of_parse (error_of_string e) ≡ line.Memory → e ≡ string.Memory
string_memory_of string.Memory read h q = refl
string_memory_of (string.HuffmanEncoding e) read h q = absurd h
string_memory_of e read h q = absurd cc

-- an index was read, so that its line stands whole
pub asks_index : (n : ℕ) (make : ℕ → Line) (bytes rest : List ℕ) (flags index : ℕ)
    → or_bad_integer (integer_at n bytes) ≡ Ok (flags, index, rest) → AsksInForm (Index n make) bytes
unfolding made_at
asks_index n make bytes rest flags index q = inl (rw q refl)

-- an index and a value were read, so that their line stands whole
pub asks_named : (n : ℕ) (make : ℕ → List ℕ → Line) (bytes middle rest value : List ℕ) (flags index more : ℕ)
    → or_bad_integer (integer_at n bytes) ≡ Ok (flags, index, middle)
    → or_bad_string (string_at 8 middle) ≡ Ok (more, value, rest) → AsksInForm (IndexAndValue n make) bytes
unfolding made_at
asks_named n make bytes middle rest value flags index more q p = inl (rw (q, p) refl)

-- ---- lines

-- a line was read
pub line_held : (bytes : List ℕ) → IsOk (form_at line_form bytes) → Begins HoldsLine bytes
line_held bytes h = go (form_at line_form bytes) refl h
  where
    go : (r : Result (Line × List ℕ) FormFault) → form_at line_form bytes ≡ r → IsOk r → Begins HoldsLine bytes
    go (Ok l) q h =
        let t = form_takes line_form bytes l.0 l.1 q in
        record { encoding = t.encoding; rest = l.1; parts = t.parts; holds = (l.0, t.spells) }
    go (Err x) q h = absurd cc

-- and so its field
pub field_held : (u : LinesUnder) (bytes : List ℕ) (f : Field) (rest : List ℕ)
    → field_of_form u (form_at line_form bytes) ≡ Ok (f, rest) → Begins HoldsLine bytes
field_held u bytes f rest e = line_held bytes (go (form_at line_form bytes) e)
  where
    go : (r : Result (Line × List ℕ) FormFault) → field_of_form u r ≡ Ok (f, rest) → IsOk r
    go (Ok l) q = refl
    go (Err x) q = absurd cc

-- and so its field within the limit
read_held : (u : LinesUnder) (all first : ℕ) (bytes more : List ℕ) (f : FieldLine) (rest : List ℕ)
    → bytes ≡ first ∷ more → strict_line_at u all first more ≡ Ok (f, rest) → Begins HoldsLine bytes
read_held u all first bytes more f rest cut e =
    line_held bytes (go (form_at line_form bytes) (sym (line_at u all first bytes more cut) ∙ e))
  where
    go : (r : Result (Line × List ℕ) FormFault) → within_line u all first (field_of_form u r) ≡ Ok (f, rest) → IsOk r
    go (Ok l) q = refl
    go (Err x) q = absurd cc

-- a line was read, so that the first was
pub held_begun : (u : LinesUnder) (all first : ℕ) (whole bytes more : List ℕ) (f : FieldLine) (rest : List ℕ)
    → HasBegun whole bytes → bytes ≡ first ∷ more → strict_line_at u all first more ≡ Ok (f, rest)
    → Begins HoldsLine whole
held_begun u all first whole bytes more f rest (inl e) cut read =
    subst (Begins HoldsLine) e (read_held u all first bytes more f rest cut read)
held_begun u all first whole bytes more f rest (inr h) cut read = h

-- what is asked for in the form that the first byte names is asked for in a line
pub asks_in_form : (bytes : List ℕ) (b : ℕ) (bs : List ℕ) (form : Form Line) → bytes ≡ b ∷ bs → line_form b ≡ Some form
    → AsksInForm form bytes → Begins AsksLine bytes
asks_in_form bytes b bs form cut named (inl h) =
    asks_held bytes (line_held bytes (subst (λ (r : Result (Line × List ℕ) FormFault). IsOk r)
    (sym (form_is bytes b bs form cut named)) h))
asks_in_form bytes b bs form cut named (inr h) =
    subst (Begins AsksLine) (sym cut) (asks_line (b ∷ bs) (asks_alone (ByFirstByte line_form) (b ∷ bs)
    (subst (λ (o : Option (Form Line)). AsksFormAt o (b ∷ bs)) (sym named)
    (subst (λ (t : List ℕ). AsksFormAt (Some form) t) cut h))))

-- ---- sections

-- want of memory for a section's line is the line's
pub memory_at : (number offset : ℕ) (e : LineError) → error_at number offset e ≡ Memory → e ≡ line.Memory
memory_at number offset line.Memory q = refl
memory_at number offset e q = absurd cc

-- room that is lacking later was lacking before, since none is given back
pub lacks_before : (limit text_old text_new spans_old spans_new : ℕ) → text_old ≤ text_new → spans_old ≤ spans_new
    → LacksRoomFor limit text_new spans_new → LacksRoomFor limit text_old spans_old
lacks_before limit text_old text_new spans_old spans_new text spans (inl lacks) = inl (omega (arith, text, lacks))
lacks_before limit text_old text_new spans_old spans_new text spans (inr lacks) = inr (omega (arith, spans, lacks))
