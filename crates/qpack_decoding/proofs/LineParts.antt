-- A line of a section, of the parts that are read of it.
use Rattle.std.proofs.Common.{◌≡◌, ℕ, ◌+◌, ◌-◌, ◌≤◌, Bool, true, false, List, [], ◌∷◌, ◌++◌}
use Rattle.std.proofs.Common.{length, Result, Ok}
use Rattle.std.proofs.Common.{Err, refl, sym, ap, subst, ◌∙◌, arith, append_assoc, append-nil, max, Some}
use Rattle.std.specs.Prelude.{nat_le, if◌then◌else◌}
use Rattle.std.proofs.lemmas.Bool.{le-leb}
use Rattle.qpack_spec.specs.Bytes.{◌>>=◌}
use Rattle.qpack_spec.specs.Field.{Field}
use Rattle.qpack_spec.specs.Form.{FormFault, Form, Index, IndexAndValue, NameAndValue, form_at, made_at, or_bad_integer}
use Rattle.qpack_spec.specs.Form.{or_bad_string}
use Rattle.qpack_spec.specs.Integer.{integer_at}
use Rattle.qpack_spec.specs.Line.{Line, Literal, line_form}
use Rattle.qpack_spec.specs.Reading.{Fault, BadForm, line_field, static_field, relative_field, post_base_field}
use Rattle.qpack_spec.specs.Reading.{field_with_value, references_of_line, greatest_of}
use Rattle.qpack_spec.specs.StrictReading.{LineFault, Meaningless, LinesUnder, or_meaningless, strict_field}
use Rattle.qpack_spec.specs.StrictReading as strict
use Rattle.qpack_spec.specs.Text.{string_at}
use Rattle.qpack_spec.specs.Window.{with_value}
use Rattle.qpack_base.specs.Cursor.{CursorView}
use Rattle.qpack_base.specs.Writes.{kept_within}
use Rattle.qpack_wire.proofs.Alones.{form_own}
use Rattle.qpack_wire.specs.BlockLines.{indexed_line, named_line}
use Rattle.qpack_decoding.specs.declared.section.LineError.{LineError}
use Rattle.qpack_decoding.specs.declared.section.LineError.TheVariants.{Memory}
use Rattle.qpack_decoding.specs.declared.section.lines.Lengths.{Lengths}
use Rattle.qpack_wire.specs.declared.block.line.Reference.{Reference}
use Rattle.qpack_wire.specs.declared.block.line.Reference.TheVariants.{Static, Relative, PostBase}
use Rattle.qpack_decoding.specs.Lines.{FailsLine, or_bad_line, AppendsEntry, AppendsLine, Stands}
use Rattle.qpack_decoding.specs.Lines.{Extends}
use Rattle.qpack_decoding.specs.Lines.{entry_of, strict_entry, field_of_form}

-- ---- faults

-- a fault of a part is the whole's
pub fails_by : {A B : Type 0} (e : LineError) (part : Result A LineFault) (whole : Result B LineFault)
    → FailsLine e part
    → ((x : LineFault) → part ≡ Err x → whole ≡ Err x) → FailsLine e whole
fails_by Memory part whole h on = tt
fails_by e (Ok x) whole h on = absurd h
fails_by {A} {B} e (Err x) whole h on = subst (λ (r : Result B LineFault). FailsLine e r) (sym (on x refl)) h

-- and so is one of its bytes
pub fails_in_bytes : {A B : Type 0} (e : LineError) (part : Result A FormFault) (line : Result B LineFault)
    → FailsLine e (or_bad_line part)
    → ((x : FormFault) → part ≡ Err x → line ≡ Err (Meaningless (BadForm x))) → FailsLine e line
fails_in_bytes Memory part line h on = tt
fails_in_bytes e (Ok x) line h on = absurd h
fails_in_bytes {A} {B} e (Err x) line h on = subst (λ (r : Result B LineFault). FailsLine e r) (sym (on x refl)) h

-- nothing stands behind
pub extends_none : (text : List ℕ) → Extends text text
extends_none text = ([], sym (append-nil text))

pub extends_same : (old new : List ℕ) → new ≡ old → Extends old new
extends_same old new e = ([], e ∙ sym (append-nil old))

-- ---- the field of a line by its index

max_zero : (n : ℕ) → max n 0 ≡ n
max_zero n = omega arith

strict_indexed : (u : LinesUnder) (r : Reference) (index : ℕ)
    → strict_field u (indexed_line r index) ≡ entry_of u r index
unfolding strict_field line_field references_of_line greatest_of
strict_indexed u Static index = rw (le-leb 0 u.required (omega arith)) refl
strict_indexed u Relative index = rw (max_zero (u.base - index)) refl
strict_indexed u PostBase index = rw (max_zero (u.base + index + 1)) refl

-- a field with another value
pub with_text : List ℕ → Result Field LineFault → Result Field LineFault
with_text value (Ok f) = Ok (with_value value f)
with_text value (Err e) = Err e

text_last : (value : List ℕ) (found : Result Field Fault) → or_meaningless (field_with_value value found)
    ≡ with_text value (or_meaningless found)
unfolding with_text
text_last value (Ok f) = refl
text_last value (Err e) = refl

entry_last : (required absolute : ℕ) (value : List ℕ) (found : Result Field Fault)
    → strict_entry required absolute (field_with_value value found)
    ≡ with_text value (strict_entry required absolute found)
unfolding with_text
entry_last required absolute value found = go (nat_le absolute required)
  where
    go : (b : Bool)
        → (if b then or_meaningless (field_with_value value found) else Err (strict.PastRequired absolute))
        ≡ with_text value (if b then or_meaningless found else Err (strict.PastRequired absolute))
    go true = text_last value found
    go false = refl

strict_named : (u : LinesUnder) (r : Reference) (index : ℕ) (value : List ℕ)
    → strict_field u (named_line r index value) ≡ with_text value (entry_of u r index)
unfolding strict_field line_field references_of_line greatest_of
strict_named u Static index value =
    rw (le-leb 0 u.required (omega arith)) (text_last value (static_field index))
strict_named u Relative index value =
    rw (max_zero (u.base - index)) (entry_last u.required (u.base - index) value (relative_field u.window u.base index))
strict_named u PostBase index value =
    rw (max_zero (u.base + index + 1))
    (entry_last u.required (u.base + index + 1) value (post_base_field u.window u.base index))

-- ---- a line by its parts

abbrev pub and_rest : List ℕ → Result Field LineFault → Result (Field × List ℕ) LineFault
and_rest rest r = r >>= λ f. Ok (f, rest)

pub value_is : (rest value : List ℕ) (entry : Result Field LineFault) (f : Field) → entry ≡ Ok f
    → and_rest rest (with_text value entry) ≡ Ok (with_value value f, rest)
unfolding with_text
value_is rest value entry f q = rw q refl

pub value_fails : (rest value : List ℕ) (entry : Result Field LineFault) (x : LineFault) → entry ≡ Err x
    → and_rest rest (with_text value entry) ≡ Err x
unfolding with_text
value_fails rest value entry x q = rw q refl

pub index_bad : (u : LinesUnder) (n : ℕ) (make : ℕ → Line) (bytes : List ℕ) (x : FormFault)
    → or_bad_integer (integer_at n bytes) ≡ Err x
    → field_of_form u (made_at (Index n make) bytes) ≡ Err (Meaningless (BadForm x))
unfolding made_at
index_bad u n make bytes x q = rw q refl

pub index_good : (u : LinesUnder) (r : Reference) (n : ℕ) (bytes rest : List ℕ) (flags index : ℕ)
    → or_bad_integer (integer_at n bytes) ≡ Ok (flags, index, rest)
    → field_of_form u (made_at (Index n (indexed_line r)) bytes) ≡ and_rest rest (entry_of u r index)
unfolding made_at
index_good u r n bytes rest flags index q = rw q (ap (and_rest rest) (strict_indexed u r index))

pub name_bad : (u : LinesUnder) (n : ℕ) (make : ℕ → List ℕ → Line) (bytes : List ℕ) (x : FormFault)
    → or_bad_integer (integer_at n bytes) ≡ Err x
    → field_of_form u (made_at (IndexAndValue n make) bytes) ≡ Err (Meaningless (BadForm x))
unfolding made_at
name_bad u n make bytes x q = rw q refl

pub value_bad : (u : LinesUnder) (n : ℕ) (make : ℕ → List ℕ → Line) (bytes middle : List ℕ) (flags index : ℕ)
    (x : FormFault) → or_bad_integer (integer_at n bytes) ≡ Ok (flags, index, middle)
    → or_bad_string (string_at 8 middle) ≡ Err x
    → field_of_form u (made_at (IndexAndValue n make) bytes) ≡ Err (Meaningless (BadForm x))
unfolding made_at
value_bad u n make bytes middle flags index x q p = rw (q, p) refl

pub value_good : (u : LinesUnder) (r : Reference) (n : ℕ) (bytes middle rest : List ℕ) (flags index more : ℕ)
    (value : List ℕ) → or_bad_integer (integer_at n bytes) ≡ Ok (flags, index, middle)
    → or_bad_string (string_at 8 middle) ≡ Ok (more, value, rest)
    → field_of_form u (made_at (IndexAndValue n (named_line r)) bytes)
    ≡ and_rest rest (with_text value (entry_of u r index))
unfolding made_at
value_good u r n bytes middle rest flags index more value q p =
    rw (q, p) (ap (and_rest rest) (strict_named u r index value))

pub literal_name_bad : (u : LinesUnder) (bytes : List ℕ) (x : FormFault) → or_bad_string (string_at 4 bytes) ≡ Err x
    → field_of_form u (made_at (NameAndValue 4 Literal) bytes) ≡ Err (Meaningless (BadForm x))
unfolding made_at
literal_name_bad u bytes x q = rw q refl

pub literal_value_bad : (u : LinesUnder) (bytes middle name : List ℕ) (flags : ℕ) (x : FormFault)
    → or_bad_string (string_at 4 bytes) ≡ Ok (flags, name, middle) → or_bad_string (string_at 8 middle) ≡ Err x
    → field_of_form u (made_at (NameAndValue 4 Literal) bytes) ≡ Err (Meaningless (BadForm x))
unfolding made_at
literal_value_bad u bytes middle name flags x q p = rw (q, p) refl

pub literal_good : (u : LinesUnder) (bytes middle rest name value : List ℕ) (flags more : ℕ)
    → or_bad_string (string_at 4 bytes) ≡ Ok (flags, name, middle)
    → or_bad_string (string_at 8 middle) ≡ Ok (more, value, rest)
    → field_of_form u (made_at (NameAndValue 4 Literal) bytes) ≡ Ok (record { name = name; value = value }, rest)
unfolding made_at strict_field line_field references_of_line greatest_of
literal_good u bytes middle rest name value flags more q p =
    rw (q, p, le-leb 0 u.required (omega arith)) refl

-- ---- what was appended

pub entry_line : (most : ℕ) (old new : CursorView) (text_old text_new : List ℕ) (result : Result Lengths LineError)
    (entry : Result Field LineFault) (whole : Result (Field × List ℕ) LineFault) → whole ≡ and_rest new.rest entry
    → new.total ≡ old.total → AppendsEntry most text_old text_new result entry
    → AppendsLine most old new text_old text_new result whole
entry_line most old new text_old text_new (Ok lengths) entry whole is total h =
    (h.0, is ∙ ap (and_rest new.rest) h.1, h.2, total)
entry_line most old new text_old text_new (Err e) entry whole is total h =
    (fails_by e entry whole h.0 (λ x q. is ∙ ap (and_rest new.rest) q), h.1)

-- whatever was appended first, more may stand behind it
pub extends_more : (text_old mid text_new more value : List ℕ) → mid ≡ text_old ++ more → text_new ≡ mid ++ value
    → Extends text_old text_new
extends_more text_old mid text_new more value m t =
    (more ++ value, t ∙ ap (λ x. x ++ value) m ∙ append_assoc text_old more value)

-- bytes that are no more than the room are kept
kept_whole : (most : ℕ) (bytes : List ℕ) → length bytes ≤ most → kept_within most bytes ≡ bytes
kept_whole most bytes le = rw (le-leb (length bytes) most le) refl

-- a name, and then a value in the room that is left
pub stands_named : (most : ℕ) (text_old mid text_new value : List ℕ) (lengths : Lengths) (f : Field)
    → lengths.name ≡ length f.name → lengths.value ≡ length value → mid ≡ text_old ++ kept_within most f.name
    → text_new ≡ mid ++ kept_within (most - lengths.name) value
    → Stands most text_old text_new lengths (with_value value f)
stands_named most text_old mid text_new value lengths f n v m t =
    record {
      name = n;
      value = v;
      text = λ fits.
          t ∙ ap (λ x. x ++ kept_within (most - lengths.name) value) m
          ∙ ap (λ x. text_old ++ x ++ kept_within (most - lengths.name) value)
          (kept_whole most f.name (omega (arith, fits)))
          ∙ ap (λ x. text_old ++ f.name ++ x) (kept_whole (most - lengths.name) value (omega (arith, fits, n)));
      extends = extends_more text_old mid text_new (kept_within most f.name) (kept_within (most - lengths.name) value) m
          t;
    }

-- ---- the form that a first byte names

pub form_is : (bytes : List ℕ) (b : ℕ) (bs : List ℕ) (form : Form Line) → bytes ≡ b ∷ bs → line_form b ≡ Some form
    → form_at line_form bytes ≡ made_at form bytes
form_is bytes b bs form cut named =
    subst (λ (x : List ℕ). form_at line_form x ≡ made_at form x) (sym cut) (form_own line_form b bs form named)
