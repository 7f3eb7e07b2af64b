-- Errors of the code tell the faults of the definitions.
use Rattle.std.proofs.Common.{◌≡◌, ◌≢◌, ℕ, ◌<◌, List, Option, None, Some, Ok, Err, Result, refl, ap, subst, false}
use Rattle.std.proofs.Common.{inl, inr}
use Rattle.std.specs.Prelude.{nat_eq, nat_lt, ◌&&◌}
use Rattle.std.proofs.lemmas.Bool.{cases_lt, le-leb, lt-leb}
use Rattle.qpack_spec.specs.Line.{Line}
use Rattle.qpack_spec.specs.Prefix.{Prefix, PrefixFault, read_strict_prefix}
use Rattle.qpack_spec.specs.Reading.{Fault, line_field}
use Rattle.qpack_spec.specs.Table.{Table, insert_count}
use Rattle.qpack_spec.specs.Window.{maximum_capacity}
use Rattle.qpack_base.specs.declared.parse_error.ParseError.{ParseError}
use Rattle.qpack_base.specs.declared.parse_error.ParseError.TheVariants.{Memory}
use Rattle.qpack_wire.specs.Alone.{KindFault}
use Rattle.qpack_wire.specs.Answers.{fault_of, FailsForm, ReadAs}
use Rattle.qpack_wire.specs.Prefixes.{or_prefix_error, error_of_prefix}
use Rattle.qpack_codec.specs.Sections.{FailsWith}
use Rattle.qpack_codec.specs.declared.error.DecoderError.{DecoderError}
use Rattle.qpack_codec.specs.declared.error.DecoderError.TheVariants as decoder
use Rattle.qpk_show.specs.Sections.{Under, Unreadable, Meaningless, PastRequired, or_unreadable_line, or_meaningless}
use Rattle.qpk_show.specs.Sections.{LineFault, reference_of, shown_field, shown_section_behind, Refused, BadPrefix}
use Rattle.qpk_show.specs.Answers.{FailsLine, TellsFault, unreadable_line, meaningless_line}
use Rattle.qpk_show.specs.declared.section.LineFault.{LineFault as ReadFault}
use Rattle.qpk_show.specs.declared.section.LineFault.TheVariants as line
use Rattle.qpk_show.specs.declared.section.LineError.{LineError}
use Rattle.qpk_show.specs.declared.section.LineError.TheVariants as error

-- bytes that can't be read have a fault, which the error tells
pub fault_told : {A : Type 0} (e : ParseError) (read : Result A KindFault) → e ≢ Memory → FailsForm e read
    → (k : KindFault) × (fault_of e ≡ Some k) × (read ≡ Err k)
fault_told Memory read room h = absurd (room refl)
fault_told e read room h = tells (fault_of e) refl h
  where
    tells : (o : Option KindFault) → fault_of e ≡ o → ReadAs read o
        → (k : KindFault) × (fault_of e ≡ Some k) × (read ≡ Err k)
    tells None q h = absurd h
    tells (Some k) q h = (k, q, h)

-- a line that can't be read
pub line_unreadable : {A : Type 0} (e : ParseError) (read : Result A KindFault) → FailsForm e read
    → FailsLine (unreadable_line e) (or_unreadable_line read)
line_unreadable Memory read h = tt
line_unreadable e read h = tells (fault_of e) refl h
  where
    tells : (o : Option KindFault) → fault_of e ≡ o → ReadAs read o
        → FailsLine (error.Fault (line.Unreadable e)) (or_unreadable_line read)
    tells None q h = absurd h
    tells (Some k) q h = (Unreadable k, (k, q, refl), ap or_unreadable_line h)

-- a line that means nothing, under a required insert count that is not passed
pub line_meaningless : {A : Type 0} (e : DecoderError) (read : Result A Fault) → FailsWith e read
    → FailsLine (meaningless_line e) (or_meaningless read)
line_meaningless decoder.Memory read h = tt
line_meaningless e (Ok x) h = absurd h
line_meaningless e (Err f) h = (Meaningless f, (f, h, refl), refl)

-- an error that is a fault tells it
pub fails_for : {A : Type 0} (e : LineError) (fault : ReadFault) (read : Result A LineFault) → FailsLine e read
    → e ≡ error.Fault fault → (f : LineFault) × TellsFault fault f × (read ≡ Err f)
fails_for error.Memory fault read h is = absurd cc
fails_for (error.Fault e) fault read h is =
    let same : e ≡ fault = cc in
    subst (λ (x : ReadFault). (f : LineFault) × TellsFault x f × (read ≡ Err f)) same h

-- a prefix that is out of range
pub behind_bad : (t : Table) (section : ℕ) (p : Prefix) (rest : List ℕ) (f : PrefixFault)
    → (nat_eq (maximum_capacity t.agreed_max t.capacity) 0 && nat_lt 0 p.count) ≡ false
    → read_strict_prefix (insert_count t) (maximum_capacity t.agreed_max t.capacity) p ≡ Err f
    → shown_section_behind t section (Ok (p, rest)) ≡ Refused (BadPrefix f)
behind_bad t section p rest f counted read = rw (counted, read) refl

-- whether a line passes the required insert count
pub not_past : (u : Under) (l : Line) → (u.required < reference_of u.base l → ⊥)
    → shown_field u l ≡ or_meaningless (line_field u.window u.base l)
not_past u l h =
    elim (cases_lt u.required (reference_of u.base l)) [
      | inl lt ↦ absurd (h lt)
      | inr le ↦ rw (le-leb _ _ le) refl
    ]

pub past : (u : Under) (l : Line) → u.required < reference_of u.base l
    → shown_field u l ≡ Err (PastRequired (reference_of u.base l))
past u l h = rw (lt-leb _ _ h) refl

-- a prefix that is out of range
pub prefix_told : {A : Type 0} (read : Result A PrefixFault) (e : ParseError) → Err e ≡ or_prefix_error read
    → (f : PrefixFault) × (e ≡ error_of_prefix f) × (read ≡ Err f)
prefix_told (Ok x) e h = absurd cc
prefix_told (Err f) e h = (f, cc, refl)
