-- A block that was decoded, and its printed lines.
use Rattle.std.proofs.Common.{◌≡◌, ℕ, List, ◌++◌, length, Result, Ok, Err, refl, sym, ap, ◌∙◌, append_assoc}
use Rattle.std.proofs.lemmas.List.{length-map}
use Rattle.std.specs.Prelude.{codes, ⊤}
use Rattle.std.specs.List.{flat_map}
use Rattle.qpack_spec.specs.Field.{Field, total_size}
use Rattle.qpack_spec.specs.Line.{Line}
use Rattle.qpack_spec.specs.Prefix.{PrefixFault}
use Rattle.qpack_spec.specs.Reading.{Block}
use Rattle.qpack_spec.specs.Stateless.{saturated_size}
use Rattle.qpack_spec.specs.Table.{Table}
use Rattle.qpack_wire.specs.Blocks.{SpellsBlock}
use Rattle.qpack_base.specs.HeaderFields.{field_of}
use Rattle.qpack_base.specs.declared.field.HeaderField.{HeaderField}
use Rattle.qpack_base.specs.declared.parse_error.ParseError.{ParseError}
use Rattle.qpack_wire.specs.Prefixes.{or_prefix_error}
use Rattle.qpack_codec.specs.Stateless.{fields_in}
use Rattle.qpk.specs.Inspecting.{numbers_text, line_text, prefix_text, fields_text}
use Rattle.qpk.specs.Inspections.{PrintsRead, PrintsSection}
use Rattle.qpk.specs.declared.text.Fault.{Fault}

-- an answer that is no error was read
pub prefix_read : (r : Result (ℕ × ℕ) PrefixFault) (required base : ℕ)
    → (let x : Result (ℕ × ℕ) ParseError = Ok (required, base) in x) ≡ or_prefix_error r → r ≡ Ok (required, base)
prefix_read (Ok y) required base e = let s = sym e in cc
prefix_read (Err f) required base e = absurd cc

pub printed : (prefix : ℕ × ℕ) (lines : List Line) (fs : List HeaderField) (count size : ℕ)
    (before first second last : List ℕ)
    → count ≡ length fs → size ≡ saturated_size (total_size (fields_in fs))
    → first ≡ before ++ prefix_text prefix → second ≡ first ++ flat_map line_text lines
    → last ≡ second ++ numbers_text (codes "fields") count size
    → last ≡ before ++ (prefix_text prefix ++ flat_map line_text lines ++ fields_text (fields_in fs))
printed prefix lines fs count size before first second last n m p q r =
    let k : count ≡ length (fields_in fs) = n ∙ sym (length-map fs field_of) in
    let s : last ≡ second ++ fields_text (fields_in fs) =
    r ∙ ap (λ (x : ℕ). second ++ numbers_text (codes "fields") x size) k
    ∙ ap (λ (x : ℕ). second ++ numbers_text (codes "fields") (length (fields_in fs)) x) m in
    let t : second ≡ before ++ (prefix_text prefix ++ flat_map line_text lines) =
    q ∙ ap (λ (x : List ℕ). x ++ flat_map line_text lines) p
    ∙ append_assoc before (prefix_text prefix) (flat_map line_text lines) in
    s ∙ ap (λ (x : List ℕ). x ++ fields_text (fields_in fs)) t
    ∙ append_assoc before (prefix_text prefix ++ flat_map line_text lines) (fields_text (fields_in fs))

-- a block that spells the bytes, and its printed lines
pub section_printed : (t : Table) (bytes : List ℕ) (block : Block) (fs : List Field) (before after : List ℕ)
    (r : Result ⊤ Fault) → SpellsBlock bytes block → PrintsRead t block fs before after r
    → PrintsSection t bytes fs before after r
section_printed t bytes block fs before after (Ok done) spells (prefix, reads, is) =
    (_, record { block = block; spells = spells; prefix = prefix; reads = reads; text = refl }, is)
section_printed t bytes block fs before after (Err fault) spells refused = refused
