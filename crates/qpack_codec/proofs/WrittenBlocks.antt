-- The block of fields, line by line as it is written.
use Rattle.std.proofs.Common.{◌≡◌, List, ℕ, false, [], ◌∷◌, ◌++◌, map, length, take, refl, sym, ap}
use Rattle.std.proofs.Common.{◌∙◌, append_assoc, append-nil}
use Rattle.std.proofs.Math.Seq.{take-append_seam}
use Rattle.std.specs.Borrow.{Bor}
use Rattle.qpack_spec.specs.Field.{Field}
use Rattle.qpack_spec.specs.Line.{Line, written_line, coded_lines, written_lines}
use Rattle.qpack_spec.specs.Prefix.{written_prefix, prefix_for}
use Rattle.qpack_spec.specs.BlockReading.{coded_block, written_block}
use Rattle.qpack_spec.specs.Stateless.{stateless_line, stateless_block}
use Rattle.qpack_base.specs.declared.field.HeaderField.{HeaderField}
use Rattle.qpack_base.specs.HeaderFields.{field_of, fields_behind}

lines_more : (ls : List Line) (l : Line) → written_lines (ls ++ l ∷ []) ≡ written_lines ls ++ written_line l
unfolding coded_lines
lines_more [] l = append-nil (written_line l)
lines_more (k ∷ ls) l = ap (λ (t : List ℕ). written_line k ++ t) (lines_more ls l)
    ∙ sym (append_assoc (written_line k) (written_lines ls) (written_line l))

lines_of_more : (fs : List Field) (f : Field) → map (λ g. stateless_line g) (fs ++ f ∷ [])
    ≡ map (λ g. stateless_line g) fs ++ stateless_line f ∷ []
lines_of_more [] f = refl
lines_of_more (g ∷ fs) f = ap (λ (ls : List Line). stateless_line g ∷ ls) (lines_of_more fs f)

-- of no fields it is the prefix that requires nothing
block_of_none : written_block (stateless_block []) ≡ written_prefix (prefix_for 0 0 0)
unfolding coded_block coded_lines prefix_for
block_of_none = append-nil (written_prefix (record { count = 0; sign = false; delta = 0 }))

-- of a field more it has the field's line more
block_of_more : (fs : List Field) (f : Field)
    → written_block (stateless_block (fs ++ f ∷ []))
    ≡ written_block (stateless_block fs) ++ written_line (stateless_line f)
unfolding coded_block
block_of_more fs f =
    let p = written_prefix (record { count = 0; sign = false; delta = 0 }) in
    ap (λ (t : List ℕ). p ++ t) (ap written_lines (lines_of_more fs f)
    ∙ lines_more (map (λ g. stateless_line g) fs) (stateless_line f))
    ∙ sym (append_assoc p (written_lines (map (λ g. stateless_line g) fs)) (written_line (stateless_line f)))

-- ---- a block that grows in a vector

-- the first bytes are the prefix
pub begun : (before now : List ℕ) → now ≡ before ++ written_prefix (prefix_for 0 0 0)
    → now ≡ before ++ written_block (stateless_block [])
begun before now e = e ∙ ap (λ (t : List ℕ). before ++ t) (sym block_of_none)

-- a line more
pub grown : (before mid now : List ℕ) (fs : List Field) (f : Field) → mid ≡ before ++ written_block (stateless_block fs)
    → now ≡ mid ++ written_line (stateless_line f)
    → now ≡ before ++ written_block (stateless_block (fs ++ f ∷ []))
grown before mid now fs f e h =
    h ∙ ap (λ (t : List ℕ). t ++ written_line (stateless_line f)) e
    ∙ append_assoc before (written_block (stateless_block fs)) (written_line (stateless_line f))
    ∙ ap (λ (t : List ℕ). before ++ t) (sym (block_of_more fs f))

-- the line of a field whose parts are lent
pub lent_parts : (mid now name value : List ℕ) (f : Field) → name ≡ f.name → value ≡ f.value
    → now ≡ mid ++ written_line (stateless_line (record { name = name; value = value }))
    → now ≡ mid ++ written_line (stateless_line f)
lent_parts mid now name value f same also is =
    is
    ∙ ap (λ (n : List ℕ). mid ++ written_line (stateless_line (record { name = n; value = value }))) same
    ∙ ap (λ (v : List ℕ). mid ++ written_line (stateless_line (record { name = f.name; value = v }))) also

-- what stood before is at the front of what has more behind it
pub take-append_front : (before more mid now : List ℕ) (k : ℕ) → length before ≡ k → now ≡ mid → mid ≡ before ++ more
    → take k now ≡ before
take-append_front before more mid now k len same e =
    ap (λ (m : ℕ). take m now) (sym len) ∙ ap (take (length before)) (same ∙ e) ∙ take-append_seam before more

pub behind_more : (fs : List (Bor HeaderField)) (f : Bor HeaderField)
    → fields_behind (fs ++ f ∷ []) ≡ fields_behind fs ++ field_of f.now ∷ []
behind_more [] f = refl
behind_more (g ∷ fs) f = ap (λ (xs : List Field). field_of g.now ∷ xs) (behind_more fs f)
