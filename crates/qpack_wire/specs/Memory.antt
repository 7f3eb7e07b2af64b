-- When reading asks for memory: at a string whose payload is not empty, once it is whole (RFC 9204, section 4.1.2).
use Rattle.std.specs.Prelude.{◌≡◌, ℕ, ◌⊎◌, List, [], ◌∷◌, Option, None, Some, IsOkAnd}
use Rattle.qpack_spec.specs.Bytes.{Begins}
use Rattle.qpack_spec.specs.Integer.{integer_at}
use Rattle.qpack_spec.specs.Text.{HoldsPayload, string_at}
use Rattle.qpack_spec.specs.Form.{Form, Index, IndexAndValue, NameAndValue, HoldsIndex, HoldsText, InTurn}
use Rattle.qpack_spec.specs.Line.{Line, line_form, SpellsLine}
use Rattle.qpack_spec.specs.Prefix.{Prefix, SpellsPrefix}
use Rattle.qpack_wire.specs.Alone.{Kind, ByFlags, ByFirstByte}

-- the bytes are the front of the form, to the end of such a string: the name, or the value after a whole index or name
abbrev pub AsksForm : {L : Type 0} → Form L → List ℕ → Type 0
AsksForm (Index n make) encoding = ⊥
AsksForm (IndexAndValue n make) encoding = InTurn (λ t. (index : ℕ) × HoldsIndex n index t) (HoldsPayload 8) encoding
AsksForm (NameAndValue n make) encoding =
    HoldsPayload n encoding ⊎ InTurn (λ t. (name : List ℕ) × HoldsText n name t) (HoldsPayload 8) encoding

-- the bytes are such a front of the form that their first byte determines
pub record Asks (L : Type 0) (form_of : ℕ → Option (Form L)) (encoding : List ℕ) : Type 0 where
  pub first : ℕ
  pub more : List ℕ
  pub form : Form L
  pub begins : encoding ≡ first ∷ more
  pub names : form_of first ≡ Some form
  pub asks : AsksForm form encoding

-- memory may be asked for: such a front is at the front of the bytes
abbrev pub AsksForMemory : {L : Type 0} → (ℕ → Option (Form L)) → List ℕ → Type 0
AsksForMemory {L} form_of bytes = Begins (Asks L form_of) bytes

-- ---- a whole section (sections 4.5 and 4.1.2)

-- the bytes are a prefix
abbrev pub HoldsPrefix : List ℕ → Type 0
HoldsPrefix encoding = (p : Prefix) × SpellsPrefix encoding p

-- the bytes are a line
abbrev pub HoldsLine : List ℕ → Type 0
HoldsLine encoding = (l : Line) × SpellsLine encoding l

-- the bytes are a line, or the front of one to the end of a string whose payload is not empty
abbrev pub AsksLine : List ℕ → Type 0
AsksLine encoding = HoldsLine encoding ⊎ Asks Line line_form encoding

-- memory may be asked for: such bytes are after a prefix
abbrev pub AsksSectionForMemory : List ℕ → Type 0
AsksSectionForMemory bytes = Begins (InTurn HoldsPrefix AsksLine) bytes

-- ---- a form, read from left to right

-- the form at the front of the bytes has such a string
abbrev pub AsksFormAt : {L : Type 0} → Option (Form L) → List ℕ → Type 0
AsksFormAt None bytes = ⊥
AsksFormAt (Some (Index n make)) bytes = ⊥
AsksFormAt (Some (IndexAndValue n make)) bytes = IsOkAnd (integer_at n bytes) (λ i. Begins (HoldsPayload 8) i.2)
AsksFormAt (Some (NameAndValue n make)) bytes =
    Begins (HoldsPayload n) bytes ⊎ IsOkAnd (string_at n bytes) (λ m. Begins (HoldsPayload 8) m.2)

-- such a string is in the form that the flags or the first byte determine
abbrev pub AsksAt : {L : Type 0} → Kind L → List ℕ → Type 0
AsksAt (ByFlags n named) bytes = IsOkAnd (integer_at n bytes) (λ i. AsksFormAt (named i.0) bytes)
AsksAt (ByFirstByte named) [] = ⊥
AsksAt (ByFirstByte named) (b ∷ bytes) = AsksFormAt (named b) (b ∷ bytes)
