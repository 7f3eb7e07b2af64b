-- The forms that lines, encoder instructions and decoder instructions have in bytes (RFC 9204, sections 4.3 to 4.5):
-- the first bits of a byte determine the form, and after them come an integer, an integer and a string, or two strings.
use Rattle.std.specs.Prelude.{◌≡◌, ℕ, ◌⊎◌, Bool, true, false, List, [], ◌∷◌, ◌++◌, Option, None, Some, Result, Ok, Err}
use Rattle.qpack_spec.specs.Bytes.{◌>>=◌}
use Rattle.qpack_spec.specs.Integer.{IntegerFault, Overflow, UnexpectedEnd, SpellsInteger, OverflowsInteger, integer_at}
use Rattle.qpack_spec.specs.Text.{StringFault, EndsEarly, LengthOverflows, BadHuffman, SpellsString, RefusesString}
use Rattle.qpack_spec.specs.Text.{string_at}

-- why a form can't be read: its integer, or one of its strings
pub data FormFault : Type 0 where
  BadInteger : (fault : IntegerFault) → FormFault
  BadString : (fault : StringFault) → FormFault

-- the fault is that the bytes end early
abbrev pub is_cut : FormFault → Bool
is_cut (BadInteger Overflow) = false
is_cut (BadInteger UnexpectedEnd) = true
is_cut (BadString EndsEarly) = true
is_cut (BadString LengthOverflows) = false
is_cut (BadString (BadHuffman fault)) = false

-- a form, and what is made of its parts: an integer with a prefix of n bits; one with a value after it; or a name,
-- whose flag is above a length with a prefix of n - 1 bits, with a value after it. A value is a string that takes whole
-- bytes
pub data Form (L : Type 0) : Type 0 where
  Index : (n : ℕ) (make : ℕ → L) → Form L
  IndexAndValue : (n : ℕ) (make : ℕ → List ℕ → L) → Form L
  NameAndValue : (n : ℕ) (make : List ℕ → List ℕ → L) → Form L

-- the bytes are an integer, with any flags above its prefix
abbrev pub HoldsIndex : ℕ → ℕ → List ℕ → Type 0
HoldsIndex n index encoding = (flags : ℕ) × SpellsInteger n encoding flags index

-- the bytes are a string, with any bits above its flag
abbrev pub HoldsText : ℕ → List ℕ → List ℕ → Type 0
HoldsText n value encoding = (flags : ℕ) × SpellsString n encoding flags value

-- the bytes are one thing and then another
pub record InTurn (P Q : List ℕ → Type 0) (encoding : List ℕ) : Type 0 where
  pub head : List ℕ
  pub tail : List ℕ
  pub parts : encoding ≡ head ++ tail
  pub first : P head
  pub second : Q tail

-- the bytes spell what the form makes of its parts
abbrev pub SpellsForm : {L : Type 0} → Form L → List ℕ → L → Type 0
SpellsForm (Index n make) encoding l = (index : ℕ) × HoldsIndex n index encoding × (l ≡ make index)
SpellsForm (IndexAndValue n make) encoding l =
    (index : ℕ) × (value : List ℕ) × InTurn (HoldsIndex n index) (HoldsText 8 value) encoding × (l ≡ make index value)
SpellsForm (NameAndValue n make) encoding l =
    (name : List ℕ) × (value : List ℕ) × InTurn (HoldsText n name) (HoldsText 8 value) encoding × (l ≡ make name value)

-- a whole integer that is refused
abbrev pub RefusesIndex : ℕ → List ℕ → FormFault → Type 0
RefusesIndex n encoding (BadInteger Overflow) = OverflowsInteger n encoding
RefusesIndex n encoding (BadInteger UnexpectedEnd) = ⊥
RefusesIndex n encoding (BadString fault) = ⊥

-- a whole string that is refused
abbrev pub RefusesText : ℕ → List ℕ → FormFault → Type 0
RefusesText n encoding (BadInteger fault) = ⊥
RefusesText n encoding (BadString fault) = RefusesString n encoding fault

-- the bytes are refused as the form: its first part, or its value after a whole first part
abbrev pub RefusesForm : {L : Type 0} → Form L → List ℕ → FormFault → Type 0
RefusesForm (Index n make) encoding e = RefusesIndex n encoding e
RefusesForm (IndexAndValue n make) encoding e =
    RefusesIndex n encoding e ⊎ InTurn (λ t. (index : ℕ) × HoldsIndex n index t) (λ t. RefusesText 8 t e) encoding
RefusesForm (NameAndValue n make) encoding e =
    RefusesText n encoding e ⊎ InTurn (λ t. (name : List ℕ) × HoldsText n name t) (λ t. RefusesText 8 t e) encoding

-- the bytes spell something in the form that their first byte determines
pub record Spells (L : Type 0) (form_of : ℕ → Option (Form L)) (encoding : List ℕ) (l : L) : Type 0 where
  pub first : ℕ
  pub more : List ℕ
  pub form : Form L
  pub begins : encoding ≡ first ∷ more
  pub names : form_of first ≡ Some form
  pub spells : SpellsForm form encoding l

-- the bytes are refused in the form that their first byte determines
pub record Refuses (L : Type 0) (form_of : ℕ → Option (Form L)) (encoding : List ℕ) (fault : FormFault) : Type 0 where
  pub first : ℕ
  pub more : List ℕ
  pub form : Form L
  pub begins : encoding ≡ first ∷ more
  pub names : form_of first ≡ Some form
  pub refuses : RefusesForm form encoding fault

-- no front is a spelling or a refusal
abbrev pub Truncates : {L : Type 0} → (ℕ → Option (Form L)) → List ℕ → Type 0
Truncates {L} form_of bytes =
    (encoding rest : List ℕ) → bytes ≡ encoding ++ rest
    → ((l : L) → Spells L form_of encoding l → ⊥) × ((fault : FormFault) → Refuses L form_of encoding fault → ⊥)

-- ---- reading from left to right

-- an integer's fault as a form's
abbrev pub or_bad_integer : {A : Type 0} → Result A IntegerFault → Result A FormFault
or_bad_integer (Ok x) = Ok x
or_bad_integer (Err e) = Err (BadInteger e)

-- a string's fault as a form's
abbrev pub or_bad_string : {A : Type 0} → Result A StringFault → Result A FormFault
or_bad_string (Ok x) = Ok x
or_bad_string (Err e) = Err (BadString e)

-- what is made of the value at the bytes' front, and the bytes after it
abbrev pub value_at : {L : Type 0} → (List ℕ → L) → List ℕ → Result (L × List ℕ) FormFault
value_at make bytes = or_bad_string (string_at 8 bytes) >>= λ v. Ok (make v.1, v.2)

-- what a form makes of the bytes' front, and the bytes after it
unfoldable pub made_at : {L : Type 0} → Form L → List ℕ → Result (L × List ℕ) FormFault
made_at (Index n make) bytes = or_bad_integer (integer_at n bytes) >>= λ i. Ok (make i.1, i.2)
made_at (IndexAndValue n make) bytes =
    or_bad_integer (integer_at n bytes) >>= λ i. value_at (make i.1) i.2
made_at (NameAndValue n make) bytes =
    or_bad_string (string_at n bytes) >>= λ m. value_at (make m.1) m.2

-- what the form that was determined makes of the bytes; a byte that determines none, which no byte does, is no form's
-- beginning
abbrev pub in_form : {L : Type 0} → Option (Form L) → List ℕ → Result (L × List ℕ) FormFault
in_form None bytes = Err (BadInteger UnexpectedEnd)
in_form (Some form) bytes = made_at form bytes

-- what is at the front of the bytes, in the form that their first byte determines, and the bytes after it
unfoldable pub form_at : {L : Type 0} → (ℕ → Option (Form L)) → List ℕ → Result (L × List ℕ) FormFault
form_at form_of [] = Err (BadInteger UnexpectedEnd)
form_at form_of (b ∷ bytes) = in_form (form_of b) (b ∷ bytes)
