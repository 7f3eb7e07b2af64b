-- Readers of one kind of line or instruction: they read its forms and refuse the first bits of all others.
use Rattle.std.specs.Prelude.{◌≡◌, ℕ, ◌/◌, ◌^◌, ◌⊎◌, Bool, false, List, [], ◌∷◌, Option, None, Some, Result, Ok, Err}
use Rattle.std.specs.Prelude.{if◌then◌else◌, nat_eq}
use Rattle.qpack_spec.specs.Bytes.{◌>>=◌}
use Rattle.qpack_spec.specs.Integer.{UnexpectedEnd, SpellsInteger, integer_at}
use Rattle.qpack_spec.specs.Form.{FormFault, BadInteger, is_cut, Form, RefusesIndex, Spells, Refuses, or_bad_integer}
use Rattle.qpack_spec.specs.Form.{made_at}

-- how the forms are distinguished from others: by the flags above a first integer with a prefix of n bits, once it is
-- read, or by the whole first byte
pub data Kind (L : Type 0) : Type 0 where
  ByFlags : (n : ℕ) (named : ℕ → Option (Form L)) → Kind L
  ByFirstByte : (named : ℕ → Option (Form L)) → Kind L

-- why nothing is read: the bytes of the form, or first bits that are another's
pub data KindFault : Type 0 where
  Unreadable : (fault : FormFault) → KindFault
  Foreign : (bits : ℕ) → KindFault

-- the form that a first byte determines
abbrev pub form_for : {L : Type 0} → Kind L → ℕ → Option (Form L)
form_for (ByFlags n named) first = named (first / 2 ^ n)
form_for (ByFirstByte named) first = named first

-- the bytes are a spelling in one of the forms
abbrev pub SpellsKind : {L : Type 0} → Kind L → List ℕ → L → Type 0
SpellsKind {L} a encoding l = Spells L (form_for a) encoding l

-- after first bits that are another form's, a whole integer is refused
abbrev pub RefusesForeign : {L : Type 0} → Kind L → List ℕ → FormFault → Type 0
RefusesForeign (ByFlags n named) [] fault = ⊥
RefusesForeign (ByFlags n named) (b ∷ bs) fault = (named (b / 2 ^ n) ≡ None) × RefusesIndex n (b ∷ bs) fault
RefusesForeign (ByFirstByte named) encoding fault = ⊥

-- the first bits are another form's: the flags above a whole integer, or the first byte
abbrev pub IsForeign : {L : Type 0} → Kind L → List ℕ → ℕ → Type 0
IsForeign (ByFlags n named) encoding bits = (named bits ≡ None) × ((value : ℕ) × SpellsInteger n encoding bits value)
IsForeign (ByFirstByte named) encoding bits = (named bits ≡ None) × (encoding ≡ bits ∷ [])

-- the bytes are refused
abbrev pub RefusesKind : {L : Type 0} → Kind L → List ℕ → KindFault → Type 0
RefusesKind {L} a encoding (Unreadable fault) = Refuses L (form_for a) encoding fault ⊎ RefusesForeign a encoding fault
RefusesKind a encoding (Foreign bits) = IsForeign a encoding bits

-- the fault is that the bytes end early
abbrev pub is_cut_kind : KindFault → Bool
is_cut_kind (Unreadable fault) = is_cut fault
is_cut_kind (Foreign bits) = false

-- ---- reading from left to right

-- a form's fault as that of its reader
abbrev pub or_unreadable : {A : Type 0} → Result A FormFault → Result A KindFault
or_unreadable (Ok x) = Ok x
or_unreadable (Err fault) = Err (Unreadable fault)

-- what the form that was determined makes of the bytes
abbrev pub made_or_foreign : {L : Type 0} → ℕ → Option (Form L) → List ℕ → Result (L × List ℕ) KindFault
made_or_foreign bits None bytes = Err (Foreign bits)
made_or_foreign bits (Some form) bytes = or_unreadable (made_at form bytes)

-- what is at the front of the bytes, and the bytes after it
unfoldable pub kind_at : {L : Type 0} → Kind L → List ℕ → Result (L × List ℕ) KindFault
kind_at (ByFlags n named) bytes =
    or_unreadable (or_bad_integer (integer_at n bytes)) >>= λ i. made_or_foreign i.0 (named i.0) bytes
kind_at (ByFirstByte named) [] = Err (Unreadable (BadInteger UnexpectedEnd))
kind_at (ByFirstByte named) (b ∷ bytes) = made_or_foreign b (named b) (b ∷ bytes)

-- a number with a prefix of n bits and exactly these flags above it (RFC 7541, section 5.1)
unfoldable pub number_under : ℕ → ℕ → List ℕ → Result (ℕ × List ℕ) KindFault
number_under n flags bytes =
    or_unreadable (or_bad_integer (integer_at n bytes))
    >>= λ i. if nat_eq i.0 flags then Ok (i.1, i.2) else Err (Foreign i.0)
