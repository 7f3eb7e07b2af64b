-- What every reader of lines, encoder instructions and decoder instructions relies on, as statements; the crate's law
-- functions promise them.
use Rattle.std.specs.Prelude.{◌≡◌, ℕ, ◌⊎◌, ◌↔◌, true, false, List, ◌++◌, Option, Ok, Err}
use Rattle.qpack_spec.specs.Bytes.{Begins}
use Rattle.qpack_spec.specs.Form.{FormFault, is_cut, Form, Spells, Refuses, Truncates, form_at}

-- one spelling is of one thing
abbrev pub FormsHaveOneValue : {L : Type 0} → (ℕ → Option (Form L)) → Type 0
FormsHaveOneValue {L} form_of = (encoding : List ℕ) (l m : L) → Spells L form_of encoding l
    → Spells L form_of encoding m → l ≡ m

-- a spelling or a refusal
abbrev pub EndsForm : {L : Type 0} → (ℕ → Option (Form L)) → List ℕ → Type 0
EndsForm {L} form_of encoding = ((l : L) × Spells L form_of encoding l)
    ⊎ ((fault : FormFault) × Refuses L form_of encoding fault)

-- no spelling or refusal begins another
abbrev pub NoFormBeginsAnother : {L : Type 0} → (ℕ → Option (Form L)) → Type 0
NoFormBeginsAnother form_of = (a b x y : List ℕ) → EndsForm form_of a → EndsForm form_of b → a ++ x ≡ b ++ y → a ≡ b

-- reading from left to right finds exactly the spelling at the front
abbrev pub ReadingFindsForms : {L : Type 0} → (ℕ → Option (Form L)) → Type 0
ReadingFindsForms {L} form_of =
    (bytes : List ℕ) (l : L) (rest : List ℕ)
    → (form_at form_of bytes ≡ Ok (l, rest)) ↔
    ((encoding : List ℕ) × (bytes ≡ encoding ++ rest) × Spells L form_of encoding l)

-- each refusal is found exactly if the bytes have it
abbrev pub ReadingFindsFormRefusals : {L : Type 0} → (ℕ → Option (Form L)) → Type 0
ReadingFindsFormRefusals {L} form_of =
    (bytes : List ℕ) (fault : FormFault) → is_cut fault ≡ false
    → (form_at form_of bytes ≡ Err fault) ↔ Begins (λ encoding. Refuses L form_of encoding fault) bytes

-- an early end is found exactly if no front is a spelling or a refusal
abbrev pub ReadingFindsFormTruncation : {L : Type 0} → (ℕ → Option (Form L)) → Type 0
ReadingFindsFormTruncation form_of =
    (bytes : List ℕ) → ((fault : FormFault) × (is_cut fault ≡ true) × (form_at form_of bytes ≡ Err fault)) ↔ Truncates
    form_of bytes
