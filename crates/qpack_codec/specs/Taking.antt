-- What a call does with a stream's instructions, at both ends alike; only their errors differ (RFC 9204, sections 4.3
-- and 4.4).
use Rattle.std.specs.Prelude.{◌≡◌, ℕ, ⊤, Bool, true, false, List, ◌++◌, Option, Result, Ok, Err}
use Rattle.qpack_spec.specs.Form.{Form, Spells, Truncates}
use Rattle.qpack_spec.specs.Table.{Table}
use Rattle.qpack_spec.specs.Window.{TableRefusal}

-- an instruction was taken from the front of the bytes
pub record TakesOneOf {L : Type 0} (form_of : ℕ → Option (Form L)) (apply : Table → L → Result Table TableRefusal)
    (old new : Table) (rest left : List ℕ) : Type 0 where
  pub encoding : List ℕ
  pub instruction : L
  pub cut : rest ≡ encoding ++ left
  pub spells : Spells L form_of encoding instruction
  pub applies : apply old instruction ≡ Ok new

-- an instruction is applied, or none is whole, or it is not applied; then the table is unchanged
abbrev pub TakesNextOf : {L E : Type 0} → (ℕ → Option (Form L)) → (Table → L → Result Table TableRefusal)
    → (Table → List ℕ → List ℕ → E → Type 0)
    → Table → Table → List ℕ → List ℕ → Result Bool E → Type 0
TakesNextOf form_of apply Stops old new rest left (Ok true) = TakesOneOf form_of apply old new rest left
TakesNextOf form_of apply Stops old new rest left (Ok false) = Truncates form_of rest × (left ≡ rest) × (new ≡ old)
TakesNextOf form_of apply Stops old new rest left (Err e) = Stops old rest left e × (new ≡ old)

-- after those that were applied none is whole, or one is not applied
abbrev pub EndsTakingOf : {L E : Type 0} → (ℕ → Option (Form L)) → (Table → List ℕ → List ℕ → E → Type 0)
    → Table → List ℕ → List ℕ → Result ⊤ E → Type 0
EndsTakingOf form_of Stops t rest left (Ok done) = Truncates form_of rest × (left ≡ rest)
EndsTakingOf form_of Stops t rest left (Err e) = Stops t rest left e
