-- What an end makes of a stream's instructions, at both ends alike (RFC 9204, sections 4.3 and 4.4).
use Rattle.std.specs.Prelude.{◌≡◌, ℕ, List, [], ◌∷◌, ◌++◌, Option, Result, Ok}
use Rattle.qpack_spec.specs.Bytes.{◌>>=◌}
use Rattle.qpack_spec.specs.Form.{Form, Spells}
use Rattle.qpack_spec.specs.Stream.{SpellsAll}
use Rattle.qpack_spec.specs.Table.{Table}
use Rattle.qpack_spec.specs.Window.{TableRefusal}

-- the table after some instructions, if `apply` is what one makes of a table
abbrev pub apply_in_turn : {L : Type 0} → (Table → L → Result Table TableRefusal) → Table → List L
    → Result Table TableRefusal
apply_in_turn apply t [] = Ok t
apply_in_turn apply t (i ∷ is) = apply t i >>= λ u. apply_in_turn apply u is

-- the instructions at the front of the bytes are applied, each with what it makes of the table; after them, this holds
-- of what was applied and what was not
pub record TakesAllOf {L : Type 0} (form_of : ℕ → Option (Form L)) (apply : Table → L → Result Table TableRefusal)
    (old new : Table) (bytes : List ℕ) (Ends : List ℕ → List ℕ → Type 0) : Type 0 where
  pub lines : List L
  pub front : List ℕ
  pub rest : List ℕ
  pub cut : bytes ≡ front ++ rest
  pub joined : SpellsAll (λ encoding l. Spells L form_of encoding l) front lines
  pub applies : apply_in_turn apply old lines ≡ Ok new
  pub ends : Ends front rest
