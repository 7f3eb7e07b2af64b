-- A stream's lines are the same however it is cut, as statements; the crate's law functions promise them.
use Rattle.std.specs.Prelude.{◌≡◌, ℕ, ◌⊎◌, List, ◌++◌, Option}
use Rattle.qpack_spec.specs.Bytes.{Begins}
use Rattle.qpack_spec.specs.Form.{FormFault, Form, Spells, Refuses, Truncates}
use Rattle.qpack_spec.specs.Stream.{SpellsAll, Holds}

-- a byte list holds one list of lines, and leaves one rest
abbrev pub StreamsHaveOneReading : {L : Type 0} → (ℕ → Option (Form L)) → Type 0
StreamsHaveOneReading {L} form_of =
    (bytes : List ℕ) (ls ms : List L) (rest more : List ℕ) → Holds L (λ t l. Spells L form_of t l) bytes ls rest
    → Holds L (λ t l. Spells L form_of t l) bytes ms more → (ls ≡ ms) × (rest ≡ more)

-- of bytes that are lines, any first piece holds the first of them, and the others are those of what it leaves with the
-- bytes after the piece
abbrev pub PiecesHoldFronts : {L : Type 0} → (ℕ → Option (Form L)) → Type 0
PiecesHoldFronts {L} form_of =
    (piece behind : List ℕ) (all ls : List L) (rest : List ℕ)
    → SpellsAll (λ t l. Spells L form_of t l) (piece ++ behind) all
    → Holds L (λ t l. Spells L form_of t l) piece ls rest
    → (others : List L) × (all ≡ ls ++ others) × SpellsAll (λ t l. Spells L form_of t l) (rest ++ behind) others

-- the rest that a piece leaves begins with no refusal
abbrev pub PiecesAreNeverRefused : {L : Type 0} → (ℕ → Option (Form L)) → Type 0
PiecesAreNeverRefused {L} form_of =
    (piece behind : List ℕ) (all ls : List L) (rest encoding more : List ℕ) (fault : FormFault)
    → SpellsAll (λ t l. Spells L form_of t l) (piece ++ behind) all
    → Holds L (λ t l. Spells L form_of t l) piece ls rest
    → rest ≡ encoding ++ more → Refuses L form_of encoding fault → ⊥

-- the one reading of a byte list: its lines, and the rest, which is truncated or begins with a refusal
pub record HasOneReading (L : Type 0) (form_of : ℕ → Option (Form L)) (bytes : List ℕ) : Type 0 where
  pub lines : List L
  pub rest : List ℕ
  pub holds : Holds L (λ t l. Spells L form_of t l) bytes lines rest
  pub ends : Truncates form_of rest ⊎ ((fault : FormFault) × Begins (λ t. Refuses L form_of t fault) rest)
  pub only : (ms : List L) (more : List ℕ) → Holds L (λ t l. Spells L form_of t l) bytes ms more
      → (lines ≡ ms) × (rest ≡ more)

-- every byte list has a reading, and just one
abbrev pub EveryStreamHasAReading : {L : Type 0} → (ℕ → Option (Form L)) → Type 0
EveryStreamHasAReading {L} form_of = (bytes : List ℕ) → HasOneReading L form_of bytes
