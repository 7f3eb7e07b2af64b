-- The laws of a stream's lines, over the definitions' data: a vector's capacity plays no part in them.
use Rattle.std.specs.Prelude.{◌≡◌, ℕ, ◌⊎◌, List, ◌++◌, Result, Ok}
use Rattle.qpack_wire.specs.Alone.{KindFault}

-- what is written of a line is a spelling of it
abbrev pub WrittenIsSpelled : {L : Type 0} → (List ℕ → L → Type 0) → (L → Type 0) → (L → List ℕ) → Type 0
WrittenIsSpelled {L} spells writable written = (l : L) → writable l → spells (written l) l

-- what is written of a line is read back whole, whatever follows
abbrev pub WrittenIsReadBack : {L : Type 0} → (List ℕ → Result (L × List ℕ) KindFault) → (L → Type 0) → (L → List ℕ)
    → Type 0
WrittenIsReadBack {L} read writable written =
    (l : L) (rest : List ℕ) → writable l → read (written l ++ rest) ≡ Ok (l, rest)

-- one spelling is of one line
abbrev pub SpellingsHaveOneInstruction : {L : Type 0} → (List ℕ → L → Type 0) → Type 0
SpellingsHaveOneInstruction {L} spells = (encoding : List ℕ) (l m : L) → spells encoding l → spells encoding m → l ≡ m

-- a spelling or a refusal
abbrev pub EndsInstruction : {L : Type 0} → (List ℕ → L → Type 0) → (List ℕ → KindFault → Type 0) → List ℕ → Type 0
EndsInstruction {L} spells refuses encoding = ((l : L) × spells encoding l)
    ⊎ ((fault : KindFault) × refuses encoding fault)

-- no spelling or refusal begins another
abbrev pub NoInstructionBeginsAnother : {L : Type 0} → (List ℕ → L → Type 0) → (List ℕ → KindFault → Type 0) → Type 0
NoInstructionBeginsAnother spells refuses =
    (a b x y : List ℕ) → EndsInstruction spells refuses a → EndsInstruction spells refuses b → a ++ x ≡ b ++ y → a ≡ b
