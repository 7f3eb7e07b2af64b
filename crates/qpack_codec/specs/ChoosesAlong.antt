-- What a chooser chose for the fields of a section, one after the other (RFC 9204, section 2.1). A chooser is of any
-- type, and chooses by any relation.
use Rattle.std.specs.Prelude.{◌≡◌, ℕ, Bool, false, List, [], ◌∷◌, Option, Some}
use Rattle.qpack_spec.specs.Chosen.{Chosen, alone_chosen, chosen_field}
use Rattle.qpack_spec.specs.Field.{FieldLine}
use Rattle.qpack_spec.specs.Rule.{Draft}
use Rattle.qpack_spec.specs.StaticTable.{static_index}
use Rattle.qpack_spec.specs.Table.{Table}

-- a relation by which a chooser chooses for one field: of the chooser before, the block's base, the table, the field line,
-- what the caller wishes, the choice, and the chooser after
abbrev pub Chooses : Type 0 → Type 0 → Type 1
Chooses K W = K → ℕ → Table → FieldLine → W → Chosen → K → Type 0

-- one field; if a static field equals it, and it is not marked, the chooser is not called
abbrev pub ChoosesUnless : {K W : Type 0} → Option ℕ → Bool → Chooses K W → Chooses K W
ChoosesUnless (Some i) false chooses old base t l w c new = (c ≡ alone_chosen) × (new ≡ old)
ChoosesUnless o marked chooses old base t l w c new = chooses old base t l w c new

abbrev pub ChoosesField : {K W : Type 0} → Chooses K W → Chooses K W
ChoosesField chooses old base t l w c new =
    ChoosesUnless (static_index l.field) l.never_indexed chooses old base t l w c new

-- each field in turn, at the table that the fields before it left
abbrev pub ChoosesAlong : {K W : Type 0} → Chooses K W → ℕ → Draft → K → List FieldLine → List W → List Chosen → K
    → Type 0
ChoosesAlong chooses base d old [] [] [] new = new ≡ old
ChoosesAlong {K = K} chooses base d old (l ∷ ls) (w ∷ ws) (c ∷ cs) new =
    (mid : K) × ChoosesField chooses old base d.table l w c mid
    × ChoosesAlong chooses base (chosen_field base d l c) mid ls ws cs new
ChoosesAlong chooses base d old ls ws cs new = ⊥
