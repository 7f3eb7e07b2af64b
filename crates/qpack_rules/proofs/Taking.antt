-- Instructions that are taken in turn.
use Rattle.std.proofs.Common.{◌≡◌, ℕ, List, [], ◌∷◌, ◌++◌, Option, Result, Ok, refl, sym, ap, ◌∙◌, append-nil}
use Rattle.qpack_spec.specs.Bytes.{◌>>=◌}
use Rattle.qpack_spec.specs.Form.{Form, Spells}
use Rattle.qpack_spec.specs.Stream.{SpellsAll}
use Rattle.qpack_spec.specs.Table.{Table}
use Rattle.qpack_rules.specs.Taking.{apply_in_turn, TakesAllOf}
use Rattle.qpack_spec.specs.Window.{TableRefusal}
use Rattle.qpack_spec.proofs.Cuttings.{joined_append}
use Rattle.qpack_spec.proofs.Results.{bind_ok, ok_is}

pub joined_last : {L : Type 0} (form_of : ℕ → Option (Form L)) (lines : List L) (front encoding : List ℕ) (i : L)
    → SpellsAll (λ t l. Spells L form_of t l) front lines → Spells L form_of encoding i
    → SpellsAll (λ t l. Spells L form_of t l) (front ++ encoding) (lines ++ i ∷ [])
joined_last {L} form_of lines front encoding i joined spells =
    joined_append (λ t l. Spells L form_of t l) front encoding lines (i ∷ []) joined
    (encoding, [], sym (append-nil encoding), spells, refl)

-- the table behind one instruction more
pub applied_last : {L : Type 0} (apply : Table → L → Result Table TableRefusal) (lines : List L) (i : L)
    (old now new : Table)
    → apply_in_turn apply old lines ≡ Ok now → apply now i ≡ Ok new → apply_in_turn apply old (lines ++ i ∷ []) ≡ Ok new
applied_last apply [] i old now new applied last =
    ap (λ (t : Table). apply t i >>= λ u. Ok u) (ok_is old now applied)
    ∙ ap (λ (r : Result Table TableRefusal). r >>= λ u. Ok u) last
applied_last apply (l ∷ lines) i old now new applied last =
    let first = bind_ok (apply old l) (λ u. apply_in_turn apply u lines) now applied in
    ap (λ (r : Result Table TableRefusal). r >>= λ u. apply_in_turn apply u (lines ++ i ∷ [])) first.1
    ∙ applied_last apply lines i first.0 now new first.2 last

-- the same instructions, under another end
pub ends_as : {L : Type 0} {form_of : ℕ → Option (Form L)} {apply : Table → L → Result Table TableRefusal}
    {old new : Table} {bytes : List ℕ} {P : List ℕ → List ℕ → Type 0} (Q : List ℕ → List ℕ → Type 0)
    → (k : TakesAllOf form_of apply old new bytes P) → Q k.front k.rest → TakesAllOf form_of apply old new bytes Q
ends_as Q k ends = record {
  lines = k.lines;
  front = k.front;
  rest = k.rest;
  cut = k.cut;
  joined = k.joined;
  applies = k.applies;
  ends = ends;
}
