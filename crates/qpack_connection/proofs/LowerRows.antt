-- A capacity that waits: an end that meets what the law asks for, one that nothing holds any more, and runs that the law
-- does not permit.
use Rattle.std.proofs.Common.{◌≡◌, ℕ, List, [], ◌∷◌, None, Some, Ok, Err, inl, inr, refl, sym, ap, subst, ◌∙◌, arith, lit≤}
use Rattle.std.specs.Prelude.{codes}
use Rattle.qpack_spec.specs.Field.{FieldLine}
use Rattle.qpack_spec.specs.StaticTable.{field}
use Rattle.qpack_spec.specs.Table.{Table, empty_table, sent_entry, with_capacity}
use Rattle.qpack_spec.proofs.Computing.{computed}
use Rattle.qpack_codec.specs.declared.encoder.choices.Wish.{Wish}
use Rattle.qpack_encoding.specs.Encoders.{EncodingEnd, waiting}
use Rattle.qpack_encoding.specs.declared.encoder.EncodingError.TheVariants.{Memory}
use Rattle.qpack_connection.specs.LawfulDecoders.{Encode, Shrink, Sent, Step, Run}
use Rattle.qpack_connection.specs.LowerCapacities.{IsSettled, AllWait}

-- a table of one insertion, which a section on stream 4 references
held : Table
held =
    record (empty_table 64 (Some 64) 4096) {
      live = sent_entry (field (codes "foo") (codes "bar")) ∷ [];
      unacknowledged = record { stream = 4; entries = 1 ∷ [] } ∷ [];
    }

-- and once that was acknowledged
answered : Table
answered = record held { unacknowledged = []; known_received_count = 1 }

-- ---- what the law asks for

-- a capacity of 37 bytes waits for the section, one of 38 does not
waits : (e : EncodingEnd) → e.failure ≡ None → e.table ≡ held → Step (Shrink 37 (Ok tt)) e (waiting 37 e)
unfolding computed held
waits e alive is = (alive, inr (ap (λ (t : Table). with_capacity t 37) is, refl))

is_set : (e : EncodingEnd) → e.table ≡ held → with_capacity e.table 38 ≡ Ok (record held { capacity = 38 })
unfolding computed held
is_set e is = ap (λ (t : Table). with_capacity t 38) is

-- the acknowledgment settles it
settled : (e : EncodingEnd) → e.table ≡ answered → IsSettled 37 e
unfolding computed answered held
settled e is =
    subst (λ (t : Table). IsSettled 37 (record e { table = t })) (sym is)
    (record { acknowledged = refl; known = lit≤ tt })

not_settled : (e : EncodingEnd) → e.table ≡ held → IsSettled 37 e → ⊥
unfolding held
not_settled e is k = absurd (let x = sym (ap (λ (t : Table). t.unacknowledged) is) ∙ k.acknowledged in cc)

-- ---- what it does not permit

-- an encode that returns a section leaves it waiting though nothing holds what it evicts
stays_waiting : (s required : ℕ) (fields : List FieldLine) (wishes : List Wish) (section : List ℕ) (old new : EncodingEnd)
    (run : Run (Encode s fields wishes section (Ok required) ∷ []) old new) → IsSettled 37 old → run.0.wanted ≡ Some 37
    → AllWait 37 (Encode s fields wishes section (Ok required) ∷ []) old new run → ⊥
stays_waiting s required fields wishes section old new run settled waits r =
    absurd (let x = sym waits ∙ (r.0 settled).wanted in cc)

-- a section requires an insertion while it waits
references : (s : ℕ) (fields : List FieldLine) (wishes : List Wish) (section : List ℕ) (old new : EncodingEnd)
    (run : Run (Encode s fields wishes section (Ok 1) ∷ []) old new) → run.0.wanted ≡ Some 37
    → AllWait 37 (Encode s fields wishes section (Ok 1) ∷ []) old new run → ⊥
references s fields wishes section old new run waits (must, inl comes) = absurd (let x = sym waits ∙ comes.wanted in cc)
references s fields wishes section old new run waits (must, inr (on, more)) = omega (arith, on.0)

-- an encode inserts while it waits, whether it returns a section or memory is refused
inserts : (s required : ℕ) (fields : List FieldLine) (wishes : List Wish) (section : List ℕ) (old new : EncodingEnd)
    (run : Run (Encode s fields wishes section (Ok required) ∷ []) old new) → run.0.wanted ≡ Some 37
    → (run.0.table.live ≡ old.table.live → ⊥)
    → AllWait 37 (Encode s fields wishes section (Ok required) ∷ []) old new run → ⊥
inserts s required fields wishes section old new run waits other (must, inl comes) =
    absurd (let x = sym waits ∙ comes.wanted in cc)
inserts s required fields wishes section old new run waits other (must, inr (on, more)) =
    other (ap (λ (e : EncodingEnd). e.table.live) on.2)

inserts_in_vain : (s : ℕ) (fields : List FieldLine) (wishes : List Wish) (section : List ℕ) (old new : EncodingEnd)
    (run : Run (Encode s fields wishes section (Err Memory) ∷ []) old new) → run.0.wanted ≡ Some 37
    → (run.0.table.live ≡ old.table.live → ⊥)
    → AllWait 37 (Encode s fields wishes section (Err Memory) ∷ []) old new run → ⊥
inserts_in_vain s fields wishes section old new run waits other (must, inl comes) =
    absurd (let x = sym waits ∙ comes.wanted in cc)
inserts_in_vain s fields wishes section old new run waits other (must, inr (on, more)) =
    other (ap (λ (e : EncodingEnd). e.table.live) on)

-- it is forgotten, or announced by no encode
is_forgotten : (many : ℕ) (old new : EncodingEnd) (run : Run (Sent many ∷ []) old new) → run.0.wanted ≡ None
    → AllWait 37 (Sent many ∷ []) old new run → ⊥
is_forgotten many old new run none (must, inl comes) = absurd comes
is_forgotten many old new run none (must, inr (on, more)) = absurd (let x = sym none ∙ on.0 in cc)
