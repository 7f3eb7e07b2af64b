-- That a strict decoder refuses nothing of an encoder stream that is lawful to its end, however its bytes are cut, as
-- statements (RFC 9204, sections 2.2, 3.2.2 and 4.3).
use Rattle.std.specs.Prelude.{◌≡◌, ◌≤◌, ℕ, Bool, false, nat_le, List, [], ◌∷◌, ◌++◌, Ok, IsOk}
use Rattle.qpack_spec.specs.Bytes.{Begins}
use Rattle.qpack_spec.specs.Form.{FormFault, Truncates}
use Rattle.qpack_spec.specs.Instruction.{EncoderInstruction, encoder_instruction_form, SpellsEncoderInstruction}
use Rattle.qpack_spec.specs.Instruction.{RefusesEncoderInstruction}
use Rattle.qpack_spec.specs.Stream.{SpellsAll}
use Rattle.qpack_rules.specs.StrictInstructions.{strict_apply}
use Rattle.qpack_spec.specs.Table.{Table}
use Rattle.qpack_rules.specs.Taking.{apply_in_turn, TakesAllOf}
use Rattle.qpack_spec.specs.Wanted.{least_field_size}

-- the bytes begin such an insertion: their first bits are 01, 10 or 11 (sections 4.3.2 and 4.3.3)
abbrev pub begins_insertion : List ℕ → Bool
begins_insertion [] = false
begins_insertion (b ∷ bytes) = nat_le 64 b

-- what waits of the stream: bytes of an instruction that is not whole and whose field may fit
pub record MayGrow (t : Table) (pending : List ℕ) : Type 0 where
  pub cut : Truncates encoder_instruction_form pending
  pub fits : least_field_size pending ≤ t.capacity

-- nothing at the front of the bytes is refused: bytes that are no instruction, an instruction that is not to be
-- applied, the beginning of an insertion at capacity 0, or of one that grows to a field larger than the capacity
pub record IsNotRefused (t : Table) (rest : List ℕ) : Type 0 where
  pub bytes : (fault : FormFault) → Begins (λ encoding. RefusesEncoderInstruction encoding fault) rest → ⊥
  pub instruction : (i : EncoderInstruction) → Begins (λ encoding. SpellsEncoderInstruction encoding i) rest
      → IsOk (strict_apply t i)
  pub capacity : t.capacity ≡ 0 → begins_insertion rest ≡ false
  pub size : Truncates encoder_instruction_form rest → least_field_size rest ≤ t.capacity

-- the bytes are these instructions, and a strict decoder applies each in turn, up to the last
pub record IsLawfulStream (first last : Table) (bytes : List ℕ) (sent : List EncoderInstruction) : Type 0 where
  pub spelled : SpellsAll SpellsEncoderInstruction bytes sent
  pub applied : apply_in_turn strict_apply first sent ≡ Ok last

-- of such a stream some instructions were taken: they are the first that were sent, the others are lawful too, and
-- nothing of the bytes that are left of what came so far is refused
pub record GoesOn (now last : Table) (taken sent : List EncoderInstruction) (rest behind : List ℕ) : Type 0 where
  pub others : List EncoderInstruction
  pub first : sent ≡ taken ++ others
  pub stream : IsLawfulStream now last (rest ++ behind) others
  pub refuses_nothing : IsNotRefused now rest

-- after any first piece, whatever a strict decoder applied of it, it refuses nothing of a lawful stream
abbrev pub LawfulStreamsAreNeverRefused : Type 0
LawfulStreamsAreNeverRefused =
    (first now last : Table) (piece behind : List ℕ) (sent : List EncoderInstruction)
    → IsLawfulStream first last (piece ++ behind) sent
    → (k : TakesAllOf encoder_instruction_form strict_apply first now piece (λ front rest. Unit {0}))
    → GoesOn now last k.lines sent k.rest behind

-- a strict decoder can apply all whole instructions of the piece, so that only a truncated one whose field may fit
-- waits
abbrev pub LawfulStreamsAreTaken : Type 0
LawfulStreamsAreTaken =
    (first last : Table) (piece behind : List ℕ) (sent : List EncoderInstruction)
    → IsLawfulStream first last (piece ++ behind) sent
    → (now : Table)
    × TakesAllOf encoder_instruction_form strict_apply first now piece (λ front rest. MayGrow now rest)
