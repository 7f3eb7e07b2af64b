-- What the decoder of a connection writes, beside what that of a session of values writes: where an acknowledgment
-- reports all that the increments right before it would, these are left out (RFC 9204, sections 2.1.4 and 4.4).
use Rattle.std.specs.Prelude.{◌≡◌, ◌≤◌, ◌+◌, ℕ, max, ◌⊎◌, List, [], ◌∷◌, ◌++◌, Some}
use Rattle.qpack_spec.specs.Instruction.{DecoderInstruction, Acknowledgment, Cancellation, Increment}
use Rattle.qpack_rules.specs.Session.{sum_of, increments}
use Rattle.qpack_rules.specs.StrictInstructions.{oldest_required}
use Rattle.qpack_spec.specs.Table.{UnacknowledgedBlock, without_oldest, without_stream}

-- where an encoder knows of this many insertions, and these sections are not acknowledged: the acknowledgment of the
-- oldest section of a stream takes the place of increments and that acknowledgment. There are no increments, or the
-- section requires as many insertions as they report, or more
pub record Replaces (known stream : ℕ) (sections : List UnacknowledgedBlock) (whole : List DecoderInstruction) :
    Type 0 where
  pub required : ℕ
  pub others : List UnacknowledgedBlock
  pub oldest : oldest_required stream sections ≡ Some required
  pub others_are : without_oldest stream sections ≡ Some others
  pub pieces : List ℕ
  pub rest : List DecoderInstruction
  pub whole_is : whole ≡ increments pieces ++ Acknowledgment stream ∷ rest
  pub told : (pieces ≡ []) ⊎ (known + sum_of pieces ≤ required)

-- some instructions are others, without increments that the acknowledgment right behind them reports
abbrev pub Thins : ℕ → List UnacknowledgedBlock → (written whole : List DecoderInstruction) → Type 0
Thins known sections [] whole = whole ≡ []
Thins known sections (Acknowledgment stream ∷ more) whole =
    (a : Replaces known stream sections whole) × Thins (max known a.required) a.others more a.rest
Thins known sections (Cancellation stream ∷ more) whole =
    (rest : List DecoderInstruction) × (whole ≡ Cancellation stream ∷ rest)
    × Thins known (without_stream stream sections) more rest
Thins known sections (Increment by ∷ more) whole =
    (rest : List DecoderInstruction) × (whole ≡ Increment by ∷ rest) × Thins (known + by) sections more rest
