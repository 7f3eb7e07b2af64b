-- What may be left out of a decoder stream, and what may not.
use Rattle.std.proofs.Common.{ℕ, ◌+◌, ◌≤◌, ◌≡◌, ◌⊎◌, inl, inr, List, [], ◌∷◌, ◌++◌, None, Some, Ok, refl, arith}
use Rattle.qpack_spec.specs.Instruction.{DecoderInstruction, Acknowledgment, Increment}
use Rattle.qpack_rules.specs.Session.{sum_of, increments}
use Rattle.qpack_rules.specs.StrictInstructions.{strict_hear, hear_in_turn}
use Rattle.qpack_spec.specs.Table.{Table, UnacknowledgedBlock, empty_table, without_oldest, with_increment}
use Rattle.qpack_spec.specs.Table.{apply_decoder_instruction}
use Rattle.qpack_spec.specs.Reading.{greatest_of}
use Rattle.qpack_connection.specs.Thinned.{Thins}

-- two insertions, which the sections of streams 4 and 8 require, or the first
abbrev requires_both : UnacknowledgedBlock
requires_both = record { stream = 4; entries = 1 ∷ 2 ∷ [] }

abbrev requires_first : UnacknowledgedBlock
requires_first = record { stream = 8; entries = 1 ∷ [] }

-- the acknowledgment of the section that requires both reports them, also if the first was reported
meets_both : Thins 0 (requires_both ∷ []) (Acknowledgment 4 ∷ []) (Increment 2 ∷ Acknowledgment 4 ∷ [])
unfolding without_oldest greatest_of
meets_both = (
  record {
    required = 2;
    others = [];
    oldest = refl;
    others_are = refl;
    pieces = 2 ∷ [];
    rest = [];
    whole_is = refl;
    told = inr (omega arith);
  },
  refl,
)

meets_last : Thins 0 (requires_both ∷ []) (Increment 1 ∷ Acknowledgment 4 ∷ [])
    (Increment 1 ∷ Increment 1 ∷ Acknowledgment 4 ∷ [])
unfolding without_oldest greatest_of
meets_last = (
  Increment 1 ∷ Acknowledgment 4 ∷ [],
  refl,
  (
    record {
      required = 2;
      others = [];
      oldest = refl;
      others_are = refl;
      pieces = 1 ∷ [];
      rest = [];
      whole_is = refl;
      told = inr (omega arith);
    },
    refl,
  ),
)

-- an encoder hears the same of both
abbrev waiting : Table
waiting = record (empty_table 4096 (Some 4096) 16) { dropped = 2; unacknowledged = requires_both ∷ []; blocked = 2 ∷ [] }

heard_alike : hear_in_turn waiting (Acknowledgment 4 ∷ []) ≡ hear_in_turn waiting (Increment 2 ∷ Acknowledgment 4 ∷ [])
unfolding strict_hear apply_decoder_instruction without_oldest with_increment greatest_of
heard_alike = refl

-- the acknowledgment of the section that requires the first alone does not report both
some_count : (m n : ℕ) → Some m ≡ Some n → m ≡ n
some_count m n e = cc

breaks_first : Thins 0 (requires_first ∷ []) (Acknowledgment 8 ∷ []) (Increment 2 ∷ Acknowledgment 8 ∷ []) → ⊥
unfolding greatest_of
breaks_first (a, behind) = by a.pieces a.whole_is a.told
  where
    required : 1 ≡ a.required
    required = some_count 1 a.required a.oldest

    by : (ps : List ℕ) → Increment 2 ∷ Acknowledgment 8 ∷ [] ≡ increments ps ++ Acknowledgment 8 ∷ a.rest
        → (ps ≡ []) ⊎ (0 + sum_of ps ≤ a.required) → ⊥
    by [] is told = absurd cc
    by (p ∷ ps) is (inl none) = absurd cc
    by (p ∷ ps) is (inr low) = let same : 2 ≡ p = cc in absurd (omega (arith, low, required, same))

-- nor is an increment left out with no acknowledgment behind it
breaks_none : Thins 0 (requires_both ∷ []) [] (Increment 2 ∷ []) → ⊥
breaks_none none = absurd cc
