-- How many bytes the increments take that report insertions.
use Rattle.std.proofs.Common.{◌≡◌, ℕ, zero, suc, ◌+◌, ◌*◌, ◌/◌, ◌%◌, ◌<◌, List, [], ◌∷◌, ◌++◌, cond, length, refl}
use Rattle.std.proofs.Common.{ap, arith, length-append}
use Rattle.std.specs.Prelude.{nat_eq, replicate}
use Rattle.std.proofs.lemmas.Bool.{ne_eqb, lt-ltb}
use Rattle.qpack_spec.specs.Instruction.{Increment, written_decoder_instruction, written_decoder_instructions}
use Rattle.qpack_spec.specs.Integer.{written_integer, written_groups}
use Rattle.qpack_rules.specs.Session.{increments, pieces_of}
use Rattle.qpack_codec.specs.Receiving.{written_report}

full_length : length (written_decoder_instruction (Increment 64)) ≡ 2
unfolding written_decoder_instruction written_integer written_groups
full_length = refl

long_length : length (written_decoder_instruction (Increment 63)) ≡ 2
unfolding written_decoder_instruction written_integer written_groups
long_length = refl

short_length : (by : ℕ) → by < 63 → length (written_decoder_instruction (Increment by)) ≡ 1
unfolding written_decoder_instruction written_integer
short_length by few = rw (lt-ltb by 63 few) refl

-- pieces of 64, and others behind them
all_length : (k : ℕ) (behind : List ℕ) → length (written_decoder_instructions (increments (replicate k 64 ++ behind)))
    ≡ 2 * k + length (written_decoder_instructions (increments behind))
unfolding written_decoder_instructions
all_length zero behind = omega arith
all_length (suc k) behind =
    omega (
      arith,
      all_length k behind,
      full_length,
      length-append (written_decoder_instruction (Increment 64))
          (written_decoder_instructions (increments (replicate k 64 ++ behind))),
    )

-- the last one, if there is one
abbrev last_piece : ℕ → List ℕ
last_piece rest = cond (nat_eq rest 0) [] (rest ∷ [])

report_length : (many : ℕ)
    → length (written_report many)
    ≡ 2 * (many / 64) + length (written_decoder_instructions (increments (last_piece (many % 64))))
unfolding pieces_of
report_length many = all_length (many / 64) (last_piece (many % 64))

one_length : (rest : ℕ) → (rest ≡ 0 → ⊥)
    → length (written_decoder_instructions (increments (last_piece rest)))
    ≡ length (written_decoder_instruction (Increment rest))
unfolding written_decoder_instructions
one_length rest some =
    rw (ne_eqb rest 0 some)
    (omega (arith, length-append (written_decoder_instruction (Increment rest)) (written_decoder_instructions [])))

pub report_even : (many : ℕ) → many % 64 ≡ 0 → length (written_report many) ≡ 2 * (many / 64)
unfolding written_decoder_instructions
report_even many none =
    omega (
      arith,
      report_length many,
      ap (λ (rest : ℕ). length (written_decoder_instructions (increments (last_piece rest)))) none,
    )

pub report_long : (many : ℕ) → many % 64 ≡ 63 → length (written_report many) ≡ 2 * (many / 64) + 2
report_long many is =
    omega (
      arith,
      report_length many,
      ap (λ (rest : ℕ). length (written_decoder_instructions (increments (last_piece rest)))) is,
      one_length 63 (λ none. absurd cc),
      long_length,
    )

pub report_short : (many : ℕ) → (many % 64 ≡ 0 → ⊥) → many % 64 < 63 → length (written_report many) ≡ 2 * (many / 64) + 1
report_short many some few =
    omega (arith, report_length many, one_length (many % 64) some, short_length (many % 64) few)
