-- Insertions are only added by instructions that are taken strictly.
use Rattle.std.proofs.Common.{◌≡◌, ◌≤◌, List, [], ◌∷◌, Ok, Err, Result, ap, subst, inl, inr, arith}
use Rattle.std.specs.Prelude.{◌&&◌, nat_eq}
use Rattle.qpack_spec.specs.Bytes.{◌>>=◌}
use Rattle.qpack_spec.specs.Instruction.{EncoderInstruction}
use Rattle.qpack_rules.specs.Taking.{apply_in_turn}
use Rattle.qpack_spec.specs.Table.{Table, insert_count, apply_encoder_instruction}
use Rattle.qpack_spec.specs.Window.{TableRefusal, DoesNotFit}
use Rattle.qpack_spec.proofs.Results.{bind_ok, chosen, ok_is}
use Rattle.qpack_codec.proofs.Counts.{instructions_count}
use Rattle.qpack_decoding.specs.Receiving.{inserts, strict_apply}

strict_counts : (t u : Table) (i : EncoderInstruction) → strict_apply t i ≡ Ok u → insert_count t ≤ insert_count u
unfolding strict_apply
strict_counts t u i e =
    elim (chosen (nat_eq t.capacity 0 && inserts i) (Err DoesNotFit) (apply_encoder_instruction t i) (Ok u) e) [
      | inl unlawful ↦ absurd (let l = unlawful.1 in cc)
      | inr lawful ↦ instructions_count (i ∷ []) t u
          (ap (λ (r : Result Table TableRefusal). r >>= λ v. Ok v) lawful.1)
    ]

pub all_count : (lines : List EncoderInstruction) (t u : Table) → apply_in_turn strict_apply t lines ≡ Ok u
    → insert_count t ≤ insert_count u
all_count [] t u e = subst (λ (v : Table). insert_count t ≤ insert_count v) (ok_is _ _ e) (omega arith)
all_count (i ∷ lines) t u e =
    let first = bind_ok (strict_apply t i) (λ v. apply_in_turn strict_apply v lines) u e in
    let one = strict_counts t first.0 i first.1 in
    let more = all_count lines first.0 u first.2 in
    omega (arith, one, more)
