-- Encoder instructions as a strict decoder takes them.
use Rattle.std.proofs.Common.{◌≡◌, ℕ, ◌+◌, List, ◌++◌, length, drop, Bool, true, false}
use Rattle.std.proofs.Common.{Result, Ok, Err, refl, ap, ◌∙◌, inl, inr, arith, length-append}
use Rattle.std.specs.Prelude.{⊤}
use Rattle.std.proofs.Math.Seq.{drop-append_seam}
use Rattle.qpack_spec.specs.Instruction.{EncoderInstruction, encoder_instruction_form}
use Rattle.qpack_spec.specs.Table.{Table, apply_encoder_instruction}
use Rattle.qpack_rules.proofs.LawfulStreams.{inserts_by}
use Rattle.qpack_codec.specs.Receiving.{Stops, no_memory, TakesNext}
use Rattle.qpack_codec.specs.Receiving as decoder
use Rattle.qpack_codec.specs.Taking.{EndsTakingOf}
use Rattle.qpack_codec.specs.declared.error.DecoderError.{DecoderError}
use Rattle.qpack_shared.specs.declared.place.Place.{Place}
use Rattle.qpack_decoding.specs.Receiving.{inserts, strict_apply, begins_insertion, begins_unlawfully, bad_bytes}
use Rattle.qpack_decoding.specs.Receiving.{bad_instruction, StopsStrictly, TakesNextStrictly, TakesAllStrictly}

-- ---- an instruction that begins lawfully

strict_as : (t : Table) (rest : List ℕ) (i : EncoderInstruction) → begins_unlawfully t rest ≡ false
    → inserts i ≡ begins_insertion rest → strict_apply t i ≡ apply_encoder_instruction t i
unfolding strict_apply
strict_as t rest i lawful same = rw (same, lawful) refl

stops_strictly : (t : Table) (rest left : List ℕ) (e : DecoderError) → begins_unlawfully t rest ≡ false
    → Stops t rest left e → StopsStrictly t rest left e
stops_strictly t rest left e lawful (no_memory asks is same) = inl (asks, is, same)
stops_strictly t rest left e lawful (decoder.bad_bytes fault begins is same) = inr (bad_bytes fault begins is)
stops_strictly t rest left e lawful (decoder.bad_instruction encoding more i refusal cut spells refused is same) =
    inr (bad_instruction i refusal (record { encoding = encoding; rest = more; parts = cut; holds = spells })
    (strict_as t rest i lawful (inserts_by encoding rest more i cut spells) ∙ refused) is)

pub next_strictly : (old new : Table) (rest left : List ℕ) (r : Result Bool DecoderError)
    → begins_unlawfully old rest ≡ false → TakesNext old new rest left r → TakesNextStrictly old new rest left r
next_strictly old new rest left (Ok true) lawful takes =
    record {
      encoding = takes.encoding;
      instruction = takes.instruction;
      cut = takes.cut;
      spells = takes.spells;
      applies = strict_as old rest takes.instruction lawful
          (inserts_by takes.encoding rest left takes.instruction takes.cut takes.spells) ∙ takes.applies;
    }
next_strictly old new rest left (Ok false) lawful takes = takes
next_strictly old new rest left (Err e) lawful takes = (stops_strictly old rest left e lawful takes.0, takes.1)

-- ---- the bytes that are kept behind those that were passed

kept_behind : (front rest left kept bytes : List ℕ) (passed : ℕ) → bytes ≡ front ++ rest
    → passed + length left ≡ length bytes → kept ≡ drop passed bytes → left ≡ rest → kept ≡ rest
kept_behind front rest left kept bytes passed cut sum is same =
    let many : passed ≡ length front =
    omega (arith, sum, ap length cut, length-append front rest, ap length same) in
    is ∙ ap (λ (n : ℕ). drop n bytes) many ∙ ap (drop (length front)) cut ∙ drop-append_seam front rest

pub whole_taken : (old new : Table) (from at : Place) (bytes left kept : List ℕ) (r : Result ⊤ DecoderError)
    (passed : ℕ) → TakesAllStrictly old new from at bytes left r → passed + length left ≡ length bytes
    → kept ≡ drop passed bytes → TakesAllStrictly old new from at bytes kept r
whole_taken old new from at bytes left kept r passed k sum is = (
  record {
    lines = k.0.lines;
    front = k.0.front;
    rest = k.0.rest;
    cut = k.0.cut;
    joined = k.0.joined;
    applies = k.0.applies;
    ends = go r k.0.ends;
  },
  k.1,
)
  where
    go : (r : Result ⊤ DecoderError) → EndsTakingOf encoder_instruction_form StopsStrictly new k.0.rest left r
        → EndsTakingOf encoder_instruction_form StopsStrictly new k.0.rest kept r
    go (Ok done) ends = (ends.0, kept_behind k.0.front k.0.rest left kept bytes passed k.0.cut sum is ends.1)
    go (Err e) (inl stops) =
        inl (stops.0, stops.1, kept_behind k.0.front k.0.rest left kept bytes passed k.0.cut sum is stops.2)
    go (Err e) (inr refuses) = inr refuses
