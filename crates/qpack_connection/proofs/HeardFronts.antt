-- What a decoder may write it may write still once a front of it was heard.
use Rattle.std.proofs.Common.{◌≡◌, ◌<◌, ◌+◌, ◌-◌, ◌^◌, ℕ, max, List, [], ◌∷◌, ◌++◌, Ok, refl, sym, subst, ◌∙◌}
use Rattle.std.proofs.Common.{arith}
use Rattle.std.proofs.lemmas.Bool.{ne_eqb, le-ltb}
use Rattle.qpack_spec.specs.Instruction.{DecoderInstruction, Acknowledgment, Cancellation, Increment}
use Rattle.qpack_rules.specs.LawfulDecoders.{MayWrite}
use Rattle.qpack_rules.specs.StrictInstructions.{known_at_least, strict_hear, hear_in_turn}
use Rattle.qpack_spec.specs.Table.{Table, UnacknowledgedBlock, insert_count, without_stream, with_increment}
use Rattle.qpack_spec.specs.Table.{apply_decoder_instruction}
use Rattle.qpack_spec.proofs.Results.{bind_ok, ok_is}
use Rattle.qpack_connection.specs.LawfulEnds.{MayStillWrite, HeardFrontsLeaveTheRest}

-- what an increment makes of the parts that count here
record Raised (t u : Table) (by : ℕ) : Type 0 where
  pub known : u.known_received_count ≡ t.known_received_count + by
  pub sections : u.unacknowledged ≡ t.unacknowledged
  pub count : insert_count u ≡ insert_count t

raised : (t : Table) (by : ℕ) → t.known_received_count + by < 2 ^ 64 → Raised t (with_increment t by) by
unfolding with_increment
raised t by few = record { known = omega (arith, few); sections = refl; count = refl }

heard_one : (t u : Table) (received : ℕ) (i : DecoderInstruction) (more : List DecoderInstruction)
    → MayStillWrite received t (i ∷ more) → strict_hear t i ≡ Ok u → MayStillWrite received u more
unfolding strict_hear apply_decoder_instruction
heard_one t u received (Acknowledgment s) more b e =
    let d = b.may.0 in
    let v : Table = record t { unacknowledged = d.others } in
    let w = known_at_least d.required v in
    let r = raised v (d.required - t.known_received_count) (omega (arith, d.decoded, b.known, b.made, b.few)) in
    let is : strict_hear t (Acknowledgment s) ≡ Ok w = rw (d.others_are, d.oldest) refl in
    let same : max t.known_received_count d.required ≡ w.known_received_count = omega (arith, r.known) in
    subst (λ (x : Table). MayStillWrite received x more) (ok_is w u (sym is ∙ e))
    (record {
      may = subst (λ (n : ℕ). MayWrite received n w.unacknowledged more) same
          (subst (λ (bs : List UnacknowledgedBlock). MayWrite received (max t.known_received_count d.required) bs more)
          (sym r.sections) b.may.1);
      known = omega (arith, r.known, d.decoded, b.known);
      made = omega (arith, r.count, b.made);
      few = omega (arith, r.count, b.few);
    })
heard_one t u received (Cancellation s) more b e =
    let w : Table = record t { unacknowledged = without_stream s t.unacknowledged } in
    subst (λ (x : Table). MayStillWrite received x more) (ok_is w u e)
    (record { may = b.may; known = b.known; made = b.made; few = b.few })
heard_one t u received (Increment by) more b e =
    let w = with_increment t by in
    let r = raised t by (omega (arith, b.may.1, b.made, b.few)) in
    let is : strict_hear t (Increment by) ≡ Ok w =
    rw (
      ne_eqb by 0 (λ z. absurd (omega (arith, z, b.may.0))),
      le-ltb (insert_count t) (t.known_received_count + by) (omega (arith, b.may.1, b.made)),
    ) refl in
    subst (λ (x : Table). MayStillWrite received x more) (ok_is w u (sym is ∙ e))
    (record {
      may = subst (λ (n : ℕ). MayWrite received n w.unacknowledged more) (sym r.known)
          (subst (λ (bs : List UnacknowledgedBlock). MayWrite received (t.known_received_count + by) bs more)
          (sym r.sections) b.may.2);
      known = omega (arith, r.known, b.may.1);
      made = omega (arith, r.count, b.made);
      few = omega (arith, r.count, b.few);
    })

heard_all : (t u : Table) (received : ℕ) (front more : List DecoderInstruction)
    → MayStillWrite received t (front ++ more)
    → hear_in_turn t front ≡ Ok u → MayStillWrite received u more
heard_all t u received [] more b e = subst (λ (x : Table). MayStillWrite received x more) (ok_is t u e) b
heard_all t u received (i ∷ front) more b e =
    let one = bind_ok (strict_hear t i) (λ v. hear_in_turn v front) u e in
    heard_all one.0 u received front more (heard_one t one.0 received i (front ++ more) b one.1) one.2

pub fronts_heard : HeardFrontsLeaveTheRest
fronts_heard = heard_all
