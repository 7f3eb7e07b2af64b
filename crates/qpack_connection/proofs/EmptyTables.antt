-- A table of an encoder in which nothing is stays so without an encode, and takes every capacity within the greatest
-- one.
use Rattle.std.proofs.Common.{◌≡◌, ◌+◌, ℕ, zero, suc, Bool, true, false, cond, List, [], ◌∷◌, drop, Option, None, Some}
use Rattle.std.proofs.Common.{Ok, Err, refl, sym, ap, ◌∙◌, inl, inr}
use Rattle.std.proofs.lemmas.Bool.{cond_both}
use Rattle.std.specs.Prelude.{nat_eq, nat_lt, nat_le, unwrap_or}
use Rattle.qpack_spec.specs.Bytes.{◌>>=◌}
use Rattle.qpack_spec.specs.Instruction.{DecoderInstruction, Acknowledgment, Cancellation, Increment}
use Rattle.qpack_rules.specs.StrictInstructions.{oldest_required, known_at_least, or_unknown, strict_hear, hear_in_turn}
use Rattle.qpack_spec.specs.Table.{Table, Entry, UnacknowledgedBlock, fields_in, insert_count, can_evict, with_capacity}
use Rattle.qpack_spec.specs.Table.{apply_decoder_instruction, with_increment, without_oldest, all_evictable}
use Rattle.qpack_spec.specs.Window.{DoesNotFit, AboveMaximum, UnknownStream, eviction_count, greatest_capacity}
use Rattle.qpack_spec.specs.Window.{or_refusal}
use Rattle.qpack_spec.proofs.Results.{bind_ok, chosen, ok_is}

-- ---- what is heard

one_heard : (t u : Table) (i : DecoderInstruction) → strict_hear t i ≡ Ok u → u.live ≡ t.live
unfolding strict_hear apply_decoder_instruction with_increment
one_heard t u (Acknowledgment s) e = go (without_oldest s t.unacknowledged) e
  where
    go : (o : Option (List UnacknowledgedBlock))
        → (or_unknown s (or_refusal o (UnknownStream s) >>= λ bs. Ok (record t { unacknowledged = bs }))
        >>= λ v. Ok (known_at_least (unwrap_or (oldest_required s t.unacknowledged) 0) v)) ≡ Ok u → u.live ≡ t.live
    go None q = absurd cc
    go (Some bs) q = sym (ap (λ (x : Table). x.live) (ok_is _ _ q))
one_heard t u (Cancellation s) e = sym (ap (λ (x : Table). x.live) (ok_is _ _ e))
one_heard t u (Increment by) e =
    cond_both (nat_eq by 0) _ _ (λ r. r ≡ Ok u → u.live ≡ t.live) (λ _ q. absurd cc)
    (λ _. cond_both (nat_lt (insert_count t) (t.known_received_count + by)) _ _
    (λ r. r ≡ Ok u → u.live ≡ t.live) (λ _ q. absurd cc)
    (λ _ q. sym (ap (λ (x : Table). x.live) (ok_is _ _ q)))) e

pub live_heard : (t u : Table) (is : List DecoderInstruction) → hear_in_turn t is ≡ Ok u → u.live ≡ t.live
live_heard t u [] e = sym (ap (λ (x : Table). x.live) (ok_is t u e))
live_heard t u (i ∷ is) e =
    let one = bind_ok (strict_hear t i) (λ v. hear_in_turn v is) u e in
    live_heard one.0 u is one.2 ∙ one_heard t one.0 i one.1

-- ---- a capacity

none_dropped : (n : ℕ) (es : List Entry) → es ≡ [] → drop n es ≡ []
none_dropped zero es none = none
none_dropped (suc n) [] none = refl
none_dropped (suc n) (e ∷ es) none = absurd cc

evicts_none : (t : Table) (n : ℕ) → t.live ≡ [] → can_evict t (eviction_count n (fields_in t.live)) ≡ true
unfolding eviction_count all_evictable
evicts_none t n none = rw none refl

pub live_resized : (t u : Table) (n : ℕ) → t.live ≡ [] → with_capacity t n ≡ Ok u → u.live ≡ []
unfolding with_capacity
live_resized t u n none e =
    let evicted = eviction_count n (fields_in t.live) in
    let changed : Table = record t { capacity = n; dropped = t.dropped + evicted; live = drop evicted t.live } in
    elim (chosen (nat_le n (greatest_capacity t.agreed_max)) (cond (can_evict t evicted) (Ok changed) (Err DoesNotFit))
    (Err AboveMaximum) (Ok u) e) [
      | inl within ↦
          elim (chosen (can_evict t evicted) (Ok changed) (Err DoesNotFit) (Ok u) within.1) [
            | inl may ↦ sym (ap (λ (v : Table). v.live) (ok_is _ _ may.1))
                ∙ none_dropped evicted t.live none
            | inr held ↦ absurd (let l = held.1 in cc)
          ]
      | inr above ↦ absurd (let l = above.1 in cc)
    ]

pub none_held : (t : Table) (n : ℕ) → t.live ≡ [] → with_capacity t n ≡ Err DoesNotFit → ⊥
unfolding with_capacity
none_held t n none e =
    let evicted = eviction_count n (fields_in t.live) in
    let changed : Table = record t { capacity = n; dropped = t.dropped + evicted; live = drop evicted t.live } in
    elim (chosen (nat_le n (greatest_capacity t.agreed_max)) (cond (can_evict t evicted) (Ok changed) (Err DoesNotFit))
    (Err AboveMaximum) (Err DoesNotFit) e) [
      | inl within ↦ not_held changed (can_evict t evicted) (evicts_none t n none) within.1
      | inr above ↦ (let l = above.1 in absurd cc)
    ]
  where
    not_held : (u : Table) (b : Bool) → b ≡ true → cond b (Ok u) (Err DoesNotFit) ≡ Err DoesNotFit → ⊥
    not_held u true is q = absurd cc
    not_held u false is q = absurd cc
