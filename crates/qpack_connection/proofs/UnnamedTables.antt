-- No section is in progress behind a call of an encoding end, so only what is unacknowledged or unknown holds an entry.
use Rattle.std.proofs.Common.{ℕ, zero, suc, ◌+◌, ◌≡◌, ◌≤◌, Bool, true, false, List, [], ◌∷◌, length, take, drop, Option}
use Rattle.std.proofs.Common.{None, Some, Ok, refl, sym, ap, ◌∙◌, arith, unwrap_or}
use Rattle.std.specs.Prelude.{nat_eq, nat_lt, nat_le, not, ◌&&◌}
use Rattle.std.proofs.lemmas.Bool.{cond_both, le-leb, le-ltb}
use Rattle.qpack_spec.specs.Bytes.{◌>>=◌}
use Rattle.qpack_spec.specs.Instruction.{DecoderInstruction, Acknowledgment, Cancellation, Increment}
use Rattle.qpack_spec.specs.Rule.{Draft, committed_table}
use Rattle.qpack_spec.specs.Table.{Table, Entry, UnacknowledgedBlock, insert_count, commit, without_references, with_capacity}
use Rattle.qpack_spec.specs.Table.{can_evict, all_evictable, is_evictable, fields_in, without_oldest}
use Rattle.qpack_spec.specs.Table.{with_increment, apply_decoder_instruction}
use Rattle.qpack_spec.specs.Window.{UnknownStream, or_refusal, eviction_count, greatest_capacity}
use Rattle.qpack_spec.proofs.Results.{bind_ok, ok_is}
use Rattle.qpack_rules.specs.StrictInstructions.{strict_hear, hear_in_turn, or_unknown, known_at_least, oldest_required}

-- ---- no section is in progress

pub committed_unnamed : (d : Draft) (s : ℕ) → (committed_table d s).referenced ≡ []
unfolding commit
committed_unnamed d s = refl

pub given_up_unnamed : (t : Table) → (without_references t).referenced ≡ []
unfolding without_references
given_up_unnamed t = refl

pub capacity_unnamed : (t u : Table) (n : ℕ) → with_capacity t n ≡ Ok u → u.referenced ≡ t.referenced
unfolding with_capacity
capacity_unnamed t u n e =
    cond_both (nat_le n (greatest_capacity t.agreed_max)) _ _ (λ r. r ≡ Ok u → u.referenced ≡ t.referenced)
    (λ _. cond_both (can_evict t (eviction_count n (fields_in t.live))) _ _
    (λ r. r ≡ Ok u → u.referenced ≡ t.referenced)
    (λ _ q. sym (ap (λ (v : Table). v.referenced) (ok_is _ _ q)))
    (λ _ q. absurd cc))
    (λ _ q. absurd cc)
    e

heard_unnamed : (t u : Table) (i : DecoderInstruction) → strict_hear t i ≡ Ok u → u.referenced ≡ t.referenced
unfolding strict_hear apply_decoder_instruction with_increment
heard_unnamed t u (Acknowledgment s) e = go (without_oldest s t.unacknowledged) e
  where
    go : (o : Option (List UnacknowledgedBlock))
        → (or_unknown s (or_refusal o (UnknownStream s) >>= λ bs. Ok (record t { unacknowledged = bs }))
        >>= λ v. Ok (known_at_least (unwrap_or (oldest_required s t.unacknowledged) 0) v)) ≡ Ok u
        → u.referenced ≡ t.referenced
    go None q = absurd cc
    go (Some bs) q = sym (ap (λ (v : Table). v.referenced) (ok_is _ _ q))
heard_unnamed t u (Cancellation s) e = sym (ap (λ (v : Table). v.referenced) (ok_is _ _ e))
heard_unnamed t u (Increment by) e =
    cond_both (nat_eq by 0) _ _ (λ r. r ≡ Ok u → u.referenced ≡ t.referenced) (λ _ q. absurd cc)
    (λ _. cond_both (nat_lt (insert_count t) (t.known_received_count + by)) _ _
    (λ r. r ≡ Ok u → u.referenced ≡ t.referenced) (λ _ q. absurd cc)
    (λ _ q. sym (ap (λ (v : Table). v.referenced) (ok_is _ _ q))))
    e

pub hearing_unnamed : (t u : Table) (is : List DecoderInstruction) → hear_in_turn t is ≡ Ok u
    → u.referenced ≡ t.referenced
hearing_unnamed t u [] e = sym (ap (λ (v : Table). v.referenced) (ok_is t u e))
hearing_unnamed t u (i ∷ is) e =
    let one = bind_ok (strict_hear t i) (λ v. hear_in_turn v is) u e in
    hearing_unnamed one.0 u is one.2 ∙ heard_unnamed t one.0 i one.1

-- ---- what no section needs may go

free : (t : Table) (a : ℕ) (sent : Bool) → t.referenced ≡ [] → t.unacknowledged ≡ [] → a ≤ t.known_received_count
    → is_evictable t a sent ≡ true
unfolding is_evictable
free t a sent unnamed settled known = rw (unnamed, settled, le-ltb t.known_received_count a known) (by sent)
  where
    by : (b : Bool) → not (b && false) ≡ true
    by true = refl
    by false = refl

all_free : (t : Table) (a : ℕ) (es : List Entry) → t.referenced ≡ [] → t.unacknowledged ≡ []
    → a + length es ≤ suc t.known_received_count → all_evictable t a es ≡ true
unfolding all_evictable
all_free t a [] unnamed settled known = refl
all_free t a (e ∷ es) unnamed settled known =
    rw (
      free t a e.sent unnamed settled (omega (arith, known)),
      all_free t (suc a) es unnamed settled (omega (arith, known)),
    ) refl

shorter : (n : ℕ) (es : List Entry) → length (take n es) ≤ n
shorter zero es = omega arith
shorter (suc n) [] = omega arith
shorter (suc n) (e ∷ es) = omega (arith, shorter n es)

-- the table after a capacity
abbrev pub sized : Table → ℕ → Table
sized t n =
    record t {
      capacity = n;
      dropped = t.dropped + eviction_count n (fields_in t.live);
      live = drop (eviction_count n (fields_in t.live)) t.live;
    }

-- a capacity within the maximum is taken where no section is unacknowledged and what goes is known to be received
pub settled_takes : (t : Table) (n : ℕ) → t.referenced ≡ [] → t.unacknowledged ≡ []
    → t.dropped + eviction_count n (fields_in t.live) ≤ t.known_received_count → n ≤ greatest_capacity t.agreed_max
    → with_capacity t n ≡ Ok (sized t n)
unfolding with_capacity
settled_takes t n unnamed settled known within =
    let evicted = eviction_count n (fields_in t.live) in
    rw (
      le-leb n (greatest_capacity t.agreed_max) within,
      all_free t (suc t.dropped) (take evicted t.live) unnamed settled
          (omega (arith, shorter evicted t.live, known)),
    ) refl
