-- Once all that is under way is heard, the oldest section of a stream that is not acknowledged is the next one to be
-- decoded.
use Rattle.std.proofs.Common.{ℕ, zero, suc, ◌+◌, ◌<◌, ◌≡◌, Bool, true, false, cond, List, [], ◌∷◌, ◌++◌, length, drop, take, map}
use Rattle.std.proofs.Common.{Some, Result, Ok, refl, sym, ap, ◌∙◌, subst, arith}
use Rattle.std.specs.List.{filter}
use Rattle.std.specs.Option.{option_map}
use Rattle.std.specs.Prelude.{nat_eq, find, slice_get}
use Rattle.std.proofs.lemmas.List.{append-nil}
use Rattle.qpack_spec.specs.Bytes.{◌>>=◌}
use Rattle.qpack_spec.specs.Instruction.{DecoderInstruction}
use Rattle.qpack_rules.specs.Session.{stream_at, oldest_undecoded, increment_sum}
use Rattle.qpack_rules.specs.StrictInstructions.{HearingRefusal, required_by, oldest_required, hear_in_turn}
use Rattle.qpack_spec.specs.Reading.{greatest_of}
use Rattle.qpack_spec.specs.Table.{Table, UnacknowledgedBlock, without_oldest}
use Rattle.qpack_spec.specs.Window.{TableRefusal, window_insert_count}
use Rattle.qpack_safety.specs.AbstractSession.{AbstractBlock, AbstractSession, required_count, is_dynamic, after_hear, hear_next}
use Rattle.qpack_safety.specs.TwoEnds.{Hear, after_end_step}
use Rattle.qpack_safety.proofs.DecoderInstructions.{acks_in}
use Rattle.qpack_safety.proofs.ManySteps.{heard_many, told_and_not}
use Rattle.qpack_safety.proofs.OpenBlocks.{open_of, release_some}
use Rattle.qpack_safety.proofs.StrictEvents.{strictly_hears}
use Rattle.qpack_safety.proofs.TwoEnds.{Holds, holds_behind, holds_step}

-- the first of those that pass behind so many is the element there, if it passes
first_behind : (n : ℕ) (p : AbstractBlock → Bool) (xs : List AbstractBlock) (x : AbstractBlock)
    → slice_get xs n ≡ Some x → p x ≡ true
    → (more : List AbstractBlock) × (drop (length (filter p (take n xs))) (filter p xs) ≡ x ∷ more)
first_behind n p [] x e h = absurd cc
first_behind zero p (y ∷ ys) x e h =
    let same : y ≡ x = cc in (
      filter p ys,
      subst (λ (z : AbstractBlock). cond (p y) (y ∷ filter p ys) (filter p ys) ≡ z ∷ filter p ys) same
          (rw (ap p same ∙ h) refl),
    )
first_behind (suc n) p (y ∷ ys) x e h =
    let rest = first_behind n p ys x e h in (
      rest.0,
      elim (p y) as (λ b. drop (length (cond b (y ∷ filter p (take n ys)) (filter p (take n ys))))
          (cond b (y ∷ filter p ys) (filter p ys)) ≡ x ∷ rest.0) [ true ↦ rest.1 | false ↦ rest.1 ],
    )

oldest_open : (s : ℕ) (bs : List UnacknowledgedBlock) (first : List ℕ) (more : List (List ℕ))
    → open_of s bs ≡ first ∷ more → oldest_required s bs ≡ Some (greatest_of first)
unfolding open_of
oldest_open s [] first more e = absurd cc
oldest_open s (b ∷ bs) first more e = both (nat_eq b.stream s) (oldest_open s bs first more) e
  where
    both : (t : Bool) → (open_of s bs ≡ first ∷ more → oldest_required s bs ≡ Some (greatest_of first))
        → cond t (b.entries ∷ open_of s bs) (open_of s bs) ≡ first ∷ more
        → option_map required_by (cond t (Some b) (find (λ c. nat_eq c.stream s) bs)) ≡ Some (greatest_of first)
    both true later h = let same : b.entries ≡ first = cc in ap (λ (es : List ℕ). Some (greatest_of es)) same
    both false later h = later h

-- the table behind all that is under way: the oldest section of this stream requires so many insertions, and it and what
-- is not reported are all that were received
pub record OldestIs (last : Table) (s required unreported received : ℕ) : Type 0 where
  pub others : List UnacknowledgedBlock
  pub oldest : oldest_required s last.unacknowledged ≡ Some required
  pub others_are : without_oldest s last.unacknowledged ≡ Some others
  pub known : last.known_received_count + unreported ≡ received

-- what is known behind all that is under way
pub known_behind : (capacity maximum limit : ℕ) (w : AbstractSession) (last : Table) → Holds capacity maximum limit w
    → hear_in_turn w.encoder w.decoder_in_flight ≡ Ok last
    → Holds capacity maximum limit (record w { encoder = last; decoder_in_flight = [] })
known_behind capacity maximum limit w last h heard =
    let m = heard_many capacity maximum limit w.decoder_in_flight [] w last (sym (append-nil w.decoder_in_flight)) h heard in
    subst (Holds capacity maximum limit) m.1 (holds_behind capacity maximum limit m.0 w h)

pub oldest_is : (capacity maximum limit : ℕ) (w : AbstractSession) (s : ℕ) (b : AbstractBlock) (last : Table)
    → Holds capacity maximum limit w → (stream_at w.streams s).cancelled ≡ false
    → oldest_undecoded (stream_at w.streams s) ≡ Some b → is_dynamic b ≡ true
    → hear_in_turn w.encoder w.decoder_in_flight ≡ Ok last
    → OldestIs last s (required_count b) w.unreported (window_insert_count w.decoder)
unfolding acks_in increment_sum
oldest_is capacity maximum limit w s b last h live next dynamic heard =
    let x : AbstractSession = record w { encoder = last; decoder_in_flight = [] } in
    let k = known_behind capacity maximum limit w last h heard in
    let st = stream_at w.streams s in
    let first = first_behind st.decoded is_dynamic st.blocks b next dynamic in
    let opened : open_of s last.unacknowledged ≡ map (λ (y : AbstractBlock). y.referenced) (b ∷ first.0) =
    (k.invariant.streams s).stays_open live
    ∙ ap (λ (n : ℕ). map (λ (y : AbstractBlock). y.referenced) (drop n (filter is_dynamic st.blocks)))
    ((k.strict.answered s).acknowledged live)
    ∙ ap (map (λ (y : AbstractBlock). y.referenced)) first.1 in
    let rest = release_some s last.unacknowledged (omega (arith, ap (λ (l : List (List ℕ)). length l) opened)) in
    record {
      others = rest.0;
      oldest = oldest_open s last.unacknowledged b.referenced (map (λ (y : AbstractBlock). y.referenced) first.0) opened;
      others_are = rest.1;
      known = omega (arith, told_and_not capacity maximum limit x k.invariant);
    }

-- ---- all that is under way is heard

pub heard_whole : (capacity maximum limit : ℕ) (rs : List DecoderInstruction) (w : AbstractSession)
    → w.decoder_in_flight ≡ rs → Holds capacity maximum limit w
    → (last : Table) × (hear_in_turn w.encoder rs ≡ Ok last)
heard_whole capacity maximum limit [] w e h = (w.encoder, refl)
heard_whole capacity maximum limit (r ∷ rs) w e h =
    let one = strictly_hears capacity maximum limit w r rs e h.invariant h.strict in
    let next : AbstractSession = record w { encoder = one.0; decoder_in_flight = rs } in
    let is : after_end_step w Hear ≡ next =
    ap (hear_next w) e ∙ ap (λ (x : Result Table TableRefusal). after_hear w rs x) one.2 in
    let behind = heard_whole capacity maximum limit rs next refl
    (subst (Holds capacity maximum limit) is (holds_step capacity maximum limit Hear w h)) in
    (behind.0, ap (λ (x : Result Table HearingRefusal). x >>= λ v. hear_in_turn v rs) one.1 ∙ behind.1)
