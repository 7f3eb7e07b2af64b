-- What holds of an encoder's table behind every call, whatever its peer writes.
use Rattle.std.proofs.Common.{ℕ, ◌+◌, ◌-◌, ◌^◌, ◌<◌, ◌≤◌, ◌≡◌, inl, inr, min, Bool, true, false, cond, List, []}
use Rattle.std.proofs.Common.{◌∷◌, ◌++◌, length, Option, None, Some, Ok, refl, sym, ap, ◌∙◌, subst, arith}
use Rattle.std.proofs.Common.{length-drop}
use Rattle.std.specs.List.{AllByRecursion, filter}
use Rattle.std.specs.Option.{option_map, unwrap_or}
use Rattle.std.specs.Prelude.{nat_eq, nat_lt, find}
use Rattle.std.proofs.lemmas.Bool.{cond_both, ltb-true, ltb-false}
use Rattle.qpack_spec.specs.Bytes.{◌>>=◌}
use Rattle.qpack_spec.specs.Chosen.{Chosen, chosen_rule}
use Rattle.qpack_spec.specs.Field.{FieldLine}
use Rattle.qpack_spec.specs.History.{History, history_after, initial_history, window_of}
use Rattle.qpack_spec.specs.Instruction.{DecoderInstruction, Acknowledgment, Cancellation, Increment}
use Rattle.qpack_rules.specs.LawfulDecoders.{KeepsNeeded}
use Rattle.qpack_spec.specs.Rule.{Draft, required_insert_count, committed_table}
use Rattle.qpack_rules.specs.StrictInstructions.{required_by, oldest_required, known_at_least, or_unknown, strict_hear}
use Rattle.qpack_rules.specs.StrictInstructions.{hear_in_turn}
use Rattle.qpack_spec.specs.Table.{Table, UnacknowledgedBlock, empty_table, insert_count, window, fields_in, commit}
use Rattle.qpack_spec.specs.Table.{without_references, without_oldest, without_stream, with_increment, with_capacity}
use Rattle.qpack_spec.specs.Table.{apply_decoder_instruction}
use Rattle.qpack_spec.specs.Window.{Resizes, UnknownStream, or_refusal, eviction_count}
use Rattle.qpack_rules.proofs.ChosenDrafts.{chosen_drafts}
use Rattle.qpack_spec.proofs.Drafts.{IsLive, KeepsTable, count_inserted, keeps_unnamed}
use Rattle.qpack_spec.proofs.Lists.{every_append, every_weaker}
use Rattle.qpack_spec.proofs.Positions.{eviction_count_live}
use Rattle.qpack_spec.proofs.Readings.{greatest_bound}
use Rattle.qpack_spec.proofs.Results.{bind_ok, ok_is}
use Rattle.qpack_spec.proofs.Windows.{Sound, sound_start, sound_grown, leads_sound}
use Rattle.qpack_encoding.specs.Risk.{streams_at_risk}
use Rattle.qpack_encoding.proofs.Risk.{heard_within}
use Rattle.qpack_safety.proofs.Encoding.{same_committed, kept_committed, blocked_committed}
use Rattle.qpack_safety.proofs.Fronts.{length_filter}
use Rattle.qpack_safety.proofs.Hearing.{kept_opened, kept_raised}
use Rattle.qpack_safety.proofs.OpenBlocks.{releases_stream}
use Rattle.qpack_safety.proofs.Resizing.{CanResize, resized_table, resized_cases, same_resized, kept_resized}
use Rattle.qpack_safety.proofs.Resizing.{bound_same}

-- a required insert count that is not known to be received, of insertions that were made
abbrev pub Waits : ℕ → ℕ → ℕ → Type 0
Waits known count required = (known < required) × (required ≤ count)

-- the table is that of a history, nothing that may be needed is evicted, what is known to be received was made, and no
-- more sections are blocked than may be, each by an insertion that is not known to be received
pub record IsCarefulTable (limit : ℕ) (t : Table) : Type 0 where
  pub history : History
  pub sound : Sound history
  pub kept : KeepsTable history t
  pub known : t.known_received_count ≤ insert_count t
  pub waiting : AllByRecursion (Waits t.known_received_count (insert_count t)) t.blocked
  pub few : length t.blocked ≤ t.limit
  pub limit_is : t.limit ≡ limit

pub careful_needed : (limit : ℕ) (t : Table) → IsCarefulTable limit t → KeepsNeeded t
careful_needed limit t k =
    record {
      referenced = k.kept.held;
      unknown = λ a above made. (omega (arith, above, k.kept.behind), made);
    }

pub careful_count : (limit : ℕ) (t : Table) → IsCarefulTable limit t → insert_count t ≤ 2 ^ 62
careful_count limit t k = omega (arith, count_inserted t k.history k.kept.shares k.sound, k.sound.few)

pub careful_first : (maximum limit : ℕ) → IsCarefulTable limit (empty_table 0 (Some maximum) limit)
unfolding window window_of
careful_first maximum limit =
    record {
      history = initial_history 0 maximum;
      sound = sound_start 0 maximum;
      kept = record { shares = refl; marked = tt; behind = omega arith; held = tt };
      known = omega arith;
      waiting = tt;
      few = omega arith;
      limit_is = refl;
    }

-- ---- a section

waits_later : (t : Table) (d : Draft) (bs : List ℕ) → d.table.known_received_count ≡ t.known_received_count
    → insert_count t ≤ insert_count d.table → AllByRecursion (Waits t.known_received_count (insert_count t)) bs
    → AllByRecursion (Waits d.table.known_received_count (insert_count d.table)) bs
waits_later t d bs same more h =
    every_weaker (Waits t.known_received_count (insert_count t))
    (Waits d.table.known_received_count (insert_count d.table))
    (λ r w. (omega (arith, w.0, same), omega (arith, w.1, more))) bs h

waits_committed : (t : Table) (s required : ℕ) → required ≤ insert_count t
    → AllByRecursion (Waits t.known_received_count (insert_count t)) t.blocked
    → AllByRecursion (Waits t.known_received_count (insert_count t)) (commit t s required).blocked
waits_committed t s required within h =
    subst (AllByRecursion (Waits t.known_received_count (insert_count t)))
    (sym (same_committed t s required).c_waiting)
    (cond_both (nat_lt t.known_received_count required) (t.blocked ++ required ∷ []) t.blocked
    (AllByRecursion (Waits t.known_received_count (insert_count t)))
    (λ above. every_append (Waits t.known_received_count (insert_count t)) t.blocked (required ∷ []) h
    ((ltb-true t.known_received_count required above, within), tt)) (λ _. h))

pub careful_section : (limit : ℕ) (t : Table) (s : ℕ) (fields : List FieldLine) (cs : List Chosen)
    → IsCarefulTable limit t → IsCarefulTable limit (committed_table (chosen_rule t fields cs) s)
careful_section limit t s fields cs k =
    let d = chosen_rule t fields cs in
    let p = chosen_drafts t k.history fields cs k.sound k.kept in
    let required = required_insert_count d in
    let c = same_committed d.table s required in
    let count : insert_count (commit d.table s required) ≡ insert_count d.table =
    omega (arith, c.c_dropped, ap length c.c_live) in
    let within : required ≤ insert_count d.table =
    greatest_bound (insert_count d.table) d.table.referenced
    (every_weaker (IsLive d.table) (λ a. a ≤ insert_count d.table) (λ a h. h.1) d.table.referenced p.referenced) in
    record {
      history = p.history;
      sound = leads_sound k.history d.instructions p.history p.leads k.sound;
      kept = kept_committed p.history d.table s required p.table p.referenced;
      known = omega (arith, c.c_known, count, p.references.known_received_count, p.references.base, k.known);
      waiting =
          rw (c.c_known, count) (waits_committed d.table s required within
          (waits_later t d d.table.blocked p.references.known_received_count p.references.base
          (subst (AllByRecursion (Waits t.known_received_count (insert_count t))) (sym p.references.blocked) k.waiting)));
      few = omega (
        arith,
        blocked_committed t d.table s p.references.known_received_count p.references.blocked p.may k.few,
        c.c_limit,
        p.references.limit,
      );
      limit_is = c.c_limit ∙ p.references.limit ∙ k.limit_is;
    }

-- a section that is given up
pub careful_given_up : (limit : ℕ) (t : Table) (fields : List FieldLine) (cs : List Chosen) → IsCarefulTable limit t
    → IsCarefulTable limit (without_references (chosen_rule t fields cs).table)
unfolding without_references
careful_given_up limit t fields cs k =
    let d = chosen_rule t fields cs in
    let p = chosen_drafts t k.history fields cs k.sound k.kept in
    record {
      history = p.history;
      sound = leads_sound k.history d.instructions p.history p.leads k.sound;
      kept = keeps_unnamed p.history d.table p.table;
      known = omega (arith, p.references.known_received_count, p.references.base, k.known);
      waiting =
          waits_later t d d.table.blocked p.references.known_received_count p.references.base
          (subst (AllByRecursion (Waits t.known_received_count (insert_count t))) (sym p.references.blocked) k.waiting);
      few = omega (arith, ap length p.references.blocked, p.references.limit, k.few);
      limit_is = p.references.limit ∙ k.limit_is;
    }

-- ---- a capacity

resized : (limit : ℕ) (t : Table) (n : ℕ) → IsCarefulTable limit t → CanResize t n
    → IsCarefulTable limit (resized_table t n)
resized limit t n k can =
    let z = same_resized t n in
    let count : insert_count (resized_table t n) ≡ insert_count t =
    omega (
      arith,
      z.z_dropped,
      ap length z.z_live,
      length-drop (eviction_count n (fields_in t.live)) t.live,
      eviction_count_live t n,
    ) in
    record {
      history = history_after k.history (Resizes n);
      sound = sound_grown k.history (Resizes n) k.sound (bound_same t k.history n k.kept.shares can.within);
      kept = kept_resized k.history t n k.sound k.kept can;
      known = omega (arith, z.z_known, count, k.known);
      waiting = rw (z.z_known, count, z.z_waiting) k.waiting;
      few = omega (arith, ap length z.z_waiting, z.z_limit, k.few);
      limit_is = z.z_limit ∙ k.limit_is;
    }

pub careful_capacity : (limit : ℕ) (t u : Table) (n : ℕ) → IsCarefulTable limit t → with_capacity t n ≡ Ok u
    → IsCarefulTable limit u
careful_capacity limit t u n k e =
    elim (resized_cases t n) [
      | inl can ↦ subst (IsCarefulTable limit) (ok_is (resized_table t n) u (sym can.1 ∙ e)) (resized limit t n k can.0)
      | inr refused ↦ absurd (let x = sym refused.1 ∙ e in cc)
    ]

-- ---- what is heard

opened : (limit : ℕ) (t : Table) (bs : List UnacknowledgedBlock) → IsCarefulTable limit t
    → AllByRecursion (λ (b : UnacknowledgedBlock). AllByRecursion (IsLive t) b.entries) bs
    → IsCarefulTable limit (record t { unacknowledged = bs })
opened limit t bs k held =
    record {
      history = k.history;
      sound = k.sound;
      kept = kept_opened k.history t bs held k.kept;
      known = k.known;
      waiting = k.waiting;
      few = k.few;
      limit_is = k.limit_is;
    }

waits_raised : (known raised count : ℕ) (bs : List ℕ) → AllByRecursion (Waits known count) bs
    → AllByRecursion (Waits raised count) (filter (λ r. nat_lt raised r) bs)
waits_raised known raised count [] h = tt
waits_raised known raised count (r ∷ bs) h = by (nat_lt raised r) refl (waits_raised known raised count bs h.1)
  where
    by : (b : Bool) → nat_lt raised r ≡ b → AllByRecursion (Waits raised count) (filter (λ r. nat_lt raised r) bs)
        → AllByRecursion (Waits raised count)
        (cond b (r ∷ filter (λ r. nat_lt raised r) bs) (filter (λ r. nat_lt raised r) bs))
    by true above rest = ((ltb-true raised r above, h.0.1), rest)
    by false above rest = rest

raised : (limit : ℕ) (t : Table) (n : ℕ) → IsCarefulTable limit t → t.known_received_count + n ≤ insert_count t
    → IsCarefulTable limit (with_increment t n)
unfolding with_increment
raised limit t n k made =
    let few = careful_count limit t k in
    record {
      history = k.history;
      sound = k.sound;
      kept = kept_raised k.history t n (omega (arith, made, few)) k.kept;
      known = omega (arith, made);
      waiting = waits_raised t.known_received_count (min (t.known_received_count + n) (2 ^ 64 - 1)) (insert_count t)
          t.blocked k.waiting;
      few = omega (
        arith,
        length_filter (λ r. nat_lt (min (t.known_received_count + n) (2 ^ 64 - 1)) r) t.blocked,
        k.few,
      );
      limit_is = k.limit_is;
    }

oldest_every : (P : UnacknowledgedBlock → Type 0) (s : ℕ) (bs others : List UnacknowledgedBlock)
    → without_oldest s bs ≡ Some others → AllByRecursion P bs → AllByRecursion P others
unfolding without_oldest
oldest_every P s [] others e h = absurd cc
oldest_every P s (b ∷ bs) others e h =
    by (nat_eq b.stream s) (without_oldest s bs) refl (λ rest q. oldest_every P s bs rest q h.1) e
  where
    same : (x y : List UnacknowledgedBlock) → Some x ≡ Some y → x ≡ y
    same x y q = cc

    by : (t : Bool) (o : Option (List UnacknowledgedBlock)) → without_oldest s bs ≡ o
        → ((rest : List UnacknowledgedBlock) → without_oldest s bs ≡ Some rest → AllByRecursion P rest)
        → cond t (Some bs) (option_map (λ rest. b ∷ rest) o) ≡ Some others → AllByRecursion P others
    by true o q rest is = subst (AllByRecursion P) (same bs others is) h.1
    by false None q rest is = absurd cc
    by false (Some more) q rest is = subst (AllByRecursion P) (same (b ∷ more) others is) (h.0, rest more q)

oldest_within : (t : Table) (s : ℕ) (bs : List UnacknowledgedBlock)
    → AllByRecursion (λ (b : UnacknowledgedBlock). AllByRecursion (IsLive t) b.entries) bs
    → unwrap_or (oldest_required s bs) 0 ≤ insert_count t
oldest_within t s [] h = omega arith
oldest_within t s (b ∷ bs) h = by (nat_eq b.stream s) (oldest_within t s bs h.1)
  where
    by : (x : Bool) → unwrap_or (oldest_required s bs) 0 ≤ insert_count t
        → unwrap_or (option_map required_by (cond x (Some b) (find (λ c. nat_eq c.stream s) bs))) 0 ≤ insert_count t
    by true rest =
        greatest_bound (insert_count t) b.entries
        (every_weaker (IsLive t) (λ a. a ≤ insert_count t) (λ a q. q.1) b.entries h.0)
    by false rest = rest

careful_heard : (limit : ℕ) (t u : Table) (i : DecoderInstruction) → IsCarefulTable limit t → strict_hear t i ≡ Ok u
    → IsCarefulTable limit u
unfolding strict_hear apply_decoder_instruction
careful_heard limit t u (Acknowledgment s) k e = go (without_oldest s t.unacknowledged) refl e
  where
    required : ℕ
    required = unwrap_or (oldest_required s t.unacknowledged) 0

    go : (o : Option (List UnacknowledgedBlock)) → without_oldest s t.unacknowledged ≡ o
        → (or_unknown s (or_refusal o (UnknownStream s) >>= λ bs. Ok (record t { unacknowledged = bs }))
        >>= λ v. Ok (known_at_least required v)) ≡ Ok u → IsCarefulTable limit u
    go None is q = absurd cc
    go (Some bs) is q =
        subst (IsCarefulTable limit) (ok_is _ _ q)
        (raised limit (record t { unacknowledged = bs }) (required - t.known_received_count)
        (opened limit t bs k
        (oldest_every (λ (b : UnacknowledgedBlock). AllByRecursion (IsLive t) b.entries) s t.unacknowledged bs is
        k.kept.held))
        (omega (arith, oldest_within t s t.unacknowledged k.kept.held, k.known)))
careful_heard limit t u (Cancellation s) k e =
    subst (IsCarefulTable limit) (ok_is _ _ e)
    (opened limit t (without_stream s t.unacknowledged) k
    ((releases_stream s t.unacknowledged).all_stay
    (λ (b : UnacknowledgedBlock). AllByRecursion (IsLive t) b.entries) k.kept.held))
careful_heard limit t u (Increment by) k e =
    cond_both (nat_eq by 0) _ _ (λ r. r ≡ Ok u → IsCarefulTable limit u) (λ _ q. absurd cc)
    (λ _. cond_both (nat_lt (insert_count t) (t.known_received_count + by)) _ _
    (λ r. r ≡ Ok u → IsCarefulTable limit u) (λ _ q. absurd cc)
    (λ within q. subst (IsCarefulTable limit) (ok_is _ _ q)
    (raised limit t by k (ltb-false (insert_count t) (t.known_received_count + by) within))))
    e

pub careful_hearing : (limit : ℕ) (t u : Table) (is : List DecoderInstruction) → IsCarefulTable limit t
    → hear_in_turn t is ≡ Ok u → IsCarefulTable limit u
careful_hearing limit t u [] k e = subst (IsCarefulTable limit) (ok_is t u e) k
careful_hearing limit t u (i ∷ is) k e =
    let one = bind_ok (strict_hear t i) (λ v. hear_in_turn v is) u e in
    careful_hearing limit one.0 u is (careful_heard limit t one.0 i k one.1) one.2

-- what is heard puts no stream at risk
risk_heard : (limit : ℕ) (t u : Table) (i : DecoderInstruction) → IsCarefulTable limit t → strict_hear t i ≡ Ok u
    → length (streams_at_risk u) ≤ length (streams_at_risk t)
risk_heard limit t u i k e =
    let few = careful_count limit t k in
    heard_within t u i e (omega (arith, k.known, few))
    (λ s. (let most = oldest_within t s t.unacknowledged k.kept.held in omega (arith, most, few)))

pub careful_risk : (limit : ℕ) (t u : Table) (is : List DecoderInstruction) → IsCarefulTable limit t
    → hear_in_turn t is ≡ Ok u → length (streams_at_risk u) ≤ length (streams_at_risk t)
careful_risk limit t u [] k e = omega (arith, ap (λ (x : Table). length (streams_at_risk x)) (ok_is t u e))
careful_risk limit t u (i ∷ is) k e =
    let one = bind_ok (strict_hear t i) (λ v. hear_in_turn v is) u e in
    omega (
      arith,
      risk_heard limit t one.0 i k one.1,
      careful_risk limit one.0 u is (careful_heard limit t one.0 i k one.1) one.2,
    )

-- ---- nothing is blocked where all insertions are known

none_waits : (known count : ℕ) (bs : List ℕ) → count ≤ known → AllByRecursion (Waits known count) bs → bs ≡ []
none_waits known count [] all h = refl
none_waits known count (r ∷ bs) all h = absurd (omega (arith, all, h.0.0, h.0.1))

pub quiet_unblocked : (limit : ℕ) (t : Table) → IsCarefulTable limit t → insert_count t ≤ t.known_received_count
    → 0 < limit → length t.blocked < t.limit
quiet_unblocked limit t k all some =
    omega (
      arith,
      ap length (none_waits t.known_received_count (insert_count t) t.blocked all k.waiting),
      k.limit_is,
      some,
    )
