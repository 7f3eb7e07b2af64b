-- No more streams of a connection in bytes wait than may.
use Rattle.std.proofs.Common.{◌≡◌, ◌≤◌, ◌<◌, ℕ, Bool, true, false, cond, List, [], ◌∷◌, map, length}
use Rattle.std.proofs.Common.{Some, refl, sym, ap, ◌∙◌, arith}
use Rattle.std.proofs.lemmas.List.{length-map}
use Rattle.std.specs.List.{AllByRecursion, filter}
use Rattle.std.specs.Option.{option_map, is_some}
use Rattle.std.specs.Prelude.{nat_eq, nat_lt, find, ◌||◌}
use Rattle.std.proofs.lemmas.Bool.{eqb-true, eqb-false, ne_eqb, ltb-true, ltb-false}
use Rattle.qpack_rules.specs.Session.{stream_at, oldest_undecoded}
use Rattle.qpack_spec.specs.Table.{Table, insert_count, has_number}
use Rattle.qpack_rules.proofs.PutTables.{count_put}
use Rattle.qpack_safety.specs.AbstractSession.{AbstractSession, abstract_start}
use Rattle.qpack_safety.specs.TwoEnds.{EndStep, after_end_steps}
use Rattle.qpack_safety.proofs.WaitingStreams.{waiting_unacknowledged}
use Rattle.qpack_safety.proofs.TwoEnds.{strict_ends_safe}
use Rattle.qpack_shared.specs.declared.streams.BlockedStream.{BlockedStream}
use Rattle.qpack_encoding.specs.Risk.{is_at_risk, streams_at_risk, AreDistinct}
use Rattle.qpack_encoding.proofs.Risk.{at_risk_within}
use Rattle.qpack_decoding.specs.Blocked.{is_listed, required_of, exceeds}
use Rattle.qpack_connection.specs.Connections.{SentSection, Connection}
use Rattle.qpack_connection.specs.RefinedConnections.{RefinesSession}
use Rattle.qpack_connection.specs.RefinedDecodes.{MayWait}
use Rattle.qpack_connection.specs.Waiting.{AreOfOneEach, IsNextOf, BlockedAreNext}
use Rattle.qpack_connection.proofs.RefinedDecodes.{next_block}

-- a stream that is not listed is none of these
pub none_of : (s : ℕ) (bs : List BlockedStream) → is_listed s bs ≡ false
    → AllByRecursion (λ (b : BlockedStream). nat_eq b.stream s ≡ false) bs
none_of s [] h = tt
none_of s (b ∷ bs) h = both (nat_eq b.stream s) refl (none_of s bs) h
  where
    both : (t : Bool) → nat_eq b.stream s ≡ t
        → (is_listed s bs ≡ false → AllByRecursion (λ (x : BlockedStream). nat_eq x.stream s ≡ false) bs)
        → is_some (option_map (λ (x : BlockedStream). x.required)
        (cond t (Some b) (find (λ x. nat_eq x.stream s) bs))) ≡ false
        → AllByRecursion (λ (x : BlockedStream). nat_eq x.stream s ≡ false) (b ∷ bs)
    both true e rest q = absurd cc
    both false e rest q = (e, rest q)

-- those that wait are not among these
abbrev pub Apart : ℕ → List ℕ → List BlockedStream → Type 0
Apart n seen bs = AllByRecursion (λ (b : BlockedStream). n < b.required → has_number b.stream seen ≡ false) bs

pub apart_from_none : (n : ℕ) (bs : List BlockedStream) → Apart n [] bs
apart_from_none n [] = tt
apart_from_none n (b ∷ bs) = (λ more. refl, apart_from_none n bs)

pub apart_swap : (m n : ℕ) → nat_eq m n ≡ false → nat_eq n m ≡ false
apart_swap m n e = ne_eqb n m (λ same. eqb-false m n e (sym same))

pub apart_more : (n s : ℕ) (seen : List ℕ) (bs : List BlockedStream)
    → AllByRecursion (λ (b : BlockedStream). nat_eq b.stream s ≡ false) bs → Apart n seen bs → Apart n (s ∷ seen) bs
apart_more n s seen [] h k = tt
apart_more n s seen (b ∷ bs) h k =
    (λ more. rw (apart_swap b.stream s h.0) (k.0 more), apart_more n s seen bs h.1 k.1)

all_apart : (n s : ℕ) (bs : List BlockedStream)
    → AllByRecursion (λ (b : BlockedStream). nat_eq b.stream s ≡ false) bs → Apart n (s ∷ []) bs
all_apart n s [] h = tt
all_apart n s (b ∷ bs) h = (λ more. rw (apart_swap b.stream s h.0) refl, all_apart n s bs h.1)

-- a stream that is not blocked is none of those that wait
pub not_waiting : (n s : ℕ) (bs : List BlockedStream) → exceeds n (required_of s bs) ≡ false → AreOfOneEach bs
    → Apart n (s ∷ []) bs
not_waiting n s [] h once = tt
not_waiting n s (b ∷ bs) h once = both (nat_eq b.stream s) refl (λ q. not_waiting n s bs q once.1) h
  where
    both : (t : Bool) → nat_eq b.stream s ≡ t
        → (exceeds n (required_of s bs) ≡ false → Apart n (s ∷ []) bs)
        → exceeds n (option_map (λ (x : BlockedStream). x.required)
        (cond t (Some b) (find (λ x. nat_eq x.stream s) bs))) ≡ false → Apart n (s ∷ []) (b ∷ bs)
    both true e rest q = (
      λ more. absurd (let least = ltb-false n b.required q in omega (arith, more, least)),
      all_apart n s bs (none_of s bs (ap (λ (x : ℕ). is_listed x bs) (sym (eqb-true b.stream s e)) ∙ once.0)),
    )
    both false e rest q = (λ more. rw (apart_swap b.stream s e) refl, rest q)

-- those that wait are different streams
pub none_waits_twice : (n : ℕ) (seen : List ℕ) (bs : List BlockedStream) → AreOfOneEach bs → Apart n seen bs
    → AreDistinct (map (λ (b : BlockedStream). b.stream) (filter (λ b. nat_lt n b.required) bs))
none_waits_twice n seen [] once apart = tt
none_waits_twice n seen (b ∷ bs) once apart =
    both (nat_lt n b.required) (none_waits_twice n seen bs once.1 apart.1)
  where
    absent : (xs : List BlockedStream) → AllByRecursion (λ (x : BlockedStream). nat_eq x.stream b.stream ≡ false) xs
        → has_number b.stream (map (λ (x : BlockedStream). x.stream) (filter (λ x. nat_lt n x.required) xs)) ≡ false
    absent [] h = refl
    absent (x ∷ xs) h = each (nat_lt n x.required) (absent xs h.1)
      where
        each : (t : Bool)
            → has_number b.stream (map (λ (y : BlockedStream). y.stream) (filter (λ y. nat_lt n y.required) xs)) ≡ false
            → has_number b.stream (map (λ (y : BlockedStream). y.stream) (cond t (x ∷ filter (λ y. nat_lt n y.required) xs)
            (filter (λ y. nat_lt n y.required) xs))) ≡ false
        each true rest = rw h.0 rest
        each false rest = rest

    both : (t : Bool)
        → AreDistinct (map (λ (x : BlockedStream). x.stream) (filter (λ x. nat_lt n x.required) bs))
        → AreDistinct (map (λ (x : BlockedStream). x.stream) (cond t (b ∷ filter (λ x. nat_lt n x.required) bs)
        (filter (λ x. nat_lt n x.required) bs)))
    both true rest = (absent bs (none_of b.stream bs once.0), rest)
    both false rest = rest

-- a stream whose next section requires more than was received is at risk
risk_of : (maximum limit n : ℕ) (c : Connection) (steps : List EndStep) (s : ℕ) (k : SentSection)
    → (let w = after_end_steps steps (abstract_start 0 maximum limit) in
    RefinesSession maximum c w → w.encoder.known_received_count ≤ n → (stream_at c.streams s).cancelled ≡ false
    → oldest_undecoded (stream_at c.streams s) ≡ Some k → n < k.required
    → is_at_risk w.encoder.known_received_count s w.encoder.unacknowledged ≡ true)
risk_of maximum limit n c steps s k r known live next more =
    let w = after_end_steps steps (abstract_start 0 maximum limit) in
    let x = next_block maximum c w s k r next in
    waiting_unacknowledged 0 maximum limit w.encoder.known_received_count (omega arith) steps s x.block
    (sym (r.streams s).cancelled_is ∙ live) x.next (omega (arith, known, more, x.refines.required_is))

-- those that wait are at risk
pub all_at_risk : (maximum limit n : ℕ) (c : Connection) (steps : List EndStep) (bs : List BlockedStream)
    → (let w = after_end_steps steps (abstract_start 0 maximum limit) in
    RefinesSession maximum c w → w.encoder.known_received_count ≤ n → AllByRecursion (IsNextOf c) bs
    → AllByRecursion (λ (s : ℕ). is_at_risk w.encoder.known_received_count s w.encoder.unacknowledged ≡ true)
    (map (λ (b : BlockedStream). b.stream) (filter (λ b. nat_lt n b.required) bs)))
all_at_risk maximum limit n c steps [] r known next = tt
all_at_risk maximum limit n c steps (b ∷ bs) r known next =
    both (nat_lt n b.required) refl (all_at_risk maximum limit n c steps bs r known next.1)
  where
    w : AbstractSession
    w = after_end_steps steps (abstract_start 0 maximum limit)

    both : (t : Bool) → nat_lt n b.required ≡ t
        → AllByRecursion (λ (s : ℕ). is_at_risk w.encoder.known_received_count s w.encoder.unacknowledged ≡ true)
        (map (λ (x : BlockedStream). x.stream) (filter (λ x. nat_lt n x.required) bs))
        → AllByRecursion (λ (s : ℕ). is_at_risk w.encoder.known_received_count s w.encoder.unacknowledged ≡ true)
        (map (λ (x : BlockedStream). x.stream) (cond t (b ∷ filter (λ x. nat_lt n x.required) bs)
        (filter (λ x. nat_lt n x.required) bs)))
    both true e rest = (
      risk_of maximum limit n c steps b.stream next.0.section r known next.0.live next.0.next
          (omega (arith, ltb-true n b.required e, next.0.required_is)),
      rest,
    )
    both false e rest = rest

-- a stream that is none of those that wait
absent_waiting : (n s : ℕ) (bs : List BlockedStream) → Apart n (s ∷ []) bs
    → has_number s (map (λ (b : BlockedStream). b.stream) (filter (λ b. nat_lt n b.required) bs)) ≡ false
absent_waiting n s [] h = refl
absent_waiting n s (b ∷ bs) h = both (nat_lt n b.required) refl (absent_waiting n s bs h.1)
  where
    apart : n < b.required → nat_eq b.stream s ≡ false
    apart more = by (nat_eq s b.stream) refl (h.0 more)
      where
        by : (t : Bool) → nat_eq s b.stream ≡ t → (t || false) ≡ false → nat_eq b.stream s ≡ false
        by true e q = absurd cc
        by false e q = apart_swap s b.stream e

    both : (t : Bool) → nat_lt n b.required ≡ t
        → has_number s (map (λ (x : BlockedStream). x.stream) (filter (λ x. nat_lt n x.required) bs)) ≡ false
        → has_number s (map (λ (x : BlockedStream). x.stream) (cond t (b ∷ filter (λ x. nat_lt n x.required) bs)
        (filter (λ x. nat_lt n x.required) bs))) ≡ false
    both true e rest = rw (apart (ltb-true n b.required e)) rest
    both false e rest = rest

pub may_wait : (maximum limit : ℕ) (c : Connection) (steps : List EndStep) (s : ℕ) (k : SentSection)
    → RefinesSession maximum c (after_end_steps steps (abstract_start 0 maximum limit))
    → length (streams_at_risk c.encoder.table) ≤ c.decoder.settings.max_blocked → BlockedAreNext c
    → (stream_at c.streams s).cancelled ≡ false → oldest_undecoded (stream_at c.streams s) ≡ Some k
    → MayWait c.decoder s k
may_wait maximum limit c steps s k r few blocked live next missing one =
    let w = after_end_steps steps (abstract_start 0 maximum limit) in
    let n = insert_count c.decoder.table in
    let safe = (strict_ends_safe 0 maximum limit (omega arith) steps).0 in
    let known : w.encoder.known_received_count ≤ n =
    omega (arith, safe.received, ap insert_count r.decoder_is, count_put w.decoder) in
    let waiting = filter (λ (b : BlockedStream). nat_lt n b.required) c.decoder.blocked in
    let most = at_risk_within w.encoder (s ∷ map (λ (b : BlockedStream). b.stream) waiting) (
      absent_waiting n s c.decoder.blocked (not_waiting n s c.decoder.blocked one.0 blocked.once),
      none_waits_twice n [] c.decoder.blocked blocked.once (apart_from_none n c.decoder.blocked),
    ) (
      risk_of maximum limit n c steps s k r known live next missing,
      all_at_risk maximum limit n c steps c.decoder.blocked r known blocked.next,
    ) in
    omega (
      arith,
      most,
      length-map waiting (λ (b : BlockedStream). b.stream),
      one.1,
      few,
      ap (λ (t : Table). length (streams_at_risk t)) r.encoder_is,
    )
