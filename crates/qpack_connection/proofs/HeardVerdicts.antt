-- What a strict encoder hears is what a lawful decoder may write.
use Rattle.std.proofs.Common.{ℕ, ◌+◌, ◌-◌, ◌^◌, ◌<◌, ◌≤◌, ◌≡◌, max, Bool, true, false, cond, List, [], ◌∷◌}
use Rattle.std.proofs.Common.{Option, None, Some, Result, Ok, Err, refl, sym, ap, ◌∙◌, subst, arith}
use Rattle.std.specs.List.{AllByRecursion}
use Rattle.std.specs.Option.{option_map}
use Rattle.std.specs.Prelude.{nat_eq, nat_lt, not, filter}
use Rattle.std.proofs.lemmas.Bool.{ltb-false}
use Rattle.qpack_spec.specs.Bytes.{◌>>=◌}
use Rattle.qpack_spec.specs.Instruction.{DecoderInstruction, Acknowledgment, Cancellation, Increment}
use Rattle.qpack_rules.specs.LawfulDecoders.{MayWrite}
use Rattle.qpack_rules.specs.StrictInstructions.{HearingRefusal, ZeroIncrement, PastInsertions, UnknownStream}
use Rattle.qpack_rules.specs.StrictInstructions.{required_by, oldest_required, known_at_least, strict_hear}
use Rattle.qpack_rules.specs.StrictInstructions.{hear_in_turn}
use Rattle.qpack_spec.specs.Table.{Table, UnacknowledgedBlock, insert_count, without_oldest, without_stream}
use Rattle.qpack_spec.specs.Table.{with_increment, apply_decoder_instruction}
use Rattle.qpack_connection.specs.LawfulVerdicts.{HeardStreamsAreLawful}
use Rattle.qpack_connection.proofs.ReadPrefixes.{positive_of}

-- a section requires no more than this number of insertions
abbrev pub AtMost : ℕ → UnacknowledgedBlock → Type 0
AtMost n b = required_by b ≤ n

-- the oldest section of a stream, and the others
pub record IsOldest (n s : ℕ) (bs others : List UnacknowledgedBlock) : Type 0 where
  pub required : ℕ
  pub oldest : oldest_required s bs ≡ Some required
  pub low : required ≤ n
  pub rest : AllByRecursion (AtMost n) others

same_list : (xs ys : List UnacknowledgedBlock) → Some xs ≡ Some ys → xs ≡ ys
same_list xs ys e = cc

pub oldest_of : (n s : ℕ) (bs others : List UnacknowledgedBlock) → AllByRecursion (AtMost n) bs
    → without_oldest s bs ≡ Some others → IsOldest n s bs others
unfolding without_oldest
oldest_of n s [] others low e = absurd cc
oldest_of n s (b ∷ bs) others low e =
    both (nat_eq b.stream s) refl (without_oldest s bs) refl (λ more r. oldest_of n s bs more low.1 r) e
  where
    both : (t : Bool) → nat_eq b.stream s ≡ t → (o : Option (List UnacknowledgedBlock)) → without_oldest s bs ≡ o
        → ((more : List UnacknowledgedBlock) → without_oldest s bs ≡ Some more → IsOldest n s bs more)
        → cond t (Some bs) (option_map (λ rest. b ∷ rest) o) ≡ Some others → IsOldest n s (b ∷ bs) others
    both true q o r later h =
        record {
          required = required_by b;
          oldest = rw q refl;
          low = low.0;
          rest = subst (AllByRecursion (AtMost n)) (same_list bs others h) low.1;
        }
    both false q None r later h = absurd cc
    both false q (Some more) r later h =
        let k = later more r in
        record {
          required = k.required;
          oldest = rw q k.oldest;
          low = k.low;
          rest = subst (AllByRecursion (AtMost n)) (same_list (b ∷ more) others h) (low.0, k.rest);
        }

pub others_low : (n s : ℕ) (bs : List UnacknowledgedBlock) → AllByRecursion (AtMost n) bs
    → AllByRecursion (AtMost n) (without_stream s bs)
unfolding without_stream
others_low n s [] low = tt
others_low n s (b ∷ bs) low = both (not (nat_eq b.stream s)) (others_low n s bs low.1)
  where
    both : (t : Bool) → AllByRecursion (AtMost n) (filter (λ c. not (nat_eq c.stream s)) bs)
        → AllByRecursion (AtMost n)
        (cond t (b ∷ filter (λ c. not (nat_eq c.stream s)) bs) (filter (λ c. not (nat_eq c.stream s)) bs))
    both true later = (low.0, later)
    both false later = later

-- ---- an instruction that is heard, with those after it

record HearsAcknowledgment (n : ℕ) (t u : Table) (s : ℕ) (more : List DecoderInstruction) : Type 0 where
  pub others : List UnacknowledgedBlock
  pub others_are : without_oldest s t.unacknowledged ≡ Some others
  pub oldest : IsOldest n s t.unacknowledged others
  pub rest : hear_in_turn (known_at_least oldest.required (record t { unacknowledged = others })) more ≡ Ok u

hears_acknowledgment : (n : ℕ) (t u : Table) (s : ℕ) (more : List DecoderInstruction)
    → AllByRecursion (AtMost n) t.unacknowledged → hear_in_turn t (Acknowledgment s ∷ more) ≡ Ok u
    → HearsAcknowledgment n t u s more
unfolding strict_hear apply_decoder_instruction
hears_acknowledgment n t u s more low e = by (without_oldest s t.unacknowledged) refl
  where
    by : (o : Option (List UnacknowledgedBlock)) → without_oldest s t.unacknowledged ≡ o
        → HearsAcknowledgment n t u s more
    by None q =
        let x : hear_in_turn t (Acknowledgment s ∷ more) ≡ Err (UnknownStream s) = rw q refl in
        absurd (let y = sym x ∙ e in cc)
    by (Some others) q =
        let k = oldest_of n s t.unacknowledged others low q in
        let v = known_at_least k.required (record t { unacknowledged = others }) in
        let x : strict_hear t (Acknowledgment s) ≡ Ok v = rw (q, k.oldest) refl in
        record {
          others = others;
          others_are = q;
          oldest = k;
          rest = sym (ap (λ (r : Result Table HearingRefusal). r >>= λ w. hear_in_turn w more) x) ∙ e;
        }

record HearsIncrement (t u : Table) (by : ℕ) (more : List DecoderInstruction) : Type 0 where
  pub some : 0 < by
  pub within : t.known_received_count + by ≤ insert_count t
  pub rest : hear_in_turn (with_increment t by) more ≡ Ok u

hears_increment : (t u : Table) (by : ℕ) (more : List DecoderInstruction)
    → hear_in_turn t (Increment by ∷ more) ≡ Ok u → HearsIncrement t u by more
unfolding strict_hear
hears_increment t u by more e =
    pick (nat_eq by 0) refl (nat_lt (insert_count t) (t.known_received_count + by)) refl
  where
    pick : (z : Bool) → nat_eq by 0 ≡ z → (p : Bool) → nat_lt (insert_count t) (t.known_received_count + by) ≡ p
        → HearsIncrement t u by more
    pick true q p r =
        let x : hear_in_turn t (Increment by ∷ more) ≡ Err ZeroIncrement = rw q refl in
        absurd (let y = sym x ∙ e in cc)
    pick false q true r =
        let x : hear_in_turn t (Increment by ∷ more) ≡ Err (PastInsertions by) = rw (q, r) refl in
        absurd (let y = sym x ∙ e in cc)
    pick false q false r =
        let x : strict_hear t (Increment by) ≡ Ok (with_increment t by) = rw (q, r) refl in
        record {
          some = positive_of by q;
          within = ltb-false (insert_count t) (t.known_received_count + by) r;
          rest = sym (ap (λ (r : Result Table HearingRefusal). r >>= λ w. hear_in_turn w more) x) ∙ e;
        }

-- what an increment makes of the parts that count here
known_after : (t : Table) (by : ℕ) → t.known_received_count + by < 2 ^ 64
    → (with_increment t by).known_received_count ≡ t.known_received_count + by
unfolding with_increment
known_after t by few = omega (arith, few)

-- ---- all that is heard, while this number of insertions was made

heard_from : (n : ℕ) (t u : Table) (more : List DecoderInstruction) → insert_count t ≡ n → n < 2 ^ 64
    → t.known_received_count ≤ n → AllByRecursion (AtMost n) t.unacknowledged → hear_in_turn t more ≡ Ok u
    → MayWrite n t.known_received_count t.unacknowledged more
unfolding strict_hear apply_decoder_instruction with_increment
heard_from n t u [] count few known low e = tt
heard_from n t u (Acknowledgment s ∷ more) count few known low e =
    let k = hears_acknowledgment n t u s more low e in
    let held : Table = record t { unacknowledged = k.others } in
    let v = known_at_least k.oldest.required held in
    let required : k.oldest.required ≤ n = k.oldest.low in
    let raised = known_after held (k.oldest.required - t.known_received_count) (omega (arith, few, known, required)) in
    let now : v.known_received_count ≡ max t.known_received_count k.oldest.required = omega (arith, raised) in (
      record {
        required = k.oldest.required;
        others = k.others;
        oldest = k.oldest.oldest;
        others_are = k.others_are;
        decoded = required;
      },
      subst (λ (m : ℕ). MayWrite n m k.others more) now
          (heard_from n v u more count few (omega (arith, now, known, required)) k.oldest.rest k.rest),
    )
heard_from n t u (Cancellation s ∷ more) count few known low e =
    heard_from n (record t { unacknowledged = without_stream s t.unacknowledged }) u more count few known
    (others_low n s t.unacknowledged low) e
heard_from n t u (Increment by ∷ more) count few known low e =
    let k = hears_increment t u by more e in
    let within : t.known_received_count + by ≤ n = omega (arith, count, k.within) in
    let now = known_after t by (omega (arith, few, within)) in (
      k.some,
      within,
      subst (λ (m : ℕ). MayWrite n m t.unacknowledged more) now
          (heard_from n (with_increment t by) u more count few (omega (arith, now, within)) low k.rest),
    )

pub heard_lawful : HeardStreamsAreLawful
heard_lawful t u more known few low e = heard_from (insert_count t) t u more refl few known low e
