-- What the events with their answers tell of a stream's acknowledgments, and of whether it is cancelled.
use Rattle.std.proofs.Common.{ℕ, ◌+◌, ◌≡◌, Bool, true, false, cond, List, [], ◌∷◌, refl, sym, ap, ◌∙◌, subst, inl, inr}
use Rattle.std.proofs.Common.{◌⊎◌}
use Rattle.std.proofs.Common.{arith, Some}
use Rattle.std.specs.Prelude.{nat_eq, ◌||◌}
use Rattle.std.proofs.Math.Bool.{or-false, or_assoc}
use Rattle.std.proofs.lemmas.Bool.{cases_eq, eq-eqb, ne_eqb}
use Rattle.qpack_spec.specs.Table.{Table, window}
use Rattle.qpack_spec.specs.Reading.{Reading, Fields, Missing, Faulty}
use Rattle.qpack_spec.specs.BlockReading.{reading_of_bytes}
use Rattle.qpack_rules.specs.Session.{KeptStream, stream_at, Session, Event, Encode, Decode, ToDecoder}
use Rattle.qpack_rules.specs.Session.{ToEncoder, Acknowledge, Cancel, ChangeCapacity, Outcome}
use Rattle.qpack_rules.specs.Session.{NoMemory, Skipped, with_decoded, is_read, EndsAtDecoder}
use Rattle.qpack_rules.specs.Session.{takes_all, no_memory, bad_bytes, bad_instruction, EndsAtEncoder}
use Rattle.qpack_rules.specs.Session.{takes_all_at_encoder, bad_bytes_at_encoder, bad_decoder_instruction, LawfulStep}
use Rattle.qpack_rules.specs.Session.{Step, Run}
use Rattle.qpack_safety.specs.Headline.{acknowledgment_of, acknowledgments_on, cancels, is_cancelled}

-- a stream behind so many acknowledgments more, and cancelled or not
pub record Marks (old new : KeptStream) (acknowledgments : ℕ) (cancelled : Bool) : Type 0 where
  pub acknowledged : new.acknowledged ≡ old.acknowledged + acknowledgments
  pub cancelled_is : new.cancelled ≡ (old.cancelled || cancelled)

marks_none : (k : KeptStream) → Marks k k 0 false
marks_none k = record { acknowledged = omega arith; cancelled_is = sym (or-false k.cancelled) }

-- as it was, where it is the same stream
marks_same : (old new : KeptStream) → new ≡ old → Marks old new 0 false
marks_same old new e = subst (λ (k : KeptStream). Marks old k 0 false) (sym e) (marks_none old)

-- one stream changed
marks_changed : (ps : List (ℕ × KeptStream)) (t s : ℕ) (k : KeptStream) (n : ℕ) (b : Bool)
    → Marks (stream_at ps t) k n b
    → Marks (stream_at ps s) (stream_at ((t, k) ∷ ps) s) (cond (nat_eq t s) n 0) (cond (nat_eq t s) b false)
marks_changed ps t s k n b m = pick (cases_eq t s)
  where
    pick : (t ≡ s) ⊎ (t ≡ s → ⊥)
        → Marks (stream_at ps s) (stream_at ((t, k) ∷ ps) s) (cond (nat_eq t s) n 0) (cond (nat_eq t s) b false)
    pick (inl q) = let own : nat_eq t s ≡ true = eq-eqb t s q in
        rw own (subst (λ (x : ℕ). Marks (stream_at ps x) k n b) q m)
    pick (inr d) = let apart : nat_eq t s ≡ false = ne_eqb t s d in rw apart (marks_none (stream_at ps s))

-- one stream changed elsewhere
marks_kept : (ps : List (ℕ × KeptStream)) (t s : ℕ) (k : KeptStream) → Marks (stream_at ps t) k 0 false
    → Marks (stream_at ps s) (stream_at ((t, k) ∷ ps) s) 0 false
marks_kept ps t s k m =
    subst (λ (x : ℕ × Bool). Marks (stream_at ps s) (stream_at ((t, k) ∷ ps) s) x.0 x.1) (none (nat_eq t s))
    (marks_changed ps t s k 0 false m)
  where
    none : (b : Bool) → (let x : ℕ × Bool = (cond b 0 0, cond b false false) in x) ≡ (0, false)
    none true = refl
    none false = refl

-- a stream of which only the blocks differ, or how many are decoded
marks_blocks : (old new : KeptStream) → new.acknowledged ≡ old.acknowledged → new.cancelled ≡ old.cancelled
    → Marks old new 0 false
marks_blocks old new a c =
    record { acknowledged = a ∙ omega arith; cancelled_is = c ∙ sym (or-false old.cancelled) }

-- a stream of which one block more is acknowledged
acknowledged_marks : (ps : List (ℕ × KeptStream)) (t s : ℕ) (k : KeptStream) → k ≡ stream_at ps t
    → Marks (stream_at ps s) (stream_at ((t, record k { acknowledged = k.acknowledged + 1 }) ∷ ps) s)
    (cond (nat_eq t s) 1 0) false
acknowledged_marks ps t s k e =
    let new : KeptStream = record k { acknowledged = k.acknowledged + 1 } in
    subst (Marks (stream_at ps s) (stream_at ((t, new) ∷ ps) s) (cond (nat_eq t s) 1 0)) (none (nat_eq t s))
    (marks_changed ps t s new 1 false
    (record {
      acknowledged = ap (λ (x : KeptStream). x.acknowledged + 1) e;
      cancelled_is = ap (λ (x : KeptStream). x.cancelled) e ∙ sym (or-false (stream_at ps t).cancelled);
    }))
  where
    none : (b : Bool) → cond b false false ≡ false
    none true = refl
    none false = refl

-- a stream that is cancelled
cancelled_marks : (ps : List (ℕ × KeptStream)) (t s : ℕ) (k : KeptStream) → k ≡ stream_at ps t
    → Marks (stream_at ps s) (stream_at ((t, record k { cancelled = true }) ∷ ps) s) 0 (nat_eq t s)
cancelled_marks ps t s k e =
    let new : KeptStream = record k { cancelled = true } in
    subst (λ (x : ℕ × Bool). Marks (stream_at ps s) (stream_at ((t, new) ∷ ps) s) x.0 x.1) (own (nat_eq t s))
    (marks_changed ps t s new 0 true
    (record {
      acknowledged = ap (λ (x : KeptStream). x.acknowledged) e ∙ omega arith;
      cancelled_is = all (stream_at ps t).cancelled;
    }))
  where
    all : (b : Bool) → true ≡ (b || true)
    all true = refl
    all false = refl

    own : (b : Bool) → (let x : ℕ × Bool = (cond b 0 0, cond b true false) in x) ≡ (0, b)
    own true = refl
    own false = refl

-- ---- one event

abbrev EventMarks : Session → Event → ℕ → Outcome → Session → Type 0
EventMarks v e s o v' = Marks (stream_at v.streams s) (stream_at v'.streams s) (acknowledgment_of s e o) (cancels s e o)

known_as : (v : Session) (e : Event) (s : ℕ) (o o1 : Outcome) (v' v1 : Session) → o ≡ o1 → v' ≡ v1
    → EventMarks v e s o1 v1 → EventMarks v e s o v'
known_as v e s o o1 v' v1 p q h =
    subst (λ (x : Outcome). EventMarks v e s x v') (sym p) (subst (λ (x : Session). EventMarks v e s o1 x) (sym q) h)

marks_read : (v : Session) (t : ℕ) (r : Reading) (s : ℕ)
    → Marks (stream_at v.streams s) (stream_at (cond (is_read (Some r)) (with_decoded v t) v).streams s) 0 false
marks_read v t (Fields fs d) s = marks_kept v.streams t s _ (marks_blocks (stream_at v.streams t) _ refl refl)
marks_read v t (Missing n) s = marks_none (stream_at v.streams s)
marks_read v t (Faulty f) s = marks_none (stream_at v.streams s)

marks_streams : (v v' w : Session) (s : ℕ) → v' ≡ w → w.streams ≡ v.streams
    → Marks (stream_at v.streams s) (stream_at v'.streams s) 0 false
marks_streams v v' w s e same =
    marks_same (stream_at v.streams s) (stream_at v'.streams s)
    (ap (λ (x : Session). stream_at x.streams s) e ∙ ap (λ (x : List (ℕ × KeptStream)). stream_at x s) same)

marks_delivery : (v : Session) (n : ℕ) (t : Table) (front rest : List ℕ) (o : Outcome) (v' : Session) (s : ℕ)
    → EndsAtDecoder v n t front rest o v' → Marks (stream_at v.streams s) (stream_at v'.streams s) 0 false
marks_delivery v n t front rest o v' s (takes_all cut is goes) = marks_streams v v' _ s goes refl
marks_delivery v n t front rest o v' s (no_memory is goes) = marks_streams v v' _ s goes refl
marks_delivery v n t front rest o v' s (bad_bytes fault b is goes) = marks_streams v v' _ s goes refl
marks_delivery v n t front rest o v' s (bad_instruction encoding more i e cut x bad is goes) =
    marks_streams v v' _ s goes refl

marks_hearing : (v : Session) (n : ℕ) (t : Table) (front rest : List ℕ) (o : Outcome) (v' : Session) (s : ℕ)
    → EndsAtEncoder v n t front rest o v' → Marks (stream_at v.streams s) (stream_at v'.streams s) 0 false
marks_hearing v n t front rest o v' s (takes_all_at_encoder cut is goes) = marks_streams v v' _ s goes refl
marks_hearing v n t front rest o v' s (bad_bytes_at_encoder fault b is goes) = marks_streams v v' _ s goes refl
marks_hearing v n t front rest o v' s (bad_decoder_instruction encoding more r e cut x bad is goes) =
    marks_streams v v' _ s goes refl

-- an event that was refused memory
marks_nothing : (v : Session) (e : Event) (s : ℕ) → EventMarks v e s NoMemory v
marks_nothing v (Encode t fs) s = marks_none (stream_at v.streams s)
marks_nothing v (Decode t) s = marks_none (stream_at v.streams s)
marks_nothing v (ToDecoder n) s = marks_none (stream_at v.streams s)
marks_nothing v (ToEncoder n) s = marks_none (stream_at v.streams s)
marks_nothing v (Acknowledge t) s = marks_none (stream_at v.streams s)
marks_nothing v (Cancel t) s = marks_none (stream_at v.streams s)
marks_nothing v (ChangeCapacity n) s = marks_none (stream_at v.streams s)

happens_marks : (v : Session) (e : Event) (o : Outcome) (v' : Session) (s : ℕ) → LawfulStep v e o v'
    → EventMarks v e s o v'
unfolding LawfulStep
happens_marks v (Encode t fs) o v' s (inl h) =
    known_as v (Encode t fs) s o _ v' _ h.0 h.1
    (marks_kept v.streams t s _ (marks_blocks (stream_at v.streams t) _ refl refl))
happens_marks v (Encode t fs) o v' s (inr (inl h)) =
    known_as v (Encode t fs) s o _ v' _ h.answers h.leads (marks_none (stream_at v.streams s))
happens_marks v (Encode t fs) o v' s (inr (inr h)) =
    known_as v (Encode t fs) s o _ v' _ h.0 h.1 (marks_nothing v (Encode t fs) s)
happens_marks v (Decode t) o v' s (inl h) =
    subst (λ (x : Session). Marks (stream_at v.streams s) (stream_at x.streams s) 0 false) (sym h.moves)
    (marks_read v t (reading_of_bytes (window v.decoder) h.block.bytes) s)
happens_marks v (Decode t) o v' s (inr h) =
    known_as v (Decode t) s o _ v' _ h.0 h.1 (marks_nothing v (Decode t) s)
happens_marks v (ToDecoder n) o v' s h = marks_delivery v n h.table h.takes.front h.takes.rest o v' s h.takes.ends
happens_marks v (ToEncoder n) o v' s h = marks_hearing v n h.table h.takes.front h.takes.rest o v' s h.takes.ends
happens_marks v (Acknowledge t) o v' s (inl h) =
    known_as v (Acknowledge t) s o _ v' _ h.0 h.1 (acknowledged_marks v.streams t s (stream_at v.streams t) refl)
happens_marks v (Acknowledge t) o v' s (inr h) =
    known_as v (Acknowledge t) s o _ v' _ h.0 h.1 (marks_nothing v (Acknowledge t) s)
happens_marks v (Cancel t) o v' s (inl h) =
    known_as v (Cancel t) s o _ v' _ h.0 h.1 (cancelled_marks v.streams t s (stream_at v.streams t) refl)
happens_marks v (Cancel t) o v' s (inr h) =
    known_as v (Cancel t) s o _ v' _ h.0 h.1 (marks_nothing v (Cancel t) s)
happens_marks v (ChangeCapacity n) o v' s (inl h) =
    known_as v (ChangeCapacity n) s o _ v' _ h.answers h.leads (marks_none (stream_at v.streams s))
happens_marks v (ChangeCapacity n) o v' s (inr (inl h)) =
    known_as v (ChangeCapacity n) s o _ v' _ h.answers h.stays (marks_none (stream_at v.streams s))
happens_marks v (ChangeCapacity n) o v' s (inr (inr h)) =
    known_as v (ChangeCapacity n) s o _ v' _ h.0 h.1 (marks_nothing v (ChangeCapacity n) s)

skipped_marks : (v : Session) (e : Event) (reason s : ℕ) → EventMarks v e s (Skipped reason) v
skipped_marks v (Encode t fs) reason s = marks_none (stream_at v.streams s)
skipped_marks v (Decode t) reason s = marks_none (stream_at v.streams s)
skipped_marks v (ToDecoder n) reason s = marks_none (stream_at v.streams s)
skipped_marks v (ToEncoder n) reason s = marks_none (stream_at v.streams s)
skipped_marks v (Acknowledge t) reason s = marks_none (stream_at v.streams s)
skipped_marks v (Cancel t) reason s = marks_none (stream_at v.streams s)
skipped_marks v (ChangeCapacity n) reason s = marks_none (stream_at v.streams s)

goes_marks : (v : Session) (e : Event) (o : Outcome) (v' : Session) (s : ℕ) → Step v e o v' → EventMarks v e s o v'
goes_marks v e o v' s (inl h) = known_as v e s o _ v' v h.answers h.stays (skipped_marks v e h.reason s)
goes_marks v e o v' s (inr h) = happens_marks v e o v' s h.1

-- ---- a run

pub runs_mark : (v : Session) (events : List (Event × Outcome)) (v' : Session) (s : ℕ) → Run v events v'
    → Marks (stream_at v.streams s) (stream_at v'.streams s) (acknowledgments_on s events) (is_cancelled s events)
runs_mark v [] v' s r = marks_same (stream_at v.streams s) (stream_at v'.streams s)
    (ap (λ (x : Session). stream_at x.streams s) (sym r))
runs_mark v (p ∷ events) v' s r =
    let one = goes_marks v p.0 p.1 r.0 s r.1.goes in
    let rest = runs_mark r.0 events v' s r.2 in
    record {
      acknowledged = omega (arith, one.acknowledged, rest.acknowledged);
      cancelled_is =
          rest.cancelled_is ∙ ap (λ (b : Bool). b || is_cancelled s events) one.cancelled_is
          ∙ or_assoc (stream_at v.streams s).cancelled (cancels s p.0 p.1) (is_cancelled s events);
    }
