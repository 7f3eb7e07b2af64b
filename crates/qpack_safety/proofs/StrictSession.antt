-- What strict ends rely on holds at every moment of a session whose acknowledgments are written behind all increments.
use Rattle.std.proofs.Common.{ℕ, ◌<◌, ◌≤◌, ◌≡◌, true, false, cond, List, [], ◌∷◌, ◌++◌}
use Rattle.std.proofs.Common.{length, take, refl, sym, ap, ◌∙◌, subst}
use Rattle.std.proofs.Common.{arith, length-append}
use Rattle.std.specs.List.{AllByRecursion, filter}
use Rattle.std.specs.Prelude.{nat_eq, nat_lt}
use Rattle.std.proofs.lemmas.Bool.{cond_both, ltb-true}
use Rattle.std.proofs.lemmas.List.{append-nil, take-append-le}
use Rattle.qpack_spec.specs.Field.{Field, FieldLine}
use Rattle.qpack_spec.specs.Instruction.{DecoderInstruction, Acknowledgment}
use Rattle.qpack_spec.specs.Instruction.{Cancellation, Increment}
use Rattle.qpack_spec.specs.Reading.{greatest_of}
use Rattle.qpack_spec.specs.Rule.{Draft}
use Rattle.qpack_rules.specs.Session.{stream_at, with_stream, increments}
use Rattle.qpack_spec.specs.Table.{Table, UnacknowledgedBlock, commit, with_unacknowledged, without_references}
use Rattle.qpack_spec.proofs.Drafts.{Drafting}
use Rattle.qpack_spec.proofs.Lists.{every_append}
use Rattle.qpack_rules.proofs.Insertions.{OnlyInserts}
use Rattle.qpack_safety.specs.AbstractSession.{AbstractBlock, is_dynamic, AbstractStream, AbstractSession, after_encode}
use Rattle.qpack_safety.specs.AbstractSession.{after_abandon, after_alone}
use Rattle.qpack_safety.proofs.Encoding.{same_committed, same_unnamed}
use Rattle.qpack_safety.proofs.Invariant.{Invariant, streams_update}
use Rattle.qpack_safety.proofs.LawfulInsertions.{capacity_after, NoneAtZero, none_append, capacity_append}
use Rattle.qpack_safety.proofs.LawfulInsertions.{insertions_lawful}
use Rattle.qpack_safety.proofs.OpenBlocks.{open_of, open_push}
use Rattle.qpack_safety.proofs.ToldCounts.{TellsNoMore, tells_more, tells_also, tells_increments}

-- an increment tells of something
abbrev pub TellsSome : DecoderInstruction → Type 0
TellsSome (Acknowledgment s) = Unit {0}
TellsSome (Cancellation s) = Unit {0}
TellsSome (Increment n) = 0 < n

-- a stream's decoded blocks are there, and those that require an entry are acknowledged
pub record Answered (st : AbstractStream) : Type 0 where
  pub decoded : st.decoded ≤ length st.blocks
  pub acknowledged : st.cancelled ≡ false
      → st.acknowledged ≡ length (filter is_dynamic (take st.decoded st.blocks))

-- what holds at every moment
pub record Strict (w : AbstractSession) : Type 0 where
  pub tells : (s : ℕ)
      → TellsNoMore s w.encoder.known_received_count (open_of s w.encoder.unacknowledged) w.decoder_in_flight
  pub positive : AllByRecursion TellsSome w.decoder_in_flight
  pub answered : (s : ℕ) → Answered (stream_at w.streams s)
  pub lawful : NoneAtZero w.decoder.capacity w.in_flight
  pub capacity : capacity_after w.decoder.capacity w.in_flight ≡ w.encoder.capacity
  pub blocked : AllByRecursion (λ r. w.encoder.known_received_count < r) w.encoder.blocked

-- ---- the encoder writes

-- what is open of a stream behind a block more
opens_more : (s q : ℕ) (referenced : List ℕ) (bs : List UnacknowledgedBlock)
    → (more : List (List ℕ)) × (open_of q (with_unacknowledged bs s referenced) ≡ open_of q bs ++ more)
opens_more s q [] bs = ([], sym (append-nil (open_of q bs)))
opens_more s q (a ∷ rest) bs = (cond (nat_eq s q) ((a ∷ rest) ∷ []) [], open_push s q (a ∷ rest) bs)

answered_more : (st : AbstractStream) (b : AbstractBlock) → Answered st
    → Answered (record st { blocks = st.blocks ++ b ∷ [] })
answered_more st b k =
    record {
      decoded = (let n = length-append st.blocks (b ∷ []) in let d = k.decoded in omega (arith, n, d));
      acknowledged = λ c. k.acknowledged c
          ∙ ap (λ (bs : List AbstractBlock). length (filter is_dynamic bs))
          (sym (take-append-le st.decoded st.blocks (b ∷ []) k.decoded));
    }

-- the parts of a committed table that are not told of elsewhere
committed_capacity : (t : Table) (s required : ℕ) → (commit t s required).capacity ≡ t.capacity
unfolding commit
committed_capacity t s required = refl

committed_blocked : (t : Table) (s required : ℕ) → AllByRecursion (λ r. t.known_received_count < r) t.blocked
    → AllByRecursion (λ r. (commit t s required).known_received_count < r) (commit t s required).blocked
unfolding commit
committed_blocked t s required h =
    cond_both (nat_lt t.known_received_count required) (t.blocked ++ required ∷ []) t.blocked
    (λ (rs : List ℕ). AllByRecursion (λ r. t.known_received_count < r) rs)
    (λ e. every_append (λ r. t.known_received_count < r) t.blocked (required ∷ []) h
    (ltb-true t.known_received_count required e, tt)) (λ _. h)

pub strict_drafted : (capacity maximum limit : ℕ) (w : AbstractSession) (s : ℕ) (fs : List Field) (d : Draft)
    (k : Invariant capacity maximum limit w) → Drafting w.encoder k.made fs d → OnlyInserts w.encoder.capacity d
    → Strict w → Strict (after_encode w s fs d)
strict_drafted capacity maximum limit w s fs d k p only t =
    let required = greatest_of d.table.referenced in
    let c = same_committed d.table s required in
    let known : (commit d.table s required).known_received_count ≡ w.encoder.known_received_count =
    c.c_known ∙ p.references.known_received_count in
    let inserted = insertions_lawful w.encoder.capacity d.instructions only.1 in
    record {
      tells = λ q.
          let opened : (commit d.table s required).unacknowledged
          ≡ with_unacknowledged w.encoder.unacknowledged s d.table.referenced =
          c.c_opened ∙ ap (λ bs. with_unacknowledged bs s d.table.referenced) p.references.unacknowledged in
          let more = opens_more s q d.table.referenced w.encoder.unacknowledged in
          rw (known, opened, more.1) (tells_more q w.encoder.known_received_count
          (open_of q w.encoder.unacknowledged) more.0 w.decoder_in_flight (k.streams q).fits (t.tells q));
      positive = t.positive;
      answered = streams_update (λ (q : ℕ) (v : AbstractStream). Answered v) w.streams s _
          (answered_more (stream_at w.streams s) _ (t.answered s)) (λ q apart. t.answered q);
      lawful = none_append w.decoder.capacity w.in_flight d.instructions t.lawful
          (subst (λ (n : ℕ). NoneAtZero n d.instructions) (sym t.capacity) inserted.0);
      capacity =
          capacity_append w.decoder.capacity w.in_flight d.instructions
          ∙ ap (λ (n : ℕ). capacity_after n d.instructions) t.capacity ∙ inserted.1 ∙ sym only.0
          ∙ sym (committed_capacity d.table s required);
      blocked = committed_blocked d.table s required
          (rw (p.references.known_received_count, p.references.blocked) t.blocked);
    }

-- the parts of a table that a block given up leaves
unnamed_capacity : (t : Table) → (without_references t).capacity ≡ t.capacity
unfolding without_references
unnamed_capacity t = refl

pub strict_given_up : (capacity maximum limit : ℕ) (w : AbstractSession) (fs : List Field) (d : Draft)
    (k : Invariant capacity maximum limit w) → Drafting w.encoder k.made fs d → OnlyInserts w.encoder.capacity d
    → Strict w → Strict (after_abandon w d)
strict_given_up capacity maximum limit w fs d k p only t =
    let u = same_unnamed d.table in
    let known : (without_references d.table).known_received_count ≡ w.encoder.known_received_count =
    u.u_known ∙ p.references.known_received_count in
    let opened : (without_references d.table).unacknowledged ≡ w.encoder.unacknowledged =
    u.u_opened ∙ p.references.unacknowledged in
    let waiting : (without_references d.table).blocked ≡ w.encoder.blocked = u.u_waiting ∙ p.references.blocked in
    let inserted = insertions_lawful w.encoder.capacity d.instructions only.1 in
    record {
      tells = λ q. rw (known, opened) (t.tells q);
      positive = t.positive;
      answered = t.answered;
      lawful = none_append w.decoder.capacity w.in_flight d.instructions t.lawful
          (subst (λ (n : ℕ). NoneAtZero n d.instructions) (sym t.capacity) inserted.0);
      capacity =
          capacity_append w.decoder.capacity w.in_flight d.instructions
          ∙ ap (λ (n : ℕ). capacity_after n d.instructions) t.capacity ∙ inserted.1 ∙ sym only.0
          ∙ sym (unnamed_capacity d.table);
      blocked = rw (known, waiting) t.blocked;
    }

pub strict_alone : (w : AbstractSession) (s : ℕ) (ls : List FieldLine) → Strict w → Strict (after_alone w s ls)
strict_alone w s ls t =
    record {
      tells = t.tells;
      positive = t.positive;
      answered = streams_update (λ (q : ℕ) (v : AbstractStream). Answered v) w.streams s _
          (answered_more (stream_at w.streams s) _ (t.answered s)) (λ q apart. t.answered q);
      lawful = t.lawful;
      capacity = t.capacity;
      blocked = t.blocked;
    }

-- ---- the decoder writes

pub strict_cancelled : (w : AbstractSession) (s : ℕ) → Strict w → Strict (record w {
  decoder_in_flight = w.decoder_in_flight ++ Cancellation s ∷ [];
  streams = with_stream w.streams s (record (stream_at w.streams s) { cancelled = true });
})
strict_cancelled w s t =
    record {
      tells = λ q. tells_also q w.encoder.known_received_count (open_of q w.encoder.unacknowledged) w.decoder_in_flight
          (Cancellation s) tt (t.tells q);
      positive = every_append TellsSome w.decoder_in_flight (Cancellation s ∷ []) t.positive (tt, tt);
      answered = streams_update (λ (q : ℕ) (v : AbstractStream). Answered v) w.streams s
          (record (stream_at w.streams s) { cancelled = true })
          (record { decoded = (t.answered s).decoded; acknowledged = λ e. absurd cc }) (λ q apart. t.answered q);
      lawful = t.lawful;
      capacity = t.capacity;
      blocked = t.blocked;
    }

pub strict_forgotten : (w : AbstractSession) (s : ℕ) → Strict w → Strict (record w {
  streams = with_stream w.streams s (record (stream_at w.streams s) { cancelled = true });
})
strict_forgotten w s t =
    record {
      tells = t.tells;
      positive = t.positive;
      answered = streams_update (λ (q : ℕ) (v : AbstractStream). Answered v) w.streams s
          (record (stream_at w.streams s) { cancelled = true })
          (record { decoded = (t.answered s).decoded; acknowledged = λ e. absurd cc }) (λ q apart. t.answered q);
      lawful = t.lawful;
      capacity = t.capacity;
      blocked = t.blocked;
    }

all_some : (ps : List ℕ) → AllByRecursion (λ n. 0 < n) ps → AllByRecursion TellsSome (increments ps)
all_some [] h = tt
all_some (p ∷ ps) h = (h.0, all_some ps h.1)

pub strict_reported : (w : AbstractSession) (ps : List ℕ) → AllByRecursion (λ n. 0 < n) ps → Strict w
    → Strict (record w { decoder_in_flight = w.decoder_in_flight ++ increments ps; unreported = 0 })
strict_reported w ps some t =
    record {
      tells = λ q. tells_increments q w.encoder.known_received_count (open_of q w.encoder.unacknowledged) ps
          w.decoder_in_flight (t.tells q);
      positive = every_append TellsSome w.decoder_in_flight (increments ps) t.positive (all_some ps some);
      answered = t.answered;
      lawful = t.lawful;
      capacity = t.capacity;
      blocked = t.blocked;
    }
