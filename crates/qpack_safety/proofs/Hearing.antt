-- The encoder hears a decoder_instruction.
use Rattle.std.proofs.Common.{ℕ, suc, ◌+◌, ◌-◌, ◌^◌, ◌<◌, ◌≤◌, ◌≡◌, false, List, [], ◌∷◌, ◌++◌, length, drop, min}
use Rattle.std.proofs.Common.{Option, Some, Ok, refl, sym, ap, ◌∙◌, subst, inl, inr, ◌⊎◌, arith, length-drop}
use Rattle.std.specs.List.{AllByRecursion}
use Rattle.std.specs.Prelude.{nat_lt, MatchBool}
use Rattle.std.proofs.lemmas.Bool.{eq-eqb, ne_eqb, cases_eq}
use Rattle.std.proofs.lemmas.List.{drop-drop}
use Rattle.qpack_spec.specs.Bytes.{◌>>=◌}
use Rattle.qpack_spec.specs.Instruction.{EncoderInstruction, DecoderInstruction, Acknowledgment, Cancellation}
use Rattle.qpack_spec.specs.Instruction.{Increment}
use Rattle.qpack_spec.specs.Window.{UnknownStream, or_refusal}
use Rattle.qpack_spec.specs.History.{History}
use Rattle.qpack_spec.specs.Table.{UnacknowledgedBlock, Table, window, without_oldest, without_stream, with_increment}
use Rattle.qpack_spec.specs.Table.{apply_decoder_instruction}
use Rattle.qpack_rules.specs.Session.{increment_sum, stream_at}
use Rattle.qpack_safety.specs.AbstractSession.{AbstractStream, AbstractSession, after_hear, hear_next}
use Rattle.qpack_spec.proofs.Drafts.{IsLive, KeepsTable}
use Rattle.qpack_safety.proofs.OpenBlocks.{open_of, Released, release_some, ReleasedAll, releases_stream}
use Rattle.qpack_safety.proofs.DecoderInstructions.{acks_in, cancels_in, AcksFit}
use Rattle.qpack_safety.proofs.Fronts.{length_filter}
use Rattle.qpack_safety.proofs.Invariant.{KeepsStream, Invariant, sound_received}

released_kept : (h : History) (t : Table) (s : ℕ) (bs : List UnacknowledgedBlock) → Released s t.unacknowledged bs
    → KeepsTable h t
    → KeepsTable h (record t { unacknowledged = bs })
unfolding window
released_kept h t s bs r k =
    record {
      shares = k.shares;
      marked = k.marked;
      behind = k.behind;
      held = r.every (λ (b : UnacknowledgedBlock). AllByRecursion (IsLive t) b.entries) k.held;
    }

pub kept_opened : (h : History) (t : Table) (bs : List UnacknowledgedBlock)
    → AllByRecursion (λ (b : UnacknowledgedBlock). AllByRecursion (IsLive t) b.entries) bs → KeepsTable h t
    → KeepsTable h (record t { unacknowledged = bs })
unfolding window
kept_opened h t bs held k = record { shares = k.shares; marked = k.marked; behind = k.behind; held = held }

fits_ack_own : (s : ℕ) (rs : List DecoderInstruction) (n : ℕ) → AcksFit s (Acknowledgment s ∷ rs) n → (0 < n)
    × AcksFit s rs (n - 1)
unfolding AcksFit
fits_ack_own s rs n h = subst (λ b. MatchBool b ((0 < n) × AcksFit s rs (n - 1)) (AcksFit s rs n)) (eq-eqb s s refl) h

fits_ack_other : (s q : ℕ) (rs : List DecoderInstruction) (n : ℕ) → (s ≡ q → ⊥) → AcksFit q (Acknowledgment s ∷ rs) n
    → AcksFit q rs n
unfolding AcksFit
fits_ack_other s q rs n d h =
    subst (λ b. MatchBool b ((0 < n) × AcksFit q rs (n - 1)) (AcksFit q rs n)) (ne_eqb s q d) h

fits_cancel_own : (s : ℕ) (rs : List DecoderInstruction) (n : ℕ) → AcksFit s (Cancellation s ∷ rs) n → AcksFit s rs 0
unfolding AcksFit
fits_cancel_own s rs n h = subst (λ b. MatchBool b (AcksFit s rs 0) (AcksFit s rs n)) (eq-eqb s s refl) h

fits_cancel_other : (s q : ℕ) (rs : List DecoderInstruction) (n : ℕ) → (s ≡ q → ⊥) → AcksFit q (Cancellation s ∷ rs) n
    → AcksFit q rs n
unfolding AcksFit
fits_cancel_other s q rs n d h = subst (λ b. MatchBool b (AcksFit q rs 0) (AcksFit q rs n)) (ne_eqb s q d) h

fits_increment : (q k : ℕ) (rs : List DecoderInstruction) (n : ℕ) → AcksFit q (Increment k ∷ rs) n → AcksFit q rs n
unfolding AcksFit
fits_increment q k rs n h = h

acks_cons_own : (s : ℕ) (rs : List DecoderInstruction) → acks_in s (Acknowledgment s ∷ rs) ≡ suc (acks_in s rs)
unfolding acks_in
acks_cons_own s rs = rw (eq-eqb s s refl) refl

acks_cons_other : (s q : ℕ) (rs : List DecoderInstruction) → (s ≡ q → ⊥) → acks_in q (Acknowledgment s ∷ rs)
    ≡ acks_in q rs
unfolding acks_in
acks_cons_other s q rs d = rw (ne_eqb s q d) refl

acks_cons_cancel : (s q : ℕ) (rs : List DecoderInstruction) → acks_in q (Cancellation s ∷ rs) ≡ acks_in q rs
unfolding acks_in
acks_cons_cancel s q rs = refl

acks_cons_increment : (n q : ℕ) (rs : List DecoderInstruction) → acks_in q (Increment n ∷ rs) ≡ acks_in q rs
unfolding acks_in
acks_cons_increment n q rs = refl

cancels_cons_ack : (s q : ℕ) (rs : List DecoderInstruction) → cancels_in q (Acknowledgment s ∷ rs) ≡ cancels_in q rs
unfolding cancels_in
cancels_cons_ack s q rs = refl

cancels_cons_increment : (n q : ℕ) (rs : List DecoderInstruction) → cancels_in q (Increment n ∷ rs) ≡ cancels_in q rs
unfolding cancels_in
cancels_cons_increment n q rs = refl

cancels_cons_own : (s : ℕ) (rs : List DecoderInstruction) → cancels_in s (Cancellation s ∷ rs) ≡ suc (cancels_in s rs)
unfolding cancels_in
cancels_cons_own s rs = rw (eq-eqb s s refl) refl

cancels_cons_other : (s q : ℕ) (rs : List DecoderInstruction) → (s ≡ q → ⊥) → cancels_in q (Cancellation s ∷ rs)
    ≡ cancels_in q rs
unfolding cancels_in
cancels_cons_other s q rs d = rw (ne_eqb s q d) refl

pub increments_cons_ack : (s : ℕ) (rs : List DecoderInstruction) → increment_sum (Acknowledgment s ∷ rs)
    ≡ increment_sum rs
unfolding increment_sum
increments_cons_ack s rs = refl

pub increments_cons_cancel : (s : ℕ) (rs : List DecoderInstruction) → increment_sum (Cancellation s ∷ rs)
    ≡ increment_sum rs
unfolding increment_sum
increments_cons_cancel s rs = refl

pub increments_cons : (n : ℕ) (rs : List DecoderInstruction) → increment_sum (Increment n ∷ rs) ≡ n + increment_sum rs
unfolding increment_sum
increments_cons n rs = refl

length_one_less : {X : Type 0} (xs ys : List X) → xs ≡ drop 1 ys → length xs ≡ length ys - 1
length_one_less xs ys e = ap length e ∙ length-drop 1 ys

-- the streams after an acknowledgement was heard
ack_heard : (capacity maximum : ℕ) (h : History) (encoder_stream : List EncoderInstruction)
    (unacknowledged bs : List UnacknowledgedBlock) (rs : List DecoderInstruction)
    (s : ℕ) → Released s unacknowledged bs
    → (q : ℕ) (st : AbstractStream)
    → KeepsStream capacity maximum h encoder_stream unacknowledged (Acknowledgment s ∷ rs) q st
    → KeepsStream capacity maximum h encoder_stream bs rs q st
ack_heard capacity maximum h encoder_stream unacknowledged bs rs s r q st k = pick (cases_eq s q)
  where
    pick : (s ≡ q) ⊎ (s ≡ q → ⊥) → KeepsStream capacity maximum h encoder_stream bs rs q st
    pick (inl e) =
        let own : open_of q bs ≡ drop 1 (open_of q unacknowledged) =
        subst (λ (x : ℕ). open_of x bs ≡ drop 1 (open_of x unacknowledged)) e r.own in
        let f : AcksFit q (Acknowledgment q ∷ rs) (length (open_of q unacknowledged)) =
        subst (λ (x : ℕ). AcksFit q (Acknowledgment x ∷ rs) (length (open_of q unacknowledged))) e k.fits in
        record {
          acknowledged = k.acknowledged;
          fits = rw (length_one_less (open_of q bs) (open_of q unacknowledged) own)
              (fits_ack_own q rs (length (open_of q unacknowledged)) f).1;
          stays_open = λ c.
              ap (drop (acks_in q rs)) own ∙ drop-drop (acks_in q rs) 1 (open_of q unacknowledged)
              ∙ ap (λ (n : ℕ). drop n (open_of q unacknowledged)) (let n : 1 + acks_in q rs
              ≡ suc (acks_in q rs) = omega arith in n ∙ sym (acks_cons_own q rs)
              ∙ ap (λ (x : ℕ). acks_in q (Acknowledgment x ∷ rs)) (sym e))
              ∙ k.stays_open c;
          quiet = λ c. sym (cancels_cons_ack s q rs) ∙ k.quiet c;
          blocks = k.blocks;
        }
    pick (inr d) =
        record {
          acknowledged = k.acknowledged;
          fits = rw (r.others q d) (fits_ack_other s q rs (length (open_of q unacknowledged)) d k.fits);
          stays_open = λ c. rw (r.others q d, ← acks_cons_other s q rs d) (k.stays_open c);
          quiet = λ c. sym (cancels_cons_ack s q rs) ∙ k.quiet c;
          blocks = k.blocks;
        }

cancel_heard : (capacity maximum : ℕ) (h : History) (encoder_stream : List EncoderInstruction)
    (unacknowledged cs : List UnacknowledgedBlock) (rs : List DecoderInstruction)
    (s : ℕ) → ReleasedAll s unacknowledged cs
    → (q : ℕ) (st : AbstractStream)
    → KeepsStream capacity maximum h encoder_stream unacknowledged (Cancellation s ∷ rs) q st
    → KeepsStream capacity maximum h encoder_stream cs rs q st
cancel_heard capacity maximum h encoder_stream unacknowledged cs rs s r q st k = pick (cases_eq s q)
  where
    pick : (s ≡ q) ⊎ (s ≡ q → ⊥) → KeepsStream capacity maximum h encoder_stream cs rs q st
    pick (inl e) =
        let own : open_of q cs ≡ [] = subst (λ (x : ℕ). open_of x cs ≡ []) e r.none_left in
        let f : AcksFit q (Cancellation q ∷ rs) (length (open_of q unacknowledged)) =
        subst (λ (x : ℕ). AcksFit q (Cancellation x ∷ rs) (length (open_of q unacknowledged))) e k.fits in
        let never : st.cancelled ≡ false → ⊥ =
        λ c. (let z : cancels_in q (Cancellation q ∷ rs)
        ≡ 0 = subst (λ (x : ℕ). cancels_in q (Cancellation x ∷ rs) ≡ 0) e (k.quiet c) in
        omega (arith, z, cancels_cons_own q rs)) in
        record {
          acknowledged = k.acknowledged;
          fits = rw own (fits_cancel_own q rs (length (open_of q unacknowledged)) f);
          stays_open = λ c. absurd (never c);
          quiet = λ c. absurd (never c);
          blocks = k.blocks;
        }
    pick (inr d) =
        let same : open_of q cs ≡ open_of q unacknowledged = r.others_stay q d in
        record {
          acknowledged = k.acknowledged;
          fits = rw same (fits_cancel_other s q rs (length (open_of q unacknowledged)) d k.fits);
          stays_open = λ c. rw (same, ← acks_cons_cancel s q rs) (k.stays_open c);
          quiet = λ c. sym (cancels_cons_other s q rs d) ∙ k.quiet c;
          blocks = k.blocks;
        }

increment_heard : (capacity maximum : ℕ) (h : History) (encoder_stream : List EncoderInstruction)
    (unacknowledged : List UnacknowledgedBlock) (rs : List DecoderInstruction)
    (n q : ℕ) (st : AbstractStream)
    → KeepsStream capacity maximum h encoder_stream unacknowledged (Increment n ∷ rs) q st
    → KeepsStream capacity maximum h encoder_stream unacknowledged rs q st
increment_heard capacity maximum h encoder_stream unacknowledged rs n q st k =
    record {
      acknowledged = k.acknowledged;
      fits = fits_increment q n rs (length (open_of q unacknowledged)) k.fits;
      stays_open = λ c. rw (← acks_cons_increment n q rs) (k.stays_open c);
      quiet = λ c. sym (cancels_cons_increment n q rs) ∙ k.quiet c;
      blocks = k.blocks;
    }

-- the first acknowledgement finds an unacknowledged block
pub ack_finds : (capacity maximum limit : ℕ) (w : AbstractSession) (s : ℕ) (rest : List DecoderInstruction)
    → Invariant capacity maximum limit w
    → w.decoder_in_flight ≡ Acknowledgment s ∷ rest
    → (bs : List UnacknowledgedBlock) × (without_oldest s w.encoder.unacknowledged ≡ Some bs)
    × Released s w.encoder.unacknowledged bs
ack_finds capacity maximum limit w s rest k e =
    let f : AcksFit s (Acknowledgment s ∷ rest) (length (open_of s w.encoder.unacknowledged)) =
    subst (λ (l : List DecoderInstruction). AcksFit s l (length (open_of s w.encoder.unacknowledged))) e
    (k.streams s).fits in
    release_some s w.encoder.unacknowledged (fits_ack_own s rest (length (open_of s w.encoder.unacknowledged)) f).0

-- what an increment changes
pub record SameRaised (t t' : Table) (n : ℕ) : Type 0 where
  pub r_known : t'.known_received_count ≡ t.known_received_count + n
  pub r_limit : t'.limit ≡ t.limit
  pub r_opened : t'.unacknowledged ≡ t.unacknowledged
  pub r_waiting : length t'.blocked ≤ length t.blocked

pub same_raised : (t : Table) (n : ℕ) → t.known_received_count + n ≤ 2 ^ 62 → SameRaised t (with_increment t n) n
unfolding with_increment
same_raised t n h =
    record {
      r_known = omega arith;
      r_limit = refl;
      r_opened = refl;
      r_waiting = length_filter (λ r. nat_lt (min (t.known_received_count + n) (2 ^ 64 - 1)) r) t.blocked;
    }

pub kept_raised : (h : History) (t : Table) (n : ℕ) → t.known_received_count + n ≤ 2 ^ 62 → KeepsTable h t
    → KeepsTable h (with_increment t n)
unfolding with_increment window
kept_raised h t n le k =
    record { shares = k.shares; marked = k.marked; behind = omega (arith, k.behind); held = k.held }

inv_heard : (capacity maximum limit : ℕ) (w : AbstractSession) (r : DecoderInstruction) (rest : List DecoderInstruction)
    → w.decoder_in_flight ≡ r ∷ rest
    → Invariant capacity maximum limit w
    → Invariant capacity maximum limit (after_hear w rest (apply_decoder_instruction w.encoder r))
unfolding apply_decoder_instruction
inv_heard capacity maximum limit w (Acknowledgment s) rest e k =
    let f = ack_finds capacity maximum limit w s rest k e in
    let next : Invariant capacity maximum limit (record w {
      encoder = record w.encoder { unacknowledged = f.0 };
      decoder_in_flight = rest;
    }) = record {
      within = k.within;
      received = k.received;
      made = k.made;
      taken_leads = k.taken_leads;
      in_flight_leads = k.in_flight_leads;
      decoder = k.decoder;
      encoder = released_kept k.made w.encoder s f.0 f.2 k.encoder;
      same_limit = k.same_limit;
      known_received_count = omega (arith, k.known_received_count, ap increment_sum e, increments_cons_ack s rest);
      blocked = k.blocked;
      streams =
          λ q. ack_heard capacity maximum k.made (w.taken ++ w.in_flight) w.encoder.unacknowledged f.0 rest s f.2 q
          (stream_at w.streams q) (rw (← e) (k.streams q));
    } in
    subst (λ (o : Option (List UnacknowledgedBlock)). Invariant capacity maximum limit
    (after_hear w rest (or_refusal o (UnknownStream s) >>= λ bs. Ok (record w.encoder { unacknowledged = bs }))))
    (sym f.1)
    next
inv_heard capacity maximum limit w (Cancellation s) rest e k =
    let all = releases_stream s w.encoder.unacknowledged in
    record {
      within = k.within;
      received = k.received;
      made = k.made;
      taken_leads = k.taken_leads;
      in_flight_leads = k.in_flight_leads;
      decoder = k.decoder;
      encoder =
          kept_opened k.made w.encoder (without_stream s w.encoder.unacknowledged)
          (all.all_stay (λ (b : UnacknowledgedBlock). AllByRecursion
          (IsLive w.encoder) b.entries) k.encoder.held) k.encoder;
      same_limit = k.same_limit;
      known_received_count = omega (arith, k.known_received_count, ap increment_sum e, increments_cons_cancel s rest);
      blocked = k.blocked;
      streams =
          λ q. cancel_heard capacity maximum k.made (w.taken ++ w.in_flight) w.encoder.unacknowledged
          (without_stream s w.encoder.unacknowledged) rest s all q (stream_at w.streams q) (rw (← e) (k.streams q));
    }
inv_heard capacity maximum limit w (Increment n) rest e k =
    let small : w.encoder.known_received_count + n ≤ 2 ^ 62 =
    omega (
      arith,
      k.known_received_count,
      ap increment_sum e,
      increments_cons n rest,
      (sound_received capacity maximum limit w k).few,
    ) in
    let same = same_raised w.encoder n small in
    record {
      within = k.within;
      received = k.received;
      made = k.made;
      taken_leads = k.taken_leads;
      in_flight_leads = k.in_flight_leads;
      decoder = k.decoder;
      encoder = kept_raised k.made w.encoder n small k.encoder;
      same_limit = same.r_limit ∙ k.same_limit;
      known_received_count = omega
          (arith, k.known_received_count, ap increment_sum e, increments_cons n rest, same.r_known);
      blocked = omega (arith, k.blocked, same.r_waiting);
      streams =
          λ q. rw same.r_opened
          (increment_heard capacity maximum k.made (w.taken ++ w.in_flight) w.encoder.unacknowledged rest n q
          (stream_at w.streams q) (rw (← e) (k.streams q)));
    }

pub inv_hears : (capacity maximum limit : ℕ) (w : AbstractSession) (rs : List DecoderInstruction)
    → w.decoder_in_flight ≡ rs
    → Invariant capacity maximum limit w → Invariant capacity maximum limit (hear_next w rs)
inv_hears capacity maximum limit w [] e k = k
inv_hears capacity maximum limit w (r ∷ rest) e k = inv_heard capacity maximum limit w r rest e k
