-- The four parts of the session theorem, at every moment of every session.
use Rattle.std.proofs.Common.{ℕ, ◌<◌, ◌≤◌, ◌≡◌, Bool, true, false, List, [], ◌∷◌, ◌++◌, length, map}
use Rattle.std.proofs.Common.{None, Some, refl, sym, ap, ◌∙◌, subst, arith, lit≤, inl, inr, ◌⊎◌}
use Rattle.std.specs.List.{slice_get}
use Rattle.std.specs.Option.{option_map}
use Rattle.std.specs.Prelude.{nat_lt, nat_eq}
use Rattle.std.proofs.lemmas.Bool.{cases_lt, eq-eqb}
use Rattle.std.proofs.lemmas.Option.{slice_get-map}
use Rattle.qpack_spec.specs.Field.{Field, total_size}
use Rattle.qpack_spec.specs.Instruction.{written_encoder_instructions}
use Rattle.qpack_spec.specs.Window.{Window, window_insert_count}
use Rattle.qpack_spec.specs.BlockReading.{reading_of_bytes, written_block}
use Rattle.qpack_spec.specs.Table.{Table, table_of, fields_in, window, insert_count}
use Rattle.qpack_spec.specs.Rule.{rule, required_insert_count, block_of}
use Rattle.qpack_spec.specs.Stateless.{saturated_size}
use Rattle.qpack_rules.specs.Session.{blocked_blocks, KeptBlock, stream_at, Session, Event, Encode, Decode, ToDecoder}
use Rattle.qpack_rules.specs.Session.{ToEncoder, Outcome, Encoded, Decoded, MissingReferences, Delivered}
use Rattle.qpack_rules.specs.Session.{Heard, Refused, NoMemory, StreamFault, decode_outcome, initial_session}
use Rattle.qpack_rules.specs.Session.{next_block}
use Rattle.qpack_rules.specs.Session.{skip_reason, with_block, EndsAtDecoder, takes_all, no_memory}
use Rattle.qpack_rules.specs.Session.{bad_bytes, bad_instruction, DeliversToDecoder, EndsAtEncoder}
use Rattle.qpack_rules.specs.Session.{takes_all_at_encoder}
use Rattle.qpack_rules.specs.Session.{bad_bytes_at_encoder}
use Rattle.qpack_rules.specs.Session.{bad_decoder_instruction, DeliversToEncoder, LawfulStep, Step, IsByteEvent}
use Rattle.qpack_rules.specs.Session.{FitsMemory, Run}
use Rattle.qpack_spec.specs.History.{History, window_of}
use Rattle.qpack_rules.proofs.PutTables.{window_put, count_put}
use Rattle.qpack_spec.proofs.Windows.{Agreed}
use Rattle.qpack_spec.proofs.References.{blocks_require}
use Rattle.qpack_safety.specs.AbstractSafety.{Safe}
use Rattle.qpack_safety.specs.SessionSafety.{WritesBlock, Lockstep, Accounts, IsOrdered, RunsByTheRule}
use Rattle.qpack_safety.specs.Headline.{AnsweredEncode, encodes_on, decodes_on, next_encode}
use Rattle.qpack_safety.specs.SessionSafety.{RefusesNothing}
use Rattle.qpack_safety.specs.SessionSafety.{encode_behind, AnswersFields, DecodesWhatWasHanded, DecodeAnswer}
use Rattle.qpack_safety.specs.SessionSafety.{is_skipped, wants_memory, gives_fields, waits_for, WaitsOnlyForInsertions}
use Rattle.qpack_safety.specs.SessionSafety.{SessionsAreSafe}
use Rattle.qpack_safety.proofs.Invariant.{sound_received, agreed_made, agreed_received, total_window}
use Rattle.qpack_safety.proofs.Safely.{inv_safe}
use Rattle.qpack_safety.proofs.WritingEvents.{RefinesSome, lawful_on}
use Rattle.qpack_safety.proofs.DeliveryEvents.{delivered_lawful, heard_lawful, lands_delivered}
use Rattle.qpack_safety.proofs.SessionSafely.{goes_lands, opened_lands, never_refused, ReadsExactly, reads_exactly}
use Rattle.qpack_safety.proofs.SessionSafely.{means_handed, delivers_whole}
use Rattle.qpack_safety.proofs.BlockedBlocks.{among_fewer, counts_all}
use Rattle.qpack_safety.proofs.CountedEvents.{CountsItsBlocks, counted_happens}
use Rattle.qpack_safety.proofs.EventHistory.{Adds, runs_add}
use Rattle.qpack_safety.proofs.EventOrder.{goes_moves, goes_advances, extends_both, runs_advance}

-- ---- what holds at every moment

-- the session refines one of values, its encoder counts the blocked blocks, and both streams are in order
record SessionInvariant (capacity maximum limit : ℕ) (v : Session) : Type 0 where
  pub some : RefinesSome capacity maximum limit v
  pub counted : CountsItsBlocks v
  pub ordered : IsOrdered v

goes_counted : (v : Session) (e : Event) (o : Outcome) (v' : Session) → Step v e o v' → CountsItsBlocks v
    → CountsItsBlocks v'
goes_counted v e o v' (inl h) c = subst CountsItsBlocks (sym h.stays) c
goes_counted v e o v' (inr h) c = counted_happens v e o v' h.1 c

goes_invariant : (capacity maximum limit : ℕ) (v : Session) (e : Event) (o : Outcome) (v' : Session)
    → SessionInvariant capacity maximum limit v
    → IsByteEvent e → FitsMemory v' → Step v e o v' → SessionInvariant capacity maximum limit v'
goes_invariant capacity maximum limit v e o v' r bytes fits g =
    record {
      some = goes_lands capacity maximum limit v r.some.abstract e o v' r.some.refines r.some.keeps bytes fits g;
      counted = goes_counted v e o v' g r.counted;
      ordered = (goes_moves v e o v' r.ordered g).ordered;
    }

runs_invariant : (capacity maximum limit : ℕ) (v : Session) (events : List (Event × Outcome)) (v' : Session)
    → SessionInvariant capacity maximum limit v → Run v events v' → SessionInvariant capacity maximum limit v'
runs_invariant capacity maximum limit v [] v' r e = subst (SessionInvariant capacity maximum limit) e r
runs_invariant capacity maximum limit v (p ∷ events) v' r e =
    runs_invariant capacity maximum limit e.0 events v'
    (goes_invariant capacity maximum limit v p.0 p.1 e.0 r e.1.has_bytes e.1.fits e.1.goes) e.2

opened_invariant : (capacity maximum limit : ℕ) → capacity ≤ maximum
    → SessionInvariant capacity maximum limit (initial_session capacity maximum limit)
opened_invariant capacity maximum limit within =
    record {
      some = opened_lands capacity maximum limit within;
      counted = record { small = lit≤ tt; above = refl; counts = λ n le. refl };
      ordered =
          record {
            encoder_stream_taken = lit≤ tt;
            encoder_stream_delivered = lit≤ tt;
            decoder_stream_taken = lit≤ tt;
            decoder_stream_delivered = lit≤ tt;
          };
    }

-- ---- (a)

writes_block : (v : Session) (s : ℕ) (fields : List Field)
    → WritesBlock v s fields (required_insert_count (rule v.encoder fields)) (with_block v s fields)
writes_block v s fields =
    let d = rule v.encoder fields in
    let b : KeptBlock =
    record {
      bytes = written_block (block_of v.encoder d);
      required = required_insert_count d;
      end = length (v.encoder_stream ++ written_encoder_instructions d.instructions);
      fields = fields;
    } in
    let own : nat_eq s s ≡ true = eq-eqb s s refl in
    let law = blocks_require v.encoder s fields in
    record {
      block = b;
      kept = rw own refl;
      bytes_are = refl;
      required_is = refl;
      is_greatest = sym law.0;
      handed_are = refl;
      ends = refl;
      stream_gains = refl;
      keeps_references = law.1;
    }

-- the numbers of two answers
required_answered : (n m : ℕ) → Encoded n ≡ Encoded m → n ≡ m
required_answered n m e = cc

encode_writes : (v : Session) (s : ℕ) (fields : List Field) (required : ℕ) (v' : Session)
    → Step v (Encode s fields) (Encoded required) v' → WritesBlock v s fields required v'
unfolding LawfulStep
encode_writes v s fields required v' (inl h) = absurd (let e = h.answers in cc)
encode_writes v s fields required v' (inr (none, inl h)) =
    subst (λ (n : ℕ). WritesBlock v s fields n v')
    (sym (required_answered required (required_insert_count (rule v.encoder fields)) h.0))
    (subst (WritesBlock v s fields (required_insert_count (rule v.encoder fields))) (sym h.1) (writes_block v s fields))
encode_writes v s fields required v' (inr (none, inr (inl h))) = absurd (let e = h.answers in cc)
encode_writes v s fields required v' (inr (none, inr (inr h))) = absurd (let e = h.0 in cc)

fits_put : (w : Window) → total_size w.live ≤ w.capacity
    → total_size (fields_in (table_of w).live) ≤ (table_of w).capacity
unfolding window
fits_put w h = subst (λ (x : Window). total_size x.live ≤ x.capacity) (sym (window_put w)) h

in_lockstep : (capacity maximum limit : ℕ) (v : Session) → RefinesSome capacity maximum limit v
    → Lockstep capacity maximum v
in_lockstep capacity maximum limit v r =
    let k = r.keeps in
    record {
      taken = r.abstract.taken;
      in_flight = r.abstract.in_flight;
      received = k.received;
      made = k.made;
      carried = r.refines.encoder_stream;
      taken_lead = k.taken_leads;
      in_flight_lead = k.in_flight_leads;
      decoder_is = r.refines.decoder_is ∙ ap table_of k.decoder;
      encoder_is = ap window r.refines.encoder_is ∙ k.encoder.shares;
    }

-- the capacities are at most the one agreed on
encoder_within : (t : Table) (h : History) (most : ℕ) → window t ≡ window_of h → Agreed most h → t.capacity ≤ most
unfolding window window_of
encoder_within t h most e a = omega (arith, ap (λ (w : Window). w.capacity) e, a.within)

decoder_within : (t : Table) (h : History) (most : ℕ) → t ≡ table_of (window_of h) → Agreed most h → t.capacity ≤ most
unfolding table_of window_of
decoder_within t h most e a = omega (arith, ap (λ (x : Table). x.capacity) e, a.within)

in_accounts : (capacity maximum limit : ℕ) (v : Session) → RefinesSome capacity maximum limit v → Accounts v
in_accounts capacity maximum limit v r =
    let w = r.abstract in
    let k = r.keeps in
    let sh = r.refines in
    let many : insert_count v.decoder ≡ window_insert_count w.decoder = ap insert_count sh.decoder_is
    ∙ count_put w.decoder in
    record {
      taken = sh.decoder_taken;
      in_flight = w.decoder_in_flight;
      carried = sh.decoder_stream;
      adds_up =
          omega (
            arith,
            k.known_received_count,
            ap window_insert_count k.decoder,
            total_window k.received (sound_received capacity maximum limit w k),
            many,
            ap (λ (t : Table). t.known_received_count) sh.encoder_is,
            sh.unreported_is,
          );
    }

by_the_rule : (capacity maximum limit : ℕ) (events : List (Event × Outcome)) (v : Session)
    → Run (initial_session capacity maximum limit) events v → SessionInvariant capacity maximum limit v
    → RunsByTheRule capacity maximum limit events v
unfolding in_lockstep
by_the_rule capacity maximum limit events v run r =
    let w = r.some.abstract in
    let sh = r.some.refines in
    let safe : Safe capacity maximum limit w = inv_safe capacity maximum limit w r.some.keeps in
    let many : insert_count v.decoder ≡ window_insert_count w.decoder = ap insert_count sh.decoder_is
    ∙ count_put w.decoder in
    let known_received_count : v.encoder.known_received_count ≤ insert_count v.decoder =
    omega (arith, safe.received, many, ap (λ (t : Table). t.known_received_count) sh.encoder_is) in
    let counted : length v.encoder.blocked ≡ blocked_blocks v = counts_all v.encoder v.streams r.counted in
    let step = in_lockstep capacity maximum limit v r.some in
    let limit_is : v.encoder.limit ≡ limit = ap (λ (t : Table). t.limit) sh.encoder_is ∙ r.some.keeps.same_limit in
    record {
      run = run;
      writes = encode_writes v;
      lockstep = step;
      encoder_capacity =
          encoder_within v.encoder step.made maximum step.encoder_is
          (agreed_made capacity maximum limit w r.some.keeps);
      decoder_capacity =
          decoder_within v.decoder step.received maximum step.decoder_is
          (agreed_received capacity maximum limit w r.some.keeps);
      encoder_fits =
          subst (λ (t : Table). total_size (fields_in t.live) ≤ t.capacity) (sym sh.encoder_is) safe.encoder_fits;
      decoder_fits =
          subst (λ (t : Table). total_size (fields_in t.live) ≤ t.capacity) (sym sh.decoder_is)
          (fits_put w.decoder safe.decoder_fits);
      blocked = omega (arith, counted, safe.blocked, ap (λ (t : Table). length t.blocked) sh.encoder_is);
      counts_blocked = counted;
      unreadable_within = among_fewer v.encoder.known_received_count
          (insert_count v.decoder) [] v.streams known_received_count;
      may_block_more = rw (counted, limit_is) refl;
      limit_is = limit_is;
      received = known_received_count;
      accounts = in_accounts capacity maximum limit v r.some;
      ordered = r.ordered;
      advances = λ e o v' g. goes_advances v e o v' r.ordered g;
    }

-- ---- (b)

refused_of : (v : Session) (e : Event) (fault : StreamFault) (v' : Session) → Step v e (Refused fault) v'
    → LawfulStep v e (Refused fault) v'
refused_of v e fault v' (inl h) = absurd (let x = h.answers in cc)
refused_of v e fault v' (inr h) = h.1

delivery_of : (v : Session) (n : ℕ) (o : Outcome) (v' : Session) → Step v (ToDecoder n) o v'
    → DeliversToDecoder v n o v'
unfolding LawfulStep skip_reason
delivery_of v n o v' (inl h) = absurd (let e = h.is_reason in cc)
delivery_of v n o v' (inr h) = h.1

hearing_of : (v : Session) (n : ℕ) (o : Outcome) (v' : Session) → Step v (ToEncoder n) o v' → DeliversToEncoder v n o v'
unfolding LawfulStep skip_reason
hearing_of v n o v' (inl h) = absurd (let e = h.is_reason in cc)
hearing_of v n o v' (inr h) = h.1

delivery_answers : (capacity maximum limit : ℕ) (v : Session) (n : ℕ) (o : Outcome) (v' : Session)
    → RefinesSome capacity maximum limit v → DeliversToDecoder v n o v' → (o ≡ Delivered (insert_count v'.decoder))
    ⊎ (o ≡ NoMemory)
delivery_answers capacity maximum limit v n o v' r c = go c.takes.ends
  where
    refused : (fault : StreamFault) → o ≡ Refused fault → ⊥
    refused fault is =
        delivered_lawful capacity maximum limit v r.abstract n fault v' r.refines r.keeps
        (subst (λ (x : Outcome). DeliversToDecoder v n x v') is c)

    go : EndsAtDecoder v n c.table c.takes.front c.takes.rest o v' → (o ≡ Delivered (insert_count v'.decoder)) ⊎ (o
        ≡ NoMemory)
    go (takes_all cut is goes) =
        inl (is ∙ ap (λ (x : Session). Delivered (insert_count x.decoder)) (sym goes))
    go (no_memory is goes) = inr is
    go (bad_bytes fault b is goes) = absurd (refused _ is)
    go (bad_instruction encoding more i e cut s bad is goes) = absurd (refused _ is)

hearing_answers : (capacity maximum limit : ℕ) (v : Session) (n : ℕ) (o : Outcome) (v' : Session)
    → RefinesSome capacity maximum limit v → DeliversToEncoder v n o v' → o ≡ Heard
hearing_answers capacity maximum limit v n o v' r c = go c.takes.ends
  where
    refused : (fault : StreamFault) → o ≡ Refused fault → ⊥
    refused fault is =
        heard_lawful capacity maximum limit v r.abstract n fault v' r.refines r.keeps
        (subst (λ (x : Outcome). DeliversToEncoder v n x v') is c)

    go : EndsAtEncoder v n c.table c.takes.front c.takes.rest o v' → o ≡ Heard
    go (takes_all_at_encoder cut is goes) = is
    go (bad_bytes_at_encoder fault b is goes) = absurd (refused _ is)
    go (bad_decoder_instruction encoding more x e cut s bad is goes) = absurd (refused _ is)

refuses_nothing : (capacity maximum limit : ℕ) (v : Session) → RefinesSome capacity maximum limit v → RefusesNothing v
refuses_nothing capacity maximum limit v r =
    record {
      no_refusal =
          λ e fault v' g. never_refused capacity maximum limit v r.abstract e fault v' r.refines r.keeps
          (refused_of v e fault v' g);
      delivers = λ n o v' g. delivery_answers capacity maximum limit v n o v' r (delivery_of v n o v' g);
      hears = λ n o v' g. hearing_answers capacity maximum limit v n o v' r (hearing_of v n o v' g);
    }

-- ---- (c) and (d)

-- the next block of a stream was written by the next encode
next_of : (capacity maximum limit : ℕ) (events : List (Event × Outcome)) (v : Session)
    → Run (initial_session capacity maximum limit) events v
    → (s : ℕ) (b : KeptBlock) → next_block v s ≡ Some b
    → next_encode s events ≡ Some (encode_behind b)
next_of capacity maximum limit events v run s b next =
    let a : Adds (initial_session capacity maximum limit) v s (encodes_on s events) (decodes_on s events) =
    runs_add (initial_session capacity maximum limit) events v s run in
    let decoded : decodes_on s events ≡ (stream_at v.streams s).decoded = omega (arith, a.decoded) in
    ap (λ (l : List AnsweredEncode). slice_get l (decodes_on s events)) (sym a.written
    ∙ ap (map (λ (x : KeptBlock). encode_behind x)) (sym a.blocks))
    ∙ ap (slice_get (map (λ (x : KeptBlock). encode_behind x) (stream_at v.streams s).blocks)) decoded
    ∙ slice_get-map (λ (x : KeptBlock). encode_behind x) (stream_at v.streams s).blocks (stream_at v.streams s).decoded
    ∙ ap (option_map (λ (x : KeptBlock). encode_behind x)) next

-- a decode that isn't skipped is of a stream that isn't cancelled
decode_live : (v : Session) (s : ℕ) → skip_reason v (Decode s) ≡ None → (stream_at v.streams s).cancelled ≡ false
unfolding skip_reason
decode_live v s none =
    let k = stream_at v.streams s in (lawful_on s k (nat_lt k.decoded (length k.blocks)) 2 none).live

-- what a decode answers for its block: fields behind all insertions that it requires, else that they are missing
answer_fields : (v : Session) (b : KeptBlock) → ReadsExactly v b → b.required ≤ insert_count v.decoder
    → decode_outcome (reading_of_bytes (window v.decoder) b.bytes)
    ≡ Decoded b.fields (saturated_size (total_size b.fields)) (nat_lt 0 b.required)
answer_fields v b r le = ap decode_outcome (r.exact le)

answer_missing : (v : Session) (b : KeptBlock) → ReadsExactly v b → insert_count v.decoder < b.required
    → decode_outcome (reading_of_bytes (window v.decoder) b.bytes) ≡ MissingReferences b.required
answer_missing v b r lt = ap decode_outcome (r.missing lt)

-- the parts of an answer with fields
fields_answered : (events : List (Event × Outcome)) (s : ℕ) (b : KeptBlock) (fields : List Field) (size : ℕ)
    (is_dynamic : Bool)
    → next_encode s events ≡ Some (encode_behind b)
    → Decoded fields size is_dynamic ≡ Decoded b.fields (saturated_size (total_size b.fields)) (nat_lt 0 b.required)
    → AnswersFields events s fields size is_dynamic
fields_answered events s b fields size is_dynamic next e =
    record { encode = encode_behind b; is_next = next; fields_are = cc; size_is = cc; dynamic_is = cc }

fields_not_missing : (fields : List Field) (size : ℕ) (is_dynamic : Bool) (n : ℕ)
    → Decoded fields size is_dynamic ≡ MissingReferences n → ⊥
fields_not_missing fields size is_dynamic n e = absurd cc

reads_next : (capacity maximum limit : ℕ) (v : Session) → RefinesSome capacity maximum limit v → (s : ℕ) (b : KeptBlock)
    → (stream_at v.streams s).cancelled ≡ false → next_block v s ≡ Some b → ReadsExactly v b
reads_next capacity maximum limit v r s b live next =
    reads_exactly capacity maximum limit v r.abstract r.refines r.keeps s b live next

decode_gives : (capacity maximum limit : ℕ) (events : List (Event × Outcome)) (v : Session)
    → Run (initial_session capacity maximum limit) events v → RefinesSome capacity maximum limit v
    → (s : ℕ) (fields : List Field) (size : ℕ) (is_dynamic : Bool) (v' : Session)
    → Step v (Decode s) (Decoded fields size is_dynamic) v'
    → AnswersFields events s fields size is_dynamic
unfolding LawfulStep
decode_gives capacity maximum limit events v run r s fields size is_dynamic v' (inl h) =
    absurd (let e = h.answers in cc)
decode_gives capacity maximum limit events v run r s fields size is_dynamic v' (inr (none, inr h)) =
    absurd (let e = h.0 in cc)
decode_gives capacity maximum limit events v run r s fields size is_dynamic v' (inr (none, inl h)) =
    pick (cases_lt (insert_count v.decoder) b.required)
  where
    b : KeptBlock
    b = h.block

    reads : ReadsExactly v b
    reads = reads_next capacity maximum limit v r s b (decode_live v s none) h.is_next

    pick : (insert_count v.decoder < b.required) ⊎ (b.required ≤ insert_count v.decoder)
        → AnswersFields events s fields size is_dynamic
    pick (inl lt) =
        absurd (fields_not_missing fields size is_dynamic b.required (h.answers ∙ answer_missing v b reads lt))
    pick (inr le) =
        fields_answered events s b fields size is_dynamic (next_of capacity maximum limit events v run s b h.is_next)
        (h.answers ∙ answer_fields v b reads le)

decodes_handed : (capacity maximum limit : ℕ) (events : List (Event × Outcome)) (v : Session)
    → Run (initial_session capacity maximum limit) events v → RefinesSome capacity maximum limit v
    → DecodesWhatWasHanded capacity maximum events v
decodes_handed capacity maximum limit events v run r =
    let a = λ (s : ℕ). runs_add (initial_session capacity maximum limit) events v s run in
    record {
      answers = decode_gives capacity maximum limit events v run r;
      blocks_are = λ s. ap (map (λ (x : KeptBlock). encode_behind x)) (a s).blocks ∙ (a s).written;
      decoded_are = λ s. omega (arith, (a s).decoded);
      reads = λ s b live next le. (reads_next capacity maximum limit v r s b live next).exact le;
      meanings = means_handed capacity maximum limit v r.abstract r.refines r.keeps;
    }

decode_answers : (capacity maximum limit : ℕ) (events : List (Event × Outcome)) (v : Session)
    → Run (initial_session capacity maximum limit) events v → RefinesSome capacity maximum limit v
    → (s : ℕ) (o : Outcome) (v' : Session) → Step v (Decode s) o v' → DecodeAnswer events v s o
unfolding LawfulStep
decode_answers capacity maximum limit events v run r s o v' (inl h) = is_skipped h.reason h.is_reason h.answers
decode_answers capacity maximum limit events v run r s o v' (inr (none, inr h)) = wants_memory h.0
decode_answers capacity maximum limit events v run r s o v' (inr (none, inl h)) = pick
    (cases_lt (insert_count v.decoder) b.required)
  where
    b : KeptBlock
    b = h.block

    reads : ReadsExactly v b
    reads = reads_next capacity maximum limit v r s b (decode_live v s none) h.is_next

    pick : (insert_count v.decoder < b.required) ⊎ (b.required ≤ insert_count v.decoder) → DecodeAnswer events v s o
    pick (inl lt) =
        waits_for (encode_behind b) (next_of capacity maximum limit events v run s b h.is_next) lt (h.answers
        ∙ answer_missing v b reads lt)
    pick (inr le) =
        gives_fields b.fields (saturated_size (total_size b.fields)) (nat_lt 0 b.required) (h.answers
        ∙ answer_fields v b reads le)

same_some : (b c : KeptBlock) → Some b ≡ Some c → b ≡ c
same_some b c e = cc

-- where its block's instructions are taken, a decode doesn't answer that anything is missing
not_missing : (capacity maximum limit : ℕ) (u : Session) → RefinesSome capacity maximum limit u
    → (s : ℕ) (b : KeptBlock)
    → next_block u s ≡ Some b → b.end ≤ u.encoder_stream_taken
    → (required : ℕ) (u' : Session) → Step u (Decode s) (MissingReferences required) u' → ⊥
unfolding LawfulStep
not_missing capacity maximum limit u r s b next taken required u' (inl h) = absurd (let e = h.answers in cc)
not_missing capacity maximum limit u r s b next taken required u' (inr (none, inr h)) = absurd (let e = h.0 in cc)
not_missing capacity maximum limit u r s b next taken required u' (inr (none, inl h)) =
    let c : KeptBlock = h.block in
    let same : c ≡ b = same_some c b (sym h.is_next ∙ next) in
    let reads : ReadsExactly u c = reads_next capacity maximum limit u r s c (decode_live u s none) h.is_next in
    let le : c.required ≤ insert_count u.decoder = reads.in_time
    (omega (arith, taken, ap (λ (x : KeptBlock). x.end) same)) in
    absurd (fields_not_missing c.fields (saturated_size (total_size c.fields)) (nat_lt 0 c.required) required
    (sym (answer_fields u c reads le) ∙ sym h.answers))

-- the session behind a delivery
delivery_invariant : (capacity maximum limit : ℕ) (v : Session) (n : ℕ) (o : Outcome) (m : Session)
    → SessionInvariant capacity maximum limit v
    → Step v (ToDecoder n) o m → SessionInvariant capacity maximum limit m
delivery_invariant capacity maximum limit v n o m r g =
    record {
      some = lands_delivered capacity maximum limit v r.some.abstract n o m r.some.refines r.some.keeps
          (delivery_of v n o m g);
      counted = goes_counted v (ToDecoder n) o m g r.counted;
      ordered = (goes_moves v (ToDecoder n) o m r.ordered g).ordered;
    }

never_missing : (capacity maximum limit : ℕ) (v : Session) → SessionInvariant capacity maximum limit v
    → (n received : ℕ) (m : Session)
    → Step v (ToDecoder n) (Delivered received) m
    → (later : List (Event × Outcome)) (u : Session) → Run m later u → (s : ℕ) (b : KeptBlock)
    → next_block u s ≡ Some b → b.end ≤ m.encoder_stream_delivered
    → (required : ℕ) (u' : Session) → Step u (Decode s) (MissingReferences required) u' → ⊥
never_missing capacity maximum limit v r n received m g later u run s b next reached required u' miss =
    let rm = delivery_invariant capacity maximum limit v n (Delivered received) m r g in
    let ru = runs_invariant capacity maximum limit m later u rm run in
    let first = goes_moves v (ToDecoder n) (Delivered received) m r.ordered g in
    let since = runs_advance m later u rm.ordered run in
    let taken =
    delivers_whole capacity maximum limit v r.some.abstract n received m r.some.refines r.some.keeps
    (delivery_of v n (Delivered received) m g)
    u ru.some.abstract ru.some.refines
    (extends_both v.encoder_stream m.encoder_stream u.encoder_stream first.encoder_stream since.encoder_stream) s
    (stream_at u.streams s).decoded b next reached in
    not_missing capacity maximum limit u ru.some s b next
    (omega (arith, taken, since.encoder_stream_taken)) required u' miss

delivery_takes : (capacity maximum limit : ℕ) (v : Session) → SessionInvariant capacity maximum limit v
    → (n received : ℕ) (m : Session)
    → Step v (ToDecoder n) (Delivered received) m
    → (s position : ℕ) (b : KeptBlock) → slice_get (stream_at m.streams s).blocks position ≡ Some b
    → b.end ≤ m.encoder_stream_delivered → b.end ≤ m.encoder_stream_taken
delivery_takes capacity maximum limit v r n received m g =
    let rm = delivery_invariant capacity maximum limit v n (Delivered received) m r g in
    delivers_whole capacity maximum limit v r.some.abstract n received m r.some.refines r.some.keeps
    (delivery_of v n (Delivered received) m g)
    m rm.some.abstract rm.some.refines (goes_moves v (ToDecoder n) (Delivered received) m r.ordered g).encoder_stream

waits_only : (capacity maximum limit : ℕ) (events : List (Event × Outcome)) (v : Session)
    → Run (initial_session capacity maximum limit) events v → SessionInvariant capacity maximum limit v
    → WaitsOnlyForInsertions events v
waits_only capacity maximum limit events v run r =
    record {
      answers = decode_answers capacity maximum limit events v run r.some;
      never_again = never_missing capacity maximum limit v r;
      takes = delivery_takes capacity maximum limit v r;
      in_time = λ s b live next. (reads_next capacity maximum limit v r.some s b live next).in_time;
      missing = λ s b live next. (reads_next capacity maximum limit v r.some s b live next).missing;
    }

-- THE SESSION THEOREM, in bytes
pub sessions_safe : SessionsAreSafe
sessions_safe capacity maximum limit within events v run =
    let r = runs_invariant capacity maximum limit (initial_session capacity maximum limit) events v
    (opened_invariant capacity maximum limit within) run in
    record {
      follows = by_the_rule capacity maximum limit events v run r;
      refuses = refuses_nothing capacity maximum limit v r.some;
      decodes = decodes_handed capacity maximum limit events v run r.some;
      waits = waits_only capacity maximum limit events v run r;
    }
