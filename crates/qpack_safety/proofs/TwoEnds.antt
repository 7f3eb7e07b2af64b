-- Whatever two strict ends do, neither refuses what the other sends.
use Rattle.std.proofs.Common.{ℕ, suc, ◌+◌, ◌<◌, ◌≤◌, ◌≡◌, Bool, true, false, cond, List, [], ◌∷◌, ◌++◌, length, take}
use Rattle.std.proofs.Common.{Option, None, Some, Result, Ok, Err, refl, sym, ap, ◌∙◌, subst, inl, inr, ◌⊎◌, arith}
use Rattle.std.specs.List.{AllByRecursion, filter, slice_get}
use Rattle.std.specs.Prelude.{nat_eq, not, ◌&&◌}
use Rattle.std.proofs.lemmas.Bool.{cond_both, cases_lt, eq-eqb, ne_eqb, eqb-true, lt-ltb}
use Rattle.qpack_spec.specs.Field.{fields_of_lines}
use Rattle.qpack_spec.specs.Instruction.{EncoderInstruction, DecoderInstruction, Acknowledgment}
use Rattle.qpack_spec.specs.Chosen.{chosen_rule}
use Rattle.qpack_spec.specs.Reading.{Reading, reading}
use Rattle.qpack_rules.specs.Session.{IsPiece, stream_at, with_stream, oldest_undecoded, is_read, sum_of}
use Rattle.qpack_rules.specs.Session.{pieces_of, increments}
use Rattle.qpack_rules.specs.StrictInstructions.{inserts, strict_apply}
use Rattle.qpack_spec.specs.Table.{Table, table_of, apply_encoder_instruction, with_capacity}
use Rattle.qpack_spec.specs.Window.{Window, window_insert_count, TableRefusal, DoesNotFit}
use Rattle.qpack_spec.specs.History.{Leads, window_of, initial_history}
use Rattle.qpack_spec.proofs.Lists.{every_weaker}
use Rattle.qpack_rules.proofs.ChosenDrafts.{chosen_drafts}
use Rattle.qpack_rules.proofs.ChosenWritten.{chosen_inserts}
use Rattle.qpack_rules.proofs.Pieces.{pieces_add_up, pieces_small}
use Rattle.qpack_safety.specs.AbstractSafety.{DecodesExactly}
use Rattle.qpack_safety.specs.AbstractSession.{AbstractBlock, required_count, is_dynamic, AbstractStream, AbstractSession}
use Rattle.qpack_safety.specs.AbstractSession.{abstract_start, next_reading, read_block, waits_for_acknowledgment}
use Rattle.qpack_safety.specs.AbstractSession.{after_resize, after_take, take_next, after_hear, hear_next, after_step}
use Rattle.qpack_safety.specs.AbstractSession.{after_steps}
use Rattle.qpack_safety.specs.AbstractSession as small
use Rattle.qpack_safety.specs.TwoEnds.{EndStep, Encode, Abandon, EncodeAlone, Resize, Take, Report, Hear, Decode, Cancel}
use Rattle.qpack_safety.specs.TwoEnds.{Forget, decode_steps, small_steps, after_end_step, after_end_steps}
use Rattle.qpack_safety.specs.TwoEnds.{StrictEndsAreSafe}
use Rattle.qpack_safety.proofs.Invariant.{Invariant, inv_started, sound_made, sound_received}
use Rattle.qpack_safety.proofs.Resizing.{CanResize, resized_table, resized_cases}
use Rattle.qpack_safety.proofs.Safely.{inv_safe}
use Rattle.qpack_safety.proofs.Steps.{inv_run}
use Rattle.qpack_safety.proofs.StrictEvents.{strict_taken, strict_resized, strict_decoded, strict_acknowledged}
use Rattle.qpack_safety.proofs.StrictEvents.{strictly_hears, strict_heard, next_passes}
use Rattle.qpack_safety.proofs.StrictSession.{Strict, strict_drafted, strict_given_up, strict_alone, strict_cancelled}
use Rattle.qpack_safety.proofs.StrictSession.{strict_forgotten, strict_reported}
use Rattle.qpack_safety.proofs.Taking.{taking}
use Rattle.qpack_safety.proofs.ToldCounts.{TellsNoMore}
use Rattle.qpack_safety.proofs.LawfulInsertions.{NoneAtZero}

-- ---- the beginning

-- the decoder begins at the capacity
started : (capacity maximum : ℕ) → (window_of (initial_history capacity maximum)).capacity ≡ capacity
unfolding window_of
started capacity maximum = refl

strict_started : (capacity maximum limit : ℕ) → Strict (abstract_start capacity maximum limit)
unfolding TellsNoMore
strict_started capacity maximum limit =
    record {
      tells = λ s. tt;
      positive = tt;
      answered = λ s. record { decoded = omega arith; acknowledged = λ e. refl };
      lawful = tt;
      capacity = started capacity maximum;
      blocked = tt;
    }

-- ---- the steps that are one small step

pub strict_takes : (capacity maximum limit : ℕ) (w : AbstractSession) (is : List EncoderInstruction) → w.in_flight ≡ is
    → Invariant capacity maximum limit w → Strict w → Strict (take_next w is)
strict_takes capacity maximum limit w [] e k t = t
strict_takes capacity maximum limit w (i ∷ rest) e k t =
    let made = taking k.received k.made w.decoder i rest (sound_received capacity maximum limit w k) k.decoder
    (subst (λ (l : List EncoderInstruction). Leads k.received l k.made) e k.in_flight_leads) in
    subst (λ (r : Result Window TableRefusal). Strict (after_take w i rest r)) (sym made.applies)
    (strict_taken w i rest _ e made.applies t)

pub strict_hearing : (capacity maximum limit : ℕ) (w : AbstractSession) (rs : List DecoderInstruction)
    → w.decoder_in_flight ≡ rs → Invariant capacity maximum limit w → Strict w → Strict (hear_next w rs)
strict_hearing capacity maximum limit w [] e k t = t
strict_hearing capacity maximum limit w (r ∷ rest) e k t =
    let heard = strictly_hears capacity maximum limit w r rest e k t in
    subst (λ (u : Result Table TableRefusal). Strict (after_hear w rest u)) (sym heard.2)
    (strict_heard capacity maximum limit w r rest heard.0 e heard.2 k t)

strict_resizing : (w : AbstractSession) (n : ℕ) → Strict w → Strict (after_resize w n (with_capacity w.encoder n))
strict_resizing w n t = pick (resized_cases w.encoder n)
  where
    pick : (CanResize w.encoder n × (with_capacity w.encoder n ≡ Ok (resized_table w.encoder n)))
        ⊎ ((e : TableRefusal) × (with_capacity w.encoder n ≡ Err e))
        → Strict (after_resize w n (with_capacity w.encoder n))
    pick (inl p) =
        subst (λ (r : Result Table TableRefusal). Strict (after_resize w n r)) (sym p.1) (strict_resized w n t)
    pick (inr e) = subst (λ (r : Result Table TableRefusal). Strict (after_resize w n r)) (sym e.1) t

pieces_positive : (many : ℕ) → AllByRecursion (λ n. 0 < n) (pieces_of many)
pieces_positive many =
    every_weaker IsPiece (λ n. 0 < n) (λ n p. (let least = p.0 in omega (arith, least))) (pieces_of many)
    (pieces_small many)

strict_reporting : (w : AbstractSession) → Strict w → Strict (after_step w (small.Report (pieces_of w.unreported)))
strict_reporting w t =
    cond_both (nat_eq (sum_of (pieces_of w.unreported)) w.unreported)
    (record w { decoder_in_flight = w.decoder_in_flight ++ increments (pieces_of w.unreported); unreported = 0 }) w Strict
    (λ _. strict_reported w (pieces_of w.unreported) (pieces_positive w.unreported) t) (λ _. t)

-- all is reported then
pub reporting_is : (w : AbstractSession) → after_step w (small.Report (pieces_of w.unreported)) ≡ record w {
  decoder_in_flight = w.decoder_in_flight ++ increments (pieces_of w.unreported);
  unreported = 0;
}
reporting_is w = rw (eq-eqb (sum_of (pieces_of w.unreported)) w.unreported (pieces_add_up w.unreported)) refl

strict_cancelling : (w : AbstractSession) (s : ℕ) → Strict w → Strict (after_step w (small.Cancel s))
strict_cancelling w s t =
    cond_both (stream_at w.streams s).cancelled w _ Strict (λ _. t) (λ _. strict_cancelled w s t)

-- ---- a decode

same_stream : (ps : List (ℕ × AbstractStream)) (s : ℕ) (v : AbstractStream) → stream_at (with_stream ps s v) s ≡ v
same_stream ps s v = rw (eq-eqb s s refl) refl

other_stream : (ps : List (ℕ × AbstractStream)) (s : ℕ) (v : AbstractStream) (q : ℕ) → (s ≡ q → ⊥)
    → stream_at (with_stream ps s v) q ≡ stream_at ps q
other_stream ps s v q apart = rw (ne_eqb s q apart) refl

-- a section that is read is of a stream that isn't cancelled
read_live : (w : AbstractSession) (s : ℕ) (b : AbstractBlock) → oldest_undecoded (stream_at w.streams s) ≡ Some b
    → is_read (next_reading w s) ≡ true
    → ((stream_at w.streams s).cancelled ≡ false) × (is_read (Some (reading w.decoder b.block)) ≡ true)
read_live w s b e h = both (stream_at w.streams s).cancelled refl h
  where
    both : (c : Bool) → (stream_at w.streams s).cancelled ≡ c
        → is_read (cond c None (read_block w.decoder (oldest_undecoded (stream_at w.streams s)))) ≡ true
        → ((stream_at w.streams s).cancelled ≡ false) × (is_read (Some (reading w.decoder b.block)) ≡ true)
    both true is r = absurd cc
    both false is r =
        (is, subst (λ (o : Option AbstractBlock). is_read (read_block w.decoder o) ≡ true) e r)

-- and requires no more than was received
read_within : (capacity maximum limit : ℕ) (w : AbstractSession) (s : ℕ) (b : AbstractBlock)
    → Invariant capacity maximum limit w → oldest_undecoded (stream_at w.streams s) ≡ Some b
    → is_read (next_reading w s) ≡ true → required_count b ≤ window_insert_count w.decoder
read_within capacity maximum limit w s b k e h =
    let live = read_live w s b e h in
    pick live.1 ((inv_safe capacity maximum limit w k).decodes s b live.0 e)
    (cases_lt (window_insert_count w.decoder) (required_count b))
  where
    pick : is_read (Some (reading w.decoder b.block)) ≡ true → DecodesExactly w b
        → (window_insert_count w.decoder < required_count b) ⊎ (required_count b ≤ window_insert_count w.decoder)
        → required_count b ≤ window_insert_count w.decoder
    pick r exactly (inl missing) =
        absurd (let x = subst (λ (x : Reading). is_read (Some x) ≡ true) (exactly.missing missing) r in cc)
    pick r exactly (inr within) = within

-- a section that requires an entry waits to be acknowledged once it is decoded
waits_next : (st : AbstractStream) (b : AbstractBlock) → st.cancelled ≡ false → slice_get st.blocks st.decoded ≡ Some b
    → is_dynamic b ≡ true → st.acknowledged ≡ length (filter is_dynamic (take st.decoded st.blocks))
    → waits_for_acknowledgment (record st { decoded = st.decoded + 1 }) ≡ true
waits_next st b live e dynamic all =
    let one : st.decoded + 1 ≡ suc st.decoded = omega arith in
    let next = next_passes st.decoded is_dynamic st.blocks b e in
    let more : cond {A = ℕ} (is_dynamic b) 1 0 ≡ cond true 1 0 = ap (λ (x : Bool). cond {A = ℕ} x 1 0) dynamic in
    let less : st.acknowledged < length (filter is_dynamic (take (st.decoded + 1) st.blocks)) =
    rw one (omega (arith, next, more, all)) in
    rw (live, lt-ltb st.acknowledged (length (filter is_dynamic (take (st.decoded + 1) st.blocks))) less) refl

-- a section that requires an entry: all is reported, and the section decoded and acknowledged
strict_dynamic : (capacity maximum limit : ℕ) (w : AbstractSession) (s : ℕ) (b : AbstractBlock)
    → Invariant capacity maximum limit w → Strict w → w.unreported ≡ 0
    → oldest_undecoded (stream_at w.streams s) ≡ Some b → is_read (next_reading w s) ≡ true → is_dynamic b ≡ true
    → Strict (after_steps (small.Decode s ∷ small.Acknowledge s ∷ []) w)
strict_dynamic capacity maximum limit w s b k t none e h dynamic =
    let st = stream_at w.streams s in
    let live = read_live w s b e h in
    let next : AbstractStream = record st { decoded = st.decoded + 1 } in
    let ps = with_stream w.streams s next in
    let here : stream_at ps s ≡ next = same_stream w.streams s next in
    let waits : waits_for_acknowledgment (stream_at ps s) ≡ true =
    ap waits_for_acknowledgment here
    ∙ waits_next st b live.0 e dynamic ((t.answered s).acknowledged live.0) in
    rw (h, waits) (subst (λ (v : AbstractStream). Strict (record w {
      decoder_in_flight = w.decoder_in_flight ++ Acknowledgment s ∷ [];
      streams = with_stream ps s (record v { acknowledged = v.acknowledged + 1 });
    })) (sym here)
    (strict_acknowledged capacity maximum limit w s b k live.0 e dynamic
    (read_within capacity maximum limit w s b k e h) none t ps (λ q apart. other_stream w.streams s next q apart)))

strict_decoding : (capacity maximum limit : ℕ) (w : AbstractSession) (s : ℕ) (o : Option AbstractBlock)
    → oldest_undecoded (stream_at w.streams s) ≡ o → Invariant capacity maximum limit w → Strict w
    → Strict (after_steps (decode_steps w s o) w)
strict_decoding capacity maximum limit w s None e k t = t
strict_decoding capacity maximum limit w s (Some b) e k t = both (is_read (next_reading w s)) refl
  where
    reported : AbstractSession
    reported = record w {
      decoder_in_flight = w.decoder_in_flight ++ increments (pieces_of w.unreported);
      unreported = 0;
    }

    kept : Invariant capacity maximum limit reported
    kept = subst (Invariant capacity maximum limit) (reporting_is w)
        (inv_run capacity maximum limit (small.Report (pieces_of w.unreported) ∷ []) w k)

    strictly : Strict reported
    strictly = subst Strict (reporting_is w) (strict_reporting w t)

    by_kind : is_read (next_reading w s) ≡ true → (d : Bool) → is_dynamic b ≡ d
        → Strict (after_steps (cond d (small.Report (pieces_of w.unreported) ∷ small.Decode s ∷ small.Acknowledge s ∷ [])
        (small.Decode s ∷ [])) w)
    by_kind h true dynamic =
        subst (λ (x : AbstractSession). Strict (after_steps (small.Decode s ∷ small.Acknowledge s ∷ []) x))
        (sym (reporting_is w))
        (strict_dynamic capacity maximum limit reported s b kept strictly refl e h dynamic)
    by_kind h false plain = rw h (strict_decoded w s b e plain t)

    both : (r : Bool) → is_read (next_reading w s) ≡ r
        → Strict (after_steps (cond (not r) [] (cond (is_dynamic b)
        (small.Report (pieces_of w.unreported) ∷ small.Decode s ∷ small.Acknowledge s ∷ []) (small.Decode s ∷ []))) w)
    both true h = by_kind h (is_dynamic b) refl
    both false h = t

-- ---- what a decode comes to

-- the next section of a stream that isn't cancelled can be read once the insertions are received that it requires
pub next_read : (capacity maximum limit : ℕ) (w : AbstractSession) (s : ℕ) (b : AbstractBlock)
    → Invariant capacity maximum limit w → (stream_at w.streams s).cancelled ≡ false
    → oldest_undecoded (stream_at w.streams s) ≡ Some b → required_count b ≤ window_insert_count w.decoder
    → is_read (next_reading w s) ≡ true
next_read capacity maximum limit w s b k live e within =
    let exactly = ((inv_safe capacity maximum limit w k).decodes s b live e).exact within in
    rw (live, e, exactly) refl

-- one that requires no entry is decoded
pub decoded_plain : (w : AbstractSession) (s : ℕ) (b : AbstractBlock)
    → oldest_undecoded (stream_at w.streams s) ≡ Some b → is_read (next_reading w s) ≡ true → is_dynamic b ≡ false
    → after_end_step w (Decode s) ≡ record w {
      streams = with_stream w.streams s
          (record (stream_at w.streams s) { decoded = (stream_at w.streams s).decoded + 1 });
    }
decoded_plain w s b e h plain =
    ap (λ (o : Option AbstractBlock). after_steps (decode_steps w s o) w) e
    ∙ rw (h, plain, h) refl

-- one that does is decoded and acknowledged, behind the increments for all that was received
pub decoded_dynamic : (capacity maximum limit : ℕ) (w : AbstractSession) (s : ℕ) (b : AbstractBlock)
    → Strict w → oldest_undecoded (stream_at w.streams s) ≡ Some b → is_read (next_reading w s) ≡ true
    → is_dynamic b ≡ true
    → (let st = stream_at w.streams s in
    after_end_step w (Decode s) ≡ record w {
      decoder_in_flight = (w.decoder_in_flight ++ increments (pieces_of w.unreported)) ++ Acknowledgment s ∷ [];
      unreported = 0;
      streams = with_stream (with_stream w.streams s (record st { decoded = st.decoded + 1 })) s
          (record st { decoded = st.decoded + 1; acknowledged = st.acknowledged + 1 });
    })
decoded_dynamic capacity maximum limit w s b t e h dynamic =
    let st = stream_at w.streams s in
    let live = read_live w s b e h in
    let next : AbstractStream = record st { decoded = st.decoded + 1 } in
    let ps = with_stream w.streams s next in
    let here : stream_at ps s ≡ next = same_stream w.streams s next in
    let waits : waits_for_acknowledgment (stream_at ps s) ≡ true =
    ap waits_for_acknowledgment here
    ∙ waits_next st b live.0 e dynamic ((t.answered s).acknowledged live.0) in
    ap (λ (o : Option AbstractBlock). after_steps (decode_steps w s o) w) e
    ∙ rw (h, dynamic) (ap (after_steps (small.Decode s ∷ small.Acknowledge s ∷ [])) (reporting_is w)
    ∙ rw (h, waits) (ap (λ (v : AbstractStream). let x : AbstractSession = record w {
      decoder_in_flight = (w.decoder_in_flight ++ increments (pieces_of w.unreported)) ++ Acknowledgment s ∷ [];
      unreported = 0;
      streams = with_stream ps s (record v { acknowledged = v.acknowledged + 1 });
    } in x) here))

-- ---- every step

strict_step : (capacity maximum limit : ℕ) (w : AbstractSession) (e : EndStep) → Invariant capacity maximum limit w
    → Strict w → Strict (after_end_step w e)
strict_step capacity maximum limit w (Encode s ls cs) k t =
    strict_drafted capacity maximum limit w s (fields_of_lines ls) (chosen_rule w.encoder ls cs) k
    (chosen_drafts w.encoder k.made ls cs (sound_made capacity maximum limit w k) k.encoder)
    (chosen_inserts w.encoder ls cs) t
strict_step capacity maximum limit w (Abandon ls cs) k t =
    strict_given_up capacity maximum limit w (fields_of_lines ls) (chosen_rule w.encoder ls cs) k
    (chosen_drafts w.encoder k.made ls cs (sound_made capacity maximum limit w k) k.encoder)
    (chosen_inserts w.encoder ls cs) t
strict_step capacity maximum limit w (EncodeAlone s ls) k t = strict_alone w s ls t
strict_step capacity maximum limit w (Resize n) k t = strict_resizing w n t
strict_step capacity maximum limit w Take k t = strict_takes capacity maximum limit w w.in_flight refl k t
strict_step capacity maximum limit w Report k t = strict_reporting w t
strict_step capacity maximum limit w Hear k t = strict_hearing capacity maximum limit w w.decoder_in_flight refl k t
strict_step capacity maximum limit w (Decode s) k t =
    strict_decoding capacity maximum limit w s (oldest_undecoded (stream_at w.streams s)) refl k t
strict_step capacity maximum limit w (Cancel s) k t = strict_cancelling w s t
strict_step capacity maximum limit w (Forget s) k t = strict_forgotten w s t

-- the invariant, and what strict ends rely on
pub record Holds (capacity maximum limit : ℕ) (w : AbstractSession) : Type 0 where
  pub invariant : Invariant capacity maximum limit w
  pub strict : Strict w

pub holds_started : (capacity maximum limit : ℕ) → capacity ≤ maximum
    → Holds capacity maximum limit (abstract_start capacity maximum limit)
holds_started capacity maximum limit within =
    record {
      invariant = inv_started capacity maximum limit within;
      strict = strict_started capacity maximum limit;
    }

pub holds_step : (capacity maximum limit : ℕ) (e : EndStep) (w : AbstractSession) → Holds capacity maximum limit w
    → Holds capacity maximum limit (after_end_step w e)
holds_step capacity maximum limit e w h =
    record {
      invariant = inv_run capacity maximum limit (small_steps w e) w h.invariant;
      strict = strict_step capacity maximum limit w e h.invariant h.strict;
    }

pub holds_behind : (capacity maximum limit : ℕ) (es : List EndStep) (w : AbstractSession)
    → Holds capacity maximum limit w → Holds capacity maximum limit (after_end_steps es w)
holds_behind capacity maximum limit [] w h = h
holds_behind capacity maximum limit (e ∷ es) w h =
    holds_behind capacity maximum limit es (after_end_step w e) (holds_step capacity maximum limit e w h)

-- ---- the theorem

pub strictly_takes : (w : AbstractSession) (i : EncoderInstruction) (rest : List EncoderInstruction)
    → w.in_flight ≡ i ∷ rest → Strict w
    → strict_apply (table_of w.decoder) i ≡ apply_encoder_instruction (table_of w.decoder) i
unfolding strict_apply table_of
strictly_takes w i rest e t = both (nat_eq w.decoder.capacity 0) refl
  where
    lawful : w.decoder.capacity ≡ 0 → inserts i ≡ false
    lawful = (subst (λ (is : List EncoderInstruction). NoneAtZero w.decoder.capacity is) e t.lawful).0

    both : (c : Bool) → nat_eq w.decoder.capacity 0 ≡ c
        → cond (c && inserts i) (Err DoesNotFit) (apply_encoder_instruction (table_of w.decoder) i)
        ≡ apply_encoder_instruction (table_of w.decoder) i
    both true z = rw (lawful (eqb-true w.decoder.capacity 0 z)) refl
    both false z = refl

pub strict_ends_safe : StrictEndsAreSafe
strict_ends_safe capacity maximum limit within steps =
    let h = holds_behind capacity maximum limit steps (abstract_start capacity maximum limit)
    (holds_started capacity maximum limit within) in
    let w = after_end_steps steps (abstract_start capacity maximum limit) in (
      inv_safe capacity maximum limit w h.invariant,
      record {
        takes = λ i rest e. strictly_takes w i rest e h.strict;
        hears = λ r rest e. strictly_hears capacity maximum limit w r rest e h.invariant h.strict;
      },
    )
