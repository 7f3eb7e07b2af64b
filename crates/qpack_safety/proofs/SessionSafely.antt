-- A session in bytes is safe at every moment.
use Rattle.std.proofs.Common.{ℕ, ◌+◌, ◌<◌, ◌≤◌, ◌≡◌, Bool, true, false, cond, List, [], ◌∷◌, ◌++◌, length, take, min}
use Rattle.std.proofs.Common.{None, Some, Result, Ok, refl, sym, ap, ◌∙◌, subst, arith, lit≤, inl, inr, ◌⊎◌}
use Rattle.std.proofs.Common.{length-append}
use Rattle.std.specs.List.{slice_get}
use Rattle.std.specs.Prelude.{nat_lt, nat_eq}
use Rattle.std.proofs.lemmas.Bool.{cases_lt, ne_eqb, eq-eqb}
use Rattle.std.proofs.lemmas.List.{append_assoc, append_cancel_left}
use Rattle.qpack_spec.specs.Field.{Field}
use Rattle.qpack_spec.specs.Form.{Truncates}
use Rattle.qpack_spec.specs.Instruction.{EncoderInstruction, encoder_instruction_form, SpellsEncoderInstruction}
use Rattle.qpack_spec.specs.Stream.{SpellsAll, IsCutOff}
use Rattle.qpack_spec.specs.Window.{Window, window_insert_count}
use Rattle.qpack_spec.specs.Reading.{Fault, Reading, Faulty, Fields, Missing, reading, fields_of, references_of}
use Rattle.qpack_spec.specs.History.{History, whole_window, initial_history, Leads}
use Rattle.qpack_spec.specs.BlockReading.{reading_of_bytes, meaning_over_all, written_block}
use Rattle.qpack_spec.specs.Table.{Table, window, insert_count}
use Rattle.qpack_safety.specs.AbstractSession.{AbstractBlock, required_count, AbstractSession, abstract_start}
use Rattle.qpack_rules.specs.Session.{KeptBlock, stream_at, Session, Event, Encode, Decode, ToDecoder, ToEncoder}
use Rattle.qpack_rules.specs.Session.{Acknowledge, Cancel, ChangeCapacity, Outcome, decode_outcome, Delivered, Refused}
use Rattle.qpack_rules.specs.Session.{StreamFault, initial_session, next_block, requires_entry, awaits_acknowledgment}
use Rattle.qpack_rules.specs.Session.{skip_reason, with_block}
use Rattle.qpack_rules.specs.Session.{after_refused_encode, with_decoded, EndsAtDecoder, takes_all, no_memory}
use Rattle.qpack_rules.specs.Session.{bad_bytes}
use Rattle.qpack_rules.specs.Session.{bad_instruction, DeliversToDecoder, LawfulStep, Step, IsByteEvent, FitsMemory}
use Rattle.qpack_rules.specs.Session.{is_read}
use Rattle.qpack_spec.specs.WrittenLaws.{IsByteField}
use Rattle.qpack_spec.proofs.Positions.{every_take}
use Rattle.qpack_spec.proofs.BlockReadings.{written_read, written_means}
use Rattle.qpack_rules.proofs.PutTables.{window_put, count_put}
use Rattle.qpack_spec.specs.Prefix.{Prefix, base_behind, read_base}
use Rattle.qpack_spec.specs.Text.{Always}
use Rattle.qpack_spec.proofs.Lists.{every_get}
use Rattle.qpack_spec.proofs.Windows.{Agreed, agreed_start, leads_agreed, leads_append, leads_unique}
use Rattle.qpack_spec.proofs.Readings.{fields_plain}
use Rattle.qpack_spec.proofs.Positions.{numbers_none}
use Rattle.qpack_spec.proofs.Prefixes.{base_written}
use Rattle.qpack_safety.specs.AbstractSafety.{DecodesExactly}
use Rattle.qpack_safety.specs.SessionSafety.{Extends}
use Rattle.qpack_safety.specs.Refines.{EndsAt, RefinesBlock, Refines}
use Rattle.qpack_safety.proofs.Invariant.{KeepsBlock, Invariant, inv_started}
use Rattle.qpack_safety.proofs.Safely.{inv_safe}
use Rattle.qpack_spec.proofs.Cuttings.{nil_append, Wire, wire, reads_delivered, one_reading}
use Rattle.qpack_safety.proofs.Shown.{agrees_get}
use Rattle.qpack_safety.proofs.WritingEvents.{RefinesSome, whole_sent, lands_encoded, lands_given_up, lands_resized}
use Rattle.qpack_safety.proofs.WritingEvents.{lands_decoded, lawful_on, lands_acknowledged, lands_cancelled}
use Rattle.qpack_safety.proofs.DeliveryEvents.{Moved, moved, lands_delivered, delivered_lawful, lands_heard}
use Rattle.qpack_safety.proofs.DeliveryEvents.{heard_lawful}

-- ---- every event

stays : (capacity maximum limit : ℕ) (v v' : Session) (w : AbstractSession) → Refines v w
    → Invariant capacity maximum limit w → v' ≡ v
    → RefinesSome capacity maximum limit v'
stays capacity maximum limit v v' w sh k e =
    subst (RefinesSome capacity maximum limit) (sym e) (record { abstract = w; refines = sh; keeps = k })

moves : (capacity maximum limit : ℕ) (v' u : Session) → v' ≡ u → RefinesSome capacity maximum limit u
    → RefinesSome capacity maximum limit v'
moves capacity maximum limit v' u e l = subst (RefinesSome capacity maximum limit) (sym e) l

happens_lands : (capacity maximum limit : ℕ) (v : Session) (w : AbstractSession) (e : Event) (o : Outcome)
    (v' : Session)
    → Refines v w → Invariant capacity maximum limit w → IsByteEvent e → FitsMemory v' → skip_reason v e ≡ None
    → LawfulStep v e o v' → RefinesSome capacity maximum limit v'
unfolding LawfulStep skip_reason
happens_lands capacity maximum limit v w (Encode s fs) o v' sh k wr fits none (inl h) =
    moves capacity maximum limit v' (with_block v s fs) h.1
    (lands_encoded capacity maximum limit v w s fs sh k wr (subst FitsMemory h.1 fits))
happens_lands capacity maximum limit v w (Encode s fs) o v' sh k wr fits none (inr (inl h)) =
    moves capacity maximum limit v' (after_refused_encode v (take h.many fs)) h.leads
    (lands_given_up capacity maximum limit v w (take h.many fs) sh k (every_take IsByteField h.many fs wr)
    (subst FitsMemory h.leads fits))
happens_lands capacity maximum limit v w (Encode s fs) o v' sh k wr fits none (inr (inr h)) =
    stays capacity maximum limit v v' w sh k h.1
happens_lands capacity maximum limit v w (Decode s) o v' sh k wr fits none (inl h) =
    moves capacity maximum limit v' _ h.moves
    (both (is_read (Some (reading_of_bytes (window v.decoder) h.block.bytes))))
  where
    both : (b : Bool) → RefinesSome capacity maximum limit (cond b (with_decoded v s) v)
    both true = lands_decoded capacity maximum limit v w s sh k
    both false = record { abstract = w; refines = sh; keeps = k }
happens_lands capacity maximum limit v w (Decode s) o v' sh k wr fits none (inr h) =
    stays capacity maximum limit v v' w sh k h.1
happens_lands capacity maximum limit v w (ToDecoder n) o v' sh k wr fits none h =
    lands_delivered capacity maximum limit v w n o v' sh k h
happens_lands capacity maximum limit v w (ToEncoder n) o v' sh k wr fits none h =
    lands_heard capacity maximum limit v w n o v' sh k h
happens_lands capacity maximum limit v w (Acknowledge s) o v' sh k wr fits none (inl h) =
    moves capacity maximum limit v' _ h.1 (lands_acknowledged capacity maximum limit v w s sh k
    (lawful_on s (stream_at v.streams s) (awaits_acknowledgment requires_entry (stream_at v.streams s)) 4 none))
happens_lands capacity maximum limit v w (Acknowledge s) o v' sh k wr fits none (inr h) =
    stays capacity maximum limit v v' w sh k h.1
happens_lands capacity maximum limit v w (Cancel s) o v' sh k wr fits none (inl h) =
    moves capacity maximum limit v' _ h.1 (lands_cancelled capacity maximum limit v w s sh k
    (lawful_on s (stream_at v.streams s) true 0 none).small)
happens_lands capacity maximum limit v w (Cancel s) o v' sh k wr fits none (inr h) =
    stays capacity maximum limit v v' w sh k h.1
happens_lands capacity maximum limit v w (ChangeCapacity n) o v' sh k wr fits none (inl h) =
    moves capacity maximum limit v' _ h.leads (lands_resized capacity maximum limit v w n h.table sh k h.is_set)
happens_lands capacity maximum limit v w (ChangeCapacity n) o v' sh k wr fits none (inr (inl h)) =
    stays capacity maximum limit v v' w sh k h.stays
happens_lands capacity maximum limit v w (ChangeCapacity n) o v' sh k wr fits none (inr (inr h)) =
    stays capacity maximum limit v v' w sh k h.1

-- each event leads to a session that refines one of values again
pub goes_lands : (capacity maximum limit : ℕ) (v : Session) (w : AbstractSession) (e : Event) (o : Outcome)
    (v' : Session)
    → Refines v w → Invariant capacity maximum limit w → IsByteEvent e → FitsMemory v' → Step v e o v'
    → RefinesSome capacity maximum limit v'
goes_lands capacity maximum limit v w e o v' sh k wr fits (inl h) = stays capacity maximum limit v v' w sh k h.stays
goes_lands capacity maximum limit v w e o v' sh k wr fits (inr h) =
    happens_lands capacity maximum limit v w e o v' sh k wr fits h.0 h.1

pub opened_lands : (capacity maximum limit : ℕ) → capacity ≤ maximum
    → RefinesSome capacity maximum limit (initial_session capacity maximum limit)
opened_lands capacity maximum limit within =
    record {
      abstract = abstract_start capacity maximum limit;
      refines = record {
        encoder_is = refl;
        decoder_is = refl;
        unreported_is = refl;
        encoder_stream =
            record { front = []; rest = []; cut = refl; ends = refl; front_joined = refl; rest_joined = refl };
        encoder_stream_order = lit≤ tt;
        decoder_taken = [];
        decoder_stream =
            record { front = []; rest = []; cut = refl; ends = refl; front_joined = refl; rest_joined = refl };
        decoder_stream_order = lit≤ tt;
        streams_are = λ s. record { blocks_are = tt; decoded_is = refl; acknowledged_is = refl; cancelled_is = refl };
      };
      keeps = inv_started capacity maximum limit within;
    }

-- ---- neither end refuses

-- a reading is no refusal of a stream
no_refused_reading : (r : Reading) (fault : StreamFault) → Refused fault ≡ decode_outcome r → ⊥
no_refused_reading (Fields fs d) fault e = absurd cc
no_refused_reading (Missing n) fault e = absurd cc
no_refused_reading (Faulty f) fault e = absurd cc

pub never_refused : (capacity maximum limit : ℕ) (v : Session) (w : AbstractSession) (e : Event) (fault : StreamFault)
    (v' : Session) → Refines v w → Invariant capacity maximum limit w → LawfulStep v e (Refused fault) v' → ⊥
unfolding LawfulStep
never_refused capacity maximum limit v w (Encode s fs) fault v' sh k (inl h) = absurd (let e = h.0 in cc)
never_refused capacity maximum limit v w (Encode s fs) fault v' sh k (inr (inl h)) = absurd (let e = h.answers in cc)
never_refused capacity maximum limit v w (Encode s fs) fault v' sh k (inr (inr h)) = absurd (let e = h.0 in cc)
never_refused capacity maximum limit v w (Decode s) fault v' sh k (inl h) =
    no_refused_reading (reading_of_bytes (window v.decoder) h.block.bytes) fault h.answers
never_refused capacity maximum limit v w (Decode s) fault v' sh k (inr h) = absurd (let e = h.0 in cc)
never_refused capacity maximum limit v w (ToDecoder n) fault v' sh k h =
    delivered_lawful capacity maximum limit v w n fault v' sh k h
never_refused capacity maximum limit v w (ToEncoder n) fault v' sh k h =
    heard_lawful capacity maximum limit v w n fault v' sh k h
never_refused capacity maximum limit v w (Acknowledge s) fault v' sh k (inl h) = absurd (let e = h.0 in cc)
never_refused capacity maximum limit v w (Acknowledge s) fault v' sh k (inr h) = absurd (let e = h.0 in cc)
never_refused capacity maximum limit v w (Cancel s) fault v' sh k (inl h) = absurd (let e = h.0 in cc)
never_refused capacity maximum limit v w (Cancel s) fault v' sh k (inr h) = absurd (let e = h.0 in cc)
never_refused capacity maximum limit v w (ChangeCapacity n) fault v' sh k (inl h) = absurd (let e = h.answers in cc)
never_refused capacity maximum limit v w (ChangeCapacity n) fault v' sh k (inr (inl h)) =
    absurd (let e = h.answers in cc)
never_refused capacity maximum limit v w (ChangeCapacity n) fault v' sh k (inr (inr h)) = absurd (let e = h.0 in cc)

-- ---- fronts of what was sent

-- no spelling is a front of no bytes
nothing_cut_off : {L : Type 0} (S : List ℕ → L → Type 0) (W : Wire L S) → IsCutOff S []
nothing_cut_off S W encoding more l e s = W.spells_some l
    (subst (λ (b : List ℕ). S b l) (nil_append encoding more (sym e)) s)

-- of two fronts of the same bytes that are lines, the one of fewer lines is no longer
fronts_order : {L : Type 0} (S : List ℕ → L → Type 0) (W : Wire L S) (ls ms : List L) (a b x y : List ℕ)
    → SpellsAll S a ls → SpellsAll S b ms → a ++ x ≡ b ++ y → length ls ≤ length ms → length a ≤ length b
fronts_order S W [] ms a b x y j k e le = omega (arith, ap length j)
fronts_order S W (l ∷ ls) [] a b x y j k e le = absurd (omega arith)
fronts_order S W (l ∷ ls) (m ∷ ms) a b x y j k e le =
    let both : j.0 ++ (j.1 ++ x) ≡ k.0 ++ (k.1 ++ y) =
    sym (append_assoc j.0 j.1 x) ∙ ap (λ z. z ++ x) (sym j.2) ∙ e ∙ ap (λ z. z ++ y) k.2 ∙ append_assoc k.0 k.1 y in
    let same = W.one_spelling j.0 k.0 (j.1 ++ x) (k.1 ++ y) l m j.3 k.3 both in
    let tail : j.1 ++ x ≡ k.1 ++ y =
    append_cancel_left k.0 (j.1 ++ x) (k.1 ++ y) (ap (λ z. z ++ (j.1 ++ x)) (sym same.0) ∙ both) in
    let rest = fronts_order S W ls ms j.1 k.1 x y j.4 k.4 tail (omega arith) in
    omega (arith, rest, ap length j.2, ap length k.2, length-append j.0 j.1, length-append k.0 k.1, ap length same.0)

-- instructions that end within what was taken were taken
taken_within : (v : Session) (w : AbstractSession) (position many : ℕ) → Refines v w
    → EndsAt v.encoder_stream (w.taken ++ w.in_flight) position many → position ≤ v.encoder_stream_taken → many
    ≤ length w.taken
taken_within v w position many sh e le =
    let c = sh.encoder_stream in
    let same : e.front ++ e.rest ≡ c.front ++ ([] ++ c.rest) = sym e.cut ∙ c.cut in
    let r = reads_delivered SpellsEncoderInstruction
    (wire encoder_instruction_form) w.taken e.first [] c.front [] c.rest e.front
    e.rest c.front_joined (nothing_cut_off SpellsEncoderInstruction (wire encoder_instruction_form)) e.joined same
    (omega (arith, le, e.position_is, c.ends)) in
    omega (arith, r, e.many_is)

-- ---- what the decoder reads

-- what the decoder answers for the next block of a stream
pub record ReadsExactly (v : Session) (b : KeptBlock) : Type 0 where
  pub missing : insert_count v.decoder < b.required → reading_of_bytes (window v.decoder) b.bytes ≡ Missing b.required
  pub exact : b.required ≤ insert_count v.decoder
      → reading_of_bytes (window v.decoder) b.bytes ≡ Fields b.fields (nat_lt 0 b.required)
  pub in_time : b.end ≤ v.encoder_stream_taken → b.required ≤ insert_count v.decoder

pub reads_exactly : (capacity maximum limit : ℕ) (v : Session) (w : AbstractSession) → Refines v w
    → Invariant capacity maximum limit w
    → (s : ℕ) (b : KeptBlock) → (stream_at v.streams s).cancelled ≡ false → next_block v s ≡ Some b → ReadsExactly v b
reads_exactly capacity maximum limit v w sh k s b live next =
    let old = sh.streams_are s in
    let at =
    agrees_get (RefinesBlock v.encoder_stream (w.taken ++ w.in_flight)) (stream_at v.streams s).blocks
    (stream_at w.streams s).blocks (stream_at v.streams s).decoded b old.blocks_are next in
    let there : slice_get (stream_at w.streams s).blocks (stream_at w.streams s).decoded ≡ Some at.0 =
    ap (slice_get (stream_at w.streams s).blocks) (sym old.decoded_is) ∙ at.1 in
    let d : DecodesExactly w at.0 =
    (inv_safe capacity maximum limit w k).decodes s at.0 (sym old.cancelled_is ∙ live) there in
    let shown = at.2 in
    let many : insert_count v.decoder ≡ window_insert_count w.decoder = ap insert_count sh.decoder_is
    ∙ count_put w.decoder in
    let same : reading_of_bytes (window v.decoder) b.bytes ≡ reading w.decoder at.0.block =
    ap (λ (t : Table). reading_of_bytes (window t) b.bytes) sh.decoder_is
    ∙ ap (λ (x : Window). reading_of_bytes x b.bytes) (window_put w.decoder)
    ∙ ap (reading_of_bytes w.decoder) shown.bytes_are ∙ written_read Always w.decoder at.0.block shown.writable in
    record {
      missing =
          λ lt. same ∙ d.missing (omega (arith, lt, many, shown.required_is))
          ∙ ap (λ n. Missing n) (sym shown.required_is);
      exact = λ le. same ∙ d.exact (omega (arith, le, many, shown.required_is))
          ∙ ap (λ (fs : List Field). Fields fs (nat_lt 0 (required_count at.0))) (sym shown.handed_are)
          ∙ ap (λ (n : ℕ). Fields b.fields (nat_lt 0 n)) (sym shown.required_is);
      in_time =
          λ le. omega (arith, d.in_time (taken_within v w b.end at.0.end sh shown.ends le), many, shown.required_is);
    }

-- ---- what blocks mean

-- the base of a block that requires an entry is the one that was written; where nothing is required, none counts
base_known : (capacity maximum : ℕ) → capacity ≤ maximum
    → (made : History) (encoder_stream : List EncoderInstruction) (b : AbstractBlock)
    (ok : KeepsBlock capacity maximum made encoder_stream b)
    → (base : ℕ) × (base_behind b.block.prefix (required_count b) ≡ Ok base)
    × (fields_of (whole_window made) base b.block.lines ≡ Ok b.fields)
base_known capacity maximum within made encoder_stream b ok = pick (cases_lt 0 (required_count b))
  where
    pick : (0 < required_count b) ⊎ (required_count b ≤ 0)
        → (base : ℕ) × (base_behind b.block.prefix (required_count b) ≡ Ok base)
        × (fields_of (whole_window made) base b.block.lines ≡ Ok b.fields)
    pick (inl positive) =
        let a : Agreed maximum ok.at_end =
        leads_agreed maximum (initial_history capacity maximum) ok.front ok.at_end ok.leads
        (agreed_start capacity maximum within) in
        let room : 32 ≤ maximum = a.roomy (omega (arith, ok.within, positive)) in
        let apart : nat_eq (required_count b) 0 ≡ false = ne_eqb (required_count b) 0 (λ e. absurd (omega arith)) in
        let read : read_base b.block.prefix.sign (required_count b) b.block.prefix.delta ≡ Ok ok.base =
        subst (λ (p : Prefix). read_base p.sign (required_count b) p.delta ≡ Ok ok.base) (sym ok.written)
        (base_written maximum (required_count b) ok.base positive (omega arith) (omega (arith, ok.few))) in
        (ok.base, rw apart read, ok.means)
    pick (inr none) =
        let zero_count : required_count b ≡ 0 = omega arith in
        let is : nat_eq (required_count b) 0 ≡ true = eq-eqb (required_count b) 0 zero_count in
        let plain : references_of ok.base b.block.lines ≡ [] =
        numbers_none (references_of ok.base b.block.lines) (ok.references ∙ ok.plain zero_count) in (
          0,
          rw is refl,
          sym (fields_plain (whole_window made) (whole_window made) ok.base 0 b.block.lines plain)
              ∙ ok.means,
        )

-- bytes that are lines are one list of them
lines_same : (bytes : List ℕ) (ls ms : List EncoderInstruction) → SpellsAll SpellsEncoderInstruction bytes ls
    → SpellsAll SpellsEncoderInstruction bytes ms → ls ≡ ms
lines_same bytes ls ms j k =
    let W = wire encoder_instruction_form in
    (one_reading SpellsEncoderInstruction W ls ms bytes bytes [] [] j k (nothing_cut_off SpellsEncoderInstruction W)
    (nothing_cut_off SpellsEncoderInstruction W) refl).0

pub means_handed : (capacity maximum limit : ℕ) (v : Session) (w : AbstractSession) → Refines v w
    → Invariant capacity maximum limit w
    → (instructions : List EncoderInstruction) (all : History)
    → SpellsAll SpellsEncoderInstruction v.encoder_stream instructions
    → Leads (initial_history capacity maximum) instructions all
    → (s position : ℕ) (b : KeptBlock) → slice_get (stream_at v.streams s).blocks position ≡ Some b
    → meaning_over_all all b.bytes b.required ≡ Ok b.fields
means_handed capacity maximum limit v w sh k instructions all j l s position b there =
    let found =
    agrees_get (RefinesBlock v.encoder_stream (w.taken ++ w.in_flight)) (stream_at v.streams s).blocks
    (stream_at w.streams s).blocks position b (sh.streams_are s).blocks_are there in
    let ok : KeepsBlock capacity maximum k.made (w.taken ++ w.in_flight) found.0 =
    every_get (KeepsBlock capacity maximum k.made (w.taken ++ w.in_flight))
    (stream_at w.streams s).blocks position found.0
    found.1 (k.streams s).blocks in
    let lines : instructions ≡ w.taken ++ w.in_flight =
    lines_same v.encoder_stream instructions (w.taken ++ w.in_flight) j
    (whole_sent v.encoder_stream v.encoder_stream_taken w.taken w.in_flight sh.encoder_stream) in
    let made : Leads (initial_history capacity maximum) (w.taken ++ w.in_flight) k.made =
    leads_append (initial_history capacity maximum) w.taken w.in_flight k.received k.made k.taken_leads
    k.in_flight_leads in
    let same : all ≡ k.made =
    leads_unique (initial_history capacity maximum) (w.taken ++ w.in_flight) all k.made
    (subst (λ (x : List EncoderInstruction). Leads (initial_history capacity maximum) x all) lines l) made in
    let base = base_known capacity maximum k.within k.made (w.taken ++ w.in_flight) found.0 ok in
    ap (λ (h : History). meaning_over_all h b.bytes b.required) same
    ∙ ap (λ (x : List ℕ). meaning_over_all k.made x b.required) found.2.bytes_are
    ∙ ap (meaning_over_all k.made (written_block found.0.block)) found.2.required_is
    ∙ written_means Always k.made found.0.block (required_count found.0) base.0 found.0.fields found.2.writable base.1 base.2
    ∙ ap (λ (fs : List Field). let r : Result (List Field) Fault = Ok fs in r) (sym found.2.handed_are)

-- ---- what a delivery takes

-- a delivery that is answered takes the instructions of each block whose end it reached, of those written since too
pub delivers_whole : (capacity maximum limit : ℕ) (v : Session) (w : AbstractSession) (n received : ℕ) (v' : Session)
    → Refines v w → Invariant capacity maximum limit w → DeliversToDecoder v n (Delivered received) v'
    → (u : Session) (x : AbstractSession) → Refines u x → Extends v.encoder_stream u.encoder_stream
    → (s position : ℕ) (b : KeptBlock)
    → slice_get (stream_at u.streams s).blocks position ≡ Some b → b.end ≤ v'.encoder_stream_delivered → b.end
    ≤ v'.encoder_stream_taken
delivers_whole capacity maximum limit v w n received v' sh k c u x su more s position b there le =
    go (moved capacity maximum limit v w n (Delivered received) v' sh k c) c.takes.ends
  where
    whole_window : (m : Moved capacity maximum limit v w n c.takes.lines c.takes.front c.takes.rest c.table)
        → Truncates encoder_instruction_form c.takes.rest
        → b.end ≤ min (v.encoder_stream_delivered + n) (length v.encoder_stream) → b.end
        ≤ v.encoder_stream_taken + length c.takes.front
    whole_window m cut within =
        let found =
        agrees_get (RefinesBlock u.encoder_stream (x.taken ++ x.in_flight)) (stream_at u.streams s).blocks
        (stream_at x.streams s).blocks position b (su.streams_are s).blocks_are there in
        let e = found.2.ends in
        let carried = m.on.carried in
        let behind = m.on.more ++ more.0 in
        let same : e.front ++ e.rest ≡ carried.front ++ (c.takes.rest ++ behind) =
        sym e.cut ∙ more.1 ∙ ap (λ l. l ++ more.0) (carried.cut ∙ ap (λ l. carried.front ++ l) m.on.rest_is)
        ∙ append_assoc carried.front (c.takes.rest ++ m.on.more) more.0
        ∙ ap (λ l. carried.front ++ l) (append_assoc c.takes.rest m.on.more more.0) in
        let few =
        reads_delivered SpellsEncoderInstruction (wire encoder_instruction_form)
        (w.taken ++ c.takes.lines) e.first [] carried.front
        c.takes.rest behind e.front e.rest carried.front_joined (λ encoding l i q y. (cut encoding l q).0 i y) e.joined
        same
        (omega (arith, e.position_is, within, m.position, carried.ends)) in
        let short =
        fronts_order SpellsEncoderInstruction (wire encoder_instruction_form) e.first
        (w.taken ++ c.takes.lines) e.front carried.front
        e.rest (c.takes.rest ++ behind) e.joined carried.front_joined same few in
        omega (arith, short, e.position_is, carried.ends)

    go : Moved capacity maximum limit v w n c.takes.lines c.takes.front c.takes.rest c.table
        → EndsAtDecoder v n c.table c.takes.front c.takes.rest (Delivered received) v' → b.end ≤ v'.encoder_stream_taken
    go m (takes_all cut is goes) =
        let within : b.end ≤ min (v.encoder_stream_delivered + n) (length v.encoder_stream) =
        omega (arith, le, ap (λ (y : Session). y.encoder_stream_delivered) goes) in
        omega (arith, whole_window m cut within, ap (λ (y : Session). y.encoder_stream_taken) goes)
    go m (no_memory is goes) = absurd cc
    go m (bad_bytes f y is goes) = absurd cc
    go m (bad_instruction encoding l i e cut y bad is goes) = absurd cc
