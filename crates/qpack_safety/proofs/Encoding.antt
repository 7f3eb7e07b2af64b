-- A block is written, or given up.
use Rattle.std.proofs.Common.{ℕ, ◌<◌, ◌≤◌, ◌≡◌, Bool, true, false, cond, List, [], ◌∷◌, ◌++◌, length, drop, map, Option}
use Rattle.std.proofs.Common.{Some, refl, sym, ap, ◌∙◌, subst, inl, inr, arith, length-append}
use Rattle.std.specs.List.{AllByRecursion, filter}
use Rattle.std.specs.Prelude.{nat_lt, nat_eq, not}
use Rattle.std.proofs.lemmas.Bool.{cond_both, eq-eqb, ne_eqb, ltb-true}
use Rattle.std.proofs.lemmas.List.{append-nil, append_assoc, drop-append-le, map-append}
use Rattle.std.proofs.lemmas.List.Elements.{filter-append}
use Rattle.qpack_spec.specs.Field.{Field, FieldLine, fields_of_lines}
use Rattle.qpack_spec.specs.Instruction.{EncoderInstruction, DecoderInstruction}
use Rattle.qpack_spec.specs.Window.{Window, maximum_capacity}
use Rattle.qpack_spec.specs.History.{History, window_of, whole_window, initial_history, Leads}
use Rattle.qpack_spec.specs.Prefix.{prefix_for}
use Rattle.qpack_spec.specs.Reading.{greatest_of}
use Rattle.qpack_spec.specs.Table.{UnacknowledgedBlock, Table, window, insert_count, with_unacknowledged, commit}
use Rattle.qpack_spec.specs.Table.{with_numbers, without_references}
use Rattle.qpack_spec.specs.Chosen.{Chosen, chosen_rule}
use Rattle.qpack_spec.specs.Marked.{stateless_block_marked}
use Rattle.qpack_spec.specs.Rule.{Draft, rule, block_of}
use Rattle.qpack_rules.specs.Session.{stream_at, with_stream}
use Rattle.qpack_safety.specs.AbstractSession.{AbstractBlock, is_dynamic, AbstractStream, AbstractSession, after_encode}
use Rattle.qpack_safety.specs.AbstractSession.{after_alone, after_abandon}
use Rattle.qpack_spec.proofs.Lists.{every_append, every_weaker}
use Rattle.qpack_spec.proofs.Windows.{Sound, Agreed, leads_append, leads_sound, leads_grows, Grows}
use Rattle.qpack_spec.proofs.Readings.{greatest_bound, greatest_has}
use Rattle.qpack_spec.proofs.Drafts.{IsLive, MayStand, KeepsTable, Drafting, count_inserted, keeps_unnamed, rule_drafts}
use Rattle.qpack_rules.proofs.AloneSections.{lines_alone, none_referenced, prefix_alone}
use Rattle.qpack_rules.proofs.ChosenDrafts.{chosen_drafts}
use Rattle.qpack_safety.proofs.OpenBlocks.{open_of, open_push}
use Rattle.qpack_safety.proofs.DecoderInstructions.{acks_in, fits_more, fits_count}
use Rattle.qpack_safety.proofs.Fronts.{filter_take, filter_take_append}
use Rattle.qpack_safety.proofs.Invariant.{KeepsBlock, KeepsStream, stream_grows, stream_opened, Invariant, sound_made}
use Rattle.qpack_safety.proofs.Invariant.{agreed_made, streams_update}

opens_other : (s q : ℕ) (referenced : List ℕ) (bs : List UnacknowledgedBlock) → (s ≡ q → ⊥)
    → open_of q (with_unacknowledged bs s referenced) ≡ open_of q bs
opens_other s q [] bs d = refl
opens_other s q (a ∷ as') bs d = open_push s q (a ∷ as') bs ∙ (rw (ne_eqb s q d) (append-nil (open_of q bs)))

opens_own : (s : ℕ) (referenced : List ℕ) (bs : List UnacknowledgedBlock)
    → (greatest_of referenced ≡ 0 → referenced ≡ [])
    → open_of s (with_unacknowledged bs s referenced) ≡ open_of s bs
    ++ cond (not (nat_eq (greatest_of referenced) 0)) (referenced ∷ []) []
unfolding greatest_of
opens_own s [] bs plain = sym (append-nil (open_of s bs))
opens_own s (a ∷ as') bs plain =
    let apart : greatest_of (a ∷ as') ≡ 0 → ⊥ = λ e. (let x : a ∷ as' ≡ [] = plain e in cc) in
    open_push s s (a ∷ as') bs ∙ (rw (eq-eqb s s refl, ne_eqb (greatest_of (a ∷ as')) 0 apart) refl)

opens_every : (P : UnacknowledgedBlock → Type 0) (s : ℕ) (referenced : List ℕ) (bs : List UnacknowledgedBlock)
    → AllByRecursion P bs
    → P (record { stream = s; entries = referenced }) → AllByRecursion P (with_unacknowledged bs s referenced)
opens_every P s [] bs h k = h
opens_every P s (a ∷ as') bs h k = every_append P bs (record { stream = s; entries = a ∷ as' } ∷ []) h (k, tt)

map_cond : (b : Bool) (x : AbstractBlock)
    → map (λ (y : AbstractBlock). y.referenced) (cond b (x ∷ []) []) ≡ cond b (x.referenced ∷ []) []
map_cond true x = refl
map_cond false x = refl

-- a live number is no 0
plain_live : (t : Table) (referenced : List ℕ) → AllByRecursion (IsLive t) referenced → greatest_of referenced ≡ 0
    → referenced ≡ []
unfolding greatest_of
plain_live t [] h e = refl
plain_live t (a ∷ as') h e = absurd (omega (arith, h.0.0))

-- the parts of a committed table
pub record SameCommitted (t t' : Table) (s required : ℕ) : Type 0 where
  pub c_known : t'.known_received_count ≡ t.known_received_count
  pub c_limit : t'.limit ≡ t.limit
  pub c_opened : t'.unacknowledged ≡ with_unacknowledged t.unacknowledged s t.referenced
  pub c_window : window t' ≡ window t
  pub c_dropped : t'.dropped ≡ t.dropped
  pub c_live : t'.live ≡ t.live
  pub c_waiting : t'.blocked ≡ cond (nat_lt t.known_received_count required) (t.blocked ++ required ∷ []) t.blocked

pub same_committed : (t : Table) (s required : ℕ) → SameCommitted t (commit t s required) s required
unfolding commit window
same_committed t s required =
    record {
      c_known = refl;
      c_limit = refl;
      c_opened = refl;
      c_window = refl;
      c_dropped = refl;
      c_live = refl;
      c_waiting = refl;
    }

pub kept_committed : (h : History) (t : Table) (s required : ℕ) → KeepsTable h t
    → AllByRecursion (IsLive t) t.referenced
    → KeepsTable h (commit t s required)
unfolding commit window
kept_committed h t s required k n =
    record {
      shares = k.shares;
      marked = k.marked;
      behind = k.behind;
      held = opens_every (λ (b : UnacknowledgedBlock). AllByRecursion
          (IsLive t) b.entries) s t.referenced t.unacknowledged k.held n;
    }

pub blocked_committed : (t0 t : Table) (s : ℕ) → t.known_received_count ≡ t0.known_received_count
    → t.blocked ≡ t0.blocked
    → AllByRecursion (MayStand t0) t.referenced → length t0.blocked ≤ t0.limit
    → length (commit t s (greatest_of t.referenced)).blocked ≤ t0.limit
blocked_committed t0 t s k e may b =
    rw (same_committed t s (greatest_of t.referenced)).c_waiting
    (cond_both (nat_lt t.known_received_count (greatest_of t.referenced))
    (t.blocked ++ greatest_of t.referenced ∷ []) t.blocked (λ ws. length ws
    ≤ t0.limit)
    (λ up. let lt : t.known_received_count < greatest_of t.referenced = ltb-true _ _ up in
    pick (greatest_has (MayStand t0) t.referenced (omega arith) may) lt)
    (λ _. rw e b))
  where
    pick : MayStand t0 (greatest_of t.referenced) → t.known_received_count < greatest_of t.referenced
        → length (t.blocked ++ greatest_of t.referenced ∷ []) ≤ t0.limit
    pick (inl lt) up = rw e (omega (arith, length-append t0.blocked (greatest_of t.referenced ∷ []), lt))
    pick (inr le) up = absurd (omega (arith, le, k))

table_maximum : (t : Table) (h : History) (most : ℕ) → window t ≡ window_of h → Agreed most h
    → maximum_capacity t.agreed_max t.capacity ≡ most
unfolding window window_of
table_maximum t h most e a =
    let o : t.agreed_max ≡ Some most = ap (λ (w : Window). w.agreed_max) e ∙ a.is_agreed in
    ap (λ (x : Option ℕ). maximum_capacity x t.capacity) o

-- the stream that has a block more
stream_encoded : (capacity maximum : ℕ) (h : History) (encoder_stream : List EncoderInstruction)
    (unacknowledged : List UnacknowledgedBlock)
    (decoder_in_flight : List DecoderInstruction) (s : ℕ) (st : AbstractStream) (b : AbstractBlock)
    → KeepsStream capacity maximum h encoder_stream unacknowledged decoder_in_flight s st
    → KeepsBlock capacity maximum h encoder_stream b
    → KeepsStream capacity maximum h encoder_stream
    (with_unacknowledged unacknowledged s b.referenced) decoder_in_flight s
    (record st { blocks = st.blocks ++ b ∷ [] })
stream_encoded capacity maximum h encoder_stream unacknowledged decoder_in_flight s st b k ok =
    let own : open_of s (with_unacknowledged unacknowledged s b.referenced) ≡ open_of s unacknowledged
    ++ cond (is_dynamic b) (b.referenced ∷ []) [] =
    opens_own s b.referenced unacknowledged ok.plain in
    let more : filter is_dynamic (st.blocks ++ b ∷ [])
    ≡ filter is_dynamic st.blocks ++ cond (is_dynamic b) (b ∷ []) [] =
    filter-append is_dynamic st.blocks (b ∷ []) in
    record {
      acknowledged = omega (arith, k.acknowledged, filter_take_append is_dynamic st.decoded st.blocks (b ∷ []));
      fits = fits_more s decoder_in_flight (length (open_of s unacknowledged))
          (length (open_of s (with_unacknowledged unacknowledged s b.referenced)))
          (rw own (omega (
            arith,
            length-append (open_of s unacknowledged)
                (cond (is_dynamic b) (b.referenced ∷ []) []),
          ))) k.fits;
      stays_open = λ c.
          let few : acks_in s decoder_in_flight ≤ length (open_of s unacknowledged) =
          fits_count s decoder_in_flight (length (open_of s unacknowledged)) k.fits (k.quiet c) in
          let few' : st.acknowledged ≤ length (filter is_dynamic st.blocks) =
          omega (arith, k.acknowledged, filter_take is_dynamic st.decoded st.blocks) in
          ap (drop (acks_in s decoder_in_flight)) own
          ∙ drop-append-le (acks_in s decoder_in_flight) (open_of s unacknowledged)
          (cond (is_dynamic b) (b.referenced ∷ []) [])
          few
          ∙ ap (λ x. x ++ cond (is_dynamic b) (b.referenced ∷ []) []) (k.stays_open c)
          ∙ ap (λ x. map (λ (y : AbstractBlock). y.referenced) (drop st.acknowledged (filter is_dynamic st.blocks))
          ++ x)
          (sym (map_cond (is_dynamic b) b))
          ∙ sym (map-append (λ (y : AbstractBlock). y.referenced) (drop st.acknowledged (filter is_dynamic st.blocks))
          (cond (is_dynamic b) (b ∷ []) []))
          ∙ ap (map (λ (y : AbstractBlock). y.referenced))
          (sym (drop-append-le st.acknowledged (filter is_dynamic st.blocks) (cond (is_dynamic b) (b ∷ []) []) few')
          ∙ ap (drop st.acknowledged) (sym more));
      quiet = k.quiet;
      blocks = every_append (KeepsBlock capacity maximum h encoder_stream) st.blocks (b ∷ []) k.blocks (ok, tt);
    }

-- the block that was written
block_kept : (capacity maximum limit : ℕ) (w : AbstractSession) (fs : List Field) (d : Draft)
    (k : Invariant capacity maximum limit w) (p : Drafting w.encoder k.made fs d)
    → (let encoder_stream = w.taken ++ (w.in_flight ++ d.instructions) in
    KeepsBlock capacity maximum p.history encoder_stream (record {
      block = block_of w.encoder d;
      referenced = d.table.referenced;
      end = length encoder_stream;
      fields = fs;
    }))
block_kept capacity maximum limit w fs d k p =
    let encoder_stream = w.taken ++ (w.in_flight ++ d.instructions) in
    let sound : Sound k.made = sound_made capacity maximum limit w k in
    let sound' : Sound p.history = leads_sound k.made d.instructions p.history p.leads sound in
    let in_flight : Leads k.received (w.in_flight ++ d.instructions) p.history =
    leads_append k.received w.in_flight d.instructions k.made p.history k.in_flight_leads p.leads in
    let most : maximum_capacity w.encoder.agreed_max w.encoder.capacity ≡ maximum =
    table_maximum w.encoder k.made maximum k.encoder.shares (agreed_made capacity maximum limit w k) in
    record {
      base = insert_count w.encoder;
      few = omega (arith, count_inserted w.encoder k.made k.encoder.shares sound, sound.few);
      written = ap (λ (a : ℕ). prefix_for a (greatest_of d.table.referenced) (insert_count w.encoder)) most;
      means = p.means;
      references = p.references.refs;
      plain = plain_live d.table d.table.referenced p.referenced;
      front = encoder_stream;
      rest = [];
      cut = append-nil encoder_stream;
      ends = refl;
      at_end = p.history;
      leads = leads_append (initial_history capacity maximum) w.taken
          (w.in_flight ++ d.instructions) k.received p.history k.taken_leads
          in_flight;
      within = greatest_bound (length p.history.inserted) d.table.referenced
          (every_weaker (IsLive d.table) (λ a. a ≤ length p.history.inserted)
          (λ a q. omega (arith, q.1, count_inserted d.table p.history p.table.shares sound')) d.table.referenced
          p.referenced);
    }

-- the session that has a block more, whatever wrote it
pub inv_drafted : (capacity maximum limit : ℕ) (w : AbstractSession) (s : ℕ) (fs : List Field) (d : Draft)
    (k : Invariant capacity maximum limit w) → Drafting w.encoder k.made fs d
    → Invariant capacity maximum limit (after_encode w s fs d)
inv_drafted capacity maximum limit w s fs d k p =
    let g : Grows k.made p.history = leads_grows k.made d.instructions p.history p.leads in
    let encoder_stream = w.taken ++ (w.in_flight ++ d.instructions) in
    let regroup : (w.taken ++ w.in_flight) ++ d.instructions
    ≡ encoder_stream = append_assoc w.taken w.in_flight d.instructions in
    let required = greatest_of d.table.referenced in
    let c = same_committed d.table s required in
    let b : AbstractBlock =
    record {
      block = block_of w.encoder d;
      referenced = d.table.referenced;
      end = length encoder_stream;
      fields = fs;
    } in
    let ok : KeepsBlock capacity maximum p.history encoder_stream b = block_kept capacity maximum limit w fs d k p in
    let opened' : (commit d.table s required).unacknowledged
    ≡ with_unacknowledged w.encoder.unacknowledged s d.table.referenced =
    c.c_opened ∙ ap (λ bs. with_unacknowledged bs s d.table.referenced) p.references.unacknowledged in
    let grown_stream =
    λ (q : ℕ). subst (λ (x : List EncoderInstruction). KeepsStream capacity maximum p.history x w.encoder.unacknowledged
    w.decoder_in_flight q (stream_at w.streams q)) regroup
    (stream_grows capacity maximum k.made p.history (w.taken ++ w.in_flight) d.instructions w.encoder.unacknowledged
    w.decoder_in_flight q (stream_at w.streams q) g (k.streams q)) in
    record {
      within = k.within;
      received = k.received;
      made = p.history;
      taken_leads = k.taken_leads;
      in_flight_leads = leads_append k.received w.in_flight d.instructions k.made p.history k.in_flight_leads p.leads;
      decoder = k.decoder;
      encoder = kept_committed p.history d.table s required p.table p.referenced;
      same_limit = c.c_limit ∙ p.references.limit ∙ k.same_limit;
      known_received_count = omega (arith, k.known_received_count, c.c_known, p.references.known_received_count);
      blocked =
          rw (← k.same_limit) (blocked_committed w.encoder d.table s p.references.known_received_count
          p.references.blocked p.may
          (rw k.same_limit k.blocked));
      streams =
          streams_update (λ (q : ℕ) (v : AbstractStream). KeepsStream capacity maximum p.history encoder_stream
          (commit d.table s required).unacknowledged w.decoder_in_flight q v) w.streams s
          (record (stream_at w.streams s) { blocks = (stream_at w.streams s).blocks ++ b ∷ [] })
          (rw opened' (stream_encoded capacity maximum p.history encoder_stream w.encoder.unacknowledged
          w.decoder_in_flight s
          (stream_at w.streams s) b (grown_stream s) ok))
          (λ q apart. rw opened' (stream_opened capacity maximum p.history encoder_stream w.encoder.unacknowledged
          (with_unacknowledged w.encoder.unacknowledged s d.table.referenced) w.decoder_in_flight q
          (stream_at w.streams q)
          (opens_other s q d.table.referenced w.encoder.unacknowledged apart) (grown_stream q)));
    }

pub inv_encoded : (capacity maximum limit : ℕ) (w : AbstractSession) (s : ℕ) (fs : List Field)
    → Invariant capacity maximum limit w
    → Invariant capacity maximum limit (after_encode w s fs (rule w.encoder fs))
inv_encoded capacity maximum limit w s fs k =
    inv_drafted capacity maximum limit w s fs (rule w.encoder fs) k
    (rule_drafts w.encoder k.made fs (sound_made capacity maximum limit w k) k.encoder)

pub inv_chosen : (capacity maximum limit : ℕ) (w : AbstractSession) (s : ℕ) (ls : List FieldLine) (cs : List Chosen)
    → Invariant capacity maximum limit w
    → Invariant capacity maximum limit (after_encode w s (fields_of_lines ls) (chosen_rule w.encoder ls cs))
inv_chosen capacity maximum limit w s ls cs k =
    inv_drafted capacity maximum limit w s (fields_of_lines ls) (chosen_rule w.encoder ls cs) k
    (chosen_drafts w.encoder k.made ls cs (sound_made capacity maximum limit w k) k.encoder)

-- what is given up leaves the rest of the table
pub record SameUnnamed (t t' : Table) : Type 0 where
  pub u_known : t'.known_received_count ≡ t.known_received_count
  pub u_limit : t'.limit ≡ t.limit
  pub u_opened : t'.unacknowledged ≡ t.unacknowledged
  pub u_waiting : t'.blocked ≡ t.blocked

pub same_unnamed : (t : Table) → SameUnnamed t (without_references t)
unfolding without_references
same_unnamed t = record { u_known = refl; u_limit = refl; u_opened = refl; u_waiting = refl }

inv_given_up : (capacity maximum limit : ℕ) (w : AbstractSession) (fs : List Field) (d : Draft)
    (k : Invariant capacity maximum limit w) → Drafting w.encoder k.made fs d
    → Invariant capacity maximum limit (after_abandon w d)
inv_given_up capacity maximum limit w fs d k p =
    let g : Grows k.made p.history = leads_grows k.made d.instructions p.history p.leads in
    let u = same_unnamed d.table in
    record {
      within = k.within;
      received = k.received;
      made = p.history;
      taken_leads = k.taken_leads;
      in_flight_leads = leads_append k.received w.in_flight d.instructions k.made p.history k.in_flight_leads p.leads;
      decoder = k.decoder;
      encoder = keeps_unnamed p.history d.table p.table;
      same_limit = u.u_limit ∙ p.references.limit ∙ k.same_limit;
      known_received_count = omega (arith, k.known_received_count, p.references.known_received_count, u.u_known);
      blocked = rw (u.u_waiting, p.references.blocked) k.blocked;
      streams =
          λ q. rw (u.u_opened, p.references.unacknowledged, ← append_assoc)
          (stream_grows capacity maximum k.made p.history
          (w.taken ++ w.in_flight) d.instructions w.encoder.unacknowledged
          w.decoder_in_flight q (stream_at w.streams q) g (k.streams q));
    }

pub inv_abandoned : (capacity maximum limit : ℕ) (w : AbstractSession) (fs : List Field)
    → Invariant capacity maximum limit w
    → Invariant capacity maximum limit (after_abandon w (rule w.encoder fs))
inv_abandoned capacity maximum limit w fs k =
    inv_given_up capacity maximum limit w fs (rule w.encoder fs) k
    (rule_drafts w.encoder k.made fs (sound_made capacity maximum limit w k) k.encoder)

pub inv_abandoned_chosen : (capacity maximum limit : ℕ) (w : AbstractSession) (ls : List FieldLine) (cs : List Chosen)
    → Invariant capacity maximum limit w
    → Invariant capacity maximum limit (after_abandon w (chosen_rule w.encoder ls cs))
inv_abandoned_chosen capacity maximum limit w ls cs k =
    inv_given_up capacity maximum limit w (fields_of_lines ls) (chosen_rule w.encoder ls cs) k
    (chosen_drafts w.encoder k.made ls cs (sound_made capacity maximum limit w k) k.encoder)

-- ---- a block that references no entry

alone_kept : (capacity maximum limit : ℕ) (w : AbstractSession) (ls : List FieldLine)
    (k : Invariant capacity maximum limit w)
    → KeepsBlock capacity maximum k.made (w.taken ++ w.in_flight) (record {
      block = stateless_block_marked ls;
      referenced = [];
      end = length (w.taken ++ w.in_flight);
      fields = fields_of_lines ls;
    })
unfolding greatest_of
alone_kept capacity maximum limit w ls k =
    record {
      base = 0;
      few = omega arith;
      written = prefix_alone maximum 0;
      means = lines_alone (whole_window k.made) 0 ls;
      references = ap (with_numbers []) (none_referenced 0 (whole_window k.made) ls);
      plain = λ _. refl;
      front = w.taken ++ w.in_flight;
      rest = [];
      cut = append-nil (w.taken ++ w.in_flight);
      ends = refl;
      at_end = k.made;
      leads = leads_append (initial_history capacity maximum) w.taken w.in_flight k.received k.made k.taken_leads
          k.in_flight_leads;
      within = omega arith;
    }

pub inv_alone : (capacity maximum limit : ℕ) (w : AbstractSession) (s : ℕ) (ls : List FieldLine)
    → Invariant capacity maximum limit w → Invariant capacity maximum limit (after_alone w s ls)
inv_alone capacity maximum limit w s ls k =
    let st = stream_at w.streams s in
    let b : AbstractBlock =
    record {
      block = stateless_block_marked ls;
      referenced = [];
      end = length (w.taken ++ w.in_flight);
      fields = fields_of_lines ls;
    } in
    record {
      within = k.within;
      received = k.received;
      made = k.made;
      taken_leads = k.taken_leads;
      in_flight_leads = k.in_flight_leads;
      decoder = k.decoder;
      encoder = k.encoder;
      same_limit = k.same_limit;
      known_received_count = k.known_received_count;
      blocked = k.blocked;
      streams =
          streams_update (λ (q : ℕ) (v : AbstractStream). KeepsStream capacity maximum k.made (w.taken ++ w.in_flight)
          w.encoder.unacknowledged w.decoder_in_flight q v) w.streams s (record st { blocks = st.blocks ++ b ∷ [] })
          (stream_encoded capacity maximum k.made (w.taken ++ w.in_flight) w.encoder.unacknowledged w.decoder_in_flight
          s st b (k.streams s) (alone_kept capacity maximum limit w ls k)) (λ q apart. k.streams q);
    }

-- ---- a stream that is given up without a word

pub inv_forgotten : (capacity maximum limit : ℕ) (w : AbstractSession) (s : ℕ) → Invariant capacity maximum limit w
    → Invariant capacity maximum limit (record w {
      streams = with_stream w.streams s (record (stream_at w.streams s) { cancelled = true });
    })
inv_forgotten capacity maximum limit w s k =
    let st = stream_at w.streams s in
    let old = k.streams s in
    record {
      within = k.within;
      received = k.received;
      made = k.made;
      taken_leads = k.taken_leads;
      in_flight_leads = k.in_flight_leads;
      decoder = k.decoder;
      encoder = k.encoder;
      same_limit = k.same_limit;
      known_received_count = k.known_received_count;
      blocked = k.blocked;
      streams =
          streams_update (λ (q : ℕ) (v : AbstractStream). KeepsStream capacity maximum k.made (w.taken ++ w.in_flight)
          w.encoder.unacknowledged w.decoder_in_flight q v) w.streams s (record st { cancelled = true })
          (record {
            acknowledged = old.acknowledged;
            fits = old.fits;
            stays_open = λ e. absurd cc;
            quiet = λ e. absurd cc;
            blocks = old.blocks;
          }) (λ q apart. k.streams q);
    }
