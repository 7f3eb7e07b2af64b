-- The invariant of a session.
use Rattle.std.proofs.Common.{ℕ, ◌+◌, ◌^◌, ◌≤◌, ◌≡◌, false, List, [], ◌++◌, length, drop, take, map, Ok, refl, sym}
use Rattle.std.proofs.Common.{ap, ◌∙◌, subst, arith, length-drop}
use Rattle.std.specs.List.{AllByRecursion, filter}
use Rattle.std.specs.Prelude.{nat_eq}
use Rattle.std.proofs.lemmas.Bool.{cond_both, eqb-true, eqb-false}
use Rattle.std.proofs.lemmas.List.{append_assoc}
use Rattle.qpack_spec.specs.Instruction.{EncoderInstruction, DecoderInstruction}
use Rattle.qpack_spec.specs.Window.{window_insert_count}
use Rattle.qpack_spec.specs.History.{History, window_of, whole_window, initial_history, Leads}
use Rattle.qpack_spec.specs.Prefix.{prefix_for}
use Rattle.qpack_spec.specs.Reading.{fields_of, references_of, greatest_of}
use Rattle.qpack_spec.specs.Table.{UnacknowledgedBlock, window, with_numbers}
use Rattle.qpack_rules.specs.Session.{with_stream, increment_sum, stream_at}
use Rattle.qpack_safety.specs.AbstractSession.{AbstractBlock, is_dynamic, AbstractStream, AbstractSession}
use Rattle.qpack_safety.specs.AbstractSession.{abstract_start}
use Rattle.qpack_spec.proofs.Lists.{every_all, every_weaker}
use Rattle.qpack_spec.proofs.Windows.{Sound, Agreed, sound_start, agreed_start, leads_sound, leads_agreed, Grows, Kept}
use Rattle.qpack_spec.proofs.Windows.{kept_growing}
use Rattle.qpack_spec.proofs.Readings.{fields_kept}
use Rattle.qpack_spec.proofs.Drafts.{KeepsTable}
use Rattle.qpack_safety.proofs.OpenBlocks.{open_of}
use Rattle.qpack_safety.proofs.DecoderInstructions.{acks_in, cancels_in, AcksFit}

-- a block: its prefix and lines are written, it means what was handed, and its count is among the insertions by its end
pub record KeepsBlock (capacity maximum : ℕ) (h : History) (encoder_stream : List EncoderInstruction)
    (b : AbstractBlock) : Type 0 where
  pub base : ℕ
  pub few : base ≤ 2 ^ 62
  pub written : b.block.prefix ≡ prefix_for maximum (greatest_of b.referenced) base
  pub means : fields_of (whole_window h) base b.block.lines ≡ Ok b.fields
  pub references : with_numbers [] (references_of base b.block.lines) ≡ b.referenced
  pub plain : greatest_of b.referenced ≡ 0 → b.referenced ≡ []
  pub front : List EncoderInstruction
  pub rest : List EncoderInstruction
  pub cut : front ++ rest ≡ encoder_stream
  pub ends : length front ≡ b.end
  pub at_end : History
  pub leads : Leads (initial_history capacity maximum) front at_end
  pub within : greatest_of b.referenced ≤ length at_end.inserted

block_grows : (capacity maximum : ℕ) (h h' : History) (encoder_stream more : List EncoderInstruction)
    (b : AbstractBlock)
    → Grows h h'
    → KeepsBlock capacity maximum h encoder_stream b → KeepsBlock capacity maximum h' (encoder_stream ++ more) b
block_grows capacity maximum h h' encoder_stream more b g k =
    record {
      base = k.base;
      few = k.few;
      written = k.written;
      means = fields_kept (whole_window h) (whole_window h') k.base b.block.lines b.fields
          (every_all (Kept (whole_window h) (whole_window h')) (λ a. kept_growing h h' a g)
          (references_of k.base b.block.lines))
          k.means;
      references = k.references;
      plain = k.plain;
      front = k.front;
      rest = k.rest ++ more;
      cut = sym (append_assoc k.front k.rest more) ∙ ap (λ x. x ++ more) k.cut;
      ends = k.ends;
      at_end = k.at_end;
      leads = k.leads;
      within = k.within;
    }

-- a stream: acknowledgements never outrun decodes, and what wasn't acknowledged is open
pub record KeepsStream (capacity maximum : ℕ) (h : History) (encoder_stream : List EncoderInstruction)
    (unacknowledged : List UnacknowledgedBlock)
    (decoder_in_flight : List DecoderInstruction) (s : ℕ) (st : AbstractStream) : Type 0 where
  pub acknowledged : st.acknowledged ≤ length (filter is_dynamic (take st.decoded st.blocks))
  pub fits : AcksFit s decoder_in_flight (length (open_of s unacknowledged))
  pub stays_open : st.cancelled ≡ false → drop (acks_in s decoder_in_flight) (open_of s unacknowledged)
      ≡ map (λ (b : AbstractBlock). b.referenced) (drop st.acknowledged (filter is_dynamic st.blocks))
  pub quiet : st.cancelled ≡ false → cancels_in s decoder_in_flight ≡ 0
  pub blocks : AllByRecursion (KeepsBlock capacity maximum h encoder_stream) st.blocks

pub stream_grows : (capacity maximum : ℕ) (h h' : History) (encoder_stream more : List EncoderInstruction)
    (unacknowledged : List UnacknowledgedBlock)
    (decoder_in_flight : List DecoderInstruction) (s : ℕ) (st : AbstractStream)
    → Grows h h' → KeepsStream capacity maximum h encoder_stream unacknowledged decoder_in_flight s st
    → KeepsStream capacity maximum h' (encoder_stream ++ more) unacknowledged decoder_in_flight s st
stream_grows capacity maximum h h' encoder_stream more unacknowledged decoder_in_flight s st g k =
    record {
      acknowledged = k.acknowledged;
      fits = k.fits;
      stays_open = k.stays_open;
      quiet = k.quiet;
      blocks =
          every_weaker (KeepsBlock capacity maximum h encoder_stream)
          (KeepsBlock capacity maximum h' (encoder_stream ++ more))
          (λ b. block_grows capacity maximum h h' encoder_stream more b g) st.blocks k.blocks;
    }

-- the same where the unacknowledged blocks of the stream are the same
pub stream_opened : (capacity maximum : ℕ) (h : History) (encoder_stream : List EncoderInstruction)
    (unacknowledged opened' : List UnacknowledgedBlock)
    (decoder_in_flight : List DecoderInstruction) (s : ℕ) (st : AbstractStream)
    → open_of s opened' ≡ open_of s unacknowledged
    → KeepsStream capacity maximum h encoder_stream unacknowledged decoder_in_flight s st
    → KeepsStream capacity maximum h encoder_stream opened' decoder_in_flight s st
stream_opened capacity maximum h encoder_stream unacknowledged opened' decoder_in_flight s st e k =
    record {
      acknowledged = k.acknowledged;
      fits = rw e k.fits;
      stays_open = λ c. rw e (k.stays_open c);
      quiet = k.quiet;
      blocks = k.blocks;
    }

pub record Invariant (capacity maximum limit : ℕ) (w : AbstractSession) : Type 0 where
  pub within : capacity ≤ maximum
  pub received : History
  pub made : History
  pub taken_leads : Leads (initial_history capacity maximum) w.taken received
  pub in_flight_leads : Leads received w.in_flight made
  pub decoder : w.decoder ≡ window_of received
  pub encoder : KeepsTable made w.encoder
  pub same_limit : w.encoder.limit ≡ limit
  pub known_received_count : w.encoder.known_received_count + increment_sum w.decoder_in_flight + w.unreported
      ≡ length received.inserted
  pub blocked : length w.encoder.blocked ≤ limit
  pub streams : (s : ℕ)
      → KeepsStream capacity maximum made (w.taken ++ w.in_flight) w.encoder.unacknowledged w.decoder_in_flight s
      (stream_at w.streams s)

pub sound_received : (capacity maximum limit : ℕ) (w : AbstractSession) (k : Invariant capacity maximum limit w)
    → Sound k.received
sound_received capacity maximum limit w k =
    leads_sound (initial_history capacity maximum) w.taken k.received k.taken_leads
    (sound_start capacity maximum)

pub sound_made : (capacity maximum limit : ℕ) (w : AbstractSession) (k : Invariant capacity maximum limit w)
    → Sound k.made
sound_made capacity maximum limit w k =
    leads_sound k.received w.in_flight k.made k.in_flight_leads (sound_received capacity maximum limit w k)

pub agreed_received : (capacity maximum limit : ℕ) (w : AbstractSession) (k : Invariant capacity maximum limit w)
    → Agreed maximum k.received
agreed_received capacity maximum limit w k =
    leads_agreed maximum (initial_history capacity maximum) w.taken k.received k.taken_leads
    (agreed_start capacity maximum k.within)

pub agreed_made : (capacity maximum limit : ℕ) (w : AbstractSession) (k : Invariant capacity maximum limit w)
    → Agreed maximum k.made
agreed_made capacity maximum limit w k =
    leads_agreed maximum k.received w.in_flight k.made k.in_flight_leads (agreed_received capacity maximum limit w k)

pub total_window : (h : History) → Sound h → window_insert_count (window_of h) ≡ length h.inserted
unfolding window_of
total_window h s = omega (arith, length-drop h.dropped h.inserted, s.in_range)

pub inv_started : (capacity maximum limit : ℕ) → capacity ≤ maximum
    → Invariant capacity maximum limit (abstract_start capacity maximum limit)
unfolding window window_of AcksFit acks_in cancels_in open_of increment_sum
inv_started capacity maximum limit within =
    record {
      within = within;
      received = initial_history capacity maximum;
      made = initial_history capacity maximum;
      taken_leads = refl;
      in_flight_leads = refl;
      decoder = refl;
      encoder = record { shares = refl; marked = tt; behind = omega arith; held = tt };
      same_limit = refl;
      known_received_count = refl;
      blocked = omega arith;
      streams =
          λ s. record { acknowledged = omega arith; fits = tt; stays_open = λ _. refl; quiet = λ _. refl; blocks = tt };
    }

-- a change of one stream
pub streams_update : (P : ℕ → AbstractStream → Type 0) (ps : List (ℕ × AbstractStream)) (s : ℕ) (v : AbstractStream)
    → P s v → ((q : ℕ) → (s ≡ q → ⊥) → P q (stream_at ps q)) → (q : ℕ) → P q (stream_at (with_stream ps s v) q)
streams_update P ps s v h k q =
    cond_both (nat_eq s q) v (stream_at ps q) (P q) (λ t. subst (λ (x : ℕ). P x v) (eqb-true s q t) h)
    (λ f. k q (eqb-false s q f))
