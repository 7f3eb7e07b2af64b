-- Where the invariant holds, the session is safe.
use Rattle.std.proofs.Common.{[], ℕ, ◌-◌, ◌*◌, ◌<◌, ◌≤◌, ◌≡◌, false, List, ◌∷◌, ◌++◌, length, drop, map, Option, Some}
use Rattle.std.proofs.Common.{Ok, refl, sym, ap, ◌∙◌, subst, inl, inr, ◌⊎◌, arith, length-append}
use Rattle.std.specs.List.{AllByRecursion, slice_get, filter}
use Rattle.std.specs.Prelude.{not, IsOk}
use Rattle.std.proofs.lemmas.Bool.{ne_eqb, cases_lt, lt-ltb, le-ltb}
use Rattle.qpack_spec.specs.Field.{total_size}
use Rattle.qpack_spec.specs.Instruction.{EncoderInstruction, DecoderInstruction, Acknowledgment, Cancellation}
use Rattle.qpack_spec.specs.Instruction.{Increment}
use Rattle.qpack_spec.specs.Window.{Window, maximum_capacity, window_insert_count}
use Rattle.qpack_spec.specs.History.{History, window_of, whole_window, initial_history, Leads}
use Rattle.qpack_spec.specs.Prefix.{Prefix, prefix_for}
use Rattle.qpack_spec.specs.Reading.{fields_of, references_of, greatest_of, Fields}
use Rattle.qpack_spec.specs.Table.{Table, fields_in, window, insert_count, apply_decoder_instruction}
use Rattle.qpack_rules.specs.Session.{stream_at}
use Rattle.qpack_safety.specs.AbstractSession.{AbstractBlock, is_dynamic, AbstractSession}
use Rattle.qpack_spec.proofs.Lists.{every_drop, every_both, every_get}
use Rattle.qpack_spec.proofs.Windows.{Sound, Agreed, sound_few, leads_grows, leads_split, leads_unique, Grows, Kept}
use Rattle.qpack_spec.proofs.Windows.{kept_received}
use Rattle.qpack_spec.proofs.Readings.{fields_kept, fields_plain, below_greatest, greatest_has}
use Rattle.qpack_spec.proofs.Prefixes.{InReach, ReadsAs, reads_written, maximum_of, reading_missing, reading_fields}
use Rattle.qpack_spec.proofs.Prefixes.{reading_plain}
use Rattle.qpack_spec.proofs.Positions.{every_number, numbers_none}
use Rattle.qpack_spec.proofs.Drafts.{IsLive, count_inserted}
use Rattle.qpack_safety.specs.AbstractSafety.{DecodesExactly, Safe}
use Rattle.qpack_safety.proofs.OpenBlocks.{open_of, every_open}
use Rattle.qpack_safety.proofs.DecoderInstructions.{acks_in}
use Rattle.qpack_safety.proofs.Fronts.{undecoded_in, every_map}
use Rattle.qpack_spec.proofs.Lists.{front_of}
use Rattle.qpack_safety.proofs.Invariant.{KeepsBlock, Invariant, sound_received, sound_made, agreed_received}
use Rattle.qpack_safety.proofs.Invariant.{agreed_made, total_window}
use Rattle.qpack_safety.proofs.Taking.{taking, Taking}
use Rattle.qpack_safety.proofs.Hearing.{ack_finds}

-- the entries of the oldest undecoded block are live at the encoder
pub undecoded_live : (capacity maximum limit : ℕ) (w : AbstractSession) (k : Invariant capacity maximum limit w) (s : ℕ)
    (b : AbstractBlock) → (stream_at w.streams s).cancelled ≡ false
    → slice_get (stream_at w.streams s).blocks (stream_at w.streams s).decoded ≡ Some b → 0 < greatest_of b.referenced
    → AllByRecursion (IsLive w.encoder) b.referenced
undecoded_live capacity maximum limit w k s b live there dynamic =
    let st = stream_at w.streams s in
    let ok = k.streams s in
    let held : AllByRecursion (λ (r : List ℕ). AllByRecursion (IsLive w.encoder) r)
    (open_of s w.encoder.unacknowledged) =
    every_open (λ (r : List ℕ). AllByRecursion (IsLive w.encoder) r) s w.encoder.unacknowledged k.encoder.held in
    let held' : AllByRecursion (λ (r : List ℕ). AllByRecursion (IsLive w.encoder) r)
    (map (λ (x : AbstractBlock). x.referenced) (drop st.acknowledged (filter is_dynamic st.blocks))) =
    subst (AllByRecursion (λ (r : List ℕ). AllByRecursion (IsLive w.encoder) r)) (ok.stays_open live)
    (every_drop (λ (r : List ℕ). AllByRecursion (IsLive w.encoder) r) (acks_in s w.decoder_in_flight)
    (open_of s w.encoder.unacknowledged) held) in
    undecoded_in (λ (x : AbstractBlock). AllByRecursion (IsLive w.encoder) x.referenced) is_dynamic st.blocks st.decoded
    st.acknowledged b
    (every_map (λ (r : List ℕ). AllByRecursion (IsLive w.encoder) r) (λ (x : AbstractBlock). x.referenced)
    (drop st.acknowledged (filter is_dynamic st.blocks)) held')
    ok.acknowledged there (ap not (ne_eqb (greatest_of b.referenced) 0 (λ e. absurd (omega arith))))

pub dropped_same : (t : Table) (h : History) → window t ≡ window_of h → t.dropped ≡ h.dropped
unfolding window window_of
dropped_same t h e = ap (λ (w : Window). w.dropped) e

pub maximum_window : (w : Window) (h : History) (most : ℕ) → w ≡ window_of h → Agreed most h → maximum_of w ≡ most
unfolding window_of
maximum_window w h most e a =
    let o : w.agreed_max ≡ Some most = ap (λ (x : Window). x.agreed_max) e ∙ a.is_agreed in
    ap (λ (x : Option ℕ). maximum_capacity x w.capacity) o

-- the sizes of the two tables
fits_window : (w : Window) (h : History) → w ≡ window_of h → Sound h → total_size w.live ≤ w.capacity
unfolding window_of
fits_window w h e s = rw e s.fits

fits_table : (t : Table) (h : History) → window t ≡ window_of h → Sound h → total_size (fields_in t.live) ≤ t.capacity
unfolding window window_of
fits_table t h e s =
    let l : fields_in t.live ≡ drop h.dropped h.inserted = ap (λ (w : Window). w.live) e in
    let c : t.capacity ≡ h.capacity = ap (λ (w : Window). w.capacity) e in
    rw (l, c) s.fits

-- the count is among the insertions received once the front of its block was taken
taken_in_time : (capacity maximum : ℕ) (h made : History) (taken in_flight : List EncoderInstruction)
    (b : AbstractBlock)
    → Leads (initial_history capacity maximum) taken h → KeepsBlock capacity maximum made (taken ++ in_flight) b
    → b.end ≤ length taken
    → greatest_of b.referenced ≤ length h.inserted
taken_in_time capacity maximum h made taken in_flight b l ok le =
    let f = front_of ok.front ok.rest taken in_flight ok.cut (omega (arith, ok.ends, le)) in
    let m = leads_split (initial_history capacity maximum) ok.front f.0 h
    (subst (λ (x : List EncoderInstruction). Leads (initial_history capacity maximum) x h) (sym f.1) l) in
    let same : m.0 ≡ ok.at_end = leads_unique (initial_history capacity maximum) ok.front m.0 ok.at_end m.1 ok.leads in
    let g : Grows m.0 h = leads_grows m.0 f.0 h m.2 in
    omega (
      arith,
      ok.within,
      ap (λ (x : History). length x.inserted) same,
      ap length g.inserts,
      length-append m.0.inserted g.more,
    )

-- the window of counts
pub in_reach : (capacity maximum limit : ℕ) (w : AbstractSession) (k : Invariant capacity maximum limit w) (r : ℕ)
    → IsLive w.encoder r
    → 0 < r → InReach (window_insert_count w.decoder) maximum r
in_reach capacity maximum limit w k r live positive =
    let s : Sound k.made = sound_made capacity maximum limit w k in
    let n : insert_count w.encoder ≡ length k.made.inserted = count_inserted w.encoder k.made k.encoder.shares s in
    let t : window_insert_count w.decoder ≡ length k.received.inserted =
    ap window_insert_count k.decoder ∙ total_window k.received (sound_received capacity maximum limit w k) in
    let d : w.encoder.dropped ≡ k.made.dropped = dropped_same w.encoder k.made k.encoder.shares in
    let a : Agreed maximum k.made = agreed_made capacity maximum limit w k in
    let g : Grows k.received k.made = leads_grows k.received w.in_flight k.made k.in_flight_leads in
    let more : length k.received.inserted ≤ length k.made.inserted =
    omega (arith, ap length g.inserts, length-append k.received.inserted g.more) in
    let few : 32 * (length k.made.inserted - k.made.dropped) ≤ maximum = omega (arith, sound_few k.made s, a.within) in
    let room : 32 ≤ maximum = a.roomy (omega (arith, live.1)) in
    record {
      room = room;
      low = omega (arith, live.0, live.1, k.known_received_count, k.encoder.behind);
      high = omega (arith, live.0, live.1);
      small = omega (arith, live.1, n, s.few);
    }

pub block_reads : (capacity maximum received agreed_max : ℕ) (made : History) (encoder_stream : List EncoderInstruction)
    (b : AbstractBlock)
    (ok : KeepsBlock capacity maximum made encoder_stream b) → agreed_max ≡ maximum
    → (0 < greatest_of b.referenced → InReach received maximum (greatest_of b.referenced))
    → ReadsAs received agreed_max (greatest_of b.referenced) ok.base b.block.prefix
block_reads capacity maximum received agreed_max made encoder_stream b ok e reach =
    subst (λ (p : Prefix). ReadsAs received agreed_max (greatest_of b.referenced) ok.base p) (sym ok.written)
    (subst (λ (a : ℕ). ReadsAs received a (greatest_of b.referenced) ok.base
    (prefix_for maximum (greatest_of b.referenced) ok.base))
    (sym e)
    (reads_written received maximum (greatest_of b.referenced) ok.base (omega (arith, ok.few)) reach))

decodes_exactly : (capacity maximum limit : ℕ) (w : AbstractSession) (k : Invariant capacity maximum limit w) (s : ℕ)
    (b : AbstractBlock) → (stream_at w.streams s).cancelled ≡ false
    → slice_get (stream_at w.streams s).blocks (stream_at w.streams s).decoded ≡ Some b → DecodesExactly w b
decodes_exactly capacity maximum limit w k s b live there = pick (cases_lt 0 (greatest_of b.referenced))
  where
    ok : KeepsBlock capacity maximum k.made (w.taken ++ w.in_flight) b
    ok = every_get (KeepsBlock capacity maximum k.made (w.taken ++ w.in_flight)) (stream_at w.streams s).blocks
        (stream_at w.streams s).decoded b there (k.streams s).blocks

    received : window_insert_count w.decoder ≡ length k.received.inserted
    received = ap window_insert_count k.decoder ∙ total_window k.received (sound_received capacity maximum limit w k)

    agreed_max : maximum_of w.decoder ≡ maximum
    agreed_max = maximum_window w.decoder k.received maximum k.decoder (agreed_received capacity maximum limit w k)

    in_time : b.end ≤ length w.taken → greatest_of b.referenced ≤ window_insert_count w.decoder
    in_time le =
        rw received (taken_in_time capacity maximum k.received k.made w.taken w.in_flight b k.taken_leads ok le)

    reads : (0 < greatest_of b.referenced → InReach (window_insert_count w.decoder) maximum (greatest_of b.referenced))
        → ReadsAs (window_insert_count w.decoder) (maximum_of w.decoder)
        (greatest_of b.referenced) ok.base b.block.prefix
    reads reach =
        block_reads capacity maximum (window_insert_count w.decoder) (maximum_of w.decoder) k.made
        (w.taken ++ w.in_flight) b ok agreed_max reach

    pick : (0 < greatest_of b.referenced) ⊎ (greatest_of b.referenced ≤ 0) → DecodesExactly w b
    pick (inl positive) =
        let held : AllByRecursion (IsLive w.encoder) b.referenced =
        undecoded_live capacity maximum limit w k s b live there positive in
        let top : IsLive w.encoder (greatest_of b.referenced) = greatest_has
        (IsLive w.encoder) b.referenced positive held in
        let p = reads (λ r. in_reach capacity maximum limit w k (greatest_of b.referenced) top r) in
        let g : Grows k.received k.made = leads_grows k.received w.in_flight k.made k.in_flight_leads in
        let d : w.encoder.dropped ≡ k.made.dropped = dropped_same w.encoder k.made k.encoder.shares in
        record {
          missing = λ lt. reading_missing w.decoder b.block (greatest_of b.referenced) ok.base p lt;
          exact = λ le.
              let kept : AllByRecursion (Kept (whole_window k.made) w.decoder) b.referenced =
              every_both (IsLive w.encoder) (λ a. a ≤ greatest_of b.referenced) (Kept (whole_window k.made) w.decoder)
              (λ a q r. subst (λ (x : Window). Kept (whole_window k.made) x a) (sym k.decoder)
              (kept_received k.received k.made a g (omega (arith, q.0, d)) (omega (arith, r, le, received))))
              b.referenced held (below_greatest b.referenced) in
              let means : fields_of w.decoder ok.base b.block.lines ≡ Ok b.fields =
              fields_kept (whole_window k.made) w.decoder ok.base b.block.lines b.fields
              (every_number (Kept (whole_window k.made) w.decoder) (references_of ok.base b.block.lines) []
              (subst (AllByRecursion (Kept (whole_window k.made) w.decoder)) (sym ok.references) kept)).1 ok.means in
              reading_fields w.decoder b.block (greatest_of b.referenced) ok.base b.fields p le positive means
              ∙ ap (Fields b.fields) (sym (lt-ltb 0 (greatest_of b.referenced) positive));
          in_time = in_time;
        }
    pick (inr none) =
        let zero_count : greatest_of b.referenced ≡ 0 = omega arith in
        let p : ReadsAs (window_insert_count w.decoder) (maximum_of w.decoder) 0 ok.base b.block.prefix =
        rw zero_count at (reads (λ r. absurd (omega arith))) in
        let means : fields_of w.decoder 0 b.block.lines ≡ Ok b.fields =
        sym (fields_plain (whole_window k.made) w.decoder ok.base 0 b.block.lines
        (numbers_none (references_of ok.base b.block.lines) (ok.references ∙ ok.plain zero_count))) ∙ ok.means in
        record {
          missing = λ lt. absurd (omega arith);
          exact = λ le. reading_plain w.decoder b.block ok.base b.fields p means
              ∙ ap (Fields b.fields) (sym (le-ltb 0 (greatest_of b.referenced) none));
          in_time = in_time;
        }

pub hears_next : (capacity maximum limit : ℕ) (w : AbstractSession) (k : Invariant capacity maximum limit w)
    (r : DecoderInstruction)
    (rest : List DecoderInstruction) → w.decoder_in_flight ≡ r ∷ rest → IsOk (apply_decoder_instruction w.encoder r)
unfolding apply_decoder_instruction
hears_next capacity maximum limit w k (Acknowledgment s) rest e =
    let f = ack_finds capacity maximum limit w s rest k e in rw f.1 refl
hears_next capacity maximum limit w k (Cancellation s) rest e = refl
hears_next capacity maximum limit w k (Increment n) rest e = refl

pub inv_safe : (capacity maximum limit : ℕ) (w : AbstractSession) → Invariant capacity maximum limit w
    → Safe capacity maximum limit w
inv_safe capacity maximum limit w k =
    record {
      takes_next = λ i rest e.
          let t : Taking k.received k.made w.decoder i rest =
          taking k.received k.made w.decoder i rest (sound_received capacity maximum limit w k) k.decoder
          (subst (λ (l : List EncoderInstruction). Leads k.received l k.made) e k.in_flight_leads) in
          rw t.applies refl;
      hears_next = hears_next capacity maximum limit w k;
      decodes = decodes_exactly capacity maximum limit w k;
      blocked = k.blocked;
      received =
          omega (
            arith,
            k.known_received_count,
            ap window_insert_count k.decoder,
            total_window k.received
                (sound_received capacity maximum limit w k),
          );
      encoder_fits = fits_table w.encoder k.made k.encoder.shares (sound_made capacity maximum limit w k);
      decoder_fits = fits_window w.decoder k.received k.decoder (sound_received capacity maximum limit w k);
      received_history = k.received;
      made_history = k.made;
      taken_lead = k.taken_leads;
      in_flight_lead = k.in_flight_leads;
      decoder_is = k.decoder;
      encoder_is = k.encoder.shares;
    }
