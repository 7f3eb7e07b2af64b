-- A delivery of bytes is that many small steps.
use Rattle.std.proofs.Common.{◌-◌, ◌≤◌, ℕ, ◌+◌, ◌≡◌, List, [], ◌∷◌, ◌++◌, length, Result, Ok, Err, refl, sym, ap, ◌∙◌}
use Rattle.std.proofs.Common.{subst, arith, length-append}
use Rattle.std.specs.Prelude.{IsOk}
use Rattle.std.proofs.lemmas.List.{append_assoc, append-nil}
use Rattle.qpack_spec.specs.Bytes.{◌>>=◌}
use Rattle.qpack_spec.specs.Instruction.{EncoderInstruction, DecoderInstruction}
use Rattle.qpack_spec.specs.Window.{Window, window_insert_count, TableRefusal, apply}
use Rattle.qpack_spec.specs.History.{window_of, history_after, Leads}
use Rattle.qpack_spec.specs.Table.{Table, table_of, apply_decoder_instruction}
use Rattle.qpack_safety.specs.AbstractSession.{AbstractSession, SmallStep, Take, Hear, take_next, after_take, hear_next}
use Rattle.qpack_safety.specs.AbstractSession.{after_hear, after_steps}
use Rattle.qpack_rules.specs.Session.{apply_encoder_instructions, apply_decoder_instructions}
use Rattle.qpack_rules.proofs.PutTables.{applied_put}
use Rattle.qpack_spec.proofs.Windows.{Sound, sound_grown, allowed, grows_one}
use Rattle.qpack_safety.proofs.Invariant.{Invariant, sound_received, total_window}
use Rattle.qpack_safety.proofs.Taking.{inv_takes, taking, Taking}
use Rattle.qpack_safety.proofs.Hearing.{inv_hears}
use Rattle.qpack_safety.proofs.Safely.{hears_next}

-- as many steps as lines
abbrev pub taking_all : List EncoderInstruction → List SmallStep
taking_all [] = []
taking_all (l ∷ ls) = Take ∷ taking_all ls

-- the decoder takes each line in turn: none is refused
pub record Took (w w' : AbstractSession) (lines still : List EncoderInstruction) : Type 0 where
  pub t_taken : w'.taken ≡ w.taken ++ lines
  pub t_in_flight : w'.in_flight ≡ still
  pub t_decoder : apply_encoder_instructions (table_of w.decoder) lines ≡ Ok (table_of w'.decoder)
  pub t_unreported : w'.unreported + window_insert_count w.decoder ≡ w.unreported + window_insert_count w'.decoder
  pub t_more : window_insert_count w.decoder ≤ window_insert_count w'.decoder
  pub t_encoder : w'.encoder ≡ w.encoder
  pub t_decoder_instructions : w'.decoder_in_flight ≡ w.decoder_in_flight
  pub t_streams : w'.streams ≡ w.streams

one_applied : (w next : Window) (l : EncoderInstruction) (lines : List EncoderInstruction) → apply w l ≡ Ok next
    → apply_encoder_instructions (table_of w) (l ∷ lines) ≡ apply_encoder_instructions (table_of next) lines
one_applied w next l lines e =
    ap (λ (r : Result Table TableRefusal). r >>= λ u. apply_encoder_instructions u lines) (applied_put w l
    ∙ ap (λ (r : Result Window TableRefusal). r >>= λ x. (let q : Result Table TableRefusal = Ok (table_of x) in q)) e)

pub takes_all : (capacity maximum limit : ℕ) (w : AbstractSession) (lines still : List EncoderInstruction)
    → Invariant capacity maximum limit w → w.in_flight ≡ lines ++ still
    → Took w (after_steps (taking_all lines) w) lines still
takes_all capacity maximum limit w [] still k e =
    record {
      t_taken = sym (append-nil w.taken);
      t_in_flight = e;
      t_decoder = refl;
      t_unreported = refl;
      t_more = omega arith;
      t_encoder = refl;
      t_decoder_instructions = refl;
      t_streams = refl;
    }
takes_all capacity maximum limit w (l ∷ lines) still k e =
    let s : Sound k.received = sound_received capacity maximum limit w k in
    let t : Taking k.received k.made w.decoder l (lines ++ still) =
    taking k.received k.made w.decoder l (lines ++ still) s k.decoder
    (subst (λ (x : List EncoderInstruction). Leads k.received x k.made) e k.in_flight_leads) in
    let next : Window = window_of (history_after k.received t.effect_of) in
    let one : take_next w w.in_flight ≡ after_take w l (lines ++ still) (Ok next) =
    ap (take_next w) e ∙ ap (after_take w l (lines ++ still)) t.applies in
    let k' : Invariant capacity maximum limit (take_next w w.in_flight) =
    inv_takes capacity maximum limit w w.in_flight refl k in
    let r = takes_all capacity maximum limit (take_next w w.in_flight) lines still k'
    (ap (λ (x : AbstractSession). x.in_flight) one) in
    let s' : Sound (history_after k.received t.effect_of) =
    sound_grown k.received t.effect_of s (allowed (window_of k.received) l t.effect_of t.is_effect) in
    let g = grows_one k.received t.effect_of in
    let more : window_insert_count w.decoder ≤ window_insert_count next =
    omega (
      arith,
      ap window_insert_count k.decoder,
      total_window k.received s,
      total_window (history_after k.received t.effect_of) s',
      length-append k.received.inserted g.more,
      ap length g.inserts,
    ) in
    let unreported : (take_next w w.in_flight).unreported
    ≡ w.unreported + (window_insert_count next - window_insert_count w.decoder) =
    ap (λ (x : AbstractSession). x.unreported) one in
    let decoder : (take_next w w.in_flight).decoder ≡ next = ap (λ (x : AbstractSession). x.decoder) one in
    record {
      t_taken =
          r.t_taken ∙ ap (λ x. x ++ lines) (ap (λ (x : AbstractSession). x.taken) one)
          ∙ append_assoc w.taken (l ∷ []) lines;
      t_in_flight = r.t_in_flight;
      t_decoder =
          one_applied w.decoder next l lines t.applies
          ∙ ap (λ (x : Window). apply_encoder_instructions (table_of x) lines) (sym decoder) ∙ r.t_decoder;
      t_unreported = omega (arith, r.t_unreported, unreported, ap window_insert_count decoder, more);
      t_more = omega (arith, r.t_more, more, ap window_insert_count decoder);
      t_encoder = r.t_encoder ∙ ap (λ (x : AbstractSession). x.encoder) one;
      t_decoder_instructions = r.t_decoder_instructions ∙ ap (λ (x : AbstractSession). x.decoder_in_flight) one;
      t_streams = r.t_streams ∙ ap (λ (x : AbstractSession). x.streams) one;
    }

ok_of : (r : Result Table TableRefusal) → IsOk r → (t : Table) × (r ≡ Ok t)
ok_of (Err e) h = absurd (cc)
ok_of (Ok t) h = (t, refl)

abbrev pub hearing_all : List DecoderInstruction → List SmallStep
hearing_all [] = []
hearing_all (r ∷ rs) = Hear ∷ hearing_all rs

-- the encoder hears each line in turn: none is refused
pub record Listens (w w' : AbstractSession) (lines still : List DecoderInstruction) : Type 0 where
  pub l_decoder_instructions : w'.decoder_in_flight ≡ still
  pub l_encoder : apply_decoder_instructions w.encoder lines ≡ Ok w'.encoder
  pub l_decoder : w'.decoder ≡ w.decoder
  pub l_unreported : w'.unreported ≡ w.unreported
  pub l_taken : w'.taken ≡ w.taken
  pub l_in_flight : w'.in_flight ≡ w.in_flight
  pub l_streams : w'.streams ≡ w.streams

pub hears_all : (capacity maximum limit : ℕ) (w : AbstractSession) (lines still : List DecoderInstruction)
    → Invariant capacity maximum limit w
    → w.decoder_in_flight ≡ lines ++ still → Listens w (after_steps (hearing_all lines) w) lines still
hears_all capacity maximum limit w [] still k e =
    record {
      l_decoder_instructions = e;
      l_encoder = refl;
      l_decoder = refl;
      l_unreported = refl;
      l_taken = refl;
      l_in_flight = refl;
      l_streams = refl;
    }
hears_all capacity maximum limit w (r ∷ lines) still k e =
    let t = ok_of (apply_decoder_instruction w.encoder r)
    (hears_next capacity maximum limit w k r (lines ++ still) e) in
    let one : hear_next w w.decoder_in_flight ≡ after_hear w (lines ++ still) (Ok t.0) =
    ap (hear_next w) e ∙ ap (after_hear w (lines ++ still)) t.1 in
    let k' : Invariant capacity maximum limit (hear_next w w.decoder_in_flight) =
    inv_hears capacity maximum limit w w.decoder_in_flight refl k in
    let rest =
    hears_all capacity maximum limit (hear_next w w.decoder_in_flight) lines still k'
    (ap (λ (x : AbstractSession). x.decoder_in_flight) one) in
    record {
      l_decoder_instructions = rest.l_decoder_instructions;
      l_encoder =
          ap (λ (o : Result Table TableRefusal). o >>= λ x. apply_decoder_instructions x lines) t.1
          ∙ ap (λ (x : Table). apply_decoder_instructions x lines) (sym (ap (λ (x : AbstractSession). x.encoder) one))
          ∙ rest.l_encoder;
      l_decoder = rest.l_decoder ∙ ap (λ (x : AbstractSession). x.decoder) one;
      l_unreported = rest.l_unreported ∙ ap (λ (x : AbstractSession). x.unreported) one;
      l_taken = rest.l_taken ∙ ap (λ (x : AbstractSession). x.taken) one;
      l_in_flight = rest.l_in_flight ∙ ap (λ (x : AbstractSession). x.in_flight) one;
      l_streams = rest.l_streams ∙ ap (λ (x : AbstractSession). x.streams) one;
    }
