-- The decoder of a session has taken all that it had taken before, and received no fewer insertions.
use Rattle.std.proofs.Common.{◌≡◌, ◌≤◌, ◌+◌, ℕ, Bool, true, false, cond, List, [], ◌∷◌, ◌++◌, length, Result, Ok, Err}
use Rattle.std.proofs.Common.{refl, sym, ap, subst, ◌∙◌, arith, append_assoc, length-append}
use Rattle.std.proofs.lemmas.List.{append-nil}
use Rattle.std.specs.Prelude.{nat_eq}
use Rattle.qpack_spec.specs.History.{History, Leads, initial_history}
use Rattle.qpack_spec.specs.Instruction.{EncoderInstruction, DecoderInstruction, Acknowledgment, Cancellation}
use Rattle.qpack_rules.specs.Session.{stream_at, with_stream, sum_of, is_read, increments}
use Rattle.qpack_spec.specs.Table.{Table, with_capacity, apply_decoder_instruction}
use Rattle.qpack_spec.specs.Window.{Window, TableRefusal, apply, window_insert_count}
use Rattle.qpack_spec.proofs.Windows.{leads_split, leads_unique, leads_grows}
use Rattle.qpack_safety.specs.AbstractSession.{AbstractSession, SmallStep, Encode, Abandon, Resize, Take, Report, Hear}
use Rattle.qpack_safety.specs.AbstractSession.{Decode, Acknowledge, Cancel, EncodeChosen, AbandonChosen, EncodeAlone}
use Rattle.qpack_safety.specs.AbstractSession.{Forget, abstract_start, after_resize, after_take, take_next, after_hear}
use Rattle.qpack_safety.specs.AbstractSession.{hear_next, after_step, after_steps, next_reading}
use Rattle.qpack_safety.specs.AbstractSession.{waits_for_acknowledgment}
use Rattle.qpack_safety.specs.TwoEnds.{EndStep, small_steps, after_end_step, after_end_steps}
use Rattle.qpack_safety.proofs.Invariant.{Invariant, sound_received, total_window}
use Rattle.qpack_safety.proofs.TwoEnds.{holds_started, holds_behind}

-- ---- what was taken

abbrev HasTaken : AbstractSession → AbstractSession → Type 0
HasTaken w x = (more : List EncoderInstruction) × (x.taken ≡ w.taken ++ more)

same_taken : (w x : AbstractSession) → x.taken ≡ w.taken → HasTaken w x
same_taken w x same = ([], same ∙ sym (append-nil w.taken))

both_taken : (w x y : AbstractSession) → HasTaken w x → HasTaken x y → HasTaken w y
both_taken w x y a b = (
  a.0 ++ b.0,
  b.1 ∙ ap (λ (l : List EncoderInstruction). l ++ b.0) a.1 ∙ append_assoc w.taken a.0 b.0,
)

either_taken : (b : Bool) (w x y : AbstractSession) → x.taken ≡ w.taken → y.taken ≡ w.taken → HasTaken w (cond b x y)
either_taken true w x y a c = same_taken w x a
either_taken false w x y a c = same_taken w y c

resized_taken : (w : AbstractSession) (n : ℕ) (r : Result Table TableRefusal) → HasTaken w (after_resize w n r)
resized_taken w n (Ok t) = same_taken w (after_resize w n (Ok t)) refl
resized_taken w n (Err e) = same_taken w w refl

one_taken : (w : AbstractSession) (i : EncoderInstruction) (rest : List EncoderInstruction)
    (r : Result Window TableRefusal) → HasTaken w (after_take w i rest r)
one_taken w i rest (Ok new) = (i ∷ [], refl)
one_taken w i rest (Err e) = same_taken w w refl

next_taken : (w : AbstractSession) (is : List EncoderInstruction) → HasTaken w (take_next w is)
next_taken w [] = same_taken w w refl
next_taken w (i ∷ rest) = one_taken w i rest (apply w.decoder i)

one_heard : (w : AbstractSession) (rest : List DecoderInstruction) (r : Result Table TableRefusal)
    → HasTaken w (after_hear w rest r)
one_heard w rest (Ok t) = same_taken w (after_hear w rest (Ok t)) refl
one_heard w rest (Err e) = same_taken w w refl

next_heard : (w : AbstractSession) (rs : List DecoderInstruction) → HasTaken w (hear_next w rs)
next_heard w [] = same_taken w w refl
next_heard w (r ∷ rest) = one_heard w rest (apply_decoder_instruction w.encoder r)

step_taken : (w : AbstractSession) (e : SmallStep) → HasTaken w (after_step w e)
step_taken w (Encode s fs) = same_taken w (after_step w (Encode s fs)) refl
step_taken w (Abandon fs) = same_taken w (after_step w (Abandon fs)) refl
step_taken w (Resize n) = resized_taken w n (with_capacity w.encoder n)
step_taken w Take = next_taken w w.in_flight
step_taken w (Report ps) =
    either_taken (nat_eq (sum_of ps) w.unreported) w (record w {
      decoder_in_flight = w.decoder_in_flight ++ increments ps;
      unreported = 0;
    }) w refl refl
step_taken w Hear = next_heard w w.decoder_in_flight
step_taken w (Decode s) =
    let st = stream_at w.streams s in
    either_taken (is_read (next_reading w s)) w
    (record w { streams = with_stream w.streams s (record st { decoded = st.decoded + 1 }) }) w refl refl
step_taken w (Acknowledge s) =
    let st = stream_at w.streams s in
    either_taken (waits_for_acknowledgment st) w (record w {
      decoder_in_flight = w.decoder_in_flight ++ Acknowledgment s ∷ [];
      streams = with_stream w.streams s (record st { acknowledged = st.acknowledged + 1 });
    }) w refl refl
step_taken w (Cancel s) =
    let st = stream_at w.streams s in
    either_taken st.cancelled w w (record w {
      decoder_in_flight = w.decoder_in_flight ++ Cancellation s ∷ [];
      streams = with_stream w.streams s (record st { cancelled = true });
    }) refl refl
step_taken w (EncodeChosen s ls cs) = same_taken w (after_step w (EncodeChosen s ls cs)) refl
step_taken w (AbandonChosen ls cs) = same_taken w (after_step w (AbandonChosen ls cs)) refl
step_taken w (EncodeAlone s ls) = same_taken w (after_step w (EncodeAlone s ls)) refl
step_taken w (Forget s) = same_taken w (after_step w (Forget s)) refl

steps_taken : (es : List SmallStep) (w : AbstractSession) → HasTaken w (after_steps es w)
steps_taken [] w = same_taken w w refl
steps_taken (e ∷ es) w =
    both_taken w (after_step w e) (after_steps es (after_step w e)) (step_taken w e) (steps_taken es (after_step w e))

ends_taken : (es : List EndStep) (w : AbstractSession) → HasTaken w (after_end_steps es w)
ends_taken [] w = same_taken w w refl
ends_taken (e ∷ es) w =
    both_taken w (after_end_step w e) (after_end_steps es (after_end_step w e)) (steps_taken (small_steps w e) w)
    (ends_taken es (after_end_step w e))

behind_more : (es more : List EndStep) (w : AbstractSession)
    → after_end_steps (es ++ more) w ≡ after_end_steps more (after_end_steps es w)
behind_more [] more w = refl
behind_more (e ∷ es) more w = behind_more es more (after_end_step w e)

-- ---- how many insertions were received

fewer_received : (maximum limit : ℕ) (w x : AbstractSession) (k : Invariant 0 maximum limit w)
    (l : Invariant 0 maximum limit x) → HasTaken w x
    → window_insert_count w.decoder ≤ window_insert_count x.decoder
fewer_received maximum limit w x k l taken =
    let split = leads_split (initial_history 0 maximum) w.taken taken.0 l.received
    (subst (λ (is : List EncoderInstruction). Leads (initial_history 0 maximum) is l.received) taken.1 l.taken_leads) in
    let same : split.0 ≡ k.received =
    leads_unique (initial_history 0 maximum) w.taken split.0 k.received split.1 k.taken_leads in
    let grows = leads_grows split.0 taken.0 l.received split.2 in
    let before : window_insert_count w.decoder ≡ length k.received.inserted =
    ap window_insert_count k.decoder ∙ total_window k.received (sound_received 0 maximum limit w k) in
    let behind : window_insert_count x.decoder ≡ length l.received.inserted =
    ap window_insert_count l.decoder ∙ total_window l.received (sound_received 0 maximum limit x l) in
    omega (
      arith,
      before,
      behind,
      ap (λ (h : History). length h.inserted) same,
      ap (λ (fs : _). length fs) grows.inserts,
      length-append split.0.inserted grows.more,
    )

-- after more that the ends do there are no fewer
pub received_grows : (maximum limit : ℕ) (es more : List EndStep)
    → window_insert_count (after_end_steps es (abstract_start 0 maximum limit)).decoder
    ≤ window_insert_count (after_end_steps (es ++ more) (abstract_start 0 maximum limit)).decoder
received_grows maximum limit es more =
    let start = abstract_start 0 maximum limit in
    let holds = λ (steps : List EndStep). (holds_behind 0 maximum limit steps start
    (holds_started 0 maximum limit (omega arith))).invariant in
    fewer_received maximum limit (after_end_steps es start) (after_end_steps (es ++ more) start) (holds es)
    (holds (es ++ more))
    (subst (HasTaken (after_end_steps es start)) (sym (behind_more es more start))
    (ends_taken more (after_end_steps es start)))
