-- All that a section requires was written before it, and is there once those bytes were received.
use Rattle.std.proofs.Common.{◌≡◌, ◌≤◌, ◌+◌, ℕ, List, [], ◌∷◌, ◌++◌, length, drop, Some, Ok, Err, refl, sym}
use Rattle.std.proofs.Common.{ap, subst, ◌∙◌, arith, append_assoc, length-append}
use Rattle.std.proofs.lemmas.Bool.{eq-eqb}
use Rattle.std.proofs.lemmas.List.{append-nil, take-append-drop, length-take}
use Rattle.std.specs.List.{AllByRecursion}
use Rattle.qpack_spec.specs.Form.{Truncates}
use Rattle.qpack_spec.specs.History.{History, Leads, initial_history}
use Rattle.qpack_spec.specs.Instruction.{EncoderInstruction, SpellsEncoderInstruction, encoder_instruction_form}
use Rattle.qpack_rules.specs.Session.{RequestStream, stream_at, with_stream}
use Rattle.qpack_spec.specs.Stream.{SpellsAll}
use Rattle.qpack_rules.specs.StrictInstructions.{strict_apply}
use Rattle.qpack_spec.specs.Table.{empty_table, insert_count}
use Rattle.qpack_rules.specs.Taking.{TakesAllOf}
use Rattle.qpack_spec.specs.Window.{window_insert_count}
use Rattle.qpack_spec.proofs.Cuttings.{wire, reads_front, reads_delivered}
use Rattle.qpack_spec.proofs.Lists.{front_of}
use Rattle.qpack_rules.proofs.PutTables.{count_put}
use Rattle.qpack_spec.proofs.Windows.{leads_split, leads_unique, leads_grows}
use Rattle.qpack_safety.specs.AbstractSession.{AbstractSession, abstract_start}
use Rattle.qpack_safety.specs.Refines.{Agrees}
use Rattle.qpack_safety.specs.TwoEnds.{EndStep, after_end_steps}
use Rattle.qpack_safety.proofs.Invariant.{Invariant, KeepsBlock, sound_received, total_window}
use Rattle.qpack_safety.proofs.TwoEnds.{holds_started, holds_behind}
use Rattle.qpack_decoding.specs.declared.section.Reading.TheVariants as reading
use Rattle.qpack_connection.specs.ArrivedSections.{SectionsArrive}
use Rattle.qpack_connection.specs.Connections.{SentSection, Connection, Call, Encode, SetCapacity, Shrink, Hear, Receive}
use Rattle.qpack_connection.specs.Connections.{Decode, Cancel, Step, Run, next_of}
use Rattle.qpack_decoding.specs.Decoders as decoders
use Rattle.qpack_connection.specs.RefinedConnections.{received_of, RefinesSection, RefinesSession}
use Rattle.qpack_decoding.specs.Receiving as receiving
use Rattle.qpack_connection.specs.TwoEndsHeadline.{AllFit}
use Rattle.qpack_connection.proofs.KeptDecoderCalls.{cut_behind}
use Rattle.qpack_connection.proofs.KeptEncoderCalls.{IsKept}
use Rattle.qpack_connection.proofs.TwoEndsHeadline.{step_kept, new_kept}

-- ---- what is kept by calls in turn

pub run_kept : (maximum limit most : ℕ) → (calls : List Call) (old new : Connection) (steps : List EndStep)
    → IsKept maximum limit most old steps → (run : Run calls old new) → AllFit calls old new run
    → (done : List EndStep) × IsKept maximum limit most new done
run_kept maximum limit most [] old new steps k run fits =
    (steps, subst (λ (x : Connection). IsKept maximum limit most x steps) (sym run) k)
run_kept maximum limit most (call ∷ calls) old new steps k run fits =
    let one = step_kept maximum limit most call old run.0 steps k run.1 fits.0 in
    run_kept maximum limit most calls run.0 new (steps ++ one.1) one.2 run.2 fits.1

-- ---- the encoder stream grows

abbrev pub Grown : Connection → Connection → Type 0
Grown old new = (more : List ℕ) × (new.encoder_stream.written ≡ old.encoder_stream.written ++ more)

none_grown : (old new : Connection) → new.encoder_stream.written ≡ old.encoder_stream.written → Grown old new
none_grown old new same = ([], same ∙ sym (append-nil old.encoder_stream.written))

call_grown : (call : Call) (old new : Connection) → Step call old new → Grown old new
call_grown (Encode s fields (Ok required)) old new step =
    (step.encoder.unsent, ap (λ (c : Connection). c.encoder_stream.written) step.new_is)
call_grown (Encode s fields (Err e)) old new step =
    (step.encoder.unsent, ap (λ (c : Connection). c.encoder_stream.written) step.new_is)
call_grown (SetCapacity n answer) old new step =
    (step.encoder.unsent, ap (λ (c : Connection). c.encoder_stream.written) step.new_is)
call_grown (Shrink n answer) old new step =
    (step.encoder.unsent, ap (λ (c : Connection). c.encoder_stream.written) step.new_is)
call_grown (Hear many answer) old new step =
    (step.hears.encoder.unsent, ap (λ (c : Connection). c.encoder_stream.written) step.hears.new_is)
call_grown (Receive many answer) old new step =
    none_grown old new (ap (λ (c : Connection). c.encoder_stream.written) step.new_is)
call_grown (Decode s fields (Ok (reading.Fields required))) old new step =
    none_grown old new (ap (λ (c : Connection). c.encoder_stream.written) step.new_is)
call_grown (Decode s fields (Ok (reading.Blocked required))) old new step =
    none_grown old new (ap (λ (c : Connection). c.encoder_stream.written) step.new_is)
call_grown (Decode s fields (Err e)) old new step =
    none_grown old new (ap (λ (c : Connection). c.encoder_stream.written) step.new_is)
call_grown (Cancel s (Ok it)) old new step =
    none_grown old new (ap (λ (c : Connection). c.encoder_stream.written) step.new_is)
call_grown (Cancel s (Err e)) old new step =
    none_grown old new (ap (λ (c : Connection). c.encoder_stream.written) step.new_is)

pub run_grown : (calls : List Call) (old new : Connection) → Run calls old new → Grown old new
run_grown [] old new run = none_grown old new (ap (λ (c : Connection). c.encoder_stream.written) run)
run_grown (call ∷ calls) old new run =
    let one = call_grown call old run.0 run.1 in
    let more = run_grown calls run.0 new run.2 in (
      one.0 ++ more.0,
      more.1 ∙ ap (λ (b : List ℕ). b ++ more.0) one.1 ∙ append_assoc old.encoder_stream.written one.0 more.0,
    )

-- ---- a section that was sent

agrees_last : {Y : Type 0} (R : SentSection → Y → Type 0) (P : Y → Type 0) (xs : List SentSection) (x : SentSection)
    (ys : List Y) → Agrees R (xs ++ x ∷ []) ys → AllByRecursion P ys → (y : Y) × R x y × P y
agrees_last R P [] x [] h k = absurd h
agrees_last R P [] x (y ∷ ys) h k = (y, h.0, k.0)
agrees_last R P (z ∷ xs) x [] h k = absurd h
agrees_last R P (z ∷ xs) x (y ∷ ys) h k = agrees_last R P xs x ys h.1 k.1

-- its block, with what was written by its end
record Written (maximum : ℕ) (w : AbstractSession) (required : ℕ) : Type 0 where
  front : List EncoderInstruction
  rest : List EncoderInstruction
  cut : front ++ rest ≡ w.taken ++ w.in_flight
  at_end : History
  leads : Leads (initial_history 0 maximum) front at_end
  within : required ≤ length at_end.inserted

sent_written : (maximum limit : ℕ) (sent : Connection) (w : AbstractSession) (s : ℕ) (xs : List SentSection)
    (x : SentSection) → RefinesSession maximum sent w → Invariant 0 maximum limit w
    → (stream_at sent.streams s).blocks ≡ xs ++ x ∷ [] → Written maximum w x.required
sent_written maximum limit sent w s xs x r k last =
    let found = agrees_last RefinesSection
    (KeepsBlock 0 maximum k.made (w.taken ++ w.in_flight)) xs x (stream_at w.streams s).blocks
    (subst (λ (bs : List SentSection). Agrees RefinesSection bs (stream_at w.streams s).blocks) last
    (r.streams s).sections) (k.streams s).blocks in
    let kept = found.2 in
    record {
      front = kept.front;
      rest = kept.rest;
      cut = kept.cut;
      at_end = kept.at_end;
      leads = kept.leads;
      within = omega (arith, kept.within, found.1.required_is);
    }

-- the section stands behind those before it
put_there : (ps : List (ℕ × RequestStream SentSection)) (s : ℕ) (x : SentSection)
    → (stream_at (with_stream ps s (record (stream_at ps s) { blocks = (stream_at ps s).blocks ++ x ∷ [] })) s).blocks
    ≡ (stream_at ps s).blocks ++ x ∷ []
put_there ps s x = rw (eq-eqb s s refl) refl

-- ---- what was received

-- all instructions that stand whole in what was received were taken
all_of_front : (maximum : ℕ) (sent new : Connection) (w v : AbstractSession) → RefinesSession maximum sent w
    → (r : RefinesSession maximum new v) → Grown sent new
    → Truncates encoder_instruction_form new.decoder.stream.pending
    → length sent.encoder_stream.written ≤ new.encoder_stream.received
    → (still : List EncoderInstruction) × (v.taken ≡ (w.taken ++ w.in_flight) ++ still)
all_of_front maximum sent new w v p r grown cut enough =
    let k : TakesAllOf encoder_instruction_form strict_apply (empty_table 0 (Some maximum) 0) new.decoder.table
    (received_of new.encoder_stream) (λ front rest. (rest ≡ new.decoder.stream.pending)
    × receiving.Waits new.decoder.table new.decoder.stream) = r.received.0 in
    let n = new.encoder_stream.received in
    let wanted = sent.encoder_stream.written in
    let behind = drop n new.encoder_stream.written in
    let W = wire encoder_instruction_form in
    let all = w.taken ++ w.in_flight in
    let whole : wanted ++ grown.0 ≡ k.front ++ (k.rest ++ behind) =
    sym grown.1 ∙ sym (take-append-drop n new.encoder_stream.written) ∙ ap (λ (b : List ℕ). b ++ behind) k.cut
    ∙ append_assoc k.front k.rest behind in
    let many : length k.front + length k.rest ≡ n =
    omega (
      arith,
      r.encoder_stream_order,
      length-take n new.encoder_stream.written,
      ap (λ (b : List ℕ). length b) k.cut,
      length-append k.front k.rest,
    ) in
    let fewer : length all ≤ length k.lines =
    reads_delivered SpellsEncoderInstruction W k.lines all [] k.front k.rest behind wanted grown.0 k.joined
    (λ encoding more i is spells. (cut encoding more (sym k.ends.0 ∙ is)).0 i spells) p.encoder_stream whole
    (omega (arith, many, enough)) in
    let read = reads_front SpellsEncoderInstruction W all (v.taken ++ v.in_flight) wanted grown.0 [] p.encoder_stream
    (subst (λ (b : List ℕ). SpellsAll SpellsEncoderInstruction b (v.taken ++ v.in_flight))
    (grown.1 ∙ ap (λ (b : List ℕ). wanted ++ b) (sym (append-nil grown.0))) r.encoder_stream) in
    let f = front_of all read.still v.taken v.in_flight (sym read.goes_on)
    (omega (arith, fewer, ap (λ (is : List EncoderInstruction). length is) r.taken_are)) in
    (f.0, sym f.1)

arrived : (maximum limit : ℕ) (new : Connection) (w v : AbstractSession) (required : ℕ)
    → Written maximum w required → RefinesSession maximum new v → Invariant 0 maximum limit v
    → (still : List EncoderInstruction) × (v.taken ≡ (w.taken ++ w.in_flight) ++ still)
    → required ≤ insert_count new.decoder.table
arrived maximum limit new w v required b r k taken =
    let is : v.taken ≡ b.front ++ (b.rest ++ taken.0) =
    taken.1 ∙ ap (λ (l : List EncoderInstruction). l ++ taken.0) (sym b.cut) ∙ append_assoc b.front b.rest taken.0 in
    let split = leads_split (initial_history 0 maximum) b.front (b.rest ++ taken.0) k.received
    (subst (λ (l : List EncoderInstruction). Leads (initial_history 0 maximum) l k.received) is k.taken_leads) in
    let same : split.0 ≡ b.at_end =
    leads_unique (initial_history 0 maximum) b.front split.0 b.at_end split.1 b.leads in
    let grows = leads_grows split.0 (b.rest ++ taken.0) k.received split.2 in
    let count : insert_count new.decoder.table ≡ length k.received.inserted =
    ap insert_count r.decoder_is ∙ count_put v.decoder ∙ ap window_insert_count k.decoder
    ∙ total_window k.received (sound_received 0 maximum limit v k) in
    omega (
      arith,
      b.within,
      ap (λ (h : History). length h.inserted) same,
      ap (λ (l : _). length l) grows.inserts,
      length-append split.0.inserted grows.more,
      count,
    )

pub sections_arrive : SectionsArrive
sections_arrive before since first old sent now new s fields required many total n run fits step fit later more receives
    enough =
    let maximum = n.encoder_settings.max_capacity in
    let limit : ℕ = 4096 in
    let most = n.decoder_settings.max_blocked in
    let holds = λ (steps : List EndStep). (holds_behind 0 maximum limit steps (abstract_start 0 maximum limit)
    (holds_started 0 maximum limit (omega arith))).invariant in
    let k = run_kept maximum limit most before first old [] (new_kept first n) run fits in
    let a = step_kept maximum limit most (Encode s fields (Ok required)) old sent k.0 k.1 step fit in
    let b = run_kept maximum limit most since sent now (k.0 ++ a.1) a.2 later more in
    let c = step_kept maximum limit most (Receive many (Ok total)) now new b.0 b.1 receives tt in
    let w = after_end_steps (k.0 ++ a.1) (abstract_start 0 maximum limit) in
    let v = after_end_steps (b.0 ++ c.1) (abstract_start 0 maximum limit) in
    let grown = run_grown since sent now later in
    let x = receives.receives b.1.alive.decoder (empty_table 0 (Some maximum) 0) (received_of now.encoder_stream)
    b.1.refines.received in
    let cut : Truncates encoder_instruction_form receives.decoder.stream.pending =
    cut_behind (empty_table 0 (Some maximum) 0) now.decoder.table receives.decoder.table
    (received_of now.encoder_stream) (next_of many now.encoder_stream) receives.left now.decoder.stream
    receives.decoder.stream (decoders.received receives.decoder.table receives.decoder.stream now.decoder)
    receives.decoder x.taken total x.stream x.ends in
    let sent_last : (stream_at sent.streams s).blocks
    ≡ (stream_at old.streams s).blocks ++ record { fields = fields; bytes = step.section; required = required } ∷ [] =
    ap (λ (y : Connection). (stream_at y.streams s).blocks) step.new_is ∙ put_there old.streams s
    (record { fields = fields; bytes = step.section; required = required }) in
    arrived maximum limit new w v required
    (sent_written maximum limit sent w s (stream_at old.streams s).blocks
    (record { fields = fields; bytes = step.section; required = required }) a.2.refines (holds (k.0 ++ a.1)) sent_last)
    c.2.refines (holds (b.0 ++ c.1))
    (all_of_front maximum sent new w v a.2.refines c.2.refines
    (grown.0, ap (λ (y : Connection). y.encoder_stream.written) receives.new_is ∙ grown.1)
    (subst (λ (l : List ℕ). Truncates encoder_instruction_form l)
    (sym (ap (λ (y : Connection). y.decoder.stream.pending) receives.new_is)) cut) enough)
