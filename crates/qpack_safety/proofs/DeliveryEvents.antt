-- Deliveries of bytes: neither end refuses what was written, and the session goes on refining one of values.
use Rattle.std.proofs.Common.{ℕ, ◌+◌, ◌≤◌, ◌≡◌, List, [], ◌∷◌, ◌++◌, length, take, drop, min, Option, Result, Ok, Err}
use Rattle.std.proofs.Common.{refl, sym, ap, ◌∙◌, subst, arith, length-append, length-drop}
use Rattle.std.specs.Prelude.{IsOk}
use Rattle.std.proofs.lemmas.List.{append_assoc, length-take}
use Rattle.qpack_spec.specs.Bytes.{Begins, ◌>>=◌}
use Rattle.qpack_spec.specs.Form.{FormFault, Form, Spells}
use Rattle.qpack_spec.specs.Instruction.{EncoderInstruction, encoder_instruction_form, SpellsEncoderInstruction}
use Rattle.qpack_spec.specs.Instruction.{RefusesEncoderInstruction, DecoderInstruction}
use Rattle.qpack_spec.specs.Instruction.{decoder_instruction_form, SpellsDecoderInstruction, RefusesDecoderInstruction}
use Rattle.qpack_spec.specs.Instruction.{written_decoder_instructions}
use Rattle.qpack_spec.specs.Stream.{SpellsAll}
use Rattle.qpack_spec.specs.Window.{Window, TableRefusal, window_insert_count, apply}
use Rattle.qpack_spec.specs.Table.{Table, table_of, insert_count, apply_encoder_instruction, apply_decoder_instruction}
use Rattle.qpack_safety.specs.AbstractSession.{AbstractSession, after_steps}
use Rattle.qpack_rules.specs.Session.{Session, Outcome, Refused, StreamFault, apply_encoder_instructions}
use Rattle.qpack_rules.specs.Session.{apply_decoder_instructions, with_decoder_moved}
use Rattle.qpack_rules.specs.Session.{with_encoder_moved, unreported_after, EndsAtDecoder, takes_all, no_memory}
use Rattle.qpack_rules.specs.Session.{bad_bytes}
use Rattle.qpack_rules.specs.Session.{bad_instruction, DeliversToDecoder, EndsAtEncoder, takes_all_at_encoder}
use Rattle.qpack_rules.specs.Session.{bad_bytes_at_encoder, bad_decoder_instruction}
use Rattle.qpack_rules.specs.Session.{DeliversToEncoder, increments, pieces_of}
use Rattle.qpack_spec.proofs.Results.{ok_is}
use Rattle.qpack_rules.proofs.Pieces.{pieces_add_up, pieces_small}
use Rattle.qpack_rules.proofs.PutTables.{applied_put, count_put}
use Rattle.qpack_safety.specs.Refines.{Refines}
use Rattle.qpack_safety.proofs.Invariant.{Invariant}
use Rattle.qpack_safety.proofs.Taking.{inv_reported}
use Rattle.qpack_safety.proofs.Steps.{inv_run}
use Rattle.qpack_safety.proofs.Safely.{inv_safe}
use Rattle.qpack_spec.proofs.Cuttings.{wire, refusal_apart, nothing_left, CarriesOn, carried_on, carried_more}
use Rattle.qpack_safety.proofs.Deliveries.{taking_all, Took, takes_all as takes_lines, hearing_all, Listens}
use Rattle.qpack_safety.proofs.Deliveries.{hears_all as hears_lines}
use Rattle.qpack_safety.proofs.Shown.{decoder_instructions_joined, increments_writable}
use Rattle.qpack_safety.proofs.WritingEvents.{RefinesSome}

-- how long a piece is, and where it ends
pub piece_ends : (bytes front rest : List ℕ) (position most : ℕ) → drop position (take most bytes) ≡ front ++ rest
    → position ≤ most → position ≤ length bytes → position + length front + length rest ≡ min most (length bytes)
piece_ends bytes front rest position most e order within =
    omega (arith, ap length e, length-drop position (take most bytes), length-take most bytes, length-append front rest)

-- ---- to the decoder

-- what a delivery's lines make of the session of values
pub record Moved (capacity maximum limit : ℕ) (v : Session) (w : AbstractSession) (n : ℕ)
    (lines : List EncoderInstruction)
    (front rest : List ℕ) (table : Table) : Type 0 where
  pub on : CarriesOn EncoderInstruction SpellsEncoderInstruction v.encoder_stream v.encoder_stream_taken w.taken
      w.in_flight lines front rest
  pub took : Took w (after_steps (taking_all lines) w) lines on.still
  pub keeps : Invariant capacity maximum limit (after_steps (taking_all lines) w)
  pub table_is : table ≡ table_of (after_steps (taking_all lines) w).decoder
  pub position : v.encoder_stream_taken + length front + length rest
      ≡ min (v.encoder_stream_delivered + n) (length v.encoder_stream)
  pub unreported_is : unreported_after v table ≡ (after_steps (taking_all lines) w).unreported

pub moved : (capacity maximum limit : ℕ) (v : Session) (w : AbstractSession) (n : ℕ) (o : Outcome) (v' : Session)
    → Refines v w
    → Invariant capacity maximum limit w → (c : DeliversToDecoder v n o v')
    → Moved capacity maximum limit v w n c.takes.lines c.takes.front c.takes.rest c.table
moved capacity maximum limit v w n o v' sh k c =
    let on =
    carried_on SpellsEncoderInstruction (wire encoder_instruction_form) v.encoder_stream v.encoder_stream_taken
    (v.encoder_stream_delivered + n) w.taken
    w.in_flight c.takes.lines c.takes.front c.takes.rest sh.encoder_stream (omega (arith, sh.encoder_stream_order))
    c.takes.cut
    c.takes.joined in
    let t : Took w (after_steps (taking_all c.takes.lines) w) c.takes.lines on.still =
    takes_lines capacity maximum limit w c.takes.lines on.still k on.goes_on in
    let table_is : c.table ≡ table_of (after_steps (taking_all c.takes.lines) w).decoder =
    ok_is _ _ (sym c.takes.applies ∙ ap (λ (x : Table). apply_encoder_instructions x c.takes.lines) sh.decoder_is
    ∙ t.t_decoder) in
    let before : insert_count v.decoder ≡ window_insert_count w.decoder = ap insert_count sh.decoder_is
    ∙ count_put w.decoder in
    let behind : insert_count c.table ≡ window_insert_count (after_steps (taking_all c.takes.lines) w).decoder =
    ap insert_count table_is ∙ count_put (after_steps (taking_all c.takes.lines) w).decoder in
    record {
      on = on;
      took = t;
      keeps = inv_run capacity maximum limit (taking_all c.takes.lines) w k;
      table_is = table_is;
      position = piece_ends v.encoder_stream c.takes.front c.takes.rest v.encoder_stream_taken
          (v.encoder_stream_delivered + n) c.takes.cut
          (omega (arith, sh.encoder_stream_order))
          (omega (
            arith,
            sh.encoder_stream.ends,
            ap length sh.encoder_stream.cut,
            length-append sh.encoder_stream.front sh.encoder_stream.rest,
          ));
      unreported_is = omega (arith, t.t_unreported, t.t_more, before, behind, sh.unreported_is);
    }

-- the session with what was taken, and with what was told behind it
moved_shown : (capacity maximum limit : ℕ) (v : Session) (w : AbstractSession) (n : ℕ) (lines : List EncoderInstruction)
    (front rest : List ℕ) (table : Table) → Refines v w → Moved capacity maximum limit v w n lines front rest table
    → Refines (with_decoder_moved v n table (length front) (unreported_after v table) v.decoder_stream)
    (after_steps (taking_all lines) w)
moved_shown capacity maximum limit v w n lines front rest table sh m =
    let t = m.took in
    let same : (after_steps (taking_all lines) w).taken ++ (after_steps (taking_all lines) w).in_flight
    ≡ w.taken ++ w.in_flight =
    ap (λ x. x ++ (after_steps (taking_all lines) w).in_flight) t.t_taken
    ∙ ap (λ x. (w.taken ++ lines) ++ x) t.t_in_flight ∙ append_assoc w.taken lines m.on.still
    ∙ ap (λ x. w.taken ++ x) (sym m.on.goes_on) in
    record {
      encoder_is = sh.encoder_is ∙ sym t.t_encoder;
      decoder_is = m.table_is;
      unreported_is = m.unreported_is;
      encoder_stream = rw (t.t_taken, t.t_in_flight) m.on.carried;
      encoder_stream_order = omega (arith, m.position);
      decoder_taken = sh.decoder_taken;
      decoder_stream = rw t.t_decoder_instructions sh.decoder_stream;
      decoder_stream_order = sh.decoder_stream_order;
      streams_are = λ s. rw (same, t.t_streams) (sh.streams_are s);
    }

-- what is left begins with no refusal
no_bad_bytes : (capacity maximum limit : ℕ) (v : Session) (w : AbstractSession) (n : ℕ)
    (lines : List EncoderInstruction)
    (front rest : List ℕ) (table : Table) (fault : FormFault)
    → Moved capacity maximum limit v w n lines front rest table
    → Begins (λ encoding. RefusesEncoderInstruction encoding fault) rest → ⊥
no_bad_bytes capacity maximum limit v w n lines front rest table fault m b =
    nothing_left SpellsEncoderInstruction (λ encoding. RefusesEncoderInstruction encoding fault)
    (λ encoding r e. (let q = r.begins in absurd cc))
    (λ a b x y l r s e. refusal_apart encoder_instruction_form fault a b x y l r s e)
    m.on.still rest m.on.more b.encoding b.rest m.on.left b.parts b.holds

-- what stands at the front of bytes that are lines is the first of them
first_line : {L : Type 0} (form_of : ℕ → Option (Form L)) (still : List L) (rest more encoding behind : List ℕ) (l : L)
    → SpellsAll (λ t x. Spells L form_of t x) (rest ++ more) still → rest ≡ encoding ++ behind
    → Spells L form_of encoding l
    → (others : List L) × (still ≡ l ∷ others)
first_line form_of [] rest more encoding behind l j e s = let q =
    s.begins in absurd (let r : encoding ++ (behind ++ more) ≡ [] = sym (append_assoc encoding behind more)
    ∙ ap (λ x. x ++ more) (sym e) ∙ j in cc)
first_line form_of (i ∷ still) rest more encoding behind l j e s =
    let same =
    (wire form_of).one_spelling encoding j.0 (behind ++ more) j.1 l i s j.3 (sym (append_assoc encoding behind more)
    ∙ ap (λ x. x ++ more) (sym e) ∙ j.2) in
    (still, ap (λ x. x ∷ still) (sym same.1))

ok_not_err : (r : Result Window TableRefusal) (e : TableRefusal) → IsOk r
    → (r >>= λ x. (let q : Result Table TableRefusal = Ok (table_of x) in q)) ≡ Err e → ⊥
ok_not_err (Ok x) e h q = absurd cc
ok_not_err (Err d) e h q = absurd cc

no_bad_instruction : (capacity maximum limit : ℕ) (v : Session) (w : AbstractSession) (n : ℕ)
    (lines : List EncoderInstruction)
    (front rest : List ℕ) (table : Table) (encoding more : List ℕ) (i : EncoderInstruction) (e : TableRefusal)
    → Moved capacity maximum limit v w n lines front rest table
    → rest ≡ encoding ++ more → SpellsEncoderInstruction encoding i → apply_encoder_instruction table i ≡ Err e → ⊥
no_bad_instruction capacity maximum limit v w n lines front rest table encoding more i e m cut s bad =
    let f = first_line encoder_instruction_form m.on.still rest m.on.more encoding more i m.on.left cut s in
    let next =
    (inv_safe capacity maximum limit (after_steps (taking_all lines) w) m.keeps).takes_next i f.0 (m.took.t_in_flight
    ∙ f.1) in
    ok_not_err (apply (after_steps (taking_all lines) w).decoder i) e next
    (sym (applied_put (after_steps (taking_all lines) w).decoder i)
    ∙ ap (λ x. apply_encoder_instruction x i) (sym m.table_is) ∙ bad)

pub lands_delivered : (capacity maximum limit : ℕ) (v : Session) (w : AbstractSession) (n : ℕ) (o : Outcome)
    (v' : Session)
    → Refines v w → Invariant capacity maximum limit w → DeliversToDecoder v n o v'
    → RefinesSome capacity maximum limit v'
lands_delivered capacity maximum limit v w n o v' sh k c =
    go (moved capacity maximum limit v w n o v' sh k c) c.takes.ends
  where
    at : (u : Session) → v' ≡ u → RefinesSome capacity maximum limit u → RefinesSome capacity maximum limit v'
    at u e l = subst (RefinesSome capacity maximum limit) (sym e) l

    go : Moved capacity maximum limit v w n c.takes.lines c.takes.front c.takes.rest c.table
        → EndsAtDecoder v n c.table c.takes.front c.takes.rest o v'
        → RefinesSome capacity maximum limit v'
    go m (takes_all cut is goes) =
        let pieces = pieces_of (unreported_after v c.table) in
        let small = pieces_small (unreported_after v c.table) in
        let shown = moved_shown capacity maximum limit v w n c.takes.lines c.takes.front c.takes.rest c.table sh m in
        let w1 = after_steps (taking_all c.takes.lines) w in
        at (with_decoder_moved v n c.table (length c.takes.front) 0
        (v.decoder_stream ++ written_decoder_instructions (increments pieces))) goes (record {
          abstract = record w1 { decoder_in_flight = w1.decoder_in_flight ++ increments pieces; unreported = 0 };
          refines = record {
            encoder_is = shown.encoder_is;
            decoder_is = shown.decoder_is;
            unreported_is = refl;
            encoder_stream = shown.encoder_stream;
            encoder_stream_order = shown.encoder_stream_order;
            decoder_taken = shown.decoder_taken;
            decoder_stream =
                carried_more SpellsDecoderInstruction v.decoder_stream
                (written_decoder_instructions (increments pieces)) v.decoder_stream_taken shown.decoder_taken
                w1.decoder_in_flight (increments pieces) shown.decoder_stream
                (decoder_instructions_joined (increments pieces) (increments_writable pieces small));
            decoder_stream_order = shown.decoder_stream_order;
            streams_are = shown.streams_are;
          };
          keeps = inv_reported capacity maximum limit w1 pieces
              (pieces_add_up (unreported_after v c.table) ∙ m.unreported_is)
              m.keeps;
        })
    go m (no_memory is goes) =
        at (with_decoder_moved v n c.table (length c.takes.front) (unreported_after v c.table) v.decoder_stream) goes
        (record {
          abstract = after_steps (taking_all c.takes.lines) w;
          refines = moved_shown capacity maximum limit v w n c.takes.lines c.takes.front c.takes.rest c.table sh m;
          keeps = m.keeps;
        })
    go m (bad_bytes fault b is goes) =
        absurd (no_bad_bytes capacity maximum limit v w n c.takes.lines c.takes.front c.takes.rest c.table fault m b)
    go m (bad_instruction encoding more i e cut s bad is goes) =
        absurd (no_bad_instruction capacity maximum limit v w n c.takes.lines c.takes.front c.takes.rest c.table
        encoding more i
        e m cut s bad)

pub delivered_lawful : (capacity maximum limit : ℕ) (v : Session) (w : AbstractSession) (n : ℕ) (fault : StreamFault)
    (v' : Session) → Refines v w → Invariant capacity maximum limit w → DeliversToDecoder v n (Refused fault) v' → ⊥
delivered_lawful capacity maximum limit v w n fault v' sh k c =
    go (moved capacity maximum limit v w n (Refused fault) v' sh k c)
    c.takes.ends
  where
    go : Moved capacity maximum limit v w n c.takes.lines c.takes.front c.takes.rest c.table
        → EndsAtDecoder v n c.table c.takes.front c.takes.rest (Refused fault) v' → ⊥
    go m (takes_all cut is goes) = absurd cc
    go m (no_memory is goes) = absurd cc
    go m (bad_bytes f b is goes) = no_bad_bytes capacity maximum limit v w n c.takes.lines c.takes.front c.takes.rest
        c.table f
        m b
    go m (bad_instruction encoding more i e cut s bad is goes) =
        no_bad_instruction capacity maximum limit v w n c.takes.lines c.takes.front c.takes.rest c.table encoding more i
        e m cut
        s bad

-- ---- to the encoder

record Reached (capacity maximum limit : ℕ) (v : Session) (w : AbstractSession) (n : ℕ)
    (lines : List DecoderInstruction)
    (front rest : List ℕ) (table : Table) (before : List DecoderInstruction) : Type 0 where
  pub on : CarriesOn DecoderInstruction SpellsDecoderInstruction v.decoder_stream v.decoder_stream_taken before
      w.decoder_in_flight lines front rest
  pub listens : Listens w (after_steps (hearing_all lines) w) lines on.still
  pub keeps : Invariant capacity maximum limit (after_steps (hearing_all lines) w)
  pub table_is : table ≡ (after_steps (hearing_all lines) w).encoder
  pub position : v.decoder_stream_taken + length front + length rest
      ≡ min (v.decoder_stream_delivered + n) (length v.decoder_stream)

reached : (capacity maximum limit : ℕ) (v : Session) (w : AbstractSession) (n : ℕ) (o : Outcome) (v' : Session)
    (sh : Refines v w) → Invariant capacity maximum limit w → (c : DeliversToEncoder v n o v')
    → Reached capacity maximum limit v w n c.takes.lines c.takes.front c.takes.rest c.table sh.decoder_taken
reached capacity maximum limit v w n o v' sh k c =
    let on =
    carried_on SpellsDecoderInstruction (wire decoder_instruction_form) v.decoder_stream v.decoder_stream_taken
    (v.decoder_stream_delivered + n) sh.decoder_taken
    w.decoder_in_flight c.takes.lines c.takes.front c.takes.rest sh.decoder_stream
    (omega (arith, sh.decoder_stream_order))
    c.takes.cut c.takes.joined
    in
    let t : Listens w (after_steps (hearing_all c.takes.lines) w) c.takes.lines on.still =
    hears_lines capacity maximum limit w c.takes.lines on.still k on.goes_on in
    record {
      on = on;
      listens = t;
      keeps = inv_run capacity maximum limit (hearing_all c.takes.lines) w k;
      table_is = ok_is _ _ (sym c.takes.applies ∙ ap (λ (x : Table). apply_decoder_instructions x c.takes.lines)
          sh.encoder_is
          ∙ t.l_encoder);
      position = piece_ends v.decoder_stream c.takes.front c.takes.rest v.decoder_stream_taken
          (v.decoder_stream_delivered + n) c.takes.cut
          (omega (arith, sh.decoder_stream_order))
          (omega (
            arith,
            sh.decoder_stream.ends,
            ap length sh.decoder_stream.cut,
            length-append sh.decoder_stream.front sh.decoder_stream.rest,
          ));
    }

no_bad_decoder_instruction_bytes : (capacity maximum limit : ℕ) (v : Session) (w : AbstractSession) (n : ℕ)
    (lines : List DecoderInstruction)
    (front rest : List ℕ) (table : Table) (before : List DecoderInstruction) (fault : FormFault)
    → Reached capacity maximum limit v w n lines front rest table before
    → Begins (λ encoding. RefusesDecoderInstruction encoding fault) rest → ⊥
no_bad_decoder_instruction_bytes capacity maximum limit v w n lines front rest table before fault m b =
    nothing_left SpellsDecoderInstruction (λ encoding. RefusesDecoderInstruction encoding fault)
    (λ encoding r e. (let q = r.begins in absurd cc))
    (λ a b x y l r s e. refusal_apart decoder_instruction_form fault a b x y l r s e)
    m.on.still rest m.on.more b.encoding b.rest m.on.left b.parts b.holds

ok_not_refused : (r : Result Table TableRefusal) (e : TableRefusal) → IsOk r → r ≡ Err e → ⊥
ok_not_refused (Ok x) e h q = absurd cc
ok_not_refused (Err d) e h q = absurd cc

no_bad_decoder_instruction : (capacity maximum limit : ℕ) (v : Session) (w : AbstractSession) (n : ℕ)
    (lines : List DecoderInstruction)
    (front rest : List ℕ) (table : Table) (before : List DecoderInstruction) (encoding more : List ℕ)
    (r : DecoderInstruction) (e : TableRefusal)
    → Reached capacity maximum limit v w n lines front rest table before
    → rest ≡ encoding ++ more → SpellsDecoderInstruction encoding r → apply_decoder_instruction table r ≡ Err e → ⊥
no_bad_decoder_instruction capacity maximum limit v w n lines front rest table before encoding more r e m cut s bad =
    let f = first_line decoder_instruction_form m.on.still rest m.on.more encoding more r m.on.left cut s in
    let next =
    (inv_safe capacity maximum limit (after_steps (hearing_all lines) w) m.keeps).hears_next r f.0
    (m.listens.l_decoder_instructions
    ∙ f.1) in
    ok_not_refused (apply_decoder_instruction (after_steps (hearing_all lines) w).encoder r) e next
    (ap (λ x. apply_decoder_instruction x r) (sym m.table_is)
    ∙ bad)

pub lands_heard : (capacity maximum limit : ℕ) (v : Session) (w : AbstractSession) (n : ℕ) (o : Outcome) (v' : Session)
    → Refines v w → Invariant capacity maximum limit w → DeliversToEncoder v n o v'
    → RefinesSome capacity maximum limit v'
lands_heard capacity maximum limit v w n o v' sh k c =
    go (reached capacity maximum limit v w n o v' sh k c) c.takes.ends
  where
    shown : Reached capacity maximum limit v w n c.takes.lines c.takes.front c.takes.rest c.table sh.decoder_taken
        → Refines (with_encoder_moved v n c.table (length c.takes.front)) (after_steps (hearing_all c.takes.lines) w)
    shown m =
        let t = m.listens in
        record {
          encoder_is = m.table_is;
          decoder_is = sh.decoder_is ∙ ap table_of (sym t.l_decoder);
          unreported_is = sh.unreported_is ∙ sym t.l_unreported;
          encoder_stream = rw (t.l_taken, t.l_in_flight) sh.encoder_stream;
          encoder_stream_order = sh.encoder_stream_order;
          decoder_taken = sh.decoder_taken ++ c.takes.lines;
          decoder_stream = rw t.l_decoder_instructions m.on.carried;
          decoder_stream_order = omega (arith, m.position);
          streams_are = λ s. rw (t.l_taken, t.l_in_flight, t.l_streams) (sh.streams_are s);
        }

    go : Reached capacity maximum limit v w n c.takes.lines c.takes.front c.takes.rest c.table sh.decoder_taken
        → EndsAtEncoder v n c.table c.takes.front c.takes.rest o v' → RefinesSome capacity maximum limit v'
    go m (takes_all_at_encoder cut is goes) =
        subst (RefinesSome capacity maximum limit) (sym goes)
        (record { abstract = after_steps (hearing_all c.takes.lines) w; refines = shown m; keeps = m.keeps })
    go m (bad_bytes_at_encoder fault b is goes) =
        absurd (no_bad_decoder_instruction_bytes capacity maximum limit v w n c.takes.lines c.takes.front c.takes.rest
        c.table
        sh.decoder_taken
        fault m b)
    go m (bad_decoder_instruction encoding more r e cut s bad is goes) =
        absurd (no_bad_decoder_instruction capacity maximum limit v w n c.takes.lines c.takes.front c.takes.rest c.table
        sh.decoder_taken encoding
        more r e m cut s
        bad)

pub heard_lawful : (capacity maximum limit : ℕ) (v : Session) (w : AbstractSession) (n : ℕ) (fault : StreamFault)
    (v' : Session) → Refines v w → Invariant capacity maximum limit w → DeliversToEncoder v n (Refused fault) v' → ⊥
heard_lawful capacity maximum limit v w n fault v' sh k c =
    go (reached capacity maximum limit v w n (Refused fault) v' sh k c)
    c.takes.ends
  where
    go : Reached capacity maximum limit v w n c.takes.lines c.takes.front c.takes.rest c.table sh.decoder_taken
        → EndsAtEncoder v n c.table c.takes.front c.takes.rest (Refused fault) v' → ⊥
    go m (takes_all_at_encoder cut is goes) = absurd cc
    go m (bad_bytes_at_encoder f b is goes) =
        no_bad_decoder_instruction_bytes capacity maximum limit v w n c.takes.lines c.takes.front c.takes.rest c.table
        sh.decoder_taken f m b
    go m (bad_decoder_instruction encoding more r e cut s bad is goes) =
        no_bad_decoder_instruction capacity maximum limit v w n c.takes.lines c.takes.front c.takes.rest c.table
        sh.decoder_taken
        encoding more r e
        m cut s bad
