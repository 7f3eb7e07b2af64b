-- A section that is encoded on a connection in bytes is one that the session of values writes.
use Rattle.std.proofs.Common.{◌≡◌, ◌<◌, ◌^◌, ℕ, Bool, true, false, cond, List, [], ◌∷◌, ◌++◌, length}
use Rattle.std.proofs.Common.{Option, None, Some, Result, Ok, Err, refl, sym, ap, subst, ◌∙◌, arith, inl, inr}
use Rattle.std.proofs.Common.{length-append, ◌≤◌}
use Rattle.std.specs.List.{AllByRecursion}
use Rattle.std.specs.Prelude.{nat_eq, nat_le}
use Rattle.std.proofs.lemmas.Bool.{leb-true}
use Rattle.std.proofs.lemmas.List.{append_assoc, append-nil, take-append-le}
use Rattle.qpack_spec.specs.Chosen.{chosen_rule}
use Rattle.qpack_spec.specs.Field.{FieldLine, fields_of_lines}
use Rattle.qpack_spec.specs.Instruction.{EncoderInstruction, SetCapacity, SpellsEncoderInstruction}
use Rattle.qpack_spec.specs.Instruction.{coded_encoder_instruction, written_encoder_instruction, coded_encoder_instructions}
use Rattle.qpack_spec.specs.Marked.{coded_marked_block}
use Rattle.qpack_spec.specs.Reading.{greatest_of}
use Rattle.qpack_spec.specs.Rule.{block_of, committed_table, required_insert_count}
use Rattle.qpack_rules.specs.Session.{RequestStream, stream_at, with_stream}
use Rattle.qpack_spec.specs.Stream.{SpellsAll}
use Rattle.qpack_spec.specs.Table.{Table, UnacknowledgedBlock, with_capacity, with_unacknowledged, empty_table}
use Rattle.qpack_spec.specs.Window.{TableRefusal, AboveMaximum, greatest_capacity}
use Rattle.qpack_spec.specs.WrittenLaws.{IsByteField, IsWritableInstructionUnder}
use Rattle.qpack_spec.specs.Text.{WhereShorter}
use Rattle.qpack_rules.proofs.ChosenWritten.{chosen_written}
use Rattle.qpack_spec.proofs.Cuttings.{joined_append}
use Rattle.qpack_spec.proofs.Results.{chosen, ok_is}
use Rattle.qpack_spec.proofs.WrittenDrafts.{instructions_fit}
use Rattle.qpack_safety.specs.AbstractSession.{AbstractBlock, AbstractStream, AbstractSession, abstract_start}
use Rattle.qpack_safety.specs.AbstractSession.{after_resize}
use Rattle.qpack_safety.specs.TwoEnds.{EndStep, Encode, EncodeAlone, Resize, after_end_step, after_end_steps}
use Rattle.qpack_safety.proofs.HandedSections.{chosen_block, alone_block}
use Rattle.qpack_rules.proofs.ChosenDrafts.{chosen_drafts}
use Rattle.qpack_safety.proofs.Encoding.{same_committed}
use Rattle.qpack_safety.proofs.Invariant.{Invariant, sound_made}
use Rattle.qpack_safety.proofs.Resizing.{resized_table, resized_cases, same_resized}
use Rattle.qpack_safety.proofs.Shown.{agrees_push, instructions_joined}
use Rattle.qpack_safety.proofs.TwoEnds.{holds_started, holds_behind}
use Rattle.qpack_safety.proofs.WritingEvents.{few_insertions}
use Rattle.qpack_connection.specs.Connections.{SentSection, Connection, with_encoder, with_section}
use Rattle.qpack_encoding.specs.Encoders.{EncodingEnd, TellsCapacity, told, told_if, begun, begun_with, WritesSection}
use Rattle.qpack_encoding.specs.Encoders.{WritesAlone}
use Rattle.qpack_encoding.specs.Hearing as hearing
use Rattle.qpack_decoding.specs.Receiving as receiving
use Rattle.qpack_connection.specs.RefinedConnections.{received_of, RefinesSection, RefinesStream, RefinesSession}
use Rattle.qpack_connection.specs.RefinedConnections.{EncodesAreRefined}
use Rattle.qpack_connection.proofs.ThinnedStreams.{KeepsSections, keeps_same, keeps_more, thins_kept}

-- ---- the encoder writes

-- the encoder wrote instructions, and all is sent
pub written_more : (maximum : ℕ) (c : Connection) (w : AbstractSession) (e : EncodingEnd) (t : Table)
    (is flight : List EncoderInstruction) (ps : List (ℕ × RequestStream SentSection)) (qs : List (ℕ × AbstractStream))
    → RefinesSession maximum c w → e.table ≡ t → e.stream ≡ c.encoder.stream
    → e.unsent ≡ coded_encoder_instructions WhereShorter is → AllByRecursion (IsWritableInstructionUnder WhereShorter) is
    → flight ≡ w.in_flight ++ is → ((s : ℕ) → RefinesStream (stream_at ps s) (stream_at qs s))
    → KeepsSections w.encoder t
    → RefinesSession maximum (record (with_encoder e c) { streams = ps })
    (record w { encoder = t; in_flight = flight; streams = qs })
written_more maximum c w e t is flight ps qs k table stream unsent are more streams keeps =
    let same : received_of (record c.encoder_stream { written = c.encoder_stream.written ++ e.unsent })
    ≡ received_of c.encoder_stream =
    take-append-le c.encoder_stream.received c.encoder_stream.written e.unsent k.encoder_stream_order in
    let received = subst (λ (b : List ℕ). (r : receiving.Receives (empty_table 0 (Some maximum) 0) c.decoder.table b
    c.decoder.stream) × (r.0.lines ≡ w.taken)) (sym same) (k.received, k.taken_are) in
    record {
      encoder_is = table;
      decoder_is = k.decoder_is;
      reported_is = k.reported_is;
      encoder_sent = refl;
      decoder_sent = k.decoder_sent;
      encoder_stream =
          subst (λ (b : List ℕ). SpellsAll SpellsEncoderInstruction (c.encoder_stream.written ++ b) (w.taken ++ flight))
          (sym unsent)
          (subst (SpellsAll SpellsEncoderInstruction (c.encoder_stream.written ++ coded_encoder_instructions WhereShorter is))
          (append_assoc w.taken w.in_flight is ∙ ap (λ (x : List EncoderInstruction). w.taken ++ x) (sym more))
          (joined_append SpellsEncoderInstruction c.encoder_stream.written (coded_encoder_instructions WhereShorter is)
          (w.taken ++ w.in_flight) is k.encoder_stream (instructions_joined WhereShorter is are)));
      encoder_stream_order = omega (
        arith,
        k.encoder_stream_order,
        length-append c.encoder_stream.written e.unsent,
      );
      received = received.0;
      taken_are = received.1;
      heard = k.heard;
      under_way = k.under_way;
      decoder_stream = k.decoder_stream;
      thins = thins_kept w.encoder t k.under_way w.decoder_in_flight keeps k.thins;
      decoder_stream_order = k.decoder_stream_order;
      hears = subst (λ (s : hearing.StreamView). hearing.Receives k.heard (received_of c.decoder_stream) s)
          (sym stream) k.hears;
      streams = streams;
    }

-- a section more on a request stream
section_more : (s : ℕ) (k : SentSection) (b : AbstractBlock) (ps : List (ℕ × RequestStream SentSection))
    (qs : List (ℕ × AbstractStream)) → RefinesSection k b
    → ((q : ℕ) → RefinesStream (stream_at ps q) (stream_at qs q)) → (q : ℕ)
    → RefinesStream
    (stream_at (with_stream ps s (record (stream_at ps s) { blocks = (stream_at ps s).blocks ++ k ∷ [] })) q)
    (stream_at (with_stream qs s (record (stream_at qs s) { blocks = (stream_at qs s).blocks ++ b ∷ [] })) q)
section_more s k b ps qs is all q = both (nat_eq s q)
  where
    both : (e : Bool) → RefinesStream
        (cond e (record (stream_at ps s) { blocks = (stream_at ps s).blocks ++ k ∷ [] }) (stream_at ps q))
        (cond e (record (stream_at qs s) { blocks = (stream_at qs s).blocks ++ b ∷ [] }) (stream_at qs q))
    both true =
        let old = all s in
        record {
          sections = agrees_push RefinesSection (stream_at ps s).blocks (stream_at qs s).blocks k b old.sections is;
          decoded_is = old.decoded_is;
          acknowledged_is = old.acknowledged_is;
          cancelled_is = old.cancelled_is;
        }
    both false = all q

-- ---- a section

-- the session's block of a section under some choices
section_refined : (maximum limit : ℕ) (c : Connection) (w : AbstractSession) (e : EncodingEnd) (s : ℕ)
    (fields : List FieldLine) (section : List ℕ) (required : ℕ) → Invariant 0 maximum limit w
    → RefinesSession maximum c w → AllByRecursion IsByteField (fields_of_lines fields)
    → length (c.encoder_stream.written ++ e.unsent) < 2 ^ 63 → length section < 2 ^ 63
    → (writes : WritesSection c.encoder e s fields [] section required)
    → RefinesSession maximum (with_section s fields section (Ok required) (with_encoder e c))
    (after_end_step w (Encode s fields writes.section.choices))
section_refined maximum limit c w e s fields section required k r are short small writes =
    let x = writes.section in
    let cs = x.choices in
    let d = chosen_rule w.encoder fields cs in
    let table : e.table ≡ committed_table d s =
    x.table ∙ ap (λ (t : Table). committed_table (chosen_rule t fields cs) s) r.encoder_is in
    let unsent : e.unsent ≡ coded_encoder_instructions WhereShorter d.instructions =
    x.written
    ∙ ap (λ (b : List ℕ). b ++ coded_encoder_instructions WhereShorter (chosen_rule c.encoder.table fields cs).instructions)
    r.encoder_sent
    ∙ ap (λ (t : Table). coded_encoder_instructions WhereShorter (chosen_rule t fields cs).instructions) r.encoder_is in
    let fits : length (coded_encoder_instructions WhereShorter d.instructions) < 2 ^ 63 =
    omega (arith, short, length-append c.encoder_stream.written e.unsent, ap length unsent) in
    let wd = chosen_written w.encoder fields cs (few_insertions 0 maximum limit w k) are in
    let p = chosen_drafts w.encoder k.made fields cs (sound_made 0 maximum limit w k) k.encoder in
    let same = same_committed d.table s (required_insert_count d) in
    written_more maximum c w e (committed_table d s) d.instructions (w.in_flight ++ d.instructions) _ _ r table
    (ap (λ (y : EncodingEnd). y.stream) writes.new_is) unsent
    (instructions_fit WhereShorter d.instructions wd.instructions fits) refl
    (section_more s (record { fields = fields; bytes = section; required = required }) _ c.streams w.streams
    (record {
      bytes_are = x.block
          ∙ ap (λ (t : Table). coded_marked_block WhereShorter fields (block_of t (chosen_rule t fields cs))) r.encoder_is;
      required_is = x.required_is
          ∙ ap (λ (t : Table). greatest_of (chosen_rule t fields cs).table.referenced) r.encoder_is;
      block_is = chosen_block 0 maximum limit w s fields cs k _ refl refl;
      are_bytes = are;
      short = small;
    }) r.streams)
    (keeps_more w.encoder (committed_table d s) s d.table.referenced (same.c_known ∙ p.references.known_received_count)
    (same.c_opened
    ∙ ap (λ (bs : List UnacknowledgedBlock). with_unacknowledged bs s d.table.referenced) p.references.unacknowledged))

-- a section without references
alone_refined : (maximum : ℕ) (c : Connection) (w : AbstractSession) (e : EncodingEnd) (s : ℕ)
    (fields : List FieldLine) (section : List ℕ) (required : ℕ) → RefinesSession maximum c w
    → AllByRecursion IsByteField (fields_of_lines fields) → length section < 2 ^ 63
    → WritesAlone c.encoder e fields [] section required
    → RefinesSession maximum (with_section s fields section (Ok required) (with_encoder e c))
    (after_end_step w (EncodeAlone s fields))
unfolding coded_encoder_instructions coded_encoder_instruction greatest_of
alone_refined maximum c w e s fields section required r are small writes =
    written_more maximum c w e w.encoder [] w.in_flight _ _ r
    (ap (λ (y : EncodingEnd). y.table) writes.new_is ∙ r.encoder_is)
    (ap (λ (y : EncodingEnd). y.stream) writes.new_is)
    (ap (λ (y : EncodingEnd). y.unsent) writes.new_is ∙ r.encoder_sent) tt (sym (append-nil w.in_flight))
    (section_more s (record { fields = fields; bytes = section; required = required }) _ c.streams w.streams
    (record {
      bytes_are = writes.section;
      required_is = writes.required_is;
      block_is = alone_block fields _ refl refl;
      are_bytes = are;
      short = small;
    }) r.streams) (keeps_same w.encoder w.encoder refl refl)

-- ---- a capacity

abbrev table_ok : Table → Result Table TableRefusal
table_ok t = Ok t

-- one that a table takes is small
capacity_small : (t u : Table) (n : ℕ) → with_capacity t n ≡ Ok u → n < 2 ^ 30
unfolding with_capacity
capacity_small t u n h =
    elim (chosen (nat_le n (greatest_capacity t.agreed_max)) _ (Err AboveMaximum) (table_ok u) h) [
      | inl within ↦ bound t.agreed_max (leb-true n (greatest_capacity t.agreed_max) within.0)
      | inr above ↦ absurd (let l = above.1 in cc)
    ]
  where
    bound : (o : Option ℕ) → n ≤ greatest_capacity o → n < 2 ^ 30
    bound None h = omega (arith, h)
    bound (Some most) h = omega (arith, h)

-- and keeps the sections that are not acknowledged
keeps_capacity : (t u : Table) (n : ℕ) → with_capacity t n ≡ Ok u → KeepsSections t u
keeps_capacity t u n h = elim (resized_cases t n) [
  | inl takes ↦
      let z = same_resized t n in
      subst (λ (x : Table). KeepsSections t x) (ok_is (resized_table t n) u (sym takes.1 ∙ h))
      (keeps_same t (resized_table t n) z.z_known z.z_opened)
  | inr refuses ↦ absurd (let x = sym refuses.1 ∙ h in cc)
]

-- the capacity is told
pub capacity_refined : (maximum : ℕ) (c : Connection) (w : AbstractSession) (e : EncodingEnd) (n : ℕ)
    → RefinesSession maximum c w → TellsCapacity c.encoder e n (Ok tt)
    → RefinesSession maximum (with_encoder e c) (after_resize w n (with_capacity w.encoder n))
unfolding coded_encoder_instructions coded_encoder_instruction
capacity_refined maximum c w e n r tells =
    let takes : with_capacity w.encoder n ≡ Ok e.table =
    ap (λ (t : Table). with_capacity t n) (sym r.encoder_is) ∙ tells.0 in
    subst (λ (x : Result Table TableRefusal). RefinesSession maximum (with_encoder e c) (after_resize w n x))
    (sym takes)
    (written_more maximum c w e e.table (SetCapacity n ∷ []) (w.in_flight ++ SetCapacity n ∷ []) c.streams w.streams r
    refl (ap (λ (x : EncodingEnd). x.stream) tells.1)
    (ap (λ (x : EncodingEnd). x.unsent) tells.1
    ∙ ap (λ (x : List ℕ). x ++ written_encoder_instruction (SetCapacity n)) r.encoder_sent
    ∙ sym (append-nil (written_encoder_instruction (SetCapacity n))))
    (omega (arith, capacity_small w.encoder e.table n takes), tt) refl r.streams
    (keeps_capacity w.encoder e.table n takes))

-- nothing is done, whatever waits
pub kept_refined : (maximum : ℕ) (c : Connection) (w : AbstractSession) (e : EncodingEnd) → RefinesSession maximum c w
    → e.table ≡ c.encoder.table → e.stream ≡ c.encoder.stream → e.unsent ≡ c.encoder.unsent
    → RefinesSession maximum (with_encoder e c) w
unfolding coded_encoder_instructions coded_encoder_instruction
kept_refined maximum c w e r table stream unsent =
    written_more maximum c w e w.encoder [] w.in_flight c.streams w.streams r (table ∙ r.encoder_is) stream
    (unsent ∙ r.encoder_sent) tt (sym (append-nil w.in_flight)) r.streams (keeps_same w.encoder w.encoder refl refl)

pub same_refined : (maximum : ℕ) (c : Connection) (w : AbstractSession) (e : EncodingEnd) → RefinesSession maximum c w
    → e ≡ c.encoder → RefinesSession maximum (with_encoder e c) w
same_refined maximum c w e r same =
    kept_refined maximum c w e r (ap (λ (x : EncodingEnd). x.table) same) (ap (λ (x : EncodingEnd). x.stream) same)
    (ap (λ (x : EncodingEnd). x.unsent) same)

told_refined_if : (maximum : ℕ) (c : Connection) (w : AbstractSession) (n : ℕ) (x : Result Table TableRefusal)
    → with_capacity c.encoder.table n ≡ x → RefinesSession maximum c w
    → (steps : List EndStep) × RefinesSession maximum (with_encoder (told_if n c.encoder x) c) (after_end_steps steps w)
told_refined_if maximum c w n (Ok t) takes r =
    (Resize n ∷ [], capacity_refined maximum c w (told n t c.encoder) n r (takes, refl))
told_refined_if maximum c w n (Err e) takes r = ([], same_refined maximum c w c.encoder r refl)

-- the session behind the capacity that waits, if one does, and is told if the table takes it
pub told_refined : (maximum : ℕ) (c : Connection) (w : AbstractSession) (o : Option ℕ) → RefinesSession maximum c w
    → (steps : List EndStep) × RefinesSession maximum (with_encoder (begun_with o c.encoder) c)
    (after_end_steps steps w)
told_refined maximum c w None r = ([], same_refined maximum c w c.encoder r refl)
told_refined maximum c w (Some n) r = told_refined_if maximum c w n (with_capacity c.encoder.table n) refl r

-- ---- a call

-- the steps of an end, and one behind them
pub after_last : (es : List EndStep) (e : EndStep) (w : AbstractSession)
    → after_end_steps (es ++ e ∷ []) w ≡ after_end_step (after_end_steps es w) e
after_last [] e w = refl
after_last (x ∷ es) e w = after_last es e (after_end_step w x)

pub after_more : (es more : List EndStep) (w : AbstractSession)
    → after_end_steps (es ++ more) w ≡ after_end_steps more (after_end_steps es w)
after_more [] more w = refl
after_more (e ∷ es) more w = after_more es more (after_end_step w e)

-- the call as one behind the capacity, of which all bytes are sent
begun_first : (c : Connection) (e : EncodingEnd) (s : ℕ) (fields : List FieldLine) (section written : List ℕ)
    (required : ℕ) → e.unsent ≡ (begun c.encoder).unsent ++ written
    → with_section s fields section (Ok required)
    (with_encoder (record e { unsent = written }) (with_encoder (begun c.encoder) c))
    ≡ with_section s fields section (Ok required) (with_encoder e c)
begun_first c e s fields section written required unsent =
    ap (λ (b : List ℕ). let x : Connection =
    with_section s fields section (Ok required) (record (with_encoder e c) {
      encoder_stream = record c.encoder_stream { written = b };
    }) in x)
    (append_assoc c.encoder_stream.written (begun c.encoder).unsent written
    ∙ ap (λ (b : List ℕ). c.encoder_stream.written ++ b) (sym unsent))

-- the section of a call behind the capacity
chosen_behind : (c : Connection) (e : EncodingEnd) (s : ℕ) (fields : List FieldLine) (section : List ℕ) (required : ℕ)
    → WritesSection (begun c.encoder) e s fields [] section required
    → (written : List ℕ) × (e.unsent ≡ (begun c.encoder).unsent ++ written)
    × WritesSection (with_encoder (begun c.encoder) c).encoder (record e { unsent = written }) s fields [] section
    required
chosen_behind c e s fields section required writes =
    let cs = writes.section.choices in
    let written = coded_encoder_instructions WhereShorter (chosen_rule (begun c.encoder).table fields cs).instructions in (
      written,
      writes.section.written,
      record {
        room = writes.room;
        section = record {
          choices = cs;
          required_is = writes.section.required_is;
          table = writes.section.table;
          block = writes.section.block;
          written = refl;
        };
        known = writes.known;
        new_is = ap (λ (x : EncodingEnd). let y : EncodingEnd = record x { unsent = written } in y) writes.new_is;
      },
    )

alone_behind : (c : Connection) (e : EncodingEnd) (fields : List FieldLine) (section : List ℕ) (required : ℕ)
    → WritesAlone (begun c.encoder) e fields [] section required
    → (e.unsent ≡ (begun c.encoder).unsent ++ [])
    × WritesAlone (with_encoder (begun c.encoder) c).encoder (record e { unsent = [] }) fields [] section required
alone_behind c e fields section required writes = (
  ap (λ (x : EncodingEnd). x.unsent) writes.new_is ∙ sym (append-nil (begun c.encoder).unsent),
  record {
    alone = writes.alone;
    required_is = writes.required_is;
    section = writes.section;
    new_is = ap (λ (x : EncodingEnd). let y : EncodingEnd = record x { unsent = [] } in y) writes.new_is;
  },
)

pub encodes_refined : EncodesAreRefined
encodes_refined maximum limit c new steps s fields required r sound are short call small =
    let start = abstract_start 0 maximum limit in
    let w = after_end_steps steps start in
    let first = told_refined maximum c w c.encoder.wanted r in
    let w1 = after_end_steps first.0 w in
    let c1 = with_encoder (begun c.encoder) c in
    let e = call.encoder in
    let k = (holds_behind 0 maximum limit first.0 w (holds_behind 0 maximum limit steps start
    (holds_started 0 maximum limit (omega arith)))).invariant in
    elim call.call.1 [
      | inl writes ↦
          let b = chosen_behind c e s fields call.section required writes in
          let same = begun_first c e s fields call.section b.0 required b.1 in
          let few : length (c1.encoder_stream.written ++ b.0) < 2 ^ 63 =
          rw (append_assoc c.encoder_stream.written (begun c.encoder).unsent b.0, ← b.1)
          (subst (λ (x : Connection). length x.encoder_stream.written < 2 ^ 63) call.new_is short) in
          let step = Encode s fields b.2.section.choices in (
            first.0 ++ step ∷ [],
            subst (λ (x : AbstractSession). RefinesSession maximum new x)
                (sym (after_last first.0 step w) ∙ sym (after_more steps (first.0 ++ step ∷ []) start))
                (subst (λ (x : Connection). RefinesSession maximum x (after_end_step w1 step))
                (same ∙ sym call.new_is)
                (section_refined maximum limit c1 w1 (record e { unsent = b.0 }) s fields call.section required k
                first.1 are few small b.2)),
          )
      | inr writes ↦
          let b = alone_behind c e fields call.section required writes in
          let same = begun_first c e s fields call.section [] required b.0 in (
            first.0 ++ EncodeAlone s fields ∷ [],
            subst (λ (x : AbstractSession). RefinesSession maximum new x)
                (sym (after_last first.0 (EncodeAlone s fields) w)
                ∙ sym (after_more steps (first.0 ++ EncodeAlone s fields ∷ []) start))
                (subst (λ (x : Connection). RefinesSession maximum x (after_end_step w1 (EncodeAlone s fields)))
                (same ∙ sym call.new_is)
                (alone_refined maximum c1 w1 (record e { unsent = [] }) s fields call.section required first.1 are
                small b.1)),
          )
    ]
