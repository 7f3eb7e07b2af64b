-- Events that write: after each, the session in bytes refines a session of values of which the invariant holds.
use Rattle.std.proofs.Common.{length-append, ℕ, ◌+◌, ◌-◌, ◌^◌, ◌<◌, ◌≤◌, ◌≡◌, Bool, true, false, cond, List, [], ◌∷◌}
use Rattle.std.proofs.Common.{◌++◌, length, take, Option, None, Some, Result, Ok, Err, refl, sym, ap, ◌∙◌, subst, arith}
use Rattle.std.proofs.Common.{inl, inr, ◌⊎◌}
use Rattle.std.specs.List.{AllByRecursion, filter}
use Rattle.std.specs.Prelude.{nat_eq, nat_le, nat_lt}
use Rattle.std.proofs.lemmas.Bool.{eq-eqb, leb-false}
use Rattle.std.proofs.lemmas.List.{append-nil, append_assoc}
use Rattle.qpack_spec.specs.Field.{Field}
use Rattle.qpack_spec.specs.Instruction.{EncoderInstruction, SetCapacity, Acknowledgment, Cancellation}
use Rattle.qpack_spec.specs.Instruction.{SpellsEncoderInstruction}
use Rattle.qpack_spec.specs.Instruction.{SpellsDecoderInstruction, written_encoder_instruction}
use Rattle.qpack_spec.specs.Instruction.{written_encoder_instructions, written_decoder_instruction}
use Rattle.qpack_spec.specs.Stream.{SpellsAll, Carries}
use Rattle.qpack_spec.specs.Window.{maximum_capacity, greatest_capacity, TableRefusal}
use Rattle.qpack_spec.specs.Reading.{Block, greatest_of}
use Rattle.qpack_spec.specs.Prefix.{written_prefix}
use Rattle.qpack_spec.specs.Line.{written_lines}
use Rattle.qpack_spec.specs.BlockReading.{coded_block, written_block}
use Rattle.qpack_spec.specs.Table.{Table, insert_count, with_capacity}
use Rattle.qpack_spec.specs.Rule.{rule, required_insert_count, block_of}
use Rattle.qpack_safety.specs.AbstractSession.{AbstractBlock, is_dynamic, AbstractSession, after_encode, after_abandon}
use Rattle.qpack_safety.specs.AbstractSession.{after_resize, waits_for_acknowledgment}
use Rattle.qpack_rules.specs.Session.{KeptBlock, KeptStream, stream_at, with_kept_stream, Session, FitsMemory}
use Rattle.qpack_rules.specs.Session.{awaits_acknowledgment}
use Rattle.qpack_rules.specs.Session.{requires_entry, unless_cancelled, with_block, after_refused_encode, with_decoded}
use Rattle.qpack_spec.specs.WrittenLaws.{IsByteField, IsWritableBlock}
use Rattle.qpack_spec.specs.Text.{Always}
use Rattle.qpack_spec.proofs.Lists.{every_right, every_weaker}
use Rattle.qpack_spec.proofs.Readings.{greatest_bound}
use Rattle.qpack_spec.proofs.Drafts.{IsLive, Drafting, count_inserted, rule_drafts}
use Rattle.qpack_spec.proofs.WrittenForms.{instructions_spelled, decoder_instructions_spelled}
use Rattle.qpack_spec.proofs.WrittenDrafts.{WrittenDraft, rule_written, lines_fit, instructions_fit}
use Rattle.qpack_safety.specs.Refines.{EndsAt, RefinesBlock, RefinesStream, Refines}
use Rattle.qpack_safety.proofs.Invariant.{Invariant, sound_made}
use Rattle.qpack_safety.proofs.Encoding.{inv_encoded, inv_abandoned}
use Rattle.qpack_safety.proofs.Decoding.{inv_decoded, inv_acked, inv_cancelled}
use Rattle.qpack_safety.proofs.Resizing.{CanResize, resized_table, resized_cases, inv_with_resized}
use Rattle.qpack_spec.proofs.Cuttings.{joined_append, carried_more}
use Rattle.qpack_safety.proofs.Shown.{agrees_push, shows_grow, shows_update, dynamic_many, instructions_joined}
use Rattle.qpack_safety.proofs.Shown.{one_joined, prefix_small}

-- a session in bytes refines some session of values, of which the invariant holds
pub record RefinesSome (capacity maximum limit : ℕ) (v : Session) : Type 0 where
  pub abstract : AbstractSession
  pub refines : Refines v abstract
  pub keeps : Invariant capacity maximum limit abstract

pub few_insertions : (capacity maximum limit : ℕ) (w : AbstractSession) → Invariant capacity maximum limit w
    → insert_count w.encoder
    ≤ 2 ^ 62
few_insertions capacity maximum limit w k =
    let s = sound_made capacity maximum limit w k in
    omega (arith, count_inserted w.encoder k.made k.encoder.shares s, s.few)

-- all that is sent is the instructions written
pub whole_sent : (encoder_stream : List ℕ) (position : ℕ) (taken in_flight : List EncoderInstruction)
    → Carries EncoderInstruction SpellsEncoderInstruction encoder_stream position taken in_flight
    → SpellsAll SpellsEncoderInstruction encoder_stream (taken ++ in_flight)
whole_sent encoder_stream position taken in_flight c =
    subst (λ (b : List ℕ). SpellsAll SpellsEncoderInstruction b (taken ++ in_flight)) (sym c.cut)
    (joined_append SpellsEncoderInstruction c.front c.rest taken in_flight c.front_joined c.rest_joined)

ends_here : (encoder_stream : List ℕ) (lines : List EncoderInstruction)
    → SpellsAll SpellsEncoderInstruction encoder_stream lines
    → EndsAt encoder_stream lines (length encoder_stream) (length lines)
ends_here encoder_stream lines j =
    record {
      front = encoder_stream;
      rest = [];
      cut = sym (append-nil encoder_stream);
      position_is = refl;
      first = lines;
      others = [];
      split = sym (append-nil lines);
      many_is = refl;
      joined = j;
    }

lines_short : (b : Block) → length (written_block b) < 2 ^ 63 → length (written_lines b.lines) < 2 ^ 63
unfolding coded_block
lines_short b h = omega (arith, h, length-append (written_prefix b.prefix) (written_lines b.lines))

instructions_short : (encoder_stream : List ℕ) (is : List EncoderInstruction)
    → length (encoder_stream ++ written_encoder_instructions is) < 2 ^ 63
    → length (written_encoder_instructions is) < 2 ^ 63
instructions_short encoder_stream is h = omega
    (arith, h, length-append encoder_stream (written_encoder_instructions is))

-- the block of the rule can be written
block_writable : (capacity maximum limit : ℕ) (w : AbstractSession) (fs : List Field)
    → Invariant capacity maximum limit w
    → AllByRecursion IsByteField fs → length (written_block (block_of w.encoder (rule w.encoder fs))) < 2 ^ 63
    → IsWritableBlock (block_of w.encoder (rule w.encoder fs))
block_writable capacity maximum limit w fs k wr fits =
    let d = rule w.encoder fs in
    let few = few_insertions capacity maximum limit w k in
    let wd : WrittenDraft d = rule_written w.encoder fs few wr in
    let p : Drafting w.encoder k.made fs d =
    rule_drafts w.encoder k.made fs (sound_made capacity maximum limit w k) k.encoder in
    let required : greatest_of d.table.referenced ≤ insert_count d.table =
    greatest_bound (insert_count d.table) d.table.referenced
    (every_weaker (IsLive d.table) (λ a. a ≤ insert_count d.table) (λ a q. q.1) d.table.referenced p.referenced) in
    record {
      prefix = prefix_small (maximum_capacity w.encoder.agreed_max w.encoder.capacity) (required_insert_count d)
          (insert_count w.encoder) (omega (arith, required, wd.few)) few;
      lines =
          lines_fit Always d.lines wd.lines (lines_short (block_of w.encoder d) fits);
    }

-- ---- a block is written

-- what an encode writes has fewer than 2^63 bytes
abbrev EncodeFits : List ℕ → Table → List Field → Type 0
EncodeFits encoder_stream t fs =
    (length (encoder_stream ++ written_encoder_instructions (rule t fs).instructions) < 2 ^ 63)
    × (length (written_block (block_of t (rule t fs))) < 2 ^ 63)

last_fits : (bs : List KeptBlock) (b : KeptBlock)
    → AllByRecursion (λ (x : KeptBlock). length x.bytes < 2 ^ 63) (bs ++ b ∷ []) → length b.bytes < 2 ^ 63
last_fits bs b h = (every_right (λ (x : KeptBlock). length x.bytes < 2 ^ 63) bs (b ∷ []) h).0

block_fits : (v : Session) (s : ℕ) (fs : List Field) → FitsMemory (with_block v s fs)
    → EncodeFits v.encoder_stream v.encoder fs
block_fits v s fs f =
    let d = rule v.encoder fs in
    let k = stream_at v.streams s in
    let b : KeptBlock =
    record {
      bytes = written_block (block_of v.encoder d);
      required = required_insert_count d;
      end = length (v.encoder_stream ++ written_encoder_instructions d.instructions);
      fields = fs;
    } in
    let all : AllByRecursion (λ (x : KeptBlock). length x.bytes < 2 ^ 63)
    (stream_at ((s, record k { blocks = k.blocks ++ b ∷ [] }) ∷ v.streams) s).blocks = f.blocks_fit s in
    (f.encoder_stream_fits, last_fits k.blocks b (own (nat_eq s s) (eq-eqb s s refl) all))
  where
    own : (t : Bool) → t ≡ true → AllByRecursion (λ (x : KeptBlock). length x.bytes < 2 ^ 63)
        (cond t (record (stream_at v.streams s) {
          blocks = (stream_at v.streams s).blocks
              ++ record {
                bytes = written_block (block_of v.encoder (rule v.encoder fs));
                required = required_insert_count (rule v.encoder fs);
                end =
                    length (v.encoder_stream ++ written_encoder_instructions (rule v.encoder fs).instructions);
                fields = fs;
              } ∷ [];
        })
        (stream_at v.streams s)).blocks
        → AllByRecursion (λ (x : KeptBlock). length x.bytes < 2 ^ 63)
        ((stream_at v.streams s).blocks ++ record {
          bytes = written_block (block_of v.encoder (rule v.encoder fs));
          required = required_insert_count (rule v.encoder fs);
          end =
              length (v.encoder_stream ++ written_encoder_instructions (rule v.encoder fs).instructions);
          fields = fs;
        } ∷ [])
    own true e h = h
    own false e h = absurd cc

encoded_shown : (capacity maximum limit : ℕ) (v : Session) (w : AbstractSession) (s : ℕ) (fs : List Field) → Refines v w
    → Invariant capacity maximum limit w → AllByRecursion IsByteField fs
    → EncodeFits v.encoder_stream w.encoder fs
    → RefinesSome capacity maximum limit (with_block (record v { encoder = w.encoder }) s fs)
encoded_shown capacity maximum limit v w s fs sh k wr fits =
    let d = rule w.encoder fs in
    let wd : WrittenDraft d = rule_written w.encoder fs (few_insertions capacity maximum limit w k) wr in
    let more = written_encoder_instructions d.instructions in
    let encoder_stream = v.encoder_stream ++ more in
    let lines = w.taken ++ (w.in_flight ++ d.instructions) in
    let regroup : (w.taken ++ w.in_flight) ++ d.instructions ≡ lines =
    append_assoc w.taken w.in_flight d.instructions in
    let carried =
    carried_more SpellsEncoderInstruction v.encoder_stream more v.encoder_stream_taken w.taken w.in_flight
    d.instructions sh.encoder_stream
    (instructions_joined Always d.instructions (instructions_fit Always d.instructions wd.instructions
    (instructions_short v.encoder_stream d.instructions fits.0))) in
    let grown =
    λ (q : ℕ). subst (λ (l : List EncoderInstruction). RefinesStream encoder_stream l (stream_at v.streams q)
    (stream_at w.streams q)) regroup
    (shows_grow v.encoder_stream more (w.taken ++ w.in_flight) d.instructions (stream_at v.streams q)
    (stream_at w.streams q)
    (sh.streams_are q)) in
    let kept = stream_at v.streams s in
    let st = stream_at w.streams s in
    let b : KeptBlock =
    record {
      bytes = written_block (block_of w.encoder d);
      required = required_insert_count d;
      end = length encoder_stream;
      fields = fs;
    } in
    let x : AbstractBlock =
    record { block = block_of w.encoder d; referenced = d.table.referenced; end = length lines; fields = fs } in
    let shown : RefinesBlock encoder_stream lines b x = record {
      bytes_are = refl;
      writable = block_writable capacity maximum limit w fs k wr fits.1;
      required_is = refl;
      handed_are = refl;
      ends = ends_here encoder_stream lines
          (whole_sent encoder_stream v.encoder_stream_taken w.taken (w.in_flight ++ d.instructions) carried);
    } in
    let old : RefinesStream encoder_stream lines kept st = grown s in
    let new : RefinesStream encoder_stream lines (record kept { blocks = kept.blocks ++ b ∷ [] })
    (record st { blocks = st.blocks ++ x ∷ [] }) = record {
      blocks_are = agrees_push (RefinesBlock encoder_stream lines) kept.blocks st.blocks b x old.blocks_are shown;
      decoded_is = old.decoded_is;
      acknowledged_is = old.acknowledged_is;
      cancelled_is = old.cancelled_is;
    } in
    record {
      abstract = after_encode w s fs d;
      refines = record {
        encoder_is = refl;
        decoder_is = sh.decoder_is;
        unreported_is = sh.unreported_is;
        encoder_stream = carried;
        encoder_stream_order = sh.encoder_stream_order;
        decoder_taken = sh.decoder_taken;
        decoder_stream = sh.decoder_stream;
        decoder_stream_order = sh.decoder_stream_order;
        streams_are =
            λ q. shows_update (RefinesStream encoder_stream lines) (nat_eq s q) (stream_at v.streams q)
            (record kept { blocks = kept.blocks ++ b ∷ [] }) (stream_at w.streams q)
            (record st { blocks = st.blocks ++ x ∷ [] }) new (grown q);
      };
      keeps = inv_encoded capacity maximum limit w s fs k;
    }

pub lands_encoded : (capacity maximum limit : ℕ) (v : Session) (w : AbstractSession) (s : ℕ) (fs : List Field)
    → Refines v w
    → Invariant capacity maximum limit w → AllByRecursion IsByteField fs → FitsMemory (with_block v s fs)
    → RefinesSome capacity maximum limit (with_block v s fs)
lands_encoded capacity maximum limit v w s fs sh k wr f =
    let fits : EncodeFits v.encoder_stream w.encoder fs =
    subst (λ (t : Table). EncodeFits v.encoder_stream t fs) sh.encoder_is (block_fits v s fs f) in
    subst (λ (t : Table). RefinesSome capacity maximum limit (with_block (record v { encoder = t }) s fs))
    (sym sh.encoder_is)
    (encoded_shown capacity maximum limit v w s fs sh k wr fits)

-- ---- a block is given up

abandoned_shown : (capacity maximum limit : ℕ) (v : Session) (w : AbstractSession) (fs : List Field) → Refines v w
    → Invariant capacity maximum limit w → AllByRecursion IsByteField fs
    → length (v.encoder_stream ++ written_encoder_instructions (rule w.encoder fs).instructions) < 2 ^ 63
    → RefinesSome capacity maximum limit (after_refused_encode (record v { encoder = w.encoder }) fs)
abandoned_shown capacity maximum limit v w fs sh k wr fits =
    let d = rule w.encoder fs in
    let wd : WrittenDraft d = rule_written w.encoder fs (few_insertions capacity maximum limit w k) wr in
    let more = written_encoder_instructions d.instructions in
    let regroup : (w.taken ++ w.in_flight) ++ d.instructions ≡ w.taken ++ (w.in_flight ++ d.instructions) =
    append_assoc w.taken w.in_flight d.instructions in
    record {
      abstract = after_abandon w d;
      refines = record {
        encoder_is = refl;
        decoder_is = sh.decoder_is;
        unreported_is = sh.unreported_is;
        encoder_stream =
            carried_more SpellsEncoderInstruction v.encoder_stream more v.encoder_stream_taken w.taken w.in_flight
            d.instructions
            sh.encoder_stream (instructions_joined Always d.instructions
            (instructions_fit Always d.instructions wd.instructions
            (instructions_short v.encoder_stream d.instructions fits)));
        encoder_stream_order = sh.encoder_stream_order;
        decoder_taken = sh.decoder_taken;
        decoder_stream = sh.decoder_stream;
        decoder_stream_order = sh.decoder_stream_order;
        streams_are =
            λ q. subst (λ (l : List EncoderInstruction). RefinesStream (v.encoder_stream ++ more) l
            (stream_at v.streams q)
            (stream_at w.streams q)) regroup
            (shows_grow v.encoder_stream more (w.taken ++ w.in_flight) d.instructions (stream_at v.streams q)
            (stream_at w.streams q) (sh.streams_are q));
      };
      keeps = inv_abandoned capacity maximum limit w fs k;
    }

pub lands_given_up : (capacity maximum limit : ℕ) (v : Session) (w : AbstractSession) (fs : List Field) → Refines v w
    → Invariant capacity maximum limit w → AllByRecursion IsByteField fs → FitsMemory (after_refused_encode v fs)
    → RefinesSome capacity maximum limit (after_refused_encode v fs)
lands_given_up capacity maximum limit v w fs sh k wr f =
    let fits : length (v.encoder_stream ++ written_encoder_instructions (rule w.encoder fs).instructions) < 2 ^ 63 =
    subst (λ (t : Table). length (v.encoder_stream ++ written_encoder_instructions (rule t fs).instructions)
    < 2 ^ 63) sh.encoder_is
    f.encoder_stream_fits in
    subst (λ (t : Table). RefinesSome capacity maximum limit (after_refused_encode (record v { encoder = t }) fs))
    (sym sh.encoder_is)
    (abandoned_shown capacity maximum limit v w fs sh k wr fits)

-- ---- a capacity is set

bounded : (o : Option ℕ) → greatest_capacity o ≤ 2 ^ 30 - 1
bounded None = omega arith
bounded (Some m) = omega arith

small_capacity : (t u : Table) (n : ℕ) → with_capacity t n ≡ Ok u → n < 2 ^ 63
small_capacity t u n e = pick (resized_cases t n)
  where
    pick : (CanResize t n × (with_capacity t n ≡ Ok (resized_table t n)))
        ⊎ ((r : TableRefusal) × (with_capacity t n ≡ Err r))
        → n < 2 ^ 63
    pick (inl p) = omega (arith, p.0.within, bounded t.agreed_max)
    pick (inr p) = absurd (let q = p.1 in cc)

pub lands_resized : (capacity maximum limit : ℕ) (v : Session) (w : AbstractSession) (n : ℕ) (t : Table) → Refines v w
    → Invariant capacity maximum limit w → with_capacity v.encoder n ≡ Ok t
    → RefinesSome capacity maximum limit
    (record v { encoder = t; encoder_stream = v.encoder_stream ++ written_encoder_instruction (SetCapacity n) })
lands_resized capacity maximum limit v w n t sh k e =
    let same : with_capacity w.encoder n ≡ Ok t = ap (λ x. with_capacity x n) (sym sh.encoder_is) ∙ e in
    let more = written_encoder_instruction (SetCapacity n) in
    let spelled =
    one_joined SpellsEncoderInstruction more (SetCapacity n)
    (instructions_spelled Always (SetCapacity n) (small_capacity w.encoder t n same)) in
    let regroup : (w.taken ++ w.in_flight) ++ SetCapacity n ∷ [] ≡ w.taken ++ (w.in_flight ++ SetCapacity n ∷ []) =
    append_assoc w.taken w.in_flight (SetCapacity n ∷ []) in
    record {
      abstract = record w { encoder = t; in_flight = w.in_flight ++ SetCapacity n ∷ [] };
      refines = record {
        encoder_is = refl;
        decoder_is = sh.decoder_is;
        unreported_is = sh.unreported_is;
        encoder_stream =
            carried_more SpellsEncoderInstruction v.encoder_stream more v.encoder_stream_taken w.taken w.in_flight
            (SetCapacity n ∷ [])
            sh.encoder_stream spelled;
        encoder_stream_order = sh.encoder_stream_order;
        decoder_taken = sh.decoder_taken;
        decoder_stream = sh.decoder_stream;
        decoder_stream_order = sh.decoder_stream_order;
        streams_are =
            λ q. subst (λ (l : List EncoderInstruction). RefinesStream (v.encoder_stream ++ more) l
            (stream_at v.streams q)
            (stream_at w.streams q)) regroup
            (shows_grow v.encoder_stream more (w.taken ++ w.in_flight) (SetCapacity n ∷ []) (stream_at v.streams q)
            (stream_at w.streams q) (sh.streams_are q));
      };
      keeps = subst (λ (r : Result Table TableRefusal). Invariant capacity maximum limit (after_resize w n r)) same
          (inv_with_resized capacity maximum limit w n k);
    }

-- ---- a block is decoded, acknowledged, a stream cancelled

pub lands_decoded : (capacity maximum limit : ℕ) (v : Session) (w : AbstractSession) (s : ℕ) → Refines v w
    → Invariant capacity maximum limit w → RefinesSome capacity maximum limit (with_decoded v s)
lands_decoded capacity maximum limit v w s sh k =
    let kept = stream_at v.streams s in
    let st = stream_at w.streams s in
    let old = sh.streams_are s in
    let lines = w.taken ++ w.in_flight in
    let new : RefinesStream v.encoder_stream lines (record kept { decoded = kept.decoded + 1 })
    (record st { decoded = st.decoded + 1 }) =
    record {
      blocks_are = old.blocks_are;
      decoded_is = omega (arith, old.decoded_is);
      acknowledged_is = old.acknowledged_is;
      cancelled_is = old.cancelled_is;
    } in
    record {
      abstract = record w { streams = (s, record st { decoded = st.decoded + 1 }) ∷ w.streams };
      refines = record {
        encoder_is = sh.encoder_is;
        decoder_is = sh.decoder_is;
        unreported_is = sh.unreported_is;
        encoder_stream = sh.encoder_stream;
        encoder_stream_order = sh.encoder_stream_order;
        decoder_taken = sh.decoder_taken;
        decoder_stream = sh.decoder_stream;
        decoder_stream_order = sh.decoder_stream_order;
        streams_are =
            λ q. shows_update (RefinesStream v.encoder_stream lines) (nat_eq s q) (stream_at v.streams q)
            (record kept { decoded = kept.decoded + 1 }) (stream_at w.streams q)
            (record st { decoded = st.decoded + 1 }) new (sh.streams_are q);
      };
      keeps = inv_decoded capacity maximum limit w s k;
    }

-- what is lawful on a stream
pub record Lawful (s : ℕ) (k : KeptStream) (lawful : Bool) : Type 0 where
  pub small : s < 2 ^ 62
  pub live : k.cancelled ≡ false
  pub holds : lawful ≡ true

pub lawful_on : (s : ℕ) (k : KeptStream) (lawful : Bool) (reason : ℕ)
    → cond (nat_le (2 ^ 62) s) (Some 1) (unless_cancelled k lawful reason) ≡ None → Lawful s k lawful
lawful_on s k lawful reason = one (nat_le (2 ^ 62) s) refl k.cancelled refl lawful refl
  where
    one : (a : Bool) → nat_le (2 ^ 62) s ≡ a → (b : Bool) → k.cancelled ≡ b → (c : Bool) → lawful ≡ c
        → cond a (Some 1) (cond b (Some 3) (cond c None (Some reason))) ≡ None → Lawful s k lawful
    one true p b q c r h = absurd cc
    one false p true q c r h = absurd cc
    one false p false q true r h = record { small = leb-false _ _ p; live = q; holds = r }
    one false p false q false r h = absurd cc

waits_same : (v : Session) (w : AbstractSession) (s : ℕ) → Refines v w → (stream_at v.streams s).cancelled ≡ false
    → awaits_acknowledgment requires_entry (stream_at v.streams s) ≡ true
    → waits_for_acknowledgment (stream_at w.streams s) ≡ true
waits_same v w s sh live h =
    let kept = stream_at v.streams s in
    let st = stream_at w.streams s in
    let old = sh.streams_are s in
    let c : st.cancelled ≡ false = sym old.cancelled_is ∙ live in
    let n : length (filter requires_entry (take kept.decoded kept.blocks))
    ≡ length (filter is_dynamic (take st.decoded st.blocks)) =
    dynamic_many v.encoder_stream (w.taken ++ w.in_flight) kept.decoded kept.blocks st.blocks old.blocks_are
    ∙ ap (λ m. length (filter is_dynamic (take m st.blocks))) old.decoded_is in
    let t : nat_lt st.acknowledged (length (filter is_dynamic (take st.decoded st.blocks))) ≡ true =
    ap (λ m. nat_lt m (length (filter is_dynamic (take st.decoded st.blocks)))) (sym old.acknowledged_is)
    ∙ ap (nat_lt kept.acknowledged) (sym n) ∙ h in
    rw (c, t) refl

pub lands_acknowledged : (capacity maximum limit : ℕ) (v : Session) (w : AbstractSession) (s : ℕ) → Refines v w
    → Invariant capacity maximum limit w
    → Lawful s (stream_at v.streams s) (awaits_acknowledgment requires_entry (stream_at v.streams s))
    → (let k = stream_at v.streams s in RefinesSome capacity maximum limit
    (record (with_kept_stream v s (record k { acknowledged = k.acknowledged + 1 }))
    { decoder_stream = v.decoder_stream ++ written_decoder_instruction (Acknowledgment s) }))
lands_acknowledged capacity maximum limit v w s sh k ok =
    let kept = stream_at v.streams s in
    let st = stream_at w.streams s in
    let old = sh.streams_are s in
    let lines = w.taken ++ w.in_flight in
    let more = written_decoder_instruction (Acknowledgment s) in
    let spelled =
    one_joined SpellsDecoderInstruction more (Acknowledgment s)
    (decoder_instructions_spelled (Acknowledgment s) (omega (arith, ok.small))) in
    let new : RefinesStream v.encoder_stream lines (record kept { acknowledged = kept.acknowledged + 1 })
    (record st { acknowledged = st.acknowledged + 1 }) =
    record {
      blocks_are = old.blocks_are;
      decoded_is = old.decoded_is;
      acknowledged_is = omega (arith, old.acknowledged_is);
      cancelled_is = old.cancelled_is;
    } in
    record {
      abstract =
          record w {
            decoder_in_flight = w.decoder_in_flight ++ Acknowledgment s ∷ [];
            streams = (s, record st { acknowledged = st.acknowledged + 1 }) ∷ w.streams;
          };
      refines = record {
        encoder_is = sh.encoder_is;
        decoder_is = sh.decoder_is;
        unreported_is = sh.unreported_is;
        encoder_stream = sh.encoder_stream;
        encoder_stream_order = sh.encoder_stream_order;
        decoder_taken = sh.decoder_taken;
        decoder_stream =
            carried_more SpellsDecoderInstruction v.decoder_stream more v.decoder_stream_taken sh.decoder_taken
            w.decoder_in_flight
            (Acknowledgment s ∷ []) sh.decoder_stream spelled;
        decoder_stream_order = sh.decoder_stream_order;
        streams_are =
            λ q. shows_update (RefinesStream v.encoder_stream lines) (nat_eq s q) (stream_at v.streams q)
            (record kept { acknowledged = kept.acknowledged + 1 }) (stream_at w.streams q)
            (record st { acknowledged = st.acknowledged + 1 }) new (sh.streams_are q);
      };
      keeps = inv_acked capacity maximum limit w s (waits_same v w s sh ok.live ok.holds) k;
    }

pub lands_cancelled : (capacity maximum limit : ℕ) (v : Session) (w : AbstractSession) (s : ℕ) → Refines v w
    → Invariant capacity maximum limit w → s < 2 ^ 62
    → (let k = stream_at v.streams s in RefinesSome capacity maximum limit
    (record (with_kept_stream v s (record k { cancelled = true })) {
      decoder_stream = v.decoder_stream
          ++ written_decoder_instruction (Cancellation s);
    }))
lands_cancelled capacity maximum limit v w s sh k small =
    let kept = stream_at v.streams s in
    let st = stream_at w.streams s in
    let old = sh.streams_are s in
    let lines = w.taken ++ w.in_flight in
    let more = written_decoder_instruction (Cancellation s) in
    let spelled =
    one_joined SpellsDecoderInstruction more (Cancellation s)
    (decoder_instructions_spelled (Cancellation s) (omega (arith, small))) in
    let new : RefinesStream v.encoder_stream lines (record kept { cancelled = true }) (record st { cancelled = true }) =
    record {
      blocks_are = old.blocks_are;
      decoded_is = old.decoded_is;
      acknowledged_is = old.acknowledged_is;
      cancelled_is = refl;
    } in
    record {
      abstract =
          record w {
            decoder_in_flight = w.decoder_in_flight ++ Cancellation s ∷ [];
            streams = (s, record st { cancelled = true }) ∷ w.streams;
          };
      refines = record {
        encoder_is = sh.encoder_is;
        decoder_is = sh.decoder_is;
        unreported_is = sh.unreported_is;
        encoder_stream = sh.encoder_stream;
        encoder_stream_order = sh.encoder_stream_order;
        decoder_taken = sh.decoder_taken;
        decoder_stream =
            carried_more SpellsDecoderInstruction v.decoder_stream more v.decoder_stream_taken sh.decoder_taken
            w.decoder_in_flight (Cancellation s ∷ [])
            sh.decoder_stream spelled;
        decoder_stream_order = sh.decoder_stream_order;
        streams_are =
            λ q. shows_update (RefinesStream v.encoder_stream lines) (nat_eq s q) (stream_at v.streams q)
            (record kept { cancelled = true }) (stream_at w.streams q) (record st { cancelled = true }) new
            (sh.streams_are q);
      };
      keeps = inv_cancelled capacity maximum limit w s k;
    }
