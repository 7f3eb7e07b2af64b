-- What was handed to each section is what the bytes of its block are read to.
use Rattle.std.proofs.Common.{ℕ, ◌+◌, ◌<◌, ◌≤◌, ◌^◌, ◌≡◌, Bool, true, false, cond, List, [], ◌∷◌, ◌++◌, length}
use Rattle.std.proofs.Common.{Option, None, Some, Result, Ok, Err, refl, sym, ap, ◌∙◌, subst, inl, inr, ◌⊎◌, arith}
use Rattle.std.proofs.Common.{length-append}
use Rattle.std.specs.List.{AllByRecursion}
use Rattle.std.specs.Prelude.{nat_eq, not}
use Rattle.std.proofs.lemmas.Bool.{cond_both, cases_lt, eqb-true, or_right}
use Rattle.std.proofs.lemmas.List.{append-nil, append_assoc}
use Rattle.qpack_spec.specs.Field.{FieldLine, fields_of_lines, total_size}
use Rattle.qpack_spec.specs.History.{History, window_of, whole_window, initial_history}
use Rattle.qpack_spec.specs.Instruction.{EncoderInstruction, DecoderInstruction}
use Rattle.qpack_spec.specs.Line.{Line, IndexedStatic, IndexedDynamic, IndexedPostBase, NamedStatic, NamedDynamic}
use Rattle.qpack_spec.specs.Line.{NamedPostBase, Literal, coded_lines}
use Rattle.qpack_spec.specs.Chosen.{Chosen, chosen_rule}
use Rattle.qpack_spec.specs.Marked.{stateless_block_marked, coded_marked_lines, coded_marked_block}
use Rattle.qpack_spec.specs.MarkedLaws.{AreLiteralsWhereMarked}
use Rattle.qpack_spec.specs.Prefix.{Prefix, prefix_for, read_prefix, written_prefix}
use Rattle.qpack_spec.specs.Reading.{fields_of, references_of_line, references_of, greatest_of}
use Rattle.qpack_rules.specs.Session.{stream_at, with_stream, oldest_undecoded, is_read, sum_of, pieces_of}
use Rattle.qpack_spec.specs.StrictLaws.{IsStrict}
use Rattle.qpack_spec.specs.Table.{Table, with_capacity}
use Rattle.qpack_spec.specs.Text.{Coding}
use Rattle.qpack_spec.specs.Window.{Window, TableRefusal, window_insert_count, apply}
use Rattle.qpack_spec.specs.WrittenLaws.{IsByteField, IsByteLine, IsWritableBlockUnder}
use Rattle.qpack_rules.proofs.AloneSections.{literals_alone, written_alone}
use Rattle.qpack_spec.proofs.Drafts.{IsLive}
use Rattle.qpack_spec.proofs.Lists.{every_both, every_get}
use Rattle.qpack_rules.proofs.ChosenLines.{chosen_have_lines}
use Rattle.qpack_rules.proofs.ChosenWritten.{chosen_written}
use Rattle.qpack_spec.proofs.Positions.{every_number, numbers_none}
use Rattle.qpack_spec.proofs.Prefixes.{InReach, ReadsAs, maximum_of, prefix_dynamic, prefix_plain}
use Rattle.qpack_spec.proofs.Readings.{fields_kept, fields_plain, below_greatest, greatest_has, nil_parts}
use Rattle.qpack_rules.proofs.StrictWritten.{marked_sections_read, marked_sections_blocked, lines_length}
use Rattle.qpack_spec.proofs.Windows.{sound_start, leads_sound, leads_grows, Grows, Kept, kept_received}
use Rattle.qpack_spec.proofs.WrittenDrafts.{lines_fit}
use Rattle.qpack_safety.specs.AbstractSession.{AbstractBlock, required_count, is_dynamic, AbstractStream}
use Rattle.qpack_safety.specs.AbstractSession.{AbstractSession}
use Rattle.qpack_safety.specs.AbstractSession.{abstract_start, next_reading, waits_for_acknowledgment, after_resize}
use Rattle.qpack_safety.specs.AbstractSession.{after_take, take_next, after_hear, hear_next, after_step, after_steps}
use Rattle.qpack_safety.specs.AbstractSession as small
use Rattle.qpack_safety.specs.HandedSections.{handed_by, handed_on, IsBlockOf, BlocksAreOfWhatWasHanded, section_of}
use Rattle.qpack_safety.specs.HandedSections.{IsReadStrictly, SectionsAreReadStrictly}
use Rattle.qpack_safety.specs.Refines.{Agrees}
use Rattle.qpack_safety.specs.TwoEnds.{EndStep, Encode, Abandon, EncodeAlone, Resize, Take, Report, Hear, Decode}
use Rattle.qpack_safety.specs.TwoEnds.{Cancel}
use Rattle.qpack_safety.specs.TwoEnds.{Forget, decode_steps, after_end_step, after_end_steps}
use Rattle.qpack_safety.proofs.Invariant.{KeepsBlock, Invariant, sound_received, agreed_received, total_window}
use Rattle.qpack_safety.proofs.Safely.{undecoded_live, dropped_same, in_reach, block_reads, maximum_window}
use Rattle.qpack_safety.proofs.Shown.{agrees_push, agrees_get, prefix_small}
use Rattle.qpack_safety.proofs.TwoEnds.{Holds, holds_started, holds_step, holds_behind}
use Rattle.qpack_safety.proofs.WritingEvents.{few_insertions}

-- ---- each block is of what was handed

pub chosen_block : (capacity maximum limit : ℕ) (w : AbstractSession) (s : ℕ) (fields : List FieldLine)
    (cs : List Chosen) → Invariant capacity maximum limit w → (b : AbstractBlock) → b.fields ≡ fields_of_lines fields
    → b.block.lines ≡ (chosen_rule w.encoder fields cs).lines → IsBlockOf fields b
chosen_block capacity maximum limit w s fields cs k b same lines =
    record {
      fields_are = same;
      literals = subst (λ (ls : List Line). AreLiteralsWhereMarked fields ls) (sym lines)
          (chosen_have_lines w.encoder fields cs).0;
      bytes = λ are. subst (AllByRecursion IsByteLine) (sym lines)
          (chosen_written w.encoder fields cs (few_insertions capacity maximum limit w k) are).lines;
    }

pub alone_block : (fields : List FieldLine) (b : AbstractBlock) → b.fields ≡ fields_of_lines fields
    → b.block.lines ≡ (stateless_block_marked fields).lines → IsBlockOf fields b
alone_block fields b same lines =
    let some : Window = window_of (initial_history 0 0) in
    record {
      fields_are = same;
      literals = subst (λ (ls : List Line). AreLiteralsWhereMarked fields ls) (sym lines) (literals_alone some fields);
      bytes = λ are. subst (AllByRecursion IsByteLine) (sym lines) (written_alone some fields are);
    }

-- the blocks of a stream are of what was handed before
abbrev HasHanded : ℕ → List (List FieldLine) → AbstractSession → Type 0
HasHanded s handed w = Agrees IsBlockOf handed (stream_at w.streams s).blocks

-- a block more, of one stream
one_more : (s t : ℕ) (handed : List (List FieldLine)) (fields : List FieldLine) (ps : List (ℕ × AbstractStream))
    (b : AbstractBlock) → IsBlockOf fields b → Agrees IsBlockOf handed (stream_at ps s).blocks
    → Agrees IsBlockOf (handed ++ cond (nat_eq t s) (fields ∷ []) [])
    (stream_at (with_stream ps t (record (stream_at ps t) { blocks = (stream_at ps t).blocks ++ b ∷ [] })) s).blocks
one_more s t handed fields ps b of h = both (nat_eq t s) refl
  where
    new : AbstractStream
    new = record (stream_at ps t) { blocks = (stream_at ps t).blocks ++ b ∷ [] }

    both : (same : Bool) → nat_eq t s ≡ same
        → Agrees IsBlockOf (handed ++ cond same (fields ∷ []) []) (cond same new (stream_at ps s)).blocks
    both true e =
        agrees_push IsBlockOf handed (stream_at ps t).blocks fields b
        (subst (λ (x : ℕ). Agrees IsBlockOf handed (stream_at ps x).blocks) (sym (eqb-true t s e)) h) of
    both false e =
        subst (λ (x : List (List FieldLine)). Agrees IsBlockOf x (stream_at ps s).blocks) (sym (append-nil handed)) h

-- a stream of which only other parts change
none_more : (s t : ℕ) (handed : List (List FieldLine)) (ps : List (ℕ × AbstractStream)) (v : AbstractStream)
    → v.blocks ≡ (stream_at ps t).blocks → Agrees IsBlockOf handed (stream_at ps s).blocks
    → Agrees IsBlockOf handed (stream_at (with_stream ps t v) s).blocks
none_more s t handed ps v same h = both (nat_eq t s) refl
  where
    both : (b : Bool) → nat_eq t s ≡ b → Agrees IsBlockOf handed (cond b v (stream_at ps s)).blocks
    both true e =
        subst (λ (bs : List AbstractBlock). Agrees IsBlockOf handed bs) (sym same)
        (subst (λ (x : ℕ). Agrees IsBlockOf handed (stream_at ps x).blocks) (sym (eqb-true t s e)) h)
    both false e = h

resized_handed : (s : ℕ) (handed : List (List FieldLine)) (w : AbstractSession) (n : ℕ) (r : Result Table TableRefusal)
    → HasHanded s handed w → HasHanded s handed (after_resize w n r)
resized_handed s handed w n (Ok t) h = h
resized_handed s handed w n (Err e) h = h

taken_handed : (s : ℕ) (handed : List (List FieldLine)) (w : AbstractSession) (is : List EncoderInstruction)
    → HasHanded s handed w → HasHanded s handed (take_next w is)
taken_handed s handed w [] h = h
taken_handed s handed w (i ∷ rest) h = go (apply w.decoder i)
  where
    go : (r : Result Window TableRefusal) → HasHanded s handed (after_take w i rest r)
    go (Ok new) = h
    go (Err e) = h

heard_handed : (s : ℕ) (handed : List (List FieldLine)) (w : AbstractSession) (rest : List DecoderInstruction)
    (r : Result Table TableRefusal) → HasHanded s handed w → HasHanded s handed (after_hear w rest r)
heard_handed s handed w rest (Ok t) h = h
heard_handed s handed w rest (Err e) h = h

hearing_handed : (s : ℕ) (handed : List (List FieldLine)) (w : AbstractSession) (rs : List DecoderInstruction)
    → HasHanded s handed w → HasHanded s handed (hear_next w rs)
hearing_handed s handed w [] h = h
hearing_handed s handed w (r ∷ rest) h = heard_handed s handed w rest _ h

reported_handed : (s : ℕ) (handed : List (List FieldLine)) (w : AbstractSession) (ps : List ℕ)
    → HasHanded s handed w → HasHanded s handed (after_step w (small.Report ps))
reported_handed s handed w ps h =
    cond_both (nat_eq (sum_of ps) w.unreported) _ w (HasHanded s handed) (λ _. h) (λ _. h)

decoded_handed : (s t : ℕ) (handed : List (List FieldLine)) (w : AbstractSession) → HasHanded s handed w
    → HasHanded s handed (after_step w (small.Decode t))
decoded_handed s t handed w h =
    cond_both (is_read (next_reading w t)) _ w (HasHanded s handed)
    (λ _. none_more s t handed w.streams
    (record (stream_at w.streams t) { decoded = (stream_at w.streams t).decoded + 1 }) refl h) (λ _. h)

acknowledged_handed : (s t : ℕ) (handed : List (List FieldLine)) (w : AbstractSession) → HasHanded s handed w
    → HasHanded s handed (after_step w (small.Acknowledge t))
acknowledged_handed s t handed w h =
    cond_both (waits_for_acknowledgment (stream_at w.streams t)) _ w (HasHanded s handed)
    (λ _. none_more s t handed w.streams
    (record (stream_at w.streams t) { acknowledged = (stream_at w.streams t).acknowledged + 1 }) refl h) (λ _. h)

decoding_handed : (s t : ℕ) (handed : List (List FieldLine)) (w : AbstractSession) (o : Option AbstractBlock)
    → HasHanded s handed w → HasHanded s handed (after_steps (decode_steps w t o) w)
decoding_handed s t handed w None h = h
decoding_handed s t handed w (Some b) h = both (is_read (next_reading w t)) (is_dynamic b)
  where
    reported : AbstractSession
    reported = after_step w (small.Report (pieces_of w.unreported))

    both : (r d : Bool)
        → HasHanded s handed (after_steps (cond (not r) [] (cond d
        (small.Report (pieces_of w.unreported) ∷ small.Decode t ∷ small.Acknowledge t ∷ []) (small.Decode t ∷ []))) w)
    both true true =
        acknowledged_handed s t handed (after_step reported (small.Decode t))
        (decoded_handed s t handed reported (reported_handed s handed w (pieces_of w.unreported) h))
    both true false = decoded_handed s t handed w h
    both false d = h

-- nothing was handed
none_handed : (s : ℕ) (handed : List (List FieldLine)) (w : AbstractSession) → HasHanded s handed w
    → HasHanded s (handed ++ []) w
none_handed s handed w h = subst (λ (x : List (List FieldLine)). HasHanded s x w) (sym (append-nil handed)) h

step_handed : (capacity maximum limit : ℕ) (s : ℕ) (handed : List (List FieldLine)) (w : AbstractSession) (e : EndStep)
    → Holds capacity maximum limit w → HasHanded s handed w
    → HasHanded s (handed ++ handed_by s e) (after_end_step w e)
step_handed capacity maximum limit s handed w (Encode t ls cs) k h =
    one_more s t handed ls w.streams _ (chosen_block capacity maximum limit w t ls cs k.invariant _ refl refl) h
step_handed capacity maximum limit s handed w (Abandon ls cs) k h =
    none_handed s handed (after_end_step w (Abandon ls cs)) h
step_handed capacity maximum limit s handed w (EncodeAlone t ls) k h =
    one_more s t handed ls w.streams _ (alone_block ls _ refl refl) h
step_handed capacity maximum limit s handed w (Resize n) k h =
    none_handed s handed (after_end_step w (Resize n)) (resized_handed s handed w n (with_capacity w.encoder n) h)
step_handed capacity maximum limit s handed w Take k h =
    none_handed s handed (after_end_step w Take) (taken_handed s handed w w.in_flight h)
step_handed capacity maximum limit s handed w Report k h =
    none_handed s handed (after_end_step w Report) (reported_handed s handed w (pieces_of w.unreported) h)
step_handed capacity maximum limit s handed w Hear k h =
    none_handed s handed (after_end_step w Hear) (hearing_handed s handed w w.decoder_in_flight h)
step_handed capacity maximum limit s handed w (Decode t) k h =
    none_handed s handed (after_end_step w (Decode t))
    (decoding_handed s t handed w (oldest_undecoded (stream_at w.streams t)) h)
step_handed capacity maximum limit s handed w (Cancel t) k h =
    none_handed s handed (after_end_step w (Cancel t))
    (cond_both (stream_at w.streams t).cancelled w _ (HasHanded s handed) (λ _. h)
    (λ _. none_more s t handed w.streams (record (stream_at w.streams t) { cancelled = true }) refl h))
step_handed capacity maximum limit s handed w (Forget t) k h =
    none_handed s handed (after_end_step w (Forget t))
    (none_more s t handed w.streams (record (stream_at w.streams t) { cancelled = true }) refl h)

handed_behind : (capacity maximum limit : ℕ) (s : ℕ) (handed : List (List FieldLine)) (es : List EndStep)
    (w : AbstractSession) → Holds capacity maximum limit w → HasHanded s handed w
    → HasHanded s (handed ++ handed_on s es) (after_end_steps es w)
handed_behind capacity maximum limit s handed [] w k h = none_handed s handed w h
handed_behind capacity maximum limit s handed (e ∷ es) w k h =
    subst (λ (x : List (List FieldLine)). HasHanded s x (after_end_steps es (after_end_step w e)))
    (append_assoc handed (handed_by s e) (handed_on s es))
    (handed_behind capacity maximum limit s (handed ++ handed_by s e) es (after_end_step w e)
    (holds_step capacity maximum limit e w k) (step_handed capacity maximum limit s handed w e k h))

pub blocks_handed : BlocksAreOfWhatWasHanded
blocks_handed capacity maximum limit within steps s =
    handed_behind capacity maximum limit s [] steps (abstract_start capacity maximum limit)
    (holds_started capacity maximum limit within) tt

-- ---- a kept block is strict

count_at_zero : (maximum required base : ℕ) → maximum ≡ 0 → (prefix_for maximum required base).count ≡ 0
unfolding prefix_for
count_at_zero maximum required base none =
    rw (none, or_right (nat_eq required 0) (nat_eq 0 0) refl) refl

-- lines that reference nothing reference nothing at another base
line_names_none : (base base' : ℕ) (l : Line) → references_of_line base l ≡ [] → references_of_line base' l ≡ []
unfolding references_of_line
line_names_none base base' (IndexedStatic i) h = refl
line_names_none base base' (IndexedDynamic i) h = absurd cc
line_names_none base base' (IndexedPostBase i) h = absurd cc
line_names_none base base' (NamedStatic i v) h = refl
line_names_none base base' (NamedDynamic i v) h = absurd cc
line_names_none base base' (NamedPostBase i v) h = absurd cc
line_names_none base base' (Literal n v) h = refl

names_none : (base base' : ℕ) (ls : List Line) → references_of base ls ≡ [] → references_of base' ls ≡ []
unfolding references_of
names_none base base' [] h = refl
names_none base base' (l ∷ ls) h =
    let p = nil_parts (references_of_line base l) (references_of base ls) h in
    rw (line_names_none base base' l p.0, names_none base base' ls p.1) refl

-- how a strict decoder reads a block: its prefix to the count that it requires, and a base; its lines are strict, and
-- mean the fields under a later window, and under its own once it received what is required
record ReadsBlock (w : Window) (b : AbstractBlock) : Type 0 where
  pub base : ℕ
  pub prefix : read_prefix (window_insert_count w) (maximum_of w) b.block.prefix ≡ Ok (required_count b, base)
  pub strict : IsStrict (maximum_of w) (required_count b) base b.block
  pub later : Window
  pub means_later : fields_of later base b.block.lines ≡ Ok b.fields
  pub means : required_count b ≤ window_insert_count w → fields_of w base b.block.lines ≡ Ok b.fields

reads_block : (capacity maximum limit : ℕ) (w : AbstractSession) (k : Invariant capacity maximum limit w) (s : ℕ)
    (b : AbstractBlock) → (stream_at w.streams s).cancelled ≡ false
    → oldest_undecoded (stream_at w.streams s) ≡ Some b → ReadsBlock w.decoder b
reads_block capacity maximum limit w k s b live there = pick (cases_lt 0 (greatest_of b.referenced))
  where
    ok : KeepsBlock capacity maximum k.made (w.taken ++ w.in_flight) b
    ok = every_get (KeepsBlock capacity maximum k.made (w.taken ++ w.in_flight)) (stream_at w.streams s).blocks
        (stream_at w.streams s).decoded b there (k.streams s).blocks

    received : window_insert_count w.decoder ≡ length k.received.inserted
    received = ap window_insert_count k.decoder ∙ total_window k.received (sound_received capacity maximum limit w k)

    agreed_max : maximum_of w.decoder ≡ maximum
    agreed_max = maximum_window w.decoder k.received maximum k.decoder (agreed_received capacity maximum limit w k)

    no_count : maximum_of w.decoder ≡ 0 → b.block.prefix.count ≡ 0
    no_count none =
        ap (λ (p : Prefix). p.count) ok.written
        ∙ count_at_zero maximum (greatest_of b.referenced) ok.base (sym agreed_max ∙ none)

    reads : (0 < greatest_of b.referenced → InReach (window_insert_count w.decoder) maximum (greatest_of b.referenced))
        → ReadsAs (window_insert_count w.decoder) (maximum_of w.decoder)
        (greatest_of b.referenced) ok.base b.block.prefix
    reads reach =
        block_reads capacity maximum (window_insert_count w.decoder) (maximum_of w.decoder) k.made
        (w.taken ++ w.in_flight) b ok agreed_max reach

    pick : (0 < greatest_of b.referenced) ⊎ (greatest_of b.referenced ≤ 0) → ReadsBlock w.decoder b
    pick (inl positive) =
        let held : AllByRecursion (IsLive w.encoder) b.referenced =
        undecoded_live capacity maximum limit w k s b live there positive in
        let top : IsLive w.encoder (greatest_of b.referenced) = greatest_has
        (IsLive w.encoder) b.referenced positive held in
        let p = reads (λ r. in_reach capacity maximum limit w k (greatest_of b.referenced) top r) in
        let g : Grows k.received k.made = leads_grows k.received w.in_flight k.made k.in_flight_leads in
        let d : w.encoder.dropped ≡ k.made.dropped = dropped_same w.encoder k.made k.encoder.shares in
        record {
          base = ok.base;
          prefix = prefix_dynamic (window_insert_count w.decoder) (maximum_of w.decoder) (greatest_of b.referenced)
              ok.base b.block.prefix p positive;
          strict = record {
            references = (every_number (λ a. a ≤ greatest_of b.referenced) (references_of ok.base b.block.lines) []
                (subst (AllByRecursion (λ a. a ≤ greatest_of b.referenced)) (sym ok.references)
                (below_greatest b.referenced))).1;
            no_count = no_count;
            not_below = λ z. absurd (omega (arith, z, positive));
          };
          later = whole_window k.made;
          means_later = ok.means;
          means = λ le.
              let kept : AllByRecursion (Kept (whole_window k.made) w.decoder) b.referenced =
              every_both (IsLive w.encoder) (λ a. a ≤ greatest_of b.referenced) (Kept (whole_window k.made) w.decoder)
              (λ a q r. subst (λ (x : Window). Kept (whole_window k.made) x a) (sym k.decoder)
              (kept_received k.received k.made a g (omega (arith, q.0, d)) (omega (arith, r, le, received))))
              b.referenced held (below_greatest b.referenced) in
              fields_kept (whole_window k.made) w.decoder ok.base b.block.lines b.fields
              (every_number (Kept (whole_window k.made) w.decoder) (references_of ok.base b.block.lines) []
              (subst (AllByRecursion (Kept (whole_window k.made) w.decoder)) (sym ok.references) kept)).1 ok.means;
        }
    pick (inr none) =
        let zero_count : greatest_of b.referenced ≡ 0 = omega (arith, none) in
        let p : ReadsAs (window_insert_count w.decoder) (maximum_of w.decoder) 0 ok.base b.block.prefix =
        rw zero_count at (reads (λ r. absurd (omega (arith, r, none)))) in
        let nothing : references_of ok.base b.block.lines ≡ [] =
        numbers_none (references_of ok.base b.block.lines) (ok.references ∙ ok.plain zero_count) in
        let means : (x : Window) → fields_of x 0 b.block.lines ≡ Ok b.fields =
        λ x. sym (fields_plain (whole_window k.made) x ok.base 0 b.block.lines nothing) ∙ ok.means in
        record {
          base = 0;
          prefix = subst (λ (n : ℕ). read_prefix (window_insert_count w.decoder) (maximum_of w.decoder) b.block.prefix
              ≡ Ok (n, 0)) (sym zero_count)
              (prefix_plain (window_insert_count w.decoder) (maximum_of w.decoder) ok.base b.block.prefix p);
          strict = record {
            references = subst (AllByRecursion (λ a. a ≤ greatest_of b.referenced))
                (sym (names_none ok.base 0 b.block.lines nothing)) tt;
            no_count = no_count;
            not_below = λ _. p.not_below refl;
          };
          later = whole_window k.made;
          means_later = means (whole_window k.made);
          means = λ _. means w.decoder;
        }

-- ---- and its bytes are read so

fewer_lines : (coding : Coding) (fields : List FieldLine) (b : AbstractBlock)
    → length (section_of coding fields b) < 2 ^ 63 → length (coded_lines coding b.block.lines) < 2 ^ 63
unfolding coded_marked_block
fewer_lines coding fields b short =
    omega (
      arith,
      short,
      length-append (written_prefix b.block.prefix) (coded_marked_lines coding fields b.block.lines),
      lines_length coding fields b.block.lines,
    )

writable : (coding : Coding) (capacity maximum : ℕ) (made : History) (stream : List EncoderInstruction) (fields : List FieldLine)
    (b : AbstractBlock) → KeepsBlock capacity maximum made stream b → IsBlockOf fields b
    → AllByRecursion IsByteField (fields_of_lines fields) → length (section_of coding fields b) < 2 ^ 63
    → IsWritableBlockUnder coding b.block
writable coding capacity maximum made stream fields b ok of are short =
    let sound = leads_sound (initial_history capacity maximum) ok.front ok.at_end ok.leads
    (sound_start capacity maximum) in
    record {
      prefix = rw ok.written (prefix_small maximum (greatest_of b.referenced) ok.base
          (omega (arith, ok.within, sound.few)) ok.few);
      lines = lines_fit coding b.block.lines (of.bytes are) (fewer_lines coding fields b short);
    }

-- the next section of a stream, of these fields
pub block_read : (coding : Coding) (capacity maximum limit size : ℕ) (w : AbstractSession) → Invariant capacity maximum limit w → (s : ℕ)
    (fields : List FieldLine) (b : AbstractBlock) → (stream_at w.streams s).cancelled ≡ false
    → oldest_undecoded (stream_at w.streams s) ≡ Some b → IsBlockOf fields b
    → AllByRecursion IsByteField (fields_of_lines fields) → length (section_of coding fields b) < 2 ^ 63
    → total_size (fields_of_lines fields) ≤ size → IsReadStrictly coding w.decoder size fields b
block_read coding capacity maximum limit size w k s fields b live block of are short low =
    let ok : KeepsBlock capacity maximum k.made (w.taken ++ w.in_flight) b =
    every_get (KeepsBlock capacity maximum k.made (w.taken ++ w.in_flight)) (stream_at w.streams s).blocks
    (stream_at w.streams s).decoded b block (k.streams s).blocks in
    let write = writable coding capacity maximum k.made (w.taken ++ w.in_flight) fields b ok of are short in
    let r = reads_block capacity maximum limit w k s b live block in
    record {
      blocked = λ missing.
          marked_sections_blocked coding w.decoder r.later size (required_count b) r.base b.block fields write r.prefix missing
          r.strict.no_count (r.means_later ∙ ap Ok of.fields_are) low;
      read = λ received.
          marked_sections_read coding w.decoder size (required_count b) r.base b.block fields write r.prefix received r.strict
          (r.means received ∙ ap Ok of.fields_are) of.literals low;
    }

pub sections_strict : SectionsAreReadStrictly
sections_strict coding capacity maximum limit size within steps s fields b next are short low =
    let w = after_end_steps steps (abstract_start capacity maximum limit) in
    let k = (holds_behind capacity maximum limit steps (abstract_start capacity maximum limit)
    (holds_started capacity maximum limit within)).invariant in
    let found = agrees_get IsBlockOf (handed_on s steps) (stream_at w.streams s).blocks (stream_at w.streams s).decoded
    fields (blocks_handed capacity maximum limit within steps s) next.handed in
    let same : found.0 ≡ b = some_is found.0 b (sym found.1 ∙ next.block) in
    block_read coding capacity maximum limit size w k s fields b next.live next.block
    (subst (IsBlockOf fields) same found.2) are short low
  where
    some_is : (x y : AbstractBlock) → Some x ≡ Some y → x ≡ y
    some_is x y e = cc
