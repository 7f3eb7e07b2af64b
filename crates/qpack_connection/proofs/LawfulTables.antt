-- What an encoder's table and what was written of it keep, so that all that was written is lawful.
use Rattle.std.proofs.Common.{ℕ, zero, suc, ◌+◌, ◌-◌, ◌^◌, ◌<◌, ◌≤◌, ◌≡◌, Bool, true, false, cond, List, []}
use Rattle.std.proofs.Common.{◌∷◌, ◌++◌, length}
use Rattle.std.proofs.Common.{Option, None, Some, Result, Ok, Err, refl, sym, ap, ◌∙◌, subst, arith, inl, inr}
use Rattle.std.specs.List.{AllByRecursion, filter}
use Rattle.std.specs.Option.{option_map, unwrap_or}
use Rattle.std.specs.Prelude.{◌&&◌, not, nat_eq, nat_lt, IsOk}
use Rattle.std.proofs.lemmas.Bool.{cond_both, eqb-true}
use Rattle.std.proofs.lemmas.List.{append-nil}
use Rattle.qpack_spec.specs.Bytes.{◌>>=◌}
use Rattle.qpack_spec.specs.Chosen.{Chosen, chosen_rule}
use Rattle.qpack_spec.specs.Field.{Field, FieldLine, fields_of_lines}
use Rattle.qpack_spec.specs.History.{History, window_of, initial_history, history_after, Leads}
use Rattle.qpack_spec.specs.Instruction.{EncoderInstruction, SetCapacity, SpellsEncoderInstruction}
use Rattle.qpack_spec.specs.Instruction.{DecoderInstruction, Acknowledgment, Cancellation, Increment}
use Rattle.qpack_spec.specs.Instruction.{coded_encoder_instruction, written_encoder_instruction, coded_encoder_instructions}
use Rattle.qpack_rules.specs.LawfulEncoders.{IsLawfulEncoder, IsLawfulSection}
use Rattle.qpack_spec.specs.Marked.{stateless_block_marked, coded_marked_block}
use Rattle.qpack_spec.specs.Reading.{greatest_of}
use Rattle.qpack_spec.specs.Rule.{block_of, required_insert_count, committed_table}
use Rattle.qpack_spec.specs.Stream.{SpellsAll}
use Rattle.qpack_rules.specs.StrictInstructions.{inserts, strict_apply, oldest_required, or_unknown}
use Rattle.qpack_rules.specs.StrictInstructions.{known_at_least, strict_hear, hear_in_turn}
use Rattle.qpack_spec.specs.Table.{Table, UnacknowledgedBlock, empty_table, table_of, window, insert_count}
use Rattle.qpack_spec.specs.Table.{with_capacity, commit, without_references, with_unacknowledged}
use Rattle.qpack_spec.specs.Table.{apply_encoder_instruction}
use Rattle.qpack_spec.specs.Table.{without_oldest, without_stream, with_increment, apply_decoder_instruction}
use Rattle.qpack_rules.specs.Taking.{apply_in_turn}
use Rattle.qpack_spec.specs.Window.{Window, TableRefusal, greatest_capacity, DoesNotFit, Effect, Resizes}
use Rattle.qpack_spec.specs.Window.{window_after, apply}
use Rattle.qpack_spec.specs.Window.{UnknownStream, or_refusal}
use Rattle.qpack_spec.specs.WrittenLaws.{IsByteField, IsSmall}
use Rattle.qpack_spec.specs.Text.{WhereShorter}
use Rattle.qpack_rules.proofs.ChosenWritten.{chosen_written, chosen_inserts}
use Rattle.qpack_spec.proofs.Cuttings.{joined_append}
use Rattle.qpack_spec.proofs.Drafts.{IsLive, KeepsTable, count_inserted, keeps_unnamed}
use Rattle.qpack_rules.proofs.LawfulEncoders.{begins_empty}
use Rattle.qpack_spec.proofs.Lists.{every_weaker}
use Rattle.qpack_rules.proofs.PutTables.{applied_put}
use Rattle.qpack_spec.proofs.Results.{bind_ok, ok_is}
use Rattle.qpack_spec.proofs.Windows.{Sound, Agreed, sound_start, agreed_start, sound_grown, leads_agreed, leads_append}
use Rattle.qpack_spec.proofs.Windows.{leads_grows, window_grown, allowed, Grows}
use Rattle.qpack_spec.proofs.WrittenDrafts.{instructions_fit}
use Rattle.qpack_safety.proofs.Encoding.{kept_committed}
use Rattle.qpack_safety.proofs.LawfulInsertions.{capacity_behind, capacity_after, NoneAtZero, none_append}
use Rattle.qpack_safety.proofs.LawfulInsertions.{capacity_append, insertions_lawful, applied_capacity}
use Rattle.qpack_safety.proofs.Resizing.{CanResize, resized_table, resized_cases, same_resized, kept_resized}
use Rattle.qpack_safety.proofs.Resizing.{resize_effect, resized_capacity, bound_same}
use Rattle.qpack_safety.proofs.Shown.{agrees_push, instructions_joined}
use Rattle.qpack_safety.specs.Refines.{Agrees}
use Rattle.qpack_connection.specs.LawfulEnds.{Section, if_required, without_first, released}
use Rattle.qpack_connection.proofs.CarefulTables.{IsCarefulTable}
use Rattle.qpack_connection.proofs.WrittenSections.{IsKept, IsWithin, within_lawful, within_stays}
use Rattle.qpack_connection.proofs.WrittenSections.{drafted, alone_within}

-- ---- what is kept

-- a section that waits is one that the table has as not acknowledged, and references only its entries
pub record IsOpen (maximum : ℕ) (made : History) (k : Section) (b : UnacknowledgedBlock) : Type 0 where
  pub stream_is : k.stream ≡ b.stream
  pub required_is : k.required ≡ greatest_of b.entries
  pub within : IsWithin maximum made.inserted b.entries k.fields k.bytes

-- the bytes are instructions that a strict decoder takes, the table is what they make, and the sections that wait are
-- those of it that are not acknowledged
pub record WritesLawfully (maximum : ℕ) (bytes : List ℕ) (sections : List Section) (t : Table) : Type 0 where
  pub sent : List EncoderInstruction
  pub made : History
  pub sound : Sound made
  pub agreed : Agreed maximum made
  pub kept : KeepsTable made t
  pub leads : Leads (initial_history 0 maximum) sent made
  pub none : NoneAtZero 0 sent
  pub capacity : capacity_after 0 sent ≡ t.capacity
  pub spelled : SpellsAll SpellsEncoderInstruction bytes sent
  pub open_are : Agrees (IsOpen maximum made) sections t.unacknowledged

-- ---- a strict decoder takes what is written

strict_one : (t : Table) (i : EncoderInstruction) → (t.capacity ≡ 0 → inserts i ≡ false)
    → strict_apply t i ≡ apply_encoder_instruction t i
unfolding strict_apply
strict_one t i lawful = by (nat_eq t.capacity 0) refl
  where
    by : (b : Bool) → nat_eq t.capacity 0 ≡ b
        → cond (b && inserts i) (Err DoesNotFit) (apply_encoder_instruction t i) ≡ apply_encoder_instruction t i
    by true e = rw (lawful (eqb-true t.capacity 0 e)) refl
    by false e = refl

table_capacity : (h : History) → (table_of (window_of h)).capacity ≡ h.capacity
unfolding table_of window_of
table_capacity h = refl

window_capacity : (h : History) → (window_of h).capacity ≡ h.capacity
unfolding window_of
window_capacity h = refl

-- instructions that lead from history to history, none of which inserts at capacity 0, are taken by a strict decoder
strictly_taken : (h : History) (is : List EncoderInstruction) (last : History) → Sound h → Leads h is last
    → NoneAtZero h.capacity is
    → apply_in_turn strict_apply (table_of (window_of h)) is ≡ Ok (table_of (window_of last))
strictly_taken h [] last sound leads none =
    ap (λ (x : History). let r : Result Table TableRefusal = Ok (table_of (window_of x)) in r) leads
strictly_taken h (i ∷ is) last sound leads none =
    let w = window_of h in
    let e = leads.0 in
    let behind = history_after h e in
    let applies : apply w i ≡ Ok (window_after w e) =
    ap (λ (r : Result Effect TableRefusal). r >>= λ x. Ok (window_after w x)) leads.1 in
    let grown : window_of behind ≡ window_after w e = window_grown h e sound.in_range in
    let one : strict_apply (table_of w) i ≡ Ok (table_of (window_of behind)) =
    strict_one (table_of w) i (λ zero. none.0 (sym (table_capacity h) ∙ zero)) ∙ applied_put w i
    ∙ ap (λ (r : Result Window TableRefusal). r >>= λ x. Ok (table_of x)) applies
    ∙ ap (λ (x : Window). let r : Result Table TableRefusal = Ok (table_of x) in r) (sym grown) in
    let capacity : behind.capacity ≡ capacity_behind h.capacity i =
    sym (window_capacity behind) ∙ ap (λ (x : Window). x.capacity) grown
    ∙ applied_capacity w (window_after w e) i applies
    ∙ ap (λ (n : ℕ). capacity_behind n i) (window_capacity h) in
    ap (λ (r : Result Table TableRefusal). r >>= λ u. apply_in_turn strict_apply u is) one
    ∙ strictly_taken behind is last (sound_grown h e sound (allowed w i e leads.1)) leads.2
    (subst (λ (n : ℕ). NoneAtZero n is) (sym capacity) none.1)

-- as many entries are evicted of the one as of the other
dropped_same : (t : Table) (made : History) → KeepsTable made t → t.dropped ≡ made.dropped
unfolding window window_of
dropped_same t made k = ap (λ (w : Window). w.dropped) k.shares

-- what was written is lawful, where nothing is evicted that is not known to be received
pub lawful_encoder : (maximum : ℕ) (bytes : List ℕ) (sections : List Section) (t : Table)
    → (k : WritesLawfully maximum bytes sections t)
    → IsLawfulEncoder maximum t.known_received_count k.sent k.made
lawful_encoder maximum bytes sections t k =
    record {
      taken = subst IsOk
          (sym (ap (λ (x : Table). apply_in_turn strict_apply x k.sent) (begins_empty maximum)
          ∙ strictly_taken (initial_history 0 maximum) k.sent k.made (sound_start 0 maximum) k.leads k.none)) refl;
      makes = k.leads;
      evicted = omega (arith, k.kept.behind, dropped_same t k.made k.kept);
    }

-- and so is each section that waits
pub open_lawful : (maximum : ℕ) (bytes : List ℕ) (sections : List Section) (t : Table)
    → (w : WritesLawfully maximum bytes sections t) → (k : Section) (b : UnacknowledgedBlock)
    → AllByRecursion (IsLive t) b.entries → IsOpen maximum w.made k b
    → IsLawfulSection maximum w.made k.required k.fields k.bytes
open_lawful maximum bytes sections t w k b live o =
    let dropped = dropped_same t w.made w.kept in
    let count = count_inserted t w.made w.kept.shares w.sound in
    subst (λ (n : ℕ). IsLawfulSection maximum w.made n k.fields k.bytes) (sym o.required_is)
    (within_lawful maximum w.made b.entries k.fields k.bytes
    (every_weaker (IsLive t) (IsKept w.made) (λ a h. (omega (arith, h.0, dropped), omega (arith, h.1, count))) b.entries
    live) o.within)

-- ---- a new table

pub writes_first : (maximum limit : ℕ) → WritesLawfully maximum [] [] (empty_table 0 (Some maximum) limit)
unfolding window window_of
writes_first maximum limit =
    record {
      sent = [];
      made = initial_history 0 maximum;
      sound = sound_start 0 maximum;
      agreed = agreed_start 0 maximum (omega arith);
      kept = record { shares = refl; marked = tt; behind = omega arith; held = tt };
      leads = refl;
      none = tt;
      capacity = refl;
      spelled = refl;
      open_are = tt;
    }

-- ---- more is written

-- a section that waits stays one where more is inserted
open_stays : (maximum : ℕ) (made later : History) (k : Section) (b : UnacknowledgedBlock) → Grows made later
    → IsOpen maximum made k b → IsOpen maximum later k b
open_stays maximum made later k b grows o =
    record {
      stream_is = o.stream_is;
      required_is = o.required_is;
      within = subst (λ (xs : List Field). IsWithin maximum xs b.entries k.fields k.bytes) grows.inserts
          (within_stays maximum made.inserted grows.more b.entries k.fields k.bytes o.within);
    }

all_stay : (maximum : ℕ) (made later : History) (ks : List Section) (bs : List UnacknowledgedBlock)
    → Grows made later → Agrees (IsOpen maximum made) ks bs → Agrees (IsOpen maximum later) ks bs
all_stay maximum made later [] [] grows h = tt
all_stay maximum made later [] (b ∷ bs) grows h = absurd h
all_stay maximum made later (k ∷ ks) [] grows h = absurd h
all_stay maximum made later (k ∷ ks) (b ∷ bs) grows h =
    (open_stays maximum made later k b grows h.0, all_stay maximum made later ks bs grows h.1)

-- a section that was written waits if it requires insertions
opens_one : (R : Section → UnacknowledgedBlock → Type 0) (t : Table) (s required : ℕ) (entries : List ℕ) (k : Section)
    (ks : List Section) (bs : List UnacknowledgedBlock) → Agrees R ks bs → AllByRecursion (IsLive t) entries
    → required ≡ greatest_of entries → R k (record { stream = s; entries = entries })
    → Agrees R (ks ++ if_required required k) (with_unacknowledged bs s entries)
unfolding greatest_of
opens_one R t s zero [] k ks bs h live is one =
    subst (λ (xs : List Section). Agrees R xs bs) (sym (append-nil ks)) h
opens_one R t s (suc n) [] k ks bs h live is one = absurd (omega (arith, is))
opens_one R t s zero (a ∷ more) k ks bs h live is one = absurd (omega (arith, is, live.0.0))
opens_one R t s (suc n) (a ∷ more) k ks bs h live is one =
    agrees_push R ks bs k (record { stream = s; entries = a ∷ more }) h one

-- the parts that the instructions of a section lead to
record Leading (maximum : ℕ) (bytes : List ℕ) (sections : List Section) (t : Table)
    (k : WritesLawfully maximum bytes sections t) (is : List EncoderInstruction) (later : History) (capacity : ℕ) :
    Type 0 where
  pub agreed : Agreed maximum later
  pub leads : Leads (initial_history 0 maximum) (k.sent ++ is) later
  pub none : NoneAtZero 0 (k.sent ++ is)
  pub capacity_is : capacity_after 0 (k.sent ++ is) ≡ capacity
  pub spelled : SpellsAll SpellsEncoderInstruction (bytes ++ coded_encoder_instructions WhereShorter is) (k.sent ++ is)

leading : (maximum : ℕ) (bytes : List ℕ) (sections : List Section) (t : Table)
    (k : WritesLawfully maximum bytes sections t) (fields : List FieldLine) (cs : List Chosen) (later : History)
    → Leads k.made (chosen_rule t fields cs).instructions later → AllByRecursion IsByteField (fields_of_lines fields)
    → length (coded_encoder_instructions WhereShorter (chosen_rule t fields cs).instructions) < 2 ^ 63
    → Leading maximum bytes sections t k (chosen_rule t fields cs).instructions later
    (chosen_rule t fields cs).table.capacity
leading maximum bytes sections t k fields cs later leads are short =
    let d = chosen_rule t fields cs in
    let inserted = chosen_inserts t fields cs in
    let lawful = insertions_lawful t.capacity d.instructions inserted.1 in
    let few : insert_count t ≤ 2 ^ 62 = omega (arith, count_inserted t k.made k.kept.shares k.sound, k.sound.few) in
    record {
      agreed = leads_agreed maximum k.made d.instructions later leads k.agreed;
      leads = leads_append (initial_history 0 maximum) k.sent d.instructions k.made later k.leads leads;
      none = none_append 0 k.sent d.instructions k.none
          (subst (λ (n : ℕ). NoneAtZero n d.instructions) (sym k.capacity) lawful.0);
      capacity_is = capacity_append 0 k.sent d.instructions
          ∙ ap (λ (n : ℕ). capacity_after n d.instructions) k.capacity ∙ lawful.1 ∙ sym inserted.0;
      spelled = joined_append SpellsEncoderInstruction bytes (coded_encoder_instructions WhereShorter d.instructions) k.sent
          d.instructions k.spelled
          (instructions_joined WhereShorter d.instructions
          (instructions_fit WhereShorter d.instructions (chosen_written t fields cs few are).instructions short));
    }

-- a section was written
pub writes_section : (maximum : ℕ) (bytes : List ℕ) (sections : List Section) (t : Table) (s : ℕ)
    (fields : List FieldLine) (cs : List Chosen) → WritesLawfully maximum bytes sections t
    → AllByRecursion IsByteField (fields_of_lines fields)
    → length (coded_encoder_instructions WhereShorter (chosen_rule t fields cs).instructions) < 2 ^ 63
    → length (coded_marked_block WhereShorter fields (block_of t (chosen_rule t fields cs))) < 2 ^ 63
    → (let d = chosen_rule t fields cs in
    let w : Section = record {
      stream = s;
      required = required_insert_count d;
      fields = fields;
      bytes = coded_marked_block WhereShorter fields (block_of t d);
    } in
    (new : WritesLawfully maximum (bytes ++ coded_encoder_instructions WhereShorter d.instructions)
    (sections ++ if_required (required_insert_count d) w) (committed_table d s))
    × IsLawfulSection maximum new.made (required_insert_count d) fields (coded_marked_block WhereShorter fields (block_of t d)))
unfolding commit window
writes_section maximum bytes sections t s fields cs k are short small =
    let d = chosen_rule t fields cs in
    let required = required_insert_count d in
    let section = coded_marked_block WhereShorter fields (block_of t d) in
    let w : Section = record { stream = s; required = required; fields = fields; bytes = section } in
    let p = drafted maximum k.made t fields cs k.sound k.agreed k.kept in
    let l = leading maximum bytes sections t k fields cs p.history p.leads are short in
    let within = p.section are small in
    let grows = leads_grows k.made d.instructions p.history p.leads in (
      record {
        sent = k.sent ++ d.instructions;
        made = p.history;
        sound = p.sound;
        agreed = l.agreed;
        kept = kept_committed p.history d.table s required p.kept p.referenced;
        leads = l.leads;
        none = l.none;
        capacity = l.capacity_is;
        spelled = l.spelled;
        open_are = opens_one (IsOpen maximum p.history) d.table s required d.table.referenced w sections
            d.table.unacknowledged
            (subst (Agrees (IsOpen maximum p.history) sections) (sym p.references.unacknowledged)
            (all_stay maximum k.made p.history sections t.unacknowledged grows k.open_are)) p.referenced refl
            (record { stream_is = refl; required_is = refl; within = within });
      },
      within_lawful maximum p.history d.table.referenced fields section
          (every_weaker (IsLive d.table) (IsKept p.history)
          (λ a h. (
            omega (arith, h.0, dropped_same d.table p.history p.kept),
            omega (arith, h.1, count_inserted d.table p.history p.kept.shares p.sound),
          )) d.table.referenced p.referenced) within,
    )

-- a section was given up
pub writes_given_up : (maximum : ℕ) (bytes : List ℕ) (sections : List Section) (t : Table) (fields : List FieldLine)
    (cs : List Chosen) → WritesLawfully maximum bytes sections t → AllByRecursion IsByteField (fields_of_lines fields)
    → length (coded_encoder_instructions WhereShorter (chosen_rule t fields cs).instructions) < 2 ^ 63
    → WritesLawfully maximum (bytes ++ coded_encoder_instructions WhereShorter (chosen_rule t fields cs).instructions) sections
    (without_references (chosen_rule t fields cs).table)
unfolding without_references
writes_given_up maximum bytes sections t fields cs k are short =
    let d = chosen_rule t fields cs in
    let p = drafted maximum k.made t fields cs k.sound k.agreed k.kept in
    let l = leading maximum bytes sections t k fields cs p.history p.leads are short in
    let grows = leads_grows k.made d.instructions p.history p.leads in
    record {
      sent = k.sent ++ d.instructions;
      made = p.history;
      sound = p.sound;
      agreed = l.agreed;
      kept = keeps_unnamed p.history d.table p.kept;
      leads = l.leads;
      none = l.none;
      capacity = l.capacity_is;
      spelled = l.spelled;
      open_are =
          subst (Agrees (IsOpen maximum p.history) sections) (sym p.references.unacknowledged)
          (all_stay maximum k.made p.history sections t.unacknowledged grows k.open_are);
    }

-- a section that references no entry is lawful too
pub alone_lawful : (maximum : ℕ) (made : History) (fields : List FieldLine)
    → AllByRecursion IsByteField (fields_of_lines fields)
    → length (coded_marked_block WhereShorter fields (stateless_block_marked fields)) < 2 ^ 63
    → IsLawfulSection maximum made 0 fields (coded_marked_block WhereShorter fields (stateless_block_marked fields))
unfolding greatest_of
alone_lawful maximum made fields are small =
    within_lawful maximum made [] fields (coded_marked_block WhereShorter fields (stateless_block_marked fields)) tt
    (alone_within maximum made fields are small)

small_capacity : (t : Table) (n : ℕ) → CanResize t n → IsSmall n
small_capacity t n can = by t.agreed_max can.within
  where
    by : (o : Option ℕ) → n ≤ greatest_capacity o → IsSmall n
    by None within = omega (arith, within)
    by (Some most) within = omega (arith, within)

-- a capacity was set
pub writes_capacity : (maximum : ℕ) (bytes : List ℕ) (sections : List Section) (t u : Table) (n : ℕ)
    → WritesLawfully maximum bytes sections t → with_capacity t n ≡ Ok u
    → WritesLawfully maximum (bytes ++ written_encoder_instruction (SetCapacity n)) sections u
unfolding coded_encoder_instructions coded_encoder_instruction history_after
writes_capacity maximum bytes sections t u n k e =
    elim (resized_cases t n) [
      | inl can ↦ subst (WritesLawfully maximum (bytes ++ written_encoder_instruction (SetCapacity n)) sections)
          (ok_is (resized_table t n) u (sym can.1 ∙ e)) (resized can.0)
      | inr refused ↦ absurd (let x = sym refused.1 ∙ e in cc)
    ]
  where
    later : History
    later = history_after k.made (Resizes n)

    resized : CanResize t n → WritesLawfully maximum (bytes ++ written_encoder_instruction (SetCapacity n)) sections
        (resized_table t n)
    resized can =
        let bound = bound_same t k.made n k.kept.shares can.within in
        let one : Leads k.made (SetCapacity n ∷ []) later =
        (Resizes n, resize_effect (window_of k.made) n bound, refl) in
        let agreed = leads_agreed maximum k.made (SetCapacity n ∷ []) later one k.agreed in
        let z = same_resized t n in
        record {
          sent = k.sent ++ SetCapacity n ∷ [];
          made = later;
          sound = sound_grown k.made (Resizes n) k.sound bound;
          agreed = agreed;
          kept = kept_resized k.made t n k.sound k.kept can;
          leads = leads_append (initial_history 0 maximum) k.sent (SetCapacity n ∷ []) k.made later k.leads one;
          none = none_append 0 k.sent (SetCapacity n ∷ []) k.none (λ _. refl, tt);
          capacity = capacity_append 0 k.sent (SetCapacity n ∷ []) ∙ sym (resized_capacity t n);
          spelled =
              subst (λ (b : List ℕ). SpellsAll SpellsEncoderInstruction (bytes ++ b) (k.sent ++ SetCapacity n ∷ []))
              (append-nil (written_encoder_instruction (SetCapacity n)))
              (joined_append SpellsEncoderInstruction bytes (coded_encoder_instructions WhereShorter (SetCapacity n ∷ [])) k.sent
              (SetCapacity n ∷ []) k.spelled
              (instructions_joined WhereShorter (SetCapacity n ∷ []) (small_capacity t n can, tt)));
          open_are = subst (Agrees (IsOpen maximum later) sections) (sym z.z_opened)
              (all_stay maximum k.made later sections t.unacknowledged
              (leads_grows k.made (SetCapacity n ∷ []) later one) k.open_are);
        }

-- ---- what is heard

-- what is acknowledged, or cancelled, waits no more
agrees_first : (maximum : ℕ) (made : History) (s : ℕ) (ks : List Section) (bs others : List UnacknowledgedBlock)
    → Agrees (IsOpen maximum made) ks bs → without_oldest s bs ≡ Some others
    → Agrees (IsOpen maximum made) (without_first s ks) others
unfolding without_oldest
agrees_first maximum made s [] [] others h e = absurd cc
agrees_first maximum made s [] (b ∷ bs) others h e = absurd h
agrees_first maximum made s (k ∷ ks) [] others h e = absurd h
agrees_first maximum made s (k ∷ ks) (b ∷ bs) others h e =
    subst (λ (t : Bool). Agrees (IsOpen maximum made) (cond t ks (k ∷ without_first s ks)) others)
    (sym (ap (λ (n : ℕ). nat_eq n s) h.0.stream_is))
    (by (nat_eq b.stream s) (without_oldest s bs) refl (λ rest q. agrees_first maximum made s ks bs rest h.1 q) e)
  where
    same : (x y : List UnacknowledgedBlock) → Some x ≡ Some y → x ≡ y
    same x y q = cc

    by : (t : Bool) (o : Option (List UnacknowledgedBlock)) → without_oldest s bs ≡ o
        → ((rest : List UnacknowledgedBlock) → without_oldest s bs ≡ Some rest
        → Agrees (IsOpen maximum made) (without_first s ks) rest)
        → cond t (Some bs) (option_map (λ rest. b ∷ rest) o) ≡ Some others
        → Agrees (IsOpen maximum made) (cond t ks (k ∷ without_first s ks)) others
    by true o q rest is = subst (Agrees (IsOpen maximum made) ks) (same bs others is) h.1
    by false None q rest is = absurd cc
    by false (Some more) q rest is =
        subst (Agrees (IsOpen maximum made) (k ∷ without_first s ks)) (same (b ∷ more) others is) (h.0, rest more q)

agrees_others : (maximum : ℕ) (made : History) (s : ℕ) (ks : List Section) (bs : List UnacknowledgedBlock)
    → Agrees (IsOpen maximum made) ks bs
    → Agrees (IsOpen maximum made) (filter (λ k. not (nat_eq k.stream s)) ks) (without_stream s bs)
unfolding without_stream
agrees_others maximum made s [] [] h = tt
agrees_others maximum made s [] (b ∷ bs) h = absurd h
agrees_others maximum made s (k ∷ ks) [] h = absurd h
agrees_others maximum made s (k ∷ ks) (b ∷ bs) h =
    subst (λ (t : Bool). Agrees (IsOpen maximum made) (cond (not t) (k ∷ rest) rest) (without_stream s (b ∷ bs)))
    (sym (ap (λ (n : ℕ). nat_eq n s) h.0.stream_is))
    (by (nat_eq b.stream s) (agrees_others maximum made s ks bs h.1))
  where
    rest : List Section
    rest = filter (λ k. not (nat_eq k.stream s)) ks

    by : (t : Bool) → Agrees (IsOpen maximum made) rest (filter (λ b. not (nat_eq b.stream s)) bs)
        → Agrees (IsOpen maximum made) (cond (not t) (k ∷ rest) rest)
        (cond (not t) (b ∷ filter (λ b. not (nat_eq b.stream s)) bs) (filter (λ b. not (nat_eq b.stream s)) bs))
    by true more = more
    by false more = (h.0, more)

-- a table after what was heard: what both ends share stays, and these sections wait
record Hears (maximum : ℕ) (made : History) (ks : List Section) (t u : Table) : Type 0 where
  pub shares : window u ≡ window t
  pub open_are : Agrees (IsOpen maximum made) ks u.unacknowledged

-- the known received count grows
raised : (maximum : ℕ) (made : History) (ks : List Section) (t v : Table) (n : ℕ) → Hears maximum made ks t v
    → Hears maximum made ks t (with_increment v n)
unfolding with_increment window
raised maximum made ks t v n h = record { shares = h.shares; open_are = h.open_are }

opened : (maximum : ℕ) (made : History) (ks : List Section) (t : Table) (bs : List UnacknowledgedBlock)
    → Agrees (IsOpen maximum made) ks bs → Hears maximum made ks t (record t { unacknowledged = bs })
unfolding window
opened maximum made ks t bs h = record { shares = refl; open_are = h }

hears_one : (maximum : ℕ) (made : History) (ks : List Section) (t u : Table) (i : DecoderInstruction)
    → Agrees (IsOpen maximum made) ks t.unacknowledged → strict_hear t i ≡ Ok u
    → Hears maximum made (released (i ∷ []) ks) t u
unfolding strict_hear apply_decoder_instruction
hears_one maximum made ks t u (Acknowledgment s) h e = go (without_oldest s t.unacknowledged) refl e
  where
    required : ℕ
    required = unwrap_or (oldest_required s t.unacknowledged) 0

    go : (o : Option (List UnacknowledgedBlock)) → without_oldest s t.unacknowledged ≡ o
        → (or_unknown s (or_refusal o (UnknownStream s) >>= λ bs. Ok (record t { unacknowledged = bs }))
        >>= λ v. Ok (known_at_least required v)) ≡ Ok u → Hears maximum made (without_first s ks) t u
    go None is q = absurd cc
    go (Some bs) is q =
        subst (Hears maximum made (without_first s ks) t) (ok_is _ _ q)
        (raised maximum made (without_first s ks) t (record t { unacknowledged = bs })
        (required - t.known_received_count)
        (opened maximum made (without_first s ks) t bs (agrees_first maximum made s ks t.unacknowledged bs h is)))
hears_one maximum made ks t u (Cancellation s) h e =
    let rest = filter (λ (k : Section). not (nat_eq k.stream s)) ks in
    subst (Hears maximum made rest t) (ok_is _ _ e)
    (opened maximum made rest t (without_stream s t.unacknowledged)
    (agrees_others maximum made s ks t.unacknowledged h))
hears_one maximum made ks t u (Increment by) h e =
    cond_both (nat_eq by 0) _ _ (λ r. r ≡ Ok u → Hears maximum made ks t u) (λ _ q. absurd cc)
    (λ _. cond_both (nat_lt (insert_count t) (t.known_received_count + by)) _ _
    (λ r. r ≡ Ok u → Hears maximum made ks t u) (λ _ q. absurd cc)
    (λ _ q. subst (Hears maximum made ks t) (ok_is _ _ q)
    (raised maximum made ks t t by (record { shares = refl; open_are = h }))))
    e

-- one instruction and then others
released_one : (i : DecoderInstruction) (is : List DecoderInstruction) (ks : List Section)
    → released is (released (i ∷ []) ks) ≡ released (i ∷ is) ks
released_one (Acknowledgment s) is ks = refl
released_one (Cancellation s) is ks = refl
released_one (Increment by) is ks = refl

hears_all : (maximum : ℕ) (made : History) (ks : List Section) (t u : Table) (is : List DecoderInstruction)
    → Agrees (IsOpen maximum made) ks t.unacknowledged → hear_in_turn t is ≡ Ok u
    → Hears maximum made (released is ks) t u
hears_all maximum made ks t u [] h e =
    subst (Hears maximum made ks t) (ok_is t u e) (record { shares = refl; open_are = h })
hears_all maximum made ks t u (i ∷ is) h e =
    let one = bind_ok (strict_hear t i) (λ v. hear_in_turn v is) u e in
    let first = hears_one maximum made ks t one.0 i h one.1 in
    let more = hears_all maximum made (released (i ∷ []) ks) one.0 u is first.open_are one.2 in
    record {
      shares = more.shares ∙ first.shares;
      open_are = subst (λ (xs : List Section). Agrees (IsOpen maximum made) xs u.unacknowledged) (released_one i is ks)
          more.open_are;
    }

same_capacity : (t u : Table) → window u ≡ window t → u.capacity ≡ t.capacity
unfolding window
same_capacity t u same = ap (λ (w : Window). w.capacity) same

-- instructions of the decoder were heard, and the table that they make keeps what it has to
pub writes_heard : (maximum : ℕ) (bytes : List ℕ) (sections : List Section) (t u : Table)
    (is : List DecoderInstruction) → WritesLawfully maximum bytes sections t → hear_in_turn t is ≡ Ok u
    → IsCarefulTable 4096 u → WritesLawfully maximum bytes (released is sections) u
writes_heard maximum bytes sections t u is k heard careful =
    let h = hears_all maximum k.made sections t u is k.open_are heard in
    record {
      sent = k.sent;
      made = k.made;
      sound = k.sound;
      agreed = k.agreed;
      kept = record {
        shares = h.shares ∙ k.kept.shares;
        marked = careful.kept.marked;
        behind = careful.kept.behind;
        held = careful.kept.held;
      };
      leads = k.leads;
      none = k.none;
      capacity = k.capacity ∙ sym (same_capacity t u h.shares);
      spelled = k.spelled;
      open_are = h.open_are;
    }
