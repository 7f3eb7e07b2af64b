-- All that an encoding end writes is lawful, whatever its peer writes.
use Rattle.std.proofs.Common.{◌≡◌, ◌⊎◌, ◌<◌, ◌^◌, ℕ, zero, suc, Bool, true, false, List, [], ◌∷◌, ◌++◌, take, drop, map}
use Rattle.std.proofs.Common.{length, Option, None, Some, Result, Ok, Err, refl, sym, ap, subst, ◌∙◌, arith, inl, inr}
use Rattle.std.proofs.Common.{length-append, IfSome}
use Rattle.std.specs.List.{AllByRecursion}
use Rattle.std.specs.Prelude.{⊤, ◌&&◌, ◌||◌, nat_eq, slice_get}
use Rattle.std.proofs.lemmas.Bool.{lt-ltb, eq-eqb, eqb-true, or_left, or_right}
use Rattle.std.proofs.lemmas.List.{append_assoc, append-nil, take-append-drop}
use Rattle.qpack_spec.specs.Chosen.{chosen_rule}
use Rattle.qpack_spec.specs.Field.{FieldLine, fields_of_lines}
use Rattle.qpack_spec.specs.History.{History}
use Rattle.qpack_spec.specs.Instruction.{EncoderInstruction, DecoderInstruction, SetCapacity}
use Rattle.qpack_spec.specs.Instruction.{written_encoder_instruction, coded_encoder_instructions}
use Rattle.qpack_rules.specs.LawfulEncoders.{IsLawfulEncoder, IsLawfulSection}
use Rattle.qpack_spec.specs.Marked.{coded_marked_block}
use Rattle.qpack_spec.specs.Reading.{greatest_of}
use Rattle.qpack_spec.specs.Rule.{block_of, required_insert_count, committed_table}
use Rattle.qpack_rules.specs.StrictInstructions.{HearingRefusal, required_by, hear_in_turn}
use Rattle.qpack_spec.specs.Table.{Table, UnacknowledgedBlock, empty_table, has_number}
use Rattle.qpack_spec.specs.Table.{with_unacknowledged, with_capacity}
use Rattle.qpack_spec.specs.Window.{TableRefusal}
use Rattle.qpack_spec.specs.WrittenLaws.{IsByteField}
use Rattle.qpack_spec.specs.Text.{WhereShorter}
use Rattle.qpack_spec.proofs.Drafts.{IsLive}
use Rattle.qpack_spec.proofs.Lists.{get_append_end}
use Rattle.qpack_codec.specs.declared.encoder.choices.Wish.{Wish}
use Rattle.qpack_encoding.specs.declared.encoder.EncoderSettings.{EncoderSettings}
use Rattle.qpack_encoding.specs.declared.encoder.EncodingError.{EncodingError}
use Rattle.qpack_encoding.specs.declared.encoder.EncodingError.TheVariants.{DecoderStream, CapacityTooLarge}
use Rattle.qpack_encoding.specs.declared.encoder.EncodingError.TheVariants.{EntriesHeld, NoStream, Memory}
use Rattle.qpack_encoding.specs.declared.encoder.EncodingError.TheVariants.{MaximumChanged, LimitLowered, MaximumTooLarge}
use Rattle.qpack_encoding.specs.Encoders.{EncodingEnd, IsUnused, begun, begun_with, told_if, waiting, Encodes, WritesAlone}
use Rattle.qpack_encoding.specs.Encoders.{StopsForMemory, GivesUpSection, SetsCapacity, Shrinks, ReceivesBytes}
use Rattle.qpack_encoding.specs.Encoders as encoders
use Rattle.qpack_safety.specs.Refines.{Agrees}
use Rattle.qpack_encoding.specs.Risk.{requires_above, is_at_risk, AreDistinct}
use Rattle.qpack_encoding.proofs.LimitedChoices.{committed_open}
use Rattle.qpack_encoding.proofs.Risk.{at_risk_within}
use Rattle.qpack_connection.specs.LawfulDecoders.{Call, Encode, Receive, Sent, Step, Run}
use Rattle.qpack_connection.specs.LawfulDecoders as calls
use Rattle.qpack_connection.specs.LawfulEncoders.{UnderWay, IsUnderWay, IsAtRisk, Differ}
use Rattle.qpack_connection.specs.LawfulEnds.{Section, Writer, written, sent_by, if_required, written_by}
use Rattle.qpack_connection.specs.LawfulEnds.{released, Writes, WritesAll, Fits}
use Rattle.qpack_connection.specs.LawfulEnds.{AllFit, open_section, free_section, encoder_of, IsLawfulStill}
use Rattle.qpack_connection.specs.LawfulEnds.{KeepsToTheStandard}
use Rattle.qpack_connection.specs.LawfulEnds.{WritesSection, AllKeep, EncodersKeepToTheStandard, IsHeardBy}
use Rattle.qpack_connection.specs.LawfulEnds.{EncodersAreWriters}
use Rattle.qpack_connection.proofs.CarefulEnds.{Stays, stays_first}
use Rattle.qpack_connection.proofs.UnderstoodDecoders.{step_stays}
use Rattle.qpack_connection.proofs.LawfulTables.{IsOpen, WritesLawfully, lawful_encoder, open_lawful, writes_first}
use Rattle.qpack_connection.proofs.LawfulTables.{writes_section, writes_given_up, alone_lawful, writes_capacity}
use Rattle.qpack_connection.proofs.LawfulTables.{writes_heard}

-- ---- the limit

-- numbers that differ from those that were seen are not among them
apart_seen : (a : ℕ) (seen ns : List ℕ) → Differ seen ns → has_number a seen ≡ true → has_number a ns ≡ false
apart_seen a seen [] differ there = refl
apart_seen a seen (n ∷ ns) differ there =
    by (nat_eq n a) refl
    (apart_seen a (n ∷ seen) ns differ.1 (or_right (nat_eq n a) (has_number a seen) there))
  where
    by : (b : Bool) → nat_eq n a ≡ b → has_number a ns ≡ false → (b || has_number a ns) ≡ false
    by true e rest =
        absurd (let twice : has_number n seen ≡ true = subst (λ (x : ℕ). has_number x seen ≡ true)
        (sym (eqb-true n a e)) there in let d = sym differ.0 ∙ twice in cc)
    by false e rest = rest

all_distinct : (seen ns : List ℕ) → Differ seen ns → AreDistinct ns
all_distinct seen [] differ = tt
all_distinct seen (n ∷ ns) differ = (
  apart_seen n (n ∷ seen) ns differ.1 (or_left (nat_eq n n) (has_number n seen) (eq-eqb n n refl)),
  all_distinct (n ∷ seen) ns differ.1,
)

-- a section that requires more than is known is not one of those that require nothing
none_free : (known : ℕ) (free : List ℕ) (i : ℕ) (u : UnderWay)
    → slice_get (map (λ (s : ℕ). free_section s) free) i ≡ Some u
    → known < u.required → ⊥
none_free known [] i u e above = absurd cc
none_free known (s ∷ free) zero u e above =
    let same : u ≡ record { stream = s; required = 0 } = cc in
    absurd (omega (arith, above, ap (λ (x : UnderWay). x.required) same))
none_free known (s ∷ free) (suc i) u e above = none_free known free i u e above

-- so it is an unacknowledged one
is_risky : (known : ℕ) (bs : List UnacknowledgedBlock) (free : List ℕ) (i : ℕ) (u : UnderWay)
    → slice_get (map (λ (b : UnacknowledgedBlock). open_section b) bs ++ map (λ (s : ℕ). free_section s) free) i
    ≡ Some u
    → known < u.required → is_at_risk known u.stream bs ≡ true
is_risky known [] free i u e above = absurd (none_free known free i u e above)
is_risky known (b ∷ bs) free zero u e above =
    let same : u ≡ record { stream = b.stream; required = required_by b } = cc in
    let stream : b.stream ≡ u.stream = sym (ap (λ (x : UnderWay). x.stream) same) in
    let required : u.required ≡ greatest_of b.entries = ap (λ (x : UnderWay). x.required) same in
    or_left (nat_eq b.stream u.stream && requires_above known b) (is_at_risk known u.stream bs)
    (rw (eq-eqb b.stream u.stream stream, lt-ltb known (greatest_of b.entries) (omega (arith, above, required))) refl)
is_risky known (b ∷ bs) free (suc i) u e above =
    or_right (nat_eq b.stream u.stream && requires_above known b) (is_at_risk known u.stream bs)
    (is_risky known bs free i u e above)

all_risky : (instructions : List EncoderInstruction) (made : History) (free : List ℕ) (w : Writer) (streams : List ℕ)
    → AllByRecursion (IsAtRisk (encoder_of instructions made free w)) streams
    → AllByRecursion (λ (s : ℕ). is_at_risk w.end.table.known_received_count s w.end.table.unacknowledged ≡ true)
    streams
all_risky instructions made free w [] h = tt
all_risky instructions made free w (s ∷ streams) h =
    let t = w.end.table in
    let k = h.0 in (
      is_risky t.known_received_count t.unacknowledged free k.1.0 (record { stream = s; required = k.0 }) k.1.1 k.2,
      all_risky instructions made free w streams h.1,
    )

-- ---- between calls

record Holds (settings : EncoderSettings) (w : Writer) : Type 0 where
  pub stays : Stays settings.max_blocked w.end
  pub writes : WritesLawfully settings.max_capacity (written w) w.sections w.end.table

all_lawful : (maximum : ℕ) (bytes : List ℕ) (sections : List Section) (t : Table)
    (w : WritesLawfully maximum bytes sections t) (ks : List Section) (bs : List UnacknowledgedBlock)
    → AllByRecursion (λ (b : UnacknowledgedBlock). AllByRecursion (IsLive t) b.entries) bs
    → Agrees (IsOpen maximum w.made) ks bs → Agrees (IsLawfulStill maximum w.made) ks bs
all_lawful maximum bytes sections t w [] [] live h = tt
all_lawful maximum bytes sections t w [] (b ∷ bs) live h = absurd h
all_lawful maximum bytes sections t w (k ∷ ks) [] live h = absurd h
all_lawful maximum bytes sections t w (k ∷ ks) (b ∷ bs) live h = (
  record {
    stream_is = h.0.stream_is;
    required_is = h.0.required_is;
    lawful = open_lawful maximum bytes sections t w k b live.0 h.0;
  },
  all_lawful maximum bytes sections t w ks bs live.1 h.1,
)

-- so all that was written is lawful
keeps : (settings : EncoderSettings) (w : Writer) → (h : Holds settings w) → KeepsToTheStandard settings w
keeps settings w h =
    let t = w.end.table in
    let k = h.writes in
    record {
      instructions = k.sent;
      made = k.made;
      stream = λ free d come behind peer cut. record {
        encoder = subst (λ (n : ℕ). IsLawfulEncoder n t.known_received_count k.sent k.made) (sym peer.capacity)
            (lawful_encoder settings.max_capacity (written w) w.sections t k);
        spelled = k.spelled;
        behind = behind;
        come_is = cut;
        told = peer.told;
      };
      sections = all_lawful settings.max_capacity (written w) w.sections t k w.sections t.unacknowledged k.kept.held
          k.open_are;
      limit = λ free d stream required peer this waiting. record {
        few = λ streams differ risk.
            (let few = at_risk_within t streams (all_distinct [] streams differ)
            (all_risky k.sent k.made free w streams risk) in
            omega (arith, few, h.stays.few, peer.blocked));
        this = this;
        waiting = waiting;
      };
    }

holds_first : (settings : EncoderSettings) (w : Writer) → IsUnused settings w.end → w.sent ≡ [] → w.sections ≡ []
    → Holds settings w
holds_first settings w s none nothing =
    record {
      stays = stays_first settings w.end s;
      writes =
          subst (λ (t : Table). WritesLawfully settings.max_capacity (written w) w.sections t) (sym s.table)
          (subst (λ (b : List ℕ). WritesLawfully settings.max_capacity b w.sections
          (empty_table 0 (Some settings.max_capacity) 4096)) (sym bytes)
          (subst (λ (ws : List Section). WritesLawfully settings.max_capacity [] ws
          (empty_table 0 (Some settings.max_capacity) 4096)) (sym nothing)
          (writes_first settings.max_capacity 4096)));
    }
  where
    bytes : written w ≡ []
    bytes = ap (λ (b : List ℕ). b ++ w.end.unsent) none ∙ s.unsent

-- ---- a call, by its end

-- the section that a call wrote is lawful
abbrev AddsLawfully : EncoderSettings → Call → History → Type 0
AddsLawfully settings (Encode s fields wishes section (Ok required)) made =
    IsLawfulSection settings.max_capacity made required fields section
AddsLawfully settings call made = Unit {0}

-- all that was written is lawful after a call
abbrev IsBehind : EncoderSettings → Call → EncodingEnd → List ℕ → List Section → Type 0
IsBehind settings call new sent sections =
    (k : WritesLawfully settings.max_capacity (sent ++ new.unsent) sections new.table)
    × AddsLawfully settings call k.made

-- a call that writes no section and sends nothing
no_more : (settings : EncoderSettings) (call : Call) (new : EncodingEnd) (sent : List ℕ) (sections : List Section)
    → IsBehind settings call new sent sections → IsBehind settings call new (sent ++ []) (sections ++ [])
no_more settings call new sent sections k =
    subst (λ (b : List ℕ). IsBehind settings call new b (sections ++ [])) (sym (append-nil sent))
    (subst (λ (ws : List Section). IsBehind settings call new sent ws) (sym (append-nil sections)) k)

-- behind the capacity that waits, if it is written
told_writes : (maximum : ℕ) (e : EncodingEnd) (sent : List ℕ) (sections : List Section) (n : ℕ)
    (r : Result Table TableRefusal) → with_capacity e.table n ≡ r
    → WritesLawfully maximum (sent ++ e.unsent) sections e.table
    → WritesLawfully maximum (sent ++ (told_if n e r).unsent) sections (told_if n e r).table
told_writes maximum e sent sections n (Ok t) takes k =
    subst (λ (b : List ℕ). WritesLawfully maximum b sections t)
    (append_assoc sent e.unsent (written_encoder_instruction (SetCapacity n)))
    (writes_capacity maximum (sent ++ e.unsent) sections e.table t n k takes)
told_writes maximum e sent sections n (Err x) takes k = k

begun_writes : (maximum : ℕ) (e : EncodingEnd) (sent : List ℕ) (sections : List Section) (o : Option ℕ)
    → WritesLawfully maximum (sent ++ e.unsent) sections e.table
    → WritesLawfully maximum (sent ++ (begun_with o e).unsent) sections (begun_with o e).table
begun_writes maximum e sent sections None k = k
begun_writes maximum e sent sections (Some n) k =
    told_writes maximum e sent sections n (with_capacity e.table n) refl k

-- the section of a stream is added
abbrev Adds : ℕ → ℕ → List FieldLine → List Section → List ℕ → Table → ℕ → List ℕ → Type 0
Adds maximum s fields sections bytes t required section =
    (k : WritesLawfully maximum bytes (sections ++ if_required required
    (record { stream = s; required = required; fields = fields; bytes = section })) t)
    × IsLawfulSection maximum k.made required fields section

adds_chosen : (maximum : ℕ) (d new : EncodingEnd) (sent : List ℕ) (sections : List Section) (s : ℕ)
    (fields : List FieldLine) (section : List ℕ) (required : ℕ)
    → WritesLawfully maximum (sent ++ d.unsent) sections d.table
    → AllByRecursion IsByteField (fields_of_lines fields) → length new.unsent < 2 ^ 63 → length section < 2 ^ 63
    → encoders.WritesSection d new s fields [] section required
    → Adds maximum s fields sections (sent ++ new.unsent) new.table required section
adds_chosen maximum d new sent sections s fields section required k are fits small writes =
    let x = writes.section in
    let cs = x.choices in
    let draft = chosen_rule d.table fields cs in
    let instructions = coded_encoder_instructions WhereShorter draft.instructions in
    let block = coded_marked_block WhereShorter fields (block_of d.table draft) in
    let count = required_insert_count draft in
    let r =
    writes_section maximum (sent ++ d.unsent) sections d.table s fields cs k are
    (omega (arith, fits, ap length x.written, length-append d.unsent instructions))
    (omega (arith, small, ap length x.block)) in
    let bytes : (sent ++ d.unsent) ++ instructions ≡ sent ++ new.unsent =
    append_assoc sent d.unsent instructions ∙ ap (λ (b : List ℕ). sent ++ b) (sym x.written) in
    subst (λ (b : List ℕ). Adds maximum s fields sections b new.table required section) bytes
    (subst (λ (t : Table). Adds maximum s fields sections ((sent ++ d.unsent) ++ instructions) t required section)
    (sym x.table)
    (subst (λ (n : ℕ). Adds maximum s fields sections ((sent ++ d.unsent) ++ instructions) (committed_table draft s) n
    section) (sym x.required_is)
    (subst (λ (b : List ℕ). Adds maximum s fields sections ((sent ++ d.unsent) ++ instructions)
    (committed_table draft s) count b) (sym x.block) r)))

adds_alone : (maximum : ℕ) (d new : EncodingEnd) (sent : List ℕ) (sections : List Section) (s : ℕ)
    (fields : List FieldLine) (section : List ℕ) (required : ℕ)
    → WritesLawfully maximum (sent ++ d.unsent) sections d.table
    → AllByRecursion IsByteField (fields_of_lines fields) → length section < 2 ^ 63
    → WritesAlone d new fields [] section required
    → Adds maximum s fields sections (sent ++ new.unsent) new.table required section
adds_alone maximum d new sent sections s fields section required k are small writes =
    subst (λ (e : EncodingEnd). Adds maximum s fields sections (sent ++ e.unsent) e.table required section)
    (sym writes.new_is)
    (subst (λ (n : ℕ). Adds maximum s fields sections (sent ++ d.unsent) d.table n section) (sym writes.required_is)
    (subst (λ (b : List ℕ). Adds maximum s fields sections (sent ++ d.unsent) d.table 0 b) (sym writes.section)
    (same, alone_lawful maximum same.made fields are (omega (arith, small, ap length writes.section)))))
  where
    same : WritesLawfully maximum (sent ++ d.unsent) (sections ++ []) d.table
    same =
        subst (λ (ws : List Section). WritesLawfully maximum (sent ++ d.unsent) ws d.table)
        (sym (append-nil sections)) k

first_bytes : (many : ℕ) (fields : List FieldLine) → AllByRecursion IsByteField (fields_of_lines fields)
    → AllByRecursion IsByteField (fields_of_lines (take many fields))
first_bytes zero fields are = tt
first_bytes (suc many) [] are = tt
first_bytes (suc many) (f ∷ fields) are = (are.0, first_bytes many fields are.1)

gives_up : (maximum : ℕ) (d new : EncodingEnd) (sent : List ℕ) (sections : List Section) (fields : List FieldLine)
    → WritesLawfully maximum (sent ++ d.unsent) sections d.table
    → AllByRecursion IsByteField (fields_of_lines fields) → length new.unsent < 2 ^ 63
    → GivesUpSection d new fields → WritesLawfully maximum (sent ++ new.unsent) sections new.table
gives_up maximum d new sent sections fields k are fits g =
    let some = take g.lines.many fields in
    let instructions = coded_encoder_instructions WhereShorter (chosen_rule d.table some g.lines.choices).instructions in
    let r =
    writes_given_up maximum (sent ++ d.unsent) sections d.table some g.lines.choices k
    (first_bytes g.lines.many fields are)
    (omega (arith, fits, ap length g.lines.written, length-append d.unsent instructions)) in
    subst (λ (b : List ℕ). WritesLawfully maximum b sections new.table)
    (append_assoc sent d.unsent instructions ∙ ap (λ (b : List ℕ). sent ++ b) (sym g.lines.written))
    (subst (λ (t : Table). WritesLawfully maximum ((sent ++ d.unsent) ++ instructions) sections t) (sym g.lines.table)
    r)

-- an end that is another one wrote what that wrote
written_same : (maximum : ℕ) (d new : EncodingEnd) (sent : List ℕ) (sections : List Section) → new ≡ d
    → WritesLawfully maximum (sent ++ d.unsent) sections d.table
    → WritesLawfully maximum (sent ++ new.unsent) sections new.table
written_same maximum d new sent sections same k =
    subst (λ (e : EncodingEnd). WritesLawfully maximum (sent ++ e.unsent) sections e.table) (sym same) k

encode_writes : (settings : EncoderSettings) (old new : EncodingEnd) (sent : List ℕ) (sections : List Section) (s : ℕ)
    (fields : List FieldLine) (wishes : List Wish) (section : List ℕ) (answer : Result ℕ EncodingError)
    → Stays settings.max_blocked old → WritesLawfully settings.max_capacity (sent ++ old.unsent) sections old.table
    → AllByRecursion IsByteField (fields_of_lines fields) → length new.unsent < 2 ^ 63 → length section < 2 ^ 63
    → Encodes old new s fields [] section answer
    → IsBehind settings (Encode s fields wishes section answer) new (sent ++ [])
    (sections ++ written_by (Encode s fields wishes section answer))
encode_writes settings old new sent sections s fields wishes section (Ok required) stays k are fits small (live, call) =
    let most = settings.max_capacity in
    let b = begun_writes most old sent sections old.wanted k in
    subst (λ (x : List ℕ). Adds most s fields sections (x ++ new.unsent) new.table required section)
    (sym (append-nil sent))
    (elim call [
      | inl writes ↦ adds_chosen most (begun old) new sent sections s fields section required b are fits small writes
      | inr writes ↦ adds_alone most (begun old) new sent sections s fields section required b are small writes
    ])
encode_writes settings old new sent sections s fields wishes section (Err e) stays k are fits small (none, inl same) =
    no_more settings (Encode s fields wishes section (Err e)) new sent sections
    (written_same settings.max_capacity old new sent sections same.1 k, tt)
encode_writes settings old new sent sections s fields wishes section (Err e) stays k are fits small (none, inr stop) =
    no_more settings (Encode s fields wishes section (Err e)) new sent sections (by stop.2, tt)
  where
    most : ℕ
    most = settings.max_capacity

    b : WritesLawfully most (sent ++ (begun old).unsent) sections (begun old).table
    b = begun_writes most old sent sections old.wanted k

    by : StopsForMemory old new s fields → WritesLawfully most (sent ++ new.unsent) sections new.table
    by (inl same) = written_same most old new sent sections same.1 k
    by (inr (inl begins)) = written_same most (begun old) new sent sections begins.1 b
    by (inr (inr g)) = gives_up most (begun old) new sent sections fields b are fits g

set_writes : (maximum : ℕ) (old new : EncodingEnd) (sent : List ℕ) (sections : List Section) (n : ℕ)
    (answer : Result ⊤ EncodingError) → WritesLawfully maximum (sent ++ old.unsent) sections old.table
    → SetsCapacity old new n answer → WritesLawfully maximum (sent ++ new.unsent) sections new.table
set_writes maximum old new sent sections n (Ok done) k (alive, inl none) =
    written_same maximum old new sent sections none.1 k
set_writes maximum old new sent sections n (Ok done) k (alive, inr tells) =
    subst (λ (b : List ℕ). WritesLawfully maximum b sections new.table)
    (append_assoc sent old.unsent (written_encoder_instruction (SetCapacity n))
    ∙ ap (λ (e : EncodingEnd). sent ++ e.unsent) (sym tells.1.1))
    (writes_capacity maximum (sent ++ old.unsent) sections old.table new.table n k tells.1.0)
set_writes maximum old new sent sections n (Err e) k (inl ended) = written_same maximum old new sent sections ended.1 k
set_writes maximum old new sent sections n (Err e) k (inr stops) =
    written_same maximum old new sent sections stops.2.1 k

shrink_writes : (maximum : ℕ) (old new : EncodingEnd) (sent : List ℕ) (sections : List Section) (n : ℕ)
    (answer : Result ⊤ EncodingError) → WritesLawfully maximum (sent ++ old.unsent) sections old.table
    → Shrinks old new n answer → WritesLawfully maximum (sent ++ new.unsent) sections new.table
shrink_writes maximum old new sent sections n (Ok done) k (alive, inl sets) =
    set_writes maximum old new sent sections n (Ok done) k (alive, sets)
shrink_writes maximum old new sent sections n (Ok done) k (alive, inr waits) =
    written_same maximum (waiting n old) new sent sections waits.1 k
shrink_writes maximum old new sent sections n (Err e) k (goes, stops) =
    set_writes maximum old new sent sections n (Err e) k stops

-- a call that receives bytes leaves what is to be sent
receive_unsent : (old new : EncodingEnd) (heard : List DecoderInstruction) (before bytes : List ℕ)
    (answer : Result ⊤ EncodingError) → ReceivesBytes heard before old new bytes answer → new.unsent ≡ old.unsent
receive_unsent old new heard before bytes (Ok done) call = ap (λ (e : EncodingEnd). e.unsent) call.1
receive_unsent old new heard before bytes (Err (DecoderStream x)) call = ap (λ (e : EncodingEnd). e.unsent) call.1
receive_unsent old new heard before bytes (Err CapacityTooLarge) call = absurd call
receive_unsent old new heard before bytes (Err EntriesHeld) call = absurd call
receive_unsent old new heard before bytes (Err (NoStream s)) call = absurd call
receive_unsent old new heard before bytes (Err MaximumChanged) call = absurd call
receive_unsent old new heard before bytes (Err LimitLowered) call = absurd call
receive_unsent old new heard before bytes (Err MaximumTooLarge) call = absurd call
receive_unsent old new heard before bytes (Err Memory) call = absurd call

-- a call that hears nothing
hears_none : (settings : EncoderSettings) (call : Call) (new : EncodingEnd) (sent : List ℕ) (sections : List Section)
    (heard : List DecoderInstruction) → heard ≡ []
    → IsBehind settings call new sent (sections ++ written_by call)
    → IsBehind settings call new sent (released heard sections ++ written_by call)
hears_none settings call new sent sections heard none k =
    subst (λ (is : List DecoderInstruction). IsBehind settings call new sent (released is sections ++ written_by call))
    (sym none) k

end_writes : (settings : EncoderSettings) (call : Call) (old new : Writer) → Holds settings old
    → (w : Writes call old new) → Fits call new → Stays settings.max_blocked new.end
    → IsBehind settings call new.end (old.sent ++ sent_by call old.end)
    (released w.heard old.sections ++ written_by call)
end_writes settings (Encode s fields wishes section answer) old new h w fits stays =
    hears_none settings (Encode s fields wishes section answer) new.end (old.sent ++ []) old.sections w.heard w.hears
    (encode_writes settings old.end new.end old.sent old.sections s fields wishes section answer h.stays h.writes fits.0
    fits.1 fits.2 w.step.0)
end_writes settings (calls.SetCapacity n answer) old new h w fits stays =
    hears_none settings (calls.SetCapacity n answer) new.end (old.sent ++ []) old.sections w.heard w.hears
    (no_more settings (calls.SetCapacity n answer) new.end old.sent old.sections
    (set_writes settings.max_capacity old.end new.end old.sent old.sections n answer h.writes w.step, tt))
end_writes settings (calls.Shrink n answer) old new h w fits stays =
    hears_none settings (calls.Shrink n answer) new.end (old.sent ++ []) old.sections w.heard w.hears
    (no_more settings (calls.Shrink n answer) new.end old.sent old.sections
    (shrink_writes settings.max_capacity old.end new.end old.sent old.sections n answer h.writes w.step, tt))
end_writes settings (Receive bytes answer) old new h w fits stays =
    no_more settings (Receive bytes answer) new.end old.sent (released w.heard old.sections) (
      subst (λ (b : List ℕ). WritesLawfully settings.max_capacity (old.sent ++ b) (released w.heard old.sections)
          new.end.table) (sym (by old.end.failure refl w.step.1))
          (writes_heard settings.max_capacity (written old) old.sections old.end.table new.end.table w.heard h.writes
          w.hears stays.table),
      tt,
    )
  where
    by : (o : Option EncodingError) → old.end.failure ≡ o
        → IfSome o (λ e. (answer ≡ Err e) × (new.end ≡ old.end)) → new.end.unsent ≡ old.end.unsent
    by None alive ended =
        let was = h.stays.sound.stream alive in
        receive_unsent old.end new.end was.0 was.1 bytes answer (w.step.0 alive was.0 was.1 was.2)
    by (Some e) failed ended = ap (λ (x : EncodingEnd). x.unsent) ended.1
end_writes settings (Sent many) old new h w fits stays =
    let unsent = old.end.unsent in
    let same : old.sent ++ unsent ≡ (old.sent ++ take many unsent) ++ drop many unsent =
    ap (λ (b : List ℕ). old.sent ++ b) (sym (take-append-drop many unsent))
    ∙ sym (append_assoc old.sent (take many unsent) (drop many unsent)) in
    hears_none settings (Sent many) new.end (old.sent ++ take many unsent) old.sections w.heard w.hears
    (subst (λ (ws : List Section). IsBehind settings (Sent many) new.end (old.sent ++ take many unsent) ws)
    (sym (append-nil old.sections)) (
      subst (λ (e : EncodingEnd). WritesLawfully settings.max_capacity ((old.sent ++ take many unsent) ++ e.unsent)
          old.sections e.table) (sym w.step)
          (subst (λ (b : List ℕ). WritesLawfully settings.max_capacity b old.sections old.end.table) same h.writes),
      tt,
    ))

-- ---- a section that was written is under way

last_under_way : (bs : List UnacknowledgedBlock) (b : UnacknowledgedBlock) (ys : List UnderWay)
    → slice_get (map (λ (x : UnacknowledgedBlock). open_section x) (bs ++ b ∷ []) ++ ys) (length bs)
    ≡ Some (open_section b)
last_under_way [] b ys = refl
last_under_way (x ∷ bs) b ys = last_under_way bs b ys

free_under_way : (instructions : List EncoderInstruction) (made : History) (w : Writer) (s required : ℕ)
    → required ≡ 0 → IsUnderWay (encoder_of instructions made (s ∷ []) w) s required
free_under_way instructions made w s required none =
    let open_on = map (λ (b : UnacknowledgedBlock). open_section b) w.end.table.unacknowledged in (
      length open_on,
      get_append_end open_on (record { stream = s; required = 0 })
          ∙ ap (λ (n : ℕ). let v : UnderWay = record { stream = s; required = n } in Some v) (sym none),
    )

chosen_under_way : (instructions : List EncoderInstruction) (made : History) (w : Writer) (s required : ℕ)
    (entries : List ℕ) (bs : List UnacknowledgedBlock)
    → w.end.table.unacknowledged ≡ with_unacknowledged bs s entries → required ≡ greatest_of entries
    → IsUnderWay (encoder_of instructions made (s ∷ []) w) s required
unfolding greatest_of
chosen_under_way instructions made w s required [] bs are is = free_under_way instructions made w s required is
chosen_under_way instructions made w s required (a ∷ more) bs are is =
    let b : UnacknowledgedBlock = record { stream = s; entries = a ∷ more } in
    let free : List UnderWay = record { stream = s; required = 0 } ∷ [] in (
      length bs,
      ap (λ (xs : List UnacknowledgedBlock).
          slice_get (map (λ (x : UnacknowledgedBlock). open_section x) xs ++ free) (length bs)) are
          ∙ last_under_way bs b free
          ∙ ap (λ (n : ℕ). let v : UnderWay = record { stream = s; required = n } in Some v) (sym is),
    )

under_way : (instructions : List EncoderInstruction) (made : History) (w : Writer) (d : EncodingEnd) (s : ℕ)
    (fields : List FieldLine) (section : List ℕ) (required : ℕ)
    → encoders.WritesSection d w.end s fields [] section required ⊎ WritesAlone d w.end fields [] section required
    → IsUnderWay (encoder_of instructions made (s ∷ []) w) s required
under_way instructions made w d s fields section required (inl writes) =
    let cs = writes.section.choices in
    chosen_under_way instructions made w s required (chosen_rule d.table fields cs).table.referenced
    d.table.unacknowledged
    (ap (λ (t : Table). t.unacknowledged) writes.section.table ∙ committed_open d.table fields cs s)
    writes.section.required_is
under_way instructions made w d s fields section required (inr writes) =
    free_under_way instructions made w s required writes.required_is

section_behind : (settings : EncoderSettings) (call : Call) (old new : Writer)
    (k : WritesLawfully settings.max_capacity (written new) new.sections new.end.table) → Step call old.end new.end
    → AddsLawfully settings call k.made → WritesSection settings k.sent k.made call new
section_behind settings (Encode s fields wishes section (Ok required)) old new k step adds =
    (adds, under_way k.sent k.made new (begun old.end) s fields section required step.0.1)
section_behind settings (Encode s fields wishes section (Err e)) old new k step adds = tt
section_behind settings (calls.SetCapacity n answer) old new k step adds = tt
section_behind settings (calls.Shrink n answer) old new k step adds = tt
section_behind settings (Receive bytes answer) old new k step adds = tt
section_behind settings (Sent many) old new k step adds = tt

-- ---- all calls

-- what holds after a call, and what it promises
record HoldsBehind (settings : EncoderSettings) (call : Call) (w : Writer) : Type 0 where
  pub holds : Holds settings w
  pub keeps : KeepsToTheStandard settings w
  pub section : WritesSection settings keeps.instructions keeps.made call w

step_holds : (settings : EncoderSettings) (call : Call) (old new : Writer) → Holds settings old
    → Writes call old new → Fits call new → HoldsBehind settings call new
unfolding keeps
step_holds settings call old new h writes fits =
    let stays = step_stays settings call old.end new.end h.stays writes.step in
    let k =
    subst (λ (b : List ℕ). IsBehind settings call new.end b new.sections) (sym writes.sent)
    (subst (λ (ws : List Section). IsBehind settings call new.end (old.sent ++ sent_by call old.end) ws)
    (sym writes.sections) (end_writes settings call old new h writes fits stays)) in
    let now : Holds settings new = record { stays = stays; writes = k.0 } in
    record {
      holds = now;
      keeps = keeps settings new now;
      section = section_behind settings call old new k.0 writes.step k.1;
    }

all_keep : (settings : EncoderSettings) (calls : List Call) (old last : Writer) (run : WritesAll calls old last)
    → Holds settings old → AllFit calls old last run → AllKeep settings calls old last run
all_keep settings [] old last run h fits = tt
all_keep settings (call ∷ calls) old last run h fits =
    let one = step_holds settings call old run.0 h run.1 fits.0 in
    (one.keeps, one.section, all_keep settings calls run.0 last run.2 one.holds fits.1)

pub encoders_keep : EncodersKeepToTheStandard
encoders_keep settings calls first last starts none nothing run fits =
    let h = holds_first settings first starts none nothing in
    (keeps settings first h, all_keep settings calls first last run h fits)

-- ---- all calls are of a writer

-- the instructions that a call heard
pub heard_by : (settings : EncoderSettings) (call : Call) (old new : EncodingEnd) → Stays settings.max_blocked old
    → Step call old new → (heard : List DecoderInstruction) × IsHeardBy call old new heard
heard_by settings (Encode s fields wishes section answer) old new stays step = ([], refl)
heard_by settings (calls.SetCapacity n answer) old new stays step = ([], refl)
heard_by settings (calls.Shrink n answer) old new stays step = ([], refl)
heard_by settings (Sent many) old new stays step = ([], refl)
heard_by settings (Receive bytes answer) old new stays step = by old.failure refl step.1
  where
    received : (heard : List DecoderInstruction) (before : List ℕ) (a : Result ⊤ EncodingError)
        → ReceivesBytes heard before old new bytes a
        → (is : List DecoderInstruction) × (hear_in_turn old.table is ≡ Ok new.table)
    received heard before (Ok done) call = (call.0.more, call.0.applies)
    received heard before (Err (DecoderStream x)) call = (call.0.0.more, call.0.0.applies)
    received heard before (Err CapacityTooLarge) call = absurd call
    received heard before (Err EntriesHeld) call = absurd call
    received heard before (Err (NoStream s)) call = absurd call
    received heard before (Err MaximumChanged) call = absurd call
    received heard before (Err LimitLowered) call = absurd call
    received heard before (Err MaximumTooLarge) call = absurd call
    received heard before (Err Memory) call = absurd call

    by : (o : Option EncodingError) → old.failure ≡ o → IfSome o (λ e. (answer ≡ Err e) × (new ≡ old))
        → (is : List DecoderInstruction) × (hear_in_turn old.table is ≡ Ok new.table)
    by None alive ended =
        let was = stays.sound.stream alive in
        received was.0 was.1 answer (step.0 alive was.0 was.1 was.2)
    by (Some e) failed ended =
        ([], ap (λ (x : EncodingEnd). let r : Result Table HearingRefusal = Ok x.table in r) (sym ended.1))

all_written : (settings : EncoderSettings) (calls : List Call) (old : Writer) (last : EncodingEnd)
    → Stays settings.max_blocked old.end → Run calls old.end last
    → (w : Writer) × (w.end ≡ last) × WritesAll calls old w
all_written settings [] old last stays run = (old, sym run, refl)
all_written settings (call ∷ calls) old last stays run =
    let h = heard_by settings call old.end run.0 stays run.1 in
    let now : Writer =
    record {
      end = run.0;
      sent = old.sent ++ sent_by call old.end;
      sections = released h.0 old.sections ++ written_by call;
    } in
    let one : Writes call old now =
    record { step = run.1; sent = refl; heard = h.0; hears = h.1; sections = refl } in
    let rest =
    all_written settings calls now last (step_stays settings call old.end run.0 stays run.1) run.2 in
    (rest.0, rest.1, (now, one, rest.2))

pub encoders_write : EncodersAreWriters
encoders_write settings calls first last starts run =
    all_written settings calls (record { end = first; sent = []; sections = [] }) last
    (stays_first settings first starts) run
