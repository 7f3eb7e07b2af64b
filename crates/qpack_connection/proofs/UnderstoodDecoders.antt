-- The encoding end of a connection is careful with any decoder, and understands one that keeps to the standard.
use Rattle.std.proofs.Common.{◌≡◌, ◌<◌, ◌≤◌, ◌^◌, ◌⊎◌, ℕ, true, false, List, [], ◌∷◌, drop, length, Option, None}
use Rattle.std.proofs.Common.{Some, Result, Ok, Err, refl, sym, ap, subst, ◌∙◌, arith, inl, inr}
use Rattle.std.specs.Option.{IfSome, is_some}
use Rattle.std.specs.Prelude.{⊤, ◌&&◌, ◌||◌}
use Rattle.std.proofs.lemmas.Bool.{lt-ltb}
use Rattle.qpack_spec.specs.Chosen.{Choice, Inserts, Chosen, chosen_rule}
use Rattle.qpack_spec.specs.Field.{FieldLine}
use Rattle.qpack_spec.specs.Marked.{stateless_block_marked}
use Rattle.qpack_rules.specs.LawfulDecoders.{IsQuiet, IsToBeInserted}
use Rattle.qpack_spec.specs.Rule.{block_of, empty_draft, required_insert_count}
use Rattle.qpack_spec.specs.Table.{Table, UnacknowledgedBlock, insert_count, window, with_numbers, without_references}
use Rattle.qpack_spec.specs.Table.{below_limit, has_room, newest_index}
use Rattle.qpack_spec.specs.Table.{with_unacknowledged, with_capacity}
use Rattle.qpack_spec.specs.Window.{TableRefusal, greatest_capacity}
use Rattle.qpack_rules.proofs.AloneSections.{none_referenced}
use Rattle.qpack_rules.proofs.ChosenDrafts.{chosen_drafts}
use Rattle.qpack_safety.proofs.Encoding.{same_committed}
use Rattle.qpack_connection.specs.LawfulDecoders.{CountsSection, Counts}
use Rattle.qpack_rules.proofs.ChosenGoesOn.{go_on_chosen}
use Rattle.qpack_rules.proofs.LawfulDecoders.{instructions_heard, has_room_quiet}
use Rattle.qpack_encoding.specs.declared.encoder.EncoderSettings.{EncoderSettings}
use Rattle.qpack_encoding.specs.declared.encoder.EncodingError.{EncodingError}
use Rattle.qpack_encoding.specs.declared.encoder.EncodingError.TheVariants.{DecoderStream, CapacityTooLarge}
use Rattle.qpack_encoding.specs.declared.encoder.EncodingError.TheVariants.{EntriesHeld, NoStream, Memory}
use Rattle.qpack_encoding.specs.declared.encoder.EncodingError.TheVariants.{MaximumChanged, LimitLowered, MaximumTooLarge}
use Rattle.qpack_encoding.specs.Encoders.{EncodingEnd, IsToBeTold, begun, begun_with, told_if, is_alone, is_full}
use Rattle.qpack_encoding.specs.Encoders.{StopsForMemory, SetsCapacity, Shrinks}
use Rattle.qpack_encoding.specs.Encoders.{WritesSection, WritesAlone, Encodes, ReceivesBytes}
use Rattle.qpack_encoding.specs.Wishes.{SuitsUnless, SuitAlong, EncodesAsWished}
use Rattle.qpack_codec.specs.declared.encoder.choices.Wish.{Wish}
use Rattle.qpack_codec.specs.declared.encoder.choices.Wish.TheVariants.{Unmarked, Reuse, Insert, Never}
use Rattle.qpack_connection.specs.LawfulDecoders.{Call, Encode, SetCapacity, Shrink, Receive, Sent, Step, Run}
use Rattle.qpack_connection.specs.LawfulDecoders.{IsCareful, AllCareful, EncodersAreCareful, IsLawful, IsLawfulCall, AreLawful}
use Rattle.qpack_connection.specs.LawfulDecoders.{GoesOn, Answers, AllAnswer, LawfulDecodersAreUnderstood}
use Rattle.qpack_connection.proofs.CarefulTables.{careful_needed, careful_count}
use Rattle.qpack_connection.proofs.CarefulTables.{quiet_unblocked}
use Rattle.qpack_connection.proofs.KeptConnections.{begun_failure}
use Rattle.qpack_connection.proofs.LawfulPieces.{decoder_streams_heard}
use Rattle.qpack_connection.proofs.CarefulEnds.{Stays, stays_first, stays_same, table_begun, stays_encoded, stays_set}
use Rattle.qpack_connection.proofs.CarefulEnds.{stays_shrunk, stays_heard, stays_sent, begun_settings}
use Rattle.qpack_connection.proofs.UnnamedTables.{settled_takes}
use Rattle.qpack_spec.proofs.Positions.{eviction_count_live}
use Rattle.std.proofs.Common.{Bool}
use Rattle.qpack_encoding.specs.Encoders.{may_block}
use Rattle.qpack_encoding.specs.Wishes.{limited, KeepsWishes}
use Rattle.qpack_encoding.proofs.Risk.{none_yet}

pub step_stays : (settings : EncoderSettings) (call : Call) (old new : EncodingEnd) → Stays settings.max_blocked old
    → Step call old new → Stays settings.max_blocked new
step_stays settings (Encode s fields wishes section answer) old new k step =
    stays_encoded settings.max_blocked old new s fields section answer k step.0
step_stays settings (SetCapacity n answer) old new k step = stays_set settings.max_blocked old new n answer k step
step_stays settings (Shrink n answer) old new k step = stays_shrunk settings.max_blocked old new n answer k step
step_stays settings (Receive bytes answer) old new k step = by old.failure refl step.1
  where
    by : (o : Option EncodingError) → old.failure ≡ o → IfSome o (λ e. (answer ≡ Err e) × (new ≡ old))
        → Stays settings.max_blocked new
    by None alive ended = stays_heard settings.max_blocked old new bytes answer k alive (step.0 alive)
    by (Some e) failed ended = stays_same settings.max_blocked old new k ended.1
step_stays settings (Sent many) old new k step =
    stays_same settings.max_blocked (record old { unsent = drop many old.unsent }) new
    (stays_sent settings.max_blocked old (drop many old.unsent) k) step

pub run_stays : (settings : EncoderSettings) (calls : List Call) (old new : EncodingEnd) → Run calls old new
    → Stays settings.max_blocked old → Stays settings.max_blocked new
run_stays settings [] old new run k = stays_same settings.max_blocked old new k run
run_stays settings (call ∷ calls) old new run k =
    run_stays settings calls run.0 new run.2 (step_stays settings call old run.0 k run.1)

careful : (settings : EncoderSettings) (e : EncodingEnd) → Stays settings.max_blocked e → IsCareful settings e
careful settings e k =
    record {
      needed = careful_needed 4096 e.table k.table;
      blocked = k.few;
    }

counts_section : (settings : EncoderSettings) (old new : EncodingEnd) (s : ℕ) (fields : List FieldLine)
    (section : List ℕ) (required : ℕ) → Stays settings.max_blocked old
    → WritesSection (begun old) new s fields [] section required
    ⊎ WritesAlone (begun old) new fields [] section required → CountsSection (begun old) new s fields section
counts_section settings old new s fields section required k (inl writes) =
    let t = (begun old).table in
    let careful = table_begun settings.max_blocked old k in
    let cs = writes.section.choices in
    let p = chosen_drafts t careful.history fields cs careful.sound careful.kept in
    let d = chosen_rule t fields cs in
    record {
      block = block_of t d;
      written = writes.section.block;
      counted =
          ap (λ (x : Table). x.unacknowledged) writes.section.table
          ∙ (same_committed d.table s (required_insert_count d)).c_opened
          ∙ ap (λ (bs : List UnacknowledgedBlock). with_unacknowledged bs s d.table.referenced)
          p.references.unacknowledged
          ∙ ap (λ (rs : List ℕ). with_unacknowledged t.unacknowledged s rs) (sym p.references.refs);
    }
counts_section settings old new s fields section required k (inr writes) =
    let t = (begun old).table in
    record {
      block = stateless_block_marked fields;
      written = writes.section;
      counted =
          ap (λ (y : EncodingEnd). y.table.unacknowledged) writes.new_is
          ∙ ap (λ (rs : List ℕ). with_unacknowledged t.unacknowledged s (with_numbers [] rs))
          (sym (none_referenced (insert_count t) (window t) fields));
    }

call_counts : (settings : EncoderSettings) (call : Call) (old new : EncodingEnd) → Stays settings.max_blocked old
    → Step call old new → Counts call old new
call_counts settings (Encode s fields wishes section (Ok required)) old new k step =
    counts_section settings old new s fields section required k step.0.1
call_counts settings (Encode s fields wishes section (Err e)) old new k step = tt
call_counts settings (SetCapacity n answer) old new k step = tt
call_counts settings (Shrink n answer) old new k step = tt
call_counts settings (Receive bytes answer) old new k step = tt
call_counts settings (Sent many) old new k step = tt

all_careful : (settings : EncoderSettings) (calls : List Call) (old last : EncodingEnd) (run : Run calls old last)
    → Stays settings.max_blocked old → AllCareful settings calls old last run
all_careful settings [] old last run k = tt
all_careful settings (call ∷ calls) old last run k =
    let now = step_stays settings call old run.0 k run.1 in (
      call_counts settings call old run.0 k run.1,
      careful settings run.0 now,
      all_careful settings calls run.0 last run.2 now,
    )

pub encoders_careful : EncodersAreCareful
encoders_careful settings calls first last s run =
    all_careful settings calls first last run (stays_first settings first s)

-- ---- a call, with a lawful decoder

-- the first field is chosen to be inserted, so that an insertion is required that was not made before
first_goes_on : (t : Table) (l : FieldLine) (more : List FieldLine) (words : List Wish) (cs : List Chosen) → IsQuiet t
    → IsToBeInserted t l → length t.blocked < t.limit → insert_count t < 2 ^ 62
    → SuitAlong (insert_count t) (empty_draft t) (l ∷ more) (Insert ∷ words) cs
    → insert_count t < required_insert_count (chosen_rule t (l ∷ more) cs)
unfolding without_references newest_index
first_goes_on t l more words [] quiet is below few suit = absurd suit
first_goes_on t l more words (c ∷ cs) quiet is below few suit =
    let d = empty_draft t in
    let still : IsQuiet d.table = record { acknowledged = quiet.acknowledged; known = quiet.known } in
    let wish = subst (λ (o : Option ℕ). SuitsUnless o l.never_indexed d.table l Insert c) is.not_static suit.0 in
    let room = has_room_quiet d.table l.field still refl is.fits few in
    let may : (below_limit d.table && has_room d.table l.field) ≡ true =
    rw (lt-ltb (length t.blocked) t.limit below, room) refl in
    let inserts = (wish is.indexable is.not_there).referenced may in
    let same : c ≡ record { line = Inserts; unreferenced = c.unreferenced; names = c.names } =
    ap (λ (x : Choice). let y : Chosen = record { line = x; unreferenced = c.unreferenced; names = c.names } in y) inserts in
    subst (λ (x : Chosen). insert_count t < required_insert_count (chosen_rule t (l ∷ more) (x ∷ cs))) (sym same)
    (go_on_chosen t l more c.unreferenced c.names cs quiet is.indexable is.fits below few)

-- where nothing is under way, a section may be blocked
quiet_may : (settings : EncoderSettings) (d : EncodingEnd) (s : ℕ) → IsQuiet d.table
    → d.settings.max_blocked ≡ settings.max_blocked → 0 < settings.max_blocked → may_block d s ≡ true
quiet_may settings d s quiet same some =
    rw (none_yet d.table quiet.acknowledged)
    (lt-ltb 0 d.settings.max_blocked (omega (arith, same, some)))

most_begun : (settings : EncoderSettings) (old : EncodingEnd) → Stays settings.max_blocked old
    → (begun old).settings.max_blocked ≡ settings.max_blocked
most_begun settings old k = ap (λ (s : EncoderSettings). s.max_blocked) (begun_settings old) ∙ k.most_is

limit_as : (t : Table) → t.limit ≡ 4096 → record t { limit = 4096 } ≡ t
limit_as t is = sym (ap (λ (n : ℕ). let u : Table = record t { limit = n } in u) is)

-- and no capacity waits
quiet_wants : (most : ℕ) (d : EncodingEnd) (n : ℕ) (r : Result Table TableRefusal) → Stays most d
    → n ≤ greatest_capacity d.table.agreed_max → with_capacity d.table n ≡ r → IsQuiet (told_if n d r).table
    → (told_if n d r).wanted ≡ None
quiet_wants most d n (Ok t) k within is quiet = refl
quiet_wants most d n (Err e) k within is quiet =
    let takes = settled_takes d.table n k.unnamed quiet.acknowledged
    (omega (arith, quiet.known, eviction_count_live d.table n)) within in
    absurd (let x = sym is ∙ takes in cc)

quiet_waits : (most : ℕ) (d : EncodingEnd) (o : Option ℕ) → Stays most d → d.wanted ≡ o
    → IfSome o (λ n. IsToBeTold d n) → IsQuiet (begun_with o d).table → (begun_with o d).wanted ≡ None
quiet_waits most d None k is within quiet = is
quiet_waits most d (Some n) k is within quiet =
    quiet_wants most d n (with_capacity d.table n) k within refl quiet

quiet_alone : (most : ℕ) (old : EncodingEnd) → Stays most old → IsQuiet (begun old).table
    → is_full (begun old) ≡ false → is_alone (begun old) ≡ false
quiet_alone most old k quiet room =
    ap (λ (o : Option ℕ). is_some o || is_full (begun old)) (quiet_waits most old old.wanted k refl k.sound.wanted quiet)
    ∙ room

goes_on : (settings : EncoderSettings) (old new : EncodingEnd) (s : ℕ) (fields : List FieldLine) (wishes : List Wish)
    (section : List ℕ) (required : ℕ) → Stays settings.max_blocked old
    → EncodesAsWished old new s fields wishes [] section (Ok required)
    → GoesOn settings (begun old) fields wishes required
goes_on settings old new s (l ∷ more) (Insert ∷ words) section required k wished = λ quiet is some room few.
    let d = begun old in
    let careful = table_begun settings.max_blocked old k in
    let may = quiet_may settings d s quiet (most_begun settings old k) some in
    let limit : (limited true d).table ≡ d.table = limit_as d.table careful.limit_is in
    let w = subst (λ (b : Bool). KeepsWishes (limited b d) (limited b new) s (l ∷ more) (Insert ∷ words) [] section
    required) may (wished (quiet_alone settings.max_blocked old k quiet room)) in
    let below = quiet_unblocked 4096 d.table careful quiet.known (omega arith) in
    let still : IsQuiet (limited true d).table = record { acknowledged = quiet.acknowledged; known = quiet.known } in
    let reached = first_goes_on (limited true d).table l more words w.section.choices still
    (subst (λ (t : Table). IsToBeInserted t l) (sym limit) is)
    (omega (arith, below, careful.limit_is)) few
    (w.suit (λ none. omega (arith, none, is.fits))) in
    omega (arith, reached, w.section.required_is)
goes_on settings old new s (l ∷ more) (Reuse ∷ words) section required k wished = tt
goes_on settings old new s (l ∷ more) (Never ∷ words) section required k wished = tt
goes_on settings old new s (l ∷ more) (Unmarked ∷ words) section required k wished = tt
goes_on settings old new s (l ∷ more) [] section required k wished = tt
goes_on settings old new s [] wishes section required k wished = tt

-- what a call answers, and that no error ends the connection
abbrev AnswersSo : EncoderSettings → Call → EncodingEnd → EncodingEnd → Type 0
AnswersSo settings call old new = Answers settings call old × (new.failure ≡ None)

memory_alive : (old new : EncodingEnd) (s : ℕ) (fields : List FieldLine) → old.failure ≡ None
    → StopsForMemory old new s fields → new.failure ≡ None
memory_alive old new s fields alive (inl none) = ap (λ (y : EncodingEnd). y.failure) none.1 ∙ alive
memory_alive old new s fields alive (inr (inl told)) =
    ap (λ (y : EncodingEnd). y.failure) told.1 ∙ begun_failure old.wanted old ∙ alive
memory_alive old new s fields alive (inr (inr g)) =
    ap (λ (y : EncodingEnd). y.failure) g.new_is ∙ begun_failure old.wanted old ∙ alive

encode_answers : (settings : EncoderSettings) (old new : EncodingEnd) (s : ℕ) (fields : List FieldLine)
    (wishes : List Wish) (section : List ℕ) (answer : Result ℕ EncodingError) → Stays settings.max_blocked old
    → old.failure ≡ None → Encodes old new s fields [] section answer
    → EncodesAsWished old new s fields wishes [] section answer
    → AnswersSo settings (Encode s fields wishes section answer) old new
encode_answers settings old new s fields wishes section (Ok required) k alive (checks, inl writes) wished = (
  goes_on settings old new s fields wishes section required k wished,
  ap (λ (y : EncodingEnd). y.failure) writes.new_is ∙ begun_failure old.wanted old ∙ alive,
)
encode_answers settings old new s fields wishes section (Ok required) k alive (checks, inr writes) wished = (
  goes_on settings old new s fields wishes section required k wished,
  ap (λ (y : EncodingEnd). y.failure) writes.new_is ∙ begun_failure old.wanted old ∙ alive,
)
encode_answers settings old new s fields wishes section (Err e) k alive (none, inl (inl ended, same)) wished =
    absurd (let x = sym alive ∙ ended in cc)
encode_answers settings old new s fields wishes section (Err e) k alive (none, inl (inr number, same)) wished =
    (inr (number.2, number.1), ap (λ (y : EncodingEnd). y.failure) same ∙ alive)
encode_answers settings old new s fields wishes section (Err e) k alive (none, inr stopped) wished =
    (inl stopped.1, memory_alive old new s fields alive stopped.2)

set_answers : (settings : EncoderSettings) (old new : EncodingEnd) (n : ℕ) (answer : Result ⊤ EncodingError)
    → old.failure ≡ None → SetsCapacity old new n answer → AnswersSo settings (SetCapacity n answer) old new
set_answers settings old new n (Ok done) alive (live, inl none) =
    (tt, ap (λ (y : EncodingEnd). y.failure) none.1 ∙ alive)
set_answers settings old new n (Ok done) alive (live, inr tells) =
    (tt, ap (λ (y : EncodingEnd). y.failure) tells.1.1 ∙ alive)
set_answers settings old new n (Err e) alive (inl ended) = absurd (let x = sym alive ∙ ended.0 in cc)
set_answers settings old new n (Err e) alive (inr (live, some, stops)) =
    (stops.0, ap (λ (y : EncodingEnd). y.failure) stops.1 ∙ alive)

shrink_answers : (settings : EncoderSettings) (old new : EncodingEnd) (n : ℕ) (answer : Result ⊤ EncodingError)
    → old.failure ≡ None → Shrinks old new n answer → AnswersSo settings (Shrink n answer) old new
shrink_answers settings old new n (Ok done) alive (live, inl sets) =
    set_answers settings old new n (Ok done) alive (live, sets)
shrink_answers settings old new n (Ok done) alive (live, inr waits) =
    (tt, ap (λ (y : EncodingEnd). y.failure) waits.1 ∙ alive)
shrink_answers settings old new n (Err e) alive (goes, stops) =
    let refused = set_answers settings old new n (Err e) alive stops in ((goes, refused.0), refused.1)

hear_answers : (settings : EncoderSettings) (old new : EncodingEnd) (bytes : List ℕ) (answer : Result ⊤ EncodingError)
    → Stays settings.max_blocked old → old.failure ≡ None → (l : IsLawful old bytes)
    → ReceivesBytes l.heard l.before old new bytes answer → AnswersSo settings (Receive bytes answer) old new
hear_answers settings old new bytes (Ok done) k alive l call =
    (refl, ap (λ (y : EncodingEnd). y.failure) call.1 ∙ alive)
hear_answers settings old new bytes (Err (DecoderStream x)) k alive l call =
    let h = instructions_heard old.table l.received l.under_way l.may l.known l.made
    (let few = careful_count 4096 old.table k.table in omega (arith, few)) in
    absurd (decoder_streams_heard old.table new.table h.0 l.heard l.under_way l.before bytes l.behind new.stream x
    l.spelled h.1 call.0)
hear_answers settings old new bytes (Err CapacityTooLarge) k alive l call = absurd call
hear_answers settings old new bytes (Err EntriesHeld) k alive l call = absurd call
hear_answers settings old new bytes (Err (NoStream s)) k alive l call = absurd call
hear_answers settings old new bytes (Err MaximumChanged) k alive l call = absurd call
hear_answers settings old new bytes (Err LimitLowered) k alive l call = absurd call
hear_answers settings old new bytes (Err MaximumTooLarge) k alive l call = absurd call
hear_answers settings old new bytes (Err Memory) k alive l call = absurd call

step_answers : (settings : EncoderSettings) (call : Call) (old new : EncodingEnd) → Stays settings.max_blocked old
    → old.failure ≡ None → Step call old new → IsLawfulCall call old → AnswersSo settings call old new
step_answers settings (Encode s fields wishes section answer) old new k alive step asked =
    encode_answers settings old new s fields wishes section answer k alive step.0 step.1
step_answers settings (SetCapacity n answer) old new k alive step asked =
    set_answers settings old new n answer alive step
step_answers settings (Shrink n answer) old new k alive step asked =
    shrink_answers settings old new n answer alive step
step_answers settings (Receive bytes answer) old new k alive step asked =
    hear_answers settings old new bytes answer k alive asked (step.0 alive asked.heard asked.before asked.receives)
step_answers settings (Sent many) old new k alive step asked =
    (tt, ap (λ (y : EncodingEnd). y.failure) step ∙ alive)

all_answer : (settings : EncoderSettings) (calls : List Call) (old last : EncodingEnd) (run : Run calls old last)
    → Stays settings.max_blocked old → old.failure ≡ None → AreLawful calls old last run → AllAnswer settings calls old last run
all_answer settings [] old last run k alive asked = tt
all_answer settings (call ∷ calls) old last run k alive asked =
    let one = step_answers settings call old run.0 k alive run.1 asked.0 in (
      one.0,
      one.1,
      all_answer settings calls run.0 last run.2 (step_stays settings call old run.0 k run.1) one.1 asked.1,
    )

pub decoders_understood : LawfulDecodersAreUnderstood
decoders_understood settings calls first last s run asked =
    all_answer settings calls first last run (stays_first settings first s) s.failure asked
