-- A capacity that waits comes, once no section is unacknowledged.
use Rattle.std.proofs.Common.{◌≡◌, ℕ, false, List, [], ◌∷◌, Option, None, Some, IfSome, Result, Ok, Err, ◌⊎◌, inl, inr}
use Rattle.std.proofs.Common.{refl, sym, ap, subst, ◌∙◌}
use Rattle.std.specs.List.{AllByRecursion}
use Rattle.std.specs.Prelude.{⊤, nat_le}
use Rattle.std.proofs.lemmas.Bool.{cond_both}
use Rattle.qpack_spec.specs.Field.{FieldLine}
use Rattle.qpack_spec.specs.Instruction.{DecoderInstruction}
use Rattle.qpack_spec.specs.Table.{Table, with_capacity, can_evict, fields_in}
use Rattle.qpack_spec.specs.Window.{TableRefusal, eviction_count, greatest_capacity}
use Rattle.qpack_spec.proofs.Results.{ok_is}
use Rattle.qpack_codec.specs.declared.encoder.choices.Wish.{Wish}
use Rattle.qpack_encoding.specs.declared.encoder.EncoderSettings.{EncoderSettings}
use Rattle.qpack_encoding.specs.declared.encoder.EncodingError.{EncodingError}
use Rattle.qpack_encoding.specs.Encoders.{EncodingEnd, IsToBeTold, begun, begun_with, told, told_if, is_alone}
use Rattle.qpack_encoding.specs.declared.encoder.EncodingError.TheVariants.{DecoderStream, CapacityTooLarge}
use Rattle.qpack_encoding.specs.declared.encoder.EncodingError.TheVariants.{EntriesHeld, NoStream, Memory}
use Rattle.qpack_encoding.specs.declared.encoder.EncodingError.TheVariants.{MaximumChanged, LimitLowered, MaximumTooLarge}
use Rattle.qpack_encoding.specs.Encoders.{Encodes, StopsForMemory, WritesSection, WritesAlone, ReceivesBytes}
use Rattle.qpack_encoding.proofs.LimitedSections.{none_waits}
use Rattle.qpack_connection.specs.LawfulDecoders.{Call, Encode, SetCapacity, Shrink, Receive, Sent, Step, Run}
use Rattle.qpack_connection.specs.LowerCapacities.{IsSettled, WaitsOn, IsAnnounced, Comes, MustCome, SetsNone, AllWait}
use Rattle.qpack_connection.specs.LowerCapacities.{LowerCapacitiesCome}
use Rattle.qpack_connection.proofs.CarefulEnds.{Stays, stays_first}
use Rattle.qpack_connection.proofs.LawfulWriters.{heard_by}
use Rattle.qpack_connection.proofs.UnderstoodDecoders.{step_stays, run_stays}
use Rattle.qpack_connection.proofs.UnnamedTables.{settled_takes}

-- ---- what a section meets

taken_capacity : (t u : Table) (n : ℕ) → with_capacity t n ≡ Ok u → u.capacity ≡ n
unfolding with_capacity
taken_capacity t u n e =
    cond_both (nat_le n (greatest_capacity t.agreed_max)) _ _ (λ r. r ≡ Ok u → u.capacity ≡ n)
    (λ _. cond_both (can_evict t (eviction_count n (fields_in t.live))) _ _ (λ r. r ≡ Ok u → u.capacity ≡ n)
    (λ _ q. sym (ap (λ (v : Table). v.capacity) (ok_is _ _ q)))
    (λ _ q. absurd cc))
    (λ _ q. absurd cc)
    e

-- the capacity is told, or the end is as before and the capacity waits on
abbrev IsMet : ℕ → EncodingEnd → Type 0
IsMet n d =
    ((t : Table) × (with_capacity d.table n ≡ Ok t) × (begun d ≡ told n t d))
    ⊎ ((e : TableRefusal) × (with_capacity d.table n ≡ Err e) × (begun d ≡ d))

begins_as : (d : EncodingEnd) (n : ℕ) (r : Result Table TableRefusal) → d.wanted ≡ Some n
    → with_capacity d.table n ≡ r → begun d ≡ told_if n d r
begins_as d n r wanted is =
    ap (λ (o : Option ℕ). begun_with o d) wanted ∙ ap (λ (x : Result Table TableRefusal). told_if n d x) is

is_met : (d : EncodingEnd) (n : ℕ) → d.wanted ≡ Some n → IsMet n d
is_met d n wanted = by (with_capacity d.table n) refl
  where
    by : (r : Result Table TableRefusal) → with_capacity d.table n ≡ r → IsMet n d
    by (Ok t) is = inl (t, is, begins_as d n (Ok t) wanted is)
    by (Err e) is = inr (e, is, begins_as d n (Err e) wanted is)

announced : (n : ℕ) (old new : EncodingEnd) (t : Table) → with_capacity old.table n ≡ Ok t → begun old ≡ told n t old
    → new.wanted ≡ (begun old).wanted → IsAnnounced n old new
announced n old new t takes is same =
    record {
      begins = is ∙ ap (λ (u : Table). told n u old) (sym (ap (λ (d : EncodingEnd). d.table) is));
      capacity_is = ap (λ (d : EncodingEnd). d.table.capacity) is ∙ taken_capacity old.table t n takes;
      wanted = same ∙ ap (λ (d : EncodingEnd). d.wanted) is;
    }

-- what no section needs is taken
settled_meets : (most n : ℕ) (d : EncodingEnd) (e : TableRefusal) → Stays most d → d.wanted ≡ Some n → IsSettled n d
    → with_capacity d.table n ≡ Err e → ⊥
settled_meets most n d e k wanted settled refused =
    let within = subst (λ (o : Option ℕ). IfSome o (λ c. IsToBeTold d c)) wanted k.sound.wanted in
    let takes = settled_takes d.table n k.unnamed settled.acknowledged settled.known within in
    absurd (let x = sym takes ∙ refused in cc)

-- ---- a call

-- it comes, or nothing changes
abbrev Goes : ℕ → EncodingEnd → EncodingEnd → Type 0
Goes n old new = IsAnnounced n old new ⊎ (new ≡ old)

-- a section that may reference entries is one behind the capacity
room_goes : (n : ℕ) (old new : EncodingEnd) → IsMet n old → old.wanted ≡ Some n → is_alone (begun old) ≡ false
    → new.wanted ≡ (begun old).wanted → IsAnnounced n old new
room_goes n old new (inl met) wanted room same = announced n old new met.0 met.1 met.2 same
room_goes n old new (inr met) wanted room same =
    absurd (let x = sym wanted ∙ sym (ap (λ (d : EncodingEnd). d.wanted) met.2) ∙ none_waits (begun old) room in cc)

begun_goes : (n : ℕ) (old new : EncodingEnd) → IsMet n old → new ≡ begun old → Goes n old new
begun_goes n old new (inl met) is =
    inl (announced n old new met.0 met.1 met.2 (ap (λ (d : EncodingEnd). d.wanted) is))
begun_goes n old new (inr met) is = inr (is ∙ met.2)

memory_goes : (n : ℕ) (old new : EncodingEnd) (s : ℕ) (fields : List FieldLine) → old.wanted ≡ Some n
    → StopsForMemory old new s fields → Goes n old new
memory_goes n old new s fields wanted (inl none) = inr none.1
memory_goes n old new s fields wanted (inr (inl begins)) = begun_goes n old new (is_met old n wanted) begins.1
memory_goes n old new s fields wanted (inr (inr g)) =
    inl (room_goes n old new (is_met old n wanted) wanted g.room (ap (λ (d : EncodingEnd). d.wanted) g.new_is))

-- it comes, or the section references no entry
encode_goes : (n : ℕ) (old new : EncodingEnd) (s : ℕ) (fields : List FieldLine) (wishes : List Wish) (section : List ℕ)
    (answer : Result ℕ EncodingError) → old.wanted ≡ Some n → Encodes old new s fields [] section answer
    → IsAnnounced n old new ⊎ WaitsOn n (Encode s fields wishes section answer) old new
encode_goes n old new s fields wishes section (Ok required) wanted (checks, inl writes) =
    inl (room_goes n old new (is_met old n wanted) wanted writes.room
    (ap (λ (d : EncodingEnd). d.wanted) writes.new_is))
encode_goes n old new s fields wishes section (Ok required) wanted (checks, inr writes) =
    by (begun_goes n old new (is_met old n wanted) writes.new_is)
  where
    by : Goes n old new
        → IsAnnounced n old new ⊎ WaitsOn n (Encode s fields wishes section (Ok required)) old new
    by (inl comes) = inl comes
    by (inr same) = inr (writes.required_is, writes.section, same)
encode_goes n old new s fields wishes section (Err e) wanted (none, inl stopped) = inr stopped.1
encode_goes n old new s fields wishes section (Err e) wanted (none, inr stopped) =
    memory_goes n old new s fields wanted stopped.2

-- where nothing holds what it evicts, it comes
encode_comes : (most n : ℕ) (old new : EncodingEnd) (s : ℕ) (fields : List FieldLine) (section : List ℕ) (required : ℕ)
    → Stays most old → old.wanted ≡ Some n → Encodes old new s fields [] section (Ok required) → IsSettled n old
    → IsAnnounced n old new
encode_comes most n old new s fields section required k wanted call settled = by (is_met old n wanted) call.1
  where
    by : IsMet n old
        → WritesSection (begun old) new s fields [] section required ⊎ WritesAlone (begun old) new fields [] section required
        → IsAnnounced n old new
    by (inl met) (inl writes) =
        announced n old new met.0 met.1 met.2 (ap (λ (d : EncodingEnd). d.wanted) writes.new_is)
    by (inl met) (inr writes) =
        announced n old new met.0 met.1 met.2 (ap (λ (d : EncodingEnd). d.wanted) writes.new_is)
    by (inr met) writes = absurd (settled_meets most n old met.0 k wanted settled met.1)

must_come : (most n : ℕ) (call : Call) (old new : EncodingEnd) → Stays most old → old.wanted ≡ Some n
    → Step call old new → MustCome n call old new
must_come most n (Encode s fields wishes section (Ok required)) old new k wanted step =
    encode_comes most n old new s fields section required k wanted step.0
must_come most n (Encode s fields wishes section (Err e)) old new k wanted step = tt
must_come most n (SetCapacity capacity answer) old new k wanted step = tt
must_come most n (Shrink capacity answer) old new k wanted step = tt
must_come most n (Receive bytes answer) old new k wanted step = tt
must_come most n (Sent many) old new k wanted step = tt

-- what was heard leaves it waiting
received_wants : (old new : EncodingEnd) (heard : List DecoderInstruction) (before bytes : List ℕ)
    (answer : Result ⊤ EncodingError) → ReceivesBytes heard before old new bytes answer → new.wanted ≡ old.wanted
received_wants old new heard before bytes (Ok done) call = ap (λ (d : EncodingEnd). d.wanted) call.1
received_wants old new heard before bytes (Err (DecoderStream x)) call = ap (λ (d : EncodingEnd). d.wanted) call.1
received_wants old new heard before bytes (Err CapacityTooLarge) call = absurd call
received_wants old new heard before bytes (Err EntriesHeld) call = absurd call
received_wants old new heard before bytes (Err (NoStream s)) call = absurd call
received_wants old new heard before bytes (Err MaximumChanged) call = absurd call
received_wants old new heard before bytes (Err LimitLowered) call = absurd call
received_wants old new heard before bytes (Err MaximumTooLarge) call = absurd call
received_wants old new heard before bytes (Err Memory) call = absurd call

heard_wants : (settings : EncoderSettings) (bytes : List ℕ) (answer : Result ⊤ EncodingError) (old new : EncodingEnd)
    → Stays settings.max_blocked old → Step (Receive bytes answer) old new → new.wanted ≡ old.wanted
heard_wants settings bytes answer old new k step = by old.failure refl step.1
  where
    by : (o : Option EncodingError) → old.failure ≡ o → IfSome o (λ e. (answer ≡ Err e) × (new ≡ old))
        → new.wanted ≡ old.wanted
    by None alive ended =
        let was = k.sound.stream alive in
        received_wants old new was.0 was.1 bytes answer (step.0 alive was.0 was.1 was.2)
    by (Some e) failed ended = ap (λ (d : EncodingEnd). d.wanted) ended.1

call_goes : (settings : EncoderSettings) (n : ℕ) (call : Call) (old new : EncodingEnd)
    → Stays settings.max_blocked old → old.wanted ≡ Some n → SetsNone call → Step call old new
    → Comes n call old new ⊎ WaitsOn n call old new
call_goes settings n (Encode s fields wishes section answer) old new k wanted none step =
    encode_goes n old new s fields wishes section answer wanted step.0
call_goes settings n (SetCapacity capacity answer) old new k wanted none step = absurd none
call_goes settings n (Shrink capacity answer) old new k wanted none step = absurd none
call_goes settings n (Receive bytes answer) old new k wanted none step =
    let h = heard_by settings (Receive bytes answer) old new k step in
    inr (heard_wants settings bytes answer old new k step ∙ wanted, h.0, h.1)
call_goes settings n (Sent many) old new k wanted none step =
    inr (ap (λ (d : EncodingEnd). d.wanted) step ∙ wanted, ap (λ (d : EncodingEnd). d.table) step)

-- where it waits on it still waits
still_wanted : (n : ℕ) (call : Call) (old new : EncodingEnd) → old.wanted ≡ Some n → SetsNone call
    → WaitsOn n call old new → new.wanted ≡ Some n
still_wanted n (Encode s fields wishes section (Ok required)) old new wanted none waits =
    ap (λ (d : EncodingEnd). d.wanted) waits.2 ∙ wanted
still_wanted n (Encode s fields wishes section (Err e)) old new wanted none waits =
    ap (λ (d : EncodingEnd). d.wanted) waits ∙ wanted
still_wanted n (SetCapacity capacity answer) old new wanted none waits = absurd none
still_wanted n (Shrink capacity answer) old new wanted none waits = absurd none
still_wanted n (Receive bytes answer) old new wanted none waits = waits.0
still_wanted n (Sent many) old new wanted none waits = waits.0

-- ---- calls in turn

goes_on : (n : ℕ) (call : Call) (calls : List Call) (old new : EncodingEnd) (run : Run (call ∷ calls) old new)
    → Comes n call old run.0 ⊎ WaitsOn n call old run.0
    → (WaitsOn n call old run.0 → AllWait n calls run.0 new run.2)
    → Comes n call old run.0 ⊎ (WaitsOn n call old run.0 × AllWait n calls run.0 new run.2)
goes_on n call calls old new run (inl comes) rest = inl comes
goes_on n call calls old new run (inr waits) rest = inr (waits, rest waits)

all_wait : (settings : EncoderSettings) (n : ℕ) (calls : List Call) (old new : EncodingEnd) (run : Run calls old new)
    → Stays settings.max_blocked old → old.wanted ≡ Some n → AllByRecursion SetsNone calls
    → AllWait n calls old new run
all_wait settings n [] old new run k wanted none = tt
all_wait settings n (call ∷ calls) old new run k wanted none = (
  must_come settings.max_blocked n call old run.0 k wanted run.1,
  goes_on n call calls old new run (call_goes settings n call old run.0 k wanted none.0 run.1)
      (λ waits. all_wait settings n calls run.0 new run.2 (step_stays settings call old run.0 k run.1)
      (still_wanted n call old run.0 wanted none.0 waits) none.1),
)

pub lower_capacities_come : LowerCapacitiesCome
lower_capacities_come settings before since first old waits now n unused run shrinks wanted after none =
    let k = run_stays settings before first old run (stays_first settings first unused) in
    all_wait settings n since waits now after (step_stays settings (Shrink n (Ok tt)) old waits k shrinks) wanted none
