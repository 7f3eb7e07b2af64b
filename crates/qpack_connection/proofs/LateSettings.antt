-- An encoding end of maximum 0 is unused after any calls, and with the settings of its peer it is as one made with them.
use Rattle.std.proofs.Common.{◌≡◌, ◌<◌, ◌^◌, ℕ, Bool, true, false, cond, List, [], ◌∷◌, ◌++◌, drop, min, Option, None}
use Rattle.std.proofs.Common.{IfSome, zero, suc, Some, Result, Ok, Err, inl, inr, refl, sym, ap, subst, ◌∙◌, arith}
use Rattle.std.specs.Prelude.{⊤, nat_eq, nat_lt}
use Rattle.std.proofs.lemmas.Bool.{cond_both, eq-eqb, eqb-true, ltb-true}
use Rattle.qpack_spec.specs.Field.{FieldLine}
use Rattle.qpack_spec.specs.Instruction.{DecoderInstruction}
use Rattle.qpack_spec.specs.Table.{Table, empty_table, with_capacity}
use Rattle.qpack_spec.specs.Window.{DoesNotFit}
use Rattle.qpack_encoding.specs.declared.encoder.EncoderSettings.{EncoderSettings}
use Rattle.qpack_encoding.specs.declared.encoder.EncodingError.{EncodingError}
use Rattle.qpack_encoding.specs.declared.encoder.EncodingError.TheVariants.{DecoderStream, CapacityTooLarge}
use Rattle.qpack_encoding.specs.declared.encoder.EncodingError.TheVariants.{EntriesHeld, NoStream, Memory}
use Rattle.qpack_encoding.specs.declared.encoder.EncodingError.TheVariants.{MaximumChanged, LimitLowered, MaximumTooLarge}
use Rattle.qpack_encoding.specs.Encoders.{EncodingEnd, IsUnused, begun, begun_with, first_capacity, with_section, Encodes}
use Rattle.qpack_encoding.specs.Encoders.{SetsCapacity, Shrinks, ReceivesBytes, StopsForMemory, of_peer, peer_refusal}
use Rattle.qpack_encoding.specs.Encoders.{WritesSection, GivesUpSection}
use Rattle.qpack_encoding.proofs.Encoders.{takes_capacity, held_within}
use Rattle.qpack_encoding.proofs.BareEnds.{bare, encoded_bare, given_up_bare, sized_bare, heard_bare}
use Rattle.qpack_connection.specs.LawfulDecoders.{Call, Encode, SetCapacity, Shrink, Receive, Sent, Step, Run}
use Rattle.qpack_connection.specs.LateSettings.{EndsWithoutATableStayUnused, LateSettingsAreAsEarly}

-- ---- an unused end of maximum 0

-- no capacity is to be told
none_first : (s : EncoderSettings) → s.max_capacity ≡ 0 → first_capacity s ≡ None
none_first s no_table = rw (eq-eqb (min s.capacity s.max_capacity) 0 (omega (arith, no_table))) refl

none_wanted : (settings : EncoderSettings) (d : EncodingEnd) → settings.max_capacity ≡ 0 → IsUnused settings d
    → begun d ≡ d
none_wanted settings d no_table k = ap (λ (o : Option ℕ). begun_with o d) (k.wanted ∙ none_first settings no_table)

is_bare : (settings : EncoderSettings) (d : EncodingEnd) → settings.max_capacity ≡ 0 → IsUnused settings d
    → d.table ≡ bare
is_bare settings d no_table k = k.table ∙ ap (λ (n : ℕ). let t : Table = empty_table 0 (Some n) 4096 in t) no_table

-- another end that differs in its table and in what is to be sent, and has neither
unused_with : (settings : EncoderSettings) (old new : EncodingEnd) (t : Table) (b : List ℕ)
    → settings.max_capacity ≡ 0 → IsUnused settings old → t ≡ bare → b ≡ [] → new ≡ with_section t b old
    → IsUnused settings new
unused_with settings old new t b no_table k is none same =
    subst (IsUnused settings) (sym same) (record {
      capacity_in_range = k.capacity_in_range;
      settings_are = k.settings_are;
      table = is ∙ sym (is_bare settings old no_table k) ∙ k.table;
      wanted = k.wanted;
      stream = k.stream;
      unsent = none;
      failure = k.failure;
    })

-- ---- a call

unused_encode : (settings : EncoderSettings) (old new : EncodingEnd) (s : ℕ) (fields : List FieldLine)
    (section : List ℕ) (answer : Result ℕ EncodingError) → settings.max_capacity ≡ 0 → IsUnused settings old
    → Encodes old new s fields [] section answer → IsUnused settings new
unused_encode settings old new s fields section (Ok required) no_table k (checks, inl w) =
    let x = subst (λ (d : EncodingEnd). WritesSection d new s fields [] section required)
    (none_wanted settings old no_table k) w in
    let same = encoded_bare s fields old.table new.table [] section old.unsent new.unsent required x.section
    (is_bare settings old no_table k) in
    unused_with settings old new new.table new.unsent no_table k same.0 (same.1 ∙ k.unsent) x.new_is
unused_encode settings old new s fields section (Ok required) no_table k (checks, inr w) =
    subst (IsUnused settings) (sym (w.new_is ∙ none_wanted settings old no_table k)) k
unused_encode settings old new s fields section (Err e) no_table k (same, inl h) = subst (IsUnused settings) (sym h.1) k
unused_encode settings old new s fields section (Err e) no_table k (same, inr h) = by h.2
  where
    by : StopsForMemory old new s fields → IsUnused settings new
    by (inl none) = subst (IsUnused settings) (sym none.1) k
    by (inr (inl begins)) = subst (IsUnused settings) (sym (begins.1 ∙ none_wanted settings old no_table k)) k
    by (inr (inr g)) =
        let x = subst (λ (d : EncodingEnd). GivesUpSection d new fields)
        (none_wanted settings old no_table k) g in
        let same = given_up_bare fields old.table new.table old.unsent new.unsent x.lines
        (is_bare settings old no_table k) in
        unused_with settings old new new.table new.unsent no_table k same.0 (same.1 ∙ k.unsent) x.new_is

unused_capacity : (settings : EncoderSettings) (old new : EncodingEnd) (n : ℕ) (answer : Result ⊤ EncodingError)
    → settings.max_capacity ≡ 0 → IsUnused settings old → SetsCapacity old new n answer → IsUnused settings new
unused_capacity settings old new n (Ok done) no_table k (live, inl none) = subst (IsUnused settings) (sym none.1) k
unused_capacity settings old new n (Ok done) no_table k (live, inr (some, tells)) =
    let size = sized_bare old.table new.table n tells.0 (is_bare settings old no_table k) in
    absurd (some (ap (λ (s : EncoderSettings). s.max_capacity) k.settings_are ∙ no_table, size.0))
unused_capacity settings old new n (Err e) no_table k (inl ended) = subst (IsUnused settings) (sym ended.1) k
unused_capacity settings old new n (Err e) no_table k (inr stops) = subst (IsUnused settings) (sym stops.2.1) k

unused_shrink : (settings : EncoderSettings) (old new : EncodingEnd) (n : ℕ) (answer : Result ⊤ EncodingError)
    → settings.max_capacity ≡ 0 → IsUnused settings old → Shrinks old new n answer → IsUnused settings new
unused_shrink settings old new n (Ok done) no_table k (live, inl sets) =
    unused_capacity settings old new n (Ok done) no_table k (live, sets)
unused_shrink settings old new n (Ok done) no_table k (live, inr waits) =
    let is = is_bare settings old no_table k in
    let takes = subst (λ (t : Table). with_capacity t n ≡ Err DoesNotFit) is waits.0 in
    let small = held_within bare n takes in
    absurd (let x = sym takes ∙ takes_capacity bare n 0 (omega (arith, small)) (omega arith) refl refl in cc)
unused_shrink settings old new n (Err e) no_table k (goes, stops) =
    unused_capacity settings old new n (Err e) no_table k stops

unused_received : (settings : EncoderSettings) (old new : EncodingEnd) (heard : List DecoderInstruction)
    (before bytes : List ℕ) (answer : Result ⊤ EncodingError) → settings.max_capacity ≡ 0 → IsUnused settings old
    → new.failure ≡ None → ReceivesBytes heard before old new bytes answer → IsUnused settings new
unused_received settings old new heard before bytes (Ok done) no_table k live call =
    let bare_now = heard_bare old.table new.table call.0.more call.0.applies (is_bare settings old no_table k) in
    subst (IsUnused settings) (sym call.1) (record {
      capacity_in_range = k.capacity_in_range;
      settings_are = k.settings_are;
      table = bare_now ∙ sym (is_bare settings old no_table k) ∙ k.table;
      wanted = k.wanted;
      stream = (heard ++ call.0.more, before ++ bytes, call.0.behind_them);
      unsent = k.unsent;
      failure = k.failure;
    })
unused_received settings old new heard before bytes (Err (DecoderStream e)) no_table k live call =
    absurd (let x = sym (ap (λ (d : EncodingEnd). d.failure) call.1) ∙ live in cc)
unused_received settings old new heard before bytes (Err CapacityTooLarge) no_table k live call = absurd call
unused_received settings old new heard before bytes (Err EntriesHeld) no_table k live call = absurd call
unused_received settings old new heard before bytes (Err (NoStream s)) no_table k live call = absurd call
unused_received settings old new heard before bytes (Err MaximumChanged) no_table k live call = absurd call
unused_received settings old new heard before bytes (Err LimitLowered) no_table k live call = absurd call
unused_received settings old new heard before bytes (Err MaximumTooLarge) no_table k live call = absurd call
unused_received settings old new heard before bytes (Err Memory) no_table k live call = absurd call

none_left : (n : ℕ) (b : List ℕ) → b ≡ [] → drop n b ≡ []
none_left n b none = ap (drop n) none ∙ by n
  where
    by : (m : ℕ) → (let l : List ℕ = drop m [] in l) ≡ []
    by zero = refl
    by (suc m) = refl

unused_call : (settings : EncoderSettings) (call : Call) (old new : EncodingEnd) → settings.max_capacity ≡ 0
    → IsUnused settings old → new.failure ≡ None → Step call old new → IsUnused settings new
unused_call settings (Encode s fields wishes section answer) old new no_table k live step =
    unused_encode settings old new s fields section answer no_table k step.0
unused_call settings (SetCapacity n answer) old new no_table k live step =
    unused_capacity settings old new n answer no_table k step
unused_call settings (Shrink n answer) old new no_table k live step =
    unused_shrink settings old new n answer no_table k step
unused_call settings (Receive bytes answer) old new no_table k live step =
    unused_received settings old new k.stream.0 k.stream.1 bytes answer no_table k live
    (step.0 k.failure k.stream.0 k.stream.1 k.stream.2)
unused_call settings (Sent n) old new no_table k live step =
    subst (IsUnused settings) (sym step) (record {
      capacity_in_range = k.capacity_in_range;
      settings_are = k.settings_are;
      table = k.table;
      wanted = k.wanted;
      stream = k.stream;
      unsent = none_left n old.unsent k.unsent;
      failure = k.failure;
    })

-- ---- an end that was ended stays so

ended_encode : (old new : EncodingEnd) (s : ℕ) (fields : List FieldLine) (section : List ℕ)
    (answer : Result ℕ EncodingError) (e : EncodingError) → old.failure ≡ Some e
    → Encodes old new s fields [] section answer → new ≡ old
ended_encode old new s fields section (Ok required) e ended (checks, w) = absurd (let x = sym ended ∙ checks.0 in cc)
ended_encode old new s fields section (Err x) e ended (same, inl h) = h.1
ended_encode old new s fields section (Err x) e ended (same, inr h) = absurd (let y = sym ended ∙ h.0.0 in cc)

ended_capacity : (old new : EncodingEnd) (n : ℕ) (answer : Result ⊤ EncodingError) (e : EncodingError)
    → old.failure ≡ Some e → SetsCapacity old new n answer → new ≡ old
ended_capacity old new n (Ok done) e ended (live, h) = absurd (let x = sym ended ∙ live in cc)
ended_capacity old new n (Err x) e ended (inl h) = h.1
ended_capacity old new n (Err x) e ended (inr h) = absurd (let y = sym ended ∙ h.0 in cc)

ended_shrink : (old new : EncodingEnd) (n : ℕ) (answer : Result ⊤ EncodingError) (e : EncodingError)
    → old.failure ≡ Some e → Shrinks old new n answer → new ≡ old
ended_shrink old new n (Ok done) e ended (live, h) = absurd (let x = sym ended ∙ live in cc)
ended_shrink old new n (Err x) e ended (goes, stops) = ended_capacity old new n (Err x) e ended stops

ended_call : (call : Call) (old new : EncodingEnd) (e : EncodingError) → old.failure ≡ Some e → Step call old new
    → new.failure ≡ Some e
ended_call (Encode s fields wishes section answer) old new e ended step =
    ap (λ (d : EncodingEnd). d.failure) (ended_encode old new s fields section answer e ended step.0) ∙ ended
ended_call (SetCapacity n answer) old new e ended step =
    ap (λ (d : EncodingEnd). d.failure) (ended_capacity old new n answer e ended step) ∙ ended
ended_call (Shrink n answer) old new e ended step =
    ap (λ (d : EncodingEnd). d.failure) (ended_shrink old new n answer e ended step) ∙ ended
ended_call (Receive bytes answer) old new e ended step =
    let same = subst (λ (o : Option EncodingError). IfSome o (λ x. (answer ≡ Err x) × (new ≡ old))) ended step.1 in
    ap (λ (d : EncodingEnd). d.failure) same.1 ∙ ended
ended_call (Sent n) old new e ended step = ap (λ (d : EncodingEnd). d.failure) step ∙ ended

ended_run : (calls : List Call) (old new : EncodingEnd) (e : EncodingError) → old.failure ≡ Some e
    → Run calls old new → new.failure ≡ Some e
ended_run [] old new e ended run = ap (λ (d : EncodingEnd). d.failure) run ∙ ended
ended_run (call ∷ calls) old new e ended run =
    ended_run calls run.0 new e (ended_call call old run.0 e ended run.1) run.2

-- ---- calls in turn

pub unused_still : EndsWithoutATableStayUnused
unused_still settings [] first last no_table k run live = subst (IsUnused settings) (sym run) k
unused_still settings (call ∷ calls) first last no_table k run live =
    unused_still settings calls run.0 last no_table (by run.0.failure refl) run.2 live
  where
    by : (o : Option EncodingError) → run.0.failure ≡ o → IsUnused settings run.0
    by None alive = unused_call settings call first run.0 no_table k alive run.1
    by (Some e) ended = absurd (let x = sym (ended_run calls run.0 last e ended run.2) ∙ live in cc)

-- ---- the settings of the peer

-- a maximum that is taken in the place of 0 is below 2^30
taken_small : (s : EncoderSettings) (maximum blocked : ℕ) → s.max_capacity ≡ 0
    → nat_eq maximum s.max_capacity ≡ false → peer_refusal s maximum blocked ≡ None → maximum < 2 ^ 30
taken_small s maximum blocked no_table new taken =
    cond_both (nat_lt blocked s.max_blocked) _ _ (λ o. o ≡ None → maximum < 2 ^ 30) (λ _ e. absurd cc)
    (λ _ e. cond_both (nat_eq maximum s.max_capacity) _ _ (λ o. o ≡ None → maximum < 2 ^ 30)
    (λ same q. absurd (let x = sym same ∙ new in cc)) (λ _ q. at_new q) e)
    taken
  where
    at_new : cond (nat_lt 0 s.max_capacity) (Some MaximumChanged)
        (cond (nat_lt maximum (2 ^ 30)) None (Some MaximumTooLarge)) ≡ None → maximum < 2 ^ 30
    at_new e =
        cond_both (nat_lt 0 s.max_capacity) _ _ (λ o. o ≡ None → maximum < 2 ^ 30) (λ _ q. absurd cc)
        (λ _ q. cond_both (nat_lt maximum (2 ^ 30)) _ _ (λ o. o ≡ None → maximum < 2 ^ 30)
        (λ small _. ltb-true maximum (2 ^ 30) small) (λ _ r. absurd cc) q)
        e

pub late_as_early : LateSettingsAreAsEarly
late_as_early settings old new maximum blocked no_table k taken =
    by (nat_eq maximum old.settings.max_capacity) refl taken.2
  where
    here : old.settings ≡ settings
    here = k.settings_are

    none : old.settings.max_capacity ≡ 0
    none = ap (λ (s : EncoderSettings). s.max_capacity) here ∙ no_table

    same_peer : of_peer maximum blocked old.settings ≡ of_peer maximum blocked settings
    same_peer = ap (of_peer maximum blocked) here

    by : (b : Bool) → nat_eq maximum old.settings.max_capacity ≡ b
        → new
        ≡ cond b (record old { settings = of_peer maximum blocked old.settings })
        (record old {
          settings = of_peer maximum blocked old.settings;
          table = empty_table 0 (Some maximum) 4096;
          wanted = first_capacity (of_peer maximum blocked old.settings);
        }) → IsUnused (of_peer maximum blocked settings) new
    by true same is =
        let at : maximum ≡ 0 = eqb-true maximum old.settings.max_capacity same ∙ none in
        subst (IsUnused (of_peer maximum blocked settings)) (sym is) (record {
          capacity_in_range = omega (arith, at);
          settings_are = same_peer;
          table = is_bare settings old no_table k
              ∙ ap (λ (n : ℕ). let t : Table = empty_table 0 (Some n) 4096 in t) (sym at);
          wanted = k.wanted ∙ none_first settings no_table ∙ sym (none_first (of_peer maximum blocked settings) at);
          stream = k.stream;
          unsent = k.unsent;
          failure = k.failure;
        })
    by false other is =
        subst (IsUnused (of_peer maximum blocked settings)) (sym is) (record {
          capacity_in_range = taken_small old.settings maximum blocked none other taken.1;
          settings_are = same_peer;
          table = refl;
          wanted = ap first_capacity same_peer;
          stream = k.stream;
          unsent = k.unsent;
          failure = k.failure;
        })
