-- What stays of an encoding end while calls are made of it, with any peer.
use Rattle.std.proofs.Common.{◌≡◌, ℕ, false, List, [], take, length, Option, None}
use Rattle.std.proofs.Common.{Some, Result, Ok, Err, refl, sym, ap, subst, ◌∙◌, arith, inl, inr}
use Rattle.std.specs.Prelude.{⊤}
use Rattle.qpack_spec.specs.Chosen.{chosen_rule}
use Rattle.qpack_spec.specs.Field.{FieldLine}
use Rattle.qpack_spec.specs.Instruction.{DecoderInstruction}
use Rattle.qpack_spec.specs.Table.{Table, without_references, with_capacity}
use Rattle.qpack_spec.specs.Window.{TableRefusal}
use Rattle.qpack_encoding.specs.declared.encoder.EncoderSettings.{EncoderSettings}
use Rattle.qpack_encoding.specs.declared.encoder.EncodingError.{EncodingError}
use Rattle.qpack_encoding.specs.declared.encoder.EncodingError.TheVariants.{DecoderStream, CapacityTooLarge}
use Rattle.qpack_encoding.specs.declared.encoder.EncodingError.TheVariants.{EntriesHeld, NoStream, Memory}
use Rattle.qpack_encoding.specs.declared.encoder.EncodingError.TheVariants.{MaximumChanged, LimitLowered, MaximumTooLarge}
use Rattle.qpack_encoding.specs.Encoders.{EncodingEnd, IsSound, IsUnused, begun, begun_with, told_if, is_alone, waiting}
use Rattle.qpack_encoding.specs.Encoders.{with_section, StopsForMemory, SetsCapacity, Shrinks}
use Rattle.qpack_encoding.specs.Encoders.{WritesSection, Encodes, ReceivesBytes}
use Rattle.qpack_encoding.specs.Hearing.{Receives}
use Rattle.qpack_connection.proofs.CarefulTables.{IsCarefulTable, careful_first}
use Rattle.qpack_connection.proofs.CarefulTables.{careful_section, careful_given_up, careful_capacity}
use Rattle.qpack_connection.proofs.CarefulTables.{careful_hearing, careful_risk}
use Rattle.qpack_encoding.proofs.Encoders.{told_still, received_sound, refused_sound}
use Rattle.qpack_connection.proofs.KeptConnections.{sound_begun, sound_section, sound_set, sound_waiting}
use Rattle.qpack_connection.proofs.UnnamedTables.{committed_unnamed, given_up_unnamed, capacity_unnamed, hearing_unnamed}
use Rattle.qpack_connection.proofs.FirstEnds.{sound_first}
use Rattle.std.specs.Prelude.{◌≤◌, ◌||◌, nat_lt}
use Rattle.qpack_spec.specs.Table.{has_number}
use Rattle.qpack_encoding.specs.Risk.{streams_at_risk}
use Rattle.qpack_encoding.proofs.Risk.{none_yet, same_at_risk, risk_within}
use Rattle.qpack_encoding.proofs.LimitedChoices.{given_up_keeps, capacity_keeps, committed_known, committed_open}

-- ---- between calls

-- the table is careful, no section is in progress, the end is sound, and no more streams are at risk than the peer lets
-- be blocked
pub record Stays (most : ℕ) (e : EncodingEnd) : Type 0 where
  pub table : IsCarefulTable 4096 e.table
  pub unnamed : e.table.referenced ≡ []
  pub sound : IsSound e
  pub most_is : e.settings.max_blocked ≡ most
  pub few : length (streams_at_risk e.table) ≤ most

pub stays_first : (settings : EncoderSettings) (e : EncodingEnd) → IsUnused settings e → Stays settings.max_blocked e
stays_first settings e s =
    record {
      table = subst (IsCarefulTable 4096) (sym s.table) (careful_first settings.max_capacity 4096);
      unnamed = ap (λ (t : Table). t.referenced) s.table;
      sound = sound_first settings e s;
      most_is = ap (λ (x : EncoderSettings). x.max_blocked) s.settings_are;
      few = omega (arith, ap length (none_yet e.table (ap (λ (t : Table). t.unacknowledged) s.table)));
    }

pub stays_same : (most : ℕ) (old new : EncodingEnd) → Stays most old → new ≡ old → Stays most new
stays_same most old new k same = subst (Stays most) (sym same) k

-- the capacity that waits, if it is told, leaves the table careful, and changes neither the settings nor what is at risk
record KeepsTold (d e : EncodingEnd) : Type 0 where
  table : IsCarefulTable 4096 d.table → IsCarefulTable 4096 e.table
  unnamed : e.table.referenced ≡ d.table.referenced
  risk : streams_at_risk e.table ≡ streams_at_risk d.table
  settings : e.settings ≡ d.settings

told_keeps : (d : EncodingEnd) (n : ℕ) (r : Result Table TableRefusal) → with_capacity d.table n ≡ r
    → KeepsTold d (told_if n d r)
told_keeps d n (Ok t) takes =
    let keeps = capacity_keeps d.table t n takes in
    record {
      table = λ k. careful_capacity 4096 d.table t n k takes;
      unnamed = capacity_unnamed d.table t n takes;
      risk = same_at_risk d.table t keeps.known keeps.unacknowledged;
      settings = refl;
    }
told_keeps d n (Err e) takes = record { table = λ k. k; unnamed = refl; risk = refl; settings = refl }

begun_keeps : (d : EncodingEnd) (o : Option ℕ) → KeepsTold d (begun_with o d)
begun_keeps d None = record { table = λ k. k; unnamed = refl; risk = refl; settings = refl }
begun_keeps d (Some n) = told_keeps d n (with_capacity d.table n) refl

pub table_begun : (most : ℕ) (e : EncodingEnd) → Stays most e → IsCarefulTable 4096 (begun e).table
table_begun most e k = (begun_keeps e e.wanted).table k.table

pub unnamed_begun : (most : ℕ) (e : EncodingEnd) → Stays most e → (begun e).table.referenced ≡ []
unnamed_begun most e k = (begun_keeps e e.wanted).unnamed ∙ k.unnamed

pub begun_risk : (d : EncodingEnd) → streams_at_risk (begun d).table ≡ streams_at_risk d.table
begun_risk d = (begun_keeps d d.wanted).risk

pub begun_settings : (d : EncodingEnd) → (begun d).settings ≡ d.settings
begun_settings d = (begun_keeps d d.wanted).settings

-- an end that is as a section met it, but for its table and what is to be sent
stays_with : (most : ℕ) (old new : EncodingEnd) (t : Table) (b : List ℕ) → Stays most old
    → is_alone (begun old) ≡ false → IsCarefulTable 4096 new.table → new.table.referenced ≡ []
    → length (streams_at_risk new.table) ≤ most → new ≡ with_section t b (begun old) → Stays most new
stays_with most old new t b k room table unnamed few is =
    record {
      table = table;
      unnamed = unnamed;
      most_is = ap (λ (y : EncodingEnd). y.settings.max_blocked) is
          ∙ ap (λ (s : EncoderSettings). s.max_blocked) (begun_settings old) ∙ k.most_is;
      few = few;
      sound = sound_section old new t b k.sound room is;
    }

stays_begun : (most : ℕ) (old new : EncodingEnd) → Stays most old → new ≡ begun old
    → Stays most new
stays_begun most old new k is =
    record {
      table = subst (λ (y : EncodingEnd). IsCarefulTable 4096 y.table) (sym is) (table_begun most old k);
      unnamed = ap (λ (y : EncodingEnd). y.table.referenced) is ∙ unnamed_begun most old k;
      most_is = ap (λ (y : EncodingEnd). y.settings.max_blocked) is
          ∙ ap (λ (s : EncoderSettings). s.max_blocked) (begun_settings old) ∙ k.most_is;
      few = omega (
        arith,
        ap (λ (y : EncodingEnd). length (streams_at_risk y.table)) is,
        ap length (begun_risk old),
        k.few,
      );
      sound = sound_begun old new k.sound is;
    }

-- ---- a call, with any peer

stays_for_memory : (most : ℕ) (old new : EncodingEnd) (s : ℕ) (fields : List FieldLine) → Stays most old
    → StopsForMemory old new s fields → Stays most new
stays_for_memory most old new s fields k (inl none) = stays_same most old new k none.1
stays_for_memory most old new s fields k (inr (inl begins)) = stays_begun most old new k begins.1
stays_for_memory most old new s fields k (inr (inr g)) =
    stays_with most old new new.table new.unsent k g.room
    (subst (IsCarefulTable 4096) (sym g.lines.table)
    (careful_given_up 4096 (begun old).table (take g.lines.many fields) g.lines.choices
    (table_begun most old k)))
    (ap (λ (t : Table). t.referenced) g.lines.table
    ∙ given_up_unnamed (chosen_rule (begun old).table (take g.lines.many fields) g.lines.choices).table)
    (let keeps = given_up_keeps (begun old).table (take g.lines.many fields) g.lines.choices in
    omega (
      arith,
      ap (λ (t : Table). length (streams_at_risk t)) g.lines.table,
      ap length
          (same_at_risk (begun old).table
          (without_references (chosen_rule (begun old).table (take g.lines.many fields) g.lines.choices).table)
          keeps.known keeps.unacknowledged),
      ap length (begun_risk old),
      k.few,
    ))
    g.new_is

-- a section that is written keeps the streams at risk within what may be
section_within : (most : ℕ) (d new : EncodingEnd) (s : ℕ) (fields : List FieldLine) (before section : List ℕ)
    (required : ℕ) → length (streams_at_risk d.table) ≤ most → d.settings.max_blocked ≡ most
    → WritesSection d new s fields before section required → length (streams_at_risk new.table) ≤ most
section_within most d new s fields before section required few same writes =
    let cs = writes.section.choices in
    let draft = chosen_rule d.table fields cs in
    risk_within d.table new.table most s draft.table.referenced
    (ap (λ (t : Table). t.known_received_count) writes.section.table ∙ committed_known d.table fields cs s)
    (ap (λ (t : Table). t.unacknowledged) writes.section.table ∙ committed_open d.table fields cs s) few
    (λ none. omega (
      arith,
      writes.section.required_is,
      writes.known (ap (λ (m : ℕ). has_number s (streams_at_risk d.table) || nat_lt (length (streams_at_risk d.table)) m)
          same ∙ none),
    ))

pub stays_encoded : (most : ℕ) (old new : EncodingEnd) (s : ℕ) (fields : List FieldLine)
    (section : List ℕ) (answer : Result ℕ EncodingError) → Stays most old
    → Encodes old new s fields [] section answer → Stays most new
stays_encoded most old new s fields section (Ok required) k (checks, inl writes) =
    stays_with most old new new.table new.unsent k writes.room
    (subst (IsCarefulTable 4096) (sym writes.section.table)
    (careful_section 4096 (begun old).table s fields writes.section.choices (table_begun most old k)))
    (ap (λ (t : Table). t.referenced) writes.section.table
    ∙ committed_unnamed (chosen_rule (begun old).table fields writes.section.choices) s)
    (section_within most (begun old) new s fields [] section required
    (omega (arith, ap length (begun_risk old), k.few))
    (ap (λ (s : EncoderSettings). s.max_blocked) (begun_settings old) ∙ k.most_is) writes)
    writes.new_is
stays_encoded most old new s fields section (Ok required) k (checks, inr writes) =
    stays_begun most old new k writes.new_is
stays_encoded most old new s fields section (Err e) k (none, inl stopped) = stays_same most old new k stopped.1
stays_encoded most old new s fields section (Err e) k (none, inr stopped) =
    stays_for_memory most old new s fields k stopped.2

pub stays_set : (most : ℕ) (old new : EncodingEnd) (n : ℕ) (answer : Result ⊤ EncodingError)
    → Stays most old → SetsCapacity old new n answer → Stays most new
stays_set most old new n (Ok done) k (alive, inl none) = stays_same most old new k none.1
stays_set most old new n (Ok done) k (alive, inr tells) =
    record {
      table = careful_capacity 4096 old.table new.table n k.table tells.1.0;
      unnamed = capacity_unnamed old.table new.table n tells.1.0 ∙ k.unnamed;
      most_is = ap (λ (y : EncodingEnd). y.settings.max_blocked) tells.1.1 ∙ k.most_is;
      few =
          let keeps = capacity_keeps old.table new.table n tells.1.0 in
          omega (arith, ap length (same_at_risk old.table new.table keeps.known keeps.unacknowledged), k.few);
      sound = sound_set old new k.sound (ap (λ (y : EncodingEnd). y.wanted) tells.1.1)
          (ap (λ (y : EncodingEnd). y.stream) tells.1.1) (ap (λ (y : EncodingEnd). y.failure) tells.1.1);
    }
stays_set most old new n (Err e) k (inl ended) = stays_same most old new k ended.1
stays_set most old new n (Err e) k (inr (live, some, stops)) = stays_same most old new k stops.1

pub stays_shrunk : (most : ℕ) (old new : EncodingEnd) (n : ℕ) (answer : Result ⊤ EncodingError)
    → Stays most old → Shrinks old new n answer → Stays most new
stays_shrunk most old new n (Ok done) k (alive, inl sets) = stays_set most old new n (Ok done) k (alive, sets)
stays_shrunk most old new n (Ok done) k (alive, inr waits) =
    stays_same most (waiting n old) new
    (record {
      table = k.table;
      unnamed = k.unnamed;
      most_is = k.most_is;
      few = k.few;
      sound = sound_waiting old n k.sound waits.0;
    })
    waits.1
stays_shrunk most old new n (Err e) k (goes, stops) = stays_set most old new n (Err e) k stops

-- what all calls so far received, and this one
abbrev pub HearsAll : EncodingEnd → EncodingEnd → List ℕ → Result ⊤ EncodingError → Type 0
HearsAll old new bytes answer =
    (heard : List DecoderInstruction) (before : List ℕ) → Receives heard before old.stream
    → ReceivesBytes heard before old new bytes answer

pub stays_heard : (most : ℕ) (old new : EncodingEnd) (bytes : List ℕ) (answer : Result ⊤ EncodingError)
    → Stays most old → old.failure ≡ None → HearsAll old new bytes answer → Stays most new
stays_heard most old new bytes (Ok done) k alive hears =
    let was = k.sound.stream alive in
    let call = hears was.0 was.1 was.2 in
    record {
      table = careful_hearing 4096 old.table new.table call.0.more k.table call.0.applies;
      unnamed = hearing_unnamed old.table new.table call.0.more call.0.applies ∙ k.unnamed;
      most_is = ap (λ (y : EncodingEnd). y.settings.max_blocked) call.1 ∙ k.most_is;
      few = omega (arith, careful_risk 4096 old.table new.table call.0.more k.table call.0.applies, k.few);
      sound = subst IsSound (sym call.1)
          (received_sound old new.table new.stream bytes k.sound alive (λ heard before h. (hears heard before h).0));
    }
stays_heard most old new bytes (Err (DecoderStream x)) k alive hears =
    let was = k.sound.stream alive in
    let call = hears was.0 was.1 was.2 in
    record {
      table = careful_hearing 4096 old.table new.table call.0.0.more k.table call.0.0.applies;
      unnamed = hearing_unnamed old.table new.table call.0.0.more call.0.0.applies ∙ k.unnamed;
      most_is = ap (λ (y : EncodingEnd). y.settings.max_blocked) call.1 ∙ k.most_is;
      few = omega (arith, careful_risk 4096 old.table new.table call.0.0.more k.table call.0.0.applies, k.few);
      sound = subst IsSound (sym call.1)
          (refused_sound old new.table new.stream bytes x k.sound alive (λ heard before h. (hears heard before h).0));
    }
stays_heard most old new bytes (Err CapacityTooLarge) k alive hears =
    let was = k.sound.stream alive in absurd (hears was.0 was.1 was.2)
stays_heard most old new bytes (Err EntriesHeld) k alive hears =
    let was = k.sound.stream alive in absurd (hears was.0 was.1 was.2)
stays_heard most old new bytes (Err (NoStream s)) k alive hears =
    let was = k.sound.stream alive in absurd (hears was.0 was.1 was.2)
stays_heard most old new bytes (Err MaximumChanged) k alive hears =
    let was = k.sound.stream alive in absurd (hears was.0 was.1 was.2)
stays_heard most old new bytes (Err LimitLowered) k alive hears =
    let was = k.sound.stream alive in absurd (hears was.0 was.1 was.2)
stays_heard most old new bytes (Err MaximumTooLarge) k alive hears =
    let was = k.sound.stream alive in absurd (hears was.0 was.1 was.2)
stays_heard most old new bytes (Err Memory) k alive hears =
    let was = k.sound.stream alive in absurd (hears was.0 was.1 was.2)

pub stays_sent : (most : ℕ) (old : EncodingEnd) (left : List ℕ) → Stays most old
    → Stays most (record old { unsent = left })
stays_sent most old left k =
    record {
      table = k.table;
      unnamed = k.unnamed;
      most_is = k.most_is;
      few = k.few;
      sound =
          record {
            wanted = told_still old (record old { unsent = left }) old.wanted refl k.sound.wanted;
            stream = k.sound.stream;
            failure = k.sound.failure;
          };
    }
