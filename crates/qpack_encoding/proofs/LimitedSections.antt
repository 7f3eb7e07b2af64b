-- A section that is written while the limit of a table is lowered, or not, and what is at risk behind it.
use Rattle.std.proofs.Common.{ℕ, ◌≡◌, ◌≤◌, ◌<◌, ◌^◌, Bool, true, false, List, ◌++◌, length, take, refl, sym, ap, ◌∙◌, subst, arith}
use Rattle.qpack_spec.specs.Chosen.{chosen_rule}
use Rattle.qpack_spec.specs.Field.{FieldLine}
use Rattle.qpack_spec.specs.Instruction.{coded_encoder_instructions}
use Rattle.qpack_spec.specs.Marked.{coded_marked_block}
use Rattle.qpack_spec.specs.Rule.{Draft, required_insert_count, block_of, committed_table}
use Rattle.qpack_spec.specs.Table.{Table, commit, without_references}
use Rattle.std.specs.List.{list_any}
use Rattle.std.specs.Option.{is_some}
use Rattle.std.specs.Prelude.{nat_eq, nat_lt, ◌||◌}
use Rattle.std.proofs.Common.{Result, Ok, Err, Option, None, Some, IfSome}
use Rattle.std.specs.Prelude.{OnOk, is_err}
use Rattle.qpack_spec.specs.Instruction.{DecoderInstruction}
use Rattle.qpack_rules.specs.StrictInstructions.{hear_in_turn}
use Rattle.qpack_spec.specs.Table.{has_number, with_capacity}
use Rattle.qpack_spec.specs.Text.{WhereShorter}
use Rattle.qpack_codec.specs.ChosenSections.{EncodesChosen, GivesUpChosen}
use Rattle.qpack_shared.specs.declared.streams.BlockedStream.{BlockedStream}
use Rattle.qpack_encoding.specs.Encoders.{EncodingEnd, may_block}
use Rattle.qpack_encoding.specs.Risk.{with_stream, AreAtRisk, TracksRisk, streams_at_risk, still_at_risk}
use Rattle.qpack_encoding.specs.Risk.{with_limit, limit_for}
use Rattle.qpack_encoding.specs.Encoders.{IsSound, IsToBeTold, is_alone, is_full}
use Rattle.qpack_encoding.proofs.LimitedChoices.{lowered, matches_chosen, known_chosen, committed_known}
use Rattle.qpack_encoding.proofs.LimitedChoices.{committed_open, committed_limit, given_up_keeps}
use Rattle.qpack_encoding.proofs.LimitedChoices.{capacity_keeps, hearing_limit}
use Rattle.qpack_encoding.proofs.Risk.{written_at_risk, known_at_risk, kept_same, kept_count, kept_any, heard_at_risk}

limit_is : (n : ℕ) (t : Table) → t.limit ≡ n → with_limit n t ≡ t
limit_is n t is = sym (ap (λ (m : ℕ). with_limit m t) is)

lifted_committed : (d : Draft) (s n : ℕ) → with_limit n (committed_table (lowered d) s) ≡ with_limit n (committed_table d s)
unfolding commit
lifted_committed d s n = refl

lifted_given_up : (d : Draft) (n : ℕ)
    → with_limit n (without_references (lowered d).table) ≡ with_limit n (without_references d.table)
unfolding without_references
lifted_given_up d n = refl

-- under some choices it is one of the table as it was
pub encodes_lifted : (may : Bool) (stream : ℕ) (fields : List FieldLine) (t v : Table)
    (before after written more : List ℕ) (required : ℕ) → t.limit ≡ 4096
    → EncodesChosen WhereShorter stream fields (with_limit (limit_for may) t) v before after written more required
    → EncodesChosen WhereShorter stream fields t (with_limit 4096 v) before after written more required
encodes_lifted true stream fields t v before after written more required is k =
    let same = limit_is 4096 t is in
    let table : v ≡ committed_table (chosen_rule t fields k.choices) stream =
    k.table ∙ ap (λ (x : Table). committed_table (chosen_rule x fields k.choices) stream) same in
    let limit : v.limit ≡ 4096 =
    ap (λ (x : Table). x.limit) table ∙ committed_limit t fields k.choices stream ∙ is in
    record {
      choices = k.choices;
      required_is = k.required_is
          ∙ ap (λ (x : Table). required_insert_count (chosen_rule x fields k.choices)) same;
      table = limit_is 4096 v limit ∙ table;
      block = k.block
          ∙ ap (λ (x : Table). before ++ coded_marked_block WhereShorter fields (block_of x (chosen_rule x fields k.choices))) same;
      written = k.written
          ∙ ap (λ (x : Table). written ++ coded_encoder_instructions WhereShorter (chosen_rule x fields k.choices).instructions) same;
    }
encodes_lifted false stream fields t v before after written more required is k =
    let m = matches_chosen t fields k.choices in
    let d = chosen_rule t fields m.0 in
    let table : with_limit 4096 v ≡ with_limit 4096 (committed_table d stream) =
    ap (with_limit 4096) (k.table ∙ ap (λ (x : Draft). committed_table x stream) m.1)
    ∙ lifted_committed d stream 4096 in
    record {
      choices = m.0;
      required_is = k.required_is ∙ ap required_insert_count m.1;
      table = table ∙ limit_is 4096 (committed_table d stream) (committed_limit t fields m.0 stream ∙ is);
      block = k.block
          ∙ ap (λ (x : Draft). before ++ coded_marked_block WhereShorter fields (block_of (with_limit 0 t) x)) m.1;
      written = k.written
          ∙ ap (λ (x : Draft). written ++ coded_encoder_instructions WhereShorter x.instructions) m.1;
    }

-- so is one that is given up
pub gives_up_lifted : (may : Bool) (fields : List FieldLine) (t v : Table) (written more : List ℕ) → t.limit ≡ 4096
    → GivesUpChosen WhereShorter fields (with_limit (limit_for may) t) v written more
    → GivesUpChosen WhereShorter fields t (with_limit 4096 v) written more
gives_up_lifted true fields t v written more is k =
    let some = take k.many fields in
    let same = limit_is 4096 t is in
    let table : v ≡ without_references (chosen_rule t some k.choices).table =
    k.table ∙ ap (λ (x : Table). without_references (chosen_rule x some k.choices).table) same in
    let limit : v.limit ≡ 4096 =
    ap (λ (x : Table). x.limit) table ∙ (given_up_keeps t some k.choices).limit ∙ is in
    record {
      many = k.many;
      choices = k.choices;
      table = limit_is 4096 v limit ∙ table;
      written = k.written
          ∙ ap (λ (x : Table). written ++ coded_encoder_instructions WhereShorter (chosen_rule x some k.choices).instructions) same;
    }
gives_up_lifted false fields t v written more is k =
    let some = take k.many fields in
    let m = matches_chosen t some k.choices in
    let d = chosen_rule t some m.0 in
    record {
      many = k.many;
      choices = m.0;
      table = ap (with_limit 4096) (k.table ∙ ap (λ (x : Draft). without_references x.table) m.1)
          ∙ lifted_given_up d 4096
          ∙ limit_is 4096 (without_references d.table) ((given_up_keeps t some m.0).limit ∙ is);
      written = k.written
          ∙ ap (λ (x : Draft). written ++ coded_encoder_instructions WhereShorter x.instructions) m.1;
    }

-- where the limit is lowered it requires nothing that is not known to be received
pub lowered_known : (may : Bool) (stream : ℕ) (fields : List FieldLine) (t v : Table)
    (before after written more : List ℕ) (required : ℕ) → may ≡ false
    → EncodesChosen WhereShorter stream fields (with_limit (limit_for may) t) v before after written more required
    → required ≤ t.known_received_count
lowered_known true stream fields t v before after written more required none k = absurd cc
lowered_known false stream fields t v before after written more required none k =
    omega (arith, k.required_is, known_chosen (with_limit 0 t) fields k.choices refl)

-- ---- what is at risk

-- a section that requires more than is known puts its stream at risk
pub tracks_put : (rs : List BlockedStream) (stream : ℕ) (fields : List FieldLine) (t u : Table)
    (before after written more : List ℕ) (required : ℕ)
    → EncodesChosen WhereShorter stream fields t u before after written more required → t.known_received_count < required
    → required < 2 ^ 64 → TracksRisk rs t
    → TracksRisk (with_stream (record { required = required; stream = stream }) rs) u
tracks_put rs stream fields t u before after written more required k above small tracks =
    record {
      streams = written_at_risk rs t u stream required (chosen_rule t fields k.choices).table.referenced
          (ap (λ (x : Table). x.known_received_count) k.table ∙ committed_known t fields k.choices stream)
          (ap (λ (x : Table). x.unacknowledged) k.table ∙ committed_open t fields k.choices stream) k.required_is above
          small tracks.streams;
      limit = ap (λ (x : Table). x.limit) k.table ∙ committed_limit t fields k.choices stream ∙ tracks.limit;
    }

-- one that does not puts none
pub tracks_known : (rs : List BlockedStream) (stream : ℕ) (fields : List FieldLine) (t u : Table)
    (before after written more : List ℕ) (required : ℕ)
    → EncodesChosen WhereShorter stream fields t u before after written more required → required ≤ t.known_received_count
    → TracksRisk rs t → TracksRisk rs u
tracks_known rs stream fields t u before after written more required k low tracks =
    record {
      streams = known_at_risk rs t u stream required (chosen_rule t fields k.choices).table.referenced
          (ap (λ (x : Table). x.known_received_count) k.table ∙ committed_known t fields k.choices stream)
          (ap (λ (x : Table). x.unacknowledged) k.table ∙ committed_open t fields k.choices stream) k.required_is low
          tracks.streams;
      limit = ap (λ (x : Table). x.limit) k.table ∙ committed_limit t fields k.choices stream ∙ tracks.limit;
    }

-- neither does one that is given up
pub tracks_given_up : (rs : List BlockedStream) (fields : List FieldLine) (t u : Table) (written more : List ℕ)
    → GivesUpChosen WhereShorter fields t u written more → TracksRisk rs t → TracksRisk rs u
tracks_given_up rs fields t u written more k tracks =
    let keeps = given_up_keeps t (take k.many fields) k.choices in
    record {
      streams = kept_same rs t u (ap (λ (x : Table). x.known_received_count) k.table ∙ keeps.known)
          (ap (λ (x : Table). x.unacknowledged) k.table ∙ keeps.unacknowledged) tracks.streams;
      limit = ap (λ (x : Table). x.limit) k.table ∙ keeps.limit ∙ tracks.limit;
    }

-- ---- whether a stream may be blocked

-- it may where fewer are kept than may be
pub may_below : (rs : List BlockedStream) (d : EncodingEnd) (s : ℕ) → AreAtRisk rs d.table
    → nat_lt (length rs) d.settings.max_blocked ≡ true → may_block d s ≡ true
may_below rs d s k below =
    let less : nat_lt (length (streams_at_risk d.table)) d.settings.max_blocked ≡ true =
    ap (λ (n : ℕ). nat_lt n d.settings.max_blocked) (sym (kept_count rs d.table k)) ∙ below in
    by (has_number s (streams_at_risk d.table)) less
  where
    by : (b : Bool) → nat_lt (length (streams_at_risk d.table)) d.settings.max_blocked ≡ true
        → (b || nat_lt (length (streams_at_risk d.table)) d.settings.max_blocked) ≡ true
    by true h = refl
    by false h = h

-- and else where it is kept
pub may_listed : (rs : List BlockedStream) (d : EncodingEnd) (s : ℕ) → AreAtRisk rs d.table
    → nat_lt (length rs) d.settings.max_blocked ≡ false
    → list_any (λ (r : BlockedStream). nat_eq r.stream s) rs ≡ may_block d s
may_listed rs d s k full =
    let more : nat_lt (length (streams_at_risk d.table)) d.settings.max_blocked ≡ false =
    ap (λ (n : ℕ). nat_lt n d.settings.max_blocked) (sym (kept_count rs d.table k)) ∙ full in
    kept_any rs d.table s k ∙ by (has_number s (streams_at_risk d.table))
    ∙ ap (λ (b : Bool). has_number s (streams_at_risk d.table) || b) (sym more)
  where
    by : (b : Bool) → b ≡ (b || false)
    by true = refl
    by false = refl

-- ---- a capacity, and the decoder stream

pub tracks_capacity : (rs : List BlockedStream) (t u : Table) (n : ℕ) → with_capacity t n ≡ Ok u → TracksRisk rs t
    → TracksRisk rs u
tracks_capacity rs t u n is tracks =
    let keeps = capacity_keeps t u n is in
    record {
      streams = kept_same rs t u keeps.known keeps.unacknowledged tracks.streams;
      limit = keeps.limit ∙ tracks.limit;
    }

pub tracks_hearing : (rs kept : List BlockedStream) (t u : Table) (is : List DecoderInstruction)
    → hear_in_turn t is ≡ Ok u → kept ≡ still_at_risk u rs → TracksRisk rs t → TracksRisk kept u
tracks_hearing rs kept t u is e same tracks =
    record {
      streams = subst (λ (l : List BlockedStream). AreAtRisk l u) (sym same) (heard_at_risk rs t u is e tracks.streams);
      limit = hearing_limit t u is e ∙ tracks.limit;
    }

-- ---- an end behind a section

none_wanted : (o : Option ℕ) (b : Bool) → (is_some o || b) ≡ false → o ≡ None
none_wanted None b is = refl
none_wanted (Some n) b is = absurd cc

-- where a section may reference entries no capacity waits
pub none_waits : (d : EncodingEnd) → is_alone d ≡ false → d.wanted ≡ None
none_waits d is = none_wanted d.wanted (is_full d) is

pub sound_with : (d : EncodingEnd) (t : Table) (b : List ℕ) → d.wanted ≡ None → IsSound d
    → IsSound (record d { table = t; unsent = b })
sound_with d t b none k =
    record {
      wanted = subst (λ (o : Option ℕ). IfSome o (λ n. IsToBeTold (record d { table = t; unsent = b }) n)) (sym none) tt;
      stream = k.stream;
      failure = k.failure;
    }

-- the limit of a table in which a section was written is as it was
pub limit_written : (stream : ℕ) (fields : List FieldLine) (t v : Table) (before after written more : List ℕ)
    (required n : ℕ) → EncodesChosen WhereShorter stream fields (with_limit n t) v before after written more required
    → with_limit n (with_limit 4096 v) ≡ v
limit_written stream fields t v before after written more required n k =
    limit_is n v
    (ap (λ (x : Table). x.limit) k.table ∙ committed_limit (with_limit n t) fields k.choices stream)

pub written_known : (stream : ℕ) (fields : List FieldLine) (t u : Table) (before after written more : List ℕ)
    (required : ℕ) → EncodesChosen WhereShorter stream fields t u before after written more required
    → u.known_received_count ≡ t.known_received_count
written_known stream fields t u before after written more required k =
    ap (λ (x : Table). x.known_received_count) k.table ∙ committed_known t fields k.choices stream

-- what holds where a call did what it was asked for
pub where_done : {A E : Type 0} {P : Type 0} (r : Result A E) → is_err r ≡ false → OnOk r P → P
where_done (Ok x) is k = k
where_done (Err e) is k = absurd cc

-- a section that requires more than is known is of a stream that may be blocked
pub may_be : (may : Bool) (required known : ℕ) → (may ≡ false → required ≤ known) → known < required → may ≡ true
may_be true required known k above = refl
may_be false required known k above = absurd (let low = k refl in omega (arith, above, low))
