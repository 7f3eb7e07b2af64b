-- Which calls lead to a connection, and which of them encoded the section that requires most.
use Rattle.std.proofs.Common.{◌≡◌, ◌≤◌, ◌+◌, ◌^◌, ℕ, Bool, true, false, List, [], ◌∷◌, ◌++◌, length, drop, max, Some}
use Rattle.std.proofs.Common.{Result, Ok, Err, refl, ap, subst, arith, inl, inr, ◌⊎◌, length-append, length-drop}
use Rattle.std.proofs.Common.{length-take}
use Rattle.std.proofs.lemmas.Bool.{leb-true, leb-false}
use Rattle.std.specs.Prelude.{⊤, nat_le}
use Rattle.qpack_spec.specs.Field.{FieldLine}
use Rattle.qpack_spec.specs.Table.{Table, empty_table, insert_count}
use Rattle.qpack_safety.specs.TwoEnds.{EndStep}
use Rattle.qpack_decoding.specs.Decoders.{DecodingEnd, EndsReceiving}
use Rattle.qpack_decoding.specs.Decoders as decoders
use Rattle.qpack_decoding.specs.Receiving.{StreamView, ReceivesMore}
use Rattle.qpack_decoding.specs.declared.encoder_stream.EncoderStreamError.{EncoderStreamError}
use Rattle.qpack_connection.specs.ConnectionEvents.{Shows}
use Rattle.qpack_connection.specs.Connections.{Wire, Connection, IsNew, Call, Encode, Receive, Step, Run, ReceivesOn}
use Rattle.qpack_connection.specs.Connections.{next_of}
use Rattle.qpack_connection.specs.RefinedConnections.{received_of}
use Rattle.qpack_connection.specs.TwoEndsHeadline.{Fits, AllFit}
use Rattle.qpack_connection.proofs.ArrivedSections.{run_kept, run_grown, sections_arrive}
use Rattle.qpack_connection.proofs.ConnectionRuns.{run_more}
use Rattle.qpack_connection.proofs.KeptEncoderCalls.{IsKept}
use Rattle.qpack_connection.proofs.ReachedConnections.{shows_itself, shows_through, kept_shown, moved_to}
use Rattle.qpack_connection.proofs.TwoEndsHeadline.{new_kept}

-- ---- calls from the first connection on

-- calls that fit lead from the first connection to one that is shown
pub record Follows (first c : Connection) : Type 0 where
  pub calls : List Call
  pub last : Connection
  pub run : Run calls first last
  pub fits : AllFit calls first last run
  pub shows : Shows c last

pub follows_none : (first : Connection) → Follows first first
follows_none first =
    record { calls = []; last = first; run = refl; fits = tt; shows = shows_itself first }

pub follows_shown : (first old new : Connection) → Follows first old → Shows new old → Follows first new
follows_shown first old new f shows =
    record {
      calls = f.calls;
      last = f.last;
      run = f.run;
      fits = f.fits;
      shows = shows_through new old f.last shows f.shows;
    }

pub follows_call : (first old new : Connection) (call : Call) → Follows first old → (step : Step call old new)
    → Fits call old new step → Follows first new
follows_call first old new call f step fits =
    let v = moved_to call old new f.last step f.shows in
    let whole = run_more f.calls first f.last v.next call f.run f.fits v.moved (v.fits fits) in
    record {
      calls = f.calls ++ call ∷ [];
      last = v.next;
      run = whole.0;
      fits = whole.1;
      shows = v.shows;
    }

-- what is kept of it
pub follows_kept : (first c : Connection) (n : IsNew first) → Follows first c
    → (steps : List EndStep) × IsKept n.encoder_settings.max_capacity 4096 n.decoder_settings.max_blocked c steps
follows_kept first c n f =
    let k = run_kept n.encoder_settings.max_capacity 4096 n.decoder_settings.max_blocked f.calls first f.last []
    (new_kept first n) f.run f.fits in (
      k.0,
      kept_shown n.encoder_settings.max_capacity 4096 n.decoder_settings.max_blocked c f.last k.0 f.shows k.1,
    )

-- ---- a section that was sent

-- an encode answered that its section requires this number of insertions, and the calls since lead to a connection that
-- is shown
pub record Sent (first : Connection) (required : ℕ) (c : Connection) : Type 0 where
  pub before : List Call
  pub since : List Call
  pub old : Connection
  pub sent : Connection
  pub now : Connection
  pub stream : ℕ
  pub fields : List FieldLine
  pub run : Run before first old
  pub run_fits : AllFit before first old run
  pub step : Step (Encode stream fields (Ok required)) old sent
  pub fits : Fits (Encode stream fields (Ok required)) old sent step
  pub later : Run since sent now
  pub later_fits : AllFit since sent now later
  pub shows : Shows c now

-- unless nothing is required
abbrev pub IsSent : Connection → ℕ → Connection → Type 0
IsSent first required c = (required ≡ 0) ⊎ Sent first required c

one_sent_shown : (first old new : Connection) (required : ℕ) → Sent first required old → Shows new old
    → Sent first required new
one_sent_shown first old new required x shows =
    record {
      before = x.before;
      since = x.since;
      old = x.old;
      sent = x.sent;
      now = x.now;
      stream = x.stream;
      fields = x.fields;
      run = x.run;
      run_fits = x.run_fits;
      step = x.step;
      fits = x.fits;
      later = x.later;
      later_fits = x.later_fits;
      shows = shows_through new old x.now shows x.shows;
    }

pub sent_shown : (first old new : Connection) (required : ℕ) → IsSent first required old → Shows new old
    → IsSent first required new
sent_shown first old new required (inl none) shows = inl none
sent_shown first old new required (inr x) shows = inr (one_sent_shown first old new required x shows)

one_sent_call : (first old new : Connection) (required : ℕ) (call : Call) → Sent first required old
    → (step : Step call old new) → Fits call old new step → Sent first required new
one_sent_call first old new required call x step fits =
    let v = moved_to call old new x.now step x.shows in
    let whole = run_more x.since x.sent x.now v.next call x.later x.later_fits v.moved (v.fits fits) in
    record {
      before = x.before;
      since = x.since ++ call ∷ [];
      old = x.old;
      sent = x.sent;
      now = v.next;
      stream = x.stream;
      fields = x.fields;
      run = x.run;
      run_fits = x.run_fits;
      step = x.step;
      fits = x.fits;
      later = whole.0;
      later_fits = whole.1;
      shows = v.shows;
    }

pub sent_call : (first old new : Connection) (required : ℕ) (call : Call) → IsSent first required old
    → (step : Step call old new) → Fits call old new step → IsSent first required new
sent_call first old new required call (inl none) step fits = inl none
sent_call first old new required call (inr x) step fits =
    inr (one_sent_call first old new required call x step fits)

sent_now : (first old new : Connection) (s : ℕ) (fields : List FieldLine) (required : ℕ) → Follows first old
    → (step : Step (Encode s fields (Ok required)) old new) → Fits (Encode s fields (Ok required)) old new step
    → Sent first required new
sent_now first old new s fields required f step fits =
    let v = moved_to (Encode s fields (Ok required)) old new f.last step f.shows in
    record {
      before = f.calls;
      since = [];
      old = f.last;
      sent = v.next;
      now = v.next;
      stream = s;
      fields = fields;
      run = f.run;
      run_fits = f.fits;
      step = v.moved;
      fits = v.fits fits;
      later = refl;
      later_fits = tt;
      shows = v.shows;
    }

-- the greater of two that are required
pub sent_more : (first old new : Connection) (s : ℕ) (fields : List FieldLine) (most required : ℕ)
    → IsSent first most old → Follows first old → (step : Step (Encode s fields (Ok required)) old new)
    → Fits (Encode s fields (Ok required)) old new step → IsSent first (max most required) new
sent_more first old new s fields most required sent f step fits = by (nat_le most required) refl
  where
    by : (t : Bool) → nat_le most required ≡ t → IsSent first (max most required) new
    by true e =
        let is : required ≡ max most required = omega (arith, leb-true most required e) in
        subst (λ (n : ℕ). IsSent first n new) is (inr (sent_now first old new s fields required f step fits))
    by false e =
        let is : most ≡ max most required = omega (arith, leb-false most required e) in
        subst (λ (n : ℕ). IsSent first n new) is
        (sent_call first old new most (Encode s fields (Ok required)) sent step fits)

-- ---- all arrives

none_left : (start old new : Table) (before bytes left : List ℕ) (s u : StreamView) (d0 d : DecodingEnd)
    (taken : Result ⊤ EncoderStreamError) (total : ℕ) → ReceivesMore start old new before bytes left s u taken
    → EndsReceiving d0 d taken (Ok total) → left ≡ []
none_left start old new before bytes left s u d0 d (Ok it) total stream ends = stream.0
none_left start old new before bytes left s u d0 d (Err e) total stream ends = absurd (let x = ends.0 in cc)

-- what is answered with a number was received to its end
received_whole : (maximum limit most : ℕ) (old new : Connection) (many total : ℕ) (steps : List EndStep)
    → IsKept maximum limit most old steps → (step : ReceivesOn old new many (Ok total))
    → new.encoder_stream.received ≡ old.encoder_stream.received + length (next_of many old.encoder_stream)
received_whole maximum limit most old new many total steps k step =
    let start = empty_table 0 (Some maximum) 0 in
    let before = received_of old.encoder_stream in
    let x = step.receives k.alive.decoder start before k.refines.received in
    omega (
      arith,
      ap (λ (c : Connection). c.encoder_stream.received) step.new_is,
      ap (λ (b : List ℕ). length b)
          (none_left start old.decoder.table step.decoder.table before (next_of many old.encoder_stream) step.left
          old.decoder.stream step.decoder.stream (decoders.received step.decoder.table step.decoder.stream old.decoder)
          step.decoder x.taken total x.stream x.ends),
    )

-- where all bytes are delivered, all insertions are there that a section requires that was sent
pub all_arrive : (first old new : Connection) (n : IsNew first) (many total required : ℕ) → Follows first old
    → IsSent first required old → Step (Receive many (Ok total)) old new → 2 ^ 63 ≤ many
    → required ≤ insert_count new.decoder.table
all_arrive first old new n many total required f (inl none) step all = omega (arith, none)
all_arrive first old new n many total required f (inr x) step all =
    let v = moved_to (Receive many (Ok total)) old new x.now step x.shows in
    let k = follows_kept first old n f in
    let grown = run_grown x.since x.sent x.now x.later in
    let whole = received_whole n.encoder_settings.max_capacity 4096 n.decoder_settings.max_blocked old new many total
    k.0 k.1 step in
    let enough : length x.sent.encoder_stream.written ≤ v.next.encoder_stream.received =
    omega (
      arith,
      x.fits.1,
      all,
      ap (λ (b : List ℕ). length b) grown.1,
      length-append x.sent.encoder_stream.written grown.0,
      ap (λ (w : Wire). length w.written) x.shows.encoder_stream,
      whole,
      ap (λ (w : Wire). w.received) v.shows.encoder_stream,
      length-take many (drop old.encoder_stream.received old.encoder_stream.written),
      length-drop old.encoder_stream.received old.encoder_stream.written,
      k.1.refines.encoder_stream_order,
    ) in
    omega (
      arith,
      sections_arrive x.before x.since first x.old x.sent x.now v.next x.stream x.fields required many total n x.run
          x.run_fits x.step x.fits x.later x.later_fits v.moved enough,
      ap (λ (d : DecodingEnd). insert_count d.table) v.shows.decoder,
    )
