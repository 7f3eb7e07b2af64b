-- A script's session, event by event, and what is printed of it.
use Rattle.std.proofs.Common.{◌≡◌, ◌<◌, ◌≤◌, ◌⊎◌, inl, inr, ℕ, zero, suc, ◌+◌, ◌-◌, List, [], ◌∷◌, ◌++◌, length, take}
use Rattle.std.proofs.Common.{drop, map, get_or, slice_get, slice_range, Option, Some, None, MatchOption, Ok}
use Rattle.std.proofs.Common.{Err, refl, sym, ap, subst, ◌∙◌, append_assoc, append-nil, add-one, arith, take_all}
use Rattle.std.proofs.Common.{drop_of_length-le}
use Rattle.std.proofs.lemmas.List.{take_rest}
use Rattle.std.specs.Borrow.{Bor}
use Rattle.std.specs.Prelude.{unwrap_or, ⊤, Result, codes}
use Rattle.qpack_rules.specs.Session as spec
use Rattle.qpack_rules.specs.Session.{Session, KeptBlock, stream_at, begin_session, initial_session, next_block}
use Rattle.qpack_rules.specs.Session.{oldest_undecoded}
use Rattle.qpack_spec.specs.Prefix.{OutOfRange, BelowZero}
use Rattle.qpack_spec.specs.Reading.{Fault, BadForm, BadPrefix, BelowWindow, AboveWindow, BehindBase, NotStatic}
use Rattle.qpack_spec.specs.Window.{DoesNotFit, AboveMaximum, UnknownStream}
use Rattle.qpack_wire.specs.Memory.{AsksSectionForMemory}
use Rattle.h3_qpack.below.qpack_table.specs.declared.dynamic.Error.TheVariants as table
use Rattle.h3_qpack.proofs.Sessions.{run_more as run_last}
use Rattle.qpack_codec.specs.Receiving.{AsksToTake}
use Rattle.qpack_codec.specs.Sections.{Tells}
use Rattle.h3_qpack.specs.SessionAnswers.{IsUnrefused, IsExact, IsExactBehind}
use Rattle.h3_qpack.specs.SessionMemory.{IsAskedFor, AsksToDecode, AsksAtDecoder}
use Rattle.h3_qpack.specs.Sessions.{SessionView, Shows, Answers, Follows, event_of, stored_block, StoredBlock}
use Rattle.h3_qpack.specs.Sessions.{StoredStream, HasBytes, IsAnswerTo, TellsUndecoded}
use Rattle.h3_qpack.specs.declared.session.Event.{Event as ReadEvent}
use Rattle.qpack_codec.specs.declared.error.DecoderError.{DecoderError}
use Rattle.qpack_codec.specs.declared.error.DecoderError.TheVariants as decoder
use Rattle.qpack_codec.specs.declared.error.EncoderError.{EncoderError}
use Rattle.qpack_codec.specs.declared.error.EncoderError.TheVariants as encoder
use Rattle.h3_qpack.specs.declared.session.Outcome.{Outcome}
use Rattle.h3_qpack.specs.declared.session.Outcome.TheVariants as outcome
use Rattle.qpk.specs.ErrorWords.{decoder_words, encoder_words, refused_text}
use Rattle.qpk.specs.Inspecting.{index_text}
use Rattle.qpk.specs.Outcomes.{undecoded_text, printed_outcome}
use Rattle.qpk.specs.Runs.{printed_answer, written_stream, bytes_of_block, newest_bytes, made_block, PrintsEvent}
use Rattle.qpk.specs.Runs.{PrintsEvents, PrintsOne, PrintsAll, stored_stream_bytes, bytes_of_stored, newest_stored}
use Rattle.qpk.specs.Runs.{stored_block_bytes, PrintsRun, RunsEvents, RunsSession, MayWantMemory, ShowsReached}
use Rattle.qpk.specs.declared.text.Fault.{Fault as CodeFault}
use Rattle.qpk.specs.Scripts.{events_in, script_events}

-- ---- the bytes of a session that is shown

stream_shown : (e : spec.Event) (s : SessionView) (v : Session) → Shows s v → stored_stream_bytes e s
    ≡ written_stream e v
stream_shown (spec.Encode stream fs) s v shows = sym shows.encoder_stream
stream_shown (spec.ChangeCapacity capacity) s v shows = sym shows.encoder_stream
stream_shown (spec.Decode stream) s v shows = sym shows.decoder_stream
stream_shown (spec.ToDecoder bytes) s v shows = sym shows.decoder_stream
stream_shown (spec.ToEncoder bytes) s v shows = sym shows.decoder_stream
stream_shown (spec.Acknowledge stream) s v shows = sym shows.decoder_stream
stream_shown (spec.Cancel stream) s v shows = sym shows.decoder_stream

bytes_stored : (blocks : List KeptBlock) (i : ℕ) → bytes_of_stored (slice_get (map stored_block blocks) i)
    ≡ bytes_of_block (slice_get blocks i)
bytes_stored [] i = refl
bytes_stored (b ∷ blocks) zero = refl
bytes_stored (b ∷ blocks) (suc i) = bytes_stored blocks i

as_many : (blocks : List KeptBlock) → length (map stored_block blocks) ≡ length blocks
as_many [] = refl
as_many (b ∷ blocks) = ap suc (as_many blocks)

newest_shown : (blocks : List KeptBlock) → newest_stored (map stored_block blocks) ≡ newest_bytes blocks
newest_shown blocks =
    ap (λ (n : ℕ). bytes_of_stored (slice_get (map stored_block blocks) (n - 1))) (as_many blocks)
    ∙ bytes_stored blocks (length blocks - 1)

block_shown : (e : spec.Event) (s : SessionView) (v : Session) → Shows s v → stored_block_bytes e s ≡ made_block e v
block_shown (spec.Encode stream fs) s v shows =
    ap (λ k. newest_stored k.blocks) (shows.streams stream) ∙ newest_shown (stream_at v.streams stream).blocks
block_shown (spec.ChangeCapacity capacity) s v shows = refl
block_shown (spec.Decode stream) s v shows = refl
block_shown (spec.ToDecoder bytes) s v shows = refl
block_shown (spec.ToEncoder bytes) s v shows = refl
block_shown (spec.Acknowledge stream) s v shows = refl
block_shown (spec.Cancel stream) s v shows = refl

-- ---- an outcome prints what its answer prints

-- a decode that is no want of memory waits
abbrev pub Waits : DecoderError → Type 0
Waits decoder.Memory = Unit {0}
Waits e = (required : ℕ) × (e ≡ decoder.MissingRefs required)

decode_waits : (events : List (spec.Event × spec.Outcome)) (v : Session) (event : spec.Event) (e : DecoderError)
    → IsAnswerTo event (outcome.Decoded (Err e)) → IsExact events v event (outcome.Decoded (Err e)) → Waits e
decode_waits events v (spec.Decode s) decoder.Memory kind exact = tt
decode_waits events v (spec.Decode s) e kind exact = (exact.encode.required, exact.tells)
decode_waits events v (spec.Encode s fs) e kind exact = absurd kind
decode_waits events v (spec.ToDecoder n) e kind exact = absurd kind
decode_waits events v (spec.ToEncoder n) e kind exact = absurd kind
decode_waits events v (spec.Acknowledge s) e kind exact = absurd kind
decode_waits events v (spec.Cancel s) e kind exact = absurd kind
decode_waits events v (spec.ChangeCapacity n) e kind exact = absurd kind

-- no outcome tells a fault
abbrev pub IsFaultless : Outcome → Type 0
IsFaultless (outcome.Decoded (Err e)) = Waits e
IsFaultless (outcome.Delivered (Err e)) = e ≡ decoder.Memory
IsFaultless (outcome.Heard (Err e)) = ⊥
IsFaultless r = Unit {0}

faultless : (events : List (spec.Event × spec.Outcome)) (v : Session) (event : spec.Event) (r : Outcome)
    → IsAnswerTo event r → IsUnrefused r → IsExact events v event r → IsFaultless r
faultless events v event (outcome.Decoded (Err e)) kind unrefused exact = decode_waits events v event e kind exact
faultless events v event (outcome.Delivered (Err e)) kind unrefused exact = unrefused
faultless events v event (outcome.Heard (Err e)) kind unrefused exact = unrefused
faultless events v event (outcome.Decoded (Ok d)) kind unrefused exact = tt
faultless events v event (outcome.Delivered (Ok total)) kind unrefused exact = tt
faultless events v event (outcome.Heard (Ok done)) kind unrefused exact = tt
faultless events v event (outcome.Encoded a) kind unrefused exact = tt
faultless events v event (outcome.Acknowledged a) kind unrefused exact = tt
faultless events v event (outcome.Cancelled a) kind unrefused exact = tt
faultless events v event (outcome.CapacitySet a) kind unrefused exact = tt
faultless events v event (outcome.Skipped reason) kind unrefused exact = tt

missing_alone : (required : ℕ) (fault : Fault) → Tells (decoder.MissingRefs required) fault → ⊥
missing_alone required (BadForm fault) h = absurd cc
missing_alone required (BadPrefix OutOfRange) h = absurd cc
missing_alone required (BadPrefix (BelowZero base)) h = absurd cc
missing_alone required (BelowWindow relative) h = absurd cc
missing_alone required (AboveWindow position) h = absurd cc
missing_alone required (BehindBase post_base) h = absurd cc
missing_alone required (NotStatic index) h = absurd cc

missing : (required : ℕ) (o : spec.Outcome) (block added : List ℕ) → TellsUndecoded (decoder.MissingRefs required) o
    → printed_answer o block added ≡ Some (index_text (codes "missing") required)
missing required (spec.MissingReferences n) block added h = let s : required ≡ n = cc in rw s refl
missing required (spec.BadBlock fault) block added h = absurd (missing_alone required fault h)
missing required o block added h = absurd h

undecoded : (e : DecoderError) (o : spec.Outcome) (block added : List ℕ) → Waits e → Answers (outcome.Decoded (Err e)) o
    → printed_answer o block added ≡ Some (undecoded_text e)
undecoded decoder.Memory o block added waits h = rw h refl
undecoded (decoder.MissingRefs required) o block added waits h = missing required o block added h
undecoded e o block added waits h = absurd (let is = waits.1 in cc)

not_set : (e : EncoderError) (o : spec.Outcome) (block added : List ℕ) → Answers (outcome.CapacitySet (Err e)) o
    → printed_answer o block added ≡ Some (refused_text (encoder_words e))
not_set encoder.Memory o block added h = rw h refl
not_set (encoder.Insertion table.MaxTableSizeReached) o block added (refusal, is, tells) =
    let same : refusal ≡ DoesNotFit = cc in rw (is, same) refl
not_set (encoder.Insertion table.MaximumTableSizeTooLarge) o block added (refusal, is, tells) =
    let same : refusal ≡ AboveMaximum = cc in rw (is, same) refl
not_set (encoder.Insertion (table.UnknownStreamId stream)) o block added (refusal, is, tells) =
    let same : refusal ≡ UnknownStream stream = cc in rw (is, same) refl
not_set e o block added (refusal, is, tells) = absurd cc

undelivered : (e : DecoderError) (o : spec.Outcome) (block added : List ℕ) → e ≡ decoder.Memory
    → Answers (outcome.Delivered (Err e)) o
    → printed_answer o block added ≡ Some (refused_text (decoder_words e))
undelivered decoder.Memory o block added is h = rw h refl
undelivered e o block added is h = absurd cc

same_text : (r : Outcome) (o : spec.Outcome) (block added : List ℕ) → IsFaultless r → Answers r o
    → printed_answer o block added ≡ Some (printed_outcome r block added)
same_text (outcome.Encoded (Ok required)) o block added is h = rw h refl
same_text (outcome.Encoded (Err e)) o block added is h = rw (h.1, h.0) refl
same_text (outcome.Decoded (Ok d)) o block added is h = rw h refl
same_text (outcome.Decoded (Err e)) o block added is h = undecoded e o block added is h
same_text (outcome.Delivered (Ok total)) o block added is h = rw h refl
same_text (outcome.Delivered (Err e)) o block added is h = undelivered e o block added is h
same_text (outcome.Heard (Ok done)) o block added is h = rw h refl
same_text (outcome.Heard (Err e)) o block added is h = absurd is
same_text (outcome.Acknowledged (Ok done)) o block added is h = rw h refl
same_text (outcome.Acknowledged (Err e)) o block added is h = rw h refl
same_text (outcome.Cancelled (Ok done)) o block added is h = rw h refl
same_text (outcome.Cancelled (Err e)) o block added is h = rw h refl
same_text (outcome.CapacitySet (Ok done)) o block added is h = rw h refl
same_text (outcome.CapacitySet (Err e)) o block added is h = not_set e o block added h
same_text (outcome.Skipped reason) o block added is h = rw h refl

-- ---- where memory is wanted

has_bytes : (o : Option StoredBlock) (bytes : List ℕ) → HasBytes o bytes → bytes ≡ bytes_of_stored o
has_bytes None bytes h = absurd h
has_bytes (Some b) bytes h = h

asked_by_decode : (stream : ℕ) (s : SessionView) (v : Session) → Shows s v → AsksToDecode s stream
    → AsksSectionForMemory (bytes_of_block (next_block v stream))
asked_by_decode stream s v shows asks =
    let k = stream_at v.streams stream in
    let stored : asks.bytes ≡ bytes_of_stored (slice_get (map stored_block k.blocks) k.decoded) =
    has_bytes _ asks.bytes asks.is_next
    ∙ ap (λ (l : StoredStream). bytes_of_stored (oldest_undecoded l)) (shows.streams stream) in
    subst AsksSectionForMemory (stored ∙ bytes_stored k.blocks k.decoded) asks.asks

asked_by_delivery : (s : SessionView) (v : Session) → Shows s v → AsksAtDecoder s
    → (0 < v.unreported)
    ⊎ AsksToTake v.decoder (drop v.encoder_stream_taken (take v.encoder_stream_delivered v.encoder_stream))
asked_by_delivery s v shows asks =
    rw (
      shows.unreported,
      shows.decoder,
      shows.encoder_stream_taken,
      shows.encoder_stream_delivered,
      shows.encoder_stream,
    ) asks

untold : (e : DecoderError) (o : spec.Outcome) → TellsUndecoded e o → o ≡ spec.NoMemory → ⊥
untold e (spec.MissingReferences required) h none = absurd cc
untold e (spec.BadBlock fault) h none = absurd cc
untold e o h none = h

decode_asked : (stream : ℕ) (s : SessionView) (v : Session) (new : SessionView) (e : DecoderError) (o : spec.Outcome)
    → Shows s v → Answers (outcome.Decoded (Err e)) o
    → IsAskedFor s new (spec.Decode stream) (outcome.Decoded (Err e)) → o ≡ spec.NoMemory
    → AsksSectionForMemory (bytes_of_block (next_block v stream))
decode_asked stream s v new decoder.Memory o shows h asks none = asked_by_decode stream s v shows asks
decode_asked stream s v new e o shows h asks none = absurd (untold e o h none)

delivery_asked : (n : ℕ) (old new : SessionView) (next : Session) (e : DecoderError) → Shows new next
    → e ≡ decoder.Memory → IsAskedFor old new (spec.ToDecoder n) (outcome.Delivered (Err e))
    → (0 < next.unreported)
    ⊎ AsksToTake next.decoder
    (drop next.encoder_stream_taken (take next.encoder_stream_delivered next.encoder_stream))
delivery_asked n old new next decoder.Memory shows is asks = asked_by_delivery new next shows asks
delivery_asked n old new next e shows is asks = absurd cc

asked : (old new : SessionView) (v next : Session) (event : spec.Event) (r : Outcome) (o : spec.Outcome) → Shows old v
    → Shows new next → IsAnswerTo event r → IsFaultless r → Answers r o → IsAskedFor old new event r
    → o ≡ spec.NoMemory → MayWantMemory event v next
asked old new v next (spec.Encode s fs) r o shown shows kind is h asks none = tt
asked old new v next (spec.Acknowledge s) r o shown shows kind is h asks none = tt
asked old new v next (spec.Cancel s) r o shown shows kind is h asks none = tt
asked old new v next (spec.ChangeCapacity n) r o shown shows kind is h asks none = tt
asked old new v next (spec.Decode s) (outcome.Decoded (Err e)) o shown shows kind is h asks none =
    decode_asked s old v new e o shown h asks none
asked old new v next (spec.Decode s) (outcome.Decoded (Ok d)) o shown shows kind is h asks none = absurd cc
asked old new v next (spec.Decode s) (outcome.Skipped reason) o shown shows kind is h asks none = absurd cc
asked old new v next (spec.ToDecoder n) (outcome.Delivered (Err e)) o shown shows kind is h asks none =
    delivery_asked n old new next e shows is asks
asked old new v next (spec.ToDecoder n) (outcome.Delivered (Ok total)) o shown shows kind is h asks none = absurd cc
asked old new v next (spec.ToDecoder n) (outcome.Skipped reason) o shown shows kind is h asks none = absurd cc
asked old new v next (spec.ToEncoder n) (outcome.Heard (Err e)) o shown shows kind is h asks none = absurd is
asked old new v next (spec.ToEncoder n) (outcome.Heard (Ok done)) o shown shows kind is h asks none = absurd cc
asked old new v next (spec.ToEncoder n) (outcome.Skipped reason) o shown shows kind is h asks none = absurd cc
asked old new v next event r o shown shows kind is h asks none = absurd kind

-- ---- one event

pub event_prints : (old new : SessionView) (e : spec.Event) (r : Outcome) (block added : List ℕ)
    → Follows old new e r → IsUnrefused r → IsExactBehind old e r → IsAskedFor old new e r
    → block ≡ stored_block_bytes e new
    → added ≡ drop (length (stored_stream_bytes e old)) (stored_stream_bytes e new)
    → PrintsOne old new e (printed_outcome r block added)
event_prints old new e r block added follows unrefused exact asks made wrote v (capacity, maximum, limit, events, reaches) =
    let g = follows v reaches.shows in
    let is = faultless events v e r g.kind unrefused (exact capacity maximum limit events v reaches) in
    let made_is : block ≡ made_block e g.next = made ∙ block_shown e new g.next g.shows in
    let wrote_is : added ≡ drop (length (written_stream e v)) (written_stream e g.next) =
    wrote
    ∙ ap (λ (xs : List ℕ). drop (length xs) (stored_stream_bytes e new)) (stream_shown e old v reaches.shows)
    ∙ ap (λ (xs : List ℕ). drop (length (written_stream e v)) xs) (stream_shown e new g.next g.shows) in
    record {
      next = g.next;
      shows = (
        capacity,
        maximum,
        limit,
        events ++ (e, g.answer) ∷ [],
        record {
          within = reaches.within;
          shows = g.shows;
          run = run_last (initial_session capacity maximum limit) v g.next events e g.answer reaches.run g.passes;
        },
      );
      prints = record {
        answer = g.answer;
        passes = g.passes;
        prints = sym (ap (λ (b : List ℕ). printed_answer g.answer b added) made_is
            ∙ ap (λ (a : List ℕ). printed_answer g.answer (made_block e g.next) a) wrote_is)
            ∙ same_text r g.answer block added is g.answers;
        asks = asked old new v g.next e r g.answer reaches.shows g.shows g.kind is g.answers asks;
      };
    }

-- ---- events in turn

prints_last : (v last next : Session) (events : List spec.Event) (e : spec.Event) (out here : List ℕ)
    → PrintsEvents v events last out → PrintsEvent last e next here
    → PrintsEvents v (events ++ e ∷ []) next (out ++ here)
prints_last v last next [] e out here (same, none) p = (
  next,
  here,
  [],
  subst (λ (s : Session). PrintsEvent s e next here) same p,
  (refl, refl),
  ap (λ (xs : List ℕ). xs ++ here) none ∙ sym (append-nil here),
)
prints_last v last next (f ∷ events) e out here (mid, first, more, one, rest, is) p = (
  mid,
  first,
  more ++ here,
  one,
  prints_last mid last next events e more here rest p,
  ap (λ (xs : List ℕ). xs ++ here) is ∙ append_assoc first more here,
)

prints_more : (old mid new : SessionView) (events : List spec.Event) (e : spec.Event) (out here : List ℕ)
    → PrintsAll old mid events out → PrintsOne mid new e here → PrintsAll old new (events ++ e ∷ []) (out ++ here)
prints_more old mid new events e out here all one v shows =
    let m = all v shows in
    let n = one m.last m.shows in
    record { last = n.next; shows = n.shows; prints = prints_last v m.last n.next events e out here m.prints n.prints }

events_next : (events : List ReadEvent) (i : ℕ) (x : ReadEvent) → i < length events → x ≡ get_or events i x
    → events_in (take (suc i) events) ≡ events_in (take i events) ++ event_of x ∷ []
events_next [] i x lt is = absurd (omega arith)
events_next (y ∷ events) zero x lt is = rw is refl
events_next (y ∷ events) (suc i) x lt is =
    ap (λ (more : List spec.Event). event_of y ∷ more) (events_next events i x (omega arith) is)

pub run_more : (old mid new : SessionView) (events : List ReadEvent) (i : ℕ) (x : ReadEvent) (out here after : List ℕ)
    → i < length events → x ≡ get_or events i x → PrintsAll old mid (events_in (take i events)) out
    → PrintsOne mid new (event_of x) here → after ≡ out ++ here
    → PrintsAll old new (events_in (take (i + 1) events)) after
run_more old mid new events i x out here after lt is all one e =
    let l : events_in (take (i + 1) events) ≡ events_in (take i events) ++ event_of x ∷ [] =
    ap (λ (n : ℕ). events_in (take n events)) (add-one i) ∙ events_next events i x lt is in
    rw (l, e) (prints_more old mid new (events_in (take i events)) (event_of x) out here all one)

pub run_all : (old new : SessionView) (events : List ReadEvent) (i : ℕ) (out : List ℕ) → length events ≤ i
    → PrintsAll old new (events_in (take i events)) out → PrintsAll old new (events_in events) out
run_all old new events i out le all =
    subst (λ (es : List ReadEvent). PrintsAll old new (events_in es) out) (take_all i events le) all

-- all events, from where their session begins
pub session_runs : (capacity limit : ℕ) (events : List spec.Event) (before after : List ℕ) (first last : SessionView)
    (r : Result ⊤ CodeFault)
    → (v : Session) × (begin_session capacity capacity limit ≡ Ok v) × ShowsReached first v
    → RunsEvents first last events before after r → RunsSession capacity limit events before after r
session_runs capacity limit events before after first last (Ok done) (v, begins, shows) (out, all, is) =
    let m = all v shows in
    (out, record { first = v; begins = begins; last = m.last; prints = m.prints }, is)
session_runs capacity limit events before after first last (Err fault) begins refused = rw refused tt

pub script_runs : (capacity limit : ℕ) (text out : List ℕ) (read events : List ReadEvent)
    → script_events text ≡ Ok (events_in read) → events ≡ read
    → RunsSession capacity limit (events_in events) [] out (Ok tt) → PrintsRun capacity limit text out
script_runs capacity limit text out read events are same (printed, ran, is) =
    record {
      events = events_in events;
      are_events = rw same are;
      first = ran.first;
      begins = ran.begins;
      last = ran.last;
      prints = rw is ran.prints;
    }

-- ---- what was added to a stream

pub added_is : (P : Bor (List ℕ) → Type 0) (xs : List ℕ) (n : ℕ) (o : Option (Bor (List ℕ))) (none r : Bor (List ℕ))
    → MatchOption o ((length xs < n) ⊎ (length xs < length xs))
    (λ x. (n ≤ length xs) × (length xs ≤ length xs) × (x.now ≡ slice_range xs n (length xs)) × P x)
    → none.now ≡ [] → r ≡ unwrap_or o none → r.now ≡ drop n xs
added_is P xs n None none r (inl lt) empty is =
    ap (λ (b : Bor (List ℕ)). b.now) is ∙ empty ∙ sym (drop_of_length-le xs (omega arith))
added_is P xs n None none r (inr lt) empty is = absurd (omega arith)
added_is P xs n (Some x) none r (least, most, range, p) empty is =
    ap (λ (b : Bor (List ℕ)). b.now) is ∙ range ∙ take_rest xs n
