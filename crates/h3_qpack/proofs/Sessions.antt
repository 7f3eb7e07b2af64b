-- Sessions that events lead to, and what is known of each.
use Rattle.std.proofs.Common.{◌≡◌, ◌<◌, ◌≤◌, ◌^◌, ℕ, List, [], ◌∷◌, ◌++◌, length, map, take, filter, zero, suc}
use Rattle.std.proofs.Common.{Bool, true, false, nat_lt, nat_eq, if◌then◌else◌, Some, None}
use Rattle.std.proofs.Common.{refl, sym, ap, subst, ◌∙◌, arith, inl, inr}
use Rattle.std.proofs.lemmas.Bool.{cond_both}
use Rattle.std.proofs.lemmas.List.{length-map}
use Rattle.std.specs.List.{AllByRecursion}
use Rattle.qpack_rules.specs.Session as spec
use Rattle.qpack_rules.specs.Session.{KeptBlock, KeptStream, Session, RequestStream, stream_at, with_stream}
use Rattle.qpack_rules.specs.Session.{skip_reason}
use Rattle.qpack_rules.specs.Session.{awaits_acknowledgment, requires_entry, initial_session, Run, Passes, FitsMemory}
use Rattle.qpack_rules.specs.Session.{IsByteEvent, LawfulStep, Skips}
use Rattle.qpack_safety.specs.SessionSafety.{IsSafe}
use Rattle.qpack_safety.proofs.FourParts.{sessions_safe}
use Rattle.h3_qpack.specs.Sessions.{StoredBlock, StoredStream, stored_block, stored_stream, stored_requires_entry}
use Rattle.qpack_codec.specs.RequestStreams.{ChangesStream}
use Rattle.h3_qpack.specs.Sessions.{SessionView, Shows, IsReached, Follows, Goes, Answers}
use Rattle.h3_qpack.specs.Sessions.{IsAnswerTo, Keeps}
use Rattle.qpack_codec.specs.RequestStreams.{KeepsStreams}
use Rattle.h3_qpack.specs.Sessions.{stored_skip, decode_skip, acknowledgment_skip}
use Rattle.h3_qpack.specs.Sessions.{cancellation_skip}
use Rattle.h3_qpack.specs.declared.session.Outcome.{Outcome}
use Rattle.h3_qpack.specs.declared.session.Outcome.TheVariants as outcome

-- ---- runs

pub run_more : (v w x : Session) (events : List (spec.Event × spec.Outcome)) (e : spec.Event) (o : spec.Outcome)
    → Run v events w → Passes w e o x → Run v (events ++ (e, o) ∷ []) x
run_more v w x [] e o r p = (x, subst (λ (u : Session). Passes u e o x) (sym r) p, refl)
run_more v w x (q ∷ qs) e o r p = (r.0, r.1, run_more r.0 w x qs e o r.2 p)

-- an event that goes from whichever session is shown leads to one that events lead to
pub reached_behind : (old new : SessionView) (e : spec.Event) (r : Outcome) → IsReached old → Follows old new e r
    → IsReached new
reached_behind old new e r at follows =
    let goes = follows at.session at.reaches.shows in
    record {
      capacity = at.capacity;
      maximum = at.maximum;
      limit = at.limit;
      events = at.events ++ (e, goes.answer) ∷ [];
      session = goes.next;
      reaches = record {
        within = at.reaches.within;
        shows = goes.shows;
        run = run_more (initial_session at.capacity at.maximum at.limit) at.session goes.next at.events e goes.answer
            at.reaches.run goes.passes;
      };
    }

pub follows_from : (old now new : SessionView) (e : spec.Event) (r : Outcome) → old ≡ now → Follows old new e r
    → Follows now new e r
follows_from old now new e r same follows = subst (λ (s : SessionView). Follows s new e r) same follows

pub stays_from : (old now : SessionView) (e : spec.Event) (r : Outcome) → old ≡ now → Follows old old e r
    → Follows now now e r
stays_from old now e r same follows = subst (λ (s : SessionView). Follows s s e r) same follows

-- ---- what is kept fits memory

abbrev FitBlocks : List (ℕ × StoredStream) → Type 0
FitBlocks streams = (number : ℕ) → AllByRecursion (λ b. length b.bytes < 2 ^ 63) (stream_at streams number).blocks

pub record Fits (s : SessionView) : Type 0 where
  pub encoder_stream : length s.encoder_stream < 2 ^ 63
  pub blocks : FitBlocks s.streams

stored_fit : (bs : List KeptBlock) → AllByRecursion (λ b. length b.bytes < 2 ^ 63) bs
    → AllByRecursion (λ b. length b.bytes < 2 ^ 63) (map stored_block bs)
stored_fit [] h = tt
stored_fit (b ∷ bs) h = (h.0, stored_fit bs h.1)

kept_fit : (bs : List KeptBlock) → AllByRecursion (λ b. length b.bytes < 2 ^ 63) (map stored_block bs)
    → AllByRecursion (λ b. length b.bytes < 2 ^ 63) bs
kept_fit [] h = tt
kept_fit (b ∷ bs) h = (h.0, kept_fit bs h.1)

fits_shown : (s : SessionView) (v : Session) → Shows s v → FitsMemory v → Fits s
fits_shown s v shows fits =
    record {
      encoder_stream = subst (λ (l : List ℕ). length l < 2 ^ 63) shows.encoder_stream fits.encoder_stream_fits;
      blocks = λ number.
          subst (λ (k : StoredStream). AllByRecursion (λ b. length b.bytes < 2 ^ 63) k.blocks)
          (sym (shows.streams number)) (stored_fit (stream_at v.streams number).blocks (fits.blocks_fit number));
    }

shown_fits : (s : SessionView) (v : Session) → Shows s v → Fits s → FitsMemory v
shown_fits s v shows fits =
    record {
      encoder_stream_fits = subst (λ (l : List ℕ). length l < 2 ^ 63) (sym shows.encoder_stream) fits.encoder_stream;
      blocks_fit = λ number.
          kept_fit (stream_at v.streams number).blocks
          (subst (λ (k : StoredStream). AllByRecursion (λ b. length b.bytes < 2 ^ 63) k.blocks)
          (shows.streams number) (fits.blocks number));
    }

run_fits : (v w : Session) (events : List (spec.Event × spec.Outcome)) → FitsMemory v → Run v events w → FitsMemory w
run_fits v w [] fits r = subst (λ (u : Session). FitsMemory u) r fits
run_fits v w (p ∷ ps) fits r = run_fits r.0 w ps r.1.fits r.2

initial_fits : (capacity maximum limit : ℕ) → FitsMemory (initial_session capacity maximum limit)
initial_fits capacity maximum limit = record { encoder_stream_fits = omega arith; blocks_fit = λ number. tt }

pub fits_reached : (s : SessionView) → IsReached s → Fits s
fits_reached s at =
    fits_shown s at.session at.reaches.shows
    (run_fits (initial_session at.capacity at.maximum at.limit) at.session at.events
    (initial_fits at.capacity at.maximum at.limit)
    at.reaches.run)

-- with one stream changed, if its blocks do
pub fits_changed : (old new : List (ℕ × StoredStream)) (number : ℕ) (k : StoredStream)
    → AllByRecursion (λ b. length b.bytes < 2 ^ 63) k.blocks → ChangesStream number k old new → FitBlocks old
    → FitBlocks new
fits_changed old new number k fit changes fits q =
    subst (λ (x : StoredStream). AllByRecursion (λ b. length b.bytes < 2 ^ 63) x.blocks) (sym (changes q))
    (cond_both (nat_eq number q) k (stream_at old q)
    (λ (x : StoredStream). AllByRecursion (λ b. length b.bytes < 2 ^ 63) x.blocks) (λ t. fit) (λ f. fits q))

pub fits_kept : (old new : List (ℕ × StoredStream)) → KeepsStreams old new → FitBlocks old → FitBlocks new
fits_kept old new keeps fits q =
    subst (λ (x : StoredStream). AllByRecursion (λ b. length b.bytes < 2 ^ 63) x.blocks) (sym (keeps q)) (fits q)

-- ---- both streams are in order

pub record IsOrderedView (s : SessionView) : Type 0 where
  pub encoder_stream_taken : s.encoder_stream_taken ≤ s.encoder_stream_delivered
  pub encoder_stream_delivered : s.encoder_stream_delivered ≤ length s.encoder_stream
  pub decoder_stream_taken : s.decoder_stream_taken ≤ s.decoder_stream_delivered
  pub decoder_stream_delivered : s.decoder_stream_delivered ≤ length s.decoder_stream

pub ordered_reached : (s : SessionView) → IsReached s → IsOrderedView s
ordered_reached s at =
    let safe = sessions_safe at.capacity at.maximum at.limit at.reaches.within at.events at.session at.reaches.run in
    let o = safe.follows.ordered in
    let h = at.reaches.shows in
    let e = ap (λ (l : List ℕ). length l) h.encoder_stream in
    let d = ap (λ (l : List ℕ). length l) h.decoder_stream in
    record {
      encoder_stream_taken =
          omega (arith, o.encoder_stream_taken, h.encoder_stream_taken, h.encoder_stream_delivered);
      encoder_stream_delivered = omega (arith, o.encoder_stream_delivered, h.encoder_stream_delivered, e);
      decoder_stream_taken =
          omega (arith, o.decoder_stream_taken, h.decoder_stream_taken, h.decoder_stream_delivered);
      decoder_stream_delivered = omega (arith, o.decoder_stream_delivered, h.decoder_stream_delivered, d);
    }

-- ---- streams

either_stored : (b : Bool) (k x : StoredStream) (kv y : KeptStream) → k ≡ stored_stream kv → x ≡ stored_stream y
    → (if b then k else x) ≡ stored_stream (if b then kv else y)
either_stored true k x kv y e f = e
either_stored false k x kv y e f = f

-- one stream is changed as the definition changes it
pub shows_changed : (old new : List (ℕ × StoredStream)) (streams : List (ℕ × KeptStream)) (number : ℕ)
    (k : StoredStream) (kept : KeptStream) → k ≡ stored_stream kept → ChangesStream number k old new
    → ((q : ℕ) → stream_at old q ≡ stored_stream (stream_at streams q))
    → (q : ℕ) → stream_at new q ≡ stored_stream (stream_at (with_stream streams number kept) q)
shows_changed old new streams number k kept e changes shows q =
    changes q ∙ either_stored (nat_eq number q) k (stream_at old q) kept (stream_at streams q) e (shows q)

-- ---- what is skipped

one_more : (test : Bool) (x : StoredBlock) (y : KeptBlock) (xs : List StoredBlock) (ys : List KeptBlock)
    → length xs ≡ length ys → length (if test then x ∷ xs else xs) ≡ length (if test then y ∷ ys else ys)
one_more true x y xs ys e = ap (λ (m : ℕ). suc m) e
one_more false x y xs ys e = e

requiring_stored : (n : ℕ) (bs : List KeptBlock)
    → length (filter stored_requires_entry (take n (map stored_block bs))) ≡ length (filter requires_entry (take n bs))
requiring_stored zero bs = refl
requiring_stored (suc n) [] = refl
requiring_stored (suc n) (b ∷ bs) =
    let more = requiring_stored n bs in
    one_more (stored_requires_entry (stored_block b)) (stored_block b) b
    (filter stored_requires_entry (take n (map stored_block bs))) (filter requires_entry (take n bs)) more

awaits_stored : (k : KeptStream)
    → awaits_acknowledgment stored_requires_entry (stored_stream k) ≡ awaits_acknowledgment requires_entry k
awaits_stored k = ap (λ (m : ℕ). nat_lt k.acknowledged m) (requiring_stored k.decoded k.blocks)

pub decode_skips : (s : SessionView) (v : Session) (number : ℕ) → Shows s v
    → skip_reason v (spec.Decode number) ≡ decode_skip s.streams number
unfolding skip_reason
decode_skips s v number shows =
    let kept = stream_at v.streams number in
    sym (ap (λ (k : StoredStream). stored_skip number k (nat_lt k.decoded (length k.blocks)) 2) (shows.streams number)
    ∙ ap (λ (m : ℕ). stored_skip number (stored_stream kept) (nat_lt kept.decoded m) 2)
    (length-map kept.blocks stored_block))

pub acknowledgment_skips : (s : SessionView) (v : Session) (number : ℕ) → Shows s v
    → skip_reason v (spec.Acknowledge number) ≡ acknowledgment_skip s.streams number
unfolding skip_reason
acknowledgment_skips s v number shows =
    let kept = stream_at v.streams number in
    sym (ap (λ (k : StoredStream). stored_skip number k (awaits_acknowledgment stored_requires_entry k) 4)
    (shows.streams number)
    ∙ ap (λ (b : Bool). stored_skip number (stored_stream kept) b 4) (awaits_stored kept))

pub cancellation_skips : (s : SessionView) (v : Session) (number : ℕ) → Shows s v
    → skip_reason v (spec.Cancel number) ≡ cancellation_skip s.streams number
unfolding skip_reason
cancellation_skips s v number shows =
    sym (ap (λ (k : StoredStream). stored_skip number k true 0) (shows.streams number))

-- an event that is skipped changes nothing
pub skipped : (s : SessionView) (e : spec.Event) (reason : ℕ) → IsReached s → IsByteEvent e
    → ((v : Session) → Shows s v → skip_reason v e ≡ Some reason) → Follows s s e (outcome.Skipped reason)
skipped s e reason at bytes is v shows =
    record {
      answer = spec.Skipped reason;
      next = v;
      answers = refl;
      kind = tt;
      shows = shows;
      passes = record {
        has_bytes = bytes;
        goes = inl (record { reason = reason; is_reason = is v shows; answers = refl; stays = refl });
        fits = shown_fits s v shows (fits_reached s at);
      };
    }

-- an event that is lawful goes
pub lawful : (new : SessionView) (e : spec.Event) (r : Outcome) (v : Session) (o : spec.Outcome) (v' : Session)
    → Answers r o → Shows new v' → IsAnswerTo e r → IsByteEvent e → skip_reason v e ≡ None → LawfulStep v e o v'
    → Fits new
    → Goes new e r v
lawful new e r v o v' answers shows kind bytes is step fits =
    record {
      answer = o;
      next = v';
      answers = answers;
      kind = kind;
      shows = shows;
      passes = record { has_bytes = bytes; goes = inr (is, step); fits = shown_fits new v' shows fits };
    }

-- ---- the headline

-- behind an event that goes, what the session theorem says holds
pub keeps : (P : ℕ → ℕ → ℕ → List (spec.Event × spec.Outcome) → Session → Type 0)
    → ((capacity maximum limit : ℕ) (events : List (spec.Event × spec.Outcome)) (v : Session)
    → IsSafe capacity maximum limit events v → P capacity maximum limit events v)
    → (old new : SessionView) (e : spec.Event) (r : Outcome) → Follows old new e r → Keeps old new e r P
keeps P part old new e r follows capacity maximum limit events v reaches =
    let goes = follows v reaches.shows in
    let run = run_more (initial_session capacity maximum limit) v goes.next events e goes.answer reaches.run
    goes.passes in
    record {
      answer = goes.answer;
      next = goes.next;
      answers = goes.answers;
      reaches = record { within = reaches.within; shows = goes.shows; run = run };
      holds = part capacity maximum limit (events ++ (e, goes.answer) ∷ []) goes.next
          (sessions_safe capacity maximum limit reaches.within (events ++ (e, goes.answer) ∷ []) goes.next run);
    }
