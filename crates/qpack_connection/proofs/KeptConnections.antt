-- What is kept beside the session by each call of a connection in bytes: the encoder's soundness, and that the streams
-- that the decoder counts as blocked wait with their next sections.
use Rattle.std.proofs.Common.{◌≡◌, ℕ, zero, suc, Bool, true, false, cond, List, [], ◌∷◌, ◌++◌, Option, None, Some}
use Rattle.std.proofs.Common.{Result, Ok, Err, IfSome, refl, sym, ap, subst, ◌∙◌}
use Rattle.std.specs.List.{AllByRecursion}
use Rattle.std.specs.Option.{IsSome}
use Rattle.std.specs.Prelude.{nat_eq, not, slice_get}
use Rattle.std.proofs.lemmas.Bool.{eqb-true}
use Rattle.qpack_rules.specs.Session.{RequestStream, stream_at, with_stream, oldest_undecoded}
use Rattle.qpack_spec.specs.Table.{Table, with_capacity}
use Rattle.qpack_spec.specs.Window.{TableRefusal, DoesNotFit}
use Rattle.qpack_spec.proofs.Lists.{every_weaker}
use Rattle.qpack_shared.specs.declared.streams.BlockedStream.{BlockedStream}
use Rattle.qpack_shared.specs.Streams.{without}
use Rattle.qpack_decoding.specs.Blocked.{with_blocked}
use Rattle.qpack_connection.specs.Connections.{SentSection, Connection}
use Rattle.qpack_encoding.specs.Encoders.{EncodingEnd, IsSound, IsToBeTold, HasReceived, begun, begun_with, code_of}
use Rattle.qpack_encoding.specs.Encoders.{told, told_if, waiting, is_alone, with_section}
use Rattle.qpack_connection.specs.Waiting.{AreOfOneEach, IsNextOf, BlockedAreNext}
use Rattle.qpack_encoding.specs.declared.encoder.EncodingError.{EncodingError}
use Rattle.qpack_decoding.proofs.BlockedStreams.{once_without, once_with, all_with}
use Rattle.qpack_encoding.proofs.Encoders.{told_still, held_within}
use Rattle.qpack_encoding.proofs.LimitedSections.{none_waits, sound_with}
use Rattle.qpack_connection.proofs.WaitingStreams.{apart_swap}

-- ---- the encoder stays sound

pub sound_sent : (e : EncodingEnd) → IsSound e → IsSound (record e { unsent = [] })
sound_sent e k =
    record {
      wanted = told_still e (record e { unsent = [] }) e.wanted refl k.wanted;
      stream = k.stream;
      failure = k.failure;
    }

-- once a capacity is told
sound_told : (old new : EncodingEnd) → IsSound old → new.wanted ≡ None → new.stream ≡ old.stream
    → new.failure ≡ old.failure → IsSound new
sound_told old new k told stream failure =
    record {
      wanted = subst (λ (o : Option ℕ). IfSome o (λ n. IsToBeTold new n)) (sym told) tt;
      stream = λ none. subst HasReceived (sym stream) (k.stream (sym failure ∙ none));
      failure = subst (λ (o : Option EncodingError). IfSome o (λ e. IsSome (code_of e))) (sym failure) k.failure;
    }

told_failure : (n : ℕ) (d : EncodingEnd) (r : Result Table TableRefusal) → (told_if n d r).failure ≡ d.failure
told_failure n d (Ok t) = refl
told_failure n d (Err e) = refl

pub begun_failure : (o : Option ℕ) (d : EncodingEnd) → (begun_with o d).failure ≡ d.failure
begun_failure None d = refl
begun_failure (Some n) d = told_failure n d (with_capacity d.table n)

pub sound_set : (old new : EncodingEnd) → IsSound old → new.wanted ≡ None → new.stream ≡ old.stream
    → new.failure ≡ old.failure → IsSound new
sound_set = sound_told

-- while one waits
pub sound_waiting : (d : EncodingEnd) (n : ℕ) → IsSound d → with_capacity d.table n ≡ Err DoesNotFit
    → IsSound (waiting n d)
sound_waiting d n k held =
    record { wanted = held_within d.table n held; stream = k.stream; failure = k.failure }

-- as a section meets it
sound_if : (n : ℕ) (d : EncodingEnd) (r : Result Table TableRefusal) → IsSound d → IsSound (told_if n d r)
sound_if n d (Ok t) k = sound_told d (told n t d) k refl refl refl
sound_if n d (Err e) k = k

sound_with_any : (o : Option ℕ) (d : EncodingEnd) → IsSound d → IsSound (begun_with o d)
sound_with_any None d k = k
sound_with_any (Some n) d k = sound_if n d (with_capacity d.table n) k

pub sound_begun : (old new : EncodingEnd) → IsSound old → new ≡ begun old → IsSound new
sound_begun old new k is = subst IsSound (sym is) (sound_with_any old.wanted old k)

-- behind a section that may reference entries
pub sound_section : (old new : EncodingEnd) (t : Table) (b : List ℕ) → IsSound old → is_alone (begun old) ≡ false
    → new ≡ with_section t b (begun old) → IsSound new
sound_section old new t b k room is =
    subst IsSound (sym is) (sound_with (begun old) t b (none_waits (begun old) room) (sound_with_any old.wanted old k))

-- ---- what waits, where the decoder counts the same

-- the next section of a stream is the same, and the stream is not cancelled
abbrev pub KeepsNext : Connection → Connection → ℕ → Type 0
KeepsNext old new s =
    ((k : SentSection) → oldest_undecoded (stream_at old.streams s) ≡ Some k
    → oldest_undecoded (stream_at new.streams s) ≡ Some k)
    × ((stream_at old.streams s).cancelled ≡ false → (stream_at new.streams s).cancelled ≡ false)

pub next_kept : (old new : Connection) (b : BlockedStream) → KeepsNext old new b.stream → IsNextOf old b
    → IsNextOf new b
next_kept old new b same n =
    record {
      live = same.1 n.live;
      section = n.section;
      next = same.0 n.section n.next;
      required_is = n.required_is;
    }

pub waiting_same : (old new : Connection) → new.decoder.blocked ≡ old.decoder.blocked
    → ((s : ℕ) → KeepsNext old new s) → BlockedAreNext old → BlockedAreNext new
waiting_same old new is same k =
    record {
      once = subst AreOfOneEach (sym is) k.once;
      next = subst (AllByRecursion (IsNextOf new)) (sym is)
          (every_weaker (IsNextOf old) (IsNextOf new) (λ b. next_kept old new b (same b.stream)) old.decoder.blocked
          k.next);
    }

get_append : (xs ys : List SentSection) (i : ℕ) (x : SentSection) → slice_get xs i ≡ Some x
    → slice_get (xs ++ ys) i ≡ Some x
get_append [] ys i x e = absurd cc
get_append (z ∷ xs) ys zero x e = e
get_append (z ∷ xs) ys (suc i) x e = get_append xs ys i x e

-- a section more
pub next_more : (ps : List (ℕ × RequestStream SentSection)) (s : ℕ) (more : SentSection) (q : ℕ) (k : SentSection)
    → oldest_undecoded (stream_at ps q) ≡ Some k
    → oldest_undecoded (stream_at (with_stream ps s
    (record (stream_at ps s) { blocks = (stream_at ps s).blocks ++ more ∷ [] })) q) ≡ Some k
next_more ps s more q k e = both (nat_eq s q) refl
  where
    both : (t : Bool) → nat_eq s q ≡ t
        → oldest_undecoded (cond t (record (stream_at ps s) { blocks = (stream_at ps s).blocks ++ more ∷ [] })
        (stream_at ps q)) ≡ Some k
    both true same =
        get_append (stream_at ps s).blocks (more ∷ []) (stream_at ps s).decoded k
        (subst (λ (x : ℕ). oldest_undecoded (stream_at ps x) ≡ Some k) (sym (eqb-true s q same)) e)
    both false apart = e

pub live_more : (ps : List (ℕ × RequestStream SentSection)) (s : ℕ) (more : SentSection) (q : ℕ)
    → (stream_at ps q).cancelled ≡ false
    → (stream_at (with_stream ps s (record (stream_at ps s) { blocks = (stream_at ps s).blocks ++ more ∷ [] })) q).cancelled
    ≡ false
live_more ps s more q e = both (nat_eq s q) refl
  where
    both : (t : Bool) → nat_eq s q ≡ t
        → (cond t (record (stream_at ps s) { blocks = (stream_at ps s).blocks ++ more ∷ [] }) (stream_at ps q)).cancelled
        ≡ false
    both true same = subst (λ (x : ℕ). (stream_at ps x).cancelled ≡ false) (sym (eqb-true s q same)) e
    both false apart = e

-- ---- a stream that is counted no more

next_without : (old new : Connection) (s : ℕ) (bs : List BlockedStream)
    → ((q : ℕ) → nat_eq s q ≡ false → stream_at new.streams q ≡ stream_at old.streams q)
    → AllByRecursion (IsNextOf old) bs → AllByRecursion (IsNextOf new) (without s bs)
next_without old new s [] same h = tt
next_without old new s (b ∷ bs) same h = both (nat_eq b.stream s) refl (next_without old new s bs same h.1)
  where
    both : (t : Bool) → nat_eq b.stream s ≡ t → AllByRecursion (IsNextOf new) (without s bs)
        → AllByRecursion (IsNextOf new) (cond (not t) (b ∷ without s bs) (without s bs))
    both true e rest = rest
    both false e rest = (
      next_kept old new b (
        λ k is. ap oldest_undecoded (same b.stream (apart_swap b.stream s e)) ∙ is,
        λ live. ap (λ (x : RequestStream SentSection). x.cancelled) (same b.stream (apart_swap b.stream s e)) ∙ live,
      ) h.0,
      rest,
    )

pub waiting_without : (old new : Connection) (s : ℕ) → new.decoder.blocked ≡ without s old.decoder.blocked
    → ((q : ℕ) → nat_eq s q ≡ false → stream_at new.streams q ≡ stream_at old.streams q) → BlockedAreNext old
    → BlockedAreNext new
waiting_without old new s is same k =
    record {
      once = subst AreOfOneEach (sym is) (once_without s old.decoder.blocked k.once);
      next = subst (AllByRecursion (IsNextOf new)) (sym is) (next_without old new s old.decoder.blocked same k.next);
    }

-- a stream of which another part changed, seen from the others
pub others_same : (ps : List (ℕ × RequestStream SentSection)) (s : ℕ) (v : RequestStream SentSection) (q : ℕ)
    → nat_eq s q ≡ false → stream_at (with_stream ps s v) q ≡ stream_at ps q
others_same ps s v q apart = rw apart refl

-- ---- a stream that comes to be counted

pub waiting_with : (old new : Connection) (b : BlockedStream) → new.decoder.blocked ≡ with_blocked b old.decoder.blocked
    → new.streams ≡ old.streams → IsNextOf old b → BlockedAreNext old → BlockedAreNext new
waiting_with old new b is same n k =
    let kept : (x : BlockedStream) → IsNextOf old x → IsNextOf new x =
    λ x h. next_kept old new x (
      λ s e. ap (λ (ps : List (ℕ × RequestStream SentSection)). oldest_undecoded (stream_at ps x.stream)) same ∙ e,
      λ live. ap (λ (ps : List (ℕ × RequestStream SentSection)). (stream_at ps x.stream).cancelled) same ∙ live,
    ) h in
    record {
      once = subst AreOfOneEach (sym is) (once_with b old.decoder.blocked k.once);
      next = subst (AllByRecursion (IsNextOf new)) (sym is)
          (all_with (IsNextOf new) b old.decoder.blocked (kept b n)
          (every_weaker (IsNextOf old) (IsNextOf new) kept old.decoder.blocked k.next));
    }
