-- The decoding end gives the fields of a section that a lawful encoder wrote, piece for piece.
use Rattle.std.proofs.Common.{◌≡◌, ◌<◌, ◌≤◌, ◌+◌, ◌^◌, ◌⊎◌, ℕ, Bool, true, false, List, [], ◌∷◌, ◌++◌, length, drop}
use Rattle.std.proofs.Common.{Option, Some, None, Result, Ok, Err, refl, sym, ap, subst, ◌∙◌, arith, inl, inr, length-append}
use Rattle.std.specs.Prelude.{⊤}
use Rattle.qpack_spec.specs.Field.{FieldLine, fields_of_lines, total_size}
use Rattle.qpack_spec.specs.StrictReading.{strict_reading}
use Rattle.qpack_spec.specs.Table.{insert_count, window}
use Rattle.qpack_spec.specs.Window.{Window}
use Rattle.qpack_shared.specs.declared.streams.BlockedStream.{BlockedStream}
use Rattle.qpack_decoding.specs.declared.decoder.DecoderSettings.{DecoderSettings}
use Rattle.qpack_decoding.specs.declared.decoder.DecodingError.{DecodingError}
use Rattle.qpack_decoding.specs.declared.decoder.DecodingError.TheVariants.{EncoderStream, Section, TooManyBlocked}
use Rattle.qpack_decoding.specs.declared.decoder.DecodingError.TheVariants.{NoStream, Memory}
use Rattle.qpack_decoding.specs.declared.section.SectionError.{SectionError}
use Rattle.qpack_decoding.specs.declared.section.SectionError.TheVariants as section
use Rattle.qpack_decoding.specs.declared.section.reader.Progress.{Progress}
use Rattle.qpack_decoding.specs.declared.section.reader.Progress.TheVariants as progress
use Rattle.qpack_decoding.specs.Decoders.{DecodingEnd, blocked_behind, Checks, IsNotAnswered, IsOneTooMany, StopsBlocking}
use Rattle.qpack_decoding.specs.Decoders.{StopsBehindReport}
use Rattle.qpack_decoding.specs.PieceDecoders.{ReadsPiece, ReadsAs, Follows, StopsPiece, Unfollowed, begun_after}
use Rattle.qpack_decoding.specs.PieceLaws.{LeavesReading}
use Rattle.qpack_decoding.specs.Pieces.{ReaderView, Next, ReadsOn, next_of}
use Rattle.qpack_decoding.specs.Pieces as pieces
use Rattle.qpack_decoding.proofs.BlockedStreams.{once_with}
use Rattle.qpack_decoding.proofs.SectionParts.{count_is}
use Rattle.qpack_connection.specs.Connections.{SentSection}
use Rattle.qpack_connection.specs.LawfulEncoders.{Decoder, Coming, after_piece, AnswersPiece}
use Rattle.qpack_connection.specs.RefinedDecodes.{MayWait}
use Rattle.qpack_connection.proofs.ComingSections.{ReadsWhole, Goes, Leaves, Says, leaves, left_coming, goes_after}
use Rattle.qpack_connection.proofs.ComingSections as coming
use Rattle.qpack_connection.proofs.UnderstoodEncoders.{Stays, stays_as, stays_acknowledged, stays_told, stays_still}

-- ---- what a call gives

none_of : (front behind : List ℕ) → front ++ behind ≡ [] → behind ≡ []
none_of [] behind e = e
none_of (x ∷ front) behind e = absurd cc

answered : (d : DecodingEnd) (s limit : ℕ) (c : Coming) (bytes left more : List ℕ) (last : Bool) (fields : List FieldLine)
    (p : Progress) (next : Next) (read : ReaderView) → (last ≡ true → more ≡ [])
    → Leaves limit c (window d.table) bytes more last next
    → pieces.Answers next c.reader read (c.reader.pending ++ bytes) bytes left fields (Ok p)
    → AnswersPiece d s c more left last fields (Ok p)
answered d s limit c bytes left more last fields progress.Waits pieces.More read ends l h = (h.2, h.1, l.says)
answered d s limit c bytes left more last fields progress.Waits (pieces.Opens q) read ends l h = absurd h
answered d s limit c bytes left more last fields progress.Waits (pieces.Stays many) read ends l h = absurd h
answered d s limit c bytes left more last fields progress.Waits (pieces.Gives f rest) read ends l h = absurd h
answered d s limit c bytes left more last fields progress.Waits (pieces.Over many) read ends l h = absurd h
answered d s limit c bytes left more last fields progress.Waits (pieces.Fails fault) read ends l h = absurd h
answered d s limit c bytes left more last fields (progress.Prefix required) pieces.More read ends l h = absurd h
answered d s limit c bytes left more last fields (progress.Prefix required) (pieces.Opens q) read ends l h = (h.3, h.0 ∙ l.here.0)
answered d s limit c bytes left more last fields (progress.Prefix required) (pieces.Stays many) read ends l h = absurd h
answered d s limit c bytes left more last fields (progress.Prefix required) (pieces.Gives f rest) read ends l h = absurd h
answered d s limit c bytes left more last fields (progress.Prefix required) (pieces.Over many) read ends l h = absurd h
answered d s limit c bytes left more last fields (progress.Prefix required) (pieces.Fails fault) read ends l h = absurd h
answered d s limit c bytes left more last fields (progress.Blocked required) pieces.More read ends l h = absurd h
answered d s limit c bytes left more last fields (progress.Blocked required) (pieces.Opens q) read ends l h = absurd h
answered d s limit c bytes left more last fields (progress.Blocked required) (pieces.Stays many) read ends l h = (h.3, h.0 ∙ l.here, omega (arith, l.says, l.here, count_is d.table))
answered d s limit c bytes left more last fields (progress.Blocked required) (pieces.Gives f rest) read ends l h = absurd h
answered d s limit c bytes left more last fields (progress.Blocked required) (pieces.Over many) read ends l h = absurd h
answered d s limit c bytes left more last fields (progress.Blocked required) (pieces.Fails fault) read ends l h = absurd h
answered d s limit c bytes left more last fields progress.Field pieces.More read ends l h = absurd h
answered d s limit c bytes left more last fields progress.Field (pieces.Opens q) read ends l h = absurd h
answered d s limit c bytes left more last fields progress.Field (pieces.Stays many) read ends l h = absurd h
answered d s limit c bytes left more last fields progress.Field (pieces.Gives f rest) read ends l h = (f, l.here.0, h.3, l.here.1)
answered d s limit c bytes left more last fields progress.Field (pieces.Over many) read ends l h = absurd h
answered d s limit c bytes left more last fields progress.Field (pieces.Fails fault) read ends l h = absurd h
answered d s limit c bytes left more last fields (progress.Ends required) pieces.More read ends l h = absurd h
answered d s limit c bytes left more last fields (progress.Ends required) (pieces.Opens q) read ends l h = absurd h
answered d s limit c bytes left more last fields (progress.Ends required) (pieces.Stays many) read ends l h = absurd h
answered d s limit c bytes left more last fields (progress.Ends required) (pieces.Gives f rest) read ends l h = absurd h
answered d s limit c bytes left more last fields (progress.Ends required) (pieces.Over many) read ends l h = (
  h.3,
  l.here.0,
  ap (λ (x : List ℕ). x ++ more) (h.2 ∙ none_of c.reader.pending bytes l.says.2) ∙ ends l.says.1,
  h.0 ∙ l.here.1,
  omega (arith, l.says.0, l.here.1, count_is d.table),
)
answered d s limit c bytes left more last fields (progress.Ends required) (pieces.Fails fault) read ends l h = absurd h

-- ---- a section that is not read on

-- no error of the section
not_refused : (limit : ℕ) (c : Coming) (w : Window) (bytes left more : List ℕ) (last : Bool) (fields : List FieldLine)
    (e : SectionError) (next : Next) (read : ReaderView) → (e ≡ section.Memory → ⊥) → Leaves limit c w bytes more last next
    → pieces.Answers next c.reader read (c.reader.pending ++ bytes) bytes left fields (Err e) → ⊥
not_refused limit c w bytes left more last fields section.TooLong pieces.More read some l h = h
not_refused limit c w bytes left more last fields section.TooLong (pieces.Opens q) read some l h = h
not_refused limit c w bytes left more last fields section.TooLong (pieces.Stays many) read some l h = h
not_refused limit c w bytes left more last fields section.TooLong (pieces.Gives f rest) read some l h = h
not_refused limit c w bytes left more last fields section.TooLong (pieces.Over many) read some l h = h
not_refused limit c w bytes left more last fields section.TooLong (pieces.Fails fault) read some l h = l.here
not_refused limit c w bytes left more last fields (section.Prefix d) pieces.More read some l h = h
not_refused limit c w bytes left more last fields (section.Prefix d) (pieces.Opens q) read some l h = h
not_refused limit c w bytes left more last fields (section.Prefix d) (pieces.Stays many) read some l h = h
not_refused limit c w bytes left more last fields (section.Prefix d) (pieces.Gives f rest) read some l h = h
not_refused limit c w bytes left more last fields (section.Prefix d) (pieces.Over many) read some l h = h
not_refused limit c w bytes left more last fields (section.Prefix d) (pieces.Fails fault) read some l h = l.here
not_refused limit c w bytes left more last fields section.CountAtZero pieces.More read some l h = h
not_refused limit c w bytes left more last fields section.CountAtZero (pieces.Opens q) read some l h = h
not_refused limit c w bytes left more last fields section.CountAtZero (pieces.Stays many) read some l h = h
not_refused limit c w bytes left more last fields section.CountAtZero (pieces.Gives f rest) read some l h = h
not_refused limit c w bytes left more last fields section.CountAtZero (pieces.Over many) read some l h = h
not_refused limit c w bytes left more last fields section.CountAtZero (pieces.Fails fault) read some l h = l.here
not_refused limit c w bytes left more last fields (section.Line number offset d) pieces.More read some l h = h
not_refused limit c w bytes left more last fields (section.Line number offset d) (pieces.Opens q) read some l h = h
not_refused limit c w bytes left more last fields (section.Line number offset d) (pieces.Stays many) read some l h = h
not_refused limit c w bytes left more last fields (section.Line number offset d) (pieces.Gives f rest) read some l h = h
not_refused limit c w bytes left more last fields (section.Line number offset d) (pieces.Over many) read some l h = h
not_refused limit c w bytes left more last fields (section.Line number offset d) (pieces.Fails fault) read some l h = l.here
not_refused limit c w bytes left more last fields section.Memory next read some l h = some refl

-- what was to come to pass, and did not, has read nothing
record ReadNothing (c : Coming) (read : ReaderView) (bytes left : List ℕ) (fields : List FieldLine) : Type 0 where
  pub same : read ≡ c.reader
  pub at : left ≡ bytes
  pub none : fields ≡ []

blocked_read : (c : Coming) (read : ReaderView) (bytes left : List ℕ) (fields : List FieldLine) (required : ℕ) (next : Next)
    → pieces.Answers next c.reader read (c.reader.pending ++ bytes) bytes left fields (Ok (progress.Blocked required))
    → ReadNothing c read bytes left fields
blocked_read c read bytes left fields required pieces.More h = absurd h
blocked_read c read bytes left fields required (pieces.Opens q) h = absurd h
blocked_read c read bytes left fields required (pieces.Stays many) h = record { same = h.1; at = h.2; none = h.3 }
blocked_read c read bytes left fields required (pieces.Gives f rest) h = absurd h
blocked_read c read bytes left fields required (pieces.Over many) h = absurd h
blocked_read c read bytes left fields required (pieces.Fails fault) h = absurd h

ended_read : (c : Coming) (read : ReaderView) (bytes left : List ℕ) (fields : List FieldLine) (required : ℕ) (next : Next)
    → pieces.Answers next c.reader read (c.reader.pending ++ bytes) bytes left fields (Ok (progress.Ends required))
    → ReadNothing c read bytes left fields
ended_read c read bytes left fields required pieces.More h = absurd h
ended_read c read bytes left fields required (pieces.Opens q) h = absurd h
ended_read c read bytes left fields required (pieces.Stays many) h = absurd h
ended_read c read bytes left fields required (pieces.Gives f rest) h = absurd h
ended_read c read bytes left fields required (pieces.Over many) h = record { same = h.1; at = h.2; none = h.3 }
ended_read c read bytes left fields required (pieces.Fails fault) h = absurd h

-- ---- a call

-- what a call gives, the end after it, and what is still to come
pub record PieceDone (settings : DecoderSettings) (x y : Decoder) (s : ℕ) (c : Coming) (reader : ReaderView)
    (bytes left more : List ℕ) (last : Bool) (fields : List FieldLine) (answer : Result Progress DecodingError) :
    Type 0 where
  pub answers : AnswersPiece x.end s c more left last fields answer
  pub stays : Stays settings y
  pub goes : (d : Coming) → after_piece c reader bytes left fields answer ≡ Some d
      → Goes settings.max_section_size s d

goes_is : (limit s : ℕ) (c d : Coming) → Goes limit s c → (let x : Option Coming = Some c in x ≡ Some d) → Goes limit s d
goes_is limit s c d k e = subst (λ (x : Coming). Goes limit s x) (let same : c ≡ d = cc in same) k

pub piece_done : (settings : DecoderSettings) (x y : Decoder) (s : ℕ) (c : Coming) (reader : ReaderView)
    (bytes left more : List ℕ) (last : Bool) (fields : List FieldLine) (answer : Result Progress DecodingError)
    → Stays settings x → Goes settings.max_section_size s c → y.come ≡ x.come → length c.sent.bytes < 2 ^ 64
    → ReadsWhole (window x.end.table) settings.max_section_size c.sent → MayWait x.end s c.sent → c.rest ≡ bytes ++ more
    → (last ≡ true → more ≡ []) → ReadsPiece x.end y.end last c.reader reader bytes left fields answer
    → PieceDone settings x y s c reader bytes left more last fields answer
piece_done settings x y s c reader bytes left more last fields answer k g come short whole may cut ends call =
    by_answer answer call
  where
    limit : ℕ
    limit = settings.max_section_size

    w : Window
    w = window x.end.table

    next : Next
    next = next_of w limit last c.reader (c.reader.pending ++ bytes)

    l : Leaves limit c w bytes more last next
    l = leaves limit s c w bytes more last g short whole cut ends

    given : (read : ReaderView) (r : Result Progress SectionError) → ReadsAs x.end last c.reader read bytes left fields r
        → pieces.Answers next c.reader read (c.reader.pending ++ bytes) bytes left fields r
    given read r h =
        subst (λ (o : Option SectionError). ReadsOn w limit last c.reader read bytes left fields r o) g.live
        (subst (λ (d : DecoderSettings). ReadsOn w d.max_section_size last c.reader read bytes left fields r
        c.reader.failure) k.settings_are h.is)

    followed : (p : Progress) → Follows x.end y.end c.reader.stream p (Ok tt) → Stays settings y
    followed progress.Waits f = stays_acknowledged settings x y c.reader.stream 0 k come f
    followed (progress.Prefix required) f = stays_acknowledged settings x y c.reader.stream 0 k come f
    followed progress.Field f = stays_acknowledged settings x y c.reader.stream 0 k come f
    followed (progress.Blocked required) f =
        stays_as settings x y (blocked_behind c.reader.stream required x.end) k f.1 come refl refl refl refl k.told
        (once_with (record { stream = c.reader.stream; required = required }) x.end.blocked k.once)
    followed (progress.Ends required) f = stays_acknowledged settings x y c.reader.stream required k come f

    -- it goes on, where the reader is that which was read
    read_on : (p : Progress) (read : ReaderView) → ((required : ℕ) → p ≡ progress.Ends required → ⊥)
        → begun_after p read ≡ read → after_piece c reader bytes left fields (Ok p) ≡ Some (left_coming c reader bytes left fields)
        → ReadsAs x.end last c.reader read bytes left fields (Ok p) → Follows x.end y.end c.reader.stream p (Ok tt)
        → reader ≡ begun_after p read → PieceDone settings x y s c reader bytes left more last fields (Ok p)
    read_on p read going still behind given_as follows is =
        let h = given read (Ok p) given_as in
        record {
          answers = answered x.end s limit c bytes left more last fields p next read ends l h;
          stays = followed p follows;
          goes = λ d e.
              goes_is limit s (left_coming c reader bytes left fields) d
              (subst (λ (r : ReaderView). Goes limit s (left_coming c r bytes left fields)) (sym (is ∙ still))
              (goes_after limit s c w read bytes left more last fields p next g cut l h going)) (sym behind ∙ e);
        }

    -- nothing was read, and the end is one that stays
    nothing : (e : DecodingError) → AnswersPiece x.end s c more left last fields (Err e) → Stays settings y
        → ReadNothing c reader bytes left fields → PieceDone settings x y s c reader bytes left more last fields (Err e)
    nothing e answers stays n =
        record {
          answers = answers;
          stays = stays;
          goes = λ d is.
              goes_is limit s (left_coming c reader bytes left fields) d
              (coming.stays limit s c reader bytes left more fields g cut n.same n.at n.none) is;
        }

    by_blocked : (e : DecodingError) (required : ℕ)
        → pieces.Answers next c.reader reader (c.reader.pending ++ bytes) bytes left fields (Ok (progress.Blocked required))
        → StopsBlocking x.end y.end (record { stream = c.reader.stream; required = required }) e
        → PieceDone settings x y s c reader bytes left more last fields (Err e)
    by_blocked Memory required h f =
        let n = blocked_read c reader bytes left fields required next h in
        nothing Memory n.none (stays_still settings x y k come f.0) n
    by_blocked (TooManyBlocked q) required h f =
        absurd (may (answered x.end s limit c bytes left more last fields (progress.Blocked required) next reader ends l h).2
        (subst (λ (n : ℕ). IsOneTooMany x.end n) g.of_stream f.1))
    by_blocked (EncoderStream place f) required h stops = absurd stops
    by_blocked (Section q f) required h stops = absurd stops
    by_blocked (NoStream q) required h stops = absurd stops

    by_acknowledged : (required : ℕ)
        → pieces.Answers next c.reader reader (c.reader.pending ++ bytes) bytes left fields (Ok (progress.Ends required))
        → StopsBehindReport x.end y.end required
        → PieceDone settings x y s c reader bytes left more last fields (Err Memory)
    by_acknowledged required h (inl same) =
        let n = ended_read c reader bytes left fields required next h in
        nothing Memory n.none (stays_still settings x y k come same) n
    by_acknowledged required h (inr (fewer, told)) =
        let n = ended_read c reader bytes left fields required next h in
        nothing Memory n.none (stays_told settings x y k come told) n

    stopped : (e : DecodingError) (p : Progress) → ReadsAs x.end last c.reader reader bytes left fields (Ok p)
        → Follows x.end y.end c.reader.stream p (Err e)
        → PieceDone settings x y s c reader bytes left more last fields (Err e)
    stopped e progress.Waits given_as f = absurd f
    stopped e (progress.Prefix required) given_as f = absurd f
    stopped e progress.Field given_as f = absurd f
    stopped e (progress.Blocked required) given_as f =
        by_blocked e required (given reader (Ok (progress.Blocked required)) given_as) f
    stopped e (progress.Ends required) given_as f =
        subst (λ (z : DecodingError). PieceDone settings x y s c reader bytes left more last fields (Err z)) (sym f.0)
        (by_acknowledged required (given reader (Ok (progress.Ends required)) given_as) f.2)

    by_error : (e : DecodingError) → StopsPiece x.end y.end last c.reader reader bytes left fields e
        → PieceDone settings x y s c reader bytes left more last fields (Err e)
    by_error (Section q f) stops =
        absurd (not_refused limit c w bytes left more last fields f next reader stops.3 l (given reader (Err f) stops.1))
    by_error Memory (inl (same, is, at, none)) =
        nothing Memory none (stays_still settings x y k come same) (record { same = is; at = at; none = none })
    by_error Memory (inr u) = stopped Memory u.progress u.reads u.follows
    by_error (TooManyBlocked q) u = stopped (TooManyBlocked q) u.progress u.reads u.follows
    by_error (EncoderStream place f) u = stopped (EncoderStream place f) u.progress u.reads u.follows
    by_error (NoStream q) u = stopped (NoStream q) u.progress u.reads u.follows

    by_answer : (a : Result Progress DecodingError) → ReadsPiece x.end y.end last c.reader reader bytes left fields a
        → PieceDone settings x y s c reader bytes left more last fields a
    by_answer (Ok progress.Waits) h =
        read_on progress.Waits h.1.0 (λ required e. cc) refl refl h.1.1 h.1.2 h.1.3
    by_answer (Ok (progress.Prefix n)) h =
        read_on (progress.Prefix n) h.1.0 (λ required e. cc) refl refl h.1.1 h.1.2 h.1.3
    by_answer (Ok (progress.Blocked n)) h =
        read_on (progress.Blocked n) h.1.0 (λ required e. cc) refl refl h.1.1 h.1.2 h.1.3
    by_answer (Ok progress.Field) h =
        read_on progress.Field h.1.0 (λ required e. cc) refl refl h.1.1 h.1.2 h.1.3
    by_answer (Ok (progress.Ends n)) h =
        record {
          answers = answered x.end s limit c bytes left more last fields (progress.Ends n) next h.1.0 ends l
              (given h.1.0 (Ok (progress.Ends n)) h.1.1);
          stays = followed (progress.Ends n) h.1.2;
          goes = λ d e. cc;
        }
    by_answer (Err e) (inl (not, is, at, none)) = not_answered e not.0 not.1 (record { same = is; at = at; none = none })
      where
        not_answered : (f : DecodingError) → Checks x.end c.reader.stream (Err f) → y.end ≡ x.end
            → ReadNothing c reader bytes left fields
            → PieceDone settings x y s c reader bytes left more last fields (Err f)
        not_answered f (inl ended) same n = absurd (let z = sym k.alive ∙ ended in cc)
        not_answered f (inr number) same n =
            subst (λ (z : DecodingError). PieceDone settings x y s c reader bytes left more last fields (Err z))
            (sym number.2)
            (nothing (NoStream c.reader.stream) (n.none, g.of_stream, omega (arith, number.1, g.of_stream))
            (stays_still settings x y k come same) n)
    by_answer (Err e) (inr (checks, stops)) = by_error e stops
