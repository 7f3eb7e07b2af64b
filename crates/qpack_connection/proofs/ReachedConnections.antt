-- Connections that calls lead to: what is kept of them, and how a call of one is a call of each that it shows.
use Rattle.std.proofs.Common.{◌≡◌, ◌<◌, ◌^◌, ◌+◌, ◌-◌, ℕ, Bool, true, false, cond, List, [], ◌∷◌, ◌++◌}
use Rattle.std.proofs.Common.{length, Ok, Err, refl, sym, ap, subst, ◌∙◌}
use Rattle.std.specs.Prelude.{nat_eq, nat_lt}
use Rattle.qpack_rules.specs.Session.{RequestStream, stream_at, with_stream, oldest_undecoded}
use Rattle.qpack_safety.specs.TwoEnds.{EndStep}
use Rattle.qpack_codec.specs.RequestStreams.{KeepsStreams}
use Rattle.qpack_decoding.specs.declared.section.Reading.TheVariants as reading
use Rattle.qpack_connection.specs.ConnectionEvents.{Shows, IsReached}
use Rattle.qpack_connection.specs.Connections.{Wire, SentSection, Connection, Call, Encode, SetCapacity, Shrink, Hear}
use Rattle.qpack_connection.specs.Connections.{Receive, Decode, Cancel, Step, Run, with_encoder, with_decoder}
use Rattle.qpack_connection.specs.Connections.{with_section, with_reading, with_cancelled, behind_received, next_of}
use Rattle.qpack_decoding.specs.Decoders.{DecodingEnd}
use Rattle.qpack_encoding.specs.Encoders.{EncodingEnd}
use Rattle.qpack_connection.specs.RefinedConnections.{RefinesSession, RefinesStream}
use Rattle.qpack_connection.specs.TwoEndsHeadline.{Fits, AllFit}
use Rattle.qpack_connection.proofs.KeptConnections.{waiting_same}
use Rattle.qpack_connection.proofs.KeptEncoderCalls.{IsKept}
use Rattle.qpack_connection.proofs.TwoEndsHeadline.{step_kept, new_kept}

-- ---- what is shown

pub shows_itself : (c : Connection) → Shows c c
shows_itself c =
    record { encoder = refl; decoder = refl; encoder_stream = refl; decoder_stream = refl; streams = λ n. refl }

pub shows_through : (a b c : Connection) → Shows a b → Shows b c → Shows a c
shows_through a b c h k =
    record {
      encoder = k.encoder ∙ h.encoder;
      decoder = k.decoder ∙ h.decoder;
      encoder_stream = k.encoder_stream ∙ h.encoder_stream;
      decoder_stream = k.decoder_stream ∙ h.decoder_stream;
      streams = λ n. k.streams n ∙ h.streams n;
    }

-- the connection with its streams laid out otherwise
abbrev pub laid_out : List (ℕ × RequestStream SentSection) → Connection → Connection
laid_out streams c = record c { streams = streams }

pub shown_is : (s c : Connection) → Shows s c → c ≡ laid_out c.streams s
shown_is s c h =
    ap (λ (x : EncodingEnd). let y : Connection = record c { encoder = x } in y) h.encoder
    ∙ ap (λ (x : DecodingEnd). let y : Connection = record c { encoder = s.encoder; decoder = x } in y) h.decoder
    ∙ ap (λ (x : Wire). let y : Connection = record c {
      encoder = s.encoder;
      decoder = s.decoder;
      encoder_stream = x;
    } in y) h.encoder_stream
    ∙ ap (λ (x : Wire). let y : Connection = record s { decoder_stream = x; streams = c.streams } in y) h.decoder_stream

-- ---- what is kept

-- a connection of which all is kept, as some steps of a session in values make it
pub record Holds (most : ℕ) (c : Connection) : Type 0 where
  pub maximum : ℕ
  pub limit : ℕ
  pub steps : List EndStep
  pub kept : IsKept maximum limit most c steps

refines_shown : (maximum : ℕ) (s : Connection) (ps : List (ℕ × RequestStream SentSection)) (w : _)
    → KeepsStreams s.streams ps → RefinesSession maximum (laid_out ps s) w → RefinesSession maximum s w
refines_shown maximum s ps w keeps k =
    record {
      under_way = k.under_way;
      thins = k.thins;
      encoder_is = k.encoder_is;
      decoder_is = k.decoder_is;
      reported_is = k.reported_is;
      encoder_sent = k.encoder_sent;
      decoder_sent = k.decoder_sent;
      encoder_stream = k.encoder_stream;
      encoder_stream_order = k.encoder_stream_order;
      received = k.received;
      taken_are = k.taken_are;
      heard = k.heard;
      decoder_stream = k.decoder_stream;
      decoder_stream_order = k.decoder_stream_order;
      hears = k.hears;
      streams = λ n.
          subst (λ (x : RequestStream SentSection). RefinesStream x (stream_at w.streams n)) (keeps n) (k.streams n);
    }

laid_kept : (maximum limit most : ℕ) (s : Connection) (ps : List (ℕ × RequestStream SentSection))
    (steps : List EndStep) → KeepsStreams s.streams ps → IsKept maximum limit most (laid_out ps s) steps
    → IsKept maximum limit most s steps
laid_kept maximum limit most s ps steps keeps k =
    record {
      refines = refines_shown maximum s ps _ keeps k.refines;
      alive = record { encoder = k.alive.encoder; decoder = k.alive.decoder };
      sound = k.sound;
      most_at_risk = k.most_at_risk;
      encoder = k.encoder;
      within = k.within;
      settings = k.settings;
      waiting = waiting_same (laid_out ps s) s refl
          (λ n. (
            λ x e. ap oldest_undecoded (sym (keeps n)) ∙ e,
            λ live. ap (λ (x : RequestStream SentSection). x.cancelled) (sym (keeps n)) ∙ live,
          )) k.waiting;
    }

pub kept_shown : (maximum limit most : ℕ) (s c : Connection) (steps : List EndStep) → Shows s c
    → IsKept maximum limit most c steps → IsKept maximum limit most s steps
kept_shown maximum limit most s c steps shows k =
    laid_kept maximum limit most s c.streams steps shows.streams
    (subst (λ (x : Connection). IsKept maximum limit most x steps) (shown_is s c shows) k)

run_holds : (maximum limit most : ℕ) → (calls : List Call) (old new : Connection) (steps : List EndStep)
    → IsKept maximum limit most old steps → (run : Run calls old new) → AllFit calls old new run → Holds most new
run_holds maximum limit most [] old new steps k run fits =
    record {
      maximum = maximum;
      limit = limit;
      steps = steps;
      kept = subst (λ (x : Connection). IsKept maximum limit most x steps) (sym run) k;
    }
run_holds maximum limit most (call ∷ calls) old new steps k run fits =
    let one = step_kept maximum limit most call old run.0 steps k run.1 fits.0 in
    run_holds maximum limit most calls run.0 new (steps ++ one.1) one.2 run.2 fits.1

-- what is reached is kept
pub reached_holds : (s : Connection) → IsReached s → Holds s.decoder.settings.max_blocked s
reached_holds s at =
    let n = at.new in
    let h = run_holds n.encoder_settings.max_capacity 4096 n.decoder_settings.max_blocked at.calls at.first at.last [] (new_kept at.first n)
    at.run at.fits in
    let k = kept_shown h.maximum h.limit n.decoder_settings.max_blocked s at.last h.steps at.shows h.kept in
    subst (λ (most : ℕ). Holds most s) (sym k.settings)
    (record { maximum = h.maximum; limit = h.limit; steps = h.steps; kept = k })

-- ---- a call of a connection is one of each that it shows

pub cond_same : {X : Type 0} (b : Bool) (x y v w : X) → x ≡ v → y ≡ w → cond b x y ≡ cond b v w
cond_same true x y v w e f = e
cond_same false x y v w e f = f

put_same : (ps qs : List (ℕ × RequestStream SentSection)) (s : ℕ)
    (next : RequestStream SentSection → RequestStream SentSection) → KeepsStreams qs ps
    → KeepsStreams (with_stream qs s (next (stream_at qs s))) (with_stream ps s (next (stream_at ps s)))
put_same ps qs s next keeps n =
    cond_same (nat_eq s n) (next (stream_at ps s)) (stream_at ps n) (next (stream_at qs s)) (stream_at qs n)
    (ap next (keeps s)) (keeps n)

-- a call that was made of a connection is made of another, and what is behind it is shown
pub record Moved (call : Call) (old new : Connection) (step : Step call old new) (c : Connection) : Type 0 where
  pub next : Connection
  pub moved : Step call c next
  pub fits : Fits call old new step → Fits call c next moved
  pub shows : Shows new next

-- what is behind a call is shown by it with its streams laid out otherwise
shows_landed : (new at : Connection) (ps : List (ℕ × RequestStream SentSection)) → new ≡ at
    → KeepsStreams at.streams ps → Shows new (laid_out ps at)
shows_landed new at ps is keeps =
    subst (λ (x : Connection). Shows x (laid_out ps at)) (sym is)
    (record { encoder = refl; decoder = refl; encoder_stream = refl; decoder_stream = refl; streams = keeps })

module _ (old new : Connection) (ps : List (ℕ × RequestStream SentSection)) (keeps : KeepsStreams old.streams ps) where
  abbrev c : Connection
  c = laid_out ps old

  encode_moved : (s : ℕ) (fields : _) (answer : _) (step : Step (Encode s fields answer) old new)
      → Moved (Encode s fields answer) old new step c
  encode_moved s fields (Ok required) step =
      record {
        next = with_section s fields step.section (Ok required) (with_encoder step.encoder c);
        moved = record { encoder = step.encoder; section = step.section; call = step.call; new_is = refl };
        fits = λ f. (
          f.0,
          subst (λ (y : Connection). length y.encoder_stream.written < 2 ^ 63) step.new_is f.1,
          f.2,
        );
        shows = shows_landed new (with_section s fields step.section (Ok required) (with_encoder step.encoder old))
            (with_section s fields step.section (Ok required) (with_encoder step.encoder c)).streams step.new_is
            (put_same ps old.streams s
            (λ st. record st {
              blocks = st.blocks ++ record { fields = fields; bytes = step.section; required = required } ∷ [];
            }) keeps);
      }
  encode_moved s fields (Err x) step =
      record {
        next = with_encoder step.encoder c;
        moved = record { encoder = step.encoder; section = step.section; call = step.call; new_is = refl };
        fits = λ f. (
          f.0,
          subst (λ (y : Connection). length y.encoder_stream.written < 2 ^ 63) step.new_is f.1,
        );
        shows = shows_landed new (with_encoder step.encoder old) ps step.new_is keeps;
      }

  capacity_moved : (n : ℕ) (answer : _) (step : Step (SetCapacity n answer) old new)
      → Moved (SetCapacity n answer) old new step c
  capacity_moved n answer step =
      record {
        next = with_encoder step.encoder c;
        moved = record { encoder = step.encoder; call = step.call; new_is = refl };
        fits = λ f. tt;
        shows = shows_landed new (with_encoder step.encoder old) ps step.new_is keeps;
      }

  shrink_moved : (n : ℕ) (answer : _) (step : Step (Shrink n answer) old new) → Moved (Shrink n answer) old new step c
  shrink_moved n answer step =
      record {
        next = with_encoder step.encoder c;
        moved = record { encoder = step.encoder; call = step.call; new_is = refl };
        fits = λ f. tt;
        shows = shows_landed new (with_encoder step.encoder old) ps step.new_is keeps;
      }

  hear_moved : (many : ℕ) (answer : _) (step : Step (Hear many answer) old new)
      → Moved (Hear many answer) old new step c
  hear_moved many answer step =
      let hears = step.hears in
      let at : Connection → Connection =
      λ x. let taken = with_decoder step.decoder x in
      let y : Connection = record (with_encoder hears.encoder taken) {
        decoder_stream = behind_received (length (next_of many taken.decoder_stream) - length hears.left)
            taken.decoder_stream;
      } in y in
      record {
        next = at c;
        moved = record {
          decoder = step.decoder;
          takes = step.takes;
          hears = record {
            encoder = hears.encoder;
            left = hears.left;
            receives = hears.receives;
            nothing_left = hears.nothing_left;
            ended = hears.ended;
            new_is = refl;
          };
        };
        fits = λ f. tt;
        shows = shows_landed new (at old) ps hears.new_is keeps;
      }

  receive_moved : (many : ℕ) (answer : _) (step : Step (Receive many answer) old new)
      → Moved (Receive many answer) old new step c
  receive_moved many answer step =
      let at : Connection → Connection =
      λ x. let y : Connection = record (with_decoder step.decoder x) {
        encoder_stream = behind_received (length (next_of many x.encoder_stream) - length step.left) x.encoder_stream;
      } in y in
      record {
        next = at c;
        moved = record {
          decoder = step.decoder;
          left = step.left;
          receives = step.receives;
          ended = step.ended;
          new_is = refl;
        };
        fits = λ f. tt;
        shows = shows_landed new (at old) ps step.new_is keeps;
      }

  read_shows : (s : ℕ) (answer : _) (d : DecodingEnd) → new ≡ with_reading s answer (with_decoder d old)
      → Shows new (with_reading s answer (with_decoder d c))
  read_shows s (Ok (reading.Fields required)) d is =
      shows_landed new (with_reading s (Ok (reading.Fields required)) (with_decoder d old))
      (with_reading s (Ok (reading.Fields required)) (with_decoder d c)).streams is
      (put_same ps old.streams s
      (λ st. record st {
        decoded = st.decoded + 1;
        acknowledged = st.acknowledged + (cond (nat_lt 0 required) 1 0);
      }) keeps)
  read_shows s (Ok (reading.Blocked required)) d is = shows_landed new (with_decoder d old) ps is keeps
  read_shows s (Err x) d is = shows_landed new (with_decoder d old) ps is keeps

  decode_moved : (s : ℕ) (fields : _) (answer : _) (step : Step (Decode s fields answer) old new)
      → Moved (Decode s fields answer) old new step c
  decode_moved s fields answer step =
      record {
        next = with_reading s answer (with_decoder step.decoder c);
        moved = record {
          live = ap (λ (x : RequestStream SentSection). x.cancelled) (keeps s) ∙ step.live;
          section = step.section;
          is_next = ap oldest_undecoded (keeps s) ∙ step.is_next;
          decoder = step.decoder;
          call = step.call;
          memory = step.memory;
          new_is = refl;
        };
        fits = λ f. tt;
        shows = read_shows s answer step.decoder step.new_is;
      }

  cancel_shows : (s : ℕ) (answer : _) (d : DecodingEnd) → new ≡ with_cancelled s answer (with_decoder d old)
      → Shows new (with_cancelled s answer (with_decoder d c))
  cancel_shows s (Ok it) d is =
      shows_landed new (with_cancelled s (Ok it) (with_decoder d old))
      (with_cancelled s (Ok it) (with_decoder d c)).streams is
      (put_same ps old.streams s (λ st. record st { cancelled = true }) keeps)
  cancel_shows s (Err x) d is = shows_landed new (with_decoder d old) ps is keeps

  cancel_moved : (s : ℕ) (answer : _) (step : Step (Cancel s answer) old new) → Moved (Cancel s answer) old new step c
  cancel_moved s answer step =
      record {
        next = with_cancelled s answer (with_decoder step.decoder c);
        moved = record {
          live = ap (λ (x : RequestStream SentSection). x.cancelled) (keeps s) ∙ step.live;
          decoder = step.decoder;
          call = step.call;
          new_is = refl;
        };
        fits = λ f. tt;
        shows = cancel_shows s answer step.decoder step.new_is;
      }

  pub call_moved : (call : Call) (step : Step call old new) → Moved call old new step c
  call_moved (Encode s fields answer) step = encode_moved s fields answer step
  call_moved (SetCapacity n answer) step = capacity_moved n answer step
  call_moved (Shrink n answer) step = shrink_moved n answer step
  call_moved (Hear many answer) step = hear_moved many answer step
  call_moved (Receive many answer) step = receive_moved many answer step
  call_moved (Decode s fields answer) step = decode_moved s fields answer step
  call_moved (Cancel s answer) step = cancel_moved s answer step

pub moved_to : (call : Call) (old new c : Connection) (step : Step call old new) → Shows old c
    → Moved call old new step c
moved_to call old new c step shows =
    subst (Moved call old new step) (sym (shown_is old c shows)) (call_moved old new c.streams shows.streams call step)
