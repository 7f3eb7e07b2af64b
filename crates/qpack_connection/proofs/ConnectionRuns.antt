-- Runs of the events of a connection, and what the theorem of two ends says of them.
use Rattle.std.proofs.Common.{◌≡◌, List, [], ◌∷◌, ◌++◌, Option, None, Some, IfSome, refl, sym, ap, subst, ◌∙◌}
use Rattle.std.proofs.Common.{append_assoc}
use Rattle.qpack_connection.specs.declared.connection.ConnectionSettings.{ConnectionSettings}
use Rattle.qpack_connection.specs.declared.connection.Event.{Event}
use Rattle.qpack_connection.specs.declared.connection.Outcome.{Outcome}
use Rattle.qpack_connection.specs.declared.connection.Outcome.TheVariants as outcome
use Rattle.qpack_decoding.specs.declared.decoder.DecoderSettings.{DecoderSettings}
use Rattle.qpack_connection.specs.ConnectionEvents.{Shows, BeginsWith, IsReached, call_of, Makes, MakesOne}
use Rattle.qpack_connection.specs.ConnectionEvents.{Goes, GoesAll}
use Rattle.qpack_connection.specs.ConnectionRuns.{MakesSo, AnswersEvent, StepsAll, behind_call, calls_of}
use Rattle.qpack_connection.specs.ConnectionRuns.{AnswerWhatWasHanded}
use Rattle.qpack_connection.specs.Connections.{Connection, Call, Step, Run}
use Rattle.qpack_connection.specs.TwoEndsHeadline.{Fits, AllFit, AllAnswer, IsWithin}
use Rattle.qpack_connection.proofs.ReachedConnections.{shows_itself, shows_through, reached_holds, moved_to}
use Rattle.qpack_connection.proofs.TwoEndsHeadline.{step_kept, kept_within, two_ends_answer}

-- ---- one event

-- one call more, which fits
pub run_more : (calls : List Call) (old mid new : Connection) (call : Call) (run : Run calls old mid)
    → AllFit calls old mid run → (step : Step call mid new) → Fits call mid new step
    → (whole : Run (calls ++ call ∷ []) old new) × AllFit (calls ++ call ∷ []) old new whole
run_more [] old mid new call run fits step fit =
    let p = subst (λ (m : Connection). (s : Step call m new) × Fits call m new s) run (step, fit) in (
      (new, p.0, refl),
      (p.1, tt),
    )
run_more (c ∷ calls) old mid new call run fits step fit =
    let r = run_more calls run.0 mid new call run.2 fits.1 step fit in (
      (run.0, run.1, r.0),
      (fits.0, r.1),
    )

makes_reached : (old new : Connection) (call : Call) → IsReached old → Makes call old new → IsReached new
makes_reached old new call at m =
    let v = moved_to call old m.next at.last m.step at.shows in
    let whole = run_more at.calls at.first at.last v.next call at.run at.fits v.moved (v.fits m.fits) in
    record {
      first = at.first;
      new = at.new;
      calls = at.calls ++ call ∷ [];
      last = v.next;
      run = whole.0;
      fits = whole.1;
      shows = shows_through new m.next v.next m.shows v.shows;
    }

shown_reached : (old new : Connection) → IsReached old → Shows new old → IsReached new
shown_reached old new at shows =
    record {
      first = at.first;
      new = at.new;
      calls = at.calls;
      last = at.last;
      run = at.run;
      fits = at.fits;
      shows = shows_through new old at.last shows at.shows;
    }

one_reached : (old new : Connection) (o : Option Call) → IsReached old → MakesOne o old new → IsReached new
one_reached old new None at m = absurd m
one_reached old new (Some call) at m = makes_reached old new call at m

-- an event leads to a connection that is reached
pub goes_reached : (old new : Connection) (e : Event) (o : Outcome) → IsReached old → Goes old new e o → IsReached new
goes_reached old new e (outcome.Encoded r) at g = one_reached old new (call_of (outcome.Encoded r) e) at g.1
goes_reached old new e (outcome.CapacitySet r) at g = one_reached old new (call_of (outcome.CapacitySet r) e) at g.1
goes_reached old new e (outcome.Delivered r) at g = one_reached old new (call_of (outcome.Delivered r) e) at g.1
goes_reached old new e (outcome.Heard r) at g = one_reached old new (call_of (outcome.Heard r) e) at g.1
goes_reached old new e (outcome.Decoded r fs) at g = one_reached old new (call_of (outcome.Decoded r fs) e) at g.1
goes_reached old new e (outcome.Cancelled r) at g = one_reached old new (call_of (outcome.Cancelled r) e) at g.1
goes_reached old new e (outcome.Skipped why) at g = subst IsReached (sym g.1) at
goes_reached old new e outcome.NoRoom at g = shown_reached old new at g.2

-- ---- what it answers

makes_so : (old new : Connection) (call : Call) → IsReached old → Makes call old new → MakesSo call old new
makes_so old new call at m =
    let h = reached_holds old at in
    record {
      makes = m;
      answers = (step_kept h.maximum h.limit old.decoder.settings.max_blocked call old m.next h.steps h.kept
          m.step m.fits).0;
    }

one_so : (old new : Connection) (o : Option Call) → IsReached old → MakesOne o old new
    → IfSome o (λ call. MakesSo call old new)
one_so old new None at m = tt
one_so old new (Some call) at m = makes_so old new call at m

pub goes_so : (old new : Connection) (e : Event) (o : Outcome) → IsReached old → Goes old new e o
    → AnswersEvent old new e o
goes_so old new e (outcome.Encoded r) at g = one_so old new (call_of (outcome.Encoded r) e) at g.1
goes_so old new e (outcome.CapacitySet r) at g = one_so old new (call_of (outcome.CapacitySet r) e) at g.1
goes_so old new e (outcome.Delivered r) at g = one_so old new (call_of (outcome.Delivered r) e) at g.1
goes_so old new e (outcome.Heard r) at g = one_so old new (call_of (outcome.Heard r) e) at g.1
goes_so old new e (outcome.Decoded r fs) at g = one_so old new (call_of (outcome.Decoded r fs) e) at g.1
goes_so old new e (outcome.Cancelled r) at g = one_so old new (call_of (outcome.Cancelled r) e) at g.1
goes_so old new e (outcome.Skipped why) at g = tt
goes_so old new e outcome.NoRoom at g = tt

-- between events
pub reached_within : (s : Connection) → IsReached s → IsWithin s.decoder.settings.max_blocked s
reached_within s at =
    let h = reached_holds s at in
    kept_within h.maximum h.limit s.decoder.settings.max_blocked s h.steps h.kept

-- ---- events in turn

-- calls that fit lead on to what is shown
pub record Leads (calls : List Call) (old new : Connection) : Type 0 where
  pub last : Connection
  pub run : Run calls old last
  pub fits : AllFit calls old last run
  pub shows : Shows new last

makes_leads : (old now new c : Connection) (call : Call) (calls : List Call) → Shows old c → Makes call old now
    → ((d : Connection) → Shows now d → Leads calls d new) → Leads (call ∷ calls) c new
makes_leads old now new c call calls shows m rest =
    let v = moved_to call old m.next c m.step shows in
    let r = rest v.next (shows_through now m.next v.next m.shows v.shows) in
    record {
      last = r.last;
      run = (v.next, v.moved, r.run);
      fits = (v.fits m.fits, r.fits);
      shows = r.shows;
    }

one_leads : (old now new c : Connection) (o : Option Call) (calls : List Call) → Shows old c → MakesOne o old now
    → ((d : Connection) → Shows now d → Leads calls d new) → Leads (behind_call o calls) c new
one_leads old now new c None calls shows m rest = absurd m
one_leads old now new c (Some call) calls shows m rest = makes_leads old now new c call calls shows m rest

event_leads : (old now new c : Connection) (e : Event) (o : Outcome) (calls : List Call) → Shows old c
    → Goes old now e o → ((d : Connection) → Shows now d → Leads calls d new)
    → Leads (behind_call (call_of o e) calls) c new
event_leads old now new c e (outcome.Encoded r) calls shows g rest =
    one_leads old now new c (call_of (outcome.Encoded r) e) calls shows g.1 rest
event_leads old now new c e (outcome.CapacitySet r) calls shows g rest =
    one_leads old now new c (call_of (outcome.CapacitySet r) e) calls shows g.1 rest
event_leads old now new c e (outcome.Delivered r) calls shows g rest =
    one_leads old now new c (call_of (outcome.Delivered r) e) calls shows g.1 rest
event_leads old now new c e (outcome.Heard r) calls shows g rest =
    one_leads old now new c (call_of (outcome.Heard r) e) calls shows g.1 rest
event_leads old now new c e (outcome.Decoded r fs) calls shows g rest =
    one_leads old now new c (call_of (outcome.Decoded r fs) e) calls shows g.1 rest
event_leads old now new c e (outcome.Cancelled r) calls shows g rest =
    one_leads old now new c (call_of (outcome.Cancelled r) e) calls shows g.1 rest
event_leads old now new c e (outcome.Skipped why) calls shows g rest =
    rest c (subst (λ (x : Connection). Shows x c) (sym g.1) shows)
event_leads old now new c e outcome.NoRoom calls shows g rest = rest c (shows_through now old c g.2 shows)

pub all_lead : (es : List Event) (os : List Outcome) (old new c : Connection) → Shows old c → GoesAll es os old new
    → Leads (calls_of es os) c new
all_lead [] [] old new c shows g =
    record { last = c; run = refl; fits = tt; shows = subst (λ (x : Connection). Shows x c) (sym g) shows }
all_lead [] (o ∷ os) old new c shows g = absurd g
all_lead (e ∷ es) [] old new c shows g = absurd g
all_lead (e ∷ es) (o ∷ os) old new c shows g =
    event_leads old g.0 new c e o (calls_of es os) shows g.1
    (λ d shown. all_lead es os g.0 new d shown g.2)

-- from a new connection on, all answer as the theorem has it
pub all_answer : (settings : ConnectionSettings) (es : List Event) (os : List Outcome) (first new : Connection)
    → BeginsWith settings first → GoesAll es os first new → AnswerWhatWasHanded settings es os new
all_answer settings es os first new begins g =
    let k = all_lead es os first new first (shows_itself first) g in
    record {
      first = first;
      begins = begins;
      last = k.last;
      run = k.run;
      fits = k.fits;
      answers = subst (λ (s : DecoderSettings). AllAnswer s.max_blocked (calls_of es os) first k.last k.run)
          begins.decoder_is (two_ends_answer (calls_of es os) first k.last begins.new k.run k.fits);
      shows = k.shows;
    }

-- one event more
pub goes_more : (es : List Event) (os : List Outcome) (old mid new : Connection) (e : Event) (o : Outcome)
    → GoesAll es os old mid → Goes mid new e o → GoesAll (es ++ e ∷ []) (os ++ o ∷ []) old new
goes_more [] [] old mid new e o g h = (new, subst (λ (x : Connection). Goes x new e o) g h, refl)
goes_more [] (p ∷ os) old mid new e o g h = absurd g
goes_more (d ∷ es) [] old mid new e o g h = absurd g
goes_more (d ∷ es) (p ∷ os) old mid new e o g h = (g.0, g.1, goes_more es os g.0 mid new e o g.2 h)

-- a new connection is reached by no call
pub begun_reached : (settings : ConnectionSettings) (s : Connection) → BeginsWith settings s → IsReached s
begun_reached settings s begins =
    record { first = s; new = begins.new; calls = []; last = s; run = refl; fits = tt; shows = shows_itself s }

pub steps_more : (old mid new : Connection) (es : List Event) (e : Event) (o : Outcome)
    (before behind after : List Outcome) → StepsAll old mid es before behind → Goes mid new e o
    → after ≡ behind ++ o ∷ [] → StepsAll old new (es ++ e ∷ []) before after
steps_more old mid new es e o before behind after p goes wrote = (
  p.0 ++ o ∷ [],
  wrote ∙ ap (λ (l : List Outcome). l ++ o ∷ []) p.1 ∙ append_assoc before p.0 (o ∷ []),
  goes_more es p.0 old mid new e o p.2 goes,
)

-- all events from a new connection on
pub goes_from_new : (settings : ConnectionSettings) (first new : Connection) (es : List Event)
    (none outcomes : List Outcome) → BeginsWith settings first → none ≡ [] → StepsAll first new es none outcomes
    → GoesAll es outcomes first new
goes_from_new settings first new es none outcomes begins empty p =
    subst (λ (os : List Outcome). GoesAll es os first new)
    (sym (p.1 ∙ ap (λ (l : List Outcome). l ++ p.0) empty)) p.2
