-- What the events of a connection of two ends answer is what was handed, by events and outcomes alone.
use Rattle.std.proofs.Common.{◌≡◌, ℕ, List, [], ◌∷◌, refl, sym, ap, subst, ◌∙◌, arith, inl}
use Rattle.qpack_rules.specs.Session.{RequestStream, stream_at}
use Rattle.qpack_spec.specs.Table.{Table, insert_count}
use Rattle.qpack_connection.specs.declared.connection.ConnectionSettings.{ConnectionSettings}
use Rattle.qpack_connection.specs.declared.connection.Event.{Event}
use Rattle.qpack_connection.specs.declared.connection.Event.TheVariants as event
use Rattle.qpack_connection.specs.declared.connection.Outcome.{Outcome}
use Rattle.qpack_connection.specs.declared.connection.Outcome.TheVariants as outcome
use Rattle.qpack_connection.specs.ConnectionEvents.{Shows, BeginsWith, Goes, GoesAll}
use Rattle.qpack_connection.specs.Connections.{SentSection, Connection}
use Rattle.qpack_connection.specs.Headline.{SoFar, nothing_yet, after, AllAnswer, EventsAnswerWhatWasHanded}
use Rattle.qpack_connection.proofs.CountedWaits.{none_counted}
use Rattle.qpack_connection.proofs.FollowedRuns.{follows_none}
use Rattle.qpack_connection.proofs.HandedStreams.{IsStream, none_handed, decode_skipped, cancel_answers, cancel_skipped}
use Rattle.qpack_connection.proofs.ReachedConnections.{shows_itself}
use Rattle.qpack_connection.proofs.HeadlineEnds.{Kept, shown}
use Rattle.qpack_connection.proofs.HeadlineEvents.{Right, encoded, capacity_set, shrunk, heard, delivered, decoded, cancelled}

module _ (settings : ConnectionSettings) (first : Connection) (begins : BeginsWith settings first) where
  right_shown : (h : SoFar) (e : Event) (o : Outcome) (old new : Connection) → Right settings first begins h e o old
      → Shows new old → Right settings first begins h e o new
  right_shown h e o old new r shows = (r.0, shown settings first (after e o h) old new r.1 shows)

  skipped : (h : SoFar) (old new : Connection) (e : Event) (why : _) → Kept settings first h old
      → Goes old new e (outcome.Skipped why) → Right settings first begins h e (outcome.Skipped why) new
  skipped h old new (event.Decode s) why k g = (
    decode_skipped settings.decoder.max_section_size h s (h.streams s) (stream_at old.streams s) why g.0 (k.streams s),
    shown settings first h old new k (subst (λ (c : Connection). Shows c old) (sym g.1) (shows_itself old)),
  )
  skipped h old new (event.Cancel s) why k g = (
    cancel_skipped settings.decoder.max_capacity s (h.streams s) (stream_at old.streams s) why g.0 (k.streams s),
    shown settings first h old new k (subst (λ (c : Connection). Shows c old) (sym g.1) (shows_itself old)),
  )
  skipped h old new (event.Encode s fields) why k g = absurd (let x = g.0 in cc)
  skipped h old new (event.SetCapacity n) why k g = absurd (let x = g.0 in cc)
  skipped h old new (event.Shrink n) why k g = absurd (let x = g.0 in cc)
  skipped h old new (event.ToDecoder many) why k g = absurd (let x = g.0 in cc)
  skipped h old new (event.ToEncoder many) why k g = absurd (let x = g.0 in cc)

  no_room : (h : SoFar) (old new : Connection) (e : Event) → Kept settings first h old
      → Goes old new e outcome.NoRoom → Right settings first begins h e outcome.NoRoom new
  no_room h old new (event.Encode s fields) k g = (tt, shown settings first h old new k g.2)
  no_room h old new (event.Cancel s) k g = (
    cancel_answers settings.decoder.max_capacity s (h.streams s) (stream_at old.streams s) outcome.NoRoom g.0
        (k.streams s) tt,
    shown settings first h old new k g.2,
  )
  no_room h old new (event.Decode s) k g = absurd g.1
  no_room h old new (event.SetCapacity n) k g = absurd g.1
  no_room h old new (event.Shrink n) k g = absurd g.1
  no_room h old new (event.ToDecoder many) k g = absurd g.1
  no_room h old new (event.ToEncoder many) k g = absurd g.1

  event_right : (h : SoFar) (old new : Connection) (e : Event) (o : Outcome) → Kept settings first h old
      → Goes old new e o → Right settings first begins h e o new
  event_right h old new e (outcome.Skipped why) k g = skipped h old new e why k g
  event_right h old new e outcome.NoRoom k g = no_room h old new e k g
  event_right h old new (event.Encode s fields) (outcome.Encoded r) k g =
      let m = g.1 in
      right_shown h (event.Encode s fields) (outcome.Encoded r) m.next new
      (encoded settings first begins h old m.next s fields r m.step m.fits k) m.shows
  event_right h old new (event.Encode s fields) (outcome.CapacitySet r) k g = absurd g.1
  event_right h old new (event.Encode s fields) (outcome.Delivered r) k g = absurd g.1
  event_right h old new (event.Encode s fields) (outcome.Heard r) k g = absurd g.1
  event_right h old new (event.Encode s fields) (outcome.Decoded r lines) k g = absurd g.1
  event_right h old new (event.Encode s fields) (outcome.Cancelled r) k g = absurd g.1
  event_right h old new (event.SetCapacity n) (outcome.Encoded r) k g = absurd g.1
  event_right h old new (event.SetCapacity n) (outcome.CapacitySet r) k g =
      let m = g.1 in
      right_shown h (event.SetCapacity n) (outcome.CapacitySet r) m.next new
      (capacity_set settings first begins h old m.next n r m.step m.fits k) m.shows
  event_right h old new (event.SetCapacity n) (outcome.Delivered r) k g = absurd g.1
  event_right h old new (event.SetCapacity n) (outcome.Heard r) k g = absurd g.1
  event_right h old new (event.SetCapacity n) (outcome.Decoded r lines) k g = absurd g.1
  event_right h old new (event.SetCapacity n) (outcome.Cancelled r) k g = absurd g.1
  event_right h old new (event.Shrink n) (outcome.Encoded r) k g = absurd g.1
  event_right h old new (event.Shrink n) (outcome.CapacitySet r) k g =
      let m = g.1 in
      right_shown h (event.Shrink n) (outcome.CapacitySet r) m.next new
      (shrunk settings first begins h old m.next n r m.step m.fits k) m.shows
  event_right h old new (event.Shrink n) (outcome.Delivered r) k g = absurd g.1
  event_right h old new (event.Shrink n) (outcome.Heard r) k g = absurd g.1
  event_right h old new (event.Shrink n) (outcome.Decoded r lines) k g = absurd g.1
  event_right h old new (event.Shrink n) (outcome.Cancelled r) k g = absurd g.1
  event_right h old new (event.ToDecoder many) (outcome.Encoded r) k g = absurd g.1
  event_right h old new (event.ToDecoder many) (outcome.CapacitySet r) k g = absurd g.1
  event_right h old new (event.ToDecoder many) (outcome.Delivered r) k g =
      let m = g.1 in
      right_shown h (event.ToDecoder many) (outcome.Delivered r) m.next new
      (delivered settings first begins h old m.next many r m.step m.fits k) m.shows
  event_right h old new (event.ToDecoder many) (outcome.Heard r) k g = absurd g.1
  event_right h old new (event.ToDecoder many) (outcome.Decoded r lines) k g = absurd g.1
  event_right h old new (event.ToDecoder many) (outcome.Cancelled r) k g = absurd g.1
  event_right h old new (event.ToEncoder many) (outcome.Encoded r) k g = absurd g.1
  event_right h old new (event.ToEncoder many) (outcome.CapacitySet r) k g = absurd g.1
  event_right h old new (event.ToEncoder many) (outcome.Delivered r) k g = absurd g.1
  event_right h old new (event.ToEncoder many) (outcome.Heard r) k g =
      let m = g.1 in
      right_shown h (event.ToEncoder many) (outcome.Heard r) m.next new
      (heard settings first begins h old m.next many r m.step m.fits k) m.shows
  event_right h old new (event.ToEncoder many) (outcome.Decoded r lines) k g = absurd g.1
  event_right h old new (event.ToEncoder many) (outcome.Cancelled r) k g = absurd g.1
  event_right h old new (event.Decode s) (outcome.Encoded r) k g = absurd g.1
  event_right h old new (event.Decode s) (outcome.CapacitySet r) k g = absurd g.1
  event_right h old new (event.Decode s) (outcome.Delivered r) k g = absurd g.1
  event_right h old new (event.Decode s) (outcome.Heard r) k g = absurd g.1
  event_right h old new (event.Decode s) (outcome.Decoded r lines) k g =
      let m = g.1 in
      right_shown h (event.Decode s) (outcome.Decoded r lines) m.next new
      (decoded settings first begins h old m.next s lines r m.step m.fits k) m.shows
  event_right h old new (event.Decode s) (outcome.Cancelled r) k g = absurd g.1
  event_right h old new (event.Cancel s) (outcome.Encoded r) k g = absurd g.1
  event_right h old new (event.Cancel s) (outcome.CapacitySet r) k g = absurd g.1
  event_right h old new (event.Cancel s) (outcome.Delivered r) k g = absurd g.1
  event_right h old new (event.Cancel s) (outcome.Heard r) k g = absurd g.1
  event_right h old new (event.Cancel s) (outcome.Decoded r lines) k g = absurd g.1
  event_right h old new (event.Cancel s) (outcome.Cancelled r) k g =
      let m = g.1 in
      right_shown h (event.Cancel s) (outcome.Cancelled r) m.next new
      (cancelled settings first begins h old m.next s r m.step m.fits k g.0) m.shows

  events_right : (h : SoFar) (old new : Connection) (es : List Event) (os : List Outcome) → Kept settings first h old
      → GoesAll es os old new → AllAnswer settings h es os
  events_right h old new [] [] k g = tt
  events_right h old new [] (o ∷ os) k g = absurd g
  events_right h old new (e ∷ es) [] k g = absurd g
  events_right h old new (e ∷ es) (o ∷ os) k g =
      let r = event_right h old g.0 e o k g.1 in
      (r.0, r.1.few, events_right (after e o h) g.0 new es os r.1 g.2)

  begun : Kept settings first nothing_yet first
  begun =
      let none : insert_count first.decoder.table ≡ 0 = ap insert_count begins.new.decoder.table in
      record {
        follows = follows_none first;
        sent = inl refl;
        decoder = record {
          settings_are = begins.new.decoder.settings_are ∙ begins.decoder_is;
          least = omega arith;
          fewer = omega (arith, none);
          counted = none_counted (insert_count first.decoder.table) first.decoder.blocked;
        };
        streams = λ s. subst (IsStream s (nothing_yet.streams s))
            (sym (ap (λ (ps : List (ℕ × RequestStream SentSection)). stream_at ps s) begins.new.streams))
            (none_handed s);
        empty = λ none. ap (λ (t : Table). t.live) begins.new.encoder.table;
        few = omega arith;
      }

-- from a new connection on
pub events_answer : (settings : ConnectionSettings) (first new : Connection) (es : List Event) (os : List Outcome)
    → BeginsWith settings first → GoesAll es os first new → EventsAnswerWhatWasHanded settings es os
events_answer settings first new es os begins g =
    events_right settings first begins nothing_yet first new es os (begun settings first begins) g
