-- What the decoder of a connection in bytes has under way is what that of the session has, without increments that an
-- acknowledgment reports.
use Rattle.std.proofs.Common.{ℕ, ◌+◌, ◌<◌, ◌≤◌, ◌≡◌, true, false, List, [], ◌∷◌, ◌++◌, length, Some, Ok, refl, sym, ap, ◌∙◌, subst, inl, inr}
use Rattle.std.proofs.Common.{arith, length-append}
use Rattle.std.specs.List.{AllByRecursion}
use Rattle.std.proofs.lemmas.List.{append-nil}
use Rattle.qpack_spec.specs.Instruction.{DecoderInstruction, Acknowledgment, Cancellation}
use Rattle.qpack_spec.specs.Reading.{greatest_of}
use Rattle.qpack_spec.specs.Table.{Table, UnacknowledgedBlock, insert_count}
use Rattle.qpack_spec.specs.Window.{window_insert_count}
use Rattle.qpack_spec.proofs.Drafts.{IsLive, count_inserted}
use Rattle.qpack_spec.proofs.Lists.{every_weaker}
use Rattle.qpack_spec.proofs.Readings.{greatest_bound}
use Rattle.qpack_spec.proofs.Windows.{leads_grows}
use Rattle.qpack_rules.specs.Session.{stream_at, oldest_undecoded, sum_of, increments, pieces_of}
use Rattle.qpack_rules.specs.StrictInstructions.{required_by, hear_in_turn}
use Rattle.qpack_rules.proofs.Pieces.{pieces_add_up}
use Rattle.qpack_safety.specs.AbstractSession.{AbstractBlock, AbstractSession, required_count, is_dynamic}
use Rattle.qpack_safety.proofs.Invariant.{sound_made}
use Rattle.qpack_safety.proofs.TwoEnds.{Holds}
use Rattle.qpack_safety.proofs.WritingEvents.{few_insertions}
use Rattle.qpack_connection.specs.Thinned.{Thins}
use Rattle.qpack_connection.proofs.DecodedOldest.{OldestIs, oldest_is, heard_whole}
use Rattle.qpack_connection.proofs.HeardVerdicts.{AtMost}
use Rattle.qpack_connection.proofs.ThinnedStreams.{IsWithin, thins_behind, thins_report}

-- the counts of the session's encoder are numbers of 64 bits
pub session_within : (maximum limit : ℕ) (w : AbstractSession) → Holds 0 maximum limit w → IsWithin w.encoder
session_within maximum limit w h =
    let k = h.invariant in
    let g = leads_grows k.received w.in_flight k.made k.in_flight_leads in
    record {
      few = omega (arith, few_insertions 0 maximum limit w k);
      known = omega (
        arith,
        k.known_received_count,
        ap (λ (fs : _). length fs) g.inserts,
        length-append k.received.inserted g.more,
        count_inserted w.encoder k.made k.encoder.shares (sound_made 0 maximum limit w k),
      );
      low = every_weaker (λ (b : UnacknowledgedBlock). AllByRecursion (IsLive w.encoder) b.entries)
          (AtMost (insert_count w.encoder))
          (λ b live. greatest_bound (insert_count w.encoder) b.entries
          (every_weaker (IsLive w.encoder) (λ a. a ≤ insert_count w.encoder) (λ a q. q.1) b.entries live))
          w.encoder.unacknowledged k.encoder.held;
    }

-- so much is under way of what the session has
abbrev pub IsUnderWay : AbstractSession → (written whole : List DecoderInstruction) → Type 0
IsUnderWay w written whole = Thins w.encoder.known_received_count w.encoder.unacknowledged written whole

-- more is written at both
pub more_under_way : (maximum limit : ℕ) (w : AbstractSession) (under_way ws rs : List DecoderInstruction)
    → Holds 0 maximum limit w → IsUnderWay w under_way w.decoder_in_flight
    → ((last : Table) → hear_in_turn w.encoder w.decoder_in_flight ≡ Ok last
    → Thins last.known_received_count last.unacknowledged ws rs)
    → IsUnderWay w (under_way ++ ws) (w.decoder_in_flight ++ rs)
more_under_way maximum limit w under_way ws rs h thins more =
    let heard = heard_whole 0 maximum limit w.decoder_in_flight w refl h in
    thins_behind w.encoder heard.0 under_way w.decoder_in_flight ws rs (session_within maximum limit w h) thins heard.1
    (more heard.0 heard.1)

-- increments
pub report_under_way : (maximum limit : ℕ) (w : AbstractSession) (under_way : List DecoderInstruction) (ps : List ℕ)
    → Holds 0 maximum limit w → IsUnderWay w under_way w.decoder_in_flight
    → IsUnderWay w (under_way ++ increments ps) (w.decoder_in_flight ++ increments ps)
report_under_way maximum limit w under_way ps h thins =
    more_under_way maximum limit w under_way (increments ps) (increments ps) h thins
    (λ last heard. subst (λ (is : List DecoderInstruction). Thins last.known_received_count last.unacknowledged is is)
    (append-nil (increments ps))
    (thins_report last.known_received_count last.unacknowledged ps [] [] refl))

-- a cancellation
pub cancellation_under_way : (maximum limit : ℕ) (w : AbstractSession) (under_way : List DecoderInstruction) (s : ℕ)
    → Holds 0 maximum limit w → IsUnderWay w under_way w.decoder_in_flight
    → IsUnderWay w (under_way ++ Cancellation s ∷ []) (w.decoder_in_flight ++ Cancellation s ∷ [])
cancellation_under_way maximum limit w under_way s h thins =
    more_under_way maximum limit w under_way (Cancellation s ∷ []) (Cancellation s ∷ []) h thins
    (λ last heard. ([], refl, refl))

-- the acknowledgment of the next section of a stream, after the increments for all that was received
abbrev pub report_and_acknowledgment : AbstractSession → ℕ → List DecoderInstruction
report_and_acknowledgment w s = increments (pieces_of w.unreported) ++ Acknowledgment s ∷ []

pub acknowledgment_under_way : (maximum limit : ℕ) (w : AbstractSession) (under_way : List DecoderInstruction) (s : ℕ)
    (b : AbstractBlock) → Holds 0 maximum limit w → IsUnderWay w under_way w.decoder_in_flight
    → (stream_at w.streams s).cancelled ≡ false → oldest_undecoded (stream_at w.streams s) ≡ Some b
    → is_dynamic b ≡ true
    → IsUnderWay w (under_way ++ report_and_acknowledgment w s) (w.decoder_in_flight ++ report_and_acknowledgment w s)
acknowledgment_under_way maximum limit w under_way s b h thins live next dynamic =
    let ps = pieces_of w.unreported in
    more_under_way maximum limit w under_way (report_and_acknowledgment w s) (report_and_acknowledgment w s) h thins
    (λ last heard.
    (let o = oldest_is 0 maximum limit w s b last h live next dynamic heard in
    thins_report last.known_received_count last.unacknowledged ps (Acknowledgment s ∷ []) (Acknowledgment s ∷ []) (
      record {
        required = required_count b;
        others = o.others;
        oldest = o.oldest;
        others_are = o.others_are;
        pieces = [];
        rest = [];
        whole_is = refl;
        told = inl refl;
      },
      refl,
    )))

-- or alone, if the section requires all that was received
pub alone_under_way : (maximum limit : ℕ) (w : AbstractSession) (under_way : List DecoderInstruction) (s : ℕ)
    (b : AbstractBlock) → Holds 0 maximum limit w → IsUnderWay w under_way w.decoder_in_flight
    → (stream_at w.streams s).cancelled ≡ false → oldest_undecoded (stream_at w.streams s) ≡ Some b
    → is_dynamic b ≡ true → window_insert_count w.decoder ≤ required_count b
    → IsUnderWay w (under_way ++ Acknowledgment s ∷ []) (w.decoder_in_flight ++ report_and_acknowledgment w s)
alone_under_way maximum limit w under_way s b h thins live next dynamic all =
    let ps = pieces_of w.unreported in
    more_under_way maximum limit w under_way (Acknowledgment s ∷ []) (report_and_acknowledgment w s) h thins
    (λ last heard.
    (let o = oldest_is 0 maximum limit w s b last h live next dynamic heard in (
      record {
        required = required_count b;
        others = o.others;
        oldest = o.oldest;
        others_are = o.others_are;
        pieces = ps;
        rest = [];
        whole_is = refl;
        told = inr (omega (arith, o.known, all, pieces_add_up w.unreported));
      },
      refl,
    )))
