-- What the decoder of a connection in bytes reports where its stream is taken is what the decoder of the session reports.
use Rattle.std.proofs.Common.{◌≡◌, ◌+◌, ℕ, List, [], ◌∷◌, ◌++◌, inl, inr, refl, sym, ap, subst, ◌∙◌, arith}
use Rattle.std.proofs.lemmas.List.{append-nil}
use Rattle.qpack_spec.specs.Instruction.{written_decoder_instructions}
use Rattle.qpack_rules.specs.Session.{increments, pieces_of}
use Rattle.qpack_rules.proofs.Pieces.{pieces_small}
use Rattle.qpack_spec.specs.Table.{insert_count}
use Rattle.qpack_safety.specs.AbstractSession.{AbstractSession, abstract_start}
use Rattle.qpack_safety.specs.TwoEnds.{EndStep, Report, after_end_step, after_end_steps}
use Rattle.qpack_safety.proofs.Shown.{increments_writable}
use Rattle.qpack_safety.proofs.TwoEnds.{Holds, holds_started, holds_behind, reporting_is}
use Rattle.qpack_connection.specs.Connections.{Connection, with_decoder}
use Rattle.qpack_decoding.specs.Decoders.{DecodingEnd, with_report, unreported, IsTaken}
use Rattle.qpack_connection.specs.RefinedConnections.{RefinesSession}
use Rattle.qpack_connection.specs.RefinedStreams.{IsOpen}
use Rattle.qpack_connection.proofs.RefinedCancellations.{written_back, nothing_back}
use Rattle.qpack_connection.proofs.RefinedConnections.{after_more}
use Rattle.qpack_connection.proofs.ThinnedSessions.{report_under_way}

-- the decoder wrote the increments for all that it did not report
pub all_reported : (maximum limit : ℕ) (c : Connection) (w : AbstractSession) (d : DecodingEnd)
    → RefinesSession maximum c w → Holds 0 maximum limit w → d ≡ with_report c.decoder
    → RefinesSession maximum (with_decoder d c) (after_end_step w Report)
all_reported maximum limit c w d r holds is =
    let table : d.table ≡ c.decoder.table = ap (λ (x : DecodingEnd). x.table) is in
    let many : unreported c.decoder ≡ w.unreported = omega (arith, r.reported_is) in
    subst (λ (x : AbstractSession). RefinesSession maximum (with_decoder d c) x) (sym (reporting_is w))
    (written_back maximum c w d (increments (pieces_of w.unreported))
    (w.decoder_in_flight ++ increments (pieces_of w.unreported)) 0 c.streams w.streams r table
    (ap (λ (x : DecodingEnd). x.stream) is)
    (omega (arith, ap (λ (x : DecodingEnd). x.reported) is, ap insert_count table))
    (ap (λ (x : DecodingEnd). x.unsent) is
    ∙ ap (λ (b : List ℕ). b ++ written_decoder_instructions (increments (pieces_of (unreported c.decoder))))
    r.decoder_sent
    ∙ ap (λ (n : ℕ). written_decoder_instructions (increments (pieces_of n))) many)
    (increments_writable (pieces_of w.unreported) (pieces_small w.unreported))
    (report_under_way maximum limit w r.under_way (pieces_of w.unreported) holds r.thins) r.streams)

-- or nothing
pub none_written : (maximum : ℕ) (c : Connection) (w : AbstractSession) (d : DecodingEnd) → RefinesSession maximum c w
    → d ≡ c.decoder → RefinesSession maximum (with_decoder d c) w
none_written maximum c w d r is =
    nothing_back maximum c w d c.streams w.streams r (ap (λ (x : DecodingEnd). x.table) is)
    (ap (λ (x : DecodingEnd). x.stream) is) (ap (λ (x : DecodingEnd). x.reported) is)
    (ap (λ (x : DecodingEnd). x.unsent) is ∙ r.decoder_sent) r.streams

-- the decoder stream is taken
pub taken_refined : (maximum limit : ℕ) (c : Connection) (d : DecodingEnd) (steps : List EndStep)
    → RefinesSession maximum c (after_end_steps steps (abstract_start 0 maximum limit)) → IsOpen c
    → IsTaken c.decoder d
    → IsOpen (with_decoder d c) × (more : List EndStep)
    × RefinesSession maximum (with_decoder d c) (after_end_steps (steps ++ more) (abstract_start 0 maximum limit))
taken_refined maximum limit c d steps r alive (inl reports) =
    let start = abstract_start 0 maximum limit in
    let w = after_end_steps steps start in
    let holds = holds_behind 0 maximum limit steps start (holds_started 0 maximum limit (omega arith)) in (
      record {
        encoder = alive.encoder;
        decoder = ap (λ (x : DecodingEnd). x.failure) reports ∙ alive.decoder;
      },
      Report ∷ [],
      subst (λ (x : AbstractSession). RefinesSession maximum (with_decoder d c) x)
          (sym (after_more steps (Report ∷ []) start)) (all_reported maximum limit c w d r holds reports),
    )
taken_refined maximum limit c d steps r alive (inr same) =
    let start = abstract_start 0 maximum limit in (
      record {
        encoder = alive.encoder;
        decoder = ap (λ (x : DecodingEnd). x.failure) same ∙ alive.decoder;
      },
      [],
      subst (λ (es : List EndStep). RefinesSession maximum (with_decoder d c) (after_end_steps es start))
          (sym (append-nil steps)) (none_written maximum c (after_end_steps steps start) d r same),
    )
