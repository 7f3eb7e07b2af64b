-- No section requires more insertions than were made, and all are received once nothing is under way.
use Rattle.std.proofs.Common.{ℕ, ◌<◌, ◌≤◌, ◌≡◌, false, List, [], length, Some, sym, ap, ◌∙◌, subst, inl, inr, ◌⊎◌, arith}
use Rattle.std.proofs.lemmas.Bool.{cases_lt}
use Rattle.qpack_spec.specs.History.{History, Leads}
use Rattle.qpack_spec.specs.Instruction.{EncoderInstruction}
use Rattle.qpack_spec.specs.Reading.{greatest_of}
use Rattle.qpack_rules.specs.Session.{stream_at, oldest_undecoded}
use Rattle.qpack_spec.specs.Table.{insert_count}
use Rattle.qpack_spec.specs.Window.{window_insert_count}
use Rattle.qpack_spec.proofs.Drafts.{IsLive, count_inserted}
use Rattle.qpack_spec.proofs.Readings.{greatest_has}
use Rattle.qpack_safety.specs.AbstractSession.{AbstractBlock, required_count, AbstractSession}
use Rattle.qpack_safety.proofs.Invariant.{Invariant, sound_received, sound_made, total_window}
use Rattle.qpack_safety.proofs.Safely.{undecoded_live}

pub required_made : (capacity maximum limit : ℕ) (w : AbstractSession) (k : Invariant capacity maximum limit w) (s : ℕ)
    (b : AbstractBlock) → (stream_at w.streams s).cancelled ≡ false
    → oldest_undecoded (stream_at w.streams s) ≡ Some b → required_count b ≤ insert_count w.encoder
required_made capacity maximum limit w k s b live there = pick (cases_lt 0 (greatest_of b.referenced))
  where
    pick : (0 < greatest_of b.referenced) ⊎ (greatest_of b.referenced ≤ 0) → required_count b ≤ insert_count w.encoder
    pick (inl positive) =
        (greatest_has (IsLive w.encoder) b.referenced positive
        (undecoded_live capacity maximum limit w k s b live there positive)).1
    pick (inr none) = omega (arith, none)

pub all_taken : (capacity maximum limit : ℕ) (w : AbstractSession) → Invariant capacity maximum limit w
    → w.in_flight ≡ [] → window_insert_count w.decoder ≡ insert_count w.encoder
all_taken capacity maximum limit w k none =
    let same : k.received ≡ k.made =
    subst (λ (is : List EncoderInstruction). Leads k.received is k.made) none k.in_flight_leads in
    ap window_insert_count k.decoder ∙ total_window k.received (sound_received capacity maximum limit w k)
    ∙ ap (λ (h : History). length h.inserted) same
    ∙ sym (count_inserted w.encoder k.made k.encoder.shares (sound_made capacity maximum limit w k))
