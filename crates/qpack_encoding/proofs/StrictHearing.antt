-- Decoder instructions as a strict encoder applies them.
use Rattle.std.proofs.Common.{◌≡◌, ℕ, ◌+◌, ◌-◌, ◌≢◌, true, false, Option, None, Some, Ok, refl, sym, ap, ◌∙◌}
use Rattle.std.specs.Prelude.{nat_lt}
use Rattle.std.specs.Option.{unwrap_or}
use Rattle.std.proofs.lemmas.Bool.{eq-eqb, ne_eqb}
use Rattle.qpack_spec.specs.Instruction.{Acknowledgment, Cancellation, Increment}
use Rattle.qpack_spec.specs.Table.{Table, insert_count, with_increment, apply_decoder_instruction}
use Rattle.qpack_spec.specs.Window.{TableRefusal}
use Rattle.qpack_base.specs.Refusals.{IsRefusedFor}
use Rattle.qpack_table.specs.Tables.{oldest_required}
use Rattle.qpack_encoding.specs.Hearing.{strict_hear, known_at_least, TellsRefusal}
use Rattle.qpack_encoding.specs.declared.decoder_stream.HearingError.TheVariants as error

-- ---- increments

pub zero_increment : (t : Table) (by : ℕ) → by ≡ 0 → TellsRefusal error.ZeroIncrement (strict_hear t (Increment by))
unfolding strict_hear
zero_increment t by is = rw (eq-eqb by 0 is) refl

pub past_insertions : (t : Table) (by : ℕ) → by ≢ 0 → nat_lt (insert_count t) (t.known_received_count + by) ≡ true
    → TellsRefusal (error.IncrementPastInsertions by) (strict_hear t (Increment by))
unfolding strict_hear
past_insertions t by some past = rw (ne_eqb by 0 some, past) refl

pub raised : (t u : Table) (by : ℕ) → by ≢ 0 → nat_lt (insert_count t) (t.known_received_count + by) ≡ false
    → Ok u ≡ apply_decoder_instruction t (Increment by) → strict_hear t (Increment by) ≡ Ok u
unfolding strict_hear apply_decoder_instruction
raised t u by some within is =
    let same : u ≡ with_increment t by = cc in rw (ne_eqb by 0 some, within) (ap (λ (v : Table). Ok v) (sym same))

pub raised_to : (t u : Table) (count missing : ℕ) → missing ≡ count - t.known_received_count
    → Ok u ≡ apply_decoder_instruction t (Increment missing) → u ≡ known_at_least count t
unfolding apply_decoder_instruction
raised_to t u count missing less is =
    let same : u ≡ with_increment t missing = cc in same ∙ ap (λ (n : ℕ). with_increment t n) less

-- ---- cancellations

pub cancelled : (t u : Table) (stream : ℕ) → Ok u ≡ apply_decoder_instruction t (Cancellation stream)
    → strict_hear t (Cancellation stream) ≡ Ok u
unfolding strict_hear
cancelled t u stream is = rw (← is) refl

-- ---- acknowledgments

pub acknowledged : (t u v : Table) (stream required : ℕ) → apply_decoder_instruction t (Acknowledgment stream) ≡ Ok u
    → required ≡ unwrap_or (oldest_required stream t.unacknowledged) 0 → v ≡ known_at_least required u
    → strict_hear t (Acknowledgment stream) ≡ Ok v
unfolding strict_hear
acknowledged t u v stream required is needs raised = rw (is, ← needs, ← raised) refl

pub not_acknowledged : (t : Table) (stream : ℕ) (o : Option TableRefusal)
    → IsRefusedFor (apply_decoder_instruction t (Acknowledgment stream)) o
    → TellsRefusal (error.UnknownStream stream) (strict_hear t (Acknowledgment stream))
unfolding strict_hear
not_acknowledged t stream None refused = absurd refused
not_acknowledged t stream (Some refusal) refused = rw refused refl
