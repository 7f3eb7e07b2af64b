-- Every step keeps the invariant, and so every run does.
use Rattle.std.proofs.Common.{ℕ, List, [], ◌∷◌, ◌++◌, refl}
use Rattle.std.specs.Prelude.{nat_eq}
use Rattle.std.proofs.lemmas.Bool.{cond_both, eqb-true}
use Rattle.qpack_rules.specs.Session.{stream_at, sum_of, increments, is_read}
use Rattle.qpack_safety.specs.AbstractSession.{AbstractSession, SmallStep, Encode, Abandon, Resize, Take, Report, Hear}
use Rattle.qpack_safety.specs.AbstractSession.{Decode, Acknowledge, Cancel, EncodeChosen, AbandonChosen, EncodeAlone}
use Rattle.qpack_safety.specs.AbstractSession.{Forget}
use Rattle.qpack_safety.specs.AbstractSession.{next_reading, waits_for_acknowledgment}
use Rattle.qpack_safety.specs.AbstractSession.{after_step, after_steps}
use Rattle.qpack_safety.proofs.Invariant.{Invariant}
use Rattle.qpack_safety.proofs.Encoding.{inv_encoded, inv_chosen, inv_abandoned, inv_abandoned_chosen, inv_alone}
use Rattle.qpack_safety.proofs.Encoding.{inv_forgotten}
use Rattle.qpack_safety.proofs.Taking.{inv_takes, inv_reported}
use Rattle.qpack_safety.proofs.Hearing.{inv_hears}
use Rattle.qpack_safety.proofs.Decoding.{inv_decoded, inv_acked, inv_cancelled}
use Rattle.qpack_safety.proofs.Resizing.{inv_with_resized}

inv_happens : (capacity maximum limit : ℕ) (w : AbstractSession) (e : SmallStep) → Invariant capacity maximum limit w
    → Invariant capacity maximum limit (after_step w e)
inv_happens capacity maximum limit w (Encode s fs) k = inv_encoded capacity maximum limit w s fs k
inv_happens capacity maximum limit w (Abandon fs) k = inv_abandoned capacity maximum limit w fs k
inv_happens capacity maximum limit w (Resize n) k = inv_with_resized capacity maximum limit w n k
inv_happens capacity maximum limit w Take k = inv_takes capacity maximum limit w w.in_flight refl k
inv_happens capacity maximum limit w (Report ps) k =
    cond_both (nat_eq (sum_of ps) w.unreported)
    (record w { decoder_in_flight = w.decoder_in_flight ++ increments ps; unreported = 0 }) w
    (Invariant capacity maximum limit)
    (λ t. inv_reported capacity maximum limit w ps (eqb-true (sum_of ps) w.unreported t) k) (λ _. k)
inv_happens capacity maximum limit w Hear k = inv_hears capacity maximum limit w w.decoder_in_flight refl k
inv_happens capacity maximum limit w (Decode s) k =
    cond_both (is_read (next_reading w s)) _ w (Invariant capacity maximum limit)
    (λ _. inv_decoded capacity maximum limit w s k)
    (λ _. k)
inv_happens capacity maximum limit w (Acknowledge s) k =
    cond_both (waits_for_acknowledgment (stream_at w.streams s)) _ w (Invariant capacity maximum limit)
    (λ t. inv_acked capacity maximum limit w s t k) (λ _. k)
inv_happens capacity maximum limit w (Cancel s) k =
    cond_both (stream_at w.streams s).cancelled w _ (Invariant capacity maximum limit) (λ _. k)
    (λ _. inv_cancelled capacity maximum limit w s k)
inv_happens capacity maximum limit w (EncodeChosen s ls cs) k = inv_chosen capacity maximum limit w s ls cs k
inv_happens capacity maximum limit w (AbandonChosen ls cs) k = inv_abandoned_chosen capacity maximum limit w ls cs k
inv_happens capacity maximum limit w (EncodeAlone s ls) k = inv_alone capacity maximum limit w s ls k
inv_happens capacity maximum limit w (Forget s) k = inv_forgotten capacity maximum limit w s k

pub inv_run : (capacity maximum limit : ℕ) (es : List SmallStep) (w : AbstractSession)
    → Invariant capacity maximum limit w
    → Invariant capacity maximum limit (after_steps es w)
inv_run capacity maximum limit [] w k = k
inv_run capacity maximum limit (e ∷ es) w k =
    inv_run capacity maximum limit es (after_step w e) (inv_happens capacity maximum limit w e k)
