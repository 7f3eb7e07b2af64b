-- What the session theorem says of the outcomes of the code.
use Rattle.std.specs.Prelude.{◌≡◌, ◌<◌, ℕ, List, [], ◌∷◌, ◌++◌, Some, Ok, Err}
use Rattle.qpack_rules.specs.Session as spec
use Rattle.qpack_rules.specs.Session.{Session, Run, initial_session}
use Rattle.qpack_spec.specs.Table.{insert_count}
use Rattle.qpack_safety.specs.Headline.{AnsweredEncode, next_encode}
use Rattle.qpack_safety.specs.SessionSafety.{AnswersFields}
use Rattle.h3_qpack.specs.Sessions.{SessionView, Reaches}
use Rattle.qpack_codec.specs.Stateless.{fields_in}
use Rattle.qpack_codec.specs.declared.error.DecoderError.{DecoderError}
use Rattle.qpack_codec.specs.declared.error.DecoderError.TheVariants as decoder
use Rattle.h3_qpack.specs.declared.session.Outcome.{Outcome}
use Rattle.h3_qpack.specs.declared.session.Outcome.TheVariants as outcome

-- no instruction is refused: a delivery to the decoder may run out of memory, and one to the encoder is heard
abbrev pub IsUnrefused : Outcome → Type 0
IsUnrefused (outcome.Delivered (Err e)) = e ≡ decoder.Memory
IsUnrefused (outcome.Heard (Err e)) = ⊥
IsUnrefused o = Unit {0}

-- the error reports the required insert count that the encode of the stream's next block returned, which exceeds the
-- insertions received
pub record WaitsFor (events : List (spec.Event × spec.Outcome)) (stream received : ℕ) (e : DecoderError) : Type 0 where
  pub encode : AnsweredEncode
  pub is_next : next_encode stream events ≡ Some encode
  pub exceeds : received < encode.required
  pub tells : e ≡ decoder.MissingRefs encode.required

-- a decode after these events, which lead to v, returns exactly the fields that were passed to the encode of its block,
-- with their size and whether any entry is required; or it runs out of memory, or waits
abbrev pub IsExact : List (spec.Event × spec.Outcome) → Session → spec.Event → Outcome → Type 0
IsExact events v (spec.Decode s) (outcome.Decoded (Ok d)) =
    AnswersFields events s (fields_in d.fields.items) d.mem_size d.dyn_ref
IsExact events v (spec.Decode s) (outcome.Decoded (Err decoder.Memory)) = Unit {0}
IsExact events v (spec.Decode s) (outcome.Decoded (Err e)) = WaitsFor events s (insert_count v.decoder) e
IsExact events v e o = Unit {0}

-- the outcome is exact after any events that led to the session before it
abbrev pub IsExactBehind : SessionView → spec.Event → Outcome → Type 0
IsExactBehind old e o =
    (capacity maximum limit : ℕ) (events : List (spec.Event × spec.Outcome)) (v : Session)
    → Reaches old capacity maximum limit events v → IsExact events v e o

-- each outcome of a run is exact in the session that those before it led to
abbrev pub AreExact : ℕ → ℕ → ℕ → List (spec.Event × spec.Outcome) → List (spec.Event × spec.Outcome) → List Outcome
    → Type 0
AreExact capacity maximum limit done [] [] = Unit {0}
AreExact capacity maximum limit done (step ∷ steps) (o ∷ os) =
    ((v : Session) × Run (initial_session capacity maximum limit) done v × IsExact done v step.0 o)
    × AreExact capacity maximum limit (done ++ step ∷ []) steps os
AreExact capacity maximum limit done steps os = ⊥
