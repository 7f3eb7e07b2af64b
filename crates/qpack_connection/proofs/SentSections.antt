-- Sections that a stream of a connection keeps.
use Rattle.std.proofs.Common.{◌≡◌, ℕ, List, Some, Result, Ok, Err, IfOk, OnErr, IsSome, nat_eq, subst, refl, sym}
use Rattle.std.proofs.Common.{ap, ◌∙◌, arith}
use Rattle.std.proofs.lemmas.Bool.Decides.{nat_tests}
use Rattle.std.specs.BTreeMap.{BTreeMap, is_at, WritesThrough}
use Rattle.std.specs.Map.{lookup}
use Rattle.std.specs.Ordering.{nat_cmp}
use Rattle.std.specs.Prelude.{if◌then◌else◌}
use Rattle.qpack_base.specs.declared.coding.NoMemory.{NoMemory}
use Rattle.qpack_spec.specs.Field.{FieldLine}
use Rattle.qpack_rules.specs.Session.{RequestStream, stream_at}
use Rattle.qpack_codec.proofs.Streams.{stream_found, stream_put}
use Rattle.qpack_codec.specs.RequestStreams.{KeepsStreams, ChangesStream}
use Rattle.qpack_encoding.specs.declared.encoder.EncodingError.{EncodingError}
use Rattle.qpack_connection.specs.ConnectionEvents.{Sends, SendsAmong}
use Rattle.qpack_connection.specs.Connections.{SentSection}
use Rattle.qpack_encoding.specs.Encoders.{EncodingEnd}

module _ (before opened : List (ℕ × RequestStream SentSection)) (m n : BTreeMap ℕ (RequestStream SentSection))
    (number : ℕ) (seen k : RequestStream SentSection) where
  abbrev IsWritten : Type 0
  IsWritten =
      KeepsStreams before opened × (m.entries ≡ opened) × (Some seen ≡ lookup (is_at (nat_cmp number)) m.entries)
      × WritesThrough nat_cmp (nat_cmp number) m k n

  same_seen : IsWritten → seen ≡ stream_at before number
  same_seen h =
      sym (stream_found m.entries number seen h.2)
      ∙ ap (λ (l : List (ℕ × RequestStream SentSection)). stream_at l number) h.1 ∙ h.0 number

  changes : IsWritten → ChangesStream number k before n.entries
  changes h q =
      stream_put m n number k (h.3.3 (subst (λ o. IsSome o) h.2 refl)) q
      ∙ ap (λ (x : RequestStream SentSection). if nat_eq number q then k else x)
      (ap (λ (l : List (ℕ × RequestStream SentSection)). stream_at l q) h.1 ∙ h.0 q)

  -- the section was kept at the stream that was looked up
  pub sent_among : (fields : List FieldLine) (e e' : EncodingEnd) (r : Result (Result ℕ EncodingError) NoMemory)
      → IsWritten → IfOk r (λ answer. Sends number fields e e' seen k answer)
      → IfOk r (λ answer. SendsAmong number fields e e' before n.entries answer)
  sent_among fields e e' (Ok answer) h w =
      record {
        stream = k;
        sends = subst (λ (x : RequestStream SentSection). Sends number fields e e' x k answer) (same_seen h) w;
        changes = changes h;
      }
  sent_among fields e e' (Err x) h w = tt

  -- or the streams stay, as the one that was looked up does
  pub kept_among : (r : Result (Result ℕ EncodingError) NoMemory) → IsWritten → OnErr r (k ≡ seen)
      → OnErr r (KeepsStreams before n.entries)
  kept_among (Ok answer) h w = tt
  kept_among (Err x) h w = λ q.
      grind (arith, nat_tests, changes h q, same_seen h, w)
