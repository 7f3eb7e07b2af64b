-- The streams that the decoder of a connection counts as blocked wait with their next sections (RFC 9204, section
-- 2.1.2).
use Rattle.std.specs.Prelude.{◌≡◌, false, Some}
use Rattle.std.specs.List.{AllByRecursion}
use Rattle.qpack_rules.specs.Session.{stream_at, oldest_undecoded}
use Rattle.qpack_shared.specs.declared.streams.BlockedStream.{BlockedStream}
pub use Rattle.qpack_decoding.specs.Blocked.{AreOfOneEach}
use Rattle.qpack_connection.specs.Connections.{SentSection, Connection}

-- the stream is not cancelled, and its next section requires this many insertions
pub record IsNextOf (c : Connection) (b : BlockedStream) : Type 0 where
  pub live : (stream_at c.streams b.stream).cancelled ≡ false
  pub section : SentSection
  pub next : oldest_undecoded (stream_at c.streams b.stream) ≡ Some section
  pub required_is : b.required ≡ section.required

-- so is each of those that the decoder counts, and each is counted once
pub record BlockedAreNext (c : Connection) : Type 0 where
  pub once : AreOfOneEach c.decoder.blocked
  pub next : AllByRecursion (IsNextOf c) c.decoder.blocked
