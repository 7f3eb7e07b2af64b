-- Streams that are blocked, or may be (RFC 9204, section 2.1.2).
use Rattle.std.specs.Prelude.{ℕ, List, filter, nat_eq, not}
use Rattle.qpack_shared.specs.declared.streams.BlockedStream.{BlockedStream}

-- the streams without this one
abbrev pub without : ℕ → List BlockedStream → List BlockedStream
without stream bs = filter (λ b. not (nat_eq b.stream stream)) bs
