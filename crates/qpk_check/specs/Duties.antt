-- What an encoder owes to the decoder that reads from it (RFC 9204, sections 2.1.1 and 2.1.2).
use Rattle.std.specs.Prelude.{ℕ, nat_le, nat_lt, nat_eq, not, List, filter, position, Option}
use Rattle.qpk_check.specs.declared.duties.Needing.{Needing}
use Rattle.qpk_check.specs.declared.duties.AtRisk.{AtRisk}

-- the first section that is not acknowledged and references an entry up to this absolute index: none may be evicted
abbrev pub first_needing : ℕ → List Needing → Option ℕ
first_needing evicted sections = position (λ s. nat_le s.least evicted) sections

-- the streams that could be blocked, once this many insertions are known to be received
abbrev pub still_at_risk : ℕ → List AtRisk → List AtRisk
still_at_risk known streams = filter (λ s. nat_lt known s.required) streams

-- the streams that could be blocked, without one that is read no further
abbrev pub at_risk_without : ℕ → List AtRisk → List AtRisk
at_risk_without stream streams = filter (λ s. not (nat_eq s.stream stream)) streams
