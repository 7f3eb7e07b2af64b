-- Where instructions are on their stream (RFC 9204, section 4.2).
use Rattle.std.specs.Prelude.{ℕ, ◌+◌, List, length}
use Rattle.qpack_spec.specs.Stateless.{saturated_size}
use Rattle.qpack_shared.specs.declared.place.Place.{Place}

-- the first instruction's place
abbrev pub first_place : Place
first_place = record { number = 1; offset = 0 }

-- the place after this many instructions of this many bytes together; both numbers saturate
abbrev pub passed : Place → ℕ → ℕ → Place
passed p many len = record { number = saturated_size (p.number + many); offset = saturated_size (p.offset + len) }

-- the place after these instructions, which are these bytes
abbrev pub behind : {L : Type 0} → List L → List ℕ → Place
behind lines front = passed first_place (length lines) (length front)
