-- Records of the offline interop's recordings.
use Rattle.std.specs.Prelude.{◌≡◌, ℕ, ◌<◌, ◌^◌, List, ◌++◌, length, Option, MatchOption}
use Rattle.std.specs.Borrow.{Bor}
use Rattle.std.specs.Int.{w32, w64, to_be_bytes}
use Rattle.qpk_qif.specs.declared.recording.Record.{Record}

-- a record: eight bytes of the stream's number and four of a length, each with the most significant byte first, and
-- that many bytes
abbrev pub written_record : ℕ → List ℕ → List ℕ
written_record stream bytes = to_be_bytes w64 stream ++ to_be_bytes w32 (length bytes) ++ bytes

-- this record was cut off, and this is after it
abbrev pub GivesRecord : Option (Record × Bor (List ℕ)) → ℕ → List ℕ → List ℕ → Type 0
GivesRecord o stream bytes rest = MatchOption o ⊥
    (λ p. (p.0.stream ≡ stream) × (p.0.bytes.now ≡ bytes) × (p.1.now ≡ rest))

-- any record at the front of the input was cut off
abbrev pub CutsRecord : List ℕ → Option (Record × Bor (List ℕ)) → Type 0
CutsRecord input o = (stream : ℕ) → (bytes rest : List ℕ) → stream < 2 ^ 64 → length bytes < 2 ^ 32
    → input ≡ written_record stream bytes ++ rest → GivesRecord o stream bytes rest
