-- A whole encoded field section: its prefix and its lines (RFC 9204, section 4.5).
use Rattle.std.specs.Prelude.{◌≡◌, ◌≢◌, ℕ, zero, suc, ◌⊎◌, List, [], ◌∷◌, ◌++◌, length, map, Result, Ok, Err}
use Rattle.std.specs.Global.{Vec}
use Rattle.qpack_spec.specs.Bytes.{◌>>=◌}
use Rattle.qpack_spec.specs.Form.{InTurn}
use Rattle.qpack_spec.specs.Line.{Line, SpellsLine}
use Rattle.qpack_spec.specs.Prefix.{SpellsPrefix}
use Rattle.qpack_spec.specs.Reading.{Block}
use Rattle.qpack_spec.specs.Stream.{SpellsAll}
use Rattle.qpack_base.specs.declared.parse_error.ParseError.{ParseError}
use Rattle.qpack_base.specs.declared.parse_error.ParseError.TheVariants.{Memory}
use Rattle.qpack_wire.specs.Alone.{KindFault}
use Rattle.qpack_wire.specs.Answers.{Tells, FailsForm}
use Rattle.qpack_wire.specs.BlockLines.{line_of, line_at}
use Rattle.qpack_wire.specs.Memory.{HoldsPrefix}
use Rattle.qpack_wire.specs.Prefixes.{prefix_of, read_prefix_at}
use Rattle.qpack_wire.specs.declared.block.line.BlockLine.{BlockLine}
use Rattle.qpack_wire.specs.declared.block.prefix.HeaderPrefix.{HeaderPrefix}

-- the lines that values of the code represent
abbrev pub lines_of : Vec BlockLine → List Line
lines_of lines = map line_of lines.items

-- the block that values of the code represent
abbrev pub block_of : HeaderPrefix × Vec BlockLine → Block
block_of b = record { prefix = prefix_of b.0; lines = lines_of b.1 }

-- the bytes are the block: its prefix, then its lines, one after the other
abbrev pub SpellsBlock : List ℕ → Block → Type 0
SpellsBlock encoding b = InTurn (λ t. SpellsPrefix t b.prefix) (λ t. SpellsAll SpellsLine t b.lines) encoding

-- after whole lines the next one can't be read
pub record StopsLines (bytes : List ℕ) (fault : KindFault) : Type 0 where
  pub lines : List Line
  pub front : List ℕ
  pub next : ℕ
  pub more : List ℕ
  pub cut : bytes ≡ front ++ next ∷ more
  pub joined : SpellsAll SpellsLine front lines
  pub stops : line_at (next ∷ more) ≡ Err fault

-- why the bytes are no block: their prefix can't be read, or a line after a whole prefix
abbrev pub StopsBlock : List ℕ → KindFault → Type 0
StopsBlock bytes fault = (read_prefix_at bytes ≡ Err fault) ⊎ InTurn HoldsPrefix (λ t. StopsLines t fault) bytes

-- the result is this block, or memory was refused
abbrev pub GivesBlock : Result (HeaderPrefix × Vec BlockLine) ParseError → Block → Type 0
GivesBlock (Ok r) b = block_of r ≡ b
GivesBlock (Err e) b = e ≡ Memory

-- the error reports why the bytes are no block, or memory was refused
abbrev pub FindsBlockFault : List ℕ → ParseError → Type 0
FindsBlockFault bytes e = (e ≢ Memory) → (fault : KindFault) × Tells e fault × StopsBlock bytes fault

-- the result is this fault, or memory was refused
abbrev pub GivesBlockFault : Result (HeaderPrefix × Vec BlockLine) ParseError → KindFault → Type 0
GivesBlockFault (Ok r) fault = ⊥
GivesBlockFault (Err e) fault = FailsForm {A = Block} e (Err fault)

-- ---- reading from left to right

-- the lines in turn, in at most this many steps
unfoldable pub lines_at : ℕ → List ℕ → Result (List Line) KindFault
lines_at steps [] = Ok []
lines_at zero (b ∷ bytes) = Ok []
lines_at (suc steps) (b ∷ bytes) = line_at (b ∷ bytes) >>= λ r. lines_at steps r.1 >>= λ ls. Ok (r.0 ∷ ls)

-- the lines of the bytes after a prefix; each takes a byte at least
abbrev pub lines_in : List ℕ → Result (List Line) KindFault
lines_in bytes = lines_at (length bytes) bytes

-- the block that the bytes are
abbrev pub block_at : List ℕ → Result Block KindFault
block_at bytes = read_prefix_at bytes >>= λ p. lines_in p.1 >>= λ ls. Ok (record { prefix = p.0; lines = ls })

-- the lines that were read, or why there are none
abbrev pub ReadsLines : Result (Vec BlockLine) ParseError → Result (List Line) KindFault → Type 0
ReadsLines (Ok lines) read = read ≡ Ok (lines_of lines)
ReadsLines (Err e) read = FailsForm e read

-- the block that was read, or why there is none
abbrev pub ReadsBlock : Result (HeaderPrefix × Vec BlockLine) ParseError → Result Block KindFault → Type 0
ReadsBlock (Ok r) read = read ≡ Ok (block_of r)
ReadsBlock (Err e) read = FailsForm e read
