-- Reading the lines of a block, behind those that were read, and what the answer tells.
use Rattle.std.proofs.Common.{◌≡◌, ℕ, zero, suc, ◌-◌, ◌<◌, ◌≤◌, List, [], ◌∷◌, ◌++◌, length, Option, None, Some}
use Rattle.std.proofs.Common.{Result, Ok, Err, map, refl, sym, ap, subst, ◌∙◌, append_assoc, append-nil, arith, inl}
use Rattle.std.proofs.Common.{inr}
use Rattle.std.specs.Global.{Vec}
use Rattle.std.specs.Prelude.{IfOk, IfErr}
use Rattle.qpack_spec.specs.Bytes.{Begins, ◌>>=◌}
use Rattle.qpack_spec.specs.Line.{Line}
use Rattle.qpack_spec.specs.Reading.{Block}
use Rattle.qpack_spec.proofs.Results.{ok_is}
use Rattle.qpack_base.specs.declared.parse_error.ParseError.{ParseError}
use Rattle.qpack_base.specs.declared.parse_error.ParseError.TheVariants.{Memory}
use Rattle.qpack_wire.specs.Alone.{KindFault}
use Rattle.qpack_wire.specs.Answers.{fault_of, ReadAs, Tells, FailsForm}
use Rattle.qpack_wire.specs.BlockLines.{line_of, line_at}
use Rattle.qpack_wire.specs.Blocks.{block_of, SpellsBlock, StopsBlock, GivesBlock, FindsBlockFault, GivesBlockFault}
use Rattle.qpack_wire.specs.Blocks.{lines_at, block_at, ReadsBlock}
use Rattle.qpack_wire.specs.Memory.{HoldsLine}
use Rattle.qpack_wire.specs.declared.block.line.BlockLine.{BlockLine}
use Rattle.qpack_wire.specs.declared.block.prefix.HeaderPrefix.{HeaderPrefix}
use Rattle.qpack_wire.proofs.Asking.{HasBegun}
use Rattle.qpack_wire.proofs.Blocks.{line_takes, behind, block_found, block_again, block_stopped}
use Rattle.qpack_wire.proofs.Blocks.{block_stops}

-- a fault of a part is the whole's
pub fails_on : {A B : Type 0} (e : ParseError) (read : Result A KindFault) (whole : Result B KindFault)
    → FailsForm e read
    → ((x : KindFault) → read ≡ Err x → whole ≡ Err x) → FailsForm e whole
fails_on Memory read whole h on = tt
fails_on e read whole h on = as_on (fault_of e) h
  where
    as_on : (o : Option KindFault) → ReadAs read o → ReadAs whole o
    as_on None h = h
    as_on (Some f) h = on f h

abbrev pub with_front : List Line → Result (List Line) KindFault → Result (List Line) KindFault
with_front front read = read >>= λ ls. Ok (front ++ ls)

-- lines that were read
abbrev pub good : List Line → Result (List Line) KindFault
good ls = Ok ls

-- ---- one turn of the loop: what was read stands in front, at most k lines are left

pub lines_end : (k : ℕ) (rest : List ℕ) (front : List Line) (whole : Result (List Line) KindFault)
    → with_front front (lines_at k rest) ≡ whole → length rest ≤ 0 → whole ≡ Ok front
unfolding lines_at
lines_end k [] front whole is none = sym is ∙ ap good (append-nil front)
lines_end k (b ∷ rest) front whole is none = absurd (omega (arith, none))

turn : (k : ℕ) (bytes : List ℕ) → 0 < k → 0 < length bytes → lines_at k bytes ≡ (line_at bytes >>= behind (k - 1))
unfolding lines_at
turn zero bytes h some = absurd (omega (arith, h))
turn (suc k) [] h some = absurd (omega (arith, some))
turn (suc k) (b ∷ bytes) h some = let e : suc k - 1 ≡ k = omega arith in rw e refl

front_more : (front : List Line) (l : Line) (read : Result (List Line) KindFault)
    → with_front front (read >>= λ ls. Ok (l ∷ ls)) ≡ with_front (front ++ l ∷ []) read
front_more front l (Ok ls) = ap good (sym (append_assoc front (l ∷ []) ls))
front_more front l (Err e) = refl

by_line : (k : ℕ) (rest : List ℕ) (front : List Line) (whole : Result (List Line) KindFault) → length rest ≤ k
    → with_front front (lines_at k rest) ≡ whole → 0 < length rest
    → with_front front (line_at rest >>= behind (k - 1)) ≡ whole
by_line k rest front whole fits is some =
    ap (with_front front) (sym (turn k rest (omega (arith, fits, some)) some)) ∙ is

pub turn_bad : (k : ℕ) (rest : List ℕ) (front : List Line) (whole : Result (List Line) KindFault) (e : ParseError)
    → length rest ≤ k → with_front front (lines_at k rest) ≡ whole → 0 < length rest → FailsForm e (line_at rest)
    → FailsForm e whole
turn_bad k rest front whole e fits is some bad =
    fails_on e (line_at rest) whole bad
    (λ x r. sym (by_line k rest front whole fits is some) ∙ ap (λ q. with_front front (q >>= behind (k - 1))) r)

-- what stands after a turn
pub record Goes (rest : List ℕ) (front : List Line) (whole : Result (List Line) KindFault) (l : Line) (more : List ℕ)
    : Type 0 where
  pub next : (k : ℕ) × (length more ≤ k) × (with_front (front ++ l ∷ []) (lines_at k more) ≡ whole)
  pub shorter : length more < length rest

pub turn_good : (k : ℕ) (rest : List ℕ) (front : List Line) (whole : Result (List Line) KindFault) (l : Line)
    (more : List ℕ)
    → length rest ≤ k → with_front front (lines_at k rest) ≡ whole → 0 < length rest → line_at rest ≡ Ok (l, more)
    → Goes rest front whole l more
turn_good k rest front whole l more fits is some read =
    let short = (line_takes rest l more read).shorter in
    record {
      next = (
        k - 1,
        omega (arith, short, fits),
        sym (front_more front l (lines_at (k - 1) more))
            ∙ sym (ap (λ q. with_front front (q >>= behind (k - 1))) read)
            ∙ by_line k rest front whole fits is some,
      );
      shorter = short;
    }

pub lines_more : (xs : List BlockLine) (x : BlockLine) → map line_of (xs ++ x ∷ []) ≡ map line_of xs ++ line_of x ∷ []
lines_more [] x = refl
lines_more (y ∷ xs) x = ap (λ (ls : List Line). line_of y ∷ ls) (lines_more xs x)

-- a line was read, so that the first was
pub line_begun : (all rest : List ℕ) (l : Line) (more : List ℕ) → HasBegun all rest → line_at rest ≡ Ok (l, more)
    → Begins HoldsLine all
line_begun all rest l more (inl e) read =
    let t = line_takes rest l more read in
    subst (Begins HoldsLine) e (record { encoding = t.encoding; rest = more; parts = t.parts; holds = (l, t.spells) })
line_begun all rest l more (inr h) read = h

-- ---- the answer

abbrev Answer : Type 0
Answer = Result (HeaderPrefix × Vec BlockLine) ParseError

pub found : (bytes : List ℕ) (r : Answer) → ReadsBlock r (block_at bytes)
    → IfOk r (λ b. SpellsBlock bytes (block_of b))
found bytes (Ok b) h = block_found bytes (block_of b) h
found bytes (Err e) h = tt

-- an error where a block was read is want of memory
no_block : (e : ParseError) (read : Result Block KindFault) (b : Block) → FailsForm e read → read ≡ Ok b → e ≡ Memory
no_block Memory read b h q = refl
no_block e read b h q = absurd (not_read (fault_of e) h)
  where
    not_read : (o : Option KindFault) → ReadAs read o → ⊥
    not_read None h = h
    not_read (Some f) h = absurd cc

pub only : (bytes : List ℕ) (r : Answer) → ReadsBlock r (block_at bytes) → (b : Block) → SpellsBlock bytes b
    → GivesBlock r b
only bytes (Ok c) h b s = ok_is (block_of c) b (sym h ∙ block_again bytes b s)
only bytes (Err e) h b s = no_block e (block_at bytes) b h (block_again bytes b s)

pub refused : (bytes : List ℕ) (r : Answer) → ReadsBlock r (block_at bytes) → IfErr r (FindsBlockFault bytes)
refused bytes (Ok b) h = tt
refused bytes (Err Memory) h = λ none. absurd (none refl)
refused bytes (Err e) h = λ none. tells (fault_of e) refl h
  where
    tells : (o : Option KindFault) → fault_of e ≡ o → ReadAs (block_at bytes) o
        → (fault : KindFault) × Tells e fault × StopsBlock bytes fault
    tells None q h = absurd h
    tells (Some f) q h = (f, q, block_stopped bytes f h)

pub told : (bytes : List ℕ) (r : Answer) → ReadsBlock r (block_at bytes) → (fault : KindFault)
    → StopsBlock bytes fault → GivesBlockFault r fault
told bytes (Ok b) h fault s = let q = block_stops bytes fault s in absurd cc
told bytes (Err e) h fault s =
    subst (λ (q : Result Block KindFault). FailsForm e q) (block_stops bytes fault s) h
