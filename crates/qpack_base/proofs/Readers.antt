-- What a reader answers, in terms of spellings and of each fault.
use Rattle.std.proofs.Common.{◌≡◌, ℕ, ◌++◌, List, Result, Ok, Err, refl, sym, ap, ◌∙◌}
use Rattle.std.specs.Prelude.{IfOk, ◌↔◌}
use Rattle.qpack_spec.specs.Bytes.{Begins}
use Rattle.qpack_spec.specs.Integer.{IntegerFault, SpellsInteger, OverflowsInteger, TruncatesInteger, integer_at}
use Rattle.qpack_spec.proofs.Results.{ok_triple, pair_is}
use Rattle.qpack_spec.proofs.Integers.{integer_takes, integer_again, reads_faults}
use Rattle.qpack_base.specs.Cursor.{CursorView, MovesPast}
use Rattle.qpack_base.specs.Integers.{ReadsInteger, integer_fault_of}
use Rattle.qpack_base.specs.declared.prefix_int.Error.{Error}
use Rattle.qpack_base.specs.declared.prefix_int.Error.TheVariants.{Overflow, UnexpectedEnd}

pub integer_found : (n : ℕ) (old new : CursorView) (r : Result (ℕ × ℕ) Error)
    → ReadsInteger old new r (integer_at n old.rest)
    → IfOk r (λ x. (encoding : List ℕ) × SpellsInteger n encoding x.0 x.1 × MovesPast encoding old new)
integer_found n old new (Ok x) h = let t = integer_takes n old.rest x.0 x.1 new.rest h.0 in
    (t.encoding, t.spells, (t.parts, h.1))
integer_found n old new (Err e) h = tt

pub integer_only : (n : ℕ) (old new : CursorView) (r : Result (ℕ × ℕ) Error)
    → ReadsInteger old new r (integer_at n old.rest)
    → (encoding rest : List ℕ) (flags value : ℕ) → SpellsInteger n encoding flags value → old.rest ≡ encoding ++ rest
    → (r ≡ Ok (flags, value)) × MovesPast encoding old new
integer_only n old new (Ok x) h encoding rest flags value spells parts =
    let a : integer_at n old.rest ≡ Ok (flags, value, rest) = ap (integer_at n) parts
    ∙ integer_again n encoding rest flags value spells in
    let p = ok_triple x.0 flags x.1 value new.rest rest (sym h.0 ∙ a) in (
      ap (λ (y : ℕ × ℕ). Ok y) (pair_is x.0 flags x.1 value p.0 p.1),
      (parts ∙ ap (λ (l : List ℕ). encoding ++ l) (sym p.2), h.1),
    )
integer_only n old new (Err e) h encoding rest flags value spells parts =
    let a : integer_at n old.rest ≡ Ok (flags, value, rest) = ap (integer_at n) parts
    ∙ integer_again n encoding rest flags value spells in
    absurd cc

-- an error is this one exactly if the reading gives its fault
fault_is : (r : Result (ℕ × ℕ) Error) (old new : CursorView) (read : Result (ℕ × ℕ × List ℕ) IntegerFault) (e : Error)
    → ReadsInteger old new r read
    → (r ≡ Err e) ↔ (read ≡ Err (integer_fault_of e))
fault_is (Ok x) old new read e h = (λ p. absurd cc, λ p. absurd (let q = h.0 in cc))
fault_is (Err Overflow) old new read Overflow h = (λ p. h, λ p. refl)
fault_is (Err Overflow) old new read UnexpectedEnd h = (λ p. absurd cc, λ p. absurd (let q = sym h ∙ p in cc))
fault_is (Err UnexpectedEnd) old new read Overflow h = (λ p. absurd cc, λ p. absurd (let q = sym h ∙ p in cc))
fault_is (Err UnexpectedEnd) old new read UnexpectedEnd h = (λ p. h, λ p. refl)

pub integer_overflows : (n : ℕ) (old new : CursorView) (r : Result (ℕ × ℕ) Error)
    → ReadsInteger old new r (integer_at n old.rest)
    → (r ≡ Err Overflow) ↔ Begins (OverflowsInteger n) old.rest
integer_overflows n old new r h =
    let f = fault_is r old new (integer_at n old.rest) Overflow h in
    let g = (reads_faults n old.rest).0 in
    (λ e. g.0 (f.0 e), λ b. f.1 (g.1 b))

pub integer_truncates : (n : ℕ) (old new : CursorView) (r : Result (ℕ × ℕ) Error)
    → ReadsInteger old new r (integer_at n old.rest)
    → (r ≡ Err UnexpectedEnd) ↔ TruncatesInteger n old.rest
integer_truncates n old new r h =
    let f = fault_is r old new (integer_at n old.rest) UnexpectedEnd h in
    let g = (reads_faults n old.rest).1 in
    (λ e. g.0 (f.0 e), λ b. f.1 (g.1 b))
