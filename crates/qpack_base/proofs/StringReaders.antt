-- What a reader of strings answers, in terms of literals and of each refusal.
use Rattle.std.proofs.Common.{◌≡◌, ℕ, List, ◌++◌, Result, Ok, Err, refl, sym, ap}
use Rattle.std.proofs.Common.{subst, ◌∙◌}
use Rattle.std.specs.Prelude.{IfOk, ◌↔◌}
use Rattle.std.specs.Global.{Vec}
use Rattle.qpack_spec.specs.Bytes.{Begins}
use Rattle.qpack_spec.specs.Huffman.{HuffmanFault}
use Rattle.qpack_spec.specs.Text.{StringFault, EndsEarly, LengthOverflows, BadHuffman, SpellsString, RefusesString}
use Rattle.qpack_spec.specs.Text.{TruncatesString, string_at}
use Rattle.qpack_spec.proofs.Results.{ok_triple}
use Rattle.qpack_spec.proofs.Texts.{string_takes, string_again, reads_refusals, reads_truncation}
use Rattle.qpack_base.specs.declared.prefix_int.Error.TheVariants as integer
use Rattle.qpack_base.specs.declared.prefix_string.Error.{Error}
use Rattle.qpack_base.specs.declared.prefix_string.Error.TheVariants.{UnexpectedEnd, Integer, HuffmanDecoding}
use Rattle.qpack_base.specs.declared.prefix_string.Error.TheVariants.{Memory}
use Rattle.qpack_base.specs.Cursor.{CursorView, MovesPast}
use Rattle.qpack_base.specs.Payloads.{huffman_fault_of}
use Rattle.qpack_base.specs.Strings.{IsWhole, FailsString, ReadsString, GivesValue, IsFaulty, GivesFault}

-- ---- the clauses of a reader

abbrev Read : Type 0
Read = Result (ℕ × List ℕ × List ℕ) StringFault

pub string_found : (n : ℕ) (old new : CursorView) (r : Result (Vec ℕ) Error)
    → ReadsString old new r (string_at n old.rest)
    → IfOk r (λ v. (encoding : List ℕ) × (flags : ℕ) × SpellsString n encoding flags v.items
    × MovesPast encoding old new)
string_found n old new (Ok v) h =
    let t = string_takes n old.rest h.0.0 v.items new.rest h.0.1 in (t.encoding, h.0.0, t.spells, (t.parts, h.1))
string_found n old new (Err e) h = tt

refused_else : (encoding : List ℕ) (old new : CursorView) (flags : ℕ) (value rest : List ℕ) (e : Error) (read : Read)
    → read ≡ Ok (flags, value, rest) → FailsString e read → GivesValue (Err e) value (MovesPast encoding old new)
refused_else encoding old new flags value rest UnexpectedEnd read is h = absurd cc
refused_else encoding old new flags value rest (Integer integer.Overflow) read is h = absurd cc
refused_else encoding old new flags value rest (HuffmanDecoding e) read is h = absurd cc
refused_else encoding old new flags value rest Memory read is h = tt
refused_else encoding old new flags value rest e read is h = absurd h

pub string_only : (n : ℕ) (old new : CursorView) (r : Result (Vec ℕ) Error)
    → ReadsString old new r (string_at n old.rest)
    → (encoding rest : List ℕ) (flags : ℕ) (value : List ℕ) → SpellsString n encoding flags value → old.rest ≡ encoding
    ++ rest
    → GivesValue r value (MovesPast encoding old new)
string_only n old new (Ok v) h encoding rest flags value spells parts =
    let a = ap (string_at n) parts ∙ string_again n encoding rest flags value spells in
    let p = ok_triple h.0.0 flags v.items value new.rest rest (sym h.0.1 ∙ a) in
    (p.1, (parts ∙ ap (λ (l : List ℕ). encoding ++ l) (sym p.2), h.1))
string_only n old new (Err e) h encoding rest flags value spells parts =
    refused_else encoding old new flags value rest e (string_at n old.rest) (ap (string_at n) parts
    ∙ string_again n encoding rest flags value spells) h

-- an error is one of the bytes exactly if the reading gives its fault
overflow_is : (old new : CursorView) (r : Result (Vec ℕ) Error) (read : Read) → ReadsString old new r read
    → (r ≡ Err (Integer integer.Overflow)) ↔ (read ≡ Err LengthOverflows)
overflow_is old new (Ok v) read h = (λ p. absurd cc, λ p. absurd (let q = h.0.1 in cc))
overflow_is old new (Err UnexpectedEnd) read h = (λ p. absurd cc, λ p. absurd (let q = sym h ∙ p in cc))
overflow_is old new (Err (Integer integer.Overflow)) read h = (λ p. h, λ p. refl)
overflow_is old new (Err (HuffmanDecoding e)) read h = (λ p. absurd cc, λ p. absurd (let q = sym h ∙ p in cc))
overflow_is old new (Err Memory) read h = (λ p. absurd cc, λ p. absurd (subst IsWhole p h))
overflow_is old new (Err e) read h = absurd h

end_is : (old new : CursorView) (r : Result (Vec ℕ) Error) (read : Read) → ReadsString old new r read
    → (r ≡ Err UnexpectedEnd) ↔ (read ≡ Err EndsEarly)
end_is old new (Ok v) read h = (λ p. absurd cc, λ p. absurd (let q = h.0.1 in cc))
end_is old new (Err UnexpectedEnd) read h = (λ p. h, λ p. refl)
end_is old new (Err (Integer integer.Overflow)) read h = (λ p. absurd cc, λ p. absurd (let q = sym h ∙ p in cc))
end_is old new (Err (HuffmanDecoding e)) read h = (λ p. absurd cc, λ p. absurd (let q = sym h ∙ p in cc))
end_is old new (Err Memory) read h = (λ p. absurd cc, λ p. absurd (subst IsWhole p h))
end_is old new (Err e) read h = absurd h

faulty_is : (old new : CursorView) (r : Result (Vec ℕ) Error) (read : Read) (fault : HuffmanFault)
    → ReadsString old new r read → IsFaulty r fault → read ≡ Err (BadHuffman fault)
faulty_is old new (Err (HuffmanDecoding e)) read fault h f = h ∙ ap (λ (g : HuffmanFault). Err (BadHuffman g)) f
faulty_is old new r read fault h f = absurd f

same_bad : (f g : HuffmanFault) (read : Read) → read ≡ Err (BadHuffman f) → read ≡ Err (BadHuffman g) → f ≡ g
same_bad f g read p q = cc

gives_fault : (old new : CursorView) (r : Result (Vec ℕ) Error) (read : Read) (fault : HuffmanFault)
    → ReadsString old new r read → read ≡ Err (BadHuffman fault) → GivesFault r fault
gives_fault old new (Ok v) read fault h e = absurd (let q = h.0.1 in cc)
gives_fault old new (Err UnexpectedEnd) read fault h e = absurd (let q = sym h ∙ e in cc)
gives_fault old new (Err (Integer integer.Overflow)) read fault h e = absurd (let q = sym h ∙ e in cc)
gives_fault old new (Err (HuffmanDecoding d)) read fault h e = same_bad (huffman_fault_of d) fault read h e
gives_fault old new (Err Memory) read fault h e = tt
gives_fault old new (Err d) read fault h e = absurd h

pub string_overflows : (n : ℕ) (old new : CursorView) (r : Result (Vec ℕ) Error)
    → ReadsString old new r (string_at n old.rest)
    → (r ≡ Err (Integer integer.Overflow)) ↔ Begins (λ encoding. RefusesString n encoding LengthOverflows) old.rest
string_overflows n old new r h =
    let f = overflow_is old new r (string_at n old.rest) h in
    let g = (reads_refusals n old.rest).0 in
    (λ e. g.0 (f.0 e), λ b. f.1 (g.1 b))

pub string_truncates : (n : ℕ) (old new : CursorView) (r : Result (Vec ℕ) Error)
    → ReadsString old new r (string_at n old.rest) → (r ≡ Err UnexpectedEnd) ↔ TruncatesString n old.rest
string_truncates n old new r h =
    let f = end_is old new r (string_at n old.rest) h in
    let g = reads_truncation n old.rest in
    (λ e. g.0 (f.0 e), λ b. f.1 (g.1 b))

pub string_faulty : (n : ℕ) (old new : CursorView) (r : Result (Vec ℕ) Error)
    → ReadsString old new r (string_at n old.rest)
    → (fault : HuffmanFault) → IsFaulty r fault
    → Begins (λ encoding. RefusesString n encoding (BadHuffman fault)) old.rest
string_faulty n old new r h fault f = ((reads_refusals n old.rest).1 fault).0
    (faulty_is old new r (string_at n old.rest) fault h f)

pub string_refused : (n : ℕ) (old new : CursorView) (r : Result (Vec ℕ) Error)
    → ReadsString old new r (string_at n old.rest)
    → (fault : HuffmanFault) → Begins (λ encoding. RefusesString n encoding (BadHuffman fault)) old.rest
    → GivesFault r fault
string_refused n old new r h fault b = gives_fault old new r (string_at n old.rest) fault h
    (((reads_refusals n old.rest).1 fault).1 b)
