-- What waits of an encoder instruction is shorter than what is wanted of it, which is little for its field.
use Rattle.std.proofs.Common.{◌≡◌, ℕ, suc, ◌+◌, ◌*◌, ◌/◌, ◌%◌, ◌<◌, ◌≤◌, Bool, true, false, cond, List, [], ◌∷◌}
use Rattle.std.proofs.Common.{length, take, drop, Option, None, Some, Result, Ok, Err, refl, ap, arith, inl, inr, ◌-◌}
use Rattle.std.specs.Prelude.{nat_lt, ◌==◌}
use Rattle.std.proofs.lemmas.Bool.{ltb-true, ltb-false, cases_lt}
use Rattle.std.proofs.lemmas.List.{length-drop}
use Rattle.qpack_spec.specs.Huffman.{HuffmanFault, AreBytes}
use Rattle.qpack_spec.specs.Integer.{IntegerFault, integer_at}
use Rattle.qpack_spec.specs.Text.{BadHuffman, string_at, value_before}
use Rattle.qpack_spec.specs.Form.{BadString, is_cut, Form, Index, IndexAndValue, NameAndValue}
use Rattle.qpack_spec.specs.Form.{value_at, made_at, in_form, form_at}
use Rattle.qpack_spec.specs.Instruction.{encoder_instruction_form}
use Rattle.qpack_spec.specs.Wanted.{string_end, value_wanted, value_behind_index_wanted, value_behind_name_wanted}
use Rattle.qpack_spec.specs.Wanted.{wanted_in, wanted}
use Rattle.qpack_rules.proofs.Waiting.{IsCut, meaning_of, string_whole, reads_integer, whole_name, ends_early}
use Rattle.qpack_rules.proofs.WaitingBytes.{waiting_bytes_few}
use Rattle.qpack_spec.specs.Table.{Table}
use Rattle.qpack_decoding.specs.Receiving.{MayGrow}

-- a value whose payload is there does not end early
value_whole : {L : Type 0} (make : List ℕ → L) (bytes : List ℕ) (x : ℕ × ℕ × List ℕ) → integer_at 7 bytes ≡ Ok x
    → x.1 ≤ length x.2 → IsCut (value_at make bytes) → ⊥
value_whole {L} make bytes x q whole cut = go (meaning_of x.0 (take x.1 x.2)) (string_whole 8 bytes x q whole)
  where
    go : (r : Result (List ℕ) HuffmanFault) → string_at 8 bytes ≡ value_before (x.0 / 2) (drop x.1 x.2) r → ⊥
    go (Err f) e =
        let h = rw e at cut.2 in let same : BadString (BadHuffman f) ≡ cut.0 = cc in let c = ap is_cut same in
        let d = cut.1 in absurd cc
    go (Ok text) e = let h = rw e at cut.2 in absurd cc

value_short : {L : Type 0} (make : List ℕ → L) (seen : ℕ) (bytes : List ℕ) → length bytes ≤ seen
    → IsCut (value_at make bytes) → seen < value_wanted seen (integer_at 7 bytes)
value_short {L} make seen bytes behind cut = go (integer_at 7 bytes) refl
  where
    go : (r : Result (ℕ × ℕ × List ℕ) IntegerFault) → integer_at 7 bytes ≡ r → seen < value_wanted seen r
    go (Err d) q = omega arith
    go (Ok x) q =
        elim (cases_lt (length x.2) x.1) [
          | inl lt ↦ omega (arith, lt, (reads_integer 7 bytes x q).behind, behind)
          | inr le ↦ absurd (value_whole make bytes x q le cut)
        ]

index_short : {L : Type 0} (n : ℕ) (make : ℕ → List ℕ → L) (bytes : List ℕ)
    → IsCut (made_at (IndexAndValue n make) bytes)
    → length bytes < value_behind_index_wanted (length bytes) (integer_at n bytes)
unfolding made_at
index_short {L} n make bytes cut = go (integer_at n bytes) refl
  where
    go : (r : Result (ℕ × ℕ × List ℕ) IntegerFault) → integer_at n bytes ≡ r
        → length bytes < value_behind_index_wanted (length bytes) r
    go (Err d) q = omega arith
    go (Ok i) q =
        let value : IsCut (value_at (make i.1) i.2) = (cut.0, cut.1, rw q at cut.2) in
        value_short (make i.1) (length bytes) i.2 (reads_integer n bytes i q).behind value

name_short : {L : Type 0} (n : ℕ) (make : List ℕ → List ℕ → L) (bytes : List ℕ)
    → IsCut (made_at (NameAndValue n make) bytes)
    → length bytes < value_behind_name_wanted (length bytes) (integer_at (n - 1) bytes)
name_short {L} n make bytes cut = go (integer_at (n - 1) bytes) refl
  where
    go : (r : Result (ℕ × ℕ × List ℕ) IntegerFault) → integer_at (n - 1) bytes ≡ r
        → length bytes < value_behind_name_wanted (length bytes) r
    go (Err d) q = omega arith
    go (Ok x) q = pick (nat_lt (length x.2) x.1) refl (x.0 % 2 == 0)
      where
        pick : (b : Bool) → nat_lt (length x.2) x.1 ≡ b → (plain : Bool)
            → length bytes < cond b
            (cond plain (suc (string_end (length bytes) x.1 x.2)) (string_end (length bytes) x.1 x.2))
            (value_wanted (length bytes) (integer_at 7 (drop x.1 x.2)))
        pick true p true = omega (arith, ltb-true _ _ p, (reads_integer (n - 1) bytes x q).behind)
        pick true p false = omega (arith, ltb-true _ _ p, (reads_integer (n - 1) bytes x q).behind)
        pick false p plain =
            let t = reads_integer (n - 1) bytes x q in
            let w = whole_name n make bytes x q (ltb-false _ _ p) cut in
            value_short (make w.text) (length bytes) (drop x.1 x.2) (omega (arith, t.behind, length-drop x.1 x.2))
            w.value

form_short : {L : Type 0} (o : Option (Form L)) (bytes : List ℕ) → IsCut (in_form o bytes)
    → length bytes < wanted_in o bytes
form_short None bytes cut = omega arith
form_short (Some (Index n make)) bytes cut = omega arith
form_short (Some (IndexAndValue n make)) bytes cut = index_short n make bytes cut
form_short (Some (NameAndValue n make)) bytes cut = name_short n make bytes cut

front_short : (bytes : List ℕ) → IsCut (form_at encoder_instruction_form bytes) → length bytes < wanted bytes
unfolding form_at wanted
front_short [] cut = omega arith
front_short (b ∷ bytes) cut = form_short (encoder_instruction_form b) (b ∷ bytes) cut

-- what may grow is short
pub waiting_short : (t : Table) (pending : List ℕ) → AreBytes pending → MayGrow t pending
    → length pending < 4 * t.capacity + 10
waiting_short t pending are grows =
    omega (
      arith,
      front_short pending (ends_early pending grows.cut),
      waiting_bytes_few pending t.capacity are grows.cut grows.fits,
    )
