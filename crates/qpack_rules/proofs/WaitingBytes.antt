-- The bytes that are wanted of a truncated instruction are few for the field that it inserts.
use Rattle.std.proofs.Common.{◌≡◌, ℕ, zero, suc, ◌+◌, ◌-◌, ◌*◌, ◌/◌, ◌%◌, ◌^◌, ◌<◌, ◌≤◌, ltb, Bool, true, false, cond}
use Rattle.std.proofs.Common.{List, [], ◌∷◌, length, drop, Option, None, Some, Result, Ok, Err, refl, ap, ◌∙◌, arith}
use Rattle.std.proofs.Common.{inl, inr}
use Rattle.std.specs.Prelude.{nat_lt, ◌==◌}
use Rattle.std.proofs.lemmas.Bool.{cond_both, ltb-false}
use Rattle.std.proofs.lemmas.List.{length-drop}
use Rattle.qpack_spec.specs.Bytes.{◌>>=◌}
use Rattle.qpack_spec.specs.Integer.{IntegerFault, Overflow, UnexpectedEnd, full, groups_at, integer_at}
use Rattle.qpack_spec.specs.Huffman.{AreBytes}
use Rattle.qpack_spec.specs.Text.{StringFault, LengthOverflows, string_behind, string_at}
use Rattle.qpack_spec.specs.Form.{BadInteger, BadString, is_cut, Form, Index, IndexAndValue, NameAndValue}
use Rattle.qpack_spec.specs.Form.{or_bad_string, value_at, made_at, in_form, form_at}
use Rattle.qpack_spec.specs.Instruction.{EncoderInstruction, InsertStaticName}
use Rattle.qpack_spec.specs.Instruction.{encoder_instruction_form}
use Rattle.qpack_spec.specs.Wanted.{string_end, value_wanted, value_behind_index_wanted, value_behind_name_wanted}
use Rattle.qpack_spec.specs.Wanted.{wanted_in, wanted, least_text, least_string, least_value_behind_index}
use Rattle.qpack_spec.specs.Wanted.{least_name_and_value, least_size_in, least_field_size}
use Rattle.qpack_rules.specs.WantedLaws.{WaitingBytesAreFew}
use Rattle.qpack_spec.proofs.Results.{bind_err, chosen}
use Rattle.qpack_spec.proofs.Forms.{value_whole}
use Rattle.qpack_rules.proofs.Waiting.{IsCut, whole_name, reads_integer, ends_early}

-- ---- integers

groups_few : (k : ℕ) (cs : List ℕ) → groups_at k cs ≡ Err UnexpectedEnd → length cs < k
unfolding groups_at
groups_few zero cs e = absurd cc
groups_few (suc k) [] e = omega arith
groups_few (suc k) (c ∷ cs) e =
    elim (chosen (ltb c 128) (Ok (c, cs)) (groups_at k cs >>= λ r. Ok (c % 128 + 128 * r.0, r.1)) (Err UnexpectedEnd)
    e) [
      | inl h ↦ absurd (let q = h.1 in cc)
      | inr h ↦
          omega (
            arith,
            groups_few k cs (bind_err (groups_at k cs) (λ r. (c % 128 + 128 * r.0, r.1)) UnexpectedEnd h.1),
          )
    ]

-- of an integer that ends early at most nine bytes are there
integer_few : (n : ℕ) (bytes : List ℕ) → integer_at n bytes ≡ Err UnexpectedEnd → length bytes ≤ 9
unfolding integer_at
integer_few n [] e = omega arith
integer_few n (b ∷ cs) e =
    elim (chosen (ltb (b % 2 ^ n) (full n)) (Ok (b / 2 ^ n, b % 2 ^ n, cs))
    (groups_at 9 cs >>= λ r. Ok (b / 2 ^ n, full n + r.0, r.1)) (Err UnexpectedEnd) e) [
      | inl h ↦ absurd (let q = h.1 in cc)
      | inr h ↦
          omega (
            arith,
            groups_few 9 cs (bind_err (groups_at 9 cs) (λ r. (b / 2 ^ n, full n + r.0, r.1)) UnexpectedEnd h.1),
          )
    ]

-- the fault of a length or an index, where it is an early end
length_ends : (d : IntegerFault) (s : Result (ℕ × List ℕ × List ℕ) StringFault) → s ≡ string_behind (Err d)
    → IsCut (or_bad_string s) → d ≡ UnexpectedEnd
length_ends UnexpectedEnd s e cut = refl
length_ends Overflow s e cut =
    absurd (let h = rw e at cut.2 in let same : BadString LengthOverflows ≡ cut.0 = cc in let c = ap is_cut same in
    let d = cut.1 in cc)

-- ---- values

-- a payload is at most four times as long as its text
payload_few : (flags len : ℕ) → len ≤ 4 * least_text flags len
payload_few flags len =
    cond_both (flags % 2 == 0) len ((len + 3) / 4) (λ (m : ℕ). len ≤ 4 * m) (λ _. omega arith) (λ _. omega arith)

string_few : (seen : ℕ) (bytes : List ℕ) → length bytes ≤ seen → IsCut (or_bad_string (string_at 8 bytes))
    → value_wanted seen (integer_at 7 bytes) ≤ seen - length bytes + 10 + 4 * least_string (integer_at 7 bytes)
unfolding string_at
string_few seen bytes behind cut = go (integer_at 7 bytes) refl
  where
    go : (r : Result (ℕ × ℕ × List ℕ) IntegerFault) → integer_at 7 bytes ≡ r
        → value_wanted seen r ≤ seen - length bytes + 10 + 4 * least_string r
    go (Err d) q =
        let ends = length_ends d (string_at 8 bytes) (ap string_behind q) cut in
        omega (arith, behind, integer_few 7 bytes (q ∙ ap (λ (f : IntegerFault). Err f) ends))
    go (Ok x) q = let t = reads_integer 7 bytes x q in omega (arith, behind, t.behind, t.few, payload_few x.0 x.1)

-- the value of a form that ends early in its value
value_few : {L : Type 0} (make : List ℕ → L) (seen : ℕ) (bytes : List ℕ) → length bytes ≤ seen
    → IsCut (value_at make bytes)
    → value_wanted seen (integer_at 7 bytes) ≤ seen - length bytes + 10 + 4 * least_string (integer_at 7 bytes)
value_few make seen bytes behind cut = string_few seen bytes behind (cut.0, cut.1, value_whole make bytes cut.0 cut.2)

-- ---- forms

index_few : {L : Type 0} (n : ℕ) (make : ℕ → List ℕ → L) (bytes : List ℕ)
    → IsCut (made_at (IndexAndValue n make) bytes)
    → value_behind_index_wanted (length bytes) (integer_at n bytes)
    ≤ 4 * (least_value_behind_index (integer_at n bytes) + 32) + 10
unfolding made_at
index_few n make bytes cut = go (integer_at n bytes) refl
  where
    go : (r : Result (ℕ × ℕ × List ℕ) IntegerFault) → integer_at n bytes ≡ r
        → value_behind_index_wanted (length bytes) r ≤ 4 * (least_value_behind_index r + 32) + 10
    go (Err UnexpectedEnd) q = omega (arith, integer_few n bytes q)
    go (Err Overflow) q =
        absurd (let h = rw q at cut.2 in let same : BadInteger Overflow ≡ cut.0 = cc in let c = ap is_cut same in
        let d = cut.1 in cc)
    go (Ok i) q =
        let t = reads_integer n bytes i q in
        let value : IsCut (value_at (make i.1) i.2) = (cut.0, cut.1, rw q at cut.2) in
        omega (arith, t.behind, t.few, value_few (make i.1) (length bytes) i.2 t.behind value)

name_few : {L : Type 0} (n : ℕ) (make : List ℕ → List ℕ → L) (bytes : List ℕ)
    → IsCut (made_at (NameAndValue n make) bytes)
    → value_behind_name_wanted (length bytes) (integer_at (n - 1) bytes)
    ≤ 4 * (least_name_and_value (integer_at (n - 1) bytes) + 32) + 10
unfolding made_at string_at
name_few n make bytes cut = go (integer_at (n - 1) bytes) refl
  where
    go : (r : Result (ℕ × ℕ × List ℕ) IntegerFault) → integer_at (n - 1) bytes ≡ r
        → value_behind_name_wanted (length bytes) r ≤ 4 * (least_name_and_value r + 32) + 10
    go (Err UnexpectedEnd) q = omega (arith, integer_few (n - 1) bytes q)
    go (Err Overflow) q =
        absurd (let h = rw q at cut.2 in let same : BadString LengthOverflows ≡ cut.0 = cc in let c = ap is_cut same in
        let d = cut.1 in cc)
    go (Ok x) q = pick (nat_lt (length x.2) x.1) refl (x.0 % 2 == 0)
      where
        pick : (b : Bool) → nat_lt (length x.2) x.1 ≡ b → (plain : Bool)
            → cond b (cond plain (suc (string_end (length bytes) x.1 x.2)) (string_end (length bytes) x.1 x.2))
            (value_wanted (length bytes) (integer_at 7 (drop x.1 x.2)))
            ≤ 4 * (cond b (least_text x.0 x.1) (least_text x.0 x.1 + least_string (integer_at 7 (drop x.1 x.2))) + 32)
            + 10
        pick true p true =
            let t = reads_integer (n - 1) bytes x q in omega (arith, t.behind, t.few, payload_few x.0 x.1)
        pick true p false =
            let t = reads_integer (n - 1) bytes x q in omega (arith, t.behind, t.few, payload_few x.0 x.1)
        pick false p plain =
            let t = reads_integer (n - 1) bytes x q in
            let w = whole_name n make bytes x q (ltb-false _ _ p) cut in
            let size = length-drop x.1 x.2 in
            omega (
              arith,
              t.behind,
              t.few,
              size,
              payload_few x.0 x.1,
              value_few (make w.text) (length bytes) (drop x.1 x.2) (omega (arith, t.behind, size)) w.value,
            )

pub lone_index_few : {L : Type 0} (n : ℕ) (make : ℕ → L) (bytes : List ℕ) → IsCut (made_at (Index n make) bytes)
    → length bytes ≤ 9
unfolding made_at
lone_index_few n make bytes cut = go (integer_at n bytes) refl
  where
    go : (r : Result (ℕ × ℕ × List ℕ) IntegerFault) → integer_at n bytes ≡ r → length bytes ≤ 9
    go (Err UnexpectedEnd) q = integer_few n bytes q
    go (Err Overflow) q =
        absurd (let h = rw q at cut.2 in let same : BadInteger Overflow ≡ cut.0 = cc in let c = ap is_cut same in
        let d = cut.1 in cc)
    go (Ok i) q = absurd (let h = rw q at cut.2 in cc)

-- ---- the law

form_few : {L : Type 0} (form : Form L) (bytes : List ℕ) → IsCut (made_at form bytes)
    → wanted_in (Some form) bytes ≤ 4 * least_size_in (Some form) bytes + 10
form_few (Index n make) bytes cut = omega (arith, lone_index_few n make bytes cut)
form_few (IndexAndValue n make) bytes cut = index_few n make bytes cut
form_few (NameAndValue n make) bytes cut = name_few n make bytes cut

-- each byte names a form
IsNamed : Option (Form EncoderInstruction) → Type 0
IsNamed None = ⊥
IsNamed (Some form) = Unit {0}

byte_named : (first : ℕ) → first < 256 → IsNamed (encoder_instruction_form first)
unfolding encoder_instruction_form IsNamed
byte_named first byte =
    cond_both (nat_lt first 32) _ _ IsNamed (λ _. tt)
    (λ _. cond_both (nat_lt first 64) _ _ IsNamed (λ _. tt)
    (λ _. cond_both (nat_lt first 128) _ _ IsNamed (λ _. tt)
    (λ _. cond_both (nat_lt first 192) _ _ IsNamed (λ _. tt)
    (λ _. cond_both (nat_lt first 256) (Some (IndexAndValue 6 InsertStaticName)) None IsNamed (λ _. tt)
    (λ above. absurd (let le = ltb-false first 256 above in omega (arith, byte, le)))))))

named_few : (o : Option (Form EncoderInstruction)) (bytes : List ℕ) → IsNamed o → IsCut (in_form o bytes)
    → wanted_in o bytes ≤ 4 * least_size_in o bytes + 10
unfolding IsNamed
named_few None bytes named cut = absurd named
named_few (Some form) bytes named cut = form_few form bytes cut

front_few : (bytes : List ℕ) → AreBytes bytes → IsCut (form_at encoder_instruction_form bytes)
    → wanted bytes ≤ 4 * least_field_size bytes + 10
unfolding form_at wanted least_field_size
front_few [] ok cut = omega arith
front_few (b ∷ bytes) ok cut = named_few (encoder_instruction_form b) (b ∷ bytes) (byte_named b ok.0) cut

pub waiting_bytes_few : WaitingBytesAreFew
waiting_bytes_few bytes capacity ok t fits = omega (arith, fits, front_few bytes ok (ends_early bytes t))
