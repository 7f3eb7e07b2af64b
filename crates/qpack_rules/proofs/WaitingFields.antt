-- The field that a truncated instruction inserts is at least as large as what is known of it.
use Rattle.std.proofs.Common.{◌≡◌, ℕ, ◌+◌, ◌-◌, ◌/◌, ◌%◌, ◌≤◌, Bool, true, false, cond, List, [], ◌∷◌, ◌++◌, length}
use Rattle.std.proofs.Common.{take, drop, Option, None, Some, Result, Ok, Err, refl, sym, ap, ◌∙◌, arith, subst, inl}
use Rattle.std.proofs.Common.{inr}
use Rattle.std.specs.Prelude.{nat_lt, ◌==◌}
use Rattle.std.proofs.lemmas.Bool.{cond_both, ltb-false, cases_lt}
use Rattle.std.proofs.lemmas.List.{drop-append-le, length-take-le}
use Rattle.qpack_spec.specs.Integer.{IntegerFault, integer_at}
use Rattle.qpack_spec.specs.Huffman.{HuffmanFault, bits_of_bytes, text_of_bits}
use Rattle.qpack_spec.specs.Text.{StringFault, value_before, string_at}
use Rattle.qpack_spec.specs.Form.{Form, Index, IndexAndValue, NameAndValue, or_bad_integer, or_bad_string}
use Rattle.qpack_spec.specs.Form.{value_at, made_at, in_form, form_at}
use Rattle.qpack_spec.specs.Instruction.{EncoderInstruction, InsertStaticName}
use Rattle.qpack_spec.specs.Instruction.{encoder_instruction_form}
use Rattle.qpack_spec.specs.Wanted.{least_text, least_string, least_value_behind_index, least_name_and_value}
use Rattle.qpack_spec.specs.Wanted.{least_size_in, least_field_size}
use Rattle.qpack_rules.specs.WantedLaws.{size_of_strings, FieldsAreAsLarge}
use Rattle.qpack_spec.proofs.Results.{bind_ok, ok_pair, ok_triple}
use Rattle.qpack_spec.proofs.Bits.{bytes_bits}
use Rattle.qpack_spec.proofs.Payloads.{text_means}
use Rattle.qpack_rules.proofs.SectionLengths.{payload_short}
use Rattle.qpack_spec.proofs.FormLaws.{form_again}
use Rattle.qpack_rules.proofs.Waiting.{reads_integer, meaning_of, string_cut, string_whole}

-- ---- strings

-- a text is at least as long as its payload makes it
text_large : (flags : ℕ) (payload text : List ℕ) → meaning_of flags payload ≡ Ok text
    → least_text flags (length payload) ≤ length text
text_large flags payload text e = pick (flags % 2 == 0) e
  where
    pick : (b : Bool)
        → (let r : Result (List ℕ) HuffmanFault = cond b (Ok payload) (text_of_bits (bits_of_bytes payload)) in r)
        ≡ Ok text
        → cond b (length payload) ((length payload + 3) / 4) ≤ length text
    pick true h = let same : payload ≡ text = cc in omega (arith, ap length same)
    pick false h =
        omega (arith, payload_short payload text (text_means (bits_of_bytes payload) text (bytes_bits payload) h))

-- a string that was read, of which the length was read so
record ReadsString (x : ℕ × ℕ × List ℕ) (v : ℕ × List ℕ × List ℕ) : Type 0 where
  pub whole : x.1 ≤ length x.2
  pub behind : v.2 ≡ drop x.1 x.2
  pub large : least_text x.0 x.1 ≤ length v.1

reads_string : (n : ℕ) (bytes : List ℕ) (x : ℕ × ℕ × List ℕ) (v : ℕ × List ℕ × List ℕ)
    → integer_at (n - 1) bytes ≡ Ok x → string_at n bytes ≡ Ok v → ReadsString x v
reads_string n bytes x v q e =
    elim (cases_lt (length x.2) x.1) [
      | inl lt ↦ absurd (let c = string_cut n bytes x q lt in cc)
      | inr le ↦ go (meaning_of x.0 (take x.1 x.2)) refl (sym (string_whole n bytes x q le) ∙ e) le
    ]
  where
    go : (r : Result (List ℕ) HuffmanFault) → meaning_of x.0 (take x.1 x.2) ≡ r
        → value_before (x.0 / 2) (drop x.1 x.2) r ≡ Ok v → x.1 ≤ length x.2 → ReadsString x v
    go (Err f) m h le = absurd cc
    go (Ok text) m h le =
        let t = ok_triple (x.0 / 2) v.0 text v.1 (drop x.1 x.2) v.2 h in
        record {
          whole = le;
          behind = sym t.2;
          large = subst (λ (k : ℕ). least_text x.0 k ≤ length v.1) (length-take-le x.1 x.2 le)
              (omega (arith, text_large x.0 (take x.1 x.2) text m, ap length t.1));
        }

-- the same of a string of which only a front is known
string_large : (bytes more : List ℕ) (v : ℕ × List ℕ × List ℕ) → string_at 8 (bytes ++ more) ≡ Ok v
    → least_string (integer_at 7 bytes) ≤ length v.1
string_large bytes more v e = go (integer_at 7 bytes) refl
  where
    go : (r : Result (ℕ × ℕ × List ℕ) IntegerFault) → integer_at 7 bytes ≡ r → least_string r ≤ length v.1
    go (Err d) q = omega arith
    go (Ok x) q =
        (reads_string 8 (bytes ++ more) (x.0, x.1, x.2 ++ more) v ((reads_integer 7 bytes x q).again more) e).large

-- a string that a form read is read
string_read : (n : ℕ) (bytes : List ℕ) (v : ℕ × List ℕ × List ℕ) → or_bad_string (string_at n bytes) ≡ Ok v
    → string_at n bytes ≡ Ok v
string_read n bytes v e = go (string_at n bytes) e
  where
    go : (r : Result (ℕ × List ℕ × List ℕ) StringFault) → or_bad_string r ≡ Ok v → r ≡ Ok v
    go (Ok w) h = let same : w ≡ v = cc in ap (λ (y : ℕ × List ℕ × List ℕ). Ok y) same
    go (Err f) h = absurd cc

-- ---- forms

-- a form whose instructions insert just the strings that it reads
HasItsStrings : Form EncoderInstruction → Type 0
HasItsStrings (Index n make) = Unit {0}
HasItsStrings (IndexAndValue n make) =
    (index : ℕ) (value : List ℕ) → size_of_strings (make index value) ≡ length value + 32
HasItsStrings (NameAndValue n make) =
    (name value : List ℕ) → size_of_strings (make name value) ≡ length name + length value + 32

abbrev HasStrings : Option (Form EncoderInstruction) → Type 0
HasStrings None = Unit {0}
HasStrings (Some form) = HasItsStrings form

instruction_strings : (first : ℕ) → HasStrings (encoder_instruction_form first)
unfolding encoder_instruction_form HasItsStrings size_of_strings
instruction_strings first =
    cond_both (nat_lt first 32) _ _ HasStrings (λ _. tt)
    (λ _. cond_both (nat_lt first 64) _ _ HasStrings (λ _. tt)
    (λ _. cond_both (nat_lt first 128) _ _ HasStrings (λ _. λ name value. refl)
    (λ _. cond_both (nat_lt first 192) _ _ HasStrings (λ _. λ index value. refl)
    (λ _. cond_both (nat_lt first 256) (Some (IndexAndValue 6 InsertStaticName)) None HasStrings
    (λ _. λ index value. refl) (λ _. tt)))))

-- the value that a form read, and what it made of it
record MadeOf (L : Type 0) (make : List ℕ → L) (bytes : List ℕ) (l : L) : Type 0 where
  pub value : ℕ × List ℕ × List ℕ
  pub read : string_at 8 bytes ≡ Ok value
  pub is : make value.1 ≡ l

made_of : {L : Type 0} (make : List ℕ → L) (bytes rest : List ℕ) (l : L) → value_at make bytes ≡ Ok (l, rest)
    → MadeOf L make bytes l
made_of make bytes rest l e =
    let c = bind_ok (or_bad_string (string_at 8 bytes)) (λ v. Ok (make v.1, v.2)) (l, rest) e in
    record {
      value = c.0;
      read = string_read 8 bytes c.0 c.1;
      is = (ok_pair (make c.0.1) l c.0.2 rest c.2).0;
    }

index_large : (n : ℕ) (make : ℕ → List ℕ → EncoderInstruction) (bytes more rest : List ℕ) (i : EncoderInstruction)
    → ((index : ℕ) (value : List ℕ) → size_of_strings (make index value) ≡ length value + 32)
    → made_at (IndexAndValue n make) (bytes ++ more) ≡ Ok (i, rest)
    → least_value_behind_index (integer_at n bytes) + 32 ≤ size_of_strings i
unfolding made_at
index_large n make bytes more rest i has e = go (integer_at n bytes) refl
  where
    go : (r : Result (ℕ × ℕ × List ℕ) IntegerFault) → integer_at n bytes ≡ r
        → least_value_behind_index r + 32 ≤ size_of_strings i
    go (Err d) q =
        let b = bind_ok (or_bad_integer (integer_at n (bytes ++ more))) (λ j. value_at (make j.1) j.2) (i, rest) e in
        let m = made_of (make b.0.1) b.0.2 rest i b.2 in
        omega (arith, has b.0.1 m.value.1, ap size_of_strings m.is)
    go (Ok j) q =
        let value = rw ((reads_integer n bytes j q).again more) at e in
        let m = made_of (make j.1) (j.2 ++ more) rest i value in
        omega (arith, has j.1 m.value.1, ap size_of_strings m.is, string_large j.2 more m.value m.read)

name_large : (n : ℕ) (make : List ℕ → List ℕ → EncoderInstruction) (bytes more rest : List ℕ) (i : EncoderInstruction)
    → ((name value : List ℕ) → size_of_strings (make name value) ≡ length name + length value + 32)
    → made_at (NameAndValue n make) (bytes ++ more) ≡ Ok (i, rest)
    → least_name_and_value (integer_at (n - 1) bytes) + 32 ≤ size_of_strings i
unfolding made_at
name_large n make bytes more rest i has e =
    let b = bind_ok (or_bad_string (string_at n (bytes ++ more))) (λ m. value_at (make m.1) m.2) (i, rest) e in
    let v = made_of (make b.0.1) b.0.2 rest i b.2 in
    go (integer_at (n - 1) bytes) refl b.0 (string_read n (bytes ++ more) b.0 b.1) v
  where
    go : (r : Result (ℕ × ℕ × List ℕ) IntegerFault) → integer_at (n - 1) bytes ≡ r → (name : ℕ × List ℕ × List ℕ)
        → string_at n (bytes ++ more) ≡ Ok name → MadeOf EncoderInstruction (make name.1) name.2 i
        → least_name_and_value r + 32 ≤ size_of_strings i
    go (Err d) q name s v = omega (arith, has name.1 v.value.1, ap size_of_strings v.is)
    go (Ok x) q name s v =
        let length_read = (reads_integer (n - 1) bytes x q).again more in
        let t = reads_string n (bytes ++ more) (x.0, x.1, x.2 ++ more) name length_read s in
        pick (nat_lt (length x.2) x.1) refl t
      where
        pick : (b : Bool) → nat_lt (length x.2) x.1 ≡ b → ReadsString (x.0, x.1, x.2 ++ more) name
            → cond b (least_text x.0 x.1) (least_text x.0 x.1 + least_string (integer_at 7 (drop x.1 x.2))) + 32
            ≤ size_of_strings i
        pick true p t = omega (arith, has name.1 v.value.1, ap size_of_strings v.is, t.large)
        pick false p t =
            let behind : name.2 ≡ drop x.1 x.2 ++ more =
            t.behind ∙ drop-append-le x.1 x.2 more (ltb-false _ _ p) in
            omega (
              arith,
              has name.1 v.value.1,
              ap size_of_strings v.is,
              t.large,
              string_large (drop x.1 x.2) more v.value (ap (string_at 8) (sym behind) ∙ v.read),
            )

-- ---- the law

form_large : (form : Form EncoderInstruction) (bytes more rest : List ℕ) (i : EncoderInstruction)
    → HasItsStrings form → made_at form (bytes ++ more) ≡ Ok (i, rest)
    → least_size_in (Some form) bytes ≤ size_of_strings i
unfolding HasItsStrings
form_large (Index n make) bytes more rest i has e = omega arith
form_large (IndexAndValue n make) bytes more rest i has e = index_large n make bytes more rest i has e
form_large (NameAndValue n make) bytes more rest i has e = name_large n make bytes more rest i has e

named_large : (o : Option (Form EncoderInstruction)) (bytes more rest : List ℕ) (i : EncoderInstruction)
    → HasStrings o → in_form o (bytes ++ more) ≡ Ok (i, rest) → least_size_in o bytes ≤ size_of_strings i
named_large None bytes more rest i has e = omega arith
named_large (Some form) bytes more rest i has e = form_large form bytes more rest i has e

front_large : (bytes more rest : List ℕ) (i : EncoderInstruction)
    → form_at encoder_instruction_form (bytes ++ more) ≡ Ok (i, rest) → least_field_size bytes ≤ size_of_strings i
unfolding form_at least_field_size
front_large [] more rest i e = omega arith
front_large (b ∷ bytes) more rest i e =
    named_large (encoder_instruction_form b) (b ∷ bytes) more rest i (instruction_strings b) e

pub fields_as_large : FieldsAreAsLarge
fields_as_large bytes more encoding rest i t parts s =
    front_large bytes more rest i
    (ap (form_at encoder_instruction_form) parts ∙ form_again encoder_instruction_form encoding rest i s)
