-- What was read of an instruction whose bytes end early is read the same with more bytes behind, and it ends early
-- until as many bytes are there as are wanted.
use Rattle.std.proofs.Common.{◌≡◌, ℕ, suc, ◌+◌, ◌-◌, ◌/◌, ◌%◌, ◌<◌, ◌≤◌, Bool, true, false, cond, List, [], ◌∷◌, ◌++◌}
use Rattle.std.proofs.Common.{length, take, drop, Option, None, Some, Result, Ok, Err, refl, sym, ap, ◌∙◌, arith}
use Rattle.std.proofs.Common.{append-nil, append_assoc, length-append, subst, inl, inr}
use Rattle.std.specs.Prelude.{nat_lt, ◌==◌}
use Rattle.std.proofs.lemmas.Bool.{ltb-true, ltb-false, lt-ltb, le-ltb, cases_lt}
use Rattle.std.proofs.lemmas.List.{length-drop, drop_all}
use Rattle.qpack_spec.specs.Integer.{IntegerFault, integer_at}
use Rattle.qpack_spec.specs.Huffman.{HuffmanFault, bits_of_bytes, text_of_bits}
use Rattle.qpack_spec.specs.Text.{EndsEarly, BadHuffman, value_before, string_behind, string_at}
use Rattle.qpack_spec.specs.Form.{FormFault, BadString, is_cut, Form, Index, IndexAndValue, NameAndValue}
use Rattle.qpack_spec.specs.Form.{Truncates, value_at, made_at, in_form, form_at}
use Rattle.qpack_spec.specs.Instruction.{encoder_instruction_form}
use Rattle.qpack_spec.specs.Wanted.{string_end, value_wanted, value_behind_index_wanted, value_behind_name_wanted}
use Rattle.qpack_spec.specs.Wanted.{wanted_in, wanted}
use Rattle.qpack_rules.specs.WantedLaws.{NothingStandsBeforeWanted}
use Rattle.qpack_spec.proofs.Integers.{integer_takes, integer_again}
use Rattle.qpack_spec.proofs.Texts.{string_takes, string_again}
use Rattle.qpack_spec.proofs.FormLaws.{reads_form_truncation}

-- ---- what was read, with more bytes behind

-- an integer that was read, and how many bytes it took
pub record ReadsInteger (n : ℕ) (bytes : List ℕ) (x : ℕ × ℕ × List ℕ) : Type 0 where
  pub again : (more : List ℕ) → integer_at n (bytes ++ more) ≡ Ok (x.0, x.1, x.2 ++ more)
  pub behind : length x.2 ≤ length bytes
  pub few : length bytes ≤ length x.2 + 10

pub reads_integer : (n : ℕ) (bytes : List ℕ) (x : ℕ × ℕ × List ℕ) → integer_at n bytes ≡ Ok x
    → ReadsInteger n bytes x
reads_integer n bytes x e =
    let t = integer_takes n bytes x.0 x.1 x.2 e in
    let size = ap length t.parts in
    let sum = length-append t.encoding x.2 in
    record {
      again = λ more. ap (λ (b : List ℕ). integer_at n (b ++ more)) t.parts
          ∙ ap (integer_at n) (append_assoc t.encoding x.2 more)
          ∙ integer_again n t.encoding (x.2 ++ more) x.0 x.1 t.spells;
      behind = omega (arith, size, sum);
      few = omega (arith, size, sum, t.spells.few);
    }

-- a string that was read
string_more : (n : ℕ) (bytes more : List ℕ) (v : ℕ × List ℕ × List ℕ) → string_at n bytes ≡ Ok v
    → string_at n (bytes ++ more) ≡ Ok (v.0, v.1, v.2 ++ more)
string_more n bytes more v e =
    let t = string_takes n bytes v.0 v.1 v.2 e in
    ap (λ (b : List ℕ). string_at n (b ++ more)) t.parts
    ∙ ap (string_at n) (append_assoc t.encoding v.2 more)
    ∙ string_again n t.encoding (v.2 ++ more) v.0 v.1 t.spells

-- ---- a string whose length was read

-- what a payload means
abbrev pub meaning_of : ℕ → List ℕ → Result (List ℕ) HuffmanFault
meaning_of flags payload = cond (flags % 2 == 0) (Ok payload) (text_of_bits (bits_of_bytes payload))

-- it ends early while its payload does
pub string_cut : (n : ℕ) (bytes : List ℕ) (x : ℕ × ℕ × List ℕ) → integer_at (n - 1) bytes ≡ Ok x → length x.2 < x.1
    → string_at n bytes ≡ Err EndsEarly
unfolding string_at
string_cut n bytes x e short = ap string_behind e ∙ rw (lt-ltb (length x.2) x.1 short) refl

-- and else its payload has a meaning or none
pub string_whole : (n : ℕ) (bytes : List ℕ) (x : ℕ × ℕ × List ℕ) → integer_at (n - 1) bytes ≡ Ok x → x.1 ≤ length x.2
    → string_at n bytes ≡ value_before (x.0 / 2) (drop x.1 x.2) (meaning_of x.0 (take x.1 x.2))
unfolding string_at
string_whole n bytes x e whole = ap string_behind e ∙ rw (le-ltb (length x.2) x.1 whole) refl

-- ---- what ends early

-- the form ends early in the bytes
abbrev pub IsCut : {A : Type 0} → Result A FormFault → Type 0
IsCut r = (fault : FormFault) × (is_cut fault ≡ true) × (r ≡ Err fault)

-- less than a byte more is none
same_bytes : (bytes more : List ℕ) → length more < 1 → bytes ++ more ≡ bytes
same_bytes bytes [] h = append-nil bytes
same_bytes bytes (b ∷ more) h = absurd (omega arith)

-- a value behind what stands before it
value_cut : {L : Type 0} (make : List ℕ → L) (bytes : List ℕ) → string_at 8 bytes ≡ Err EndsEarly
    → IsCut (value_at make bytes)
value_cut make bytes e = (BadString EndsEarly, refl, rw e refl)

value_still_cut : {L : Type 0} (make : List ℕ → L) (seen : ℕ) (bytes more : List ℕ) → length bytes ≤ seen
    → IsCut (value_at make bytes) → seen + length more < value_wanted seen (integer_at 7 bytes)
    → IsCut (value_at make (bytes ++ more))
value_still_cut {L} make seen bytes more behind cut short = go (integer_at 7 bytes) refl short
  where
    go : (r : Result (ℕ × ℕ × List ℕ) IntegerFault) → integer_at 7 bytes ≡ r
        → seen + length more < value_wanted seen r → IsCut (value_at make (bytes ++ more))
    go (Err d) q h =
        subst (λ (b : List ℕ). IsCut (value_at make b)) (sym (same_bytes bytes more (omega (arith, h)))) cut
    go (Ok x) q h =
        let t = reads_integer 7 bytes x q in
        value_cut make (bytes ++ more) (string_cut 8 (bytes ++ more) (x.0, x.1, x.2 ++ more) (t.again more)
        (omega (arith, h, t.behind, behind, length-append x.2 more)))

-- behind an index
index_still_cut : {L : Type 0} (n : ℕ) (make : ℕ → List ℕ → L) (bytes more : List ℕ)
    → IsCut (made_at (IndexAndValue n make) bytes)
    → length (bytes ++ more) < value_behind_index_wanted (length bytes) (integer_at n bytes)
    → IsCut (made_at (IndexAndValue n make) (bytes ++ more))
unfolding made_at
index_still_cut {L} n make bytes more cut short = go (integer_at n bytes) refl short
  where
    go : (r : Result (ℕ × ℕ × List ℕ) IntegerFault) → integer_at n bytes ≡ r
        → length (bytes ++ more) < value_behind_index_wanted (length bytes) r
        → IsCut (made_at (IndexAndValue n make) (bytes ++ more))
    go (Err d) q h =
        subst (λ (b : List ℕ). IsCut (made_at (IndexAndValue n make) b))
        (sym (same_bytes bytes more (omega (arith, h, length-append bytes more)))) cut
    go (Ok i) q h =
        let t = reads_integer n bytes i q in
        let value : IsCut (value_at (make i.1) i.2) = (cut.0, cut.1, rw q at cut.2) in
        let k = value_still_cut (make i.1) (length bytes) i.2 more t.behind value
        (omega (arith, h, length-append bytes more)) in
        (k.0, k.1, rw (t.again more) k.2)

-- a name that ends early, or behind which nothing stands
name_cut : {L : Type 0} (n : ℕ) (make : List ℕ → List ℕ → L) (bytes : List ℕ) → string_at n bytes ≡ Err EndsEarly
    → IsCut (made_at (NameAndValue n make) bytes)
unfolding made_at
name_cut n make bytes e = (BadString EndsEarly, refl, rw e refl)

nothing_behind : {L : Type 0} (n : ℕ) (make : List ℕ → List ℕ → L) (bytes : List ℕ) (v : ℕ × List ℕ × List ℕ)
    → string_at n bytes ≡ Ok v → v.2 ≡ [] → IsCut (made_at (NameAndValue n make) bytes)
unfolding made_at string_at integer_at
nothing_behind n make bytes v e none = (BadString EndsEarly, refl, rw (e, none) refl)

-- a whole name behind which the value ends early
pub record WholeName (L : Type 0) (n : ℕ) (make : List ℕ → List ℕ → L) (bytes : List ℕ) (x : ℕ × ℕ × List ℕ) :
    Type 0 where
  pub text : List ℕ
  pub read : string_at n bytes ≡ Ok (x.0 / 2, text, drop x.1 x.2)
  pub value : IsCut (value_at (make text) (drop x.1 x.2))

pub whole_name : {L : Type 0} (n : ℕ) (make : List ℕ → List ℕ → L) (bytes : List ℕ) (x : ℕ × ℕ × List ℕ)
    → integer_at (n - 1) bytes ≡ Ok x → x.1 ≤ length x.2 → IsCut (made_at (NameAndValue n make) bytes)
    → WholeName L n make bytes x
unfolding made_at
whole_name {L} n make bytes x q whole cut = go (meaning_of x.0 (take x.1 x.2)) (string_whole n bytes x q whole)
  where
    go : (r : Result (List ℕ) HuffmanFault) → string_at n bytes ≡ value_before (x.0 / 2) (drop x.1 x.2) r
        → WholeName L n make bytes x
    go (Err f) e =
        absurd (let h = rw e at cut.2 in let same : BadString (BadHuffman f) ≡ cut.0 = cc in
        let c = ap is_cut same in let d = cut.1 in cc)
    go (Ok text) e = record { text = text; read = e; value = (cut.0, cut.1, rw e at cut.2) }

behind_name_still_cut : {L : Type 0} (n : ℕ) (make : List ℕ → List ℕ → L) (bytes more : List ℕ) (x : ℕ × ℕ × List ℕ)
    → integer_at (n - 1) bytes ≡ Ok x → x.1 ≤ length x.2 → IsCut (made_at (NameAndValue n make) bytes)
    → length (bytes ++ more) < value_wanted (length bytes) (integer_at 7 (drop x.1 x.2))
    → IsCut (made_at (NameAndValue n make) (bytes ++ more))
unfolding made_at
behind_name_still_cut n make bytes more x q whole cut short =
    let t = reads_integer (n - 1) bytes x q in
    let w = whole_name n make bytes x q whole cut in
    let k = value_still_cut (make w.text) (length bytes) (drop x.1 x.2) more
    (omega (arith, t.behind, length-drop x.1 x.2)) w.value (omega (arith, short, length-append bytes more)) in
    (k.0, k.1, rw (string_more n bytes more (x.0 / 2, w.text, drop x.1 x.2) w.read) k.2)

-- a plain name of which no byte stands behind it
plain_name_alone : {L : Type 0} (n : ℕ) (make : List ℕ → List ℕ → L) (bytes : List ℕ) (x : ℕ × ℕ × List ℕ)
    → integer_at (n - 1) bytes ≡ Ok x → (x.0 % 2 == 0) ≡ true → x.1 ≡ length x.2
    → IsCut (made_at (NameAndValue n make) bytes)
plain_name_alone n make bytes x q plain all =
    nothing_behind n make bytes (x.0 / 2, take x.1 x.2, drop x.1 x.2)
    (string_whole n bytes x q (omega (arith, all)) ∙ rw plain refl) (drop_all x.1 x.2 (omega (arith, all)))

-- a name of which not all is there
name_still_cut : {L : Type 0} (n : ℕ) (make : List ℕ → List ℕ → L) (bytes more : List ℕ) (x : ℕ × ℕ × List ℕ)
    → integer_at (n - 1) bytes ≡ Ok x → length x.2 < x.1 → (plain : Bool) → (x.0 % 2 == 0) ≡ plain
    → length (bytes ++ more) < cond plain (suc (string_end (length bytes) x.1 x.2)) (string_end (length bytes) x.1 x.2)
    → IsCut (made_at (NameAndValue n make) (bytes ++ more))
name_still_cut n make bytes more x q part plain p short =
    let t = reads_integer (n - 1) bytes x q in
    let y : ℕ × ℕ × List ℕ = (x.0, x.1, x.2 ++ more) in
    let sizes = length-append bytes more in
    let rests = length-append x.2 more in
    elim (cases_lt (length (x.2 ++ more)) x.1) [
      | inl lt ↦ name_cut n make (bytes ++ more) (string_cut n (bytes ++ more) y (t.again more) lt)
      | inr le ↦ pick plain p short t.behind t.again sizes rests le
    ]
  where
    pick : (b : Bool) → (x.0 % 2 == 0) ≡ b
        → length (bytes ++ more) < cond b (suc (string_end (length bytes) x.1 x.2)) (string_end (length bytes) x.1 x.2)
        → length x.2 ≤ length bytes
        → ((ys : List ℕ) → integer_at (n - 1) (bytes ++ ys) ≡ Ok (x.0, x.1, x.2 ++ ys))
        → length (bytes ++ more) ≡ length bytes + length more → length (x.2 ++ more) ≡ length x.2 + length more
        → x.1 ≤ length (x.2 ++ more) → IsCut (made_at (NameAndValue n make) (bytes ++ more))
    pick true e h behind again sizes rests le =
        plain_name_alone n make (bytes ++ more) (x.0, x.1, x.2 ++ more) (again more) e
        (omega (arith, h, behind, sizes, rests, le))
    pick false e h behind again sizes rests le = absurd (omega (arith, h, behind, sizes, rests, le))

names_still_cut : {L : Type 0} (n : ℕ) (make : List ℕ → List ℕ → L) (bytes more : List ℕ)
    → IsCut (made_at (NameAndValue n make) bytes)
    → length (bytes ++ more) < value_behind_name_wanted (length bytes) (integer_at (n - 1) bytes)
    → IsCut (made_at (NameAndValue n make) (bytes ++ more))
names_still_cut {L} n make bytes more cut short = go (integer_at (n - 1) bytes) refl short
  where
    go : (r : Result (ℕ × ℕ × List ℕ) IntegerFault) → integer_at (n - 1) bytes ≡ r
        → length (bytes ++ more) < value_behind_name_wanted (length bytes) r
        → IsCut (made_at (NameAndValue n make) (bytes ++ more))
    go (Err d) q h =
        subst (λ (b : List ℕ). IsCut (made_at (NameAndValue n make) b))
        (sym (same_bytes bytes more (omega (arith, h, length-append bytes more)))) cut
    go (Ok x) q h = pick (nat_lt (length x.2) x.1) refl h
      where
        pick : (b : Bool) → nat_lt (length x.2) x.1 ≡ b
            → length (bytes ++ more) < cond b
            (cond (x.0 % 2 == 0) (suc (string_end (length bytes) x.1 x.2)) (string_end (length bytes) x.1 x.2))
            (value_wanted (length bytes) (integer_at 7 (drop x.1 x.2)))
            → IsCut (made_at (NameAndValue n make) (bytes ++ more))
        pick true p k = name_still_cut n make bytes more x q (ltb-true _ _ p) (x.0 % 2 == 0) refl k
        pick false p k = behind_name_still_cut n make bytes more x q (ltb-false _ _ p) cut k

-- ---- the law

form_still_cut : {L : Type 0} (form : Form L) (bytes more : List ℕ) → IsCut (made_at form bytes)
    → length (bytes ++ more) < wanted_in (Some form) bytes → IsCut (made_at form (bytes ++ more))
form_still_cut (Index n make) bytes more cut short =
    subst (λ (b : List ℕ). IsCut (made_at (Index n make) b))
    (sym (same_bytes bytes more (omega (arith, short, length-append bytes more)))) cut
form_still_cut (IndexAndValue n make) bytes more cut short = index_still_cut n make bytes more cut short
form_still_cut (NameAndValue n make) bytes more cut short = names_still_cut n make bytes more cut short

named_still_cut : {L : Type 0} (o : Option (Form L)) (bytes more : List ℕ) → IsCut (in_form o bytes)
    → length (bytes ++ more) < wanted_in o bytes → IsCut (in_form o (bytes ++ more))
named_still_cut None bytes more cut short = cut
named_still_cut (Some form) bytes more cut short = form_still_cut form bytes more cut short

-- what is truncated is read to its early end
pub ends_early : (bytes : List ℕ) → Truncates encoder_instruction_form bytes
    → IsCut (form_at encoder_instruction_form bytes)
ends_early bytes t = (reads_form_truncation encoder_instruction_form bytes).1 t

front_still_cut : (bytes more : List ℕ) → IsCut (form_at encoder_instruction_form bytes)
    → length (bytes ++ more) < wanted bytes → IsCut (form_at encoder_instruction_form (bytes ++ more))
unfolding form_at wanted
front_still_cut [] more cut short =
    subst (λ (b : List ℕ). IsCut (form_at encoder_instruction_form b)) (sym (same_bytes [] more short)) cut
front_still_cut (b ∷ bytes) more cut short =
    named_still_cut (encoder_instruction_form b) (b ∷ bytes) more cut short

pub nothing_before_wanted : NothingStandsBeforeWanted
nothing_before_wanted bytes more t short =
    (reads_form_truncation encoder_instruction_form (bytes ++ more)).0
    (front_still_cut bytes more (ends_early bytes t) short)
