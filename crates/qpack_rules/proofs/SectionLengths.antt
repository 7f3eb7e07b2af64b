-- How long an encoded field section can be.
use Rattle.std.proofs.Common.{ℕ, ◌+◌, ◌*◌, ◌≤◌, ◌≡◌, Bool, true, false, cond, List, [], ◌∷◌, ◌++◌, length, Option}
use Rattle.std.proofs.Common.{None, Some, Result, Ok, Err, refl, ap, subst, inl, inr, arith, length-append}
use Rattle.std.specs.List.{list_any, count_by}
use Rattle.std.proofs.lemmas.List.Sums.{prefix_len-le-length}
use Rattle.std.specs.Prelude.{not, nat_lt, nat_eq, ◌==◌, ◌/◌, ◌%◌}
use Rattle.std.proofs.lemmas.Bool.{cond_both}
use Rattle.qpack_spec.specs.Huffman.{bytes_by_length, bytes_of_length, first_code, code_length, code_of, bits_of_text}
use Rattle.qpack_spec.specs.Huffman.{ones, PayloadMeans}
use Rattle.qpack_spec.specs.Text.{SpellsString}
use Rattle.qpack_spec.specs.Field.{Field, field_size, total_size}
use Rattle.qpack_spec.specs.Form.{FormFault, Form, Index, IndexAndValue, NameAndValue, HoldsIndex, HoldsText}
use Rattle.qpack_spec.specs.Form.{SpellsForm}
use Rattle.qpack_spec.specs.Line.{Line, IndexedStatic, IndexedDynamic, IndexedPostBase, NamedStatic, NamedDynamic}
use Rattle.qpack_spec.specs.Line.{NamedPostBase, Literal, line_form, SpellsLine}
use Rattle.qpack_spec.specs.Prefix.{Prefix, PrefixFault, SpellsPrefix, read_prefix, prefix_at}
use Rattle.qpack_spec.specs.Stream.{SpellsAll}
use Rattle.qpack_spec.specs.Window.{Window, maximum_capacity, window_insert_count}
use Rattle.qpack_spec.specs.Reading.{Fault, Fields, Missing, static_field, relative_field, post_base_field}
use Rattle.qpack_spec.specs.Reading.{field_with_value, line_field, prepend_field, fields_of, reading_of_fields}
use Rattle.qpack_spec.specs.BlockReading.{fields_in_bytes, bytes_behind, section_behind}
use Rattle.qpack_spec.specs.BlockReading.{reading_of_bytes}
use Rattle.qpack_spec.specs.Stateless.{StatelessFault, BadSection, stateless_field, or_bad_section}
use Rattle.qpack_spec.specs.StatelessMeaning.{SpellsStatelessField}
use Rattle.qpack_spec.specs.LengthLaws.{longest_section, ReadSectionsAreShort, StatelessSectionsAreShort}
use Rattle.qpack_spec.proofs.Sizes.{total_first}
use Rattle.qpack_spec.proofs.Bits.{bits_length, bytes_length, ones_length}
use Rattle.qpack_spec.proofs.CodeTable.{thirty_rows}
use Rattle.qpack_spec.proofs.BlockLaws.{reads_lines}
use Rattle.qpack_spec.proofs.BlockReadings.{prefix_takes}

-- ---- strings

-- a code has at most 31 bits
code_short : (b : ℕ) → length (code_of b) ≤ 31
unfolding code_of code_length
code_short b =
    let most = prefix_len-le-length (λ bytes. not (list_any (λ c. c == b) bytes)) bytes_by_length in
    omega (
      arith,
      bits_length (code_length b)
          (first_code (code_length b) + count_by (λ c. nat_lt c b) (bytes_of_length (code_length b))),
      most,
      thirty_rows,
    )

codes_short : (text : List ℕ) → length (bits_of_text text) ≤ 31 * length text
codes_short [] = omega arith
codes_short (b ∷ text) =
    omega (arith, length-append (code_of b) (bits_of_text text), code_short b, codes_short text)

-- a coded payload
pub payload_short : (payload text : List ℕ) → PayloadMeans payload text → length payload ≤ 4 * length text
payload_short payload text m =
    omega (
      arith,
      bytes_length payload,
      ap length m.parts,
      length-append (bits_of_text text) (ones m.padding),
      ones_length m.padding,
      m.few,
      codes_short text,
    )

string_short : (n : ℕ) (encoding : List ℕ) (flags : ℕ) (value : List ℕ) → SpellsString n encoding flags value
    → length encoding ≤ 10 + 4 * length value
string_short n encoding flags value (inl s) =
    omega (arith, ap length s.parts, length-append s.head value, s.spells.few)
string_short n encoding flags value (inr s) =
    omega (
      arith,
      ap length s.1.parts,
      length-append s.1.head s.0,
      s.1.spells.few,
      payload_short s.0 value s.2,
    )

-- ---- lines

index_short : (n index : ℕ) (encoding : List ℕ) → HoldsIndex n index encoding → length encoding ≤ 10
index_short n index encoding h = h.1.few

text_short : (n : ℕ) (value encoding : List ℕ) → HoldsText n value encoding
    → length encoding ≤ 10 + 4 * length value
text_short n value encoding h = string_short n encoding h.0 value h.1

-- an integer and a value
indexed_short : (n index : ℕ) (value encoding head tail : List ℕ) → encoding ≡ head ++ tail → HoldsIndex n index head
    → HoldsText 8 value tail → length encoding ≤ 20 + 4 * length value
indexed_short n index value encoding head tail parts h t =
    omega (arith, ap length parts, length-append head tail, index_short n index head h, text_short 8 value tail t)

-- a name and a value
named_short : (n : ℕ) (name value encoding head tail : List ℕ) → encoding ≡ head ++ tail → HoldsText n name head
    → HoldsText 8 value tail → length encoding ≤ 20 + 4 * (length name + length value)
named_short n name value encoding head tail parts h t =
    omega (arith, ap length parts, length-append head tail, text_short n name head h, text_short 8 value tail t)

-- the bytes of a line's strings
text_of : Line → ℕ
text_of (IndexedStatic index) = 0
text_of (IndexedDynamic relative) = 0
text_of (IndexedPostBase post_base) = 0
text_of (NamedStatic index value) = length value
text_of (NamedDynamic relative value) = length value
text_of (NamedPostBase post_base value) = length value
text_of (Literal name value) = length name + length value

-- a form whose lines have just the strings that it reads
HasItsText : Form Line → Type 0
HasItsText (Index n make) = Unit {0}
HasItsText (IndexAndValue n make) = (index : ℕ) (value : List ℕ) → text_of (make index value) ≡ length value
HasItsText (NameAndValue n make) =
    (name value : List ℕ) → text_of (make name value) ≡ length name + length value

abbrev HasText : Option (Form Line) → Type 0
HasText None = Unit {0}
HasText (Some form) = HasItsText form

line_text : (first : ℕ) → HasText (line_form first)
unfolding line_form HasItsText text_of
line_text first =
    cond_both (nat_lt first 16) _ _ HasText (λ _. λ index value. refl)
    (λ _. cond_both (nat_lt first 32) _ _ HasText (λ _. tt)
    (λ _. cond_both (nat_lt first 64) _ _ HasText (λ _. λ name value. refl)
    (λ _. cond_both (nat_lt first 128) _ _ HasText
    (λ _. cond_both (nat_eq (first / 16 % 2) 1) (Some (IndexAndValue 4 NamedStatic))
    (Some (IndexAndValue 4 NamedDynamic)) HasText (λ _. λ index value. refl) (λ _. λ index value. refl))
    (λ _. cond_both (nat_lt first 192) _ _ HasText (λ _. tt)
    (λ _. cond_both (nat_lt first 256) (Some (Index 6 IndexedStatic)) None HasText (λ _. tt) (λ _. tt))))))

form_short : (form : Form Line) (encoding : List ℕ) (l : Line) → HasItsText form → SpellsForm form encoding l
    → length encoding ≤ 20 + 4 * text_of l
unfolding HasItsText
form_short (Index n make) encoding l has s = omega (arith, index_short n s.0 encoding s.1)
form_short (IndexAndValue n make) encoding l has s =
    omega (
      arith,
      indexed_short n s.0 s.1 encoding s.2.head s.2.tail s.2.parts s.2.first s.2.second,
      ap text_of s.3,
      has s.0 s.1,
    )
form_short (NameAndValue n make) encoding l has s =
    omega (
      arith,
      named_short n s.0 s.1 encoding s.2.head s.2.tail s.2.parts s.2.first s.2.second,
      ap text_of s.3,
      has s.0 s.1,
    )

line_short : (encoding : List ℕ) (l : Line) → SpellsLine encoding l → length encoding ≤ 20 + 4 * text_of l
line_short encoding l s = form_short s.form encoding l (subst HasText s.names (line_text s.first)) s.spells

-- ---- fields

-- the field of a name that is there has the line's value
value_is : (value : List ℕ) (r : Result Field Fault) (f : Field) → field_with_value value r ≡ Ok f → f.value ≡ value
value_is value (Ok g) f e = cc
value_is value (Err fault) f e = absurd cc

literal_is : (name value : List ℕ) (f : Field)
    → (let r : Result Field Fault = Ok (record { name = name; value = value }) in r) ≡ Ok f
    → (f.name ≡ name) × (f.value ≡ value)
literal_is name value f e = (cc, cc)

-- a line's strings are in its field
text_within : (w : Window) (base : ℕ) (l : Line) (f : Field) → line_field w base l ≡ Ok f
    → text_of l + 32 ≤ field_size f
unfolding line_field text_of
text_within w base (IndexedStatic index) f e = omega arith
text_within w base (IndexedDynamic relative) f e = omega arith
text_within w base (IndexedPostBase post_base) f e = omega arith
text_within w base (NamedStatic index value) f e =
    omega (arith, ap length (value_is value (static_field index) f e))
text_within w base (NamedDynamic relative value) f e =
    omega (arith, ap length (value_is value (relative_field w base relative) f e))
text_within w base (NamedPostBase post_base value) f e =
    omega (arith, ap length (value_is value (post_base_field w base post_base) f e))
text_within w base (Literal name value) f e =
    let is = literal_is name value f e in omega (arith, ap length is.0, ap length is.1)

-- the first field and those behind it
record Parts (r : Result Field Fault) (more : Result (List Field) Fault) (fs : List Field) : Type 0 where
  pub first : Field
  pub rest : List Field
  pub first_is : r ≡ Ok first
  pub rest_are : more ≡ Ok rest
  pub joined : fs ≡ first ∷ rest

parts_of : (r : Result Field Fault) (more : Result (List Field) Fault) (fs : List Field)
    → prepend_field r more ≡ Ok fs → Parts r more fs
parts_of (Ok f) (Ok rest) fs e = record { first = f; rest = rest; first_is = refl; rest_are = refl; joined = cc }
parts_of (Ok f) (Err fault) fs e = absurd cc
parts_of (Err fault) more fs e = absurd cc

pub lines_short : (w : Window) (base : ℕ) (bytes : List ℕ) (lines : List Line) (fs : List Field)
    → SpellsAll SpellsLine bytes lines → fields_of w base lines ≡ Ok fs → length bytes ≤ 4 * total_size fs
unfolding fields_of
lines_short w base bytes [] fs j e = omega (arith, ap length j)
lines_short w base bytes (l ∷ lines) fs j e =
    let k = parts_of (line_field w base l) (fields_of w base lines) fs e in
    omega (
      arith,
      ap length j.2,
      length-append j.0 j.1,
      line_short j.0 l j.3,
      text_within w base l k.first k.first_is,
      lines_short w base j.1 lines k.rest j.4 k.rest_are,
      ap total_size k.joined,
      total_first k.first k.rest,
    )

-- ---- sections

pub prefix_short : (encoding : List ℕ) (p : Prefix) → SpellsPrefix encoding p → length encoding ≤ 20
prefix_short encoding p s =
    omega (arith, ap length s.parts, length-append s.head s.tail, s.count.1.few, s.delta.few)

fields_read : (r : Result (List Field) Fault) (b is_dynamic : Bool) (fs : List Field)
    → reading_of_fields r b ≡ Fields fs is_dynamic → r ≡ Ok fs
fields_read (Ok gs) b is_dynamic fs e = let same : gs ≡ fs = cc in ap (λ (x : List Field). Ok x) same
fields_read (Err fault) b is_dynamic fs e = absurd cc

missing_not : (n : ℕ) (fs : List Field) (is_dynamic : Bool) → Missing n ≡ Fields fs is_dynamic → ⊥
missing_not n fs is_dynamic e = absurd cc

-- the lines behind a prefix that was read
behind_read : (w : Window) (rest : List ℕ) (r : Result (ℕ × ℕ) PrefixFault) (fs : List Field) (is_dynamic : Bool)
    → bytes_behind w rest r ≡ Fields fs is_dynamic → (base : ℕ) × (fields_in_bytes w base rest ≡ Ok fs)
behind_read w rest (Err fault) fs is_dynamic e = absurd cc
behind_read w rest (Ok p) fs is_dynamic e = pick (nat_lt (window_insert_count w) p.0) e
  where
    pick : (b : Bool)
        → cond b (Missing p.0) (reading_of_fields (fields_in_bytes w p.1 rest) (nat_lt 0 p.0)) ≡ Fields fs is_dynamic
        → (base : ℕ) × (fields_in_bytes w base rest ≡ Ok fs)
    pick true h = absurd (missing_not p.0 fs is_dynamic h)
    pick false h = (p.1, fields_read (fields_in_bytes w p.1 rest) (nat_lt 0 p.0) is_dynamic fs h)

lines_read_short : (w : Window) (base : ℕ) (bytes : List ℕ) (fs : List Field) → fields_in_bytes w base bytes ≡ Ok fs
    → length bytes ≤ 4 * total_size fs
lines_read_short w base bytes fs e =
    let k = (reads_lines w base bytes (Ok fs)).0 e in lines_short w base bytes k.lines fs k.joined k.means

pub read_sections_short : ReadSectionsAreShort
unfolding reading_of_bytes
read_sections_short w bytes fs is_dynamic e = pick (prefix_at bytes) refl e
  where
    pick : (r : Result (Prefix × List ℕ) FormFault) → prefix_at bytes ≡ r
        → section_behind w r ≡ Fields fs is_dynamic → length bytes ≤ longest_section (total_size fs)
    pick (Err fault) q h = absurd cc
    pick (Ok p) q h =
        let t = prefix_takes bytes p.0 p.1 q in
        let lines = behind_read w p.1
        (read_prefix (window_insert_count w) (maximum_capacity w.agreed_max w.capacity) p.0) fs is_dynamic h in
        omega (
          arith,
          ap length t.parts,
          length-append t.encoding p.1,
          prefix_short t.encoding p.0 t.spells,
          lines_read_short w lines.0 p.1 fs lines.1,
        )

-- ---- sections without a table

bad_not : (e : Fault) (f : Field)
    → (let r : Result Field StatelessFault = Err (BadSection e) in r) ≡ Ok f → ⊥
bad_not e f h = absurd cc

good_is : (r : Result Field Fault) (f : Field) → or_bad_section r ≡ Ok f → r ≡ Ok f
good_is (Ok g) f e = let same : g ≡ f = cc in ap (λ (x : Field). Ok x) same
good_is (Err fault) f e = absurd (bad_not fault f e)

alone_literal : (name value : List ℕ) (f : Field)
    → (let r : Result Field StatelessFault = Ok (record { name = name; value = value }) in r) ≡ Ok f
    → (f.name ≡ name) × (f.value ≡ value)
alone_literal name value f e = (cc, cc)

text_within_alone : (l : Line) (f : Field) → stateless_field l ≡ Ok f → text_of l + 32 ≤ field_size f
unfolding text_of
text_within_alone (IndexedStatic index) f e = omega arith
text_within_alone (NamedStatic index value) f e =
    omega (
      arith,
      ap length (value_is value (static_field index) f
          (good_is (field_with_value value (static_field index)) f e)),
    )
text_within_alone (Literal name value) f e =
    let is = alone_literal name value f e in omega (arith, ap length is.0, ap length is.1)
text_within_alone (IndexedDynamic relative) f e = absurd cc
text_within_alone (IndexedPostBase post_base) f e = absurd cc
text_within_alone (NamedDynamic relative value) f e = absurd cc
text_within_alone (NamedPostBase post_base value) f e = absurd cc

alone_short : (bytes : List ℕ) (fs : List Field) → SpellsAll SpellsStatelessField bytes fs
    → length bytes ≤ 4 * total_size fs
alone_short bytes [] j = omega (arith, ap length j)
alone_short bytes (f ∷ fs) j =
    omega (
      arith,
      ap length j.2,
      length-append j.0 j.1,
      line_short j.0 j.3.0 j.3.1,
      text_within_alone j.3.0 f j.3.2,
      alone_short j.1 fs j.4,
      total_first f fs,
    )

pub stateless_sections_short : StatelessSectionsAreShort
stateless_sections_short limit bytes fs m =
    omega (
      arith,
      ap length m.cut,
      length-append m.head m.lines,
      prefix_short m.head m.prefix m.spells,
      alone_short m.lines fs m.joined,
    )
