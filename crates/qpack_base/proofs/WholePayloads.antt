-- Which payloads memory is asked for: those that are not empty.
use Rattle.std.proofs.Common.{◌≡◌, ◌≢◌, ℕ, ◌%◌, ◌/◌, Bool, true, false, cond}
use Rattle.std.proofs.Common.{List, [], ◌∷◌, length, Result, Ok, Err, rules, arith, refl, sym, ap, subst, ◌∙◌, inl, inr}
use Rattle.std.proofs.Common.{◌≤◌, ◌++◌, append-nil}
use Rattle.std.proofs.lemmas.Bool.{eqb-true, le-leb}
use Rattle.std.specs.Prelude.{◌==◌}
use Rattle.std.specs.Global.{Vec}
use Rattle.std.specs.declared.vec.Vec.{Vec as AnyVec}
use Rattle.qpack_spec.specs.Bytes.{Begins}
use Rattle.qpack_spec.specs.Huffman.{HuffmanFault, bits_of_bytes, ones, PayloadMeans, PayloadMeansNothing, text_of_bits}
use Rattle.qpack_spec.specs.Text.{StringFault, EndsEarly, LengthOverflows, BadHuffman, HoldsPayload}
use Rattle.qpack_spec.specs.Text.{SpellsString, RefusesString, string_at, value_before}
use Rattle.qpack_spec.proofs.Bits.{bytes_bits, bytes_length, ones_length}
use Rattle.qpack_spec.proofs.Payloads.{text_means, text_again}
use Rattle.qpack_spec.proofs.PayloadFaults.{fault_again}
use Rattle.qpack_spec.proofs.Texts.{string_takes, reads_refusals}
use Rattle.qpack_base.specs.declared.prefix_string.Error.{Error}
use Rattle.qpack_base.specs.declared.prefix_string.Error.TheVariants.{Memory}
use Rattle.qpack_base.specs.Cursor.{CursorView}
use Rattle.qpack_base.specs.Writes.{kept_within}
use Rattle.qpack_base.specs.Strings.{IsWhole, TakesMemory, ReadsString, AppendsTextWithin, meaning}

-- no bits mean the empty text
text_of_no_bits : text_of_bits (bits_of_bytes []) ≡ Ok []
unfolding ones
text_of_no_bits = text_again [] [] (record { bytes = tt; padding = 0; few = omega arith; parts = search rules })

-- an empty payload means the empty text, plain or coded
pub meaning_of_no_payload : (flags : ℕ) (payload : List ℕ) → (length payload == 0) ≡ true
    → meaning flags payload ≡ Ok []
meaning_of_no_payload flags [] e = go (flags % 2 == 0)
  where
    go : (plain : Bool) → cond plain (Ok []) (text_of_bits (bits_of_bytes [])) ≡ Ok []
    go true = refl
    go false = text_of_no_bits
meaning_of_no_payload flags (b ∷ payload) e = absurd (let z = eqb-true _ _ e in omega arith)

-- all of a value is kept where it is no longer
pub all_kept : (most : ℕ) (value : List ℕ) → length value ≤ most → kept_within most value ≡ value
all_kept most value le = rw (le-leb (length value) most le) refl

-- an empty payload keeps the text as it is
pub nothing_kept : (most : ℕ) (text : List ℕ) → text ≡ text ++ kept_within most []
nothing_kept most text = sym (ap (λ (l : List ℕ). text ++ l) (all_kept most [] (omega arith)) ∙ append-nil text)

-- a payload that means the empty text is empty
payload_of_no_text : (payload : List ℕ) → PayloadMeans payload [] → payload ≡ []
payload_of_no_text [] m = refl
payload_of_no_text (b ∷ payload) m =
    let parts : length (bits_of_bytes (b ∷ payload)) ≡ length (ones m.padding) =
    ap (λ (l : List ℕ). length l) m.parts in
    absurd (omega (arith, parts, bytes_length (b ∷ payload), ones_length m.padding, m.few))

-- a payload that is not empty may ask for memory
pub takes_memory : (payload : List ℕ) → payload ≢ [] → TakesMemory (text_of_bits (bits_of_bytes payload))
takes_memory payload some = go (text_of_bits (bits_of_bytes payload)) refl
  where
    go : (r : Result (List ℕ) HuffmanFault) → text_of_bits (bits_of_bytes payload) ≡ r → TakesMemory r
    go (Ok encoding) e = λ z.
        let means = text_means (bits_of_bytes payload) encoding (bytes_bits payload) e in
        some (payload_of_no_text payload (subst (PayloadMeans payload) z means))
    go (Err fault) e = tt

-- an empty payload means the empty text alone
no_text : (payload value : List ℕ) → payload ≡ [] → PayloadMeans payload value → value ≡ []
no_text payload value e m =
    let again = text_again [] value (subst (λ (p : List ℕ). PayloadMeans p value) e m) in
    let q = sym again ∙ text_of_no_bits in cc

-- a payload that has a fault is not empty
no_fault : (payload : List ℕ) (fault : HuffmanFault) → PayloadMeansNothing payload fault → payload ≢ []
no_fault payload fault m e =
    let f = fault_again (bits_of_bytes payload) fault (bytes_bits payload) m in
    let g = subst (λ (p : List ℕ). text_of_bits (bits_of_bytes p) ≡ Err fault) e f in
    absurd (let q = sym g ∙ text_of_no_bits in cc)

some_payload : (n flags : ℕ) (encoding value : List ℕ) → SpellsString n encoding flags value → value ≢ []
    → HoldsPayload n encoding
some_payload n flags encoding value (inl plain) some = record {
  flags = flags;
  huffman = 0;
  payload = value;
  literal = plain;
  coding = omega arith;
  some = some;
}
some_payload n flags encoding value (inr coded) some = record {
  flags = flags;
  huffman = 1;
  payload = coded.0;
  literal = coded.1;
  coding = omega arith;
  some = λ z. some (no_text coded.0 value z coded.2);
}

faulty_payload : (n : ℕ) (fault : HuffmanFault) (encoding : List ℕ) → RefusesString n encoding (BadHuffman fault)
    → HoldsPayload n encoding
faulty_payload n fault encoding r = record {
  flags = r.0;
  huffman = 1;
  payload = r.1;
  literal = r.2;
  coding = omega arith;
  some = no_fault r.1 fault r.3;
}

-- where the reading may ask for memory, a whole payload stands at the front
whole_payload : (n : ℕ) (bytes : List ℕ) → IsWhole (string_at n bytes) → Begins (HoldsPayload n) bytes
whole_payload n bytes h = go (string_at n bytes) refl h
  where
    go : (r : Result (ℕ × List ℕ × List ℕ) StringFault) → string_at n bytes ≡ r → IsWhole r
        → Begins (HoldsPayload n) bytes
    go (Ok x) e some =
        let t = string_takes n bytes x.0 x.1 x.2 e in
        record {
          encoding = t.encoding;
          rest = x.2;
          parts = t.parts;
          holds = some_payload n x.0 t.encoding x.1 t.spells some;
        }
    go (Err EndsEarly) e some = absurd some
    go (Err LengthOverflows) e some = absurd some
    go (Err (BadHuffman fault)) e some =
        let b = ((reads_refusals n bytes).1 fault).0 e in
        record {
          encoding = b.encoding;
          rest = b.rest;
          parts = b.parts;
          holds = faulty_payload n fault b.encoding b.holds;
        }

-- memory is refused only to a whole payload
pub string_memory : (n : ℕ) (old new : CursorView) (r : Result (Vec ℕ) Error)
    → ReadsString old new r (string_at n old.rest)
    → r ≡ Err Memory → Begins (HoldsPayload n) old.rest
string_memory n old new r h e =
    whole_payload n old.rest (subst (λ (q : Result (Vec ℕ) Error). ReadsString old new q (string_at n old.rest)) e h)

whole_before : (flags : ℕ) (rest : List ℕ) (read : Result (List ℕ) HuffmanFault) → TakesMemory read
    → IsWhole (value_before flags rest read)
whole_before flags rest (Ok value) h = h
whole_before flags rest (Err fault) h = tt

-- the same of a reader that keeps no longer text
pub string_within_memory : {A : Type 0} (most n : ℕ) (bytes : List ℕ) (flags : ℕ) (rest payload : List ℕ)
    (old new : AnyVec ℕ A) (r : Result ℕ Error)
    → string_at n bytes ≡ value_before (flags / 2) rest (meaning flags payload)
    → AppendsTextWithin most old new r (meaning flags payload) → r ≡ Err Memory → Begins (HoldsPayload n) bytes
string_within_memory most n bytes flags rest payload old new r is h e =
    let takes = (subst (λ (q : Result ℕ Error). AppendsTextWithin most old new q (meaning flags payload)) e h).0 in
    whole_payload n bytes
    (subst IsWhole (sym is) (whole_before (flags / 2) rest (meaning flags payload) takes))
