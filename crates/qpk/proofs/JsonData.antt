-- The data that the fields of a block are told by, and its text.
use Rattle.std.proofs.Common.{◌≡◌, ℕ, Bool, true, false, cond, List, [], ◌∷◌, ◌++◌, map, codes, refl, ap, ◌∙◌, IsUtf8}
use Rattle.std.specs.Str.{is_utf8}
use Rattle.std.proofs.lemmas.Str.{IsUtf8-from_is_utf8, is_utf8-from_IsUtf8}
use Rattle.std.specs.Prelude.{Ok}
use Rattle.hex.specs.Hex.{IsBytes, decode_of, encode_lower}
use Rattle.hex.proofs.HexLemmas.{decode_of-encode_lower}
use Rattle.serde_json.specs.Data.{Data, string, object, member, no_members}
use Rattle.serde_json.specs.View.{items_of}
use Rattle.serde_json.specs.Written.{compact_text, has_float, items_have_float}
use Rattle.qpack_spec.specs.Field.{Field}
use Rattle.qpk.specs.Json.{bytes_data, field_data, section_data, section_json}

pub text_data : (bytes : List ℕ) → IsUtf8 bytes → bytes_data bytes ≡ string bytes
text_data bytes h = rw (is_utf8-from_IsUtf8 bytes h) refl

pub hexadecimal_data : (bytes : List ℕ) → (IsUtf8 bytes → ⊥)
    → bytes_data bytes ≡ object (member (codes "hex") (string (encode_lower bytes)) no_members)
hexadecimal_data bytes n = go (is_utf8 bytes) refl
  where
    go : (t : Bool) → is_utf8 bytes ≡ t
        → cond t (string bytes) (object (member (codes "hex") (string (encode_lower bytes)) no_members))
        ≡ object (member (codes "hex") (string (encode_lower bytes)) no_members)
    go true e = absurd (n (IsUtf8-from_is_utf8 bytes e))
    go false e = refl

bytes_without_float : (bytes : List ℕ) → has_float (bytes_data bytes) ≡ false
bytes_without_float bytes = go (is_utf8 bytes)
  where
    go : (t : Bool)
        → has_float (cond t (string bytes) (object (member (codes "hex") (string (encode_lower bytes)) no_members)))
        ≡ false
    go true = refl
    go false = refl

fields_without_float : (fs : List Field) → items_have_float (items_of (map field_data fs)) ≡ false
fields_without_float [] = refl
fields_without_float (f ∷ fs) =
    rw (bytes_without_float f.name, bytes_without_float f.value, fields_without_float fs) refl

section_without_float : (fs : List Field) → has_float (section_data fs) ≡ false
section_without_float fs = rw (fields_without_float fs) refl

-- the text of a value that has the fields
pub section_text : (d : Data) (fs : List Field) (text out : List ℕ) → d ≡ section_data fs
    → (has_float d ≡ false → text ≡ compact_text d) → out ≡ text ++ 10 ∷ [] → out ≡ section_json fs
section_text d fs text out e written more =
    let same : text ≡ compact_text (section_data fs) = written (ap has_float e ∙ section_without_float fs)
    ∙ ap compact_text e in
    more ∙ ap (λ t. t ++ 10 ∷ []) same

-- ---- the value tells the fields

hexadecimal_tells : (a b : List ℕ) → IsBytes a → IsBytes b → encode_lower a ≡ encode_lower b → a ≡ b
hexadecimal_tells a b p q e =
    let same : decode_of (encode_lower a) ≡ Ok b = ap decode_of e ∙ decode_of-encode_lower b q in
    let own : decode_of (encode_lower a) ≡ Ok a = decode_of-encode_lower a p in
    cc

bytes_tell : (a b : List ℕ) → IsBytes a → IsBytes b → bytes_data a ≡ bytes_data b → a ≡ b
bytes_tell a b p q e = go (is_utf8 a) (is_utf8 b) e
  where
    go : (t u : Bool)
        → cond t (string a) (object (member (codes "hex") (string (encode_lower a)) no_members))
        ≡ cond u (string b) (object (member (codes "hex") (string (encode_lower b)) no_members)) → a ≡ b
    go true true h = cc
    go true false h = absurd cc
    go false true h = absurd cc
    go false false h = hexadecimal_tells a b p q cc

-- names and values are bytes
abbrev pub HaveBytes : List Field → Type 0
HaveBytes [] = Unit {0}
HaveBytes (f ∷ fs) = IsBytes f.name × IsBytes f.value × HaveBytes fs

same_fields : (a b v w : List ℕ) → a ≡ b → v ≡ w
    → (let f : Field = record { name = a; value = v } in f) ≡ record { name = b; value = w }
same_fields a b v w d e = rw (d, e) refl

fields_tell : (fs gs : List Field) → HaveBytes fs → HaveBytes gs
    → items_of (map field_data fs) ≡ items_of (map field_data gs) → fs ≡ gs
fields_tell [] [] p q e = refl
fields_tell [] (g ∷ gs) p q e = absurd cc
fields_tell (f ∷ fs) [] p q e = absurd cc
fields_tell (f ∷ fs) (g ∷ gs) p q e =
    let name : f.name ≡ g.name = bytes_tell f.name g.name p.0 q.0 cc in
    let value : f.value ≡ g.value = bytes_tell f.value g.value p.1 q.1 cc in
    let rest : fs ≡ gs = fields_tell fs gs p.2 q.2 cc in
    let same : f ≡ g = same_fields f.name g.name f.value g.value name value in
    ap (λ (x : Field). x ∷ fs) same ∙ ap (λ (l : List Field). g ∷ l) rest

-- two lists of fields never have the same value
pub section_tells : (fs gs : List Field) → HaveBytes fs → HaveBytes gs → section_data fs ≡ section_data gs → fs ≡ gs
section_tells fs gs p q e = fields_tell fs gs p q cc
