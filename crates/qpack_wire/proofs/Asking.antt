-- Where reading asks for memory, from left to right and by the fronts of forms.
use Rattle.std.proofs.Common.{◌≡◌, ℕ, List, [], ◌∷◌, ◌++◌, drop, Option, None, Some, Result, Ok, Err, refl, sym, ap}
use Rattle.std.proofs.Common.{subst, ◌∙◌, append_assoc, inl, inr, ◌⊎◌}
use Rattle.std.specs.Prelude.{IsOkAnd}
use Rattle.qpack_spec.specs.Bytes.{Begins}
use Rattle.qpack_spec.specs.Integer.{IntegerFault, integer_at}
use Rattle.qpack_spec.specs.Text.{StringFault, HoldsPayload, string_at}
use Rattle.qpack_spec.specs.Line.{Line, line_form, SpellsLine}
use Rattle.qpack_spec.specs.Prefix.{Prefix, SpellsPrefix}
use Rattle.qpack_spec.specs.Form.{Form, Index, IndexAndValue, NameAndValue, HoldsIndex, HoldsText, InTurn}
use Rattle.qpack_spec.proofs.Integers.{integer_takes}
use Rattle.qpack_spec.proofs.Texts.{string_takes}
use Rattle.qpack_base.specs.Cursor.{CursorView, MovesPast}
use Rattle.qpack_base.specs.declared.prefix_int.Error.TheVariants as integer
use Rattle.qpack_base.specs.declared.prefix_string.Error.TheVariants as string
use Rattle.qpack_base.specs.declared.parse_error.ParseError.{ParseError}
use Rattle.qpack_base.specs.declared.parse_error.ParseError.TheVariants.{Integer, String, Memory}
use Rattle.qpack_wire.specs.Alone.{Kind, ByFlags, ByFirstByte, form_for}
use Rattle.qpack_wire.specs.StreamAnswers.{without_end}
use Rattle.qpack_wire.specs.Memory.{AsksForm, AsksForMemory, AsksFormAt, AsksAt, HoldsPrefix, HoldsLine, AsksLine}
use Rattle.qpack_wire.specs.Memory.{AsksSectionForMemory}
use Rattle.qpack_wire.proofs.Alones.{flags_above}
use Rattle.qpack_wire.proofs.Readers.{failed}

-- ---- the fronts of a form

in_turn : {P Q : List ℕ → Type 0} (bytes encoding rest : List ℕ) → bytes ≡ encoding ++ rest → P encoding
    → Begins Q rest
    → Begins (InTurn P Q) bytes
in_turn bytes encoding rest e p b = record {
  encoding = encoding ++ b.encoding;
  rest = b.rest;
  parts = e ∙ ap (λ (t : List ℕ). encoding ++ t) b.parts ∙ sym (append_assoc encoding b.encoding b.rest);
  holds = record { head = encoding; tail = b.encoding; parts = refl; first = p; second = b.holds };
}

asks_value : {L : Type 0} (n : ℕ) (make : ℕ → List ℕ → L) (bytes : List ℕ) (r : Result (ℕ × ℕ × List ℕ) IntegerFault)
    → integer_at n bytes ≡ r
    → IsOkAnd r (λ i. Begins (HoldsPayload 8) i.2) → Begins (AsksForm (IndexAndValue n make)) bytes
asks_value n make bytes (Ok i) e h =
    let t = integer_takes n bytes i.0 i.1 i.2 e in in_turn bytes t.encoding i.2 t.parts (i.1, (i.0, t.spells)) h
asks_value n make bytes (Err f) e h = absurd h

asks_second : {L : Type 0} (n : ℕ) (make : List ℕ → List ℕ → L) (bytes : List ℕ)
    (r : Result (ℕ × List ℕ × List ℕ) StringFault) → string_at n bytes ≡ r
    → IsOkAnd r (λ m. Begins (HoldsPayload 8) m.2) → Begins (AsksForm (NameAndValue n make)) bytes
asks_second {L} n make bytes (Ok m) e h =
    let t = string_takes n bytes m.0 m.1 m.2 e in
    let b = in_turn {P = λ t. (name : List ℕ) × HoldsText n name t} bytes t.encoding m.2 t.parts
    (m.1, (m.0, t.spells)) h in
    record { encoding = b.encoding; rest = b.rest; parts = b.parts; holds = inr b.holds }
asks_second n make bytes (Err f) e h = absurd h

asks_form : {L : Type 0} (form : Form L) (bytes : List ℕ) → AsksFormAt (Some form) bytes → Begins (AsksForm form) bytes
asks_form (Index n make) bytes h = absurd h
asks_form (IndexAndValue n make) bytes h = asks_value n make bytes (integer_at n bytes) refl h
asks_form (NameAndValue n make) bytes (inl b) =
    record { encoding = b.encoding; rest = b.rest; parts = b.parts; holds = inl b.holds }
asks_form (NameAndValue n make) bytes (inr h) = asks_second n make bytes (string_at n bytes) refl h

-- ---- and they have a first byte

no_tail : (head tail : List ℕ) → [] ≡ head ++ tail → tail ≡ []
no_tail [] tail e = sym e
no_tail (x ∷ xs) tail e = absurd cc

no_payload : (n : ℕ) → HoldsPayload n [] → ⊥
no_payload n h = h.some (no_tail h.literal.head h.payload h.literal.parts)

no_second : (P : List ℕ → Type 0) → InTurn P (HoldsPayload 8) [] → ⊥
no_second P t = no_payload 8 (subst (HoldsPayload 8) (no_tail t.head t.tail t.parts) t.second)

no_front : {L : Type 0} (form : Form L) → AsksForm form [] → ⊥
no_front (Index n make) h = h
no_front (IndexAndValue n make) h = no_second (λ t. (index : ℕ) × HoldsIndex n index t) h
no_front (NameAndValue n make) (inl h) = no_payload n h
no_front (NameAndValue n make) (inr h) = no_second (λ t. (name : List ℕ) × HoldsText n name t) h

asks_named : {L : Type 0} (form_of : ℕ → Option (Form L)) (b : ℕ) (bs : List ℕ) (o : Option (Form L)) → form_of b ≡ o
    → AsksFormAt o (b ∷ bs) → AsksForMemory form_of (b ∷ bs)
asks_named form_of b bs None e h = absurd h
asks_named {L} form_of b bs (Some form) e h =
    let f = asks_form form (b ∷ bs) h in go f.encoding f.rest f.parts f.holds
  where
    go : (encoding rest : List ℕ) → b ∷ bs ≡ encoding ++ rest → AsksForm form encoding → AsksForMemory form_of (b ∷ bs)
    go [] rest p h = absurd (no_front form h)
    go (c ∷ cs) rest p h = record {
      encoding = c ∷ cs;
      rest = rest;
      parts = p;
      holds = record {
        first = c;
        more = cs;
        form = form;
        begins = refl;
        names = (let same : b ≡ c = cc in ap form_of (sym same) ∙ e);
        asks = h;
      };
    }

-- where reading a form alone asks for memory, a front of a form stands that may
pub asks_alone : {L : Type 0} (a : Kind L) (bytes : List ℕ) → AsksAt a bytes → AsksForMemory (form_for a) bytes
unfolding integer_at
asks_alone (ByFlags n named) [] h = absurd h
asks_alone {L} (ByFlags n named) (b ∷ bs) h = go (integer_at n (b ∷ bs)) refl h
  where
    go : (r : Result (ℕ × ℕ × List ℕ) IntegerFault) → integer_at n (b ∷ bs) ≡ r
        → IsOkAnd r (λ i. AsksFormAt (named i.0) (b ∷ bs)) → AsksForMemory (form_for (ByFlags n named)) (b ∷ bs)
    go (Ok i) e h =
        asks_named (form_for (ByFlags n named)) b bs (named i.0) (ap named (sym (flags_above n b bs i e))) h
    go (Err f) e h = absurd h
asks_alone (ByFirstByte named) [] h = absurd h
asks_alone (ByFirstByte named) (b ∷ bs) h = asks_named named b bs (named b) refl h

-- ---- forms that name the same by a first byte

first_same : (b c : ℕ) (more rest bytes : List ℕ) → bytes ≡ b ∷ drop 1 bytes → bytes ≡ (c ∷ more) ++ rest → b ≡ c
first_same b c more rest bytes e p = cc

pub asks_same : {L : Type 0} (form_of other : ℕ → Option (Form L)) (b : ℕ) (bytes : List ℕ) → bytes ≡ b ∷ drop 1 bytes
    → form_of b ≡ other b
    → AsksForMemory form_of bytes → AsksForMemory other bytes
asks_same {L} form_of other b bytes e same h =
    let a = h.holds in
    let is : b ≡ a.first = first_same b a.first a.more h.rest bytes e
    (h.parts ∙ ap (λ (t : List ℕ). t ++ h.rest) a.begins) in
    record {
      encoding = h.encoding;
      rest = h.rest;
      parts = h.parts;
      holds = record {
        first = a.first;
        more = a.more;
        form = a.form;
        begins = a.begins;
        names = ap other (sym is) ∙ sym same ∙ ap form_of is ∙ a.names;
        asks = a.asks;
      };
    }

-- ---- want of memory is no early end

pub memory_kept : {V : Type 0} (r : Result V ParseError) → without_end r ≡ Err Memory → r ≡ Err Memory
memory_kept (Ok v) h = absurd cc
memory_kept (Err (Integer integer.UnexpectedEnd)) h = absurd cc
memory_kept (Err (String string.UnexpectedEnd)) h = absurd cc
memory_kept {V} (Err e) h = let same : e ≡ Memory = cc in ap (λ (x : ParseError). failed {V = V} x) same

-- ---- the lines of a section: at the first line, or behind it

-- nothing was read yet, or the first line whole
abbrev pub HasBegun : List ℕ → List ℕ → Type 0
HasBegun all rest = (rest ≡ all) ⊎ Begins HoldsLine all

pub asks_held : (bytes : List ℕ) → Begins HoldsLine bytes → Begins AsksLine bytes
asks_held bytes b = record { encoding = b.encoding; rest = b.rest; parts = b.parts; holds = inl b.holds }

-- a line that was found
pub asks_found : (old new : CursorView) (l : Line) → (encoding : List ℕ) × SpellsLine encoding l
    × MovesPast encoding old new
    → Begins AsksLine old.rest
asks_found old new l f = record { encoding = f.0; rest = new.rest; parts = f.2.0; holds = inl (l, f.1) }

-- the lines behind a prefix that was found
pub asks_section : (old mid : CursorView) (p : Prefix) → (encoding : List ℕ) × SpellsPrefix encoding p
    × MovesPast encoding old mid
    → Begins AsksLine mid.rest → AsksSectionForMemory old.rest
asks_section old mid p f b = in_turn {P = HoldsPrefix} old.rest f.0 mid.rest f.2.0 (p, f.1) b

-- what is asked for behind the beginning may be asked for of all
pub asks_begun : (all rest : List ℕ) → HasBegun all rest → Begins AsksLine rest → Begins AsksLine all
asks_begun all rest (inl e) b = subst (Begins AsksLine) e b
asks_begun all rest (inr h) b = asks_held all h

-- where a line asks for memory, one stands there that may
pub asks_line : (bytes : List ℕ) → AsksForMemory line_form bytes → Begins AsksLine bytes
asks_line bytes b = record { encoding = b.encoding; rest = b.rest; parts = b.parts; holds = inr b.holds }
