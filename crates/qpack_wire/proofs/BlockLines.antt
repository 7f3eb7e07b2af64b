-- A line is that of the form which its first byte names.
use Rattle.std.proofs.Common.{◌≡◌, ℕ, ◌/◌, ◌%◌, ◌<◌, ◌≤◌, Bool, true, false, List, [], ◌∷◌, Option, Some, Err, refl}
use Rattle.std.proofs.Common.{sym, ap, subst, ◌∙◌, arith, drop, length, inl, inr, ◌⊎◌}
use Rattle.std.specs.Prelude.{nat_lt, nat_eq, if◌then◌else◌}
use Rattle.std.proofs.lemmas.Bool.{lt-ltb, le-ltb, cases_lt}
use Rattle.qpack_spec.specs.Integer.{UnexpectedEnd}
use Rattle.qpack_spec.specs.Form.{BadInteger, Form, form_at}
use Rattle.qpack_spec.specs.Line.{Line, SpellsLine, line_form}
use Rattle.qpack_wire.specs.Alone.{Kind, Unreadable, form_for, or_unreadable, kind_at}
use Rattle.qpack_wire.specs.Lines.{indexed_line, indexed_line_with_post_base, literal_with_name_ref}
use Rattle.qpack_wire.specs.Lines.{literal_with_post_base_name_ref, literal}
use Rattle.qpack_wire.specs.BlockLines.{field_of_first, RefusesBlockLine, line_at}
use Rattle.qpack_wire.specs.declared.block.line.HeaderBlockField.{HeaderBlockField}
use Rattle.qpack_wire.specs.declared.block.line.HeaderBlockField.TheVariants as field
use Rattle.qpack_wire.specs.Memory.{AsksForMemory}
use Rattle.qpack_wire.proofs.Asking.{asks_same}
use Rattle.qpack_wire.proofs.Readers.{Follows}
use Rattle.qpack_wire.proofs.Alones.{Coherent, alone_own, form_own, forms_follow}
use Rattle.qpack_wire.proofs.LineForms.{coherent_indexed, coherent_post_base, coherent_name_ref}
use Rattle.qpack_wire.proofs.LineForms.{coherent_post_base_name_ref}

-- ---- the forms alone name the line's form

-- some form is named
abbrev Names : Option (Form Line) → Type 0
Names o = (form : Form Line) × (o ≡ Some form)

either_names : (test : Bool) (x y : Option (Form Line)) → Names x → Names y → Names (if test then x else y)
either_names true x y p q = p
either_names false x y p q = q

line_named : (b : ℕ) → b < 256 → Names (line_form b)
unfolding line_form
line_named b h =
    either_names (nat_lt b 16) _ _ (_, refl)
    (either_names (nat_lt b 32) _ _ (_, refl)
    (either_names (nat_lt b 64) _ _ (_, refl)
    (either_names (nat_lt b 128) _ _ (either_names (nat_eq (b / 16 % 2) 1) _ _ (_, refl) (_, refl))
    (either_names (nat_lt b 192) _ _ (_, refl) (rw (lt-ltb b 256 h) (_, refl))))))

-- where a form alone names what a line's first byte does, it is read as the line
alone_is_line : (a : Kind Line) → Coherent a → (b : ℕ) (bs : List ℕ) → b < 256 → form_for a b ≡ line_form b
    → kind_at a (b ∷ bs) ≡ line_at (b ∷ bs)
alone_is_line a c b bs h same =
    let named = line_named b h in
    alone_own a c b bs named.0 (same ∙ named.1) ∙ sym (ap or_unreadable (form_own line_form b bs named.0 named.1))

dynamic_index : (b : ℕ) → 128 ≤ b → b < 192 → form_for indexed_line b ≡ line_form b
unfolding line_form
dynamic_index b low high =
    let q : b / 64 ≡ 2 = omega arith in
    rw (
      q,
      le-ltb b 16 (omega arith),
      le-ltb b 32 (omega arith),
      le-ltb b 64 (omega arith),
      le-ltb b 128 low,
      lt-ltb b 192 high,
    ) refl

static_index : (b : ℕ) → 192 ≤ b → b < 256 → form_for indexed_line b ≡ line_form b
unfolding line_form
static_index b low high =
    let q : b / 64 ≡ 3 = omega arith in
    rw (
      q,
      le-ltb b 16 (omega arith),
      le-ltb b 32 (omega arith),
      le-ltb b 64 (omega arith),
      le-ltb b 128 (omega arith),
      le-ltb b 192 low,
      lt-ltb b 256 high,
    ) refl

pub same_indexed : (b : ℕ) → 128 ≤ b → b < 256 → form_for indexed_line b ≡ line_form b
same_indexed b low high = pick (cases_lt b 192)
  where
    pick : (b < 192) ⊎ (192 ≤ b) → form_for indexed_line b ≡ line_form b
    pick (inl h) = dynamic_index b low h
    pick (inr h) = static_index b h high

pub same_post_base : (b : ℕ) → 16 ≤ b → b < 32 → form_for indexed_line_with_post_base b ≡ line_form b
unfolding line_form
same_post_base b low high = let q : b / 16 ≡ 1 = omega arith in rw (q, le-ltb b 16 low, lt-ltb b 32 high) refl

pub same_name_ref : (b : ℕ) → 64 ≤ b → b < 128 → form_for literal_with_name_ref b ≡ line_form b
unfolding line_form
same_name_ref b low high =
    let q : b / 16 / 4 ≡ 1 = omega arith in
    rw (q, le-ltb b 16 (omega arith), le-ltb b 32 (omega arith), le-ltb b 64 low, lt-ltb b 128 high) refl

pub same_post_base_name_ref : (b : ℕ) → b < 16 → form_for literal_with_post_base_name_ref b ≡ line_form b
unfolding line_form
same_post_base_name_ref b high = rw (lt-ltb (b / 8) 2 (omega arith), lt-ltb b 16 high) refl

pub same_literal : (b : ℕ) → 32 ≤ b → b < 64 → form_for literal b ≡ line_form b
unfolding line_form
same_literal b low high =
    let q : b / 32 ≡ 1 = omega arith in rw (q, le-ltb b 16 (omega arith), le-ltb b 32 low, lt-ltb b 64 high) refl

-- ---- each form, where the first byte tells it

-- the first bytes of each form
abbrev IsFirstOf : ℕ → HeaderBlockField → Type 0
IsFirstOf b field.LiteralWithPostBaseNameRef = b < 16
IsFirstOf b field.IndexedWithPostBase = (16 ≤ b) × (b < 32)
IsFirstOf b field.Literal = (32 ≤ b) × (b < 64)
IsFirstOf b field.LiteralWithNameRef = (64 ≤ b) × (b < 128)
IsFirstOf b field.Indexed = 128 ≤ b
IsFirstOf b field.Unknown = ⊥

first_of_post_base_name_ref : (b : ℕ) → b < 16 → field_of_first b ≡ field.LiteralWithPostBaseNameRef
first_of_post_base_name_ref b h = rw (lt-ltb b 16 h) refl

first_of_post_base : (b : ℕ) → 16 ≤ b → b < 32 → field_of_first b ≡ field.IndexedWithPostBase
first_of_post_base b low high = rw (le-ltb b 16 low, lt-ltb b 32 high) refl

first_of_literal : (b : ℕ) → 32 ≤ b → b < 64 → field_of_first b ≡ field.Literal
first_of_literal b low high = rw (le-ltb b 16 (omega arith), le-ltb b 32 low, lt-ltb b 64 high) refl

first_of_name_ref : (b : ℕ) → 64 ≤ b → b < 128 → field_of_first b ≡ field.LiteralWithNameRef
first_of_name_ref b low high =
    rw (le-ltb b 16 (omega arith), le-ltb b 32 (omega arith), le-ltb b 64 low, lt-ltb b 128 high) refl

first_of_indexed : (b : ℕ) → 128 ≤ b → field_of_first b ≡ field.Indexed
first_of_indexed b low =
    rw (le-ltb b 16 (omega arith), le-ltb b 32 (omega arith), le-ltb b 64 (omega arith), le-ltb b 128 low) refl

first_of_at : (b : ℕ) → IsFirstOf b (field_of_first b)
first_of_at b =
    elim (cases_lt b 16) [
      | inl h ↦ subst (IsFirstOf b) (sym (first_of_post_base_name_ref b h)) h
      | inr h16 ↦
          elim (cases_lt b 32) [
            | inl h ↦ subst (IsFirstOf b) (sym (first_of_post_base b h16 h)) (h16, h)
            | inr h32 ↦
                elim (cases_lt b 64) [
                  | inl h ↦ subst (IsFirstOf b) (sym (first_of_literal b h32 h)) (h32, h)
                  | inr h64 ↦
                      elim (cases_lt b 128) [
                        | inl h ↦ subst (IsFirstOf b) (sym (first_of_name_ref b h64 h)) (h64, h)
                        | inr h128 ↦ subst (IsFirstOf b) (sym (first_of_indexed b h128)) h128
                      ]
                ]
          ]
    ]

first_of : (b : ℕ) (f : HeaderBlockField) → field_of_first b ≡ f → IsFirstOf b f
first_of b f e = subst (IsFirstOf b) e (first_of_at b)

pub none_unknown : (b : ℕ) → field_of_first b ≡ field.Unknown → ⊥
none_unknown b e = first_of b field.Unknown e

-- a byte list that begins with this byte
abbrev BeginsWith : ℕ → List ℕ → Type 0
BeginsWith b rest = rest ≡ b ∷ drop 1 rest

as_line : (a : Kind Line) → Coherent a → (b : ℕ) (rest : List ℕ) → b < 256 → BeginsWith b rest
    → form_for a b ≡ line_form b → kind_at a rest ≡ line_at rest
as_line a c b rest h e same = ap (kind_at a) e ∙ alone_is_line a c b (drop 1 rest) h same ∙ sym (ap line_at e)

pub as_indexed : (b : ℕ) (rest : List ℕ) → b < 256 → BeginsWith b rest → field_of_first b ≡ field.Indexed
    → kind_at indexed_line rest ≡ line_at rest
as_indexed b rest h e f = as_line indexed_line coherent_indexed b rest h e
    (same_indexed b (first_of b field.Indexed f) h)

pub as_post_base : (b : ℕ) (rest : List ℕ) → b < 256 → BeginsWith b rest → field_of_first b ≡ field.IndexedWithPostBase
    → kind_at indexed_line_with_post_base rest ≡ line_at rest
as_post_base b rest h e f =
    let t = first_of b field.IndexedWithPostBase f in as_line indexed_line_with_post_base coherent_post_base b rest h e
    (same_post_base b t.0 t.1)

pub as_name_ref : (b : ℕ) (rest : List ℕ) → b < 256 → BeginsWith b rest → field_of_first b ≡ field.LiteralWithNameRef
    → kind_at literal_with_name_ref rest ≡ line_at rest
as_name_ref b rest h e f =
    let t = first_of b field.LiteralWithNameRef f in as_line literal_with_name_ref coherent_name_ref b rest h e
    (same_name_ref b t.0 t.1)

pub as_post_base_name_ref : (b : ℕ) (rest : List ℕ) → b < 256 → BeginsWith b rest
    → field_of_first b ≡ field.LiteralWithPostBaseNameRef → kind_at literal_with_post_base_name_ref rest ≡ line_at rest
as_post_base_name_ref b rest h e f =
    as_line literal_with_post_base_name_ref coherent_post_base_name_ref b rest h e
    (same_post_base_name_ref b (first_of b field.LiteralWithPostBaseNameRef f))

pub as_literal : (b : ℕ) (rest : List ℕ) → b < 256 → BeginsWith b rest → field_of_first b ≡ field.Literal
    → kind_at literal rest ≡ line_at rest
as_literal b rest h e f = let t = first_of b field.Literal f in as_line literal tt b rest h e (same_literal b t.0 t.1)

-- memory is asked for the line where it is for its form

pub asks_name_ref : (b : ℕ) (rest : List ℕ) → b < 256 → BeginsWith b rest → field_of_first b ≡ field.LiteralWithNameRef
    → AsksForMemory (form_for literal_with_name_ref) rest → AsksForMemory line_form rest
asks_name_ref b rest h e f a =
    let t = first_of b field.LiteralWithNameRef f in asks_same (form_for literal_with_name_ref) line_form b rest e
    (same_name_ref b t.0 t.1) a

pub asks_post_base_name_ref : (b : ℕ) (rest : List ℕ) → b < 256 → BeginsWith b rest
    → field_of_first b ≡ field.LiteralWithPostBaseNameRef
    → AsksForMemory (form_for literal_with_post_base_name_ref) rest → AsksForMemory line_form rest
asks_post_base_name_ref b rest h e f a =
    asks_same (form_for literal_with_post_base_name_ref) line_form b rest e
    (same_post_base_name_ref b (first_of b field.LiteralWithPostBaseNameRef f)) a

pub asks_literal : (b : ℕ) (rest : List ℕ) → b < 256 → BeginsWith b rest → field_of_first b ≡ field.Literal
    → AsksForMemory (form_for literal) rest → AsksForMemory line_form rest
asks_literal b rest h e f a =
    let t = first_of b field.Literal f in asks_same (form_for literal) line_form b rest e (same_literal b t.0 t.1) a

-- each form, where the first byte tells it
pub ruleset lines_by_first = (
  as_indexed,
  as_post_base,
  as_name_ref,
  as_post_base_name_ref,
  as_literal,
  none_unknown,
  asks_name_ref,
  asks_post_base_name_ref,
)

-- ---- the reading of lines is their relation

pub line_of_nothing : (seen rest : List ℕ) → length seen ≡ 0 → seen ≡ rest
    → line_at rest ≡ Err (Unreadable (BadInteger UnexpectedEnd))
unfolding form_at
line_of_nothing [] rest h e = ap line_at (sym e)
line_of_nothing (x ∷ xs) rest h e = absurd (omega arith)

pub line_follows : Follows Line SpellsLine RefusesBlockLine line_at
line_follows = forms_follow line_form RefusesBlockLine (λ encoding f. (λ r. r, λ r. r)) (λ encoding bits r. r)
