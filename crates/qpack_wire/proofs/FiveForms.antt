-- The five forms of a line, each told by its own first bits, make up the lines.
use Rattle.std.proofs.Common.{◌≡◌, ℕ, ◌/◌, ◌<◌, Bool, true, false, List, Option, None, Some, refl, sym, ◌∙◌, arith, inl}
use Rattle.std.proofs.Common.{inr, ◌⊎◌}
use Rattle.std.specs.Prelude.{nat_lt, nat_eq, if◌then◌else◌}
use Rattle.std.proofs.lemmas.Bool.{ltb-true, eqb-true, le-ltb, cases_lt}
use Rattle.qpack_spec.specs.Form.{Form}
use Rattle.qpack_spec.specs.Line.{Line, SpellsLine, line_form}
use Rattle.qpack_wire.specs.Alone.{Kind, form_for, SpellsKind}
use Rattle.qpack_wire.specs.Lines.{indexed_line, indexed_line_with_post_base, literal_with_name_ref}
use Rattle.qpack_wire.specs.Lines.{literal_with_post_base_name_ref, literal}
use Rattle.qpack_wire.specs.LineLaws.{LinesHaveFiveForms}
use Rattle.qpack_wire.proofs.BlockLines.{same_indexed, same_post_base, same_name_ref, same_post_base_name_ref}
use Rattle.qpack_wire.proofs.BlockLines.{same_literal}

-- a form is named only where one of the tests holds
pub test_holds : {L : Type 0} (test : Bool) (x : Option (Form L)) (form : Form L)
    → (if test then x else None) ≡ Some form → test ≡ true
test_holds true x form e = refl
test_holds false x form e = absurd cc

one_holds : {L : Type 0} (test other : Bool) (x y : Option (Form L)) (form : Form L)
    → (if test then x else if other then y else None) ≡ Some form → (test ≡ true) ⊎ (other ≡ true)
one_holds true other x y form e = inl refl
one_holds false other x y form e = inr (test_holds other y form e)

-- ---- a form alone names what the line's first byte names

named_indexed : (b : ℕ) (form : Form Line) → form_for indexed_line b ≡ Some form → line_form b ≡ Some form
named_indexed b form e = pick (one_holds (nat_eq (b / 64) 3) (nat_eq (b / 64) 2) _ _ form e)
  where
    pick : (nat_eq (b / 64) 3 ≡ true) ⊎ (nat_eq (b / 64) 2 ≡ true) → line_form b ≡ Some form
    pick (inl h) = let q = eqb-true (b / 64) 3 h in sym (same_indexed b (omega (arith, q)) (omega (arith, q))) ∙ e
    pick (inr h) = let q = eqb-true (b / 64) 2 h in sym (same_indexed b (omega (arith, q)) (omega (arith, q))) ∙ e

named_post_base : (b : ℕ) (form : Form Line) → form_for indexed_line_with_post_base b ≡ Some form
    → line_form b ≡ Some form
named_post_base b form e =
    let q = eqb-true (b / 16) 1 (test_holds (nat_eq (b / 16) 1) _ form e) in
    sym (same_post_base b (omega (arith, q)) (omega (arith, q))) ∙ e

named_name_ref : (b : ℕ) (form : Form Line) → form_for literal_with_name_ref b ≡ Some form → line_form b ≡ Some form
named_name_ref b form e =
    let q = eqb-true (b / 16 / 4) 1 (test_holds (nat_eq (b / 16 / 4) 1) _ form e) in
    sym (same_name_ref b (omega (arith, q)) (omega (arith, q))) ∙ e

named_post_base_name_ref : (b : ℕ) (form : Form Line) → form_for literal_with_post_base_name_ref b ≡ Some form
    → line_form b ≡ Some form
named_post_base_name_ref b form e =
    let q = ltb-true (b / 8) 2 (test_holds (nat_lt (b / 8) 2) _ form e) in
    sym (same_post_base_name_ref b (omega (arith, q))) ∙ e

named_literal : (b : ℕ) (form : Form Line) → form_for literal b ≡ Some form → line_form b ≡ Some form
named_literal b form e =
    let q = eqb-true (b / 32) 1 (test_holds (nat_eq (b / 32) 1) _ form e) in
    sym (same_literal b (omega (arith, q)) (omega (arith, q))) ∙ e

-- ---- spellings

-- a spelling stays one where its first byte names the same form
spelled : (a : Kind Line) (encoding : List ℕ) (l : Line)
    → ((b : ℕ) (form : Form Line) → form_for a b ≡ Some form → line_form b ≡ Some form) → SpellsKind a encoding l
    → SpellsLine encoding l
spelled a encoding l same s = record {
  first = s.first;
  more = s.more;
  form = s.form;
  begins = s.begins;
  names = same s.first s.form s.names;
  spells = s.spells;
}

alone : (a : Kind Line) (encoding : List ℕ) (l : Line) (s : SpellsLine encoding l) → form_for a s.first
    ≡ line_form s.first
    → SpellsKind a encoding l
alone a encoding l s same = record {
  first = s.first;
  more = s.more;
  form = s.form;
  begins = s.begins;
  names = same ∙ s.names;
  spells = s.spells;
}

-- no number past a byte begins a line
byte_first : (b : ℕ) (form : Form Line) → line_form b ≡ Some form → b < 256
unfolding line_form
byte_first b form e =
    elim (cases_lt b 256) [
      | inl h ↦ h
      | inr h ↦
          absurd (let t16 = le-ltb b 16 (omega arith) in
          let t32 = le-ltb b 32 (omega arith) in
          let t64 = le-ltb b 64 (omega arith) in
          let t128 = le-ltb b 128 (omega arith) in
          let t192 = le-ltb b 192 (omega arith) in
          let t256 = le-ltb b 256 h in
          let n = rw (t16, t32, t64, t128, t192, t256) at e in
          cc)
    ]

apart : (encoding : List ℕ) (l : Line) → SpellsLine encoding l
    → SpellsKind indexed_line encoding l
    ⊎ (SpellsKind indexed_line_with_post_base encoding l
    ⊎ (SpellsKind literal_with_name_ref encoding l ⊎ (SpellsKind literal_with_post_base_name_ref encoding l
    ⊎ SpellsKind literal encoding l)))
apart encoding l s =
    elim (cases_lt s.first 16) [
      | inl h ↦ inr (inr (inr (inl (alone literal_with_post_base_name_ref encoding l s
          (same_post_base_name_ref s.first h)))))
      | inr h16 ↦
          elim (cases_lt s.first 32) [
            | inl h ↦ inr (inl (alone indexed_line_with_post_base encoding l s (same_post_base s.first h16 h)))
            | inr h32 ↦
                elim (cases_lt s.first 64) [
                  | inl h ↦ inr (inr (inr (inr (alone literal encoding l s (same_literal s.first h32 h)))))
                  | inr h64 ↦
                      elim (cases_lt s.first 128) [
                        | inl h ↦ inr (inr (inl
                            (alone literal_with_name_ref encoding l s (same_name_ref s.first h64 h))))
                        | inr h128 ↦ inl (alone indexed_line encoding l s (same_indexed s.first h128
                            (byte_first s.first s.form s.names)))
                      ]
                ]
          ]
    ]

pub five_forms : LinesHaveFiveForms
five_forms encoding l = (apart encoding l, together)
  where
    together : SpellsKind indexed_line encoding l
        ⊎ (SpellsKind indexed_line_with_post_base encoding l
        ⊎ (SpellsKind literal_with_name_ref encoding l ⊎ (SpellsKind literal_with_post_base_name_ref encoding l
        ⊎ SpellsKind literal encoding l)))
        → SpellsLine encoding l
    together (inl s) = spelled indexed_line encoding l named_indexed s
    together (inr (inl s)) = spelled indexed_line_with_post_base encoding l named_post_base s
    together (inr (inr (inl s))) = spelled literal_with_name_ref encoding l named_name_ref s
    together (inr (inr (inr (inl s)))) = spelled literal_with_post_base_name_ref encoding l named_post_base_name_ref s
    together (inr (inr (inr (inr s)))) = spelled literal encoding l named_literal s
