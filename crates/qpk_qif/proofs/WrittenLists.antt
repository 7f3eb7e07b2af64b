-- What is read of the text of lists is these lists.
use Rattle.std.proofs.Common.{◌≡◌, ℕ, ◌+◌, List, [], ◌∷◌, ◌++◌, Some, Ok, eqb, false, refl}
use Rattle.std.proofs.Common.{◌∙◌, append_assoc, arith}
use Rattle.std.proofs.lemmas.Bool.{ne_eqb}
use Rattle.std.specs.List.{AllByRecursion, flat_map}
use Rattle.qpack_spec.specs.Field.{Field}
use Rattle.qpk_qif.specs.Lines.{lines_of, field_of_line}
use Rattle.qpk_qif.specs.Lists.{Holds, IsPlain, IsNoComment, meaning_of_line, lists_from, text_of_field}
use Rattle.qpk_qif.specs.Lists.{text_of_lists}

differ : (m n : ℕ) → (m ≡ n → ⊥) → eqb m n ≡ false
differ m n h = ne_eqb m n h

line_behind : (line more : List ℕ) → AllByRecursion (λ b. b ≡ 10 → ⊥) line
    → lines_of (line ++ 10 ∷ more) ≡ line ∷ lines_of more
line_behind [] more h = refl
line_behind (b ∷ bytes) more h = rw (differ b 10 h.0, line_behind bytes more h.1) refl

field_behind : (name value : List ℕ) → AllByRecursion (λ b. b ≡ 9 → ⊥) name
    → field_of_line (name ++ 9 ∷ value) ≡ Some (record { name = name; value = value })
field_behind [] value h = refl
field_behind (b ∷ name) value h = rw (differ b 9 h.0, field_behind name value h.1) refl

meaning_behind : (name value : List ℕ) → AllByRecursion (λ b. b ≡ 9 → ⊥) name → IsNoComment name
    → meaning_of_line (name ++ 9 ∷ value) ≡ Holds (record { name = name; value = value })
meaning_behind [] value h front = refl
meaning_behind (b ∷ name) value h front =
    let f = field_behind (b ∷ name) value h in
    rw (differ b 35 front, f) refl

no_feed : (name value : List ℕ) → AllByRecursion (λ b. b ≡ 10 → ⊥) name → AllByRecursion (λ b. b ≡ 10 → ⊥) value
    → AllByRecursion (λ b. b ≡ 10 → ⊥) (name ++ 9 ∷ value)
no_feed [] value n v = ((λ e. omega (arith, e)), v)
no_feed (b ∷ name) value n v = (n.0, no_feed name value n.1 v)

field_text : (f : Field) (more : List ℕ) → text_of_field f ++ more ≡ (f.name ++ 9 ∷ f.value) ++ 10 ∷ more
field_text f more = append_assoc (f.name ++ 9 ∷ f.value) (10 ∷ []) more

fields_behind : (fs : List Field) (n : ℕ) (more : List ℕ) (lists : List (List Field)) → AllByRecursion IsPlain fs
    → ((k : ℕ) → lists_from k (lines_of more) ≡ Ok lists)
    → lists_from n (lines_of (flat_map text_of_field fs ++ 10 ∷ more)) ≡ Ok (fs ∷ lists)
fields_behind [] n more lists h rest = rw (rest (n + 1)) refl
fields_behind (f ∷ fs) n more lists h rest =
    let text = append_assoc (text_of_field f) (flat_map text_of_field fs) (10 ∷ more)
    ∙ field_text f (flat_map text_of_field fs ++ 10 ∷ more) in
    let line = line_behind (f.name ++ 9 ∷ f.value) (flat_map text_of_field fs ++ 10 ∷ more)
    (no_feed f.name f.value h.0.feeds h.0.value) in
    let meaning = meaning_behind f.name f.value h.0.tabs h.0.front in
    let others = fields_behind fs (n + 1) more lists h.1 rest in
    rw (text, line, meaning, others) refl

pub lists_behind : (lists : List (List Field)) (n : ℕ) → AllByRecursion (λ fs. AllByRecursion IsPlain fs) lists
    → lists_from n (lines_of (text_of_lists lists)) ≡ Ok lists
lists_behind [] n h = refl
lists_behind (fs ∷ lists) n h =
    let text = append_assoc (flat_map text_of_field fs) (10 ∷ []) (text_of_lists lists) in
    rw text (fields_behind fs n (text_of_lists lists) lists h.0 (λ k. lists_behind lists k h.1))
