-- Header lists in QIF: a field a line, an empty line after each list, and comments.
use Rattle.std.specs.Prelude.{◌≡◌, ℕ, ◌+◌, List, [], ◌∷◌, ◌++◌, Option, Some, None, Result, Ok, Err, nat_eq}
use Rattle.std.specs.Prelude.{if◌then◌else◌}
use Rattle.std.specs.List.{AllByRecursion, flat_map}
use Rattle.qpack_spec.specs.Field.{Field}
use Rattle.qpk_qif.specs.Lines.{lines_of, field_of_line}

-- ---- reading

-- what a line is: the end of a list, a comment, a field, or none of these, without a TAB
pub data LineMeaning : Type 0 where
  Ends : LineMeaning
  Comment : LineMeaning
  Holds : Field → LineMeaning
  NoTab : LineMeaning

-- a field, if there is one
abbrev pub held : Option Field → LineMeaning
held None = NoTab
held (Some f) = Holds f

-- an empty line ends a list, and one that begins with '#' is a comment
abbrev pub meaning_of_line : List ℕ → LineMeaning
meaning_of_line [] = Ends
meaning_of_line (b ∷ bytes) = if nat_eq b 35 then Comment else held (field_of_line (b ∷ bytes))

-- one more field at the front of the first list, which it begins if there is none
abbrev pub with_field : Field → List (List Field) → List (List Field)
with_field f [] = (f ∷ []) ∷ []
with_field f (fs ∷ lists) = (f ∷ fs) ∷ lists

-- the lists of a text, a line more at its front, which has this number
abbrev pub with_line : ℕ → LineMeaning → Result (List (List Field)) ℕ → Result (List (List Field)) ℕ
with_line n NoTab more = Err n
with_line n Comment more = more
with_line n Ends (Ok lists) = Ok ([] ∷ lists)
with_line n Ends (Err m) = Err m
with_line n (Holds f) (Ok lists) = Ok (with_field f lists)
with_line n (Holds f) (Err m) = Err m

-- the lists of lines that are numbered from n, or the number of the first line without a TAB
abbrev pub lists_from : ℕ → List (List ℕ) → Result (List (List Field)) ℕ
lists_from n [] = Ok []
lists_from n (line ∷ lines) = with_line n (meaning_of_line line) (lists_from (n + 1) lines)

-- the lists of a text, its lines being numbered from 1
abbrev pub lists_of : List ℕ → Result (List (List Field)) ℕ
lists_of text = lists_from 1 (lines_of text)

-- ---- writing

-- a field is a line
abbrev pub text_of_field : Field → List ℕ
text_of_field f = f.name ++ 9 ∷ f.value ++ 10 ∷ []

-- a list ends with an empty line
abbrev pub text_of_list : List Field → List ℕ
text_of_list fs = flat_map text_of_field fs ++ 10 ∷ []

abbrev pub text_of_lists : List (List Field) → List ℕ
text_of_lists lists = flat_map text_of_list lists

-- ---- what is written can be read

-- the list does not begin with '#'
abbrev pub IsNoComment : List ℕ → Type 0
IsNoComment [] = Unit {0}
IsNoComment (b ∷ bytes) = b ≡ 35 → ⊥

-- a field that a text can have: its name has no TAB, no line feed and no '#' at its front, and its value has no line
-- feed
pub record IsPlain (f : Field) : Type 0 where
  pub tabs : AllByRecursion (λ b. b ≡ 9 → ⊥) f.name
  pub feeds : AllByRecursion (λ b. b ≡ 10 → ⊥) f.name
  pub front : IsNoComment f.name
  pub value : AllByRecursion (λ b. b ≡ 10 → ⊥) f.value

-- the text of lists of such fields is the text of exactly these lists
abbrev pub WrittenListsAreRead : Type 0
WrittenListsAreRead = (lists : List (List Field)) → AllByRecursion (λ fs. AllByRecursion IsPlain fs) lists
    → lists_of (text_of_lists lists) ≡ Ok lists
