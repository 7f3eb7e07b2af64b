-- The lists that are gathered line by line are those of the text.
use Rattle.std.proofs.Common.{◌≡◌, ℕ, ◌+◌, List, [], ◌∷◌, ◌++◌, Result, Ok, Err, refl, sym, ap, subst, ◌∙◌, append_assoc}
use Rattle.std.proofs.Common.{length, arith}
use Rattle.std.specs.Global.{Vec}
use Rattle.qpack_spec.specs.Field.{Field}
use Rattle.qpack_base.specs.declared.field.HeaderField.{HeaderField}
use Rattle.qpack_base.specs.HeaderFields.{field_of}
use Rattle.qpk_qif.specs.Lines.{lines_of}
use Rattle.qpk_qif.specs.Lists.{with_field, with_line, lists_from}
use Rattle.qpk_qif.specs.Lists.{meaning_of_line}
use Rattle.qpk_qif.specs.Answers.{Gathered, gathered, all_gathered, meaning_of, lists_in}
use Rattle.qpk_qif.specs.declared.lists.Line.{Line}
use Rattle.qpk_qif.specs.declared.lists.Line.TheVariants.{End, Remark, Field as OfField}

-- fields more at the front of the first list
abbrev pub with_open : List Field → List (List Field) → List (List Field)
with_open [] lists = lists
with_open (f ∷ fs) lists = with_field f (with_open fs lists)

-- the lists that were gathered, before those of the rest
abbrev pub behind : Gathered → Result (List (List Field)) ℕ → Result (List (List Field)) ℕ
behind g (Ok lists) = Ok (g.ended ++ with_open g.open_list lists)
behind g (Err n) = Err n

open_ends : (fs : List Field) (lists : List (List Field)) → with_open fs ([] ∷ lists) ≡ fs ∷ lists
open_ends [] lists = refl
open_ends (f ∷ fs) lists = rw (open_ends fs lists) refl

open_more : (fs : List Field) (f : Field) (lists : List (List Field))
    → with_open (fs ++ f ∷ []) lists ≡ with_open fs (with_field f lists)
open_more [] f lists = refl
open_more (x ∷ fs) f lists = ap (with_field x) (open_more fs f lists)

open_last : (f : Field) (fs : List Field) → with_open (f ∷ fs) [] ≡ (f ∷ fs) ∷ []
open_last f [] = refl
open_last f (x ∷ fs) = rw (open_last x fs) refl

takes_line : (g : Gathered) (n : ℕ) (line : Line) (more : Result (List (List Field)) ℕ)
    → behind (gathered g (meaning_of line)) more ≡ behind g (with_line n (meaning_of line) more)
takes_line g n End (Ok lists) = rw (open_ends g.open_list lists, append_assoc g.ended (g.open_list ∷ []) lists) refl
takes_line g n End (Err k) = refl
takes_line g n Remark (Ok lists) = refl
takes_line g n Remark (Err k) = refl
takes_line g n (OfField f) (Ok lists) = rw (open_more g.open_list (field_of f) lists) refl
takes_line g n (OfField f) (Err k) = refl

pub begins : (r : Result (List (List Field)) ℕ) → behind (record { ended = []; open_list = [] }) r ≡ r
begins (Ok lists) = refl
begins (Err n) = refl

pub goes_on : (g h : Gathered) (n : ℕ) (rest line after : List ℕ) (l : Line) (whole : Result (List (List Field)) ℕ)
    → behind g (lists_from (n + 1) (lines_of rest)) ≡ whole → lines_of rest ≡ line ∷ lines_of after
    → meaning_of_line line ≡ meaning_of l → h ≡ gathered g (meaning_of l)
    → behind h (lists_from (n + 1 + 1) (lines_of after)) ≡ whole
goes_on g h n rest line after l whole so parted is next =
    let step = takes_line g (n + 1) l (lists_from (n + 1 + 1) (lines_of after)) in
    let here : behind g (with_line (n + 1) (meaning_of l) (lists_from (n + 1 + 1) (lines_of after))) ≡ whole =
    rw (← is) (ap (λ (ls : List (List ℕ)). behind g (lists_from (n + 1) ls)) (sym parted) ∙ so) in
    rw next (step ∙ here)

last_is : (ended : List (List Field)) (fs : List Field)
    → all_gathered (record { ended = ended; open_list = fs }) ≡ ended ++ with_open fs []
last_is ended [] = append-nil-sym ended
  where
    append-nil-sym : (xs : List (List Field)) → xs ≡ xs ++ []
    append-nil-sym [] = refl
    append-nil-sym (x ∷ xs) = ap (λ (ys : List (List Field)). x ∷ ys) (append-nil-sym xs)
last_is ended (f ∷ fs) = rw (open_last f fs) refl

none_left : (bytes : List ℕ) → length bytes ≡ 0 → bytes ≡ []
none_left [] h = refl
none_left (b ∷ bytes) h = absurd (omega arith)

pub ends : (g : Gathered) (n : ℕ) (rest : List ℕ) (lists : List (Vec HeaderField)) (whole : Result (List (List Field)) ℕ)
    → length rest ≡ 0 → behind g (lists_from (n + 1) (lines_of rest)) ≡ whole → lists_in lists ≡ all_gathered g
    → whole ≡ Ok (lists_in lists)
ends g n rest lists whole none so all =
    let here : behind g (lists_from (n + 1) (lines_of [])) ≡ whole =
    subst (λ (r : List ℕ). behind g (lists_from (n + 1) (lines_of r)) ≡ whole) (none_left rest none) so in
    sym here ∙ ap (λ (ls : List (List Field)). Ok ls) (sym (all ∙ last_is g.ended g.open_list))
