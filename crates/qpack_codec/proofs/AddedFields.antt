-- Field lines that are added to a block in progress, one after the other.
use Rattle.std.proofs.Common.{◌≡◌, ℕ, zero, suc, ◌+◌, ◌<◌, List, [], ◌∷◌, ◌++◌, map, take, length, get_or}
use Rattle.std.proofs.Common.{refl, sym, ap, ◌∙◌, append_assoc, add-one}
use Rattle.std.proofs.Common.{arith}
use Rattle.std.proofs.Math.Seq.{take-suc}
use Rattle.std.proofs.lemmas.List.{map-append}
use Rattle.qpack_spec.specs.Field.{Field, FieldLine}
use Rattle.qpack_spec.specs.Marked.{coded_marked_lines}
use Rattle.qpack_spec.specs.Instruction.{EncoderInstruction, coded_encoder_instruction, coded_encoder_instructions}
use Rattle.qpack_spec.specs.Line.{Line, coded_lines, coded_marked_line}
use Rattle.qpack_spec.specs.Rule.{Draft}
use Rattle.qpack_spec.specs.Text.{Coding}

-- ---- what is written, one list behind another

pub lines_behind : (coding : Coding) (ls ks : List FieldLine) (xs ys : List Line) → length xs ≡ length ls
    → coded_marked_lines coding (ls ++ ks) (xs ++ ys) ≡ coded_marked_lines coding ls xs ++ coded_marked_lines coding ks ys
unfolding coded_marked_lines coded_lines
lines_behind coding [] ks [] ys each = refl
lines_behind coding [] ks (x ∷ xs) ys each = absurd (omega (arith, each))
lines_behind coding (l ∷ ls) ks [] ys each = absurd (omega (arith, each))
lines_behind coding (l ∷ ls) ks (x ∷ xs) ys each =
    ap (λ (b : List ℕ). coded_marked_line coding l.never_indexed x ++ b) (lines_behind coding ls ks xs ys (omega (arith, each)))
    ∙ sym (append_assoc (coded_marked_line coding l.never_indexed x) (coded_marked_lines coding ls xs)
    (coded_marked_lines coding ks ys))

pub instructions_behind : (coding : Coding) (is js : List EncoderInstruction)
    → coded_encoder_instructions coding (is ++ js) ≡ coded_encoder_instructions coding is ++ coded_encoder_instructions coding js
unfolding coded_encoder_instructions
instructions_behind coding [] js = refl
instructions_behind coding (i ∷ is) js =
    ap (λ (x : List ℕ). coded_encoder_instruction coding i ++ x) (instructions_behind coding is js)
    ∙ sym (append_assoc (coded_encoder_instruction coding i) (coded_encoder_instructions coding is)
    (coded_encoder_instructions coding js))

-- ---- a field behind others

-- a draft goes on as one that begins at its table
pub record GoesOn (d more whole : Draft) : Type 0 where
  pub table : whole.table ≡ more.table
  pub lines : whole.lines ≡ d.lines ++ more.lines
  pub instructions : whole.instructions ≡ d.instructions ++ more.instructions

pub appended : (before first second mid now : List ℕ) → mid ≡ before ++ first → now ≡ mid ++ second
    → now ≡ before ++ (first ++ second)
appended before first second mid now is then =
    then ∙ ap (λ (x : List ℕ). x ++ second) is ∙ append_assoc before first second

-- ---- the first of some items

pub take_of : {H B : Type 0} (g : H → B) (xs : List H) (i : ℕ) → take i (map g xs) ≡ map g (take i xs)
take_of g xs zero = refl
take_of g [] (suc i) = refl
take_of {B = B} g (x ∷ xs) (suc i) = ap (λ (bs : List B). g x ∷ bs) (take_of g xs i)

-- and one more
pub front_of : {H B : Type 0} (g : H → B) (xs : List H) (i : ℕ) (d : H) → i < length xs
    → map g (take (i + 1) xs) ≡ map g (take i xs) ++ g (get_or xs i d) ∷ []
front_of g xs i d within = rw (add-one, take-suc xs i d within) (map-append g (take i xs) (get_or xs i d ∷ []))
