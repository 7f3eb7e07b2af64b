-- The lines of a section, read one after the other.
use Rattle.std.proofs.Common.{◌≡◌, ℕ, zero, suc, ◌-◌, ◌<◌, ◌≤◌, List, [], ◌∷◌, ◌++◌, length, None, Some, Ok, Err}
use Rattle.std.proofs.Common.{refl, sym, ap, ◌∙◌, append_assoc, append-nil, arith}
use Rattle.std.specs.Prelude.{slice_get}
use Rattle.qpack_spec.specs.Line.{Line}
use Rattle.qpack_wire.specs.BlockLines.{line_at}
use Rattle.qpack_wire.proofs.ReadBlocks.{turn_good}
use Rattle.qpk_show.specs.Sections.{LineShown, LineFault, Stop, Shown, Under, with_line, with_next, shown_line_at}
use Rattle.qpk_show.specs.Sections.{shown_lines_at}
use Rattle.qpk_show.specs.Answers.{shown_of, lines_of}
use Rattle.qpk_show.specs.declared.section.LineShown.{LineShown as ReadLine}

-- lines in front of others
abbrev pub with_front : List LineShown → Shown → Shown
with_front front s = (front ++ s.0, s.1)

-- the first byte of some
pub first_is : (bytes : List ℕ) (b : ℕ) → slice_get bytes 0 ≡ Some b → (more : List ℕ) × (bytes ≡ b ∷ more)
first_is [] b e = absurd cc
first_is (c ∷ more) b e = (more, cc)

pub none_is : (bytes : List ℕ) → slice_get bytes 0 ≡ None → bytes ≡ []
none_is [] e = refl
none_is (c ∷ more) e = absurd cc

-- a line that was read, and so many steps are enough for those behind it
pub goes_on : (k : ℕ) (u : Under) (bytes : List ℕ) (b : ℕ) (front : List LineShown) (all : Shown) (l : LineShown)
    (left more : List ℕ) → bytes ≡ b ∷ more → length bytes ≤ k → with_front front (shown_lines_at k u bytes) ≡ all
    → shown_line_at u b bytes ≡ Ok (l, left) → length left < length bytes
    → (j : ℕ) × (length left ≤ j) × (with_front (front ++ l ∷ []) (shown_lines_at j u left) ≡ all)
unfolding shown_lines_at
goes_on zero u bytes b front all l left more e h q r s = absurd (omega (arith, h, ap length e))
goes_on (suc k) u bytes b front all l left more e h q r s = (
  k,
  omega (arith, h, s),
  (let behind = shown_lines_at k u left in
      let r2 = rw e at r in
      let turn : shown_lines_at (suc k) u bytes ≡ with_line l behind =
      ap (shown_lines_at (suc k) u) e
      ∙ ap (with_next u (length (b ∷ more)) (λ rest. shown_lines_at k u rest)) r2 in
      ap (λ (x : List LineShown). (x, behind.1)) (append_assoc front (l ∷ []) behind.0)
      ∙ sym (ap (with_front front) turn) ∙ q),
)

-- a line that gives no field
pub goes_bad : (k : ℕ) (u : Under) (bytes : List ℕ) (b : ℕ) (front : List LineShown) (all : Shown) (fault : LineFault)
    (more : List ℕ) → bytes ≡ b ∷ more → length bytes ≤ k → with_front front (shown_lines_at k u bytes) ≡ all
    → shown_line_at u b bytes ≡ Err fault
    → (front ≡ all.0) × (Some (record { offset = u.section - length bytes; fault = fault }) ≡ all.1)
unfolding shown_lines_at
goes_bad zero u bytes b front all fault more e h q r = absurd (omega (arith, h, ap length e))
goes_bad (suc k) u bytes b front all fault more e h q r =
    let r2 = rw e at r in
    let s : Stop = record { offset = u.section - length bytes; fault = fault } in
    let turn : shown_lines_at (suc k) u bytes ≡ ([], Some s) =
    ap (shown_lines_at (suc k) u) e
    ∙ ap (with_next u (length (b ∷ more)) (λ rest. shown_lines_at k u rest)) r2
    ∙ ap (λ (n : ℕ). ([], Some (record { offset = u.section - n; fault = fault }))) (ap length (sym e)) in
    let all_is : (front ++ [], Some s) ≡ all = sym (ap (with_front front) turn) ∙ q in
    (sym (append-nil front) ∙ ap (λ (x : Shown). x.0) all_is, ap (λ (x : Shown). x.1) all_is)

-- no line is left
pub goes_end : (k : ℕ) (u : Under) (bytes : List ℕ) (front : List LineShown) (all : Shown) → bytes ≡ []
    → with_front front (shown_lines_at k u bytes) ≡ all → (front ≡ all.0) × (None ≡ all.1)
unfolding shown_lines_at
goes_end k u bytes front all e q =
    let turn : shown_lines_at k u bytes ≡ ([], None) = ap (shown_lines_at k u) e in
    let all_is : (front ++ [], None) ≡ all = sym (ap (with_front front) turn) ∙ q in
    (sym (append-nil front) ∙ ap (λ (x : Shown). x.0) all_is, ap (λ (x : Shown). x.1) all_is)

-- one more line at the end
pub lines_last : (ls : List ReadLine) (l : ReadLine) → lines_of (ls ++ l ∷ []) ≡ lines_of ls ++ shown_of l ∷ []
lines_last [] l = refl
lines_last (x ∷ ls) l = ap (λ (r : List LineShown). shown_of x ∷ r) (lines_last ls l)

-- a line takes a byte at least
pub line_shortens : (rest : List ℕ) (l : Line) (more : List ℕ) → 0 < length rest → line_at rest ≡ Ok (l, more)
    → length more < length rest
line_shortens rest l more some read =
    (turn_good (length rest) rest [] _ l more (omega arith) refl some read).shorter
