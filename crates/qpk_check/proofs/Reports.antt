-- What becomes of findings as their text goes on.
use Rattle.std.proofs.Common.{◌≡◌, ◌++◌, ◌∙◌, ℕ, List, Bool, true, false, ap, append_assoc}
use Rattle.qpk_check.specs.Findings.{AreFindings, finding_front}
use Rattle.qpk_view.specs.Texts.{Written, BeginsWith}

-- bytes that were findings, and go on with how a finding begins, are findings
one_more : (json found : Bool) (old new out : List ℕ) → AreFindings json found old
    → new ≡ old ++ (finding_front json ++ out) → AreFindings json true new
one_more json false old new out a e = (out, e ∙ ap (λ l. l ++ (finding_front json ++ out)) a)
one_more json true old new out a e =
    let more : List ℕ = finding_front json ++ out in
    (a.0 ++ more, rw (e, a.1, append_assoc))

-- findings are findings when the next begins
pub begun : (json found : Bool) (old new : Written)
    → (old.lacks_memory ≡ false → AreFindings json found old.bytes) → BeginsWith (finding_front json) old new
    → new.lacks_memory ≡ false → AreFindings json true new.bytes
begun json found old new a b h = let g = b h in one_more json found old.bytes new.bytes g.1 (a g.0) g.2
