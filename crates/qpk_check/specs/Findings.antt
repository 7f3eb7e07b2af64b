-- What `check` prints.
use Rattle.std.specs.Prelude.{◌≡◌, ℕ, Bool, true, false, List, [], ◌++◌, codes}
use Rattle.qpk_view.specs.Places.{object_front}
use Rattle.qpk_view.specs.Texts.{Written}

-- the findings so far: their text, whether it is JSON, and whether there is one
pub record Findings : Type 0 where
  pub text : Written
  pub json : Bool
  pub has_found : Bool

-- how a finding begins, as a line or as an object of JSON
abbrev pub finding_front : Bool → List ℕ
finding_front false = codes "line "
finding_front true = object_front

-- how it begins that nothing is found, as a line or as an object of JSON
abbrev pub nothing_front : Bool → List ℕ
nothing_front false = codes "nothing found: "
nothing_front true = codes "{\"findings\":0,"

-- bytes are findings: none, or at least one
abbrev pub AreFindings : Bool → Bool → List ℕ → Type 0
AreFindings json false bytes = bytes ≡ []
AreFindings json true bytes = (out : List ℕ) × (bytes ≡ finding_front json ++ out)

-- bytes are a verdict: that nothing is found, or at least one finding
abbrev pub AreVerdict : Bool → Bool → List ℕ → Type 0
AreVerdict json false bytes = (out : List ℕ) × (bytes ≡ nothing_front json ++ out)
AreVerdict json true bytes = (out : List ℕ) × (bytes ≡ finding_front json ++ out)
