-- What stands in lines, read one after the other.
use Rattle.std.proofs.Common.{ℕ, List, ◌++◌, Result, Ok, Err}

-- what stands in the lines so far, before what stands in the rest
abbrev pub with_front : {A : Type 0} → List A → Result (List A) ℕ → Result (List A) ℕ
with_front front (Ok items) = Ok (front ++ items)
with_front front (Err n) = Err n
