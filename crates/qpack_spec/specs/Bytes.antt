-- Byte lists, their fronts, and reading them from left to right.
use Rattle.std.specs.Prelude.{◌≡◌, ℕ, List, ◌++◌, Result, Ok, Err}

-- some front of the bytes is in P
pub record Begins (P : List ℕ → Type 0) (bytes : List ℕ) : Type 0 where
  pub encoding : List ℕ
  pub rest : List ℕ
  pub parts : bytes ≡ encoding ++ rest
  pub holds : P encoding

-- what is read first is passed on, a fault ends the reading
infixl 10 ◌>>=◌
abbrev pub ◌>>=◌ : {A B E : Type 0} → Result A E → (A → Result B E) → Result B E
(Ok x) >>= f = f x
(Err e) >>= f = Err e
