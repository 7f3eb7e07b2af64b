-- How much room the vectors and deques of a table have.
use Rattle.std.specs.Prelude.{ℕ, ◌+◌, ◌/◌, max}

-- the room of a vector that grows: for its elements and a quarter as many more, or for the least more if that is
-- greater
abbrev pub grown : (least len : ℕ) → ℕ
grown least len = len + max least (len / 4)
