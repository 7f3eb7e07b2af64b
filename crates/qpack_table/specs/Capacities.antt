-- The capacity of a dynamic table and its maximum capacity (RFC 9204, section 3.2.3).
use Rattle.std.specs.Prelude.{ℕ, Option, None}

-- the capacity, and the maximum that was agreed on
pub record Agreement : Type 0 where
  pub capacity : ℕ
  pub agreed_max : Option ℕ

-- those of a table as it begins
abbrev pub no_capacity : Agreement
no_capacity = record { capacity = 0; agreed_max = None }
