-- A live entry, however its field is stored.
use Rattle.std.specs.Prelude.{ℕ, Bool}
use Rattle.qpack_spec.specs.Field.{Field}

-- the field; whether an encoder's handle inserted it; whether the block in progress references it; how many blocks
-- reference it
pub record Entry : Type 0 where
  pub field : Field
  pub sent : Bool
  pub referenced : Bool
  pub uses : ℕ
