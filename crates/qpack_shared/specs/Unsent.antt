-- The bytes of a stream that are to be sent, and the room that they are kept in.
use Rattle.std.specs.Prelude.{◌≡◌, ◌<◌, ◌≤◌, ℕ, ◌+◌, ⊤, List, [], ◌++◌, length, drop, Result, OnOk, OnErr}

-- the bytes that are to be sent; how many that were sent are kept in front of them; and for how many bytes there is
-- room, all these among them
pub record UnsentView : Type 0 where
  pub bytes : List ℕ
  pub front : ℕ
  pub capacity : ℕ

-- there is room for this many more bytes
abbrev pub HasRoom : ℕ → UnsentView → Type 0
HasRoom many u = u.front + length u.bytes + many ≤ u.capacity

-- there is none
abbrev pub LacksRoom : ℕ → UnsentView → Type 0
LacksRoom many u = u.capacity < u.front + length u.bytes + many

-- with room for this many more bytes, the room is unchanged; it never shrinks, nor does what was sent take more of it
pub record KeepsRoom (many : ℕ) (old new : UnsentView) : Type 0 where
  pub still : HasRoom many old → new.capacity ≡ old.capacity
  pub capacity : old.capacity ≤ new.capacity
  pub front : new.front ≡ old.front

-- bytes are appended to those that are to be sent; or memory is refused, if there is no room for them, and then no byte
-- changes
pub record Appends {E : Type 0} (bytes : List ℕ) (old new : UnsentView) (r : Result ⊤ E) : Type 0 where
  pub ok : OnOk r (new.bytes ≡ old.bytes ++ bytes)
  pub err : OnErr r (new.bytes ≡ old.bytes)
  pub lacks : OnErr r (LacksRoom (length bytes) old)
  pub room : KeepsRoom (length bytes) old new

-- this many bytes were dropped from the front, or all. Of those that were sent, at most as many are kept as are left.
-- Once none is left, there is room for at most 1,024 bytes; otherwise the room is unchanged
pub record Drops (many : ℕ) (old new : UnsentView) : Type 0 where
  pub bytes : new.bytes ≡ drop many old.bytes
  pub front : new.front ≤ length new.bytes
  pub given_back : new.bytes ≡ [] → new.capacity ≤ 1024
  pub kept : (new.bytes ≡ [] → old.capacity ≤ 1024) → new.capacity ≡ old.capacity
