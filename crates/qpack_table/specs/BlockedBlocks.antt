-- The blocks that may be blocked, as the code keeps them.
use Rattle.std.specs.Prelude.{◌≡◌, ℕ, ◌+◌, Bool, true, false, ⊤, List, map}
use Rattle.std.specs.Set.{remove_key}
use Rattle.std.specs.BTreeMap.{is_at}
use Rattle.qpack_table.specs.Commits.{in_order, key_cmp, AreNumbered}
use Rattle.qpack_table.specs.declared.dynamic.open_blocks.CommitKey.{CommitKey}

-- the keys of blocked blocks, by their required insert counts, and how many were ever kept
pub record BlockedKeys : Type 0 where
  pub kept : ℕ
  pub keys : List CommitKey

-- keys as those of a map
abbrev pub numbered : List CommitKey → List (CommitKey × ⊤)
numbered ks = map (λ k. (k, tt)) ks

-- the required insert counts, in the order of commits
abbrev pub counts_of : BlockedKeys → List ℕ
counts_of b = map (λ e. e.0.number) (in_order b.kept (numbered b.keys))

-- the key of the next block, which requires this many insertions
abbrev pub next_key : ℕ → BlockedKeys → CommitKey
next_key required b = record { number = required; order = b.kept }

-- a block is kept after others, which are there again once its key is taken out
pub record IsKeptBehind (required : ℕ) (old new : BlockedKeys) : Type 0 where
  pub kept : new.kept ≡ old.kept + 1
  pub back : remove_key (is_at (key_cmp (next_key required old))) new.keys ≡ old.keys
  pub numbered : AreNumbered old.kept (numbered old.keys)

-- a block is kept after others, if it is blocked
abbrev pub IsKeptIf : Bool → ℕ → BlockedKeys → BlockedKeys → Type 0
IsKeptIf true required old new = IsKeptBehind required old new
IsKeptIf false required old new = new ≡ old
