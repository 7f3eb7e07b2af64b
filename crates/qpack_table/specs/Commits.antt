-- What is kept of committed blocks, found by a number and an order number each.
use Rattle.std.specs.Prelude.{◌≡◌, ℕ, zero, suc, ◌<◌, ◌≤◌, ◌^◌, nat_eq, List, [], ◌++◌, filter, length, Some}
use Rattle.std.specs.List.{AllByRecursion}
use Rattle.std.specs.declared.cmp.Ordering.{Ordering}
use Rattle.std.specs.Ordering.{nat_cmp, ordering_then}
use Rattle.std.specs.Map.{lookup}
use Rattle.std.specs.BTreeMap.{is_at}
use Rattle.qpack_table.specs.declared.dynamic.open_blocks.CommitKey.{CommitKey}

-- the order of keys, by the number and then by the order number
abbrev pub key_cmp : CommitKey → CommitKey → Ordering
key_cmp a b = ordering_then (nat_cmp a.number b.number) (nat_cmp a.order b.order)

module _ {X : Type 0} where
  -- what has an order number
  abbrev pub at_order : ℕ → List (CommitKey × X) → List (CommitKey × X)
  at_order n es = filter (λ e. nat_eq e.0.order n) es

  -- what has an order number below another, in the order of commits
  abbrev pub in_order : ℕ → List (CommitKey × X) → List (CommitKey × X)
  in_order zero es = []
  in_order (suc n) es = in_order n es ++ at_order n es

  -- each order number is below that of the next commit, of which there are at most 2^62
  pub record AreNumbered (next : ℕ) (es : List (CommitKey × X)) : Type 0 where
    pub below : AllByRecursion (λ e. e.0.order < next) es
    pub few : length (in_order next es) ≤ next
    pub most : next ≤ 2 ^ 62

  -- a number has no entry
  abbrev pub HasNone : ℕ → List (CommitKey × X) → Type 0
  HasNone number es = AllByRecursion (λ e. e.0.number ≡ number → ⊥) es

  -- the entry of a number whose order number is the least
  pub record IsOldest (number : ℕ) (k : CommitKey) (x : X) (es : List (CommitKey × X)) : Type 0 where
    pub number_is : k.number ≡ number
    pub found : lookup (is_at (key_cmp k)) es ≡ Some x
    pub least : AllByRecursion (λ e. e.0.number ≡ number → k.order ≤ e.0.order) es
