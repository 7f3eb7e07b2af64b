-- An empty table with a capacity that is its agreed maximum.
use Rattle.std.proofs.Common.{◌≡◌, ℕ, ◌<◌, ◌^◌, Option, None, Some, Ok, arith}
use Rattle.qpack_spec.specs.Table.{empty_table, with_capacity}
use Rattle.qpack_spec.specs.Window.{TableRefusal}
use Rattle.qpack_base.specs.Refusals.{IsRefusedFor}
use Rattle.h3_qpack.proofs.SessionStarts.{empty_resized}

pub resized_to_maximum : (n : ℕ) → n < 2 ^ 30
    → with_capacity (empty_table 0 (Some n) 0) n ≡ Ok (empty_table n (Some n) 0)
resized_to_maximum n h = empty_resized n n (omega arith) h

pub never_refused : (n : ℕ) (o : Option TableRefusal) → n < 2 ^ 30
    → IsRefusedFor (with_capacity (empty_table 0 (Some n) 0) n) o → ⊥
never_refused n None h r = r
never_refused n (Some refusal) h r = let q = resized_to_maximum n h in absurd cc
