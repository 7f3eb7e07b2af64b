use Rattle.std.proofs.Common.{◌+◌, ◌/◌, ◌%◌, ◌++◌, ◌∷◌, [], List, ℕ, length, append_assoc, sym, ap, ◌∙◌, arith}
use Rattle.qpack_spec.specs.Integer.{written_groups}
use Rattle.qpack_spec.proofs.WrittenIntegers.{groups_more}
use Rattle.qpack_base.proofs.prefix_int.put_groups.Goals as goal

pub loop-left-preserved : goal.loop-left-preserved
loop-left-preserved g c =
    let left = c.loop-left.left in
    let more = groups_more left (omega (arith, c.loop-left.auto.left-fits)) c.loop-left-test.true in
    let pushed = c.push_reserved.ensures in
    let group : List ℕ = (128 + left % 128) ∷ [] in record {
      items = ap (λ (l : List ℕ). l ++ written_groups 9 (left / 128)) pushed.items
          ∙ append_assoc c.loop-left.buf.items group (written_groups 9 (left / 128))
          ∙ ap (λ (l : List ℕ). c.loop-left.buf.items ++ l) (sym more)
          ∙ c.loop-left.invariant.items;
      room = omega (arith, c.loop-left.invariant.room, ap length more, pushed.len, pushed.capacity);
      capacity = pushed.capacity ∙ c.loop-left.invariant.capacity;
    }
