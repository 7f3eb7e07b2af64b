use Rattle.std.proofs.Common.{◌≡◌, ◌↔◌, IsTrue, subst, sym, rules}
use Rattle.std.specs.declared.cmp.Ordering.{Ordering}
use Rattle.std.specs.Ordering.{is_eq}
use Rattle.qpack_base.specs.HeaderFields.{field_of, field_cmp}
use Rattle.qpack_base.proofs.FieldOrder.{ties_are_equal}
use Rattle.qpack_base.proofs.field.order_is_of_bytes.Goals as goal

pub returns-clause-bytes : goal.returns-clause-bytes
unfolding field_cmp
returns-clause-bytes c = search rules

pub returns-clause-equal : goal.returns-clause-equal
returns-clause-equal c =
    subst (λ (o : Ordering). IsTrue (is_eq o) ↔ (field_of c.args.field.now ≡ field_of c.args.other.now))
    (sym (returns-clause-bytes c)) (ties_are_equal (field_of c.args.field.now) (field_of c.args.other.now))
