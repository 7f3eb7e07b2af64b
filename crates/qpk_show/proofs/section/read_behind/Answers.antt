use Rattle.std.proofs.Common.{◌≡◌, false, refl, rules}
use Rattle.std.specs.Prelude.{nat_eq, nat_lt, ◌&&◌}
use Rattle.qpack_spec.specs.Prefix.{read_strict_prefix}
use Rattle.qpack_spec.specs.Table.{insert_count}
use Rattle.qpack_spec.specs.Window.{maximum_capacity}
use Rattle.qpack_wire.specs.Prefixes.{prefix_of}
use Rattle.qpk_show.specs.Sections.{BadPrefix}
use Rattle.qpk_show.proofs.Faults.{prefix_told, behind_bad}
use Rattle.qpk_show.proofs.section.read_behind.Goals as goal
use Rattle.qpk_show.proofs.section.read_behind.Goals.{else-most-eq0-via-then-most-eq0+else-encoded_insert_count-gt0}
use Rattle.qpk_show.proofs.section.read_behind.Goals.{else-most-eq0-via-else-most-eq0}

pub returns-in-Err : goal.returns-in-Err
returns-in-Err c =
    let p = prefix_of c.args.prefix in
    let t = c.args.table.now in
    let counted : (nat_eq c.agreed_max-most.result 0 && nat_lt 0 p.count) ≡ false =
    elim c.else-most-eq0.branch [
      | else-most-eq0-via-then-most-eq0+else-encoded_insert_count-gt0 w ↦ search rules
      | else-most-eq0-via-else-most-eq0 w ↦ search rules
    ] in
    let most = c.agreed_max-most.ensures.exact in
    let counted-at = rw most at counted in
    let fails = rw (c.total_inserted-inserted.ensures, most) at c.in-Err.ensures in
    let told = prefix_told (read_strict_prefix (insert_count t) (maximum_capacity t.agreed_max t.capacity) p) c.in-Err.e fails
    in (
      BadPrefix told.0,
      (told.0, told.1, refl),
      behind_bad t c.args.section p c.args.buf.now.rest told.0 counted-at told.2,
    )
