use Rattle.std.proofs.Common.{ap, Err, refl}
use Rattle.qpack_wire.specs.Prefixes.{read_prefix_at}
use Rattle.qpk_show.specs.Sections.{NoPrefix, shown_section, shown_section_behind}
use Rattle.qpk_show.proofs.Faults.{fault_told}
use Rattle.qpk_show.proofs.section.read_section.Goals as goal

pub returns-in-Err : goal.returns-in-Err
unfolding shown_section
returns-in-Err c =
    let t = fault_told c.in-Err.e (read_prefix_at c.args.section.now)
    (λ m. c.in-Err.ensures.no_memory (ap (λ e. Err e) m)) (rw c.new-buf.ensures.rest at c.in-Err.ensures.exact) in
    (NoPrefix t.0, (t.0, t.1, refl), ap (shown_section_behind c.args.table.now _) t.2)
