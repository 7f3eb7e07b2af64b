use Rattle.std.proofs.Common.{refl}
use Rattle.qpack_base.specs.Codings.{coding_of}
use Rattle.qpack_spec.specs.Text.{coded_string}
use Rattle.qpack_base.proofs.PutStrings.{writes_plain, writes_again}
use Rattle.qpack_base.proofs.prefix_string.append.Goals as goal

pub returns-in-Plain : goal.returns-in-Plain
returns-in-Plain g c =
    let coding = coding_of c.args.coding in
    let value = c.args.value.now in
    let tried = c.append_unmeasured.new.buf in
    writes_again (coded_string coding c.args.size c.args.flags value) c.args.buf.now tried c.append_plain.new.buf
    c.append_plain.result (c.append_unmeasured.ensures.undone (λ e. absurd (let is = c.in-Plain.is in cc))) c.append_unmeasured.ensures.capacity
    (writes_plain coding c.args.size c.args.flags value tried c.append_plain.new.buf c.append_plain.result
    (c.append_unmeasured.ensures.plain c.in-Plain.is) c.append_plain.ensures)
