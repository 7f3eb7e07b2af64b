use Rattle.std.proofs.Common.{sym, ◌∙◌}
use Rattle.qpack_base.specs.Codings.{coding_of}
use Rattle.qpack_base.proofs.PutStrings.{writes_plain, writes_coded}
use Rattle.qpack_base.proofs.prefix_string.append_measured.Goals as goal

pub returns-then-not-codes : goal.returns-then-not-codes
returns-then-not-codes g c =
    writes_plain (coding_of c.args.coding) c.args.size c.args.flags c.args.value.now c.args.buf.now
    c.append_plain.new.buf c.append_plain.result (sym c.codes.ensures ∙ c.if-not-codes.true) c.append_plain.ensures

pub returns : goal.returns
returns g c =
    writes_coded (coding_of c.args.coding) c.args.size c.args.flags c.args.value.now c.args.buf.now
    c.append_coded.new.buf c.append_coded.result (sym c.codes.ensures ∙ c.if-not-codes.false) c.append_coded.ensures
