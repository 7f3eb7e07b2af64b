use Rattle.qpack_decoding.specs.Lines.{under}
use Rattle.qpack_decoding.proofs.LineParts.{form_is}
use Rattle.qpack_decoding.proofs.Asking.{asks_in_form}
use Rattle.qpack_decoding.proofs.section.lines.Lines.append_line.Goals as goal

pub returns-in-Index-clause-exact : goal.returns-in-Index-clause-exact
returns-in-Index-clause-exact g c =
    rw (form_is c.args.buf.now.rest c.args.first _ _ c.requires c.in-Index.ensures) c.append_indexed.ensures.exact

pub returns-in-Index-clause-memory : goal.returns-in-Index-clause-memory
returns-in-Index-clause-memory g c e =
    asks_in_form c.args.buf.now.rest c.args.first _ _ c.requires c.in-Index.ensures (c.append_indexed.ensures.memory e)

pub returns-in-IndexAndValue-clause-exact : goal.returns-in-IndexAndValue-clause-exact
returns-in-IndexAndValue-clause-exact g c =
    rw (form_is c.args.buf.now.rest c.args.first _ _ c.requires c.in-IndexAndValue.ensures) c.append_named.ensures.exact

pub returns-in-IndexAndValue-clause-memory : goal.returns-in-IndexAndValue-clause-memory
returns-in-IndexAndValue-clause-memory g c e =
    asks_in_form c.args.buf.now.rest c.args.first _ _ c.requires c.in-IndexAndValue.ensures
    (c.append_named.ensures.memory e)

pub returns-in-NameAndValue-clause-exact : goal.returns-in-NameAndValue-clause-exact
returns-in-NameAndValue-clause-exact g c =
    rw (form_is c.args.buf.now.rest c.args.first _ _ c.requires c.in-NameAndValue.ensures)
    (c.append_literal.ensures.exact (under c.args.self.now 0))

pub returns-in-NameAndValue-clause-memory : goal.returns-in-NameAndValue-clause-memory
returns-in-NameAndValue-clause-memory g c e =
    asks_in_form c.args.buf.now.rest c.args.first _ _ c.requires c.in-NameAndValue.ensures
    (c.append_literal.ensures.memory e)
