use Rattle.std.proofs.Common.{sym}
use Rattle.qpack_decoding.proofs.MissingCode.{missing_by_form}
use Rattle.qpack_decoding.proofs.section.missing.line_missing_by_first.Goals as goal

pub returns-in-Index : goal.returns-in-Index
returns-in-Index c =
    rw (missing_by_form c.args.bytes.now c.args.first _ c.requires c.in-Index.ensures, sym c.index_size.ensures, sym c.new-buf.ensures.rest)
    c.index_missing.ensures

pub returns-in-IndexAndValue : goal.returns-in-IndexAndValue
returns-in-IndexAndValue c =
    rw (missing_by_form c.args.bytes.now c.args.first _ c.requires c.in-IndexAndValue.ensures, sym c.name_index_size.ensures, sym c.new-buf.ensures.rest)
    c.value_missing.ensures

pub returns-in-NameAndValue : goal.returns-in-NameAndValue
returns-in-NameAndValue c =
    rw (missing_by_form c.args.bytes.now c.args.first _ c.requires c.in-NameAndValue.ensures, sym c.new-buf.ensures.rest)
    c.literal_missing.ensures
