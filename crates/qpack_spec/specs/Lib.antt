-- lists of bytes, and the integers and strings of RFC 7541, section 5
pub mod Bytes
pub mod Integer
pub mod IntegerLaws
pub mod Huffman
pub mod HuffmanLaws
pub mod Text
pub mod TextLaws
-- fields, and the static table (RFC 9204, section 3.1 and appendix A)
pub mod Field
pub mod StaticTable
pub mod StaticTableLaws
-- the dynamic table: its window, its history, and what an encoder tracks (sections 2.1 and 3.2)
pub mod Window
pub mod History
pub mod Table
-- the forms of instructions and lines (sections 4.3 to 4.5), and laws of all of them
pub mod Form
pub mod FormLaws
pub mod Instruction
pub mod Line
pub mod Prefix
pub mod WrittenLaws
pub mod LengthLaws
-- the instruction streams (sections 4.2 to 4.4)
pub mod Stream
pub mod StreamLaws
pub mod Wanted
-- what a section means (sections 2.2 and 4.5), and strictly
pub mod Reading
pub mod BlockReading
pub mod BlockLaws
pub mod StrictReading
pub mod StrictLaws
-- how fields are written: the rule of this encoder (section 2.1), never indexed (7.1.3), and without a table
pub mod Rule
pub mod Handle
pub mod Marked
pub mod MarkedLaws
pub mod Stateless
pub mod StatelessMeaning
-- how fields are written under any choices of an encoder (section 2.1)
pub mod Chosen
