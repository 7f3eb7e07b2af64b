pub mod FieldLines
pub mod ReadLists
pub mod WrittenLists
pub mod RecordBytes
