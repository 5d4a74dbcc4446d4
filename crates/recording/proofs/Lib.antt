pub mod LowFirst
pub mod FixedLength
pub mod RecordBytes
pub mod LawfulRows
