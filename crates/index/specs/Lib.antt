pub mod Noted
pub mod Sets
pub mod Indexed
pub mod Given
