pub mod LawfulFiles
