pub mod Bytes
pub mod Command
pub mod Encode
pub mod Location
pub mod Kind
pub mod Open
pub mod Clauses
