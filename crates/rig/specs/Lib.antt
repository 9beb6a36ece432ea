pub mod Words
pub mod Face
pub mod Clauses
pub mod Laws
pub mod Cases
