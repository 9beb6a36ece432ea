pub mod Steps
pub mod Bound
pub mod Figure
pub mod Clauses
pub mod Claim
pub mod Open
pub mod Cases
