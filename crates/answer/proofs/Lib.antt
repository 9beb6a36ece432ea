pub mod Handed
pub mod Refusals
