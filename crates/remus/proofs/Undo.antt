-- Undoing: what a run never breaks, whatever the readings, and how a refused turn's words are brought
-- back from it. Assumes nothing.
pub mod Search
pub mod Unbroken
pub mod UnbrokenKept
pub mod Writes
pub mod Growing
pub mod Effects
pub mod Declares
pub mod Runs
pub mod Entry
pub mod Back
pub mod Heads
pub mod Undoing
