-- Words of memory under change: tiling, the three changes (a slot stored, a deployment placed, a deployment wired),
-- what stays alike when slots are cleared, and what start leaves. Assumes nothing.
pub mod Tiles
pub mod Changes
pub mod Slots
pub mod Distinct
pub mod Alike
pub mod Each
pub mod Offsets
pub mod Patch
pub mod Starting
