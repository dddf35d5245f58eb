-- exactly one mark fits
pub mod Exactly
-- formulas that are true at the same worlds have the same mark
pub mod Same
-- what the engine answers about two entries
pub mod Question
-- every mark is as it is without copies
pub mod Plain
