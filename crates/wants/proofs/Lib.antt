-- The laws that the proofs of several functions cite.
-- a copy of an entry
pub mod Reading
-- the test for a kind
pub mod Told
-- what clashes at once
pub mod AtOnce
-- from parts to the entry itself
pub mod Steps
