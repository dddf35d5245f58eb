-- What the proofs of this crate, and of the crates above it, share.
-- the laws of words
pub mod Words
-- sets as numbers: which comes next below another
pub mod Submasks
-- two tests together
pub mod Tests
-- a search through the members of a set
pub mod Members
