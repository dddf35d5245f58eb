-- What the proofs of this crate, and of the crates above it, share.
-- what an accepted structure is known to meet
pub mod Accepted
-- the words of what records state, record by record
pub mod Stated
-- masks that gain what a record states
pub mod Masks
-- drawings with no copies read as before
pub mod Plain
-- fields tested together
pub mod Fields
