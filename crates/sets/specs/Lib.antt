-- What the promises of this crate are stated in: the bits of a number, and the members of a set.
-- the bits of a number, and the number of given bits
pub mod Word
-- the members of a set, and the tests that its operations make
pub mod Set
