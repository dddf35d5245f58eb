-- the two cases of a split
pub mod Splitting
-- what follows without a split
pub mod Forcing
-- answers that are kept behind the levels
pub mod Recalling
