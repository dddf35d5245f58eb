-- sums over members
pub mod Ceil
pub mod Sums
-- what is checked is a refutation
pub mod Refuting
