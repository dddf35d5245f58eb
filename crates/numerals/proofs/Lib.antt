-- what a loop over digits knows, and that a whole numeral is unique
pub mod Digits
