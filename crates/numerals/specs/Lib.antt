-- decimal numbers in a text
pub mod Numeral
-- what reading one finds; an inner contract
pub mod Number
