-- words that are worked in, and then cleared
pub mod Clearing
-- the greater depth of two entries
pub mod Pair
-- the questions that a call asks of the engine
pub mod Question
