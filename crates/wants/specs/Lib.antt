-- What is wanted at a world, as the program keeps it, and what wanting one entry more comes to.
-- the outcome of wanting an entry
pub mod Outcome
-- the steps to it
pub mod Step
