-- questions that have been answered
pub mod Memory
-- what follows from what was learnt
pub mod Learnt
