-- what the relaxation of a search is given, and what it answers
pub mod Relaxing
