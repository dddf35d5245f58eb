-- what the search over a list is given, and what it answers
pub mod Selecting
