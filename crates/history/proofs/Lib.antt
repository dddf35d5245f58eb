-- lists by their elements
pub mod Lists
-- what every history gives: good entries, and under each name the first of them
pub mod Kept
-- a draft tells as much of its history as the next step asks for
pub mod Steps
-- which drafts some history gives
pub mod Reached
-- what a call has to answer
pub mod Answers
-- drafts packed into bytes
pub mod Bytes
-- the entries of a draft as a table
pub mod Tables
-- what the calls come to: each refusal exactly when, and whole sequences of calls
pub mod Calls
