-- a survey's mode stands for a state of the reader
pub mod Stages
-- what is known of a text whose signs have been read up to a place
pub mod Seen
