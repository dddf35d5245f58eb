-- weights in words
pub mod Weighed
