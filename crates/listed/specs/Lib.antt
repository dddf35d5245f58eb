-- codes in words
pub mod Codes
