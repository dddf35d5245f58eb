-- codes in words, place by place
pub mod Codes
