-- copies of listed sets in words
pub mod Filled
