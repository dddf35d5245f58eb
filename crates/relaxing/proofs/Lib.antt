-- the words behind the list are written
pub mod Below
