-- copies that complete the slots
pub mod Completing
