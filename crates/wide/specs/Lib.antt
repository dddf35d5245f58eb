-- entries in 64-bit words
pub mod Wide
-- references turned to places that mean the same
pub mod Fold
