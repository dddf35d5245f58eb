-- what the promises of the calls come to: each answer exactly when
pub mod Demands
-- typed answers: each refusal exactly when, and what the table means
pub mod Typed
-- drafts: each refusal exactly when, and what the table of a draft is
pub mod Drafts
-- copies: the board beside the fourfold structure, and what is as it was
pub mod Copies
