-- What drafts are stated in: histories of steps.
-- the steps, and what a history of them gives
pub mod History
-- a history as a draft by value
pub mod Shown
-- what a call answers to a step
pub mod Answered
-- which drafts a history gives, told by the draft alone
pub mod Sound
-- the steps on drafts by value; an inner contract
pub mod Stepping
