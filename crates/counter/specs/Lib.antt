-- The counter program, to be read beside section 8 of RULES.md; and, last, what the code does at a line and at a chunk.
pub mod Counter
pub mod CounterLaws
pub mod LineBuffer
pub mod Steps
pub mod FeedSteps
pub mod Feeding
pub mod Settled
