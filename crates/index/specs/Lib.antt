-- Clearing, counting, saving and loading, to be read beside section 7 of RULES.md; and what holds over any run of calls.
pub mod Calls
pub mod CallLaws
pub mod Run
pub mod RunLaws
pub mod ImageCalls
pub mod Settled
pub mod WideCalls
