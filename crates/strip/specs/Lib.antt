-- One site by days: the strip's definitions, and the laws that the storeys above cite.
pub mod Strips
pub mod StripCalls
pub mod Feeding
pub mod StripLaws
pub mod Examples
pub mod PartingLaws
pub mod Places
pub mod Walking
pub mod WalkingLaws
pub mod KnownLaws
pub mod PieceLaws
pub mod AskLaws
pub mod CallLaws
