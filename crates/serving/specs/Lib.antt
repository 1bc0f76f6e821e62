-- A counter program's turns: what came in and what was handed to the writer, turn by turn and over a whole run.
pub mod Outside
pub mod Serving
pub mod ServingLaws
