-- A sheet of questions, and what holds of its answers.
pub mod Sheet
pub mod Rows
pub mod SheetLaws
