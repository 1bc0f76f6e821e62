-- A strip fed with the records of one square answers as the book does.
pub mod Yard
