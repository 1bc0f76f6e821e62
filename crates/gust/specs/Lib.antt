-- The transcript of rule 9.1 by computation, and what the whole program promises.
pub mod Examples
pub mod Program
