-- Numbers wider than a page's words, and what their narrowing keeps.
pub mod Wide
