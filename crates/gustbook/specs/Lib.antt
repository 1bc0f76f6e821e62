pub mod Boundary
pub mod BoundaryLaws
pub mod Telling
pub mod StripBoundary
