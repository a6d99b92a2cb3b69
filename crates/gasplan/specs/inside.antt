-- What functions inside the crate ask of their callers.
pub mod Fits
