-- What proofs need: laws of the definitions, sizes, and what functions inside the crate ask of their callers.
pub mod DigitLaws
pub mod LineLaws
pub mod Put
