-- The laws that several proofs of this crate lean on: numbers and rows as they are read, questions in their order, sets as they are gathered.
pub mod Common
pub mod Reading
pub mod Asked
pub mod Counting
pub mod Rows
pub mod Ruled
pub mod Gathered
pub mod Chains
pub mod Laid
