-- The laws that several proofs of this crate lean on: what a loop has counted, placed, gathered or stored so far.
pub mod Counted
pub mod Placed
pub mod Listed
pub mod Gathered
pub mod Stored
