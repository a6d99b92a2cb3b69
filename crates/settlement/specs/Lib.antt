-- The law, what users are told of it, and what proofs need.
pub mod law
pub mod claims
pub mod inside
