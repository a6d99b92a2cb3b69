-- What proofs need: laws of the definitions, sizes, and what functions inside the crate ask of their callers.
pub mod Adding
pub mod Merging
pub mod RecordLaws
pub mod LookUpLaws
pub mod TimeCounts
pub mod PairCounts
pub mod MergingLaws
pub mod Asked
pub mod ToldLaws
pub mod SettlementSizes
pub mod Computed
