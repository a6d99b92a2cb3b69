-- What users are told: theorems over the law. Demand 3's is proofs/claims/Demand3.antt.
pub mod NodeFacts
pub mod ArcFacts
pub mod StationFacts
pub mod PlanFacts
pub mod Acceptance
pub mod BytesAccepted
pub mod WrongByte
pub mod TableT
pub mod FurtherRows
pub mod JudgedUnder
pub mod OutBound
pub mod Reach
