-- What users are told: theorems over the law.
pub mod Answers
pub mod Demand3
