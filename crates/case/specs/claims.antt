-- What users are told: theorems over the law.
pub mod Says
pub mod CaseRules
pub mod Acceptance
