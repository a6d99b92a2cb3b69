-- What users are told: theorems over the law.
pub mod Counted
pub mod SettleRules
pub mod SameRecords
pub mod EmptyRecords
pub mod Totals
pub mod Rows
