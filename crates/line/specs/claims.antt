-- What users are told: theorems over the law.
pub mod Decimal
pub mod Line
pub mod Same
pub mod Files
