-- What users are told, as in specs/claims.antt: the theorem that rests on laws which stand here.
pub mod Demand3
