-- What a reader must believe: the definitions that public contracts rest on, and nothing else, in the order to read them in.
pub mod Records
pub mod RecordRules
pub mod LookUp
pub mod Settled
pub mod Settling
