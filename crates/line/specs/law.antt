-- What a reader must believe: the definitions that public contracts rest on, and nothing else, in the order to read them in.
pub mod Decimal
pub mod Line
pub mod Files
