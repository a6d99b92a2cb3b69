-- What a reader must believe: the definitions that public contracts rest on, and nothing else, in the order to read them in.
pub mod Told
pub mod Question
pub mod Items
pub mod Signed
pub mod Sets
pub mod Sums
pub mod Mapping
pub mod Groups
pub mod Reading
pub mod CodecTold
