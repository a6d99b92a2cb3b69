-- What the writers of the line share: digits from the last one on, and numbers one after the other.
pub mod Common
pub mod Spaced
pub mod Written
