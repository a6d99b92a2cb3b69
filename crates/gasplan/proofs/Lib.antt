-- What the exported functions share: that what they tell fits.
pub mod Fitting
