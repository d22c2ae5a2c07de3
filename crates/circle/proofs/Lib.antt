pub mod Numbers
pub mod Formulas
pub mod Stretches
pub mod Bands
pub mod Examples
