pub mod Bounds
pub mod Examples
pub mod Fractions
pub mod Meaning
pub mod Patterns
pub mod TimesEight
pub mod Unique
pub mod Wholes
