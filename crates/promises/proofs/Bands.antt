-- Bands as they are measured: no stretch is longer than the width, at rounded and at exact times, and offsets that agree at every signal have the same bands.

pub mod Widths
pub mod Agreed
pub mod Stretched
