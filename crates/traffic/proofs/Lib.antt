pub mod VolumeLaws
pub mod Examples
