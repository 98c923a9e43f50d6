pub mod Gates
pub mod Parts
pub mod Teams
