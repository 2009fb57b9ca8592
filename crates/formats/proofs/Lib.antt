pub mod laws
pub mod Marked
