pub mod Text
pub mod Links
pub mod Session
pub mod Steps
pub mod Whole
