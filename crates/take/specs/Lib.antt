pub mod Links
pub mod Text
pub mod Session
pub mod Steps
