pub mod demand
pub mod step
pub mod assoc
pub mod section
pub mod room
