pub mod Collect
pub mod Highest
pub mod Pair
pub mod Follows
pub mod Set
pub mod Feed
pub mod Demand
pub mod Desk
