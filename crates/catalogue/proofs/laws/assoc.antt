pub mod Tri
pub mod Assoc
pub mod Distinct
pub mod Below
pub mod Place
pub mod Members
pub mod Tests
