pub mod Laws
pub mod Painted
