pub mod Brought
pub mod Offers
