pub mod Queues
pub mod Receivers
pub mod Runs
pub mod Laws
