pub mod Joined
pub mod KnownMoments
pub mod Numbers
