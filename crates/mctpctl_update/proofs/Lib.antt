pub mod OffersInFront
