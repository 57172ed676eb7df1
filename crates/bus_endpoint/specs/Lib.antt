pub mod BusViews
pub mod Coming
