pub mod StateEffecters
pub mod Devices
pub mod BaseAnswers
pub mod SensorAnswers
pub mod EffecterAnswers
pub mod DeviceAnswers
pub mod DeviceLaws
pub mod Getters
