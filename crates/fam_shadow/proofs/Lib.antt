pub mod OwnNames
pub mod Maps
pub mod Looks
pub mod Puts
pub mod Later
pub mod Ends
pub mod Faults
pub mod Calls
