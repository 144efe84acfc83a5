pub mod Image
pub mod Paths
pub mod PathOrder
pub mod ExtentLists
pub mod Units
pub mod HostNames
pub mod Escapes
pub mod Commands
