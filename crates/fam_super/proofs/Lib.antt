pub mod Lines
pub mod SuperFound
