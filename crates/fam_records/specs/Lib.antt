pub mod Lines
pub mod Taken
pub mod Records
pub mod Histories
pub mod Read
pub mod ToldRecords
