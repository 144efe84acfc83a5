pub mod Behind
pub mod Finding
pub mod Numbers
pub mod Rising
pub mod Telling
pub mod Trees
pub mod Whole
