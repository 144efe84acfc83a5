pub mod TextLemmas
pub mod Slashes
pub mod Settling
pub mod Lasts
pub mod Printing
pub mod Counting
pub mod StormTexts
pub mod PrintedLaw
