-- How far a run of events has come, and how it ends.
pub mod OneMore
pub mod GoesOn
pub mod Ends
pub mod Passed
pub mod EventTold
pub mod NothingPut
pub mod OneText
pub mod Stops
pub mod Turns
pub mod TurnedEnds
pub mod Alone
