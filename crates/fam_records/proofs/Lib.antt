pub mod LinesLeft
pub mod EntriesTaken
pub mod NextLeft
pub mod Clean
pub mod PrintedLines
pub mod CleanNotes
pub mod ReadRecords
