-- The rows of the world's calls: each keeps what is held.
pub mod Members
pub mod Cases
pub mod Hosts
pub mod Views
pub mod Rows
pub mod MkfsRows
pub mod HaltRows
pub mod Declares
pub mod TornLines
pub mod Stepped
pub mod TaskRows
pub mod Keeping
pub mod Begin
pub mod WorldRows
pub mod OwnSteps
pub mod Shown
pub mod Tests
