pub mod Rounds
pub mod Contents
pub mod Works
pub mod Commits
