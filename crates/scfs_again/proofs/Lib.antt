pub mod HeaderLemmas
pub mod GivenLemmas
pub mod WholeLemmas
pub mod WroteLemmas
pub mod LeavesLemmas
pub mod AgainLemmas
pub mod BehindLemmas
