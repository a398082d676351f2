pub mod Gathering
pub mod Peeling
pub mod RowLemmas
pub mod ShareLemmas
pub mod FittedLemmas
pub mod JoinLemmas
