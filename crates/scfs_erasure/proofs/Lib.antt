pub mod RowLemmas
pub mod BlockLemmas
pub mod ContentLemmas
pub mod LastBlocks
pub mod RowsBehind
