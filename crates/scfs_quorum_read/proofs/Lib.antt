pub mod OrderLemmas
pub mod PieceLemmas
