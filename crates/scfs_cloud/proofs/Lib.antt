pub mod CuttingLemmas
pub mod StoreLemmas
pub mod FolderLemmas
