pub mod CheckingLemmas
pub mod SealLemmas
pub mod AcceptanceLemmas
pub mod UnsealLemmas
pub mod EnoughLemmas
