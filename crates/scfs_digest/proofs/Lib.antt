pub mod TagLemmas
pub mod TextLemmas
