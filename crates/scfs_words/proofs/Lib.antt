mod ReadLemmas
mod StrayLemmas
mod WordLemmas
