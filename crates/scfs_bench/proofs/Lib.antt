mod RoundLemmas
mod CodeLemmas
mod CommitLemmas
