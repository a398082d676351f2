-- What `clap` makes of one word.
use Rattle.std.proofs.Common.{◌≡◌, true, [], ◌∷◌, Some, refl, codes}
use Rattle.clap.specs.Words.{subcommand_of, takes}
use Rattle.clap.proofs.OnLiterals.{clap_on_literals}
use Rattle.scfs_words.specs.Program.{program}

pub replay_met : subcommand_of program (codes "replay" ∷ []) ≡ Some (codes "replay", [])
unfolding clap_on_literals
replay_met = refl

pub dump_met : subcommand_of program (codes "dump" ∷ []) ≡ Some (codes "dump", [])
unfolding clap_on_literals
dump_met = refl

pub run_met : subcommand_of program (codes "run" ∷ []) ≡ Some (codes "run", [])
unfolding clap_on_literals
run_met = refl

pub replay_taken : takes program (codes "replay" ∷ []) ≡ true
unfolding clap_on_literals
replay_taken = refl

pub dump_taken : takes program (codes "dump" ∷ []) ≡ true
unfolding clap_on_literals
dump_taken = refl

pub run_taken : takes program (codes "run" ∷ []) ≡ true
unfolding clap_on_literals
run_taken = refl
