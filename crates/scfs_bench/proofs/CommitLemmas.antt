-- Files and commits counted from the first.
use Rattle.std.proofs.Common.{◌≡◌, ℕ, suc, ◌+◌, [], refl, ap, ◌∙◌, ◌/◌, ◌%◌}
use Rattle.std.proofs.Math.Numerals.{add-one}
use Rattle.scfs_bench.specs.Commits.{after, commit_of, filled_with, new_file_of, ran}

pub no_files : filled_with 0 ≡ record { tuples = []; done = 0 }
unfolding filled_with
no_files = refl

last_file : (id : ℕ) → filled_with (suc id) ≡ ran (new_file_of id) (filled_with id)
unfolding filled_with
last_file id = refl

-- one file more is made after the others
pub one_file_more : (id : ℕ) → filled_with (id + 1) ≡ ran (new_file_of id) (filled_with id)
one_file_more id = ap filled_with (add-one id) ∙ last_file id

-- no commit leaves the files as they were made
pub no_commits : (files : ℕ) → after files 0 ≡ filled_with files
unfolding after
no_commits files = refl

last_commit : (files round : ℕ) → after files (suc round) ≡ ran (commit_of (round % files) (round / files)) (after files round)
unfolding after
last_commit files round = refl

-- one commit more comes after the others
pub one_commit_more : (files round : ℕ) → after files (round + 1) ≡ ran (commit_of (round % files) (round / files)) (after files round)
one_commit_more files round = ap (after files) (add-one round) ∙ last_commit files round
