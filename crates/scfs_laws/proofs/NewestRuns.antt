-- A run without its newest event is a run; what the words of specs/Newest are in a run that was played.
use Rattle.std.proofs.Common.{◌≡◌, [], ◌∷◌, length, refl, Some, option_map}
use Rattle.scfs_base.specs.Words.{hex_pair}
use Rattle.scfs_model.specs.Names.{request_no, file_id}
use Rattle.scfs_model.specs.Format.{Setup}
use Rattle.scfs_model.specs.History.{Entry, History}
use Rattle.scfs_model.specs.Versions.{Versions}
use Rattle.scfs_model.specs.Runs.{Follows, Happens, Run}
use Rattle.scfs_laws.specs.Newest.{last_committed, before_service, latest_saw}
use Rattle.scfs_model.proofs.ShortFormat.{setup}
use Rattle.scfs_model.proofs.Played.{played}
use Rattle.scfs_model.proofs.SharedFile.{read_well}

pub follows_of_prefix : {V : Type 0} (s : Setup) (vs : Versions V) (e : Entry) (past : History) → Follows s vs (e ∷ past) → Follows s vs past
follows_of_prefix s vs e past h = h.1

pub run_of_prefix : (s : Setup) (e : Entry) (past : History) → Run s (e ∷ past) → Run s past
run_of_prefix s e past h = h.1

pub happens_of_prefix : (s : Setup) (e : Entry) (past : History) → Happens s (e ∷ past) → Happens s past
happens_of_prefix s e past h = h.1

-- agent 1 opened version 1 of the file that agent 0 closed, with its request served after 19 events
abbrev past : History
past = played (setup 1 2) [] read_well

last_committed_made : last_committed (file_id 0 0 1) past ≡ 1
unfolding hex_pair
last_committed_made = refl

latest_saw_made : latest_saw 1 past ≡ Some (record { request = request_no 1 0 1; file = file_id 0 0 1; number = 1 })
unfolding hex_pair
latest_saw_made = refl

before_service_made : option_map length (before_service (request_no 1 0 1) past) ≡ Some 19
unfolding hex_pair
before_service_made = refl

-- agent 0 opened it as version 0, before any commit
first_committed_made : option_map (last_committed (file_id 0 0 1)) (before_service (request_no 0 0 2) past) ≡ Some 0
unfolding hex_pair
first_committed_made = refl
