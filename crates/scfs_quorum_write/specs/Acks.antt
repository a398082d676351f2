use Rattle.std.specs.Prelude.{ℕ, ◌+◌, ◌-◌, ◌*◌, List, [], ◌∷◌, map, fold, min, replicate, slice_set, Bool, not, ◌&&◌, nat_le, if◌then◌else◌, refl}
use Rattle.std.specs.List.{slice_index_or}
use Rattle.std.specs.Coded.{Coded, code_by, coded×, coded_ℕ, coded_list}
use Rattle.std.specs.FinSet as set
use Rattle.scfs_quorum_write.specs.Marks.{Clouds}
use Rattle.scfs_quorum_write.specs.declared.progress.Progress.{Progress}
use Rattle.scfs_quorum_write.specs.declared.progress.Progress.TheVariants.{Already, Counted, Done}

-- the acknowledgements of an upload: for each part the different clouds that acknowledged it
pub record Acks : Type 0 where
  pub f : ℕ
  pub parts : List Clouds

-- acknowledgements are stored as the pair of their fields
abbrev pub acks_code : Coded Acks
acks_code =
    code_by (ℕ × List Clouds) (coded× coded_ℕ (coded_list (set.code coded_ℕ))) (λ a. (a.f, a.parts)) (λ p. record { f = p.0; parts = p.1 }) (λ _. refl)

-- nothing is acknowledged yet
abbrev pub no_acks : ℕ → ℕ → Acks
no_acks f parts = record { f = f; parts = replicate parts set.empty }

-- the clouds that acknowledged a part
abbrev pub clouds_of : Acks → ℕ → Clouds
clouds_of acks part = slice_index_or acks.parts part set.empty

-- one acknowledgement more; a repeated one changes nothing
abbrev pub with_ack : Acks → ℕ → ℕ → Acks
with_ack acks cloud part = record acks { parts = slice_set acks.parts part (set.insert (clouds_of acks part) cloud) }

-- the least number of a list, 0 of the empty one
abbrev pub least_of : List ℕ → ℕ
least_of [] = 0
least_of (number ∷ numbers) = fold min number numbers

-- how many different clouds acknowledged each part, at the least
abbrev pub count_of : Acks → ℕ
count_of acks = least_of (map set.len acks.parts)

-- n-f or more different clouds, of n = 3f+1, acknowledged each part
abbrev pub is_complete : Acks → Bool
is_complete acks = nat_le (3 * acks.f + 1 - acks.f) (count_of acks)

-- what an acknowledgement brings: nothing where it is repeated, the end where it is the first to complete all parts
abbrev pub progress : Acks → ℕ → ℕ → Progress
progress acks cloud part =
    if set.contains (clouds_of acks part) cloud then Already
    else if not (is_complete acks) && is_complete (with_ack acks cloud part) then Done
    else Counted (count_of (with_ack acks cloud part))
