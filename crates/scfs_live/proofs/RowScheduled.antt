-- Lines of an old journal, and the schedule that they are; all computed.
use Rattle.std.specs.Prelude.{◌≡◌, ℕ, List, [], ◌∷◌, codes, refl}
use Rattle.scfs_live.specs.GoingOn.{kept_lines}
use Rattle.scfs_live.specs.Scheduled.{schedule_of, unspaced}

-- a header's line, an event with its lines, one that is left out, and an event with none
abbrev lines : List (List ℕ)
lines =
    codes "begin" ∷ codes "call 0 create /a" ∷ codes " 1 asked 0.0.1" ∷ codes "space 0~" ∷ codes " 1 as~" ∷ codes " 2 served 0.0.1" ∷ codes "tick 1" ∷ []

kept_ones : kept_lines lines
    ≡ codes "begin" ∷ codes "call 0 create /a" ∷ codes " 1 asked 0.0.1" ∷ codes " 2 served 0.0.1" ∷ codes "tick 1" ∷ []
kept_ones = refl

unspaced_ones : unspaced (kept_lines lines) ≡ codes "begin" ∷ codes "call 0 create /a" ∷ codes "tick 1" ∷ []
unspaced_ones = refl

as_a_schedule : schedule_of lines ≡ codes "begin\ncall 0 create /a\ntick 1\nend\n"
as_a_schedule = refl

empty_line : schedule_of ([] ∷ codes "~" ∷ codes " " ∷ []) ≡ codes "\nend\n"
empty_line = refl

nothing : schedule_of [] ≡ codes "end\n"
nothing = refl
