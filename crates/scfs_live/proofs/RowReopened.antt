-- Lines of an old journal, each with what it is found to be, and what is written first; all computed.
use Rattle.std.specs.Prelude.{◌≡◌, ℕ, List, [], ◌∷◌, ◌++◌, codes, replicate, None, refl, true, false}
use Rattle.std.proofs.Common.{arith}
use Rattle.std.specs.Fmt.{digits}
use Rattle.scfs_base.specs.Words.{hex_pair, number_of, path_of, path_byte}
use Rattle.scfs_schedule.specs.declared.types.BadKind.TheVariants as kinds
use Rattle.scfs_schedule.specs.declared.types.Call.TheVariants as calls
use Rattle.scfs_schedule.specs.declared.types.Event.TheVariants as events
use Rattle.scfs_schedule.specs.declared.types.Header.{Header}
use Rattle.scfs_schedule.specs.declared.types.Mode.TheVariants as modes
use Rattle.scfs_schedule.specs.declared.types.Line.TheVariants as lines
use Rattle.scfs_model.specs.History.{Entry}
use Rattle.scfs_live.specs.declared.awaited.Awaited.{Awaited}
use Rattle.scfs_live.specs.declared.finding.Found.TheVariants as founds
use Rattle.scfs_live.specs.Finding.{found}
use Rattle.scfs_live.specs.Keeping.{missing, unkept, whole_lines}
use Rattle.scfs_live.specs.Reopening.{Walks, unwalked}

-- one agent over four clouds
abbrev header : Header
header = record { f = 1; lease = 100; stale = 0; agents = (modes.Blocking, replicate 32 0) ∷ [] }

abbrev agent_line : List ℕ
agent_line = codes "agent 0 blocking 0000000000000000000000000000000000000000000000000000000000000000"

-- all is kept
abbrev nothing : Awaited
nothing = record { header = []; lines = [] }

-- one line of the last event is still to be kept
abbrev after_told : Awaited
after_told = record { header = []; lines = codes "3 ok 0 create 1" ∷ [] }

-- two lines of the header are
abbrev in_header : Awaited
in_header = record { header = agent_line ∷ codes "begin" ∷ []; lines = [] }

lines_of_header : unkept header ≡ record { header = codes "scfs 1" ∷ codes "f 1" ∷ codes "lease 100" ∷ codes "stale 0" ∷ agent_line ∷ codes "begin" ∷ []; lines = [] }
unfolding digits hex_pair
lines_of_header = refl

unfinished_line : whole_lines (codes "space 0\ntold 0\n 3 ok") ≡ codes "space 0" ∷ codes "told 0" ∷ []
unfinished_line = refl

event : found header nothing (codes "call 0 create /a") ≡ founds.Does (events.Call 0 (calls.Create (codes "/a")))
unfolding number_of path_of path_byte
event = refl

same_line : found header after_told (codes " 3 ok 0 create 1") ≡ founds.KeepsLine
same_line = refl

other_line : found header after_told (codes " 3 ok 0 create 2") ≡ founds.Differs (codes "3 ok 0 create 2") (codes "3 ok 0 create 1")
other_line = refl

too_few : found header after_told (codes "space 0") ≡ founds.Differs (codes "-") (codes "3 ok 0 create 1")
unfolding number_of
too_few = refl

unbuilt_behind_missing : found header after_told (codes "call 0 sync") ≡ founds.Does (events.Call 0 calls.Sync)
unfolding number_of
unbuilt_behind_missing = refl

too_many : found header nothing (codes " 3 ok 0 create 1") ≡ founds.Differs (codes "3 ok 0 create 1") (codes "-")
too_many = refl

left_out : found header after_told (codes " 3 ok~") ≡ founds.LeftOut
left_out = refl

left_out_in_header : found header in_header (codes "agent~") ≡ founds.LeftOut
left_out_in_header = refl

end_line : found header nothing (codes "end") ≡ founds.Wrong kinds.Word
end_line = refl

bad_behind_missing : found header after_told (codes "space 1") ≡ founds.Wrong kinds.Number
unfolding number_of
bad_behind_missing = refl

header_line : found header in_header agent_line ≡ founds.KeepsHeader
header_line = refl

other_header_line : found header in_header (codes " f 1") ≡ founds.Differs (codes " f 1") agent_line
other_header_line = refl

cut_within_line : missing true after_told ≡ codes "~\n 3 ok 0 create 1\n"
cut_within_line = refl

cut_in_header : missing false in_header ≡ agent_line ++ codes "\nbegin\n"
cut_in_header = refl

cut_behind_all : missing true nothing ≡ codes "~\n"
cut_behind_all = refl

-- a header line that is left out takes the walk nowhere
header_walk : Walks header (unwalked header) (codes "scfs 1" ∷ codes "f~" ∷ codes "f 1" ∷ [])
    (record { past = []; awaited = record { header = codes "lease 100" ∷ codes "stale 0" ∷ agent_line ∷ codes "begin" ∷ []; lines = [] } })
unfolding digits hex_pair
header_walk = (_, refl, (_, refl, (_, refl, refl)))

abbrev created : Entry
created = record { event = events.Call 0 (calls.Create (codes "/a")); lines = []; ranks = []; message = None }

abbrev changed : Entry
changed = record { event = events.Space 0; lines = lines.Changed (record { agent = 0; incarnation = 0; number = 1 }) ∷ []; ranks = []; message = None }

-- two events, the second with its line, and a line that is left out
event_walk : Walks header (record { past = []; awaited = nothing }) (codes "call 0 create /a" ∷ codes "space 0" ∷ codes " 2 cha~" ∷ codes " 2 changed 0.0.1" ∷ [])
    (record { past = changed ∷ created ∷ []; awaited = nothing })
unfolding number_of path_of path_byte digits
event_walk = (_, (refl, omega arith, (created, refl, refl)), (_, (refl, omega arith, (changed, refl, refl)), (_, refl, (_, refl, refl))))
