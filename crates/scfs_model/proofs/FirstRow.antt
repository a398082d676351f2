use Rattle.std.specs.Prelude.{◌≡◌, List, [], ◌∷◌, codes, ℕ, refl}
use Rattle.scfs_base.specs.Words.{hex_pair}
use Rattle.scfs_schedule.specs.declared.types.Event.{Event}
use Rattle.scfs_schedule.specs.declared.types.Event.TheVariants as events
use Rattle.scfs_schedule.specs.declared.types.Call.TheVariants as calls
use Rattle.scfs_schedule.specs.declared.types.Kind.TheVariants as kinds
use Rattle.scfs_schedule.specs.declared.types.How.TheVariants as hows
use Rattle.scfs_schedule.specs.declared.types.Line.{Line}
use Rattle.scfs_schedule.specs.declared.types.Line.TheVariants as lines
use Rattle.scfs_model.specs.Names.{request_no, file_id, upload_no, upload_name}
use Rattle.scfs_model.proofs.ShortFormat.{setup}
use Rattle.scfs_model.proofs.Played.{lines_of, due_of}

-- the path /a
abbrev pub path_a : List ℕ
path_a = codes "/a"

abbrev pub created : List Event
created =
    events.Call 0 (calls.Create path_a) ∷ events.Space 0 ∷ events.Told 0
    ∷ events.Call 0 (calls.Stat path_a) ∷ events.Space 0 ∷ events.Told 0 ∷ []

abbrev pub created_lines : List (List Line)
created_lines =
    [] ∷ (lines.Changed (request_no 0 0 1) ∷ []) ∷ (lines.OkCreate 0 (file_id 0 0 1) ∷ [])
    ∷ [] ∷ (lines.Looked (request_no 0 0 2) ∷ []) ∷ (lines.OkStat 0 kinds.File (file_id 0 0 1) 0 0 hows.Fresh ∷ []) ∷ []

created_made : lines_of (setup 1 1) created ≡ created_lines
created_made = refl

created_due : due_of (setup 1 1) created ≡ created_lines
created_due = refl

name_spelled : upload_name (upload_no 0 0 1) ≡ codes "u/0000000000000001/0000"
unfolding hex_pair
name_spelled = refl
