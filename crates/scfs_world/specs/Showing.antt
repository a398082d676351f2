use Rattle.std.specs.Prelude.{ℕ, ◌+◌, ◌-◌, List, [], ◌∷◌, length, Option, Some, None, slice_get}
use Rattle.scfs_base.specs.declared.naming.FileId.{FileId}
use Rattle.scfs_base.specs.declared.naming.RequestNo.{RequestNo}
use Rattle.scfs_schedule.specs.declared.types.Line.{Line}
use Rattle.scfs_schedule.specs.declared.types.Line.TheVariants as lines
use Rattle.scfs_tuples.specs.declared.types.Cond.{Cond}
use Rattle.scfs_tuples.specs.declared.types.Cond.TheVariants as conds
use Rattle.scfs_tuples.specs.declared.types.Field.{Field}
use Rattle.scfs_tuples.specs.declared.types.Field.TheVariants as fields
use Rattle.scfs_tuples.specs.declared.types.Give.{Give}
use Rattle.scfs_tuples.specs.declared.types.Give.TheVariants as gives
use Rattle.scfs_tuples.specs.declared.types.Pattern.{Pattern}
use Rattle.scfs_tuples.specs.declared.types.Reply.{Reply}
use Rattle.scfs_tuples.specs.declared.types.Step.{Step}
use Rattle.scfs_tuples.specs.declared.types.StepResult.{StepResult}
use Rattle.scfs_tuples.specs.declared.types.StepResult.TheVariants as results
use Rattle.scfs_tuples.specs.declared.types.Template.{Template}
use Rattle.scfs_net.specs.declared.messages.Moved.{Moved}
use Rattle.scfs_net.specs.declared.messages.Moved.TheVariants as moved
use Rattle.scfs_anchor.specs.Fields.{number_at}
use Rattle.scfs_anchor.specs.Replies.{refusal_in}

-- How lines are read off what the space and the clouds give.

-- the lines of an event at a queue
abbrev pub moved_lines : Moved → List Line
moved_lines moved.Done = []
moved_lines moved.Skipped = lines.Skip ∷ []

-- the number that a template puts at a place
abbrev pub number_put : Option Give → ℕ
number_put None = 0
number_put (Some (gives.Val (fields.Num n))) = n
number_put (Some (gives.Val (fields.Text text))) = 0
number_put (Some (gives.Var v)) = 0
number_put (Some gives.Now) = 0

-- a step that puts nothing and takes all tuples of a pattern frees locks; another one that puts nothing looks
abbrev pub looked_line : RequestNo → (taken : ℕ) → List Cond → Line
looked_line request taken [] = lines.Looked request
looked_line request taken (conds.Need p ∷ others) = lines.Looked request
looked_line request taken (conds.NoneOf p ∷ others) = lines.Looked request
looked_line request taken (conds.Take p ∷ others) = lines.Looked request
looked_line request taken (conds.TakeAll p ∷ others) = lines.Unlocked request taken

-- the last but one variable of an open stands for its file
abbrev pub file_shown : List Field → FileId
file_shown bound = record { 0 = number_at bound (length bound - 2) }

-- a lock that is put lives so long: a new one on the file that is shown, or, where none is shown, one that was there before
abbrev pub lock_line : RequestNo → (now life : ℕ) → List Field → List Pattern → Line
lock_line request now life bound [] = lines.Renewed request (now + life)
lock_line request now life bound (p ∷ ps) = lines.Locked request (file_shown bound) (now + life)

-- a step that puts one tuple puts a node, or, where it ends at a moment, a lock
abbrev pub put_line : RequestNo → (now : ℕ) → List Field → List Pattern → (life : Option ℕ) → Line
put_line request now bound all None = lines.Changed request
put_line request now bound all (Some life) = lock_line request now life bound all

-- a step that puts a node and a version completes that version
abbrev pub committed_line : RequestNo → Template → Line
committed_line request version =
    lines.Committed request (record { 0 = number_put (slice_get version.gives 1) }) (number_put (slice_get version.gives 2))

-- the line of a step that was done, by what it puts
abbrev pub done_line : RequestNo → Step → (now : ℕ) → List Field → (taken : ℕ) → List Template → Line
done_line request step now bound taken [] = looked_line request taken step.conds
done_line request step now bound taken (t ∷ []) = put_line request now bound step.all t.life
done_line request step now bound taken (t ∷ version ∷ others) = committed_line request version

abbrev pub line_by : RequestNo → Step → (now : ℕ) → StepResult → Line
line_by request step now (results.Did bound taken rows) = done_line request step now bound taken step.puts
line_by request step now (results.Refused index tuple) = lines.Refused request (refusal_in step.conds (results.Refused index tuple))

-- the line of a step that the space served
abbrev pub line_of : RequestNo → Step → Reply → Line
line_of request step reply = line_by request step reply.now reply.result
