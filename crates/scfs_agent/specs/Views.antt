use Rattle.std.specs.Prelude.{ℕ, ◌+◌, ◌-◌, ◌*◌, List, [], ◌∷◌, map, filter, Option, Some, None}
use Rattle.std.specs.FinSet as set
use Rattle.scfs_quorum_write.specs.Acks.{Acks, clouds_of}
use Rattle.scfs_quorum_write.specs.declared.progress.Progress.{Progress}
use Rattle.scfs_quorum_write.specs.declared.progress.Progress.TheVariants as progresses
use Rattle.scfs_quorum_read.specs.declared.steps.ReadStep.{ReadStep}
use Rattle.scfs_quorum_read.specs.declared.steps.ReadStep.TheVariants as read_steps
use Rattle.scfs_session.specs.declared.sessions.Ended.{Ended}
use Rattle.scfs_session.specs.declared.sessions.Session.{Session}
use Rattle.scfs_anchor.specs.declared.seen.VersionRow.{VersionRow}
use Rattle.scfs_model.specs.Lists.{below}
use Rattle.scfs_base.specs.Limits.{turns_limit}
use Rattle.scfs_model.specs.Names.{upload_name}
use Rattle.scfs_model.specs.Asked as machine
use Rattle.scfs_model.specs.Layers.{Row}
use Rattle.scfs_model.specs.Lives.{Life, Down, Starting, Ready}
use Rattle.scfs_model.specs.Next.{Next, Goes_on, Asks, Has}
use Rattle.scfs_model.specs.Reading.{Reading}
use Rattle.scfs_model.specs.Storing.{Storing}
use Rattle.scfs_model.specs.NameSteps.{Make, Look}
use Rattle.scfs_model.specs.LockSteps.{Unlock, Unlock_all, Renew}
use Rattle.scfs_model.specs.SessionSteps.{Open_read, Open_write, Commit}
use Rattle.scfs_model.specs.Steps.{Step, On_names, On_locks, On_sessions}
use Rattle.scfs_model.specs.Agents.{Opening, Waiting, For_step, For_clouds, For_close, Upload, Closed, Request}
use Rattle.scfs_agent.specs.declared.work.Asked.{Asked}
use Rattle.scfs_agent.specs.declared.work.Asking.{Asking}
use Rattle.scfs_agent.specs.declared.work.Asking.TheVariants as askings
use Rattle.scfs_agent.specs.declared.work.Pending.{Pending}
use Rattle.scfs_agent.specs.declared.work.Fetch.{Fetch}
use Rattle.scfs_agent.specs.declared.work.Upload as work
use Rattle.scfs_agent.specs.declared.work.Work.{Work}
use Rattle.scfs_agent.specs.declared.work.Work.TheVariants as works

-- How the code's values are seen as the machine's.

abbrev pub row_of : VersionRow → Row
row_of r =
    record { file = r.id; number = r.number; upload = r.upload; root = r.root; content = r.content; length = r.length; moment = r.time }

abbrev pub asked_of : List Asked → List machine.Asked
asked_of asked = map (λ (x : Asked). record { request = x.request; cloud = x.cloud }) asked

abbrev pub step_of : Asking → Step Row
step_of (askings.Make path id) = On_names (Make path id)
step_of (askings.Look path) = On_names (Look path)
step_of (askings.OpenRead path session) = On_sessions (Open_read path session)
step_of (askings.OpenWrite path session) = On_sessions (Open_write path session)
step_of (askings.Commit session row) = On_sessions (Commit session (row_of row))
step_of (askings.Unlock id session) = On_locks (Unlock id session)
step_of askings.UnlockAll = On_locks Unlock_all
step_of (askings.Renew id session) = On_locks (Renew id session)

abbrev pub request_of : Pending → Request Row
request_of x = record { number = x.number; step = step_of x.asking }

-- the turns that a tracker has left, and those that came
abbrev pub turns_left : Option ℕ → ℕ
turns_left None = 0
turns_left (Some left) = left

abbrev pub turns_of : Option ℕ → ℕ
turns_of left = turns_limit - turns_left left

-- the clouds that acknowledged an upload, by number
abbrev pub acked_of : Acks → List ℕ
acked_of acks = filter (set.contains (clouds_of acks 0)) (below (3 * acks.f + 1))

abbrev pub reading_of : Fetch → Reading
reading_of x =
    record {
      name = upload_name x.row.upload;
      root = x.tracker.reading.root;
      size = x.tracker.reading.size;
      order = x.tracker.reading.order;
      gets = asked_of x.gets;
      pieces = x.tracker.pieces;
      turns = turns_of x.tracker.left;
    }

abbrev pub opening_of : Fetch → Opening Row
opening_of x = record { session = x.session; writes = x.writes; version = row_of x.row; reading = reading_of x }

-- what an ended session leaves, as the session that it was
abbrev pub left_session : Ended → Session
left_session left = record { file = left.id; base = left.base; writes = left.writes; contents = left.contents }

abbrev pub storing_of : work.Upload → Storing
storing_of x =
    record { name = upload_name x.row.upload; unit = x.unit; puts = asked_of x.puts; acked = acked_of x.acks; turns = x.turns }

abbrev pub upload_of : work.Upload → Upload Row
upload_of x = record { version = row_of x.row; storing = storing_of x }

abbrev pub closed_of : work.Upload → Closed Row
closed_of x = record { number = x.session; session = left_session x.left; upload = Some (upload_of x) }

-- what an agent is at, as its life, its unanswered call and its closed session
abbrev pub life_of : Work → Life
life_of works.Down = Down
life_of works.Starting = Starting
life_of works.Idle = Ready
life_of works.Step = Ready
life_of (works.Fetch x) = Ready
life_of (works.Upload x) = Ready

abbrev pub waiting_of : Work → Option (Waiting Row)
waiting_of works.Down = None
waiting_of works.Starting = None
waiting_of works.Idle = None
waiting_of works.Step = Some For_step
waiting_of (works.Fetch x) = Some (For_clouds (opening_of x))
waiting_of (works.Upload x) = Some For_close

abbrev pub closed_in : Work → List (Closed Row)
closed_in works.Down = []
closed_in works.Starting = []
closed_in works.Idle = []
closed_in works.Step = []
closed_in (works.Fetch x) = []
closed_in (works.Upload x) = closed_of x ∷ []

-- what a tracker's answer says of the reading; that no cloud is left to be asked leaves it as one that waits
abbrev pub next_of : ReadStep → Next (List ℕ)
next_of (read_steps.Ask cloud) = Asks (cloud ∷ [])
next_of read_steps.Wait = Goes_on
next_of (read_steps.Whole contents) = Has contents

-- what an acknowledgement leads to
abbrev pub acked_next : Progress → Next (Unit {0})
acked_next progresses.Already = Goes_on
acked_next (progresses.Counted n) = Goes_on
acked_next progresses.Done = Has tt
