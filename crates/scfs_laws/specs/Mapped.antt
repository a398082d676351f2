use Rattle.std.specs.Prelude.{ℕ, List, map, Option, Some, None}
use Rattle.scfs_base.specs.declared.naming.UploadNo.{UploadNo}
use Rattle.scfs_session.specs.declared.sessions.Session.{Session}
use Rattle.scfs_unit.specs.declared.sealing.Sealed.{Sealed}
use Rattle.scfs_model.specs.Versions.{Versions}
use Rattle.scfs_model.specs.Tree.{Tree}
use Rattle.scfs_model.specs.Walks.{on_ok}
use Rattle.scfs_model.specs.SessionSteps.{Session_step, Open_read, Open_write, Commit, Sight, Session_outcome, Sees, Locks, Completes}
use Rattle.scfs_model.specs.Steps.{Step, On_names, On_locks, On_sessions, Outcome, Of_names, Of_locks, Of_sessions, Served}
use Rattle.scfs_model.specs.Agents.{Opening, Waiting, For_step, For_clouds, For_close, Upload, Closed, Request, Agent, Input, Calls, Tells, Hears, Turns, Crashes, Starts, Reaction}
use Rattle.scfs_model.specs.Opens.{Found, As_empty, On_clouds}
use Rattle.scfs_model.specs.States.{Reply, Seat, State, Effect}

-- The machine where a version is something else.

module _ {V W : Type 0} (g : V → W) where
  abbrev pub some : Option V → Option W
  some None = None
  some (Some v) = Some (g v)

  abbrev pub tree : Tree V → Tree W
  tree x = record { nodes = x.nodes; locks = x.locks; versions = map g x.versions }

  abbrev pub session_step : Session_step V → Session_step W
  session_step (Open_read names h) = Open_read names h
  session_step (Open_write names h) = Open_write names h
  session_step (Commit h v) = Commit h (g v)

  abbrev pub step : Step V → Step W
  step (On_names x) = On_names x
  step (On_locks x) = On_locks x
  step (On_sessions x) = On_sessions (session_step x)

  abbrev pub sight : Sight V → Sight W
  sight x = record { file = x.file; number = x.number; version = some x.version; lock = x.lock }

  abbrev pub session_outcome : Session_outcome V → Session_outcome W
  session_outcome (Sees x) = Sees (sight x)
  session_outcome (Locks x l) = Locks (sight x) l
  session_outcome (Completes h v n) = Completes h (g v) n

  abbrev pub outcome : Outcome V → Outcome W
  outcome (Of_names x r) = Of_names x r
  outcome (Of_locks x r) = Of_locks x r
  outcome (Of_sessions x r) = Of_sessions (session_step x) (on_ok session_outcome r)

  abbrev pub served : Served V → Served W
  served x = record { outcome = outcome x.outcome; tree = tree x.tree }

  abbrev pub opening : Opening V → Opening W
  opening o = record { session = o.session; writes = o.writes; version = g o.version; reading = o.reading }

  abbrev pub waits : Waiting V → Waiting W
  waits For_step = For_step
  waits (For_clouds o) = For_clouds (opening o)
  waits For_close = For_close

  abbrev pub waiting : Option (Waiting V) → Option (Waiting W)
  waiting None = None
  waiting (Some w) = Some (waits w)

  abbrev pub upload : Upload V → Upload W
  upload u = record { version = g u.version; storing = u.storing }

  abbrev pub some_upload : Option (Upload V) → Option (Upload W)
  some_upload None = None
  some_upload (Some u) = Some (upload u)

  abbrev pub closed : Closed V → Closed W
  closed x = record { number = x.number; session = x.session; upload = some_upload x.upload }

  abbrev pub request : Request V → Request W
  request x = record { number = x.number; step = step x.step }

  abbrev pub agent : Agent V → Agent W
  agent a =
      record {
        life = a.life;
        waiting = waiting a.waiting;
        sessions = a.sessions;
        closed = map closed a.closed;
        leases = a.leases;
        pending = map request a.pending;
        tallies = a.tallies;
        incarnation = a.incarnation;
        requests = a.requests;
        opens = a.opens;
        files = a.files;
        uploads = a.uploads;
      }

  abbrev pub reaction : Reaction V → Reaction W
  reaction r = record { agent = agent r.agent; says = r.says; steps = map request r.steps; sent = r.sent; ranked = r.ranked }

  abbrev pub input : Input V → Input W
  input (Calls call) = Calls call
  input (Tells number o) = Tells number (outcome o)
  input (Hears c number answer) = Hears c number answer
  input Turns = Turns
  input Crashes = Crashes
  input Starts = Starts

  abbrev pub reply : Reply V → Reply W
  reply r = record { number = r.number; outcome = outcome r.outcome }

  abbrev pub seat : Seat V → Seat W
  seat x = record { agent = agent x.agent; asked = map request x.asked; replied = map reply x.replied }

  abbrev pub state : State V → State W
  state x = record { clock = x.clock; tree = tree x.tree; seats = map seat x.seats }

  abbrev pub effect : Effect V → Effect W
  effect e = record { state = state e.state; lines = e.lines; sent = e.sent; ranked = e.ranked }

  abbrev pub found : Found V → Found W
  found As_empty = As_empty
  found (On_clouds v) = On_clouds (g v)

-- what versions have that is not seen of them through a function: what an open of one has, what a close becomes, and its completion
pub record Own (V : Type 0) : Type 0 where
  pub contents : V → (came : List ℕ) → List ℕ
  pub closed : Session → UploadNo → Sealed → V
  pub completed : V → (now : ℕ) → V

-- the versions, seen through a function
abbrev pub through : {V W : Type 0} → Versions W → (V → W) → Own V → Versions V
through ws g own =
    record {
      file = λ v. ws.file (g v);
      number = λ v. ws.number (g v);
      upload = λ v. ws.upload (g v);
      root = λ v. ws.root (g v);
      size = λ v. ws.size (g v);
      contents = own.contents;
      closed = own.closed;
      completed = own.completed;
    }
