use Rattle.std.specs.Prelude.{ℕ, ◌+◌, List, [], ◌++◌, length, map, take, Bool, ◌==◌, if◌then◌else◌, Option, Some, None, is_some}
use Rattle.scfs_base.specs.declared.naming.RequestNo.{RequestNo}
use Rattle.scfs_base.specs.declared.cloud.CloudAnswer.{CloudAnswer}
use Rattle.scfs_base.specs.declared.cloud.CloudRequest.TheVariants as requests
use Rattle.scfs_policy.specs.declared.rank.RankFacts.{RankFacts}
use Rattle.scfs_schedule.specs.declared.types.Refusal.TheVariants as refusals
use Rattle.scfs_schedule.specs.declared.types.Src.{Src}
use Rattle.scfs_schedule.specs.declared.types.Src.TheVariants as sources
use Rattle.scfs_unit.specs.declared.pieces.KeptPiece.{KeptPiece}
use Rattle.scfs_session.specs.declared.sessions.Session.{Session}
use Rattle.scfs_session.specs.Open as session
use Rattle.scfs_model.specs.Names.{upload_name}
use Rattle.scfs_model.specs.Format.{Setup}
use Rattle.scfs_model.specs.Ranks.{order_by}
use Rattle.scfs_model.specs.Versions.{Versions}
use Rattle.scfs_model.specs.Given.{Given}
use Rattle.scfs_model.specs.LockSteps.{Unlock}
use Rattle.scfs_model.specs.SessionSteps.{Sight}
use Rattle.scfs_model.specs.Steps.{On_locks}
use Rattle.scfs_model.specs.Next.{Next, Goes_on, Asks, Has, Gives_up}
use Rattle.scfs_model.specs.Reading.{piece_in, is_awaited, with_piece, read_on, read_turn}
use Rattle.scfs_model.specs.Sayings as says
use Rattle.scfs_model.specs.Leases.{unleased}
use Rattle.scfs_model.specs.Agents.{Opening, For_clouds, Agent, Reaction, silent, saying, answered, followed, ranking, asks_step, next_asked, asks_clouds}

-- An open, from its sight on. Where it is answered, asks clouds or goes on, the agent's unanswered call, which is the open, is set anew.

-- where the contents of an open are: nowhere, for version 0, or on the clouds
pub data Found (V : Type 0) : Type 0 where
  As_empty : Found V
  On_clouds : V → Found V

-- a version above 0 is on the clouds; its row stands in the tree as long as the node that names it
abbrev pub found_version : {V : Type 0} → Option V → Found V
found_version None = As_empty
found_version (Some v) = On_clouds v

abbrev pub found : {V : Type 0} → Sight V → Found V
found sight = if sight.number == 0 then As_empty else found_version sight.version

-- an open is answered: its session is there
abbrev pub opened : {V : Type 0} → Agent V → (h : ℕ) → Session → Src → Reaction V
opened agent h y source =
    answered (record agent { sessions = session.opened agent.sessions h y }) (says.Opened h y.base source (length y.contents))

-- one more good or bad answer of the cloud, if these are its facts
abbrev pub one_more : (c : ℕ) → (is_good : Bool) → RankFacts → RankFacts
one_more c is_good x =
    if x.cloud == c then (if is_good then record x { good = x.good + 1 } else record x { bad = x.bad + 1 }) else x

-- a cloud was good or bad to an open
abbrev pub tallied : {V : Type 0} → Agent V → (c : ℕ) → (is_good : Bool) → Agent V
tallied agent c is_good = record agent { tallies = map (one_more c is_good) agent.tallies }

-- the session of an open of a version
abbrev pub session_on : {V : Type 0} → Versions V → V → (writes : Bool) → (contents : List ℕ) → Session
session_on vs v writes contents = record { file = vs.file v; base = vs.number v; writes = writes; contents = contents }

module _ {V : Type 0} (s : Setup) (vs : Versions V) (a : ℕ) where
  -- Gets are asked: what a cloud has under the name, at most one byte more than its object has
  abbrev pub asks_gets : Agent V → Opening V → (clouds : List ℕ) → Reaction V
  asks_gets agent o clouds =
      let gets = next_asked a agent clouds in
      asks_clouds (record agent { waiting = Some (For_clouds (record o { reading = record o.reading { gets = o.reading.gets ++ gets } })) }) gets
      (λ c. requests.Get o.reading.name (s.format.object_size s.header.f o.reading.size + 1))

  -- a version is read from the clouds, the first f + 1 of the order first; the rank rule is asked about all clouds
  abbrev pub begins_open : Agent V → Given → (h : ℕ) → (writes : Bool) → V → Reaction V
  begins_open agent given h writes v =
      let order = order_by given.ranks in
      ranking agent.tallies
      (asks_gets agent
      (record {
        session = h;
        writes = writes;
        version = v;
        reading = record { name = upload_name (vs.upload v); root = vs.root v; size = vs.size v; order = order; gets = []; pieces = []; turns = 0 };
      })
      (take (s.header.f + 1) order))

  -- an open at its sight, by where its contents are
  abbrev pub sighted : Agent V → Given → (h : ℕ) → (writes : Bool) → Sight V → Found V → Reaction V
  sighted agent given h writes sight As_empty =
      opened agent h (record { file = sight.file; base = sight.number; writes = writes; contents = [] }) sources.Empty
  sighted agent given h writes sight (On_clouds v) = begins_open agent given h writes v

  -- an open is told its sight
  abbrev pub saw : Agent V → Given → RequestNo → (h : ℕ) → (writes : Bool) → Sight V → Reaction V
  saw agent given request h writes sight =
      followed (saying agent (says.Saw request sight.file sight.number)) (λ next. sighted next given h writes sight (found sight))

  -- an open from the clouds is given up; its lock, if it has one, is given back, for which nothing waits
  abbrev pub gives_up : Agent V → Opening V → (good : ℕ) → Reaction V
  gives_up agent o good =
      followed (answered (unleased agent o.session) (says.Refuses (refusals.Unavailable (vs.number o.version) good)))
      (λ next. if o.writes then asks_step a next (On_locks (Unlock (vs.file o.version) o.session)) else silent next)

  -- what becomes of an open from the clouds
  abbrev pub reads : Agent V → Opening V → Next (List ℕ) → Reaction V
  reads agent o Goes_on = silent (record agent { waiting = Some (For_clouds o) })
  reads agent o (Asks clouds) = asks_gets agent o clouds
  reads agent o (Has bytes) = opened agent o.session (session_on vs o.version o.writes (vs.contents o.version bytes)) sources.Clouds
  reads agent o (Gives_up good) = gives_up agent o good

  -- an answer that counts for an open
  abbrev pub takes : Agent V → Opening V → (c : ℕ) → Option KeptPiece → Reaction V
  takes agent o c piece =
      reads (tallied agent c (is_some piece)) (record o { reading = with_piece o.reading piece }) (read_on s o.reading piece)

  -- a cloud's answer, to an open from the clouds
  abbrev pub open_hears : Agent V → Opening V → (c : ℕ) → RequestNo → CloudAnswer → Reaction V
  open_hears agent o c request answer =
      if is_awaited o.reading c request then takes agent o c (piece_in s o.reading c answer) else reads agent o Goes_on

  -- a turn of it
  abbrev pub open_turns : Agent V → Opening V → Reaction V
  open_turns agent o = reads agent (record o { reading = record o.reading { turns = o.reading.turns + 1 } }) (read_turn o.reading)
