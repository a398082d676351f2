use Rattle.std.specs.Prelude.{ℕ, ◌+◌, ◌-◌, List, [], ◌∷◌, ◌++◌, codes, map, Option, Some, None, zero, suc}
use Rattle.scfs_base.specs.declared.naming.FileId.{FileId}
use Rattle.scfs_schedule.specs.declared.types.Refusal.{Refusal}
use Rattle.scfs_schedule.specs.declared.types.Refusal.TheVariants.{NoEntry, NotDir, IsDir, Locked, NoVersion, LockLost}
use Rattle.scfs_tuples.specs.declared.types.Tuple.{Tuple}
use Rattle.scfs_tuples.specs.declared.types.Want.TheVariants.{Any, Bind}
use Rattle.scfs_tuples.specs.declared.types.Pattern.{Pattern}
use Rattle.scfs_tuples.specs.declared.types.Cond.{Cond}
use Rattle.scfs_tuples.specs.declared.types.Cond.TheVariants as conds
use Rattle.scfs_tuples.specs.declared.types.Give.TheVariants.{Var, Now}
use Rattle.scfs_tuples.specs.declared.types.Template.{Template}
use Rattle.scfs_tuples.specs.declared.types.Step.{Step}
use Rattle.scfs_anchor.specs.Fields.{byte_at}
use Rattle.scfs_anchor.specs.Shapes.{number, text, node, version, lock, given, given_text, new_lock, directory}
use Rattle.scfs_anchor.specs.declared.seen.VersionRow.{VersionRow}

-- a condition, and why a step is refused where it fails, by the tuple that was found
pub record Condition : Type 0 where
  pub cond : Cond
  pub refusal : Option Tuple → Refusal

-- a tuple is needed, else the step is refused so
abbrev pub needs : Pattern → Refusal → Condition
needs pattern refusal = record { cond = conds.Need pattern; refusal = λ found. refusal }

-- a tuple is taken, else the step is refused so
abbrev pub takes : Pattern → Refusal → Condition
takes pattern refusal = record { cond = conds.Take pattern; refusal = λ found. refusal }

-- all tuples are taken; that never fails
abbrev pub takes_all : Pattern → Condition
takes_all pattern = record { cond = conds.TakeAll pattern; refusal = λ found. LockLost }

-- the agent of a lock that was found
abbrev pub holder : Option Tuple → ℕ
holder None = 0
holder (Some tuple) = byte_at tuple.fields 2

-- no lock may be there, else the step is refused with its agent
abbrev pub unlocked : Pattern → Condition
unlocked pattern = record { cond = conds.NoneOf pattern; refusal = λ found. Locked (holder found) }

-- a name on the way is there, and is a directory; so many names stand before it, and its variable stands for its id
abbrev pub on_the_way : ℕ → List ℕ → List Condition
on_the_way at name =
    needs (node (Bind at) (directory at) (text name) Any Any Any) NoEntry
    ∷ needs (node (Bind at) (directory at) (text name) (number 0) Any Any) NotDir ∷ []

-- the conditions of the names on the way to the last one, from the first of them on, and those of the last
abbrev pub reach : (ℕ → List ℕ → List Condition) → ℕ → List (List ℕ) → List Condition
reach last at [] = []
reach last at (name ∷ []) = last at name
reach last at (name ∷ next ∷ names) = on_the_way at name ++ reach last (suc at) (next ∷ names)

-- the last name is there, and is a file; its variable stands for its id, and the next one for its newest version
abbrev pub file : ℕ → List ℕ → List Condition
file at name =
    needs (node (Bind at) (directory at) (text name) Any (Bind (at + 1)) Any) NoEntry
    ∷ needs (node (Bind at) (directory at) (text name) (number 1) (Bind (at + 1)) Any) IsDir ∷ []

-- what a step tests, what its reply shows, and what it puts
pub record Plan : Type 0 where
  pub conditions : List Condition
  pub all : List Pattern
  pub puts : List Template

-- the step of a plan
abbrev pub step_of : Plan → Step
step_of plan = record { conds = map (λ (c : Condition). c.cond) plan.conditions; all = plan.all; puts = plan.puts }

-- how many names stand before the last one
abbrev pub before_last : List (List ℕ) → ℕ
before_last [] = 0
before_last (name ∷ []) = 0
before_last (name ∷ next ∷ names) = suc (before_last (next ∷ names))

-- the version that an open asks for is needed; version 0 is always there
abbrev pub wanted_version : ℕ → Option ℕ → List Condition
wanted_version at None = []
wanted_version at (Some zero) = []
wanted_version at (Some (suc v)) = needs (version (Bind at) (number (suc v))) NoVersion ∷ []

-- an open shows the version that it asks for, else the newest, and the lock
abbrev pub sight : ℕ → Option ℕ → List Pattern
sight at None = version (Bind at) (Bind (at + 1)) ∷ lock (Bind at) Any Any Any ∷ []
sight at (Some v) = version (Bind at) (number v) ∷ lock (Bind at) Any Any Any ∷ []

-- an open for reading, of a version or of the newest
abbrev pub open_read : List (List ℕ) → Option ℕ → Plan
open_read names asked =
    record {
      conditions = reach file 0 names ++ wanted_version (before_last names) asked;
      all = sight (before_last names) asked;
      puts = [];
    }

-- an open for writing by a session, whose lock lives so long
abbrev pub open_write : List (List ℕ) → (agent incarnation session lease : ℕ) → Plan
open_write names agent incarnation session lease =
    record {
      conditions = reach file 0 names ++ unlocked (lock (Bind (before_last names)) Any Any Any) ∷ [];
      all = sight (before_last names) None;
      puts = new_lock (Var (before_last names)) agent incarnation session lease ∷ [];
    }

-- a look at all versions of a file
abbrev pub versions : List (List ℕ) → Plan
versions names =
    record {
      conditions = reach file 0 names;
      all = version (Bind (before_last names)) Any ∷ [];
      puts = [];
    }

-- the lock of a session on a file
abbrev pub session_lock : FileId → (agent incarnation session : ℕ) → Pattern
session_lock id agent incarnation session = lock (number id.0) (number agent) (number incarnation) (number session)

-- the tuple of a version that is completed now
abbrev pub new_version : VersionRow → Template
new_version row =
    record {
      gives =
          given_text (codes "ver") ∷ given row.id.0 ∷ given row.number ∷ given_text row.root.0 ∷ given_text row.content.0
          ∷ given row.length ∷ given row.upload.agent ∷ given row.upload.incarnation ∷ given row.upload.count ∷ Now ∷ [];
      life = None;
    }

-- the file's node whose newest version is the one before; variables stand for the directory and the name
abbrev pub node_before : VersionRow → Pattern
node_before row = node (number row.id.0) (Bind 0) (Bind 1) (number 1) (number (row.number - 1)) Any

-- the file's node with this version as the newest, in the directory and with the name that it had
abbrev pub new_node : VersionRow → Template
new_node row =
    record {
      gives = given_text (codes "node") ∷ given row.id.0 ∷ Var 0 ∷ Var 1 ∷ given 1 ∷ given row.number ∷ given row.length ∷ [];
      life = None;
    }

-- a commit of a version by the session that uploaded it: under its lock, on the version before, and the lock goes
abbrev pub commit : VersionRow → (session : ℕ) → Plan
commit row session =
    record {
      conditions =
          takes (session_lock row.id row.upload.agent row.upload.incarnation session) LockLost
          ∷ takes (node_before row) LockLost ∷ [];
      all = [];
      puts = new_node row ∷ new_version row ∷ [];
    }

-- a session's lock lives so long from now on
abbrev pub renew : FileId → (agent incarnation session lease : ℕ) → Plan
renew id agent incarnation session lease =
    record {
      conditions = takes (session_lock id agent incarnation session) LockLost ∷ [];
      all = [];
      puts = new_lock (given id.0) agent incarnation session lease ∷ [];
    }

-- a session's lock goes
abbrev pub unlock : FileId → (agent incarnation session : ℕ) → Plan
unlock id agent incarnation session =
    record { conditions = takes_all (session_lock id agent incarnation session) ∷ []; all = []; puts = [] }

-- all locks of an agent go
abbrev pub unlock_all : (agent : ℕ) → Plan
unlock_all agent = record { conditions = takes_all (lock Any (number agent) Any Any) ∷ []; all = []; puts = [] }
