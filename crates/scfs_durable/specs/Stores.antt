use Rattle.std.specs.Prelude.{◌≡◌, ◌⊎◌, ℕ, ◌<◌, ◌≤◌, List, [], ◌∷◌, ◌++◌, length, take, nat_eq, IsTrue, Option, Some, None, All, Contains}
use Rattle.std.specs.List.{starts_with}
use Rattle.scfs_base.specs.Limits.{names_limit}
use Rattle.scfs_base.specs.declared.cloud.CloudAnswer.{CloudAnswer}
use Rattle.scfs_base.specs.declared.cloud.CloudAnswer.TheVariants as answers
use Rattle.scfs_base.specs.declared.cloud.CloudRequest.{CloudRequest}
use Rattle.scfs_base.specs.declared.cloud.CloudRequest.TheVariants as requests
use Rattle.scfs_schedule.specs.declared.types.Event.{Event}
use Rattle.scfs_schedule.specs.declared.types.Event.TheVariants as events
use Rattle.scfs_net.specs.declared.messages.Asked.{Asked}
use Rattle.scfs_net.specs.Queues.{Answering, always, answer_of, cloud_at, hidden_answer, hiding}
use Rattle.scfs_net.specs.Store.{Objects, last_of, names_with, stored}
use Rattle.scfs_model.specs.Lists.{first_of}
use Rattle.scfs_model.specs.Format.{Setup, clouds_of}
use Rattle.scfs_model.specs.History.{History}
use Rattle.scfs_model.specs.Clouds.{net}

-- What a cloud holds, which clouds lie, and which are stale.

-- what cloud c holds after a history: the bodies that it acknowledged, under their names
abbrev pub objects : Setup → History → (c : ℕ) → Objects
objects s past c = (cloud_at (net s past) c).objects

-- cloud c holds this body under this name, or did before
abbrev pub WasStored : Setup → History → (c : ℕ) → (name body : List ℕ) → Type 0
WasStored s [] c name body = ⊥
WasStored s (e ∷ past) c name body = (stored (objects s (e ∷ past) c) name ≡ Some body) ⊎ WasStored s past c name body

-- a name with this prefix, under which cloud c holds or held something
abbrev pub WasNamed : Setup → History → (c : ℕ) → (prefix name : List ℕ) → Type 0
WasNamed s past c prefix name = IsTrue (starts_with nat_eq name prefix) × ((body : List ℕ) × WasStored s past c name body)

-- an answer out of what cloud c holds or held: to a Get the first bytes of a body, to a List names
abbrev pub IsOld : Setup → History → (c : ℕ) → CloudRequest → CloudAnswer → Type 0
IsOld s past c (requests.Get name limit) answer = (body : List ℕ) × WasStored s past c name body × (answer ≡ answers.Bytes (take limit body))
IsOld s past c (requests.List prefix) answer = (names : List (List ℕ)) × All (WasNamed s past c prefix) names × (answer ≡ answers.Names names)
IsOld s past c other answer = ⊥

-- an answer of cloud c that is no lie: what it holds says so, or held; or it tells nothing
abbrev pub IsHonest : Setup → History → (c : ℕ) → CloudRequest → CloudAnswer → Type 0
IsHonest s past c request answer =
    (answer ≡ answer_of (objects s past c) request) ⊎ IsOld s past c request answer ⊎ (answer ≡ answers.Absent) ⊎ (answer ≡ answers.Fail)

-- an answer to its oldest request, where one waits
abbrev pub IsHonestTo : Setup → History → (c : ℕ) → Option Asked → CloudAnswer → Type 0
IsHonestTo s past c None answer = Unit {0}
IsHonestTo s past c (Some oldest) answer = IsHonest s past c oldest.body answer

-- an event after a history has no lie of cloud c; only where a schedule says an answer can there be one
abbrev pub IsHonestAt : Setup → History → (c : ℕ) → Event → Type 0
IsHonestAt s past c (events.Say d answer) = d ≡ c → IsHonestTo s past c (first_of (cloud_at (net s past) c).requests) answer
IsHonestAt s past c other = Unit {0}

-- cloud c never lied in a history
abbrev pub IsTruthful : Setup → History → (c : ℕ) → Type 0
IsTruthful s [] c = Unit {0}
IsTruthful s (e ∷ past) c = IsHonestAt s past c e.event × IsTruthful s past c

-- at most so many clouds lied: all but these never did
pub record FewLie (most : ℕ) (s : Setup) (past : History) : Type 0 where
  pub liars : List ℕ
  pub few : length liars ≤ most
  pub others : (c : ℕ) → c < clouds_of s → ¬ Contains liars c → IsTruthful s past c

-- An answer of a cloud that holds these objects is up to date: a Get finds nothing only where nothing is stored under the name, and a List leaves
-- out none of the 16 greatest stored names with the prefix.
abbrev pub IsUpToDate : Objects → CloudRequest → CloudAnswer → Type 0
IsUpToDate objects (requests.Get name limit) answers.Absent = stored objects name ≡ None
IsUpToDate objects (requests.List prefix) (answers.Names names) = All (Contains names) (last_of names_limit (names_with objects prefix))
IsUpToDate objects request answer = Unit {0}

-- the answer to the oldest request, where one waits
abbrev pub IsUpToDateTo : Objects → Option Asked → Answering → Type 0
IsUpToDateTo objects None answering = Unit {0}
IsUpToDateTo objects (Some oldest) answering = IsUpToDate objects oldest.body (answering objects oldest.body)

-- in an event after a history cloud c isn't stale; only where a schedule hides what it holds, or says an answer, can it be
abbrev pub IsUpToDateAt : Setup → History → (c : ℕ) → Event → Type 0
IsUpToDateAt s past c (events.Hide d) = d ≡ c → IsUpToDateTo (objects s past c) (first_of (cloud_at (net s past) c).requests) hiding
IsUpToDateAt s past c (events.Say d answer) = d ≡ c → IsUpToDateTo (objects s past c) (first_of (cloud_at (net s past) c).requests) (always answer)
IsUpToDateAt s past c other = Unit {0}

-- cloud c never lied in new events behind a history
abbrev pub NeverLied : Setup → (c : ℕ) → (new past : History) → Type 0
NeverLied s c [] past = Unit {0}
NeverLied s c (e ∷ new) past = IsHonestAt s (new ++ past) c e.event × NeverLied s c new past

-- cloud c was never stale in new events behind a history
abbrev pub WasNeverStale : Setup → (c : ℕ) → (new past : History) → Type 0
WasNeverStale s c [] past = Unit {0}
WasNeverStale s c (e ∷ new) past = IsUpToDateAt s (new ++ past) c e.event × WasNeverStale s c new past

-- An answer that serves a request, or is a failure, is no lie and up to date.
abbrev pub ServingIsFaithful : Type 0
ServingIsFaithful =
    (s : Setup) (past : History) (c : ℕ) (request : CloudRequest) (answer : CloudAnswer)
    → (answer ≡ answer_of (objects s past c) request) ⊎ (answer ≡ answers.Fail)
    → IsHonest s past c request answer × IsUpToDate (objects s past c) request answer

-- One that hides what a cloud holds is up to date only where serving gives the same.
abbrev pub HidingIsStale : Type 0
HidingIsStale = (objects : Objects) (request : CloudRequest) → IsUpToDate objects request (hidden_answer request) → hidden_answer request ≡ answer_of objects request

-- A cloud that never lied in a history, nor in new events behind it, never lied in all of it.
abbrev pub StaysTruthful : Type 0
StaysTruthful = (s : Setup) (c : ℕ) (new past : History) → NeverLied s c new past → IsTruthful s past c → IsTruthful s (new ++ past) c
