-- What the real clouds were asked: the exchanges that new events record.
use Rattle.std.specs.Prelude.{◌≡◌, ◌≤◌, ◌⊎◌, ℕ, List, [], ◌∷◌, ◌++◌, length, map, ◌==◌, if◌then◌else◌, Option, Some, None, slice_get}
use Rattle.scfs_base.specs.Outside.{Rose}
use Rattle.scfs_base.specs.declared.cloud.CloudAnswer.{CloudAnswer}
use Rattle.scfs_base.specs.declared.cloud.CloudAnswer.TheVariants as answers
use Rattle.scfs_base.specs.declared.cloud.CloudRequest.{CloudRequest}
use Rattle.scfs_schedule.specs.declared.types.Event.{Event}
use Rattle.scfs_schedule.specs.declared.types.Event.TheVariants as events
use Rattle.scfs_net.specs.Queues.{NetState, answer_of, cloud_at, objects_after}
use Rattle.scfs_net.specs.Store.{Objects}
use Rattle.scfs_net.specs.declared.messages.Asked.{Asked}
use Rattle.scfs_cloud.specs.Cutting.{HasShortNames, IsKept, cut_answer}
use Rattle.scfs_cloud.specs.declared.cloud.Exchange.{Exchange}
use Rattle.scfs_model.specs.Clouds.{net}
use Rattle.scfs_model.specs.Format.{Setup, clouds_of}
use Rattle.scfs_model.specs.History.{History}

-- what is known of a real cloud: its count of faults, and where it tells them its log and its store
pub record Told : Type 0 where
  pub faults : ℕ
  pub log : Option (List Exchange)
  pub store : Option Objects

-- a real cloud by what it tells
abbrev pub told : ℕ → Option (List Exchange) → Option Objects → Told
told faults log store = record { faults = faults; log = log; store = store }

-- the exchange of the oldest request that waits, where it is answered so
abbrev pub answered_oldest : List Asked → CloudAnswer → List Exchange
answered_oldest [] answer = []
answered_oldest (oldest ∷ waiting) answer = (record { request = oldest.body; answer = answer }) ∷ []

-- the exchange of cloud c that an event records
abbrev pub exchange_at : (c : ℕ) → NetState → Event → List Exchange
exchange_at c net (events.Say d answer) = if d == c then answered_oldest (cloud_at net c).requests answer else []
exchange_at c net other = []

-- the exchanges of cloud c that new events record, the oldest first
abbrev pub exchanges : Setup → (c : ℕ) → (new past : History) → List Exchange
exchanges s c [] past = []
exchanges s c (e ∷ new) past = exchanges s c new past ++ exchange_at c (net s (new ++ past)) e.event

-- new events record that cloud c failed
abbrev pub RecordsFail : (c : ℕ) → (new : History) → Type 0
RecordsFail c [] = ⊥
RecordsFail c (e ∷ new) = (e.event ≡ events.Say c answers.Fail) ⊎ RecordsFail c new

-- an exchange with its answer as it is recorded
abbrev pub as_recorded : Exchange → Exchange
as_recorded x = record x { answer = cut_answer x.request x.answer }

-- where the log is told, it got exchanges that are recorded so: with these answers, or with longer ones that are cut to them
abbrev pub Logged : (before now : Option (List Exchange)) → (recorded : List Exchange) → Type 0
Logged None now recorded = Unit {0}
Logged (Some log) now recorded = (asked : List Exchange) × (now ≡ Some (log ++ asked)) × (map as_recorded asked ≡ recorded)

-- what a cloud holds after exchanges, the oldest first
abbrev pub objects_after_all : Objects → List Exchange → Objects
objects_after_all objects [] = objects
objects_after_all objects (x ∷ later) = objects_after_all (objects_after objects x.request x.answer) later

-- An answer to a request is a failure; or it is one that the request can have, and where no stored name is longer than is kept, the one
-- that a cloud which holds these objects gives when it serves the request.
abbrev pub Suits : Objects → CloudRequest → CloudAnswer → Type 0
Suits objects request answers.Fail = Unit {0}
Suits objects request answer = IsKept request answer × (HasShortNames objects → answer ≡ answer_of objects request)

-- the answers of exchanges, each of which changes the objects for the next
abbrev pub AllSuit : Objects → List Exchange → Type 0
AllSuit objects [] = Unit {0}
AllSuit objects (x ∷ later) = Suits objects x.request x.answer × AllSuit (objects_after objects x.request x.answer) later

-- where the store was told, it is told now: the exchanges changed it to this, and their answers are those of what it held
abbrev pub Stored : (before now : Option Objects) → (recorded : List Exchange) → Type 0
Stored None now recorded = Unit {0}
Stored (Some objects) now recorded = (now ≡ Some (objects_after_all objects recorded)) × AllSuit objects recorded

-- a real cloud over new events: its count of faults never fell, and rose where they record a failure; its log got the exchanges
-- that they record, and they made its store what it is
pub record IsAsked (s : Setup) (new past : History) (c : ℕ) (before now : Told) : Type 0 where
  pub later : before.faults ≤ now.faults
  pub failed : RecordsFail c new → Rose before.faults now.faults
  pub logged : Logged before.log now.log (exchanges s c new past)
  pub stored : Stored before.store now.store (exchanges s c new past)

-- the real clouds over new events, each as it was and as it is; one of which no exchange is recorded stays, and so does one that is none
-- of the run's
pub record AreAsked (s : Setup) (new past : History) (before now : List Told) : Type 0 where
  pub same : length now ≡ length before
  pub each : (c : ℕ) (was is : Told) → slice_get before c ≡ Some was → slice_get now c ≡ Some is → IsAsked s new past c was is
  pub stays : (c : ℕ) → (exchanges s c new past ≡ []) ⊎ (clouds_of s ≤ c) → slice_get now c ≡ slice_get before c
