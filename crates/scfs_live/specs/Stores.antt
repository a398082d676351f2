-- What a real cloud holds, beside what its cloud of the history holds.
use Rattle.std.specs.Prelude.{◌≡◌, ◌≢◌, ◌⊎◌, ℕ, List, [], ◌∷◌, ◌++◌, Option, Some, Result}
use Rattle.scfs_base.specs.declared.cloud.CloudAnswer.{CloudAnswer}
use Rattle.scfs_base.specs.declared.cloud.CloudAnswer.TheVariants as answers
use Rattle.scfs_base.specs.declared.outside.Memory.{Memory}
use Rattle.scfs_schedule.specs.declared.types.Event.{Event}
use Rattle.scfs_schedule.specs.declared.types.Event.TheVariants as events
use Rattle.scfs_net.specs.Queues.{cloud_at, objects_with}
use Rattle.scfs_net.specs.Store.{Objects}
use Rattle.scfs_net.specs.declared.messages.Asked.{Asked}
use Rattle.scfs_cloud.specs.declared.cloud.Exchange.{Exchange}
use Rattle.scfs_model.specs.Clouds.{net}
use Rattle.scfs_model.specs.Format.{Setup}
use Rattle.scfs_model.specs.History.{History}
use Rattle.scfs_live.specs.Asked.{AllSuit, IsAsked, Told, exchange_at, exchanges}
use Rattle.scfs_live.specs.Hearing.{AsksOldest}

-- an event of a live run: a cloud's answer is said, or it moves no message of a cloud but a reply that is given
abbrev pub IsLiveEvent : Event → Type 0
IsLiveEvent (events.Call a call) = Unit {0}
IsLiveEvent (events.Space a) = Unit {0}
IsLiveEvent (events.Told a) = Unit {0}
IsLiveEvent (events.Say c answer) = Unit {0}
IsLiveEvent (events.Give c) = Unit {0}
IsLiveEvent (events.Turn a) = Unit {0}
IsLiveEvent (events.Tick ticks) = Unit {0}
IsLiveEvent (events.Crash a) = Unit {0}
IsLiveEvent (events.Start a) = Unit {0}
IsLiveEvent other = ⊥

-- new events are such
abbrev pub AreLive : (new : History) → Type 0
AreLive [] = Unit {0}
AreLive (e ∷ new) = IsLiveEvent e.event × AreLive new

-- a store that is told is in step with a history: it is what cloud c holds after it
abbrev pub InStep : Setup → (c : ℕ) → History → Option Objects → Type 0
InStep s c past store = store ≡ Some (cloud_at (net s past) c).objects

-- what a cloud holds, once it served the oldest request that waits
abbrev pub served_oldest : Objects → List Asked → Objects
served_oldest objects [] = objects
served_oldest objects (oldest ∷ waiting) = objects_with objects oldest.body

-- a store that is told is one ahead of a history: the oldest request that waits was served too
abbrev pub OneAhead : Setup → (c : ℕ) → History → Option Objects → Type 0
OneAhead s c past store = store ≡ Some (served_oldest (cloud_at (net s past) c).objects (cloud_at (net s past) c).requests)

-- cloud c neither lies nor is stale in new events: each answer that they record of it is a failure, or the one that it gives when it
-- serves its oldest request
abbrev pub Serves : Setup → (c : ℕ) → (new past : History) → Type 0
Serves s c [] past = Unit {0}
Serves s c (e ∷ new) past =
    Serves s c new past × AllSuit (cloud_at (net s (new ++ past)) c).objects (exchange_at c (net s (new ++ past)) e.event)

-- A store that was in step before new events is in step behind them, and its cloud neither lied nor was stale.
abbrev pub StoresKeepStep : Type 0
StoresKeepStep =
    (s : Setup) (c : ℕ) (new past : History) (was is : Told) → AreLive new → IsAsked s new past c was is → InStep s c past was.store
    → InStep s c (new ++ past) is.store × Serves s c new past

-- One that was one ahead comes into step with the first answer, where that is no failure, and its cloud neither lied nor was stale.
abbrev pub StoresComeIntoStep : Type 0
StoresComeIntoStep =
    (s : Setup) (c : ℕ) (new past : History) (was is : Told) (first : Exchange) (later : List Exchange) → AreLive new → IsAsked s new past c was is
    → OneAhead s c past was.store → exchanges s c new past ≡ first ∷ later → first.answer ≢ answers.Fail
    → InStep s c (new ++ past) is.store × Serves s c new past

-- One that was one ahead, and of whose cloud new events record nothing, is one ahead behind them, or in step.
abbrev pub StoresStayAhead : Type 0
StoresStayAhead =
    (s : Setup) (c : ℕ) (new past : History) (was is : Told) → AreLive new → IsAsked s new past c was is → OneAhead s c past was.store
    → exchanges s c new past ≡ [] → InStep s c (new ++ past) is.store ⊎ OneAhead s c (new ++ past) is.store

-- One that is in step or one ahead is so too once its cloud was asked the oldest request, whatever came of it.
abbrev pub StoresAskedOnceMore : Type 0
StoresAskedOnceMore =
    (s : Setup) (c : ℕ) (past : History) (result : Result CloudAnswer Memory) (was is : Told)
    → AsksOldest (cloud_at (net s past) c).requests result was is → InStep s c past was.store ⊎ OneAhead s c past was.store
    → InStep s c past is.store ⊎ OneAhead s c past is.store
