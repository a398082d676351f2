-- What is asked of the real clouds for what comes next.
use Rattle.std.specs.Prelude.{◌≡◌, ◌≢◌, ℕ, List, [], ◌∷◌, length, Some, Result, Ok, Err, slice_get}
use Rattle.scfs_base.specs.declared.cloud.CloudAnswer.{CloudAnswer}
use Rattle.scfs_base.specs.declared.cloud.CloudRequest.{CloudRequest}
use Rattle.scfs_base.specs.declared.outside.Memory.{Memory}
use Rattle.scfs_cloud.specs.Asking.{Asks}
use Rattle.scfs_net.specs.Queues.{NetState, cloud_at}
use Rattle.scfs_net.specs.declared.messages.Asked.{Asked}
use Rattle.scfs_model.specs.Clouds.{net}
use Rattle.scfs_model.specs.History.{History}
use Rattle.scfs_model.specs.UnitFormat.{under}
use Rattle.scfs_schedule.specs.declared.types.Event.{Event}
use Rattle.scfs_schedule.specs.declared.types.Header.{Header}
use Rattle.scfs_live.specs.Asked.{Told}
use Rattle.scfs_live.specs.Driven.{answer_in}
use Rattle.scfs_live.specs.Driving.{event_of}
use Rattle.scfs_live.specs.declared.driver.Next.{Next}
use Rattle.scfs_live.specs.declared.driver.Next.TheVariants.{Does, Hears}

-- a cloud was asked this, with that result
pub record AsksAs (request : CloudRequest) (result : Result CloudAnswer Memory) (before now : Told) : Type 0 where
  pub asks : Asks request before.log now.log before.store now.store before.faults now.faults result

-- a cloud was asked the oldest request that waits
abbrev pub AsksOldest : List Asked → Result CloudAnswer Memory → Told → Told → Type 0
AsksOldest [] result before now = ⊥
AsksOldest (oldest ∷ waiting) result before now = AsksAs oldest.body result before now

-- it is so of one of the clouds, as it was and as it is; the others stay
pub record AtOne (d : ℕ) (IsSo : Told → Told → Type 0) (before now : List Told) : Type 0 where
  pub same : length now ≡ length before
  pub there : (was is : Told) → slice_get before d ≡ Some was → slice_get now d ≡ Some is → IsSo was is
  pub others : (c : ℕ) → c ≢ d → slice_get now c ≡ slice_get before c

-- what was asked for what comes next, with that result: the cloud that is heard was asked its oldest request, and no other
abbrev pub Heard : Next → NetState → Result CloudAnswer Memory → (before now : List Told) → Type 0
Heard (Does event) net result before now = now ≡ before
Heard (Hears c) net result before now = AtOne c (AsksOldest (cloud_at net c).requests result) before now

-- the answer in an event that was made, or want of memory
abbrev pub answer_made : Result Event Memory → Result CloudAnswer Memory
answer_made (Ok event) = Ok (answer_in event)
answer_made (Err memory) = Err memory

-- an event is what comes next, with the answer that it says, and what was asked for it gave this answer
pub record IsHeard (next : Next) (header : Header) (past : History) (before now : List Told) (event : Event) : Type 0 where
  pub is : event ≡ event_of next (answer_in event)
  pub heard : Heard next (net (under header) past) (Ok (answer_in event)) before now
