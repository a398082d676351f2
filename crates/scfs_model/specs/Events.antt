use Rattle.std.specs.Prelude.{ℕ}
use Rattle.scfs_schedule.specs.declared.types.Call.{Call}
use Rattle.scfs_schedule.specs.declared.types.Event.{Event}
use Rattle.scfs_schedule.specs.declared.types.Event.TheVariants as events

-- what an event is at an agent, between it and the space, at a cloud
pub data At_agent : Type 0 where
  Call_comes : Call → At_agent
  Turn_comes : At_agent
  Crash_comes : At_agent
  Start_comes : At_agent

pub data At_space : Type 0 where
  -- its oldest step is served, or goes to the back; its oldest reply is told
  Step_served : At_space
  Step_postponed : At_space
  Reply_told : At_space

pub data At_cloud : Type 0 where
  -- it answers a request
  Request_answered : At_cloud
  -- an answer is given to the agent that asked
  Answer_given : At_cloud
  -- a message in a queue is lost, moved to the back or repeated
  Message_moved : At_cloud

-- an event, by where it is
pub data Place : Type 0 where
  Agent_has : (a : ℕ) → At_agent → Place
  Space_has : (a : ℕ) → At_space → Place
  Cloud_has : (c : ℕ) → At_cloud → Place
  -- so many ticks go by
  Clock_has : (ticks : ℕ) → Place

abbrev pub place_of : Event → Place
place_of (events.Call a call) = Agent_has a (Call_comes call)
place_of (events.Turn a) = Agent_has a Turn_comes
place_of (events.Space a) = Space_has a Step_served
place_of (events.Later a) = Space_has a Step_postponed
place_of (events.Told a) = Space_has a Reply_told
place_of (events.Serve c) = Cloud_has c Request_answered
place_of (events.Hide c) = Cloud_has c Request_answered
place_of (events.Fail c) = Cloud_has c Request_answered
place_of (events.Say c answer) = Cloud_has c Request_answered
place_of (events.Give c) = Cloud_has c Answer_given
place_of (events.Lose c) = Cloud_has c Message_moved
place_of (events.Drop c) = Cloud_has c Message_moved
place_of (events.Defer c) = Cloud_has c Message_moved
place_of (events.Swap c) = Cloud_has c Message_moved
place_of (events.Again c) = Cloud_has c Message_moved
place_of (events.Twice c) = Cloud_has c Message_moved
place_of (events.Crash a) = Agent_has a Crash_comes
place_of (events.Start a) = Agent_has a Start_comes
place_of (events.Tick ticks) = Clock_has ticks
