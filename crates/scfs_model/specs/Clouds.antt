use Rattle.std.specs.Prelude.{◌≡◌, ℕ, List, [], ◌∷◌, fold, Option, Some, None}
use Rattle.scfs_base.specs.declared.cloud.CloudAnswer.TheVariants as answers
use Rattle.scfs_schedule.specs.declared.types.Event.{Event}
use Rattle.scfs_schedule.specs.declared.types.Event.TheVariants as events
use Rattle.scfs_net.specs.declared.messages.Asked as request
use Rattle.scfs_net.specs.declared.messages.Given as reply
use Rattle.scfs_net.specs.declared.messages.Did.{Did}
use Rattle.scfs_net.specs.Queues.{NetState, new_net, cloud_at, at_cloud, net_asked, net_answered, net_did, net_repeated, net_doubled, serving, hiding, always, lost, taken, deferred, swapped}
use Rattle.scfs_model.specs.Lists.{first_of}
use Rattle.scfs_model.specs.Format.{Setup}
use Rattle.scfs_model.specs.History.{Message, Of_request, Of_answer, History}
use Rattle.scfs_model.specs.Agents.{Sent}
use Rattle.scfs_model.specs.Layers.{rows}
use Rattle.scfs_model.specs.Runs.{effect_after}

-- The clouds: their queues and what they hold, after a history.

-- the clouds after what an event itself does to one of them
abbrev pub moved_by : Event → NetState → NetState
moved_by (events.Serve c) net = net_answered serving net c
moved_by (events.Hide c) net = net_answered hiding net c
moved_by (events.Fail c) net = net_answered (always answers.Fail) net c
moved_by (events.Say c answer) net = net_answered (always answer) net c
moved_by (events.Give c) net = at_cloud net c taken
moved_by (events.Lose c) net = at_cloud net c lost
moved_by (events.Drop c) net = at_cloud net c taken
moved_by (events.Defer c) net = at_cloud net c deferred
moved_by (events.Swap c) net = at_cloud net c swapped
moved_by (events.Again c) net = net_repeated net c
moved_by (events.Twice c) net = net_doubled net c
moved_by (events.Call a call) net = net
moved_by (events.Space a) net = net
moved_by (events.Later a) net = net
moved_by (events.Told a) net = net
moved_by (events.Turn a) net = net
moved_by (events.Tick ticks) net = net
moved_by (events.Crash a) net = net
moved_by (events.Start a) net = net

-- the clouds after a request
abbrev pub asked_by : NetState → Sent → NetState
asked_by net x = net_asked net x.cloud x.number x.body

-- the clouds after these requests, in their order
abbrev pub all_asked : NetState → List Sent → NetState
all_asked net sent = fold asked_by net sent

-- the clouds after a history: their queues, what they hold, and the bytes that were carried in all
abbrev pub net : Setup → History → NetState
net s [] = new_net s.header.f
net s (e ∷ past) = all_asked (moved_by e.event (net s past)) (effect_after s rows past e).sent

abbrev pub did_message : Option Did → Option Message
did_message None = None
did_message (Some did) = Some (Of_answer did.request did.answer)

abbrev pub reply_message : Option reply.Given → Option Message
reply_message None = None
reply_message (Some given) = Some (Of_answer given.request given.answer)

abbrev pub request_message : Option request.Asked → Option Message
request_message None = None
request_message (Some asked) = Some (Of_request asked.request)

abbrev pub oldest_reply : NetState → (c : ℕ) → Option Message
oldest_reply net c = reply_message (first_of (cloud_at net c).replies)

abbrev pub oldest_request : NetState → (c : ℕ) → Option Message
oldest_request net c = request_message (first_of (cloud_at net c).requests)

-- the message of a cloud that an event is about
abbrev pub message_of : NetState → Event → Option Message
message_of net (events.Serve c) = did_message (net_did serving net c)
message_of net (events.Hide c) = did_message (net_did hiding net c)
message_of net (events.Fail c) = did_message (net_did (always answers.Fail) net c)
message_of net (events.Say c answer) = did_message (net_did (always answer) net c)
message_of net (events.Give c) = oldest_reply net c
message_of net (events.Lose c) = oldest_request net c
message_of net (events.Drop c) = oldest_reply net c
message_of net (events.Defer c) = oldest_request net c
message_of net (events.Swap c) = oldest_reply net c
message_of net (events.Again c) = oldest_request net c
message_of net (events.Twice c) = oldest_reply net c
message_of net (events.Call a call) = None
message_of net (events.Space a) = None
message_of net (events.Later a) = None
message_of net (events.Told a) = None
message_of net (events.Turn a) = None
message_of net (events.Tick ticks) = None
message_of net (events.Crash a) = None
message_of net (events.Start a) = None

-- each event's message is that of the cloud's queue
abbrev pub IsServed : Setup → History → Type 0
IsServed s [] = Unit {0}
IsServed s (e ∷ past) = (e.message ≡ message_of (net s past) e.event) × IsServed s past
