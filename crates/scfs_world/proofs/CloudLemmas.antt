-- What events at the clouds do on the machine.
use Rattle.std.proofs.Common.{◌≡◌, ℕ, ◌+◌, ◌≤◌, List, [], ◌∷◌, length, refl, ap, sym, subst, ◌∙◌, arith, le_refl, Ok, Option, Some, None, length-set}
use Rattle.scfs_base.specs.Limits.{carried_limit}
use Rattle.scfs_schedule.specs.declared.types.Event.{Event}
use Rattle.scfs_schedule.specs.declared.types.Event.TheVariants as events
use Rattle.scfs_schedule.specs.declared.types.Header.{Header}
use Rattle.scfs_schedule.specs.declared.types.Line.{Line}
use Rattle.scfs_net.specs.declared.messages.Asked as request
use Rattle.scfs_net.specs.declared.messages.Did.{Did}
use Rattle.scfs_net.specs.declared.messages.Given as reply
use Rattle.scfs_net.specs.declared.messages.Moved.{Moved}
use Rattle.scfs_net.specs.Queues.{NetState, cloud_at, moved}
use Rattle.scfs_model.specs.Clouds.{moved_by, did_message, reply_message, request_message}
use Rattle.scfs_model.specs.Format.{Setup}
use Rattle.scfs_model.specs.History.{Message, Of_request, Of_answer}
use Rattle.scfs_model.specs.Layers.{Row}
use Rattle.scfs_model.specs.Lists.{first_of}
use Rattle.scfs_model.specs.UnitFormat.{under}
use Rattle.scfs_model.specs.States.{State, leaving, answers_by, moves}
use Rattle.scfs_world.specs.Clouds.{Answers, cloud_of, did_of, Moves, moved_of}
use Rattle.scfs_world.specs.Showing.{moved_lines}
use Rattle.scfs_world.specs.State.{WorldState}
use Rattle.scfs_world.specs.Stepping.{effect_on, DoesAlone, IsWorld}
use Rattle.scfs_world.proofs.WorldLemmas.{alone_does}

-- a message that is answered, lost, moved or repeated leaves agents and tree

answers_leave : (s : Setup) (state : State Row) (c : ℕ) (message : Option Message)
    → answers_by s state c message ≡ leaving state (answers_by s state c message).lines
answers_leave s state c None = refl
answers_leave s state c (Some (Of_request request)) = refl
answers_leave s state c (Some (Of_answer request answer)) = refl

requests_leave : (state : State Row) (waiting : List request.Asked)
    → moves state (request_message (first_of waiting)) ≡ leaving state (moved_lines (moved waiting))
requests_leave state [] = refl
requests_leave state (x ∷ xs) = refl

replies_leave : (state : State Row) (waiting : List reply.Given)
    → moves state (reply_message (first_of waiting)) ≡ leaving state (moved_lines (moved waiting))
replies_leave state [] = refl
replies_leave state (x ∷ xs) = refl

module _ (old : WorldState) (state : State Row) where
  answered_is : (event : Event) (n : ℕ) → Answers n event
      → effect_on old state event [] ≡ answers_by (under old.header) state (cloud_of event) (did_message (did_of event old.net))
  answered_is (events.Serve c) n is = refl
  answered_is (events.Hide c) n is = refl
  answered_is (events.Fail c) n is = refl
  answered_is (events.Say c answer) n is = refl
  answered_is other n is = absurd is

  -- a cloud's answer, with the lines that code read off it
  pub answered_leaves : (event : Event) (n c : ℕ) (did : Option Did) (shown : List Line) → Answers n event → c ≡ cloud_of event
      → did ≡ did_of event old.net
      → shown ≡ (answers_by (under old.header) state c (did_message did)).lines → effect_on old state event [] ≡ leaving state shown
  answered_leaves event n c did shown is at same line =
      answered_is event n is ∙ ap (λ d. answers_by (under old.header) state (cloud_of event) (did_message d)) (sym same)
      ∙ ap (λ k. answers_by (under old.header) state k (did_message did)) (sym at)
      ∙ answers_leave (under old.header) state c (did_message did) ∙ ap (leaving state) (sym line)

  -- a message moved
  moved_is : (event : Event) (n : ℕ) → Moves n event → effect_on old state event [] ≡ leaving state (moved_lines (moved_of event old.net))
  moved_is (events.Lose c) n is = requests_leave state (cloud_at old.net c).requests
  moved_is (events.Drop c) n is = replies_leave state (cloud_at old.net c).replies
  moved_is (events.Defer c) n is = requests_leave state (cloud_at old.net c).requests
  moved_is (events.Swap c) n is = replies_leave state (cloud_at old.net c).replies
  moved_is (events.Again c) n is = requests_leave state (cloud_at old.net c).requests
  moved_is (events.Twice c) n is = replies_leave state (cloud_at old.net c).replies
  moved_is other n is = absurd is

-- the clouds stay as many
pub moved_length : (net : NetState) (event : Event) → length (moved_by event net).clouds ≡ length net.clouds
moved_length net (events.Serve c) = length-set net.clouds c _
moved_length net (events.Hide c) = length-set net.clouds c _
moved_length net (events.Fail c) = length-set net.clouds c _
moved_length net (events.Say c answer) = length-set net.clouds c _
moved_length net (events.Give c) = length-set net.clouds c _
moved_length net (events.Lose c) = length-set net.clouds c _
moved_length net (events.Drop c) = length-set net.clouds c _
moved_length net (events.Defer c) = length-set net.clouds c _
moved_length net (events.Swap c) = length-set net.clouds c _
moved_length net (events.Again c) = length-set net.clouds c _
moved_length net (events.Twice c) = length-set net.clouds c _
moved_length net other = refl

-- code has seen the world so, and leaves its clouds so
module _ (was old : WorldState) (same : was ≡ old) (world : IsWorld old) (event : Event) (after : NetState)
    (moves_to : after ≡ moved_by event was.net)
    (few : (moved_by event was.net).carried ≤ carried_limit) where
  alone : (shown : List Line) → ((state : State Row) → effect_on was state event [] ≡ leaving state shown)
      → DoesAlone old (record was { net = after }) event (Ok shown)
  alone shown leaves =
      let w : IsWorld was = subst IsWorld (sym same) world in
      subst (λ v. DoesAlone v (record was { net = after }) event (Ok shown)) same
      (alone_does was event was.clock after shown w (le_refl _) (omega (arith, w.clock)) moves_to
      (ap (λ (n : NetState). length n.clouds) moves_to ∙ moved_length was.net event)
      (subst (λ (n : NetState). n.carried ≤ carried_limit) (sym moves_to) few)
      (λ state shows. leaves state ∙ ap (λ t. leaving (record state { clock = t }) shown) (sym shows.clock)))

  pub answered_does : (n c : ℕ) (did : Option Did) (shown : List Line) → Answers n event → c ≡ cloud_of event → did ≡ did_of event was.net
      → ((header : Header) (state : State Row) → shown ≡ (answers_by (under header) state c (did_message did)).lines)
      → DoesAlone old (record was { net = after }) event (Ok shown)
  answered_does n c did shown is at given line =
      alone shown (λ state. answered_leaves was state event n c did shown is at given (line was.header state))

  pub moved_does : (n : ℕ) (m : Moved) (shown : List Line) → Moves n event → m ≡ moved_of event was.net → shown ≡ moved_lines m
      → DoesAlone old (record was { net = after }) event (Ok shown)
  moved_does n m shown is given line =
      alone shown (λ state. moved_is was state event n is ∙ ap (leaving state) (sym (line ∙ ap moved_lines given)))

-- the clock goes on
pub later_does : (was old : WorldState) (same : was ≡ old) (ticks : ℕ) → IsWorld old → ticks ≤ 1000000000 → (shown : List Line) → shown ≡ []
    → DoesAlone old (record was { clock = was.clock + ticks }) (events.Tick ticks) (Ok shown)
later_does was old same ticks world few shown none =
    let w : IsWorld was = subst IsWorld (sym same) world in
    subst (λ v. DoesAlone v (record was { clock = was.clock + ticks }) (events.Tick ticks) (Ok shown)) same
    (alone_does was (events.Tick ticks) (was.clock + ticks) was.net shown w (omega arith) (omega (arith, w.clock, few)) refl refl w.carried
    (λ state shows. ap (λ t. leaving (record state { clock = t + ticks }) []) (sym shows.clock)
    ∙ ap (leaving (record state { clock = was.clock + ticks })) (sym none)))
