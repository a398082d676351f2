-- Whatever an entry is, an open that has had fewer than eight turns reads on, or is answered.
use Rattle.std.proofs.Common.{◌≡◌, ◌≢◌, ◌⊎◌, inl, inr, ℕ, zero, suc, ◌+◌, ◌^◌, ◌<◌, ◌≤◌, List, [], ◌∷◌, ◌++◌, length, refl, sym, ap, ◌∙◌, subst, arith, Bool, true, false, cond, ◌&&◌, not, ◌||◌, true≢false, Option, Some, None, Contains, slice_get, slice_set, eqb-true, eq-eqb}
use Rattle.std.specs.Prelude.{◌==◌, option_to_list, if◌then◌else◌}
use Rattle.std.specs.List.{list_any}
use Rattle.scfs_base.specs.Limits.{turns_limit}
use Rattle.scfs_base.specs.declared.naming.RequestNo.{RequestNo}
use Rattle.scfs_base.specs.declared.cloud.CloudAnswer.{CloudAnswer}
use Rattle.scfs_base.specs.declared.cloud.CloudAnswer.TheVariants as answers
use Rattle.scfs_unit.specs.declared.pieces.KeptPiece.{KeptPiece}
use Rattle.scfs_schedule.specs.declared.types.Event.{Event}
use Rattle.scfs_schedule.specs.declared.types.Event.TheVariants as events
use Rattle.scfs_schedule.specs.declared.types.Header.{Header}
use Rattle.scfs_schedule.specs.declared.types.Line.{Line}
use Rattle.scfs_schedule.specs.declared.types.Line.TheVariants as lines
use Rattle.scfs_schedule.specs.declared.types.Src.TheVariants as sources
use Rattle.scfs_model.specs.Format.{Setup, clouds_of}
use Rattle.scfs_model.specs.UnitFormat.{under}
use Rattle.scfs_model.specs.History.{Message, Of_answer, Entry, History}
use Rattle.scfs_model.specs.Given.{Given}
use Rattle.scfs_model.specs.Asked.{is_answer_to}
use Rattle.scfs_model.specs.LockSteps.{Lock_step, Lock_outcome}
use Rattle.scfs_model.specs.Walks.{OrRefusal}
use Rattle.scfs_model.specs.SessionSteps.{Open_read, Open_write, Commit}
use Rattle.scfs_model.specs.Steps.{Outcome, Of_names, Of_locks, Of_sessions}
use Rattle.scfs_model.specs.Lives.{is_up}
use Rattle.scfs_model.specs.Reading.{is_good, is_awaited, piece_in}
use Rattle.scfs_model.specs.Sayings.{Saying}
use Rattle.scfs_model.specs.Sayings as says
use Rattle.scfs_model.specs.Agents.{Opening, Waiting, For_clouds, Closed, Agent, Input, Calls, Tells, Hears, Turns, Sent, Reaction}
use Rattle.scfs_model.specs.Reactions.{reacted}
use Rattle.scfs_model.specs.Events.{At_agent, Call_comes, Turn_comes, Crash_comes, Start_comes, Answer_given, Agent_has, Cloud_has, place_of}
use Rattle.scfs_model.specs.States.{Reply, Seat, State, Effect, sum_of, is_there, comes, at_place}
use Rattle.scfs_model.specs.Layers.{Row, Version, rows}
use Rattle.scfs_model.proofs.PieceClouds.{pieces_of_clouds}
use Rattle.scfs_laws.specs.Held.{Seen, Close_seen}
use Rattle.scfs_laws.proofs.Lists.{Each, each-map, each-append, each-always, each_of-contains, some_same, eqb-refl}
use Rattle.scfs_laws.proofs.Moves.{IsInput, any_reply, has_up}
use Rattle.scfs_laws.proofs.Ways.{IsStill, own_input, up_there, of_event}
use Rattle.scfs_laws.proofs.HeldSeats.{IsEmpty, latest, Waits, Fits, step_of, ReplyFits}
use Rattle.scfs_laws.proofs.HeldStands.{Stands, replies_there}
use Rattle.scfs_laws.proofs.HeldSpace.{IsSeenIn}
use Rattle.scfs_answered.specs.Answered.{IsGiven, turns_in, turns_since, WasOpened}
use Rattle.scfs_answered.proofs.UnitSizes.{IfSized, piece_sized, own_piece}
use Rattle.scfs_answered.proofs.Reader.{any_front, any_back, reader, as_reader, ReadsOn, Leaves}
use Rattle.scfs_answered.proofs.ReaderInputs.{called, told, pieces_after, hears, turned}
use Rattle.scfs_answered.proofs.AgentLines as agents
use Rattle.scfs_answered.proofs.AgentLines.{did_tells, still_tells, served_tells, reacted_speaks}
use Rattle.scfs_answered.proofs.Following.{own, IsReading, OfOpen, AnySaw, IsNext, next_reading, left_alone, none_given, alone, answered_line}

-- ---- seats by their numbers

pub none_some : {X A : Type 0} (x : X) → None ≡ Some x → A
none_some {X} x h = absurd (none h)
  where
    none : None ≡ Some x → ⊥
    none e = cc

-- where one seat has other messages, each agent is as it was
at_set : (xs : List (Seat Row)) (a b : ℕ) (seat old now : Seat Row) → slice_get xs a ≡ Some seat → slice_get xs b ≡ Some old → now.agent ≡ old.agent
    → (later : Seat Row) × (slice_get (slice_set xs b now) a ≡ Some later) × (later.agent ≡ seat.agent)
at_set [] a b seat old now found other same = none_some seat found
at_set (x ∷ xs) zero zero seat old now found other same =
    (now, refl, same ∙ ap (λ (z : Seat Row). z.agent) (sym (some_same x old other) ∙ some_same x seat found))
at_set (x ∷ xs) zero (suc b) seat old now found other same = (seat, found, refl)
at_set (x ∷ xs) (suc a) zero seat old now found other same = (seat, found, refl)
at_set (x ∷ xs) (suc a) (suc b) seat old now found other same = at_set xs a b seat old now found other same

pub set_here : (xs : List (Seat Row)) (a : ℕ) (seat now : Seat Row) → slice_get xs a ≡ Some seat → slice_get (slice_set xs a now) a ≡ Some now
set_here [] a seat now found = none_some seat found
set_here (x ∷ xs) zero seat now found = refl
set_here (x ∷ xs) (suc a) seat now found = set_here xs a seat now found

set_other : (xs : List (Seat Row)) (a b : ℕ) (seat now : Seat Row) → b ≢ a → slice_get xs a ≡ Some seat → slice_get (slice_set xs b now) a ≡ Some seat
set_other [] a b seat now apart found = none_some seat found
set_other (x ∷ xs) zero zero seat now apart found = absurd (apart refl)
set_other (x ∷ xs) zero (suc b) seat now apart found = found
set_other (x ∷ xs) (suc a) zero seat now apart found = found
set_other (x ∷ xs) (suc a) (suc b) seat now apart found = set_other xs a b seat now (λ same. apart (ap suc same)) found

-- ---- events by their places

turn_event : (event : Event) (a : ℕ) → place_of event ≡ Agent_has a Turn_comes → event ≡ events.Turn a
turn_event (events.Turn b) a h = cc
turn_event other a h = absurd (none h)
  where
    none : place_of other ≡ Agent_has a Turn_comes → ⊥
    none e = cc

crash_event : (event : Event) (a : ℕ) → place_of event ≡ Agent_has a Crash_comes → event ≡ events.Crash a
crash_event (events.Crash b) a h = cc
crash_event other a h = absurd (none h)
  where
    none : place_of other ≡ Agent_has a Crash_comes → ⊥
    none e = cc

-- what is given, by the event and the message
same_given : (event : Event) (m : Option Message) (c d : ℕ) (n request : RequestNo) (answer other : CloudAnswer) → event ≡ events.Give c
    → m ≡ Some (Of_answer n answer) → place_of event ≡ Cloud_has d Answer_given → m ≡ Some (Of_answer request other)
    → (c ≡ d) × (n ≡ request) × (answer ≡ other)
same_given event m c d n request answer other at is place about =
    let same = places (sym (ap place_of at) ∙ place) in
    let parts = messages (sym is ∙ about) in
    (same, parts.0, parts.1)
  where
    places : Cloud_has c Answer_given ≡ Cloud_has d Answer_given → c ≡ d
    places e = cc

    messages : Some (Of_answer n answer) ≡ Some (Of_answer request other) → (n ≡ request) × (answer ≡ other)
    messages e = (cc, cc)

-- an agent that reads the clouds is told only of steps on locks
pub locks_only : (s : Setup) (x : Opening Row) (y : Close_seen) (closed : List (Closed Row)) (o : Outcome Row) → Fits s y (Some (For_clouds x)) closed (step_of o)
    → (step : Lock_step) × (r : OrRefusal Lock_outcome) × (o ≡ Of_locks step r)
locks_only s x y closed (Of_names step r) fits = absurd fits
locks_only s x y closed (Of_locks step r) fits = (step, r, refl)
locks_only s x y closed (Of_sessions (Open_read names h) r) fits = absurd fits
locks_only s x y closed (Of_sessions (Open_write names h) r) fits = absurd fits
locks_only s x y closed (Of_sessions (Commit h v) r) fits = absurd fits.0

-- ---- one entry more

module _ (header : Header) (sight : Entry) (a : ℕ) (close : Version) (short : length close.bytes < 2 ^ 32) (e : Entry) (new : History) (state : State Row)
    (given : Given) (x : Seen) (are : IsSeenIn (under header) x state) (seat : Seat Row) (found : slice_get state.seats a ≡ Some seat)
    (k : IsReading header sight a close new seat.agent) where
  abbrev s : Setup
  s = under header

  abbrev g : Agent Row
  g = seat.agent

  abbrev o : Opening Row
  o = k.o

  abbrev any : List KeptPiece → ℕ → Bool
  any pieces c = list_any (λ (p : KeptPiece). p.cloud == c) pieces

  -- the open is answered in these entries, or read on after them
  abbrev pub IsSo : List (Seat Row) → Type 0
  IsSo later =
      WasOpened (e ∷ new) a close.number (length close.bytes)
      ⊎ ((now : Seat Row) × (slice_get later a ≡ Some now) × IsReading header sight a close (e ∷ new) now.agent)

  abbrev pub Goes : Effect Row → Type 0
  Goes y = e.lines ≡ y.lines → IsSo y.state.seats

  abbrev NoGet : RequestNo → (c : ℕ) → Type 0
  NoGet n c = ¬ (n.agent ≡ a)

  stands : Stands s x.versions a (x.agents a) seat
  stands = are.seats a seat found

  empty : IsEmpty g.closed
  empty = by g.waiting k.waits stands.seated.waits
    where
      by : (w : Option (Waiting Row)) → w ≡ Some (For_clouds o) → Waits s (x.agents a) w g.closed → IsEmpty g.closed
      by w is h = (subst (λ w. Waits s (x.agents a) w g.closed) is h).1

  awake : is_up g.life ≡ true
  awake = by (is_up g.life) refl
    where
      by : (b : Bool) → is_up g.life ≡ b → b ≡ true
      by true up = refl
      by false down = none_some (For_clouds o) (sym (stands.down down).0 ∙ k.waits)

  its_reader : reader g o ≡ g
  its_reader = as_reader g o k.waits empty

  -- an entry that tells the agent nothing
  quiet : (later : List (Seat Row)) (now : Seat Row) → slice_get later a ≡ Some now → now.agent ≡ g → Each (agents.Tells NoGet AnySaw ⊥) e.lines → IsSo later
  quiet later now there same told =
      inr (now, there, alone header sight a close e new g k now.agent (ap (λ (h : Agent Row). h.waiting) same) told)

  quiet_at : (b : ℕ) (old now : Seat Row) → slice_get state.seats b ≡ Some old → now.agent ≡ old.agent → Each (agents.Tells NoGet AnySaw ⊥) e.lines
      → IsSo (slice_set state.seats b now)
  quiet_at b old now there same told =
      let at = at_set state.seats a b seat old now found there same in quiet (slice_set state.seats b now) at.0 at.1 at.2 told

  -- what is said tells of any sight
  any_said : (Get : RequestNo → (c : ℕ) → Type 0) (Gave : Type 0) (xs : List Saying) → Each (agents.SaysSo Get AnySaw Gave) xs
  any_said Get Gave xs = each-always (agents.SaysSo Get AnySaw Gave) one xs
    where
      one : (z : Saying) → agents.SaysSo Get AnySaw Gave z
      one (says.Saw request file number) = tt
      one _ = tt

  -- something comes to another agent
  others : (b : ℕ) (old now : Seat Row) (before : List Line) (input : Input Row) (Gave : Type 0) → b ≢ a → slice_get state.seats b ≡ Some old
      → is_up now.agent.life ≡ has_up input → IsInput (agents.told s b (λ request sight. Unit {0})) input
      → ((Get : RequestNo → (c : ℕ) → Type 0) → Each (agents.Tells Get AnySaw Gave) before)
      → (Each (agents.Tells NoGet AnySaw Gave) e.lines → (c : ℕ) (n : RequestNo) → n.agent ≡ a → ¬ IsGiven s e n c (own header sight a close c))
      → Goes (comes s rows state b given before input now)
  others b old now before input Gave apart there up known first none same =
      let r = reacted s rows b now.agent given input in
      let speaks = reacted_speaks s b (λ request sight. Unit {0}) now.agent given input up known in
      let told : Each (agents.Tells NoGet AnySaw Gave) e.lines =
      subst (Each (agents.Tells NoGet AnySaw Gave)) (sym same)
      (did_tells NoGet AnySaw Gave s b before r (first NoGet)
      (each-map (λ (y : Sent). y.number.agent ≡ b) (λ (y : Sent). ¬ (y.number.agent ≡ a)) (λ y mine its. apart (sym mine ∙ its)) r.sent speaks.0)
      (any_said NoGet Gave r.says)) in
      inr (seat, set_other state.seats a b seat _ apart found, left_alone header sight a close e new g k Gave g refl (none told) told)

  -- something comes to the agent
  mine : (now : Seat Row) (before : List Line) (input : Input Row) (Gave : Type 0) (turns : ℕ) (pieces : List KeptPiece) → now.agent ≡ g
      → Leaves s o turns pieces (reacted s rows a (reader g o) given input) → turns ≤ turns_in a e.event + turns_since a new
      → Each (λ (p : KeptPiece). p.length ≡ length close.bytes) pieces → ((c : ℕ) → is_good o.reading c ≡ true → any pieces c ≡ true)
      → ((c : ℕ) (n : RequestNo) → c < clouds_of s → n.agent ≡ a → is_answer_to o.reading.gets c n ≡ true → IsGiven s e n c (own header sight a close c)
      → any pieces c ≡ true)
      → ((Get : RequestNo → (c : ℕ) → Type 0) → Each (agents.Tells Get AnySaw Gave) before)
      → Goes (comes s rows state a given before input now)
  mine now before input Gave turns pieces its leaves most sized still gives first same = by (subst (λ h. Leaves s o turns pieces (reacted s rows a h given input)) (its_reader ∙ sym its) leaves)
    where
      r : Reaction Row
      r = reacted s rows a now.agent given input

      by : Leaves s o turns pieces r → IsSo (comes s rows state a given before input now).state.seats
      by (inl answers) =
          let line = answered_line header sight a close before r o pieces k.number answers sized in
          inl (inl (line.0, subst (λ ls. Contains ls (lines.Opened a line.0 close.number sources.Clouds (length close.bytes))) (sym same) line.1))
      by (inr on) =
          let next = on.next in
          let is : IsNext header sight a close e new g k r.agent next =
          record {
            waits = on.waits;
            version = on.version;
            root = on.root;
            size = on.size;
            turns = subst (λ n. n ≤ turns_in a e.event + turns_since a new) (sym on.turned) most;
            few = subst (λ ps. length ps ≤ header.f) (sym on.has) on.few;
            sized = subst (Each (λ (p : KeptPiece). p.length ≡ length close.bytes)) (sym on.has) sized;
            still_asked = on.still;
            still_good = λ c yes. subst (λ ps. any ps c ≡ true) (sym on.has) (still c yes);
            gives = λ c n below its_own was given. subst (λ ps. any ps c ≡ true) (sym on.has) (gives c n below its_own was given);
          } in
          let told : Each (agents.Tells (OfOpen header sight a close next) AnySaw Gave) e.lines =
          subst (Each (agents.Tells (OfOpen header sight a close next) AnySaw Gave)) (sym same)
          (did_tells (OfOpen header sight a close next) AnySaw Gave s a before r (first (OfOpen header sight a close next))
          (each-map (λ (y : Sent). is_answer_to next.reading.gets y.cloud y.number ≡ true) _ (λ y yes its_own. yes) r.sent on.asked)
          (any_said (OfOpen header sight a close next) Gave r.says)) in
          inr (_, set_here state.seats a seat _ found, next_reading header sight a close e new g k Gave r.agent next is told)

  -- what an agent has of its own accord
  own_known : (b : ℕ) (y : At_agent) → IsInput (agents.told s b (λ request sight. Unit {0})) (own_input y)
  own_known b (Call_comes call) = tt
  own_known b Turn_comes = tt
  own_known b Crash_comes = tt
  own_known b Start_comes = tt

  -- an input with no answer gives nothing, and changes no pieces
  unanswered : (now : Seat Row) (input : Input Row) (turns : ℕ) → now.agent ≡ g → Leaves s o turns o.reading.pieces (reacted s rows a (reader g o) given input)
      → turns ≤ turns_in a e.event + turns_since a new → Goes (comes s rows state a given [] input now)
  unanswered now input turns its leaves most same =
      let any_get : RequestNo → (c : ℕ) → Type 0 = λ n c. Unit {0} in
      let r = reacted s rows a now.agent given input in
      let told : Each (agents.Tells any_get AnySaw ⊥) e.lines =
      subst (Each (agents.Tells any_get AnySaw ⊥)) (sym same)
      (did_tells any_get AnySaw ⊥ s a [] r tt (each-always (λ (y : Sent). Unit {0}) (λ y. tt) r.sent) (any_said any_get ⊥ r.says)) in
      mine now [] input ⊥ turns o.reading.pieces its leaves most k.sized (λ c yes. yes)
      (λ c n below its_own was given. absurd (each_of-contains (agents.Tells any_get AnySaw ⊥) e.lines _ told given.2)) (λ Get. tt) same

  same_turns : o.reading.turns ≤ turns_in a e.event + turns_since a new
  same_turns = let turns = k.turns in omega (arith, turns)

  module _ (early : turns_in a e.event + turns_since a new < turns_limit) (stays_up : e.event ≢ events.Crash a) where
    one_turn : place_of e.event ≡ Agent_has a Turn_comes → turns_in a e.event ≡ 1
    one_turn at = ap (turns_in a) (turn_event e.event a at) ∙ ap (λ b. cond b 1 0) (eqb-refl a)

    own_mine : (y : At_agent) → place_of e.event ≡ Agent_has a y → is_up g.life ≡ has_up {V = Row} (own_input y)
        → Goes (comes s rows state a given [] (own_input y) seat)
    own_mine (Call_comes call) at up = unanswered seat (Calls call) o.reading.turns refl (inr (called s a given o k.few g call)) same_turns
    own_mine Turn_comes at up =
        let one = one_turn at in
        let turns = k.turns in
        unanswered seat Turns (o.reading.turns + 1) refl (inr (turned s a given o k.few (omega (arith, one, turns, early)) g)) (omega (arith, one, turns))
    own_mine Crash_comes at up = absurd (stays_up (crash_event e.event a at))
    own_mine Start_comes at up = absurd (true≢false (sym awake ∙ up))

    own_way : (b : ℕ) (now : Seat Row) (y : At_agent) → slice_get state.seats b ≡ Some now → place_of e.event ≡ Agent_has b y
        → is_up now.agent.life ≡ has_up {V = Row} (own_input y) → Goes (comes s rows state b given [] (own_input y) now)
    own_way b now y there at up = by (b == a) refl
      where
        by : (t : Bool) → (b == a) ≡ t → Goes (comes s rows state b given [] (own_input y) now)
        by true is =
            let same = eqb-true b a is in
            let its : now ≡ seat = some_same now seat (sym there ∙ ap (slice_get state.seats) same ∙ found) in
            subst (λ c. Goes (comes s rows state c given [] (own_input y) now)) (sym same)
            (subst (λ z. Goes (comes s rows state a given [] (own_input y) z)) (sym its)
            (own_mine y (at ∙ ap (λ c. Agent_has c y) same) (ap (λ (z : Seat Row). is_up z.agent.life) (sym its) ∙ up)))
        by false other =
            others b now now [] (own_input y) ⊥ (λ same. true≢false (sym (eq-eqb b a same) ∙ other)) there up (own_known b y) (λ Get. tt)
            (λ told. none_given header sight a close e new g k told)

    told_way : (b : ℕ) (now : Seat Row) (oldest : Reply Row) (rest : List (Reply Row)) → slice_get state.seats b ≡ Some now → now.replied ≡ oldest ∷ rest
        → is_there now.agent oldest.number ≡ true → Goes (comes s rows state b given [] (Tells oldest.number oldest.outcome) (record now { replied = rest }))
    told_way b now oldest rest there is here = by (b == a) refl
      where
        after : Seat Row → Seat Row
        after z = record z { replied = rest }

        only_locks : now ≡ seat → (step : Lock_step) × (r : OrRefusal Lock_outcome) × (oldest.outcome ≡ Of_locks step r)
        only_locks its =
            let replies : Each (ReplyFits s a x.versions (latest (x.agents a)) g.waiting g.closed) (replies_there g seat.replied) = stands.seated.steps.replies in
            let all : seat.replied ≡ oldest ∷ rest = ap (λ (z : Seat Row). z.replied) (sym its) ∙ is in
            let there : is_there g oldest.number ≡ true = ap (λ (z : Seat Row). is_there z.agent oldest.number) (sym its) ∙ here in
            let first = head (subst (λ rs. Each (ReplyFits s a x.versions (latest (x.agents a)) g.waiting g.closed) (replies_there g rs)) all replies)
            there in
            locks_only s o (latest (x.agents a)) g.closed oldest.outcome
            (subst (λ w. Fits s (latest (x.agents a)) w g.closed (step_of oldest.outcome)) k.waits first.1)
          where
            head : Each (ReplyFits s a x.versions (latest (x.agents a)) g.waiting g.closed) (replies_there g (oldest ∷ rest)) → is_there g oldest.number ≡ true
                → ReplyFits s a x.versions (latest (x.agents a)) g.waiting g.closed oldest
            head each there =
                (subst (λ c. Each (ReplyFits s a x.versions (latest (x.agents a)) g.waiting g.closed) (cond c (oldest ∷ replies_there g rest) (replies_there g rest)))
                there each).0

        my_told : now ≡ seat → Goes (comes s rows state a given [] (Tells oldest.number oldest.outcome) (after seat))
        my_told its =
            let only = only_locks its in
            unanswered (after seat) (Tells oldest.number oldest.outcome) o.reading.turns refl
            (inr (subst (λ z. ReadsOn s o o.reading.turns o.reading.pieces (reacted s rows a (reader g o) given (Tells oldest.number z))) (sym only.2)
            (told s a given o k.few g oldest.number only.0 only.1))) same_turns

        by : (t : Bool) → (b == a) ≡ t → Goes (comes s rows state b given [] (Tells oldest.number oldest.outcome) (after now))
        by true same_b =
            let same = eqb-true b a same_b in
            let its : now ≡ seat = some_same now seat (sym there ∙ ap (slice_get state.seats) same ∙ found) in
            subst (λ c. Goes (comes s rows state c given [] (Tells oldest.number oldest.outcome) (after now))) (sym same)
            (subst (λ z. Goes (comes s rows state a given [] (Tells oldest.number oldest.outcome) (after z))) (sym its)
            (my_told its))
        by false other =
            others b now (after now) [] (Tells oldest.number oldest.outcome) ⊥ (λ same. true≢false (sym (eq-eqb b a same) ∙ other)) there
            (up_there now.agent oldest.number here) (any_reply (agents.told s b (λ request sight. Unit {0})) (λ request sight. tt) oldest.number oldest.outcome)
            (λ Get. tt) (λ told. none_given header sight a close e new g k told)

    -- an answer of a cloud: after it each cloud that gave its own object to the open has a piece
    heard_gives : (c : ℕ) (request : RequestNo) (answer : CloudAnswer) → place_of e.event ≡ Cloud_has c Answer_given → e.message ≡ Some (Of_answer request answer)
        → (d : ℕ) (n : RequestNo) → d < clouds_of s → n.agent ≡ a → is_answer_to o.reading.gets d n ≡ true → IsGiven s e n d (own header sight a close d)
        → any (pieces_after s a given o k.few c request answer) d ≡ true
    heard_gives c request answer place about d n below its was event =
        let same = same_given e.event e.message d c n request (answers.Bytes (own header sight a close d)) answer event.0 event.1 place about in
        let counts : is_answer_to o.reading.gets c request ≡ true =
        subst (λ m. is_answer_to o.reading.gets c m ≡ true) same.1 (subst (λ m. is_answer_to o.reading.gets m n ≡ true) same.0 was) in
        let piece = own_piece header close o.reading d below short k.root k.long in
        let has : piece_in s o.reading c answer ≡ Some piece.0 =
        subst (λ z. piece_in s o.reading c z ≡ Some piece.0) same.2
        (subst (λ m. piece_in s o.reading m (answers.Bytes (own header sight a close d)) ≡ Some piece.0) same.0 piece.1) in
        let of_cloud : piece.0.cloud ≡ d = pieces_of_clouds header o.reading d (answers.Bytes (own header sight a close d)) piece.0 piece.1 in
        by (is_good o.reading d) refl counts same.0 piece.0 has of_cloud
      where
        awaited : (b : Bool) → is_good o.reading c ≡ b → b ≡ false → is_answer_to o.reading.gets c request ≡ true → is_awaited o.reading c request ≡ true
        awaited b is none counts = ap (λ t. t && not (is_good o.reading c)) counts ∙ ap not (is ∙ none)

        kept : (b : Bool) (pieces : List KeptPiece) → any o.reading.pieces d ≡ true → any (if b then o.reading.pieces ++ pieces else o.reading.pieces) d ≡ true
        kept true pieces there = any_front _ o.reading.pieces pieces there
        kept false pieces there = there

        new_one : (piece : KeptPiece) → piece.cloud ≡ d → any (piece ∷ []) d ≡ true
        new_one piece same = ap (λ m. (m == d) || false) same ∙ ap (λ b. b || false) (eqb-refl d)

        by : (b : Bool) → is_good o.reading d ≡ b → is_answer_to o.reading.gets c request ≡ true → d ≡ c → (piece : KeptPiece)
            → piece_in s o.reading c answer ≡ Some piece → piece.cloud ≡ d → any (pieces_after s a given o k.few c request answer) d ≡ true
        by true there counts same piece has cloud = kept (is_awaited o.reading c request) (option_to_list (piece_in s o.reading c answer)) there
        by false none counts same piece has cloud =
            let waits = awaited false (ap (is_good o.reading) (sym same) ∙ none) refl counts in
            ap (λ b. any (if b then o.reading.pieces ++ option_to_list (piece_in s o.reading c answer) else o.reading.pieces) d) waits
            ∙ ap (λ p. any (o.reading.pieces ++ option_to_list p) d) has
            ∙ any_back _ o.reading.pieces (piece ∷ []) (new_one piece cloud)

    heard_sized : (c : ℕ) (request : RequestNo) (answer : CloudAnswer)
        → Each (λ (p : KeptPiece). p.length ≡ length close.bytes) (pieces_after s a given o k.few c request answer)
    heard_sized c request answer =
        by (is_awaited o.reading c request) (piece_in s o.reading c answer) (piece_sized s o.reading c answer)
      where
        by : (b : Bool) (p : Option KeptPiece) → IfSized o.reading.size p
            → Each (λ (q : KeptPiece). q.length ≡ length close.bytes) (if b then o.reading.pieces ++ option_to_list p else o.reading.pieces)
        by false p is = k.sized
        by true None is = each-append _ o.reading.pieces [] k.sized tt
        by true (Some p) is = each-append _ o.reading.pieces (p ∷ []) k.sized (is ∙ k.long, tt)

    heard_still : (c : ℕ) (request : RequestNo) (answer : CloudAnswer) (d : ℕ) → is_good o.reading d ≡ true
        → any (pieces_after s a given o k.few c request answer) d ≡ true
    heard_still c request answer d there = by (is_awaited o.reading c request)
      where
        by : (b : Bool) → any (if b then o.reading.pieces ++ option_to_list (piece_in s o.reading c answer) else o.reading.pieces) d ≡ true
        by true = any_front _ o.reading.pieces (option_to_list (piece_in s o.reading c answer)) there
        by false = there

    heard_way : (c : ℕ) (request : RequestNo) (answer : CloudAnswer) (now : Seat Row) → slice_get state.seats request.agent ≡ Some now
        → place_of e.event ≡ Cloud_has c Answer_given → e.message ≡ Some (Of_answer request answer) → is_there now.agent request ≡ true
        → Goes (comes s rows state request.agent given (lines.Gave c request (sum_of s answer) ∷ []) (Hears c request answer) now)
    heard_way c request answer now there place about here = by (request.agent == a) refl
      where
        first : List Line
        first = lines.Gave c request (sum_of s answer) ∷ []

        by : (t : Bool) → (request.agent == a) ≡ t → Goes (comes s rows state request.agent given first (Hears c request answer) now)
        by true is =
            let same = eqb-true request.agent a is in
            let its : now ≡ seat = some_same now seat (sym there ∙ ap (slice_get state.seats) same ∙ found) in
            subst (λ b. Goes (comes s rows state b given first (Hears c request answer) now)) (sym same)
            (subst (λ z. Goes (comes s rows state a given first (Hears c request answer) z)) (sym its)
            (mine seat first (Hears c request answer) (Unit {0}) o.reading.turns (pieces_after s a given o k.few c request answer) refl
            (hears s a given o k.few g c request answer) same_turns (heard_sized c request answer) (heard_still c request answer)
            (heard_gives c request answer place about) (λ Get. (tt, tt))))
        by false other =
            let apart : request.agent ≢ a = λ same. true≢false (sym (eq-eqb request.agent a same) ∙ other) in
            others request.agent now now first (Hears c request answer) (Unit {0}) apart there (up_there now.agent request here) tt (λ Get. (tt, tt))
            (λ told d n its event. apart (ap (λ (m : RequestNo). m.agent)
            (sym (same_given e.event e.message d c n request (answers.Bytes (own header sight a close d)) answer event.0 event.1 place about).1) ∙ its))

    -- whatever the entry is
    pub goes : Goes (at_place s rows state e.message given (place_of e.event))
    goes =
        of_event s rows state given e.message Goes (place_of e.event)
        (record {
          nothing = λ shown idle still same.
              quiet state.seats seat found refl
              (subst (Each (agents.Tells NoGet AnySaw ⊥)) (sym same) (each-map IsStill _ (still_tells NoGet AnySaw ⊥) shown still));
          later = λ ticks same. quiet state.seats seat found refl (subst (Each (agents.Tells NoGet AnySaw ⊥)) (sym same) tt);
          gone = λ b now request there same. quiet_at b now now there refl (subst (Each (agents.Tells NoGet AnySaw ⊥)) (sym same) (tt, tt));
          missed = λ b now oldest rest there is away same.
              quiet_at b now (record now { replied = rest }) there refl (subst (Each (agents.Tells NoGet AnySaw ⊥)) (sym same) (tt, tt));
          own = λ b now y there at up. own_way b now y there at up;
          hears = λ c request answer now there at about here. heard_way c request answer now there at about here;
          told = λ b now oldest rest there is here. told_way b now oldest rest there is here;
          serve = λ b now oldest rest there is at same.
              quiet_at b now _ there refl
              (subst (Each (agents.Tells NoGet AnySaw ⊥)) (sym same) (served_tells NoGet AnySaw ⊥ oldest.number _, tt));
          postpone = λ b now oldest rest there is same.
              quiet_at b now _ there refl (subst (Each (agents.Tells NoGet AnySaw ⊥)) (sym same) tt);
        })
