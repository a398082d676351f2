-- Seats, reactions of which one is silent, requests to clouds, and the bytes of sessions, where what is seen is tied to a seat.
use Rattle.std.proofs.Common.{◌≡◌, ℕ, ◌+◌, List, [], ◌∷◌, ◌++◌, map, fold, refl, sym, ap, ◌∙◌, subst, append-nil, append_assoc, Bool, true, false, cond, Option, Some, None, Result, Ok, Err, nat_lt}
use Rattle.scfs_base.specs.declared.cloud.CloudRequest.{CloudRequest}
use Rattle.scfs_policy.specs.declared.rank.RankFacts.{RankFacts}
use Rattle.scfs_schedule.specs.declared.types.Event.{Event}
use Rattle.scfs_schedule.specs.declared.types.Refusal.{Refusal}
use Rattle.scfs_model.specs.Format.{Setup}
use Rattle.scfs_model.specs.Given.{Given}
use Rattle.scfs_model.specs.Asked.{Asked, asked_of}
use Rattle.scfs_model.specs.Sayings.{Saying}
use Rattle.scfs_model.specs.Agents.{Waiting, For_step, For_clouds, For_close, Closed, Upload, Request, Agent, Sent, Reaction, Input, silent, followed}
use Rattle.scfs_model.specs.Layers.{Row, rows}
use Rattle.scfs_model.specs.Reactions.{begun, next_begun, responded, reacted}
use Rattle.scfs_model.specs.States.{Reply, Seat}
use Rattle.scfs_laws.specs.Held.{Close_seen, Version_seen, Agent_seen, with_reading, with_get, set_at}
use Rattle.scfs_laws.proofs.Lists.{Each}
use Rattle.scfs_laws.proofs.HeldSeats.{latest, IsEmpty, Waits, Closes, Uploads}
use Rattle.scfs_laws.proofs.HeldLines.{after_sent, IsOwn, after_doing, Does, set_here, set_there}
use Rattle.scfs_session.specs.declared.contents.TheConstants.{CONTENTS_LIMIT}
use Rattle.scfs_session.specs.declared.sessions.Session.{Session}
use Rattle.scfs_session.specs.Contents.{bytes_from}
use Rattle.scfs_session.specs.Open.{read_answer, change_refusal, unless, changed}
use Rattle.scfs_laws.proofs.HeldSessions.{IsChangedAt}
use Rattle.scfs_base.specs.declared.cloud.CloudRequest.TheVariants as requests
use Rattle.scfs_schedule.specs.declared.types.Refusal.TheVariants as refusals

-- an agent that waits for this, with these closed sessions
abbrev pub at : Agent Row → Option (Waiting Row) → List (Closed Row) → Agent Row
at agent waiting closed = record agent { waiting = waiting; closed = closed }

-- the seat of an agent
abbrev pub seat_of : Agent Row → List (Request Row) → List (Reply Row) → Seat Row
seat_of agent asked replied = record { agent = agent; asked = asked; replied = replied }

-- one after the other, where the second is silent
module _ {V : Type 0} where
  abbrev reaction_of : Agent V → List Saying → List (Request V) → List Sent → List RankFacts → Reaction V
  reaction_of agent says steps sent ranked = record { agent = agent; says = says; steps = steps; sent = sent; ranked = ranked }

pub followed_silent : {V : Type 0} (first : Reaction V) (next : Agent V → Reaction V) → next first.agent ≡ silent first.agent
    → followed first next ≡ first
followed_silent {V} first next still =
    ap (λ (second : Reaction V). reaction_of second.agent (first.says ++ second.says) (first.steps ++ second.steps) (first.sent ++ second.sent)
    (first.ranked ++ second.ranked)) still
    ∙ ap (λ l. reaction_of first.agent l (first.steps ++ []) (first.sent ++ []) (first.ranked ++ [])) (append-nil first.says)
    ∙ ap (λ l. reaction_of first.agent first.says l (first.sent ++ []) (first.ranked ++ [])) (append-nil first.steps)
    ∙ ap (λ l. reaction_of first.agent first.says first.steps l (first.ranked ++ [])) (append-nil first.sent)
    ∙ ap (λ l. reaction_of first.agent first.says first.steps first.sent l) (append-nil first.ranked)

-- no upload begins where one goes on or no session is closed
module _ (s : Setup) (a : ℕ) (agent : Agent Row) where
  pub empty_not_begun : (closed : List (Closed Row)) → IsEmpty closed → next_begun s rows a agent closed ≡ silent agent
  empty_not_begun [] empty = refl
  empty_not_begun (x ∷ rest) empty = absurd empty

  going_not_begun : (close : Close_seen) (rest : List (Closed Row)) (x : Closed Row) (upload : Option (Upload Row)) → Uploads s close upload
      → begun s rows a agent rest x upload ≡ silent agent
  going_not_begun close rest x None is = absurd is
  going_not_begun close rest x (Some u) is = refl

  closes_not_begun : (y : Agent_seen) (closed : List (Closed Row)) → Closes s (latest y) closed → next_begun s rows a agent closed ≡ silent agent
  closes_not_begun y [] is = absurd is
  closes_not_begun y (x ∷ []) is = going_not_begun (latest y) [] x x.upload is
  closes_not_begun y (x ∷ z ∷ rest) is = absurd is

  pub not_begun : (y : Agent_seen) (waiting : Option (Waiting Row)) (closed : List (Closed Row)) → Waits s y waiting closed
      → next_begun s rows a agent closed ≡ silent agent
  not_begun y None closed is = empty_not_begun closed is
  not_begun y (Some For_step) closed is = empty_not_begun closed is
  not_begun y (Some (For_clouds o)) closed is = empty_not_begun closed is.1
  not_begun y (Some For_close) closed is = closes_not_begun y closed is

-- what comes after a response changes nothing, but where a session was closed
pub reacted_does : (s : Setup) (event : Event) (a : ℕ) (versions : List Version_seen) (y : Agent_seen) (asked : List (Request Row))
    (replied : List (Reply Row))
    (agent : Agent Row) (given : Given) (input : Input Row) → Does s event a versions y asked replied (responded s rows a agent given input)
    → Does s event a versions y asked replied (reacted s rows a agent given input)
reacted_does s event a versions y asked replied agent given input does =
    let first = responded s rows a agent given input in
    subst (Does s event a versions y asked replied)
    (sym (followed_silent first (λ next. next_begun s rows a next next.closed)
    (not_begun s a first.agent (after_doing s event versions first.says first.sent y) first.agent.waiting first.agent.closed does.seated.waits)))
    does

-- requests to clouds that read nothing, and Gets, as what is seen of the agent after them

pub after_puts : (name : List ℕ) (body : ℕ → List ℕ) (asked : List Asked) (y : Agent_seen)
    → fold after_sent y (map (λ (x : Asked). record { number = x.request; cloud = x.cloud; body = requests.Put name (body x.cloud) }) asked) ≡ y
after_puts name body [] y = refl
after_puts name body (x ∷ rest) y = after_puts name body rest y

pub after_gets : (name : List ℕ) (limit : ℕ) (asked : List Asked) (y : Agent_seen)
    → fold after_sent y (map (λ (x : Asked). record { number = x.request; cloud = x.cloud; body = requests.Get name limit }) asked)
    ≡ with_reading (λ r. record r { gets = r.gets ++ asked }) y
after_gets name limit [] y = ap (λ gets. with_reading (λ r. record r { gets = gets }) y) (sym (append-nil y.reading.gets))
after_gets name limit (x ∷ rest) y =
    after_gets name limit rest (with_reading (with_get x.request x.cloud) y)
    ∙ ap (λ gets. with_reading (λ r. record r { gets = gets }) y) (append_assoc y.reading.gets (x ∷ []) rest)

-- requests that an agent asks of clouds are its own
pub asked_own : (a incarnation drawn : ℕ) (clouds : List ℕ) (body : ℕ → CloudRequest) → Each (IsOwn a)
    (map (λ (x : Asked). record { number = x.request; cloud = x.cloud; body = body x.cloud }) (asked_of a incarnation drawn clouds))
asked_own a incarnation drawn [] body = tt
asked_own a incarnation drawn (c ∷ rest) body = (refl, asked_own a incarnation (drawn + 1) rest body)

-- a change of one session's bytes
pub changes_at : (bytes : ℕ → List ℕ) (h : ℕ) (new contents : List ℕ) → new ≡ contents → IsChangedAt bytes (set_at bytes h new) h contents
changes_at bytes h new contents same = record { here = set_here bytes h new ∙ same; others = λ k apart. set_there bytes h k new apart }

-- a result

abbrev refused : {X : Type 0} → Refusal → Result X Refusal
refused why = Err why

abbrev accepted : {X : Type 0} → X → Result X Refusal
accepted x = Ok x

none_accepted : {X : Type 0} (why : Refusal) (x : X) → refused {X = X} why ≡ Ok x → ⊥
none_accepted why x e = cc

same_accepted : {X : Type 0} (x z : X) → accepted x ≡ Ok z → x ≡ z
same_accepted x z e = cc

-- a read shows bytes of the session
shown_within : (bytes : List ℕ) (contents : List ℕ) (offset count : ℕ) (shown : List ℕ) (b : Bool) → bytes ≡ contents
    → cond b (refused refusals.TooLong) (accepted (bytes_from contents offset count)) ≡ Ok shown → shown ≡ bytes_from bytes offset count
shown_within bytes contents offset count shown true held is = absurd (none_accepted refusals.TooLong shown is)
shown_within bytes contents offset count shown false held is =
    sym (same_accepted (bytes_from contents offset count) shown is) ∙ ap (λ l. bytes_from l offset count) (sym held)

pub shown_of : (bytes : ℕ → List ℕ) (h offset count : ℕ) (there : Option Session) (shown : List ℕ)
    → ((y : Session) → there ≡ Some y → bytes h ≡ y.contents)
    → read_answer there offset count ≡ Ok shown → shown ≡ bytes_from (bytes h) offset count
shown_of bytes h offset count None shown held is = absurd (none_accepted refusals.BadHandle shown is)
shown_of bytes h offset count (Some y) shown held is =
    shown_within (bytes h) y.contents offset count shown (nat_lt CONTENTS_LIMIT count) (held y refl) is

-- a change is of a session that is there
changed_within : (y next : Session) (change : List ℕ → List ℕ) (refusal : Option Refusal)
    → unless refusal (record y { contents = change y.contents }) ≡ Ok next → next.contents ≡ change y.contents
changed_within y next change None is = sym (ap (λ (z : Session). z.contents) (same_accepted (record y { contents = change y.contents }) next is))
changed_within y next change (Some why) is = absurd (none_accepted why next is)

pub changed_of : (bytes : ℕ → List ℕ) (h end : ℕ) (change : List ℕ → List ℕ) (there : Option Session) (next : Session)
    → ((y : Session) → there ≡ Some y → bytes h ≡ y.contents) → changed there end change ≡ Ok next → change (bytes h) ≡ next.contents
changed_of bytes h end change None next held is = absurd (none_accepted refusals.BadHandle next is)
changed_of bytes h end change (Some y) next held is =
    ap change (held y refl) ∙ sym (changed_within y next change (change_refusal y end) is)
