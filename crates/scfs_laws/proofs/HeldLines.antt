-- What the lines of one agent change of what is seen: of that agent alone.
use Rattle.std.proofs.Common.{◌≡◌, ℕ, ◌≢◌, List, [], ◌∷◌, ◌++◌, map, fold, refl, sym, ap, ◌∙◌, subst, eq-eqb, eqb-true, Bool, true, false, cond, Option}
use Rattle.std.specs.Prelude.{◌==◌}
use Rattle.std.proofs.lemmas.List.Sums.{fold-append}
use Rattle.scfs_base.specs.declared.naming.RequestNo.{RequestNo}
use Rattle.scfs_base.specs.declared.cloud.CloudRequest.{CloudRequest}
use Rattle.scfs_base.specs.declared.cloud.CloudRequest.TheVariants as requests
use Rattle.scfs_schedule.specs.declared.types.Call.TheVariants as calls
use Rattle.scfs_schedule.specs.declared.types.Event.{Event}
use Rattle.scfs_schedule.specs.declared.types.Event.TheVariants as events
use Rattle.scfs_schedule.specs.declared.types.Line.{Line}
use Rattle.scfs_session.specs.Contents.{bytes_from}
use Rattle.scfs_model.specs.Format.{Setup}
use Rattle.scfs_model.specs.History.{Message}
use Rattle.scfs_model.specs.Sayings.{Saying, Saw, Opened, Reads_out, Wrote, Truncated, Started, said_by}
use Rattle.scfs_model.specs.Agents.{Request, Sent, Reaction}
use Rattle.scfs_model.specs.Layers.{Row}
use Rattle.scfs_model.specs.States.{Reply, request_line}
use Rattle.scfs_laws.specs.Held.{Version_seen, Agent_seen, Seen, set_at, of_agent, with_bytes, with_reading, with_incarnation, reading_of, with_get, bytes_opened, edited, seen_line}
use Rattle.scfs_laws.proofs.Lists.{Each}
use Rattle.scfs_laws.proofs.HeldSeats.{Seated}

-- what is seen is this now of agent a, and of all others as it was
pub record Becomes (a : ℕ) (x later : Seen) (y : Agent_seen) : Type 0 where
  pub mine : later.agents a ≡ y
  pub others : (b : ℕ) → b ≢ a → later.agents b ≡ x.agents b
  pub versions : later.versions ≡ x.versions

pub differ : (a b : ℕ) → a ≢ b → (a == b) ≡ false
differ a b apart = by (a == b) refl
  where
    by : (t : Bool) → (a == b) ≡ t → t ≡ false
    by true same = absurd (apart (eqb-true a b same))
    by false same = refl

pub set_here : {X : Type 0} (at : ℕ → X) (n : ℕ) (x : X) → set_at at n x n ≡ x
set_here {X} at n x = ap (λ b. cond {A = X} b x (at n)) (eq-eqb n n refl)

pub set_there : {X : Type 0} (at : ℕ → X) (n m : ℕ) (x : X) → m ≢ n → set_at at n x m ≡ at m
set_there {X} at n m x apart = ap (λ b. cond {A = X} b x (at m)) (differ m n apart)

pub of_agent_becomes : (a : ℕ) (change : Agent_seen → Agent_seen) (x : Seen) → Becomes a x (of_agent a change x) (change (x.agents a))
of_agent_becomes a change x = record {
  mine = set_here x.agents a (change (x.agents a));
  others = λ b apart. set_there x.agents a b (change (x.agents a)) apart;
  versions = refl;
}

pub of_same_agent : (a b : ℕ) (change : Agent_seen → Agent_seen) (x : Seen) → b ≡ a → Becomes a x (of_agent b change x) (change (x.agents a))
of_same_agent a b change x same = subst (λ k. Becomes a x (of_agent k change x) (change (x.agents a))) (sym same) (of_agent_becomes a change x)

pub nothing_becomes : (a : ℕ) (x : Seen) → Becomes a x x (x.agents a)
nothing_becomes a x = record { mine = refl; others = λ b apart. refl; versions = refl }

-- what becomes of an agent in two steps, the second a function of what is seen after the first
pub then_becomes : (a : ℕ) (x next later : Seen) (y : Agent_seen) (f : List Version_seen → Agent_seen → Agent_seen) → Becomes a x next y
    → Becomes a next later (f next.versions (next.agents a)) → Becomes a x later (f x.versions y)
then_becomes a x next later y f first second = record {
  mine = second.mine ∙ ap (λ v. f v (next.agents a)) first.versions ∙ ap (λ y. f x.versions y) first.mine;
  others = λ b apart. second.others b apart ∙ first.others b apart;
  versions = second.versions ∙ first.versions;
}

-- what is seen of an agent after a request to a cloud
abbrev pub after_body : Agent_seen → RequestNo → (c : ℕ) → CloudRequest → Agent_seen
after_body y request c (requests.Put name body) = y
after_body y request c (requests.Get name limit) = with_reading (with_get request c) y
after_body y request c (requests.Delete name) = y
after_body y request c (requests.List prefix) = y

abbrev pub after_sent : Agent_seen → Sent → Agent_seen
after_sent y q = after_body y q.number q.cloud q.body

module _ (s : Setup) (event : Event) where
  -- what is seen of an agent after what it says
  abbrev pub after_saying : List Version_seen → Agent_seen → Saying → Agent_seen
  after_saying versions y (Saw request file number) = with_reading (λ r. reading_of s versions file number) y
  after_saying versions y (Opened h number source size) = with_bytes h (bytes_opened s y.reading source) y
  after_saying versions y (Wrote h size) = with_bytes h (edited event (y.bytes h)) y
  after_saying versions y (Truncated h size) = with_bytes h (edited event (y.bytes h)) y
  after_saying versions y (Started incarnation) = with_incarnation incarnation y
  after_saying versions y other = y

  abbrev pub after_doing : List Version_seen → List Saying → List Sent → Agent_seen → Agent_seen
  after_doing versions says sent y = fold after_sent (fold (after_saying versions) y says) sent

-- a sight is of the agent's own request, and what is shown are bytes of the session that the event reads
abbrev pub IsSaid : Event → (a : ℕ) → (bytes : ℕ → List ℕ) → Saying → Type 0
IsSaid event a bytes (Saw request file number) = request.agent ≡ a
IsSaid event a bytes (Reads_out h shown) =
    (offset : ℕ) × (count : ℕ) × (event ≡ events.Call a (calls.Read h offset count)) × (shown ≡ bytes_from (bytes h) offset count)
IsSaid event a bytes other = Unit {0}

abbrev pub IsOwn : (a : ℕ) → Sent → Type 0
IsOwn a q = q.number.agent ≡ a

module _ (s : Setup) (event : Event) (message : Option Message) (a : ℕ) where
  saying_becomes : (bytes : ℕ → List ℕ) (x : Seen) (z : Saying) → IsSaid event a bytes z
      → Becomes a x (seen_line s event message x (said_by a z)) (after_saying s event x.versions (x.agents a) z)
  saying_becomes bytes x (Saw request file number) own =
      of_same_agent a request.agent (with_reading (λ r. reading_of s x.versions file number)) x own
  saying_becomes bytes x (Opened h number source size) own = of_agent_becomes a (λ y. with_bytes h (bytes_opened s y.reading source) y) x
  saying_becomes bytes x (Wrote h size) own = of_agent_becomes a (λ y. with_bytes h (edited event (y.bytes h)) y) x
  saying_becomes bytes x (Truncated h size) own = of_agent_becomes a (λ y. with_bytes h (edited event (y.bytes h)) y) x
  saying_becomes bytes x (Started incarnation) own = of_agent_becomes a (with_incarnation incarnation) x
  saying_becomes bytes x _ own = nothing_becomes a x

  says_become : (bytes : ℕ → List ℕ) (says : List Saying) (x : Seen) → Each (IsSaid event a bytes) says
      → Becomes a x (fold (seen_line s event message) x (map (said_by a) says)) (fold (after_saying s event x.versions) (x.agents a) says)
  says_become bytes [] x own = nothing_becomes a x
  says_become bytes (z ∷ rest) x own =
      let next = seen_line s event message x (said_by a z) in
      then_becomes a x next (fold (seen_line s event message) next (map (said_by a) rest)) (after_saying s event x.versions (x.agents a) z)
      (λ versions y. fold (after_saying s event versions) y rest) (saying_becomes bytes x z own.0) (says_become bytes rest next own.1)

  body_becomes : (x : Seen) (request : RequestNo) (c : ℕ) (body : CloudRequest) → request.agent ≡ a
      → Becomes a x (seen_line s event message x (request_line s request c body)) (after_body (x.agents a) request c body)
  body_becomes x request c (requests.Put name body) own = nothing_becomes a x
  body_becomes x request c (requests.Get name limit) own = of_same_agent a request.agent (with_reading (with_get request c)) x own
  body_becomes x request c (requests.Delete name) own = nothing_becomes a x
  body_becomes x request c (requests.List prefix) own = nothing_becomes a x

  sent_becomes : (sent : List Sent) (x : Seen) → Each (IsOwn a) sent
      → Becomes a x (fold (seen_line s event message) x (map (λ (q : Sent). request_line s q.number q.cloud q.body) sent))
      (fold after_sent (x.agents a) sent)
  sent_becomes [] x own = nothing_becomes a x
  sent_becomes (q ∷ rest) x own =
      let next = seen_line s event message x (request_line s q.number q.cloud q.body) in
      then_becomes a x next (fold (seen_line s event message) next (map (λ (q : Sent). request_line s q.number q.cloud q.body) rest))
      (after_sent (x.agents a) q)
      (λ versions y. fold after_sent y rest) (body_becomes x q.number q.cloud q.body own.0) (sent_becomes rest next own.1)

  -- after all lines of an agent's reaction
  pub lines_become : (bytes : ℕ → List ℕ) (x : Seen) (before : List Line) (y : Agent_seen) (says : List Saying) (sent : List Sent)
      → Becomes a x (fold (seen_line s event message) x before) y → Each (IsSaid event a bytes) says → Each (IsOwn a) sent
      → Becomes a x (fold (seen_line s event message) x
      (before ++ map (said_by a) says ++ map (λ (q : Sent). request_line s q.number q.cloud q.body) sent))
      (after_doing s event x.versions says sent y)
  lines_become bytes x before y says sent first own ours =
      let step = seen_line s event message in
      let told = map (said_by a) says in
      let asked = map (λ (q : Sent). request_line s q.number q.cloud q.body) sent in
      let next = fold step x before in
      let later = fold step next told in
      subst (λ z. Becomes a x z (after_doing s event x.versions says sent y))
      (sym (fold-append step x (before ++ told) asked ∙ ap (λ z. fold step z asked) (fold-append step x before told)))
      (then_becomes a x next (fold step later asked) y (λ versions y. after_doing s event versions says sent y) first
      (then_becomes a next later (fold step later asked) (fold (after_saying s event next.versions) (next.agents a) says)
      (λ versions y. fold after_sent y sent) (says_become bytes says next own) (sent_becomes sent later ours)))

-- a reaction of agent a leaves what is then seen of it tied to its seat
pub record Does (s : Setup) (event : Event) (a : ℕ) (versions : List Version_seen) (y : Agent_seen) (asked : List (Request Row))
    (replied : List (Reply Row))
    (r : Reaction Row) : Type 0 where
  pub seated : Seated s versions a (after_doing s event versions r.says r.sent y)
      (record { agent = r.agent; asked = asked ++ r.steps; replied = replied })
  pub says : Each (IsSaid event a y.bytes) r.says
  pub sent : Each (IsOwn a) r.sent
