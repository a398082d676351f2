-- What holds of each small move of an agent, and of one move after another, holds of all that it does.
use Rattle.std.proofs.Common.{◌≡◌, ◌⊎◌, inl, inr, ℕ, zero, suc, ◌+◌, ◌<◌, List, [], ◌∷◌, ◌++◌, length, filter, not, nat_lt, Bool, true, false, cond, refl, sym, Option, Some, None, Result, Ok, Err, is_some, arith, eqb-true, le-leb}
use Rattle.std.specs.List.{range_with_len}
use Rattle.std.specs.Prelude.{◌&&◌, ◌==◌, if◌then◌else◌}
use Rattle.scfs_base.specs.Limits.{handles_limit, turns_limit}
use Rattle.scfs_base.specs.declared.naming.FileId.{FileId}
use Rattle.scfs_base.specs.declared.naming.RequestNo.{RequestNo}
use Rattle.scfs_base.specs.declared.cloud.CloudAnswer.{CloudAnswer}
use Rattle.scfs_policy.specs.declared.rank.RankFacts.{RankFacts}
use Rattle.scfs_lease.specs.declared.leases.Lease.{Lease}
use Rattle.scfs_lease.specs.Leases.{is_due, with_renewal, with_end}
use Rattle.scfs_schedule.specs.declared.types.Call.{Call}
use Rattle.scfs_schedule.specs.declared.types.Call.TheVariants as calls
use Rattle.scfs_schedule.specs.declared.types.Refusal.{Refusal}
use Rattle.scfs_schedule.specs.declared.types.Src.TheVariants as sources
use Rattle.scfs_unit.specs.declared.pieces.KeptPiece.{KeptPiece}
use Rattle.scfs_session.specs.declared.sessions.Session.{Session}
use Rattle.scfs_session.specs.Open.{session_of, ended, read_answer, after_write, after_truncate}
use Rattle.scfs_model.specs.Lists.{if_some, below, is_in}
use Rattle.scfs_model.specs.Names.{file_id}
use Rattle.scfs_model.specs.Format.{Setup, clouds_of, enough}
use Rattle.scfs_model.specs.Lives.{Life, Ready, is_up, is_ready}
use Rattle.scfs_model.specs.Versions.{Versions}
use Rattle.scfs_model.specs.Given.{Given}
use Rattle.scfs_model.specs.Walks.{OrRefusal}
use Rattle.scfs_model.specs.NameSteps.{Make, Look, Makes, Shows}
use Rattle.scfs_model.specs.LockSteps.{Lock_step, Unlock, Unlock_all, Renew, Lock_outcome, Frees, Renews}
use Rattle.scfs_model.specs.SessionSteps.{Session_step, Open_read, Open_write, Commit, Sight, Session_outcome, Sees, Locks, Completes}
use Rattle.scfs_model.specs.Steps.{Step, On_names, On_locks, On_sessions, Outcome, Of_names, Of_locks, Of_sessions}
use Rattle.scfs_model.specs.Next.{Next, Goes_on, Asks, Has, Gives_up}
use Rattle.scfs_model.specs.Reading.{Reading, is_awaited, piece_in, with_piece, read_on}
use Rattle.scfs_model.specs.Storing.{is_enough, is_new_ack, with_ack, store_on}
use Rattle.scfs_model.specs.Sayings.{Saying}
use Rattle.scfs_model.specs.Sayings as says
use Rattle.scfs_model.specs.Agents.{Opening, Waiting, For_step, For_clouds, For_close, Upload, Closed, Agent, Input, Calls, Tells, Hears, Turns, Crashes, Starts, Reaction, silent, saying, answered, followed, asks_step}
use Rattle.scfs_model.specs.Leases.{leased, unleased, file_of, renews, renews_all}
use Rattle.scfs_model.specs.Opens as Opens
use Rattle.scfs_model.specs.Opens.{Found, As_empty, On_clouds, found, tallied, session_on, opened, asks_gets, begins_open, sighted, saw, gives_up, reads, takes, open_hears, open_turns}
use Rattle.scfs_model.specs.Closes.{goes_on, with_storing, asks_puts, falls_short, stores, upload_hears, upload_turns, begins}
use Rattle.scfs_model.specs.Calls.{any_names, path_names, with_session, unless_refused, opens, close, called, call_of}
use Rattle.scfs_model.specs.Told.{is_pending, untold, told_locks, told_open, told_closed, told_commit, told}
use Rattle.scfs_model.specs.Reactions.{next_life, idle, to_open, to_closed, to_upload, to_work, hears, turns, crashes, responded, begun, next_begun, reacted}
use Rattle.scfs_laws.specs.Held.{after_answer}
use Rattle.scfs_laws.proofs.Lists.{Each, each-map, each-filter, length-put}

-- what is known of what comes to an agent: of a call, of a sight that it is told, of an answer of a cloud; where it has a turn, goes
-- down and comes up; and where what comes is taken by moves of their own
pub record Known (V : Type 0) : Type 1 where
  pub call : Call → Type 0
  pub sight : RequestNo → Sight V → Type 0
  pub answer : (c : ℕ) → RequestNo → CloudAnswer → Type 0
  pub turn : Type 0
  pub crash : Type 0
  pub start : Type 0
  pub takes : Type 0

module _ {V : Type 0} (known : Known V) where
  abbrev IsResult : RequestNo → OrRefusal (Session_outcome V) → Type 0
  IsResult request (Ok (Sees sight)) = known.sight request sight
  IsResult request (Ok (Locks sight l)) = known.sight request sight
  IsResult request (Ok (Completes h v n)) = Unit {0}
  IsResult request (Err why) = Unit {0}

  abbrev pub IsReply : RequestNo → Outcome V → Type 0
  IsReply request (Of_names x r) = Unit {0}
  IsReply request (Of_locks x r) = Unit {0}
  IsReply request (Of_sessions x r) = IsResult request r

  -- where each sight is so
  pub any_reply : ((request : RequestNo) (sight : Sight V) → known.sight request sight) → (request : RequestNo) (o : Outcome V) → IsReply request o
  any_reply each request (Of_names x r) = tt
  any_reply each request (Of_locks x r) = tt
  any_reply each request (Of_sessions x (Ok (Sees sight))) = each request sight
  any_reply each request (Of_sessions x (Ok (Locks sight l))) = each request sight
  any_reply each request (Of_sessions x (Ok (Completes h v n))) = tt
  any_reply each request (Of_sessions x (Err why)) = tt

  abbrev pub IsInput : Input V → Type 0
  IsInput (Calls call) = known.call call
  IsInput (Tells request o) = IsReply request o
  IsInput (Hears c request answer) = known.answer c request answer
  IsInput Turns = known.turn
  IsInput Crashes = known.crash
  IsInput Starts = known.start

pub reply_on : {V : Type 0} (known more : Known V) → ((request : RequestNo) (sight : Sight V) → known.sight request sight → more.sight request sight)
    → (request : RequestNo) (o : Outcome V) → IsReply known request o → IsReply more request o
reply_on known more on request (Of_names x r) k = tt
reply_on known more on request (Of_locks x r) k = tt
reply_on known more on request (Of_sessions x (Ok (Sees sight))) k = on request sight k
reply_on known more on request (Of_sessions x (Ok (Locks sight l))) k = on request sight k
reply_on known more on request (Of_sessions x (Ok (Completes h v n))) k = tt
reply_on known more on request (Of_sessions x (Err why)) k = tt

-- whether an agent is up that has this input
abbrev pub has_up : {V : Type 0} → Input V → Bool
has_up (Calls call) = true
has_up (Tells request o) = true
has_up (Hears c request answer) = true
has_up Turns = true
has_up Crashes = true
has_up Starts = false

-- a saying that is no sight, no start, and tells nothing of bytes
abbrev pub IsPlain : Saying → Type 0
IsPlain (says.Saw request file number) = ⊥
IsPlain (says.Opened session number source size) = ⊥
IsPlain (says.Reads_out session bytes) = ⊥
IsPlain (says.Wrote session size) = ⊥
IsPlain (says.Truncated session size) = ⊥
IsPlain (says.Started incarnation) = ⊥
IsPlain other = Unit {0}

-- a step of a call that makes no file
abbrev pub IsCommon : {V : Type 0} → Step V → Type 0
IsCommon (On_names (Make names id)) = ⊥
IsCommon (On_names (Look names)) = Unit {0}
IsCommon (On_locks x) = ⊥
IsCommon (On_sessions (Open_read names h)) = Unit {0}
IsCommon (On_sessions (Open_write names h)) = Unit {0}
IsCommon (On_sessions (Commit h v)) = ⊥

module _ {V : Type 0} where
  -- an agent that waits for this
  abbrev pub awaiting : Agent V → Option (Waiting V) → Agent V
  awaiting g w = record g { waiting = w }

  -- that reads this open
  abbrev pub opening : Agent V → Opening V → Agent V
  opening g o = awaiting g (Some (For_clouds o))

  -- with this closed session before the others
  abbrev pub closing : Agent V → Closed V → Agent V
  closing g x = record g { closed = x ∷ g.closed }

  abbrev pub turned_open : Opening V → Opening V
  turned_open o = record o { reading = record o.reading { turns = o.reading.turns + 1 } }

  abbrev pub turned_upload : Upload V → Upload V
  turned_upload u = with_storing u (record u.storing { turns = u.storing.turns + 1 })

  -- one after the other, where the first only says what is plain or the second does
  abbrev pub IsInOrder : (first second : Reaction V) → Type 0
  IsInOrder first second = (Each IsPlain first.says × (first.sent ≡ [])) ⊎ Each IsPlain second.says

  -- an upload that too few clouds acknowledged
  abbrev pub IsShort : Setup → Option (Upload V) → Type 0
  IsShort s None = ⊥
  IsShort s (Some u) = is_enough s u.storing ≡ false

  -- without what waited for a step that came to this
  abbrev pub freed_open : Agent V → OrRefusal (Session_outcome V) → Agent V
  freed_open g (Ok (Completes h v n)) = g
  freed_open g other = awaiting g None

  abbrev freed_closed : Agent V → Closed V → OrRefusal (Session_outcome V) → Agent V
  freed_closed g x (Ok (Sees sight)) = closing g x
  freed_closed g x (Ok (Locks sight l)) = closing g x
  freed_closed g x other = awaiting g None

  abbrev pub freed_commit : Agent V → List (Closed V) → OrRefusal (Session_outcome V) → Agent V
  freed_commit g [] r = g
  freed_commit g (x ∷ rest) r = freed_closed (record g { closed = rest }) x r

  abbrev pub freed : Agent V → Outcome V → Agent V
  freed g (Of_names x r) = awaiting g None
  freed g (Of_locks x r) = g
  freed g (Of_sessions (Open_read names h) r) = freed_open g r
  freed g (Of_sessions (Open_write names h) r) = freed_open g r
  freed g (Of_sessions (Commit h v) r) = freed_commit g g.closed r

  -- with an answer of a cloud added to the open that it is for
  abbrev pub with_answer : Setup → (c : ℕ) → RequestNo → CloudAnswer → Opening V → Opening V
  with_answer s c request answer o = record o { reading = after_answer s c request answer o.reading }

  abbrev pub heard : Setup → (c : ℕ) → RequestNo → CloudAnswer → Option (Waiting V) → Option (Waiting V)
  heard s c request answer (Some (For_clouds o)) = Some (For_clouds (with_answer s c request answer o))
  heard s c request answer other = other

module _ {V : Type 0} (s : Setup) (vs : Versions V) (a : ℕ) (known : Known V) (given : Given) (P : Agent V → Reaction V → Type 0) where
  -- the small moves
  pub record Moves : Type 0 where
    pub still : (g : Agent V) → P g (silent g)
    pub follow : (g : Agent V) (first second : Reaction V) → IsInOrder first second → P g first → P first.agent second
        → P g (followed first (λ next. second))
    pub aside : (g : Agent V) (life : Life) (leases : List Lease) (tallies : List RankFacts) (opens : ℕ) → is_up life ≡ is_up g.life
        → P g (silent (record g { life = life; leases = leases; tallies = tallies; opens = opens }))
    pub told : (g : Agent V) (request : RequestNo) → P g (silent (untold g request))
    pub frees : (g : Agent V) → known.takes → P g (silent (awaiting g None))
    pub says_plain : (g : Agent V) (x : Saying) → IsPlain x → P g (saying g x)
    -- steps
    pub asks : (g : Agent V) (x : Lock_step) → P g (asks_step a g (On_locks x))
    pub steps : (g : Agent V) (step : Step V) → IsCommon step → P (awaiting g None) (asks_step a (awaiting g (Some For_step)) step)
    pub makes : (g : Agent V) (path : List ℕ) (names : List (List ℕ)) → known.call (calls.Create path) →
        let count : ℕ = g.files + 1 in
        P (awaiting g None)
        (asks_step a (awaiting (record g { files = count }) (Some For_step)) (On_names (Make names (file_id a g.incarnation count))))
    -- sessions
    pub reads : (g : Agent V) (h offset count : ℕ) (bytes : List ℕ) → known.call (calls.Read h offset count)
        → read_answer (session_of g.sessions h) offset count ≡ Ok bytes → P g (saying g (says.Reads_out h bytes))
    pub writes : (g : Agent V) (h offset : ℕ) (new : List ℕ) (y : Session) → known.call (calls.Write h offset new)
        → after_write (session_of g.sessions h) offset new ≡ Ok y → P g (saying (with_session g h y) (says.Wrote h (length y.contents)))
    pub truncates : (g : Agent V) (h size : ℕ) (y : Session) → known.call (calls.Truncate h size)
        → after_truncate (session_of g.sessions h) size ≡ Ok y → P g (saying (with_session g h y) (says.Truncated h (length y.contents)))
    pub ends : (g : Agent V) (h : ℕ) → known.call (calls.Close h) → P g (silent (record g { sessions = ended g.sessions h }))
    pub closes : (g : Agent V) (h : ℕ) (y : Session) → known.call (calls.Close h) → session_of g.sessions h ≡ Some y
        → P (awaiting g None) (silent (record g {
          sessions = ended g.sessions h;
          closed = g.closed ++ (record { number = h; session = y; upload = None }) ∷ [];
          waiting = Some For_close;
        }))
    -- opens
    pub sees_empty : (g : Agent V) (request : RequestNo) (h : ℕ) (writes : Bool) (sight : Sight V) → known.sight request sight
        → found sight ≡ As_empty
        → P (awaiting g None)
        (followed (saying g (says.Saw request sight.file sight.number)) (λ next. sighted s vs a next given h writes sight As_empty))
    pub sees_version : (g : Agent V) (request : RequestNo) (h : ℕ) (writes : Bool) (sight : Sight V) (v : V) → known.sight request sight
        → found sight ≡ On_clouds v
        → P (awaiting g None)
        (followed (saying g (says.Saw request sight.file sight.number)) (λ next. sighted s vs a next given h writes sight (On_clouds v)))
    pub turns_open : (g : Agent V) (o : Opening V) → P (opening g o) (silent (opening g (turned_open o)))
    pub hears_open : (g : Agent V) (o : Opening V) (c : ℕ) (request : RequestNo) (answer : CloudAnswer) → known.takes
        → known.answer c request answer → is_awaited o.reading c request ≡ true
        → P (opening g o) (silent (opening g (record o { reading = with_piece o.reading (piece_in s o.reading c answer) })))
    pub gets : (g : Agent V) (o : Opening V) (clouds : List ℕ) → P (opening g o) (asks_gets s vs a g o clouds)
    pub loses : (g : Agent V) (o : Opening V) → P (opening g o) (silent (awaiting g None))
    pub shows : (g : Agent V) (o : Opening V) (bytes : List ℕ) → bytes ≡ s.format.unseal s.header.f o.reading.pieces
        → P (opening g o) (opened g o.session (session_on vs o.version o.writes (vs.contents o.version bytes)) sources.Clouds)
    -- uploads
    pub turns_upload : (g : Agent V) (x : Closed V) (u : Upload V) → P (goes_on g x u) (silent (goes_on g x (turned_upload u)))
    pub hears_upload : (g : Agent V) (x : Closed V) (u : Upload V) (c : ℕ) (request : RequestNo) (answer : CloudAnswer)
        → known.answer c request answer → is_new_ack u.storing c request answer ≡ true → (length u.storing.acked + 1 == enough s) ≡ false
        → P (goes_on g x u) (silent (goes_on g x (with_storing u (with_ack u.storing c))))
    pub commits : (g : Agent V) (x : Closed V) (u : Upload V) (c : ℕ) (request : RequestNo) (answer : CloudAnswer)
        → known.answer c request answer → is_new_ack u.storing c request answer ≡ true → (length u.storing.acked + 1 == enough s) ≡ true
        → P (goes_on g x u) (asks_step a (goes_on g x (with_storing u (with_ack u.storing c))) (On_sessions (Commit x.number u.version)))
    pub puts : (g : Agent V) (x : Closed V) (u : Upload V) (clouds : List ℕ) → known.turn → Each (λ c. c < clouds_of s) clouds
        → P (goes_on g x u) (asks_puts s a g x u clouds)
    pub drops : (g : Agent V) (x : Closed V) → known.takes ⊎ IsShort s x.upload → P (closing g x) (silent (awaiting g None))
    -- lives
    pub downs : (g : Agent V) → is_up g.life ≡ true → known.crash → P g (crashes s vs a g)
    pub ups : (g : Agent V) → is_up g.life ≡ false → known.start → P g (saying (next_life g) (says.Started (g.incarnation + 1)))

pub chosen : {A : Type 0} (Q : A → Type 0) (b : Bool) (x y : A) → (b ≡ true → Q x) → (b ≡ false → Q y) → Q (cond b x y)
chosen Q true x y h k = h refl
chosen Q false x y h k = k refl

-- the numbers below n
each-range : (from n : ℕ) → Each (λ c. c < from + n) (range_with_len from n)
each-range from zero = tt
each-range from (suc n) = (omega arith, each-map (λ c. c < from + 1 + n) _ (λ c h. omega (arith, h)) _ (each-range (from + 1) n))

pub each-below : (n : ℕ) → Each (λ c. c < n) (below n)
each-below n = each-map (λ c. c < 0 + n) (λ c. c < n) (λ c h. omega (arith, h)) (below n) (each-range 0 n)

-- as many acknowledgements as are enough
pub just_enough : {V : Type 0} (s : Setup) (u : Upload V) (c : ℕ) → (length u.storing.acked + 1 == enough s) ≡ true
    → is_enough s (with_ack u.storing c) ≡ true
just_enough s u c just =
    le-leb (enough s) _ (omega (arith, length-put c u.storing.acked, eqb-true (length u.storing.acked + 1) (enough s) just))

-- the upload that begins where none is in progress
module _ {V : Type 0} (s : Setup) (vs : Versions V) (a : ℕ) (P : Agent V → Reaction V → Type 0) (still : (g : Agent V) → P g (silent g))
    (begins_by : (g : Agent V) (x : Closed V) → P (closing g (record x { upload = None })) (begins s vs a g x)) where
  begun_by : (g : Agent V) (rest : List (Closed V)) (x : Closed V) (u : Option (Upload V)) →
      let y : Closed V = record x { upload = u } in
      let h : Agent V = record g { closed = y ∷ rest } in P h (begun s vs a h rest y u)
  begun_by g rest x None = begins_by (record g { closed = rest }) (record x { upload = None })
  begun_by g rest x (Some u) = still _

  next_by : (g : Agent V) (xs : List (Closed V)) → P (record g { closed = xs }) (next_begun s vs a (record g { closed = xs }) xs)
  next_by g [] = still _
  next_by g (x ∷ rest) = begun_by g rest x x.upload

  pub next_begins : (g : Agent V) → P g (next_begun s vs a g g.closed)
  next_begins g = next_by g g.closed

module _ {V : Type 0} (s : Setup) (vs : Versions V) (a : ℕ) (known : Known V) (given : Given) (P : Agent V → Reaction V → Type 0)
    (m : Moves s vs a known given P) where
  -- what is known where this becomes of an open, with the bytes that its pieces are
  abbrev IsRead : List ℕ → Next (List ℕ) → Type 0
  IsRead all (Has bytes) = bytes ≡ all
  IsRead all other = Unit {0}

  -- and of an upload
  abbrev IsNext : Upload V → Next (Unit {0}) → Type 0
  IsNext u Goes_on = Unit {0}
  IsNext u (Asks clouds) = known.turn × Each (λ c. c < clouds_of s) clouds
  IsNext u (Has enough) = ⊥
  IsNext u (Gives_up acks) = is_enough s u.storing ≡ false

  -- what few laws look at, and nothing else
  leases_aside : (g : Agent V) (leases : List Lease) → P g (silent (record g { leases = leases }))
  leases_aside g leases = m.aside g g.life leases g.tallies g.opens refl

  -- after a change
  after : (g h : Agent V) (r : Reaction V) → P g (silent h) → P h r → P g r
  after g h r first second = m.follow g (silent h) r (inl (tt, refl)) first second

  answers : (g : Agent V) (h : ℕ) (x : Saying) → IsPlain x → P (awaiting g None) (answered (unleased g h) x)
  answers g h x plain =
      let next : Agent V = awaiting (unleased g h) None in
      after (awaiting g None) next _ (leases_aside (awaiting g None) next.leases) (m.says_plain next x plain)

  -- calls
  unless : {X : Type 0} (g : Agent V) (x : Result X Refusal) (on : X → Reaction V) → ((y : X) → x ≡ Ok y → P g (on y)) → P g (unless_refused g x on)
  unless g (Ok x) on each = each x refl
  unless g (Err why) on each = m.says_plain g (says.Refuses why) tt

  asks_open : (g : Agent V) (step : (session : ℕ) → Session_step V) → ((h : ℕ) → IsCommon (On_sessions (step h)))
      → P (awaiting g None) (opens a (awaiting g None) step)
  asks_open g step other =
      let h : ℕ = g.opens + 1 in
      let next : Agent V = record g { opens = h } in
      chosen (P (awaiting g None)) (nat_lt (length g.sessions + length g.closed) handles_limit) _ _
      (λ room. after (awaiting g None) (awaiting next None) _ (m.aside (awaiting g None) g.life g.leases g.tallies h refl)
      (m.steps next (On_sessions (step h)) (other h)))
      (λ full. m.says_plain (awaiting g None) _ tt)

  closed : (g : Agent V) (h : ℕ) → known.call (calls.Close h) → (there : Option Session) → session_of g.sessions h ≡ there
      → P (awaiting g None) (close (awaiting g None) h there)
  closed g h k None found = m.says_plain (awaiting g None) _ tt
  closed g h k (Some y) found =
      let left : Agent V = awaiting (record g { sessions = ended g.sessions h }) None in
      chosen (P (awaiting g None)) y.writes _ _ (λ writes. m.closes g h y k found)
      (λ reads. after (awaiting g None) left _ (m.ends (awaiting g None) h k) (m.says_plain left (says.Ended h) tt))

  called_by : (g : Agent V) (call : Call) → known.call call → P (awaiting g None) (called a s (awaiting g None) call)
  called_by g (calls.Create path) k = unless (awaiting g None) (path_names s path) _ (λ names ok. m.makes g path names k)
  called_by g (calls.Stat path) k = unless (awaiting g None) (any_names s path) _ (λ names ok. m.steps g (On_names (Look names)) tt)
  called_by g (calls.OpenR path) k = unless (awaiting g None) (path_names s path) _ (λ names ok. asks_open g (Open_read names) (λ h. tt))
  called_by g (calls.OpenW path) k = unless (awaiting g None) (path_names s path) _ (λ names ok. asks_open g (Open_write names) (λ h. tt))
  called_by g (calls.Read h offset count) k =
      unless (awaiting g None) (read_answer (session_of g.sessions h) offset count) _ (λ bytes ok. m.reads (awaiting g None) h offset count bytes k ok)
  called_by g (calls.Write h offset new) k =
      unless (awaiting g None) (after_write (session_of g.sessions h) offset new) _ (λ y ok. m.writes (awaiting g None) h offset new y k ok)
  called_by g (calls.Truncate h size) k =
      unless (awaiting g None) (after_truncate (session_of g.sessions h) size) _ (λ y ok. m.truncates (awaiting g None) h size y k ok)
  called_by g (calls.Close h) k = closed g h k (session_of g.sessions h) refl
  called_by g other k = m.still (awaiting g None)

  call_by : (g : Agent V) (call : Call) (w : Option (Waiting V)) → known.call call → P (awaiting g w) (call_of a s (awaiting g w) call w)
  call_by g call None k =
      chosen (P (awaiting g None)) (is_ready g.life) _ _ (λ ready. called_by g call k) (λ starting. m.says_plain (awaiting g None) _ tt)
  call_by g call (Some w) k = m.says_plain (awaiting g (Some w)) _ tt

  -- opens
  sees : (g : Agent V) (request : RequestNo) (h : ℕ) (writes : Bool) (sight : Sight V) (f : Found V) → known.sight request sight → found sight ≡ f
      → P (awaiting g None) (followed (saying g (says.Saw request sight.file sight.number)) (λ next. sighted s vs a next given h writes sight f))
  sees g request h writes sight As_empty k is = m.sees_empty g request h writes sight k is
  sees g request h writes sight (On_clouds v) k is = m.sees_version g request h writes sight v k is

  backs : (g : Agent V) (o : Opening V) (writes : Bool)
      → P g (if writes then asks_step a g (On_locks (Unlock (vs.file o.version) o.session)) else silent g)
  backs g o true = m.asks g (Unlock (vs.file o.version) o.session)
  backs g o false = m.still g

  read_by : (g : Agent V) (o : Opening V) (next : Next (List ℕ)) → IsRead (s.format.unseal s.header.f o.reading.pieces) next
      → P (opening g o) (Opens.reads s vs a g o next)
  read_by g o Goes_on is = m.still (opening g o)
  read_by g o (Asks clouds) is = m.gets g o clouds
  read_by g o (Has bytes) is = m.shows g o bytes is
  read_by g o (Gives_up good) is =
      let first : Reaction V = answered (unleased g o.session) (says.Refuses _) in
      after (opening g o) (awaiting g None) _ (m.loses g o)
      (m.follow (awaiting g None) first _ (inl ((tt, tt), refl)) (answers g o.session _ tt) (backs first.agent o o.writes))

  piece_by : (r : Reading) (piece : Option KeptPiece) → IsRead (s.format.unseal s.header.f (with_piece r piece).pieces) (read_on s r piece)
  piece_by r None = tt
  piece_by r (Some piece) = chosen (IsRead (s.format.unseal s.header.f (r.pieces ++ piece ∷ []))) (length r.pieces == s.header.f) _ _ (λ all. refl) (λ few. tt)

  -- with the answer, and before it
  open_hears_by : (g : Agent V) (o : Opening V) (c : ℕ) (request : RequestNo) (answer : CloudAnswer) (b : Bool) → is_awaited o.reading c request ≡ b →
      let read : Reading = with_piece o.reading (piece_in s o.reading c answer) in
      P (opening g (record o { reading = if b then read else o.reading }))
      (if b then takes s vs a (idle (opening g o)) o c (piece_in s o.reading c answer) else Opens.reads s vs a (idle (opening g o)) o Goes_on)
  open_hears_by g o c request answer true awaited =
      let piece : Option KeptPiece = piece_in s o.reading c answer in
      let read : Opening V = record o { reading = with_piece o.reading piece } in
      let h : Agent V = tallied g c (is_some piece) in
      after (opening g read) (opening h read) _ (m.aside (opening g read) g.life g.leases h.tallies g.opens refl)
      (read_by h read (read_on s o.reading piece) (piece_by o.reading piece))
  open_hears_by g o c request answer false other = m.still (opening g o)

  answer_by : (g : Agent V) (o : Opening V) (c : ℕ) (request : RequestNo) (answer : CloudAnswer) → known.takes → known.answer c request answer
      → (b : Bool) → is_awaited o.reading c request ≡ b →
      let read : Reading = with_piece o.reading (piece_in s o.reading c answer) in
      P (opening g o) (silent (opening g (record o { reading = if b then read else o.reading })))
  answer_by g o c request answer takes k true awaited = m.hears_open g o c request answer takes k awaited
  answer_by g o c request answer takes k false other = m.still (opening g o)

  turn_by : (g : Agent V) (o : Opening V) (b : Bool) (good : ℕ) (clouds : List ℕ)
      → P (opening g o) (Opens.reads s vs a g o (if b then Gives_up good else Asks clouds))
  turn_by g o true good clouds = read_by g o (Gives_up good) tt
  turn_by g o false good clouds = read_by g o (Asks clouds) tt

  open_turns_by : (g : Agent V) (o : Opening V) → P (opening g o) (open_turns s vs a (idle (opening g o)) o)
  open_turns_by g o = after (opening g o) (opening g (turned_open o)) _ (m.turns_open g o) (turn_by g (turned_open o) _ _ _)

  -- uploads
  falls : (g : Agent V) (x : Closed V) (acks : ℕ) → IsShort s x.upload → P (closing g x) (falls_short s a g x acks)
  falls g x acks short =
      let first : Reaction V = answered (unleased g x.number) (says.Refuses _) in
      after (closing g x) (awaiting g None) _ (m.drops g x (inr short))
      (m.follow (awaiting g None) first _ (inl ((tt, tt), refl)) (answers g x.number _ tt) (m.asks first.agent (Unlock x.session.file x.number)))

  -- the agent without the upload that goes on, as it is given to what is done on it
  stores_by : (g : Agent V) (x : Closed V) (u : Upload V) (next : Next (Unit {0})) → IsNext u next → P (goes_on g x u) (stores s a g x u next)
  stores_by g x u Goes_on k = m.still (goes_on g x u)
  stores_by g x u (Asks clouds) k = m.puts g x u clouds k.0 k.1
  stores_by g x u (Has enough) k = absurd k
  stores_by g x u (Gives_up acks) k = falls g (record x { upload = Some u }) acks k

  stores_plain : (g : Agent V) (x : Closed V) (u : Upload V) (next : Next (Unit {0})) → Each IsPlain (stores s a g x u next).says
  stores_plain g x u (Gives_up acks) = (tt, tt)
  stores_plain g x u other = tt

  hears_by : (g : Agent V) (x : Closed V) (u : Upload V) (c : ℕ) (request : RequestNo) (answer : CloudAnswer) → known.answer c request answer
      → is_new_ack u.storing c request answer ≡ true → (b : Bool) → (length u.storing.acked + 1 == enough s) ≡ b
      → P (goes_on g x u) (stores s a g x (with_storing u (with_ack u.storing c)) (if b then Has tt else Goes_on))
  hears_by g x u c request answer k new true just = m.commits g x u c request answer k new just
  hears_by g x u c request answer k new false other = m.hears_upload g x u c request answer k new other

  upload_hears_by : (g : Agent V) (x : Closed V) (u : Upload V) (c : ℕ) (request : RequestNo) (answer : CloudAnswer) → known.answer c request answer
      → P (goes_on g x u) (upload_hears s a g x u c request answer)
  upload_hears_by g x u c request answer k =
      chosen (P (goes_on g x u)) (is_new_ack u.storing c request answer) _ _
      (λ new. hears_by g x u c request answer k new (length u.storing.acked + 1 == enough s) refl) (λ other. m.still (goes_on g x u))

  hears_plain : (g : Agent V) (x : Closed V) (u : Upload V) (c : ℕ) (request : RequestNo) (answer : CloudAnswer)
      → Each IsPlain (upload_hears s a g x u c request answer).says
  hears_plain g x u c request answer =
      let acked : Upload V = with_storing u (with_ack u.storing c) in
      chosen (λ (r : Reaction V). Each IsPlain r.says) (is_new_ack u.storing c request answer) _ _
      (λ new. stores_plain g x acked (store_on s u.storing)) (λ other. tt)

  turns_by : (g : Agent V) (x : Closed V) (u : Upload V) (all last : Bool) (acks : ℕ) (clouds : List ℕ) → is_enough s u.storing ≡ all → known.turn
      → Each (λ c. c < clouds_of s) clouds
      → P (goes_on g x u) (stores s a g x u (if all then Goes_on else if last then Gives_up acks else Asks clouds))
  turns_by g x u true last acks clouds few k each = stores_by g x u Goes_on tt
  turns_by g x u false true acks clouds few k each = stores_by g x u (Gives_up acks) few
  turns_by g x u false false acks clouds few k each = stores_by g x u (Asks clouds) (k, each)

  upload_turns_by : (g : Agent V) (x : Closed V) (u : Upload V) → known.turn → P (goes_on g x u) (upload_turns s a g x u)
  upload_turns_by g x u k =
      let test : ℕ → Bool = λ c. not (is_in c u.storing.acked) in
      after (goes_on g x u) (goes_on g x (turned_upload u)) _ (m.turns_upload g x u)
      (turns_by g x (turned_upload u) (is_enough s u.storing) (u.storing.turns + 1 == turns_limit) (length u.storing.acked)
      (filter test (below (clouds_of s))) refl k (each-filter _ test (below (clouds_of s)) (each-below (clouds_of s))))

  -- first for the open, then for the upload
  module _ (on_open : Agent V → Opening V → Reaction V) (on_upload : Agent V → Closed V → Upload V → Reaction V)
      (uploads_by : (g : Agent V) (x : Closed V) (u : Upload V) → P (goes_on g x u) (on_upload g x u))
      (plain : (g : Agent V) (x : Closed V) (u : Upload V) → Each IsPlain (on_upload g x u).says) where
    closed_by : (g : Agent V) (rest : List (Closed V)) (x : Closed V) (u : Option (Upload V)) →
        let y : Closed V = record x { upload = u } in
        let h : Agent V = record g { closed = y ∷ rest } in P h (to_closed h on_upload rest y u)
    closed_by g rest x None = m.still _
    closed_by g rest x (Some u) = uploads_by (record g { closed = rest }) (record x { upload = Some u }) u

    upload_by : (g : Agent V) (xs : List (Closed V)) → P (record g { closed = xs }) (to_upload (record g { closed = xs }) on_upload xs)
    upload_by g [] = m.still _
    upload_by g (x ∷ rest) = closed_by g rest x x.upload

    closed_plain : (g : Agent V) (rest : List (Closed V)) (x : Closed V) (u : Option (Upload V)) → Each IsPlain (to_closed g on_upload rest x u).says
    closed_plain g rest x None = tt
    closed_plain g rest x (Some u) = plain (record g { closed = rest }) x u

    upload_plain : (g : Agent V) (xs : List (Closed V)) → Each IsPlain (to_upload g on_upload xs).says
    upload_plain g [] = tt
    upload_plain g (x ∷ rest) = closed_plain g rest x x.upload

    work_by : (before g : Agent V) → P before (to_open g on_open g.waiting) → P before (to_work g on_open on_upload)
    work_by before g opens =
        let first : Reaction V = to_open g on_open g.waiting in
        m.follow before first _ (inr (upload_plain first.agent first.agent.closed)) opens (upload_by first.agent first.agent.closed)

  -- renewals
  renew_by : (g : Agent V) (h : ℕ) (file : Option FileId) → P g (if_some file (silent g) (renews vs a g h))
  renew_by g h None = m.still g
  renew_by g h (Some file) =
      let next : Agent V = record g { leases = with_renewal h g.leases } in
      after g next _ (leases_aside g next.leases) (m.asks next (Renew file h))

  abbrev IsQuiet : Reaction V → Type 0
  IsQuiet r = Each IsPlain r.says × (r.sent ≡ [])

  renew_quiet : (g : Agent V) (h : ℕ) (file : Option FileId) → IsQuiet (if_some file (silent g) (renews vs a g h))
  renew_quiet g h None = (tt, refl)
  renew_quiet g h (Some file) = (tt, refl)

  renews_quiet : (g : Agent V) (leases : List Lease) → IsQuiet (renews_all vs a g leases)
  renews_quiet g [] = (tt, refl)
  renews_quiet g (l ∷ rest) =
      by (file_of vs g l.session g.waiting) (renews_quiet g rest) (λ file. renews_quiet (renews vs a g l.session file).agent rest)
    where
      by : (file : Option FileId) → IsQuiet (renews_all vs a g rest)
          → ((file : FileId) → IsQuiet (renews_all vs a (renews vs a g l.session file).agent rest))
          → IsQuiet (followed (if_some file (silent g) (renews vs a g l.session)) (λ next. renews_all vs a next rest))
      by None none each = none
      by (Some file) none each = each file

  renews_by : (g : Agent V) (leases : List Lease) → P g (renews_all vs a g leases)
  renews_by g [] = m.still g
  renews_by g (l ∷ rest) =
      let file : Option FileId = file_of vs g l.session g.waiting in
      let first : Reaction V = if_some file (silent g) (renews vs a g l.session) in
      m.follow g first _ (inl (renew_quiet g l.session file)) (renew_by g l.session file) (renews_by first.agent rest)

  -- a turn
  waiting_turns : (g : Agent V) (w : Option (Waiting V)) → P (awaiting g w) (to_open (awaiting g w) (open_turns s vs a) w)
  waiting_turns g None = m.still (awaiting g None)
  waiting_turns g (Some For_step) = m.still (awaiting g (Some For_step))
  waiting_turns g (Some (For_clouds o)) = open_turns_by g o
  waiting_turns g (Some For_close) = m.still (awaiting g (Some For_close))

  pub turned : (g : Agent V) → known.turn → P g (turns s vs a g given)
  turned g k =
      let due : List Lease = filter (λ (l : Lease). is_due given.now s.header.lease l && not l.asked) g.leases in
      let first : Reaction V = renews_all vs a g due in
      let next : Agent V = first.agent in
      m.follow g first _ (inl (renews_quiet g due)) (renews_by g due)
      (work_by (open_turns s vs a) (upload_turns s a) (λ g x u. upload_turns_by g x u k) (λ g x u. stores_plain g x (turned_upload u) _)
      next next (waiting_turns next next.waiting))

  -- an answer of a cloud, once the open has it
  waiting_hears : (g : Agent V) (c : ℕ) (request : RequestNo) (answer : CloudAnswer) (w : Option (Waiting V))
      → P (awaiting g (heard s c request answer w)) (to_open (awaiting g w) (λ next o. open_hears s vs a next o c request answer) w)
  waiting_hears g c request answer None = m.still (awaiting g None)
  waiting_hears g c request answer (Some For_step) = m.still (awaiting g (Some For_step))
  waiting_hears g c request answer (Some (For_clouds o)) = open_hears_by g o c request answer (is_awaited o.reading c request) refl
  waiting_hears g c request answer (Some For_close) = m.still (awaiting g (Some For_close))

  pub hears_on : (g : Agent V) (c : ℕ) (request : RequestNo) (answer : CloudAnswer) → known.answer c request answer
      → P (awaiting g (heard s c request answer g.waiting)) (hears s vs a g c request answer)
  hears_on g c request answer k =
      work_by (λ next o. open_hears s vs a next o c request answer) (λ next x u. upload_hears s a next x u c request answer)
      (λ g x u. upload_hears_by g x u c request answer k) (λ g x u. hears_plain g x u c request answer)
      (awaiting g (heard s c request answer g.waiting)) g (waiting_hears g c request answer g.waiting)

  waiting_takes : (g : Agent V) (c : ℕ) (request : RequestNo) (answer : CloudAnswer) (w : Option (Waiting V)) → known.takes
      → known.answer c request answer → P (awaiting g w) (silent (awaiting g (heard s c request answer w)))
  waiting_takes g c request answer (Some (For_clouds o)) takes k = answer_by g o c request answer takes k (is_awaited o.reading c request) refl
  waiting_takes g c request answer w takes k = m.still (awaiting g w)

  -- what is told, once nothing waits for it
  sight_by : (g : Agent V) (request : RequestNo) (h : ℕ) (writes : Bool) (sight : Sight V) → known.sight request sight
      → P (awaiting g None) (saw s vs a g given request h writes sight)
  sight_by g request h writes sight k = sees g request h writes sight (found sight) k refl

  open_told : (g : Agent V) (request : RequestNo) (h : ℕ) (r : OrRefusal (Session_outcome V)) → IsResult known request r
      → P (freed_open g r) (told_open s vs a g given request h r)
  open_told g request h (Ok (Sees sight)) k = sight_by g request h false sight k
  open_told g request h (Ok (Locks sight l)) k =
      let next : Agent V = leased g h l.until in
      after (awaiting g None) (awaiting next None) _ (leases_aside (awaiting g None) next.leases) (sight_by next request h true sight k)
  open_told g request h (Ok (Completes session v n)) k = m.still g
  open_told g request h (Err why) k = m.says_plain (awaiting g None) (says.Refuses why) tt

  closed_told : (g : Agent V) (x : Closed V) (r : OrRefusal (Session_outcome V)) → P (freed_closed g x r) (told_closed s vs a g x r)
  closed_told g x (Ok (Completes session v n)) = answers g x.number (says.Stored x.number (vs.number v)) tt
  closed_told g x (Ok (Sees sight)) = m.still (closing g x)
  closed_told g x (Ok (Locks sight l)) = m.still (closing g x)
  closed_told g x (Err why) = answers g x.number (says.Refuses why) tt

  commit_told : (g : Agent V) (xs : List (Closed V)) (r : OrRefusal (Session_outcome V))
      → P (freed_commit (record g { closed = xs }) xs r) (told_commit s vs a (record g { closed = xs }) xs r)
  commit_told g [] r = m.still _
  commit_told g (x ∷ rest) r = closed_told (record g { closed = rest }) x r

  locks_told : (g : Agent V) (x : Lock_step) (r : OrRefusal Lock_outcome) → is_up g.life ≡ true → P g (told_locks g x r)
  locks_told g (Unlock file h) r up = m.still g
  locks_told g Unlock_all (Ok (Frees count)) up =
      let next : Agent V = record g { life = Ready } in
      after g next _ (m.aside g Ready g.leases g.tallies g.opens (sym up)) (m.says_plain next says.Ready tt)
  locks_told g Unlock_all (Ok (Renews l)) up = m.still g
  locks_told g Unlock_all (Err why) up = m.still g
  locks_told g (Renew file h) (Ok (Frees count)) up = m.still g
  locks_told g (Renew file h) (Ok (Renews l)) up = leases_aside g (with_end h l.until g.leases)
  locks_told g (Renew file h) (Err why) up =
      let next : Agent V = unleased g h in after g next _ (leases_aside g next.leases) (m.says_plain next (says.Lapsed h) tt)

  pub told_on : (g : Agent V) (request : RequestNo) (o : Outcome V) → is_up g.life ≡ true → IsReply known request o
      → P (freed g o) (told s vs a g given request o)
  told_on g request (Of_names x (Ok (Makes n))) up k = m.says_plain (awaiting g None) (says.Made n.id) tt
  told_on g request (Of_names x (Ok (Shows n))) up k = m.says_plain (awaiting g None) (says.Described n) tt
  told_on g request (Of_names x (Err why)) up k = m.says_plain (awaiting g None) (says.Refuses why) tt
  told_on g request (Of_locks x r) up k = locks_told g x r up
  told_on g request (Of_sessions (Open_read names h) r) up k = open_told g request h r k
  told_on g request (Of_sessions (Open_write names h) r) up k = open_told g request h r k
  told_on g request (Of_sessions (Commit h v) r) up k = commit_told g g.closed r

  open_frees : (g : Agent V) (r : OrRefusal (Session_outcome V)) → known.takes → P g (silent (freed_open g r))
  open_frees g (Ok (Completes h v n)) takes = m.still g
  open_frees g (Ok (Sees sight)) takes = m.frees g takes
  open_frees g (Ok (Locks sight l)) takes = m.frees g takes
  open_frees g (Err why) takes = m.frees g takes

  commit_frees : (g : Agent V) (xs : List (Closed V)) (r : OrRefusal (Session_outcome V)) → known.takes →
      let h : Agent V = record g { closed = xs } in P h (silent (freed_commit h xs r))
  commit_frees g [] r takes = m.still _
  commit_frees g (x ∷ rest) (Ok (Completes h v n)) takes = m.drops (record g { closed = rest }) x (inl takes)
  commit_frees g (x ∷ rest) (Ok (Sees sight)) takes = m.still _
  commit_frees g (x ∷ rest) (Ok (Locks sight l)) takes = m.still _
  commit_frees g (x ∷ rest) (Err why) takes = m.drops (record g { closed = rest }) x (inl takes)

  frees_by : (g : Agent V) (o : Outcome V) → known.takes → P g (silent (freed g o))
  frees_by g (Of_names x r) takes = m.frees g takes
  frees_by g (Of_locks x r) takes = m.still g
  frees_by g (Of_sessions (Open_read names h) r) takes = open_frees g r takes
  frees_by g (Of_sessions (Open_write names h) r) takes = open_frees g r takes
  frees_by g (Of_sessions (Commit h v) r) takes = commit_frees g g.closed r takes

  pub calls_by : (g : Agent V) (call : Call) → known.call call → P g (call_of a s g call g.waiting)
  calls_by g call k = call_by g call g.waiting k

  -- what an input asks for, where an agent that is up has it, but a start
  pub responds : known.takes → (g : Agent V) (input : Input V) → is_up g.life ≡ has_up input → IsInput known input
      → P g (responded s vs a g given input)
  responds takes g (Calls call) up k = calls_by g call k
  responds takes g (Tells request o) up k =
      let left : Agent V = untold g request in
      chosen (P g) (is_pending g request) _ _
      (λ pending. after g left _ (m.told g request) (after left (freed left o) _ (frees_by left o takes) (told_on left request o up k)))
      (λ other. m.still g)
  responds takes g (Hears c request answer) up k =
      after g (awaiting g (heard s c request answer g.waiting)) _ (waiting_takes g c request answer g.waiting takes k) (hears_on g c request answer k)
  responds takes g Turns up k = turned g k
  responds takes g Crashes up k = m.downs g up k
  responds takes g Starts up k =
      let h : Agent V = next_life g in
      m.follow g (saying h (says.Started h.incarnation)) _ (inr tt) (m.ups g up k) (m.asks h Unlock_all)

  begun_plain : (g : Agent V) (rest : List (Closed V)) (x : Closed V) (u : Option (Upload V)) → Each IsPlain (begun s vs a g rest x u).says
  begun_plain g rest x None = tt
  begun_plain g rest x (Some u) = tt

  next_plain : (g : Agent V) (xs : List (Closed V)) → Each IsPlain (next_begun s vs a g xs).says
  next_plain g [] = tt
  next_plain g (x ∷ rest) = begun_plain g rest x x.upload

  -- with the upload that begins then
  pub reacts : ((g : Agent V) (x : Closed V) → P (closing g (record x { upload = None })) (begins s vs a g x)) → known.takes
      → (g : Agent V) (input : Input V) → is_up g.life ≡ has_up input → IsInput known input → P g (reacted s vs a g given input)
  reacts begins_by takes g input up k =
      let first : Reaction V = responded s vs a g given input in
      m.follow g first _ (inr (next_plain first.agent first.agent.closed)) (responds takes g input up k)
      (next_begins s vs a P m.still begins_by first.agent)
