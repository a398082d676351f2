-- An open that says the sight of a version above 0 then reads that version from the clouds.
use Rattle.std.proofs.Common.{◌≡◌, ◌≢◌, ℕ, zero, suc, ◌+◌, ◌≤◌, List, [], ◌∷◌, ◌++◌, length, map, take, refl, sym, ap, ◌∙◌, subst, arith, Bool, true, false, cond, Option, Some, None, IfSome, Ok, Err, Contains, slice_get, slice_set}
use Rattle.std.specs.Prelude.{◌==◌, if◌then◌else◌}
use Rattle.std.proofs.lemmas.List.Elements.{Contains-append_left}
use Rattle.scfs_unit.specs.declared.pieces.KeptPiece.{KeptPiece}
use Rattle.scfs_base.specs.declared.naming.FileId.{FileId}
use Rattle.scfs_base.specs.declared.naming.RequestNo.{RequestNo}
use Rattle.scfs_schedule.specs.declared.types.Header.{Header}
use Rattle.scfs_schedule.specs.declared.types.Line.{Line}
use Rattle.scfs_schedule.specs.declared.types.Line.TheVariants as lines
use Rattle.scfs_schedule.specs.declared.types.Src.{Src}
use Rattle.scfs_schedule.specs.declared.types.Src.TheVariants as sources
use Rattle.scfs_model.specs.Ranks.{order_by}
use Rattle.scfs_model.specs.Names.{upload_name}
use Rattle.scfs_model.specs.Format.{Setup, sealed}
use Rattle.scfs_model.specs.UnitFormat.{under}
use Rattle.scfs_model.specs.History.{Entry, History}
use Rattle.scfs_model.specs.Given.{Given}
use Rattle.scfs_model.specs.Tree.{version_at}
use Rattle.scfs_model.specs.SessionSteps.{Open_read, Open_write, Commit, Sight, Sees, Locks, Completes}
use Rattle.scfs_model.specs.Steps.{Outcome, Of_names, Of_locks, Of_sessions}
use Rattle.scfs_model.specs.Lives.{is_up}
use Rattle.scfs_model.specs.Leases.{leased}
use Rattle.scfs_model.specs.Opens.{Found, As_empty, On_clouds, found_version, found, sighted, saw}
use Rattle.scfs_model.specs.Told.{is_pending, untold, tells}
use Rattle.scfs_model.specs.Asked.{is_answer_to}
use Rattle.scfs_model.specs.Sayings.{Saying, said_by}
use Rattle.scfs_model.specs.Sayings as says
use Rattle.scfs_model.specs.Agents.{Opening, Waiting, For_step, For_clouds, For_close, Closed, Agent, Input, Calls, Tells, Hears, Turns, Crashes, Starts, Sent, Reaction, silent, saying, followed}
use Rattle.scfs_model.specs.Reactions.{next_begun, reacted}
use Rattle.scfs_model.specs.Events.{At_agent, Call_comes, Turn_comes, Crash_comes, Start_comes, place_of}
use Rattle.scfs_model.specs.States.{Reply, Seat, State, Effect, sum_of, request_line, is_there, comes, at_place}
use Rattle.scfs_model.specs.Layers.{Row, Version, rows, row_of}
use Rattle.scfs_model.specs.Runs.{actual}
use Rattle.scfs_laws.specs.Newest.{Saw_line, after_saw, latest_saw, IsFrom, IsShown, AreShown}
use Rattle.scfs_laws.specs.Held.{Seen, Version_seen, Agent_seen}
use Rattle.scfs_laws.proofs.Lists.{Each, each-map, each-always, each_of-contains, some_same}
use Rattle.scfs_laws.proofs.Moves.{IsReply, IsInput, has_up}
use Rattle.scfs_laws.proofs.Ways.{IsStill, own_input, up_there, of_event}
use Rattle.scfs_laws.proofs.HeldDoing.{at}
use Rattle.scfs_laws.proofs.HeldSeats.{IsEmpty, IsStepping, latest, Waits, Fits, IsSeen, IsRow, OutcomeFits, step_of, ReplyFits}
use Rattle.scfs_laws.proofs.HeldStands.{Stands, replies_there}
use Rattle.scfs_laws.proofs.HeldVersions.{tied_found}
use Rattle.scfs_laws.proofs.HeldSpace.{IsSeenIn}
use Rattle.scfs_answered.proofs.Reader.{gets_on, begun_same}
use Rattle.scfs_answered.proofs.Sights.{SeesIts, OutcomeSees, parts}
use Rattle.scfs_answered.proofs.Going.{set_here}
use Rattle.scfs_laws.proofs.Seats.{AreSeats}
use Rattle.scfs_answered.proofs.Following.{IsReading, OfOpen, AnySaw}
use Rattle.scfs_answered.proofs.AgentLines as agents
use Rattle.scfs_answered.proofs.AgentLines.{did_tells, still_tells, served_tells, reacted_speaks}

-- ---- the version of a sight is the one in the tree

-- two rows of one close have one upload, root and length
pub same_version : (s : Setup) (v : Row) (close : Version) (versions : List Version_seen) (file : FileId) (number : ℕ)
    → IsSeen s versions file number (Some v) → IsSeen s versions file number (Some (row_of s close))
    → (v.upload ≡ close.upload) × (v.root ≡ (sealed s close.upload close.bytes).root) × (v.length ≡ length close.bytes)
same_version s v close versions file number (w, here, is) (z, there, its) =
    let same : w ≡ z = some_same w z (sym here ∙ there) in
    let mine : IsRow s v z.close = subst (λ (y : Version_seen). IsRow s v y.close) same is in
    (mine.upload ∙ sym its.upload, mine.root ∙ sym its.root, mine.size ∙ sym its.size)

-- ---- what an agent that waits for its open's step does when it is told the sight

-- an agent that waits for a step has no closed session
abbrev pub stepping : Agent Row → Agent Row
stepping g = at g (Some For_step) []

-- a reading of a version of this number that begins
pub record Begins (s : Setup) (v : Row) (r : Reaction Row) : Type 0 where
  pub o : Opening Row
  pub waits : r.agent.waiting ≡ Some (For_clouds o)
  pub empty : IsEmpty r.agent.closed
  pub version : o.version ≡ v
  pub root : o.reading.root ≡ v.root
  pub size : o.reading.size ≡ v.length
  pub turns : o.reading.turns ≡ 0
  pub pieces : o.reading.pieces ≡ []
  pub asked : Each (λ (x : Sent). is_answer_to o.reading.gets x.cloud x.number ≡ true) r.sent

module _ (s : Setup) (a : ℕ) (given : Given) where
  -- the open of a version, with no closed session
  pub begins_on : (g : Agent Row) (request : RequestNo) (h : ℕ) (writes : Bool) (sight : Sight Row) (v : Row) → IsEmpty g.closed → found sight ≡ On_clouds v
      → Begins s v (saw s rows a g given request h writes sight)
  begins_on g request h writes sight v empty is = by (found sight) is
    where
      order : List ℕ
      order = order_by given.ranks

      by : (f : Found Row) → f ≡ On_clouds v
          → Begins s v (followed (saying g (says.Saw request sight.file sight.number)) (λ next. sighted s rows a next given h writes sight f))
      by As_empty other = cc
      by (On_clouds w) same =
          let k = gets_on s a g
          (record {
            session = h;
            writes = writes;
            version = w;
            reading = record { name = upload_name w.upload; root = w.root; size = w.length; order = order; gets = []; pieces = []; turns = 0 };
          })
          (take (s.header.f + 1) order) (omega arith) empty in
          let its : w ≡ v = clouds same in
          record {
            o = k.next;
            waits = k.waits;
            empty = k.empty;
            version = k.version ∙ its;
            root = k.root ∙ ap (λ (y : Row). y.root) its;
            size = k.size ∙ ap (λ (y : Row). y.length) its;
            turns = k.turned;
            pieces = k.has;
            asked = k.asked;
          }
        where
          clouds : On_clouds w ≡ On_clouds v → w ≡ v
          clouds e = cc

-- a version that is found is the sight's
version_found : (b : Bool) (o : Option Row) (v : Row) → cond b As_empty (found_version o) ≡ On_clouds v → o ≡ Some v
version_found true o v h = absurd (none h)
  where
    none : As_empty ≡ On_clouds v → ⊥
    none e = cc
version_found false None v h = absurd (none h)
  where
    none : As_empty ≡ On_clouds v → ⊥
    none e = cc
version_found false (Some w) v h = cc

-- an opened line that is shown is from the clouds, unless its version is 0
shown_from : (past : History) (a : ℕ) (latest : Option Saw_line) (ls : List Line) (h number : ℕ) (source : Src) (size : ℕ) → AreShown past a latest ls
    → Contains ls (lines.Opened a h number source size) → IsFrom number source size
shown_from past a latest [] h number source size shown (n, less, is) = absurd (omega (arith, less))
shown_from past a latest (l ∷ ls) h number source size shown (zero, less, is) = (subst (IsShown past a latest) is shown.0 refl).1
shown_from past a latest (l ∷ ls) h number source size shown (suc n, less, is) =
    shown_from past a (after_saw a latest l) ls h number source size shown.1 (n, omega (arith, less), is)

-- ---- the entry of the sight

module _ (header : Header) (past : History) (sight : Entry) (a : ℕ) (close : Version) (request : RequestNo) (its : request.agent ≡ a)
    (told : Contains sight.lines (lines.Saw request close.file close.number)) (above : close.number ≢ 0)
    (in_tree : version_at rows (actual (under header) past).tree.versions close.file close.number ≡ Some (row_of (under header) close))
    (x : Seen) (are : IsSeenIn (under header) x (actual (under header) past)) (see : AreSeats parts (actual (under header) past).seats)
    (shown : AreShown past a (latest_saw a past) sight.lines) (given : Given) where
  abbrev s : Setup
  s = under header

  abbrev state : State Row
  state = actual s past

  -- the agent then reads the version
  abbrev pub IsBegun : List (Seat Row) → Type 0
  IsBegun seats = (now : Seat Row) × (slice_get seats a ≡ Some now) × IsReading header sight a close [] now.agent

  abbrev Goes : Effect Row → Type 0
  Goes y = sight.lines ≡ y.lines → IsBegun y.state.seats

  abbrev AnyGet : RequestNo → (c : ℕ) → Type 0
  AnyGet n c = Unit {0}

  abbrev NoSaw : RequestNo → FileId → (number : ℕ) → Type 0
  NoSaw n file number = ⊥

  -- an entry without a saw line is not this one
  not_this : {A : Type 0} → Each (agents.Tells AnyGet NoSaw (Unit {0})) sight.lines → A
  not_this all = absurd (each_of-contains (agents.Tells AnyGet NoSaw (Unit {0})) sight.lines _ all told)

  -- nor one in which an agent is told no sight
  dumb : (b : ℕ) (now : Seat Row) (before : List Line) (input : Input Row) → is_up now.agent.life ≡ has_up input
      → IsInput (agents.told s b (λ request sight. ⊥)) input → Each (agents.Tells AnyGet NoSaw (Unit {0})) before
      → Goes (comes s rows state b given before input now)
  dumb b now before input up known first same =
      let r = reacted s rows b now.agent given input in
      let speaks = reacted_speaks s b (λ request sight. ⊥) now.agent given input up known in
      not_this (subst (Each (agents.Tells AnyGet NoSaw (Unit {0}))) (sym same)
      (did_tells AnyGet NoSaw (Unit {0}) s b before r first (each-always (λ (y : Sent). Unit {0}) (λ y. tt) r.sent)
      (each-map (agents.IsSaid s b (λ request sight. ⊥)) _ silent_says r.says speaks.1)))
    where
      silent_says : (z : Saying) → agents.IsSaid s b (λ request sight. ⊥) z → agents.SaysSo AnyGet NoSaw (Unit {0}) z
      silent_says (says.Saw n file number) k = absurd k.1
      silent_says _ k = tt

  own_way : (b : ℕ) (now : Seat Row) (y : At_agent) → is_up now.agent.life ≡ has_up {V = Row} (own_input y)
      → Goes (comes s rows state b given [] (own_input y) now)
  own_way b now (Call_comes call) up = dumb b now [] (Calls call) up tt tt
  own_way b now Turn_comes up = dumb b now [] Turns up tt tt
  own_way b now Crash_comes up = dumb b now [] Crashes up tt tt
  own_way b now Start_comes up = dumb b now [] Starts up tt tt

  -- the agent is told a sight
  module _ (b : ℕ) (now : Seat Row) (oldest : Reply Row) (rest : List (Reply Row)) (there : slice_get state.seats b ≡ Some now) (mine : oldest.number.agent ≡ b)
      (sees : Sight Row) (seen : IsSeen s x.versions sees.file sees.number sees.version) (right : SeesIts sees)
      (h : ℕ) (writes : Bool) (g : Agent Row) (empty : IsEmpty g.closed) where
    -- what it does first
    abbrev first_by : Found Row → Reaction Row
    first_by f = followed (saying g (says.Saw oldest.number sees.file sees.number)) (λ next. sighted s rows b next given h writes sees f)

    abbrev IsIt : RequestNo → FileId → (number : ℕ) → Type 0
    IsIt n file number = (n ≡ oldest.number) × (file ≡ sees.file) × (number ≡ sees.number)

    says_it : (f : Found Row) → Each (agents.SaysSo AnyGet IsIt (Unit {0})) (first_by f).says
    says_it As_empty = ((refl, refl, refl), (tt, tt))
    says_it (On_clouds v) = ((refl, refl, refl), tt)

    empty_by : (f : Found Row) → IsEmpty (first_by f).agent.closed
    empty_by As_empty = empty
    empty_by (On_clouds v) = empty

    module _ (r : Reaction Row) (is : r ≡ first_by (found sees))
        (same : sight.lines ≡ [] ++ map (said_by b) r.says ++ map (λ (y : Sent). request_line s y.number y.cloud y.body) r.sent) where
      it : IsIt request close.file close.number
      it =
          each_of-contains (agents.Tells AnyGet IsIt (Unit {0})) sight.lines (lines.Saw request close.file close.number)
          (subst (Each (agents.Tells AnyGet IsIt (Unit {0}))) (sym same)
          (did_tells AnyGet IsIt (Unit {0}) s b [] r tt (each-always (λ (y : Sent). Unit {0}) (λ y. tt) r.sent)
          (subst (λ (z : Reaction Row). Each (agents.SaysSo AnyGet IsIt (Unit {0})) z.says) (sym is) (says_it (found sees))))) told

      same_agent : b ≡ a
      same_agent = sym mine ∙ ap (λ (n : RequestNo). n.agent) (sym it.0) ∙ its

      -- it is not version 0
      not_empty : found sees ≡ As_empty → ⊥
      not_empty none =
          let line = lines.Opened b h sees.number sources.Empty 0 in
          let whole : r ≡ first_by As_empty = is ∙ ap first_by none in
          let said : Contains (map (said_by b) r.says) line = subst (λ (z : Reaction Row). Contains (map (said_by b) z.says) line) (sym whole) (1, omega arith, refl) in
          let inside : Contains sight.lines line = subst (λ ls. Contains ls line) (sym same) (Contains-append_left (map (said_by b) r.says) _ line said) in
          let mine_too : Contains sight.lines (lines.Opened a h sees.number sources.Empty 0) =
          subst (λ c. Contains sight.lines (lines.Opened c h sees.number sources.Empty 0)) same_agent inside in
          let from = shown_from past a (latest_saw a past) sight.lines h sees.number sources.Empty 0 shown mine_too in
          apart (from.1 (λ zero_too. above (it.2 ∙ zero_too)))
        where
          apart : sources.Empty ≡ sources.Clouds → ⊥
          apart e = cc

      reads : (v : Row) → found sees ≡ On_clouds v → IsReading header sight a close [] r.agent
      reads v is_v =
          let k = subst (Begins s v) (sym is) (begins_on s b given g oldest.number h writes sees v empty is_v) in
          let version : sees.version ≡ Some v = version_found (sees.number == 0) sees.version v is_v in
          let one : IsSeen s x.versions close.file close.number (Some v) =
          subst (λ file. IsSeen s x.versions file close.number (Some v)) (sym it.1)
          (subst (λ n. IsSeen s x.versions sees.file n (Some v)) (sym it.2) (subst (IsSeen s x.versions sees.file sees.number) version seen)) in
          let other : IsSeen s x.versions close.file close.number (Some (row_of s close)) =
          subst (IsSeen s x.versions close.file close.number) in_tree (tied_found s state.tree.versions x.versions close.file close.number are.versions) in
          let fits = same_version s v close x.versions close.file close.number one other in
          let told_gets : Each (agents.Tells (OfOpen header sight a close k.o) AnySaw (Unit {0})) sight.lines =
          subst (Each (agents.Tells (OfOpen header sight a close k.o) AnySaw (Unit {0}))) (sym same)
          (did_tells (OfOpen header sight a close k.o) AnySaw (Unit {0}) s b [] r tt
          (each-map (λ (y : Sent). is_answer_to k.o.reading.gets y.cloud y.number ≡ true) _ (λ y asked its_own. asked) r.sent k.asked)
          (each-always (agents.SaysSo (OfOpen header sight a close k.o) AnySaw (Unit {0})) (any_says k.o) r.says)) in
          record {
            o = k.o;
            waits = k.waits;
            number = ap (λ (y : Row). y.number) k.version ∙ subst (λ o. IfSome o (λ (y : Row). y.number ≡ sees.number)) version right ∙ sym it.2;
            root = k.root ∙ fits.1;
            long = k.size ∙ fits.2;
            turns = let none = k.turns in omega (arith, none);
            few = subst (λ ps. length ps ≤ header.f) (sym k.pieces) (omega arith);
            sized = subst (Each (λ (p : KeptPiece). p.length ≡ length close.bytes)) (sym k.pieces) tt;
            asked = λ c n its_own was.
                each_of-contains (agents.Tells (OfOpen header sight a close k.o) AnySaw (Unit {0})) sight.lines (lines.Get n c (upload_name close.upload)) told_gets was its_own;
            good = λ c below was. absurd was;
          }
        where
          any_says : (o : Opening Row) (z : Saying) → agents.SaysSo (OfOpen header sight a close o) AnySaw (Unit {0}) z
          any_says o (says.Saw n file number) = tt
          any_says o _ = tt

      reads_it : IsReading header sight a close [] r.agent
      reads_it = by (found sees) refl
        where
          by : (f : Found Row) → found sees ≡ f → IsReading header sight a close [] r.agent
          by As_empty none = absurd (not_empty none)
          by (On_clouds v) is_v = reads v is_v

      pub begun_at : (later : Seat Row) → later.agent ≡ r.agent → IsBegun (slice_set state.seats b later)
      begun_at later agent_is =
          subst (λ c. IsBegun (slice_set state.seats c later)) (sym same_agent) (
            later,
            set_here state.seats a now later (ap (slice_get state.seats) (sym same_agent) ∙ there),
            subst (IsReading header sight a close []) (sym agent_is) reads_it,
          )

  -- what an agent does where it is told the sight of its open: it begins to read, or the reply is not for it
  sight_way : (b : ℕ) (now : Seat Row) (oldest : Reply Row) (rest : List (Reply Row)) → slice_get state.seats b ≡ Some now → oldest.number.agent ≡ b
      → (sees : Sight Row) → IsSeen s x.versions sees.file sees.number sees.version → SeesIts sees → (h : ℕ) (writes : Bool) (g : Agent Row)
      → IsEmpty g.closed → IsEmpty now.agent.closed
      → tells s rows b now.agent given oldest.number oldest.outcome
      ≡ (if is_pending now.agent oldest.number then saw s rows b g given oldest.number h writes sees else silent now.agent)
      → Goes (comes s rows state b given [] (Tells oldest.number oldest.outcome) (record now { replied = rest }))
  sight_way b now oldest rest there mine sees seen right h writes g empty none is same = by (is_pending now.agent oldest.number) is
    where
      first : Reaction Row
      first = tells s rows b now.agent given oldest.number oldest.outcome

      begun : Reaction Row → Reaction Row
      begun r = followed r (λ next. next_begun s rows b next next.closed)

      r : Reaction Row
      r = reacted s rows b now.agent given (Tells oldest.number oldest.outcome)

      seats : List (Seat Row)
      seats = (comes s rows state b given [] (Tells oldest.number oldest.outcome) (record now { replied = rest })).state.seats

      by : (p : Bool) → first ≡ (if p then saw s rows b g given oldest.number h writes sees else silent now.agent) → IsBegun seats
      by true e =
          let reads = saw s rows b g given oldest.number h writes sees in
          begun_at b now oldest rest there mine sees seen right h writes g empty r
          (ap begun e ∙ begun_same s b reads (empty_by b now oldest rest there mine sees seen right h writes g empty (found sees))) same _ refl
      by false e =
          let nothing : r ≡ silent now.agent = ap begun e ∙ begun_same s b (silent now.agent) none in
          not_this (subst (Each (agents.Tells AnyGet NoSaw (Unit {0}))) (sym same)
          (subst (λ (z : Reaction Row). Each (agents.Tells AnyGet NoSaw (Unit {0}))
          (map (said_by b) z.says ++ map (λ (y : Sent). request_line s y.number y.cloud y.body) z.sent)) (sym nothing) tt))

  stepping_empty : (y : Agent_seen) (w : Option (Waiting Row)) (closed : List (Closed Row)) → IsStepping w → Waits s y w closed → IsEmpty closed
  stepping_empty y None closed steps waits = absurd steps
  stepping_empty y (Some For_step) closed steps waits = waits
  stepping_empty y (Some (For_clouds o)) closed steps waits = absurd steps
  stepping_empty y (Some For_close) closed steps waits = absurd steps

  module _ (b : ℕ) (now : Seat Row) (oldest : Reply Row) (rest : List (Reply Row)) (there : slice_get state.seats b ≡ Some now)
      (is : now.replied ≡ oldest ∷ rest) (here : is_there now.agent oldest.number ≡ true) where
    abbrev g : Agent Row
    g = now.agent

    abbrev Comes : Type 0
    Comes = Goes (comes s rows state b given [] (Tells oldest.number oldest.outcome) (record now { replied = rest }))

    stands : Stands s x.versions b (x.agents b) now
    stands = are.seats b now there

    abbrev FitsReply : Reply Row → Type 0
    FitsReply y = ReplyFits s b x.versions (latest (x.agents b)) g.waiting g.closed y

    fits : FitsReply oldest
    fits = head (subst (λ rs. Each FitsReply (replies_there g rs)) is stands.seated.steps.replies) here
      where
        head : Each FitsReply (replies_there g (oldest ∷ rest)) → is_there g oldest.number ≡ true → FitsReply oldest
        head each it = (subst (λ c. Each FitsReply (cond c (oldest ∷ replies_there g rest) (replies_there g rest))) it each).0

    its_sight : OutcomeSees oldest.outcome
    its_sight = (subst (Each (λ (y : Reply Row). OutcomeSees y.outcome)) is (see b now there).replies).0

    no_sight : (o : Outcome Row) → oldest.outcome ≡ o → IsReply (agents.told s b (λ request sight. ⊥)) oldest.number o → Comes
    no_sight o same known =
        dumb b (record now { replied = rest }) [] (Tells oldest.number oldest.outcome) (up_there g oldest.number here)
        (subst (IsReply (agents.told s b (λ request sight. ⊥)) oldest.number) (sym same) known) tt

    abbrev FitsStep : Outcome Row → Type 0
    FitsStep o = Fits s (latest (x.agents b)) g.waiting g.closed (step_of o) × OutcomeFits s x.versions o

    -- an open that is told its sight
    open_told : (o : Outcome Row) (sees : Sight Row) (h : ℕ) (writes : Bool) (k : Agent Row) → oldest.outcome ≡ o
        → IsSeen s x.versions sees.file sees.number sees.version → SeesIts sees → IsStepping g.waiting → (IsEmpty g.closed → IsEmpty k.closed)
        → tells s rows b g given oldest.number o ≡ (if is_pending g oldest.number then saw s rows b k given oldest.number h writes sees else silent g) → Comes
    open_told o sees h writes k same seen right steps kept does =
        let empty = stepping_empty (x.agents b) g.waiting g.closed steps stands.seated.waits in
        sight_way b now oldest rest there fits.0 sees seen right h writes k (kept empty) empty
        (ap (tells s rows b g given oldest.number) same ∙ does)

    told_by : (o : Outcome Row) → oldest.outcome ≡ o → OutcomeSees o → FitsStep o → Comes
    told_by (Of_names y r) same sees step = no_sight (Of_names y r) same tt
    told_by (Of_locks y r) same sees step = no_sight (Of_locks y r) same tt
    told_by (Of_sessions y (Ok (Completes h v n))) same sees step = no_sight (Of_sessions y (Ok (Completes h v n))) same tt
    told_by (Of_sessions y (Err why)) same sees step = no_sight (Of_sessions y (Err why)) same tt
    told_by (Of_sessions (Commit h v) (Ok (Sees sight))) same sees step = absurd sees
    told_by (Of_sessions (Commit h v) (Ok (Locks sight l))) same sees step = absurd sees
    told_by (Of_sessions (Open_read names h) (Ok (Sees sight))) same sees step =
        open_told _ sight h false (untold g oldest.number) same step.1 sees step.0 (λ empty. empty) refl
    told_by (Of_sessions (Open_read names h) (Ok (Locks sight l))) same sees step =
        open_told _ sight h true (leased (untold g oldest.number) h l.until) same step.1 sees step.0 (λ empty. empty) refl
    told_by (Of_sessions (Open_write names h) (Ok (Sees sight))) same sees step =
        open_told _ sight h false (untold g oldest.number) same step.1 sees step.0 (λ empty. empty) refl
    told_by (Of_sessions (Open_write names h) (Ok (Locks sight l))) same sees step =
        open_told _ sight h true (leased (untold g oldest.number) h l.until) same step.1 sees step.0 (λ empty. empty) refl

    told_way : Comes
    told_way = told_by oldest.outcome refl its_sight (fits.1, fits.2)

  -- whatever the entry is
  pub begins : Goes (at_place s rows state sight.message given (place_of sight.event))
  begins =
      of_event s rows state given sight.message Goes (place_of sight.event)
      (record {
        nothing = λ shown idle still same.
            not_this (subst (Each (agents.Tells AnyGet NoSaw (Unit {0}))) (sym same)
            (each-map IsStill _ (still_tells AnyGet NoSaw (Unit {0})) shown still));
        later = λ ticks same. not_this (subst (Each (agents.Tells AnyGet NoSaw (Unit {0}))) (sym same) tt);
        gone = λ b now n there same. not_this (subst (Each (agents.Tells AnyGet NoSaw (Unit {0}))) (sym same) (tt, tt));
        missed = λ b now oldest rest there is away same. not_this (subst (Each (agents.Tells AnyGet NoSaw (Unit {0}))) (sym same) (tt, tt));
        own = λ b now y there at up. own_way b now y up;
        hears = λ c n answer now there at about here.
            dumb n.agent now (lines.Gave c n (sum_of s answer) ∷ []) (Hears c n answer) (up_there now.agent n here) tt (tt, tt);
        told = λ b now oldest rest there is here. told_way b now oldest rest there is here;
        serve = λ b now oldest rest there is at same.
            not_this (subst (Each (agents.Tells AnyGet NoSaw (Unit {0}))) (sym same) (served_tells AnyGet NoSaw (Unit {0}) oldest.number _, tt));
        postpone = λ b now oldest rest there is same. not_this (subst (Each (agents.Tells AnyGet NoSaw (Unit {0}))) (sym same) tt);
      })
