-- What an agent's lines tell: it asks clouds only under its own numbers, and says a sight only where it is told one.
use Rattle.std.proofs.Common.{◌≡◌, ℕ, List, [], ◌∷◌, ◌++◌, map, refl, None, Ok, Err}
use Rattle.scfs_base.specs.declared.naming.FileId.{FileId}
use Rattle.scfs_base.specs.declared.naming.RequestNo.{RequestNo}
use Rattle.scfs_base.specs.declared.cloud.CloudRequest.{CloudRequest}
use Rattle.scfs_base.specs.declared.cloud.CloudRequest.TheVariants as requests
use Rattle.scfs_schedule.specs.declared.types.Line.{Line}
use Rattle.scfs_schedule.specs.declared.types.Line.TheVariants as lines
use Rattle.scfs_model.specs.Lists.{below}
use Rattle.scfs_model.specs.Format.{Setup, clouds_of}
use Rattle.scfs_model.specs.Given.{Given}
use Rattle.scfs_model.specs.Lives.{is_up}
use Rattle.scfs_model.specs.NameSteps.{Makes, Shows}
use Rattle.scfs_model.specs.LockSteps.{Frees, Renews}
use Rattle.scfs_model.specs.SessionSteps.{Sight, Sees, Locks, Completes}
use Rattle.scfs_model.specs.Steps.{Outcome, Of_names, Of_locks, Of_sessions, served_line}
use Rattle.scfs_model.specs.Sayings.{Saying, said_by}
use Rattle.scfs_model.specs.Sayings as says
use Rattle.scfs_model.specs.Agents.{Closed, Agent, Input, Sent, Reaction}
use Rattle.scfs_model.specs.Closes.{begins}
use Rattle.scfs_model.specs.Reactions.{reacted}
use Rattle.scfs_model.specs.States.{request_line}
use Rattle.scfs_model.specs.Layers.{Row, rows}
use Rattle.scfs_laws.proofs.Lists.{Each, each-append}
use Rattle.scfs_laws.proofs.Moves.{Known, IsInput, has_up, IsPlain, Moves, reacts, closing}
use Rattle.scfs_laws.proofs.HeldDoing.{asked_own}
use Rattle.scfs_laws.proofs.Ways.{IsStill}

-- ---- lines that tell of a Get, of a sight, and of an answer that is given

module _ (Get : RequestNo → (c : ℕ) → Type 0) (Saw : RequestNo → FileId → (number : ℕ) → Type 0) (Gave : Type 0) where
  abbrev pub Tells : Line → Type 0
  Tells (lines.Get request c name) = Get request c
  Tells (lines.Saw request file number) = Saw request file number
  Tells (lines.Gave c request sum) = Gave
  Tells other = Unit {0}

  abbrev pub SaysSo : Saying → Type 0
  SaysSo (says.Saw request file number) = Saw request file number
  SaysSo other = Unit {0}

  said_tells : (a : ℕ) (x : Saying) → SaysSo x → Tells (said_by a x)
  said_tells a (says.Saw request file number) h = h
  said_tells a _ h = tt

  request_tells : (s : Setup) (number : RequestNo) (c : ℕ) (body : CloudRequest) → Get number c → Tells (request_line s number c body)
  request_tells s number c (requests.Put name body) h = tt
  request_tells s number c (requests.Get name limit) h = h
  request_tells s number c (requests.Delete name) h = tt
  request_tells s number c (requests.List prefix) h = tt

  all_said : (a : ℕ) (xs : List Saying) → Each SaysSo xs → Each Tells (map (said_by a) xs)
  all_said a [] h = tt
  all_said a (x ∷ xs) h = (said_tells a x h.0, all_said a xs h.1)

  all_requests : (s : Setup) (xs : List Sent) → Each (λ (x : Sent). Get x.number x.cloud) xs
      → Each Tells (map (λ (x : Sent). request_line s x.number x.cloud x.body) xs)
  all_requests s [] h = tt
  all_requests s (x ∷ xs) h = (request_tells s x.number x.cloud x.body h.0, all_requests s xs h.1)

  -- the lines of what an agent did
  pub did_tells : (s : Setup) (a : ℕ) (before : List Line) (r : Reaction Row) → Each Tells before → Each (λ (x : Sent). Get x.number x.cloud) r.sent
      → Each SaysSo r.says → Each Tells (before ++ map (said_by a) r.says ++ map (λ (x : Sent). request_line s x.number x.cloud x.body) r.sent)
  did_tells s a before r first sent said =
      each-append Tells (before ++ map (said_by a) r.says) _
      (each-append Tells before (map (said_by a) r.says) first (all_said a r.says said)) (all_requests s r.sent sent)

  -- of those that tell of no answer to an agent
  pub still_tells : (l : Line) → IsStill l → Tells l
  still_tells (lines.Get request c name) h = absurd h
  still_tells (lines.Saw request file number) h = absurd h
  still_tells (lines.Gave c request sum) h = absurd h
  still_tells _ h = tt

  -- of the space
  pub served_tells : (request : RequestNo) (o : Outcome Row) → Tells (served_line rows request o)
  served_tells request (Of_names x (Ok (Makes n))) = tt
  served_tells request (Of_names x (Ok (Shows n))) = tt
  served_tells request (Of_names x (Err why)) = tt
  served_tells request (Of_locks x (Ok (Frees count))) = tt
  served_tells request (Of_locks x (Ok (Renews l))) = tt
  served_tells request (Of_locks x (Err why)) = tt
  served_tells request (Of_sessions x (Ok (Sees sight))) = tt
  served_tells request (Of_sessions x (Ok (Locks sight l))) = tt
  served_tells request (Of_sessions x (Ok (Completes session v n))) = tt
  served_tells request (Of_sessions x (Err why)) = tt

-- ---- what an agent asks and says

module _ (s : Setup) (a : ℕ) (IsSight : RequestNo → Sight Row → Type 0) where
  -- a sight that is said is one that was told
  abbrev pub WasTold : RequestNo → FileId → (number : ℕ) → Type 0
  WasTold request file number = (sight : Sight Row) × IsSight request sight × (file ≡ sight.file) × (number ≡ sight.number)

  abbrev pub IsSaid : Saying → Type 0
  IsSaid (says.Saw request file number) = WasTold request file number
  IsSaid other = Unit {0}

  abbrev pub Speaks : Agent Row → Reaction Row → Type 0
  Speaks g r = Each (λ (x : Sent). x.number.agent ≡ a) r.sent × Each IsSaid r.says

  abbrev pub told : Known Row
  told =
      record {
        call = λ call. Unit {0};
        sight = IsSight;
        answer = λ c request answer. Unit {0};
        turn = Unit {0};
        crash = Unit {0};
        start = Unit {0};
        takes = Unit {0};
      }

  plain_said : (x : Saying) → IsPlain x → IsSaid x
  plain_said (says.Saw request file number) plain = absurd plain
  plain_said _ plain = tt

  moves : (given : Given) → Moves s rows a told given Speaks
  moves given =
      record {
        still = λ g. (tt, tt);
        follow = λ g first second order one two. (each-append _ first.sent second.sent one.0 two.0, each-append IsSaid first.says second.says one.1 two.1);
        aside = λ g life leases tallies opens same. (tt, tt);
        told = λ g request. (tt, tt);
        frees = λ g takes. (tt, tt);
        says_plain = λ g x plain. (tt, (plain_said x plain, tt));
        asks = λ g x. (tt, tt);
        steps = λ g step common. (tt, tt);
        makes = λ g path names k. (tt, tt);
        reads = λ g h offset count bytes k ok. (tt, (tt, tt));
        writes = λ g h offset new y k ok. (tt, (tt, tt));
        truncates = λ g h size y k ok. (tt, (tt, tt));
        ends = λ g h k. (tt, tt);
        closes = λ g h y k found. (tt, tt);
        sees_empty = λ g request h writes sight k is. (tt, ((sight, k, refl, refl), (tt, tt)));
        sees_version = λ g request h writes sight v k is. (asked_own a g.incarnation g.requests _ _, ((sight, k, refl, refl), tt));
        turns_open = λ g o. (tt, tt);
        hears_open = λ g o c request answer takes k awaited. (tt, tt);
        gets = λ g o clouds. (asked_own a g.incarnation g.requests clouds _, tt);
        loses = λ g o. (tt, tt);
        shows = λ g o bytes all. (tt, (tt, tt));
        turns_upload = λ g x u. (tt, tt);
        hears_upload = λ g x u c request answer k new few. (tt, tt);
        puts = λ g x u clouds k within. (asked_own a g.incarnation g.requests clouds _, tt);
        commits = λ g x u c request answer k new just. (tt, tt);
        drops = λ g x why. (tt, tt);
        downs = λ g up k. (tt, (tt, tt));
        ups = λ g up k. (tt, (tt, tt));
      }

  begins_so : (g : Agent Row) (x : Closed Row) → Speaks (closing g (record x { upload = None })) (begins s rows a g x)
  begins_so g x = (asked_own a g.incarnation g.requests (below (clouds_of s)) _, tt)

  pub reacted_speaks : (g : Agent Row) (given : Given) (input : Input Row) → is_up g.life ≡ has_up input → IsInput told input
      → Speaks g (reacted s rows a g given input)
  reacted_speaks g given input up k = reacts s rows a told given Speaks (moves given) begins_so tt g input up k
