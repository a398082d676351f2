-- What an agent asks in a reaction it drew in it: requests under new numbers, and files with new ids.
use Rattle.std.proofs.Common.{◌≡◌, ℕ, ◌+◌, ◌*◌, ◌^◌, ◌<◌, ◌≤◌, List, true, refl, sym, ◌∙◌, arith, le_refl, le-add_right, Option, Some, None, Result, Ok, Err}
use Rattle.scfs_base.specs.declared.naming.RequestNo.{RequestNo}
use Rattle.scfs_schedule.specs.declared.types.Call.{Call}
use Rattle.scfs_schedule.specs.declared.types.Call.TheVariants as calls
use Rattle.scfs_schedule.specs.declared.types.Refusal.{Refusal}
use Rattle.scfs_model.specs.Format.{Setup}
use Rattle.scfs_model.specs.Versions.{Versions}
use Rattle.scfs_model.specs.Given.{Given}
use Rattle.scfs_model.specs.Lives.{is_up, is_ready}
use Rattle.scfs_model.specs.NameSteps.{Make, Look}
use Rattle.scfs_model.specs.LockSteps.{Unlock_all}
use Rattle.scfs_model.specs.SessionSteps.{Commit}
use Rattle.scfs_model.specs.Steps.{Step, On_names, On_locks, On_sessions}
use Rattle.scfs_model.specs.Agents.{Waiting, Request, Agent, Input, Calls, Tells, Hears, Turns, Crashes, Starts, Reaction, silent, asks_step, followed}
use Rattle.scfs_model.specs.Calls.{path_names, unless_refused, makes, call_of}
use Rattle.scfs_model.specs.Reactions.{next_life, next_begun, responded, reacted}
use Rattle.scfs_laws.proofs.Lists.{Each, Pairs, chosen, each-map, each-append, pairs-join}
use Rattle.scfs_laws.proofs.Moves.{Known, IsCommon, any_reply, has_up, IsInput, Moves, responds, next_begins}

-- of the requests of one agent, another one
abbrev pub IsOther : RequestNo → RequestNo → Type 0
IsOther r q = r.incarnation ≡ q.incarnation → ¬ (r.number ≡ q.number)

-- the files that an agent drew, in a count that goes on with its incarnations
abbrev pub files_by : {V : Type 0} → Agent V → ℕ
files_by g = g.incarnation * 2 ^ 32 + g.files

module _ {V : Type 0} where
  -- a step makes no file but one of an agent between two counts
  abbrev pub MakesIn : (a low high : ℕ) → Step V → Type 0
  MakesIn a low high (On_names (Make names id)) = (a * 2 ^ 56 + low < id.0) × (id.0 ≤ a * 2 ^ 56 + high)
  MakesIn a low high (On_names (Look names)) = Unit {0}
  MakesIn a low high (On_locks x) = Unit {0}
  MakesIn a low high (On_sessions x) = Unit {0}

  -- two steps don't make one file
  abbrev pub FilesApart : Step V → Step V → Type 0
  FilesApart (On_names (Make names id)) (On_names (Make others other)) = ¬ (id.0 ≡ other.0)
  FilesApart x y = Unit {0}

  -- two requests of an agent are different, and don't make one file
  abbrev pub Apart : Request V → Request V → Type 0
  Apart x y = IsOther x.number y.number × FilesApart x.step y.step

  pub makes_wider : (a low high low2 high2 : ℕ) (x : Step V) → low2 ≤ low → high ≤ high2 → MakesIn a low high x → MakesIn a low2 high2 x
  makes_wider a low high low2 high2 (On_names (Make names id)) l m h = (omega (arith, l, h.0), omega (arith, m, h.1))
  makes_wider a low high low2 high2 (On_names (Look names)) l m h = tt
  makes_wider a low high low2 high2 (On_locks x) l m h = tt
  makes_wider a low high low2 high2 (On_sessions x) l m h = tt

  pub makes_apart : (a low high low2 high2 : ℕ) (x y : Step V) → high ≤ low2 → MakesIn a low high x → MakesIn a low2 high2 y → FilesApart x y
  makes_apart a low high low2 high2 (On_names (Make names id)) (On_names (Make others other)) l h k = λ same. omega (arith, l, h.1, k.0, same)
  makes_apart a low high low2 high2 _ _ l h k = tt

  makes_common : (a low high : ℕ) (step : Step V) → IsCommon step → MakesIn a low high step
  makes_common a low high (On_names (Make names id)) common = absurd common
  makes_common a low high (On_names (Look names)) common = tt
  makes_common a low high (On_locks x) common = tt
  makes_common a low high (On_sessions x) common = tt

abbrev NoFile : Call → Type 0
NoFile (calls.Create path) = ⊥
NoFile other = Unit {0}

module _ {V : Type 0} (s : Setup) (vs : Versions V) (a : ℕ) where
  -- a request of the agent in an incarnation, between two counts of requests and two of files
  abbrev pub IsDrawn : (i q q2 f f2 : ℕ) → Request V → Type 0
  IsDrawn i q q2 f f2 x =
      (x.number.agent ≡ a) × (x.number.incarnation ≡ i) × (q < x.number.number) × (x.number.number ≤ q2) × MakesIn a f f2 x.step

  -- what a reaction asks was drawn in it, and at most k files were
  abbrev pub Draws : (k : ℕ) → Agent V → Reaction V → Type 0
  Draws k g r =
      (r.agent.incarnation ≡ g.incarnation) × (g.requests ≤ r.agent.requests) × (g.files ≤ r.agent.files) × (r.agent.files ≤ g.files + k)
      × Each (IsDrawn g.incarnation g.requests r.agent.requests (files_by g) (files_by r.agent)) r.steps × Pairs Apart r.steps

  draws_follow : (k : ℕ) (g : Agent V) (first second : Reaction V) → Draws k g first → Draws 0 first.agent second
      → Draws k g (followed first (λ next. second))
  draws_follow k g first second h n =
      let m : Agent V = first.agent in
      let l : Agent V = second.agent in (
        omega (arith, n.0, h.0),
        omega (arith, n.1, h.1),
        omega (arith, n.2, h.2),
        omega (arith, n.3, h.3),
        each-append _ first.steps second.steps
            (each-map _ _ (λ x d. (
              d.0,
              d.1,
              d.2,
              omega (arith, d.3, n.1),
              makes_wider a (files_by g) (files_by m) (files_by g) (files_by l) x.step
                  (le_refl _) (omega (arith, n.0, n.2)) d.4,
            )) first.steps h.4)
            (each-map _ _ (λ x d. (
              d.0,
              omega (arith, d.1, h.0),
              omega (arith, d.2, h.1),
              d.3,
              makes_wider a (files_by m) (files_by l) (files_by g) (files_by l)
                  x.step (omega (arith, h.0, h.2)) (le_refl _) d.4,
            )) second.steps n.4),
        pairs-join Apart first.steps second.steps h.5 n.5
            (each-map _ _ (λ x d. each-map _ _ (λ y f. (
              (λ one same. omega (arith, same, d.3, f.2)),
              makes_apart a (files_by g) (files_by m) (files_by m) (files_by l) x.step y.step (le_refl _) d.4 f.4,
            )) second.steps n.4) first.steps h.4),
      )

  draws_silent : (k : ℕ) (g : Agent V) → Draws k g (silent g)
  draws_silent k g = (refl, le_refl _, le_refl _, le-add_right _ _, tt, tt)

  draws_step : (k : ℕ) (g : Agent V) (step : Step V) → MakesIn a (files_by g) (files_by g) step → Draws k g (asks_step a g step)
  draws_step k g step makes =
      (refl, le-add_right _ _, le_refl _, le-add_right _ _, ((refl, refl, omega arith, le_refl _, makes), tt), (tt, tt))

  -- all but a call that makes a file, and a start
  abbrev others : Known V
  others =
      record {
        call = NoFile;
        sight = λ request sight. Unit {0};
        answer = λ c request answer. Unit {0};
        turn = Unit {0};
        crash = Unit {0};
        start = ⊥;
        takes = Unit {0};
      }

  moves : (given : Given) → Moves s vs a others given (Draws 0)
  moves given =
      record {
        still = draws_silent 0;
        follow = λ g first second order. draws_follow 0 g first second;
        aside = λ g life leases tallies opens same. draws_silent 0 g;
        told = λ g request. draws_silent 0 g;
        frees = λ g takes. draws_silent 0 g;
        says_plain = λ g x plain. draws_silent 0 g;
        asks = λ g x. draws_step 0 g (On_locks x) tt;
        steps = λ g step common. draws_step 0 g step (makes_common a (files_by g) (files_by g) step common);
        makes = λ g path names none. absurd none;
        reads = λ g h offset count bytes k ok. draws_silent 0 g;
        writes = λ g h offset new y k ok. draws_silent 0 g;
        truncates = λ g h size y k ok. draws_silent 0 g;
        ends = λ g h k. draws_silent 0 g;
        closes = λ g h y k found. draws_silent 0 g;
        sees_empty = λ g request h writes sight k is. draws_silent 0 g;
        sees_version = λ g request h writes sight v k is. (refl, le-add_right _ _, le_refl _, le-add_right _ _, tt, tt);
        turns_open = λ g o. draws_silent 0 g;
        hears_open = λ g o c request answer takes k awaited. draws_silent 0 g;
        gets = λ g o clouds. (refl, le-add_right _ _, le_refl _, le-add_right _ _, tt, tt);
        loses = λ g o. draws_silent 0 g;
        shows = λ g o bytes all. draws_silent 0 g;
        turns_upload = λ g x u. draws_silent 0 g;
        hears_upload = λ g x u c request answer k new few. draws_silent 0 g;
        puts = λ g x u clouds k within. (refl, le-add_right _ _, le_refl _, le-add_right _ _, tt, tt);
        commits = λ g x u c request answer k new just. draws_step 0 g (On_sessions (Commit x.number u.version)) tt;
        drops = λ g x why. draws_silent 0 g;
        downs = λ g up k. draws_silent 0 g;
        ups = λ g up none. absurd none;
      }

  nexts : (g : Agent V) → Draws 0 g (next_begun s vs a g g.closed)
  nexts = next_begins s vs a (Draws 0) (draws_silent 0) (λ g x. (refl, le-add_right _ _, le_refl _, le-add_right _ _, tt, tt))

  draws_more : (g : Agent V) (r : Reaction V) → Draws 0 g r → Draws 1 g r
  draws_more g r h = (h.0, h.1, h.2, omega (arith, h.3), h.4, h.5)

  -- a file is made
  draws_file : (g : Agent V) (names : List (List ℕ)) → Draws 1 g (makes a g names)
  draws_file g names =
      (refl, le-add_right _ _, le-add_right _ _, le_refl _, ((refl, refl, omega arith, le_refl _, (omega arith, omega arith)), tt), (tt, tt))

  made : (g : Agent V) (names : Result (List (List ℕ)) Refusal) → Draws 1 g (unless_refused g names (makes a g))
  made g (Ok names) = draws_file g names
  made g (Err why) = draws_silent 1 g

  creates : (g : Agent V) (path : List ℕ) (w : Option (Waiting V)) → Draws 1 g (call_of a s g (calls.Create path) w)
  creates g path None = chosen (Draws 1 g) (is_ready g.life) _ _ (made g (path_names s path)) (draws_silent 1 g)
  creates g path (Some w) = draws_silent 1 g

  -- whatever comes to an agent that is up
  module _ (g : Agent V) (up : is_up g.life ≡ true) (given : Given) where
    others_draw : (input : Input V) → has_up input ≡ true → IsInput others input → Draws 1 g (responded s vs a g given input)
    others_draw input ups k = draws_more g (responded s vs a g given input) (responds s vs a others given (Draws 0) (moves given) tt g input (up ∙ sym ups) k)

    called : (call : Call) → Draws 1 g (call_of a s g call g.waiting)
    called (calls.Create path) = creates g path g.waiting
    called other = others_draw (Calls other) refl tt

    responses : (input : Input V) → has_up input ≡ true → Draws 1 g (responded s vs a g given input)
    responses (Calls call) ups = called call
    responses (Tells request o) ups = others_draw (Tells request o) refl (any_reply others (λ request sight. tt) request o)
    responses (Hears c request answer) ups = others_draw (Hears c request answer) refl tt
    responses Turns ups = others_draw Turns refl tt
    responses Crashes ups = others_draw Crashes refl tt
    responses Starts ups = cc

    pub reacted_draws : (input : Input V) → has_up input ≡ true → Draws 1 g (reacted s vs a g given input)
    reacted_draws input ups =
        let first : Reaction V = responded s vs a g given input in
        draws_follow 1 g first (next_begun s vs a first.agent first.agent.closed) (responses input ups) (nexts first.agent)

  -- a start, as the agent of the next incarnation sees it
  pub started_draws : (g : Agent V) (given : Given) → Draws 0 (next_life g) (reacted s vs a g given Starts)
  started_draws g given =
      let first : Reaction V = responded s vs a g given Starts in
      draws_follow 0 (next_life g) first (next_begun s vs a first.agent first.agent.closed)
      (draws_step 0 (next_life g) (On_locks Unlock_all) tt) (nexts first.agent)
