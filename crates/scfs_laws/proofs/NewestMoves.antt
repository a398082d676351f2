-- Whatever comes to an agent, its opens are of the versions of its latest saw line.
use Rattle.std.proofs.Common.{◌≡◌, ℕ, List, [], ◌∷◌, ◌++◌, Bool, true, false, cond, refl, sym, subst, ◌∙◌, Option, Some, None, eqb, fold, IfSome}
use Rattle.std.proofs.lemmas.Bool.{eqb-true, eqb-false}
use Rattle.scfs_base.specs.declared.naming.RequestNo.{RequestNo}
use Rattle.scfs_model.specs.Format.{Setup}
use Rattle.scfs_model.specs.History.{History}
use Rattle.scfs_model.specs.Versions.{Versions}
use Rattle.scfs_model.specs.Given.{Given}
use Rattle.scfs_model.specs.Lives.{is_up}
use Rattle.scfs_model.specs.SessionSteps.{Sight}
use Rattle.scfs_model.specs.Sayings.{Saying}
use Rattle.scfs_model.specs.Sayings as says
use Rattle.scfs_model.specs.Agents.{Opening, Waiting, Agent, Input, Reaction}
use Rattle.scfs_model.specs.Opens.{Found, As_empty, On_clouds, found_version, found}
use Rattle.scfs_model.specs.Reactions.{reacted}
use Rattle.scfs_laws.specs.Newest.{Saw_line, WasNewest, IsNewest, IsFrom}
use Rattle.scfs_laws.specs.Sound.{open_of}
use Rattle.scfs_laws.proofs.Moves.{Known, IsInput, has_up, IsPlain, Moves, reacts}
use Rattle.scfs_laws.proofs.NewestVersions.{VersionOk}

-- the latest saw line after what an agent says
abbrev pub after_saying : Option Saw_line → Saying → Option Saw_line
after_saying latest (says.Saw request file number) = Some (record { request = request; file = file; number = number })
after_saying latest other = latest

abbrev pub after_says : Option Saw_line → List Saying → Option Saw_line
after_says latest xs = fold after_saying latest xs

module _ (past : History) (a : ℕ) where
  -- a sight is the agent's own, of the newest version; an open is of that of the latest sight
  abbrev pub SayOk : Option Saw_line → Saying → Type 0
  SayOk latest (says.Saw request file number) =
      (request.agent ≡ a) × WasNewest past (record { request = request; file = file; number = number })
  SayOk latest (says.Opened session number source size) = IsNewest past latest number × IsFrom number source size
  SayOk latest other = Unit {0}

  abbrev pub SaysOk : Option Saw_line → List Saying → Type 0
  SaysOk latest [] = Unit {0}
  SaysOk latest (x ∷ xs) = SayOk latest x × SaysOk (after_saying latest x) xs

  says_append : (latest : Option Saw_line) (xs ys : List Saying) → SaysOk latest xs → SaysOk (after_says latest xs) ys → SaysOk latest (xs ++ ys)
  says_append latest [] ys h k = k
  says_append latest (x ∷ xs) ys h k = (h.0, says_append (after_saying latest x) xs ys h.1 k)

  after_append : (latest : Option Saw_line) (xs ys : List Saying) → after_says latest (xs ++ ys) ≡ after_says (after_says latest xs) ys
  after_append latest [] ys = refl
  after_append latest (x ∷ xs) ys = after_append (after_saying latest x) xs ys

  plain_ok : (latest : Option Saw_line) (x : Saying) → IsPlain x → SayOk latest x × (after_saying latest x ≡ latest)
  plain_ok latest (says.Saw request file number) plain = absurd plain
  plain_ok latest (says.Opened session number source size) plain = absurd plain
  plain_ok latest _ plain = (tt, refl)

module _ {V : Type 0} (vs : Versions V) (past : History) where
  -- what is known of an open that reads the clouds
  abbrev pub IsOpen : Option Saw_line → Opening V → Type 0
  IsOpen latest o = IsNewest past latest (vs.number o.version) × ¬ (vs.number o.version ≡ 0)

  abbrev pub WaitOk : Option Saw_line → Option (Waiting V) → Type 0
  WaitOk latest w = IfSome (open_of w) (IsOpen latest)

  -- of a sight that is told
  abbrev pub SightOk : (a : ℕ) → RequestNo → Sight V → Type 0
  SightOk a request sight =
      (request.agent ≡ a) × WasNewest past (record { request = request; file = sight.file; number = sight.number })
      × VersionOk vs sight.number sight.version

  -- of where its version is found
  abbrev FoundOk : (number : ℕ) → Found V → Type 0
  FoundOk number As_empty = number ≡ 0
  FoundOk number (On_clouds v) = (vs.number v ≡ number) × ¬ (number ≡ 0)

  found_some : (number : ℕ) (v : Option V) → VersionOk vs number v → ¬ (number ≡ 0) → FoundOk number (found_version v)
  found_some number None h apart = h
  found_some number (Some v) h apart = (h, apart)

  found_by : (number : ℕ) (b : Bool) (v : Option V) → eqb number 0 ≡ b → VersionOk vs number v → FoundOk number (cond b As_empty (found_version v))
  found_by number true v e h = eqb-true number 0 e
  found_by number false v e h = found_some number v h (eqb-false number 0 e)

  found_ok : (sight : Sight V) (f : Found V) → VersionOk vs sight.number sight.version → found sight ≡ f → FoundOk sight.number f
  found_ok sight f h is = subst (FoundOk sight.number) is (found_by sight.number (eqb sight.number 0) sight.version refl h)

module _ {V : Type 0} (s : Setup) (vs : Versions V) (past : History) (a : ℕ) where
  -- what it says is so, and what it waits for then
  abbrev pub Whole : Agent V → Reaction V → Type 0
  Whole g r =
      (latest : Option Saw_line) → WaitOk vs past latest g.waiting
      → SaysOk past a latest r.says × WaitOk vs past (after_says latest r.says) r.agent.waiting

  abbrev pub known : Known V
  known =
      record {
        call = λ call. Unit {0};
        sight = SightOk vs past a;
        answer = λ c request answer. Unit {0};
        turn = Unit {0};
        crash = Unit {0};
        start = Unit {0};
        takes = Unit {0};
      }

  moves : (given : Given) → Moves s vs a known given Whole
  moves given =
      record {
        still = λ g latest w. (tt, w);
        follow = λ g first second order one two latest w.
            let h = one latest w in
            let n = two (after_says latest first.says) h.1 in (
              says_append past a latest first.says second.says h.0 n.0,
              subst (λ l. WaitOk vs past l second.agent.waiting) (sym (after_append past a latest first.says second.says)) n.1,
            );
        aside = λ g life leases tallies opens same latest w. (tt, w);
        told = λ g request latest w. (tt, w);
        frees = λ g takes latest w. (tt, tt);
        says_plain = λ g x plain latest w.
            let k = plain_ok past a latest x plain in ((k.0, tt), subst (λ l. WaitOk vs past l g.waiting) (sym k.1) w);
        asks = λ g x latest w. (tt, w);
        steps = λ g step common latest w. (tt, tt);
        makes = λ g path names k latest w. (tt, tt);
        reads = λ g h offset count bytes k ok latest w. ((tt, tt), w);
        writes = λ g h offset new y k ok latest w. ((tt, tt), w);
        truncates = λ g h size y k ok latest w. ((tt, tt), w);
        ends = λ g h k latest w. (tt, w);
        closes = λ g h y k found latest w. (tt, tt);
        sees_empty = λ g request h writes sight k is latest w.
            let none : sight.number ≡ 0 = found_ok vs past sight As_empty k.2 is in
            (((k.0, k.1), (((refl, k.1), ((λ e. (refl, refl)), (λ apart. absurd (apart none)))), tt)), tt);
        sees_version = λ g request h writes sight v k is latest w.
            let there = found_ok vs past sight (On_clouds v) k.2 is in
            (((k.0, k.1), tt), ((there.0, k.1), λ e. there.1 (sym there.0 ∙ e)));
        turns_open = λ g o latest w. (tt, w);
        hears_open = λ g o c request answer takes k awaited latest w. (tt, w);
        gets = λ g o clouds latest w. (tt, w);
        loses = λ g o latest w. (tt, tt);
        shows = λ g o bytes all latest w. (((w.0, ((λ e. absurd (w.1 e)), (λ apart. refl))), tt), tt);
        turns_upload = λ g x u latest w. (tt, w);
        hears_upload = λ g x u c request answer k new few latest w. (tt, w);
        puts = λ g x u clouds k within latest w. (tt, w);
        commits = λ g x u c request answer k new just latest w. (tt, w);
        drops = λ g x why latest w. (tt, tt);
        downs = λ g up k latest w. ((tt, tt), tt);
        ups = λ g up k latest w. ((tt, tt), w);
      }

  pub whole_reacted : (g : Agent V) (given : Given) (input : Input V) → is_up g.life ≡ has_up input → IsInput known input
      → Whole g (reacted s vs a g given input)
  whole_reacted g given input up k = reacts s vs a known given Whole (moves given) (λ g x latest w. (tt, w)) tt g input up k
