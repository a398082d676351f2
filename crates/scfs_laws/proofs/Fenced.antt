-- A close that was completed had its session's lock, alone on the file since its locked line, and found the file at the version before.
use Rattle.std.proofs.Common.{◌≡◌, ◌⊎◌, inl, inr, ℕ, ◌+◌, ◌-◌, List, [], ◌∷◌, Bool, true, ◌&&◌, nat_lt, refl, sym, ap, ◌∙◌, subst, Some, Contains, arith, eqb, slice_get}
use Rattle.std.proofs.lemmas.Bool.{and_parts, eqb-true}
use Rattle.std.proofs.lemmas.Bool.Decides.{nat_tests}
use Rattle.scfs_base.specs.declared.naming.FileId.{FileId}
use Rattle.scfs_base.specs.declared.naming.RequestNo.{RequestNo}
use Rattle.scfs_schedule.specs.declared.types.Event.{Event}
use Rattle.scfs_schedule.specs.declared.types.Event.TheVariants as events
use Rattle.scfs_schedule.specs.declared.types.Line.{Line}
use Rattle.scfs_schedule.specs.declared.types.Line.TheVariants as lines
use Rattle.scfs_model.specs.Lists.{without_first}
use Rattle.scfs_model.specs.Names.{same_file}
use Rattle.scfs_model.specs.Format.{Setup}
use Rattle.scfs_model.specs.History.{Entry, History}
use Rattle.scfs_model.specs.Versions.{Versions}
use Rattle.scfs_model.specs.Given.{given_of}
use Rattle.scfs_model.specs.Tree.{Lock, Tree, live, node_at, is_lock_by}
use Rattle.scfs_model.specs.SessionSteps.{Session_step, Open_write, Commit, new_lock, session_after, session_line}
use Rattle.scfs_model.specs.Steps.{Step, On_names, On_locks, On_sessions, after_ok, line_of, served, served_line}
use Rattle.scfs_model.specs.Agents.{Request}
use Rattle.scfs_model.specs.Events.{Step_served, Space_has, place_of}
use Rattle.scfs_model.specs.States.{Seat, State}
use Rattle.scfs_model.specs.Runs.{state_after, effect_after, Follows}
use Rattle.scfs_laws.specs.TreeLaws.{CompletionKeeps}
use Rattle.scfs_laws.specs.Fences.{Serves, live_locks, IsLocked, HasSince, IsFenced, CommitsAreFenced}
use Rattle.scfs_laws.proofs.Lists.{Each, eqb-refl, each-map, each-two, each-append, each-without, each-filter, each-fewer, each-found}
use Rattle.scfs_laws.proofs.NewestTree.{found_passes}
use Rattle.scfs_laws.proofs.Ways.{of_event}
use Rattle.scfs_laws.proofs.NamesSteps.{session_cases}
use Rattle.scfs_laws.proofs.Commits.{committed}
use Rattle.scfs_laws.proofs.NamesLocks.{pairs_alone, live_pairs, locks_cases}

space_event : (event : Event) (a : ℕ) → place_of event ≡ Space_has a Step_served → event ≡ events.Space a
space_event (events.Space b) a h = cc
space_event other a h = absurd (none h)
  where
    none : place_of other ≡ Space_has a Step_served → ⊥
    none e = cc

there_line : {xs : List Line} {l : Line} → xs ≡ l ∷ [] → Contains xs l
there_line {xs} {l} same = subst (λ ys. Contains ys l) (sym same) (0, omega arith, refl)

owned_by : (l : Lock) (request : RequestNo) → l.agent ≡ request.agent → l.incarnation ≡ request.incarnation
    → is_lock_by request l.file l.session l ≡ true
owned_by l request mine same = rw (mine, same, eqb-refl l.file.0, eqb-refl request.agent, eqb-refl request.incarnation, eqb-refl l.session)

-- whose lock it is
owner_of : (l : Lock) (request : RequestNo) (file : FileId) (session : ℕ) → is_lock_by request file session l ≡ true
    → (l.file ≡ file) × (l.agent ≡ request.agent) × (l.incarnation ≡ request.incarnation) × (l.session ≡ session)
owner_of l request file session is =
    let third = and_parts (same_file l.file file && eqb l.agent request.agent && eqb l.incarnation request.incarnation) (eqb l.session session) is in
    let second = and_parts (same_file l.file file && eqb l.agent request.agent) (eqb l.incarnation request.incarnation) third.0 in
    let first = and_parts (same_file l.file file) (eqb l.agent request.agent) second.0 in (
      ap (λ n. record { 0 = n }) (eqb-true l.file.0 file.0 first.0),
      eqb-true l.agent request.agent first.1,
      eqb-true l.incarnation request.incarnation second.1,
      eqb-true l.session session third.1,
    )

-- a lock that lives later lives now
alive : (now more until : ℕ) → nat_lt (now + more) until ≡ true → nat_lt now until ≡ true
alive now more until later = grind (arith, nat_tests)

module _ {V : Type 0} (s : Setup) (vs : Versions V) (keeps : CompletionKeeps vs) where
  -- a session had its lock since its locked line, or has it from this entry on
  abbrev Since : History → Lock → Type 0
  Since past l =
      (request : RequestNo) → l.agent ≡ request.agent → l.incarnation ≡ request.incarnation → HasSince s vs past request l.file l.session

  abbrev From : History → Entry → Lock → Type 0
  From past e l =
      (request : RequestNo) → l.agent ≡ request.agent → l.incarnation ≡ request.incarnation → IsLocked s vs past e request l.file l.session

  module _ (past : History) (e : Entry) (h : Each (Since past) (live_locks s vs past)) where
    abbrev Either : Lock → Type 0
    Either l = From past e l ⊎ Since past l

    old : Each Either (live_locks s vs past)
    old = each-map (Since past) Either (λ l k. inr k) (live_locks s vs past) h

    -- where a step is served
    module _ (a : ℕ) (seat : Seat V) (request : RequestNo) (rest : List (Request V)) (found : slice_get (state_after s vs past).seats a ≡ Some seat)
        (is : place_of e.event ≡ Space_has a Step_served) where
      abbrev now : ℕ
      now = (state_after s vs past).clock

      abbrev t : Tree V
      t = live now (state_after s vs past).tree

      abbrev IsNext : Step V → Type 0
      IsNext step = seat.asked ≡ (record { number = request; step = step }) ∷ rest

      serves : (x : Session_step V) → IsNext (On_sessions x) → Serves (state_after s vs past) e request x
      serves x next = (a, seat, rest, space_event e.event a is, found, next)

      abbrev line : Step V → Line
      line step = served_line vs request (served vs t now s.header.lease request step).outcome

      locked : (step : Step V) → IsNext step → e.lines ≡ line step ∷ [] → Each Either (served vs t now s.header.lease request step).tree.locks
      locked (On_names x) next same = old
      locked (On_locks x) next same =
          locks_cases t.locks (now + s.header.lease) request (Each Either) old (λ p. each-filter Either p t.locks old)
          (λ p l there. each-append Either (without_first p t.locks) _ (each-without Either p t.locks old)
          (inr (each-found (Since past) p t.locks l h there), tt)) x
      locked (On_sessions x) next same =
          session_cases vs t now (now + s.header.lease) request
          (λ y r. IsNext (On_sessions y) → e.lines ≡ line_of request (session_line vs) r ∷ []
          → Each Either (after_ok t (session_after vs t request) r).locks)
          (λ y why next same. old)
          (record {
            sees = λ names session n there next same. old;
            locks = λ names session n there free next same.
                let l : Lock = new_lock request session (now + s.header.lease) n.id in
                each-append Either t.locks (l ∷ []) old (
                  inl (λ r mine own. (request, names, l.until, serves (Open_write names session) next, there_line same, mine, own)),
                  tt,
                );
            completes = λ session v l n held there next same. each-without Either _ t.locks old;
          })
          x next same

    -- after the entry
    since_entry : e.lines ≡ (effect_after s vs past e).lines → Each Either (live_locks s vs (e ∷ past))
    since_entry same =
        let state : State V = state_after s vs past in
        let now : ℕ = state.clock in
        of_event s vs state (given_of now e) e.message (λ x. e.lines ≡ x.lines → Each Either (live x.state.clock x.state.tree).locks) (place_of e.event)
        (record {
          nothing = λ shown idle bare same. old;
          later = λ ticks same. each-fewer Either (λ (l : Lock). nat_lt now l.until) (λ (l : Lock). nat_lt (now + ticks) l.until)
              (λ l. alive now ticks l.until) state.tree.locks old;
          gone = λ a seat request found same. old;
          missed = λ a seat oldest rest found is away same. old;
          own = λ a seat x found place up same. old;
          hears = λ c request answer seat found place message up same. old;
          told = λ a seat oldest rest found is up same. old;
          serve = λ a seat oldest rest found is place same.
              each-filter Either (λ (l : Lock). nat_lt now l.until) _ (locked a seat oldest.number rest found place oldest.step is same);
          postpone = λ a seat oldest rest found is same. old;
        })
        same

  each_since : (past : History) → Follows s vs past → Each (Since past) (live_locks s vs past)
  each_since [] follows = tt
  each_since (e ∷ past) follows =
      let h : Each (Since past) (live_locks s vs past) = each_since past follows.1 in
      each-two _ (Either past e h) (Since (e ∷ past)) (λ l alone k request mine own.
      ((l, alone, owned_by l request mine own), elim k [ inl from ↦ inl (from request mine own) | inr since ↦ inr (since request mine own) ]))
      (live_locks s vs (e ∷ past)) (pairs_alone _ (live_pairs s vs (e ∷ past))) (since_entry past e h follows.0)

  -- each committed line
  fenced : (past : History) (e : Entry) → Each (Since past) (live_locks s vs past) → e.lines ≡ (effect_after s vs past e).lines → IsFenced s vs past e
  fenced past e h same request file number inside =
      let state : State V = state_after s vs past in
      let k = committed s vs state (given_of state.clock e) e.message (place_of e.event) request file number
      (subst (λ ls. Contains ls (lines.Committed request file number)) same inside) in
      let of_file : vs.file k.version ≡ file = sym (keeps.file k.version state.clock) ∙ k.of_file in
      let of_number : vs.number k.version ≡ number = sym (keeps.number k.version state.clock) ∙ k.of_number in
      let p : Lock → Bool = is_lock_by request (vs.file k.version) k.session in
      let owner = owner_of k.lock request (vs.file k.version) k.session (found_passes p (live_locks s vs past) k.lock k.held) in
      let since : Since past k.lock = each-found (Since past) p (live_locks s vs past) k.lock h k.held in (
        k.session,
        k.version,
        k.node,
        serves past e h k.a k.seat request k.rest k.found k.is (Commit k.session k.version) k.asked,
        subst (HasSince s vs past request file) owner.3
            (subst (λ f. HasSince s vs past request f k.lock.session) (owner.0 ∙ of_file) (since request owner.1 owner.2)),
        subst (λ n. node_at state.tree.nodes file (n - 1) ≡ Some k.node) of_number
            (subst (λ f. node_at state.tree.nodes f (vs.number k.version - 1) ≡ Some k.node) of_file k.at),
      )

  pub commits_fenced : (past : History) → Follows s vs past → CommitsAreFenced s vs past
  commits_fenced [] follows = tt
  commits_fenced (e ∷ past) follows = (fenced past e (each_since past follows.1) follows.0, commits_fenced past follows.1)
