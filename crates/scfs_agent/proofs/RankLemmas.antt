-- What the rank rule is asked and answers when an agent is told what its step came to.
use Rattle.std.proofs.Common.{◌≡◌, ℕ, List, [], ◌∷◌, ◌++◌, Bool, true, false, cond, Option, Some, None, Ok, Err, refl, sym, ap, ◌∙◌, subst}
use Rattle.std.specs.Prelude.{◌==◌, ◌&&◌, not, is_some, if◌then◌else◌, option_map}
use Rattle.std.proofs.lemmas.List.{append-nil}
use Rattle.scfs_base.specs.declared.naming.RequestNo.{RequestNo}
use Rattle.scfs_policy.specs.declared.rank.RankFacts.{RankFacts}
use Rattle.scfs_schedule.specs.declared.types.Refusal.{Refusal}
use Rattle.scfs_tuples.specs.declared.types.Reply.{Reply}
use Rattle.scfs_tuples.specs.declared.types.Step as tuples
use Rattle.scfs_tuples.specs.declared.types.StepResult.{StepResult}
use Rattle.scfs_tuples.specs.declared.types.StepResult.TheVariants as results
use Rattle.scfs_anchor.specs.Plans.{step_of}
use Rattle.scfs_anchor.specs.Replies.{sight_of, ShowsSight}
use Rattle.scfs_anchor.specs.Items.{row_said}
use Rattle.scfs_anchor.specs.StepPlans.{session_plan}
use Rattle.scfs_anchor.specs.StepReplies.{IsDone, IsRefusal, IsReplyTo, sight_said}
use Rattle.scfs_anchor.specs.declared.seen.Sight.{Sight}
use Rattle.scfs_anchor.proofs.ReplyLemmas.{sight_read}
use Rattle.scfs_model.specs.Format.{Setup}
use Rattle.scfs_model.specs.Layers.{Row, rows}
use Rattle.scfs_model.specs.Given.{Given}
use Rattle.scfs_model.specs.Walks.{OrRefusal}
use Rattle.scfs_model.specs.Runs.{Answers}
use Rattle.scfs_model.specs.SessionSteps as machine
use Rattle.scfs_model.specs.SessionSteps.{Session_step, Open_read, Open_write, Commit, Session_outcome, Sees, Locks, Completes}
use Rattle.scfs_model.specs.Steps.{Step, Outcome, Of_names, Of_locks, Of_sessions}
use Rattle.scfs_model.specs.Agents.{Agent, Closed, Request, silent}
use Rattle.scfs_model.specs.Opens.{As_empty, found, found_version, saw, sighted}
use Rattle.scfs_model.specs.Leases.{leased}
use Rattle.scfs_model.specs.Told.{tells, told, told_commit, untold}
use Rattle.scfs_agent.specs.Telling.{IsIts, outcome_step, pending_step, is_open, has_version, shows_version, reads_version}
use Rattle.scfs_agent.proofs.LeaseLemmas.{told_calm}
use Rattle.scfs_agent.proofs.PendingLemmas.{any_found}
use Rattle.scfs_agent.proofs.ToldLemmas.{sight_is}

-- all answers
pub answers_end : (allows : RankFacts → ℕ → Type 0) (all rest : List RankFacts) (ranks : List ℕ) → rest ≡ []
    → ((more : List ℕ) → Answers allows rest more → Answers allows all (ranks ++ more)) → Answers allows all ranks
answers_end allows all rest ranks none h =
    subst (λ (xs : List ℕ). Answers allows all xs) (append-nil ranks)
    (h [] (subst (λ (facts : List RankFacts). Answers allows facts []) (sym none) tt))

pub shows_done : (result : StepResult) → IsDone result → shows_version result ≡ has_version (sight_of result)
shows_done (results.Did bound taken shown) done = refl
shows_done (results.Refused index found) done = absurd done

shows_refused : (step : tuples.Step) (why : Refusal) (result : StepResult) → IsRefusal step why result → shows_version result ≡ false
shows_refused step why result h = ap shows_version h.2

module _ (s : Setup) (a : ℕ) (given : Given) (agent : Agent Row) where
  abbrev asked : Bool → List RankFacts
  asked b = cond b agent.tallies []

  sighted_by : (h : ℕ) (writes : Bool) (sight : machine.Sight Row) (b : Bool) (o : Option Row)
      → (sighted s rows a agent given h writes sight (if b then As_empty else found_version o)).ranked
      ≡ asked (not b && is_some (option_map row_said o))
  sighted_by h writes sight true None = refl
  sighted_by h writes sight true (Some v) = refl
  sighted_by h writes sight false None = refl
  sighted_by h writes sight false (Some v) = append-nil agent.tallies

  saw_asks : (request : RequestNo) (h : ℕ) (writes : Bool) (sight : machine.Sight Row) (reply : Reply) → ShowsSight reply (sight_said sight)
      → (saw s rows a agent given request h writes sight).ranked ≡ asked (shows_version reply.result)
  saw_asks request h writes sight reply is =
      sighted_by h writes sight (sight.number == 0) sight.version
      ∙ ap (λ (seen : Sight). asked (has_version seen)) (sym (sight_read reply (sight_said sight) is))
      ∙ ap asked (sym (shows_done reply.result (sight_is reply (sight_said sight) is)))

  commit_asks : (xs : List (Closed Row)) (r : OrRefusal (Session_outcome Row)) → (told_commit s rows a agent xs r).ranked ≡ []
  commit_asks [] r = refl
  commit_asks (x ∷ rest) (Ok (Completes session v n)) = refl
  commit_asks (x ∷ rest) (Ok (Sees sight)) = refl
  commit_asks (x ∷ rest) (Ok (Locks sight l)) = refl
  commit_asks (x ∷ rest) (Err why) = refl

module _ (s : Setup) (a : ℕ) (given : Given) (agent : Agent Row) where
  told_asks : (lease : ℕ) (request : RequestNo) (o : Outcome Row) (reply : Reply) → IsReplyTo lease request o reply
      → (told s rows a agent given request o).ranked ≡ asked s a given agent (is_open (outcome_step o) && shows_version reply.result)
  told_asks lease request (Of_names x r) reply is = refl
  told_asks lease request (Of_locks x r) reply is = (told_calm agent x r).ranked
  told_asks lease request (Of_sessions (Commit h v) r) reply is = commit_asks s a given agent agent.closed r
  told_asks lease request (Of_sessions (Open_read names h) (Ok (Sees sight))) reply is = saw_asks s a given agent request h false sight reply is
  told_asks lease request (Of_sessions (Open_read names h) (Ok (Locks sight l))) reply is = absurd is
  told_asks lease request (Of_sessions (Open_read names h) (Ok (Completes session v n))) reply is = absurd is
  told_asks lease request (Of_sessions (Open_read names h) (Err why)) reply is =
      ap (asked s a given agent) (sym (shows_refused (step_of (session_plan lease request (Open_read names h))) why reply.result is))
  told_asks lease request (Of_sessions (Open_write names h) (Ok (Sees sight))) reply is = absurd is
  told_asks lease request (Of_sessions (Open_write names h) (Ok (Locks sight l))) reply is =
      saw_asks s a given (leased agent h l.until) request h true sight reply is.0
  told_asks lease request (Of_sessions (Open_write names h) (Ok (Completes session v n))) reply is = absurd is
  told_asks lease request (Of_sessions (Open_write names h) (Err why)) reply is =
      ap (asked s a given agent) (sym (shows_refused (step_of (session_plan lease request (Open_write names h))) why reply.result is))

-- what is asked, by the code's test
pub tells_asks : (s : Setup) (a lease : ℕ) (agent : Agent Row) (given : Given) (request : RequestNo) (o : Outcome Row) (reply : Reply)
    → IsReplyTo lease request o reply → IsIts (pending_step agent.pending request) (outcome_step o)
    → (tells s rows a agent given request o).ranked ≡ cond (reads_version (pending_step agent.pending request) reply.result) agent.tallies []
tells_asks s a lease agent given request o reply is its =
    ap (λ (b : Bool). (if b then told s rows a (untold agent request) given request o else silent agent).ranked) (any_found request agent.pending)
    ∙ by (pending_step agent.pending request) its where
      by : (p : Option (Request Row)) → IsIts p (outcome_step o)
          → (if is_some p then told s rows a (untold agent request) given request o else silent agent).ranked
          ≡ cond (reads_version p reply.result) agent.tallies []
      by None e = refl
      by (Some x) e =
          told_asks s a given (untold agent request) lease request o reply is
          ∙ ap (λ (step : Step Row). cond (is_open step && shows_version reply.result) agent.tallies []) (sym e)
