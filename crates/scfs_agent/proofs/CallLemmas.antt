-- Calls on sessions.
use Rattle.std.proofs.Common.{◌≡◌, ℕ, [], ◌∷◌, Bool, true, false, cond, Option, Some, None, refl, sym, ap, ◌∙◌, subst}
use Rattle.std.specs.Ordering.{nat_cmp}
use Rattle.std.specs.BTreeMap.{is_at}
use Rattle.scfs_schedule.specs.declared.types.Refusal.{Refusal}
use Rattle.scfs_schedule.specs.declared.types.Refusal.TheVariants as refusals
use Rattle.scfs_session.specs.declared.sessions.Session.{Session}
use Rattle.scfs_session.specs.Open.{OpenSessions, session_of, ended}
use Rattle.scfs_model.specs.Layers.{Row}
use Rattle.scfs_model.specs.Agents.{Reaction}
use Rattle.scfs_model.specs.Calls.{refuse, close}
use Rattle.scfs_agent.specs.State.{AgentState, setup}
use Rattle.scfs_agent.specs.Settled.{settled, HasBegun}
use Rattle.scfs_agent.proofs.SettledLemmas.{settled_same}

-- no session of the number is taken away
remove_by : (b : Bool) (e : ℕ × Session) (es rest : OpenSessions) (found : Option Session) → cond b (Some e.1) found ≡ None
    → (found ≡ None → rest ≡ es)
    → cond b es (e ∷ rest) ≡ e ∷ es
remove_by true e es rest found none h = cc
remove_by false e es rest found none h = ap (λ (xs : OpenSessions). e ∷ xs) (h none)

ended_none : (sessions : OpenSessions) (h : ℕ) → session_of sessions h ≡ None → ended sessions h ≡ sessions
ended_none [] h none = refl
ended_none (e ∷ es) h none = remove_by (is_at (nat_cmp h) e.0) e es (ended es h) (session_of es h) none (ended_none es h)

-- the close of a session
module _ (old : AgentState) (h : ℕ) (none : old.agent.closed ≡ []) where
  abbrev closes : Option Session → Reaction Row
  closes o = settled (setup old) old.no (close old.agent h o)

  nothing_begins : (r : Reaction Row) → r.agent.closed ≡ old.agent.closed → settled (setup old) old.no r ≡ r
  nothing_begins r e = settled_same (setup old) old.no r (subst HasBegun (sym (e ∙ none)) tt)

  close_none : session_of old.agent.sessions h ≡ None → closes (session_of old.agent.sessions h) ≡ refuse old.agent refusals.BadHandle
  close_none e = ap closes e ∙ nothing_begins (refuse old.agent refusals.BadHandle) refl

-- an agent with these sessions
abbrev pub with_sessions : AgentState → OpenSessions → AgentState
with_sessions w sessions = record w { agent = record w.agent { sessions = sessions } }

-- the close of a session, said of the agent before
module _ (old v : AgentState) (view_is : v ≡ old) (h : ℕ) (none : old.agent.closed ≡ []) (rest : OpenSessions) (left : rest
    ≡ ended v.agent.sessions h) where
  abbrev closing : Reaction Row
  closing = closes old h none (session_of old.agent.sessions h)

  left_before : with_sessions v rest ≡ with_sessions old (ended old.agent.sessions h)
  left_before =
      ap (λ (w : AgentState). with_sessions w rest) view_is
      ∙ ap (with_sessions old) (left ∙ ap (λ (w : AgentState). ended w.agent.sessions h) view_is)

  -- no session has the number
  module _ (why : Refusal) (bad : why ≡ refusals.BadHandle) (missing : session_of v.agent.sessions h ≡ None) where
    missing_before : session_of old.agent.sessions h ≡ None
    missing_before = ap (λ (w : AgentState). session_of w.agent.sessions h) (sym view_is) ∙ missing

    pub close_none_after : with_sessions v rest ≡ record old { agent = closing.agent }
    close_none_after =
        left_before ∙ ap (with_sessions old) (ended_none old.agent.sessions h missing_before)
        ∙ ap (λ (r : Reaction Row). record old { agent = r.agent }) (sym (close_none old h none missing_before))
