-- The steps between an agent and the space where more are asked or what the agent waits for changes.
use Rattle.std.proofs.Common.{◌≡◌, ℕ, ◌+◌, ◌≤◌, List, [], ◌∷◌, ◌++◌, refl, sym, subst, append-nil, arith, Option}
use Rattle.scfs_model.specs.Format.{Setup}
use Rattle.scfs_model.specs.SessionSteps.{Session_step, Open_read, Open_write, Commit}
use Rattle.scfs_model.specs.Steps.{Step, On_names, On_locks, On_sessions}
use Rattle.scfs_model.specs.Layers.{Row}
use Rattle.scfs_model.specs.Agents.{Waiting, Closed, Request}
use Rattle.scfs_model.specs.States.{Reply}
use Rattle.scfs_laws.specs.Held.{Close_seen, Version_seen}
use Rattle.scfs_laws.proofs.Lists.{Each, each-map, each-append}
use Rattle.scfs_laws.proofs.HeldSeats.{IsStepping, IsCommitting, SessionFits, Fits, busy, busy_asked, step_of, busy_replied, RequestFits, ReplyFits, Between}

pub asked_append : (xs ys : List (Request Row)) → busy_asked (xs ++ ys) ≡ busy_asked xs + busy_asked ys
asked_append [] ys = omega arith
asked_append (x ∷ xs) ys = let rest = asked_append xs ys in omega (arith, rest)

pub replied_append : (xs ys : List (Reply Row)) → busy_replied (xs ++ ys) ≡ busy_replied xs + busy_replied ys
replied_append [] ys = omega arith
replied_append (x ∷ xs) ys = let rest = replied_append xs ys in omega (arith, rest)

pub busy_once : (x : Step Row) → busy x ≤ 1
busy_once (On_names x) = omega arith
busy_once (On_locks x) = omega arith
busy_once (On_sessions x) = omega arith

-- a step that nothing waits for rests on nothing
not_busy : {A : Type 0} (n : ℕ) → n ≡ 1 → n ≡ 0 → A
not_busy n one none = absurd (differ n one none)
  where
    differ : (n : ℕ) → n ≡ 1 → n ≡ 0 → ⊥
    differ n one none = omega arith

module _ (s : Setup) (close next : Close_seen) (waiting later : Option (Waiting Row)) (closed after : List (Closed Row)) where
  fits_any : (x : Step Row) → busy x ≡ 0 → Fits s next later after x
  fits_any (On_names x) none = not_busy 1 refl none
  fits_any (On_locks x) none = tt
  fits_any (On_sessions x) none = not_busy 1 refl none

  -- where the agent waits for no step, none is there
  session_idle : (IsStepping waiting → ⊥) → (IsCommitting s waiting closed → ⊥) → (x : Session_step Row) → SessionFits s close waiting closed x → ⊥
  session_idle calm none (Open_read names h) fits = calm fits
  session_idle calm none (Open_write names h) fits = calm fits
  session_idle calm none (Commit h v) fits = none fits.0

  idle : (IsStepping waiting → ⊥) → (IsCommitting s waiting closed → ⊥) → (x : Step Row) → Fits s close waiting closed x → busy x ≡ 0
  idle calm none (On_names x) fits = absurd (calm fits)
  idle calm none (On_locks x) fits = refl
  idle calm none (On_sessions x) fits = absurd (session_idle calm none x fits)

  -- what the agent waits for changes, and what was asked still serves it
  session_loosened : (IsStepping waiting → IsStepping later) → (IsCommitting s waiting closed → IsCommitting s later after) → (x : Session_step Row)
      → SessionFits s close waiting closed x → SessionFits s close later after x
  session_loosened so also (Open_read names h) fits = so fits
  session_loosened so also (Open_write names h) fits = so fits
  session_loosened so also (Commit h v) fits = (also fits.0, fits.1)

  loosened : (IsStepping waiting → IsStepping later) → (IsCommitting s waiting closed → IsCommitting s later after) → (x : Step Row)
      → Fits s close waiting closed x → Fits s close later after x
  loosened so also (On_names x) fits = so fits
  loosened so also (On_locks x) fits = tt
  loosened so also (On_sessions x) fits = session_loosened so also x fits

module _ (s : Setup) (a : ℕ) (versions : List Version_seen) (close next : Close_seen) (waiting later : Option (Waiting Row))
    (closed after : List (Closed Row)) where
  asked_idle : (IsStepping waiting → ⊥) → (IsCommitting s waiting closed → ⊥) → (asked : List (Request Row))
      → Each (RequestFits s a versions close waiting closed) asked → busy_asked asked ≡ 0
  asked_idle calm none [] fits = refl
  asked_idle calm none (q ∷ rest) fits =
      let first = idle s close next waiting later closed after calm none q.step fits.0.1 in
      let others = asked_idle calm none rest fits.1 in omega (arith, first, others)

  replied_idle : (IsStepping waiting → ⊥) → (IsCommitting s waiting closed → ⊥) → (replied : List (Reply Row))
      → Each (ReplyFits s a versions close waiting closed) replied → busy_replied replied ≡ 0
  replied_idle calm none [] fits = refl
  replied_idle calm none (r ∷ rest) fits =
      let first = idle s close next waiting later closed after calm none (step_of r.outcome) fits.0.1 in
      let others = replied_idle calm none rest fits.1 in omega (arith, first, others)

  pub all_idle : (asked : List (Request Row)) (replied : List (Reply Row)) → (IsStepping waiting → ⊥) → (IsCommitting s waiting closed → ⊥)
      → Between s a versions close waiting closed asked replied → busy_asked asked + busy_replied replied ≡ 0
  all_idle asked replied calm none is =
      let first = asked_idle calm none asked is.asks in let others = replied_idle calm none replied is.replies in omega (arith, first, others)

  asked_any : (asked : List (Request Row)) → busy_asked asked ≡ 0 → Each (RequestFits s a versions close waiting closed) asked
      → Each (RequestFits s a versions next later after) asked
  asked_any [] none fits = tt
  asked_any (q ∷ rest) none fits =
      let first : busy q.step ≡ 0 = omega (arith, none) in let others : busy_asked rest ≡ 0 = omega (arith, none) in
      ((fits.0.0, fits_any s close next waiting later closed after q.step first), asked_any rest others fits.1)

  replied_any : (replied : List (Reply Row)) → busy_replied replied ≡ 0 → Each (ReplyFits s a versions close waiting closed) replied
      → Each (ReplyFits s a versions next later after) replied
  replied_any [] none fits = tt
  replied_any (r ∷ rest) none fits =
      let first : busy (step_of r.outcome) ≡ 0 = omega (arith, none) in let others : busy_replied rest ≡ 0 = omega (arith, none) in
      ((fits.0.0, fits_any s close next waiting later closed after (step_of r.outcome) first, fits.0.2), replied_any rest others fits.1)

  -- where no step is waited for, what was asked serves whatever comes
  pub any_change : (asked : List (Request Row)) (replied : List (Reply Row)) → busy_asked asked + busy_replied replied ≡ 0
      → Between s a versions close waiting closed asked replied → Between s a versions next later after asked replied
  any_change asked replied none is = record {
    asks = asked_any asked (omega (arith, none)) is.asks;
    replies = replied_any replied (omega (arith, none)) is.replies;
    alone = is.alone;
  }

  pub loose_change : (asked : List (Request Row)) (replied : List (Reply Row)) → (IsStepping waiting → IsStepping later)
      → (IsCommitting s waiting closed → IsCommitting s later after) → Between s a versions close waiting closed asked replied
      → Between s a versions close later after asked replied
  loose_change asked replied so also is = record {
    asks = each-map (RequestFits s a versions close waiting closed) (RequestFits s a versions close later after)
        (λ q h. (h.0, loosened s close next waiting later closed after so also q.step h.1)) asked is.asks;
    replies = each-map (ReplyFits s a versions close waiting closed) (ReplyFits s a versions close later after)
        (λ r h. (h.0, loosened s close next waiting later closed after so also (step_of r.outcome) h.1, h.2)) replied is.replies;
    alone = is.alone;
  }

module _ (s : Setup) (a : ℕ) (versions : List Version_seen) (close : Close_seen) (waiting : Option (Waiting Row)) (closed : List (Closed Row)) where
  -- one step more is asked, or none
  pub one_asked : (asked : List (Request Row)) (replied : List (Reply Row)) (q : Request Row)
      → busy q.step + (busy_asked asked + busy_replied replied) ≤ 1 → RequestFits s a versions close waiting closed q
      → Between s a versions close waiting closed asked replied → Between s a versions close waiting closed (asked ++ q ∷ []) replied
  one_asked asked replied q few fits is =
      let sum = asked_append asked (q ∷ []) in
      record {
        asks = each-append (RequestFits s a versions close waiting closed) asked (q ∷ []) is.asks (fits, tt);
        replies = is.replies;
        alone = omega (arith, sum, few);
      }

  pub none_asked : (asked : List (Request Row)) (replied : List (Reply Row)) → Between s a versions close waiting closed asked replied
      → Between s a versions close waiting closed (asked ++ []) replied
  none_asked asked replied is = subst (λ (xs : List (Request Row)). Between s a versions close waiting closed xs replied)
      (sym (append-nil asked)) is
