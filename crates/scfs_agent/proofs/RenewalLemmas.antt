-- Renewing the first lock that is due, and then those of higher sessions, renews all that are due.
use Rattle.std.proofs.Common.{◌≡◌, ◌∙◌, ℕ, ◌+◌, ◌<◌, ◌≤◌, Bool, true, false, cond, not, List, [], ◌∷◌, ◌++◌, length, Option, Some, None, refl, sym, ap, subst, inl, inr, arith, append_assoc}
use Rattle.std.specs.Prelude.{filter, find, option_map, ◌&&◌}
use Rattle.std.specs.List.{All, AllByRecursion}
use Rattle.std.proofs.lemmas.Bool.{lt-ltb, le-ltb, cases_lt}
use Rattle.std.proofs.lemmas.Bool.Decides.{eqb_tells}
use Rattle.std.proofs.lemmas.List.{append-nil}
use Rattle.std.proofs.lemmas.List.Elements.{All-nil, All-head, All-tail, All-append}
use Rattle.scfs_base.specs.declared.naming.FileId.{FileId}
use Rattle.scfs_lease.specs.declared.leases.Lease.{Lease}
use Rattle.scfs_lease.specs.Leases.{IsRising, is_due, is_due_after, first_due, with_renewal}
use Rattle.scfs_model.specs.Lists.{if_some}
use Rattle.scfs_model.specs.Layers.{Row, rows}
use Rattle.scfs_model.specs.Agents.{Agent, Reaction, silent, followed}
use Rattle.scfs_model.specs.Leases.{file_of, renews, renews_all, renews_due}
use Rattle.scfs_agent.specs.State.{AgentState}
use Rattle.scfs_agent.specs.Outputs.{outputs_by}
use Rattle.scfs_agent.specs.Keeping.{AreLeases, FitsOutput}
use Rattle.scfs_agent.specs.declared.types.Output.{Output}
use Rattle.scfs_agent.proofs.CloudLists.{filter_short}
use Rattle.scfs_agent.proofs.LeaseLemmas.{outputs_followed}

module _ (now lease : ℕ) where
  -- the locks of sessions above this one that are due
  abbrev pub due : (after : ℕ) → List Lease → List Lease
  due after leases = filter (is_due_after now lease after) leases

  abbrev wanted : Lease → Bool
  wanted l = is_due now lease l && not l.asked

  due_all : (leases : List Lease) → All (λ (l : Lease). 1 ≤ l.session) leases → due 0 leases ≡ filter wanted leases
  due_all [] numbered = refl
  due_all (l ∷ rest) numbered =
      let first : 0 < l.session = omega (arith, All-head (λ (l : Lease). 1 ≤ l.session) l rest numbered) in
      rw (lt-ltb 0 l.session first, due_all rest (All-tail (λ (l : Lease). 1 ≤ l.session) l rest numbered))

  -- among higher sessions the same are due
  due_above : (after session : ℕ) (leases : List Lease) → after < session → AllByRecursion (λ (m : Lease). session < m.session) leases
      → due after leases ≡ due session leases
  due_above after session [] low above = refl
  due_above after session (l ∷ rest) low above =
      rw (lt-ltb after l.session (omega (arith, low, above.0)), lt-ltb session l.session above.0, due_above after session rest low above.1)

  -- a session that is found is above what all are above
  found_above : (test : Lease → Bool) (n session : ℕ) (leases : List Lease) → AllByRecursion (λ (m : Lease). n < m.session) leases
      → option_map (λ (l : Lease). l.session) (find test leases) ≡ Some session → n < session
  found_above test n session [] above is = cc
  found_above test n session (l ∷ rest) above is = by (test l) is (found_above test n session rest above.1) where
    by : (b : Bool) → option_map (λ (l : Lease). l.session) (cond b (Some l) (find test rest)) ≡ Some session
        → (option_map (λ (l : Lease). l.session) (find test rest) ≡ Some session → n < session) → n < session
    by true is later = let same : l.session ≡ session = cc in omega (arith, above.0, same)
    by false is later = later is

  -- the first lock that is due, and those behind it
  pub record IsFirst (after session : ℕ) (leases : List Lease) : Type 0 where
    pub lock : Lease
    pub is : lock.session ≡ session
    pub due : due after leases ≡ lock ∷ due session leases

  first_by : (b : Bool) (after session : ℕ) (l : Lease) (rest : List Lease) → is_due_after now lease after l ≡ b → IsRising (l ∷ rest)
      → option_map (λ (l : Lease). l.session) (cond b (Some l) (find (is_due_after now lease after) rest)) ≡ Some session
      → (first_due now lease after rest ≡ Some session → IsFirst after session rest) → IsFirst after session (l ∷ rest)
  first_by true after session l rest passes rising is later =
      let same : l.session ≡ session = cc in
      let above : AllByRecursion (λ (m : Lease). session < m.session) rest =
      subst (λ (n : ℕ). AllByRecursion (λ (m : Lease). n < m.session) rest) same rising.0 in
      let less : after < l.session = elim (cases_lt after l.session) [
        | inl less ↦ less
        | inr more ↦ let fails : false ≡ true = rw (le-ltb after l.session more) at passes in cc
      ] in
      let low : after < session = omega (arith, less, same) in
      record {
        lock = l;
        is = same;
        due = rw (passes, le-ltb session l.session (omega (arith, same)), due_above after session rest low above);
      }
  first_by false after session l rest passes rising is later =
      let next = later is in
      let above : l.session < session = found_above (is_due_after now lease after) l.session session rest rising.0 is in
      record {
        lock = next.lock;
        is = next.is;
        due = rw (passes, le-ltb session l.session (omega (arith, above))) next.due;
      }

  pub first_is : (after session : ℕ) (leases : List Lease) → IsRising leases → first_due now lease after leases ≡ Some session
      → IsFirst after session leases
  first_is after session [] rising is = cc
  first_is after session (l ∷ rest) rising is =
      first_by (is_due_after now lease after l) after session l rest refl rising is (first_is after session rest rising.1)

  none_due : (after : ℕ) (leases : List Lease) → first_due now lease after leases ≡ None → due after leases ≡ []
  none_due after [] is = refl
  none_due after (l ∷ rest) is = by (is_due_after now lease after l) is (none_due after rest) where
    by : (b : Bool) → option_map (λ (l : Lease). l.session) (cond b (Some l) (find (is_due_after now lease after) rest)) ≡ None
        → (first_due now lease after rest ≡ None → due after rest ≡ []) → cond b (l ∷ due after rest) (due after rest) ≡ []
    by true is later = cc
    by false is later = later is

  -- that a renewal is under way changes no other lock
  others_due : (session : ℕ) (leases : List Lease) → due session (with_renewal session leases) ≡ due session leases
  others_due session [] = refl
  others_due session (l ∷ rest) =
      elim (eqb_tells l.session session) [
        | inl same ↦ rw (same.0, le-ltb session l.session (omega (arith, same.1))) (others_due session rest)
        | inr other ↦ rw (other.0, others_due session rest)
      ]

module _ (a lease now : ℕ) where
  abbrev pub one : Agent Row → (session : ℕ) → Reaction Row
  one agent session = if_some (file_of rows agent session agent.waiting) (silent agent) (renews rows a agent session)

  -- the renewals of the locks of sessions above this one
  abbrev pub left : Agent Row → (after : ℕ) → Reaction Row
  left agent after = renews_all rows a agent (due now lease after agent.leases)

  -- a step at most is asked, and the same other locks are due
  record IsAsked (agent : Agent Row) (session : ℕ) (r : Reaction Row) : Type 0 where
    says : r.says ≡ []
    sent : r.sent ≡ []
    closed : r.agent.closed ≡ agent.closed
    drawn : r.agent.requests ≤ agent.requests + 1
    others : due now lease session r.agent.leases ≡ due now lease session agent.leases

  is_asked : (agent : Agent Row) (session : ℕ) (file : Option FileId)
      → IsAsked agent session (if_some file (silent agent) (renews rows a agent session))
  is_asked agent session None = record { says = refl; sent = refl; closed = refl; drawn = omega arith; others = refl }
  is_asked agent session (Some file) =
      record { says = refl; sent = refl; closed = refl; drawn = omega arith; others = others_due now lease session agent.leases }

  module _ (agent : Agent Row) (after session : ℕ) (first : IsFirst now lease after session agent.leases) where
    asked : IsAsked agent session (one agent session)
    asked = is_asked agent session (file_of rows agent session agent.waiting)

    next : Agent Row
    next = (one agent session).agent

    split : left agent after ≡ followed (one agent session) (λ (next : Agent Row). left (one agent session).agent session)
    split =
        ap (renews_all rows a agent) first.due
        ∙ ap (λ (h : ℕ). followed (one agent h) (λ next. renews_all rows a next (due now lease session agent.leases))) first.is
        ∙ ap (λ (xs : List Lease). followed (one agent session) (λ next. renews_all rows a next xs)) (sym asked.others)

    pub one_gives : outputs_by a lease (left agent after)
        ≡ outputs_by a lease (one agent session) ++ outputs_by a lease (left (one agent session).agent session)
    one_gives = ap (outputs_by a lease) split
        ∙ outputs_followed a lease (one agent session) (left (one agent session).agent session) asked.says asked.sent

    pub one_leaves : (left agent after).agent ≡ (left (one agent session).agent session).agent
    one_leaves = ap (λ (r : Reaction Row). r.agent) split

    pub one_closed : (one agent session).agent.closed ≡ agent.closed
    one_closed = asked.closed

    pub one_fewer : length (due now lease session (one agent session).agent.leases) + 1 ≡ length (due now lease after agent.leases)
    one_fewer = omega (arith, ap (λ (xs : List Lease). length xs) asked.others, ap (λ (xs : List Lease). length xs) first.due)

    pub one_drawn : (one agent session).agent.requests ≤ agent.requests + 1
    one_drawn = asked.drawn

-- what holds while the locks are renewed that are due
pub record IsRenewing (old view : AgentState) (now after : ℕ) (given : List Output) : Type 0 where
  pub gives : given ++ outputs_by old.no old.header.lease (left old.no old.header.lease now view.agent after)
      ≡ outputs_by old.no old.header.lease (renews_due rows old.no old.agent now old.header.lease)
  pub leaves : (left old.no old.header.lease now view.agent after).agent ≡ (renews_due rows old.no old.agent now old.header.lease).agent
  pub same : view ≡ record old { agent = view.agent }
  pub closed : view.agent.closed ≡ old.agent.closed
  pub drawn : view.agent.requests + length (due now old.header.lease after view.agent.leases) ≤ old.agent.requests + 1000000
  pub asks : All (FitsOutput old.header.f) given

pub renewing_first : (old : AgentState) (now most : ℕ) → AreLeases most old.agent.leases → most ≤ 1000000 → IsRenewing old old now 0 []
renewing_first old now most are few =
    let all = due_all now old.header.lease old.agent.leases are.numbered in
    record {
      gives = ap (λ (xs : List Lease). outputs_by old.no old.header.lease (renews_all rows old.no old.agent xs)) all;
      leaves = ap (λ (xs : List Lease). (renews_all rows old.no old.agent xs).agent) all;
      same = refl;
      closed = refl;
      drawn = omega (arith, filter_short (is_due_after now old.header.lease 0) old.agent.leases, are.few, few);
      asks = All-nil (FitsOutput old.header.f);
    }

module _ (old view : AgentState) (now after : ℕ) (given : List Output) (is : IsRenewing old view now after given) where
  lease_is : view.header.lease ≡ old.header.lease
  lease_is = ap (λ (a : AgentState). a.header.lease) is.same

  module _ (session : ℕ) (rising : IsRising view.agent.leases) (found : first_due now view.header.lease after view.agent.leases ≡ Some session) where
    first : IsFirst now old.header.lease after session view.agent.leases
    first =
        first_is now old.header.lease after session view.agent.leases rising
        (subst (λ (l : ℕ). first_due now l after view.agent.leases ≡ Some session) lease_is found)

    abbrev renewed : Reaction Row
    renewed = one old.no old.header.lease now view.agent session

    abbrev following : AgentState
    following = record view { agent = renewed.agent }

    fewer : length (due now old.header.lease session renewed.agent.leases) + 1 ≡ length (due now old.header.lease after view.agent.leases)
    fewer = one_fewer old.no old.header.lease now view.agent after session first

    module _ (next : AgentState) (asked all : List Output) (later : next ≡ record view {
      agent =
          (one view.no view.header.lease now view.agent session).agent;
    })
        (gives : asked ≡ outputs_by view.no view.header.lease (one view.no view.header.lease now view.agent session)) (joined : all ≡ given ++ asked)
        (asks : All (FitsOutput view.header.f) asked) where
      abbrev by : AgentState → Reaction Row
      by a = one a.no a.header.lease now view.agent session

      next_is : next ≡ following
      next_is = later ∙ ap (λ (a : AgentState). record view { agent = (by a).agent }) is.same

      all_is : all ≡ given ++ outputs_by old.no old.header.lease renewed
      all_is = joined ∙ ap (λ (xs : List Output). given ++ xs) (gives ∙ ap (λ (a : AgentState). outputs_by a.no a.header.lease (by a)) is.same)

      following_is : IsRenewing old following now session all
      following_is =
          let rest = outputs_by old.no old.header.lease (left old.no old.header.lease now renewed.agent session) in
          record {
            gives =
                ap (λ (xs : List Output). xs ++ rest) all_is ∙ append_assoc given (outputs_by old.no old.header.lease renewed) rest
                ∙ ap (λ (xs : List Output). given ++ xs) (sym (one_gives old.no old.header.lease now view.agent after session first)) ∙ is.gives;
            leaves = sym (one_leaves old.no old.header.lease now view.agent after session first) ∙ is.leaves;
            same = ap (λ (a : AgentState). record a { agent = renewed.agent }) is.same;
            closed = one_closed old.no old.header.lease now view.agent after session first ∙ is.closed;
            drawn = omega (arith, fewer, is.drawn, one_drawn old.no old.header.lease now view.agent after session first);
            asks =
                subst (All (FitsOutput old.header.f)) (sym joined)
                (All-append (FitsOutput old.header.f) given asked is.asks
                (subst (λ (a : AgentState). All (FitsOutput a.header.f) asked) is.same asks));
          }

      pub renewing_more : IsRenewing old next now session all
      renewing_more = subst (λ (a : AgentState). IsRenewing old a now session all) (sym next_is) following_is

      pub renewing_fewer : length (due now next.header.lease session next.agent.leases) < length (due now view.header.lease after view.agent.leases)
      renewing_fewer =
          omega (
            arith,
            fewer,
            ap (λ (a : AgentState). length (due now a.header.lease session a.agent.leases)) next_is,
            ap (λ (l : ℕ). length (due now l session renewed.agent.leases)) lease_is,
            ap (λ (l : ℕ). length (due now l after view.agent.leases)) lease_is,
          )

  module _ (found : first_due now view.header.lease after view.agent.leases ≡ None) where
    none : due now old.header.lease after view.agent.leases ≡ []
    none = none_due now old.header.lease after view.agent.leases (subst (λ (l : ℕ). first_due now l after view.agent.leases ≡ None) lease_is found)

    pub renewed_gives : given ≡ outputs_by old.no old.header.lease (renews_due rows old.no old.agent now old.header.lease)
    renewed_gives =
        sym (append-nil given)
        ∙ ap (λ (xs : List Lease). given ++ outputs_by old.no old.header.lease (renews_all rows old.no view.agent xs)) (sym none)
        ∙ is.gives

    pub renewed_after : view ≡ record old { agent = (renews_due rows old.no old.agent now old.header.lease).agent }
    renewed_after =
        is.same ∙ ap (λ (g : Agent Row). record old { agent = g }) (ap (λ (xs : List Lease). (renews_all rows old.no view.agent xs).agent) (sym none)
        ∙ is.leaves)
