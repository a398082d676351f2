-- What was asked under a number, and what is left when it is told.
use Rattle.std.proofs.Common.{◌≡◌, ℕ, ◌+◌, ◌≤◌, zero, suc, List, [], ◌∷◌, ◌++◌, length, map, take, drop, Bool, true, false, cond, Option, Some, None, refl, sym, ap, ◌∙◌, subst, arith}
use Rattle.std.specs.Prelude.{◌||◌, if◌then◌else◌, find, is_some, remove, slice_get}
use Rattle.std.specs.List.{All, list_any}
use Rattle.std.proofs.lemmas.List.{length-map}
use Rattle.std.proofs.lemmas.List.Elements.{All-head, All-tail, All-append, All-take, All-drop}
use Rattle.scfs_base.specs.declared.naming.RequestNo.{RequestNo}
use Rattle.scfs_model.specs.Lists.{without_first}
use Rattle.scfs_model.specs.Layers.{Row, rows}
use Rattle.scfs_model.specs.Given.{Given}
use Rattle.scfs_model.specs.Steps.{Outcome}
use Rattle.scfs_model.specs.Agents.{Request, silent}
use Rattle.scfs_model.specs.Told.{tells, told, untold}
use Rattle.scfs_agent.specs.State.{AgentState, setup}
use Rattle.scfs_agent.specs.Views.{request_of, step_of, waiting_of}
use Rattle.scfs_agent.specs.Keeping.{is_call, calls_in, calls_of}
use Rattle.scfs_tuples.specs.declared.types.Reply.{Reply}
use Rattle.scfs_anchor.specs.StepReplies.{IsReplyTo, FitsOutcome}
use Rattle.scfs_agent.specs.Telling.{first_place, is_numbered, pending_step, outcome_step, IsTold, IsIts}
use Rattle.scfs_agent.specs.declared.types.Output.{Output}
use Rattle.scfs_agent.proofs.Doing.{did}
use Rattle.scfs_agent.specs.declared.work.Pending.{Pending}
use Rattle.scfs_agent.specs.declared.work.Work.{Work}
use Rattle.scfs_agent.specs.declared.work.Work.TheVariants as works

sum_swapped : (n m : ℕ) → n + m ≡ m + n
sum_swapped n m = omega arith

sum_more : (a n m k : ℕ) → n + m ≡ k → (a + n) + m ≡ a + k
sum_more a n m k h = omega (arith, h)

-- a step more
calls_push_by : (b : Bool) (x : Request Row) (n m k : ℕ) → m ≡ n + k → cond b 1 0 + m ≡ (cond b 1 0 + n) + k
calls_push_by b x n m k e = omega (arith, e)

pub calls_push : (pending : List (Request Row)) (x : Request Row) → calls_in (pending ++ x ∷ []) ≡ calls_in pending + cond (is_call x.step) 1 0
calls_push [] x = omega arith
calls_push (y ∷ ys) x = calls_push_by (is_call y.step) y (calls_in ys) (calls_in (ys ++ x ∷ [])) (cond (is_call x.step) 1 0) (calls_push ys x)

pub All-remove : {X : Type 0} (P : X → Type 0) (xs : List X) (at : ℕ) → All P xs → All P (remove xs at)
All-remove P xs at h = All-append P (take at xs) (drop (suc at) xs) (All-take P at xs h) (All-drop P (suc at) xs h)

pub All-get : {X : Type 0} (P : X → Type 0) (xs : List X) (at : ℕ) (x : X) → All P xs → slice_get xs at ≡ Some x → P x
All-get P [] at x h e = cc
All-get P (y ∷ ys) zero x h e = let same : y ≡ x = cc in subst P same (All-head P y ys h)
All-get P (y ∷ ys) (suc at) x h e = All-get P ys at x (All-tail P y ys h) e

pub get_none : {X : Type 0} (xs : List X) (at : ℕ) → slice_get xs at ≡ None → length xs ≤ at
get_none [] at e = omega arith
get_none (x ∷ xs) zero e = cc
get_none (x ∷ xs) (suc at) e = let behind : length xs ≤ at = get_none xs at e in omega (arith, behind)

module _ (request : RequestNo) where
  abbrev test : Request Row → Bool
  test = is_numbered request

  any_by : (b : Bool) (x : Request Row) (any : Bool) (found : Option (Request Row)) → any ≡ is_some found → (b || any)
      ≡ is_some (cond b (Some x) found)
  any_by true x any found e = refl
  any_by false x any found e = e

  pub any_found : (xs : List (Request Row)) → list_any test xs ≡ is_some (find test xs)
  any_found [] = refl
  any_found (x ∷ xs) = any_by (test x) x (list_any test xs) (find test xs) (any_found xs)

  none_by : (b : Bool) (x : Request Row) (at n : ℕ) (found : Option (Request Row)) → (if b then 0 else at + 1) ≡ suc n → (at ≡ n → found ≡ None)
      → cond b (Some x) found ≡ None
  none_by true x at n found e rest = absurd (omega (arith, e))
  none_by false x at n found e rest = rest (omega (arith, e))

  -- none was asked under the number
  pub none_pending : (xs : List (Request Row)) → first_place test xs ≡ length xs → pending_step xs request ≡ None
  none_pending [] e = refl
  none_pending (x ∷ xs) e = none_by (test x) x (first_place test xs) (length xs) (find test xs) e (none_pending xs)

  -- what stands at its place
  record Taken (xs : List Pending) (at : ℕ) (x : Pending) : Type 0 where
    found : pending_step (map request_of xs) request ≡ Some (request_of x)
    left : map request_of (remove xs at) ≡ without_first test (map request_of xs)

  taken_later : (b : Bool) (y : Pending) (ys : List Pending) (at : ℕ) (x : Pending) → test (request_of y) ≡ b
      → (if b then 0 else first_place test (map request_of ys) + 1) ≡ at → slice_get (y ∷ ys) at ≡ Some x
      → ((k : ℕ) → first_place test (map request_of ys) ≡ k → slice_get ys k ≡ Some x → Taken ys k x) → Taken (y ∷ ys) at x
  taken_later true y ys zero x e place is rest =
      let same : y ≡ x = cc in
      record {
        found = ap (λ (b : Bool). cond b (Some (request_of y)) (find test (map request_of ys))) e ∙ ap (λ (z : Pending). Some (request_of z)) same;
        left = sym (ap (λ (b : Bool). if b then map request_of ys else request_of y ∷ without_first test (map request_of ys)) e);
      }
  taken_later true y ys (suc at) x e place is rest = absurd (omega (arith, place))
  taken_later false y ys zero x e place is rest = absurd (omega (arith, place))
  taken_later false y ys (suc at) x e place is rest =
      let it = rest at (omega (arith, place)) is in
      record {
        found = ap (λ (b : Bool). cond b (Some (request_of y)) (find test (map request_of ys))) e ∙ it.found;
        left =
            ap (λ (zs : List (Request Row)). request_of y ∷ zs) it.left
            ∙ sym (ap (λ (b : Bool). if b then map request_of ys else request_of y ∷ without_first test (map request_of ys)) e);
      }

  taken : (xs : List Pending) (at : ℕ) (x : Pending) → first_place test (map request_of xs) ≡ at → slice_get xs at ≡ Some x → Taken xs at x
  taken [] at x place is = cc
  taken (y ∷ ys) at x place is = taken_later (test (request_of y)) y ys at x refl place is (λ k p i. taken ys k x p i)

  pub taken_found : (xs : List Pending) (at : ℕ) (x : Pending) → at ≡ first_place test (map request_of xs) → slice_get xs at ≡ Some x
      → pending_step (map request_of xs) request ≡ Some (request_of x)
  taken_found xs at x place is = (taken xs at x (sym place) is).found

  calls_by : (b : Bool) (y : Request Row) (ys : List (Request Row)) (x : Request Row) → cond b (Some y) (find test ys) ≡ Some x
      → (find test ys ≡ Some x → calls_in (without_first test ys) + cond (is_call x.step) 1 0 ≡ calls_in ys)
      → calls_in (if b then ys else y ∷ without_first test ys) + cond (is_call x.step) 1 0 ≡ cond (is_call y.step) 1 0 + calls_in ys
  calls_by true y ys x f rest =
      let same : y ≡ x = cc in
      ap (λ (z : Request Row). calls_in ys + cond (is_call z.step) 1 0) (sym same) ∙ sum_swapped (calls_in ys) (cond (is_call y.step) 1 0)
  calls_by false y ys x f rest =
      sum_more (cond (is_call y.step) 1 0) (calls_in (without_first test ys)) (cond (is_call x.step) 1 0) (calls_in ys) (rest f)

  -- the calls among those that are left
  pub calls_left : (xs : List (Request Row)) (x : Request Row) → pending_step xs request ≡ Some x
      → calls_in (without_first test xs) + cond (is_call x.step) 1 0 ≡ calls_in xs
  calls_left [] x e = cc
  calls_left (y ∷ ys) x e = calls_by (test y) y ys x e (calls_left ys x)

-- a call waits for a step where one was asked for it, and for no other
step_by_call : (w : Work) (n : ℕ) → n + 1 ≤ calls_of (waiting_of w) → (w ≡ works.Step) × (n ≡ 0)
step_by_call works.Down n l = absurd (omega (arith, l))
step_by_call works.Starting n l = absurd (omega (arith, l))
step_by_call works.Idle n l = absurd (omega (arith, l))
step_by_call works.Step n l = (refl, omega (arith, l))
step_by_call (works.Fetch fetch) n l = absurd (omega (arith, l))
step_by_call (works.Upload upload) n l = absurd (omega (arith, l))

-- what is pending, by its place
module _ (request : RequestNo) (pending slice : List Pending) (at : ℕ) (same : slice ≡ pending) (place : at
    ≡ first_place (is_numbered request) (map request_of slice)) where
  place_is : first_place (is_numbered request) (map request_of pending) ≡ at
  place_is = ap (λ (xs : List Pending). first_place (is_numbered request) (map request_of xs)) (sym same) ∙ sym place

  module _ (old v : AgentState) (view_is : v ≡ old) (here : v.agent.pending ≡ map request_of pending) where
    before : pending_step old.agent.pending request ≡ pending_step (map request_of pending) request
    before = ap (λ (a : AgentState). pending_step a.agent.pending request) (sym view_is)
        ∙ ap (λ (ps : List (Request Row)). pending_step ps request) here

    pub none_there : at ≡ length pending → pending_step old.agent.pending request ≡ None
    none_there behind = before ∙ none_pending request (map request_of pending) (place_is ∙ behind ∙ sym (length-map pending request_of))

    pub asked_there : (x : Pending) → slice_get pending at ≡ Some x → pending_step old.agent.pending request ≡ Some (request_of x)
    asked_there x is = before ∙ (taken request pending at x place_is is).found

    -- where none was asked under the number, nothing is told
    pub untold_did : (given : Given) (o : Outcome Row) → at ≡ length pending
        → did old (silent old.agent) ≡ did old (tells (setup old) rows old.no old.agent given request o)
    untold_did given o behind =
        ap (λ (b : Bool). did old (if b then told (setup old) rows old.no (untold old.agent request) given request o else silent old.agent))
        (sym (any_found request old.agent.pending ∙ ap (λ (p : Option (Request Row)). is_some p) (none_there behind)))

  -- it is taken from its place, to be told
  module _ (x : Pending) (is : slice_get pending at ≡ Some x) (rest : List Pending) (left : rest ≡ remove pending at) where
    rest_is : map request_of rest ≡ without_first (is_numbered request) (map request_of pending)
    rest_is = ap (λ (xs : List Pending). map request_of xs) left ∙ (taken request pending at x place_is is).left

    module _ (w : Work) (few : calls_in (map request_of pending) ≤ calls_of (waiting_of w)) where
      calls_told : calls_in (map request_of rest) + cond (is_call (step_of x.asking)) 1 0 ≡ calls_in (map request_of pending)
      calls_told =
          ap (λ (xs : List (Request Row)). calls_in xs + cond (is_call (step_of x.asking)) 1 0) rest_is
          ∙ calls_left request (map request_of pending) (request_of x) (taken request pending at x place_is is).found

      pub fewer_calls : calls_in (map request_of rest) ≤ calls_of (waiting_of w)
      fewer_calls = omega (arith, calls_told, few)

      -- once the step of a call is told, no other call waits
      pub step_then : is_call (step_of x.asking) ≡ true → (w ≡ works.Step) × (calls_in (map request_of rest) ≡ 0)
      step_then call =
          let one : calls_in (map request_of rest) + 1 ≡ calls_in (map request_of pending) =
          ap (λ (b : Bool). calls_in (map request_of rest) + cond b 1 0) (sym call) ∙ calls_told in
          step_by_call w (calls_in (map request_of rest)) (omega (arith, one, few))

    -- said of the agent before
    module _ (old v : AgentState) (view_is : v ≡ old) (here : v.agent.pending ≡ map request_of pending) where
      pub found_there : (P : Option (Request Row) → Type 0) → P (pending_step old.agent.pending request) → P (Some (request_of x))
      found_there P h = subst P (asked_there old v view_is here x is) h

      abbrev view : AgentState
      view = record v { agent = record v.agent { pending = map request_of rest } }

      left_before : view ≡ record old { agent = untold old.agent request }
      left_before =
          ap (λ (ps : List (Request Row)). record v { agent = record v.agent { pending = ps } })
          (rest_is ∙ ap (λ (ps : List (Request Row)). without_first (is_numbered request) ps) (sym here))
          ∙ ap (λ (a : AgentState). record a { agent = untold a.agent request }) view_is

      told_did : (given : Given) (o : Outcome Row)
          → did view (told (setup view) rows view.no view.agent given request o) ≡ did old (tells (setup old) rows old.no old.agent given request o)
      told_did given o =
          ap (λ (a : AgentState). did a (told (setup a) rows a.no a.agent given request o)) left_before
          ∙ ap (λ (b : Bool). did old (if b then told (setup old) rows old.no (untold old.agent request) given request o else silent old.agent))
          (sym (any_found request old.agent.pending ∙ ap (λ (p : Option (Request Row)). is_some p) (asked_there old v view_is here x is)))

      pub told_then : (given : Given) (reply : Reply) (P : List Output × AgentState → Type 0)
          → ((o : Outcome Row) → outcome_step o ≡ step_of x.asking → IsReplyTo view.header.lease request o reply → FitsOutcome o
          → P (did view (told (setup view) rows view.no view.agent given request o)))
          → (o : Outcome Row) → IsTold old.header.lease old.agent.pending request reply o
          → P (did old (tells (setup old) rows old.no old.agent given request o))
      told_then given reply P each o is =
          subst P (told_did given o)
          (each o (sym (found_there (λ p. IsIts p (outcome_step o)) is.asked))
          (subst (λ (a : AgentState). IsReplyTo a.header.lease request o reply) (sym view_is) is.replied) is.fits)
