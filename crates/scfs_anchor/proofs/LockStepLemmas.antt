use Rattle.std.proofs.Common.{◌≡◌, ℕ, ◌+◌, List, [], ◌∷◌, ◌++◌, length, cond, eqb, Bool, true, false, ◌&&◌, Option, Some, None, refl, ap, ◌∙◌, sym, subst, suc, zero-add}
use Rattle.std.specs.Prelude.{filter, not}
use Rattle.std.specs.List.{find}
use Rattle.std.specs.Option.{option_map}
use Rattle.std.proofs.lemmas.Bool.{eqb-true}
use Rattle.std.proofs.lemmas.List.{append-nil}
use Rattle.scfs_base.specs.declared.naming.FileId.{FileId}
use Rattle.scfs_base.specs.declared.naming.RequestNo.{RequestNo}
use Rattle.scfs_schedule.specs.declared.types.Refusal.TheVariants as refusals
use Rattle.scfs_tuples.specs.After.{Tested, Passed, Failed, tested, need, result_of, left_by, reply_among, left_among}
use Rattle.scfs_tuples.specs.Matching.{Match, and_then, fits}
use Rattle.scfs_tuples.specs.declared.types.Cond.TheVariants.{TakeAll}
use Rattle.scfs_tuples.specs.declared.types.Field.{Field}
use Rattle.scfs_tuples.specs.declared.types.Field.TheVariants.{Num}
use Rattle.scfs_tuples.specs.declared.types.Step.{Step}
use Rattle.scfs_tuples.specs.declared.types.Want.{Want}
use Rattle.scfs_tuples.specs.declared.types.Want.TheVariants.{Any}
use Rattle.scfs_model.specs.Lists.{without_first}
use Rattle.scfs_model.specs.Tree.{Lock, session_lock, is_lock_by}
use Rattle.scfs_model.specs.LockSteps.{Lock_step, Unlock, Unlock_all, Renew, frees, renewed, lock_outcome}
use Rattle.scfs_model.specs.SessionSteps.{new_lock}
use Rattle.scfs_anchor.specs.Shapes.{number, lock}
use Rattle.scfs_anchor.specs.Plans as plans
use Rattle.scfs_anchor.specs.Plans.{step_of}
use Rattle.scfs_anchor.specs.Items.{Item, Of_node, Of_version, Of_lock, space_of, locks}
use Rattle.scfs_anchor.specs.StepPlans.{lock_plan}
use Rattle.scfs_anchor.specs.StepReplies.{HasTaken, IsLockReply}
use Rattle.scfs_anchor.proofs.Alike.{lock_that, LocksAlike, refused}
use Rattle.scfs_anchor.proofs.ItemLemmas.{eqb_sym, space_append}
use Rattle.scfs_anchor.proofs.ListLemmas.{both_true, found_passes}
use Rattle.scfs_anchor.proofs.ItemMatches.{Meets, met, said, take_met, count_met, without_all_met, each_of}

-- Steps on locks: all that a pattern meets are taken, or the lock of a session is put anew.

abbrev pub lock_wants : FileId → (agent incarnation session : ℕ) → List Want
lock_wants file agent incarnation session = (plans.session_lock file agent incarnation session).wants

abbrev pub binds_none : Item → List Field
binds_none x = []

-- a number that is wanted, and what is wanted behind it
number_first : (a b : ℕ) (ws : List Want) (fs : List Field) → fits (number a ∷ ws) (Num b ∷ fs) [] ≡ cond (eqb b a) (fits ws fs []) None
number_first a b ws fs = rw (eqb_sym b a) (by (eqb a b)) where
  by : (t : Bool) → and_then (cond t (Some []) None) (λ after. fits ws fs after) ≡ cond t (fits ws fs []) None
  by true = refl
  by false = refl

-- two tests, one after the other
both : (t u : Bool) (o : Option (List Field)) → cond t (cond u o None) None ≡ cond (t && u) o None
both true u o = refl
both false u o = refl

-- the pattern of a session's lock meets it, and no other item
own_lock_meets : (request : RequestNo) (file : FileId) (session : ℕ) (x : Item)
    → Meets (lock_wants file request.agent request.incarnation session) [] (lock_that (is_lock_by request file session)) binds_none x
own_lock_meets request file session (Of_node n) = refl
own_lock_meets request file session (Of_version v) = refl
own_lock_meets request file session (Of_lock l) =
    let file_is = eqb l.file.0 file.0 in
    let agent_is = eqb l.agent request.agent in
    let incarnation_is = eqb l.incarnation request.incarnation in
    let last = number session ∷ [] in
    let field = Num l.session ∷ [] in
    number_first file.0 l.file.0 (number request.agent ∷ number request.incarnation ∷ last) (Num l.agent ∷ Num l.incarnation ∷ field)
    ∙ ap (λ o. cond file_is o None) (number_first request.agent l.agent (number request.incarnation ∷ last) (Num l.incarnation ∷ field)
    ∙ ap (λ o. cond agent_is o None) (number_first request.incarnation l.incarnation last field
    ∙ ap (λ o. cond incarnation_is o None) (number_first session l.session [] [])))
    ∙ both file_is agent_is _ ∙ both (file_is && agent_is) incarnation_is _
    ∙ both (file_is && agent_is && incarnation_is) (eqb l.session session) (Some [])

pub lock_meets : (request : RequestNo) (file : FileId) (session agent incarnation : ℕ) → agent ≡ request.agent → incarnation ≡ request.incarnation
    → (x : Item) → Meets (lock_wants file agent incarnation session) [] (lock_that (is_lock_by request file session)) binds_none x
lock_meets request file session agent incarnation e f x =
    subst (λ (a : ℕ). Meets (lock_wants file a incarnation session) [] (lock_that (is_lock_by request file session)) binds_none x) (sym e)
    (subst (λ (i : ℕ). Meets (lock_wants file request.agent i session) [] (lock_that (is_lock_by request file session)) binds_none x) (sym f)
    (own_lock_meets request file session x))

-- the pattern of an agent's locks meets them, and no other item
agent_meets : (request : RequestNo) (x : Item)
    → Meets (lock Any (number request.agent) Any Any).wants [] (lock_that (frees request Unlock_all)) binds_none x
agent_meets request (Of_node n) = refl
agent_meets request (Of_version v) = refl
agent_meets request (Of_lock l) = number_first request.agent l.agent (Any ∷ Any ∷ []) (Num l.incarnation ∷ Num l.session ∷ [])

module _ (test : Lock → Bool) where
  abbrev FindsLock : List Item → Type 0
  FindsLock items = find (lock_that test) items ≡ option_map Of_lock (find test (locks items))

  -- the first item that passes is the first lock that does
  pub lock_item : (items : List Item) → FindsLock items
  lock_item [] = refl
  lock_item (Of_node n ∷ items) = lock_item items
  lock_item (Of_version v ∷ items) = lock_item items
  lock_item (Of_lock l ∷ items) = here (test l) refl (lock_item items) where
    here : (t : Bool) → test l ≡ t → FindsLock items → FindsLock (Of_lock l ∷ items)
    here true e rest = rw e refl
    here false e rest = rw e rest

  abbrev CountsLocks : List Item → Type 0
  CountsLocks items = length (filter (lock_that test) items) ≡ length (filter test (locks items))

  -- as many items as locks pass
  lock_count : (items : List Item) → CountsLocks items
  lock_count [] = refl
  lock_count (Of_node n ∷ items) = lock_count items
  lock_count (Of_version v ∷ items) = lock_count items
  lock_count (Of_lock l ∷ items) = here (test l) refl (lock_count items) where
    here : (t : Bool) → test l ≡ t → CountsLocks items → CountsLocks (Of_lock l ∷ items)
    here true e rest = rw e (ap suc rest)
    here false e rest = rw e rest

-- all that a pattern meets are taken
abbrev taking : List Want → Step
taking ws = record { conds = TakeAll (record { wants = ws }) ∷ []; all = []; puts = [] }

taken : (now : ℕ) (items : List Item) (ws : List Want) (test : Lock → Bool) → ((x : Item) → Meets ws [] (lock_that test) binds_none x)
    → HasTaken (length (filter test (locks items))) (reply_among (space_of items) now (taking ws)).result
    × (left_among (space_of items) now (taking ws) ≡ space_of (filter (λ x. not (lock_that test x)) items))
taken now items ws test meets =
    let all = each_of (Meets ws [] (lock_that test) binds_none) meets items in (
      zero-add _ ∙ count_met ws [] (lock_that test) binds_none items all ∙ lock_count test items,
      append-nil _ ∙ without_all_met ws [] (lock_that test) binds_none items all,
    )

-- a lock of a session by its parts
pub own_lock : (request : RequestNo) (file : FileId) (session until : ℕ) (l : Lock) → is_lock_by request file session l ≡ true
    → record l { until = until } ≡ new_lock request session until file
own_lock request file session until l h =
    let file_is = eqb l.file.0 file.0 in
    let agent_is = eqb l.agent request.agent in
    let incarnation_is = eqb l.incarnation request.incarnation in
    let a = both_true (file_is && agent_is && incarnation_is) (eqb l.session session) h in
    let b = both_true (file_is && agent_is) incarnation_is a.0 in
    let c = both_true file_is agent_is b.0 in
    let same_file = eqb-true l.file.0 file.0 c.0 in
    let agent = eqb-true l.agent request.agent c.1 in
    let incarnation = eqb-true l.incarnation request.incarnation b.1 in
    let same = eqb-true l.session session a.1 in
    λ i. record { file = record { 0 = same_file i }; agent = agent i; incarnation = incarnation i; session = same i; until = until }

-- what the condition of a renewal comes to
abbrev renewal_came : List Item → Option Lock → Tested
renewal_came rest None = Failed 0 None
renewal_came rest (Some l) = Passed [] 0 (space_of rest)

renewal_tested : (items : List Item) (request : RequestNo) (file : FileId) (session lease : ℕ) (o : Option Lock)
    → session_lock (locks items) request file session ≡ o
    → tested (step_of (lock_plan lease request (Renew file session))).conds 0 (space_of items) [] 0
    ≡ renewal_came (without_first (lock_that (is_lock_by request file session)) items) o
renewal_tested items request file session lease o e =
    let ws = lock_wants file request.agent request.incarnation session in
    let test = is_lock_by request file session in
    take_met ws [] (lock_that test) binds_none items (each_of (Meets ws [] (lock_that test) binds_none) (own_lock_meets request file session) items) 0
    (λ ts (m : Match). Passed m.bound 0 ts)
    ∙ ap (λ x. need (option_map (met binds_none) x) 0 (λ (m : Match). Passed m.bound 0 (space_of (without_first (lock_that test) items))))
    (lock_item test items ∙ ap (option_map Of_lock) e) ∙ by o where
      by : (o : Option Lock)
          → need (option_map (met binds_none) (option_map Of_lock o)) 0
          (λ (m : Match). Passed m.bound 0 (space_of (without_first (lock_that (is_lock_by request file session)) items)))
          ≡ renewal_came (without_first (lock_that (is_lock_by request file session)) items) o
      by None = refl
      by (Some l) = refl

renewed_alike : (now lease : ℕ) (items : List Item) (request : RequestNo) (file : FileId) (session : ℕ) (o : Option Lock)
    → session_lock (locks items) request file session ≡ o
    → LocksAlike now lease items request (Renew file session) (renewed (now + lease) o)
renewed_alike now lease items request file session None e =
    refused (step_of (lock_plan lease request (Renew file session))) now (space_of items) 0 None refusals.LockLost
    (renewal_tested items request file session lease None e) refl
renewed_alike now lease items request file session (Some l) e =
    let step = step_of (lock_plan lease request (Renew file session)) in
    let h = renewal_tested items request file session lease (Some l) e in
    let rest = without_first (lock_that (is_lock_by request file session)) items in
    let own = own_lock request file session (now + lease) l (found_passes (is_lock_by request file session) (locks items) l e) in (
      subst (λ (t : Tested). IsLockReply lease request (Renew file session) (renewed (now + lease) (Some l))
          (record { now = now; result = result_of t (space_of items) step.all })) (sym h) (tt, refl),
      ap (λ t. left_by t now (space_of items) step.puts) h
          ∙ ap (λ (x : Lock). space_of rest ++ said (Of_lock x) ∷ []) (sym own)
          ∙ sym (space_append rest (Of_lock (record l { until = now + lease }) ∷ [])),
    )

-- a step on locks does what it does to the tree
pub locks_alike : (now lease : ℕ) (items : List Item) (request : RequestNo) (x : Lock_step)
    → LocksAlike now lease items request x (lock_outcome (locks items) (now + lease) request x)
locks_alike now lease items request (Unlock file session) =
    taken now items (lock_wants file request.agent request.incarnation session) (is_lock_by request file session)
    (own_lock_meets request file session)
locks_alike now lease items request Unlock_all =
    taken now items (lock Any (number request.agent) Any Any).wants (frees request Unlock_all) (agent_meets request)
locks_alike now lease items request (Renew file session) =
    renewed_alike now lease items request file session (session_lock (locks items) request file session) refl
