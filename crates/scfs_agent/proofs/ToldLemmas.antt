-- What the space's reply shows, by what the step came to on the machine.
use Rattle.std.proofs.Common.{◌≡◌, ℕ, ◌+◌, ◌^◌, ◌<◌, arith, List, [], ◌∷◌, Bool, true, false, Option, Some, None, Result, Ok, Err, refl, sym, ap, ◌∙◌, subst}
use Rattle.std.specs.Prelude.{◌↔◌, IfSome, IsTrue, OnOk, option_map}
use Rattle.scfs_base.specs.declared.naming.FileId.{FileId}
use Rattle.scfs_base.specs.declared.naming.RequestNo.{RequestNo}
use Rattle.scfs_schedule.specs.declared.types.How.TheVariants as hows
use Rattle.scfs_schedule.specs.declared.types.Line.TheVariants as lines
use Rattle.scfs_schedule.specs.declared.types.Refusal.{Refusal}
use Rattle.scfs_tuples.specs.declared.types.Field.{Field}
use Rattle.scfs_tuples.specs.declared.types.Reply.{Reply}
use Rattle.scfs_tuples.specs.declared.types.Step as tuples
use Rattle.scfs_tuples.specs.declared.types.StepResult.{StepResult}
use Rattle.scfs_tuples.specs.declared.types.StepResult.TheVariants as results
use Rattle.scfs_tuples.specs.declared.types.Tuple.{Tuple}
use Rattle.scfs_anchor.specs.Plans.{step_of}
use Rattle.scfs_anchor.specs.Replies.{sight_of, ShowsSight}
use Rattle.scfs_anchor.specs.Items.{row_said}
use Rattle.scfs_anchor.specs.StepPlans.{name_plan, session_plan}
use Rattle.scfs_anchor.specs.StepReplies.{IsDone, IsRefusal, HasShown, sight_said, IsNameReply, IsSessionReply, FitsNames, FitsSight, FitsVersion, FitsSessions, IsReplyTo, FitsOutcome}
use Rattle.scfs_anchor.specs.declared.seen.Sight.{Sight}
use Rattle.scfs_anchor.proofs.ReplyLemmas.{sight_read}
use Rattle.scfs_model.specs.Format.{Setup}
use Rattle.scfs_model.specs.Layers.{Row, rows}
use Rattle.scfs_model.specs.Tree.{Node}
use Rattle.scfs_model.specs.Walks.{OrRefusal}
use Rattle.scfs_model.specs.Given.{Given}
use Rattle.scfs_model.specs.NameSteps.{Look, Name_outcome, Makes, Shows}
use Rattle.scfs_model.specs.SessionSteps as machine
use Rattle.scfs_model.specs.SessionSteps.{Session_step, Open_read, Open_write, Commit, Session_outcome, Sees, Locks, Completes}
use Rattle.scfs_model.specs.Sayings.{said_by}
use Rattle.scfs_model.specs.Sayings as says
use Rattle.scfs_model.specs.Agents.{Agent, Reaction, Request}
use Rattle.scfs_model.specs.Opens.{Found, As_empty, On_clouds, found, saw, sighted}
use Rattle.scfs_model.specs.Leases.{leased}
use Rattle.scfs_model.specs.Steps.{On_sessions, Outcome, Of_names, Of_locks, Of_sessions}
use Rattle.scfs_model.specs.Told.{told_open, name_answer}
use Rattle.scfs_agent.specs.Views.{row_of}
use Rattle.scfs_agent.specs.State.{AgentState, setup}
use Rattle.scfs_agent.proofs.Doing.{did}
use Rattle.scfs_agent.specs.Keeping.{IsRow}
use Rattle.scfs_agent.specs.Telling.{IsTold, IsIts, FitsReply, is_open, outcome_step, pending_step, FitsSeen, sight_meant, open_step, stat_line}
use Rattle.scfs_agent.proofs.StatLemmas.{stat_read}

-- a result is one or the other
abbrev pub IsRefused : StepResult → Type 0
IsRefused (results.Did bound taken shown) = ⊥
IsRefused (results.Refused index found) = Unit {0}

not_both : (result : StepResult) → IsDone result → IsRefused result → ⊥
not_both (results.Did bound taken shown) done refused = refused
not_both (results.Refused index found) done refused = done

refused_is : (step : tuples.Step) (why : Refusal) (result : StepResult) → IsRefusal step why result → IsRefused result
refused_is step why result h = subst IsRefused (sym h.2) tt

pub did_is : (result : StepResult) (bound : List Field) (taken : ℕ) (shown : List (List Tuple)) → result ≡ results.Did bound taken shown
    → IsDone result
did_is result bound taken shown e = subst IsDone (sym e) tt

pub sight_is : (reply : Reply) (seen : Sight) → ShowsSight reply seen → IsDone reply.result
sight_is reply seen h = subst IsDone (sym h.result) tt

-- a look
abbrev pub is_root : List (List ℕ) → Bool
is_root [] = true
is_root (name ∷ names) = false

pub root_is : (names : List (List ℕ)) (b : Bool) → IsTrue b ↔ (names ≡ []) → b ≡ is_root names
root_is [] true h = refl
root_is [] false h = let e : false ≡ true = h.1 refl in cc
root_is (name ∷ names) true h = let e : name ∷ names ≡ [] = h.0 refl in cc
root_is (name ∷ names) false h = refl

abbrev Bound : (a : ℕ) → List (List ℕ) → Node → StepResult → Type 0
Bound a names n (results.Did bound taken shown) = stat_line a (is_root names) bound ≡ lines.OkStat a n.kind n.id n.newest n.size hows.Fresh
Bound a names n (results.Refused index found) = Unit {0}

look_bound : (a : ℕ) (names : List (List ℕ)) (n : Node) (result : StepResult) → HasShown names n result → FitsNames (Look names) (Ok (Shows n))
    → Bound a names n result
look_bound a [] n (results.Did bound taken shown) h fits =
    ap (λ (m : Node). lines.OkStat a m.kind m.id m.newest m.size hows.Fresh) (sym fits)
look_bound a [] n (results.Refused index found) h fits = tt
look_bound a (name ∷ names) n result h fits = subst (Bound a (name ∷ names) n) (sym h.1) (stat_read a h.0 n)

pub look_done : (a : ℕ) (names : List (List ℕ)) (r : OrRefusal Name_outcome) (reply : Reply) (bound : List Field) (taken : ℕ)
    (shown : List (List Tuple))
    → IsNameReply (Look names) r reply → FitsNames (Look names) r → reply.result ≡ results.Did bound taken shown
    → stat_line a (is_root names) bound ≡ said_by a (name_answer r)
look_done a names (Err why) reply bound taken shown h fits e =
    absurd (not_both reply.result (did_is reply.result bound taken shown e) (refused_is (step_of (name_plan (Look names))) why reply.result h))
look_done a names (Ok (Makes n)) reply bound taken shown h fits e = absurd h
look_done a names (Ok (Shows n)) reply bound taken shown h fits e = subst (Bound a names n) e (look_bound a names n reply.result h fits)

-- a sight that says the same of the file and its version
meant_version : (o : Option Row) → option_map row_of (option_map row_said o) ≡ o
meant_version None = refl
meant_version (Some v) = refl

sighted_same : (s : Setup) (a : ℕ) (agent : Agent Row) (given : Given) (h : ℕ) (writes : Bool) (x y : machine.Sight Row) (at : Found Row) → x.file
    ≡ y.file
    → x.number ≡ y.number → sighted s rows a agent given h writes x at ≡ sighted s rows a agent given h writes y at
sighted_same s a agent given h writes x y As_empty file number =
    let P : FileId → ℕ → Reaction Row = λ f n. sighted s rows a agent given h writes (record x { file = f; number = n }) As_empty in
    ap (λ (f : FileId). P f x.number) file ∙ ap (P y.file) number
sighted_same s a agent given h writes x y (On_clouds v) file number = refl

saw_same : (s : Setup) (a : ℕ) (agent : Agent Row) (given : Given) (request : RequestNo) (h : ℕ) (writes : Bool) (sight : machine.Sight Row)
    → saw s rows a agent given request h writes sight ≡ saw s rows a agent given request h writes (sight_meant (sight_said sight))
saw_same s a agent given request h writes sight =
    let next : Agent Row = agent in
    let meant = sight_meant (sight_said sight) in
    let found_same : found sight ≡ found meant = ap (λ (o : Option Row). found (record sight { version = o })) (sym (meant_version sight.version)) in
    let after : Reaction Row → Reaction Row = λ second. record {
      agent = second.agent;
      says = says.Saw request sight.file sight.number ∷ second.says;
      steps = second.steps;
      sent = second.sent;
      ranked = second.ranked;
    } in
    ap after (sighted_same s a next given h writes sight meant (found sight) refl refl)
    ∙ ap (λ (x : Found Row). after (sighted s rows a next given h writes meant x)) found_same

-- an open whose step was done
open_sees : (s : Setup) (a : ℕ) (agent : Agent Row) (given : Given) (request : RequestNo) (writes : Bool) (h : ℕ) (sight : machine.Sight Row)
    (reply : Reply)
    → ShowsSight reply (sight_said sight)
    → saw s rows a agent given request h writes (sight_meant (sight_of reply.result)) ≡ saw s rows a agent given request h writes sight
open_sees s a agent given request writes h sight reply is =
    ap (λ (seen : Sight). saw s rows a agent given request h writes (sight_meant seen)) (sight_read reply (sight_said sight) is)
    ∙ sym (saw_same s a agent given request h writes sight)

-- an agent once a lock was told that ends then
abbrev pub with_lock : (writes : Bool) (agent : Agent Row) (h until : ℕ) → Agent Row
with_lock true agent h until = leased agent h until
with_lock false agent h until = agent

pub open_done : (s : Setup) (a lease : ℕ) (agent : Agent Row) (given : Given) (request : RequestNo) (writes : Bool) (names : List (List ℕ)) (h : ℕ)
    (r : OrRefusal (Session_outcome Row)) (reply : Reply) → IsSessionReply lease request (open_step writes names h) r reply → IsDone reply.result
    → saw s rows a (with_lock writes agent h (reply.now + lease)) given request h writes (sight_meant (sight_of reply.result))
    ≡ told_open s rows a agent given request h r
open_done s a lease agent given request true names h (Err why) reply is done =
    absurd (not_both reply.result done (refused_is (step_of (session_plan lease request (Open_write names h))) why reply.result is))
open_done s a lease agent given request false names h (Err why) reply is done =
    absurd (not_both reply.result done (refused_is (step_of (session_plan lease request (Open_read names h))) why reply.result is))
open_done s a lease agent given request true names h (Ok (Sees sight)) reply is done = absurd is
open_done s a lease agent given request true names h (Ok (Locks sight l)) reply is done =
    open_sees s a (leased agent h (reply.now + lease)) given request true h sight reply is.0
    ∙ ap (λ (until : ℕ). saw s rows a (leased agent h until) given request h true sight) is.1
open_done s a lease agent given request true names h (Ok (Completes of it n)) reply is done = absurd is
open_done s a lease agent given request false names h (Ok (Sees sight)) reply is done = open_sees s a agent given request false h sight reply is
open_done s a lease agent given request false names h (Ok (Locks sight l)) reply is done = absurd is
open_done s a lease agent given request false names h (Ok (Completes of it n)) reply is done = absurd is

-- the end of its lock fits
pub lock_fits : (lease : ℕ) (request : RequestNo) (writes : Bool) (names : List (List ℕ)) (h : ℕ) (r : OrRefusal (Session_outcome Row))
    (reply : Reply)
    → IsSessionReply lease request (open_step writes names h) r reply → FitsSessions (open_step writes names h) r → IsDone reply.result → writes
    ≡ true
    → reply.now + lease < 2 ^ 64
lock_fits lease request false names h r reply is fits done w = cc
lock_fits lease request true names h (Err why) reply is fits done w =
    absurd (not_both reply.result done (refused_is (step_of (session_plan lease request (Open_write names h))) why reply.result is))
lock_fits lease request true names h (Ok (Sees sight)) reply is fits done w = absurd is
lock_fits lease request true names h (Ok (Locks sight l)) reply is fits done w = omega (arith, is.1, fits.1)
lock_fits lease request true names h (Ok (Completes of it n)) reply is fits done w = absurd is

-- an open that saw its version
pub open_did : (old v : AgentState) (given : Given) (request : RequestNo) (writes : Bool) (names : List (List ℕ)) (h : ℕ)
    (r : OrRefusal (Session_outcome Row)) (reply : Reply)
    (seen : Sight) → IsSessionReply old.header.lease request (open_step writes names h) r reply → IsDone reply.result → seen ≡ sight_of reply.result
    → v ≡ record old { agent = with_lock writes old.agent h (reply.now + old.header.lease) }
    → did v (saw (setup v) rows v.no v.agent given request h writes (sight_meant seen))
    ≡ did old (told_open (setup old) rows old.no old.agent given request h r)
open_did old v given request writes names h r reply seen is done shows locked =
    ap (λ (x : Sight). did v (saw (setup v) rows v.no v.agent given request h writes (sight_meant x))) shows
    ∙ ap (λ (w : AgentState). did w (saw (setup w) rows w.no w.agent given request h writes (sight_meant (sight_of reply.result)))) locked
    ∙ ap (did old) (open_done (setup old) old.no old.header.lease old.agent given request writes names h r reply is done)

-- what it saw fits
version_fits : (o : Option Row) → FitsVersion o → IfSome (option_map row_said o) IsRow
version_fits None fits = tt
version_fits (Some v) fits = record { short = fits.2; last = fits.1 }

seen_fits : (sight : machine.Sight Row) (reply : Reply) → ShowsSight reply (sight_said sight) → FitsSight sight → FitsSeen (sight_of reply.result)
seen_fits sight reply is fits =
    subst FitsSeen (sym (sight_read reply (sight_said sight) is)) (record { newest = fits.1; row = version_fits sight.version fits.2 })

-- a refusal shows no sight
refused_fits : (step : tuples.Step) (why : Refusal) (result : StepResult) → IsRefusal step why result → FitsSeen (sight_of result)
refused_fits step why result h = subst (λ (r : StepResult). FitsSeen (sight_of r)) (sym h.2) (record { newest = omega arith; row = tt })

session_fits : (lease : ℕ) (request : RequestNo) (x : Session_step Row) (r : OrRefusal (Session_outcome Row)) (reply : Reply)
    → IsSessionReply lease request x r reply → FitsSessions x r → is_open (On_sessions x) ≡ true → FitsSeen (sight_of reply.result)
session_fits lease request x (Err why) reply is fits opens = refused_fits (step_of (session_plan lease request x)) why reply.result is
session_fits lease request (Open_read names h) (Ok (Sees sight)) reply is fits opens = seen_fits sight reply is fits
session_fits lease request (Open_read names h) (Ok (Locks sight l)) reply is fits opens = absurd is
session_fits lease request (Open_read names h) (Ok (Completes of it n)) reply is fits opens = absurd is
session_fits lease request (Open_write names h) (Ok (Sees sight)) reply is fits opens = absurd is
session_fits lease request (Open_write names h) (Ok (Locks sight l)) reply is fits opens = seen_fits sight reply is.0 fits.0
session_fits lease request (Open_write names h) (Ok (Completes of it n)) reply is fits opens = absurd is
session_fits lease request (Commit h v) (Ok outcome) reply is fits opens = absurd cc

-- the numbers of a reply fit, whatever step it is told of
pub told_fits : (lease : ℕ) (pending : List (Request Row)) (request : RequestNo) (reply : Reply) (o : Outcome Row)
    → IsTold lease pending request reply o
    → FitsReply (pending_step pending request) reply
told_fits lease pending request reply o is = by (pending_step pending request) is.asked where
  of : (o : Outcome Row) → IsReplyTo lease request o reply → FitsOutcome o → is_open (outcome_step o) ≡ true → FitsSeen (sight_of reply.result)
  of (Of_names x r) replied fits opens = absurd cc
  of (Of_locks x r) replied fits opens = absurd cc
  of (Of_sessions x r) replied fits opens = session_fits lease request x r reply replied fits opens

  by : (p : Option (Request Row)) → IsIts p (outcome_step o) → FitsReply p reply
  by None its = tt
  by (Some x) its = λ opens. of o is.replied is.fits (ap is_open (sym its) ∙ opens)

-- what holds however a call ended
pub on_ok_so : {X E P : Type 0} (r : Result X E) → P → OnOk r P
on_ok_so (Ok x) h = h
on_ok_so (Err e) h = tt
