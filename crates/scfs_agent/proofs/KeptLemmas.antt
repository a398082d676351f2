-- What holds of every agent goes on to hold.
use Rattle.std.proofs.Common.{◌≡◌, ℕ, ◌+◌, ◌*◌, ◌<◌, ◌≤◌, List, [], ◌∷◌, ◌++◌, length, length-append, map, Bool, true, false, not, cond, Option, Some, None, refl, sym, ap, ◌∙◌, subst, inl, inr, arith}
use Rattle.std.specs.Prelude.{◌==◌, nat_lt, filter, IfSome, if◌then◌else◌, remove}
use Rattle.std.specs.List.{All}
use Rattle.std.specs.Map.{set_value}
use Rattle.std.specs.Ordering.{nat_cmp, match_ordering}
use Rattle.std.specs.declared.cmp.Ordering.{Ordering}
use Rattle.std.specs.declared.cmp.Ordering.TheVariants.{Less, Equal, Greater}
use Rattle.std.specs.BTreeMap.{is_at}
use Rattle.std.proofs.lemmas.List.Elements.{All-nil, All-cons, All-head, All-tail, All-weaker, All-map, All-push, All-append, All-filter}
use Rattle.std.proofs.lemmas.List.Sums.{length-filter, count_by-le-length}
use Rattle.std.proofs.lemmas.Bool.{lt-ltb, le-ltb, cases_order}
use Rattle.std.proofs.lemmas.List.{map-append, length-map}
use Rattle.std.proofs.lemmas.Map.Entries.{All-lookup}
use Rattle.scfs_lease.specs.declared.leases.Lease.{Lease}
use Rattle.scfs_lease.specs.Leases.{with_lease, without_lease, with_end, end_told, with_renewal, renewal_asked}
use Rattle.scfs_policy.specs.declared.rank.RankFacts.{RankFacts}
use Rattle.scfs_schedule.specs.declared.types.Refusal.{Refusal}
use Rattle.scfs_session.specs.declared.sessions.Session.{Session}
use Rattle.scfs_session.specs.Open.{OpenSessions, session_of, opened, ended, change_refusal, unless, changed, sessions_after}
use Rattle.scfs_model.specs.Opens.{one_more}
use Rattle.scfs_schedule.specs.declared.types.Header.{Header}
use Rattle.scfs_anchor.specs.Tree.{Each}
use Rattle.scfs_schedule.specs.Grammar.{IsHeader}
use Rattle.scfs_model.specs.Layers.{Row}
use Rattle.scfs_model.specs.Lists.{below}
use Rattle.scfs_model.specs.UnitFormat.{under}
use Rattle.scfs_model.specs.Agents.{Closed, no_tallies}
use Rattle.scfs_agent.specs.Asking.{MayUpload}
use Rattle.scfs_agent.specs.Views.{step_of, request_of, waiting_of, closed_in}
use Rattle.scfs_agent.specs.Keeping.{HaveBases, AreLeases, AreTallies, HaveRoom, IsKept, IsWork, FitsAsking, calls_in, calls_of, is_call}
use Rattle.scfs_agent.specs.declared.work.Pending.{Pending}
use Rattle.scfs_agent.specs.declared.work.Work.{Work}
use Rattle.scfs_agent.specs.declared.work.Work.TheVariants as works
use Rattle.scfs_agent.proofs.CloudLists.{first_clouds, first_few}
use Rattle.scfs_agent.proofs.PendingLemmas.{calls_push, All-remove}

abbrev Based : ℕ × Session → Type 0
Based x = x.1.base ≤ 1000000

opened_by : (o : Ordering) (h : ℕ) (y : Session) (e : ℕ × Session) (es rest : OpenSessions) → HaveBases (e ∷ es) → y.base ≤ 1000000 → HaveBases rest
    → HaveBases (match_ordering o ((h, y) ∷ e ∷ es) ((e.0, y) ∷ es) (e ∷ rest))
opened_by Less h y e es rest are base more = All-cons Based (h, y) (e ∷ es) base are
opened_by Equal h y e es rest are base more = All-cons Based (e.0, y) es base (All-tail Based e es are)
opened_by Greater h y e es rest are base more = All-cons Based e rest (All-head Based e es are) more

pub opened_bases : (sessions : OpenSessions) (h : ℕ) (y : Session) → HaveBases sessions → y.base ≤ 1000000 → HaveBases (opened sessions h y)
opened_bases [] h y are base = All-cons Based (h, y) [] base are
opened_bases (e ∷ es) h y are base =
    opened_by (nat_cmp h e.0) h y e es (opened es h y) are base (opened_bases es h y (All-tail Based e es are) base)

ended_by : (b : Bool) (e : ℕ × Session) (es rest : OpenSessions) → HaveBases (e ∷ es) → HaveBases rest → HaveBases (cond b es (e ∷ rest))
ended_by true e es rest are more = All-tail Based e es are
ended_by false e es rest are more = All-cons Based e rest (All-head Based e es are) more

pub ended_bases : (sessions : OpenSessions) (h : ℕ) → HaveBases sessions → HaveBases (ended sessions h)
ended_bases [] h are = are
ended_bases (e ∷ es) h are = ended_by (is_at (nat_cmp h) e.0) e es (ended es h) are (ended_bases es h (All-tail Based e es are))

set_by : (b : Bool) (y : Session) (e : ℕ × Session) (es rest : OpenSessions) → HaveBases (e ∷ es) → y.base ≤ 1000000 → HaveBases rest
    → HaveBases (cond b ((e.0, y) ∷ es) (e ∷ rest))
set_by true y e es rest are base more = All-cons Based (e.0, y) es base (All-tail Based e es are)
set_by false y e es rest are base more = All-cons Based e rest (All-head Based e es are) more

set_bases : (test : ℕ → Bool) (sessions : OpenSessions) (y : Session) → HaveBases sessions → y.base ≤ 1000000 → HaveBases (set_value test sessions y)
set_bases test [] y are base = are
set_bases test (e ∷ es) y are base =
    set_by (test e.0) y e es (set_value test es y) are base (set_bases test es y (All-tail Based e es are) base)

changed_by : (sessions : OpenSessions) (h end : ℕ) (change : List ℕ → List ℕ) (o : Option Session) → HaveBases sessions
    → IfSome o (λ y. y.base ≤ 1000000)
    → HaveBases (sessions_after sessions h (changed o end change))
changed_by sessions h end change None are base = are
changed_by sessions h end change (Some y) are base = by (change_refusal y end) where
  by : (r : Option Refusal) → HaveBases (sessions_after sessions h (unless r (record y { contents = change y.contents })))
  by None = set_bases (is_at (nat_cmp h)) sessions (record y { contents = change y.contents }) are base
  by (Some why) = are

pub changed_bases : (sessions : OpenSessions) (h end : ℕ) (change : List ℕ → List ℕ) → HaveBases sessions
    → HaveBases (sessions_after sessions h (changed (session_of sessions h) end change))
changed_bases sessions h end change are =
    changed_by sessions h end change (session_of sessions h) are (All-lookup (λ (y : Session). y.base ≤ 1000000) (is_at (nat_cmp h)) sessions are)

-- the version of a session
pub left_base : (sessions : OpenSessions) (h : ℕ) (y : Session) → HaveBases sessions → session_of sessions h ≡ Some y → y.base ≤ 1000000
left_base sessions h y are is =
    subst (λ (o : Option Session). IfSome o (λ y. y.base ≤ 1000000)) is
    (All-lookup (λ (y : Session). y.base ≤ 1000000) (is_at (nat_cmp h)) sessions are)

-- the cloud of facts stays, and they count one answer more at most
one_more_cloud : (c : ℕ) (good : Bool) (x : RankFacts) → (one_more c good x).cloud ≡ x.cloud
one_more_cloud c good x = by (x.cloud == c) good where
  by : (b g : Bool) → (if b then (if g then record x { good = x.good + 1 } else record x { bad = x.bad + 1 }) else x).cloud ≡ x.cloud
  by true true = refl
  by true false = refl
  by false g = refl

one_more_few : (inputs c : ℕ) (good : Bool) (x : RankFacts) → (x.good + 1 ≤ inputs) × (x.bad + 1 ≤ inputs)
    → ((one_more c good x).good ≤ inputs) × ((one_more c good x).bad ≤ inputs)
one_more_few inputs c good x room = by (x.cloud == c) good where
  by : (b g : Bool) → let y : RankFacts = if b then (if g then record x { good = x.good + 1 } else record x { bad = x.bad + 1 }) else x in
      (y.good ≤ inputs) × (y.bad ≤ inputs)
  by true true = (room.0, omega (arith, room.1))
  by true false = (omega (arith, room.0), room.1)
  by false g = (omega (arith, room.0), omega (arith, room.1))

same_pair : (a b : ℕ) (more rest : List ℕ) → a ≡ b → more ≡ rest → a ∷ more ≡ b ∷ rest
same_pair a b more rest e f = cc

same_clouds : (c : ℕ) (good : Bool) (tallies : List RankFacts)
    → map (λ (x : RankFacts). x.cloud) (map (one_more c good) tallies) ≡ map (λ (x : RankFacts). x.cloud) tallies
same_clouds c good [] = refl
same_clouds c good (x ∷ xs) = same_pair _ _ _ _ (one_more_cloud c good x) (same_clouds c good xs)

pub tallies_more : (f inputs c : ℕ) (good : Bool) (tallies : List RankFacts) → AreTallies f inputs tallies → HaveRoom inputs tallies
    → AreTallies f inputs (map (one_more c good) tallies)
tallies_more f inputs c good tallies are room = record {
  clouds = same_clouds c good tallies ∙ are.clouds;
  few =
      All-map (λ (x : RankFacts). (x.good ≤ inputs) × (x.bad ≤ inputs)) (one_more c good) tallies
      (All-weaker (λ (x : RankFacts). (x.good + 1 ≤ inputs) × (x.bad + 1 ≤ inputs)) _ (λ x h. one_more_few inputs c good x h) tallies room);
}

-- an agent without its lock of a session, with a new one, or with other ends
abbrev Numbered : Lease → Type 0
Numbered l = 1 ≤ l.session

pub unleased_are : (most h : ℕ) (leases : List Lease) → AreLeases most leases → AreLeases most (without_lease h leases)
unleased_are most h leases are =
    let test : Lease → Bool = λ l. not (l.session == h) in
    let fewer : length (filter test leases) ≤ length leases = rw (length-filter test leases) (count_by-le-length test leases) in
    record { few = omega (arith, are.few, fewer); numbered = All-filter test Numbered leases are.numbered }

beside : (h : ℕ) (leases : List Lease)
    → length (filter (λ (l : Lease). nat_lt l.session h) leases) + length (filter (λ (l : Lease). nat_lt h l.session) leases) ≤ length leases
beside h [] = omega arith
beside h (l ∷ leases) =
    let rest = beside h leases in
    elim (cases_order l.session h) [
      | inl same ↦ rw (le-ltb l.session h (omega arith), le-ltb h l.session (omega arith)) (omega arith)
      | inr (inl less) ↦ rw (lt-ltb l.session h less, le-ltb h l.session (omega arith)) (omega arith)
      | inr (inr more) ↦ rw (le-ltb l.session h (omega arith), lt-ltb h l.session more) (omega arith)
    ]

pub leased_are : (most h until : ℕ) (leases : List Lease) → 1 ≤ h → length leases + 1 ≤ most → AreLeases most leases
    → AreLeases most (with_lease (record { session = h; until = until; asked = false }) leases)
leased_are most h until leases first room are =
    let below : Lease → Bool = λ l. nat_lt l.session h in
    let above : Lease → Bool = λ l. nat_lt h l.session in
    let x : Lease = record { session = h; until = until; asked = false } in
    record {
      few = rw (length-append (filter below leases) (x ∷ filter above leases)) (omega (arith, beside h leases, room));
      numbered =
          All-append Numbered (filter below leases) (x ∷ filter above leases) (All-filter below Numbered leases are.numbered)
          (All-cons Numbered x (filter above leases) first (All-filter above Numbered leases are.numbered));
    }

changed_are : (most : ℕ) (f : Lease → Lease) → ((l : Lease) → (f l).session ≡ l.session) → (leases : List Lease) → AreLeases most leases
    → AreLeases most (map f leases)
changed_are most f same leases are = record {
  few = rw (length-map leases f) are.few;
  numbered = All-map Numbered f leases (All-weaker Numbered (λ l. Numbered (f l)) (λ l first. omega (arith, same l, first)) leases are.numbered);
}

by_session : (h : ℕ) (other l : Lease) → other.session ≡ l.session → (if l.session == h then other else l).session ≡ l.session
by_session h other l same = elim (l.session == h) as (λ b. (if b then other else l).session ≡ l.session) [ true ↦ same | false ↦ refl ]

pub ended_are : (most h until : ℕ) (leases : List Lease) → AreLeases most leases → AreLeases most (with_end h until leases)
ended_are most h until = changed_are most (end_told h until) (λ l. by_session h (record l { until = until; asked = false }) l refl)

pub renewal_are : (most h : ℕ) (leases : List Lease) → AreLeases most leases → AreLeases most (with_renewal h leases)
renewal_are most h = changed_are most (renewal_asked h) (λ l. by_session h (record l { asked = true }) l refl)

-- an agent with no sessions, and no clouds counted
pub kept_none : (header : Header) (no incarnation inputs requests opens files uploads : ℕ) (work : Work) (sessions : OpenSessions)
    (leases : List Lease) (tallies : List RankFacts)
    (pending : List Pending) → IsHeader header → no < length header.agents → inputs ≤ 1000000 → incarnation ≤ inputs → requests ≤ 2000000 * inputs
    → opens ≤ inputs
    → files ≤ inputs → uploads ≤ inputs → IsWork no incarnation header.f inputs work → sessions ≡ [] → leases ≡ [] → tallies
    ≡ no_tallies (under header) → pending ≡ []
    → IsKept header no incarnation inputs requests opens files uploads work sessions leases tallies pending
kept_none header a incarnation inputs requests opens files uploads work sessions leases tallies pending is member counted started drawn opened made
    begun working s l t p =
    let clouds = below (3 * header.f + 1) in
    let bases : HaveBases sessions = subst HaveBases (sym s) (All-nil Based) in
    let leased : AreLeases inputs leases = subst (AreLeases inputs) (sym l) (record { few = omega arith; numbered = All-nil Numbered }) in
    let tallied : AreTallies header.f inputs tallies =
    subst (AreTallies header.f inputs) (sym t) (record { clouds = first_clouds clouds; few = first_few inputs clouds }) in
    let fitting : All (λ (x : Pending). FitsAsking x.asking) pending =
    subst (All (λ (x : Pending). FitsAsking x.asking)) (sym p) (All-nil (λ (x : Pending). FitsAsking x.asking)) in
    let waits : calls_in (map request_of pending) ≤ calls_of (waiting_of work) =
    omega (arith, ap (λ (xs : List Pending). calls_in (map request_of xs)) p) in
    assumption (is, member, counted, started, drawn, opened, made, begun, working, bases, leased, tallied, fitting, waits)

-- an agent with other work, sessions, leases, tallies or steps that were asked
module _ {header : Header} {no incarnation inputs requests opens files uploads : ℕ} {work : Work} {sessions : OpenSessions} {leases : List Lease}
    {tallies : List RankFacts}
    {pending : List Pending} (kept : IsKept header no incarnation inputs requests opens files uploads work sessions leases tallies pending) where
  pub kept_idle : (others : OpenSessions) → HaveBases others → calls_in (map request_of pending) ≡ 0
      → IsKept header no incarnation inputs requests opens files uploads works.Idle others leases tallies pending
  kept_idle others bases none =
      let waits : calls_in (map request_of pending) ≤ 0 = omega (arith, none) in
      assumption (kept, bases, waits)

  pub kept_sessions : (others : OpenSessions) → HaveBases others
      → IsKept header no incarnation inputs requests opens files uploads work others leases tallies pending
  kept_sessions others bases = assumption (kept, bases)

  pub kept_leases : (others : List Lease) → AreLeases inputs others
      → IsKept header no incarnation inputs requests opens files uploads work sessions others tallies pending
  kept_leases others are = assumption (kept, are)

  pub kept_tallies : (others : List RankFacts) → AreTallies header.f inputs others
      → IsKept header no incarnation inputs requests opens files uploads work sessions leases others pending
  kept_tallies others are = assumption (kept, are)

  -- with further requests, for this work
  pub kept_work : (drawn : ℕ) (other : Work) → drawn ≤ 2000000 * inputs → IsWork no incarnation header.f inputs other
      → calls_in (map request_of pending) ≡ 0
      → IsKept header no incarnation inputs drawn opens files uploads other sessions leases tallies pending
  kept_work drawn other few is none =
      let waits : calls_in (map request_of pending) ≤ calls_of (waiting_of other) = omega (arith, none) in
      assumption (kept, few, is, waits)

  -- a step more is asked
  pub kept_asked : (x : Pending) (all : List Pending) → all ≡ pending ++ x ∷ [] → requests + 1 ≤ 2000000 * inputs → FitsAsking x.asking
      → calls_in (map request_of pending) + cond (is_call (step_of x.asking)) 1 0 ≤ calls_of (waiting_of work)
      → IsKept header no incarnation inputs (requests + 1) opens files uploads work sessions leases tallies all
  kept_asked x all joined few fits calls =
      let more : calls_in (map request_of all) ≡ calls_in (map request_of pending) + cond (is_call (step_of x.asking)) 1 0 =
      ap (λ (xs : List Pending). calls_in (map request_of xs)) joined ∙ ap calls_in (map-append request_of pending (x ∷ []))
      ∙ calls_push (map request_of pending) (request_of x) in
      let waits : calls_in (map request_of all) ≤ calls_of (waiting_of work) = omega (arith, more, calls) in
      let fitting : All (λ (y : Pending). FitsAsking y.asking) all =
      subst (All (λ (y : Pending). FitsAsking y.asking)) (sym joined) (All-push (λ (y : Pending). FitsAsking y.asking) pending x kept.fitting fits) in
      assumption (kept, few, waits, fitting)

  -- a step is told
  pub kept_told : (at : ℕ) (rest : List Pending) → rest ≡ remove pending at → calls_in (map request_of rest) ≤ calls_of (waiting_of work)
      → IsKept header no incarnation inputs requests opens files uploads work sessions leases tallies rest
  kept_told at rest left calls =
      let fitting : All (λ (y : Pending). FitsAsking y.asking) rest =
      subst (All (λ (y : Pending). FitsAsking y.asking)) (sym left) (All-remove (λ (y : Pending). FitsAsking y.asking) pending at kept.fitting) in
      assumption (kept, calls, fitting)

-- what it uploads may be completed
pub closes_in : (a incarnation f inputs : ℕ) (w : Work) → IsWork a incarnation f inputs w
    → Each (λ (x : Closed Row). MayUpload a incarnation x.upload) (closed_in w)
closes_in a incarnation f inputs works.Down is = tt
closes_in a incarnation f inputs works.Starting is = tt
closes_in a incarnation f inputs works.Idle is = tt
closes_in a incarnation f inputs works.Step is = tt
closes_in a incarnation f inputs (works.Fetch fetch) is = tt
closes_in a incarnation f inputs (works.Upload upload) is = (is.closes, tt)
