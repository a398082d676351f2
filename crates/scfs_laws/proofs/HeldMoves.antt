-- The moves of an agent leave what is seen of it tied to its seat.
use Rattle.std.proofs.Common.{true≢false, ◌≡◌, ℕ, ◌+◌, ◌≤◌, List, [], ◌∷◌, ◌++◌, fold, refl, sym, ap, ◌∙◌, subst, append-nil, append_assoc, Bool, true, false, cond, Option, Some, None, Ok, length, arith, take, leb-true, le-leb, eqb-true, inl, inr}
use Rattle.scfs_schedule.specs.declared.types.Event.{Event}
use Rattle.scfs_model.specs.Format.{Setup, sealed, enough, object_at}
use Rattle.scfs_model.specs.Given.{Given}
use Rattle.scfs_model.specs.Steps.{Step, On_names, On_sessions, On_locks}
use Rattle.scfs_model.specs.Sayings.{Saying, Saw, Opened, Made, Described, Reads_out, Wrote, Truncated, Stored, Refuses, Started}
use Rattle.scfs_model.specs.Agents.{Waiting, For_step, For_clouds, For_close, Closed, Upload, Request, Agent, Reaction, silent, followed, next_request, asks_step, saying, Opening, next_asked, asks_clouds}
use Rattle.scfs_model.specs.Calls.{with_session}
use Rattle.scfs_model.specs.Layers.{Row, rows}
use Rattle.scfs_model.specs.States.{Reply}
use Rattle.scfs_laws.specs.Held.{Close_seen, Version_seen, Agent_seen, with_reading, with_bytes, edited, new_reading, no_close, reading_of, bytes_opened}
use Rattle.scfs_laws.proofs.Lists.{each-append, Each, length-put}
use Rattle.scfs_laws.proofs.HeldSeats.{latest, Waits, Fits, busy, busy_asked, busy_replied, Seated, IsRow, IsSeen, told_of}
use Rattle.scfs_laws.proofs.HeldSteps.{one_asked, busy_once, all_idle, any_change, loose_change}
use Rattle.scfs_laws.proofs.HeldLines.{after_sent, IsOwn, after_doing, Does, IsSaid, after_saying}
use Rattle.scfs_schedule.specs.declared.types.Call.{Call}
use Rattle.scfs_session.specs.declared.sessions.Session.{Session}
use Rattle.scfs_session.specs.Contents.{resized, written}
use Rattle.scfs_session.specs.Open.{session_of, ended, read_answer, change_refusal, unless, changed, after_write, after_truncate}
use Rattle.scfs_model.specs.Names.{upload_name}
use Rattle.scfs_model.specs.SessionSteps.{Open_read, Open_write, Commit}
use Rattle.scfs_laws.proofs.HeldSessions.{held_set, held_found, held_opened}
use Rattle.scfs_laws.proofs.HeldDoing.{at, seat_of, after_puts, after_gets, asked_own, changes_at, shown_of, changed_of}
use Rattle.std.specs.Prelude.{◌==◌}
use Rattle.scfs_base.specs.declared.naming.Digest.{Digest}
use Rattle.scfs_base.specs.declared.naming.FileId.{FileId}
use Rattle.scfs_schedule.specs.declared.types.Src.{Src}
use Rattle.scfs_model.specs.Lists.{if_some}
use Rattle.scfs_model.specs.Ranks.{order_by}
use Rattle.scfs_model.specs.Reading.{Reading}
use Rattle.scfs_model.specs.Opens.{Found, As_empty, On_clouds, found_version, opened, session_on, asks_gets, takes}
use Rattle.scfs_model.specs.Storing.{is_enough, with_ack}
use Rattle.scfs_model.specs.Closes.{with_storing, goes_on, asks_puts}
use Rattle.scfs_base.specs.declared.cloud.CloudRequest.TheVariants as requests
use Rattle.scfs_schedule.specs.declared.types.Call.TheVariants as calls
use Rattle.scfs_schedule.specs.declared.types.Event.TheVariants as events
use Rattle.scfs_model.specs.Sayings as says
use Rattle.scfs_schedule.specs.declared.types.Src.TheVariants as sources
use Rattle.scfs_laws.proofs.Moves.{Known, IsPlain, IsCommon, IsInOrder, IsShort, awaiting, opening, closing, turned_open, turned_upload, just_enough, Moves}
use Rattle.scfs_laws.proofs.HeldDoing.{at, seat_of, after_puts, after_gets, asked_own, changes_at, shown_of, changed_of}
use Rattle.scfs_session.specs.Open as session
use Rattle.std.proofs.lemmas.List.Sums.{fold-append}
use Rattle.scfs_laws.proofs.HeldLines.{IsSaid, IsOwn, after_sent, after_saying, after_doing, Does}

-- the reading of a close begins as that of its row
abbrev row_reading : Row → Reading
row_reading v = record { name = upload_name v.upload; root = v.root; size = v.length; order = []; gets = []; pieces = []; turns = 0 }

reading_is : (s : Setup) (v : Row) (y : Close_seen) → IsRow s v y → new_reading s y ≡ row_reading v
reading_is s v y is =
    let of : List ℕ → Digest → ℕ → Reading = λ name root size. record
    { name = name; root = root; size = size; order = []; gets = []; pieces = []; turns = 0 } in
    ap (λ u. of (upload_name u) (sealed s y.upload y.bytes).root (length y.bytes)) (sym is.upload)
    ∙ ap (λ root. of (upload_name v.upload) root (length y.bytes)) (sym is.root)
    ∙ ap (λ size. of (upload_name v.upload) v.root size) (sym is.size)

-- the agent whose one closed session is uploaded so
abbrev uploading : Agent Row → Closed Row → Upload Row → Agent Row
uploading g x u = at g (Some For_close) ((record x { upload = Some u }) ∷ [])

-- an upload that is stored further
record IsFurther (s : Setup) (u later : Upload Row) : Type 0 where
  pub version : later.version ≡ u.version
  pub stored : is_enough s u.storing ≡ true → is_enough s later.storing ≡ true

-- as many acknowledgements as complete it were too few before
few_before : (s : Setup) (u : Upload Row) → (length u.storing.acked + 1 == enough s) ≡ true → is_enough s u.storing ≡ false
few_before s u just = by (is_enough s u.storing) refl
  where
    by : (b : Bool) → is_enough s u.storing ≡ b → b ≡ false
    by true e = absurd (no (enough s) (leb-true (enough s) (length u.storing.acked) e) (eqb-true (length u.storing.acked + 1) (enough s) just))
      where
        no : (n : ℕ) → n ≤ length u.storing.acked → length u.storing.acked + 1 ≡ n → ⊥
        no n less same = omega arith
    by false e = refl

-- one acknowledgement more stores it further
more : (s : Setup) (u : Upload Row) (c : ℕ) → IsFurther s u (with_storing u (with_ack u.storing c))
more s u c = record {
  version = refl;
  stored = λ e. le-leb (enough s) _
      (let before = leb-true (enough s) (length u.storing.acked) e in omega (arith, length-put c u.storing.acked, before));
}

-- a call that is no close
abbrev pub IsNoClose : Call → Type 0
IsNoClose (calls.Close h) = ⊥
IsNoClose other = Unit {0}

module _ (s : Setup) (event : Event) (a : ℕ) (versions : List Version_seen) (replied : List (Reply Row)) where
  -- what is seen is tied to the seat of the agent when it is this
  abbrev pub Sits : Agent_seen → List (Request Row) → Agent Row → Type 0
  Sits y asked g = Seated s versions a y (seat_of g asked replied)

  abbrev pub Doing : Agent_seen → List (Request Row) → Reaction Row → Type 0
  Doing y asked r = Does s event a versions y asked replied r

  -- whatever is seen and asked
  abbrev pub Holds : Agent Row → Reaction Row → Type 0
  Holds g r = (y : Agent_seen) (asked : List (Request Row)) → Sits y asked g → Doing y asked r

  -- what comes to an agent, but a close, a crash and a start; what is told and answered is taken before
  abbrev pub known : Known Row
  known =
      record {
        call = λ call. (event ≡ events.Call a call) × IsNoClose call;
        sight = λ request sight. (request.agent ≡ a) × IsSeen s versions sight.file sight.number sight.version;
        answer = λ c request answer. Unit {0};
        turn = Unit {0};
        crash = ⊥;
        start = ⊥;
        takes = ⊥;
      }

  none_more : (y : Agent_seen) (asked : List (Request Row)) (g : Agent Row) → Sits y asked g → Sits y (asked ++ []) g
  none_more y asked g is = subst (λ all. Sits y all g) (sym (append-nil asked)) is

  pub silent_does : (y : Agent_seen) (asked : List (Request Row)) (g : Agent Row) → Sits y asked g → Doing y asked (silent g)
  silent_does y asked g is = record { seated = none_more y asked g is; says = tt; sent = tt }

  -- one after the other

  plain_said : (z : Saying) → IsPlain z → ((bytes : ℕ → List ℕ) → IsSaid event a bytes z) × ((y : Agent_seen) → after_saying s event versions y z ≡ y)
  plain_said (says.Saw request file number) plain = absurd plain
  plain_said (says.Opened h number source size) plain = absurd plain
  plain_said (says.Reads_out h bytes) plain = absurd plain
  plain_said (says.Wrote h size) plain = absurd plain
  plain_said (says.Truncated h size) plain = absurd plain
  plain_said (says.Started incarnation) plain = absurd plain
  plain_said _ plain = ((λ bytes. tt), λ y. refl)

  all_plain : (zs : List Saying) → Each IsPlain zs
      → ((bytes : ℕ → List ℕ) → Each (IsSaid event a bytes) zs) × ((y : Agent_seen) → fold (after_saying s event versions) y zs ≡ y)
  all_plain [] plain = ((λ bytes. tt), λ y. refl)
  all_plain (z ∷ zs) plain =
      let one = plain_said z plain.0 in
      let rest = all_plain zs plain.1 in
      ((λ bytes. (one.0 bytes, rest.0 bytes)), λ y. rest.1 (after_saying s event versions y z) ∙ one.1 y)

  module _ (y : Agent_seen) (first second : Reaction Row) where
    abbrev after_says : Agent_seen → Reaction Row → Agent_seen
    after_says z r = fold (after_saying s event versions) z r.says

    abbrev after_all : Agent_seen → Reaction Row → Agent_seen
    after_all z r = after_doing s event versions r.says r.sent z

    both : after_doing s event versions (first.says ++ second.says) (first.sent ++ second.sent) y
        ≡ fold after_sent (fold after_sent (after_says (after_says y first) second) first.sent) second.sent
    both =
        fold-append after_sent (fold (after_saying s event versions) y (first.says ++ second.says)) first.sent second.sent
        ∙ ap (λ z. fold after_sent (fold after_sent z first.sent) second.sent) (fold-append (after_saying s event versions) y first.says second.says)

    in_order : IsInOrder first second
        → after_doing s event versions (first.says ++ second.says) (first.sent ++ second.sent) y ≡ after_all (after_all y first) second
    in_order (inl h) =
        both
        ∙ ap (λ sent. fold after_sent (fold after_sent (after_says (after_says y first) second) sent) second.sent) h.1
        ∙ ap (λ sent. after_all (fold after_sent (after_says y first) sent) second) (sym h.1)
    in_order (inr h) =
        both
        ∙ ap (λ z. fold after_sent (fold after_sent z first.sent) second.sent) ((all_plain second.says h).1 (after_says y first))
        ∙ ap (λ z. fold after_sent z second.sent) (sym ((all_plain second.says h).1 (after_all y first)))

    -- what the second says is so of what was seen before the first
    still_said : IsInOrder first second → Each (IsSaid event a (after_all y first).bytes) second.says → Each (IsSaid event a y.bytes) second.says
    still_said (inl h) said =
        subst (λ (z : Agent_seen). Each (IsSaid event a z.bytes) second.says)
        (ap (λ sent. fold after_sent (after_says y first) sent) h.1 ∙ (all_plain first.says h.0).1 y) said
    still_said (inr h) said = (all_plain second.says h).0 y.bytes

    followed_does : (asked : List (Request Row)) → IsInOrder first second → Doing y asked first
        → Doing (after_all y first) (asked ++ first.steps) second → Doing y asked (followed first (λ next. second))
    followed_does asked order one two = record {
      seated = subst (λ z. Sits z (asked ++ (first.steps ++ second.steps)) second.agent) (sym (in_order order))
          (subst (λ all. Sits (after_all (after_all y first) second) all second.agent) (append_assoc asked first.steps second.steps) two.seated);
      says = each-append (IsSaid event a y.bytes) first.says second.says one.says (still_said order two.says);
      sent = each-append (IsOwn a) first.sent second.sent one.sent two.sent;
    }

  -- where no step is waited for

  -- it waits for something else
  pub awaits : (y : Agent_seen) (asked : List (Request Row)) (g : Agent Row) (w : Option (Waiting Row)) (closed : List (Closed Row))
      → busy_asked asked + busy_replied replied ≡ 0 → Waits s y w closed → Sits y asked g → Sits y asked (at g w closed)
  awaits y asked g w closed none waits is = record {
    based = is.based;
    waits = waits;
    steps = any_change s a versions (latest y) (latest y) g.waiting w g.closed closed asked replied none is.steps;
  }

  -- for nothing, or for the clouds
  idle_calm : (y : Agent_seen) (asked : List (Request Row)) (g : Agent Row) → Sits y asked (awaiting g None) → busy_asked asked + busy_replied replied ≡ 0
  idle_calm y asked g is = all_idle s a versions (latest y) (latest y) None None g.closed g.closed asked replied (λ e. e) (λ e. e) is.steps

  open_calm : (y : Agent_seen) (asked : List (Request Row)) (g : Agent Row) (o : Opening Row) → Sits y asked (opening g o)
      → busy_asked asked + busy_replied replied ≡ 0
  open_calm y asked g o is =
      all_idle s a versions (latest y) (latest y) (Some (For_clouds o)) None g.closed g.closed asked replied (λ e. e) (λ e. e) is.steps

  asks_does : (y : Agent_seen) (asked : List (Request Row)) (g : Agent Row) (step : Step Row) → Sits y asked g
      → busy step + (busy_asked asked + busy_replied replied) ≤ 1 → Fits s (latest y) g.waiting g.closed step → Doing y asked (asks_step a g step)
  asks_does y asked g step is few fits = record {
    seated = record {
      based = is.based;
      waits = is.waits;
      steps = one_asked s a versions (latest y) g.waiting g.closed asked replied (next_request a g step) few (refl, fits) is.steps;
    };
    says = tt;
    sent = tt;
  }

  -- a call's
  called_does : (y : Agent_seen) (asked : List (Request Row)) (g : Agent Row) (step : Step Row) → Sits y asked (awaiting g None)
      → Fits s (latest y) (Some For_step) g.closed step → Doing y asked (asks_step a (awaiting g (Some For_step)) step)
  called_does y asked g step is fits =
      let none = idle_calm y asked g is in
      let few = busy_once step in
      asks_does y asked (awaiting g (Some For_step)) step (awaits y asked (awaiting g None) (Some For_step) g.closed none is.waits is)
      (omega (arith, none, few)) fits

  common_fits : (y : Agent_seen) (closed : List (Closed Row)) (step : Step Row) → IsCommon step → Fits s (latest y) (Some For_step) closed step
  common_fits y closed (On_names x) common = tt
  common_fits y closed (On_locks x) common = tt
  common_fits y closed (On_sessions (Open_read names h)) common = tt
  common_fits y closed (On_sessions (Open_write names h)) common = tt
  common_fits y closed (On_sessions (Commit h v)) common = absurd common

  -- sessions

  pub plain_does : (x : Saying) → IsPlain x → (g : Agent Row) → Holds g (saying g x)
  plain_does x plain g y asked is = record {
    seated = subst (λ z. Sits z (asked ++ []) g) (sym ((plain_said x plain).1 y)) (none_more y asked g is);
    says = ((plain_said x plain).0 y.bytes, tt);
    sent = tt;
  }

  changes : (y : Agent_seen) (asked : List (Request Row)) (g : Agent Row) (h end : ℕ) (change : List ℕ → List ℕ) (next : Session)
      → changed (session_of g.sessions h) end change ≡ Ok next → edited event (y.bytes h) ≡ change (y.bytes h) → Sits y asked g
      → Sits (with_bytes h (edited event (y.bytes h)) y) (asked ++ []) (with_session g h next)
  changes y asked g h end change next made same is = none_more _ asked (with_session g h next) (record {
    based = record {
      held = held_set y.bytes _ g.sessions h next (changes_at y.bytes h (edited event (y.bytes h)) next.contents
          (same ∙ changed_of y.bytes h end change (session_of g.sessions h) next (λ x there. held_found y.bytes g.sessions h x there is.based.held) made))
          is.based.held;
      same = is.based.same;
      ahead = is.based.ahead;
      upload = is.based.upload;
    };
    waits = is.waits;
    steps = is.steps;
  })

  -- opens

  -- answered with the bytes that are seen
  opened_does : (y : Agent_seen) (asked : List (Request Row)) (g : Agent Row) (h : ℕ) (z : Session) (source : Src)
      → Sits y asked (awaiting g None) → bytes_opened s y.reading source ≡ z.contents → Doing y asked (opened g h z source)
  opened_does y asked g h z source is same = record {
    seated = none_more _ asked (record (awaiting g None) { sessions = session.opened g.sessions h z }) (record {
      based = record {
        held = held_opened y.bytes _ g.sessions h z (changes_at y.bytes h (bytes_opened s y.reading source) z.contents same) is.based.held;
        same = is.based.same;
        ahead = is.based.ahead;
        upload = is.based.upload;
      };
      waits = is.waits;
      steps = is.steps;
    });
    says = (tt, tt);
    sent = tt;
  }

  -- its reading goes on
  pub reads_on : (y : Agent_seen) (asked : List (Request Row)) (g : Agent Row) (o next : Opening Row) (r : Reading) → r ≡ told_of next.reading
      → Sits y asked (opening g o) → Sits (record y { reading = r }) asked (opening g next)
  reads_on y asked g o next r same is = record {
    based = is.based;
    waits = (same, is.waits.1);
    steps = loose_change s a versions (latest y) (latest y) (Some (For_clouds o)) (Some (For_clouds next)) g.closed g.closed asked replied (λ e. e) (λ e. e)
        is.steps;
  }

  gets_does : (y : Agent_seen) (asked : List (Request Row)) (g : Agent Row) (o : Opening Row) (clouds : List ℕ) → Sits y asked (opening g o)
      → Doing y asked (asks_gets s rows a g o clouds)
  gets_does y asked g o clouds is =
      let gets = next_asked a g clouds in
      let limit : ℕ = s.format.object_size s.header.f o.reading.size + 1 in
      let next : Opening Row = record o { reading = record o.reading { gets = o.reading.gets ++ gets } } in
      let g2 : Agent Row = record (opening g next) { requests = g.requests + length gets } in
      let on = reads_on y asked g o next _ (ap (λ (r : Reading). record r { gets = r.gets ++ gets }) is.waits.0) is in
      record {
        seated = subst (λ z. Sits z (asked ++ []) g2) (sym (after_gets o.reading.name limit gets y))
            (none_more _ asked g2 (record { based = on.based; waits = on.waits; steps = on.steps }));
        says = tt;
        sent = asked_own a g.incarnation g.requests clouds (λ c. requests.Get o.reading.name limit);
      }

  -- what is found is what is seen
  abbrev IsFound : Agent_seen → Found Row → Type 0
  IsFound y As_empty = Unit {0}
  IsFound y (On_clouds v) = y.reading ≡ row_reading v

  found_is : (y : Agent_seen) (b : Bool) (file : FileId) (number : ℕ) (version : Option Row) → IsSeen s versions file number version
      → y.reading ≡ reading_of s versions file number → IsFound y (cond b As_empty (found_version version))
  found_is y true file number version seen same = tt
  found_is y false file number None seen same = tt
  found_is y false file number (Some v) seen same =
      same ∙ ap (λ found. new_reading s (if_some found (no_close 0 0) (λ (w : Version_seen). w.close))) seen.1 ∙ reading_is s v seen.0.close seen.2

  -- uploads

  -- it waits for its close, and no other session is closed
  uploads_does : (x : Closed Row) (u : Upload Row) (on : Agent Row → Reaction Row)
      → ((g : Agent Row) (y : Agent_seen) (asked : List (Request Row)) → Sits y asked (uploading g x u) → Doing y asked (on (at g (Some For_close) [])))
      → (g : Agent Row) → Holds (goes_on g x u) (on g)
  uploads_does x u on each g y asked is = by g.waiting g.closed is
    where
      by : (w : Option (Waiting Row)) (rest : List (Closed Row)) → Sits y asked (at g w ((record x { upload = Some u }) ∷ rest))
          → Doing y asked (on (at g w rest))
      by None rest is = absurd is.waits
      by (Some For_step) rest is = absurd is.waits
      by (Some (For_clouds o)) rest is = absurd is.waits.1
      by (Some For_close) [] is = each g y asked is
      by (Some For_close) (z ∷ rest) is = absurd is.waits

  further : (y : Agent_seen) (asked : List (Request Row)) (g : Agent Row) (x : Closed Row) (u later : Upload Row) → IsFurther s u later
      → Sits y asked (uploading g x u) → Sits y asked (uploading g x later)
  further y asked g x u later so is = record {
    based = is.based;
    waits = subst (λ v. IsRow s v (latest y)) (sym so.version) is.waits;
    steps = loose_change s a versions (latest y) (latest y) (Some For_close) (Some For_close) ((record x { upload = Some u }) ∷ [])
        ((record x { upload = Some later }) ∷ []) asked replied (λ e. e) so.stored is.steps;
  }

  -- no commit was asked as long as not enough clouds acknowledged
  short_calm : (y : Agent_seen) (asked : List (Request Row)) (g : Agent Row) (x : Closed Row) (u : Upload Row) → is_enough s u.storing ≡ false
      → Sits y asked (uploading g x u) → busy_asked asked + busy_replied replied ≡ 0
  short_calm y asked g x u short is =
      all_idle s a versions (latest y) (latest y) (Some For_close) None ((record x { upload = Some u }) ∷ []) [] asked replied (λ e. e)
      (λ enough. true≢false (sym enough ∙ short)) is.steps

  -- Puts read nothing
  pub puts_does : (y : Agent_seen) (asked : List (Request Row)) (g : Agent Row) (clouds : List ℕ) (name : List ℕ) (body : ℕ → List ℕ) → Sits y asked g
      → Doing y asked (asks_clouds g (next_asked a g clouds) (λ c. requests.Put name (body c)))
  puts_does y asked g clouds name body is =
      let made = next_asked a g clouds in
      let next : Agent Row = record g { requests = g.requests + length made } in
      record {
        seated = subst (λ z. Sits z (asked ++ []) next) (sym (after_puts name body made y))
            (none_more y asked next (record { based = is.based; waits = is.waits; steps = is.steps }));
        says = tt;
        sent = asked_own a g.incarnation g.requests clouds (λ c. requests.Put name (body c));
      }

  drops_does : (g : Agent Row) (x : Closed Row) (u : Option (Upload Row)) → IsShort s u
      → Holds (closing g (record x { upload = u })) (silent (awaiting g None))
  drops_does g x None short y asked is = absurd short
  drops_does g x (Some u) short y asked is =
      uploads_does x u (λ next. silent (awaiting next None))
      (λ g y asked is. silent_does y asked (at g None []) (awaits y asked (uploading g x u) None [] (short_calm y asked g x u short is) tt is)) g y asked is

  pub moves : (given : Given) → Moves s rows a known given Holds
  moves given =
      record {
        still = λ g y asked is. silent_does y asked g is;
        follow = λ g first second order one two y asked is.
            let does = one y asked is in followed_does y first second asked order does (two _ (asked ++ first.steps) does.seated);
        aside = λ g life leases tallies opens same y asked is.
            silent_does y asked _ (record { based = is.based; waits = is.waits; steps = is.steps });
        told = λ g request y asked is. silent_does y asked _ (record { based = is.based; waits = is.waits; steps = is.steps });
        frees = λ g takes. absurd takes;
        says_plain = λ g x plain. plain_does x plain g;
        asks = λ g x y asked is. let few = is.steps.alone in asks_does y asked g (On_locks x) is (omega (arith, few)) tt;
        steps = λ g step common y asked is. called_does y asked g step is (common_fits y g.closed step common);
        makes = λ g path names k y asked is.
            called_does y asked (record g { files = g.files + 1 }) _ (record { based = is.based; waits = is.waits; steps = is.steps }) tt;
        reads = λ g h offset count bytes k ok y asked is. record {
          seated = none_more y asked g is;
          says = (
            (
              offset,
              count,
              k.0,
              shown_of y.bytes h offset count (session_of g.sessions h) bytes (λ x there. held_found y.bytes g.sessions h x there is.based.held) ok,
            ),
            tt,
          );
          sent = tt;
        };
        writes = λ g h offset new next k ok y asked is. record {
          seated = changes y asked g h (offset + length new) (λ contents. written contents offset new) next ok
              (ap (λ e. edited e (y.bytes h)) k.0) is;
          says = (tt, tt);
          sent = tt;
        };
        truncates = λ g h size next k ok y asked is. record {
          seated = changes y asked g h size (λ contents. resized contents size) next ok (ap (λ e. edited e (y.bytes h)) k.0) is;
          says = (tt, tt);
          sent = tt;
        };
        ends = λ g h k. absurd k.1;
        closes = λ g h y k. absurd k.1;
        sees_empty = λ g request h writes sight k is y asked sits.
            let next : Agent_seen = with_reading (λ r. reading_of s versions sight.file sight.number) y in
            let does = opened_does next asked g h _ sources.Empty (record { based = sits.based; waits = sits.waits; steps = sits.steps }) refl in
            record { seated = does.seated; says = (k.0, does.says); sent = does.sent };
        sees_version = λ g request h writes sight v k is y asked sits.
            let next : Agent_seen = with_reading (λ r. reading_of s versions sight.file sight.number) y in
            let order : List ℕ = order_by given.ranks in
            let o : Opening Row = record { session = h; writes = writes; version = v; reading = record (row_reading v) { order = order } } in
            let found : next.reading ≡ row_reading v =
            subst (IsFound next) is (found_is next (sight.number == 0) sight.file sight.number sight.version k.1 refl) in
            let still : Sits next asked (awaiting g None) = record { based = sits.based; waits = sits.waits; steps = sits.steps } in
            let does = gets_does next asked g o (take (s.header.f + 1) order)
            (awaits next asked (awaiting g None) (Some (For_clouds o)) g.closed (idle_calm next asked g still) (found, sits.waits) still) in
            record { seated = does.seated; says = (k.0, does.says); sent = does.sent };
        turns_open = λ g o y asked is. silent_does y asked (opening g (turned_open o)) (reads_on y asked g o (turned_open o) y.reading is.waits.0 is);
        hears_open = λ g o c request answer takes. absurd takes;
        gets = λ g o clouds y asked is. gets_does y asked g o clouds is;
        loses = λ g o y asked is.
            silent_does y asked (awaiting g None) (awaits y asked (opening g o) None g.closed (open_calm y asked g o is) is.waits.1 is);
        shows = λ g o bytes all y asked is.
            opened_does y asked g o.session (session_on rows o.version o.writes bytes) sources.Clouds
            (awaits y asked (opening g o) None g.closed (open_calm y asked g o is) is.waits.1 is)
            (ap (λ (r : Reading). s.format.unseal s.header.f r.pieces) is.waits.0 ∙ sym all);
        turns_upload = λ g x u. uploads_does x u (λ next. silent (goes_on next x (turned_upload u)))
            (λ g y asked is. silent_does y asked (uploading g x (turned_upload u))
            (further y asked g x u (turned_upload u) (record { version = refl; stored = λ e. e }) is)) g;
        hears_upload = λ g x u c request answer k new few.
            let acked : Upload Row = with_storing u (with_ack u.storing c) in
            uploads_does x u (λ next. silent (goes_on next x acked))
            (λ g y asked is. silent_does y asked (uploading g x acked) (further y asked g x u acked (more s u c) is)) g;
        commits = λ g x u c request answer k new just.
            let acked : Upload Row = with_storing u (with_ack u.storing c) in
            uploads_does x u (λ next. asks_step a (goes_on next x acked) (On_sessions (Commit x.number u.version)))
            (λ g y asked is.
            let none = short_calm y asked g x u (few_before s u just) is in
            let next = further y asked g x u acked (more s u c) is in
            asks_does y asked (uploading g x acked) (On_sessions (Commit x.number u.version)) next (omega (arith, none))
            (just_enough s u c just, next.waits)) g;
        puts = λ g x u clouds k within. uploads_does x u (λ next. asks_puts s a next x u clouds)
            (λ g y asked is.
            let next : Upload Row = with_storing u (record u.storing { puts = u.storing.puts ++ next_asked a g clouds }) in
            puts_does y asked (uploading g x next) clouds u.storing.name (object_at u.storing.unit)
            (further y asked g x u next (record { version = refl; stored = λ e. e }) is)) g;
        drops = λ g x why. elim why [ inl takes ↦ absurd takes | inr short ↦ drops_does g x x.upload short ];
        downs = λ g up k. absurd k;
        ups = λ g up k. absurd k;
      }
