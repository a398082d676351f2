-- What an agent does is the same where a version is something else.
use Rattle.std.proofs.Common.{◌≡◌, ℕ, ◌+◌, [], ◌∷◌, ◌++◌, map, Bool, true, false, ap, ◌∙◌, List, Option, Some, None, refl, length}
use Rattle.std.specs.Prelude.{if◌then◌else◌, find, ◌==◌, is_some, nat_lt, Result, Ok, Err}
use Rattle.scfs_model.specs.Steps.{Step, On_locks, On_sessions, On_names, Outcome, Of_names, Of_locks, Of_sessions}
use Rattle.scfs_model.specs.Agents.{Agent, Reaction, silent, followed, next_request, asks_step, Waiting, For_step, For_clouds, For_close, Closed, Opening, saying, answered, Upload, Request, Input, Calls, Tells, Hears, Turns, Crashes, Starts}
use Rattle.scfs_laws.proofs.ListMaps.{map_append, find_map, length_map, any_map, without_map}
use Rattle.scfs_base.specs.declared.naming.FileId.{FileId}
use Rattle.scfs_session.specs.declared.sessions.Session.{Session}
use Rattle.scfs_session.specs.Open.{session_of, ended, read_answer, after_write, after_truncate}
use Rattle.scfs_lease.specs.declared.leases.Lease.{Lease}
use Rattle.scfs_lease.specs.Leases.{with_renewal}
use Rattle.scfs_model.specs.Lists.{if_some, below}
use Rattle.scfs_model.specs.Versions.{Versions}
use Rattle.scfs_model.specs.LockSteps.{Renew, Unlock, Lock_step, Unlock_all, Lock_outcome, Frees, Renews}
use Rattle.scfs_model.specs.Leases.{closed_file, held_file, file_of, renews, renews_all, renews_due, unleased, leased}
use Rattle.scfs_laws.specs.Mapped.{Own, through}
use Rattle.scfs_base.specs.declared.naming.RequestNo.{RequestNo}
use Rattle.scfs_base.specs.declared.cloud.CloudAnswer.{CloudAnswer}
use Rattle.scfs_unit.specs.declared.pieces.KeptPiece.{KeptPiece}
use Rattle.scfs_model.specs.Format.{Setup, clouds_of, sealed}
use Rattle.scfs_model.specs.Given.{Given}
use Rattle.scfs_model.specs.SessionSteps.{Sight, Commit, Session_step, Open_read, Open_write, Session_outcome, Sees, Locks, Completes}
use Rattle.scfs_model.specs.Next.{Next, Goes_on, Asks, Has, Gives_up}
use Rattle.scfs_model.specs.Reading.{piece_in, is_awaited, with_piece, read_on, read_turn}
use Rattle.scfs_model.specs.Opens.{Found, As_empty, On_clouds, found_version, found, opened, tallied, sighted, saw, gives_up, reads, takes, open_hears, open_turns}
use Rattle.scfs_laws.specs.Sound.{FitsRead, FitsHeard}
use Rattle.scfs_base.specs.declared.naming.UploadNo.{UploadNo}
use Rattle.scfs_model.specs.Names.{upload_no, upload_name, file_id, same_request}
use Rattle.scfs_model.specs.Storing.{is_new_ack, with_ack, store_on, store_turn}
use Rattle.scfs_model.specs.Closes.{goes_on, asks_puts, falls_short, stores, with_storing, upload_hears, upload_turns, begins}
use Rattle.scfs_schedule.specs.declared.types.Call.{Call}
use Rattle.scfs_schedule.specs.declared.types.Refusal.{Refusal}
use Rattle.scfs_base.specs.Limits.{handles_limit}
use Rattle.scfs_model.specs.Lives.{is_ready}
use Rattle.scfs_model.specs.NameSteps.{Make, Look}
use Rattle.scfs_model.specs.Calls.{any_names, path_names, refuse, with_room, unless_refused, calls_step, makes, looks, opens, closes, close, called, call_of}
use Rattle.scfs_model.specs.Walks.{OrRefusal, on_ok}
use Rattle.scfs_model.specs.Told.{told_open, told_closed, told_commit, told_sessions, is_pending, untold, told_locks, told, tells}
use Rattle.scfs_model.specs.Reactions.{next_life, idle, to_open, to_closed, to_upload, to_work, hears, turns, starts, responded, begun, next_begun, reacted}
use Rattle.scfs_laws.specs.Mapped as to
use Rattle.scfs_schedule.specs.declared.types.Refusal.TheVariants as refusals
use Rattle.scfs_schedule.specs.declared.types.Src.TheVariants as sources
use Rattle.scfs_model.specs.Sayings as says
use Rattle.scfs_schedule.specs.declared.types.Call.TheVariants as calls

module _ {V W : Type 0} (g : V → W) where
  of_followed : (r : Reaction V) (on : Agent W → Reaction W) (off : Agent V → Reaction V) → on (to.agent g r.agent) ≡ to.reaction g (off r.agent)
      → followed (to.reaction g r) on ≡ to.reaction g (followed r off)
  of_followed r on off same =
      let second = off r.agent in
      ap (λ (x : Reaction W). record {
        agent = x.agent;
        says = r.says ++ x.says;
        steps = map (to.request g) r.steps ++ x.steps;
        sent = r.sent ++ x.sent;
        ranked = r.ranked ++ x.ranked;
      }) same
      ∙ ap (λ steps. record {
        agent = to.agent g second.agent;
        says = r.says ++ second.says;
        steps = steps;
        sent = r.sent ++ second.sent;
        ranked = r.ranked ++ second.ranked;
      }) (map_append (to.request g) r.steps second.steps)

  -- one after the other
  pub same_followed : (first : Reaction W) (r : Reaction V) (on : Agent W → Reaction W) (off : Agent V → Reaction V) → first ≡ to.reaction g r
      → on (to.agent g r.agent) ≡ to.reaction g (off r.agent) → followed first on ≡ to.reaction g (followed r off)
  same_followed first r on off begin same = ap (λ x. followed x on) begin ∙ of_followed r on off same

  pub same_asks : (who : ℕ) (a : Agent V) (x : Step V) → asks_step who (to.agent g a) (to.step g x) ≡ to.reaction g (asks_step who a x)
  same_asks who a x =
      ap (λ pending. record (silent (record (to.agent g a) { requests = a.requests + 1; pending = pending })) { steps = to.request g (next_request who a x) ∷ [] })
      (map_append (to.request g) a.pending (next_request who a x ∷ []))

  pub same_if : (b : Bool) (p q : Reaction W) (r t : Reaction V) → p ≡ to.reaction g r → q ≡ to.reaction g t
      → (if b then p else q) ≡ to.reaction g (if b then r else t)
  same_if true p q r t this other = this
  same_if false p q r t this other = other

  same_pending : (a : Agent V) (number : RequestNo) → is_pending (to.agent g a) number ≡ is_pending a number
  same_pending a number =
      any_map (to.request g) (λ (x : Request W). same_request x.number number) (λ (x : Request V). same_request x.number number) (λ x. refl) a.pending

  same_untold : (a : Agent V) (number : RequestNo) → untold (to.agent g a) number ≡ to.agent g (untold a number)
  same_untold a number =
      ap (λ pending. record (to.agent g a) { pending = pending }) (without_map (to.request g) (λ (x : Request W). same_request x.number number) a.pending)

  same_told_locks : (a : Agent V) (x : Lock_step) (r : OrRefusal Lock_outcome) → told_locks (to.agent g a) x r ≡ to.reaction g (told_locks a x r)
  same_told_locks a (Unlock file h) r = refl
  same_told_locks a Unlock_all (Ok (Frees count)) = refl
  same_told_locks a Unlock_all (Ok (Renews l)) = refl
  same_told_locks a Unlock_all (Err why) = refl
  same_told_locks a (Renew file h) (Ok (Frees count)) = refl
  same_told_locks a (Renew file h) (Ok (Renews l)) = refl
  same_told_locks a (Renew file h) (Err why) = refl

module _ {V W : Type 0} (g : V → W) (who : ℕ) where
  same_refused : {X : Type 0} (a : Agent V) (x : Result X Refusal) (on : X → Reaction W) (off : X → Reaction V) → ((y : X) → on y ≡ to.reaction g (off y))
      → unless_refused (to.agent g a) x on ≡ to.reaction g (unless_refused a x off)
  same_refused a (Ok x) on off same = same x
  same_refused a (Err why) on off same = refl

  same_step : (a : Agent V) (x : Step V) → calls_step who (to.agent g a) (to.step g x) ≡ to.reaction g (calls_step who a x)
  same_step a x = same_asks g who (record a { waiting = Some For_step }) x

  same_room : (a : Agent V) (p : Reaction W) (r : Reaction V) → p ≡ to.reaction g r → with_room (to.agent g a) p ≡ to.reaction g (with_room a r)
  same_room a p r same =
      ap (λ n. if nat_lt (length a.sessions + n) handles_limit then p else refuse (to.agent g a) refusals.TooManyHandles) (length_map (to.closed g) a.closed)
      ∙ same_if g (nat_lt (length a.sessions + length a.closed) handles_limit) _ _ r (refuse a refusals.TooManyHandles) same refl

  same_closes : (a : Agent V) (h : ℕ) (y : Session) → closes (to.agent g a) h y ≡ to.reaction g (closes a h y)
  same_closes a h y =
      ap (λ all. silent (record (to.agent g a) { closed = all; waiting = Some For_close }))
      (map_append (to.closed g) a.closed ((record { number = h; session = y; upload = None }) ∷ []))

  same_close : (a : Agent V) (h : ℕ) (y : Option Session) → close (to.agent g a) h y ≡ to.reaction g (close a h y)
  same_close a h None = refl
  same_close a h (Some y) =
      same_if g y.writes _ _ (closes (record a { sessions = ended a.sessions h }) h y) (saying (record a { sessions = ended a.sessions h }) (says.Ended h))
      (same_closes (record a { sessions = ended a.sessions h }) h y) refl

  same_makes : (a : Agent V) (names : List (List ℕ)) → makes who (to.agent g a) names ≡ to.reaction g (makes who a names)
  same_makes a names = same_step (record a { files = a.files + 1 }) (On_names (Make names (file_id who a.incarnation (a.files + 1))))

  same_looks : (a : Agent V) (names : List (List ℕ)) → looks who (to.agent g a) names ≡ to.reaction g (looks who a names)
  same_looks a names = same_step a (On_names (Look names))

  same_opens : (a : Agent V) (on : ℕ → Session_step W) (off : ℕ → Session_step V) → ((h : ℕ) → on h ≡ to.session_step g (off h))
      → opens who (to.agent g a) on ≡ to.reaction g (opens who a off)
  same_opens a on off same =
      same_room a _ (calls_step who (record a { opens = a.opens + 1 }) (On_sessions (off (a.opens + 1))))
      (ap (λ x. calls_step who (to.agent g (record a { opens = a.opens + 1 })) (On_sessions x)) (same (a.opens + 1))
      ∙ same_step (record a { opens = a.opens + 1 }) (On_sessions (off (a.opens + 1))))

  same_called : (s : Setup) (a : Agent V) (call : Call) → called who s (to.agent g a) call ≡ to.reaction g (called who s a call)
  same_called s a (calls.Create path) = same_refused a (path_names s path) _ _ (same_makes a)
  same_called s a (calls.Stat path) = same_refused a (any_names s path) _ _ (same_looks a)
  same_called s a (calls.OpenR path) = same_refused a (path_names s path) _ _ (λ names. same_opens a (Open_read names) (Open_read names) (λ h. refl))
  same_called s a (calls.OpenW path) = same_refused a (path_names s path) _ _ (λ names. same_opens a (Open_write names) (Open_write names) (λ h. refl))
  same_called s a (calls.Read h offset count) = same_refused a (read_answer (session_of a.sessions h) offset count) _ _ (λ bytes. refl)
  same_called s a (calls.Write h offset new) = same_refused a (after_write (session_of a.sessions h) offset new) _ _ (λ y. refl)
  same_called s a (calls.Truncate h size) = same_refused a (after_truncate (session_of a.sessions h) size) _ _ (λ y. refl)
  same_called s a (calls.Close h) = same_close a h (session_of a.sessions h)
  same_called s a (calls.Mkdir path) = refl
  same_called s a (calls.Rmdir path) = refl
  same_called s a (calls.Unlink path) = refl
  same_called s a (calls.List path) = refl
  same_called s a (calls.Rename from into) = refl
  same_called s a (calls.Openat path number) = refl
  same_called s a calls.Sync = refl
  same_called s a (calls.Versions path) = refl
  same_called s a (calls.Collect path) = refl
  same_called s a calls.Purge = refl

  pub same_call : (s : Setup) (a : Agent V) (call : Call) (w : Option (Waiting V))
      → call_of who s (to.agent g a) call (to.waiting g w) ≡ to.reaction g (call_of who s a call w)
  same_call s a call None =
      same_if g (is_ready a.life) _ _ (called who s a call) (refuse a (refusals.Starting 0)) (same_called s a call) refl
  same_call s a call (Some w) = refl

module _ {V W : Type 0} (s : Setup) (ws : Versions W) (g : V → W) (own : Own V) (who : ℕ) where
  abbrev vs : Versions V
  vs = through ws g own

  abbrev Fits : V → List ℕ → Type 0
  Fits v bytes = ws.contents (g v) bytes ≡ own.contents v bytes

  found_file : (x : Option (Closed V))
      → if_some (to.some (to.closed g) x) None (λ (y : Closed W). Some y.session.file) ≡ if_some x None (λ (y : Closed V). Some y.session.file)
  found_file None = refl
  found_file (Some x) = refl

  same_closed_file : (h : ℕ) (xs : List (Closed V)) → closed_file h (map (to.closed g) xs) ≡ closed_file h xs
  same_closed_file h xs =
      ap (λ x. if_some x None (λ (y : Closed W). Some y.session.file)) (find_map (to.closed g) (λ (y : Closed W). y.number == h) xs)
      ∙ found_file (find (λ (y : Closed V). y.number == h) xs)

  same_held_file : (a : Agent V) (h : ℕ) → held_file (to.agent g a) h ≡ held_file a h
  same_held_file a h = ap (λ other. if_some (session_of a.sessions h) other (λ (y : Session). Some y.file)) (same_closed_file h a.closed)

  same_file_of : (a : Agent V) (h : ℕ) (w : Option (Waiting V)) → file_of ws (to.agent g a) h (to.waiting g w) ≡ file_of vs a h w
  same_file_of a h None = same_held_file a h
  same_file_of a h (Some For_step) = same_held_file a h
  same_file_of a h (Some (For_clouds o)) =
      ap (λ other. if o.session == h then Some (ws.file (g o.version)) else other) (same_held_file a h)
  same_file_of a h (Some For_close) = same_held_file a h

  same_renews : (a : Agent V) (h : ℕ) (file : Option FileId)
      → if_some file (silent (to.agent g a)) (renews ws who (to.agent g a) h) ≡ to.reaction g (if_some file (silent a) (renews vs who a h))
  same_renews a h None = refl
  same_renews a h (Some file) = same_asks g who (record a { leases = with_renewal h a.leases }) (On_locks (Renew file h))

  same_renews_all : (a : Agent V) (leases : List Lease) → renews_all ws who (to.agent g a) leases ≡ to.reaction g (renews_all vs who a leases)
  same_renews_all a [] = refl
  same_renews_all a (l ∷ rest) =
      let file = file_of vs a l.session a.waiting in
      let first : Reaction V = if_some file (silent a) (renews vs who a l.session) in
      same_followed g _ first (λ b. renews_all ws who b rest) (λ b. renews_all vs who b rest)
      (ap (λ x. if_some x (silent (to.agent g a)) (renews ws who (to.agent g a) l.session)) (same_file_of a l.session a.waiting)
      ∙ same_renews a l.session file)
      (same_renews_all first.agent rest)

  pub same_renews_due : (a : Agent V) (now lease : ℕ)
      → renews_due ws who (to.agent g a) now lease ≡ to.reaction g (renews_due vs who a now lease)
  same_renews_due a now lease = same_renews_all a _

  same_version : (v : Option V) → found_version (to.some g v) ≡ to.found g (found_version v)
  same_version None = refl
  same_version (Some v) = refl

  found_if : (b : Bool) (x y : Found V) → (if b then to.found g x else to.found g y) ≡ to.found g (if b then x else y)
  found_if true x y = refl
  found_if false x y = refl

  same_found : (x : Sight V) → found (to.sight g x) ≡ to.found g (found x)
  same_found x =
      ap (λ y. if x.number == 0 then As_empty else y) (same_version x.version) ∙ found_if (x.number == 0) As_empty (found_version x.version)

  same_sighted : (a : Agent V) (given : Given) (h : ℕ) (writes : Bool) (x : Sight V) (f : Found V)
      → sighted s ws who (to.agent g a) given h writes (to.sight g x) (to.found g f) ≡ to.reaction g (sighted s vs who a given h writes x f)
  same_sighted a given h writes x As_empty = refl
  same_sighted a given h writes x (On_clouds v) = refl

  pub same_saw : (a : Agent V) (given : Given) (request : RequestNo) (h : ℕ) (writes : Bool) (x : Sight V)
      → saw s ws who (to.agent g a) given request h writes (to.sight g x) ≡ to.reaction g (saw s vs who a given request h writes x)
  same_saw a given request h writes x =
      same_followed g _ (saying a (says.Saw request x.file x.number))
      (λ b. sighted s ws who b given h writes (to.sight g x) (found (to.sight g x))) (λ b. sighted s vs who b given h writes x (found x)) refl
      (ap (λ f. sighted s ws who (to.agent g a) given h writes (to.sight g x) f) (same_found x) ∙ same_sighted a given h writes x (found x))

  same_given_up : (a : Agent V) (o : Opening V) (good : ℕ)
      → gives_up s ws who (to.agent g a) (to.opening g o) good ≡ to.reaction g (gives_up s vs who a o good)
  same_given_up a o good =
      same_followed g _ (answered (unleased a o.session) (says.Refuses (refusals.Unavailable (ws.number (g o.version)) good)))
      (λ b. if o.writes then asks_step who b (On_locks (Unlock (ws.file (g o.version)) o.session)) else silent b)
      (λ b. if o.writes then asks_step who b (On_locks (Unlock (ws.file (g o.version)) o.session)) else silent b) refl
      (same_if g o.writes _ _ (asks_step who _ (On_locks (Unlock (ws.file (g o.version)) o.session))) (silent _)
      (same_asks g who (record (unleased a o.session) { waiting = None }) (On_locks (Unlock (ws.file (g o.version)) o.session))) refl)

  pub same_reads : (a : Agent V) (o : Opening V) (r : Next (List ℕ)) → FitsRead s Fits o.version r
      → reads s ws who (to.agent g a) (to.opening g o) r ≡ to.reaction g (reads s vs who a o r)
  same_reads a o Goes_on fits = refl
  same_reads a o (Asks clouds) fits = refl
  same_reads a o (Has bytes) fits =
      ap (λ all. opened (to.agent g a) o.session
      (record { file = ws.file (g o.version); base = ws.number (g o.version); writes = o.writes; contents = all }) sources.Clouds) fits
  same_reads a o (Gives_up good) fits = same_given_up a o good

  hears_if : (a : Agent V) (o : Opening V) (c : ℕ) (piece : Option KeptPiece) (b : Bool) → (b ≡ true → FitsRead s Fits o.version (read_on s o.reading piece))
      → (if b then takes s ws who (to.agent g a) (to.opening g o) c piece else reads s ws who (to.agent g a) (to.opening g o) Goes_on)
      ≡ to.reaction g (if b then takes s vs who a o c piece else reads s vs who a o Goes_on)
  hears_if a o c piece false fits = refl
  hears_if a o c piece true fits =
      same_reads (tallied a c (is_some piece)) (record o { reading = with_piece o.reading piece }) (read_on s o.reading piece) (fits refl)

  pub same_open_hears : (a : Agent V) (o : Opening V) (c : ℕ) (request : RequestNo) (answer : CloudAnswer)
      → (is_awaited o.reading c request ≡ true → FitsRead s Fits o.version (read_on s o.reading (piece_in s o.reading c answer)))
      → open_hears s ws who (to.agent g a) (to.opening g o) c request answer ≡ to.reaction g (open_hears s vs who a o c request answer)
  same_open_hears a o c request answer fits = hears_if a o c (piece_in s o.reading c answer) (is_awaited o.reading c request) fits

  turn_fits : (o : Opening V) (b : Bool) (good : ℕ) (clouds : List ℕ) → FitsRead s Fits o.version (if b then Gives_up good else Asks clouds)
  turn_fits o true good clouds = _
  turn_fits o false good clouds = _

  pub same_open_turns : (a : Agent V) (o : Opening V) → open_turns s ws who (to.agent g a) (to.opening g o) ≡ to.reaction g (open_turns s vs who a o)
  same_open_turns a o =
      same_reads a (record o { reading = record o.reading { turns = o.reading.turns + 1 } }) (read_turn o.reading) (turn_fits o _ _ _)

  same_short : (a : Agent V) (x : Closed V) (acks : ℕ) → falls_short s who (to.agent g a) (to.closed g x) acks ≡ to.reaction g (falls_short s who a x acks)
  same_short a x acks =
      same_followed g _ (answered (unleased a x.number) (says.Refuses (refusals.Short acks)))
      (λ b. asks_step who b (On_locks (Unlock x.session.file x.number))) (λ b. asks_step who b (On_locks (Unlock x.session.file x.number))) refl
      (same_asks g who (record (unleased a x.number) { waiting = None }) (On_locks (Unlock x.session.file x.number)))

  same_stores : (a : Agent V) (x : Closed V) (u : Upload V) (p : Next (Unit {0}))
      → stores s who (to.agent g a) (to.closed g x) (to.upload g u) p ≡ to.reaction g (stores s who a x u p)
  same_stores a x u Goes_on = refl
  same_stores a x u (Asks clouds) = refl
  same_stores a x u (Has enough) = same_asks g who (goes_on a x u) (On_sessions (Commit x.number u.version))
  same_stores a x u (Gives_up acks) = same_short a x acks

  pub same_upload_hears : (a : Agent V) (x : Closed V) (u : Upload V) (c : ℕ) (request : RequestNo) (answer : CloudAnswer)
      → upload_hears s who (to.agent g a) (to.closed g x) (to.upload g u) c request answer ≡ to.reaction g (upload_hears s who a x u c request answer)
  same_upload_hears a x u c request answer =
      same_if g (is_new_ack u.storing c request answer) _ _
      (stores s who a x (with_storing u (with_ack u.storing c)) (store_on s u.storing)) (stores s who a x u Goes_on)
      (same_stores a x (with_storing u (with_ack u.storing c)) (store_on s u.storing)) (same_stores a x u Goes_on)

  pub same_upload_turns : (a : Agent V) (x : Closed V) (u : Upload V)
      → upload_turns s who (to.agent g a) (to.closed g x) (to.upload g u) ≡ to.reaction g (upload_turns s who a x u)
  same_upload_turns a x u =
      same_stores a x (with_storing u (record u.storing { turns = u.storing.turns + 1 })) (store_turn s u.storing)

  pub same_begins : ((y : Session) (u : UploadNo) → ws.closed y u (sealed s u y.contents) ≡ g (own.closed y u (sealed s u y.contents)))
      → (a : Agent V) (x : Closed V) → begins s ws who (to.agent g a) (to.closed g x) ≡ to.reaction g (begins s vs who a x)
  same_begins same a x =
      let u = upload_no who a.incarnation (a.uploads + 1) in
      ap (λ w. asks_puts s who (to.agent g (record a { uploads = a.uploads + 1 })) (to.closed g x)
      (record { version = w; storing = record { name = upload_name u; unit = sealed s u x.session.contents; puts = []; acked = []; turns = 0 } }) (below (clouds_of s)))
      (same x.session u)

  same_told_open : (a : Agent V) (given : Given) (request : RequestNo) (h : ℕ) (r : OrRefusal (Session_outcome V))
      → told_open s ws who (to.agent g a) given request h (on_ok (to.session_outcome g) r) ≡ to.reaction g (told_open s vs who a given request h r)
  same_told_open a given request h (Ok (Sees y)) = same_saw a given request h false y
  same_told_open a given request h (Ok (Locks y l)) = same_saw (leased a h l.until) given request h true y
  same_told_open a given request h (Ok (Completes k v n)) = refl
  same_told_open a given request h (Err why) = refl

  same_told_closed : (a : Agent V) (x : Closed V) (r : OrRefusal (Session_outcome V))
      → told_closed s ws who (to.agent g a) (to.closed g x) (on_ok (to.session_outcome g) r) ≡ to.reaction g (told_closed s vs who a x r)
  same_told_closed a x (Ok (Sees y)) = refl
  same_told_closed a x (Ok (Locks y l)) = refl
  same_told_closed a x (Ok (Completes k v n)) = refl
  same_told_closed a x (Err why) = refl

  same_told_commit : (a : Agent V) (xs : List (Closed V)) (r : OrRefusal (Session_outcome V))
      → told_commit s ws who (to.agent g a) (map (to.closed g) xs) (on_ok (to.session_outcome g) r) ≡ to.reaction g (told_commit s vs who a xs r)
  same_told_commit a [] r = refl
  same_told_commit a (x ∷ xs) r = same_told_closed (record a { closed = xs }) x r

  pub same_told_sessions : (a : Agent V) (given : Given) (request : RequestNo) (x : Session_step V) (r : OrRefusal (Session_outcome V))
      → told_sessions s ws who (to.agent g a) given request (to.session_step g x) (on_ok (to.session_outcome g) r)
      ≡ to.reaction g (told_sessions s vs who a given request x r)
  same_told_sessions a given request (Open_read names h) r = same_told_open a given request h r
  same_told_sessions a given request (Open_write names h) r = same_told_open a given request h r
  same_told_sessions a given request (Commit h v) r = same_told_commit a a.closed r

  same_told : (a : Agent V) (given : Given) (number : RequestNo) (o : Outcome V)
      → told s ws who (to.agent g a) given number (to.outcome g o) ≡ to.reaction g (told s vs who a given number o)
  same_told a given number (Of_names x r) = refl
  same_told a given number (Of_locks x r) = same_told_locks g a x r
  same_told a given number (Of_sessions x r) = same_told_sessions a given number x r

  pub same_tells : (a : Agent V) (given : Given) (number : RequestNo) (o : Outcome V)
      → tells s ws who (to.agent g a) given number (to.outcome g o) ≡ to.reaction g (tells s vs who a given number o)
  same_tells a given number o =
      ap (λ b. if b then told s ws who (untold (to.agent g a) number) given number (to.outcome g o) else silent (to.agent g a)) (same_pending g a number)
      ∙ same_if g (is_pending a number) _ _ (told s vs who (untold a number) given number o) (silent a)
      (ap (λ (b : Agent W). told s ws who b given number (to.outcome g o)) (same_untold g a number) ∙ same_told (untold a number) given number o) refl

  to_open_hears : (a : Agent V) (c : ℕ) (request : RequestNo) (answer : CloudAnswer) (w : Option (Waiting V)) → FitsHeard s Fits c request answer w
      → to_open (to.agent g a) (λ b o. open_hears s ws who b o c request answer) (to.waiting g w)
      ≡ to.reaction g (to_open a (λ b o. open_hears s vs who b o c request answer) w)
  to_open_hears a c request answer None fits = refl
  to_open_hears a c request answer (Some For_step) fits = refl
  to_open_hears a c request answer (Some (For_clouds o)) fits = same_open_hears (idle a) o c request answer fits
  to_open_hears a c request answer (Some For_close) fits = refl

  to_open_turns : (a : Agent V) (w : Option (Waiting V))
      → to_open (to.agent g a) (open_turns s ws who) (to.waiting g w) ≡ to.reaction g (to_open a (open_turns s vs who) w)
  to_open_turns a None = refl
  to_open_turns a (Some For_step) = refl
  to_open_turns a (Some (For_clouds o)) = same_open_turns (idle a) o
  to_open_turns a (Some For_close) = refl

  module _ (on : Agent W → Closed W → Upload W → Reaction W) (off : Agent V → Closed V → Upload V → Reaction V)
      (same : (b : Agent V) (x : Closed V) (u : Upload V) → on (to.agent g b) (to.closed g x) (to.upload g u) ≡ to.reaction g (off b x u)) where
    of_closed : (a : Agent V) (rest : List (Closed V)) (x : Closed V) (u : Option (Upload V))
        → to_closed (to.agent g a) on (map (to.closed g) rest) (to.closed g x) (to.some_upload g u) ≡ to.reaction g (to_closed a off rest x u)
    of_closed a rest x None = refl
    of_closed a rest x (Some u) = same (record a { closed = rest }) x u

    of_upload : (a : Agent V) (xs : List (Closed V)) → to_upload (to.agent g a) on (map (to.closed g) xs) ≡ to.reaction g (to_upload a off xs)
    of_upload a [] = refl
    of_upload a (x ∷ xs) = of_closed a xs x x.upload

  same_hears : (a : Agent V) (c : ℕ) (request : RequestNo) (answer : CloudAnswer) → FitsHeard s Fits c request answer a.waiting
      → hears s ws who (to.agent g a) c request answer ≡ to.reaction g (hears s vs who a c request answer)
  same_hears a c request answer fits =
      let r = to_open a (λ b o. open_hears s vs who b o c request answer) a.waiting in
      same_followed g _ (to_open a (λ b o. open_hears s vs who b o c request answer) a.waiting)
      (λ b. to_upload b (λ next x u. upload_hears s who next x u c request answer) b.closed)
      (λ b. to_upload b (λ next x u. upload_hears s who next x u c request answer) b.closed)
      (to_open_hears a c request answer a.waiting fits)
      (of_upload (λ next x u. upload_hears s who next x u c request answer) (λ next x u. upload_hears s who next x u c request answer)
      (λ b x u. same_upload_hears b x u c request answer) r.agent r.agent.closed)

  same_work : (a : Agent V) → to_work (to.agent g a) (open_turns s ws who) (upload_turns s who) ≡ to.reaction g (to_work a (open_turns s vs who) (upload_turns s who))
  same_work a =
      let r = to_open a (open_turns s vs who) a.waiting in
      same_followed g _ (to_open a (open_turns s vs who) a.waiting) (λ b. to_upload b (upload_turns s who) b.closed)
      (λ b. to_upload b (upload_turns s who) b.closed) (to_open_turns a a.waiting)
      (of_upload (upload_turns s who) (upload_turns s who) (same_upload_turns) r.agent r.agent.closed)

  same_turns : (a : Agent V) (given : Given) → turns s ws who (to.agent g a) given ≡ to.reaction g (turns s vs who a given)
  same_turns a given =
      let first : Reaction V = renews_due vs who a given.now s.header.lease in
      same_followed g _ first (λ b. to_work b (open_turns s ws who) (upload_turns s who)) (λ b. to_work b (open_turns s vs who) (upload_turns s who))
      (same_renews_due a given.now s.header.lease) (same_work first.agent)

  same_starts : (a : Agent V) → starts s ws who (to.agent g a) ≡ to.reaction g (starts s vs who a)
  same_starts a =
      let up : Agent V = next_life a in
      same_followed g _ (saying up (says.Started up.incarnation)) (λ b. asks_step who b (On_locks Unlock_all)) (λ b. asks_step who b (On_locks Unlock_all)) refl
      (same_asks g who up (On_locks Unlock_all))

  -- what an input brings fits, where it is an answer to an open
  abbrev pub FitsInput : Agent V → Input V → Type 0
  FitsInput a (Calls call) = Unit {0}
  FitsInput a (Tells request o) = Unit {0}
  FitsInput a (Hears c request answer) = FitsHeard s Fits c request answer a.waiting
  FitsInput a Turns = Unit {0}
  FitsInput a Crashes = Unit {0}
  FitsInput a Starts = Unit {0}

  same_responded : (a : Agent V) (given : Given) (x : Input V) → FitsInput a x
      → responded s ws who (to.agent g a) given (to.input g x) ≡ to.reaction g (responded s vs who a given x)
  same_responded a given (Calls call) fits = same_call g who s a call a.waiting
  same_responded a given (Tells request o) fits = same_tells a given request o
  same_responded a given (Hears c request answer) fits = same_hears a c request answer fits
  same_responded a given Turns fits = same_turns a given
  same_responded a given Crashes fits = refl
  same_responded a given Starts fits = same_starts a

  module _ (closes : (y : Session) (u : UploadNo) → ws.closed y u (sealed s u y.contents) ≡ g (own.closed y u (sealed s u y.contents))) where
    same_begun : (a : Agent V) (rest : List (Closed V)) (x : Closed V) (u : Option (Upload V))
        → begun s ws who (to.agent g a) (map (to.closed g) rest) (to.closed g x) (to.some_upload g u) ≡ to.reaction g (begun s vs who a rest x u)
    same_begun a rest x None = same_begins closes (record a { closed = rest }) x
    same_begun a rest x (Some u) = refl

    same_next : (a : Agent V) (xs : List (Closed V)) → next_begun s ws who (to.agent g a) (map (to.closed g) xs) ≡ to.reaction g (next_begun s vs who a xs)
    same_next a [] = refl
    same_next a (x ∷ xs) = same_begun a xs x x.upload

    -- what an agent does is the same, where what it finds for a version fits
    pub same_reacted : (a : Agent V) (given : Given) (x : Input V) → FitsInput a x
        → reacted s ws who (to.agent g a) given (to.input g x) ≡ to.reaction g (reacted s vs who a given x)
    same_reacted a given x fits =
        let r = responded s vs who a given x in
        same_followed g _ (responded s vs who a given x) (λ b. next_begun s ws who b b.closed) (λ b. next_begun s vs who b b.closed) (same_responded a given x fits)
        (same_next r.agent r.agent.closed)
