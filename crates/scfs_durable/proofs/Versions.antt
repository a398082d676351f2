-- Each version in the tree was acknowledged by enough clouds, and a version that was committed stays in the tree.
use Rattle.std.proofs.Common.{◌≡◌, ◌≢◌, ◌⊎◌, inl, inr, ℕ, ◌+◌, ◌<◌, ◌≤◌, List, [], ◌∷◌, ◌++◌, length, refl, sym, ◌∙◌, subst, arith, Option, Contains}
use Rattle.std.specs.List.{AllPairs}
use Rattle.std.proofs.lemmas.List.Elements.{Contains-append_left, Contains-append_right}
use Rattle.std.proofs.lemmas.List.{append-nil}
use Rattle.scfs_base.specs.declared.naming.FileId.{FileId}
use Rattle.scfs_base.specs.declared.naming.RequestNo.{RequestNo}
use Rattle.scfs_schedule.specs.declared.types.Line.TheVariants as lines
use Rattle.scfs_model.specs.Format.{Setup, clouds_of, enough}
use Rattle.scfs_model.specs.History.{Message, Entry, History}
use Rattle.scfs_model.specs.Given.{Given, given_of}
use Rattle.scfs_model.specs.Tree.{Tree, live}
use Rattle.scfs_model.specs.SessionSteps.{session_after, session_line}
use Rattle.scfs_model.specs.Steps.{Step, On_names, On_locks, On_sessions, Served, after_ok, line_of, served, served_line}
use Rattle.scfs_model.specs.Layers.{Row, Version, rows, row_of}
use Rattle.scfs_model.specs.Events.{Place, place_of}
use Rattle.scfs_model.specs.States.{State, Effect, at_place}
use Rattle.scfs_model.specs.Runs.{effect_after, actual, Happens}
use Rattle.scfs_laws.specs.Acknowledged.{WasAcked, WasUploading, put_of, IsAcknowledged}
use Rattle.scfs_laws.proofs.AckedLaw.{commits_acknowledged}
use Rattle.scfs_laws.proofs.Lists.{Each, each-map, each-append}
use Rattle.scfs_laws.proofs.NamesSteps.{session_cases}
use Rattle.scfs_laws.proofs.Ways.{of_event}
use Rattle.scfs_durable.specs.Safe.{WasCommitted}
use Rattle.scfs_durable.proofs.Counting.{each_from_all}

module _ (s : Setup) (state : State Row) (given : Given) (message : Option Message) where
  -- the versions stay, or a line tells of a commit
  abbrev pub Grows : Effect Row → Type 0
  Grows x =
      (x.state.tree.versions ≡ state.tree.versions)
      ⊎ ((request : RequestNo) × (file : FileId) × (number : ℕ) × Contains x.lines (lines.Committed request file number))

  abbrev tree : Tree Row
  tree = live state.clock state.tree

  abbrev Serves : RequestNo → Step Row → Type 0
  Serves request step =
      let x : Served Row = served rows tree state.clock s.header.lease request step in
      (x.tree.versions ≡ state.tree.versions)
      ⊎ ((other : RequestNo) × (file : FileId) × (number : ℕ) × Contains (served_line rows request x.outcome ∷ []) (lines.Committed other file number))

  serves : (request : RequestNo) (step : Step Row) → Serves request step
  serves request (On_names x) = inl refl
  serves request (On_locks x) = inl refl
  serves request (On_sessions x) =
      session_cases rows tree state.clock (state.clock + s.header.lease) request
      (λ y r. ((after_ok tree (session_after rows tree request) r).versions ≡ state.tree.versions)
      ⊎ ((other : RequestNo) × (file : FileId) × (number : ℕ) × Contains (line_of request (session_line rows) r ∷ []) (lines.Committed other file number)))
      (λ y why. inl refl)
      (record {
        sees = λ names session n there. inl refl;
        locks = λ names session n there free. inl refl;
        completes = λ session v l n held there. inr (request, v.file, v.number, (0, omega arith, refl));
      })
      x

  pub grows : (place : Place) → Grows (at_place s rows state message given place)
  grows place =
      of_event s rows state given message Grows place
      (record {
        nothing = λ shown idle bare. inl refl;
        later = λ ticks. inl refl;
        gone = λ a seat request found. inl refl;
        missed = λ a seat oldest rest found is away. inl refl;
        own = λ a seat x found is up. inl refl;
        hears = λ c request answer seat found is about there. inl refl;
        told = λ a seat oldest rest found is there. inl refl;
        serve = λ a seat oldest rest found is at. serves oldest.number oldest.step;
        postpone = λ a seat oldest rest found is. inl refl;
      })

module _ (s : Setup) where
  -- a row is that of a close of which enough clouds acknowledged their objects
  pub record IsStored (past : History) (v : Row) : Type 0 where
    pub close : Version
    pub is_row : v ≡ row_of s close
    pub agent : ℕ
    pub incarnation : ℕ
    pub was_uploading : WasUploading s past agent close.upload close.bytes
    pub clouds : List ℕ
    pub differ : AllPairs (λ c d. c ≢ d) clouds
    pub are_enough : enough s ≤ length clouds
    pub acked : Each (λ c. (c < clouds_of s) × WasAcked s past agent incarnation (put_of s close.upload close.bytes c) c) clouds

  stored_on : (past : History) (e : Entry) (v : Row) → IsStored past v → IsStored (e ∷ past) v
  stored_on past e v h =
      record {
        close = h.close;
        is_row = h.is_row;
        agent = h.agent;
        incarnation = h.incarnation;
        was_uploading = inr h.was_uploading;
        clouds = h.clouds;
        differ = h.differ;
        are_enough = h.are_enough;
        acked = each-map _ _ (λ c k. (k.0, inr k.1)) h.clouds h.acked;
      }

  module _ (past : History) (e : Entry) (happens : Happens s (e ∷ past)) where
    -- what a committed line tells of is put behind the versions
    told : (request : RequestNo) (file : FileId) (number : ℕ) → Contains e.lines (lines.Committed request file number)
        → IsAcknowledged s e past request file number
    told request file number inside = (commits_acknowledged s (e ∷ past) happens).0 request file number inside

    told_stored : (request : RequestNo) (file : FileId) (number : ℕ) (k : IsAcknowledged s e past request file number) → IsStored (e ∷ past) (row_of s k.close)
    told_stored request file number k =
        record {
          close = k.close;
          is_row = refl;
          agent = request.agent;
          incarnation = request.incarnation;
          was_uploading = inr k.was_uploading;
          clouds = k.clouds;
          differ = k.differ;
          are_enough = k.are_enough;
          acked = each-map (λ c. (c < clouds_of s) × WasAcked s past request.agent request.incarnation (put_of s k.close.upload k.close.bytes c) c)
              (λ c. (c < clouds_of s) × WasAcked s (e ∷ past) request.agent request.incarnation (put_of s k.close.upload k.close.bytes c) c)
              (λ c a. (a.0, inr a.1)) k.clouds (each_from_all _ k.clouds k.acked);
        }

    -- the versions that are there stay, and more may come behind them
    record IsLonger : Type 0 where
      more : List Row
      same : (actual s (e ∷ past)).tree.versions ≡ (actual s past).tree.versions ++ more
      stored : Each (IsStored (e ∷ past)) more

    longer : IsLonger
    longer = by (grows s (actual s past) (given_of (actual s past).clock e) e.message (place_of e.event))
      where
        by : Grows s (actual s past) (given_of (actual s past).clock e) e.message (effect_after s rows past e) → IsLonger
        by (inl same) = record { more = []; same = same ∙ sym (append-nil (actual s past).tree.versions); stored = tt }
        by (inr (request, file, number, inside)) =
            let k = told request file number (subst (λ ls. Contains ls (lines.Committed request file number)) (sym happens.0) inside) in
            record { more = row_of s k.close ∷ []; same = k.is_put; stored = (told_stored request file number k, tt) }

  pub versions_stored : (past : History) → Happens s past → Each (IsStored past) (actual s past).tree.versions
  versions_stored [] happens = tt
  versions_stored (e ∷ past) happens =
      let l = longer past e happens in
      subst (Each (IsStored (e ∷ past))) (sym l.same)
      (each-append (IsStored (e ∷ past)) (actual s past).tree.versions l.more
      (each-map (IsStored past) (IsStored (e ∷ past)) (stored_on past e) (actual s past).tree.versions (versions_stored past happens.1)) l.stored)

  -- a version of this file with this number is in the tree
  abbrev pub HasVersion : History → FileId → (number : ℕ) → Type 0
  HasVersion past file number = (v : Row) × Contains (actual s past).tree.versions v × (v.file ≡ file) × (v.number ≡ number)

  pub committed_stay : (past : History) → Happens s past → (request : RequestNo) (file : FileId) (number : ℕ) → WasCommitted past request file number
      → HasVersion past file number
  committed_stay [] happens request file number was = absurd was
  committed_stay (e ∷ past) happens request file number (inl inside) =
      let k = told past e happens request file number inside in
      let v : Row = row_of s k.close in (
        v,
        subst (λ vs. Contains vs v) (sym k.is_put) (Contains-append_right (actual s past).tree.versions (v ∷ []) v (0, omega arith, refl)),
        k.of_file,
        k.of_number,
      )
  committed_stay (e ∷ past) happens request file number (inr was) =
      let h = committed_stay past happens.1 request file number was in
      let l = longer past e happens in (
        h.0,
        subst (λ vs. Contains vs h.0) (sym l.same) (Contains-append_left (actual s past).tree.versions l.more h.0 h.1),
        h.2,
        h.3,
      )
