-- Each thing that comes to an agent that reads an open: calls, locks, answers and turns.
use Rattle.std.proofs.Common.{◌≡◌, inl, inr, ℕ, ◌+◌, ◌<◌, ◌≤◌, List, [], ◌∷◌, ◌++◌, length, filter, refl, sym, ap, ap₂, ◌∙◌, subst, arith, Bool, true, false, ◌&&◌, not, Option, Some, None, Ok, Err, eqb-true, length-append, append-nil}
use Rattle.std.specs.Prelude.{◌==◌, option_to_list, if◌then◌else◌}
use Rattle.std.proofs.lemmas.Bool.{eqb-false}
use Rattle.scfs_base.specs.Limits.{turns_limit}
use Rattle.scfs_base.specs.declared.naming.FileId.{FileId}
use Rattle.scfs_base.specs.declared.naming.RequestNo.{RequestNo}
use Rattle.scfs_base.specs.declared.cloud.CloudAnswer.{CloudAnswer}
use Rattle.scfs_unit.specs.declared.pieces.KeptPiece.{KeptPiece}
use Rattle.scfs_lease.specs.declared.leases.Lease.{Lease}
use Rattle.scfs_lease.specs.Leases.{is_due}
use Rattle.scfs_schedule.specs.declared.types.Call.{Call}
use Rattle.scfs_model.specs.Lists.{if_some}
use Rattle.scfs_model.specs.Format.{Setup}
use Rattle.scfs_model.specs.Given.{Given}
use Rattle.scfs_model.specs.Next.{Goes_on, Asks, Has, Gives_up}
use Rattle.scfs_model.specs.LockSteps.{Lock_step, Unlock, Unlock_all, Renew, Lock_outcome, Frees, Renews}
use Rattle.scfs_model.specs.Walks.{OrRefusal}
use Rattle.scfs_model.specs.Steps.{Of_locks}
use Rattle.scfs_model.specs.Reading.{is_awaited, is_good, piece_in, with_piece, next_cloud}
use Rattle.scfs_model.specs.Agents.{Opening, Closed, Upload, Agent, Reaction, Calls, Tells, Hears, Turns, silent, followed}
use Rattle.scfs_model.specs.Leases.{file_of, renews, renews_all}
use Rattle.scfs_model.specs.Opens.{tallied, takes, open_hears, open_turns}
use Rattle.scfs_model.specs.Opens as opens
use Rattle.scfs_model.specs.Closes.{upload_hears, upload_turns}
use Rattle.scfs_model.specs.Told.{is_pending, untold, told_locks}
use Rattle.scfs_model.specs.Reactions.{idle, to_work, next_begun, reacted}
use Rattle.scfs_model.specs.Layers.{Row, rows}
use Rattle.scfs_laws.proofs.Lists.{each-append, eqb-apart}
use Rattle.scfs_laws.proofs.HeldSeats.{IsEmpty}
use Rattle.scfs_answered.proofs.Reader.{reader, as_reader, AreAsked, ReadsOn, Leaves, still_on, gets_on, begun_same, work_same}

module _ (s : Setup) (a : ℕ) (given : Given) (o : Opening Row) (few : length o.reading.pieces ≤ s.header.f) where
  abbrev Stays : Reaction Row → Type 0
  Stays r = ReadsOn s o o.reading.turns o.reading.pieces r

  -- a call is refused
  pub called : (g : Agent Row) (call : Call) → Stays (reacted s rows a (reader g o) given (Calls call))
  called g call = still_on s o _ few refl tt refl

  -- the reply to a step on locks
  locks_told : (g : Agent Row) (x : Lock_step) (r : OrRefusal Lock_outcome) → Stays (told_locks (reader g o) x r)
  locks_told g (Unlock file h) r = still_on s o _ few refl tt refl
  locks_told g Unlock_all (Ok (Frees count)) = still_on s o _ few refl tt refl
  locks_told g Unlock_all (Ok (Renews l)) = still_on s o _ few refl tt refl
  locks_told g Unlock_all (Err why) = still_on s o _ few refl tt refl
  locks_told g (Renew file h) (Ok (Frees count)) = still_on s o _ few refl tt refl
  locks_told g (Renew file h) (Ok (Renews l)) = still_on s o _ few refl tt refl
  locks_told g (Renew file h) (Err why) = still_on s o _ few refl tt refl

  begun_too : (t : ℕ) (pieces : List KeptPiece) (r : Reaction Row) → ReadsOn s o t pieces r
      → ReadsOn s o t pieces (followed r (λ next. next_begun s rows a next next.closed))
  begun_too t pieces r h = subst (ReadsOn s o t pieces) (sym (begun_same s a r h.empty)) h

  pub told : (g : Agent Row) (request : RequestNo) (x : Lock_step) (r : OrRefusal Lock_outcome)
      → Stays (reacted s rows a (reader g o) given (Tells request (Of_locks x r)))
  told g request x r = begun_too o.reading.turns o.reading.pieces _ (by (is_pending (reader g o) request))
    where
      by : (b : Bool) → Stays (if b then told_locks (untold (reader g o) request) x r else silent (reader g o))
      by true = locks_told (untold g request) x r
      by false = still_on s o _ few refl tt refl

  -- ---- an answer

  -- the pieces after it
  abbrev pub pieces_after : (c : ℕ) → RequestNo → CloudAnswer → List KeptPiece
  pieces_after c request answer =
      if is_awaited o.reading c request then o.reading.pieces ++ option_to_list (piece_in s o.reading c answer) else o.reading.pieces

  one_more_piece : (piece : KeptPiece) → length (o.reading.pieces ++ piece ∷ []) ≡ length o.reading.pieces + 1
  one_more_piece piece = length-append o.reading.pieces (piece ∷ [])

  counted : (h : Agent Row) (piece : KeptPiece) (b : Bool) → IsEmpty h.closed → (length o.reading.pieces == s.header.f) ≡ b →
      let all : List KeptPiece = o.reading.pieces ++ piece ∷ [] in
      Leaves s o o.reading.turns all
      (opens.reads s rows a h (record o { reading = record o.reading { pieces = all } }) (if b then Has (s.format.unseal s.header.f all) else Goes_on))
  counted h piece true empty is =
      let one = one_more_piece piece in
      let last = eqb-true (length o.reading.pieces) s.header.f is in
      inl (record { says = (0, omega arith, refl); enough = omega (arith, one, last) })
  counted h piece false empty is =
      let one = one_more_piece piece in
      let other = eqb-false (length o.reading.pieces) s.header.f is in
      inr (record {
        next = record o { reading = record o.reading { pieces = o.reading.pieces ++ piece ∷ [] } };
        waits = refl;
        empty = empty;
        version = refl;
        root = refl;
        size = refl;
        turned = refl;
        has = refl;
        few = below (length o.reading.pieces) s.header.f other few one;
        still = λ c n k. k;
        asked = tt;
      })
    where
      below : (n f : ℕ) → ¬ (n ≡ f) → n ≤ f → length (o.reading.pieces ++ piece ∷ []) ≡ n + 1 → length (o.reading.pieces ++ piece ∷ []) ≤ f
      below n f apart less one = omega (arith, one, less, apart)

  taken : (h : Agent Row) (piece : Option KeptPiece) (c : ℕ) → IsEmpty h.closed
      → Leaves s o o.reading.turns (o.reading.pieces ++ option_to_list piece) (takes s rows a h o c piece)
  taken h None c empty =
      inr (let k = gets_on s a (tallied h c false) (record o { reading = with_piece o.reading None }) (next_cloud o.reading)
      (subst (λ ps. length ps ≤ s.header.f) (sym (append-nil o.reading.pieces)) few) empty in
      record {
        next = k.next;
        waits = k.waits;
        empty = k.empty;
        version = k.version;
        root = k.root;
        size = k.size;
        turned = k.turned;
        has = k.has;
        few = k.few;
        still = k.still;
        asked = k.asked;
      })
  taken h (Some piece) c empty = counted (tallied h c true) piece (length o.reading.pieces == s.header.f) empty refl

  heard : (h : Agent Row) (c : ℕ) (request : RequestNo) (answer : CloudAnswer) → IsEmpty h.closed
      → Leaves s o o.reading.turns (pieces_after c request answer) (open_hears s rows a h o c request answer)
  heard h c request answer empty = by (is_awaited o.reading c request)
    where
      piece : Option KeptPiece
      piece = piece_in s o.reading c answer

      by : (b : Bool) → Leaves s o o.reading.turns (if b then o.reading.pieces ++ option_to_list piece else o.reading.pieces)
          (if b then takes s rows a h o c piece else opens.reads s rows a h o Goes_on)
      by true = taken h piece c empty
      by false = inr (still_on s o _ few refl empty refl)

  pub hears : (g : Agent Row) (c : ℕ) (request : RequestNo) (answer : CloudAnswer)
      → Leaves s o o.reading.turns (pieces_after c request answer) (reacted s rows a (reader g o) given (Hears c request answer))
  hears g c request answer =
      subst (Leaves s o o.reading.turns (pieces_after c request answer)) (sym worked) (heard (idle (reader g o)) c request answer tt)
    where
      first : Reaction Row
      first = open_hears s rows a (idle (reader g o)) o c request answer

      on : Agent Row → Closed Row → Upload Row → Reaction Row
      on next x u = upload_hears s a next x u c request answer

      -- whatever becomes of the open, no session is closed
      counted_empty : (p : KeptPiece) (b : Bool) → IsEmpty (opens.reads s rows a (tallied (idle (reader g o)) c true)
          (record o { reading = record o.reading { pieces = o.reading.pieces ++ p ∷ [] } })
          (if b then Has (s.format.unseal s.header.f (o.reading.pieces ++ p ∷ [])) else Goes_on)).agent.closed
      counted_empty p true = tt
      counted_empty p false = tt

      empty_after : (p : Option KeptPiece) (b : Bool)
          → IsEmpty (if b then takes s rows a (idle (reader g o)) o c p else opens.reads s rows a (idle (reader g o)) o Goes_on).agent.closed
      empty_after p false = tt
      empty_after None true = tt
      empty_after (Some p) true = counted_empty p (length o.reading.pieces == s.header.f)

      empty : IsEmpty first.agent.closed
      empty = empty_after (piece_in s o.reading c answer) (is_awaited o.reading c request)

      worked : reacted s rows a (reader g o) given (Hears c request answer) ≡ first
      worked = ap (λ (r : Reaction Row). followed r (λ next. next_begun s rows a next next.closed)) (work_same s a on first empty) ∙ begun_same s a first empty

  -- ---- a turn

  -- what renewals leave
  abbrev IsQuiet : Agent Row → Reaction Row → Type 0
  IsQuiet g r = (r.agent.waiting ≡ g.waiting) × (r.agent.closed ≡ g.closed) × (r.sent ≡ [])

  renew_quiet : (g : Agent Row) (h : ℕ) (file : Option FileId) → IsQuiet g (if_some file (silent g) (renews rows a g h))
  renew_quiet g h None = (refl, refl, refl)
  renew_quiet g h (Some file) = (refl, refl, refl)

  renews_quiet : (g : Agent Row) (leases : List Lease) → IsQuiet g (renews_all rows a g leases)
  renews_quiet g [] = (refl, refl, refl)
  renews_quiet g (l ∷ rest) =
      let first : Reaction Row = if_some (file_of rows g l.session g.waiting) (silent g) (renews rows a g l.session) in
      let one = renew_quiet g l.session (file_of rows g l.session g.waiting) in
      let others = renews_quiet first.agent rest in
      (others.0 ∙ one.0, others.1 ∙ one.1, ap₂ (λ x y. x ++ y) one.2 others.2)

  -- before the eighth turn
  module _ (early : o.reading.turns + 1 < turns_limit) where
    abbrev OneMore : Reaction Row → Type 0
    OneMore r = ReadsOn s o (o.reading.turns + 1) o.reading.pieces r

    asked_again : (g : Agent Row) (b : Bool) (good : ℕ) (clouds : List ℕ) → b ≡ false → IsEmpty g.closed
        → OneMore (opens.reads s rows a g (record o { reading = record o.reading { turns = o.reading.turns + 1 } }) (if b then Gives_up good else Asks clouds))
    asked_again g true good clouds is empty = cc
    asked_again g false good clouds is empty =
        let k = gets_on s a g (record o { reading = record o.reading { turns = o.reading.turns + 1 } }) clouds few empty in
        record {
          next = k.next;
          waits = k.waits;
          empty = k.empty;
          version = k.version;
          root = k.root;
          size = k.size;
          turned = k.turned;
          has = k.has;
          few = k.few;
          still = k.still;
          asked = k.asked;
        }

    not_last : (o.reading.turns + 1 == turns_limit) ≡ false
    not_last = eqb-apart (o.reading.turns + 1) turns_limit (λ same. omega (arith, same, early))

    turned_open : (g : Agent Row) → OneMore (open_turns s rows a (idle (reader g o)) o)
    turned_open g =
        asked_again (idle (reader g o)) (o.reading.turns + 1 == turns_limit) (length o.reading.pieces)
        (filter (λ c. not (is_good o.reading c)) o.reading.order) not_last tt

    worked : (g : Agent Row) → OneMore (to_work (reader g o) (open_turns s rows a) (upload_turns s a))
    worked g =
        let k = turned_open g in
        subst OneMore (sym (work_same s a (upload_turns s a) (open_turns s rows a (idle (reader g o)) o) k.empty)) k

    -- after what asks clouds nothing
    after_quiet : (g : Agent Row) (first : Reaction Row) → IsQuiet (reader g o) first
        → OneMore (followed first (λ next. to_work next (open_turns s rows a) (upload_turns s a)))
    after_quiet g first quiet =
        let same = as_reader first.agent o quiet.0 (subst IsEmpty (sym quiet.1) tt) in
        let k = subst (λ h. OneMore (to_work h (open_turns s rows a) (upload_turns s a))) same (worked first.agent) in
        record {
          next = k.next;
          waits = k.waits;
          empty = k.empty;
          version = k.version;
          root = k.root;
          size = k.size;
          turned = k.turned;
          has = k.has;
          few = k.few;
          still = k.still;
          asked = each-append _ first.sent _ (subst (AreAsked s k.next.reading.gets) (sym quiet.2) tt) k.asked;
        }

    pub turned : (g : Agent Row) → OneMore (reacted s rows a (reader g o) given Turns)
    turned g =
        begun_too (o.reading.turns + 1) o.reading.pieces _
        (after_quiet g _ (renews_quiet (reader g o) (filter (λ (l : Lease). is_due given.now s.header.lease l && not l.asked) (reader g o).leases)))
