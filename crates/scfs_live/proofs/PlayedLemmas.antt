-- Histories that were played: each entry is what its event, its message and the answers of the rank rule make of it.
use Rattle.std.proofs.Common.{◌≡◌, ◌≤◌, ℕ, suc, List, [], ◌∷◌, ◌++◌, refl, ap, ◌∙◌, sym, subst, Option, length, arith}
use Rattle.scfs_policy.specs.declared.rank.RankFacts.{RankFacts}
use Rattle.scfs_schedule.specs.declared.types.Event.{Event}
use Rattle.scfs_schedule.specs.declared.types.Event.TheVariants as events
use Rattle.scfs_schedule.specs.declared.types.Line.{Line}
use Rattle.scfs_net.specs.Queues.{NetState}
use Rattle.scfs_model.specs.Agents.{Sent}
use Rattle.scfs_model.specs.Clouds.{IsServed, all_asked, asked_by, message_of, moved_by, net}
use Rattle.scfs_model.specs.Format.{Setup}
use Rattle.scfs_model.specs.History.{Entry, History, Message}
use Rattle.scfs_model.specs.Layers.{rows}
use Rattle.scfs_model.specs.Runs.{Answers, Happens, IsRanked, effect_after, made}
use Rattle.scfs_live.specs.RunAgain.{any_answer, events_of, ranks_of}
use Rattle.scfs_live.specs.TooLarge.{entry_after}

-- histories with as many events are equally long
pub same_length : (a b : History) → events_of a ≡ events_of b → length a ≡ length b
same_length [] [] same = refl
same_length [] (y ∷ b) same = cc
same_length (x ∷ a) [] same = cc
same_length (x ∷ a) (y ∷ b) same =
    let rest : events_of a ≡ events_of b = cc in
    ap (λ n. suc n) (same_length a b rest)

entry : Event → List Line → List ℕ → Option Message → Entry
entry event lines ranks message = record { event = event; lines = lines; ranks = ranks; message = message }

entry_same : (x y : Entry) → x.event ≡ y.event → x.lines ≡ y.lines → x.ranks ≡ y.ranks → x.message ≡ y.message → x ≡ y
unfolding entry
entry_same x y event lines ranks message =
    ap (λ v. entry v x.lines x.ranks x.message) event ∙ ap (λ v. entry y.event v x.ranks x.message) lines
    ∙ ap (λ v. entry y.event y.lines v x.message) ranks ∙ ap (λ v. entry y.event y.lines y.ranks v) message

module _ (s : Setup) where
  -- the lines of an entry are those of its event, its ranks and its message
  lines_by : (past : History) → Event → List ℕ → Option Message → List Line
  lines_by past event ranks message = made s past (entry event [] ranks message)

  -- two events with the same answers of the rank rule, behind one history
  same_entry : (past : History) (x y : Entry) → Happens s (x ∷ past) → Happens s (y ∷ past) → IsServed s (x ∷ past) → IsServed s (y ∷ past)
      → x.event ≡ y.event → x.ranks ≡ y.ranks → x ≡ y
  unfolding lines_by entry
  same_entry past x y happens happens' served served' event ranks =
      let message : x.message ≡ y.message = served.0 ∙ ap (message_of (net s past)) event ∙ sym served'.0 in
      let lines : x.lines ≡ y.lines =
      happens.0 ∙ ap (λ v. lines_by past v x.ranks x.message) event ∙ ap (λ v. lines_by past y.event v x.message) ranks
      ∙ ap (λ v. lines_by past y.event y.ranks v) message ∙ sym happens'.0 in
      entry_same x y event lines ranks message

  -- two histories of the same events, in which the rank rule gave the same answers, are one
  pub same_history : (a b : History) → Happens s a → Happens s b → IsServed s a → IsServed s b → events_of a ≡ events_of b → ranks_of a ≡ ranks_of b → a ≡ b
  same_history [] [] h h' v v' same ranks = refl
  same_history [] (y ∷ b) h h' v v' same ranks = cc
  same_history (x ∷ a) [] h h' v v' same ranks = cc
  same_history (x ∷ a) (y ∷ b) h h' v v' same ranks =
      let events : events_of a ≡ events_of b = cc in
      let answers : ranks_of a ≡ ranks_of b = cc in
      let event : x.event ≡ y.event = cc in
      let answer : x.ranks ≡ y.ranks = cc in
      let before : a ≡ b = same_history a b h.1 h'.1 v.1 v'.1 events answers in
      let one : x ≡ y = same_entry b x y (subst (λ (p : History). Happens s (x ∷ p)) before h) h' (subst (λ (p : History). IsServed s (x ∷ p)) before v) v' event answer in
      ap (λ (e : Entry). e ∷ a) one ∙ ap (λ (p : History). y ∷ p) before

  -- an entry that happened is the one that its event and its ranks make
  pub entry_again : (past : History) (e : Entry) → Happens s (e ∷ past) → IsServed s (e ∷ past) → entry_after s past e.event e.ranks ≡ e
  unfolding lines_by entry
  entry_again past e happens served =
      let message : message_of (net s past) e.event ≡ e.message = sym served.0 in
      entry_same (entry_after s past e.event e.ranks) e refl
      (ap (λ v. lines_by past e.event e.ranks v) message ∙ sym happens.0) refl message

  -- what the rank rule was asked was answered, whatever it answered
  any_answers : (allows : RankFacts → ℕ → Type 0) (asked : List RankFacts) (ranks : List ℕ) → Answers allows asked ranks → Answers any_answer asked ranks
  any_answers allows [] [] h = tt
  any_answers allows [] (rank ∷ ranks) h = h
  any_answers allows (x ∷ xs) [] h = h
  any_answers allows (x ∷ xs) (rank ∷ ranks) h = (tt, h.1, any_answers allows xs ranks h.2)

  pub any_ranked : (allows : RankFacts → ℕ → Type 0) (past : History) → IsRanked s allows past → IsRanked s any_answer past
  any_ranked allows [] h = tt
  any_ranked allows (e ∷ past) h = (any_answers allows (effect_after s rows past e).ranked e.ranks h.0, any_ranked allows past h.1)

  -- what holds of a history holds of its first events
  pub happens_before : (new old : History) → Happens s (new ++ old) → Happens s old
  happens_before [] old h = h
  happens_before (e ∷ new) old h = happens_before new old h.1

  pub served_before : (new old : History) → IsServed s (new ++ old) → IsServed s old
  served_before [] old h = h
  served_before (e ∷ new) old h = served_before new old h.1

  -- the bytes that are carried never become fewer

  asked_more : (sent : List Sent) (n : NetState) → n.carried ≤ (all_asked n sent).carried
  asked_more [] n = omega arith
  asked_more (x ∷ sent) n =
      let one : n.carried ≤ (asked_by n x).carried = omega arith in
      omega (arith, one, asked_more sent (asked_by n x))

  moved_more : (event : Event) (n : NetState) → n.carried ≤ (moved_by event n).carried
  moved_more (events.Serve c) n = omega arith
  moved_more (events.Hide c) n = omega arith
  moved_more (events.Fail c) n = omega arith
  moved_more (events.Say c answer) n = omega arith
  moved_more (events.Give c) n = omega arith
  moved_more (events.Lose c) n = omega arith
  moved_more (events.Drop c) n = omega arith
  moved_more (events.Defer c) n = omega arith
  moved_more (events.Swap c) n = omega arith
  moved_more (events.Again c) n = omega arith
  moved_more (events.Twice c) n = omega arith
  moved_more (events.Call a call) n = omega arith
  moved_more (events.Space a) n = omega arith
  moved_more (events.Later a) n = omega arith
  moved_more (events.Told a) n = omega arith
  moved_more (events.Turn a) n = omega arith
  moved_more (events.Tick ticks) n = omega arith
  moved_more (events.Crash a) n = omega arith
  moved_more (events.Start a) n = omega arith

  pub carried_more : (new old : History) → (net s old).carried ≤ (net s (new ++ old)).carried
  carried_more [] old = omega arith
  carried_more (e ∷ new) old =
      let before = net s (new ++ old) in
      omega (
        arith,
        carried_more new old,
        moved_more e.event before,
        asked_more (effect_after s rows (new ++ old) e).sent (moved_by e.event before),
      )
