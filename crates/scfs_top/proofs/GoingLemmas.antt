-- A run that goes on, event by event, and how it ends.
use Rattle.std.proofs.Common.{◌≡◌, ℕ, ◌+◌, List, [], ◌∷◌, ◌++◌, false, true, refl, ap, ◌∙◌, sym, subst, Option, Some, None, length, arith, append_assoc, append-nil, length-append}
use Rattle.scfs_base.specs.Outside.{Takes}
use Rattle.scfs_policy.specs.declared.rank.RankFacts.{RankFacts}
use Rattle.scfs_schedule.specs.declared.types.Ending.{Ending}
use Rattle.scfs_schedule.specs.declared.types.Event.{Event}
use Rattle.scfs_schedule.specs.declared.types.Header.{Header}
use Rattle.scfs_schedule.specs.Grammar.{IsHeader}
use Rattle.scfs_schedule.specs.Reading.{Read, Reading, IsAtEvents, gives, read, stopped, unfinished, with_event, with_header}
use Rattle.scfs_model.specs.History.{Entry, History, transcript}
use Rattle.scfs_world.specs.Built.{is_built_header}
use Rattle.scfs_world.specs.Happening.{Stands}
use Rattle.scfs_world.specs.State.{WorldState}
use Rattle.scfs_live.specs.Edges.{GetsPart}
use Rattle.scfs_live.specs.TooLarge.{IsTooLargeNext}
use Rattle.scfs_top.specs.declared.closing.Filled.{Filled}
use Rattle.scfs_top.specs.declared.closing.Filled.TheVariants as filleds
use Rattle.scfs_top.specs.declared.closing.Finish.{Finish}
use Rattle.scfs_top.specs.declared.closing.Finish.TheVariants as finishes
use Rattle.scfs_top.specs.declared.intake.Given.{Given}
use Rattle.scfs_top.specs.declared.intake.Given.TheVariants as givens
use Rattle.scfs_top.specs.declared.intake.Intake.{Intake}
use Rattle.scfs_top.specs.declared.play.Played.{Played}
use Rattle.scfs_top.specs.declared.play.Played.TheVariants as playeds
use Rattle.scfs_top.specs.Edges.{Passes}
use Rattle.scfs_top.specs.Finishing.{EndsWith}
use Rattle.scfs_top.specs.Giving.{Draws, GivesNext, WaitedFor}
use Rattle.scfs_top.specs.Playing.{Playing, before_event, events_played, finish_at, finished, header_lines, played, under_header, unless_finished}
use Rattle.scfs_top.specs.Plays.{IsNext, Known, Plays, PlaysTo, Ran, SoFar, entry_text, finish_of, with_past}
use Rattle.scfs_top.proofs.EdgeLemmas.{passes_part, passes_then, then_part}
use Rattle.scfs_top.proofs.PaceLemmas.{pace_event, pace_out}
use Rattle.scfs_top.proofs.PlayedLemmas.{AllPlayed, Leads, Says, after_past, ends_finished, ends_large, ends_part, leads, leads_to_end, leads_to_event, states_header}
use Rattle.scfs_top.proofs.RunLemmas.{Asked, asked_more, asked_next, ran, ran_fault}

-- a run under a header behind a history
pub record Going (allows : RankFacts → ℕ → Type 0) (left now before after : Option (List ℕ)) (waiting : List ℕ) (intake : Intake) (header : Header) (past : History) : Type 0 where
  pub so_far : SoFar left now before after intake waiting header past
  pub known : Known allows header past
  pub built : is_built_header header ≡ true
  pub all : AllPlayed (header_lines header + 1) past

-- what was done for what the text gave next
pub record Drew (now next before after : Option (List ℕ)) (waiting waiting' : List ℕ) (intake new : Intake) (given : Given) : Type 0 where
  pub more : List ℕ
  pub draws : Draws now next more intake new given
  pub waited : WaitedFor intake.reader more waiting'
  pub passes : Passes before after waiting waiting' []

-- a place in the events of a text has one header
same_header : (reader : Reading) (one other : Header) → IsAtEvents reader one → IsAtEvents reader other → one ≡ other
same_header reader one other h k = let e = sym h ∙ k in cc

-- the history has the events that are played
plays_by : (allows : RankFacts → ℕ → Type 0) (left next before after : Option (List ℕ)) (w : List ℕ) (header : Header) (taken : List ℕ) (past : History) (result : Played)
    (playing : Playing) → Known allows header past → Leads (read false taken) header past playing
    → EndsWith allows header past (played (read false taken)) (finish_of result) → Ran left next before after w taken past result → Plays allows left next before after w result
plays_by allows left next before after w header taken past result playing known leads ends ran = record {
  taken = taken;
  header = header;
  past = past;
  ran = ran;
  stated = states_header (read false taken) header past playing leads;
  ends = ends;
  known = known;
}

module _ (allows : RankFacts → ℕ → Type 0) (left now next before b after : Option (List ℕ)) (w w' : List ℕ) (intake new : Intake) (header : Header) (past : History)
    (going : Going allows left now before b w intake header past) where
  -- writing failed before the text was read on
  pub plays_fault : next ≡ now → GetsPart b after w → Plays allows left next before after w' playeds.WriteFault
  plays_fault same part =
      let s = going.so_far in
      let rest = gives intake.reader [] in
      let says : Says (read false s.taken) header past rest = record { built = going.built; all = going.all; is = ap (read false) (sym (append-nil s.taken)) ∙ s.says [] } in
      let to = leads (read false s.taken) header past rest says in
      plays_by allows left next before after w' header s.taken past playeds.WriteFault (events_played (header_lines header + 1 + length past) (length past) rest.events rest.ending)
      going.known to (ends_part allows (read false s.taken) header past (events_played (header_lines header + 1 + length past) (length past) rest.events rest.ending) to)
      (ran_fault left next before after w' s.taken past b part.front (subst (λ n. Takes left n s.taken) (sym same) s.takes) (omega (arith, s.room)) s.pace part.puts
      (subst (GetsPart before after) (sym s.wrote.whole) (then_part before b after s.wrote.front w s.wrote.puts part)))

  module _ (given : Given) (drew : Drew now next b after w w' intake new given) where
    pub asked : Asked left next before after w' past (going.so_far.taken ++ drew.more)
    asked =
        let s = going.so_far in
        asked_next (λ r. with_header header (with_past past r)) (Some header) past left now next before b after w w' s.taken drew.more intake new given
        (record {
          says = s.says;
          unfinished = λ line. leads_to_end (with_header header (with_past past (stopped (unfinished false line)))) header past (unfinished false line)
              (record { built = going.built; all = going.all; is = refl });
        }) s.room s.takes s.wrote s.pace drew.draws drew.waited drew.passes

    says : (rest : Read) → gives intake.reader drew.more ≡ rest → Says (read false (going.so_far.taken ++ drew.more)) header past rest
    says rest is = record { built = going.built; all = going.all; is = going.so_far.says drew.more ∙ ap (λ (r : Read). with_header header (with_past past r)) is }

    -- memory was wanting for what comes next
    pub plays_unread : Plays allows left next before after w' playeds.Memory
    plays_unread =
        let taken = going.so_far.taken ++ drew.more in
        let rest = gives intake.reader drew.more in
        let playing = events_played (header_lines header + 1 + length past) (length past) rest.events rest.ending in
        let to = leads (read false taken) header past rest (says rest refl) in
        plays_by allows left next before after w' header taken past playeds.Memory playing going.known to (ends_part allows (read false taken) header past playing to)
        (ran left next before after w' taken past playeds.Memory asked (λ is. cc) (λ is. cc) tt asked.wrote)

    -- the text ended
    pub plays_end : (ending : Ending) (filled : Filled) (count : ℕ) → given ≡ givens.Ended ending filled → count ≡ length past
        → Plays allows left next before after w' (playeds.Ended count (finishes.Text ending) filled)
    plays_end ending filled count is counts =
        let taken = going.so_far.taken ++ drew.more in
        let draws = subst (λ (x : Given). Draws now next drew.more intake new x) is drew.draws in
        let to = leads_to_end (read false taken) header past ending (says (stopped ending) draws.next) in
        let result = playeds.Ended count (finishes.Text ending) filled in
        plays_by allows left next before after w' header taken past result (finished (finishes.Text ending)) going.known to
        (ends_finished allows (read false taken) header past (finishes.Text ending) to)
        (ran left next before after w' taken past result asked (λ is. let f = draws.full is in omega (arith, f, going.so_far.room, length-append going.so_far.taken drew.more))
        draws.nothing_left counts asked.wrote)

    -- and its world is left
    pub leaves_end : (ending : Ending) (filled : Filled) (count : ℕ) (world : WorldState) → given ≡ givens.Ended ending filled → count ≡ length past → Stands world header past → IsHeader header
        → PlaysTo allows left next before after w' (record { played = playeds.Ended count (finishes.Text ending) filled; world = Some world })
    unfolding plays_by plays_end
    leaves_end ending filled count world is counts stands is_header = record { plays = plays_end ending filled count is counts; leaves = (stands, is_header); whole = λ e. refl }

    -- an event came in the line of this number, behind so many others
    module _ (event : Event) (line count : ℕ) (is : given ≡ givens.Event event) (lines : line ≡ new.reader.lines) (counts : count ≡ length past)
        (final : Option (List ℕ)) (w'' : List ℕ) where
      next_event : GivesNext (givens.Event event) drew.more intake.reader new.reader
      next_event = subst (λ (x : Given). GivesNext x drew.more intake.reader new.reader) is drew.draws.next

      at_line : (finish : Option Finish) → finish_at line count event ≡ finish → finish_at (header_lines header + 1 + length past) (length past) event ≡ finish
      at_line finish at =
          let same : line ≡ header_lines header + 1 + length past = omega (arith, lines, next_event.4, going.so_far.lines) in
          ap (λ n. finish_at n (length past) event) (sym same) ∙ ap (λ n. finish_at line n event) (sym counts) ∙ at

      abbrev behind : Playing
      behind =
          let rest = gives new.reader [] in
          events_played (header_lines header + 1 + length past + 1) (length past + 1) rest.events rest.ending

      to_event : (finish : Option Finish) → finish_at line count event ≡ finish → Leads (read false (going.so_far.taken ++ drew.more)) header past (unless_finished finish event behind)
      to_event finish at =
          let rest = gives new.reader [] in
          leads_to_event (read false (going.so_far.taken ++ drew.more)) header past event rest finish
          (says (with_event event rest) (ap (gives intake.reader) (sym (append-nil drew.more)) ∙ next_event.5 [])) (at_line finish at)

      -- it ends what is played
      pub plays_finished : (finish : Finish) → finish_at line count event ≡ Some finish → Passes after final w' w'' []
          → Plays allows left next before final w'' (playeds.Ended count finish filleds.Open)
      plays_finished finish at passes =
          let taken = going.so_far.taken ++ drew.more in
          let end = asked_more left next before after final w' w'' taken past asked passes in
          let to = to_event (Some finish) at in
          let result = playeds.Ended count finish filleds.Open in
          plays_by allows left next before final w'' header taken past result (finished finish) going.known to (ends_finished allows (read false taken) header past finish to)
          (ran left next before final w'' taken past result end (λ is. cc) (λ is. cc) counts end.wrote)

      -- it would carry too many bytes
      pub plays_large : finish_at line count event ≡ None → IsTooLargeNext allows header past event → Passes after final w' w'' []
          → Plays allows left next before final w'' (playeds.Ended count finishes.Objects filleds.Open)
      plays_large at large passes =
          let taken = going.so_far.taken ++ drew.more in
          let end = asked_more left next before after final w' w'' taken past asked passes in
          let to = to_event None at in
          let result = playeds.Ended count finishes.Objects filleds.Open in
          plays_by allows left next before final w'' header taken past result (before_event event behind) going.known to
          (ends_large allows (read false taken) header past event behind to large)
          (ran left next before final w'' taken past result end (λ is. cc) (λ is. cc) counts end.wrote)

      -- memory was wanting for it
      pub plays_undone : finish_at line count event ≡ None → Passes after final w' w'' [] → Plays allows left next before final w'' playeds.Memory
      plays_undone at passes =
          let taken = going.so_far.taken ++ drew.more in
          let end = asked_more left next before after final w' w'' taken past asked passes in
          let to = to_event None at in
          plays_by allows left next before final w'' header taken past playeds.Memory (before_event event behind) going.known to
          (ends_part allows (read false taken) header past (before_event event behind) to)
          (ran left next before final w'' taken past playeds.Memory end (λ is. cc) (λ is. cc) tt end.wrote)

      -- it was done
      module _ (entry : Entry) (known : Known allows header (entry ∷ past)) (is_next : IsNext allows header past event entry) (at : finish_at line count event ≡ None) where
        -- but its lines were not all written
        pub plays_unwritten : GetsPart after final (w' ++ entry_text past entry) → Plays allows left next before final w'' playeds.WriteFault
        plays_unwritten part =
            let taken = going.so_far.taken ++ drew.more in
            let to : Leads (read false taken) header (entry ∷ past) behind =
            to_event None at ∙ ap (λ (e : Event). under_header header (after_past past (before_event e behind))) (sym is_next.same) in
            plays_by allows left next before final w'' header taken (entry ∷ past) playeds.WriteFault behind known to
            (ends_part allows (read false taken) header (entry ∷ past) behind to)
            (ran_fault left next before final w'' taken (entry ∷ past) after part.front asked.takes asked.few (pace_event entry past taken before after asked.pace) part.puts
            (passes_part before after final w' (transcript past) (entry_text past entry) asked.wrote part))

        pub goes_on : Passes after final w' w'' (entry_text past entry) → Going allows left next before final w'' new header (entry ∷ past)
        goes_on passes =
            let s = going.so_far in
            let taken = s.taken ++ drew.more in
            let leaves = drew.draws.leaves (λ none. let e = sym is ∙ none in cc) in
            record {
              so_far = record {
                taken = taken;
                takes = asked.takes;
                room = omega (arith, s.room, leaves, length-append s.taken drew.more);
                says = λ later. ap (read false) (append_assoc s.taken drew.more later) ∙ s.says (drew.more ++ later)
                    ∙ ap (λ (r : Read). with_header header (with_past past r)) (next_event.5 later)
                    ∙ ap (λ (e : Event). with_header header (with_past past (with_event e (gives new.reader later)))) (sym is_next.same);
                place = subst (λ (h : Header). IsAtEvents new.reader h) (same_header intake.reader next_event.0 header next_event.1 s.place) next_event.2;
                lines = omega (arith, next_event.4, s.lines);
                wrote = passes_then before after final [] w' w'' (transcript past) (entry_text past entry) asked.wrote passes;
                pace = pace_out (entry ∷ past) taken before after final passes.front (pace_event entry past taken before after asked.pace) passes.puts;
              };
              known = known;
              built = going.built;
              all = (ap (λ (e : Event). finish_at (header_lines header + 1 + length past) (length past) e) is_next.same ∙ at_line None at, going.all);
            }
