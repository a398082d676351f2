-- How far an old journal was run again.
use Rattle.std.proofs.Common.{◌≡◌, ◌≤◌, ℕ, ◌+◌, List, [], ◌∷◌, ◌++◌, refl, ap, ◌∙◌, sym, subst, Option, Some, None, length, length-append, inl, inr, arith, Ok, Err}
use Rattle.scfs_base.specs.Outside.{Takes}
use Rattle.scfs_policy.specs.declared.rank.RankFacts.{RankFacts}
use Rattle.scfs_schedule.specs.Holding.{is_unfinished}
use Rattle.scfs_schedule.specs.Splitting.{GivesLine, Split, Splitting, lines_of, no_lines, unsplit}
use Rattle.scfs_schedule.specs.declared.types.Header.{Header}
use Rattle.scfs_schedule.specs.declared.types.Which.{Which}
use Rattle.scfs_schedule.specs.declared.types.Which.TheVariants as whichs
use Rattle.scfs_world.specs.Happening.{Stands}
use Rattle.scfs_world.specs.Stepping.{IsWorld}
use Rattle.scfs_live.specs.declared.ending.LiveEnd.{LiveEnd}
use Rattle.scfs_live.specs.declared.ending.LiveEnd.TheVariants as ends
use Rattle.scfs_live.specs.declared.running.Running.{Running}
use Rattle.scfs_live.specs.declared.reopening.Reread.{Reread}
use Rattle.scfs_live.specs.Edges.{GetsPart}
use Rattle.scfs_live.specs.Finding.{found}
use Rattle.scfs_live.specs.Keeping.{missing, unkept}
use Rattle.scfs_live.specs.Limits.{journal_limit}
use Rattle.scfs_live.specs.Reopened.{EndsAgain, EndsLines, EndsReopening, Passes, RunsAll, StopsAt, old_lines}
use Rattle.scfs_live.specs.Reopening.{EndsAt, Follows, GoesOn, RunsAgain, Walks, unwalked}
use Rattle.scfs_live.specs.Rereading.{EndsWriting, GivesNext, IsSoFar, Rereads, StopsReading}
use Rattle.scfs_live.specs.Taking.{Fed}
use Rattle.scfs_live.proofs.EdgeLemmas.{takes_then}
use Rattle.scfs_live.proofs.SplitLemmas.{gave_all, gave_fed, gave_line, gave_more, gave_nothing, passed_limit, within_limit}
use Rattle.scfs_live.proofs.WalkLemmas.{walks_then}

module _ (allows : RankFacts → ℕ → Type 0) (header : Header) where
  -- before anything was taken
  pub far_first : (running : Running) → Stands running.world header [] → IsWorld running.world → running.awaited ≡ unkept header
      → IsSoFar allows header [] (unsplit journal_limit whichs.Journal) running
  far_first running stands world awaited = record {
    done = [];
    place = unwalked header;
    gave = gave_nothing journal_limit whichs.Journal;
    number = refl;
    walks = refl;
    at = record {
      stands = stands;
      plays = record { happens = tt; served = tt; ranked = tt; events = tt; carried = omega arith };
      awaited = awaited;
      world = world;
      few = omega arith;
    };
  }

  -- a piece more was taken and fed
  pub far_fed : (taken piece : List ℕ) (old new : Splitting) (running : Running) → IsSoFar allows header taken old running → Fed old piece new
      → IsSoFar allows header (taken ++ piece) new running
  far_fed taken piece old new running far fed = record {
    done = far.done;
    place = far.place;
    gave = gave_fed journal_limit whichs.Journal taken piece far.done old new far.gave fed;
    number = fed.number ∙ far.number;
    walks = far.walks;
    at = far.at;
  }

  -- a line more was run again
  pub far_line : (taken line text : List ℕ) (old new : Splitting) (running next : Running) (far : IsSoFar allows header taken old running) (number : ℕ)
      (given : Option (List ℕ)) → given ≡ Some line → text ≡ line → GivesNext (Ok given) old new
      → GoesOn allows header far.place number (found header far.place.awaited text) (Ok next) → IsSoFar allows header taken new next
  far_line taken line text old new running next far number given some same gives_next goes_on =
      let gives : GivesLine (Ok (Some line)) old new = subst (λ x. GivesNext (Ok x) old new) some gives_next in
      record {
        done = far.done ++ line ∷ [];
        place = goes_on.0;
        gave = gave_line journal_limit whichs.Journal taken far.done line old new far.gave gives.5;
        number = omega (arith, gives.2, far.number, length-append far.done (line ∷ []));
        walks = walks_then header (unwalked header) far.done far.place goes_on.0 line far.walks
            (subst (λ t. Follows (found header far.place.awaited t) far.place goes_on.0) same goes_on.1);
        at = goes_on.2;
      }

  -- a line ends it
  ends_lines : (taken : List ℕ) (end : LiveEnd) → StopsAt allows header taken end → EndsLines allows header taken end
  ends_lines taken (ends.TooLarge whichs.Journal) stops = absurd stops.ends
  ends_lines taken (ends.TooLarge whichs.Line) stops = absurd stops.ends
  ends_lines taken (ends.TooLarge whichs.Events) stops = stops
  ends_lines taken (ends.TooLarge whichs.Input) stops = stops
  ends_lines taken (ends.TooLarge whichs.Objects) stops = stops
  ends_lines taken (ends.TooLarge whichs.Out) stops = stops
  ends_lines taken ends.Memory stops = tt
  ends_lines taken (ends.ReadFault which) stops = stops
  ends_lines taken (ends.WriteFault which) stops = stops
  ends_lines taken (ends.Bad bad) stops = stops
  ends_lines taken (ends.Unbuilt line) stops = stops
  ends_lines taken (ends.Differs line kept made) stops = stops

  pub far_stop : (taken line text : List ℕ) (old new : Splitting) (running : Running) (end : LiveEnd) (far : IsSoFar allows header taken old running) (number : ℕ)
      (given : Option (List ℕ)) → given ≡ Some line → text ≡ line → number ≡ new.number → GivesNext (Ok given) old new
      → GoesOn allows header far.place number (found header far.place.awaited text) (Err end) → EndsLines allows header taken end
  far_stop taken line text old new running end far number given some same count gives_next ended =
      let gives : GivesLine (Ok (Some line)) old new = subst (λ x. GivesNext (Ok x) old new) some gives_next in
      let at : number ≡ length far.done + 1 = omega (arith, gives.2, far.number, count) in
      let gave = gave_line journal_limit whichs.Journal taken far.done line old new far.gave gives.5 in
      ends_lines taken end
      (record {
        before = far.done;
        line = line;
        later = (lines_of new []).lines;
        place = far.place;
        whole = gave_more journal_limit whichs.Journal taken far.done line new gave;
        runs = record { walks = far.walks; plays = far.at.plays };
        ends = subst (λ n. EndsAt allows header far.place.past n (found header far.place.awaited line) end) at
            (subst (λ t. EndsAt allows header far.place.past number (found header far.place.awaited t) end) same ended);
      })

  -- all its lines so far were run again
  all_run : (taken : List ℕ) (lines : Splitting) (running : Running) (far : IsSoFar allows header taken lines running) (split : Split) → old_lines taken ≡ split
      → split.lines ≡ far.done → RunsAgain allows header (old_lines taken).lines far.place
  all_run taken lines running far split is all = record {
    walks = subst (λ ls. Walks header (unwalked header) ls far.place) (sym (ap (λ (x : Split). x.lines) is ∙ all)) far.walks;
    plays = far.at.plays;
  }

  -- a limit ends it
  pub far_limit : (taken : List ℕ) (lines : Splitting) (running : Running) (which : Which) → IsSoFar allows header taken lines running
      → ((later : List ℕ) → lines_of lines later ≡ no_lines (Some which)) → EndsLines allows header taken (ends.TooLarge which)
  far_limit taken lines running which far limit =
      let all = gave_all journal_limit whichs.Journal taken far.done lines (Some which) far.gave (limit []) in
      let passed = ap (λ (x : Split). x.passed) all in
      let passes : Passes allows header taken which = record { place = far.place; passed = passed; runs = all_run taken lines running far _ all refl } in
      elim (passed_limit journal_limit whichs.Journal which taken passed) [
        | inl is ↦ subst (λ w. EndsLines allows header taken (ends.TooLarge w)) (sym is) (subst (λ w. Passes allows header taken w) is passes)
        | inr is ↦ subst (λ w. EndsLines allows header taken (ends.TooLarge w)) (sym is) (subst (λ w. Passes allows header taken w) is passes)
      ]

  -- none was there
  pub far_none : (taken : List ℕ) (old new : Splitting) (running : Running) (given : Option (List ℕ)) → IsSoFar allows header taken old running → given ≡ None
      → GivesNext (Ok given) old new → IsSoFar allows header taken new running
  far_none taken old new running given far none gives_next =
      let gives : GivesLine (Ok None) old new = subst (λ x. GivesNext (Ok x) old new) none gives_next in
      subst (λ (s : Splitting). IsSoFar allows header taken s running) (sym gives.1) far

  -- what gives no line ends it
  pub far_next : (taken : List ℕ) (lines new : Splitting) (running : Running) (end : LiveEnd) → IsSoFar allows header taken lines running → GivesNext (Err end) lines new
      → EndsLines allows header taken end
  far_next taken lines new running (ends.TooLarge which) far gives = far_limit taken lines running which far gives
  far_next taken lines new running ends.Memory far gives = tt
  far_next taken lines new running (ends.ReadFault which) far gives = absurd gives
  far_next taken lines new running (ends.WriteFault which) far gives = absurd gives
  far_next taken lines new running (ends.Bad bad) far gives = absurd gives
  far_next taken lines new running (ends.Unbuilt line) far gives = absurd gives
  far_next taken lines new running (ends.Differs line kept made) far gives = absurd gives

  -- it was run again to its end
  pub far_all : (taken : List ℕ) (lines : Splitting) (running : Running) (far : IsSoFar allows header taken lines running) → lines_of lines [] ≡ no_lines None
      → RunsAll allows header taken far.place
  far_all taken lines running far none =
      let all = gave_all journal_limit whichs.Journal taken far.done lines None far.gave none in
      record { within = ap (λ (x : Split). x.passed) all; runs = all_run taken lines running far _ all refl }

  -- lines that were fed are not what failed
  pub no_fault : (taken : List ℕ) (end : LiveEnd) → EndsLines allows header taken end → end ≡ ends.ReadFault whichs.Journal → ⊥
  no_fault taken end ends_lines is = let stops : StopsAt allows header taken (ends.ReadFault whichs.Journal) = subst (EndsLines allows header taken) is ends_lines in stops.ends

  pub ends_again : (taken : List ℕ) (end : LiveEnd) → EndsLines allows header taken end → EndsAgain allows header taken end
  ends_again taken (ends.ReadFault whichs.Journal) stops = absurd stops.ends
  ends_again taken (ends.ReadFault whichs.Line) stops = stops
  ends_again taken (ends.ReadFault whichs.Events) stops = stops
  ends_again taken (ends.ReadFault whichs.Input) stops = stops
  ends_again taken (ends.ReadFault whichs.Objects) stops = stops
  ends_again taken (ends.ReadFault whichs.Out) stops = stops
  ends_again taken ends.Memory stops = stops
  ends_again taken (ends.TooLarge which) stops = stops
  ends_again taken (ends.WriteFault which) stops = stops
  ends_again taken (ends.Bad bad) stops = stops
  ends_again taken (ends.Unbuilt line) stops = stops
  ends_again taken (ends.Differs line kept made) stops = stops

  -- reading stops with these bytes taken
  pub stops_reading : (left now after : Option (List ℕ)) (taken piece : List ℕ) (end : LiveEnd) → Takes left now taken → Takes now after piece
      → EndsLines allows header (taken ++ piece) end → StopsReading allows header left after end
  stops_reading left now after taken piece end takes more stops =
      record { taken = taken ++ piece; takes = takes_then left now after taken piece takes more; ends = ends_again (taken ++ piece) end stops }

  -- more bytes than the limit are not run again
  pub far_within : (taken : List ℕ) (lines : Splitting) (running : Running) (room : ℕ) → IsSoFar allows header taken lines running → lines_of lines [] ≡ no_lines None
      → length taken + room ≡ journal_limit + 1 → room ≤ 0 → ⊥
  far_within taken lines running room far none count full =
      let few = within_limit journal_limit whichs.Journal taken (far_all taken lines running far none).within in omega (arith, few, count, full)

  -- what is missing of an old journal that was run again
  pub missing_of : (left left' : Option (List ℕ)) (ends_then ends_now : ℕ) (reread : Reread) (r : Rereads allows header left left' ends_then ends_now reread)
      → missing reread.unfinished reread.running.awaited ≡ missing (is_unfinished r.taken) r.place.awaited
  missing_of left left' ends_then ends_now reread r =
      ap (λ b. missing b reread.running.awaited) (sym r.unfinished) ∙ ap (λ a. missing (is_unfinished r.taken) a) r.at.awaited

  -- it was run again, and writing ended so
  pub ends_reopening : (left left' : Option (List ℕ)) (ends_then ends_now : ℕ) (before after : Option (List ℕ)) (reread : Reread) (end : LiveEnd)
      → Rereads allows header left left' ends_then ends_now reread → EndsWriting before after (missing reread.unfinished reread.running.awaited) end
      → EndsReopening allows header left left' ends_then ends_now before after end
  ends_reopening left left' ends_then ends_now before after reread (ends.WriteFault whichs.Journal) r writing = record {
    taken = r.taken;
    place = r.place;
    reads = r.reads;
    wrote = subst (GetsPart before after) (missing_of left left' ends_then ends_now reread r) writing;
  }
  ends_reopening left left' ends_then ends_now before after reread (ends.WriteFault whichs.Line) r writing = absurd writing
  ends_reopening left left' ends_then ends_now before after reread (ends.WriteFault whichs.Events) r writing = absurd writing
  ends_reopening left left' ends_then ends_now before after reread (ends.WriteFault whichs.Input) r writing = absurd writing
  ends_reopening left left' ends_then ends_now before after reread (ends.WriteFault whichs.Objects) r writing = absurd writing
  ends_reopening left left' ends_then ends_now before after reread (ends.WriteFault whichs.Out) r writing = absurd writing
  ends_reopening left left' ends_then ends_now before after reread ends.Memory r writing =
      record { taken = r.taken; takes = r.reads.takes; ends = tt; nothing = writing }
  ends_reopening left left' ends_then ends_now before after reread (ends.TooLarge which) r writing = absurd writing
  ends_reopening left left' ends_then ends_now before after reread (ends.ReadFault which) r writing = absurd writing
  ends_reopening left left' ends_then ends_now before after reread (ends.Bad bad) r writing = absurd writing
  ends_reopening left left' ends_then ends_now before after reread (ends.Unbuilt line) r writing = absurd writing
  ends_reopening left left' ends_then ends_now before after reread (ends.Differs line kept made) r writing = absurd writing
