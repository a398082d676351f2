-- What a dump comes to, with what is written behind the run.
use Rattle.std.proofs.Common.{◌≡◌, ℕ, List, [], false, refl, ap, ◌∙◌, sym, subst, Option, Some, None, length}
use Rattle.std.specs.Prelude.{IsSome}
use Rattle.scfs_base.specs.Outside.{Puts}
use Rattle.scfs_policy.specs.declared.rank.RankFacts.{RankFacts}
use Rattle.scfs_schedule.specs.declared.types.BadKind.{BadKind}
use Rattle.scfs_schedule.specs.declared.types.BadKind.TheVariants as kinds
use Rattle.scfs_schedule.specs.declared.types.Ending.TheVariants as endings
use Rattle.scfs_schedule.specs.declared.types.Stop.{Stop}
use Rattle.scfs_schedule.specs.declared.types.Stop.TheVariants as stops
use Rattle.scfs_schedule.specs.declared.types.Header.{Header}
use Rattle.scfs_schedule.specs.Grammar.{IsHeader}
use Rattle.scfs_schedule.specs.Reading.{read}
use Rattle.scfs_model.specs.Format.{Setup}
use Rattle.scfs_model.specs.History.{History}
use Rattle.scfs_model.specs.Layers.{row_of}
use Rattle.scfs_model.specs.Runs.{actual, mapped}
use Rattle.scfs_laws.specs.Blocks.{NoClash}
use Rattle.scfs_laws.specs.Laws.{SoundWithoutClash}
use Rattle.scfs_laws.specs.Mapped as to
use Rattle.scfs_laws.specs.Sound.{IsSound}
use Rattle.scfs_world.specs.Happening.{IsPlayed}
use Rattle.scfs_model.specs.UnitFormat.{under}
use Rattle.scfs_world.specs.State.{WorldState}
use Rattle.scfs_top.specs.declared.closing.Filled.{Filled}
use Rattle.scfs_top.specs.declared.closing.Filled.TheVariants as filleds
use Rattle.scfs_top.specs.declared.closing.Finish.{Finish}
use Rattle.scfs_top.specs.declared.closing.Finish.TheVariants as finishes
use Rattle.scfs_top.specs.declared.closing.LastLine.{LastLine}
use Rattle.scfs_top.specs.declared.closing.Status.{Status}
use Rattle.scfs_top.specs.declared.closing.Status.TheVariants as statuses
use Rattle.scfs_top.specs.declared.play.Played.{Played}
use Rattle.scfs_top.specs.declared.play.Played.TheVariants as playeds
use Rattle.scfs_top.specs.Closing.{bad_closing, closing_of, end_closing, stop_closing}
use Rattle.scfs_top.specs.Dumping.{DumpsInput, IsOfMap, IsOutput, IsWhole}
use Rattle.scfs_top.specs.Finishing.{EndsWith}
use Rattle.scfs_top.specs.Giving.{Tells}
use Rattle.scfs_top.specs.Headline.{ClosesWith, GetsText, IsStatus, last_line}
use Rattle.scfs_top.specs.Playing.{played}
use Rattle.scfs_top.specs.Plays.{Plays, filled_of, finish_of}
use Rattle.scfs_top.proofs.ClosingLemmas.{status_behind}
use Rattle.scfs_top.proofs.EdgeLemmas.{front_of_more}
use Rattle.scfs_top.proofs.ReplayLemmas.{first_events}

-- a last line of a run that was played to the end of its text asks for a world
abbrev IsWholeIf : Option LastLine → Option WorldState → Type 0
IsWholeIf None world = Unit {0}
IsWholeIf (Some last) world = IsWhole last world

end_whole : (line : ℕ) (filled : Filled) (world : Option WorldState) → IsWholeIf (end_closing line filled) world
end_whole line filleds.End world = tt
end_whole line filleds.Fault world = tt
end_whole line filleds.Full world = tt
end_whole line filleds.Open world = tt

bad_whole : (line : ℕ) (kind : BadKind) (filled : Filled) (world : Option WorldState) → IsWholeIf (bad_closing line kind filled) world
bad_whole line kinds.End filled world = end_whole line filled world
bad_whole line kinds.Order filled world = tt
bad_whole line kinds.Word filled world = tt
bad_whole line kinds.Number filled world = tt
bad_whole line kinds.Hex filled world = tt
bad_whole line kinds.Path filled world = tt

stop_whole : (stop : Stop) (filled : Filled) (world : Option WorldState) → IsWholeIf (stop_closing stop filled) world
stop_whole (stops.Bad bad) filled world = bad_whole bad.line bad.kind filled world
stop_whole (stops.TooLarge which) filled world = tt
stop_whole stops.Memory filled world = tt

closing_whole : (count : ℕ) (finish : Finish) (filled : Filled) (world : Option WorldState) → (Some finish ≡ Some (finishes.Text endings.Ended) → IsSome world)
    → IsWholeIf (closing_of count finish filled) world
closing_whole count (finishes.Text endings.Ended) filled world whole = whole refl
closing_whole count (finishes.Text (endings.Stopped stop)) filled world whole = stop_whole stop filled world
closing_whole count (finishes.Unbuilt line) filled world whole = tt
closing_whole count finishes.Events filled world whole = tt
closing_whole count finishes.Objects filled world whole = tt

pub last_is_whole : (last : LastLine) (count : ℕ) (finish : Finish) (filled : Filled) (world : Option WorldState) → Some last ≡ closing_of count finish filled
    → (Some finish ≡ Some (finishes.Text endings.Ended) → IsSome world) → IsWhole last world
last_is_whole last count finish filled world is whole =
    subst (λ (o : Option LastLine). IsWholeIf o world) (sym is) (closing_whole count finish filled world whole)

-- Where no two different blocks of a history that was played share a digest, it leaves what the file map has.
pub of_map : SoundWithoutClash → ((s : Setup) (past : History) → IsSound s past → actual s past ≡ to.state (row_of s) (mapped s past))
    → (allows : RankFacts → ℕ → Type 0) (header : Header) (past : History) → IsHeader header → IsPlayed allows header past → NoClash header past → IsOfMap header past
of_map sound agree allows header past is_header plays apart = agree (under header) past (sound header past is_header plays.served plays.events apart)

module _ (allows : RankFacts → ℕ → Type 0) (left now : Option (List ℕ)) (ends ends' faults faults' : ℕ) (before after : Option (List ℕ)) where
  module _ (result : Played) (plays : Plays allows left now None None [] result) (tells : Tells ends ends' faults faults' (filled_of result)) where
    dumps : (status : Status) (finish : Option Finish) → EndsWith allows plays.header plays.past (played (read false plays.taken)) finish
        → (finish ≡ Some (finishes.Text endings.Ended) → NoClash plays.header plays.past → IsOfMap plays.header plays.past)
        → (text : List ℕ) → IsOutput (last_line (length plays.past) finish (filled_of result)) (actual (under plays.header) plays.past) text
        → GetsText status before after text → IsStatus status (last_line (length plays.past) finish (filled_of result))
        → DumpsInput allows left now before after ends ends' faults faults' status
    dumps status finish ended of_the_map text output wrote decided =
        let ran = plays.ran in
        record {
          filled = filled_of result;
          taken = plays.taken;
          takes = ran.takes;
          few = ran.few;
          full = ran.full;
          nothing_left = ran.nothing_left;
          dumps = record {
            header = plays.header;
            past = plays.past;
            finish = finish;
            stated = plays.stated;
            ends = ended;
            plays = plays.known.plays;
            held = plays.known.held;
            newest = plays.known.newest;
            safe = plays.known.safe;
            run = plays.known.run;
            mapped = of_the_map;
            text = text;
            output = output;
            wrote = wrote;
            decided = decided;
            soon = record { early = ran.pace.early; piece = ran.pace.piece; whole = ran.pace.whole; few = ran.pace.few; goes_on = ran.pace.goes_on };
          };
          ended = tells.ended;
          failed = tells.failed;
        }

    -- for want of memory nothing is written
    pub dumps_nothing : Puts before after [] → DumpsInput allows left now before after ends ends' faults faults' statuses.Memory
    dumps_nothing nothing =
        dumps statuses.Memory None (first_events allows plays.header plays.past (played (read false plays.taken)) (finish_of result) plays.ends) (λ e. cc) [] refl
        (front_of_more before after [] [] nothing) refl

  -- what is written behind a run that has a last line
  module _ (count : ℕ) (finish : Finish) (filled : Filled) (plays : Plays allows left now None None [] (playeds.Ended count finish filled)) (tells : Tells ends ends' faults faults' filled)
      (last : LastLine) (is : Some last ≡ closing_of count finish filled) (of_the_map : Some finish ≡ Some (finishes.Text endings.Ended) → NoClash plays.header plays.past → IsOfMap plays.header plays.past)
      (text : List ℕ) (output : IsOutput (Some last) (actual (under plays.header) plays.past) text) where
    closing : Some last ≡ closing_of (length plays.past) finish filled
    closing = is ∙ ap (λ n. closing_of n finish filled) plays.ran.counts

    with_text : (status : Status) → GetsText status before after text → IsStatus status (closing_of (length plays.past) finish filled)
        → DumpsInput allows left now before after ends ends' faults faults' status
    with_text status wrote decided =
        dumps (playeds.Ended count finish filled) plays tells status (Some finish) plays.ends of_the_map text
        (subst (λ (o : Option LastLine). IsOutput o (actual (under plays.header) plays.past) text) closing output) wrote decided

    pub dumps_closed : (status : Status) → ClosesWith text last before after status → DumpsInput allows left now before after ends ends' faults faults' status
    dumps_closed statuses.Done c = with_text statuses.Done c.0 (status_behind statuses.Done last _ closing c.1)
    dumps_closed statuses.Usage c = with_text statuses.Usage c.0 (status_behind statuses.Usage last _ closing c.1)
    dumps_closed statuses.BadInput c = with_text statuses.BadInput c.0 (status_behind statuses.BadInput last _ closing c.1)
    dumps_closed statuses.ReadFault c = with_text statuses.ReadFault c.0 (status_behind statuses.ReadFault last _ closing c.1)
    dumps_closed statuses.TooLarge c = with_text statuses.TooLarge c.0 (status_behind statuses.TooLarge last _ closing c.1)
    dumps_closed statuses.Differs c = with_text statuses.Differs c.0 (status_behind statuses.Differs last _ closing c.1)
    dumps_closed statuses.WriteFault c = with_text statuses.WriteFault c tt
    dumps_closed statuses.Memory c = dumps_nothing (playeds.Ended count finish filled) plays tells c
