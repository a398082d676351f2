-- What a run comes to once nothing waits, and with its last line.
use Rattle.std.proofs.Common.{◌≡◌, ◌≢◌, ℕ, List, [], ◌∷◌, ◌++◌, false, refl, ap, ◌∙◌, sym, subst, ⊎_elim, Option, Some, None, length, append-nil}
use Rattle.std.specs.Prelude.{IsSome}
use Rattle.scfs_base.specs.Outside.{Puts}
use Rattle.scfs_policy.specs.declared.rank.RankFacts.{RankFacts}
use Rattle.scfs_schedule.specs.declared.types.Ending.TheVariants as endings
use Rattle.scfs_schedule.specs.declared.types.Header.{Header}
use Rattle.scfs_schedule.specs.Reading.{read}
use Rattle.scfs_model.specs.History.{History, transcript}
use Rattle.scfs_world.specs.State.{WorldState}
use Rattle.scfs_live.specs.Edges.{GetsPart}
use Rattle.scfs_top.specs.declared.closing.Filled.{Filled}
use Rattle.scfs_top.specs.declared.closing.Filled.TheVariants as filleds
use Rattle.scfs_top.specs.declared.closing.Finish.{Finish}
use Rattle.scfs_top.specs.declared.closing.Finish.TheVariants as finishes
use Rattle.scfs_top.specs.declared.closing.LastLine.{LastLine}
use Rattle.scfs_top.specs.declared.closing.Status.{Status}
use Rattle.scfs_top.specs.declared.closing.Status.TheVariants as statuses
use Rattle.scfs_top.specs.declared.play.Played.{Played}
use Rattle.scfs_top.specs.declared.play.Played.TheVariants as playeds
use Rattle.scfs_top.specs.Closing.{closing_of, closing_status, closing_text, last_line_text, status_of}
use Rattle.scfs_top.specs.Edges.{Passes}
use Rattle.scfs_top.specs.Finishing.{EndsWith}
use Rattle.scfs_top.specs.Giving.{Tells}
use Rattle.scfs_top.specs.Headline.{Closes, GetsText, IsStatus, ReplaysInput, last_line}
use Rattle.scfs_top.specs.Playing.{Playing, played}
use Rattle.scfs_top.specs.Plays.{Leaves, Plays, PlaysTo, WroteBy, filled_of, finish_of}
use Rattle.scfs_top.proofs.ClosingLemmas.{line_behind, part_behind, status_behind}
use Rattle.scfs_top.proofs.EdgeLemmas.{front_of_more, passes_all, passes_on, passes_put, puts_more, puts_nothing, then_part}
use Rattle.scfs_top.proofs.PaceLemmas.{pace_out}

-- what waits is known but where writing failed
waits : (result : Played) (past : History) (before after : Option (List ℕ)) (w : List ℕ) → result ≢ playeds.WriteFault → WroteBy result past before after w
    → Passes before after [] w (transcript past)
waits (playeds.Ended count finish filled) past before after w others wrote = wrote
waits playeds.WriteFault past before after w others wrote = absurd (others refl)
waits playeds.Memory past before after w others wrote = wrote

wrote_all : (result : Played) (past : History) (before after : Option (List ℕ)) (w : List ℕ) → result ≢ playeds.WriteFault → Passes before after [] w (transcript past)
    → WroteBy result past before after w
wrote_all (playeds.Ended count finish filled) past before after w others wrote = wrote
wrote_all playeds.WriteFault past before after w others wrote = absurd (others refl)
wrote_all playeds.Memory past before after w others wrote = wrote

-- a history that ends what is played has the first of its events
pub first_events : (allows : RankFacts → ℕ → Type 0) (header : Header) (past : History) (playing : Playing) (finish : Option Finish)
    → EndsWith allows header past playing finish → EndsWith allows header past playing None
first_events allows header past playing None ends = ends
first_events allows header past playing (Some finish) ends = ⊎_elim (λ all. ([], all.0)) (λ large. (large.1.0 ∷ large.1.1, large.1.2)) ends

module _ (allows : RankFacts → ℕ → Type 0) (left now before b after : Option (List ℕ)) (w : List ℕ) (result : Played) (plays : Plays allows left now before b w result) where
  -- what waited was written
  pub plays_flushed : result ≢ playeds.WriteFault → Puts b after w → Plays allows left now before after [] result
  plays_flushed others puts =
      let ran = plays.ran in
      record {
        taken = plays.taken;
        header = plays.header;
        past = plays.past;
        ran = record {
          takes = ran.takes;
          few = ran.few;
          full = ran.full;
          nothing_left = ran.nothing_left;
          counts = ran.counts;
          wrote = wrote_all result plays.past before after [] others
              (passes_on before b after [] w [] (transcript plays.past) (waits result plays.past before b w others ran.wrote) (passes_put b after w [] refl puts));
          pace = pace_out plays.past plays.taken before b after w ran.pace puts;
        };
        stated = plays.stated;
        ends = plays.ends;
        known = plays.known;
      }

  -- and a world is left
  pub flushed_to : (world : Option WorldState) → Leaves world plays.header plays.past → (finish_of result ≡ Some (finishes.Text endings.Ended) → IsSome world)
      → result ≢ playeds.WriteFault → Puts b after w → PlaysTo allows left now before after [] (record { played = result; world = world })
  unfolding plays_flushed
  flushed_to world leaves whole others puts = record { plays = plays_flushed others puts; leaves = leaves; whole = whole }

  -- or not all of it
  pub plays_cut : result ≢ playeds.WriteFault → GetsPart b after w → Plays allows left now before after [] playeds.WriteFault
  plays_cut others part =
      let ran = plays.ran in
      let wrote = waits result plays.past before b w others ran.wrote in
      record {
        taken = plays.taken;
        header = plays.header;
        past = plays.past;
        ran = record {
          takes = ran.takes;
          few = ran.few;
          full = λ is. cc;
          nothing_left = λ is. cc;
          counts = tt;
          wrote = subst (GetsPart before after) (sym wrote.whole) (then_part before b after wrote.front w wrote.puts part);
          pace = pace_out plays.past plays.taken before b after part.front ran.pace part.puts;
        };
        stated = plays.stated;
        ends = first_events allows plays.header plays.past (played (read false plays.taken)) (finish_of result) plays.ends;
        known = plays.known;
      }

-- the headline of a run, with what was written behind its transcript
replays : (allows : RankFacts → ℕ → Type 0) (left now before b after : Option (List ℕ)) (result : Played) (ends ends' faults faults' : ℕ)
    (plays : Plays allows left now before b [] result) → Tells ends ends' faults faults' (filled_of result)
    → (x : List ℕ) (status : Status) (finish : Option Finish) → EndsWith allows plays.header plays.past (played (read false plays.taken)) finish
    → GetsText status before after (transcript plays.past ++ closing_text (last_line (length plays.past) finish (filled_of result)))
    → IsStatus status (last_line (length plays.past) finish (filled_of result)) → Puts b after x → ReplaysInput allows left now before after ends ends' faults faults' status
replays allows left now before b after result ends ends' faults faults' plays tells x status finish ended wrote decided puts =
    let ran = plays.ran in
    record {
      filled = filled_of result;
      replays = record {
        taken = plays.taken;
        takes = ran.takes;
        few = ran.few;
        full = ran.full;
        nothing_left = ran.nothing_left;
        replays = record {
          header = plays.header;
          past = plays.past;
          finish = finish;
          stated = plays.stated;
          ends = ended;
          plays = plays.known.plays;
          held = plays.known.held;
          newest = plays.known.newest;
          safe = plays.known.safe;
          run = plays.known.run;
          wrote = wrote;
          decided = decided;
          pace = pace_out plays.past plays.taken before b after x ran.pace puts;
        };
      };
      ended = tells.ended;
      failed = tells.failed;
    }

-- what Closes says of writing the last line, as of all that was written
module _ (before b after : Option (List ℕ)) (text : List ℕ) (last : LastLine) (closing : Option LastLine) (is : Some last ≡ closing) (puts : Puts before b text) where
  said : (status : Status) → Puts b after (last_line_text last) × (status ≡ status_of last)
      → Puts before after (text ++ closing_text closing) × (status ≡ closing_status closing)
  said status c = (line_behind before b after text last closing is puts c.0, status_behind status last closing is c.1)

-- with its last line, or for want of memory without
module _ (allows : RankFacts → ℕ → Type 0) (left now before b : Option (List ℕ)) (ends ends' faults faults' : ℕ) where
  pub replays_fault : Plays allows left now before b [] playeds.WriteFault → Tells ends ends' faults faults' filleds.Open
      → ReplaysInput allows left now before b ends ends' faults faults' statuses.WriteFault
  replays_fault plays tells =
      replays allows left now before b b playeds.WriteFault ends ends' faults faults' plays tells [] statuses.WriteFault None plays.ends
      (subst (GetsPart before b) (sym (append-nil (transcript plays.past))) plays.ran.wrote) tt (puts_nothing b)

  pub replays_short : (result : Played) (plays : Plays allows left now before b [] result) → result ≢ playeds.WriteFault → Tells ends ends' faults faults' (filled_of result)
      → (after : Option (List ℕ)) → Puts b after [] → ReplaysInput allows left now before after ends ends' faults faults' statuses.Memory
  replays_short result plays others tells after nothing =
      let all = passes_all before b (transcript plays.past) (waits result plays.past before b [] others plays.ran.wrote) in
      replays allows left now before b after result ends ends' faults faults' plays tells [] statuses.Memory None
      (first_events allows plays.header plays.past (played (read false plays.taken)) (finish_of result) plays.ends)
      (front_of_more before after (transcript plays.past) [] (puts_more before b after (transcript plays.past) all nothing)) refl nothing

  module _ (count : ℕ) (finish : Finish) (filled : Filled) (plays : Plays allows left now before b [] (playeds.Ended count finish filled))
      (tells : Tells ends ends' faults faults' filled) (after : Option (List ℕ)) (last : LastLine) (is : Some last ≡ closing_of count finish filled) where
    closing : Some last ≡ closing_of (length plays.past) finish filled
    closing = is ∙ ap (λ n. closing_of n finish filled) plays.ran.counts

    all : Puts before b (transcript plays.past)
    all = passes_all before b (transcript plays.past) plays.ran.wrote

    with_line : (status : Status) (x : List ℕ) → Puts b after x → GetsText status before after (transcript plays.past ++ closing_text (closing_of (length plays.past) finish filled))
        → IsStatus status (closing_of (length plays.past) finish filled) → ReplaysInput allows left now before after ends ends' faults faults' status
    with_line status x puts wrote decided =
        replays allows left now before b after (playeds.Ended count finish filled) ends ends' faults faults' plays tells x status (Some finish) plays.ends wrote decided puts

    pub replays_closed : (status : Status) → Closes last b after status → ReplaysInput allows left now before after ends ends' faults faults' status
    replays_closed statuses.Done c = let s = said before b after (transcript plays.past) last _ closing all statuses.Done c in with_line statuses.Done _ c.0 s.0 s.1
    replays_closed statuses.Usage c = let s = said before b after (transcript plays.past) last _ closing all statuses.Usage c in with_line statuses.Usage _ c.0 s.0 s.1
    replays_closed statuses.BadInput c = let s = said before b after (transcript plays.past) last _ closing all statuses.BadInput c in with_line statuses.BadInput _ c.0 s.0 s.1
    replays_closed statuses.ReadFault c = let s = said before b after (transcript plays.past) last _ closing all statuses.ReadFault c in with_line statuses.ReadFault _ c.0 s.0 s.1
    replays_closed statuses.TooLarge c = let s = said before b after (transcript plays.past) last _ closing all statuses.TooLarge c in with_line statuses.TooLarge _ c.0 s.0 s.1
    replays_closed statuses.Differs c = let s = said before b after (transcript plays.past) last _ closing all statuses.Differs c in with_line statuses.Differs _ c.0 s.0 s.1
    replays_closed statuses.WriteFault c =
        with_line statuses.WriteFault c.front c.puts (part_behind before b after (transcript plays.past) last (closing_of (length plays.past) finish filled) closing all c) tt
    replays_closed statuses.Memory c = replays_short (playeds.Ended count finish filled) plays (λ same. cc) tells after c
