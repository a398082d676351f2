-- The world that a run leaves.
use Rattle.std.proofs.Common.{◌≡◌, ◌≢◌, ◌==◌, ℕ, List, Bool, true, false, cond, ◌∙◌, sym, subst, Option, Some, None}
use Rattle.std.specs.Prelude.{IfSome, IsSome}
use Rattle.scfs_base.specs.Limits.{events_limit}
use Rattle.scfs_policy.specs.declared.rank.RankFacts.{RankFacts}
use Rattle.scfs_schedule.specs.declared.types.Ending.TheVariants as endings
use Rattle.scfs_schedule.specs.declared.types.Event.{Event}
use Rattle.scfs_schedule.specs.declared.types.Header.{Header}
use Rattle.scfs_schedule.specs.Grammar.{IsHeader}
use Rattle.scfs_model.specs.History.{History}
use Rattle.scfs_model.specs.Runs.{actual}
use Rattle.scfs_model.specs.UnitFormat.{under}
use Rattle.scfs_world.specs.Built.{is_built}
use Rattle.scfs_world.specs.Shows.{Shows}
use Rattle.scfs_world.specs.State.{WorldState}
use Rattle.scfs_top.specs.declared.closing.Finish.{Finish}
use Rattle.scfs_top.specs.declared.closing.Finish.TheVariants as finishes
use Rattle.scfs_top.specs.declared.play.Played.{Played}
use Rattle.scfs_top.specs.declared.play.Playout.{Playout}
use Rattle.scfs_top.specs.Giving.{Tells}
use Rattle.scfs_top.specs.Playing.{finish_at}
use Rattle.scfs_top.specs.Plays.{Leaves, Plays, PlaysTo, filled_of, finish_of}

-- no world is kept, where the text was not played to its end
pub without : (allows : RankFacts → ℕ → Type 0) (left now before after : Option (List ℕ)) (w : List ℕ) (x : Playout) (result : Played)
    → x ≡ record { played = result; world = None } → finish_of result ≢ Some (finishes.Text endings.Ended)
    → Plays allows left now before after w result → PlaysTo allows left now before after w x
without allows left now before after w x result is others plays =
    subst (λ (y : Playout). PlaysTo allows left now before after w y) (sym is) (record { plays = plays; leaves = tt; whole = λ e. absurd (others e) })

by_tests : (built full : Bool) (line : ℕ) (finish : Finish) → cond built (cond full (Some finishes.Events) None) (Some (finishes.Unbuilt line)) ≡ Some finish
    → Some finish ≢ Some (finishes.Text endings.Ended)
by_tests true true line finish is end = let e = is ∙ end in cc
by_tests true false line finish is end = cc
by_tests false full line finish is end = let e = is ∙ end in cc

-- an event that ends what is played is not the text's end
pub finish_is_no_end : (line count : ℕ) (event : Event) (finish : Finish) → finish_at line count event ≡ Some finish → Some finish ≢ Some (finishes.Text endings.Ended)
finish_is_no_end line count event finish is = by_tests (is_built event) (count == events_limit) line finish is

-- a world that is left shows the state that the history leaves
pub left_shows : (world : Option WorldState) (header : Header) (past : History) → Leaves world header past → IfSome world (λ (w : WorldState). Shows w (actual (under header) past))
left_shows None header past leaves = tt
left_shows (Some w) header past leaves = leaves.0.shows

-- its header is one
pub left_header : (world : Option WorldState) (header : Header) (past : History) → Leaves world header past → IsSome world → IsHeader header
left_header None header past leaves some = cc
left_header (Some w) header past leaves some = leaves.1

-- playing that ended so, with the world that is left
pub played_so : (allows : RankFacts → ℕ → Type 0) (left now before after : Option (List ℕ)) (w : List ℕ) (x : Playout) (result : Played) → x.played ≡ result
    → PlaysTo allows left now before after w x → PlaysTo allows left now before after w (record { played = result; world = x.world })
played_so allows left now before after w x result is plays =
    subst (λ (r : Played). PlaysTo allows left now before after w (record { played = r; world = x.world })) is plays

-- and what reading tells of it
pub tells_so : (ends ends' faults faults' : ℕ) (x result : Played) → x ≡ result → Tells ends ends' faults faults' (filled_of x) → Tells ends ends' faults faults' (filled_of result)
tells_so ends ends' faults faults' x result is tells = subst (λ (r : Played). Tells ends ends' faults faults' (filled_of r)) is tells
