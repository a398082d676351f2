-- A drive so far, and one event more.
use Rattle.std.proofs.Common.{arith, ◌≤◌, ◌≡◌, ℕ, List, [], ◌∷◌, ◌++◌, refl, inl, inr, sym, subst, Option, Some, None, Result, Ok, Err, length}
use Rattle.scfs_base.specs.Limits.{events_limit}
use Rattle.scfs_base.specs.declared.cloud.CloudAnswer.{CloudAnswer}
use Rattle.scfs_base.specs.declared.cloud.CloudAnswer.TheVariants as answers
use Rattle.scfs_base.specs.declared.outside.Memory.{Memory}
use Rattle.scfs_policy.specs.declared.rank.RankFacts.{RankFacts}
use Rattle.scfs_schedule.specs.Grammar.{IsScriptEvent}
use Rattle.scfs_schedule.specs.declared.types.Event.{Event}
use Rattle.scfs_schedule.specs.declared.types.Header.{Header}
use Rattle.scfs_schedule.specs.declared.types.Which.TheVariants as whiches
use Rattle.scfs_model.specs.Clouds.{net}
use Rattle.scfs_model.specs.History.{Entry, History}
use Rattle.scfs_model.specs.UnitFormat.{under}
use Rattle.scfs_world.specs.Happening.{IsPlayed, Stands}
use Rattle.scfs_world.specs.State.{WorldState}
use Rattle.scfs_live.specs.Asked.{AreAsked, Told}
use Rattle.scfs_live.specs.Driven.{ComesNext, IsDueIn, answer_in}
use Rattle.scfs_live.specs.Drives.{Drove, Ends, Going}
use Rattle.scfs_live.specs.Driving.{Driver, begins_with, begun, event_of, next_within}
use Rattle.scfs_live.specs.Hearing.{Heard, IsHeard}
use Rattle.scfs_live.specs.Journal.{entry_lines, entry_piece, lines_of, pieces_of}
use Rattle.scfs_live.specs.Recording.{WroteAll}
use Rattle.scfs_live.specs.Stopping.{AskedNext}
use Rattle.scfs_live.specs.Stores.{IsLiveEvent}
use Rattle.scfs_live.specs.Turning.{Advanced, Played, Turned, WroteNothing}
use Rattle.scfs_live.specs.Waits.{waits_after}
use Rattle.scfs_live.specs.declared.driver.Next.{Next}
use Rattle.scfs_live.specs.declared.driver.Next.TheVariants.{Does, Hears}
use Rattle.scfs_live.specs.declared.ending.LiveEnd.{LiveEnd}
use Rattle.scfs_live.specs.declared.ending.LiveEnd.TheVariants as ends
use Rattle.scfs_live.proofs.AdvanceLemmas.{advanced_by}
use Rattle.scfs_live.proofs.AllAsked.{all_asked_quiet, all_asked_there, are_asked_none, are_asked_then}
use Rattle.scfs_live.proofs.EdgeLemmas.{puts_more, puts_nothing, puts_then}
use Rattle.scfs_live.proofs.FitsLemmas.{IsQuietNext, script_quiet}
use Rattle.scfs_live.proofs.StoreLemmas.{IsQuiet}
use Rattle.scfs_live.proofs.WaitingLemmas.{quiet_live}

pub wrote_none : (j o : Option (List ℕ)) (past : History) → WroteAll j j o o [] past
wrote_none j o past = record { journal = puts_nothing j; out = puts_nothing o }

wrote_no_more : (j j1 j2 o o1 o2 : Option (List ℕ)) (new past : History) → WroteAll j j1 o o1 new past → WroteNothing j1 j2 o1 o2 → WroteAll j j2 o o2 new past
wrote_no_more j j1 j2 o o1 o2 new past all none = record {
  journal = puts_more j j1 j2 (pieces_of new past) all.journal none.journal;
  out = puts_more o o1 o2 (lines_of new past) all.out none.out;
}

module _ (allows : RankFacts → ℕ → Type 0) (header : Header) (given : Option Event) (past : History) where
  -- nothing was done yet
  pub drove_none : IsPlayed allows header past → length past ≤ events_limit → Drove allows header (begins_with (under header) given) [] past (begins_with (under header) given)
  drove_none plays few = record { plays = plays; driven = refl; live = tt; few = few }

  pub going_none : (world : WorldState) (j o : Option (List ℕ)) (clouds : List Told) → Stands world header past → IsPlayed allows header past
      → length past ≤ events_limit → Going allows header given past world (begins_with (under header) given) j j o o clouds clouds
  going_none world j o clouds stands plays few = record {
    new = [];
    drove = drove_none plays few;
    stands = stands;
    wrote = wrote_none j o past;
    asked = are_asked_none (under header) past clouds;
  }

  module _ (new : History) (driver after : Driver) (next : Next) (drove : Drove allows header (begins_with (under header) given) new past driver)
      (due : next_within (under header) (waits_after (under header) (new ++ past)) driver ≡ Some (next, after)) (quiet : IsQuietNext next)
      (j j1 j2 o o1 o2 : Option (List ℕ)) (wrote : WroteAll j j1 o o1 new past)
      (before mid now : List Told) (asked : AreAsked (under header) new past before mid) where
    -- what was asked for it, where an event records that
    asked_for : (n : Next) (e : Entry) → IsQuietNext n → e.event ≡ event_of n (answer_in e.event)
        → Heard n (net (under header) (new ++ past)) (Ok (answer_in e.event)) mid now → AreAsked (under header) (e ∷ []) (new ++ past) mid now
    asked_for (Does event) e still is heard =
        subst (λ (l : List Told). AreAsked (under header) (e ∷ []) (new ++ past) mid l) (sym heard)
        (all_asked_quiet (under header) (new ++ past) e mid (subst IsQuiet (sym is) still))
    asked_for (Hears c) e still is heard = all_asked_there (under header) (new ++ past) e mid c (answer_in e.event) is now heard

    live_for : (n : Next) (event : Event) → IsQuietNext n → event ≡ event_of n (answer_in event) → IsLiveEvent event
    live_for (Does given) event still is = subst IsLiveEvent (sym is) (quiet_live given still)
    live_for (Hears c) event still is = subst IsLiveEvent (sym is) tt

    -- and where none does
    asked_besides : (result : Result CloudAnswer Memory) → Heard next (net (under header) (new ++ past)) result mid now
        → AskedNext (under header) new past next result before now
    asked_besides result heard = record { between = mid; recorded = asked; heard = heard }

    is_due : IsDueIn (under header) driver (new ++ past) next
    is_due = (after, due)

    abbrev It : Event → Type 0
    It event = IsHeard next header (new ++ past) mid now event

    comes : (event : Event) → It event → ComesNext (under header) driver (new ++ past) event after
    comes event it = record { next = next; due = due; is = it.is }

    drove_next : (e : Entry) → Played allows header (new ++ past) It e → Drove allows header (begins_with (under header) given) (e ∷ new) past after
    drove_next e played = record {
      plays = played.plays;
      driven = (driver, drove.driven, comes e.event played.it);
      live = (live_for next e.event quiet played.it.is, drove.live);
      few = omega (arith, played.few);
    }

    asked_next : (e : Entry) → It e.event → AreAsked (under header) (e ∷ new) past before now
    asked_next e it = are_asked_then (under header) new past before mid now asked (e ∷ []) (asked_for next e quiet it.is it.heard)

    pub went_on : (world : WorldState) → Advanced allows header (new ++ past) next mid now j1 j2 o1 o2 (Ok world)
        → Going allows header given past world after j j2 o o2 before now
    went_on world (e, played, stands, piece, lines) = record {
      new = e ∷ new;
      drove = drove_next e played;
      stands = stands;
      wrote = record {
        journal = puts_then j j1 j2 (pieces_of new past) (entry_piece (new ++ past) e) wrote.journal piece;
        out = puts_then o o1 o2 (lines_of new past) (entry_lines (new ++ past) e) wrote.out lines;
      };
      asked = asked_next e played.it;
    }

    pub came_to : (end : LiveEnd) → Advanced allows header (new ++ past) next mid now j1 j2 o1 o2 (Err end)
        → Ends allows end header given past j j2 o o2 before now
    came_to (ends.WriteFault whiches.Journal) (e, played, piece, lines) = record {
      new = e ∷ new;
      after = after;
      drove = drove_next e played;
      wrote = (record { between = j1; all = wrote.journal; part = piece }, puts_more o o1 o2 (lines_of new past) wrote.out lines);
      stops = asked_next e played.it;
    }
    came_to (ends.WriteFault whiches.Out) (e, played, piece, lines) = record {
      new = e ∷ new;
      after = after;
      drove = drove_next e played;
      wrote = (
        puts_then j j1 j2 (pieces_of new past) (entry_piece (new ++ past) e) wrote.journal piece,
        record { between = o1; all = wrote.out; part = lines },
      );
      stops = asked_next e played.it;
    }
    came_to (ends.TooLarge whiches.Events) (full, same, none) = record {
      new = new;
      after = driver;
      drove = drove;
      wrote = wrote_no_more j j1 j2 o o1 o2 new past wrote none;
      stops = (full, (next, is_due), subst (λ (l : List Told). AreAsked (under header) new past before l) (sym same) asked);
    }
    came_to (ends.TooLarge whiches.Objects) (event, it, large, none) = record {
      new = new;
      after = driver;
      drove = drove;
      wrote = wrote_no_more j j1 j2 o o1 o2 new past wrote none;
      stops = record { next = next; due = is_due; event = event; is = it.is; asked = asked_besides (Ok (answer_in event)) it.heard; large = large };
    }
    came_to ends.Memory (result, heard, none) = record {
      new = new;
      after = driver;
      drove = drove;
      wrote = wrote_no_more j j1 j2 o o1 o2 new past wrote none;
      stops = inr (next, result, is_due, asked_besides result heard);
    }
    came_to end advanced = absurd advanced

-- the event that was given comes first
module _ (allows : RankFacts → ℕ → Type 0) (header : Header) (past : History) (event : Event) (script : IsScriptEvent event)
    (plays : IsPlayed allows header past) (j j' o o' : Option (List ℕ)) (clouds : List Told) where
  abbrev before_it : Driver
  before_it = begins_with (under header) (Some event)

  abbrev behind_it : Driver
  behind_it = begun (under header) event

  first_advanced : (result : Result WorldState LiveEnd) → Turned allows header past (λ given. given ≡ event) j j' o o' result
      → Advanced allows header past (Does event) clouds clouds j j' o o' result
  first_advanced result turned = advanced_by allows header past (Does event) clouds clouds event (record { is = refl; heard = refl }) j j' o o' result turned

  pub first_on : (world : WorldState) (driver : Driver) → driver ≡ behind_it → Turned allows header past (λ given. given ≡ event) j j' o o' (Ok world)
      → Going allows header (Some event) past world driver j j' o o' clouds clouds
  first_on world driver same turned =
      subst (λ (d : Driver). Going allows header (Some event) past world d j j' o o' clouds clouds) (sym same)
      (went_on allows header (Some event) past [] before_it behind_it (Does event)
      (drove_none allows header (Some event) past plays (omega (arith, turned.1.few))) refl
      (script_quiet event script) j j j' o o o' (wrote_none j o past) clouds clouds clouds (are_asked_none (under header) past clouds) world
      (first_advanced (Ok world) turned))

  first_came_to : length past ≤ events_limit → (end : LiveEnd) → Advanced allows header past (Does event) clouds clouds j j' o o' (Err end)
      → Ends allows end header (Some event) past j j' o o' clouds clouds
  first_came_to few end advanced =
      came_to allows header (Some event) past [] before_it behind_it (Does event) (drove_none allows header (Some event) past plays few) refl
      (script_quiet event script) j j j' o o o' (wrote_none j o past) clouds clouds clouds (are_asked_none (under header) past clouds) end advanced

  pub first_ended : length past ≤ events_limit → (end : LiveEnd) → Turned allows header past (λ given. given ≡ event) j j' o o' (Err end)
      → Ends allows end header (Some event) past j j' o o' clouds clouds
  first_ended few end turned = first_came_to few end (first_advanced (Err end) turned)

  pub first_full : length past ≡ events_limit → WroteNothing j j' o o' → Ends allows (ends.TooLarge whiches.Events) header (Some event) past j j' o o' clouds clouds
  first_full full none = first_came_to (omega (arith, full)) (ends.TooLarge whiches.Events) (full, refl, none)

  pub first_wanting : length past ≤ events_limit → WroteNothing j j' o o' → Ends allows ends.Memory header (Some event) past j j' o o' clouds clouds
  first_wanting few none = first_came_to few ends.Memory (Ok answers.Fail, refl, none)

-- where none was given, memory was wanting
pub none_wanting : (allows : RankFacts → ℕ → Type 0) (header : Header) (past : History) (plays : IsPlayed allows header past) (j o : Option (List ℕ))
    (clouds : List Told) → length past ≤ events_limit → Ends allows ends.Memory header None past j j o o clouds clouds
none_wanting allows header past plays j o clouds few = record {
  new = [];
  after = begins_with (under header) None;
  drove = drove_none allows header None past plays few;
  wrote = wrote_none j o past;
  stops = inl (are_asked_none (under header) past clouds);
}
