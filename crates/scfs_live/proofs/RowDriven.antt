-- Runs of a script, computed from the definitions: what comes next, and the events that this makes.
use Rattle.std.specs.Prelude.{◌≡◌, ℕ, List, [], ◌∷◌, codes, drop, length, replicate, Option, Some, None, refl, zero, suc}
use Rattle.scfs_base.specs.Words.{hex_pair}
use Rattle.scfs_base.specs.declared.cloud.CloudAnswer.{CloudAnswer}
use Rattle.scfs_base.specs.declared.cloud.CloudAnswer.TheVariants as answers
use Rattle.scfs_schedule.specs.declared.types.Event.{Event}
use Rattle.scfs_schedule.specs.declared.types.Event.TheVariants as events
use Rattle.scfs_schedule.specs.declared.types.Call.TheVariants as calls
use Rattle.scfs_model.specs.Format.{Setup}
use Rattle.scfs_model.specs.History.{History, events_then}
use Rattle.scfs_model.proofs.ShortFormat.{setup}
use Rattle.scfs_model.proofs.Played.{entry_of}
use Rattle.scfs_live.specs.declared.driver.Next.{Next}
use Rattle.scfs_live.specs.declared.driver.Next.TheVariants.{Does, Hears}
use Rattle.scfs_live.specs.Driven.{Live, first_live, next, next_event, IsDriven, IsWhole}
use Rattle.scfs_live.specs.Waits.{waits_after}

-- on from what comes next, where the answers of real clouds come in this order; where none is left the run stops
abbrev hear : (c : ℕ) → List CloudAnswer → History → (List CloudAnswer → Event → History) → History
hear c [] past on = past
hear c (answer ∷ heard) past on = on heard (events.Say c answer)

abbrev go_on : Next → List CloudAnswer → History → (List CloudAnswer → Event → History) → History
go_on (Does event) heard past on = on heard event
go_on (Hears c) heard past on = hear c heard past on

abbrev from_next : Option (Next × Live) → List CloudAnswer → History → (Live → List CloudAnswer → Event → History) → History
from_next None heard past on = past
from_next (Some x) heard past on = go_on x.0 heard past (on x.1)

-- at most so many events of a run, each with the lines that the definitions make of it
abbrev driven : Setup → (most : ℕ) → List CloudAnswer → Live → History → History
driven s zero heard live past = past
driven s (suc most) heard live past =
    from_next (next s (waits_after s past) live) heard past (λ after left event. driven s most left after (entry_of s past event ∷ past))

-- a file of two bytes is made and closed
abbrev script : List Event
script =
    events.Call 0 (calls.Create (codes "/a")) ∷ events.Call 0 (calls.OpenW (codes "/a")) ∷ events.Call 0 (calls.Write 1 0 (codes "hi"))
    ∷ events.Call 0 (calls.Close 1) ∷ []

-- and cloud 2 fails once
abbrev run : History
run =
    driven (setup 1 1) 100 (answers.Ack ∷ answers.Ack ∷ answers.Fail ∷ answers.Ack ∷ []) (first_live (setup 1 1) script) []

abbrev run_events : List Event
run_events =
    events.Call 0 (calls.Create (codes "/a")) ∷ events.Space 0 ∷ events.Told 0 ∷ events.Call 0 (calls.OpenW (codes "/a")) ∷ events.Space 0
    ∷ events.Told 0 ∷ events.Call 0 (calls.Write 1 0 (codes "hi")) ∷ events.Call 0 (calls.Close 1)
    ∷ events.Say 0 answers.Ack ∷ events.Give 0 ∷ events.Say 1 answers.Ack ∷ events.Give 1 ∷ events.Say 2 answers.Fail ∷ events.Give 2
    ∷ events.Say 3 answers.Ack ∷ events.Give 3 ∷ events.Space 0 ∷ events.Told 0 ∷ []

run_has : events_then run [] ≡ run_events
unfolding hex_pair
run_has = refl

run_is_whole : IsWhole (setup 1 1) script run []
unfolding hex_pair
run_is_whole = refl

run_is_driven : IsDriven (setup 1 1) script run []
unfolding hex_pair
run_is_driven = (refl, (refl, (refl, (refl, (refl, (refl, (refl, (refl, (refl, (refl, (refl, (refl, (refl, (refl, (refl, (refl, (refl, (refl, tt))))))))))))))))))

-- clouds that all fail: after eight turns the close is answered, and the unlock step that it asked is served
all_fail : length (driven (setup 1 1) 200 (replicate 100 answers.Fail) (first_live (setup 1 1) script) []) ≡ 82
unfolding hex_pair
all_fail = refl

-- the first three events are an old history; the rest of the script goes on to the same events
abbrev gone_on : History
gone_on =
    driven (setup 1 1) 100 (answers.Ack ∷ answers.Ack ∷ answers.Fail ∷ answers.Ack ∷ []) (first_live (setup 1 1) (drop 1 script)) (drop 15 run)

gone_on_has : events_then gone_on [] ≡ run_events
unfolding hex_pair
gone_on_has = refl

-- an old history that stops after a step was served: its reply is told first
told_first : next_event (setup 1 1) (drop 1 script) [] (drop 16 run) answers.Fail ≡ Some (events.Told 0)
unfolding hex_pair
told_first = refl

-- one that stops after a cloud was asked: its answer is given first
given_first : next_event (setup 1 1) [] [] (drop 9 run) answers.Fail ≡ Some (events.Give 0)
unfolding hex_pair
given_first = refl
