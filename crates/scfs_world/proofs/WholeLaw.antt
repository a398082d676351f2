-- What a history leaves is whole.
use Rattle.std.proofs.Common.{◌≡◌, ℕ, suc, List, [], ◌∷◌, Bool, true, false, cond, refl, find, Some, slice_get, arith, ap, ◌∙◌}
use Rattle.std.proofs.lemmas.Bool.Decides.{nat_tests}
use Rattle.scfs_base.specs.declared.naming.RequestNo.{RequestNo}
use Rattle.scfs_anchor.specs.Tree.{Each}
use Rattle.scfs_model.specs.Names.{request_no, same_request}
use Rattle.scfs_model.specs.Layers.{Row, rows}
use Rattle.scfs_model.specs.Steps.{Step}
use Rattle.scfs_model.specs.Agents.{Request}
use Rattle.scfs_model.specs.States.{Seat}
use Rattle.scfs_model.specs.Runs.{actual}
use Rattle.scfs_model.specs.UnitFormat.{under}
use Rattle.scfs_laws.proofs.Lists.{each-map}
use Rattle.scfs_laws.proofs.NewestOpens.{state_ok, rows_keep}
use Rattle.scfs_agent.specs.Telling.{pending_step, is_numbered, outcome_step, IsIts}
use Rattle.scfs_world.specs.Happening.{StandingAreShown}
use Rattle.scfs_world.specs.Whole.{StatesAreWhole}
use Rattle.scfs_world.proofs.WholeSeats.{Agrees, SeatKept}
use Rattle.scfs_world.proofs.WholeStates.{kept_after}

same_number : (r q : RequestNo) → same_request r q ≡ true → r ≡ q
same_number r q same =
    let agents : r.agent ≡ q.agent = grind (arith, nat_tests) in
    let incarnations : r.incarnation ≡ q.incarnation = grind (arith, nat_tests) in
    let numbers : r.number ≡ q.number = grind (arith, nat_tests) in
    ap (λ a. request_no a r.incarnation r.number) agents ∙ ap (λ i. request_no q.agent i r.number) incarnations
    ∙ ap (request_no q.agent q.incarnation) numbers

its : (pending : List (Request Row)) (number : RequestNo) (step : Step Row) → Each (Agrees number step) pending
    → IsIts (pending_step pending number) step
its [] number step each = tt
its (x ∷ xs) number step each = by (same_request x.number number) (λ same. each.0 (same_number x.number number same)) (its xs number step each.1)
  where
    by : (b : Bool) → (b ≡ true → x.step ≡ step) → IsIts (find (is_numbered number) xs) step
        → IsIts (cond b (Some x) (find (is_numbered number) xs)) step
    by true here later = here refl
    by false here later = later

each_place : (P : Seat Row → Type 0) (seats : List (Seat Row)) → ((b : ℕ) (m : Seat Row) → slice_get seats b ≡ Some m → P m) → Each P seats
each_place P [] all = tt
each_place P (x ∷ xs) all = (all 0 x refl, each_place P xs (λ b m there. all (suc b) m there))

pub states_are_whole : StatesAreWhole
states_are_whole header past small happens =
    each_place _ (actual (under header) past).seats (λ b m there.
    let h : SeatKept b m = kept_after (under header) past b m there in
    record {
      fresh = ((state_ok (under header) rows rows_keep past small happens).seats b m there).new;
      own = each-map _ _ (λ y k. its m.agent.pending y.number (outcome_step y.outcome) k.1) m.replied h.replied;
    })

pub standing_worlds_are_shown : StandingAreShown
standing_worlds_are_shown w header past stands small happens = (actual (under header) past, stands.shows, states_are_whole header past small happens)
