-- What waits in a world that stands for a history is what waits after it.
use Rattle.std.proofs.Common.{◌≡◌, ℕ, ◌+◌, List, [], ◌∷◌, refl, ap, ◌∙◌, Bool}
use Rattle.std.specs.Prelude.{is_some, map}
use Rattle.scfs_schedule.specs.declared.types.Header.{Header}
use Rattle.scfs_net.specs.Queues.{NetState}
use Rattle.scfs_model.specs.History.{History}
use Rattle.scfs_model.specs.Layers.{Row}
use Rattle.scfs_model.specs.Runs.{actual}
use Rattle.scfs_model.specs.States.{Seat}
use Rattle.scfs_model.specs.UnitFormat.{under}
use Rattle.scfs_world.specs.Happening.{Stands}
use Rattle.scfs_world.specs.Shows.{ShowsSeat, Together, step_asked}
use Rattle.scfs_world.specs.State.{SeatState, WorldState}
use Rattle.scfs_live.specs.Waits.{AgentWaits, CloudWaits, Waits, are_some, waits_after, waits_at_cloud, waits_at_seat, waits_in, waits_of_seat}

some_of_map : {X Y : Type 0} (f : X → Y) (xs : List X) → are_some (map f xs) ≡ are_some xs
some_of_map f [] = refl
some_of_map f (x ∷ xs) = refl

some_together : {X Y : Type 0} (R : ℕ → X → Y → Type 0) (n : ℕ) (xs : List X) (ys : List Y) → Together R n xs ys → are_some xs ≡ are_some ys
some_together R n [] [] both = refl
some_together R n (x ∷ xs) (y ∷ ys) both = refl
some_together R n [] (y ∷ ys) both = absurd both
some_together R n (x ∷ xs) [] both = absurd both

abbrev waits_made : Bool → Bool → Bool → AgentWaits
waits_made step reply call = record { step = step; reply = reply; call = call }

same_seat : (header : Header) (a : ℕ) (seat : SeatState) (m : Seat Row) → ShowsSeat header a seat m → waits_of_seat seat ≡ waits_at_seat m
same_seat header a seat m shows =
    let call = is_some m.agent.waiting in
    ap (λ (agent : _). waits_made (are_some seat.asked) (are_some seat.replied) (is_some agent.waiting)) shows.agent
    ∙ ap (λ (b : Bool). waits_made b (are_some seat.replied) call) (ap are_some shows.asked ∙ some_of_map (step_asked header.lease) m.asked)
    ∙ ap (λ (b : Bool). waits_made (are_some m.asked) b call) (some_together _ 0 seat.replied m.replied shows.replied)

same_seats : (header : Header) (a : ℕ) (seats : List SeatState) (ms : List (Seat Row)) → Together (ShowsSeat header) a seats ms
    → map waits_of_seat seats ≡ map waits_at_seat ms
same_seats header a [] [] both = refl
same_seats header a (seat ∷ seats) (m ∷ ms) both =
    ap (λ (x : AgentWaits). x ∷ map waits_of_seat seats) (same_seat header a seat m both.0)
    ∙ ap (λ (xs : List AgentWaits). waits_at_seat m ∷ xs) (same_seats header (a + 1) seats ms both.1)
same_seats header a [] (m ∷ ms) both = absurd both
same_seats header a (seat ∷ seats) [] both = absurd both

abbrev both_made : List AgentWaits → List CloudWaits → Waits
both_made agents clouds = record { agents = agents; clouds = clouds }

pub waits_stand : (w : WorldState) (header : Header) (past : History) → Stands w header past → waits_in w ≡ waits_after (under header) past
waits_stand w header past stands =
    ap (λ (xs : List AgentWaits). both_made xs (map waits_at_cloud w.net.clouds))
    (same_seats w.header 0 w.seats (actual (under header) past).seats stands.shows.seats)
    ∙ ap (λ (n : NetState). both_made (map waits_at_seat (actual (under header) past).seats) (map waits_at_cloud n.clouds)) stands.clouds
