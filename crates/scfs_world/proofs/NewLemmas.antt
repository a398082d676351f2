-- The world before its first event.
use Rattle.std.proofs.Common.{◌≡◌, ℕ, zero, suc, ◌+◌, ◌*◌, List, [], ◌∷◌, ◌++◌, map, length, replicate, refl, ap, sym, subst, ◌∙◌, arith, All, add-one}
use Rattle.std.proofs.lemmas.List.{length-replicate}
use Rattle.std.specs.List.{range_with_len}
use Rattle.std.proofs.lemmas.List.FromFn.{length-map-range_with_len}
use Rattle.std.proofs.lemmas.List.Elements.{All-nil, All-cons}
use Rattle.scfs_schedule.specs.Grammar.{IsHeader}
use Rattle.scfs_schedule.specs.declared.types.Header.{Header}
use Rattle.scfs_tuples.specs.Steps.{IsStep}
use Rattle.scfs_tuples.specs.declared.types.Tuple.{Tuple}
use Rattle.scfs_net.specs.Queues.{NetState, new_net, new_cloud}
use Rattle.scfs_anchor.proofs.HoldLemmas.{empty_holds}
use Rattle.scfs_model.specs.Agents.{first_agent}
use Rattle.scfs_model.specs.Lists.{below}
use Rattle.scfs_model.specs.States.{first_seat}
use Rattle.scfs_model.specs.UnitFormat.{under}
use Rattle.scfs_world.specs.Happening.{Stands}
use Rattle.scfs_world.specs.Shows.{Together, ShowsSeat}
use Rattle.scfs_world.specs.State.{SeatState, WorldState}
use Rattle.scfs_world.specs.Stepping.{IsSeat, IsWorld}
use Rattle.scfs_world.specs.declared.seat.StepAsked.{StepAsked}

-- the seat of an agent that was not given anything
abbrev pub new_seat : Header → (a : ℕ) → SeatState
new_seat header a = record { agent = record { header = header; no = a; inputs = 0; agent = first_agent (under header) }; asked = []; replied = [] }

abbrev pub new_seats : Header → (n : ℕ) → List SeatState
new_seats header n = map (new_seat header) (below n)

seats_more : (header : Header) (first n : ℕ)
    → map (new_seat header) (range_with_len first (suc n)) ≡ map (new_seat header) (range_with_len first n) ++ new_seat header (first + n) ∷ []
seats_more header first zero = ap (λ a. new_seat header a ∷ []) (omega arith)
seats_more header first (suc n) =
    ap (λ xs. new_seat header first ∷ xs) (seats_more header (first + 1) n)
    ∙ ap (λ a. new_seat header first ∷ (map (new_seat header) (range_with_len (first + 1) n) ++ new_seat header a ∷ [])) (omega arith)

pub one_more : (header : Header) (n : ℕ) → new_seats header (n + 1) ≡ new_seats header n ++ new_seat header n ∷ []
one_more header n = rw add-one (seats_more header 0 n ∙ ap (λ a. new_seats header n ++ new_seat header a ∷ []) (omega arith))

first_seats : (header : Header) (first n : ℕ)
    → Together (ShowsSeat header) first (map (new_seat header) (range_with_len first n)) (replicate n (first_seat (under header)))
first_seats header first zero = tt
first_seats header first (suc n) = (
  record { by_header = refl; no = refl; agent = refl; asked = refl; served = tt; replied = tt },
  first_seats header (first + 1) n,
)

module _ (header : Header) (space : List Tuple) (seats : List SeatState) (net : NetState) (none : space ≡ [])
    (all : seats ≡ new_seats header (length header.agents)) (clouds : net ≡ new_net header.f) where
  abbrev pub First : List Tuple → List SeatState → NetState → WorldState
  First ts ss n = record { header = header; clock = 0; events = 0; space = ts; seats = ss; net = n }

  -- what holds of the world with no tuples, new seats and new clouds holds of it
  first_is : (P : WorldState → Type 0) → P (First [] (new_seats header (length header.agents)) (new_net header.f)) → P (First space seats net)
  first_is P h =
      subst (λ ts. P (First ts seats net)) (sym none)
      (subst (λ ss. P (First [] ss net)) (sym all) (subst (λ n. P (First [] (new_seats header (length header.agents)) n)) (sym clouds) h))

  pub new_stands : Stands (First space seats net) header []
  new_stands =
      first_is (λ w. Stands w header [])
      (record {
        by_header = refl;
        count = refl;
        shows = record { clock = refl; space = empty_holds 0; seats = first_seats header 0 (length header.agents) };
        clouds = refl;
      })

  pub new_world : IsHeader header → IsWorld (First space seats net)
  new_world fits =
      first_is IsWorld
      (record {
        header = fits;
        clock = omega arith;
        seats = length-map-range_with_len (new_seat header) 0 (length header.agents);
        clouds = length-replicate (3 * header.f + 1) new_cloud;
        carried = omega arith;
        each = all_new 0 (length header.agents);
      })
    where
      all_new : (first n : ℕ) → All (IsSeat 0) (map (new_seat header) (range_with_len first n))
      all_new first zero = All-nil (IsSeat 0)
      all_new first (suc n) =
          All-cons (IsSeat 0) (new_seat header first) (map (new_seat header) (range_with_len (first + 1) n))
          (record { inputs = omega arith; steps = All-nil (λ (x : StepAsked). IsStep x.step) }) (all_new (first + 1) n)
