-- Whatever comes to an agent that is up but a crash, it stays up, in its incarnation, and its steps are of that incarnation.
use Rattle.std.proofs.Common.{◌≡◌, ℕ, true, refl, sym, ◌∙◌}
use Rattle.scfs_model.specs.Format.{Setup}
use Rattle.scfs_model.specs.Given.{Given}
use Rattle.scfs_model.specs.Lives.{is_up}
use Rattle.scfs_model.specs.Agents.{Request, Agent, Input, Calls, Tells, Hears, Turns, Crashes, Starts, Reaction}
use Rattle.scfs_model.specs.Reactions.{reacted}
use Rattle.scfs_model.specs.Layers.{Row, rows}
use Rattle.scfs_laws.proofs.Lists.{Each, each-map, each-append}
use Rattle.scfs_laws.proofs.Moves.{Known, IsInput, any_reply, has_up, Moves, reacts}

module _ (s : Setup) (a : ℕ) where
  -- a request of this incarnation
  abbrev pub IsOf : (incarnation : ℕ) → Request Row → Type 0
  IsOf incarnation x = x.number.incarnation ≡ incarnation

  abbrev pub Stays : Agent Row → Reaction Row → Type 0
  Stays g r = (is_up r.agent.life ≡ true) × (r.agent.incarnation ≡ g.incarnation) × Each (IsOf g.incarnation) r.steps

  abbrev StaysUp : Agent Row → Reaction Row → Type 0
  StaysUp g r = is_up g.life ≡ true → Stays g r

  -- no crash and no start
  abbrev usual : Known Row
  usual =
      record {
        call = λ call. Unit {0};
        sight = λ request sight. Unit {0};
        answer = λ c request answer. Unit {0};
        turn = Unit {0};
        crash = ⊥;
        start = ⊥;
        takes = Unit {0};
      }

  abbrev pub IsUsual : Input Row → Type 0
  IsUsual (Calls call) = Unit {0}
  IsUsual (Tells request o) = Unit {0}
  IsUsual (Hears c request answer) = Unit {0}
  IsUsual Turns = Unit {0}
  IsUsual Crashes = ⊥
  IsUsual Starts = ⊥

  moves : (given : Given) → Moves s rows a usual given StaysUp
  moves given =
      record {
        still = λ g up. (up, refl, tt);
        follow = λ g first second order h k up.
            let l : Stays g first = h up in
            let n : Stays first.agent second = k l.0 in
            (n.0, n.1 ∙ l.1, each-append _ first.steps second.steps l.2 (each-map _ _ (λ x e. e ∙ l.1) second.steps n.2));
        aside = λ g life leases tallies opens same up. (same ∙ up, refl, tt);
        told = λ g request up. (up, refl, tt);
        frees = λ g takes up. (up, refl, tt);
        says_plain = λ g x plain up. (up, refl, tt);
        asks = λ g x up. (up, refl, (refl, tt));
        steps = λ g step common up. (up, refl, (refl, tt));
        makes = λ g path names k up. (up, refl, (refl, tt));
        reads = λ g h offset count bytes k ok up. (up, refl, tt);
        writes = λ g h offset new y k ok up. (up, refl, tt);
        truncates = λ g h size y k ok up. (up, refl, tt);
        ends = λ g h k up. (up, refl, tt);
        closes = λ g h y k found up. (up, refl, tt);
        sees_empty = λ g request h writes sight k is up. (up, refl, tt);
        sees_version = λ g request h writes sight v k is up. (up, refl, tt);
        turns_open = λ g o up. (up, refl, tt);
        hears_open = λ g o c request answer takes k awaited up. (up, refl, tt);
        gets = λ g o clouds up. (up, refl, tt);
        loses = λ g o up. (up, refl, tt);
        shows = λ g o bytes all up. (up, refl, tt);
        turns_upload = λ g x u up. (up, refl, tt);
        hears_upload = λ g x u c request answer k new few up. (up, refl, tt);
        puts = λ g x u clouds k below up. (up, refl, tt);
        commits = λ g x u c request answer k new just up. (up, refl, (refl, tt));
        drops = λ g x why up. (up, refl, tt);
        downs = λ g up k. absurd k;
        ups = λ g up k. absurd k;
      }

  -- whatever this comes to
  module _ (g : Agent Row) (up : is_up g.life ≡ true) (given : Given) where
    whole : (input : Input Row) → has_up input ≡ true → IsInput usual input → Stays g (reacted s rows a g given input)
    whole input ups k = reacts s rows a usual given StaysUp (moves given) (λ g x up. (up, refl, tt)) tt g input (up ∙ sym ups) k up

    pub reacted_stays : (input : Input Row) → IsUsual input → Stays g (reacted s rows a g given input)
    reacted_stays (Calls call) k = whole (Calls call) refl tt
    reacted_stays (Tells request o) k = whole (Tells request o) refl (any_reply usual (λ request sight. tt) request o)
    reacted_stays (Hears c request answer) k = whole (Hears c request answer) refl tt
    reacted_stays Turns k = whole Turns refl tt
    reacted_stays Crashes k = absurd k
    reacted_stays Starts k = absurd k
