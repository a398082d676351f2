use Rattle.std.proofs.Common.{◌≡◌, ◌≤◌, ◌+◌, ◌≢◌, ℕ, List, [], ◌++◌, false, refl, ap, ◌∙◌, sym, subst, Bool, Option, IfSome, length, arith, append_assoc, append-nil, length-append}
use Rattle.scfs_base.specs.Outside.{Takes}
use Rattle.scfs_schedule.specs.Reading.{Reading, ending_now, gives, stopped, unfinished}
use Rattle.scfs_schedule.specs.declared.types.Ending.{Ending}
use Rattle.scfs_top.specs.declared.closing.Filled.TheVariants as filleds
use Rattle.scfs_top.specs.declared.intake.Given.{Given}
use Rattle.scfs_top.specs.declared.intake.Given.TheVariants as givens
use Rattle.scfs_top.specs.declared.intake.Intake.{Intake}
use Rattle.scfs_top.specs.Edges.{Fed}
use Rattle.scfs_top.specs.Giving.{Draws, GivesNext, InPieces, IsAwaiting, filled_by}
use Rattle.scfs_top.specs.Pace.{piece_limit}
use Rattle.scfs_top.proofs.EdgeLemmas.{takes_then}

pub fed_nothing : (a : Reading) → Fed a [] a
fed_nothing a = record { same = λ later. refl; to = λ h at. at; from = λ h at. at; lines = λ h at. refl }

pub fed_then : (a b c : Reading) (x y : List ℕ) → Fed a x b → Fed b y c → Fed a (x ++ y) c
fed_then a b c x y p q = record {
  same = λ later. ap (gives a) (append_assoc x y later) ∙ p.same (y ++ later) ∙ q.same later;
  to = λ h at. q.to h (p.to h at);
  from = λ h at. p.from h (q.from h at);
  lines = λ h at. q.lines h (p.to h at) ∙ p.lines h at;
}

-- what is given with further bytes was given with all of them
pub gives_since : (given : Given) (a b c : Reading) (x y : List ℕ) → Fed a x b → GivesNext given y b c → GivesNext given (x ++ y) a c
gives_since (givens.Header header) a b c x y p g =
    (g.0, g.1, λ h at. g.2 h (p.to h at), g.3, λ later. ap (gives a) (append_assoc x y later) ∙ p.same (y ++ later) ∙ g.4 later)
gives_since (givens.Event event) a b c x y p g =
    let at = p.from g.0 g.1 in
    (g.0, at, g.2, g.3, g.4 ∙ ap (λ n. n + 1) (p.lines g.0 at), λ later. ap (gives a) (append_assoc x y later) ∙ p.same (y ++ later) ∙ g.5 later)
gives_since (givens.Ended ending filled) a b c x y p g = p.same y ∙ g
gives_since givens.Memory a b c x y p g = tt

-- the same, with nothing more fed
pub fed_on : (a b c : Reading) (x : List ℕ) → Fed a x b → Fed b [] c → Fed a x c
fed_on a b c x p q = subst (λ l. Fed a l c) (append-nil x) (fed_then a b c x [] p q)

pub gives_on : (given : Given) (a b c : Reading) (x : List ℕ) → Fed a x b → GivesNext given [] b c → GivesNext given x a c
gives_on given a b c x p g = subst (λ l. GivesNext given l a c) (append-nil x) (gives_since given a b c x [] p g)

-- a reader that awaits bytes gives nothing of those that it was fed
awaits_nothing : (r : Reading) → IsAwaiting r → gives r [] ≡ stopped (unfinished false (r.lines + 1))
awaits_nothing r w =
    w.drained ∙ ap (λ (e : Option Ending). stopped (ending_now r e)) w.goes_on ∙ ap (λ (b : Bool). stopped (unfinished b (r.lines + 1))) w.within

gives_nothing : (a b : Reading) (x : List ℕ) → Fed a x b → IsAwaiting b → gives a x ≡ stopped (unfinished false (b.lines + 1))
gives_nothing a b x p w = ap (gives a) (sym (append-nil x)) ∙ p.same [] ∙ awaits_nothing b w

-- reading on so far: the bytes taken were fed and nothing was given, and so much room is left
pub record FedSoFar (left now : Option (List ℕ)) (old : Intake) (reader : Reading) (room : ℕ) : Type 0 where
  pub early : List ℕ
  pub takes : Takes left now early
  pub count : length early + room ≡ old.room
  pub fed : Fed old.reader early reader
  pub awaiting : IsAwaiting reader

-- a piece more, with which something is given
pub draws_on : (left now after : Option (List ℕ)) (old new : Intake) (b : Reading) (room : ℕ) (s : FedSoFar left now old b room) (given : Given) (piece : List ℕ)
    → Takes now after piece → length piece ≤ piece_limit → length piece ≤ room → GivesNext given piece b new.reader → (given ≢ givens.Memory → length piece + new.room ≡ room)
    → (filled_by given ≡ filleds.Full → length piece ≡ room) → (filled_by given ≡ filleds.End → IfSome after (λ rest. rest ≡ []))
    → (more : List ℕ) × Draws left after more old new given × InPieces old.reader more
draws_on left now after old new b room s given piece takes few fits next leaves full nothing_left =
    let both = length-append s.early piece in (
      s.early ++ piece,
      record {
        takes = takes_then left now after s.early piece s.takes takes;
        few = omega (arith, both, s.count, fits);
        next = gives_since given old.reader b new.reader s.early piece s.fed next;
        leaves = λ others. let l = leaves others in omega (arith, both, s.count, l);
        full = λ is. let l = full is in omega (arith, both, s.count, l);
        nothing_left = nothing_left;
      },
      record { early = s.early; piece = piece; whole = refl; few = few; line = b.lines + 1; nothing = gives_nothing old.reader b s.early s.fed s.awaiting },
    )

-- nothing more is read, and the text ends
pub draws_end : (left now after : Option (List ℕ)) (old new : Intake) (b : Reading) (room : ℕ) (s : FedSoFar left now old b room) (given : Given)
    → Takes now after [] → new.reader ≡ b → GivesNext given [] new.reader new.reader → new.room ≡ room
    → (filled_by given ≡ filleds.Full → room ≡ 0) → (filled_by given ≡ filleds.End → IfSome after (λ rest. rest ≡ []))
    → (more : List ℕ) × Draws left after more old new given × InPieces old.reader more
draws_end left now after old new b room s given takes same next count full nothing_left =
    draws_on left now after old new b room s given [] takes (omega arith) (omega arith) (subst (λ r. GivesNext given [] r new.reader) same next) (λ _. omega (arith, count))
    (λ is. sym (full is)) nothing_left
