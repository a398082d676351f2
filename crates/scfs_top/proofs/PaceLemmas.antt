use Rattle.std.proofs.Common.{◌≡◌, ℕ, List, [], ◌∷◌, ◌++◌, false, refl, ap, ◌∙◌, sym, subst, ⊎_elim, Option, arith, append_assoc, append-nil}
use Rattle.scfs_base.specs.Outside.{Puts}
use Rattle.scfs_schedule.specs.declared.types.Header.{Header}
use Rattle.scfs_schedule.specs.Reading.{Read, Reading, gives, read, stopped, unfinished}
use Rattle.scfs_model.specs.History.{Entry, History, events_then, transcript}
use Rattle.scfs_top.specs.declared.closing.Finish.TheVariants as finishes
use Rattle.scfs_top.specs.Edges.{Passes}
use Rattle.scfs_top.specs.Giving.{InPieces, WaitedFor}
use Rattle.scfs_top.specs.Pace.{KeepsPace}
use Rattle.scfs_top.specs.Playing.{Playing, played}
use Rattle.scfs_top.proofs.EdgeLemmas.{passes_all, puts_nothing, puts_then}

-- before anything is read
pub pace_nothing : (a : Option (List ℕ)) → KeepsPace [] [] a a
pace_nothing a = record {
  early = [];
  piece = [];
  whole = refl;
  few = omega arith;
  done = [];
  later = [];
  first = refl;
  events = refl;
  goes_on = (1, refl);
  out = ([], puts_nothing a);
}

-- with more that is out
pub pace_out : (past : History) (taken : List ℕ) (a b c : Option (List ℕ)) (x : List ℕ) → KeepsPace past taken a b → Puts b c x → KeepsPace past taken a c
pace_out past taken a b c x p puts = record {
  early = p.early;
  piece = p.piece;
  whole = p.whole;
  few = p.few;
  done = p.done;
  later = p.later;
  first = p.first;
  events = p.events;
  goes_on = p.goes_on;
  out = (p.out.0 ++ x, subst (Puts a c) (append_assoc (transcript p.done) p.out.0 x) (puts_then a b c (transcript p.done ++ p.out.0) x p.out.1 puts));
}

-- with an event more
pub pace_event : (entry : Entry) (past : History) (taken : List ℕ) (a b : Option (List ℕ)) → KeepsPace past taken a b → KeepsPace (entry ∷ past) taken a b
pace_event entry past taken a b p = record {
  early = p.early;
  piece = p.piece;
  whole = p.whole;
  few = p.few;
  done = p.done;
  later = entry ∷ p.later;
  first = ap (λ (l : History). entry ∷ l) p.first;
  events = p.events;
  goes_on = p.goes_on;
  out = p.out;
}

-- what is played of a text that says a history's events and is not finished
abbrev pub unfinished_past : Option Header → History → ℕ → Playing
unfinished_past header past line = record { header = header; events = events_then past []; finish = finishes.Text (unfinished false line) }

-- a text was read of whose bytes a reader still gives what it gives with a front
pub record Fronts (front : Read → Read) (taken : List ℕ) (reader : Reading) (header : Option Header) (past : History) : Type 0 where
  pub says : (later : List ℕ) → read false (taken ++ later) ≡ front (gives reader later)
  pub unfinished : (line : ℕ) → played (front (stopped (unfinished false line))) ≡ unfinished_past header past line

pace_read : (front : Read → Read) (taken more : List ℕ) (reader : Reading) (header : Option Header) (past : History) (a b : Option (List ℕ)) →
    Fronts front taken reader header past → InPieces reader more → Puts a b (transcript past) → KeepsPace past (taken ++ more) a b
pace_read front taken more reader header past a b fronts i puts =
    let is = ap played (fronts.says i.early ∙ ap front i.nothing) ∙ fronts.unfinished i.line in
    record {
      early = taken ++ i.early;
      piece = i.piece;
      whole = ap (λ l. taken ++ l) i.whole ∙ sym (append_assoc taken i.early i.piece);
      few = i.few;
      done = past;
      later = [];
      first = refl;
      events = ap (λ (r : Playing). r.events) is;
      goes_on = (i.line, ap (λ (r : Playing). r.finish) is);
      out = ([], subst (Puts a b) (sym (append-nil (transcript past))) puts);
    }

-- with what is read for the next that the text gives
pub pace_next : (front : Read → Read) (taken more : List ℕ) (reader : Reading) (header : Option Header) (past : History) (a b c : Option (List ℕ)) (w w' : List ℕ) →
    Fronts front taken reader header past → KeepsPace past taken a b → Passes b c w w' [] → Passes a c [] w' (transcript past) → WaitedFor reader more w'
    → KeepsPace past (taken ++ more) a c
pace_next front taken more reader header past a b c w w' fronts pace passes wrote waited =
    ⊎_elim
    (λ none. subst (λ l. KeepsPace past l a c) (sym (ap (λ l. taken ++ l) none ∙ append-nil taken)) (pace_out past taken a b c passes.front pace passes.puts))
    (λ read_on. pace_read front taken more reader header past a c fronts read_on.1
    (passes_all a c (transcript past) (subst (λ l. Passes a c [] l (transcript past)) read_on.0 wrote)))
    waited
