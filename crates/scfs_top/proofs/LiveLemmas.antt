-- What drives write and what they ask, one after another.
use Rattle.std.proofs.Common.{◌≡◌, ◌≤◌, inl, inr, ⊎_elim, ℕ, List, [], ◌∷◌, ◌++◌, Option, Result, Ok, ap, ◌∙◌, sym, subst, append_assoc, append-nil, arith, length}
use Rattle.scfs_base.specs.Limits.{events_limit}
use Rattle.scfs_base.specs.Outside.{Puts, Rose}
use Rattle.scfs_base.specs.declared.cloud.CloudAnswer.{CloudAnswer}
use Rattle.scfs_base.specs.declared.outside.Memory.{Memory}
use Rattle.scfs_policy.specs.declared.rank.RankFacts.{RankFacts}
use Rattle.scfs_schedule.specs.declared.types.Header.{Header}
use Rattle.scfs_schedule.specs.declared.types.Which.TheVariants as whichs
use Rattle.scfs_model.specs.Clouds.{net}
use Rattle.scfs_model.specs.Format.{Setup}
use Rattle.scfs_model.specs.History.{History}
use Rattle.scfs_model.specs.UnitFormat.{under}
use Rattle.scfs_live.specs.Asked.{AreAsked, Told}
use Rattle.scfs_live.specs.Driven.{answer_in}
use Rattle.scfs_live.specs.Edges.{GetsPart}
use Rattle.scfs_live.specs.Hearing.{Heard}
use Rattle.scfs_live.specs.Journal.{entry_lines, entry_piece, lines_of, pieces_of}
use Rattle.scfs_live.specs.Recording.{ShowedPart, WroteAll, WrotePart}
use Rattle.scfs_live.specs.Stopping.{AskedNext, StopWrites, Stops}
use Rattle.scfs_live.specs.Stores.{AreLive}
use Rattle.scfs_live.specs.TooLarge.{IsTooLargeNext}
use Rattle.scfs_live.specs.declared.driver.Next.{Next}
use Rattle.scfs_live.specs.declared.ending.LiveEnd.{LiveEnd}
use Rattle.scfs_live.specs.declared.ending.LiveEnd.TheVariants as lives
use Rattle.scfs_live.proofs.AllAsked.{are_asked_then}
use Rattle.scfs_live.proofs.EdgeLemmas.{puts_then}

-- the pieces and lines of new events behind others
pieces_then : (more new old : History) → pieces_of new old ++ pieces_of more (new ++ old) ≡ pieces_of (more ++ new) old
pieces_then [] new old = append-nil (pieces_of new old)
pieces_then (e ∷ more) new old =
    sym (append_assoc (pieces_of new old) (pieces_of more (new ++ old)) (entry_piece (more ++ (new ++ old)) e))
    ∙ ap (λ l. l ++ entry_piece (more ++ (new ++ old)) e) (pieces_then more new old)
    ∙ ap (λ (h : History). pieces_of (more ++ new) old ++ entry_piece h e) (sym (append_assoc more new old))

lines_then : (more new old : History) → lines_of new old ++ lines_of more (new ++ old) ≡ lines_of (more ++ new) old
lines_then [] new old = append-nil (lines_of new old)
lines_then (e ∷ more) new old =
    sym (append_assoc (lines_of new old) (lines_of more (new ++ old)) (entry_lines (more ++ (new ++ old)) e))
    ∙ ap (λ l. l ++ entry_lines (more ++ (new ++ old)) e) (lines_then more new old)
    ∙ ap (λ (h : History). lines_of (more ++ new) old ++ entry_lines h e) (sym (append_assoc more new old))

module _ (j j1 j2 o o1 o2 : Option (List ℕ)) (new old : History) (before : WroteAll j j1 o o1 new old) where
  shown : (more : History) (k : Option (List ℕ)) → Puts o1 k (lines_of more (new ++ old)) → Puts o k (lines_of (more ++ new) old)
  shown more k puts = subst (λ l. Puts o k l) (lines_then more new old) (puts_then o o1 k (lines_of new old) (lines_of more (new ++ old)) before.out puts)

  recorded : (more : History) (k : Option (List ℕ)) → Puts j1 k (pieces_of more (new ++ old)) → Puts j k (pieces_of (more ++ new) old)
  recorded more k puts =
      subst (λ l. Puts j k l) (pieces_then more new old) (puts_then j j1 k (pieces_of new old) (pieces_of more (new ++ old)) before.journal puts)

  -- all of it was written
  pub wrote_then : (more : History) → WroteAll j1 j2 o1 o2 more (new ++ old) → WroteAll j j2 o o2 (more ++ new) old
  wrote_then more wrote = record { journal = recorded more j2 wrote.journal; out = shown more o2 wrote.out }

  part_then : (more : History) → WrotePart j1 j2 o1 o2 more (new ++ old) → WrotePart j j2 o o2 (more ++ new) old
  part_then [] wrote = absurd wrote
  part_then (e ∷ more) wrote =
      let part = wrote.0 in (
        record {
          between = part.between;
          all = recorded more part.between part.all;
          part = subst (λ (h : History). GetsPart part.between j2 (entry_piece h e)) (sym (append_assoc more new old)) part.part;
        },
        shown more o2 wrote.1,
      )

  showed_then : (more : History) → ShowedPart j1 j2 o1 o2 more (new ++ old) → ShowedPart j j2 o o2 (more ++ new) old
  showed_then [] wrote = absurd wrote
  showed_then (e ∷ more) wrote =
      let part = wrote.1 in (
        recorded (e ∷ more) j2 wrote.0,
        record {
          between = part.between;
          all = shown more part.between part.all;
          part = subst (λ (h : History). GetsPart part.between o2 (entry_lines h e)) (sym (append_assoc more new old)) part.part;
        },
      )

  -- or as much as the end of a drive says
  pub end_writes_then : (why : LiveEnd) (more : History) → StopWrites why j1 j2 o1 o2 more (new ++ old) → StopWrites why j j2 o o2 (more ++ new) old
  end_writes_then (lives.WriteFault whichs.Journal) more wrote = part_then more wrote
  end_writes_then (lives.WriteFault whichs.Out) more wrote = showed_then more wrote
  end_writes_then (lives.WriteFault whichs.Events) more wrote = absurd wrote
  end_writes_then (lives.WriteFault whichs.Input) more wrote = absurd wrote
  end_writes_then (lives.WriteFault whichs.Line) more wrote = absurd wrote
  end_writes_then (lives.WriteFault whichs.Objects) more wrote = absurd wrote
  end_writes_then (lives.TooLarge whichs.Events) more wrote = wrote_then more wrote
  end_writes_then (lives.TooLarge whichs.Objects) more wrote = wrote_then more wrote
  end_writes_then (lives.TooLarge whichs.Input) more wrote = absurd wrote
  end_writes_then (lives.TooLarge whichs.Journal) more wrote = absurd wrote
  end_writes_then (lives.TooLarge whichs.Line) more wrote = absurd wrote
  end_writes_then (lives.TooLarge whichs.Out) more wrote = absurd wrote
  end_writes_then lives.Memory more wrote = wrote_then more wrote
  end_writes_then (lives.ReadFault which) more wrote = absurd wrote
  end_writes_then (lives.Bad bad) more wrote = absurd wrote
  end_writes_then (lives.Unbuilt line) more wrote = absurd wrote
  end_writes_then (lives.Differs line kept made) more wrote = absurd wrote

-- new events behind others
pub live_then : (more new : History) → AreLive more → AreLive new → AreLive (more ++ new)
live_then [] new live before = before
live_then (e ∷ more) new live before = (live.0, live_then more new live.1 before)

-- counts of faults go on
pub rose_later : (a b c : ℕ) → Rose a b → b ≤ c → Rose a c
rose_later a b c r h = omega arith

-- what was asked for what comes next
asked_next_then : (s : Setup) (more new old : History) (next : Next) (result : Result CloudAnswer Memory) (before mid now : List Told) → AreAsked s new old before mid
    → AskedNext s more (new ++ old) next result mid now → AskedNext s (more ++ new) old next result before now
asked_next_then s more new old next result before mid now p a = record {
  between = a.between;
  recorded = are_asked_then s new old before mid a.between p more a.recorded;
  heard = subst (λ (h : History). Heard next (net s h) result a.between now) (sym (append_assoc more new old)) a.heard;
}

-- a drive behind others stopped
module _ (allows : RankFacts → ℕ → Type 0) (header : Header) (more new old : History) (IsDue IsDue' : Next → Type 0)
    (due : (next : Next) → IsDue next → IsDue' next) (before mid now : List Told) (p : AreAsked (under header) new old before mid) where
  same : more ++ (new ++ old) ≡ (more ++ new) ++ old
  same = sym (append_assoc more new old)

  on : AreAsked (under header) more (new ++ old) mid now → AreAsked (under header) (more ++ new) old before now
  on asked = are_asked_then (under header) new old before mid now p more asked

  pub stops_then : (why : LiveEnd) → Stops allows why header more (new ++ old) IsDue mid now → Stops allows why header (more ++ new) old IsDue' before now
  stops_then (lives.TooLarge whichs.Events) stops =
      (subst (λ (h : History). length h ≡ events_limit) same stops.0, (stops.1.0, due stops.1.0 stops.1.1), on stops.2)
  stops_then (lives.TooLarge whichs.Objects) stops = record {
    next = stops.next;
    due = due stops.next stops.due;
    event = stops.event;
    is = stops.is;
    asked = asked_next_then (under header) more new old stops.next (Ok (answer_in stops.event)) before mid now p stops.asked;
    large = subst (λ (h : History). IsTooLargeNext allows header h stops.event) same stops.large;
  }
  stops_then lives.Memory stops =
      ⊎_elim (λ asked. inl (on asked))
      (λ one. inr (one.0, one.1, due one.0 one.2, asked_next_then (under header) more new old one.0 one.1 before mid now p one.3)) stops
  stops_then (lives.WriteFault which) stops = on stops
  stops_then (lives.TooLarge whichs.Input) stops = absurd stops
  stops_then (lives.TooLarge whichs.Journal) stops = absurd stops
  stops_then (lives.TooLarge whichs.Line) stops = absurd stops
  stops_then (lives.TooLarge whichs.Out) stops = absurd stops
  stops_then (lives.ReadFault which) stops = absurd stops
  stops_then (lives.Bad bad) stops = absurd stops
  stops_then (lives.Unbuilt line) stops = absurd stops
  stops_then (lives.Differs line kept made) stops = absurd stops
