-- What a drive writes of its new events: their pieces to the journal, and behind that their lines to out.
use Rattle.std.specs.Prelude.{◌≡◌, ◌≤◌, ℕ, List, [], ◌∷◌, ◌++◌, Option, Result, Ok, Err}
use Rattle.scfs_base.specs.Outside.{Puts, Rose}
use Rattle.scfs_schedule.specs.declared.types.Which.TheVariants as whiches
use Rattle.scfs_model.specs.History.{History}
use Rattle.scfs_live.specs.Edges.{GetsPart, GetsThenPart}
use Rattle.scfs_live.specs.Journal.{entry_lines, entry_piece, lines_of, pieces_of}
use Rattle.scfs_live.specs.declared.ending.LiveEnd.{LiveEnd}
use Rattle.scfs_live.specs.declared.ending.LiveEnd.TheVariants as ends

-- an event's piece went to the journal, and then its lines to out; where the journal failed nothing went to out; where memory was wanting
-- nothing was written
abbrev pub Writes : {T : Type 0} → (j j' o o' : Option (List ℕ)) → (piece shown : List ℕ) → Result T LiveEnd → Type 0
Writes j j' o o' piece shown (Ok x) = Puts j j' piece × Puts o o' shown
Writes j j' o o' piece shown (Err (ends.WriteFault whiches.Journal)) = GetsPart j j' piece × Puts o o' []
Writes j j' o o' piece shown (Err (ends.WriteFault whiches.Out)) = Puts j j' piece × GetsPart o o' shown
Writes j j' o o' piece shown (Err ends.Memory) = Puts j j' [] × Puts o o' []
Writes j j' o o' piece shown (Err end) = ⊥

-- writing fails at journal or out only where its count of faults rose; the counts never fall
pub record HasCauses {T : Type 0} (journal journal' out out' : ℕ) (result : Result T LiveEnd) : Type 0 where
  pub journal_later : journal ≤ journal'
  pub out_later : out ≤ out'
  pub journal_failed : result ≡ Err (ends.WriteFault whiches.Journal) → Rose journal journal'
  pub out_failed : result ≡ Err (ends.WriteFault whiches.Out) → Rose out out'

-- what journal and out got, where they tell: all pieces and lines of new events
pub record WroteAll (j j' o o' : Option (List ℕ)) (new past : History) : Type 0 where
  pub journal : Puts j j' (pieces_of new past)
  pub out : Puts o o' (lines_of new past)

-- all pieces but the last event's, and of that not all; and none of its lines
abbrev pub WrotePart : (j j' o o' : Option (List ℕ)) → (new past : History) → Type 0
WrotePart j j' o o' [] past = ⊥
WrotePart j j' o o' (e ∷ new) past =
    GetsThenPart j j' (pieces_of new past) (entry_piece (new ++ past) e) × Puts o o' (lines_of new past)

-- all pieces; and all lines but the last event's, and of those not all
abbrev pub ShowedPart : (j j' o o' : Option (List ℕ)) → (new past : History) → Type 0
ShowedPart j j' o o' [] past = ⊥
ShowedPart j j' o o' (e ∷ new) past =
    Puts j j' (pieces_of (e ∷ new) past) × GetsThenPart o o' (lines_of new past) (entry_lines (new ++ past) e)
