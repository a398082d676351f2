-- The events of a history in order, and the lines that come with them.
use Rattle.std.proofs.Common.{◌≡◌, ◌<◌, ℕ, ◌+◌, List, [], ◌∷◌, ◌++◌, refl, ap, ◌∙◌, sym, true, Ok, length, map, append_assoc, append-nil}
use Rattle.scfs_base.specs.Limits.{events_limit}
use Rattle.scfs_schedule.specs.declared.types.Header.{Header}
use Rattle.scfs_schedule.specs.declared.types.Line.{Line}
use Rattle.scfs_schedule.specs.Text.{event_text}
use Rattle.scfs_model.specs.History.{Entry, History}
use Rattle.scfs_world.specs.Built.{is_built}
use Rattle.scfs_live.specs.Finding.{event_read}
use Rattle.scfs_live.specs.GoingOn.{AreDone, event_lines, journal_lines}
use Rattle.scfs_live.specs.Keeping.{made_line}
use Rattle.scfs_live.specs.Reopening.{Walk}

-- events that come, the oldest first, behind a history

abbrev pub onto : List Entry → History → History
onto [] past = past
onto (e ∷ next) past = onto next (e ∷ past)

abbrev pub next_lines : List Entry → History → List (List ℕ)
next_lines [] past = []
next_lines (e ∷ next) past = event_lines past e ++ next_lines next (e ∷ past)

-- each is read from its line, and the program can do it
abbrev pub AreNext : Header → List Entry → History → Type 0
AreNext header [] past = Unit {0}
AreNext header (e ∷ next) past =
    (event_read header (event_text e.event) ≡ Ok e.event) × (is_built e.event ≡ true) × (length past < events_limit) × AreNext header next (e ∷ past)

-- a place of the walk with these lines still to be kept
abbrev pub at : History → (first lines : List (List ℕ)) → Walk
at past first lines = record { past = past; awaited = record { header = first; lines = lines } }

abbrev pub spaced : List (List ℕ) → List (List ℕ)
spaced lines = map (λ line. 32 ∷ line) lines

pub spaced-map : (n : ℕ) (lines : List Line) → spaced (map (made_line n) lines) ≡ map (λ line. 32 ∷ made_line n line) lines
spaced-map n [] = refl
spaced-map n (line ∷ lines) = ap (λ ls. (32 ∷ made_line n line) ∷ ls) (spaced-map n lines)

-- a history's events in order

abbrev pub in_order : History → List Entry → List Entry
in_order [] next = next
in_order (e ∷ past) next = in_order past (e ∷ next)

pub onto-in_order : (past : History) (next : List Entry) → onto (in_order past next) [] ≡ onto next past
onto-in_order [] next = refl
onto-in_order (e ∷ past) next = onto-in_order past (e ∷ next)

pub onto-append : (next : List Entry) (past : History) → onto next past ≡ onto next [] ++ past
onto-append [] past = refl
onto-append (e ∷ next) past =
    onto-append next (e ∷ past) ∙ sym (append_assoc (onto next []) (e ∷ []) past) ∙ ap (λ l. l ++ past) (sym (onto-append next (e ∷ [])))

pub are_next : (header : Header) (past : History) (next : List Entry) → AreDone header past → AreNext header next past → AreNext header (in_order past next) []
are_next header [] next done are = are
are_next header (e ∷ past) next done are =
    are_next header past (e ∷ next) done.3 (done.0, done.1, done.2, are)

pub journal-onto : (header : Header) (next : List Entry) (past : History) → journal_lines header past ++ next_lines next past ≡ journal_lines header (onto next past)
journal-onto header [] past = append-nil (journal_lines header past)
journal-onto header (e ∷ next) past = sym (append_assoc (journal_lines header past) (event_lines past e) (next_lines next (e ∷ past))) ∙ journal-onto header next (e ∷ past)
