-- What is read of a script, and what is driven of it.
use Rattle.std.proofs.Common.{◌≡◌, ◌≤◌, ℕ, ◌+◌, suc, List, [], ◌∷◌, ◌++◌, refl, ap, ◌∙◌, sym, subst, ⊎_elim, Some, length, arith, Bool, true, false, if◌then◌else◌, inl, inr, append_assoc, append-nil, length-append}
use Rattle.scfs_base.specs.Limits.{input_limit}
use Rattle.scfs_base.specs.Outside.{Takes}
use Rattle.scfs_schedule.specs.Grammar.{IsEvent}
use Rattle.scfs_schedule.specs.Reading.{IsAtEvents, Read, Reading, gives, read, stopped, unfinished, unread, with_event, with_header}
use Rattle.scfs_schedule.specs.declared.types.Ending.{Ending}
use Rattle.scfs_schedule.specs.declared.types.Event.{Event}
use Rattle.scfs_schedule.specs.declared.types.Header.{Header}
use Rattle.scfs_world.specs.Built.{is_built}
use Rattle.scfs_live.specs.Able.{CanBeGiven}
use Rattle.scfs_top.specs.declared.closing.Filled.{Filled}
use Rattle.scfs_top.specs.declared.closing.Filled.TheVariants as filleds
use Rattle.scfs_top.specs.declared.closing.Finish.TheVariants as finishes
use Rattle.scfs_top.specs.declared.intake.Given.{Given}
use Rattle.scfs_top.specs.declared.intake.Given.TheVariants as givens
use Rattle.scfs_top.specs.declared.intake.Intake.{Intake}
use Rattle.scfs_top.specs.Giving.{Draws, InPieces, IsFresh, ReadOn, Tells, filled_by}
use Rattle.scfs_top.specs.Outer.{SourceView}
use Rattle.scfs_top.specs.Playing.{Playing, before_event, finished, header_lines, under_header}
use Rattle.scfs_top.specs.Running.{KeepsToHeader, ReadsScript}
use Rattle.scfs_top.specs.Scripting.{AreBuilt, driven, events_driven, script_of}
use Rattle.scfs_top.specs.Underway.{ReachesOn, Reached, ScriptSoFar, with_events}
use Rattle.scfs_top.proofs.EdgeLemmas.{takes_nothing, takes_then}
use Rattle.scfs_top.proofs.ScriptEvents.{of_script}

pub nothing_kept : KeepsToHeader []
nothing_kept = record { split = record { early = []; piece = []; whole = refl; few = omega arith; goes_on = (1, refl) }; none = refl }

pieces_kept : (reader : Reading) (more : List ℕ) → reader ≡ unread true → InPieces reader more → KeepsToHeader more
pieces_kept reader more fresh i =
    let is : script_of i.early ≡ finished (finishes.Text (unfinished false i.line)) = ap driven (sym (ap (λ (r : Reading). gives r i.early) fresh) ∙ i.nothing) in
    record {
      split = record { early = i.early; piece = i.piece; whole = i.whole; few = i.few; goes_on = (i.line, ap (λ (p : Playing). p.finish) is) };
      none = ap (λ (p : Playing). p.header) is;
    }

-- what is read for the header
pub header_kept : (reader : Reading) (more : List ℕ) → reader ≡ unread true → ReadOn reader more → KeepsToHeader more
header_kept reader more fresh on = ⊎_elim (λ none. subst KeepsToHeader (sym none) nothing_kept) (λ i. pieces_kept reader more fresh i) on

-- the bytes taken, with those for what is given next
pub reads_on : (first now next : SourceView) (taken more : List ℕ) (old new : Intake) (given : Given) (filled : Filled) → Takes first.left now.left taken
    → length taken + old.room ≡ input_limit + 1 → first.ends ≤ now.ends → first.faults ≤ now.faults → Draws now.left next.left more old new given → filled_by given ≡ filled
    → Tells now.ends next.ends now.faults next.faults filled → ReadsScript first next (taken ++ more) filled
reads_on first now next taken more old new given filled takes room later_ends later_faults draws is tells = record {
  takes = takes_then first.left now.left next.left taken more takes draws.takes;
  few = omega (arith, room, draws.few, length-append taken more);
  full = λ full. let f = draws.full (is ∙ full) in omega (arith, f, room, length-append taken more);
  nothing_left = λ end. draws.nothing_left (is ∙ end);
  ended = λ end. let r = tells.ended end in omega (arith, r, later_ends);
  failed = λ fault. let r = tells.failed fault in omega (arith, r, later_faults);
}

-- the same with nothing taken before
pub reads_first : (first next : SourceView) (more : List ℕ) (old new : Intake) (given : Given) (filled : Filled) → IsFresh true old → Draws first.left next.left more old new given
    → filled_by given ≡ filled → Tells first.ends next.ends first.faults next.faults filled → ReadsScript first next more filled
reads_first first next more old new given filled fresh draws is tells =
    reads_on first first next [] more old new given filled (takes_nothing first.left) (omega (arith, fresh.room)) (omega arith) (omega arith) draws is tells

-- events before what is driven
abbrev pub behind : List Event → Playing → Playing
behind done playing = record playing { events = done ++ playing.events }

-- events that the program can do are driven, and then what is driven of those behind them
events_built : (line : ℕ) (done events : List Event) (ending : Ending) → AreBuilt done
    → events_driven line (done ++ events) ending ≡ behind done (events_driven (line + length done) events ending)
events_built line [] events ending built = let same : line ≡ line + 0 = omega arith in ap (λ n. events_driven n events ending) same
events_built line (event ∷ done) events ending built =
    let rest = events_driven (line + 1) (done ++ events) ending in
    let lines : line + 1 + length done ≡ line + suc (length done) = omega arith in
    ap (λ (b : Bool). if b then before_event event rest else finished (finishes.Unbuilt line)) built.0
    ∙ ap (before_event event) (events_built (line + 1) done events ending built.1)
    ∙ ap (λ n. behind (event ∷ done) (events_driven n events ending)) lines

built_then : (done : List Event) (event : Event) → AreBuilt done → is_built event ≡ true → AreBuilt (done ++ event ∷ [])
built_then [] event built is = (is, tt)
built_then (first ∷ done) event built is = (built.0, built_then done event built.1 is)

-- a place in the events of a text has one header
same_header : (reader : Reading) (one other : Header) → IsAtEvents reader one → IsAtEvents reader other → one ≡ other
same_header reader one other h k = let e = sym h ∙ k in cc

module _ (first now : SourceView) (intake : Intake) (header : Header) (done : List Event) (s : ScriptSoFar first now intake header done) where
  -- what is driven of the script, where this is given next
  pub leads : (more : List ℕ) (rest : Read) → gives intake.reader more ≡ rest
      → script_of (s.taken ++ more) ≡ under_header header (behind done (events_driven (header_lines header + 1 + length done) rest.events rest.ending))
  leads more rest is =
      let line = header_lines header + 1 in
      ap driven (s.says more ∙ ap (λ (r : Read). with_header header (with_events done r)) is)
      ∙ ap (λ (b : Bool). if b then under_header header (events_driven line (done ++ rest.events) rest.ending) else finished (finishes.Unbuilt (header_lines header))) s.header_built
      ∙ ap (under_header header) (events_built line done rest.events rest.ending s.built)

  -- the text ended with these events
  pub leads_to_end : (more : List ℕ) (ending : Ending) → gives intake.reader more ≡ stopped ending
      → script_of (s.taken ++ more) ≡ record { header = Some header; events = done; finish = finishes.Text ending }
  leads_to_end more ending is =
      leads more (stopped ending) is ∙ ap (λ (l : List Event). record { header = Some header; events = l; finish = finishes.Text ending }) (append-nil done)

  -- more events may come behind them
  pub leads_further : (more : List ℕ) → (rest : List Event) × ((script_of (s.taken ++ more)).header ≡ Some header) × ((script_of (s.taken ++ more)).events ≡ done ++ rest)
  leads_further more =
      let rest = gives intake.reader more in
      let is = leads more rest refl in
      ((events_driven (header_lines header + 1 + length done) rest.events rest.ending).events, ap (λ (p : Playing). p.header) is, ap (λ (p : Playing). p.events) is)

  reached : (more : List ℕ) → InPieces intake.reader more → Reached done (s.taken ++ more)
  reached more i =
      let is = leads_to_end i.early (unfinished false i.line) i.nothing in
      record {
        split = record {
          early = s.taken ++ i.early;
          piece = i.piece;
          whole = ap (λ l. s.taken ++ l) i.whole ∙ sym (append_assoc s.taken i.early i.piece);
          few = i.few;
          goes_on = (i.line, ap (λ (p : Playing). p.finish) is);
        };
        events = ap (λ (p : Playing). p.events) is;
      }

  pub reaches_on : (more : List ℕ) → ReadOn intake.reader more → ReachesOn done s.taken (s.taken ++ more)
  reaches_on more on = ⊎_elim (λ none. inl (ap (λ l. s.taken ++ l) none ∙ append-nil s.taken)) (λ i. inr (reached more i)) on

  module _ (next : SourceView) (more : List ℕ) (new : Intake) (event : Event) (draws : Draws now.left next.left more intake new (givens.Event event)) where
    to_event : gives intake.reader more ≡ with_event event (gives new.reader [])
    to_event = ap (gives intake.reader) (sym (append-nil more)) ∙ draws.next.5 []

    -- the program can't do it
    pub leads_to_unbuilt : is_built event ≡ false
        → script_of (s.taken ++ more) ≡ record { header = Some header; events = done; finish = finishes.Unbuilt new.reader.lines }
    leads_to_unbuilt isnt =
        let rest = gives new.reader [] in
        let line = header_lines header + 1 + length done in
        let lines : line ≡ new.reader.lines = omega (arith, draws.next.4, s.lines) in
        leads more (with_event event rest) to_event
        ∙ ap (λ (b : Bool). under_header header (behind done (if b then before_event event (events_driven (line + 1) rest.events rest.ending) else finished (finishes.Unbuilt line)))) isnt
        ∙ ap (λ n. under_header header (behind done (finished (finishes.Unbuilt n)))) lines
        ∙ ap (λ (l : List Event). record { header = Some header; events = l; finish = finishes.Unbuilt new.reader.lines }) (append-nil done)

    says_event : (later : List ℕ) → read true ((s.taken ++ more) ++ later) ≡ with_header header (with_events (done ++ event ∷ []) (gives new.reader later))
    says_event later =
        let rest = gives new.reader later in
        ap (read true) (append_assoc s.taken more later) ∙ s.says (more ++ later)
        ∙ ap (λ (r : Read). with_header header (with_events done r)) (draws.next.5 later)
        ∙ ap (λ (l : List Event). record { header = Some header; events = l; ending = rest.ending }) (sym (append_assoc done (event ∷ []) rest.events))

    -- the script with the event
    pub with_next : Tells now.ends next.ends now.faults next.faults filleds.Open → is_built event ≡ true → ReadOn intake.reader more
        → (longer : ScriptSoFar first next new header (done ++ event ∷ [])) × ReachesOn done s.taken longer.taken
    with_next tells is on = let leaves = draws.leaves (λ none. cc) in (
      record {
        taken = s.taken ++ more;
        takes = takes_then first.left now.left next.left s.taken more s.takes draws.takes;
        room = omega (arith, s.room, leaves, length-append s.taken more);
        says = says_event;
        place = subst (λ (h : Header). IsAtEvents new.reader h) (same_header intake.reader draws.next.0 header draws.next.1 s.place) draws.next.2;
        lines = omega (arith, draws.next.4, s.lines, length-append done (event ∷ []));
        header_built = s.header_built;
        built = built_then done event s.built is;
        later_ends = omega (arith, s.later_ends, tells.later_ends);
        later_faults = omega (arith, s.later_faults, tells.later_faults);
      },
      reaches_on more on,
    )

    -- a drive can be given it
    pub can_be_given : is_built event ≡ true → CanBeGiven header event
    can_be_given is =
        let fits = subst (λ (h : Header). IsEvent h event) (same_header intake.reader draws.next.0 header draws.next.1 s.place) draws.next.3 in
        record {
          done = record { fits = fits; built = is };
          script = of_script (s.taken ++ more) done event (gives new.reader []).events (s.says more ∙ ap (λ (r : Read). with_header header (with_events done r)) to_event);
        }
