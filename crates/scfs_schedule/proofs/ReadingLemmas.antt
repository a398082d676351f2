use Rattle.std.proofs.Common.{◌≡◌, ℕ, ◌+◌, ◌-◌, ◌<◌, ◌≤◌, List, [], ◌∷◌, ◌++◌, length, take, Bool, true, false, cond, ltb, ◌||◌, refl, ap, ◌∙◌, sym, subst, arith, append_assoc, append-nil, zero, suc, length-append, ◌==◌, Option, Some, None}
use Rattle.std.specs.Prelude.{Result, Ok, Err}
use Rattle.std.proofs.lemmas.Bool.Decides.{nat_tests}
use Rattle.scfs_base.specs.Limits.{input_limit, line_limit}
use Rattle.scfs_base.specs.Pieces.{onto, pieces, CutsAt}
use Rattle.scfs_schedule.specs.declared.types.Ending.{Ending}
use Rattle.scfs_schedule.specs.declared.types.Ending.TheVariants as endings
use Rattle.scfs_schedule.specs.declared.types.Event.{Event}
use Rattle.scfs_schedule.specs.declared.types.Header.{Header}
use Rattle.scfs_schedule.specs.declared.types.Place.{Place}
use Rattle.scfs_schedule.specs.declared.types.Place.TheVariants as places
use Rattle.scfs_schedule.specs.declared.types.Said.{Said}
use Rattle.scfs_schedule.specs.declared.types.Said.TheVariants as saids
use Rattle.scfs_schedule.specs.declared.types.Item.{Item}
use Rattle.scfs_schedule.specs.declared.types.Item.TheVariants as items
use Rattle.scfs_schedule.specs.declared.types.BadKind.{BadKind}
use Rattle.scfs_schedule.specs.declared.types.Which.TheVariants as whichs
use Rattle.scfs_schedule.specs.declared.types.Stop.{Stop}
use Rattle.scfs_schedule.specs.declared.types.Stop.TheVariants as stops
use Rattle.scfs_schedule.specs.Grammar.{said_of, words_of, IsEvent}
use Rattle.scfs_schedule.proofs.ReadBackLemmas.{script_says}
use Rattle.scfs_schedule.specs.Holding.{Holding, HoldsNoLine, HoldsLongLine, with_piece}
use Rattle.scfs_schedule.specs.Places.{IsInHeader, IsBehind, IsSaidAt, header_lines}
use Rattle.scfs_schedule.specs.Reading.{Reading, after, read_lines, gives, unless_ended, stopped, Gives, Stops, IsAtEvents, IsDrained, with_header, with_event, unfinished, ending_now, is_too_long, long_line}
use Rattle.scfs_schedule.specs.Lines.{EndsBehindHeader, Cuts, Finds, MovesOn}
use Rattle.scfs_schedule.specs.declared.progress.Found.{Found}
use Rattle.scfs_schedule.specs.declared.progress.Found.TheVariants as founds

head-onto : (script longer : Bool) (place : Place) (n b : ℕ) (line : List ℕ) (ps : List (List ℕ)) → read_lines script longer place n (line ∷ onto b ps) ≡ cond (is_too_long line) long_line (after (said_of script place line) place (n + 1) (λ p. read_lines script longer p (n + 1) (onto b ps)))
head-onto script longer place n b line [] = refl
head-onto script longer place n b line (q ∷ qs) = refl

by_test : (script longer : Bool) (place : Place) (n b : ℕ) (line : List ℕ) (ps : List (List ℕ)) (t : Bool) → read_lines script longer place n (line ∷ cond t ([] ∷ ps) (onto b ps)) ≡ cond (is_too_long line) long_line (after (said_of script place line) place (n + 1) (λ p. read_lines script longer p (n + 1) (cond t ([] ∷ ps) (onto b ps))))
by_test script longer place n b line ps true = refl
by_test script longer place n b line ps false = head-onto script longer place n b line ps

first_of_more : (script longer : Bool) (place : Place) (n : ℕ) (line text : List ℕ) → read_lines script longer place n (line ∷ pieces 10 text) ≡ cond (is_too_long line) long_line (after (said_of script place line) place (n + 1) (λ p. read_lines script longer p (n + 1) (pieces 10 text)))
first_of_more script longer place n line [] = refl
first_of_more script longer place n line (b ∷ bs) = by_test script longer place n b line (pieces 10 bs) (b == 10)

pub not_too_long : (line : List ℕ) → length line ≤ line_limit → is_too_long line ≡ false
not_too_long line short = grind (arith, nat_tests)

pub too_long : (line : List ℕ) → line_limit < length line → is_too_long line ≡ true
too_long line long = grind (arith, nat_tests)

-- a line with more behind it
pub line_first : (script longer : Bool) (place : Place) (n : ℕ) (line text : List ℕ) → length line ≤ line_limit → read_lines script longer place n (line ∷ pieces 10 text) ≡ after (said_of script place line) place (n + 1) (λ p. read_lines script longer p (n + 1) (pieces 10 text))
line_first script longer place n line text short =
    first_of_more script longer place n line text
    ∙ ap (λ t. cond t long_line (after (said_of script place line) place (n + 1) (λ p. read_lines script longer p (n + 1) (pieces 10 text)))) (not_too_long line short)

-- a line that is too long
line_long : (script longer : Bool) (place : Place) (n : ℕ) (line : List ℕ) (others : List (List ℕ)) → line_limit < length line → read_lines script longer place n (line ∷ others) ≡ long_line
line_long script longer place n line [] long = ap (λ t. cond t long_line (stopped (unfinished longer (n + 1)))) (too_long line long)
line_long script longer place n line (next ∷ rest) long =
    ap (λ t. cond t long_line (after (said_of script place line) place (n + 1) (λ p. read_lines script longer p (n + 1) (next ∷ rest)))) (too_long line long)

-- what a reader gives whose first line is cut off
one_line : (r : Reading) (line tail more : List ℕ) → r.ending ≡ None → CutsAt 10 r.rest line tail → length line ≤ line_limit → gives r more ≡ after (said_of r.script r.place line) r.place (r.lines + 1) (λ p. gives (record r { place = p; lines = r.lines + 1; rest = tail }) more)
one_line r line tail more was_open cut short =
    let longer = r.longer || ltb r.room (length more) in
    ap (λ e. unless_ended e (read_lines r.script longer r.place r.lines (pieces 10 (r.rest ++ take r.room more)))) was_open
    ∙ ap (read_lines r.script longer r.place r.lines) (cut.first (take r.room more))
    ∙ line_first r.script longer r.place r.lines line (tail ++ take r.room more) short
    ∙ ap (λ e. after (said_of r.script r.place line) r.place (r.lines + 1) (λ p. unless_ended e (read_lines r.script longer p (r.lines + 1) (pieces 10 (tail ++ take r.room more))))) (sym was_open)

-- what a reader gives whose first line is too long
long_gives : (r : Reading) → r.ending ≡ None → HoldsLongLine r.rest → (more : List ℕ) → gives r more ≡ long_line
long_gives r was_open long more =
    let longer = r.longer || ltb r.room (length more) in
    let h = long (take r.room more) in
    ap (λ e. unless_ended e (read_lines r.script longer r.place r.lines (pieces 10 (r.rest ++ take r.room more)))) was_open
    ∙ ap (read_lines r.script longer r.place r.lines) h.2
    ∙ line_long r.script longer r.place r.lines h.0 h.1 h.3

pub cut_of : (old mid : Reading) (found : Found) (said says : Said) → Finds found old mid → found ≡ founds.Line said → said ≡ says → Cuts old mid says
cut_of old mid found said says cuts is_said is_says = subst (λ f. Finds f old mid) (is_said ∙ ap (λ x. founds.Line x) is_says) cuts

cut_gives : (old mid : Reading) (said : Said) → old.ending ≡ None → Cuts old mid said → (more : List ℕ) → gives old more ≡ after said old.place (old.lines + 1) (λ p. gives (record mid { place = p; lines = mid.lines + 1 }) more)
cut_gives old mid said was_open c more =
    one_line old c.line c.tail more was_open c.cut c.short
    ∙ ap (λ s. after s old.place (old.lines + 1) (λ p. gives (record old { place = p; lines = old.lines + 1; rest = c.tail }) more)) (sym c.says)
    ∙ ap (λ (m : Reading). after said old.place (old.lines + 1) (λ p. gives (record m { place = p; lines = m.lines + 1 }) more)) (sym c.state)

cut_shorter : (old mid : Reading) (said : Said) → Cuts old mid said → length mid.rest < length old.rest
cut_shorter old mid said c =
    let tail : length mid.rest ≡ length c.tail = ap (λ (m : Reading). length m.rest) c.state in
    omega (arith, tail, c.cut.size)

cut_open : (old mid : Reading) (said : Said) → old.ending ≡ None → Cuts old mid said → mid.ending ≡ None
cut_open old mid said was_open c = ap (λ (m : Reading). m.ending) c.state ∙ was_open

cut_place : (old mid : Reading) (said : Said) → Cuts old mid said → mid.place ≡ old.place
cut_place old mid said c = ap (λ (m : Reading). m.place) c.state

cut_lines : (old mid : Reading) (said : Said) → Cuts old mid said → mid.lines ≡ old.lines
cut_lines old mid said c = ap (λ (m : Reading). m.lines) c.state

-- the lines before a place of the header are counted
lines_in_header : (place : Place) (lines : ℕ) → IsInHeader place → IsBehind place lines → lines ≡ header_lines place
lines_in_header places.Version lines head h = h
lines_in_header places.Faults lines head h = h
lines_in_header (places.Lease f) lines head h = h
lines_in_header (places.Stale f lease) lines head h = h
lines_in_header (places.Agents header) lines head h = h
lines_in_header (places.Events header) lines head h = absurd head

behind_header : (place : Place) (lines : ℕ) → IsInHeader place → lines ≡ header_lines place → IsBehind place lines
behind_header places.Version lines head h = h
behind_header places.Faults lines head h = h
behind_header (places.Lease f) lines head h = h
behind_header (places.Stale f lease) lines head h = h
behind_header (places.Agents header) lines head h = h
behind_header (places.Events header) lines head h = absurd head

end_place : (place : Place) → IsSaidAt place saids.Ends → (header : Header) × (place ≡ places.Events header)
end_place places.Version fits = absurd fits
end_place places.Faults fits = absurd fits
end_place (places.Lease f) fits = absurd fits
end_place (places.Stale f lease) fits = absurd fits
end_place (places.Agents header) fits = absurd fits
end_place (places.Events header) fits = (header, refl)

-- what the calls that go behind a line ask of it
pub counted_now : (old mid : Reading) (said : Said) → Cuts old mid said → mid.lines + (length mid.rest + mid.room) < input_limit
counted_now old mid said c = subst (λ (m : Reading). m.lines + (length m.rest + m.room) < input_limit) (sym c.state) c.counted

pub open_now : (old mid : Reading) (said : Said) → old.ending ≡ None → Cuts old mid said → mid.ending ≡ None
open_now old mid said was_open c = cut_open old mid said was_open c

pub numbered_next : (old mid : Reading) (p : Place) → Cuts old mid (saids.Moves p) → IsBehind p (mid.lines + 1)
numbered_next old mid p c =
    behind_header p (mid.lines + 1) c.fits.1
    (ap (λ n. n + 1) (cut_lines old mid (saids.Moves p) c ∙ lines_in_header old.place old.lines c.fits.0 c.numbered) ∙ sym c.fits.3)

pub numbered_events : (old mid : Reading) (header : Header) → Cuts old mid (saids.Begins header) → mid.lines + 1 ≡ length header.agents + 5
numbered_events old mid header c =
    ap (λ n. n + 1) (cut_lines old mid (saids.Begins header) c ∙ lines_in_header old.place old.lines c.fits.0 c.numbered) ∙ sym c.fits.2

pub begins_behind : (old mid : Reading) (header copied : Header) → Cuts old mid (saids.Begins header) → copied ≡ header → IsBehind (places.Events copied) (mid.lines + 1)
begins_behind old mid header copied c same =
    let count : length copied.agents ≡ length header.agents = ap (λ (h : Header). length h.agents) same in
    omega (arith, numbered_events old mid header c, count)

one_more_line : (place : Place) (event : Event) (lines : ℕ) → IsSaidAt place (saids.Says event) → IsBehind place lines → IsBehind place (lines + 1)
one_more_line places.Version event lines fits h = absurd fits
one_more_line places.Faults event lines fits h = absurd fits
one_more_line (places.Lease f) event lines fits h = absurd fits
one_more_line (places.Stale f lease) event lines fits h = absurd fits
one_more_line (places.Agents header) event lines fits h = absurd fits
one_more_line (places.Events header) event lines fits h = omega (arith, h)

pub numbered_event : (old mid : Reading) (event : Event) → Cuts old mid (saids.Says event) → IsBehind mid.place (mid.lines + 1)
numbered_event old mid event c =
    subst (λ (m : Reading). IsBehind m.place (m.lines + 1)) (sym c.state) (one_more_line old.place event old.lines c.fits c.numbered)

pub ends_behind : (old mid : Reading) → Cuts old mid saids.Ends → IsInHeader mid.place → ⊥
ends_behind old mid c =
    let at = end_place old.place c.fits in
    λ head. subst IsInHeader (cut_place old mid saids.Ends c ∙ at.1) head

-- a line of the header that moves on
pub moved : (old mid new : Reading) (p : Place) → old.ending ≡ None → Cuts old mid (saids.Moves p) → new ≡ record mid { place = p; lines = mid.lines + 1 } → MovesOn old new
moved old mid new p was_open c is = record {
  from = c.fits.0;
  to = subst IsInHeader (sym (ap (λ (m : Reading). m.place) is)) c.fits.1;
  shorter = subst (λ (m : Reading). length m.rest < length old.rest) (sym is) (cut_shorter old mid (saids.Moves p) c);
  goes_on = ap (λ (m : Reading). m.ending) is ∙ cut_open old mid (saids.Moves p) was_open c ∙ sym was_open;
  same = λ more. cut_gives old mid (saids.Moves p) was_open c more ∙ ap (λ (m : Reading). gives m more) (sym is);
  script = ap (λ (m : Reading). m.script) is ∙ ap (λ (m : Reading). m.script) c.state;
}

not_at_events : (place : Place) (h : Header) → IsInHeader place → place ≡ places.Events h → ⊥
not_at_events place h head e = subst IsInHeader e head

-- the line that ends the header
pub began : (old mid new : Reading) (header : Header) → old.ending ≡ None → Cuts old mid (saids.Begins header) → new ≡ record mid { place = places.Events header; lines = mid.lines + 1 } → Gives (Ok (Some (items.Header header))) old new
began old mid new header was_open c is = (
  c.fits.1,
  ap (λ (m : Reading). m.place) is,
  λ h e. not_at_events old.place h c.fits.0 e,
  subst (λ (m : Reading). length m.rest < length old.rest) (sym is) (cut_shorter old mid (saids.Begins header) c),
  was_open,
  ap (λ (m : Reading). m.ending) is ∙ cut_open old mid (saids.Begins header) was_open c,
  λ more. cut_gives old mid (saids.Begins header) was_open c more
      ∙ ap (λ (m : Reading). with_header header (gives m more)) (sym is),
  ap (λ (m : Reading). m.lines) is ∙ numbered_events old mid header c,
)

event_place : (place : Place) (event : Event) → IsSaidAt place (saids.Says event) → (header : Header) × ((place ≡ places.Events header) × IsEvent header event)
event_place places.Version event fits = absurd fits
event_place places.Faults event fits = absurd fits
event_place (places.Lease f) event fits = absurd fits
event_place (places.Stale f lease) event fits = absurd fits
event_place (places.Agents header) event fits = absurd fits
event_place (places.Events header) event fits = (header, (refl, fits))

-- an event's line
pub gave : (old mid new : Reading) (event : Event) → old.ending ≡ None → Cuts old mid (saids.Says event) → new ≡ record mid { lines = mid.lines + 1 } → Gives (Ok (Some (items.Event event))) old new
gave old mid new event was_open c is =
    let at = event_place old.place event c.fits in
    let same : record mid { lines = mid.lines + 1 } ≡ record mid { place = old.place; lines = mid.lines + 1 } = ap (λ p. record mid { place = p; lines = mid.lines + 1 }) (cut_place old mid (saids.Says event) c) in (
      at.0,
      (
        at.1.0,
        ap (λ (m : Reading). m.place) is ∙ cut_place old mid (saids.Says event) c ∙ at.1.0,
        at.1.1,
        subst (λ (m : Reading). length m.rest < length old.rest) (sym is) (cut_shorter old mid (saids.Says event) c),
        was_open,
        ap (λ (m : Reading). m.ending) is ∙ cut_open old mid (saids.Says event) was_open c,
        λ more. cut_gives old mid (saids.Says event) was_open c more
            ∙ ap (λ (m : Reading). with_event event (gives m more)) (sym same ∙ sym is),
        ap (λ (m : Reading). m.lines) is ∙ ap (λ n. n + 1) (cut_lines old mid (saids.Says event) c),
        λ script. script_says at.0 (words_of c.line) event
            (c.says ∙ ap (λ s. said_of s old.place c.line) script ∙ ap (λ p. said_of true p c.line) at.1.0),
      ),
    )

-- the line `end`
pub ended : (old mid new : Reading) → old.ending ≡ None → Cuts old mid saids.Ends → new ≡ record mid { lines = mid.lines + 1; ending = Some endings.Ended } → Gives (Ok (Some items.End)) old new
ended old mid new was_open c is =
    let at = end_place old.place c.fits in (
      at.0,
      (
        at.1,
        ap (λ (m : Reading). m.ending) is,
        subst IsDrained (sym is) refl,
        λ more. cut_gives old mid saids.Ends was_open c more,
        λ still. ap (λ (m : Reading). m.lines) is ∙ ap (λ n. n + 1) (cut_lines old mid saids.Ends c),
      ),
    )

-- a line that is not allowed
pub stopped_at : (old mid new : Reading) (kind : BadKind) (stop : Stop) → old.ending ≡ None → Cuts old mid (saids.Wrong kind) → stop ≡ stops.Bad (record { line = mid.lines + 1; kind = kind }) → new ≡ record mid { lines = mid.lines + 1; ending = Some (endings.Stopped stop) } → Stops stop old new
stopped_at old mid new kind stop was_open c stop_is is =
    let bad : Stop = stops.Bad (record { line = mid.lines + 1; kind = kind }) in
    let ends : new ≡ record mid { lines = mid.lines + 1; ending = Some (endings.Stopped bad) } = is ∙ ap (λ s. record mid { lines = mid.lines + 1; ending = Some (endings.Stopped s) }) stop_is in
    let number : old.lines + 1 ≡ mid.lines + 1 = ap (λ n. n + 1) (sym (cut_lines old mid (saids.Wrong kind) c)) in
    subst (λ s. Stops s old new) (sym stop_is) (
      ap (λ (m : Reading). m.ending) ends,
      subst IsDrained (sym ends) refl,
      λ more. cut_gives old mid (saids.Wrong kind) was_open c more
          ∙ ap (λ n. stopped (endings.Stopped (stops.Bad (record { line = n; kind = kind })))) number,
    )

pub take-nil : (n : ℕ) → take n (let none : List ℕ = [] in none) ≡ []
take-nil n = grind (arith)

pub or_false : (b c : Bool) → c ≡ false → (b || c) ≡ b
or_false true c h = refl
or_false false c h = h

no_line_gives : (r : Reading) (more : List ℕ) → r.ending ≡ None → HoldsNoLine r.rest → length r.rest ≤ line_limit → take r.room more ≡ [] → gives r more ≡ stopped (unfinished (r.longer || ltb r.room (length more)) (r.lines + 1))
no_line_gives r more open' none short room =
    let longer = r.longer || ltb r.room (length more) in
    ap (λ e. unless_ended e (read_lines r.script longer r.place r.lines (pieces 10 (r.rest ++ take r.room more)))) open'
    ∙ ap (λ m. read_lines r.script longer r.place r.lines (pieces 10 (r.rest ++ m))) room
    ∙ ap (λ t. read_lines r.script longer r.place r.lines (pieces 10 t)) (append-nil r.rest)
    ∙ ap (λ ps. read_lines r.script longer r.place r.lines ps) none
    ∙ ap (λ t. cond t long_line (stopped (unfinished longer (r.lines + 1)))) (not_too_long r.rest short)

-- nothing is held that could be given
pub waits : (old new : Reading) → old.ending ≡ None → HoldsNoLine old.rest → length old.rest ≤ line_limit → new ≡ old → old.longer ≡ false → Gives (Ok None) old new
waits old new open' none short is longer =
    let empty : List ℕ = [] in
    let drained : gives old empty ≡ stopped (ending_now old old.ending) =
    no_line_gives old empty open' none short (take-nil old.room)
    ∙ ap (λ b. stopped (unfinished b (old.lines + 1))) (or_false old.longer (ltb old.room 0) (grind (arith, nat_tests)))
    ∙ ap (λ e. stopped (ending_now old e)) (sym open') in (
      subst IsDrained (sym is) drained,
      open',
      ap (λ (m : Reading). m.ending) is ∙ open',
      ap (λ (m : Reading). m.longer) is ∙ longer,
      λ h e. ap (λ (m : Reading). m.place) is ∙ e,
      λ h e. sym (ap (λ (m : Reading). m.place) is) ∙ e,
      λ more. ap (λ (m : Reading). gives m more) (sym is),
      subst (λ (m : Reading). length m.rest ≤ line_limit) (sym is) short,
      λ h e. ap (λ (m : Reading). m.lines) is,
    )

-- more came than is looked at
pub too_large : (old new : Reading) → old.ending ≡ None → HoldsNoLine old.rest → length old.rest ≤ line_limit → old.longer ≡ true → old.room ≡ 0 → new ≡ record old { ending = Some (endings.Stopped (stops.TooLarge whichs.Input)) } → Stops (stops.TooLarge whichs.Input) old new
too_large old new open' none short longer full is = (
  ap (λ (m : Reading). m.ending) is,
  subst IsDrained (sym is) refl,
  λ more. no_line_gives old more open' none short (ap (λ n. take n more) full)
      ∙ ap (λ b. stopped (unfinished (b || ltb old.room (length more)) (old.lines + 1))) longer,
)

-- a line was too long
pub stopped_long : (old mid new : Reading) → old.ending ≡ None → HoldsLongLine old.rest → mid ≡ old → new ≡ record mid { ending = Some (endings.Stopped (stops.TooLarge whichs.Line)) } → Stops (stops.TooLarge whichs.Line) old new
stopped_long old mid new was_open long same is =
    (ap (λ (m : Reading). m.ending) is, subst IsDrained (sym is) refl, λ more. long_gives old was_open long more)

-- lines of the header were read that only move on
pub record Reached (old mid : Reading) : Type 0 where
  pub was_open : old.ending ≡ None
  pub is_open : mid.ending ≡ None
  pub shorter : length mid.rest ≤ length old.rest
  pub in_events : (h : Header) → IsAtEvents mid h → IsAtEvents old h
  pub stays : (h : Header) → IsAtEvents old h → IsAtEvents mid h
  pub same : (more : List ℕ) → gives old more ≡ gives mid more
  pub lines : (h : Header) → IsAtEvents old h → mid.lines ≡ old.lines
  pub script : mid.script ≡ old.script

pub reached_more : (old mid new : Reading) → Reached old mid → MovesOn mid new → Reached old new
reached_more old mid new r m = record {
  was_open = r.was_open;
  is_open = m.goes_on ∙ r.is_open;
  shorter = omega (arith, r.shorter, m.shorter);
  in_events = λ h e. absurd (not_at_events new.place h m.to e);
  stays = λ h e. absurd (not_at_events mid.place h m.from (r.stays h e));
  same = λ more. r.same more ∙ m.same more;
  lines = λ h e. absurd (not_at_events mid.place h m.from (r.stays h e));
  script = m.script ∙ r.script;
}

pub reached_gives : (result : Result (Option Item) Stop) (old mid new : Reading) → Reached old mid → Gives result mid new → Gives result old new
reached_gives (Ok (Some (items.Header header))) old mid new r g =
    (g.0, g.1, λ h e. g.2 h (r.stays h e), omega (arith, r.shorter, g.3), r.was_open, g.5, λ more. r.same more ∙ g.6 more, g.7)
reached_gives (Ok (Some (items.Event event))) old mid new r g =
    let at = r.in_events g.0 g.1.0 in
    (g.0, (at, g.1.1, g.1.2, omega (arith, r.shorter, g.1.3), r.was_open, g.1.5, λ more. r.same more ∙ g.1.6 more, g.1.7 ∙ ap (λ n. n + 1) (r.lines g.0 at), λ script. g.1.8 (r.script ∙ script)))
reached_gives (Ok (Some items.End)) old mid new r g =
    let at = r.in_events g.0 g.1.0 in
    (g.0, (at, g.1.1, g.1.2, λ more. r.same more ∙ g.1.3 more, λ still. g.1.4 r.is_open ∙ ap (λ n. n + 1) (r.lines g.0 at)))
reached_gives (Ok None) old mid new r g =
    (g.0, r.was_open, g.2, g.3, λ h e. g.4 h (r.stays h e), λ h e. r.in_events h (g.5 h e), λ more. r.same more ∙ g.6 more, g.7, λ h e. g.8 h (r.stays h e) ∙ r.lines h e)
reached_gives (Err stops.Memory) old mid new r g = tt
reached_gives (Err (stops.Bad bad)) old mid new r g = (g.0, g.1, λ more. r.same more ∙ g.2 more)
reached_gives (Err (stops.TooLarge which)) old mid new r g = (g.0, g.1, λ more. r.same more ∙ g.2 more)

-- an ending that was met stays
pub stays_ended : (r : Reading) → r.ending ≡ Some endings.Ended → (IsInHeader r.place → ⊥) → Gives (Ok (Some items.End)) r r
stays_ended r is behind =
    let at = events_place r.place behind in
    (at.0, (at.1, is, drained, λ more. ap (λ e. unless_ended e (read_lines r.script (r.longer || ltb r.room (length more)) r.place r.lines (pieces 10 (r.rest ++ take r.room more)))) is, λ still. absurd (let no : None ≡ Some endings.Ended = sym still ∙ is in cc))) where
      drained : IsDrained r
      drained = ap (λ e. unless_ended e (read_lines r.script (r.longer || ltb r.room 0) r.place r.lines (pieces 10 (r.rest ++ take r.room [])))) is ∙ ap (λ e. stopped (ending_now r e)) (sym is)

      events_place : (place : Place) → (IsInHeader place → ⊥) → (header : Header) × (place ≡ places.Events header)
      events_place places.Version h = absurd (h tt)
      events_place places.Faults h = absurd (h tt)
      events_place (places.Lease f) h = absurd (h tt)
      events_place (places.Stale f lease) h = absurd (h tt)
      events_place (places.Agents header) h = absurd (h tt)
      events_place (places.Events header) h = (header, refl)

pub stays_stopped : (r : Reading) (stop : Stop) → r.ending ≡ Some (endings.Stopped stop) → Stops stop r r
stays_stopped r stop is = by_stop stop is where
  drained : (s : Stop) → r.ending ≡ Some (endings.Stopped s) → IsDrained r
  drained s e = ap (λ e'. unless_ended e' (read_lines r.script (r.longer || ltb r.room 0) r.place r.lines (pieces 10 (r.rest ++ take r.room [])))) e ∙ ap (λ e'. stopped (ending_now r e')) (sym e)

  gone : (s : Stop) → r.ending ≡ Some (endings.Stopped s) → (more : List ℕ) → gives r more ≡ stopped (endings.Stopped s)
  gone s e more = ap (λ e'. unless_ended e' (read_lines r.script (r.longer || ltb r.room (length more)) r.place r.lines (pieces 10 (r.rest ++ take r.room more)))) e

  by_stop : (s : Stop) → r.ending ≡ Some (endings.Stopped s) → Stops s r r
  by_stop stops.Memory e = tt
  by_stop (stops.Bad bad) e = (e, drained (stops.Bad bad) e, gone (stops.Bad bad) e)
  by_stop (stops.TooLarge which) e = (e, drained (stops.TooLarge which) e, gone (stops.TooLarge which) e)

pub take-both : (n : ℕ) (xs ys : List ℕ) → take n (xs ++ ys) ≡ take n xs ++ take (n - length xs) ys
take-both zero xs ys = ap (λ k. take k ys) (let e : 0 ≡ 0 - length xs = omega arith in e)
take-both (suc n) [] ys = ap (λ k. take k ys) (let e : suc n ≡ suc n - 0 = omega arith in e)
take-both (suc n) (x ∷ xs) ys =
    ap (λ t. x ∷ t) (take-both n xs ys) ∙ ap (λ k. (x ∷ take n xs) ++ take k ys) (let e : n - length xs ≡ suc n - length (x ∷ xs) = omega arith in e)

pub longer-both : (l : Bool) (r m n : ℕ) → (l || ltb r (m + n)) ≡ ((l || ltb r m) || ltb (r - m) n)
longer-both true r m n = refl
longer-both false r m n = grind (arith, nat_tests)

-- a piece was taken
pub fed : (old new : Reading) (piece : List ℕ) → new ≡ record old { rest = old.rest ++ take old.room piece; room = old.room - length piece; longer = old.longer || ltb old.room (length piece) } → (more : List ℕ) → gives old (piece ++ more) ≡ gives new more
fed old new piece is more =
    let room = old.room - length piece in
    let first = old.rest ++ take old.room piece in
    let longer = old.longer || ltb old.room (length piece) in
    ap (λ n. unless_ended old.ending (read_lines old.script (old.longer || ltb old.room n) old.place old.lines (pieces 10 (old.rest ++ take old.room (piece ++ more))))) (length-append piece more)
    ∙ ap (λ b. unless_ended old.ending (read_lines old.script b old.place old.lines (pieces 10 (old.rest ++ take old.room (piece ++ more))))) (longer-both old.longer old.room (length piece) (length more))
    ∙ ap (λ t. unless_ended old.ending (read_lines old.script (longer || ltb room (length more)) old.place old.lines (pieces 10 (old.rest ++ t)))) (take-both old.room piece more)
    ∙ ap (λ t. unless_ended old.ending (read_lines old.script (longer || ltb room (length more)) old.place old.lines (pieces 10 t))) (sym (append_assoc old.rest (take old.room piece) (take room more)))
    ∙ ap (λ (m : Reading). gives m more) (sym is)

-- the same of the bytes that the reader holds
pub fed_held : (old : Reading) (before after : Holding) (new : Reading) (piece : List ℕ) → (old.rest ≡ before.rest) → (old.room ≡ before.room) → (old.longer ≡ before.longer) → after ≡ with_piece before piece → new ≡ record old { rest = after.rest; room = after.room; longer = after.longer } → (more : List ℕ) → gives old (piece ++ more) ≡ gives new more
fed_held old before after new piece rest room longer is state more =
    fed old new piece (state ∙ ap (λ (h : Holding). record old { rest = h.rest; room = h.room; longer = h.longer }) (is ∙ whole)) more where
      whole : with_piece before piece ≡ record { rest = old.rest ++ take old.room piece; room = old.room - length piece; longer = old.longer || ltb old.room (length piece) }
      whole = rw (rest, room, longer) refl

-- the same over what the reader keeps
pub ended_before : (r : Reading) (kept : Option Ending) (place : Place) → kept ≡ r.ending → place ≡ r.place → kept ≡ Some endings.Ended → EndsBehindHeader kept place → Gives (Ok (Some items.End)) r r
ended_before r kept place same at is behind =
    let h : EndsBehindHeader (Some endings.Ended) r.place = subst (λ p. EndsBehindHeader (Some endings.Ended) p) at (subst (λ e. EndsBehindHeader e place) is behind) in
    stays_ended r (sym same ∙ is) h

-- a reader that met a line too long
pub long_stop : (old mid new : Reading) (found : Found) (stop : Stop) → old.ending ≡ None → Finds found old mid → found ≡ founds.LongLine → stop ≡ stops.TooLarge whichs.Line → new ≡ record mid { ending = Some (endings.Stopped (stops.TooLarge whichs.Line)) } → Stops stop old new
long_stop old mid new found stop was_open cuts found_is stop_is is =
    let h : Finds founds.LongLine old mid = subst (λ f. Finds f old mid) found_is cuts in
    subst (λ s. Stops s old new) (sym stop_is) (stopped_long old mid new was_open h.0 h.1 is)
