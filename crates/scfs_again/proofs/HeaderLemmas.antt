-- The header that a script says has the values that a header's lines allow.
use Rattle.std.proofs.Common.{◌≡◌, ◌≤◌, ◌<◌, ℕ, ◌+◌, List, [], ◌∷◌, refl, subst, Bool, true, false, ◌&&◌, not, cond, Option, Some, None, Result, Ok, Err, arith, length, length-append}
use Rattle.std.proofs.lemmas.Bool.{leb-true}
use Rattle.std.specs.Prelude.{codes, nat_le, nat_lt, take}
use Rattle.std.specs.Str.{bytes_eq}
use Rattle.scfs_base.specs.Limits.{input_limit}
use Rattle.scfs_base.specs.Pieces.{pieces}
use Rattle.scfs_base.specs.Words.{number_of}
use Rattle.scfs_schedule.specs.Grammar.{IsHeader, agent_line, agents_said, all_three, begin_said, end_said, event_named, event_said, header_number, in_form, is_script_word, mode, number_within, only_number, ranged, said_by, said_of, seed, with_agent, words_of}
use Rattle.scfs_schedule.specs.Reading.{Read, after, bad_line, is_too_long, long_line, read, read_lines, stopped, unfinished}
use Rattle.scfs_schedule.specs.declared.types.BadKind.{BadKind}
use Rattle.scfs_schedule.specs.declared.types.BadKind.TheVariants as kinds
use Rattle.scfs_schedule.specs.declared.types.Ending.{Ending}
use Rattle.scfs_schedule.specs.declared.types.Ending.TheVariants as endings
use Rattle.scfs_schedule.specs.declared.types.Header.{Header}
use Rattle.scfs_schedule.specs.declared.types.Mode.{Mode}
use Rattle.scfs_schedule.specs.declared.types.Place.{Place}
use Rattle.scfs_schedule.specs.declared.types.Place.TheVariants as places
use Rattle.scfs_schedule.specs.declared.types.Said.{Said}
use Rattle.scfs_schedule.specs.declared.types.Said.TheVariants as saids

-- tests that hold
both_true : (a b : Bool) → (a && b) ≡ true → (a ≡ true) × (b ≡ true)
both_true true b is = (refl, is)
both_true false b is = cc

-- a number that is read is in its range

abbrev IsWithin : (low high n : ℕ) → Type 0
IsWithin low high n = (low ≤ n) × (n ≤ high)

by_range : (low high m n : ℕ) (t : Bool) → (nat_le low m && nat_le m high) ≡ t → in_form kinds.Number (cond t (Some m) None) ≡ Ok n → IsWithin low high n
by_range low high m n true test is =
    let same : m ≡ n = cc in
    let tests = both_true (nat_le low m) (nat_le m high) test in
    subst (IsWithin low high) same (leb-true low m tests.0, leb-true m high tests.1)
by_range low high m n false test is = cc

in_range : (low high : ℕ) (o : Option ℕ) (n : ℕ) → in_form kinds.Number (ranged low high o) ≡ Ok n → IsWithin low high n
in_range low high None n is = cc
in_range low high (Some m) n is = by_range low high m n (nat_le low m && nat_le m high) refl is

only_in_range : (low high : ℕ) (words : List (List ℕ)) (n : ℕ) → only_number low high words ≡ Ok n → IsWithin low high n
only_in_range low high [] n is = cc
only_in_range low high (word ∷ []) n is = in_range low high (number_of word) n is
only_in_range low high (word ∷ next ∷ words) n is = cc

by_name : (low high : ℕ) (words : List (List ℕ)) (n : ℕ) (t : Bool) → cond t (only_number low high words) (Err kinds.Order) ≡ Ok n → IsWithin low high n
by_name low high words n true is = only_in_range low high words n is
by_name low high words n false is = cc

header_in_range : (name : List ℕ) (low high : ℕ) (words : List (List ℕ)) (n : ℕ) → header_number name low high words ≡ Ok n → IsWithin low high n
header_in_range name low high [] n is = cc
header_in_range name low high (word ∷ words) n is = by_name low high words n (bytes_eq word name) is

-- what is known of a header so far, at a place in its lines

abbrev HasValues : Header → Type 0
HasValues header = IsWithin 1 3 header.f × IsWithin 1 1000000000 header.lease × (header.stale ≤ 1000000000)

abbrev IsSoFar : Place → Type 0
IsSoFar (places.Lease f) = IsWithin 1 3 f
IsSoFar (places.Stale f lease) = IsWithin 1 3 f × IsWithin 1 1000000000 lease
IsSoFar (places.Agents header) = HasValues header × (length header.agents ≤ 8)
IsSoFar other = Unit {0}

-- what a line may say: behind the header neither that it goes on nor that it ends
abbrev Says : Place → Said → Type 0
Says (places.Events header) (saids.Moves next) = ⊥
Says (places.Events header) (saids.Begins h) = ⊥
Says place (saids.Moves next) = IsSoFar next
Says place (saids.Begins h) = IsHeader h
Says place other = Unit {0}

-- the header's lines

abbrev OfHeader : Said → Type 0
OfHeader x = Says places.Version x

said_so : {X : Type 0} (r : Result X BadKind) (f : X → Said) → ((x : X) → r ≡ Ok x → OfHeader (f x)) → OfHeader (said_by r f)
said_so (Ok x) f each = each x refl
said_so (Err kind) f each = tt

begin_so : (header : Header) (words : List (List ℕ)) → IsHeader header → OfHeader (begin_said header words)
begin_so header [] is = is
begin_so header (word ∷ words) is = tt

joined : (header : Header) (a : Result ℕ BadKind) (b : Result Mode BadKind) (c : Result (List ℕ) BadKind) (h : Header) → all_three (with_agent header) a b c ≡ Ok h
    → (number : ℕ) × (m : Mode) × (s : List ℕ) × (with_agent header number m s ≡ h)
joined header (Ok number) (Ok m) (Ok s) h is = (number, m, s, cc)
joined header (Ok number) (Ok m) (Err kind) h is = cc
joined header (Ok number) (Err kind) c h is = cc
joined header (Err kind) b c h is = cc

agent_joined : (header : Header) (words : List (List ℕ)) (h : Header) → agent_line header words ≡ Ok h
    → (number : ℕ) × (m : Mode) × (s : List ℕ) × (with_agent header number m s ≡ h)
agent_joined header [] h is = cc
agent_joined header (a ∷ []) h is = cc
agent_joined header (a ∷ m ∷ []) h is = cc
agent_joined header (a ∷ m ∷ s ∷ []) h is = joined header (number_within (length header.agents) (length header.agents) a) (mode m) (seed s) h is
agent_joined header (a ∷ m ∷ s ∷ more ∷ words) h is = cc

one_more : (header : Header) (words : List (List ℕ)) (h : Header) → HasValues header → length header.agents < 8 → agent_line header words ≡ Ok h
    → IsSoFar (places.Agents h)
one_more header words h values few is =
    let j = agent_joined header words h is in
    subst (λ x. IsSoFar (places.Agents x)) j.3 (values, omega (arith, few, length-append header.agents ((j.1, j.2) ∷ [])))

agents_by : (header : Header) (words : List (List ℕ)) (first next : Bool) (t u : Bool) → HasValues header → length header.agents ≤ 8
    → (first && nat_lt (length header.agents) 8) ≡ t → (next && nat_le 1 (length header.agents)) ≡ u
    → OfHeader (cond t (said_by (agent_line header words) (λ h. saids.Moves (places.Agents h))) (cond u (begin_said header words) (saids.Wrong kinds.Order)))
agents_by header words first next true u values few test other =
    let more = leb-true _ _ (both_true first (nat_lt (length header.agents) 8) test).1 in
    said_so (agent_line header words) (λ h. saids.Moves (places.Agents h)) (λ h is. one_more header words h values more is)
agents_by header words first next false true values few test other =
    let some = leb-true 1 (length header.agents) (both_true next (nat_le 1 (length header.agents)) other).1 in
    begin_so header words (record { f = values.0; lease = values.1; stale = values.2; agents = (some, few) })
agents_by header words first next false false values few test other = tt

agents_so : (header : Header) (words : List (List ℕ)) → IsSoFar (places.Agents header) → OfHeader (agents_said header words)
agents_so header [] so = tt
agents_so header (word ∷ words) so =
    agents_by header words (bytes_eq word (codes "agent")) (bytes_eq word (codes "begin")) _ _ so.0 so.1 refl refl

-- the lines behind it

end_so : (header : Header) (words : List (List ℕ)) → Says (places.Events header) (end_said words)
end_so header [] = tt
end_so header (word ∷ words) = tt

named_so : (header : Header) {X : Type 0} (r : Result X BadKind) (f : X → Said) → ((x : X) → Says (places.Events header) (f x)) → Says (places.Events header) (said_by r f)
named_so header (Ok x) f each = each x
named_so header (Err kind) f each = tt

event_by : (header : Header) (word : List ℕ) (words : List (List ℕ)) (t u : Bool)
    → Says (places.Events header) (cond t (end_said words) (cond u (saids.Wrong kinds.Word) (said_by (event_named header word words) saids.Says)))
event_by header word words true u = end_so header words
event_by header word words false true = tt
event_by header word words false false = named_so header (event_named header word words) saids.Says (λ event. tt)

event_so : (header : Header) (words : List (List ℕ)) → Says (places.Events header) (event_said true header words)
event_so header [] = tt
event_so header (word ∷ words) = event_by header word words (bytes_eq word (codes "end")) (true && not (is_script_word word))

line_so : (place : Place) (line : List ℕ) → IsSoFar place → Says place (said_of true place line)
line_so places.Version line so = said_so (header_number (codes "scfs") 1 1 (words_of line)) (λ version. saids.Moves places.Faults) (λ x is. tt)
line_so places.Faults line so =
    said_so (header_number (codes "f") 1 3 (words_of line)) (λ f. saids.Moves (places.Lease f)) (λ f is. header_in_range (codes "f") 1 3 (words_of line) f is)
line_so (places.Lease f) line so =
    said_so (header_number (codes "lease") 1 1000000000 (words_of line)) (λ lease. saids.Moves (places.Stale f lease))
    (λ lease is. (so, header_in_range (codes "lease") 1 1000000000 (words_of line) lease is))
line_so (places.Stale f lease) line so =
    said_so (header_number (codes "stale") 0 1000000000 (words_of line))
    (λ stale. saids.Moves (places.Agents (record { f = f; lease = lease; stale = stale; agents = [] })))
    (λ stale is. ((so.0, so.1, (header_in_range (codes "stale") 0 1000000000 (words_of line) stale is).1), omega arith))
line_so (places.Agents header) line so = agents_so header (words_of line) so
line_so (places.Events header) line so = event_so header (words_of line)

-- what was read from a place on

abbrev HasHeader : Read → Type 0
HasHeader r = (header : Header) → r.header ≡ Some header → IsHeader header

nothing_read : (ending : Ending) → HasHeader (stopped ending)
nothing_read ending header is = cc

-- of the lines behind the header none says one
abbrev HasNoOther : Place → Read → Type 0
HasNoOther (places.Events h) r = r.header ≡ None
HasNoOther place r = HasHeader r

stopped_so : (place : Place) (ending : Ending) → HasNoOther place (stopped ending)
stopped_so (places.Events h) ending = refl
stopped_so places.Version ending = nothing_read ending
stopped_so places.Faults ending = nothing_read ending
stopped_so (places.Lease f) ending = nothing_read ending
stopped_so (places.Stale f lease) ending = nothing_read ending
stopped_so (places.Agents h) ending = nothing_read ending

moved_so : (next : Place) (r : Read) → HasNoOther next r → HasHeader r
moved_so (places.Events h) r none header is = cc
moved_so places.Version r so header is = so header is
moved_so places.Faults r so header is = so header is
moved_so (places.Lease f) r so header is = so header is
moved_so (places.Stale f lease) r so header is = so header is
moved_so (places.Agents h) r so header is = so header is

begun_so : (h : Header) (r : Read) → IsHeader h → HasHeader (record r { header = Some h })
begun_so h r is header same = let e : h ≡ header = cc in subst IsHeader e is

header_after : (x : Said) (place : Place) (n : ℕ) (rest : Place → Read) → OfHeader x → ((p : Place) → IsSoFar p → HasNoOther p (rest p)) → HasHeader (rest place)
    → HasHeader (after x place n rest)
header_after (saids.Moves next) place n rest so later here = moved_so next (rest next) (later next so)
header_after (saids.Begins h) place n rest so later here = begun_so h (rest (places.Events h)) so
header_after (saids.Says event) place n rest so later here = here
header_after saids.Ends place n rest so later here = nothing_read endings.Ended
header_after (saids.Wrong kind) place n rest so later here = nothing_read (bad_line n kind)

events_after : (h : Header) (x : Said) (n : ℕ) (rest : Place → Read) → Says (places.Events h) x → (rest (places.Events h)).header ≡ None
    → (after x (places.Events h) n rest).header ≡ None
events_after h (saids.Moves next) n rest so none = absurd so
events_after h (saids.Begins other) n rest so none = absurd so
events_after h (saids.Says event) n rest so none = none
events_after h saids.Ends n rest so none = refl
events_after h (saids.Wrong kind) n rest so none = refl

after_so : (place : Place) (x : Said) (n : ℕ) (rest : Place → Read) → IsSoFar place → Says place x → ((p : Place) → IsSoFar p → HasNoOther p (rest p))
    → HasNoOther place (after x place n rest)
after_so (places.Events h) x n rest here so later = events_after h x n rest so (later (places.Events h) tt)
after_so places.Version x n rest here so later = header_after x places.Version n rest so later (later places.Version tt)
after_so places.Faults x n rest here so later = header_after x places.Faults n rest so later (later places.Faults tt)
after_so (places.Lease f) x n rest here so later = header_after x (places.Lease f) n rest so later (later (places.Lease f) here)
after_so (places.Stale f lease) x n rest here so later = header_after x (places.Stale f lease) n rest so later (later (places.Stale f lease) here)
after_so (places.Agents h) x n rest here so later = header_after x (places.Agents h) n rest so later (later (places.Agents h) here)

by_length : (place : Place) (t : Bool) (r : Read) → HasNoOther place r → HasNoOther place (cond t long_line r)
by_length place true r so = stopped_so place _
by_length place false r so = so

reads_so : (longer : Bool) (ps : List (List ℕ)) (place : Place) (n : ℕ) → IsSoFar place → HasNoOther place (read_lines true longer place n ps)
reads_so longer [] place n so = stopped_so place (unfinished longer (n + 1))
reads_so longer (last ∷ []) place n so = by_length place (is_too_long last) (stopped (unfinished longer (n + 1))) (stopped_so place (unfinished longer (n + 1)))
reads_so longer (line ∷ next ∷ rest) place n so =
    let later = λ (p : Place). read_lines true longer p (n + 1) (next ∷ rest) in
    by_length place (is_too_long line) (after (said_of true place line) place (n + 1) later)
    (after_so place (said_of true place line) (n + 1) later so (line_so place line so) (λ p there. reads_so longer (next ∷ rest) p (n + 1) there))

pub header_of_script : (text : List ℕ) (header : Header) → (read true text).header ≡ Some header → IsHeader header
header_of_script text = reads_so (nat_lt input_limit (length text)) (pieces 10 (take input_limit text)) places.Version 0 tt
