use Rattle.std.proofs.Common.{◌≡◌, ℕ, ◌+◌, ◌/◌, ◌%◌, ◌^◌, ◌<◌, ◌≤◌, List, [], ◌∷◌, ◌++◌, length, Bool, true, false, ◌&&◌, cond, eqb, leb, ltb, take, refl, ap, ◌∙◌, sym, arith, append_assoc, append-nil, length-append, Some, None}
use Rattle.std.specs.Prelude.{Ok, codes}
use Rattle.std.specs.Fmt.{decimal}
use Rattle.std.specs.List.{flat_map, list_all}
use Rattle.std.specs.Char.{is_ascii_digit}
use Rattle.std.proofs.lemmas.Bool.Decides.{nat_tests}
use Rattle.std.proofs.lemmas.List.{take_all}
use Rattle.std.proofs.lemmas.Fmt.{digits_decimal, decimal_digit, length-decimal-le}
use Rattle.scfs_base.specs.Limits.{input_limit, line_limit}
use Rattle.scfs_base.specs.Pieces.{onto, pieces}
use Rattle.scfs_base.specs.Words.{path_word, path_byte, hex_text, hex_word, hex_pair, hex_digit, AreBytes, stands_for_itself}
use Rattle.scfs_base.proofs.NumberLemmas.{own}
use Rattle.scfs_base.proofs.HexLemmas.{digest_of-hex_word, length-hex_word}
use Rattle.scfs_base.specs.declared.cloud.CloudAnswer.{CloudAnswer}
use Rattle.scfs_base.specs.declared.cloud.CloudAnswer.TheVariants as answers
use Rattle.scfs_schedule.specs.declared.types.Header.{Header}
use Rattle.scfs_schedule.specs.declared.types.Mode.{Mode}
use Rattle.scfs_schedule.specs.declared.types.Mode.TheVariants as modes
use Rattle.scfs_schedule.specs.declared.types.Call.{Call}
use Rattle.scfs_schedule.specs.declared.types.Call.TheVariants as calls
use Rattle.scfs_schedule.specs.declared.types.Event.{Event}
use Rattle.scfs_schedule.specs.declared.types.Event.TheVariants as events
use Rattle.scfs_schedule.specs.declared.types.Ending.TheVariants as endings
use Rattle.scfs_schedule.specs.declared.types.BadKind.TheVariants as kinds
use Rattle.scfs_schedule.specs.declared.types.Place.{Place}
use Rattle.scfs_schedule.specs.declared.types.Place.TheVariants as places
use Rattle.scfs_schedule.specs.declared.types.Said.{Said}
use Rattle.scfs_schedule.specs.declared.types.Said.TheVariants as saids
use Rattle.scfs_schedule.specs.Grammar.{in_form, number_within, mode, with_agent, agent_line, agents_said, header_number, said_by, said_of, event_said, event_of, words_of, IsHeader, IsScriptEvent}
use Rattle.scfs_schedule.specs.Text.{mode_text, call_text, answer_text, names_text, event_text, event_line, agent_text, agents_text, header_text}
use Rattle.scfs_schedule.specs.Reading.{after, read_lines, read, stopped, with_event, with_header}
use Rattle.scfs_schedule.specs.Written.{IsInRange, IsCallInRange, MayStand, AllMayStand, AreAgents, schedule_text}
use Rattle.scfs_schedule.proofs.LineLemmas.{line_behind}
use Rattle.scfs_schedule.proofs.ReadingLemmas.{line_first}
use Rattle.scfs_schedule.proofs.WrittenLemmas.{event_read, number_alone, hex_word_alone, three_alone, within_read, three_read}

-- bytes that are no line's end, nor any other control byte
IsPlain : List ℕ → Type 0
IsPlain text = list_all (leb 32) text ≡ true

head_true : (a b : Bool) → (a && b) ≡ true → a ≡ true
head_true a b h = grind (arith, nat_tests)

tail_true : (a b : Bool) → (a && b) ≡ true → b ≡ true
tail_true a b h = grind (arith, nat_tests)

and_true : (a b : Bool) → a ≡ true → b ≡ true → (a && b) ≡ true
and_true a b ha hb = grind (arith, nat_tests)

not_line_end : (b : ℕ) → leb 32 b ≡ true → eqb b 10 ≡ false
not_line_end b h = grind (arith, nat_tests)

plain_alone : (w : List ℕ) → IsPlain w → pieces 10 w ≡ w ∷ []
unfolding IsPlain
plain_alone [] h = refl
plain_alone (b ∷ w) h =
    ap (λ t. cond t ([] ∷ pieces 10 w) (onto b (pieces 10 w))) (not_line_end b (head_true (leb 32 b) (list_all (leb 32) w) h))
    ∙ ap (onto b) (plain_alone w (tail_true (leb 32 b) (list_all (leb 32) w) h))

plain_both : (v w : List ℕ) → IsPlain v → IsPlain w → IsPlain (v ++ w)
unfolding IsPlain
plain_both [] w hv hw = hw
plain_both (b ∷ v) w hv hw =
    and_true (leb 32 b) (list_all (leb 32) (v ++ w)) (head_true (leb 32 b) (list_all (leb 32) v) hv) (plain_both v w (tail_true (leb 32 b) (list_all (leb 32) v) hv) hw)

-- a word behind a space
plain_more : (v w : List ℕ) → IsPlain v → IsPlain w → IsPlain (v ++ 32 ∷ w)
unfolding IsPlain
plain_more v w hv hw = plain_both v (32 ∷ w) hv hw

digit_plain : (b : ℕ) → is_ascii_digit b ≡ true → leb 32 b ≡ true
digit_plain b h = grind (arith, nat_tests)

digits_plain : (w : List ℕ) → list_all is_ascii_digit w ≡ true → IsPlain w
unfolding IsPlain
digits_plain [] h = refl
digits_plain (b ∷ w) h =
    and_true (leb 32 b) (list_all (leb 32) w) (digit_plain b (head_true (is_ascii_digit b) (list_all is_ascii_digit w) h))
    (digits_plain w (tail_true (is_ascii_digit b) (list_all is_ascii_digit w) h))

number_plain : (n : ℕ) → n < 2 ^ 64 → IsPlain (decimal n)
number_plain n h = digits_plain (decimal n) (digits_decimal own n h)

hex_digit_plain : (n : ℕ) → leb 32 (hex_digit n) ≡ true
hex_digit_plain n = grind (arith, nat_tests)

pair_plain : (b : ℕ) (w : List ℕ) → IsPlain w → IsPlain (hex_pair b ++ w)
unfolding IsPlain hex_pair
pair_plain b w h = and_true _ _ (hex_digit_plain (b / 16)) (and_true _ _ (hex_digit_plain (b % 16)) h)

hex_word_plain : (bytes : List ℕ) → IsPlain (hex_word bytes)
unfolding IsPlain
hex_word_plain [] = refl
hex_word_plain (b ∷ bs) = pair_plain b (hex_word bs) (hex_word_plain bs)

hex_plain : (bytes : List ℕ) → IsPlain (hex_text bytes)
unfolding IsPlain
hex_plain [] = refl
hex_plain (b ∷ bs) = hex_word_plain (b ∷ bs)

itself_plain : (b : ℕ) → stands_for_itself b ≡ true → leb 32 b ≡ true
itself_plain b h = grind (arith, nat_tests)

byte_by_test : (b : ℕ) (w : List ℕ) (t : Bool) → (t ≡ true → leb 32 b ≡ true) → IsPlain w → IsPlain (cond t (b ∷ []) (37 ∷ hex_pair b) ++ w)
unfolding IsPlain
byte_by_test b w true plain h = and_true _ _ (plain refl) h
byte_by_test b w false plain h = pair_plain b w h

byte_plain : (b : ℕ) (w : List ℕ) → IsPlain w → IsPlain (path_byte b ++ w)
unfolding path_byte
byte_plain b w h = byte_by_test b w (stands_for_itself b) (itself_plain b) h

bytes_plain : (bytes : List ℕ) → IsPlain (flat_map path_byte bytes)
unfolding IsPlain
bytes_plain [] = refl
bytes_plain (b ∷ bs) = byte_plain b (flat_map path_byte bs) (bytes_plain bs)

path_plain : (bytes : List ℕ) → IsPlain (path_word bytes)
unfolding IsPlain
path_plain [] = refl
path_plain (b ∷ bs) = bytes_plain (b ∷ bs)

letter : (w : List ℕ) → list_all (leb 32) w ≡ true → IsPlain w
unfolding IsPlain
letter w h = h

call_plain : (call : Call) → IsCallInRange call → IsPlain (call_text call)
unfolding IsPlain
call_plain (calls.Mkdir p) h = path_plain p
call_plain (calls.Rmdir p) h = path_plain p
call_plain (calls.Create p) h = path_plain p
call_plain (calls.Unlink p) h = path_plain p
call_plain (calls.Stat p) h = path_plain p
call_plain (calls.List p) h = path_plain p
call_plain (calls.Rename p q) h = plain_more (path_word p) (path_word q) (path_plain p) (path_plain q)
call_plain (calls.OpenR p) h = plain_more (path_word p) (codes "r") (path_plain p) refl
call_plain (calls.OpenW p) h = plain_more (path_word p) (codes "w") (path_plain p) refl
call_plain (calls.Openat p v) h = plain_more (path_word p) (decimal v) (path_plain p) (number_plain v h.1)
call_plain (calls.Read s o n) h = plain_more (decimal s ++ 32 ∷ decimal o) (decimal n) (plain_more (decimal s) (decimal o) (number_plain s h.0) (number_plain o h.1)) (number_plain n h.2)
call_plain (calls.Write s o b) h = plain_more (decimal s ++ 32 ∷ decimal o) (hex_text b) (plain_more (decimal s) (decimal o) (number_plain s h.0) (number_plain o h.1)) (hex_plain b)
call_plain (calls.Truncate s n) h = plain_more (decimal s) (decimal n) (number_plain s h.0) (number_plain n h.1)
call_plain (calls.Close s) h = number_plain s h
call_plain calls.Sync h = refl
call_plain (calls.Versions p) h = path_plain p
call_plain (calls.Collect p) h = path_plain p
call_plain calls.Purge h = refl

names_plain : (names : List (List ℕ)) → IsPlain (names_text names)
unfolding IsPlain
names_plain [] = refl
names_plain (n ∷ ns) = plain_both (path_word n) (names_text ns) (path_plain n) (names_plain ns)

answer_plain : (answer : CloudAnswer) → IsPlain (answer_text answer)
unfolding IsPlain
answer_plain answers.Ack = refl
answer_plain answers.Absent = refl
answer_plain answers.Fail = refl
answer_plain (answers.Bytes b) = hex_plain b
answer_plain (answers.Names ns) = names_plain ns

event_plain : (event : Event) → IsInRange event → IsPlain (event_text event)
unfolding IsPlain
event_plain (events.Call a call) h = plain_more (decimal a) (call_text call) (number_plain a h.0) (call_plain call h.1)
event_plain (events.Say c answer) h = plain_more (decimal c) (answer_text answer) (number_plain c h.0) (answer_plain answer)
event_plain (events.Tick n) h = number_plain n h
event_plain (events.Space a) h = number_plain a h
event_plain (events.Later a) h = number_plain a h
event_plain (events.Told a) h = number_plain a h
event_plain (events.Serve a) h = number_plain a h
event_plain (events.Hide a) h = number_plain a h
event_plain (events.Fail a) h = number_plain a h
event_plain (events.Give a) h = number_plain a h
event_plain (events.Lose a) h = number_plain a h
event_plain (events.Drop a) h = number_plain a h
event_plain (events.Defer a) h = number_plain a h
event_plain (events.Swap a) h = number_plain a h
event_plain (events.Again a) h = number_plain a h
event_plain (events.Twice a) h = number_plain a h
event_plain (events.Turn a) h = number_plain a h
event_plain (events.Crash a) h = number_plain a h
event_plain (events.Start a) h = number_plain a h

-- what a line's words say at the events
line_says : (script : Bool) (header : Header) (event : Event) → (script ≡ true → IsScriptEvent event) → event_of header (words_of (event_text event)) ≡ Ok event → event_said script header (words_of (event_text event)) ≡ saids.Says event
line_says false header (events.Call a call) of_script is = ap (λ r. said_by r saids.Says) is
line_says false header (events.Say c answer) of_script is = ap (λ r. said_by r saids.Says) is
line_says false header (events.Tick n) of_script is = ap (λ r. said_by r saids.Says) is
line_says false header (events.Space a) of_script is = ap (λ r. said_by r saids.Says) is
line_says false header (events.Later a) of_script is = ap (λ r. said_by r saids.Says) is
line_says false header (events.Told a) of_script is = ap (λ r. said_by r saids.Says) is
line_says false header (events.Serve a) of_script is = ap (λ r. said_by r saids.Says) is
line_says false header (events.Hide a) of_script is = ap (λ r. said_by r saids.Says) is
line_says false header (events.Fail a) of_script is = ap (λ r. said_by r saids.Says) is
line_says false header (events.Give a) of_script is = ap (λ r. said_by r saids.Says) is
line_says false header (events.Lose a) of_script is = ap (λ r. said_by r saids.Says) is
line_says false header (events.Drop a) of_script is = ap (λ r. said_by r saids.Says) is
line_says false header (events.Defer a) of_script is = ap (λ r. said_by r saids.Says) is
line_says false header (events.Swap a) of_script is = ap (λ r. said_by r saids.Says) is
line_says false header (events.Again a) of_script is = ap (λ r. said_by r saids.Says) is
line_says false header (events.Twice a) of_script is = ap (λ r. said_by r saids.Says) is
line_says false header (events.Turn a) of_script is = ap (λ r. said_by r saids.Says) is
line_says false header (events.Crash a) of_script is = ap (λ r. said_by r saids.Says) is
line_says false header (events.Start a) of_script is = ap (λ r. said_by r saids.Says) is
line_says true header (events.Call a call) of_script is = ap (λ r. said_by r saids.Says) is
line_says true header (events.Tick n) of_script is = ap (λ r. said_by r saids.Says) is
line_says true header (events.Turn a) of_script is = ap (λ r. said_by r saids.Says) is
line_says true header (events.Crash a) of_script is = ap (λ r. said_by r saids.Says) is
line_says true header (events.Start a) of_script is = ap (λ r. said_by r saids.Says) is
line_says true header (events.Say c answer) of_script is = absurd (of_script refl)
line_says true header (events.Space a) of_script is = absurd (of_script refl)
line_says true header (events.Later a) of_script is = absurd (of_script refl)
line_says true header (events.Told a) of_script is = absurd (of_script refl)
line_says true header (events.Serve a) of_script is = absurd (of_script refl)
line_says true header (events.Hide a) of_script is = absurd (of_script refl)
line_says true header (events.Fail a) of_script is = absurd (of_script refl)
line_says true header (events.Give a) of_script is = absurd (of_script refl)
line_says true header (events.Lose a) of_script is = absurd (of_script refl)
line_says true header (events.Drop a) of_script is = absurd (of_script refl)
line_says true header (events.Defer a) of_script is = absurd (of_script refl)
line_says true header (events.Swap a) of_script is = absurd (of_script refl)
line_says true header (events.Again a) of_script is = absurd (of_script refl)
line_says true header (events.Twice a) of_script is = absurd (of_script refl)

-- a whole line that is not too long
step : (script longer : Bool) (place : Place) (n : ℕ) (line rest : List ℕ) (said : Said) → IsPlain line → length line ≤ line_limit → said_of script place line ≡ said → read_lines script longer place n (pieces 10 (line ++ 10 ∷ rest)) ≡ after said place (n + 1) (λ p. read_lines script longer p (n + 1) (pieces 10 rest))
step script longer place n line rest said plain short says =
    ap (read_lines script longer place n) (line_behind line rest (plain_alone line plain))
    ∙ line_first script longer place n line rest short
    ∙ ap (λ s. after s place (n + 1) (λ p. read_lines script longer p (n + 1) (pieces 10 rest))) says

-- an event that was written is the next that is read
pub event_next : (script longer : Bool) (header : Header) (n : ℕ) (event : Event) (rest : List ℕ) → MayStand script header event → read_lines script longer (places.Events header) n (pieces 10 (event_line event ++ rest)) ≡ with_event event (read_lines script longer (places.Events header) (n + 1) (pieces 10 rest))
event_next script longer header n event rest may =
    ap (λ t. read_lines script longer (places.Events header) n (pieces 10 t)) (append_assoc (event_text event) (10 ∷ []) rest)
    ∙ step script longer (places.Events header) n (event_text event) rest (saids.Says event) (event_plain event may.range) may.short
    (line_says script header event may.of_script (event_read header event may.form may.range))

end_next : (script longer : Bool) (header : Header) (n : ℕ) → read_lines script longer (places.Events header) n (pieces 10 (codes "end\n")) ≡ stopped endings.Ended
end_next script longer header n = refl

-- events that were written are read
events_read : (script longer : Bool) (header : Header) (n : ℕ) (events : List Event) → AllMayStand script header events → read_lines script longer (places.Events header) n (pieces 10 (flat_map event_line events ++ codes "end\n")) ≡ record { header = None; events = events; ending = endings.Ended }
events_read script longer header n [] all = end_next script longer header n
events_read script longer header n (event ∷ more) all =
    ap (λ t. read_lines script longer (places.Events header) n (pieces 10 t)) (append_assoc (event_line event) (flat_map event_line more) (codes "end\n"))
    ∙ event_next script longer header n event (flat_map event_line more ++ codes "end\n") all.0
    ∙ ap (with_event event) (events_read script longer header (n + 1) more all.1)

-- numbers of the header
number_short : (n : ℕ) → n < 2 ^ 64 → length (decimal n) ≤ 20
number_short n h = length-decimal-le 20 n (omega arith) (omega arith) h

short_line : (word : List ℕ) (n : ℕ) → length word ≤ 20 → n < 2 ^ 64 → length (word ++ decimal n) ≤ line_limit
short_line word n few small = omega (arith, length-append word (decimal n), number_short n small)

-- what each line of the header says
version_says : (script : Bool) → said_of script places.Version (codes "scfs 1") ≡ saids.Moves places.Faults
version_says script =
    ap (λ w. said_by (number_within 1 1 w) (λ version. saids.Moves places.Faults)) (sym (decimal_digit 1 (omega arith)))
    ∙ ap (λ r. said_by r (λ version. saids.Moves places.Faults)) (within_read 1 1 1 (omega arith) (omega arith) (omega arith))

faults_says : (script : Bool) (f : ℕ) → 1 ≤ f → f ≤ 3 → said_of script places.Faults (codes "f " ++ decimal f) ≡ saids.Moves (places.Lease f)
faults_says script f low high =
    ap (λ ws. said_by (header_number (codes "f") 1 3 (codes "f" ∷ ws)) (λ f. saids.Moves (places.Lease f))) (number_alone f (omega arith))
    ∙ ap (λ r. said_by r (λ f. saids.Moves (places.Lease f))) (within_read 1 3 f (omega arith) low high)

lease_says : (script : Bool) (f lease : ℕ) → 1 ≤ lease → lease ≤ 1000000000 → said_of script (places.Lease f) (codes "lease " ++ decimal lease) ≡ saids.Moves (places.Stale f lease)
lease_says script f lease low high =
    ap (λ ws. said_by (header_number (codes "lease") 1 1000000000 (codes "lease" ∷ ws)) (λ lease. saids.Moves (places.Stale f lease))) (number_alone lease (omega arith))
    ∙ ap (λ r. said_by r (λ lease. saids.Moves (places.Stale f lease))) (within_read 1 1000000000 lease (omega arith) low high)

stale_says : (script : Bool) (f lease stale : ℕ) → stale ≤ 1000000000 → said_of script (places.Stale f lease) (codes "stale " ++ decimal stale) ≡ saids.Moves (places.Agents (record { f = f; lease = lease; stale = stale; agents = [] }))
stale_says script f lease stale high =
    ap (λ ws. said_by (header_number (codes "stale") 0 1000000000 (codes "stale" ∷ ws)) (λ stale. saids.Moves (places.Agents (record { f = f; lease = lease; stale = stale; agents = [] })))) (number_alone stale (omega arith))
    ∙ ap (λ r. said_by r (λ stale. saids.Moves (places.Agents (record { f = f; lease = lease; stale = stale; agents = [] })))) (within_read 0 1000000000 stale (omega arith) (omega arith) high)

-- the line of an agent
agent_row : ℕ → Mode × List ℕ → List ℕ
agent_row number agent = codes "agent " ++ decimal number ++ 32 ∷ mode_text agent.0 ++ 32 ∷ hex_word agent.1

mode_alone : (m : Mode) → pieces 32 (mode_text m) ≡ mode_text m ∷ []
mode_alone modes.Blocking = refl
mode_alone modes.Nonblocking = refl
mode_alone modes.Private = refl

mode_read : (m : Mode) → mode (mode_text m) ≡ Ok m
mode_read modes.Blocking = refl
mode_read modes.Nonblocking = refl
mode_read modes.Private = refl

mode_plain : (m : Mode) → IsPlain (mode_text m)
unfolding IsPlain
mode_plain modes.Blocking = refl
mode_plain modes.Nonblocking = refl
mode_plain modes.Private = refl

mode_short : (m : Mode) → length (mode_text m) ≤ 11
mode_short modes.Blocking = omega arith
mode_short modes.Nonblocking = omega arith
mode_short modes.Private = omega arith

few_agents : (n : ℕ) → n < 8 → ltb n 8 ≡ true
few_agents n h = grind (arith, nat_tests)

some_agents : (n : ℕ) → 1 ≤ n → leb 1 n ≡ true
some_agents n h = grind (arith, nat_tests)

agent_says : (script : Bool) (header : Header) (agent : Mode × List ℕ) → length header.agents < 8 → length agent.1 ≡ 32 → AreBytes agent.1 → said_of script (places.Agents header) (agent_row (length header.agents) agent) ≡ saids.Moves (places.Agents (record header { agents = header.agents ++ agent ∷ [] }))
unfolding agent_row
agent_says script header agent few size bytes =
    let k = length header.agents in
    ap (λ ws. agents_said header (codes "agent" ∷ ws)) (three_alone (decimal k) (mode_text agent.0) (hex_word agent.1) (number_alone k (omega arith)) (mode_alone agent.0) (hex_word_alone agent.1))
    ∙ ap (λ t. cond t (said_by (agent_line header (decimal k ∷ mode_text agent.0 ∷ hex_word agent.1 ∷ [])) (λ h. saids.Moves (places.Agents h))) (saids.Wrong kinds.Order)) (few_agents k few)
    ∙ ap (λ r. said_by r (λ h. saids.Moves (places.Agents h)))
    (three_read (with_agent header) _ _ _ k agent.0 agent.1 (within_read k k k (omega arith) (omega arith) (omega arith)) (mode_read agent.0)
    (ap (in_form kinds.Hex) (digest_of-hex_word agent.1 bytes size)))

row_plain : (number : ℕ) (agent : Mode × List ℕ) → number < 2 ^ 64 → IsPlain (agent_row number agent)
unfolding IsPlain agent_row
row_plain number agent small =
    plain_more (decimal number ++ 32 ∷ mode_text agent.0) (hex_word agent.1) (plain_more (decimal number) (mode_text agent.0) (number_plain number small) (mode_plain agent.0)) (hex_word_plain agent.1)

row_short : (number : ℕ) (agent : Mode × List ℕ) → number < 2 ^ 64 → length agent.1 ≡ 32 → length (agent_row number agent) ≤ line_limit
unfolding agent_row
row_short number agent small size =
    omega (arith, length-append (decimal number ++ 32 ∷ mode_text agent.0) (32 ∷ hex_word agent.1), length-append (decimal number) (32 ∷ mode_text agent.0), number_short number small, mode_short agent.0, length-hex_word agent.1, size)

row_ends : (number : ℕ) (agent : Mode × List ℕ) (rest : List ℕ) → agent_text number agent ++ rest ≡ agent_row number agent ++ 10 ∷ rest
unfolding agent_row
row_ends number agent rest = append_assoc (agent_row number agent) (10 ∷ []) rest

-- agents that were written are read
agents_read : (script longer : Bool) (header : Header) (front rest : List (Mode × List ℕ)) (n : ℕ) (text : List ℕ) → length front + length rest ≤ 8 → AreAgents rest → read_lines script longer (places.Agents (record header { agents = front })) n (pieces 10 (agents_text (length front) rest ++ text)) ≡ read_lines script longer (places.Agents (record header { agents = front ++ rest })) (n + length rest) (pieces 10 text)
agents_read script longer header front [] n text few are =
    ap (λ agents. read_lines script longer (places.Agents (record header { agents = agents })) n (pieces 10 text)) (sym (append-nil front))
    ∙ ap (λ k. read_lines script longer (places.Agents (record header { agents = front ++ [] })) k (pieces 10 text)) (let e : n ≡ n + 0 = omega arith in e)
agents_read script longer header front (agent ∷ rest) n text few are =
    let k = length front in
    let here : Header = record header { agents = front } in
    let next = front ++ agent ∷ [] in
    let behind = agents_text (k + 1) rest ++ text in
    let count : k + 1 ≡ length next = sym (length-append front (agent ∷ [])) in
    ap (λ t. read_lines script longer (places.Agents here) n (pieces 10 t)) (append_assoc (agent_text k agent) (agents_text (k + 1) rest) text ∙ row_ends k agent behind)
    ∙ step script longer (places.Agents here) n (agent_row k agent) behind (saids.Moves (places.Agents (record header { agents = next })))
    (row_plain k agent (omega arith)) (row_short k agent (omega arith) are.0) (agent_says script here agent (omega arith) are.0 are.1)
    ∙ ap (λ m. read_lines script longer (places.Agents (record header { agents = next })) (n + 1) (pieces 10 (agents_text m rest ++ text))) count
    ∙ agents_read script longer header next rest (n + 1) text (omega (arith, count)) are.2
    ∙ ap (λ agents. read_lines script longer (places.Agents (record header { agents = agents })) ((n + 1) + length rest) (pieces 10 text)) (append_assoc front (agent ∷ []) rest)
    ∙ ap (λ m. read_lines script longer (places.Agents (record header { agents = front ++ agent ∷ rest })) m (pieces 10 text)) (let e : (n + 1) + length rest ≡ n + length (agent ∷ rest) = omega arith in e)

begin_says : (script : Bool) (header : Header) → 1 ≤ length header.agents → said_of script (places.Agents header) (codes "begin") ≡ saids.Begins header
begin_says script header some = ap (λ t. cond t (saids.Begins header) (saids.Wrong kinds.Order)) (some_agents (length header.agents) some)

-- the header's lines, one after another
in_rows : (header : Header) (rest : List ℕ) → header_text header ++ rest ≡ codes "scfs 1" ++ 10 ∷ ((codes "f " ++ decimal header.f) ++ 10 ∷ ((codes "lease " ++ decimal header.lease) ++ 10 ∷ ((codes "stale " ++ decimal header.stale) ++ 10 ∷ (agents_text 0 header.agents ++ (codes "begin" ++ 10 ∷ rest)))))
in_rows header rest = simp append_assoc

plain_word : (word : List ℕ) (n : ℕ) → list_all (leb 32) word ≡ true → n < 2 ^ 64 → IsPlain (word ++ decimal n)
unfolding IsPlain
plain_word word n plain small = plain_both word (decimal n) plain (number_plain n small)

-- a header that was written is read
pub header_next : (script longer : Bool) (header : Header) (rest : List ℕ) → IsHeader header → AreAgents header.agents → read_lines script longer places.Version 0 (pieces 10 (header_text header ++ rest)) ≡ with_header header (read_lines script longer (places.Events header) (length header.agents + 5) (pieces 10 rest))
header_next script longer header rest is are =
    let tail = agents_text 0 header.agents ++ (codes "begin" ++ 10 ∷ rest) in
    let from_stale = (codes "stale " ++ decimal header.stale) ++ 10 ∷ tail in
    let from_lease = (codes "lease " ++ decimal header.lease) ++ 10 ∷ from_stale in
    let from_f = (codes "f " ++ decimal header.f) ++ 10 ∷ from_lease in
    let small_f : header.f < 2 ^ 64 = omega (arith, is.f.1) in
    let small_lease : header.lease < 2 ^ 64 = omega (arith, is.lease.1) in
    let small_stale : header.stale < 2 ^ 64 = omega (arith, is.stale) in
    let first : Header = record { f = header.f; lease = header.lease; stale = header.stale; agents = [] } in
    ap (λ t. read_lines script longer places.Version 0 (pieces 10 t)) (in_rows header rest)
    ∙ step script longer places.Version 0 (codes "scfs 1") from_f (saids.Moves places.Faults) (letter (codes "scfs 1") refl) (omega arith) (version_says script)
    ∙ step script longer places.Faults 1 (codes "f " ++ decimal header.f) from_lease (saids.Moves (places.Lease header.f)) (plain_word (codes "f ") header.f refl small_f) (short_line (codes "f ") header.f (omega arith) small_f) (faults_says script header.f is.f.0 is.f.1)
    ∙ step script longer (places.Lease header.f) 2 (codes "lease " ++ decimal header.lease) from_stale (saids.Moves (places.Stale header.f header.lease)) (plain_word (codes "lease ") header.lease refl small_lease) (short_line (codes "lease ") header.lease (omega arith) small_lease) (lease_says script header.f header.lease is.lease.0 is.lease.1)
    ∙ step script longer (places.Stale header.f header.lease) 3 (codes "stale " ++ decimal header.stale) tail (saids.Moves (places.Agents first)) (plain_word (codes "stale ") header.stale refl small_stale) (short_line (codes "stale ") header.stale (omega arith) small_stale) (stale_says script header.f header.lease header.stale is.stale)
    ∙ agents_read script longer first [] header.agents 4 (codes "begin" ++ 10 ∷ rest) (omega (arith, is.agents.1)) are
    ∙ step script longer (places.Agents header) (4 + length header.agents) (codes "begin") rest (saids.Begins header) (letter (codes "begin") refl) (omega arith) (begin_says script header is.agents.0)
    ∙ ap (λ n. with_header header (read_lines script longer (places.Events header) n (pieces 10 rest))) (let e : (4 + length header.agents) + 1 ≡ length header.agents + 5 = omega arith in e)

within_limit : (text : List ℕ) → length text ≤ input_limit → (ltb input_limit (length text) ≡ false) × (take input_limit text ≡ text)
within_limit text few = (not_above (length text) few, take_all input_limit text few) where
  not_above : (n : ℕ) → n ≤ input_limit → ltb input_limit n ≡ false
  not_above n few = grind (arith, nat_tests)

-- a text that was written is read
pub schedule_read : (script : Bool) (header : Header) (events : List Event) → IsHeader header → AreAgents header.agents → AllMayStand script header events → length (schedule_text header events) ≤ input_limit → read script (schedule_text header events) ≡ record { header = Some header; events = events; ending = endings.Ended }
schedule_read script header events is are may few =
    let text = schedule_text header events in
    let whole = within_limit text few in
    ap (λ b. read_lines script b places.Version 0 (pieces 10 (take input_limit text))) whole.0
    ∙ ap (λ t. read_lines script false places.Version 0 (pieces 10 t)) whole.1
    ∙ header_next script false header (flat_map event_line events ++ codes "end\n") is are
    ∙ ap (with_header header) (events_read script false header (length header.agents + 5) events may)
