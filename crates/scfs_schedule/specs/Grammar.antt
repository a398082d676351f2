use Rattle.std.specs.Prelude.{ℕ, ◌+◌, ◌-◌, ◌*◌, ◌<◌, ◌≤◌, List, [], ◌∷◌, ◌++◌, codes, Bool, ◌&&◌, ◌||◌, not, nat_lt, nat_le, ◌==◌, if◌then◌else◌, Option, Some, None, Result, Ok, Err, length}
use Rattle.std.specs.Str.{bytes_eq}
use Rattle.scfs_base.specs.Limits.{names_limit}
use Rattle.scfs_base.specs.Pieces.{pieces}
use Rattle.scfs_base.specs.Words.{number_of, path_of, hex_of, digest_of}
use Rattle.scfs_base.specs.declared.cloud.CloudAnswer.{CloudAnswer}
use Rattle.scfs_base.specs.declared.cloud.CloudAnswer.TheVariants as answers
use Rattle.scfs_schedule.specs.declared.types.Mode.{Mode}
use Rattle.scfs_schedule.specs.declared.types.Mode.TheVariants as modes
use Rattle.scfs_schedule.specs.declared.types.Header.{Header}
use Rattle.scfs_schedule.specs.declared.types.Call.{Call}
use Rattle.scfs_schedule.specs.declared.types.Call.TheVariants as calls
use Rattle.scfs_schedule.specs.declared.types.Event.{Event}
use Rattle.scfs_schedule.specs.declared.types.Event.TheVariants as events
use Rattle.scfs_schedule.specs.declared.types.BadKind.{BadKind}
use Rattle.scfs_schedule.specs.declared.types.BadKind.TheVariants as kinds
use Rattle.scfs_schedule.specs.declared.types.Place.{Place}
use Rattle.scfs_schedule.specs.declared.types.Place.TheVariants as places
use Rattle.scfs_schedule.specs.declared.types.Said.{Said}
use Rattle.scfs_schedule.specs.declared.types.Said.TheVariants as saids
use Rattle.scfs_schedule.specs.declared.tables.AgentWord.{AgentWord}
use Rattle.scfs_schedule.specs.declared.tables.AgentWord.TheVariants as agent_words
use Rattle.scfs_schedule.specs.declared.tables.CloudWord.{CloudWord}
use Rattle.scfs_schedule.specs.declared.tables.CloudWord.TheVariants as cloud_words
use Rattle.scfs_schedule.specs.declared.tables.CallWord.{CallWord}
use Rattle.scfs_schedule.specs.declared.tables.CallWord.TheVariants as call_words
use Rattle.scfs_schedule.specs.declared.tables.AnswerWord.{AnswerWord}
use Rattle.scfs_schedule.specs.declared.tables.AnswerWord.TheVariants as answer_words
use Rattle.scfs_schedule.specs.Tables.{agent_word, cloud_word, call_word, words_of_call, answer_word, may_follow}

-- the words of a line: what single spaces part
abbrev pub words_of : List ℕ → List (List ℕ)
words_of line = pieces 32 line

-- what a word spells, or the kind of its fault where it spells nothing of its form
abbrev pub in_form : {A : Type 0} → BadKind → Option A → Result A BadKind
in_form kind None = Err kind
in_form kind (Some x) = Ok x

-- what is made of something in form
abbrev pub made : {A B : Type 0} → (A → B) → Result A BadKind → Result B BadKind
made f (Ok x) = Ok (f x)
made f (Err kind) = Err kind

-- what is made of two words: the first from the left that is not in form decides
abbrev pub both : {A B C : Type 0} → (A → B → C) → Result A BadKind → Result B BadKind → Result C BadKind
both f (Ok x) second = made (f x) second
both f (Err kind) second = Err kind

-- the same of three
abbrev pub all_three : {A B C D : Type 0} → (A → B → C → D) → Result A BadKind → Result B BadKind → Result C BadKind → Result D BadKind
all_three f (Ok x) second third = both (f x) second third
all_three f (Err kind) second third = Err kind

-- a number of a range, both ends within
abbrev pub ranged : ℕ → ℕ → Option ℕ → Option ℕ
ranged low high None = None
ranged low high (Some n) = if nat_le low n && nat_le n high then Some n else None

abbrev pub number : List ℕ → Result ℕ BadKind
number word = in_form kinds.Number (number_of word)

abbrev pub number_within : ℕ → ℕ → List ℕ → Result ℕ BadKind
number_within low high word = in_form kinds.Number (ranged low high (number_of word))

abbrev pub path : List ℕ → Result (List ℕ) BadKind
path word = in_form kinds.Path (path_of word)

abbrev pub hex : List ℕ → Result (List ℕ) BadKind
hex word = in_form kinds.Hex (hex_of word)

-- an agent of the header
abbrev pub agent : Header → List ℕ → Result ℕ BadKind
agent header word = number_within 0 (length header.agents - 1) word

-- one of the 3f + 1 clouds
abbrev pub cloud : Header → List ℕ → Result ℕ BadKind
cloud header word = number_within 0 (3 * header.f) word

-- a path, opened to read or to write
abbrev pub opened : Result (List ℕ) BadKind → List ℕ → Result Call BadKind
opened (Ok path) word =
    if bytes_eq word (codes "r") then Ok (calls.OpenR path) else (if bytes_eq word (codes "w") then Ok (calls.OpenW path) else Err kinds.Word)
opened (Err kind) word = Err kind

-- the call of this word with the words that follow it
abbrev pub call_of : CallWord → List (List ℕ) → Result Call BadKind
call_of call_words.Mkdir (p ∷ []) = made calls.Mkdir (path p)
call_of call_words.Rmdir (p ∷ []) = made calls.Rmdir (path p)
call_of call_words.Create (p ∷ []) = made calls.Create (path p)
call_of call_words.Unlink (p ∷ []) = made calls.Unlink (path p)
call_of call_words.Stat (p ∷ []) = made calls.Stat (path p)
call_of call_words.List (p ∷ []) = made calls.List (path p)
call_of call_words.Versions (p ∷ []) = made calls.Versions (path p)
call_of call_words.Collect (p ∷ []) = made calls.Collect (path p)
call_of call_words.Close (session ∷ []) = made calls.Close (number session)
call_of call_words.Rename (p ∷ q ∷ []) = both calls.Rename (path p) (path q)
call_of call_words.Open (p ∷ word ∷ []) = opened (path p) word
call_of call_words.Openat (p ∷ version ∷ []) = both calls.Openat (path p) (number version)
call_of call_words.Truncate (session ∷ size ∷ []) = both calls.Truncate (number session) (number size)
call_of call_words.Read (session ∷ offset ∷ count ∷ []) = all_three calls.Read (number session) (number offset) (number count)
call_of call_words.Write (session ∷ offset ∷ bytes ∷ []) = all_three calls.Write (number session) (number offset) (hex bytes)
call_of call_words.Sync [] = Ok calls.Sync
call_of call_words.Purge [] = Ok calls.Purge
call_of word words = Err kinds.Word

-- an agent's call; its word and the number of words are tested before the form of any word
abbrev pub named_call : Header → List ℕ → Option CallWord → List (List ℕ) → Result Event BadKind
named_call header a None words = Err kinds.Word
named_call header a (Some word) words =
    if length words == words_of_call word then both events.Call (agent header a) (call_of word words) else Err kinds.Word

abbrev pub call_event : Header → List (List ℕ) → Result Event BadKind
call_event header (a ∷ word ∷ words) = named_call header a (call_word word) words
call_event header words = Err kinds.Word

abbrev pub names : List (List ℕ) → Result (List (List ℕ)) BadKind
names [] = Ok []
names (word ∷ words) = both (λ first others. first ∷ others) (path word) (names words)

-- the answer of this word with the words that follow it
abbrev pub answer_of : AnswerWord → List (List ℕ) → Result CloudAnswer BadKind
answer_of answer_words.Ack [] = Ok answers.Ack
answer_of answer_words.Absent [] = Ok answers.Absent
answer_of answer_words.Fail [] = Ok answers.Fail
answer_of answer_words.Bytes (bytes ∷ []) = made answers.Bytes (hex bytes)
answer_of answer_words.Names words = made answers.Names (names words)
answer_of word words = Err kinds.Word

-- an answer that a cloud is to give
abbrev pub named_answer : Header → List ℕ → Option AnswerWord → List (List ℕ) → Result Event BadKind
named_answer header c None words = Err kinds.Word
named_answer header c (Some word) words =
    if may_follow word (length words) then both events.Say (cloud header c) (answer_of word words) else Err kinds.Word

abbrev pub say_event : Header → List (List ℕ) → Result Event BadKind
say_event header (c ∷ word ∷ words) = named_answer header c (answer_word word) words
say_event header words = Err kinds.Word

abbrev pub tick_event : List (List ℕ) → Result Event BadKind
tick_event (ticks ∷ []) = made events.Tick (number_within 1 1000000000 ticks)
tick_event words = Err kinds.Word

abbrev pub agent_event : AgentWord → ℕ → Event
agent_event agent_words.Space = events.Space
agent_event agent_words.Later = events.Later
agent_event agent_words.Told = events.Told
agent_event agent_words.Turn = events.Turn
agent_event agent_words.Crash = events.Crash
agent_event agent_words.Start = events.Start

abbrev pub cloud_event : CloudWord → ℕ → Event
cloud_event cloud_words.Serve = events.Serve
cloud_event cloud_words.Hide = events.Hide
cloud_event cloud_words.Fail = events.Fail
cloud_event cloud_words.Give = events.Give
cloud_event cloud_words.Lose = events.Lose
cloud_event cloud_words.Drop = events.Drop
cloud_event cloud_words.Defer = events.Defer
cloud_event cloud_words.Swap = events.Swap
cloud_event cloud_words.Again = events.Again
cloud_event cloud_words.Twice = events.Twice

-- an event of one number
abbrev pub actor_event : Header → Option AgentWord → Option CloudWord → List (List ℕ) → Result Event BadKind
actor_event header (Some word) other (a ∷ []) = made (agent_event word) (agent header a)
actor_event header None (Some word) (c ∷ []) = made (cloud_event word) (cloud header c)
actor_event header first second words = Err kinds.Word

-- the event of a first word with the words that follow it
abbrev pub event_named : Header → List ℕ → List (List ℕ) → Result Event BadKind
event_named header word words =
    if bytes_eq word (codes "call") then call_event header words
    else (if bytes_eq word (codes "say") then say_event header words
    else (if bytes_eq word (codes "tick") then tick_event words
    else actor_event header (agent_word word) (cloud_word word) words))

-- the event that a line's words state, or why they state none
abbrev pub event_of : Header → List (List ℕ) → Result Event BadKind
event_of header [] = Err kinds.Word
event_of header (word ∷ words) = event_named header word words

-- the first words that a script may have
abbrev pub is_script_word : List ℕ → Bool
is_script_word word =
    bytes_eq word (codes "call") || (bytes_eq word (codes "turn") || (bytes_eq word (codes "tick")
    || (bytes_eq word (codes "crash") || bytes_eq word (codes "start"))))

-- what follows from a word's meaning, where it has one
abbrev pub said_by : {A : Type 0} → Result A BadKind → (A → Said) → Said
said_by (Err kind) f = saids.Wrong kind
said_by (Ok x) f = f x

abbrev pub end_said : List (List ℕ) → Said
end_said [] = saids.Ends
end_said words = saids.Wrong kinds.Word

-- what the words of a line behind the header say, in a schedule or in a script
abbrev pub event_said : Bool → Header → List (List ℕ) → Said
event_said script header [] = saids.Wrong kinds.Word
event_said script header (word ∷ words) =
    if bytes_eq word (codes "end") then end_said words
    else (if script && not (is_script_word word) then saids.Wrong kinds.Word
    else said_by (event_named header word words) saids.Says)

-- one number of a range
abbrev pub only_number : ℕ → ℕ → List (List ℕ) → Result ℕ BadKind
only_number low high (word ∷ []) = number_within low high word
only_number low high words = Err kinds.Word

-- the number of a header line that begins with this word
abbrev pub header_number : List ℕ → ℕ → ℕ → List (List ℕ) → Result ℕ BadKind
header_number name low high [] = Err kinds.Order
header_number name low high (word ∷ words) = if bytes_eq word name then only_number low high words else Err kinds.Order

abbrev pub mode : List ℕ → Result Mode BadKind
mode word =
    if bytes_eq word (codes "blocking") then Ok modes.Blocking
    else (if bytes_eq word (codes "nonblocking") then Ok modes.Nonblocking
    else (if bytes_eq word (codes "private") then Ok modes.Private else Err kinds.Word))

abbrev pub seed : List ℕ → Result (List ℕ) BadKind
seed word = in_form kinds.Hex (digest_of word)

-- the header with one more agent; its number is only tested
abbrev pub with_agent : Header → ℕ → Mode → List ℕ → Header
with_agent header number mode seed = record header { agents = header.agents ++ (mode, seed) ∷ [] }

-- the line of the next agent, behind its first word
abbrev pub agent_line : Header → List (List ℕ) → Result Header BadKind
agent_line header (a ∷ m ∷ s ∷ []) =
    all_three (with_agent header) (number_within (length header.agents) (length header.agents) a) (mode m) (seed s)
agent_line header words = Err kinds.Word

abbrev pub begin_said : Header → List (List ℕ) → Said
begin_said header [] = saids.Begins header
begin_said header words = saids.Wrong kinds.Word

-- the line of an agent, or of the beginning
abbrev pub agents_said : Header → List (List ℕ) → Said
agents_said header [] = saids.Wrong kinds.Order
agents_said header (word ∷ words) =
    if bytes_eq word (codes "agent") && nat_lt (length header.agents) 8 then said_by (agent_line header words) (λ h. saids.Moves (places.Agents h))
    else (if bytes_eq word (codes "begin") && nat_le 1 (length header.agents) then begin_said header words else saids.Wrong kinds.Order)

-- what a line says at a place
abbrev pub said_of : Bool → Place → List ℕ → Said
said_of script places.Version line = said_by (header_number (codes "scfs") 1 1 (words_of line)) (λ version. saids.Moves places.Faults)
said_of script places.Faults line = said_by (header_number (codes "f") 1 3 (words_of line)) (λ f. saids.Moves (places.Lease f))
said_of script (places.Lease f) line =
    said_by (header_number (codes "lease") 1 1000000000 (words_of line)) (λ lease. saids.Moves (places.Stale f lease))
said_of script (places.Stale f lease) line =
    said_by (header_number (codes "stale") 0 1000000000 (words_of line))
    (λ stale. saids.Moves (places.Agents (record { f = f; lease = lease; stale = stale; agents = [] })))
said_of script (places.Agents header) line = agents_said header (words_of line)
said_of script (places.Events header) line = event_said script header (words_of line)

-- the values that a header's lines allow
pub record IsHeader (header : Header) : Type 0 where
  pub f : (1 ≤ header.f) × (header.f ≤ 3)
  pub lease : (1 ≤ header.lease) × (header.lease ≤ 1000000000)
  pub stale : header.stale ≤ 1000000000
  pub agents : (1 ≤ length header.agents) × (length header.agents ≤ 8)

-- an answer of at most so many names
abbrev pub HasNames : CloudAnswer → ℕ → Type 0
HasNames (answers.Names names) most = length names ≤ most
HasNames answer most = Unit {0}

-- an event of agents and clouds of the header
abbrev pub IsEvent : Header → Event → Type 0
IsEvent header (events.Call a call) = a < length header.agents
IsEvent header (events.Space a) = a < length header.agents
IsEvent header (events.Later a) = a < length header.agents
IsEvent header (events.Told a) = a < length header.agents
IsEvent header (events.Serve c) = c < 3 * header.f + 1
IsEvent header (events.Hide c) = c < 3 * header.f + 1
IsEvent header (events.Fail c) = c < 3 * header.f + 1
IsEvent header (events.Say c answer) = (c < 3 * header.f + 1) × HasNames answer names_limit
IsEvent header (events.Give c) = c < 3 * header.f + 1
IsEvent header (events.Lose c) = c < 3 * header.f + 1
IsEvent header (events.Drop c) = c < 3 * header.f + 1
IsEvent header (events.Defer c) = c < 3 * header.f + 1
IsEvent header (events.Swap c) = c < 3 * header.f + 1
IsEvent header (events.Again c) = c < 3 * header.f + 1
IsEvent header (events.Twice c) = c < 3 * header.f + 1
IsEvent header (events.Turn a) = a < length header.agents
IsEvent header (events.Tick n) = (1 ≤ n) × (n ≤ 1000000000)
IsEvent header (events.Crash a) = a < length header.agents
IsEvent header (events.Start a) = a < length header.agents

-- the events that a script may have
abbrev pub IsScriptEvent : Event → Type 0
IsScriptEvent (events.Call a call) = Unit {0}
IsScriptEvent (events.Turn a) = Unit {0}
IsScriptEvent (events.Tick n) = Unit {0}
IsScriptEvent (events.Crash a) = Unit {0}
IsScriptEvent (events.Start a) = Unit {0}
IsScriptEvent event = ⊥
