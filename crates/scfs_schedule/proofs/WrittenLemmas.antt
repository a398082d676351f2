use Rattle.std.proofs.Common.{◌≡◌, ◌≢◌, ℕ, ◌+◌, ◌-◌, ◌*◌, ◌^◌, ◌<◌, ◌≤◌, List, [], ◌∷◌, ◌++◌, length, Bool, true, false, ◌&&◌, cond, eqb, leb, refl, ap, ◌∙◌, sym, arith, append_assoc, append-nil, map, Some}
use Rattle.std.specs.Prelude.{Result, Ok, Err, codes}
use Rattle.std.specs.Fmt.{decimal}
use Rattle.std.specs.List.{flat_map, list_all}
use Rattle.std.specs.Char.{is_ascii_digit}
use Rattle.std.proofs.lemmas.Bool.Decides.{nat_tests}
use Rattle.std.proofs.lemmas.Fmt.{digits_decimal}
use Rattle.scfs_base.specs.Pieces.{onto, pieces}
use Rattle.scfs_base.specs.Words.{path_word, path_byte, hex_text, hex_word, hex_pair, hex_digit, AreBytes, stands_for_itself}
use Rattle.scfs_base.proofs.NumberLemmas.{own, number_of-decimal}
use Rattle.scfs_base.proofs.HexLemmas.{hex_of-hex_text}
use Rattle.scfs_base.proofs.PathLemmas.{path_of-path_word}
use Rattle.scfs_base.specs.declared.cloud.CloudAnswer.{CloudAnswer}
use Rattle.scfs_base.specs.declared.cloud.CloudAnswer.TheVariants as answers
use Rattle.scfs_schedule.specs.declared.types.BadKind.{BadKind}
use Rattle.scfs_schedule.specs.declared.types.Header.{Header}
use Rattle.scfs_schedule.specs.declared.types.Call.{Call}
use Rattle.scfs_schedule.specs.declared.types.Call.TheVariants as calls
use Rattle.scfs_schedule.specs.declared.types.Event.{Event}
use Rattle.scfs_schedule.specs.declared.types.Event.TheVariants as events
use Rattle.scfs_schedule.specs.declared.types.BadKind.TheVariants as kinds
use Rattle.scfs_schedule.specs.Grammar.{made, both, all_three, in_form, ranged, number, number_within, path, hex, agent, cloud, names, opened, call_event, say_event, event_of, HasNames, IsEvent}
use Rattle.scfs_schedule.specs.Text.{call_text, answer_text, names_text, event_text}
use Rattle.scfs_schedule.specs.Written.{AreNames, IsCallInRange, IsAnswerInRange, IsInRange}
use Rattle.scfs_schedule.proofs.LineLemmas.{mark_behind}

-- a word without a space
NoSpace : List ℕ → Type 0
NoSpace word = pieces 32 word ≡ word ∷ []

not_space : (b : ℕ) → b ≢ 32 → eqb b 32 ≡ false
not_space b h = grind (arith, nat_tests)

no_space_more : (b : ℕ) (w : List ℕ) → b ≢ 32 → pieces 32 w ≡ w ∷ [] → pieces 32 (b ∷ w) ≡ (b ∷ w) ∷ []
no_space_more b w h n = ap (λ t. cond t ([] ∷ pieces 32 w) (onto b (pieces 32 w))) (not_space b h) ∙ ap (onto b) n

digit_space : (b : ℕ) → is_ascii_digit b ≡ true → b ≢ 32
digit_space b h = grind (arith, nat_tests)

hex_space : (n : ℕ) → hex_digit n ≢ 32
hex_space n = grind (arith, nat_tests)

plain_space : (b : ℕ) → stands_for_itself b ≡ true → b ≢ 32
plain_space b h = grind (arith, nat_tests)

head_true : (a b : Bool) → (a && b) ≡ true → a ≡ true
head_true a b h = grind (arith, nat_tests)

tail_true : (a b : Bool) → (a && b) ≡ true → b ≡ true
tail_true a b h = grind (arith, nat_tests)

digits_alone : (w : List ℕ) → list_all is_ascii_digit w ≡ true → pieces 32 w ≡ w ∷ []
digits_alone [] h = refl
digits_alone (b ∷ w) h = no_space_more b w (digit_space b (head_true _ (list_all is_ascii_digit w) h)) (digits_alone w (tail_true (is_ascii_digit b) _ h))

pub number_alone : (n : ℕ) → n < 2 ^ 64 → pieces 32 (decimal n) ≡ decimal n ∷ []
number_alone n h = digits_alone (decimal n) (digits_decimal own n h)

pair_alone : (b : ℕ) (w : List ℕ) → pieces 32 w ≡ w ∷ [] → pieces 32 (hex_pair b ++ w) ≡ (hex_pair b ++ w) ∷ []
unfolding hex_pair
pair_alone b w h = no_space_more _ _ (hex_space _) (no_space_more _ w (hex_space _) h)

pub hex_word_alone : (bytes : List ℕ) → pieces 32 (hex_word bytes) ≡ hex_word bytes ∷ []
hex_word_alone [] = refl
hex_word_alone (b ∷ bs) = pair_alone b (hex_word bs) (hex_word_alone bs)

pub hex_alone : (bytes : List ℕ) → pieces 32 (hex_text bytes) ≡ hex_text bytes ∷ []
hex_alone [] = refl
hex_alone (b ∷ bs) = hex_word_alone (b ∷ bs)

byte_by_test : (b : ℕ) (w : List ℕ) (t : Bool) → (t ≡ true → b ≢ 32) → pieces 32 w ≡ w ∷ [] → pieces 32 (cond t (b ∷ []) (37 ∷ hex_pair b) ++ w) ≡ (cond t (b ∷ []) (37 ∷ hex_pair b) ++ w) ∷ []
byte_by_test b w true plain h = no_space_more b w (plain refl) h
byte_by_test b w false plain h = ap (onto 37) (pair_alone b w h)

byte_alone : (b : ℕ) (w : List ℕ) → pieces 32 w ≡ w ∷ [] → pieces 32 (path_byte b ++ w) ≡ (path_byte b ++ w) ∷ []
unfolding path_byte
byte_alone b w h = byte_by_test b w (stands_for_itself b) (plain_space b) h

bytes_alone : (bytes : List ℕ) → pieces 32 (flat_map path_byte bytes) ≡ flat_map path_byte bytes ∷ []
bytes_alone [] = refl
bytes_alone (b ∷ bs) = byte_alone b (flat_map path_byte bs) (bytes_alone bs)

pub path_alone : (bytes : List ℕ) → pieces 32 (path_word bytes) ≡ path_word bytes ∷ []
path_alone [] = refl
path_alone (b ∷ bs) = bytes_alone (b ∷ bs)

-- what is read of a written word
ranged_in : (low high n : ℕ) → low ≤ n → n ≤ high → ranged low high (Some n) ≡ Some n
ranged_in low high n lo hi = grind (arith, nat_tests)

pub within_read : (low high n : ℕ) → n < 2 ^ 64 → low ≤ n → n ≤ high → number_within low high (decimal n) ≡ Ok n
within_read low high n small lo hi = ap (λ o. in_form kinds.Number (ranged low high o)) (number_of-decimal n small) ∙ ap (in_form kinds.Number) (ranged_in low high n lo hi)

number_read : (n : ℕ) → n < 2 ^ 64 → number (decimal n) ≡ Ok n
number_read n h = ap (in_form kinds.Number) (number_of-decimal n h)

path_read : (p : List ℕ) → AreBytes p → path (path_word p) ≡ Ok p
path_read p h = ap (in_form kinds.Path) (path_of-path_word p h)

hex_read : (b : List ℕ) → AreBytes b → hex (hex_text b) ≡ Ok b
hex_read b h = ap (in_form kinds.Hex) (hex_of-hex_text b h)

agent_read : (header : Header) (a : ℕ) → a < length header.agents → a < 2 ^ 64 → agent header (decimal a) ≡ Ok a
agent_read header a h small = within_read 0 (length header.agents - 1) a small (omega arith) (omega arith)

cloud_read : (header : Header) (c : ℕ) → c < 3 * header.f + 1 → c < 2 ^ 64 → cloud header (decimal c) ≡ Ok c
cloud_read header c h small = within_read 0 (3 * header.f) c small (omega arith) (omega arith)

-- what is made of words that were read
both_read : {A B C : Type 0} (f : A → B → C) (r : Result A BadKind) (s : Result B BadKind) (x : A) (y : B) → r ≡ Ok x → s ≡ Ok y → both f r s ≡ Ok (f x y)
both_read f r s x y hr hs = ap (λ r. both f r s) hr ∙ ap (made (f x)) hs

pub three_read : {A B C D : Type 0} (f : A → B → C → D) (r : Result A BadKind) (s : Result B BadKind) (t : Result C BadKind) (x : A) (y : B) (z : C) → r ≡ Ok x → s ≡ Ok y → t ≡ Ok z → all_three f r s t ≡ Ok (f x y z)
three_read f r s t x y z hr hs ht = ap (λ r. all_three f r s t) hr ∙ both_read (f x) s t y z hs ht

pub two_alone : (v w : List ℕ) → pieces 32 v ≡ v ∷ [] → pieces 32 w ≡ w ∷ [] → pieces 32 (v ++ 32 ∷ w) ≡ v ∷ w ∷ []
two_alone v w hv hw = mark_behind v w hv ∙ ap (λ ws. v ∷ ws) hw

pub three_alone : (u v w : List ℕ) → pieces 32 u ≡ u ∷ [] → pieces 32 v ≡ v ∷ [] → pieces 32 w ≡ w ∷ [] → pieces 32 ((u ++ 32 ∷ v) ++ 32 ∷ w) ≡ u ∷ v ∷ w ∷ []
three_alone u v w hu hv hw = ap (pieces 32) (append_assoc u (32 ∷ v) (32 ∷ w)) ∙ mark_behind u (v ++ 32 ∷ w) hu ∙ ap (λ ws. u ∷ ws) (two_alone v w hv hw)

-- a call that was written is read
call_read : (header : Header) (a : ℕ) (call : Call) → agent header (decimal a) ≡ Ok a → IsCallInRange call → call_event header (decimal a ∷ pieces 32 (call_text call)) ≡ Ok (events.Call a call)
call_read header a (calls.Mkdir p) ha h =
    ap (λ ws. call_event header (decimal a ∷ codes "mkdir" ∷ ws)) (path_alone p)
    ∙ both_read events.Call _ _ a (calls.Mkdir p) ha (ap (made calls.Mkdir) (path_read p h))
call_read header a (calls.Rmdir p) ha h =
    ap (λ ws. call_event header (decimal a ∷ codes "rmdir" ∷ ws)) (path_alone p)
    ∙ both_read events.Call _ _ a (calls.Rmdir p) ha (ap (made calls.Rmdir) (path_read p h))
call_read header a (calls.Create p) ha h =
    ap (λ ws. call_event header (decimal a ∷ codes "create" ∷ ws)) (path_alone p)
    ∙ both_read events.Call _ _ a (calls.Create p) ha (ap (made calls.Create) (path_read p h))
call_read header a (calls.Unlink p) ha h =
    ap (λ ws. call_event header (decimal a ∷ codes "unlink" ∷ ws)) (path_alone p)
    ∙ both_read events.Call _ _ a (calls.Unlink p) ha (ap (made calls.Unlink) (path_read p h))
call_read header a (calls.Stat p) ha h =
    ap (λ ws. call_event header (decimal a ∷ codes "stat" ∷ ws)) (path_alone p)
    ∙ both_read events.Call _ _ a (calls.Stat p) ha (ap (made calls.Stat) (path_read p h))
call_read header a (calls.List p) ha h =
    ap (λ ws. call_event header (decimal a ∷ codes "list" ∷ ws)) (path_alone p)
    ∙ both_read events.Call _ _ a (calls.List p) ha (ap (made calls.List) (path_read p h))
call_read header a (calls.Versions p) ha h =
    ap (λ ws. call_event header (decimal a ∷ codes "versions" ∷ ws)) (path_alone p)
    ∙ both_read events.Call _ _ a (calls.Versions p) ha (ap (made calls.Versions) (path_read p h))
call_read header a (calls.Collect p) ha h =
    ap (λ ws. call_event header (decimal a ∷ codes "collect" ∷ ws)) (path_alone p)
    ∙ both_read events.Call _ _ a (calls.Collect p) ha (ap (made calls.Collect) (path_read p h))
call_read header a (calls.Close s) ha h =
    ap (λ ws. call_event header (decimal a ∷ codes "close" ∷ ws)) (number_alone s h)
    ∙ both_read events.Call _ _ a (calls.Close s) ha (ap (made calls.Close) (number_read s h))
call_read header a (calls.Rename p q) ha h =
    ap (λ ws. call_event header (decimal a ∷ codes "rename" ∷ ws)) (two_alone (path_word p) (path_word q) (path_alone p) (path_alone q))
    ∙ both_read events.Call _ _ a (calls.Rename p q) ha (both_read calls.Rename _ _ p q (path_read p h.0) (path_read q h.1))
call_read header a (calls.OpenR p) ha h =
    ap (λ ws. call_event header (decimal a ∷ codes "open" ∷ ws)) (two_alone (path_word p) (codes "r") (path_alone p) refl)
    ∙ both_read events.Call _ _ a (calls.OpenR p) ha (ap (λ r. opened r (codes "r")) (path_read p h))
call_read header a (calls.OpenW p) ha h =
    ap (λ ws. call_event header (decimal a ∷ codes "open" ∷ ws)) (two_alone (path_word p) (codes "w") (path_alone p) refl)
    ∙ both_read events.Call _ _ a (calls.OpenW p) ha (ap (λ r. opened r (codes "w")) (path_read p h))
call_read header a (calls.Openat p v) ha h =
    ap (λ ws. call_event header (decimal a ∷ codes "openat" ∷ ws)) (two_alone (path_word p) (decimal v) (path_alone p) (number_alone v h.1))
    ∙ both_read events.Call _ _ a (calls.Openat p v) ha (both_read calls.Openat _ _ p v (path_read p h.0) (number_read v h.1))
call_read header a (calls.Truncate s n) ha h =
    ap (λ ws. call_event header (decimal a ∷ codes "truncate" ∷ ws)) (two_alone (decimal s) (decimal n) (number_alone s h.0) (number_alone n h.1))
    ∙ both_read events.Call _ _ a (calls.Truncate s n) ha (both_read calls.Truncate _ _ s n (number_read s h.0) (number_read n h.1))
call_read header a (calls.Read s o n) ha h =
    ap (λ ws. call_event header (decimal a ∷ codes "read" ∷ ws)) (three_alone (decimal s) (decimal o) (decimal n) (number_alone s h.0) (number_alone o h.1) (number_alone n h.2))
    ∙ both_read events.Call _ _ a (calls.Read s o n) ha (three_read calls.Read _ _ _ s o n (number_read s h.0) (number_read o h.1) (number_read n h.2))
call_read header a (calls.Write s o b) ha h =
    ap (λ ws. call_event header (decimal a ∷ codes "write" ∷ ws)) (three_alone (decimal s) (decimal o) (hex_text b) (number_alone s h.0) (number_alone o h.1) (hex_alone b))
    ∙ both_read events.Call _ _ a (calls.Write s o b) ha (three_read calls.Write _ _ _ s o b (number_read s h.0) (number_read o h.1) (hex_read b h.2))
call_read header a calls.Sync ha h = both_read events.Call _ (Ok calls.Sync) a calls.Sync ha refl
call_read header a calls.Purge ha h = both_read events.Call _ (Ok calls.Purge) a calls.Purge ha refl

names_alone : (w : List ℕ) (ns : List (List ℕ)) → pieces 32 w ≡ w ∷ [] → pieces 32 (w ++ names_text ns) ≡ w ∷ map path_word ns
names_alone w [] h = ap (pieces 32) (append-nil w) ∙ h
names_alone w (n ∷ ns) h = mark_behind w (path_word n ++ names_text ns) h ∙ ap (λ ws. w ∷ ws) (names_alone (path_word n) ns (path_alone n))

names_read : (ns : List (List ℕ)) → AreNames ns → names (map path_word ns) ≡ Ok ns
names_read [] h = refl
names_read (n ∷ ns) h = both_read (λ first others. first ∷ others) _ _ n ns (path_read n h.0) (names_read ns h.1)

length-words : (ns : List (List ℕ)) → length (map path_word ns) ≡ length ns
length-words [] = refl
length-words (n ∷ ns) = omega (arith, length-words ns)

few_names : (ns : List (List ℕ)) → length ns ≤ 16 → leb (length (map path_word ns)) 16 ≡ true
few_names ns h = ap (λ k. leb k 16) (length-words ns) ∙ (let few : leb (length ns) 16 ≡ true = grind (arith, nat_tests) in few)

answer_read : (header : Header) (c : ℕ) (answer : CloudAnswer) → cloud header (decimal c) ≡ Ok c → IsAnswerInRange answer → HasNames answer 16 → say_event header (decimal c ∷ pieces 32 (answer_text answer)) ≡ Ok (events.Say c answer)
answer_read header c answers.Ack hc h few = both_read events.Say _ (Ok answers.Ack) c answers.Ack hc refl
answer_read header c answers.Absent hc h few = both_read events.Say _ (Ok answers.Absent) c answers.Absent hc refl
answer_read header c answers.Fail hc h few = both_read events.Say _ (Ok answers.Fail) c answers.Fail hc refl
answer_read header c (answers.Bytes b) hc h few =
    ap (λ ws. say_event header (decimal c ∷ codes "bytes" ∷ ws)) (hex_alone b)
    ∙ both_read events.Say _ _ c (answers.Bytes b) hc (ap (made answers.Bytes) (hex_read b h))
answer_read header c (answers.Names ns) hc h few =
    ap (λ ws. say_event header (decimal c ∷ ws)) (names_alone (codes "names") ns refl)
    ∙ ap (λ t. cond t (both events.Say (cloud header (decimal c)) (made answers.Names (names (map path_word ns)))) (Err kinds.Word)) (few_names ns few)
    ∙ both_read events.Say _ _ c (answers.Names ns) hc (ap (made answers.Names) (names_read ns h))

-- an event that was written is read
pub event_read : (header : Header) (event : Event) → IsEvent header event → IsInRange event → event_of header (pieces 32 (event_text event)) ≡ Ok event
event_read header (events.Call a call) is small =
    ap (λ ws. event_of header (codes "call" ∷ ws)) (mark_behind (decimal a) (call_text call) (number_alone a small.0))
    ∙ call_read header a call (agent_read header a is small.0) small.1
event_read header (events.Say c answer) is small =
    ap (λ ws. event_of header (codes "say" ∷ ws)) (mark_behind (decimal c) (answer_text answer) (number_alone c small.0))
    ∙ answer_read header c answer (cloud_read header c is.0 small.0) small.1 is.1
event_read header (events.Tick n) is small =
    ap (λ ws. event_of header (codes "tick" ∷ ws)) (number_alone n small)
    ∙ ap (made events.Tick) (within_read 1 1000000000 n small is.0 is.1)
event_read header (events.Space a) is small =
    ap (λ ws. event_of header (codes "space" ∷ ws)) (number_alone a small) ∙ ap (made events.Space) (agent_read header a is small)
event_read header (events.Later a) is small =
    ap (λ ws. event_of header (codes "later" ∷ ws)) (number_alone a small) ∙ ap (made events.Later) (agent_read header a is small)
event_read header (events.Told a) is small =
    ap (λ ws. event_of header (codes "told" ∷ ws)) (number_alone a small) ∙ ap (made events.Told) (agent_read header a is small)
event_read header (events.Turn a) is small =
    ap (λ ws. event_of header (codes "turn" ∷ ws)) (number_alone a small) ∙ ap (made events.Turn) (agent_read header a is small)
event_read header (events.Crash a) is small =
    ap (λ ws. event_of header (codes "crash" ∷ ws)) (number_alone a small) ∙ ap (made events.Crash) (agent_read header a is small)
event_read header (events.Start a) is small =
    ap (λ ws. event_of header (codes "start" ∷ ws)) (number_alone a small) ∙ ap (made events.Start) (agent_read header a is small)
event_read header (events.Serve c) is small =
    ap (λ ws. event_of header (codes "serve" ∷ ws)) (number_alone c small) ∙ ap (made events.Serve) (cloud_read header c is small)
event_read header (events.Hide c) is small =
    ap (λ ws. event_of header (codes "hide" ∷ ws)) (number_alone c small) ∙ ap (made events.Hide) (cloud_read header c is small)
event_read header (events.Fail c) is small =
    ap (λ ws. event_of header (codes "fail" ∷ ws)) (number_alone c small) ∙ ap (made events.Fail) (cloud_read header c is small)
event_read header (events.Give c) is small =
    ap (λ ws. event_of header (codes "give" ∷ ws)) (number_alone c small) ∙ ap (made events.Give) (cloud_read header c is small)
event_read header (events.Lose c) is small =
    ap (λ ws. event_of header (codes "lose" ∷ ws)) (number_alone c small) ∙ ap (made events.Lose) (cloud_read header c is small)
event_read header (events.Drop c) is small =
    ap (λ ws. event_of header (codes "drop" ∷ ws)) (number_alone c small) ∙ ap (made events.Drop) (cloud_read header c is small)
event_read header (events.Defer c) is small =
    ap (λ ws. event_of header (codes "defer" ∷ ws)) (number_alone c small) ∙ ap (made events.Defer) (cloud_read header c is small)
event_read header (events.Swap c) is small =
    ap (λ ws. event_of header (codes "swap" ∷ ws)) (number_alone c small) ∙ ap (made events.Swap) (cloud_read header c is small)
event_read header (events.Again c) is small =
    ap (λ ws. event_of header (codes "again" ∷ ws)) (number_alone c small) ∙ ap (made events.Again) (cloud_read header c is small)
event_read header (events.Twice c) is small =
    ap (λ ws. event_of header (codes "twice" ∷ ws)) (number_alone c small) ∙ ap (made events.Twice) (cloud_read header c is small)

-- events of one spelling are the same
pub one_spelling : (header : Header) (first second : Event) → IsEvent header first → IsInRange first → IsEvent header second → IsInRange second → event_text first ≡ event_text second → first ≡ second
one_spelling header first second is_first small_first is_second small_second same =
    let read_first = event_read header first is_first small_first in
    let read_second = event_read header second is_second small_second in
    let both : Ok first ≡ Ok second = sym read_first ∙ ap (λ t. event_of header (pieces 32 t)) same ∙ read_second in
    cc
