use Rattle.std.proofs.Common.{◌≡◌, ℕ, List, [], ◌∷◌, ◌++◌, length, Bool, true, false, ◌&&◌, cond, eqb, leb, refl, ap, ◌∙◌, sym, subst, arith, append_assoc, append-nil, map, Option, Some, None}
use Rattle.std.specs.Prelude.{Result, Ok, Err, codes, not}
use Rattle.scfs_schedule.specs.declared.types.Said.TheVariants as saids
use Rattle.std.specs.Fmt.{decimal}
use Rattle.std.specs.Str.{bytes_eq}
use Rattle.std.proofs.lemmas.Slice.Eq.{bytes_eq-Decides}
use Rattle.std.proofs.lemmas.Bool.Decides.{nat_tests}
use Rattle.scfs_base.specs.Pieces.{onto, pieces}
use Rattle.scfs_base.specs.Words.{number_of, path_of, path_word, hex_of, hex_text, hex_bytes, is_hex_word}
use Rattle.scfs_base.proofs.NumberLemmas.{spelled}
use Rattle.scfs_base.proofs.PathLemmas.{path_words}
use Rattle.scfs_base.specs.declared.cloud.CloudAnswer.{CloudAnswer}
use Rattle.scfs_base.specs.declared.cloud.CloudAnswer.TheVariants as answers
use Rattle.scfs_schedule.specs.declared.types.BadKind.{BadKind}
use Rattle.scfs_schedule.specs.declared.types.BadKind.TheVariants as kinds
use Rattle.scfs_schedule.specs.declared.types.Header.{Header}
use Rattle.scfs_schedule.specs.declared.types.Call.{Call}
use Rattle.scfs_schedule.specs.declared.types.Call.TheVariants as calls
use Rattle.scfs_schedule.specs.declared.types.Event.{Event}
use Rattle.scfs_schedule.specs.declared.types.Event.TheVariants as events
use Rattle.scfs_schedule.specs.declared.tables.AgentWord.{AgentWord}
use Rattle.scfs_schedule.specs.declared.tables.AgentWord.TheVariants as agent_variants
use Rattle.scfs_schedule.specs.declared.tables.CloudWord.{CloudWord}
use Rattle.scfs_schedule.specs.declared.tables.CloudWord.TheVariants as cloud_variants
use Rattle.scfs_schedule.specs.declared.tables.CallWord.{CallWord}
use Rattle.scfs_schedule.specs.declared.tables.CallWord.TheVariants as call_variants
use Rattle.scfs_schedule.specs.declared.tables.AnswerWord.{AnswerWord}
use Rattle.scfs_schedule.specs.declared.tables.AnswerWord.TheVariants as answer_variants
use Rattle.scfs_schedule.specs.Tables.{meaning, agent_words, agent_word, cloud_words, cloud_word, path_call_words, other_call_words, call_word, words_of_call, answer_words, answer_word, may_follow}
use Rattle.scfs_schedule.specs.Grammar.{made, both, all_three, in_form, ranged, number, number_within, path, hex, agent, cloud, names, opened, call_of, named_call, call_event, answer_of, named_answer, say_event, tick_event, agent_event, cloud_event, actor_event, event_named, event_of, event_said, end_said, said_by, is_script_word, words_of, IsScriptEvent}
use Rattle.scfs_schedule.specs.Text.{call_text, answer_text, names_text, event_text}
use Rattle.scfs_base.proofs.HexLemmas.{hex_word_read}
use Rattle.scfs_schedule.proofs.LineLemmas.{some_piece}

-- words with a space between each two
abbrev pub join : List (List ℕ) → List ℕ
join [] = []
join (word ∷ []) = word
join (word ∷ next ∷ words) = word ++ 32 ∷ join (next ∷ words)

onto_joined : (b : ℕ) (ps : List (List ℕ)) → (ps ≡ [] → ⊥) → join (onto b ps) ≡ b ∷ join ps
onto_joined b [] some = absurd (some refl)
onto_joined b (p ∷ []) some = refl
onto_joined b (p ∷ q ∷ ps) some = refl

space_joined : (ps : List (List ℕ)) → (ps ≡ [] → ⊥) → join ([] ∷ ps) ≡ 32 ∷ join ps
space_joined [] some = absurd (some refl)
space_joined (p ∷ ps) some = refl

byte_joined : (b : ℕ) (ps : List (List ℕ)) (t : Bool) → (ps ≡ [] → ⊥) → (t ≡ true → b ≡ 32) → join (cond t ([] ∷ ps) (onto b ps)) ≡ b ∷ join ps
byte_joined b ps true some is = space_joined ps some ∙ ap (λ c. c ∷ join ps) (sym (is refl))
byte_joined b ps false some is = onto_joined b ps some

is_mark : (b mark : ℕ) → eqb b mark ≡ true → b ≡ mark
is_mark b mark h = grind (arith, nat_tests)

-- a line is its words
pub joined : (line : List ℕ) → join (pieces 32 line) ≡ line
joined [] = refl
joined (b ∷ bs) = byte_joined b (pieces 32 bs) (eqb b 32) (some_piece 32 bs) (is_mark b 32) ∙ ap (λ t. b ∷ t) (joined bs)

-- the one spelling of the bytes that were read
hex_spelled : (word bytes : List ℕ) → hex_of word ≡ Some bytes → word ≡ hex_text bytes
unfolding hex_of
hex_spelled word bytes is = by_tests (bytes_eq word (codes "-")) (is_hex_word word) (bytes_eq-Decides word (codes "-")).0 (hex_word_read word) is where
  by_tests : (t u : Bool) → (t ≡ true → word ≡ codes "-") → (u ≡ true → word ≡ hex_text (hex_bytes word)) → cond t (Some []) (cond u (Some (hex_bytes word)) None) ≡ Some bytes → word ≡ hex_text bytes
  by_tests true u dash digits h = dash refl ∙ ap hex_text (let e : [] ≡ bytes = cc in e)
  by_tests false true dash digits h = digits refl ∙ ap hex_text (let e : hex_bytes word ≡ bytes = cc in e)
  by_tests false false dash digits h = cc

-- the spelling of what was read
form_back : {A : Type 0} (kind : BadKind) (o : Option A) (x : A) → in_form kind o ≡ Ok x → o ≡ Some x
form_back kind None x h = cc
form_back kind (Some y) x h = cc

range_back : (low high n : ℕ) (o : Option ℕ) → ranged low high o ≡ Some n → o ≡ Some n
range_back low high n None h = cc
range_back low high n (Some m) h = by_test (leb low m && leb m high) h where
  by_test : (t : Bool) → cond t (Some m) None ≡ Some n → Some m ≡ Some n
  by_test true is = is
  by_test false is = cc

pub number_back : (word : List ℕ) (n : ℕ) → number word ≡ Ok n → word ≡ decimal n
number_back word n h = spelled word (Some n) (sym (form_back kinds.Number (number_of word) n h))

pub within_back : (low high : ℕ) (word : List ℕ) (n : ℕ) → number_within low high word ≡ Ok n → word ≡ decimal n
within_back low high word n h = spelled word (Some n) (sym (range_back low high n (number_of word) (form_back kinds.Number (ranged low high (number_of word)) n h)))

pub path_back : (word p : List ℕ) → path word ≡ Ok p → word ≡ path_word p
path_back word p h = path_words word (Some p) (sym (form_back kinds.Path (path_of word) p h))

pub hex_back : (word bytes : List ℕ) → hex word ≡ Ok bytes → word ≡ hex_text bytes
hex_back word bytes h = hex_spelled word bytes (form_back kinds.Hex (hex_of word) bytes h)

-- what something was made of
made_back : {A B : Type 0} (f : A → B) (r : Result A BadKind) (y : B) → made f r ≡ Ok y → (x : A) × (r ≡ Ok x) × (f x ≡ y)
made_back f (Ok x) y h = (x, refl, cc)
made_back f (Err kind) y h = cc

both_back : {A B C : Type 0} (f : A → B → C) (r : Result A BadKind) (s : Result B BadKind) (z : C) → both f r s ≡ Ok z → (x : A) × (y : B) × (r ≡ Ok x) × (s ≡ Ok y) × (f x y ≡ z)
both_back f (Ok x) s z h = let b = made_back (f x) s z h in (x, b.0, refl, b.1, b.2)
both_back f (Err kind) s z h = cc

three_back : {A B C D : Type 0} (f : A → B → C → D) (r : Result A BadKind) (s : Result B BadKind) (t : Result C BadKind) (w : D) → all_three f r s t ≡ Ok w → (x : A) × (y : B) × (z : C) × (r ≡ Ok x) × (s ≡ Ok y) × (t ≡ Ok z) × (f x y z ≡ w)
three_back f (Ok x) s t w h = let b = both_back (f x) s t w h in (x, b.0, b.1, refl, b.2, b.3, b.4)
three_back f (Err kind) s t w h = cc

-- each row's word is the spelling of what it means
IsSpelled : {A : Type 0} → (A → List ℕ) → List (List ℕ × A) → Type 0
IsSpelled spell [] = Unit {0}
IsSpelled spell (row ∷ rows) = (row.0 ≡ spell row.1) × IsSpelled spell rows

meaning_back : {A : Type 0} (spell : A → List ℕ) (rows : List (List ℕ × A)) (word : List ℕ) (x : A) → IsSpelled spell rows → meaning rows word ≡ Some x → word ≡ spell x
unfolding IsSpelled
meaning_back spell [] word x rows h = cc
meaning_back spell (row ∷ more) word x rows h = by_test (bytes_eq word row.0) (bytes_eq-Decides word row.0).0 (λ is. meaning_back spell more word x rows.1 is) h where
  by_test : (t : Bool) → (t ≡ true → word ≡ row.0) → (meaning more word ≡ Some x → word ≡ spell x) → cond t (Some row.1) (meaning more word) ≡ Some x → word ≡ spell x
  by_test true same others is = same refl ∙ rows.0 ∙ ap spell (let e : row.1 ≡ x = cc in e)
  by_test false same others is = others is

agent_spelling : AgentWord → List ℕ
agent_spelling agent_variants.Space = codes "space"
agent_spelling agent_variants.Later = codes "later"
agent_spelling agent_variants.Told = codes "told"
agent_spelling agent_variants.Turn = codes "turn"
agent_spelling agent_variants.Crash = codes "crash"
agent_spelling agent_variants.Start = codes "start"

agent_word_back : (word : List ℕ) (w : AgentWord) → agent_word word ≡ Some w → word ≡ agent_spelling w
unfolding IsSpelled agent_spelling
agent_word_back word w h = meaning_back agent_spelling agent_words word w (refl, (refl, (refl, (refl, (refl, (refl, tt)))))) h

cloud_spelling : CloudWord → List ℕ
cloud_spelling cloud_variants.Serve = codes "serve"
cloud_spelling cloud_variants.Hide = codes "hide"
cloud_spelling cloud_variants.Fail = codes "fail"
cloud_spelling cloud_variants.Give = codes "give"
cloud_spelling cloud_variants.Lose = codes "lose"
cloud_spelling cloud_variants.Drop = codes "drop"
cloud_spelling cloud_variants.Defer = codes "defer"
cloud_spelling cloud_variants.Swap = codes "swap"
cloud_spelling cloud_variants.Again = codes "again"
cloud_spelling cloud_variants.Twice = codes "twice"

cloud_word_back : (word : List ℕ) (w : CloudWord) → cloud_word word ≡ Some w → word ≡ cloud_spelling w
unfolding IsSpelled cloud_spelling
cloud_word_back word w h =
    meaning_back cloud_spelling cloud_words word w (refl, (refl, (refl, (refl, (refl, (refl, (refl, (refl, (refl, (refl, tt)))))))))) h

call_spelling : CallWord → List ℕ
call_spelling call_variants.Mkdir = codes "mkdir"
call_spelling call_variants.Rmdir = codes "rmdir"
call_spelling call_variants.Create = codes "create"
call_spelling call_variants.Unlink = codes "unlink"
call_spelling call_variants.Stat = codes "stat"
call_spelling call_variants.List = codes "list"
call_spelling call_variants.Rename = codes "rename"
call_spelling call_variants.Open = codes "open"
call_spelling call_variants.Openat = codes "openat"
call_spelling call_variants.Read = codes "read"
call_spelling call_variants.Write = codes "write"
call_spelling call_variants.Truncate = codes "truncate"
call_spelling call_variants.Close = codes "close"
call_spelling call_variants.Sync = codes "sync"
call_spelling call_variants.Versions = codes "versions"
call_spelling call_variants.Collect = codes "collect"
call_spelling call_variants.Purge = codes "purge"

call_word_back : (word : List ℕ) (w : CallWord) → call_word word ≡ Some w → word ≡ call_spelling w
unfolding IsSpelled call_spelling
call_word_back word w h =
    meaning_back call_spelling (path_call_words ++ other_call_words) word w
    (refl, (refl, (refl, (refl, (refl, (refl, (refl, (refl, (refl, (refl, (refl, (refl, (refl, (refl, (refl, (refl, (refl, tt))))))))))))))))) h

answer_spelling : AnswerWord → List ℕ
answer_spelling answer_variants.Ack = codes "ack"
answer_spelling answer_variants.Absent = codes "absent"
answer_spelling answer_variants.Fail = codes "fail"
answer_spelling answer_variants.Bytes = codes "bytes"
answer_spelling answer_variants.Names = codes "names"

answer_word_back : (word : List ℕ) (w : AnswerWord) → answer_word word ≡ Some w → word ≡ answer_spelling w
unfolding IsSpelled answer_spelling
answer_word_back word w h = meaning_back answer_spelling answer_words word w (refl, (refl, (refl, (refl, (refl, tt))))) h

-- a call's words spell it
on_path : (f : List ℕ → Call) (p : List ℕ) (call : Call) (before : List ℕ → List ℕ) → ((x : List ℕ) → before (path_word x) ≡ call_text (f x)) → made f (path p) ≡ Ok call → before p ≡ call_text call
on_path f p call before spells h =
    let b = made_back f (path p) call h in
    ap before (path_back p b.0 b.1) ∙ spells b.0 ∙ ap call_text b.2

opened_back : (r : Result (List ℕ) BadKind) (p word : List ℕ) (call : Call) → ((x : List ℕ) → r ≡ Ok x → p ≡ path_word x) → opened r word ≡ Ok call → join (codes "open" ∷ p ∷ word ∷ []) ≡ call_text call
opened_back (Err kind) p word call spells h = cc
opened_back (Ok x) p word call spells h =
    ap (λ w. join (codes "open" ∷ w ∷ word ∷ [])) (spells x refl)
    ∙ by_tests (bytes_eq word (codes "r")) (bytes_eq word (codes "w")) (bytes_eq-Decides word (codes "r")).0 (bytes_eq-Decides word (codes "w")).0 h where
      by_tests : (t u : Bool) → (t ≡ true → word ≡ codes "r") → (u ≡ true → word ≡ codes "w") → cond t (Ok (calls.OpenR x)) (cond u (Ok (calls.OpenW x)) (Err kinds.Word)) ≡ Ok call → join (codes "open" ∷ path_word x ∷ word ∷ []) ≡ call_text call
      by_tests true u r w is = ap (λ v. join (codes "open" ∷ path_word x ∷ v ∷ [])) (r refl) ∙ ap call_text (let e : calls.OpenR x ≡ call = cc in e)
      by_tests false true r w is = ap (λ v. join (codes "open" ∷ path_word x ∷ v ∷ [])) (w refl) ∙ ap call_text (let e : calls.OpenW x ≡ call = cc in e)
      by_tests false false r w is = cc

call_back : (w : CallWord) (words : List (List ℕ)) (call : Call) → call_of w words ≡ Ok call → join (call_spelling w ∷ words) ≡ call_text call
unfolding call_spelling
call_back call_variants.Mkdir (p ∷ []) call h = on_path calls.Mkdir p call (λ w. codes "mkdir " ++ w) (λ x. refl) h
call_back call_variants.Rmdir (p ∷ []) call h = on_path calls.Rmdir p call (λ w. codes "rmdir " ++ w) (λ x. refl) h
call_back call_variants.Create (p ∷ []) call h = on_path calls.Create p call (λ w. codes "create " ++ w) (λ x. refl) h
call_back call_variants.Unlink (p ∷ []) call h = on_path calls.Unlink p call (λ w. codes "unlink " ++ w) (λ x. refl) h
call_back call_variants.Stat (p ∷ []) call h = on_path calls.Stat p call (λ w. codes "stat " ++ w) (λ x. refl) h
call_back call_variants.List (p ∷ []) call h = on_path calls.List p call (λ w. codes "list " ++ w) (λ x. refl) h
call_back call_variants.Versions (p ∷ []) call h = on_path calls.Versions p call (λ w. codes "versions " ++ w) (λ x. refl) h
call_back call_variants.Collect (p ∷ []) call h = on_path calls.Collect p call (λ w. codes "collect " ++ w) (λ x. refl) h
call_back call_variants.Close (s ∷ []) call h =
    let b = made_back calls.Close (number s) call h in ap (λ w. codes "close " ++ w) (number_back s b.0 b.1) ∙ ap call_text b.2
call_back call_variants.Rename (p ∷ q ∷ []) call h =
    let b = both_back calls.Rename (path p) (path q) call h in
    ap (λ w. join (codes "rename" ∷ w ∷ q ∷ [])) (path_back p b.0 b.2)
    ∙ ap (λ w. join (codes "rename" ∷ path_word b.0 ∷ w ∷ [])) (path_back q b.1 b.3) ∙ ap call_text b.4
call_back call_variants.Open (p ∷ word ∷ []) call h = opened_back (path p) p word call (λ x e. path_back p x e) h
call_back call_variants.Openat (p ∷ v ∷ []) call h =
    let b = both_back calls.Openat (path p) (number v) call h in
    ap (λ w. join (codes "openat" ∷ w ∷ v ∷ [])) (path_back p b.0 b.2)
    ∙ ap (λ w. join (codes "openat" ∷ path_word b.0 ∷ w ∷ [])) (number_back v b.1 b.3) ∙ ap call_text b.4
call_back call_variants.Truncate (s ∷ n ∷ []) call h =
    let b = both_back calls.Truncate (number s) (number n) call h in
    ap (λ w. join (codes "truncate" ∷ w ∷ n ∷ [])) (number_back s b.0 b.2)
    ∙ ap (λ w. join (codes "truncate" ∷ decimal b.0 ∷ w ∷ [])) (number_back n b.1 b.3) ∙ ap call_text b.4
call_back call_variants.Read (s ∷ o ∷ n ∷ []) call h =
    let b = three_back calls.Read (number s) (number o) (number n) call h in
    ap (λ w. join (codes "read" ∷ w ∷ o ∷ n ∷ [])) (number_back s b.0 b.3)
    ∙ ap (λ w. join (codes "read" ∷ decimal b.0 ∷ w ∷ n ∷ [])) (number_back o b.1 b.4)
    ∙ ap (λ w. join (codes "read" ∷ decimal b.0 ∷ decimal b.1 ∷ w ∷ [])) (number_back n b.2 b.5)
    ∙ ap (λ t. codes "read " ++ t) (sym (append_assoc (decimal b.0) (32 ∷ decimal b.1) (32 ∷ decimal b.2))) ∙ ap call_text b.6
call_back call_variants.Write (s ∷ o ∷ bytes ∷ []) call h =
    let b = three_back calls.Write (number s) (number o) (hex bytes) call h in
    ap (λ w. join (codes "write" ∷ w ∷ o ∷ bytes ∷ [])) (number_back s b.0 b.3)
    ∙ ap (λ w. join (codes "write" ∷ decimal b.0 ∷ w ∷ bytes ∷ [])) (number_back o b.1 b.4)
    ∙ ap (λ w. join (codes "write" ∷ decimal b.0 ∷ decimal b.1 ∷ w ∷ [])) (hex_back bytes b.2 b.5)
    ∙ ap (λ t. codes "write " ++ t) (sym (append_assoc (decimal b.0) (32 ∷ decimal b.1) (32 ∷ hex_text b.2))) ∙ ap call_text b.6
call_back call_variants.Sync [] call h = ap call_text (let e : calls.Sync ≡ call = cc in e)
call_back call_variants.Purge [] call h = ap call_text (let e : calls.Purge ≡ call = cc in e)
call_back w words call h = cc

call_event_back : (header : Header) (words : List (List ℕ)) (event : Event) → call_event header words ≡ Ok event → join (codes "call" ∷ words) ≡ event_text event
call_event_back header [] event h = cc
call_event_back header (a ∷ []) event h = cc
call_event_back header (a ∷ word ∷ words) event h = by_word (call_word word) (call_word_back word) h where
  by_test : (w : CallWord) (t : Bool) → word ≡ call_spelling w → cond t (both events.Call (agent header a) (call_of w words)) (Err kinds.Word) ≡ Ok event → join (codes "call" ∷ a ∷ word ∷ words) ≡ event_text event
  by_test w false spells is = cc
  by_test w true spells is =
      let b = both_back events.Call (agent header a) (call_of w words) event is in
      ap (λ v. join (codes "call" ∷ a ∷ v ∷ words)) spells
      ∙ ap (λ v. join (codes "call" ∷ v ∷ call_spelling w ∷ words)) (within_back 0 _ a b.0 b.2)
      ∙ ap (λ t. codes "call " ++ decimal b.0 ++ 32 ∷ t) (call_back w words b.1 b.3) ∙ ap event_text b.4

  by_word : (o : Option CallWord) → ((w : CallWord) → o ≡ Some w → word ≡ call_spelling w) → named_call header a o words ≡ Ok event → join (codes "call" ∷ a ∷ word ∷ words) ≡ event_text event
  by_word None spells is = cc
  by_word (Some w) spells is = by_test w (eqb (length words) (words_of_call w)) (spells w refl) is

names_back : (words names' : List (List ℕ)) → names words ≡ Ok names' → words ≡ map path_word names'
names_back [] names' h = ap (map path_word) (let e : [] ≡ names' = cc in e)
names_back (word ∷ words) names' h =
    let b = both_back (λ first others. first ∷ others) (path word) (names words) names' h in
    ap (λ w. w ∷ words) (path_back word b.0 b.2) ∙ ap (λ ws. path_word b.0 ∷ ws) (names_back words b.1 b.3) ∙ ap (map path_word) b.4

names_joined : (word : List ℕ) (ns : List (List ℕ)) → join (word ∷ map path_word ns) ≡ word ++ names_text ns
names_joined word [] = sym (append-nil word)
names_joined word (n ∷ ns) = ap (λ t. word ++ 32 ∷ t) (names_joined (path_word n) ns)

answer_back : (w : AnswerWord) (words : List (List ℕ)) (answer : CloudAnswer) → answer_of w words ≡ Ok answer → join (answer_spelling w ∷ words) ≡ answer_text answer
unfolding answer_spelling
answer_back answer_variants.Ack [] answer h = ap answer_text (let e : answers.Ack ≡ answer = cc in e)
answer_back answer_variants.Absent [] answer h = ap answer_text (let e : answers.Absent ≡ answer = cc in e)
answer_back answer_variants.Fail [] answer h = ap answer_text (let e : answers.Fail ≡ answer = cc in e)
answer_back answer_variants.Bytes (bytes ∷ []) answer h =
    let b = made_back answers.Bytes (hex bytes) answer h in ap (λ w. codes "bytes " ++ w) (hex_back bytes b.0 b.1) ∙ ap answer_text b.2
answer_back answer_variants.Names words answer h =
    let b = made_back answers.Names (names words) answer h in
    ap (λ ws. join (codes "names" ∷ ws)) (names_back words b.0 b.1) ∙ names_joined (codes "names") b.0 ∙ ap answer_text b.2
answer_back w words answer h = cc

say_event_back : (header : Header) (words : List (List ℕ)) (event : Event) → say_event header words ≡ Ok event → join (codes "say" ∷ words) ≡ event_text event
say_event_back header [] event h = cc
say_event_back header (c ∷ []) event h = cc
say_event_back header (c ∷ word ∷ words) event h = by_word (answer_word word) (answer_word_back word) h where
  by_test : (w : AnswerWord) (t : Bool) → word ≡ answer_spelling w → cond t (both events.Say (cloud header c) (answer_of w words)) (Err kinds.Word) ≡ Ok event → join (codes "say" ∷ c ∷ word ∷ words) ≡ event_text event
  by_test w false spells is = cc
  by_test w true spells is =
      let b = both_back events.Say (cloud header c) (answer_of w words) event is in
      ap (λ v. join (codes "say" ∷ c ∷ v ∷ words)) spells
      ∙ ap (λ v. join (codes "say" ∷ v ∷ answer_spelling w ∷ words)) (within_back 0 _ c b.0 b.2)
      ∙ ap (λ t. codes "say " ++ decimal b.0 ++ 32 ∷ t) (answer_back w words b.1 b.3) ∙ ap event_text b.4

  by_word : (o : Option AnswerWord) → ((w : AnswerWord) → o ≡ Some w → word ≡ answer_spelling w) → named_answer header c o words ≡ Ok event → join (codes "say" ∷ c ∷ word ∷ words) ≡ event_text event
  by_word None spells is = cc
  by_word (Some w) spells is = by_test w (may_follow w (length words)) (spells w refl) is

tick_back : (words : List (List ℕ)) (event : Event) → tick_event words ≡ Ok event → join (codes "tick" ∷ words) ≡ event_text event
tick_back [] event h = cc
tick_back (ticks ∷ []) event h =
    let b = made_back events.Tick (number_within 1 1000000000 ticks) event h in
    ap (λ w. codes "tick " ++ w) (within_back 1 1000000000 ticks b.0 b.1) ∙ ap event_text b.2
tick_back (ticks ∷ more ∷ words) event h = cc

agent_event_text : (w : AgentWord) (n : ℕ) → agent_spelling w ++ 32 ∷ decimal n ≡ event_text (agent_event w n)
unfolding agent_spelling
agent_event_text agent_variants.Space n = refl
agent_event_text agent_variants.Later n = refl
agent_event_text agent_variants.Told n = refl
agent_event_text agent_variants.Turn n = refl
agent_event_text agent_variants.Crash n = refl
agent_event_text agent_variants.Start n = refl

cloud_event_text : (w : CloudWord) (n : ℕ) → cloud_spelling w ++ 32 ∷ decimal n ≡ event_text (cloud_event w n)
unfolding cloud_spelling
cloud_event_text cloud_variants.Serve n = refl
cloud_event_text cloud_variants.Hide n = refl
cloud_event_text cloud_variants.Fail n = refl
cloud_event_text cloud_variants.Give n = refl
cloud_event_text cloud_variants.Lose n = refl
cloud_event_text cloud_variants.Drop n = refl
cloud_event_text cloud_variants.Defer n = refl
cloud_event_text cloud_variants.Swap n = refl
cloud_event_text cloud_variants.Again n = refl
cloud_event_text cloud_variants.Twice n = refl

actor_back : (header : Header) (first : Option AgentWord) (second : Option CloudWord) (word : List ℕ) (words : List (List ℕ)) (event : Event) → ((w : AgentWord) → first ≡ Some w → word ≡ agent_spelling w) → ((w : CloudWord) → second ≡ Some w → word ≡ cloud_spelling w) → actor_event header first second words ≡ Ok event → join (word ∷ words) ≡ event_text event
actor_back header (Some w) second word (a ∷ []) event of_agent of_cloud h =
    let b = made_back (agent_event w) (agent header a) event h in
    ap (λ v. v ++ 32 ∷ a) (of_agent w refl) ∙ ap (λ v. agent_spelling w ++ 32 ∷ v) (within_back 0 _ a b.0 b.1) ∙ agent_event_text w b.0 ∙ ap event_text b.2
actor_back header None (Some w) word (c ∷ []) event of_agent of_cloud h =
    let b = made_back (cloud_event w) (cloud header c) event h in
    ap (λ v. v ++ 32 ∷ c) (of_cloud w refl) ∙ ap (λ v. cloud_spelling w ++ 32 ∷ v) (within_back 0 _ c b.0 b.1) ∙ cloud_event_text w b.0 ∙ ap event_text b.2
actor_back header first second word words event of_agent of_cloud h = cc

named_back : (header : Header) (word : List ℕ) (words : List (List ℕ)) (event : Event) (t u v : Bool) → (t ≡ true → word ≡ codes "call") → (u ≡ true → word ≡ codes "say") → (v ≡ true → word ≡ codes "tick") → cond t (call_event header words) (cond u (say_event header words) (cond v (tick_event words) (actor_event header (agent_word word) (cloud_word word) words))) ≡ Ok event → join (word ∷ words) ≡ event_text event
named_back header word words event true u v call say tick h = ap (λ w. join (w ∷ words)) (call refl) ∙ call_event_back header words event h
named_back header word words event false true v call say tick h = ap (λ w. join (w ∷ words)) (say refl) ∙ say_event_back header words event h
named_back header word words event false false true call say tick h = ap (λ w. join (w ∷ words)) (tick refl) ∙ tick_back words event h
named_back header word words event false false false call say tick h =
    actor_back header (agent_word word) (cloud_word word) word words event (agent_word_back word) (cloud_word_back word) h

event_back : (header : Header) (words : List (List ℕ)) (event : Event) → event_of header words ≡ Ok event → join words ≡ event_text event
event_back header [] event h = cc
event_back header (word ∷ words) event h =
    named_back header word words event (bytes_eq word (codes "call")) (bytes_eq word (codes "say")) (bytes_eq word (codes "tick"))
    (bytes_eq-Decides word (codes "call")).0 (bytes_eq-Decides word (codes "say")).0 (bytes_eq-Decides word (codes "tick")).0 h

-- a line that states an event is that event's line
pub line_spelled : (header : Header) (line : List ℕ) (event : Event) → event_of header (words_of line) ≡ Ok event → line ≡ event_text event
line_spelled header line event h = sym (joined line) ∙ event_back header (words_of line) event h

-- a script's words state its events
call_of_script : (header : Header) (words : List (List ℕ)) (event : Event) → call_event header words ≡ Ok event → IsScriptEvent event
call_of_script header [] event h = cc
call_of_script header (a ∷ []) event h = cc
call_of_script header (a ∷ word ∷ words) event h = by_word (call_word word) h where
  by_test : (w : CallWord) (t : Bool) → cond t (both events.Call (agent header a) (call_of w words)) (Err kinds.Word) ≡ Ok event → IsScriptEvent event
  by_test w false is = cc
  by_test w true is = let b = both_back events.Call (agent header a) (call_of w words) event is in subst IsScriptEvent b.4 tt

  by_word : (o : Option CallWord) → named_call header a o words ≡ Ok event → IsScriptEvent event
  by_word None is = cc
  by_word (Some w) is = by_test w (eqb (length words) (words_of_call w)) is

tick_of_script : (words : List (List ℕ)) (event : Event) → tick_event words ≡ Ok event → IsScriptEvent event
tick_of_script [] event h = cc
tick_of_script (ticks ∷ []) event h = let b = made_back events.Tick (number_within 1 1000000000 ticks) event h in subst IsScriptEvent b.2 tt
tick_of_script (ticks ∷ more ∷ words) event h = cc

agent_of_script : (w : AgentWord) (n : ℕ) → is_script_word (agent_spelling w) ≡ true → IsScriptEvent (agent_event w n)
unfolding agent_spelling
agent_of_script agent_variants.Space n h = cc
agent_of_script agent_variants.Later n h = cc
agent_of_script agent_variants.Told n h = cc
agent_of_script agent_variants.Turn n h = tt
agent_of_script agent_variants.Crash n h = tt
agent_of_script agent_variants.Start n h = tt

no_cloud_of_script : (w : CloudWord) → is_script_word (cloud_spelling w) ≡ true → ⊥
unfolding cloud_spelling
no_cloud_of_script cloud_variants.Serve h = cc
no_cloud_of_script cloud_variants.Hide h = cc
no_cloud_of_script cloud_variants.Fail h = cc
no_cloud_of_script cloud_variants.Give h = cc
no_cloud_of_script cloud_variants.Lose h = cc
no_cloud_of_script cloud_variants.Drop h = cc
no_cloud_of_script cloud_variants.Defer h = cc
no_cloud_of_script cloud_variants.Swap h = cc
no_cloud_of_script cloud_variants.Again h = cc
no_cloud_of_script cloud_variants.Twice h = cc

actor_of_script : (header : Header) (first : Option AgentWord) (second : Option CloudWord) (word : List ℕ) (words : List (List ℕ)) (event : Event) → ((w : AgentWord) → first ≡ Some w → word ≡ agent_spelling w) → ((w : CloudWord) → second ≡ Some w → word ≡ cloud_spelling w) → is_script_word word ≡ true → actor_event header first second words ≡ Ok event → IsScriptEvent event
actor_of_script header (Some w) second word (a ∷ []) event of_agent of_cloud script h =
    let b = made_back (agent_event w) (agent header a) event h in
    subst IsScriptEvent b.2 (agent_of_script w b.0 (ap is_script_word (sym (of_agent w refl)) ∙ script))
actor_of_script header None (Some w) word (c ∷ []) event of_agent of_cloud script h =
    absurd (no_cloud_of_script w (ap is_script_word (sym (of_cloud w refl)) ∙ script))
actor_of_script header first second word words event of_agent of_cloud script h = cc

no_say_of_script : (word : List ℕ) → word ≡ codes "say" → is_script_word word ≡ true → ⊥
no_say_of_script word is script = let no : is_script_word (codes "say") ≡ true = ap is_script_word (sym is) ∙ script in cc

named_of_script : (header : Header) (word : List ℕ) (words : List (List ℕ)) (event : Event) (t u v : Bool) → (u ≡ true → word ≡ codes "say") → is_script_word word ≡ true → cond t (call_event header words) (cond u (say_event header words) (cond v (tick_event words) (actor_event header (agent_word word) (cloud_word word) words))) ≡ Ok event → IsScriptEvent event
named_of_script header word words event true u v say script h = call_of_script header words event h
named_of_script header word words event false true v say script h = absurd (no_say_of_script word (say refl) script)
named_of_script header word words event false false true say script h = tick_of_script words event h
named_of_script header word words event false false false say script h =
    actor_of_script header (agent_word word) (cloud_word word) word words event (agent_word_back word) (cloud_word_back word) script h

said_back : (r : Result Event BadKind) (event : Event) → said_by r saids.Says ≡ saids.Says event → r ≡ Ok event
said_back (Ok e) event h = cc
said_back (Err kind) event h = cc

-- what a line of a script says is one of its events
pub script_says : (header : Header) (words : List (List ℕ)) (event : Event) → saids.Says event ≡ event_said true header words → IsScriptEvent event
script_says header [] event h = cc
script_says header (word ∷ words) event h = by_tests (bytes_eq word (codes "end")) (is_script_word word) refl (sym h) where
  ends : (ws : List (List ℕ)) → end_said ws ≡ saids.Says event → IsScriptEvent event
  ends [] is = cc
  ends (w ∷ ws) is = cc

  by_tests : (t u : Bool) → is_script_word word ≡ u → cond t (end_said words) (cond (not u) (saids.Wrong kinds.Word) (said_by (event_named header word words) saids.Says)) ≡ saids.Says event → IsScriptEvent event
  by_tests true u script is = ends words is
  by_tests false false script is = cc
  by_tests false true script is =
      named_of_script header word words event (bytes_eq word (codes "call")) (bytes_eq word (codes "say")) (bytes_eq word (codes "tick"))
      (bytes_eq-Decides word (codes "say")).0 script (said_back (event_named header word words) event is)
