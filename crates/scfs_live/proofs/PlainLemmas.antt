-- The lines of a journal hold no byte 0a and do not end with `~`, whatever their numbers and bytes are.
use Rattle.std.proofs.Common.{◌≡◌, ◌≢◌, ◌<◌, ℕ, ◌+◌, ◌/◌, ◌%◌, suc, zero, List, [], ◌∷◌, ◌++◌, refl, ap, ◌∙◌, sym, Bool, true, false, ◌&&◌, not, cond, eqb, length, map, append_assoc, append-nil, inl, inr, ◌⊎◌, arith}
use Rattle.std.specs.Prelude.{codes, drop}
use Rattle.std.specs.Fmt.{decimal, digit_glyph, digits, digits_onto}
use Rattle.std.specs.Int.{to_be_bytes, w32}
use Rattle.std.specs.List.{flat_map}
use Rattle.std.proofs.lemmas.Bool.{eqb-false, ne_eqb}
use Rattle.std.proofs.lemmas.Grind.{flat_map-append}
use Rattle.std.proofs.lemmas.Bool.Decides.{nat_tests}
use Rattle.scfs_base.specs.Words.{hex_digit, hex_pair, hex_text, hex_word, path_byte, path_word, stands_for_itself}
use Rattle.scfs_base.specs.declared.cloud.CloudAnswer.{CloudAnswer}
use Rattle.scfs_base.specs.declared.cloud.CloudAnswer.TheVariants as answers
use Rattle.scfs_base.specs.declared.naming.RequestNo.{RequestNo}
use Rattle.scfs_base.specs.declared.naming.UploadNo.{UploadNo}
use Rattle.scfs_schedule.specs.declared.types.Call.{Call}
use Rattle.scfs_schedule.specs.declared.types.Call.TheVariants as calls
use Rattle.scfs_schedule.specs.declared.types.Event.{Event}
use Rattle.scfs_schedule.specs.declared.types.Event.TheVariants as events
use Rattle.scfs_schedule.specs.declared.types.Header.{Header}
use Rattle.scfs_schedule.specs.declared.types.How.{How}
use Rattle.scfs_schedule.specs.declared.types.How.TheVariants as hows
use Rattle.scfs_schedule.specs.declared.types.Kind.{Kind}
use Rattle.scfs_schedule.specs.declared.types.Kind.TheVariants as kinds
use Rattle.scfs_schedule.specs.declared.types.Line.{Line}
use Rattle.scfs_schedule.specs.declared.types.Line.TheVariants as lines
use Rattle.scfs_schedule.specs.declared.types.Mode.{Mode}
use Rattle.scfs_schedule.specs.declared.types.Mode.TheVariants as modes
use Rattle.scfs_schedule.specs.declared.types.Refusal.{Refusal}
use Rattle.scfs_schedule.specs.declared.types.Refusal.TheVariants as refusals
use Rattle.scfs_schedule.specs.declared.types.Src.{Src}
use Rattle.scfs_schedule.specs.declared.types.Src.TheVariants as sources
use Rattle.scfs_schedule.specs.declared.types.Sum.{Sum}
use Rattle.scfs_schedule.specs.declared.types.Sum.TheVariants as sums
use Rattle.scfs_schedule.specs.Text.{agent_text, agents_text, answer_text, call_text, event_text, header_text, how_text, kind_text, line_text, mode_text, names_text, refusal_text, request_text, source_text, sum_text, upload_text}
use Rattle.scfs_model.specs.History.{Entry, History}
use Rattle.scfs_live.specs.Finding.{is_left_out}
use Rattle.scfs_live.specs.GoingOn.{event_lines}
use Rattle.scfs_live.specs.Keeping.{ended, made_line}

-- bytes of which none is 0a
abbrev pub HoldsNoEnd : List ℕ → Type 0
HoldsNoEnd [] = Unit {0}
HoldsNoEnd (byte ∷ bytes) = (byte ≢ 10) × HoldsNoEnd bytes

-- each line holds no byte 0a, and does not end with `~`
abbrev pub ArePlain : List (List ℕ) → Type 0
ArePlain [] = Unit {0}
ArePlain (line ∷ lines) = HoldsNoEnd line × (is_left_out line ≡ false) × ArePlain lines

pub no_end_then : (x y : List ℕ) → HoldsNoEnd x → HoldsNoEnd y → HoldsNoEnd (x ++ y)
no_end_then [] y h k = k
no_end_then (b ∷ x) y h k = (h.0, no_end_then x y h.1 k)

-- a text that holds no line's end, and is empty or does not end with `~`
pub record Plain (text : List ℕ) : Type 0 where
  pub no_end : HoldsNoEnd text
  pub ends : (text ≡ []) ⊎ ((front : List ℕ) × (last : ℕ) × (text ≡ front ++ last ∷ []) × (last ≢ 126))

pub plain_nothing : Plain []
plain_nothing = record { no_end = tt; ends = inl refl }

-- a plain text behind another
ends_then : (x y : List ℕ) → Plain x → Plain y → ((x ++ y) ≡ []) ⊎ ((front : List ℕ) × (last : ℕ) × ((x ++ y) ≡ front ++ last ∷ []) × (last ≢ 126))
ends_then x y p q =
    elim q.ends [
      | inl none ↦ elim p.ends [
        | inl empty ↦ inl (ap (λ t. t ++ y) empty ∙ none)
        | inr e ↦ inr (e.0, e.1, ap (λ t. x ++ t) none ∙ append-nil x ∙ e.2, e.3)
      ]
      | inr e ↦ inr (x ++ e.0, e.1, ap (λ t. x ++ t) e.2 ∙ sym (append_assoc x e.0 (e.1 ∷ [])), e.3)
    ]

pub plain_then : (x y : List ℕ) → Plain x → Plain y → Plain (x ++ y)
plain_then x y p q = record { no_end = no_end_then x y p.no_end q.no_end; ends = ends_then x y p q }

-- one byte
pub plain_byte : (b : ℕ) → b ≢ 10 → b ≢ 126 → Plain (b ∷ [])
plain_byte b end mark = record { no_end = (end, tt); ends = inr ([], b, refl, mark) }

pub plain_cons : (b : ℕ) (x : List ℕ) → b ≢ 10 → b ≢ 126 → Plain x → Plain (b ∷ x)
plain_cons b x end mark p = plain_then (b ∷ []) x (plain_byte b end mark) p

pub plain_space : (x : List ℕ) → Plain x → Plain (32 ∷ x)
plain_space x p = plain_cons 32 x (eqb-false 32 10 refl) (eqb-false 32 126 refl) p

plain_dot : (x : List ℕ) → Plain x → Plain (46 ∷ x)
plain_dot x p = plain_cons 46 x (eqb-false 46 10 refl) (eqb-false 46 126 refl) p

-- fixed words, by a test that computes

head_false : (b c : Bool) → (not b && c) ≡ true → b ≡ false
head_false true c h = cc
head_false false c h = refl

tail_true : (b c : Bool) → (not b && c) ≡ true → c ≡ true
tail_true true c h = cc
tail_true false c h = h

abbrev no_ends : List ℕ → Bool
no_ends [] = true
no_ends (b ∷ x) = not (eqb b 10) && no_ends x

no_end_test : (x : List ℕ) → no_ends x ≡ true → HoldsNoEnd x
no_end_test [] h = tt
no_end_test (b ∷ x) h = (eqb-false b 10 (head_false (eqb b 10) (no_ends x) h), no_end_test x (tail_true (eqb b 10) (no_ends x) h))

-- a word without its last byte, and that byte
plain_word : (front : List ℕ) (last : ℕ) → no_ends (front ++ last ∷ []) ≡ true → eqb last 126 ≡ false → Plain (front ++ last ∷ [])
plain_word front last no_end mark = record { no_end = no_end_test (front ++ last ∷ []) no_end; ends = inr (front, last, refl, eqb-false last 126 mark) }

-- digits

plain_if : (t : Bool) (x y : List ℕ) → Plain x → Plain y → Plain (cond t x y)
plain_if true x y p q = p
plain_if false x y p q = q

glyph_end : (n : ℕ) → digit_glyph false n ≢ 10
glyph_end n = grind (arith, nat_tests)

glyph_mark : (n : ℕ) → n < 10 → digit_glyph false n ≢ 126
glyph_mark n h = grind (arith, nat_tests)

plain_glyph : (n : ℕ) (x : List ℕ) → Plain x → Plain (digit_glyph false (n % 10) ∷ x)
plain_glyph n x p = plain_cons (digit_glyph false (n % 10)) x (glyph_end (n % 10)) (glyph_mark (n % 10) (omega arith)) p

plain_digits : (k n : ℕ) (x : List ℕ) → Plain x → Plain (digits_onto k 10 false n x)
plain_digits zero n x p = p
plain_digits (suc k) n x p =
    plain_if (eqb (n / 10) 0) _ _ (plain_glyph n x p) (plain_digits k (n / 10) (digit_glyph false (n % 10) ∷ x) (plain_glyph n x p))

plain_decimal : (n : ℕ) → Plain (decimal n)
unfolding digits
plain_decimal n = plain_digits 64 n [] plain_nothing

hex_end : (n : ℕ) → hex_digit n ≢ 10
hex_end n = grind (arith, nat_tests)

hex_mark : (n : ℕ) → n < 16 → hex_digit n ≢ 126
hex_mark n h = grind (arith, nat_tests)

plain_pair : (b : ℕ) → Plain (hex_pair b)
unfolding hex_pair
plain_pair b = record {
  no_end = (hex_end (b / 16), (hex_end (b % 16), tt));
  ends = inr (hex_digit (b / 16) ∷ [], hex_digit (b % 16), refl, hex_mark (b % 16) (omega arith));
}

plain_hex_word : (bytes : List ℕ) → Plain (hex_word bytes)
plain_hex_word [] = plain_nothing
plain_hex_word (b ∷ bytes) = plain_then (hex_pair b) (hex_word bytes) (plain_pair b) (plain_hex_word bytes)

plain_hex_text : (bytes : List ℕ) → Plain (hex_text bytes)
plain_hex_text [] = plain_word [] 45 refl refl
plain_hex_text (b ∷ bytes) = plain_hex_word (b ∷ bytes)

itself_end : (b : ℕ) → stands_for_itself b ≡ true → b ≢ 10
itself_end b h = grind (arith, nat_tests)

itself_mark : (b : ℕ) → stands_for_itself b ≡ true → b ≢ 126
itself_mark b h = grind (arith, nat_tests)

plain_spelled : (b : ℕ) (t : Bool) → stands_for_itself b ≡ t → Plain (cond t (b ∷ []) (37 ∷ hex_pair b))
plain_spelled b true is = plain_byte b (itself_end b is) (itself_mark b is)
plain_spelled b false is = plain_cons 37 (hex_pair b) (eqb-false 37 10 refl) (eqb-false 37 126 refl) (plain_pair b)

plain_path_byte : (b : ℕ) → Plain (path_byte b)
unfolding path_byte
plain_path_byte b = plain_spelled b (stands_for_itself b) refl

plain_path_bytes : (bytes : List ℕ) → Plain (flat_map path_byte bytes)
plain_path_bytes [] = plain_nothing
plain_path_bytes (b ∷ bytes) = plain_then (path_byte b) (flat_map path_byte bytes) (plain_path_byte b) (plain_path_bytes bytes)

plain_path_word : (bytes : List ℕ) → Plain (path_word bytes)
plain_path_word [] = plain_word [] 37 refl refl
plain_path_word (b ∷ bytes) = plain_path_bytes (b ∷ bytes)

plain_names_text : (names : List (List ℕ)) → Plain (names_text names)
plain_names_text [] = plain_nothing
plain_names_text (name ∷ names) =
    plain_then (32 ∷ path_word name) (names_text names) (plain_space (path_word name) (plain_path_word name)) (plain_names_text names)

plain_upload_text : (u : UploadNo) → Plain (upload_text u)
plain_upload_text u =
    let incarnation = drop 1 (to_be_bytes w32 u.incarnation) in
    let count = to_be_bytes w32 u.count in
    plain_then (hex_pair u.agent) (hex_word incarnation ++ hex_word count) (plain_pair u.agent)
    (plain_then (hex_word incarnation) (hex_word count) (plain_hex_word incarnation) (plain_hex_word count))

-- texts

plain_request_text : (x : RequestNo) → Plain (request_text x)
plain_request_text r = plain_then _ _ (plain_then _ _ (plain_decimal r.agent) (plain_dot _ (plain_decimal r.incarnation))) (plain_dot _ (plain_decimal r.number))

plain_refusal_text : (x : Refusal) → Plain (refusal_text x)
plain_refusal_text refusals.Busy = plain_word (codes "1 Bus") 121 refl refl
plain_refusal_text refusals.BadName = plain_word (codes "2 BadNam") 101 refl refl
plain_refusal_text refusals.NoEntry = plain_word (codes "3 NoEntr") 121 refl refl
plain_refusal_text refusals.Exists = plain_word (codes "4 Exist") 115 refl refl
plain_refusal_text refusals.NotDir = plain_word (codes "5 NotDi") 114 refl refl
plain_refusal_text refusals.IsDir = plain_word (codes "6 IsDi") 114 refl refl
plain_refusal_text refusals.NotEmpty = plain_word (codes "7 NotEmpt") 121 refl refl
plain_refusal_text (refusals.Locked agent) = plain_then _ _ (plain_word (codes "8 Locked") 32 refl refl) (plain_decimal agent)
plain_refusal_text refusals.IntoItself = plain_word (codes "9 IntoItsel") 102 refl refl
plain_refusal_text refusals.TooManyHandles = plain_word (codes "10 TooManyHandle") 115 refl refl
plain_refusal_text refusals.BadHandle = plain_word (codes "11 BadHandl") 101 refl refl
plain_refusal_text refusals.ReadOnly = plain_word (codes "12 ReadOnl") 121 refl refl
plain_refusal_text refusals.TooLong = plain_word (codes "13 TooLon") 103 refl refl
plain_refusal_text refusals.LockLost = plain_word (codes "14 LockLos") 116 refl refl
plain_refusal_text (refusals.Short clouds) = plain_then _ _ (plain_word (codes "15 Short") 32 refl refl) (plain_decimal clouds)
plain_refusal_text (refusals.Unavailable version clouds) = plain_then _ _ (plain_then _ _ (plain_word (codes "16 Unavailable") 32 refl refl) (plain_decimal version)) (plain_space _ (plain_decimal clouds))
plain_refusal_text (refusals.NotYet closes) = plain_then _ _ (plain_word (codes "17 NotYet") 32 refl refl) (plain_decimal closes)
plain_refusal_text refusals.NoVersion = plain_word (codes "18 NoVersio") 110 refl refl
plain_refusal_text (refusals.Changed file version) = plain_then _ _ (plain_then _ _ (plain_word (codes "19 Changed") 32 refl refl) (plain_decimal file.0)) (plain_space _ (plain_decimal version))
plain_refusal_text (refusals.Starting clouds) = plain_then _ _ (plain_word (codes "20 Starting") 32 refl refl) (plain_decimal clouds)
plain_refusal_text refusals.TreeFull = plain_word (codes "21 TreeFul") 108 refl refl

plain_mode_text : (x : Mode) → Plain (mode_text x)
plain_mode_text modes.Blocking = plain_word (codes "blockin") 103 refl refl
plain_mode_text modes.Nonblocking = plain_word (codes "nonblockin") 103 refl refl
plain_mode_text modes.Private = plain_word (codes "privat") 101 refl refl

plain_kind_text : (x : Kind) → Plain (kind_text x)
plain_kind_text kinds.File = plain_word (codes "fil") 101 refl refl
plain_kind_text kinds.Dir = plain_word (codes "di") 114 refl refl

plain_how_text : (x : How) → Plain (how_text x)
plain_how_text hows.Fresh = plain_word (codes "fres") 104 refl refl
plain_how_text hows.Cached = plain_word (codes "cache") 100 refl refl

plain_source_text : (x : Src) → Plain (source_text x)
plain_source_text sources.Own = plain_word (codes "ow") 110 refl refl
plain_source_text sources.Empty = plain_word (codes "empt") 121 refl refl
plain_source_text sources.Memory = plain_word (codes "memor") 121 refl refl
plain_source_text sources.Disk = plain_word (codes "dis") 107 refl refl
plain_source_text sources.Clouds = plain_word (codes "cloud") 115 refl refl

plain_sum_text : (x : Sum) → Plain (sum_text x)
plain_sum_text sums.Ack = plain_word (codes "ac") 107 refl refl
plain_sum_text sums.Absent = plain_word (codes "absen") 116 refl refl
plain_sum_text sums.Fail = plain_word (codes "fai") 108 refl refl
plain_sum_text (sums.Bytes length digest) = plain_then _ _ (plain_then _ _ (plain_word (codes "bytes") 32 refl refl) (plain_decimal length)) (plain_space _ (plain_hex_word digest.0))
plain_sum_text (sums.Names count) = plain_then _ _ (plain_word (codes "names") 32 refl refl) (plain_decimal count)

plain_call_text : (x : Call) → Plain (call_text x)
plain_call_text (calls.Mkdir p) = plain_then _ _ (plain_word (codes "mkdir") 32 refl refl) (plain_path_word p)
plain_call_text (calls.Rmdir p) = plain_then _ _ (plain_word (codes "rmdir") 32 refl refl) (plain_path_word p)
plain_call_text (calls.Create p) = plain_then _ _ (plain_word (codes "create") 32 refl refl) (plain_path_word p)
plain_call_text (calls.Unlink p) = plain_then _ _ (plain_word (codes "unlink") 32 refl refl) (plain_path_word p)
plain_call_text (calls.Stat p) = plain_then _ _ (plain_word (codes "stat") 32 refl refl) (plain_path_word p)
plain_call_text (calls.List p) = plain_then _ _ (plain_word (codes "list") 32 refl refl) (plain_path_word p)
plain_call_text (calls.Rename p q) = plain_then _ _ (plain_then _ _ (plain_word (codes "rename") 32 refl refl) (plain_path_word p)) (plain_space _ (plain_path_word q))
plain_call_text (calls.OpenR p) = plain_then _ _ (plain_then _ _ (plain_word (codes "open") 32 refl refl) (plain_path_word p)) (plain_word (codes " ") 114 refl refl)
plain_call_text (calls.OpenW p) = plain_then _ _ (plain_then _ _ (plain_word (codes "open") 32 refl refl) (plain_path_word p)) (plain_word (codes " ") 119 refl refl)
plain_call_text (calls.Openat p v) = plain_then _ _ (plain_then _ _ (plain_word (codes "openat") 32 refl refl) (plain_path_word p)) (plain_space _ (plain_decimal v))
plain_call_text (calls.Read h offset count) = plain_then _ _ (plain_then _ _ (plain_then _ _ (plain_word (codes "read") 32 refl refl) (plain_decimal h)) (plain_space _ (plain_decimal offset))) (plain_space _ (plain_decimal count))
plain_call_text (calls.Write h offset bytes) = plain_then _ _ (plain_then _ _ (plain_then _ _ (plain_word (codes "write") 32 refl refl) (plain_decimal h)) (plain_space _ (plain_decimal offset))) (plain_space _ (plain_hex_text bytes))
plain_call_text (calls.Truncate h size) = plain_then _ _ (plain_then _ _ (plain_word (codes "truncate") 32 refl refl) (plain_decimal h)) (plain_space _ (plain_decimal size))
plain_call_text (calls.Close h) = plain_then _ _ (plain_word (codes "close") 32 refl refl) (plain_decimal h)
plain_call_text calls.Sync = plain_word (codes "syn") 99 refl refl
plain_call_text (calls.Versions p) = plain_then _ _ (plain_word (codes "versions") 32 refl refl) (plain_path_word p)
plain_call_text (calls.Collect p) = plain_then _ _ (plain_word (codes "collect") 32 refl refl) (plain_path_word p)
plain_call_text calls.Purge = plain_word (codes "purg") 101 refl refl

plain_answer_text : (x : CloudAnswer) → Plain (answer_text x)
plain_answer_text answers.Ack = plain_word (codes "ac") 107 refl refl
plain_answer_text answers.Absent = plain_word (codes "absen") 116 refl refl
plain_answer_text answers.Fail = plain_word (codes "fai") 108 refl refl
plain_answer_text (answers.Bytes bytes) = plain_then _ _ (plain_word (codes "bytes") 32 refl refl) (plain_hex_text bytes)
plain_answer_text (answers.Names names) = plain_then _ _ (plain_word (codes "name") 115 refl refl) (plain_names_text names)

pub plain_event_text : (x : Event) → Plain (event_text x)
plain_event_text (events.Call a call) = plain_then _ _ (plain_then _ _ (plain_word (codes "call") 32 refl refl) (plain_decimal a)) (plain_space _ (plain_call_text call))
plain_event_text (events.Say c answer) = plain_then _ _ (plain_then _ _ (plain_word (codes "say") 32 refl refl) (plain_decimal c)) (plain_space _ (plain_answer_text answer))
plain_event_text (events.Tick n) = plain_then _ _ (plain_word (codes "tick") 32 refl refl) (plain_decimal n)
plain_event_text (events.Space a) = plain_then _ _ (plain_word (codes "space") 32 refl refl) (plain_decimal a)
plain_event_text (events.Later a) = plain_then _ _ (plain_word (codes "later") 32 refl refl) (plain_decimal a)
plain_event_text (events.Told a) = plain_then _ _ (plain_word (codes "told") 32 refl refl) (plain_decimal a)
plain_event_text (events.Serve a) = plain_then _ _ (plain_word (codes "serve") 32 refl refl) (plain_decimal a)
plain_event_text (events.Hide a) = plain_then _ _ (plain_word (codes "hide") 32 refl refl) (plain_decimal a)
plain_event_text (events.Fail a) = plain_then _ _ (plain_word (codes "fail") 32 refl refl) (plain_decimal a)
plain_event_text (events.Give a) = plain_then _ _ (plain_word (codes "give") 32 refl refl) (plain_decimal a)
plain_event_text (events.Lose a) = plain_then _ _ (plain_word (codes "lose") 32 refl refl) (plain_decimal a)
plain_event_text (events.Drop a) = plain_then _ _ (plain_word (codes "drop") 32 refl refl) (plain_decimal a)
plain_event_text (events.Defer a) = plain_then _ _ (plain_word (codes "defer") 32 refl refl) (plain_decimal a)
plain_event_text (events.Swap a) = plain_then _ _ (plain_word (codes "swap") 32 refl refl) (plain_decimal a)
plain_event_text (events.Again a) = plain_then _ _ (plain_word (codes "again") 32 refl refl) (plain_decimal a)
plain_event_text (events.Twice a) = plain_then _ _ (plain_word (codes "twice") 32 refl refl) (plain_decimal a)
plain_event_text (events.Turn a) = plain_then _ _ (plain_word (codes "turn") 32 refl refl) (plain_decimal a)
plain_event_text (events.Crash a) = plain_then _ _ (plain_word (codes "crash") 32 refl refl) (plain_decimal a)
plain_event_text (events.Start a) = plain_then _ _ (plain_word (codes "start") 32 refl refl) (plain_decimal a)

pub plain_line_text : (x : Line) → Plain (line_text x)
plain_line_text lines.Skip = plain_word (codes "ski") 112 refl refl
plain_line_text (lines.Gone request) = plain_then _ _ (plain_word (codes "gone") 32 refl refl) (plain_request_text request)
plain_line_text (lines.Looked request) = plain_then _ _ (plain_word (codes "looked") 32 refl refl) (plain_request_text request)
plain_line_text (lines.Changed request) = plain_then _ _ (plain_word (codes "changed") 32 refl refl) (plain_request_text request)
plain_line_text (lines.Locked request file until) = plain_then _ _ (plain_then _ _ (plain_then _ _ (plain_word (codes "locked") 32 refl refl) (plain_request_text request)) (plain_space _ (plain_decimal file.0))) (plain_space _ (plain_decimal until))
plain_line_text (lines.Committed request file version) = plain_then _ _ (plain_then _ _ (plain_then _ _ (plain_word (codes "committed") 32 refl refl) (plain_request_text request)) (plain_space _ (plain_decimal file.0))) (plain_space _ (plain_decimal version))
plain_line_text (lines.Renewed request until) = plain_then _ _ (plain_then _ _ (plain_word (codes "renewed") 32 refl refl) (plain_request_text request)) (plain_space _ (plain_decimal until))
plain_line_text (lines.Unlocked request locks) = plain_then _ _ (plain_then _ _ (plain_word (codes "unlocked") 32 refl refl) (plain_request_text request)) (plain_space _ (plain_decimal locks))
plain_line_text (lines.Dropped request versions) = plain_then _ _ (plain_then _ _ (plain_word (codes "dropped") 32 refl refl) (plain_request_text request)) (plain_space _ (plain_decimal versions))
plain_line_text (lines.Forgot request tuples) = plain_then _ _ (plain_then _ _ (plain_word (codes "forgot") 32 refl refl) (plain_request_text request)) (plain_space _ (plain_decimal tuples))
plain_line_text (lines.Refused request why) = plain_then _ _ (plain_then _ _ (plain_word (codes "refused") 32 refl refl) (plain_request_text request)) (plain_space _ (plain_refusal_text why))
plain_line_text (lines.Did cloud request sum) = plain_then _ _ (plain_then _ _ (plain_then _ _ (plain_word (codes "did") 32 refl refl) (plain_decimal cloud)) (plain_space _ (plain_request_text request))) (plain_space _ (plain_sum_text sum))
plain_line_text (lines.Gave cloud request sum) = plain_then _ _ (plain_then _ _ (plain_then _ _ (plain_word (codes "gave") 32 refl refl) (plain_decimal cloud)) (plain_space _ (plain_request_text request))) (plain_space _ (plain_sum_text sum))
plain_line_text (lines.Put request cloud name length digest) = plain_then _ _ (plain_then _ _ (plain_then _ _ (plain_then _ _ (plain_then _ _ (plain_word (codes "put") 32 refl refl) (plain_request_text request)) (plain_space _ (plain_decimal cloud))) (plain_space _ (plain_path_word name))) (plain_space _ (plain_decimal length))) (plain_space _ (plain_hex_word digest.0))
plain_line_text (lines.Get request cloud name) = plain_then _ _ (plain_then _ _ (plain_then _ _ (plain_word (codes "get") 32 refl refl) (plain_request_text request)) (plain_space _ (plain_decimal cloud))) (plain_space _ (plain_path_word name))
plain_line_text (lines.Del request cloud name) = plain_then _ _ (plain_then _ _ (plain_then _ _ (plain_word (codes "del") 32 refl refl) (plain_request_text request)) (plain_space _ (plain_decimal cloud))) (plain_space _ (plain_path_word name))
plain_line_text (lines.Ls request cloud prefix) = plain_then _ _ (plain_then _ _ (plain_then _ _ (plain_word (codes "ls") 32 refl refl) (plain_request_text request)) (plain_space _ (plain_decimal cloud))) (plain_space _ (plain_path_word prefix))
plain_line_text (lines.Saw request file version) = plain_then _ _ (plain_then _ _ (plain_then _ _ (plain_word (codes "saw") 32 refl refl) (plain_request_text request)) (plain_space _ (plain_decimal file.0))) (plain_space _ (plain_decimal version))
plain_line_text (lines.Opened agent session version source length) = plain_then _ _ (plain_then _ _ (plain_then _ _ (plain_then _ _ (plain_then _ _ (plain_word (codes "opened") 32 refl refl) (plain_decimal agent)) (plain_space _ (plain_decimal session))) (plain_space _ (plain_decimal version))) (plain_space _ (plain_source_text source))) (plain_space _ (plain_decimal length))
plain_line_text (lines.OkMkdir agent file) = plain_then _ _ (plain_then _ _ (plain_then _ _ (plain_word (codes "ok") 32 refl refl) (plain_decimal agent)) (plain_word (codes " mkdir") 32 refl refl)) (plain_decimal file.0)
plain_line_text (lines.OkCreate agent file) = plain_then _ _ (plain_then _ _ (plain_then _ _ (plain_word (codes "ok") 32 refl refl) (plain_decimal agent)) (plain_word (codes " create") 32 refl refl)) (plain_decimal file.0)
plain_line_text (lines.OkRmdir agent) = plain_then _ _ (plain_then _ _ (plain_word (codes "ok") 32 refl refl) (plain_decimal agent)) (plain_word (codes " rmdi") 114 refl refl)
plain_line_text (lines.OkUnlink agent) = plain_then _ _ (plain_then _ _ (plain_word (codes "ok") 32 refl refl) (plain_decimal agent)) (plain_word (codes " unlin") 107 refl refl)
plain_line_text (lines.OkRename agent) = plain_then _ _ (plain_then _ _ (plain_word (codes "ok") 32 refl refl) (plain_decimal agent)) (plain_word (codes " renam") 101 refl refl)
plain_line_text (lines.OkSync agent) = plain_then _ _ (plain_then _ _ (plain_word (codes "ok") 32 refl refl) (plain_decimal agent)) (plain_word (codes " syn") 99 refl refl)
plain_line_text (lines.OkStat agent kind file version length how) = plain_then _ _ (plain_then _ _ (plain_then _ _ (plain_then _ _ (plain_then _ _ (plain_then _ _ (plain_then _ _ (plain_word (codes "ok") 32 refl refl) (plain_decimal agent)) (plain_word (codes " stat") 32 refl refl)) (plain_kind_text kind)) (plain_space _ (plain_decimal file.0))) (plain_space _ (plain_decimal version))) (plain_space _ (plain_decimal length))) (plain_space _ (plain_how_text how))
plain_line_text (lines.Name agent name) = plain_then _ _ (plain_then _ _ (plain_word (codes "name") 32 refl refl) (plain_decimal agent)) (plain_space _ (plain_path_word name))
plain_line_text (lines.OkList agent count how) = plain_then _ _ (plain_then _ _ (plain_then _ _ (plain_then _ _ (plain_word (codes "ok") 32 refl refl) (plain_decimal agent)) (plain_word (codes " list") 32 refl refl)) (plain_decimal count)) (plain_space _ (plain_how_text how))
plain_line_text (lines.Data agent session bytes) = plain_then _ _ (plain_then _ _ (plain_then _ _ (plain_word (codes "data") 32 refl refl) (plain_decimal agent)) (plain_space _ (plain_decimal session))) (plain_space _ (plain_hex_text bytes))
plain_line_text (lines.OkWrite agent session length) = plain_then _ _ (plain_then _ _ (plain_then _ _ (plain_then _ _ (plain_word (codes "ok") 32 refl refl) (plain_decimal agent)) (plain_word (codes " write") 32 refl refl)) (plain_decimal session)) (plain_space _ (plain_decimal length))
plain_line_text (lines.OkTruncate agent session length) = plain_then _ _ (plain_then _ _ (plain_then _ _ (plain_then _ _ (plain_word (codes "ok") 32 refl refl) (plain_decimal agent)) (plain_word (codes " truncate") 32 refl refl)) (plain_decimal session)) (plain_space _ (plain_decimal length))
plain_line_text (lines.OkClose agent session) = plain_then _ _ (plain_then _ _ (plain_then _ _ (plain_word (codes "ok") 32 refl refl) (plain_decimal agent)) (plain_word (codes " close") 32 refl refl)) (plain_decimal session)
plain_line_text (lines.Closed agent session version) = plain_then _ _ (plain_then _ _ (plain_then _ _ (plain_word (codes "closed") 32 refl refl) (plain_decimal agent)) (plain_space _ (plain_decimal session))) (plain_space _ (plain_decimal version))
plain_line_text (lines.Queued agent session) = plain_then _ _ (plain_then _ _ (plain_word (codes "queued") 32 refl refl) (plain_decimal agent)) (plain_space _ (plain_decimal session))
plain_line_text (lines.Done agent session version) = plain_then _ _ (plain_then _ _ (plain_then _ _ (plain_word (codes "done") 32 refl refl) (plain_decimal agent)) (plain_space _ (plain_decimal session))) (plain_space _ (plain_decimal version))
plain_line_text (lines.Lost agent session) = plain_then _ _ (plain_then _ _ (plain_word (codes "lost") 32 refl refl) (plain_decimal agent)) (plain_space _ (plain_decimal session))
plain_line_text (lines.Version agent version length upload digest) = plain_then _ _ (plain_then _ _ (plain_then _ _ (plain_then _ _ (plain_then _ _ (plain_word (codes "version") 32 refl refl) (plain_decimal agent)) (plain_space _ (plain_decimal version))) (plain_space _ (plain_decimal length))) (plain_space _ (plain_upload_text upload))) (plain_space _ (plain_hex_word digest.0))
plain_line_text (lines.OkVersions agent count) = plain_then _ _ (plain_then _ _ (plain_then _ _ (plain_word (codes "ok") 32 refl refl) (plain_decimal agent)) (plain_word (codes " versions") 32 refl refl)) (plain_decimal count)
plain_line_text (lines.OkCollect agent count) = plain_then _ _ (plain_then _ _ (plain_then _ _ (plain_word (codes "ok") 32 refl refl) (plain_decimal agent)) (plain_word (codes " collect") 32 refl refl)) (plain_decimal count)
plain_line_text (lines.OkPurge agent versions uploads) = plain_then _ _ (plain_then _ _ (plain_then _ _ (plain_then _ _ (plain_word (codes "ok") 32 refl refl) (plain_decimal agent)) (plain_word (codes " purge") 32 refl refl)) (plain_decimal versions)) (plain_space _ (plain_decimal uploads))
plain_line_text (lines.No agent why) = plain_then _ _ (plain_then _ _ (plain_word (codes "no") 32 refl refl) (plain_decimal agent)) (plain_space _ (plain_refusal_text why))
plain_line_text (lines.Lapsed agent session) = plain_then _ _ (plain_then _ _ (plain_word (codes "lapsed") 32 refl refl) (plain_decimal agent)) (plain_space _ (plain_decimal session))
plain_line_text (lines.Saved agent count) = plain_then _ _ (plain_then _ _ (plain_word (codes "saved") 32 refl refl) (plain_decimal agent)) (plain_space _ (plain_decimal count))
plain_line_text (lines.Crashed agent) = plain_then _ _ (plain_word (codes "crashed") 32 refl refl) (plain_decimal agent)
plain_line_text (lines.Started agent incarnation) = plain_then _ _ (plain_then _ _ (plain_word (codes "started") 32 refl refl) (plain_decimal agent)) (plain_space _ (plain_decimal incarnation))
plain_line_text (lines.Ready agent) = plain_then _ _ (plain_word (codes "ready") 32 refl refl) (plain_decimal agent)
plain_line_text (lines.Adopted agent incarnation count) = plain_then _ _ (plain_then _ _ (plain_then _ _ (plain_word (codes "adopted") 32 refl refl) (plain_decimal agent)) (plain_space _ (plain_decimal incarnation))) (plain_space _ (plain_decimal count))
plain_line_text (lines.AdoptedNone agent) = plain_then _ _ (plain_then _ _ (plain_word (codes "adopted") 32 refl refl) (plain_decimal agent)) (plain_word (codes " non") 101 refl refl)

-- lines

marked_by : (front : List ℕ) (b : ℕ) → is_left_out (front ++ b ∷ []) ≡ eqb b 126
marked_by [] b = refl
marked_by (x ∷ []) b = refl
marked_by (x ∷ y ∷ front) b = marked_by (y ∷ front) b

no_mark : (x : List ℕ) → Plain x → is_left_out x ≡ false
no_mark x p =
    elim p.ends [
      | inl none ↦ ap is_left_out none
      | inr e ↦ ap is_left_out e.2 ∙ marked_by e.0 e.1 ∙ ne_eqb e.1 126 e.3
    ]

are_plain_cons : (line : List ℕ) (lines : List (List ℕ)) → Plain line → ArePlain lines → ArePlain (line ∷ lines)
are_plain_cons line lines p more = (p.no_end, no_mark line p, more)

pub are_plain_then : (first others : List (List ℕ)) → ArePlain first → ArePlain others → ArePlain (first ++ others)
are_plain_then [] others p q = q
are_plain_then (line ∷ first) others p q = (p.0, p.1, are_plain_then first others p.2 q)

plain_made : (n : ℕ) (line : Line) → Plain (32 ∷ made_line n line)
plain_made n line =
    plain_space (made_line n line) (plain_then (decimal n) (32 ∷ line_text line) (plain_decimal n) (plain_space (line_text line) (plain_line_text line)))

are_plain_made : (n : ℕ) (lines : List Line) → ArePlain (map (λ line. 32 ∷ made_line n line) lines)
are_plain_made n [] = tt
are_plain_made n (line ∷ lines) = are_plain_cons (32 ∷ made_line n line) (map (λ line. 32 ∷ made_line n line) lines) (plain_made n line) (are_plain_made n lines)

pub are_plain_event : (past : History) (e : Entry) → ArePlain (event_lines past e)
are_plain_event past e =
    let n = length past + 1 in
    are_plain_cons (event_text e.event) (map (λ line. 32 ∷ made_line n line) e.lines) (plain_event_text e.event) (are_plain_made n e.lines)

-- the lines of a header

unfoldable pub agent_row : ℕ → Mode × List ℕ → List ℕ
agent_row number agent = codes "agent " ++ decimal number ++ 32 ∷ mode_text agent.0 ++ 32 ∷ hex_word agent.1

abbrev pub agent_rows : ℕ → List (Mode × List ℕ) → List (List ℕ)
agent_rows number [] = []
agent_rows number (agent ∷ agents) = agent_row number agent ∷ agent_rows (number + 1) agents

agent_rows_text : (number : ℕ) (agents : List (Mode × List ℕ)) → agents_text number agents ≡ flat_map ended (agent_rows number agents)
unfolding agent_row
agent_rows_text number [] = refl
agent_rows_text number (agent ∷ agents) = ap (λ t. agent_text number agent ++ t) (agent_rows_text (number + 1) agents)

are_plain_agents : (number : ℕ) (agents : List (Mode × List ℕ)) → ArePlain (agent_rows number agents)
unfolding agent_row
are_plain_agents number [] = tt
are_plain_agents number (agent ∷ agents) =
    are_plain_cons (agent_row number agent) (agent_rows (number + 1) agents)
    (plain_then _ _ (plain_then _ _ (plain_then _ _ (plain_word (codes "agent") 32 refl refl) (plain_decimal number)) (plain_space _ (plain_mode_text agent.0)))
    (plain_space _ (plain_hex_word agent.1)))
    (are_plain_agents (number + 1) agents)

abbrev pub header_rows : Header → List (List ℕ)
header_rows header =
    codes "scfs 1" ∷ (codes "f " ++ decimal header.f) ∷ (codes "lease " ++ decimal header.lease) ∷ (codes "stale " ++ decimal header.stale)
    ∷ (agent_rows 0 header.agents ++ codes "begin" ∷ [])

row_joined : (f lease stale agents : List ℕ) → codes "scfs 1\nf " ++ f ++ codes "\nlease " ++ lease ++ codes "\nstale " ++ stale ++ 10 ∷ agents ++ codes "begin\n"
    ≡ codes "scfs 1\nf " ++ (f ++ (codes "\nlease " ++ (lease ++ (codes "\nstale " ++ (stale ++ (10 ∷ (agents ++ codes "begin\n")))))))
row_joined f lease stale agents = simp append_assoc

rows_joined : (f lease stale agents : List ℕ) → codes "scfs 1\nf " ++ f ++ codes "\nlease " ++ lease ++ codes "\nstale " ++ stale ++ 10 ∷ agents ++ codes "begin\n"
    ≡ (codes "scfs 1" ++ 10 ∷ []) ++ (((codes "f " ++ f) ++ 10 ∷ []) ++ (((codes "lease " ++ lease) ++ 10 ∷ []) ++ (((codes "stale " ++ stale) ++ 10 ∷ []) ++ (agents ++ codes "begin\n"))))
rows_joined f lease stale agents =
    let end = agents ++ codes "begin\n" in
    let of_stale = codes "stale " ++ ((stale ++ 10 ∷ []) ++ end) in
    let of_lease = codes "lease " ++ ((lease ++ 10 ∷ []) ++ of_stale) in
    row_joined f lease stale agents
    ∙ ap (λ t. codes "scfs 1\nf " ++ (f ++ (codes "\nlease " ++ (lease ++ (codes "\nstale " ++ t))))) (sym (append_assoc stale (10 ∷ []) end))
    ∙ ap (λ t. codes "scfs 1\nf " ++ (f ++ (codes "\nlease " ++ t))) (sym (append_assoc lease (10 ∷ []) of_stale))
    ∙ ap (λ t. codes "scfs 1\nf " ++ t) (sym (append_assoc f (10 ∷ []) of_lease))

pub rows_text : (header : Header) → header_text header ≡ flat_map ended (header_rows header)
rows_text header =
    let rest = λ (t : List ℕ).
    (codes "scfs 1" ++ 10 ∷ []) ++ (((codes "f " ++ decimal header.f) ++ 10 ∷ []) ++ (((codes "lease " ++ decimal header.lease) ++ 10 ∷ [])
    ++ (((codes "stale " ++ decimal header.stale) ++ 10 ∷ []) ++ t))) in
    rows_joined (decimal header.f) (decimal header.lease) (decimal header.stale) (agents_text 0 header.agents)
    ∙ ap (λ t. rest (t ++ codes "begin\n")) (agent_rows_text 0 header.agents) ∙ ap rest (sym (flat_map-append ended (agent_rows 0 header.agents) (codes "begin" ∷ [])))

pub are_plain_rows : (header : Header) → ArePlain (header_rows header)
are_plain_rows header =
    let last = agent_rows 0 header.agents ++ codes "begin" ∷ [] in
    let third = (codes "stale " ++ decimal header.stale) ∷ last in
    let second = (codes "lease " ++ decimal header.lease) ∷ third in
    let first = (codes "f " ++ decimal header.f) ∷ second in
    are_plain_cons (codes "scfs 1") first (plain_word (codes "scfs ") 49 refl refl)
    (are_plain_cons (codes "f " ++ decimal header.f) second (plain_then _ _ (plain_word (codes "f") 32 refl refl) (plain_decimal header.f))
    (are_plain_cons (codes "lease " ++ decimal header.lease) third (plain_then _ _ (plain_word (codes "lease") 32 refl refl) (plain_decimal header.lease))
    (are_plain_cons (codes "stale " ++ decimal header.stale) last (plain_then _ _ (plain_word (codes "stale") 32 refl refl) (plain_decimal header.stale))
    (are_plain_then (agent_rows 0 header.agents) (codes "begin" ∷ []) (are_plain_agents 0 header.agents)
    (are_plain_cons (codes "begin") [] (plain_word (codes "begi") 110 refl refl) tt)))))
