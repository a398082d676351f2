-- The lines of an old journal that was run again are those of its history.
use Rattle.std.proofs.Common.{◌≡◌, ℕ, ◌+◌, List, [], ◌∷◌, ◌++◌, refl, ap, ◌∙◌, sym, subst, Bool, true, false, ◌&&◌, cond, eqb, Result, Ok, Err, length, map, append_assoc, append-nil}
use Rattle.std.proofs.lemmas.Bool.{eqb-true}
use Rattle.std.specs.Prelude.{slice_get}
use Rattle.std.specs.Str.{bytes_eq}
use Rattle.scfs_schedule.specs.declared.types.BadKind.{BadKind}
use Rattle.scfs_schedule.specs.declared.types.Event.{Event}
use Rattle.scfs_schedule.specs.declared.types.Header.{Header}
use Rattle.scfs_schedule.specs.Text.{event_text, header_text}
use Rattle.scfs_schedule.proofs.ReadBackLemmas.{line_spelled}
use Rattle.scfs_model.specs.History.{History}
use Rattle.scfs_live.specs.declared.finding.Found.TheVariants as founds
use Rattle.scfs_world.specs.Built.{is_built}
use Rattle.scfs_live.specs.Finding.{event_found, event_read, is_left_out, kept_found, line_found, no_line}
use Rattle.scfs_live.specs.GoingOn.{WalkedAreKept, awaited_lines, event_lines, journal_lines, kept_lines}
use Rattle.scfs_live.specs.Keeping.{made_line, whole_lines}
use Rattle.scfs_live.specs.Reopening.{Follows, Walk, Walks, unwalked}
use Rattle.scfs_live.proofs.GoingOnLemmas.{at, spaced, spaced-map}
use Rattle.scfs_live.proofs.LeavingLemmas.{kept_lines-append}

head_true : (a b : Bool) → (a && b) ≡ true → a ≡ true
head_true true b h = refl
head_true false b h = h

tail_true : (a b : Bool) → (a && b) ≡ true → b ≡ true
tail_true true b h = h
tail_true false b h = cc

pub bytes_eq-true : (x y : List ℕ) → bytes_eq x y ≡ true → x ≡ y
bytes_eq-true [] [] h = refl
bytes_eq-true [] (b ∷ y) h = cc
bytes_eq-true (a ∷ x) [] h = cc
bytes_eq-true (a ∷ x) (b ∷ y) h =
    ap (λ n. n ∷ x) (eqb-true a b (head_true (eqb a b) (bytes_eq x y) h)) ∙ ap (λ t. b ∷ t) (bytes_eq-true x y (tail_true (eqb a b) (bytes_eq x y) h))

both_ways : (b : Bool) → b ≡ true → b ≡ false → ⊥
both_ways b holds fails = cc

-- a line leads on, and so the lines that were kept, this one, and those still to be kept are the lines of a journal
module _ (header : Header) (past : History) (line : List ℕ) (kept : List (List ℕ)) (new : Walk) where
  abbrev IsKept : (lines : List (List ℕ)) → Type 0
  IsKept lines = (kept ++ lines) ++ awaited_lines new.awaited ≡ journal_lines header new.past

  abbrev WasKept : (first waiting : List (List ℕ)) → Type 0
  WasKept first waiting = kept ++ (first ++ spaced waiting) ≡ journal_lines header past

  to_first : (h : List ℕ) (hs waiting : List (List ℕ)) (t : Bool) → bytes_eq line h ≡ t → Follows (cond t founds.KeepsHeader (founds.Differs line h)) (at past (h ∷ hs) waiting) new
      → WasKept (h ∷ hs) waiting → IsKept (line ∷ [])
  to_first h hs waiting false other follows was = absurd follows
  to_first h hs waiting true same follows was =
      subst (λ (w : Walk). (kept ++ line ∷ []) ++ awaited_lines w.awaited ≡ journal_lines header w.past) (sym follows)
      (append_assoc kept (line ∷ []) (hs ++ spaced waiting) ∙ ap (λ l. kept ++ l ∷ (hs ++ spaced waiting)) (bytes_eq-true line h same) ∙ was)

  no_event : (m : List ℕ) (ms : List (List ℕ)) (event : Event) (t : Bool) → is_built event ≡ t
      → Follows (cond t (founds.Differs no_line m) (founds.Does event)) (at past [] (m ∷ ms)) new → ⊥
  no_event m ms event true is follows = follows
  no_event m ms event false is follows = both_ways (is_built event) follows.0 is

  to_event : (waiting : List (List ℕ)) (read : Result Event BadKind) → event_read header line ≡ read
      → Follows (event_found (slice_get waiting 0) read) (at past [] waiting) new → WasKept [] waiting → IsKept (line ∷ [])
  to_event waiting (Err kind) is follows was = absurd follows
  to_event (m ∷ ms) (Ok event) is follows was = absurd (no_event m ms event (is_built event) refl follows)
  to_event [] (Ok event) is follows was =
      let e = follows.2.0 in
      let made = map (made_line (length past + 1)) e.lines in
      let spelled : line ≡ event_text e.event = line_spelled header line event is ∙ ap event_text (sym follows.2.1) in
      subst (λ (w : Walk). (kept ++ line ∷ []) ++ awaited_lines w.awaited ≡ journal_lines header w.past) (sym follows.2.2)
      (append_assoc kept (line ∷ []) (spaced made) ∙ ap (λ l. kept ++ l ∷ spaced made) spelled
      ∙ ap (λ ls. kept ++ event_text e.event ∷ ls) (spaced-map (length past + 1) e.lines)
      ∙ ap (λ ls. ls ++ event_lines past e) (sym (append-nil kept) ∙ was))

to_compared : (header : Header) (past : History) (rest : List ℕ) (kept : List (List ℕ)) (new : Walk) (m : List ℕ) (ms : List (List ℕ)) (t : Bool) → bytes_eq rest m ≡ t
    → Follows (cond t founds.KeepsLine (founds.Differs rest m)) (at past [] (m ∷ ms)) new → kept ++ ((32 ∷ m) ∷ spaced ms) ≡ journal_lines header past
    → (kept ++ (32 ∷ rest) ∷ []) ++ awaited_lines new.awaited ≡ journal_lines header new.past
to_compared header past rest kept new m ms false other follows was = absurd follows
to_compared header past rest kept new m ms true same follows was =
    subst (λ (w : Walk). (kept ++ (32 ∷ rest) ∷ []) ++ awaited_lines w.awaited ≡ journal_lines header w.past) (sym follows)
    (append_assoc kept ((32 ∷ rest) ∷ []) (spaced ms) ∙ ap (λ l. kept ++ (32 ∷ l) ∷ spaced ms) (bytes_eq-true rest m same) ∙ was)

to_kept : (header : Header) (past : History) (rest : List ℕ) (kept : List (List ℕ)) (new : Walk) (waiting : List (List ℕ))
    → Follows (kept_found (slice_get waiting 0) rest) (at past [] waiting) new → kept ++ spaced waiting ≡ journal_lines header past
    → (kept ++ (32 ∷ rest) ∷ []) ++ awaited_lines new.awaited ≡ journal_lines header new.past
to_kept header past rest kept new [] follows was = absurd follows
to_kept header past rest kept new (m ∷ ms) follows was = to_compared header past rest kept new m ms (bytes_eq rest m) refl follows was

by_space : (header : Header) (past : History) (byte : ℕ) (rest : List ℕ) (kept : List (List ℕ)) (new : Walk) (waiting : List (List ℕ)) (t : Bool) → eqb byte 32 ≡ t
    → Follows (cond t (kept_found (slice_get waiting 0) rest) (event_found (slice_get waiting 0) (event_read header (byte ∷ rest)))) (at past [] waiting) new
    → kept ++ spaced waiting ≡ journal_lines header past → (kept ++ (byte ∷ rest) ∷ []) ++ awaited_lines new.awaited ≡ journal_lines header new.past
by_space header past byte rest kept new waiting true space follows was =
    subst (λ b. (kept ++ (b ∷ rest) ∷ []) ++ awaited_lines new.awaited ≡ journal_lines header new.past) (sym (eqb-true byte 32 space))
    (to_kept header past rest kept new waiting follows was)
by_space header past byte rest kept new waiting false other follows was =
    to_event header past (byte ∷ rest) kept new waiting (event_read header (byte ∷ rest)) refl follows was

to_line : (header : Header) (past : History) (line : List ℕ) (kept : List (List ℕ)) (new : Walk) (first waiting : List (List ℕ))
    → Follows (line_found header (slice_get first 0) (slice_get waiting 0) line) (at past first waiting) new → kept ++ (first ++ spaced waiting) ≡ journal_lines header past
    → (kept ++ line ∷ []) ++ awaited_lines new.awaited ≡ journal_lines header new.past
to_line header past line kept new (h ∷ hs) waiting follows was = to_first header past line kept new h hs waiting (bytes_eq line h) refl follows was
to_line header past [] kept new [] waiting follows was = to_event header past [] kept new waiting (event_read header []) refl follows was
to_line header past (byte ∷ rest) kept new [] waiting follows was = by_space header past byte rest kept new waiting (eqb byte 32) refl follows was

by_mark : (header : Header) (past : History) (line : List ℕ) (kept : List (List ℕ)) (new : Walk) (first waiting : List (List ℕ)) (t : Bool)
    → Follows (cond t founds.LeftOut (line_found header (slice_get first 0) (slice_get waiting 0) line)) (at past first waiting) new
    → kept ++ (first ++ spaced waiting) ≡ journal_lines header past
    → (kept ++ cond t [] (line ∷ [])) ++ awaited_lines new.awaited ≡ journal_lines header new.past
by_mark header past line kept new first waiting false follows was = to_line header past line kept new first waiting follows was
by_mark header past line kept new first waiting true follows was =
    subst (λ (w : Walk). (kept ++ []) ++ awaited_lines w.awaited ≡ journal_lines header w.past) (sym follows)
    (ap (λ ls. ls ++ (first ++ spaced waiting)) (append-nil kept) ∙ was)

kept_along : (header : Header) (lines : List (List ℕ)) (old new : Walk) (kept : List (List ℕ)) → Walks header old lines new
    → kept ++ awaited_lines old.awaited ≡ journal_lines header old.past → (kept ++ kept_lines lines) ++ awaited_lines new.awaited ≡ journal_lines header new.past
kept_along header [] old new kept walks was =
    subst (λ (w : Walk). (kept ++ []) ++ awaited_lines w.awaited ≡ journal_lines header w.past) (sym walks)
    (ap (λ ls. ls ++ awaited_lines old.awaited) (append-nil kept) ∙ was)
kept_along header (line ∷ lines) old new kept walks was =
    let one = kept_lines (line ∷ []) in
    let is = by_mark header old.past line kept walks.0 old.awaited.header old.awaited.lines (is_left_out line) walks.1 was in
    ap (λ ls. (kept ++ ls) ++ awaited_lines new.awaited) (kept_lines-append (line ∷ []) lines)
    ∙ ap (λ ls. ls ++ awaited_lines new.awaited) (sym (append_assoc kept one (kept_lines lines)))
    ∙ kept_along header lines walks.0 new (kept ++ one) walks.2 is

pub walked_are_kept : WalkedAreKept
walked_are_kept header lines place walks = kept_along header lines (unwalked header) place [] walks (append-nil (whole_lines (header_text header)))
