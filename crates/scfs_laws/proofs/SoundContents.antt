-- Contents of sessions stay bytes, not above their limit, through each change that is allowed.
use Rattle.std.proofs.Common.{◌≡◌, ℕ, ◌+◌, ◌-◌, ◌<◌, ◌≤◌, List, [], ◌∷◌, ◌++◌, length, take, drop, replicate, refl, arith, Option, Some, None, Result, Ok, Err, Bool, true, false, cond, nat_lt, ltb-false, IfSome, length-append, length-drop, length-take}
use Rattle.std.specs.List.{All}
use Rattle.std.specs.Map.{values_of}
use Rattle.std.specs.BTreeMap.{is_at}
use Rattle.std.specs.Ordering.{nat_cmp}
use Rattle.std.proofs.lemmas.List.{length-replicate}
use Rattle.std.proofs.lemmas.List.Elements.{All-nil, All-append, All-take, All-drop, All-replicate}
use Rattle.std.proofs.lemmas.Map.Views.{IfSome-lookup_from_All, All-values-insert_entry, All-values-set_value, All-map-remove_entry}
use Rattle.scfs_base.specs.Limits.{contents_limit}
use Rattle.scfs_session.specs.declared.sessions.Session.{Session}
use Rattle.scfs_session.specs.Contents.{resized, written}
use Rattle.scfs_session.specs.Open.{OpenSessions, session_of, opened, ended, change_refusal, unless, changed, after_write, after_truncate, sessions_after}
use Rattle.scfs_schedule.specs.declared.types.Refusal.{Refusal}
use Rattle.scfs_schedule.specs.declared.types.Refusal.TheVariants as refusals
use Rattle.scfs_laws.proofs.SoundKept.{AreBytes, IsContents, IsSession}

pub no_contents : IsContents []
no_contents = record { are_bytes = All-nil (λ b. b < 256); small = omega arith }

bytes_resized : (contents : List ℕ) (size : ℕ) → AreBytes contents → AreBytes (resized contents size)
bytes_resized contents size h =
    All-append (λ b. b < 256) (take size contents) (replicate (size - length contents) 0) (All-take (λ b. b < 256) size contents h)
    (All-replicate (λ b. b < 256) (size - length contents) 0 (omega arith))

length-resized : (contents : List ℕ) (size : ℕ) → length (resized contents size) ≡ size
length-resized contents size = simp (length-append, length-take, length-replicate) (omega arith)

resized_fits : (contents : List ℕ) (size : ℕ) → IsContents contents → size ≤ contents_limit → IsContents (resized contents size)
resized_fits contents size h within =
    record { are_bytes = bytes_resized contents size h.are_bytes; small = omega (arith, length-resized contents size) }

written_fits : (contents : List ℕ) (offset : ℕ) (new : List ℕ) → AreBytes new → IsContents contents → offset + length new ≤ contents_limit
    → IsContents (written contents offset new)
written_fits contents offset [] bytes h within = h
written_fits contents offset (x ∷ xs) bytes h within =
    let P : ℕ → Type 0 = λ b. b < 256 in
    let rest = drop (offset + length (x ∷ xs)) contents in
    record {
      are_bytes = All-append P (resized contents offset ++ (x ∷ xs)) rest
          (All-append P (resized contents offset) (x ∷ xs) (bytes_resized contents offset h.are_bytes) bytes)
          (All-drop P (offset + length (x ∷ xs)) contents h.are_bytes);
      small =
          let whole = length-append (resized contents offset ++ (x ∷ xs)) rest in
          let parts = length-append (resized contents offset) (x ∷ xs) in
          omega (arith, whole, parts, length-resized contents offset, length-drop (offset + length (x ∷ xs)) contents, h.small, within);
    }

-- a session after a change, or its refusal
abbrev pub IsChanged : Result Session Refusal → Type 0
IsChanged (Ok y) = IsSession y
IsChanged (Err why) = Unit {0}

unless_fits : (refusal : Option Refusal) (y : Session) → (refusal ≡ None → IsSession y) → IsChanged (unless refusal y)
unless_fits None y fits = fits refl
unless_fits (Some why) y fits = tt

allowed_by : (writes long : Bool) → cond writes (cond long (Some refusals.TooLong) None) (Some refusals.ReadOnly) ≡ None → long ≡ false
allowed_by true true h = cc
allowed_by true false h = refl
allowed_by false long h = cc

changed_fits : (there : Option Session) (end : ℕ) (change : List ℕ → List ℕ) → IfSome there IsSession
    → ((contents : List ℕ) → IsContents contents → end ≤ contents_limit → IsContents (change contents)) → IsChanged (changed there end change)
changed_fits None end change fits each = tt
changed_fits (Some y) end change fits each =
    unless_fits (change_refusal y end) (record y { contents = change y.contents }) (λ none.
    each y.contents fits (ltb-false contents_limit end (allowed_by y.writes (nat_lt contents_limit end) none)))

-- open sessions whose contents fit
abbrev pub AreSessions : OpenSessions → Type 0
AreSessions sessions = All IsSession (values_of sessions)

module _ (sessions : OpenSessions) (h : ℕ) (each : AreSessions sessions) where
  pub there_fits : IfSome (session_of sessions h) IsSession
  there_fits = IfSome-lookup_from_All IsSession (is_at (nat_cmp h)) sessions each

  pub opened_fits : (y : Session) → IsSession y → AreSessions (opened sessions h y)
  opened_fits y fits = All-values-insert_entry nat_cmp h y IsSession sessions each fits

  pub ended_fits : AreSessions (ended sessions h)
  ended_fits = All-map-remove_entry (is_at (nat_cmp h)) (λ e. e.1) IsSession sessions each

  pub after_fits : (y : Session) → IsSession y → AreSessions (sessions_after sessions h (Ok y))
  after_fits y fits = All-values-set_value (is_at (nat_cmp h)) IsSession sessions y each fits

  pub write_fits : (offset : ℕ) (new : List ℕ) → AreBytes new → IsChanged (after_write (session_of sessions h) offset new)
  write_fits offset new bytes =
      changed_fits (session_of sessions h) (offset + length new) (λ contents. written contents offset new) there_fits
      (λ contents. written_fits contents offset new bytes)

  pub truncate_fits : (size : ℕ) → IsChanged (after_truncate (session_of sessions h) size)
  truncate_fits size =
      changed_fits (session_of sessions h) size (λ contents. resized contents size) there_fits (λ contents. resized_fits contents size)
