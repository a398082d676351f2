-- Locks that closes were completed behind, after schedules that are played.
use Rattle.std.proofs.Common.{◌≡◌, inl, inr, ℕ, List, [], ◌∷◌, ◌++◌, take, filter, ap, refl, arith}
use Rattle.std.specs.Prelude.{codes}
use Rattle.scfs_base.specs.Words.{hex_pair}
use Rattle.scfs_schedule.specs.declared.types.Event.{Event}
use Rattle.scfs_schedule.specs.declared.types.Event.TheVariants as events
use Rattle.scfs_model.specs.Names.{request_no, upload_no, file_id, same_file}
use Rattle.scfs_model.specs.Format.{Setup}
use Rattle.scfs_model.specs.History.{History}
use Rattle.scfs_model.specs.Tree.{Lock}
use Rattle.scfs_model.specs.SessionSteps.{Commit}
use Rattle.scfs_model.specs.Layers.{rows}
use Rattle.scfs_model.specs.Runs.{actual}
use Rattle.scfs_model.proofs.ShortFormat.{short_root, setup}
use Rattle.scfs_model.proofs.Played.{entry_of, played}
use Rattle.scfs_model.proofs.SharedFile.{hi, begins, commits}
use Rattle.scfs_model.proofs.Renewals.{while_uploading, lapses}
use Rattle.scfs_laws.specs.Fences.{HasAlone, Serves, live_locks, HasSince}

abbrev s : Setup
s = setup 1 2

abbrev after : List Event → (n : ℕ) → History
after schedule n = played s [] (take n schedule)

-- the lock of agent 0's session 1 on its file, up to a moment
abbrev lock : (until : ℕ) → Lock
lock until = record { file = file_id 0 0 1; agent = 0; incarnation = 0; session = 1; until = until }

abbrev once : List Event
once = begins ++ commits

-- it lives from its locked line up to its commit, which are events 5 and 17
none_before : live_locks s rows (after once 4) ≡ []
unfolding hex_pair
none_before = refl

one_since : live_locks s rows (after once 5) ≡ lock 100 ∷ []
unfolding hex_pair
one_since = refl

one_still : live_locks s rows (after once 16) ≡ lock 100 ∷ []
unfolding hex_pair
one_still = refl

none_then : live_locks s rows (after once 17) ≡ []
unfolding hex_pair
none_then = refl

abbrev Alone : (n : ℕ) → Type 0
Alone n = HasAlone (live_locks s rows (after once n)) (request_no 0 0 7) (file_id 0 0 1) 1

abbrev Since : (n : ℕ) → Type 0
Since n = HasSince s rows (after once n) (request_no 0 0 7) (file_id 0 0 1) 1

-- so its session had it since
locked : Since 5
unfolding hex_pair
locked = (
  (lock 100, refl, refl),
  inl (request_no 0 0 2, codes "a" ∷ [], 100, (0, _, [], refl, refl, refl), (0, omega arith, refl), refl, refl),
)

still : (n : ℕ) → live_locks s rows (after once n) ≡ lock 100 ∷ [] → Alone n
still n same = (lock 100, ap (filter (λ (m : Lock). same_file m.file (file_id 0 0 1))) same, refl)

since : Since 16
unfolding hex_pair
since = (
  still 16 refl,
  inr (
    still 15 refl,
    inr (
      still 14 refl,
      inr (
        still 13 refl,
        inr (
          still 12 refl,
          inr (
            still 11 refl,
            inr (
              still 10 refl,
              inr (still 9 refl, inr (still 8 refl, inr (still 7 refl, inr (still 6 refl, inr locked)))),
            ),
          ),
        ),
      ),
    ),
  ),
)

fenced : Serves (actual s (after once 16)) (entry_of s (after once 16) (events.Space 0)) (request_no 0 0 7)
    (Commit 1 (record { file = file_id 0 0 1; number = 1; upload = upload_no 0 0 1; root = short_root (upload_no 0 0 1); content = record { 0 = hi }; length = 2; moment = 0 }))
unfolding hex_pair
fenced = (0, _, [], refl, refl, refl)

-- a lock that was renewed twice lives longer, and one that was renewed too late is gone
renewed : live_locks s rows (after while_uploading 24) ≡ lock 210 ∷ []
unfolding hex_pair
renewed = refl

lapsed : live_locks s rows (after lapses 9) ≡ []
unfolding hex_pair
lapsed = refl
