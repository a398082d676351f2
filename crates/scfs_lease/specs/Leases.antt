use Rattle.std.specs.Prelude.{ℕ, ◌-◌, ◌*◌, ◌<◌, List, [], ◌∷◌, ◌++◌, map, filter, find, Bool, true, false, ◌&&◌, not, ◌==◌, nat_lt, nat_le, Option, option_map, IsTrue, if◌then◌else◌}
use Rattle.std.specs.List.{AllByRecursion}
use Rattle.scfs_lease.specs.declared.leases.Lease.{Lease}

-- each session is above those before it
abbrev pub IsRising : List Lease → Type 0
IsRising [] = Unit {0}
IsRising (l ∷ rest) = AllByRecursion (λ (m : Lease). l.session < m.session) rest × IsRising rest

-- a lock is renewed while it lives, in the last half of its life
abbrev pub is_due : (now lease : ℕ) → Lease → Bool
is_due now lease l = nat_lt now l.until && nat_le ((l.until - now) * 2) lease

-- the lock of a session above this one is due, and no renewal of it is under way
abbrev pub is_due_after : (now lease after : ℕ) → Lease → Bool
is_due_after now lease after l = nat_lt after l.session && is_due now lease l && not l.asked

-- the same as a fact
abbrev pub IsDueAfter : (now lease after : ℕ) → Lease → Type 0
IsDueAfter now lease after l = IsTrue (is_due_after now lease after l)

-- the session of the first such lock
abbrev pub first_due : (now lease after : ℕ) → List Lease → Option ℕ
first_due now lease after leases = option_map (λ (l : Lease). l.session) (find (is_due_after now lease after) leases)

-- the leases with this one, in place of one of its session
abbrev pub with_lease : Lease → List Lease → List Lease
with_lease x leases =
    filter (λ (l : Lease). nat_lt l.session x.session) leases ++ x ∷ filter (λ (l : Lease). nat_lt x.session l.session) leases

-- the leases after a session ended, or after a renewal of its lock was refused: it is not renewed again
abbrev pub without_lease : (session : ℕ) → List Lease → List Lease
without_lease session leases = filter (λ (l : Lease). not (l.session == session)) leases

-- a lease once the new end of this session's lock was told
abbrev pub end_told : (session until : ℕ) → Lease → Lease
end_told session until l = if l.session == session then record l { until = until; asked = false } else l

-- the leases after a renewal of a session's lock
abbrev pub with_end : (session until : ℕ) → List Lease → List Lease
with_end session until leases = map (end_told session until) leases

-- a lease once a renewal of this session's lock is under way
abbrev pub renewal_asked : (session : ℕ) → Lease → Lease
renewal_asked session l = if l.session == session then record l { asked = true } else l

-- the leases once a renewal of a session's lock is under way
abbrev pub with_renewal : (session : ℕ) → List Lease → List Lease
with_renewal session leases = map (renewal_asked session) leases
