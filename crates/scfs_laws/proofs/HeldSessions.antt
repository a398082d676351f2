-- Sessions whose contents are the bytes of their numbers.
use Rattle.std.proofs.Common.{◌≡◌, ℕ, ◌<◌, ◌≢◌, List, [], ◌∷◌, refl, sym, ap, ◌∙◌, subst, arith, Some, None, Bool, true, false, cond, nat_lt, ltb-true, ltb-false, eqb-true, eq-eqb, true≢false, Less, Equal, Greater}
use Rattle.std.specs.Prelude.{◌==◌}
use Rattle.std.specs.BTreeMap.{is_at}
use Rattle.std.specs.Map.{set_value}
use Rattle.std.specs.Ordering.{nat_cmp, is_eq, match_ordering}
use Rattle.scfs_session.specs.declared.sessions.Session.{Session}
use Rattle.scfs_session.specs.Open.{OpenSessions, session_of, opened, ended}

-- the numbers of these sessions are above
abbrev pub AreAbove : ℕ → OpenSessions → Type 0
AreAbove k [] = Unit {0}
AreAbove k (e ∷ es) = (k < e.0) × AreAbove k es

-- each session holds the bytes of its number, and the numbers ascend
abbrev pub AreHeld : (held : ℕ → List ℕ) → OpenSessions → Type 0
AreHeld held [] = Unit {0}
AreHeld held (e ∷ es) = (held e.0 ≡ e.1.contents) × AreAbove e.0 es × AreHeld held es

-- the bytes of one number are changed to these
pub record IsChangedAt (held new : ℕ → List ℕ) (h : ℕ) (contents : List ℕ) : Type 0 where
  pub here : new h ≡ contents
  pub others : (k : ℕ) → k ≢ h → new k ≡ held k

pub held_alike : (held new : ℕ → List ℕ) (sessions : OpenSessions) → ((k : ℕ) → new k ≡ held k) → AreHeld held sessions → AreHeld new sessions
held_alike held new [] same is = tt
held_alike held new (e ∷ es) same is = (same e.0 ∙ is.0, is.1, held_alike held new es same is.2)

held_apart : (held new : ℕ → List ℕ) (h : ℕ) (sessions : OpenSessions) → ((k : ℕ) → k ≢ h → new k ≡ held k) → AreAbove h sessions
    → AreHeld held sessions
    → AreHeld new sessions
held_apart held new h [] others above is = tt
held_apart held new h (e ∷ es) others above is =
    let apart : e.0 ≢ h = omega (arith, above.0) in
    (others e.0 apart ∙ is.0, is.1, held_apart held new h es others above.1 is.2)

above_less : (j k : ℕ) (sessions : OpenSessions) → j < k → AreAbove k sessions → AreAbove j sessions
above_less j k [] less above = tt
above_less j k (e ∷ es) less above = (omega (arith, above.0), above_less j k es less above.1)

-- a session of this number is there

above_opened : (k : ℕ) (sessions : OpenSessions) (h : ℕ) (y : Session) → k < h → AreAbove k sessions → AreAbove k (opened sessions h y)
above_opened k [] h y less above = (less, tt)
above_opened k (e ∷ es) h y less above = by (nat_lt h e.0) (h == e.0) (above_opened k es h y less above.1)
  where
    by : (lt eq : Bool) → AreAbove k (opened es h y)
        → AreAbove k (match_ordering (cond lt Less (cond eq Equal Greater)) ((h, y) ∷ e ∷ es) ((e.0, y) ∷ es) (e ∷ opened es h y))
    by true eq later = (less, above)
    by false true later = above
    by false false later = (above.0, later)

pub held_opened : (held new : ℕ → List ℕ) (sessions : OpenSessions) (h : ℕ) (y : Session) → IsChangedAt held new h y.contents
    → AreHeld held sessions
    → AreHeld new (opened sessions h y)
held_opened held new [] h y change is = (change.here, tt, tt)
held_opened held new (e ∷ es) h y change is = by (nat_lt h e.0) (h == e.0) refl refl (held_opened held new es h y change is.2)
  where
    by : (lt eq : Bool) → nat_lt h e.0 ≡ lt → (h == e.0) ≡ eq → AreHeld new (opened es h y)
        → AreHeld new (match_ordering (cond lt Less (cond eq Equal Greater)) ((h, y) ∷ e ∷ es) ((e.0, y) ∷ es) (e ∷ opened es h y))
    by true eq below same later =
        let less : h < e.0 = ltb-true h e.0 below in
        let above = above_less h e.0 es less is.1 in
        (change.here, (less, above), held_apart held new h (e ∷ es) change.others (less, above) is)
    by false true below same later =
        let equal : h ≡ e.0 = eqb-true h e.0 same in (
          subst (λ k. new k ≡ y.contents) equal change.here,
          is.1,
          held_apart held new h es change.others (subst (λ k. AreAbove k es) (sym equal) is.1) is.2,
        )
    by false false below same later =
        let least : e.0 ≢ h = λ equal. true≢false (sym (eq-eqb h e.0 (sym equal)) ∙ same) in
        let more : e.0 < h = omega (arith, ltb-false h e.0 below, least) in
        (change.others e.0 least ∙ is.0, above_opened e.0 es h y more is.1, later)

-- a session of this number has another working copy

above_set : (k : ℕ) (sessions : OpenSessions) (h : ℕ) (y : Session) → AreAbove k sessions → AreAbove k (set_value (is_at (nat_cmp h)) sessions y)
above_set k [] h y above = tt
above_set k (e ∷ es) h y above = by (is_at (nat_cmp h) e.0) (above_set k es h y above.1)
  where
    by : (b : Bool) → AreAbove k (set_value (is_at (nat_cmp h)) es y) → AreAbove k (cond b ((e.0, y) ∷ es) (e ∷ set_value (is_at (nat_cmp h)) es y))
    by true later = above
    by false later = (above.0, later)

pub held_set : (held new : ℕ → List ℕ) (sessions : OpenSessions) (h : ℕ) (y : Session) → IsChangedAt held new h y.contents → AreHeld held sessions
    → AreHeld new (set_value (is_at (nat_cmp h)) sessions y)
held_set held new [] h y change is = tt
held_set held new (e ∷ es) h y change is = by (nat_lt h e.0) (h == e.0) refl refl (held_set held new es h y change is.2)
  where
    by : (lt eq : Bool) → nat_lt h e.0 ≡ lt → (h == e.0) ≡ eq → AreHeld new (set_value (is_at (nat_cmp h)) es y)
        → AreHeld new (cond (is_eq (cond lt Less (cond eq Equal Greater))) ((e.0, y) ∷ es) (e ∷ set_value (is_at (nat_cmp h)) es y))
    by true eq below same later =
        let apart : e.0 ≢ h = omega (arith, ltb-true h e.0 below) in
        (change.others e.0 apart ∙ is.0, above_set e.0 es h y is.1, later)
    by false true below same later =
        let equal : h ≡ e.0 = eqb-true h e.0 same in (
          subst (λ k. new k ≡ y.contents) equal change.here,
          is.1,
          held_apart held new h es change.others (subst (λ k. AreAbove k es) (sym equal) is.1) is.2,
        )
    by false false below same later =
        let least : e.0 ≢ h = λ equal. true≢false (sym (eq-eqb h e.0 (sym equal)) ∙ same) in
        (change.others e.0 least ∙ is.0, above_set e.0 es h y is.1, later)

-- a session ends

above_ended : (k : ℕ) (sessions : OpenSessions) (h : ℕ) → AreAbove k sessions → AreAbove k (ended sessions h)
above_ended k [] h above = tt
above_ended k (e ∷ es) h above = by (is_at (nat_cmp h) e.0) (above_ended k es h above.1)
  where
    by : (b : Bool) → AreAbove k (ended es h) → AreAbove k (cond b es (e ∷ ended es h))
    by true later = above.1
    by false later = (above.0, later)

pub held_ended : (held : ℕ → List ℕ) (sessions : OpenSessions) (h : ℕ) → AreHeld held sessions → AreHeld held (ended sessions h)
held_ended held [] h is = tt
held_ended held (e ∷ es) h is = by (is_at (nat_cmp h) e.0) (held_ended held es h is.2)
  where
    by : (b : Bool) → AreHeld held (ended es h) → AreHeld held (cond b es (e ∷ ended es h))
    by true later = is.2
    by false later = (is.0, above_ended e.0 es h is.1, later)

-- a session that is there holds the bytes of its number

not_some : {A : Type 0} (y : Session) → None ≡ Some y → A
not_some y h = absurd (none h)
  where
    none : None ≡ Some y → ⊥
    none e = cc

same_some : (x y : Session) → Some x ≡ Some y → x ≡ y
same_some x y h = cc

pub held_found : (held : ℕ → List ℕ) (sessions : OpenSessions) (h : ℕ) (y : Session) → session_of sessions h ≡ Some y → AreHeld held sessions
    → held h ≡ y.contents
held_found held [] h y found is = not_some y found
held_found held (e ∷ es) h y found is = by (nat_lt h e.0) (h == e.0) refl found (λ there. held_found held es h y there is.2)
  where
    by : (lt eq : Bool) → (h == e.0) ≡ eq → cond (is_eq (cond lt Less (cond eq Equal Greater))) (Some e.1) (session_of es h) ≡ Some y
        → (session_of es h ≡ Some y → held h ≡ y.contents) → held h ≡ y.contents
    by true eq same there later = later there
    by false true same there later = ap held (eqb-true h e.0 same) ∙ is.0 ∙ ap (λ (x : Session). x.contents) (same_some e.1 y there)
    by false false same there later = later there
