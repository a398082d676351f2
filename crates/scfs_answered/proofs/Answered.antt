-- An open that is given enough own objects is answered.
use Rattle.std.proofs.Common.{◌≡◌, ◌≢◌, ◌⊎◌, inl, inr, ℕ, suc, ◌+◌, ◌^◌, ◌<◌, ◌≤◌, List, [], ◌∷◌, ◌++◌, length, map, refl, sym, subst, arith, Bool, true, false, ◌||◌, true≢false, Some, Contains, slice_get, eqb-true}
use Rattle.std.specs.Prelude.{◌==◌}
use Rattle.std.specs.List.{list_any}
use Rattle.std.proofs.lemmas.List.{length-map, length-append}
use Rattle.scfs_base.specs.Limits.{turns_limit}
use Rattle.scfs_unit.specs.declared.pieces.KeptPiece.{KeptPiece}
use Rattle.scfs_schedule.specs.declared.types.Header.{Header}
use Rattle.scfs_model.specs.Format.{Setup, clouds_of}
use Rattle.scfs_model.specs.UnitFormat.{under}
use Rattle.scfs_model.specs.History.{Entry, History}
use Rattle.scfs_model.specs.Given.{given_of}
use Rattle.scfs_model.specs.Reading.{is_good}
use Rattle.scfs_model.specs.Layers.{Row, Version}
use Rattle.scfs_model.specs.States.{Seat}
use Rattle.scfs_model.specs.Runs.{actual, Happens}
use Rattle.scfs_laws.specs.Held.{seen}
use Rattle.scfs_laws.proofs.Lists.{Each, Pairs, each-map, each-all, each-two}
use Rattle.scfs_laws.proofs.HeldReads.{seen_after}
use Rattle.scfs_laws.proofs.NewestOpens.{opens_are_newest_rows}
use Rattle.scfs_durable.specs.Stores.{IsTruthful}
use Rattle.scfs_durable.specs.Safe.{Backs}
use Rattle.scfs_answered.specs.Answered.{SeesVersion, StaysUp, turns_since, WasGivenOwn, WasOpened, OpensAreAnswered, SafeVersionsAreOpened}
use Rattle.scfs_durable.proofs.Counting.{IsPicked, pick, each_from_all, pairs_from_all}
use Rattle.scfs_answered.proofs.Sights.{sights_seen}
use Rattle.scfs_answered.proofs.Following.{IsReading}
use Rattle.scfs_answered.proofs.Going.{goes}
use Rattle.scfs_answered.proofs.Beginning.{begins}

-- ---- more clouds than pieces

-- a cloud that gave a good piece is one of those of the pieces
of_pieces : (pieces : List KeptPiece) (c : ℕ) → list_any (λ (p : KeptPiece). p.cloud == c) pieces ≡ true → Contains (map (λ (p : KeptPiece). p.cloud) pieces) c
of_pieces [] c h = absurd (true≢false (sym h))
of_pieces (p ∷ pieces) c h = by (p.cloud == c) refl h (of_pieces pieces c)
  where
    by : (b : Bool) → (p.cloud == c) ≡ b → (b || list_any (λ (q : KeptPiece). q.cloud == c) pieces) ≡ true
        → (list_any (λ (q : KeptPiece). q.cloud == c) pieces ≡ true → Contains (map (λ (q : KeptPiece). q.cloud) pieces) c)
        → Contains (map (λ (q : KeptPiece). q.cloud) (p ∷ pieces)) c
    by true is h rest = (0, omega arith, eqb-true p.cloud c is)
    by false is h rest = let k = rest h in (suc k.0, (let less = k.1 in omega (arith, less)), k.2)

-- different clouds that all gave a good piece are no more than the pieces
no_more_clouds : (pieces : List KeptPiece) (clouds : List ℕ) → Pairs (λ c d. c ≢ d) clouds
    → Each (λ c. list_any (λ (p : KeptPiece). p.cloud == c) pieces ≡ true) clouds → length clouds ≤ length pieces
no_more_clouds pieces clouds differ good = by p.good p.each p.long
  where
    IsGood : ℕ → Type 0
    IsGood c = list_any (λ (p : KeptPiece). p.cloud == c) pieces ≡ true

    named : List ℕ
    named = map (λ (p : KeptPiece). p.cloud) pieces

    p : IsPicked (λ c. IsGood c × ¬ Contains named c) clouds named
    p = pick IsGood clouds named differ good

    by : (left : List ℕ) → Each (λ c. IsGood c × ¬ Contains named c) left → length clouds ≤ length left + length named → length clouds ≤ length pieces
    by [] each long = omega (arith, long, length-map pieces (λ (p : KeptPiece). p.cloud))
    by (c ∷ left) each long = absurd (each.0.1 (of_pieces pieces c each.0.0))

-- ---- from the sight on

module _ (header : Header) (sight : Entry) (past : History) (a : ℕ) (close : Version) (short : length close.bytes < 2 ^ 32) where
  abbrev s : Setup
  s = under header

  abbrev IsSo : History → Type 0
  IsSo new =
      WasOpened new a close.number (length close.bytes)
      ⊎ ((now : Seat Row) × (slice_get (actual s (new ++ sight ∷ past)).seats a ≡ Some now) × IsReading header sight a close new now.agent)

  goes_on : (new : History) → length (sight ∷ past) < 2 ^ 24 → Happens s (new ++ sight ∷ past) → SeesVersion s sight past a close → turns_since a new < turns_limit
      → StaysUp a new → IsSo new
  goes_on [] small happens sees few up =
      let state = actual s past in
      inr (begins header past sight a close sees.request sees.of_agent sees.saw sees.above sees.is_row (seen s past) (seen_after s past happens.1)
      (sights_seen s past) ((opens_are_newest_rows s (sight ∷ past) small happens).0 a) (given_of state.clock sight) happens.0)
  goes_on (e ∷ new) small happens sees few up = by (goes_on new small happens.1 sees (omega (arith, few)) up.1)
    where
      by : IsSo new → IsSo (e ∷ new)
      by (inl was) = inl (inr was)
      by (inr (now, found, k)) =
          let before = new ++ sight ∷ past in
          goes header sight a close short e new (actual s before) (given_of (actual s before).clock e) (seen s before) (seen_after s before happens.1) now found k
          few up.0 happens.0

pub opens_answered : OpensAreAnswered
opens_answered header new sight past a close small happens sees short left given =
    by (goes_on header sight past a close short new (omega (arith, small, length-append new (sight ∷ past))) happens sees left.few_turns left.stays_up)
  where
    Gave : ℕ → Type 0
    Gave c = (c < clouds_of (under header)) × WasGivenOwn (under header) sight new a close c

    by : IsSo header sight past a close short new → WasOpened new a close.number (length close.bytes)
    by (inl was) = was
    by (inr (now, found, k)) =
        let gave = each_from_all Gave given.clouds given.gave in
        let good = each-map Gave (λ c. is_good k.o.reading c ≡ true) (λ c own. k.good c own.0 own.1) given.clouds gave in
        let enough = given.are_enough in
        let most = no_more_clouds k.o.reading.pieces given.clouds (pairs_from_all given.clouds given.differ) good in
        let few = k.few in
        absurd (omega (arith, enough, most, few))

pub safe_versions_opened : SafeVersionsAreOpened
safe_versions_opened header new sight past a v safe small happens sees short left gave =
    let s = under header in
    let close = safe.close in
    let gives = each_from_all (WasGivenOwn s sight new a close) safe.clouds gave in
    let opened = opens_answered header new sight past a close small happens sees short left
    (record {
      clouds = safe.clouds;
      differ = safe.differ;
      are_enough = safe.are_enough;
      gave = each-all Gave safe.clouds (each-two Held (WasGivenOwn s sight new a close) Gave (λ c held given. (held.0, given)) safe.clouds hold gives);
    }) in
    subst (λ (w : Row). WasOpened new a w.number w.length) (sym safe.is_row) opened
  where
    Gave : ℕ → Type 0
    Gave c = (c < clouds_of (under header)) × WasGivenOwn (under header) sight new a safe.close c

    Held : ℕ → Type 0
    Held c = (c < clouds_of (under header)) × IsTruthful (under header) past c × Backs (under header) past safe.close.upload safe.close.bytes c

    hold : Each Held safe.clouds
    hold = each_from_all Held safe.clouds safe.hold
