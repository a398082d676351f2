-- Versions are safe where few clouds lie.
use Rattle.std.proofs.Common.{ℕ, ◌<◌, [], ◌∷◌, sym, subst, arith, Contains}
use Rattle.std.proofs.lemmas.List.Elements.{All-contains}
use Rattle.scfs_model.specs.Format.{Setup, clouds_of}
use Rattle.scfs_model.specs.History.{History}
use Rattle.scfs_model.specs.Layers.{Row}
use Rattle.scfs_model.specs.Clouds.{IsServed}
use Rattle.scfs_model.specs.Runs.{actual, Happens}
use Rattle.scfs_laws.specs.Acknowledged.{WasAcked, WasUploading, put_of}
use Rattle.scfs_laws.proofs.AckedLaw.{to_pairs}
use Rattle.scfs_laws.proofs.Lists.{each-map, each-all}
use Rattle.scfs_durable.specs.Stores.{FewLie, IsTruthful}
use Rattle.scfs_durable.specs.Safe.{Backs, IsSafe, AreSafe, AlwaysSafe, CommittedStay, IsNameable}
use Rattle.scfs_durable.proofs.Counting.{pick, pairs_from_all}
use Rattle.scfs_durable.proofs.OneBody.{of_agent}
use Rattle.scfs_durable.proofs.Holding.{acked_held, nameable_before}
use Rattle.scfs_durable.proofs.Versions.{IsStored, versions_stored, committed_stay}

module _ (s : Setup) where
  module _ (past : History) (few : IsNameable s past) (served : IsServed s past) (lie : FewLie s.header.f s past) (v : Row) (h : IsStored s past v) where
    abbrev Acked : ℕ → Type 0
    Acked c = (c < clouds_of s) × WasAcked s past h.agent h.incarnation (put_of s h.close.upload h.close.bytes c) c

    abbrev Good : ℕ → Type 0
    Good c = (c < clouds_of s) × IsTruthful s past c × Backs s past h.close.upload h.close.bytes c

    -- an acknowledgement of a cloud that is none of the liars
    good : (c : ℕ) → Acked c × ¬ Contains lie.liars c → Good c
    good c is = (
      is.0.0,
      lie.others c is.0.0 is.1,
      acked_held s c past few served h.agent h.incarnation (put_of s h.close.upload h.close.bytes c) is.0.1,
    )

    is_safe : IsSafe s past v
    is_safe =
        let p = pick Acked h.clouds lie.liars (pairs_from_all h.clouds h.differ) h.acked in
        record {
          close = h.close;
          is_row = h.is_row;
          was_uploading = subst (λ b. WasUploading s past b h.close.upload h.close.bytes)
              (sym (of_agent s past few h.agent h.close.upload h.close.bytes h.was_uploading)) h.was_uploading;
          clouds = p.good;
          differ = to_pairs p.good p.differ;
          are_enough = let most = p.long in let all = h.are_enough in let liars = lie.few in omega (arith, most, all, liars);
          hold = each-all Good p.good (each-map (λ c. Acked c × ¬ Contains lie.liars c) Good good p.good p.each);
        }

  are_safe : (past : History) → IsNameable s past → Happens s past → IsServed s past → AreSafe s.header.f s past
  are_safe past few happens served lie =
      each-all (IsSafe s past) (actual s past).tree.versions
      (each-map (IsStored s past) (IsSafe s past) (is_safe past few served lie) (actual s past).tree.versions (versions_stored s past happens))

pub always_safe : AlwaysSafe
always_safe s [] few happens served = are_safe s [] few happens served
always_safe s (e ∷ past) few happens served =
    (are_safe s (e ∷ past) few happens served, always_safe s past (nameable_before s e past few) happens.1 served.1)

pub committed_are_safe : CommittedStay
committed_are_safe s past few happens served lie request file number was =
    let h = committed_stay s past happens request file number was in
    (h.0, h.1, h.2, h.3, All-contains (IsSafe s past) (actual s past).tree.versions h.0 (are_safe s past few happens served lie) h.1)
