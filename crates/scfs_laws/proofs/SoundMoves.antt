-- What an agent does on an input keeps what holds of its versions and sessions: what it seals is put.
use Rattle.std.proofs.Common.{◌≡◌, ℕ, zero, suc, ◌+◌, ◌<◌, ◌≤◌, List, map, refl, subst, arith, eq-or-lt_of_le, inl, inr, Option, Some, None, IfSome}
use Rattle.std.specs.Prelude.{◌==◌}
use Rattle.std.specs.List.{range_with_len}
use Rattle.std.proofs.lemmas.List.Elements.{All-nil}
use Rattle.scfs_base.specs.declared.cloud.CloudRequest.TheVariants as requests
use Rattle.scfs_model.specs.Names.{upload_no, upload_name}
use Rattle.scfs_model.specs.Format.{Setup, clouds_of, sealed, object_at}
use Rattle.scfs_model.specs.Lives.{is_up}
use Rattle.scfs_model.specs.Layers.{Version, closes}
use Rattle.scfs_model.specs.Given.{Given}
use Rattle.scfs_model.specs.Asked.{Asked, asked_of}
use Rattle.scfs_model.specs.SessionSteps.{Open_read, Open_write, Commit, Sight}
use Rattle.scfs_model.specs.Steps.{Step, On_names, On_locks, On_sessions}
use Rattle.scfs_model.specs.Agents.{Closed, Agent, Input, Reaction}
use Rattle.scfs_model.specs.Opens.{Found, As_empty, On_clouds, found_version, found}
use Rattle.scfs_model.specs.Closes.{begins}
use Rattle.scfs_model.specs.Reactions.{reacted}
use Rattle.scfs_laws.proofs.Lists.{Each, chosen, each-append, each-front, each-back}
use Rattle.scfs_laws.proofs.SoundKept.{IsSession, IsVersion, IsSent, IsClosed, IsStep, IsRequest, IsAgent, known}
use Rattle.scfs_laws.proofs.SoundContents.{IsChanged, no_contents, opened_fits, there_fits, ended_fits, after_fits, write_fits, truncate_fits}
use Rattle.scfs_laws.proofs.SoundPieces.{none_good, heard_good}
use Rattle.scfs_laws.proofs.Moves.{IsInput, has_up, IsCommon, closing, Moves, reacts}

module _ (s : Setup) (Among : (c : ℕ) → (bytes : List ℕ) → Type 0) (a : ℕ) where
  -- where the objects that are put are among those looked at
  abbrev pub Keeps : Agent Version → Reaction Version → Type 0
  Keeps g r = IsAgent s Among g → Each (IsSent s Among) r.sent → IsAgent s Among r.agent × Each (IsRequest s Among) r.steps

  -- of Puts of an object of each cloud from one on, each is among them, where all that is sent is
  each_put : (name : List ℕ) (object : ℕ → List ℕ) (incarnation drawn from n : ℕ)
      → Each (IsSent s Among) (map (λ (x : Asked). record { number = x.request; cloud = x.cloud; body = requests.Put name (object x.cloud) })
      (asked_of a incarnation drawn (range_with_len from n)))
      → (c : ℕ) → from ≤ c → c < from + n → Among c (object c)
  each_put name object incarnation drawn from zero h c above below = absurd (omega arith)
  each_put name object incarnation drawn from (suc n) h c above below =
      elim (eq-or-lt_of_le above) [
        | inl same ↦ subst (λ k. Among k (object k)) same h.0
        | inr less ↦ each_put name object incarnation (drawn + 1) (from + 1) n h.1 c (omega arith) (omega arith)
      ]

  common_step : (step : Step Version) → IsCommon step → IsStep s Among step
  common_step (On_names x) common = tt
  common_step (On_locks x) common = tt
  common_step (On_sessions (Open_read names h)) common = tt
  common_step (On_sessions (Open_write names h)) common = tt
  common_step (On_sessions (Commit h v)) common = absurd common

  abbrev IsFound : Found Version → Type 0
  IsFound As_empty = Unit {0}
  IsFound (On_clouds v) = IsVersion s Among v

  found_is : (v : Option Version) → IfSome v (IsVersion s Among) → IsFound (found_version v)
  found_is None h = tt
  found_is (Some v) h = h

  -- the version that a sight leads to
  seen_version : (sight : Sight Version) (v : Version) → IfSome sight.version (IsVersion s Among) → found sight ≡ On_clouds v → IsVersion s Among v
  seen_version sight v k is =
      subst IsFound is (chosen IsFound (sight.number == 0) As_empty (found_version sight.version) tt (found_is sight.version k))

  moves : (given : Given) → Moves s (closes s) a (known s Among) given Keeps
  moves given =
      record {
        still = λ g k sent. (k, tt);
        follow = λ g first second order one two k sent.
            let h = one k (each-front (IsSent s Among) first.sent second.sent sent) in
            let n = two h.0 (each-back (IsSent s Among) first.sent second.sent sent) in
            (n.0, each-append (IsRequest s Among) first.steps second.steps h.1 n.1);
        aside = λ g life leases tallies opens same k sent. (k, tt);
        told = λ g request k sent. (k, tt);
        frees = λ g takes k sent. ((tt, k.1, k.2), tt);
        says_plain = λ g x plain k sent. (k, tt);
        asks = λ g x k sent. (k, (tt, tt));
        steps = λ g step common k sent. ((tt, k.1, k.2), (common_step step common, tt));
        makes = λ g path names w k sent. ((tt, k.1, k.2), (tt, tt));
        reads = λ g h offset count bytes w ok k sent. (k, tt);
        writes = λ g h offset new y w ok k sent.
            ((k.0, after_fits g.sessions h k.1 y (subst IsChanged ok (write_fits g.sessions h k.1 offset new w)), k.2), tt);
        truncates = λ g h size y w ok k sent. ((k.0, after_fits g.sessions h k.1 y (subst IsChanged ok (truncate_fits g.sessions h k.1 size)), k.2), tt);
        ends = λ g h w k sent. ((k.0, ended_fits g.sessions h k.1, k.2), tt);
        closes = λ g h y w found k sent.
            let fits : IsSession y = subst (λ o. IfSome o IsSession) found (there_fits g.sessions h k.1) in
            ((tt, ended_fits g.sessions h k.1, each-append (IsClosed s Among) g.closed _ k.2 ((fits, tt), tt)), tt);
        sees_empty = λ g request h writes sight v is k sent. ((tt, opened_fits g.sessions h k.1 _ no_contents, k.2), tt);
        sees_version = λ g request h writes sight v there is k sent.
            ((record { version = seen_version sight v there is; rooted = refl; good = none_good s Among _ }, k.1, k.2), tt);
        turns_open = λ g o k sent. (k, tt);
        hears_open = λ g o c request answer takes heard awaited k sent.
            let good = heard_good s Among o.reading c request answer k.0.good heard awaited in
            ((record { version = k.0.version; rooted = k.0.rooted; good = good }, k.1, k.2), tt);
        gets = λ g o clouds k sent. (k, tt);
        loses = λ g o k sent. ((tt, k.1, k.2), tt);
        shows = λ g o bytes all k sent. ((tt, opened_fits g.sessions o.session k.1 _ k.0.version.fits, k.2), tt);
        turns_upload = λ g x u k sent. (k, tt);
        hears_upload = λ g x u c request answer heard new few k sent. (k, tt);
        puts = λ g x u clouds turn within k sent. (k, tt);
        commits = λ g x u c request answer heard new just k sent. (k, (k.2.0.1, tt));
        drops = λ g x why k sent. ((tt, k.1, k.2.1), tt);
        downs = λ g up crash k sent. ((tt, All-nil IsSession, tt), tt);
        ups = λ g up start k sent. (k, tt);
      }

  -- an upload that begins is of objects that are put
  begins_keeps : (g : Agent Version) (x : Closed Version) → Keeps (closing g (record x { upload = None })) (begins s (closes s) a g x)
  begins_keeps g x k sent =
      let no = upload_no a g.incarnation (g.uploads + 1) in
      let unit = sealed s no x.session.contents in
      let objects : (c : ℕ) → c < clouds_of s → Among c (object_at unit c) =
      λ c less. each_put (upload_name no) (object_at unit) g.incarnation g.requests 0 (clouds_of s) sent c (omega arith) (omega arith) in
      ((k.0, k.1, ((k.2.0.0, record { fits = k.2.0.0; objects = objects }), k.2.1)), tt)

  pub reacted_keeps : (g : Agent Version) (given : Given) (input : Input Version) → is_up g.life ≡ has_up input → IsInput (known s Among) input
      → Keeps g (reacted s (closes s) a g given input)
  reacted_keeps g given input up k = reacts s (closes s) a (known s Among) given Keeps (moves given) begins_keeps tt g input up k
