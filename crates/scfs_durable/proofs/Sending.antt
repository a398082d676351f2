-- What an agent sends in a reaction it drew in it: requests under new numbers, each a Get or the Put of an object of one of its uploads.
use Rattle.std.proofs.Common.{◌≡◌, ℕ, ◌+◌, ◌<◌, ◌≤◌, List, [], ◌∷◌, length, map, refl, arith, Option, Some, None}
use Rattle.scfs_base.specs.declared.naming.UploadNo.{UploadNo}
use Rattle.scfs_base.specs.declared.cloud.CloudRequest.{CloudRequest}
use Rattle.scfs_base.specs.declared.cloud.CloudRequest.TheVariants as requests
use Rattle.scfs_session.specs.declared.sessions.Session.{Session}
use Rattle.scfs_model.specs.Names.{upload_name}
use Rattle.scfs_model.specs.Format.{Setup, sealed, object_at}
use Rattle.scfs_model.specs.Asked.{Asked, asked_of}
use Rattle.scfs_model.specs.Agents.{Upload, Closed, Sent}
use Rattle.scfs_model.specs.Layers.{Row}
use Rattle.scfs_laws.proofs.Lists.{Each, Pairs, each-map}

-- the second of two requests has the greater number
abbrev pub IsBefore : Sent → Sent → Type 0
IsBefore x y = x.number.number < y.number.number

module _ (s : Setup) (a : ℕ) where
  -- a request of the agent in an incarnation, between two counts
  abbrev pub IsDrawn : (i low high : ℕ) → Sent → Type 0
  IsDrawn i low high x = (x.number.agent ≡ a) × (x.number.incarnation ≡ i) × (low < x.number.number) × (x.number.number ≤ high)

  -- which upload was drawn for which contents
  module _ (Had : UploadNo → (contents : List ℕ) → Type 0) where
    -- a Get, or the Put of an object of an upload
    abbrev pub IsMade : (c : ℕ) → CloudRequest → Type 0
    IsMade c (requests.Put name body) =
        (u : UploadNo) × (contents : List ℕ) × (name ≡ upload_name u) × (body ≡ object_at (sealed s u contents) c) × Had u contents
    IsMade c (requests.Get name limit) = Unit {0}
    IsMade c (requests.Delete name) = ⊥
    IsMade c (requests.List prefix) = ⊥

    abbrev pub IsSent : Sent → Type 0
    IsSent x = IsMade x.cloud x.body

    -- an upload has the name of its number, and the unit of its contents
    abbrev pub IsOwn : Session → Upload Row → Type 0
    IsOwn y u =
        (u.storing.name ≡ upload_name u.version.upload) × (u.storing.unit ≡ sealed s u.version.upload y.contents)
        × Had u.version.upload y.contents

    abbrev pub IsBegun : Session → Option (Upload Row) → Type 0
    IsBegun y None = Unit {0}
    IsBegun y (Some u) = IsOwn y u

    abbrev pub AreOwn : List (Closed Row) → Type 0
    AreOwn closed = Each (λ (x : Closed Row). IsBegun x.session x.upload) closed

  -- where more was drawn
  module _ (Had Had2 : UploadNo → (contents : List ℕ) → Type 0) (more : (u : UploadNo) (contents : List ℕ) → Had u contents → Had2 u contents) where
    pub made_on : (c : ℕ) (body : CloudRequest) → IsMade Had c body → IsMade Had2 c body
    made_on c (requests.Put name body) h = (h.0, h.1, h.2, h.3, more h.0 h.1 h.4)
    made_on c (requests.Get name limit) h = tt
    made_on c (requests.Delete name) h = absurd h
    made_on c (requests.List prefix) h = absurd h

    begun_on : (y : Session) (u : Option (Upload Row)) → IsBegun Had y u → IsBegun Had2 y u
    begun_on y None h = tt
    begun_on y (Some u) h = (h.0, h.1, more u.version.upload y.contents h.2)

    pub own_on : (closed : List (Closed Row)) → AreOwn Had closed → AreOwn Had2 closed
    own_on closed h = each-map _ _ (λ (x : Closed Row). begun_on x.session x.upload) closed h

  -- requests under the next numbers
  module _ (i : ℕ) (body : ℕ → CloudRequest) where
    abbrev sent_to : (drawn : ℕ) → List ℕ → List Sent
    sent_to drawn clouds = map (λ (x : Asked). record { number = x.request; cloud = x.cloud; body = body x.cloud }) (asked_of a i drawn clouds)

    pub run_drawn : (drawn : ℕ) (clouds : List ℕ) → Each (IsDrawn i drawn (drawn + length (asked_of a i drawn clouds))) (sent_to drawn clouds)
    run_drawn drawn [] = tt
    run_drawn drawn (c ∷ clouds) = (
      (refl, refl, omega arith, omega arith),
      each-map (IsDrawn i (drawn + 1) (drawn + 1 + length (asked_of a i (drawn + 1) clouds))) _
          (λ x d. (d.0, d.1, omega (arith, d.2), omega (arith, d.3))) (sent_to (drawn + 1) clouds) (run_drawn (drawn + 1) clouds),
    )

    pub run_order : (drawn : ℕ) (clouds : List ℕ) → Pairs IsBefore (sent_to drawn clouds)
    run_order drawn [] = tt
    run_order drawn (c ∷ clouds) = (
      each-map (IsDrawn i (drawn + 1) (drawn + 1 + length (asked_of a i (drawn + 1) clouds))) _
          (λ x d. d.2) (sent_to (drawn + 1) clouds) (run_drawn (drawn + 1) clouds),
      run_order (drawn + 1) clouds,
    )

    pub run_made : (Had : UploadNo → (contents : List ℕ) → Type 0) → ((c : ℕ) → IsMade Had c (body c)) → (drawn : ℕ) (clouds : List ℕ)
        → Each (IsSent Had) (sent_to drawn clouds)
    run_made Had each drawn [] = tt
    run_made Had each drawn (c ∷ clouds) = (each c, run_made Had each (drawn + 1) clouds)
