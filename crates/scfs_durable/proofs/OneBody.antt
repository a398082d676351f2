-- Under one name a cloud was put one body.
use Rattle.std.proofs.Common.{◌≡◌, ℕ, zero, suc, ◌<◌, ◌≤◌, List, [], ◌∷◌, length, refl, sym, ap, ◌∙◌, subst, arith, Some, slice_get}
use Rattle.scfs_base.specs.declared.naming.RequestNo.{RequestNo}
use Rattle.scfs_base.specs.declared.naming.UploadNo.{UploadNo}
use Rattle.scfs_base.specs.declared.cloud.CloudRequest.{CloudRequest}
use Rattle.scfs_base.specs.declared.cloud.CloudRequest.TheVariants as requests
use Rattle.scfs_base.specs.Names.{IsUploadNo}
use Rattle.scfs_base.proofs.NameLemmas.{names_differ}
use Rattle.scfs_model.specs.Format.{Setup, sealed, object_at}
use Rattle.scfs_model.specs.History.{History}
use Rattle.scfs_model.specs.Agents.{Sent}
use Rattle.scfs_model.specs.Layers.{Row}
use Rattle.scfs_model.specs.States.{Seat}
use Rattle.scfs_model.specs.Runs.{actual}
use Rattle.scfs_laws.specs.Acknowledged.{WasSent, WasUploading}
use Rattle.scfs_durable.specs.Safe.{IsNameable}
use Rattle.scfs_durable.proofs.Drawn.{AreDrawn, always_drawn, IsSeat}
use Rattle.scfs_durable.proofs.Sending.{IsMade}

-- a body was put at a cloud, under a name
abbrev pub WasPut : (Sent → Type 0) → (name body : List ℕ) → (c : ℕ) → Type 0
WasPut Was name body c = (n : RequestNo) × Was (record { number = n; cloud = c; body = requests.Put name body })

-- a Put or a Get
abbrev pub IsPlain : CloudRequest → Type 0
IsPlain (requests.Put name body) = Unit {0}
IsPlain (requests.Get name limit) = Unit {0}
IsPlain (requests.Delete name) = ⊥
IsPlain (requests.List prefix) = ⊥

at_place : {X : Type 0} (xs : List X) (n : ℕ) → n < length xs → (x : X) × (slice_get xs n ≡ Some x)
at_place [] n less = absurd (omega (arith, less))
at_place (x ∷ xs) zero less = (x, refl)
at_place (x ∷ xs) (suc n) less = at_place xs n (omega (arith, less))

module _ (s : Setup) (past : History) (few : IsNameable s past) where
  abbrev d : AreDrawn s past
  d = always_drawn s past

  pub all_plain : (x : Sent) → WasSent s past x → IsPlain x.body
  all_plain x was = by x.body (d.made x was)
    where
      by : (body : CloudRequest) → IsMade s x.number.agent (WasUploading s past x.number.agent) x.cloud body → IsPlain body
      by (requests.Put name body) h = tt
      by (requests.Get name limit) h = tt
      by (requests.Delete name) h = h
      by (requests.List prefix) h = h

  seat_of : (a : ℕ) (u : UploadNo) (contents : List ℕ) → WasUploading s past a u contents
      → (seat : Seat Row) × (slice_get (actual s past).seats a ≡ Some seat)
  seat_of a u contents was =
      at_place (actual s past).seats a (subst (λ n. a < n) (sym d.count) (d.members a u contents was))

  -- an upload's number has its widths, and its agent is the one that had it
  pub of_agent : (a : ℕ) (u : UploadNo) (contents : List ℕ) → WasUploading s past a u contents → u.agent ≡ a
  of_agent a u contents was = let seat = seat_of a u contents was in ((d.seats a seat.0 seat.1).drew u contents was).0

  pub fits : (a : ℕ) (u : UploadNo) (contents : List ℕ) → WasUploading s past a u contents → IsUploadNo u
  fits a u contents was =
      let seat = seat_of a u contents was in
      let k : IsSeat s past a seat.0 = d.seats a seat.0 seat.1 in
      let drew = k.drew u contents was in
      let member : a < length s.header.agents = d.members a u contents was in
      let agents = few.agents in
      let events = few.events in
      let i : seat.0.agent.incarnation ≤ length past = k.incarnation in
      record {
        agent = omega (arith, drew.0, member, agents);
        incarnation = omega (arith, drew.1.0, i, events);
        count = omega (arith, drew.2, events);
      }

  pub one_body : (name body other : List ℕ) (c : ℕ) → WasPut (WasSent s past) name body c → WasPut (WasSent s past) name other c → body ≡ other
  one_body name body other c (n, left) (m, right) =
      by (d.made (record { number = n; cloud = c; body = requests.Put name body }) left)
      (d.made (record { number = m; cloud = c; body = requests.Put name other }) right)
    where
      by : IsMade s n.agent (WasUploading s past n.agent) c (requests.Put name body)
          → IsMade s m.agent (WasUploading s past m.agent) c (requests.Put name other) → body ≡ other
      by (u, contents, same, is, had) (v, others, also, are, has) =
          let one : u ≡ v =
          (names_differ u v 0 0 (fits n.agent u contents had) (fits m.agent v others has) (omega arith) (omega arith) (sym same ∙ also)).0 in
          let agents : m.agent ≡ n.agent =
          sym (of_agent m.agent v others has) ∙ ap (λ (w : UploadNo). w.agent) (sym one) ∙ of_agent n.agent u contents had in
          let there : WasUploading s past n.agent u others =
          subst (λ b. WasUploading s past b u others) agents (subst (λ w. WasUploading s past m.agent w others) (sym one) has) in
          let seat = seat_of n.agent u contents had in
          let equal : contents ≡ others = (d.seats n.agent seat.0 seat.1).one u contents others had there in
          is ∙ ap (λ bytes. object_at (sealed s u bytes) c) equal ∙ ap (λ w. object_at (sealed s w others) c) one ∙ sym are
