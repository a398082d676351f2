-- After every history, each request has a number of its own, and each upload was drawn once, for contents of one closed session.
use Rattle.std.proofs.Common.{◌≡◌, ◌⊎◌, inl, inr, ℕ, zero, suc, ◌+◌, ◌<◌, ◌≤◌, List, [], ◌∷◌, length, refl, sym, ap, ◌∙◌, subst, arith, Option, Some, None, Contains, slice_get, slice_set, replicate, le_refl, le_trans, zero-le}
use Rattle.std.proofs.lemmas.List.{length-set}
use Rattle.std.proofs.lemmas.Option.{slice_get_within}
use Rattle.scfs_base.specs.declared.naming.RequestNo.{RequestNo}
use Rattle.scfs_base.specs.declared.naming.UploadNo.{UploadNo}
use Rattle.scfs_session.specs.declared.sessions.Session.{Session}
use Rattle.scfs_model.specs.Names.{upload_no}
use Rattle.scfs_model.specs.Format.{Setup}
use Rattle.scfs_model.specs.Given.{given_of}
use Rattle.scfs_model.specs.History.{Entry, History}
use Rattle.scfs_model.specs.Agents.{Upload, Closed, Agent, Sent}
use Rattle.scfs_model.specs.Layers.{Row, rows}
use Rattle.scfs_model.specs.Reactions.{next_life}
use Rattle.scfs_model.specs.Events.{place_of}
use Rattle.scfs_model.specs.States.{Seat, State, Effect, first_seat}
use Rattle.scfs_model.specs.Runs.{effect_after, actual}
use Rattle.scfs_laws.specs.Acknowledged.{WasSent, IsUploading, WasUploading}
use Rattle.scfs_laws.proofs.Lists.{Pairs, Places, some_same, each-inside, each_of-contains, places_set, places_replicate}
use Rattle.scfs_durable.proofs.Sending.{IsBefore, IsDrawn, IsSent, IsBegun, AreOwn, made_on, own_on}
use Rattle.scfs_durable.proofs.Reacting.{Does, IsNew, IsThere, HadOrNew}
use Rattle.scfs_durable.proofs.Acting.{IsAct, Acts, event_acts}

-- a number drawn in an incarnation, by an agent that is now in one and has drawn so many in it
abbrev pub WasDrawn : (now count : ℕ) → (incarnation number : ℕ) → Type 0
WasDrawn now count incarnation number = (incarnation ≤ now) × (now ≤ incarnation → number ≤ count)

-- one number has one request
pub order_one : (xs : List Sent) → Pairs IsBefore xs → (x y : Sent) → Contains xs x → Contains xs y → x.number ≡ y.number → x ≡ y
order_one [] h x y (k, less, is) there same = absurd (omega (arith, less))
order_one (z ∷ zs) h x y (zero, less, is) (zero, more, also) same = sym is ∙ also
order_one (z ∷ zs) h x y (zero, less, is) (suc k, more, also) same =
    let later : IsBefore z y = each_of-contains (IsBefore z) zs y h.0 (k, omega (arith, more), also) in
    let one : z.number.number ≡ y.number.number = ap (λ (u : Sent). u.number.number) is ∙ ap (λ (n : RequestNo). n.number) same in
    absurd (omega (arith, later, one))
order_one (z ∷ zs) h x y (suc k, less, is) (zero, more, also) same =
    let later : IsBefore z x = each_of-contains (IsBefore z) zs x h.0 (k, omega (arith, less), is) in
    let one : z.number.number ≡ x.number.number = ap (λ (u : Sent). u.number.number) also ∙ ap (λ (n : RequestNo). n.number) (sym same) in
    absurd (omega (arith, later, one))
order_one (z ∷ zs) h x y (suc k, less, is) (suc j, more, also) same =
    order_one zs h.1 x y (k, omega (arith, less), is) (j, omega (arith, more), also) same

module _ (s : Setup) where
  -- what is known of an agent and what it drew
  pub record IsSeat (past : History) (a : ℕ) (seat : Seat Row) : Type 0 where
    pub incarnation : seat.agent.incarnation ≤ length past
    pub uploads : seat.agent.uploads ≤ length past
    pub own : AreOwn s a (WasUploading s past a) seat.agent.closed
    pub numbers : (x : Sent) → WasSent s past x → x.number.agent ≡ a
        → WasDrawn seat.agent.incarnation seat.agent.requests x.number.incarnation x.number.number
    pub drew : (u : UploadNo) (contents : List ℕ) → WasUploading s past a u contents
        → (u.agent ≡ a) × WasDrawn seat.agent.incarnation seat.agent.uploads u.incarnation u.count × (u.count ≤ length past)
    pub one : (u : UploadNo) (contents other : List ℕ) → WasUploading s past a u contents → WasUploading s past a u other → contents ≡ other

  -- and of all
  pub record AreDrawn (past : History) : Type 0 where
    pub count : length (actual s past).seats ≡ length s.header.agents
    pub seats : Places (IsSeat past) (actual s past).seats
    pub made : (x : Sent) → WasSent s past x → IsSent s x.number.agent (WasUploading s past x.number.agent) x
    pub one : (x y : Sent) → WasSent s past x → WasSent s past y → x.number ≡ y.number → x ≡ y
    pub members : (a : ℕ) (u : UploadNo) (contents : List ℕ) → WasUploading s past a u contents → a < length s.header.agents

  was_now : (past : History) (a : ℕ) (u : UploadNo) (contents : List ℕ) → IsUploading s past a u contents → WasUploading s past a u contents
  was_now [] a u contents now = now
  was_now (e ∷ past) a u contents now = inl now

  begun_had : (a : ℕ) (H : UploadNo → (contents : List ℕ) → Type 0) (y : Session) (there : Option (Upload Row)) (u : Upload Row) → there ≡ Some u
      → IsBegun s a H y there → H u.version.upload y.contents
  begun_had a H y None u is h = cc
  begun_had a H y (Some v) u is h = subst (λ (w : Upload Row). H w.version.upload y.contents) (some_same v u is) h.2

  module _ (past : History) (e : Entry) (h : AreDrawn past) where
    abbrev state : State Row
    state = actual s past

    abbrev x : Effect Row
    x = effect_after s rows past e

    abbrev Had : (a : ℕ) → UploadNo → (contents : List ℕ) → Type 0
    Had = WasUploading s past

    own_before : (a : ℕ) (seat : Seat Row) → slice_get state.seats a ≡ Some seat → AreOwn s a (Had a) seat.agent.closed
    own_before a seat found = (h.seats a seat found).own

    -- an upload is one of those that an agent has, or was had before
    which : (a : ℕ) (seat : Seat Row) (H : UploadNo → (contents : List ℕ) → Type 0) → slice_get (actual s (e ∷ past)).seats a ≡ Some seat
        → AreOwn s a H seat.agent.closed → (u : UploadNo) (contents : List ℕ) → WasUploading s (e ∷ past) a u contents
        → H u contents ⊎ Had a u contents
    which a seat H found own u contents (inr was) = inr was
    which a seat H found own u contents (inl (other, y, begun, at, inside, there, number, same)) =
        let is : other ≡ seat = some_same other seat (sym at ∙ found) in
        let here : Contains seat.agent.closed y = subst (λ (z : Seat Row). Contains z.agent.closed y) is inside in
        let had : H begun.version.upload y.session.contents =
        begun_had a H y.session y.upload begun there
        (each_of-contains (λ (y : Closed Row). IsBegun s a H y.session y.upload) seat.agent.closed y own here) in
        inl (subst (λ v. H v contents) number (subst (H begun.version.upload) same had))

    -- what an agent has now, it has or had
    own_now : (a : ℕ) (seat : Seat Row) (H : UploadNo → (contents : List ℕ) → Type 0) → slice_get (actual s (e ∷ past)).seats a ≡ Some seat
        → AreOwn s a H seat.agent.closed → AreOwn s a (WasUploading s (e ∷ past) a) seat.agent.closed
    own_now a seat H found own =
        each-inside (λ (y : Closed Row). IsBegun s a H y.session y.upload) (λ (y : Closed Row). IsBegun s a (WasUploading s (e ∷ past) a) y.session y.upload)
        seat.agent.closed (λ y inside. begun_now y inside y.upload refl) own
      where
        begun_now : (y : Closed Row) → Contains seat.agent.closed y → (there : Option (Upload Row)) → y.upload ≡ there
            → IsBegun s a H y.session there → IsBegun s a (WasUploading s (e ∷ past) a) y.session there
        begun_now y inside None is k = tt
        begun_now y inside (Some u) is k = (k.0, k.1, inl (seat, y, u, found, inside, is, refl, refl))

    -- a seat at which nothing happens, where the requests that are new are of other agents
    module _ (a : ℕ) (seat : Seat Row) (before : slice_get state.seats a ≡ Some seat) (found : slice_get (actual s (e ∷ past)).seats a ≡ Some seat)
        (others : (y : Sent) → Contains x.sent y → y.number.agent ≡ a → ⊥) where
      seat_stays : IsSeat (e ∷ past) a seat
      seat_stays =
          let k : IsSeat past a seat = h.seats a seat before in
          record {
            incarnation = omega (arith, k.incarnation);
            uploads = omega (arith, k.uploads);
            own = own_on s a (Had a) (WasUploading s (e ∷ past) a) (λ u contents was. inr was) seat.agent.closed k.own;
            numbers = numbers;
            drew = λ u contents was. drew u contents (again u contents was);
            one = λ u contents other left right. k.one u contents other (again u contents left) (again u other right);
          }
        where
          again : (u : UploadNo) (contents : List ℕ) → WasUploading s (e ∷ past) a u contents → Had a u contents
          again u contents was = either (which a seat (Had a) found (own_before a seat before) u contents was)
            where
              either : Had a u contents ⊎ Had a u contents → Had a u contents
              either (inl k) = k
              either (inr k) = k

          numbers : (y : Sent) → WasSent s (e ∷ past) y → y.number.agent ≡ a
              → WasDrawn seat.agent.incarnation seat.agent.requests y.number.incarnation y.number.number
          numbers y (inl new) mine = absurd (others y new mine)
          numbers y (inr was) mine = (h.seats a seat before).numbers y was mine

          drew : (u : UploadNo) (contents : List ℕ) → Had a u contents
              → (u.agent ≡ a) × WasDrawn seat.agent.incarnation seat.agent.uploads u.incarnation u.count × (u.count ≤ length (e ∷ past))
          drew u contents was =
              let d = (h.seats a seat before).drew u contents was in
              let most : u.count ≤ length past = d.2 in (d.0, d.1, omega (arith, most))

    member_now : length (actual s (e ∷ past)).seats ≡ length s.header.agents → (a : ℕ) (u : UploadNo) (contents : List ℕ)
        → WasUploading s (e ∷ past) a u contents → a < length s.header.agents
    member_now count a u contents (inr was) = h.members a u contents was
    member_now count a u contents (inl (seat, y, begun, found, inside, there, number, same)) =
        subst (λ n. a < n) count (slice_get_within (actual s (e ∷ past)).seats a seat found)

    -- nothing happens
    quiet : x.state.seats ≡ state.seats → x.sent ≡ [] → AreDrawn (e ∷ past)
    quiet same none =
        let count : length x.state.seats ≡ length s.header.agents = ap length same ∙ h.count in
        record {
          count = count;
          seats = λ a seat found. seat_stays a seat (subst (λ seats. slice_get seats a ≡ Some seat) same found) found (λ y new mine. no_new y new);
          made = made;
          one = λ y z left right number. h.one y z (old y left) (old z right) number;
          members = member_now count;
        }
      where
        no_new : (y : Sent) → Contains x.sent y → ⊥
        no_new y new = nothing (subst (λ sent. Contains sent y) none new)
          where
            nothing : Contains {X = Sent} [] y → ⊥
            nothing (k, less, is) = omega (arith, less)

        old : (y : Sent) → WasSent s (e ∷ past) y → WasSent s past y
        old y (inl new) = absurd (no_new y new)
        old y (inr was) = was

        made : (y : Sent) → WasSent s (e ∷ past) y → IsSent s y.number.agent (WasUploading s (e ∷ past) y.number.agent) y
        made y was =
            made_on s y.number.agent (Had y.number.agent) (WasUploading s (e ∷ past) y.number.agent) (λ u contents k. inr k) y.cloud y.body
            (h.made y (old y was))

    -- an agent does something
    module _ (act : IsAct s state (given_of state.clock e) e.message Had own_before x) where
      abbrev a : ℕ
      a = act.a

      abbrev from : Agent Row
      from = act.from

      abbrev now : Agent Row
      now = act.reaction.agent

      abbrev d : Does s a (Had a) from act.reaction
      d = act.does

      abbrev New : UploadNo → (contents : List ℕ) → Type 0
      New = HadOrNew s a (Had a) from act.reaction d.new

      k : IsSeat past a act.seat
      k = h.seats a act.seat act.found

      -- what was drawn was drawn as the agent begins, also in its next incarnation
      begins_drawn : (incarnation number : ℕ) → (count : Agent Row → ℕ) → WasDrawn act.seat.agent.incarnation (count act.seat.agent) incarnation number
          → WasDrawn from.incarnation (count from) incarnation number
      begins_drawn incarnation number count was = by act.begun
        where
          by : (from ≡ act.seat.agent) ⊎ (from ≡ next_life act.seat.agent) → WasDrawn from.incarnation (count from) incarnation number
          by (inl same) = subst (λ (g : Agent Row). WasDrawn g.incarnation (count g) incarnation number) (sym same) was
          by (inr next) =
              subst (λ (g : Agent Row). WasDrawn g.incarnation (count g) incarnation number) (sym next)
              (omega (arith, was.0), λ later. absurd (omega (arith, was.0, later)))

      from_small : (from.incarnation ≤ length past + 1) × (from.uploads ≤ length past)
      from_small = by act.begun
        where
          by : (from ≡ act.seat.agent) ⊎ (from ≡ next_life act.seat.agent) → (from.incarnation ≤ length past + 1) × (from.uploads ≤ length past)
          by (inl same) =
              subst (λ (g : Agent Row). (g.incarnation ≤ length past + 1) × (g.uploads ≤ length past)) (sym same)
              (omega (arith, k.incarnation), k.uploads)
          by (inr next) =
              subst (λ (g : Agent Row). (g.incarnation ≤ length past + 1) × (g.uploads ≤ length past)) (sym next)
              (omega (arith, k.incarnation), zero-le)

      -- a request that is new
      new_drawn : (y : Sent) → Contains x.sent y → IsDrawn s a from.incarnation from.requests now.requests y
      new_drawn y new =
          each_of-contains (IsDrawn s a from.incarnation from.requests now.requests) act.reaction.sent y d.drawn
          (subst (λ sent. Contains sent y) act.sent new)

      new_made : (y : Sent) → Contains x.sent y → IsSent s a New y
      new_made y new = each_of-contains (IsSent s a New) act.reaction.sent y d.made (subst (λ sent. Contains sent y) act.sent new)

      old_number : (y : Sent) → WasSent s past y → y.number.agent ≡ a → WasDrawn from.incarnation from.requests y.number.incarnation y.number.number
      old_number y was mine = begins_drawn y.number.incarnation y.number.number (λ g. g.requests) (k.numbers y was mine)

      old_upload : (u : UploadNo) (contents : List ℕ) → Had a u contents → WasDrawn from.incarnation from.uploads u.incarnation u.count
      old_upload u contents was = begins_drawn u.incarnation u.count (λ g. g.uploads) (k.drew u contents was).1

      -- an upload that is new was not had before
      not_both : (u : UploadNo) (contents other : List ℕ) → Had a u contents → IsNew s a (Had a) from act.reaction d.new u other → ⊥
      not_both u contents other was new =
          let drawn = (old_upload u contents was).1 in
          let i : u.incarnation ≡ from.incarnation = ap (λ (n : UploadNo). n.incarnation) new.0 in
          let count : u.count ≡ from.uploads + 1 = ap (λ (n : UploadNo). n.count) new.0 in
          let most : u.count ≤ from.uploads = drawn (omega (arith, i)) in
          omega (arith, count, most)

      one_new : (u : UploadNo) (contents other : List ℕ) → New u contents → New u other → contents ≡ other
      one_new u contents other (inl left) (inl right) = k.one u contents other left right
      one_new u contents other (inl left) (inr right) = absurd (not_both u contents other left right)
      one_new u contents other (inr left) (inl right) = absurd (not_both u other contents right left)
      one_new u contents other (inr left) (inr right) = left.1 ∙ sym right.1

      drew_now : (u : UploadNo) (contents : List ℕ) → New u contents
          → (u.agent ≡ a) × WasDrawn now.incarnation now.uploads u.incarnation u.count × (u.count ≤ length (e ∷ past))
      drew_now u contents (inl was) =
          let before = k.drew u contents was in
          let drawn = old_upload u contents was in
          let most : u.count ≤ length past = before.2 in
          (before.0, (omega (arith, drawn.0, d.incarnation), λ up. le_trans (drawn.1 (omega (arith, up, d.incarnation))) d.uploads), omega (arith, most))
      drew_now u contents (inr new) =
          let agent : u.agent ≡ a = ap (λ (n : UploadNo). n.agent) new.0 in
          let i : u.incarnation ≡ from.incarnation = ap (λ (n : UploadNo). n.incarnation) new.0 in
          let count : u.count ≡ from.uploads + 1 = ap (λ (n : UploadNo). n.count) new.0 in
          let few : from.uploads ≤ length past = from_small.1 in
          let up : from.uploads + 1 ≤ now.uploads = new.2 in
          (agent, (omega (arith, i, d.incarnation), λ later. omega (arith, count, up)), omega (arith, count, few))

      seat_acts : slice_get (actual s (e ∷ past)).seats a ≡ Some act.after → IsSeat (e ∷ past) a act.after
      seat_acts found =
          let own : AreOwn s a New act.after.agent.closed = subst (λ (g : Agent Row). AreOwn s a New g.closed) (sym act.agent) d.own in
          let few = from_small in
          record {
            incarnation = subst (λ (g : Agent Row). g.incarnation ≤ length (e ∷ past)) (sym act.agent) (omega (arith, few.0, d.incarnation));
            uploads = subst (λ (g : Agent Row). g.uploads ≤ length (e ∷ past)) (sym act.agent) (omega (arith, few.1, d.one_more));
            own = own_now a act.after New found own;
            numbers = λ y was mine. subst (λ (g : Agent Row). WasDrawn g.incarnation g.requests y.number.incarnation y.number.number) (sym act.agent)
                (numbers y was mine);
            drew = λ u contents was.
                subst (λ (g : Agent Row). (u.agent ≡ a) × WasDrawn g.incarnation g.uploads u.incarnation u.count × (u.count ≤ length (e ∷ past)))
                (sym act.agent) (drew_now u contents (again own u contents was));
            one = λ u contents other left right. one_new u contents other (again own u contents left) (again own u other right);
          }
        where
          again : AreOwn s a New act.after.agent.closed → (u : UploadNo) (contents : List ℕ) → WasUploading s (e ∷ past) a u contents → New u contents
          again own u contents was = either (which a act.after New found own u contents was)
            where
              either : New u contents ⊎ Had a u contents → New u contents
              either (inl new) = new
              either (inr had) = inl had

          numbers : (y : Sent) → WasSent s (e ∷ past) y → y.number.agent ≡ a
              → WasDrawn now.incarnation now.requests y.number.incarnation y.number.number
          numbers y (inl new) mine = let n = new_drawn y new in (omega (arith, n.1, d.incarnation), λ up. n.3)
          numbers y (inr was) mine =
              let old = old_number y was mine in
              (omega (arith, old.0, d.incarnation), λ up. le_trans (old.1 (omega (arith, up, d.incarnation))) d.requests)

      found_after : slice_get (actual s (e ∷ past)).seats a ≡ Some act.after
      found_after = subst (λ seats. slice_get seats a ≡ Some act.after) (sym act.seats) (get_set state.seats a act.seat act.after act.found)
        where
          get_set : (xs : List (Seat Row)) (n : ℕ) (old new : Seat Row) → slice_get xs n ≡ Some old → slice_get (slice_set xs n new) n ≡ Some new
          get_set [] n old new found = cc
          get_set (y ∷ ys) zero old new found = refl
          get_set (y ∷ ys) (suc n) old new found = get_set ys n old new found

      all_seats : Places (IsSeat (e ∷ past)) (actual s (e ∷ past)).seats
      all_seats b seat found =
          by_set b seat (subst (λ seats. slice_get seats b ≡ Some seat) act.seats found) found
        where
          P : ℕ → Seat Row → Type 0
          P b seat = slice_get (actual s (e ∷ past)).seats b ≡ Some seat → IsSeat (e ∷ past) b seat

          by_set : Places P (slice_set state.seats a act.after)
          by_set =
              places_set P state.seats a act.seat act.after act.found seat_acts
              (λ b apart seat before found. seat_stays b seat before found (λ y new mine. apart (sym mine ∙ (new_drawn y new).0)))

      made_now : (y : Sent) → WasSent s (e ∷ past) y → IsSent s y.number.agent (WasUploading s (e ∷ past) y.number.agent) y
      made_now y (inr was) =
          made_on s y.number.agent (Had y.number.agent) (WasUploading s (e ∷ past) y.number.agent) (λ u contents k. inr k) y.cloud y.body (h.made y was)
      made_now y (inl new) =
          subst (λ b. IsSent s b (WasUploading s (e ∷ past) b) y) (sym (new_drawn y new).0)
          (made_on s a New (WasUploading s (e ∷ past) a) here y.cloud y.body (new_made y new))
        where
          here : (u : UploadNo) (contents : List ℕ) → New u contents → WasUploading s (e ∷ past) a u contents
          here u contents (inl had) = inr had
          here u contents (inr new) =
              let there : IsThere s a (Had a) now (upload_no a from.incarnation (from.uploads + 1)) d.new = d.there new.2 in
              let inside : Contains act.after.agent.closed there.0 = subst (λ (g : Agent Row). Contains g.closed there.0) (sym act.agent) there.2 in
              inl (act.after, there.0, there.1, found_after, inside, there.3, there.4 ∙ sym new.0, there.5 ∙ sym new.1)

      -- a request that is new and one that was made
      numbers_apart : (y z : Sent) → Contains x.sent y → WasSent s past z → y.number ≡ z.number → ⊥
      numbers_apart y z new was same =
          let n = new_drawn y new in
          let old = old_number z was (ap (λ (n : RequestNo). n.agent) (sym same) ∙ n.0) in
          let i : y.number.incarnation ≡ z.number.incarnation = ap (λ (n : RequestNo). n.incarnation) same in
          let m : y.number.number ≡ z.number.number = ap (λ (n : RequestNo). n.number) same in
          let most : z.number.number ≤ from.requests = old.1 (omega (arith, i, n.1)) in
          omega (arith, m, most, n.2)

      one_now : (y z : Sent) → WasSent s (e ∷ past) y → WasSent s (e ∷ past) z → y.number ≡ z.number → y ≡ z
      one_now y z (inr left) (inr right) same = h.one y z left right same
      one_now y z (inl left) (inl right) same =
          order_one act.reaction.sent d.order y z (subst (λ sent. Contains sent y) act.sent left) (subst (λ sent. Contains sent z) act.sent right) same
      one_now y z (inl left) (inr right) same = absurd (numbers_apart y z left right same)
      one_now y z (inr left) (inl right) same = absurd (numbers_apart z y right left (sym same))

      acts : AreDrawn (e ∷ past)
      acts =
          let count : length x.state.seats ≡ length s.header.agents = ap length act.seats ∙ length-set state.seats a act.after ∙ h.count in
          record { count = count; seats = all_seats; made = made_now; one = one_now; members = member_now count }

    pub next_drawn : AreDrawn (e ∷ past)
    next_drawn = by (event_acts s state (given_of state.clock e) e.message Had own_before (place_of e.event))
      where
        by : Acts s state (given_of state.clock e) e.message Had own_before x → AreDrawn (e ∷ past)
        by (inl still) = quiet still.0 still.1
        by (inr act) = acts act

  length-replicate : (n : ℕ) → length (replicate n (first_seat {V = Row} s)) ≡ n
  length-replicate zero = refl
  length-replicate (suc n) = ap (λ m. suc m) (length-replicate n)

  none_first : (a : ℕ) (u : UploadNo) (contents : List ℕ) → WasUploading s [] a u contents → ⊥
  none_first a u contents (seat, y, begun, found, inside, there, number, same) =
      nothing (subst (λ xs. Contains xs y) (closed_none seat found) inside)
    where
      nothing : Contains {X = Closed Row} [] y → ⊥
      nothing (k, less, is) = omega (arith, less)

      closed_none : (seat : Seat Row) → slice_get (actual s []).seats a ≡ Some seat → seat.agent.closed ≡ []
      closed_none seat found = places_replicate (λ b (y : Seat Row). y.agent.closed ≡ []) (length s.header.agents) (first_seat s) (λ b. refl) a seat found

  pub always_drawn : (past : History) → AreDrawn past
  always_drawn [] =
      record {
        count = length-replicate (length s.header.agents);
        seats = places_replicate (IsSeat []) (length s.header.agents) (first_seat s) (λ a. record {
          incarnation = le_refl _;
          uploads = le_refl _;
          own = tt;
          numbers = λ y was mine. absurd was;
          drew = λ u contents was. absurd (none_first a u contents was);
          one = λ u contents other left right. absurd (none_first a u contents left);
        });
        made = λ y was. absurd was;
        one = λ y z left right same. absurd left;
        members = λ a u contents was. absurd (none_first a u contents was);
      }
  always_drawn (e ∷ past) = next_drawn past e (always_drawn past)
