-- What an agent that reads the clouds for an open does with what comes to it: it reads on, or the open is answered.
use Rattle.std.proofs.Common.{◌≡◌, ◌⊎◌, ℕ, ◌+◌, ◌≤◌, List, [], ◌∷◌, ◌++◌, length, map, refl, sym, ap, ◌∙◌, subst, Bool, true, false, ◌&&◌, ◌||◌, true≢false, Some, Contains}
use Rattle.std.specs.Prelude.{◌==◌}
use Rattle.std.specs.List.{list_any}
use Rattle.scfs_base.specs.declared.naming.RequestNo.{RequestNo}
use Rattle.scfs_base.specs.declared.cloud.CloudRequest.{CloudRequest}
use Rattle.scfs_unit.specs.declared.pieces.KeptPiece.{KeptPiece}
use Rattle.scfs_schedule.specs.declared.types.Src.TheVariants as sources
use Rattle.scfs_model.specs.Names.{same_request}
use Rattle.scfs_model.specs.Format.{Setup}
use Rattle.scfs_model.specs.Asked.{Asked, is_answer_to}
use Rattle.scfs_model.specs.Sayings as says
use Rattle.scfs_model.specs.Agents.{Opening, For_clouds, Closed, Upload, Agent, Sent, Reaction, silent, followed, next_asked}
use Rattle.scfs_model.specs.Opens.{asks_gets}
use Rattle.scfs_model.specs.Reactions.{to_upload, next_begun}
use Rattle.scfs_model.specs.Layers.{Row, rows}
use Rattle.scfs_laws.proofs.Lists.{Each, eqb-refl, same_itself}
use Rattle.scfs_laws.proofs.HeldSeats.{IsEmpty}
use Rattle.scfs_laws.proofs.HeldDoing.{at, followed_silent, empty_not_begun}

-- ---- what some item of a list passes

or_first : (a b c : Bool) → (a || b) ≡ true → (b ≡ true → c ≡ true) → (a || c) ≡ true
or_first true b c h f = refl
or_first false b c h f = f h

or_second : (a b : Bool) → b ≡ true → (a || b) ≡ true
or_second true b h = refl
or_second false b h = h

pub any_front : {X : Type 0} (p : X → Bool) (xs ys : List X) → list_any p xs ≡ true → list_any p (xs ++ ys) ≡ true
any_front p [] ys h = absurd (true≢false (sym h))
any_front p (x ∷ xs) ys h = or_first (p x) (list_any p xs) (list_any p (xs ++ ys)) h (any_front p xs ys)

pub any_back : {X : Type 0} (p : X → Bool) (xs ys : List X) → list_any p ys ≡ true → list_any p (xs ++ ys) ≡ true
any_back p [] ys h = h
any_back p (x ∷ xs) ys h = or_second (p x) (list_any p (xs ++ ys)) (any_back p xs ys h)

-- each request is an answer to itself
asked_itself : (y : Asked) (ys : List Asked) → is_answer_to (y ∷ ys) y.cloud y.request ≡ true
asked_itself y ys =
    ap (λ b. (b && same_request y.request y.request) || is_answer_to ys y.cloud y.request) (eqb-refl y.cloud)
    ∙ ap (λ b. b || is_answer_to ys y.cloud y.request) (same_itself y.request)

-- an agent that reads an open has no closed session
abbrev pub reader : Agent Row → Opening Row → Agent Row
reader g o = at g (Some (For_clouds o)) []

pub as_reader : (g : Agent Row) (o : Opening Row) → g.waiting ≡ Some (For_clouds o) → IsEmpty g.closed → reader g o ≡ g
as_reader g o waits empty = ap (λ w. at g w []) (sym waits) ∙ by g.closed empty refl
  where
    by : (closed : List (Closed Row)) → IsEmpty closed → closed ≡ g.closed → at g g.waiting [] ≡ g
    by [] empty same = ap (λ closed. at g g.waiting closed) same
    by (x ∷ closed) empty same = absurd empty

module _ (s : Setup) where
  -- its requests are Gets of this reading
  abbrev pub AreAsked : List Asked → List Sent → Type 0
  AreAsked gets sent = Each (λ (x : Sent). is_answer_to gets x.cloud x.number ≡ true) sent

  -- it reads on, having had so many turns, with these pieces
  pub record ReadsOn (o : Opening Row) (turns : ℕ) (pieces : List KeptPiece) (r : Reaction Row) : Type 0 where
    pub next : Opening Row
    pub waits : r.agent.waiting ≡ Some (For_clouds next)
    pub empty : IsEmpty r.agent.closed
    pub version : next.version ≡ o.version
    pub root : next.reading.root ≡ o.reading.root
    pub size : next.reading.size ≡ o.reading.size
    pub turned : next.reading.turns ≡ turns
    pub has : next.reading.pieces ≡ pieces
    pub few : length pieces ≤ s.header.f
    pub still : (c : ℕ) (n : RequestNo) → is_answer_to o.reading.gets c n ≡ true → is_answer_to next.reading.gets c n ≡ true
    pub asked : AreAsked next.reading.gets r.sent

  -- or it opens the version with what f + 1 pieces hold
  pub record Answers (o : Opening Row) (pieces : List KeptPiece) (r : Reaction Row) : Type 0 where
    pub says : Contains r.says (says.Opened o.session o.version.number sources.Clouds (length (s.format.unseal s.header.f pieces)))
    pub enough : length pieces ≡ s.header.f + 1

  abbrev pub Leaves : Opening Row → (turns : ℕ) → List KeptPiece → Reaction Row → Type 0
  Leaves o turns pieces r = Answers o pieces r ⊎ ReadsOn o turns pieces r

  -- nothing changes
  pub still_on : (o : Opening Row) (r : Reaction Row) → length o.reading.pieces ≤ s.header.f → r.agent.waiting ≡ Some (For_clouds o) → IsEmpty r.agent.closed
      → r.sent ≡ [] → ReadsOn o o.reading.turns o.reading.pieces r
  still_on o r few waits empty none =
      record {
        next = o;
        waits = waits;
        empty = empty;
        version = refl;
        root = refl;
        size = refl;
        turned = refl;
        has = refl;
        few = few;
        still = λ c n h. h;
        asked = subst (AreAsked o.reading.gets) (sym none) tt;
      }

  module _ (a : ℕ) where
    -- Gets that are asked are of the reading
    gets_asked : (whole gets : List Asked) (body : ℕ → CloudRequest) → ((c : ℕ) (n : RequestNo) → is_answer_to gets c n ≡ true → is_answer_to whole c n ≡ true)
        → AreAsked whole (map (λ (x : Asked). record { number = x.request; cloud = x.cloud; body = body x.cloud }) gets)
    gets_asked whole [] body among = tt
    gets_asked whole (y ∷ ys) body among = (
      among y.cloud y.request (asked_itself y ys),
      gets_asked whole ys body (λ c n h. among c n (or_second ((y.cloud == c) && same_request y.request n) (is_answer_to ys c n) h)),
    )

    pub gets_on : (g : Agent Row) (o : Opening Row) (clouds : List ℕ) → length o.reading.pieces ≤ s.header.f → IsEmpty g.closed
        → ReadsOn o o.reading.turns o.reading.pieces (asks_gets s rows a g o clouds)
    gets_on g o clouds few empty =
        let gets = next_asked a g clouds in
        let all = o.reading.gets ++ gets in
        record {
          next = record o { reading = record o.reading { gets = all } };
          waits = refl;
          empty = empty;
          version = refl;
          root = refl;
          size = refl;
          turned = refl;
          has = refl;
          few = few;
          still = λ c n h. any_front _ o.reading.gets gets h;
          asked = gets_asked all gets _ (λ c n h. any_back _ o.reading.gets gets h);
        }

    -- what comes after it changes nothing
    pub begun_same : (r : Reaction Row) → IsEmpty r.agent.closed → followed r (λ next. next_begun s rows a next next.closed) ≡ r
    begun_same r empty = followed_silent r (λ next. next_begun s rows a next next.closed) (empty_not_begun s a r.agent r.agent.closed empty)

    module _ (on : Agent Row → Closed Row → Upload Row → Reaction Row) where
      not_uploaded : (g : Agent Row) (closed : List (Closed Row)) → IsEmpty closed → to_upload g on closed ≡ silent g
      not_uploaded g [] empty = refl
      not_uploaded g (x ∷ closed) empty = absurd empty

      pub work_same : (r : Reaction Row) → IsEmpty r.agent.closed → followed r (λ next. to_upload next on next.closed) ≡ r
      work_same r empty = followed_silent r (λ next. to_upload next on next.closed) (not_uploaded r.agent r.agent.closed empty)
