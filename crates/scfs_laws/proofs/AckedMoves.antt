-- What is known of an agent's uploads, by what was sent and acknowledged, it keeps in all that it does, and it asks a commit only of enough.
use Rattle.std.proofs.Common.{◌≡◌, ◌≢◌, ℕ, ◌+◌, ◌<◌, ◌≤◌, List, [], ◌∷◌, ◌++◌, length, map, nat_lt, Bool, true, false, cond, ◌&&◌, ◌||◌, not, refl, sym, ap₂, ◌∙◌, subst, Option, Some, None, leb-true, eq-eqb, true≢false, nat_le, Contains}
use Rattle.std.specs.Prelude.{◌==◌}
use Rattle.std.proofs.lemmas.Bool.{and_parts, eqb-true}
use Rattle.scfs_base.specs.declared.naming.RequestNo.{RequestNo}
use Rattle.scfs_base.specs.declared.naming.UploadNo.{UploadNo}
use Rattle.scfs_base.specs.declared.cloud.CloudAnswer.{CloudAnswer}
use Rattle.scfs_base.specs.declared.cloud.CloudAnswer.TheVariants as answers
use Rattle.scfs_base.specs.declared.cloud.CloudRequest.{CloudRequest}
use Rattle.scfs_base.specs.declared.cloud.CloudRequest.TheVariants as requests
use Rattle.scfs_unit.specs.declared.sealing.Sealed.{Sealed}
use Rattle.scfs_session.specs.declared.sessions.Session.{Session}
use Rattle.scfs_model.specs.Lists.{is_in, put_by_number, below}
use Rattle.scfs_model.specs.Names.{request_no, upload_no, upload_name, same_request}
use Rattle.scfs_model.specs.Format.{Setup, clouds_of, enough, sealed, object_at}
use Rattle.scfs_model.specs.Given.{Given}
use Rattle.scfs_model.specs.Lives.{is_up}
use Rattle.scfs_model.specs.Asked.{Asked, asked_of, is_answer_to}
use Rattle.scfs_model.specs.SessionSteps.{Open_read, Open_write, Commit}
use Rattle.scfs_model.specs.Steps.{Step, On_names, On_locks, On_sessions}
use Rattle.scfs_model.specs.Storing.{is_ack, is_new_ack, with_ack}
use Rattle.scfs_model.specs.Agents.{Upload, Closed, Request, Agent, Sent, Reaction, next_asked}
use Rattle.scfs_model.specs.Closes.{with_storing, asks_puts}
use Rattle.scfs_model.specs.Reactions.{next_begun}
use Rattle.scfs_model.specs.Layers.{Row, Version, rows, row_of}
use Rattle.scfs_laws.specs.Acknowledged.{put_of}
use Rattle.scfs_laws.proofs.Lists.{Each, Pairs, each-map, each-append, each-front, each-back, each-inside, same_number}
use Rattle.scfs_laws.proofs.Moves.{just_enough, Known, IsCommon, Moves, each-below, next_begins}

abbrev pub Differ : List ℕ → Type 0
Differ ns = Pairs (λ m n. m ≢ n) ns

-- a number that is put into a list that does not have it
or_parts : (b c : Bool) → (b || c) ≡ false → (b ≡ false) × (c ≡ false)
or_parts true c h = cc
or_parts false c h = (refl, h)

put_by : (P : ℕ → Type 0) (b : Bool) (n m : ℕ) (ms rest : List ℕ) → P n → P m → Each P ms → Each P rest → Each P (cond b (n ∷ m ∷ ms) (m ∷ rest))
put_by P true n m ms rest h k others more = (h, (k, others))
put_by P false n m ms rest h k others more = (k, more)

each_put : (P : ℕ → Type 0) (n : ℕ) (ms : List ℕ) → P n → Each P ms → Each P (put_by_number n ms)
each_put P n [] h others = (h, tt)
each_put P n (m ∷ ms) h others = put_by P (nat_lt n m) n m ms (put_by_number n ms) h others.0 others.1 (each_put P n ms h others.1)

apart_from : (n m : ℕ) → (n == m) ≡ false → n ≢ m
apart_from n m h same = true≢false (sym (eq-eqb n m same) ∙ h)

apart_all : (n : ℕ) (ms : List ℕ) → is_in n ms ≡ false → Each (λ m. n ≢ m) ms
apart_all n [] h = tt
apart_all n (m ∷ ms) h = let parts = or_parts (n == m) (is_in n ms) h in (apart_from n m parts.0, apart_all n ms parts.1)

differ_by : (b : Bool) (n m : ℕ) (ms rest : List ℕ) → Each (λ k. n ≢ k) (m ∷ ms) → Each (λ k. m ≢ k) ms → Differ ms → Each (λ k. m ≢ k) rest
    → Differ rest → Differ (cond b (n ∷ m ∷ ms) (m ∷ rest))
differ_by true n m ms rest new first others more later = (new, (first, others))
differ_by false n m ms rest new first others more later = (more, later)

differ_put : (n : ℕ) (ms : List ℕ) → Each (λ m. n ≢ m) ms → Differ ms → Differ (put_by_number n ms)
differ_put n [] new others = (tt, tt)
differ_put n (m ∷ ms) new others =
    differ_by (nat_lt n m) n m ms (put_by_number n ms) new others.0 others.1
    (each_put (λ k. m ≢ k) n ms (λ e. new.0 (sym e)) others.0) (differ_put n ms new.1 others.1)

-- an answer to one of these requests, of which this holds
answered : (P : RequestNo → (c : ℕ) → Type 0) (asked : List Asked) (c : ℕ) (request : RequestNo) → Each (λ (x : Asked). P x.request x.cloud) asked
    → is_answer_to asked c request ≡ true → P request c
answered P [] c request h is = absurd (true≢false (sym is))
answered P (x ∷ xs) c request h is = by ((x.cloud == c) && same_request x.request request) refl is (answered P xs c request h.1)
  where
    by : (b : Bool) → ((x.cloud == c) && same_request x.request request) ≡ b → (b || is_answer_to xs c request) ≡ true
        → (is_answer_to xs c request ≡ true → P request c) → P request c
    by true same k later =
        let both = and_parts (x.cloud == c) (same_request x.request request) same in
        subst (λ r. P r c) (same_number x.request request both.1) (subst (P x.request) (eqb-true x.cloud c both.0) h.0)
    by false other k later = later k

is_acknowledgement : (answer : CloudAnswer) → is_ack answer ≡ true → answer ≡ answers.Ack
is_acknowledgement answers.Ack is = refl
is_acknowledgement answers.Absent is = cc
is_acknowledgement (answers.Bytes bytes) is = cc
is_acknowledgement (answers.Names names) is = cc
is_acknowledgement answers.Fail is = cc

not_true : (b : Bool) → not b ≡ true → b ≡ false
not_true true h = cc
not_true false h = refl

-- which Puts were made; what clouds acknowledged to the agent in an incarnation; which upload an agent had of which contents
module _ (s : Setup) (a : ℕ) (Sends : Sent → Type 0) (Acked : (incarnation : ℕ) → CloudRequest → (c : ℕ) → Type 0)
    (Had : UploadNo → (contents : List ℕ) → Type 0) where
  -- the Put of an upload of these contents under this number was made of a cloud by the agent in this incarnation
  abbrev pub IsPut : (i : ℕ) → UploadNo → (contents : List ℕ) → RequestNo → (c : ℕ) → Type 0
  IsPut i u contents request c =
      (request.agent ≡ a) × (request.incarnation ≡ i) × (c < clouds_of s) × Sends (record { number = request; cloud = c; body = put_of s u contents c })

  abbrev pub IsHeld : (i : ℕ) → UploadNo → (contents : List ℕ) → (c : ℕ) → Type 0
  IsHeld i u contents c = (c < clouds_of s) × Acked i (put_of s u contents c) c

  -- an upload of a closed session in an incarnation, by its version, its name and unit, its Puts and the clouds that acknowledged one
  pub record IsStoring (i : ℕ) (y : Session) (v : Row) (name : List ℕ) (unit : Sealed) (asked : List Asked) (acked : List ℕ) : Type 0 where
    pub version : v ≡ rows.closed y v.upload (sealed s v.upload y.contents)
    pub named : name ≡ upload_name v.upload
    pub sealed_so : unit ≡ sealed s v.upload y.contents
    pub puts : Each (λ (x : Asked). IsPut i v.upload y.contents x.request x.cloud) asked
    pub acks : Each (IsHeld i v.upload y.contents) acked
    pub differ : Differ acked
    pub had : Had v.upload y.contents

  abbrev pub IsUpload : (i : ℕ) → Session → Upload Row → Type 0
  IsUpload i y u = IsStoring i y u.version u.storing.name u.storing.unit u.storing.puts u.storing.acked

  abbrev pub IsBegun : (i : ℕ) → Session → Option (Upload Row) → Type 0
  IsBegun i y None = Unit {0}
  IsBegun i y (Some u) = IsUpload i y u

  abbrev pub AreClosed : (i : ℕ) → List (Closed Row) → Type 0
  AreClosed i closed = Each (λ (x : Closed Row). IsBegun i x.session x.upload) closed

  -- a row is that of a close of which enough clouds acknowledged their objects
  pub record IsStored (i : ℕ) (v : Row) : Type 0 where
    pub close : Version
    pub is_row : v ≡ row_of s close
    pub had : Had close.upload close.bytes
    pub clouds : List ℕ
    pub differ : Differ clouds
    pub are_enough : enough s ≤ length clouds
    pub acks : Each (IsHeld i close.upload close.bytes) clouds

  -- a step that waits
  abbrev pub IsStep : RequestNo → Step Row → Type 0
  IsStep number (On_names x) = Unit {0}
  IsStep number (On_locks x) = Unit {0}
  IsStep number (On_sessions (Open_read names h)) = Unit {0}
  IsStep number (On_sessions (Open_write names h)) = Unit {0}
  IsStep number (On_sessions (Commit h v)) = (number.agent ≡ a) × IsStored number.incarnation v

  abbrev pub IsRequest : Request Row → Type 0
  IsRequest q = IsStep q.number q.step

  other_step : (number : RequestNo) (step : Step Row) → IsCommon step → IsStep number step
  other_step number (On_names x) other = tt
  other_step number (On_locks x) other = tt
  other_step number (On_sessions (Open_read names h)) other = tt
  other_step number (On_sessions (Open_write names h)) other = tt
  other_step number (On_sessions (Commit h v)) other = absurd other

  enough_stored : (i : ℕ) (y : Session) (u : Upload Row) → IsUpload i y u → nat_le (enough s) (length u.storing.acked) ≡ true → IsStored i u.version
  enough_stored i y u k enough = record {
    close = record { file = y.file; number = y.base + 1; upload = u.version.upload; moment = 0; bytes = y.contents };
    is_row = k.version;
    had = k.had;
    clouds = u.storing.acked;
    differ = k.differ;
    are_enough = leb-true _ _ enough;
    acks = k.acks;
  }

  -- Puts that are made are its own
  new_puts : (i drawn : ℕ) (clouds : List ℕ) (u : UploadNo) (contents : List ℕ) (body : ℕ → CloudRequest)
      → ((c : ℕ) → body c ≡ put_of s u contents c) → Each (λ c. c < clouds_of s) clouds
      → Each Sends (map (λ (x : Asked). record { number = x.request; cloud = x.cloud; body = body x.cloud }) (asked_of a i drawn clouds))
      → Each (λ (x : Asked). IsPut i u contents x.request x.cloud) (asked_of a i drawn clouds)
  new_puts i drawn [] u contents body same within sent = tt
  new_puts i drawn (c ∷ clouds) u contents body same within sent = (
    (
      refl,
      refl,
      within.0,
      subst (λ b. Sends (record { number = record { agent = a; incarnation = i; number = drawn + 1 }; cloud = c; body = b })) (same c) sent.0,
    ),
    new_puts i (drawn + 1) clouds u contents body same within.1 sent.1,
  )

  -- what is sent now
  module _ (New : Sent → Type 0) where
    -- what it keeps in a reaction while it is up, where what is sent is sent
    abbrev pub Keeps : Agent Row → Reaction Row → Type 0
    Keeps g r =
        is_up g.life ≡ true → AreClosed g.incarnation g.closed → Each New r.sent
        → (is_up r.agent.life ≡ true) × AreClosed r.agent.incarnation r.agent.closed × Each IsRequest r.steps

    -- what comes to it: an acknowledgement counts as one of what was made
    abbrev pub comes : Known Row
    comes =
        record {
          call = λ call. Unit {0};
          sight = λ request sight. Unit {0};
          answer = λ c request answer.
              answer ≡ answers.Ack → (body : CloudRequest) → request.agent ≡ a
              → Sends (record { number = request; cloud = c; body = body }) → Acked request.incarnation body c;
          turn = (x : Sent) → New x → Sends x;
          crash = ⊥;
          start = ⊥;
          takes = Unit {0};
        }

    acked_more : (i : ℕ) (y : Session) (u : Upload Row) (c : ℕ) (request : RequestNo) (answer : CloudAnswer)
        → (answer ≡ answers.Ack → (body : CloudRequest) → request.agent ≡ a → Sends (record { number = request; cloud = c; body = body })
        → Acked request.incarnation body c)
        → IsUpload i y u → is_new_ack u.storing c request answer ≡ true → IsUpload i y (with_storing u (with_ack u.storing c))
    acked_more i y u c request answer counts k new =
        let both = and_parts (is_ack answer && is_answer_to u.storing.puts c request) (not (is_in c u.storing.acked)) new in
        let first = and_parts (is_ack answer) (is_answer_to u.storing.puts c request) both.0 in
        let put : IsPut i u.version.upload y.contents request c =
        answered (IsPut i u.version.upload y.contents) u.storing.puts c request k.puts first.1 in
        let body : CloudRequest = put_of s u.version.upload y.contents c in
        record {
          version = k.version;
          named = k.named;
          sealed_so = k.sealed_so;
          puts = k.puts;
          acks = each_put (IsHeld i u.version.upload y.contents) c u.storing.acked
              (put.2, subst (λ n. Acked n body c) put.1 (counts (is_acknowledgement answer first.0) body put.0 put.3)) k.acks;
          differ = differ_put c u.storing.acked (apart_all c u.storing.acked (not_true (is_in c u.storing.acked) both.1)) k.differ;
          had = k.had;
        }

    put_more : (g : Agent Row) (y : Session) (u : Upload Row) (clouds : List ℕ) → IsUpload g.incarnation y u → Each (λ c. c < clouds_of s) clouds
        → Each Sends (asks_puts s a g (record { number = 0; session = y; upload = None }) u clouds).sent
        → IsUpload g.incarnation y (with_storing u (record u.storing { puts = u.storing.puts ++ next_asked a g clouds }))
    put_more g y u clouds k within sent =
        record {
          version = k.version;
          named = k.named;
          sealed_so = k.sealed_so;
          puts = each-append _ u.storing.puts (next_asked a g clouds) k.puts
              (new_puts g.incarnation g.requests clouds u.version.upload y.contents
              (λ c. requests.Put u.storing.name (object_at u.storing.unit c))
              (λ c. ap₂ (λ name unit. requests.Put name (object_at unit c)) k.named k.sealed_so) within sent);
          acks = k.acks;
          differ = k.differ;
          had = k.had;
        }

    pub moves : (given : Given) → Moves s rows a comes given Keeps
    moves given =
        record {
          still = λ g up k sent. (up, k, tt);
          follow = λ g first second order one two up k sent.
              let h = one up k (each-front New first.sent second.sent sent) in
              let n = two h.0 h.1 (each-back New first.sent second.sent sent) in
              (n.0, n.1, each-append IsRequest first.steps second.steps h.2 n.2);
          aside = λ g life leases tallies opens same up k sent. (same ∙ up, k, tt);
          told = λ g request up k sent. (up, k, tt);
          frees = λ g takes up k sent. (up, k, tt);
          says_plain = λ g x plain up k sent. (up, k, tt);
          asks = λ g x up k sent. (up, k, (tt, tt));
          steps = λ g step common up k sent. (up, k, (other_step (request_no a g.incarnation (g.requests + 1)) step common, tt));
          makes = λ g path names know up k sent. (up, k, (tt, tt));
          reads = λ g h offset count bytes know ok up k sent. (up, k, tt);
          writes = λ g h offset new y know ok up k sent. (up, k, tt);
          truncates = λ g h size y know ok up k sent. (up, k, tt);
          ends = λ g h know up k sent. (up, k, tt);
          closes = λ g h y know found up k sent. (up, each-append _ g.closed _ k (tt, tt), tt);
          sees_empty = λ g request h writes sight know is up k sent. (up, k, tt);
          sees_version = λ g request h writes sight v know is up k sent. (up, k, tt);
          turns_open = λ g o up k sent. (up, k, tt);
          hears_open = λ g o c request answer takes know awaited up k sent. (up, k, tt);
          gets = λ g o clouds up k sent. (up, k, tt);
          loses = λ g o up k sent. (up, k, tt);
          shows = λ g o bytes all up k sent. (up, k, tt);
          turns_upload = λ g x u up k sent. (up, k, tt);
          hears_upload = λ g x u c request answer know new few up k sent.
              (up, (acked_more g.incarnation x.session u c request answer know k.0 new, k.1), tt);
          puts = λ g x u clouds know within up k sent. (up, (put_more g x.session u clouds k.0 within (each-map New Sends know _ sent), k.1), tt);
          commits = λ g x u c request answer know new just up k sent.
              let more = acked_more g.incarnation x.session u c request answer know k.0 new in
              let enough = just_enough s u c just in (
                up,
                (more, k.1),
                ((refl, enough_stored g.incarnation x.session (with_storing u (with_ack u.storing c)) more enough), tt),
              );
          drops = λ g x why up k sent. (up, k.1, tt);
          downs = λ g up none. absurd none;
          ups = λ g up none. absurd none;
        }

  -- an upload that begins is another one, where it is had
  abbrev pub Begins : Agent Row → Reaction Row → Type 0
  Begins g r =
      is_up g.life ≡ true → AreClosed g.incarnation g.closed → Each Sends r.sent
      → (is_up r.agent.life ≡ true) × AreClosed r.agent.incarnation r.agent.closed × (r.steps ≡ [])

  pub begins_keeps : ((u : UploadNo) (contents : List ℕ) → Had u contents) → (g : Agent Row) → Begins g (next_begun s rows a g g.closed)
  begins_keeps had =
      next_begins s rows a Begins (λ g up k sent. (up, k, refl)) (λ g x up k sent.
      let u : UploadNo = upload_no a g.incarnation (g.uploads + 1) in (
        up,
        (
          record {
            version = refl;
            named = refl;
            sealed_so = refl;
            puts = new_puts g.incarnation g.requests (below (clouds_of s)) u x.session.contents _ (λ c. refl) (each-below (clouds_of s)) sent;
            acks = tt;
            differ = tt;
            had = had u x.session.contents;
          },
          k.1,
        ),
        refl,
      ))

-- where more is known
module _ (s : Setup) (a : ℕ) (Sends Sends2 : Sent → Type 0) (Acked Acked2 : (incarnation : ℕ) → CloudRequest → (c : ℕ) → Type 0)
    (Had Had2 : UploadNo → (contents : List ℕ) → Type 0)
    (to_sent : (x : Sent) → Sends x → Sends2 x) (to_acked : (i : ℕ) (body : CloudRequest) (c : ℕ) → Acked i body c → Acked2 i body c) where
  held_on : (i : ℕ) (u : UploadNo) (contents : List ℕ) (cs : List ℕ) → Each (IsHeld s a Sends Acked Had i u contents) cs
      → Each (IsHeld s a Sends2 Acked2 Had2 i u contents) cs
  held_on i u contents cs h = each-map _ _ (λ c k. (k.0, to_acked i (put_of s u contents c) c k.1)) cs h

  upload_on : (i : ℕ) (y : Session) (u : Upload Row) → (Had u.version.upload y.contents → Had2 u.version.upload y.contents)
      → IsUpload s a Sends Acked Had i y u → IsUpload s a Sends2 Acked2 Had2 i y u
  upload_on i y u to_had k =
      record {
        version = k.version;
        named = k.named;
        sealed_so = k.sealed_so;
        puts = each-map _ _ (λ x p. (p.0, p.1, p.2, to_sent _ p.3)) u.storing.puts k.puts;
        acks = held_on i u.version.upload y.contents u.storing.acked k.acks;
        differ = k.differ;
        had = to_had k.had;
      }

  begun_on : (i : ℕ) (x : Closed Row) (there : Option (Upload Row))
      → ((u : Upload Row) → there ≡ Some u → Had u.version.upload x.session.contents → Had2 u.version.upload x.session.contents)
      → IsBegun s a Sends Acked Had i x.session there → IsBegun s a Sends2 Acked2 Had2 i x.session there
  begun_on i x None to_had k = tt
  begun_on i x (Some u) to_had k = upload_on i x.session u (to_had u refl) k

  pub closed_on : (i : ℕ) (xs : List (Closed Row))
      → ((x : Closed Row) (u : Upload Row) → Contains xs x → x.upload ≡ Some u → Had u.version.upload x.session.contents
      → Had2 u.version.upload x.session.contents)
      → AreClosed s a Sends Acked Had i xs → AreClosed s a Sends2 Acked2 Had2 i xs
  closed_on i xs to_had k = each-inside _ _ xs (λ x inside. begun_on i x x.upload (λ u there. to_had x u inside there)) k

  stored_on : (i : ℕ) (v : Row) → ((u : UploadNo) (contents : List ℕ) → Had u contents → Had2 u contents) → IsStored s a Sends Acked Had i v
      → IsStored s a Sends2 Acked2 Had2 i v
  stored_on i v to_had k =
      record {
        close = k.close;
        is_row = k.is_row;
        had = to_had k.close.upload k.close.bytes k.had;
        clouds = k.clouds;
        differ = k.differ;
        are_enough = k.are_enough;
        acks = held_on i k.close.upload k.close.bytes k.clouds k.acks;
      }

  pub step_on : (number : RequestNo) (step : Step Row) → ((u : UploadNo) (contents : List ℕ) → Had u contents → Had2 u contents)
      → IsStep s a Sends Acked Had number step → IsStep s a Sends2 Acked2 Had2 number step
  step_on number (On_names x) to_had k = tt
  step_on number (On_locks x) to_had k = tt
  step_on number (On_sessions (Open_read names h)) to_had k = tt
  step_on number (On_sessions (Open_write names h)) to_had k = tt
  step_on number (On_sessions (Commit h v)) to_had k = (k.0, stored_on number.incarnation v to_had k.1)
