-- Where no upload begins behind a reaction, and what comes for an agent's open or upload.
use Rattle.std.proofs.Common.{◌≡◌, ℕ, ◌+◌, List, [], ◌∷◌, ◌++◌, Option, Some, None, Bool, true, false, refl, sym, ap, ◌∙◌, subst}
use Rattle.std.specs.Prelude.{is_some, if◌then◌else◌}
use Rattle.std.proofs.lemmas.List.{append-nil}
use Rattle.scfs_base.specs.declared.naming.RequestNo.{RequestNo}
use Rattle.scfs_base.specs.declared.cloud.CloudAnswer.{CloudAnswer}
use Rattle.scfs_policy.specs.declared.rank.RankFacts.{RankFacts}
use Rattle.scfs_model.specs.Format.{Setup}
use Rattle.scfs_model.specs.Layers.{Row, rows}
use Rattle.scfs_model.specs.Given.{Given}
use Rattle.scfs_model.specs.Next.{Next, Goes_on, Asks, Has, Gives_up}
use Rattle.scfs_model.specs.Reading.{piece_in, is_awaited, with_piece, read_on, read_turn}
use Rattle.scfs_model.specs.Storing.{is_new_ack, with_ack, store_on, store_turn}
use Rattle.scfs_model.specs.SessionSteps.{Sight}
use Rattle.scfs_model.specs.Sayings.{Saying}
use Rattle.scfs_model.specs.Agents.{Agent, Opening, Closed, Upload, Request, Sent, Reaction, silent, followed}
use Rattle.scfs_model.specs.Opens.{Found, As_empty, On_clouds, reads, takes, open_hears, open_turns, gives_up, tallied, sighted}
use Rattle.scfs_model.specs.Closes.{stores, upload_hears, upload_turns, with_storing}
use Rattle.scfs_model.specs.Reactions.{next_begun, begun}
use Rattle.scfs_agent.specs.Settled.{settled, HasBegun}

same_reaction : (agent agent' : Agent Row) (says says' : List Saying) (steps steps' : List (Request Row)) (sent sent' : List Sent)
    (ranked ranked' : List RankFacts)
    → agent ≡ agent' → says ≡ says' → steps ≡ steps' → sent ≡ sent' → ranked ≡ ranked'
    → let r : Reaction Row = record { agent = agent; says = says; steps = steps; sent = sent; ranked = ranked } in
    let q : Reaction Row = record { agent = agent'; says = says'; steps = steps'; sent = sent'; ranked = ranked' } in r ≡ q
same_reaction agent agent' says says' steps steps' sent sent' ranked ranked' a b c d e =
    λ i. record { agent = a i; says = b i; steps = c i; sent = d i; ranked = e i }

abbrev joined : Reaction Row → Reaction Row → Reaction Row
joined r second =
    record {
      agent = second.agent;
      says = r.says ++ second.says;
      steps = r.steps ++ second.steps;
      sent = r.sent ++ second.sent;
      ranked = r.ranked ++ second.ranked;
    }

joined_silent : (r : Reaction Row) → joined r (silent r.agent) ≡ r
joined_silent r =
    same_reaction r.agent r.agent (r.says ++ []) r.says (r.steps ++ []) r.steps (r.sent ++ []) r.sent (r.ranked ++ []) r.ranked refl
    (append-nil r.says) (append-nil r.steps) (append-nil r.sent) (append-nil r.ranked)

-- nothing follows
quiet : (r : Reaction Row) (on : Agent Row → Reaction Row) → on r.agent ≡ silent r.agent → followed r on ≡ r
quiet r on e = ap (joined r) e ∙ joined_silent r

begun_by : (s : Setup) (a : ℕ) (agent : Agent Row) (rest : List (Closed Row)) (x : Closed Row) (u : Option (Upload Row)) → is_some u ≡ true
    → begun s rows a agent rest x u ≡ silent agent
begun_by s a agent rest x None e = cc
begun_by s a agent rest x (Some u) e = refl

next_quiet : (s : Setup) (a : ℕ) (agent : Agent Row) (xs : List (Closed Row)) → HasBegun xs → next_begun s rows a agent xs ≡ silent agent
next_quiet s a agent [] h = refl
next_quiet s a agent (x ∷ rest) h = begun_by s a agent rest x x.upload h

-- where each closed session has its upload, none begins
pub settled_same : (s : Setup) (a : ℕ) (r : Reaction Row) → HasBegun r.agent.closed → settled s a r ≡ r
settled_same s a r h = quiet r (λ next. next_begun s rows a next next.closed) (next_quiet s a r.agent r.agent.closed h)

-- what leaves the closed sessions as they were
abbrev pub Leaves : Agent Row → Reaction Row → Type 0
Leaves agent r = r.agent.closed ≡ agent.closed

module _ (s : Setup) (a : ℕ) where
  gives_up_leaves : (agent : Agent Row) (o : Opening Row) (good : ℕ) → Leaves agent (gives_up s rows a agent o good)
  gives_up_leaves agent o good = by o.writes refl where
    by : (b : Bool) → o.writes ≡ b → Leaves agent (gives_up s rows a agent o good)
    by true e = ap (λ (b : Bool). (gives_up s rows a agent (record o { writes = b }) good).agent.closed) e
    by false e = ap (λ (b : Bool). (gives_up s rows a agent (record o { writes = b }) good).agent.closed) e

  pub reads_leaves : (agent : Agent Row) (o : Opening Row) (next : Next (List ℕ)) → Leaves agent (reads s rows a agent o next)
  reads_leaves agent o Goes_on = refl
  reads_leaves agent o (Asks clouds) = refl
  reads_leaves agent o (Has bytes) = refl
  reads_leaves agent o (Gives_up good) = gives_up_leaves agent o good

  pub hears_leaves : (agent : Agent Row) (o : Opening Row) (c : ℕ) (request : RequestNo) (answer : CloudAnswer)
      → Leaves agent (open_hears s rows a agent o c request answer)
  hears_leaves agent o c request answer = by (is_awaited o.reading c request) where
    by : (b : Bool) → Leaves agent (if b then takes s rows a agent o c (piece_in s o.reading c answer) else reads s rows a agent o Goes_on)
    by true =
        let piece = piece_in s o.reading c answer in
        reads_leaves (tallied agent c (is_some piece)) (record o { reading = with_piece o.reading piece }) (read_on s o.reading piece)
    by false = refl

  pub turns_leave : (agent : Agent Row) (o : Opening Row) → Leaves agent (open_turns s rows a agent o)
  turns_leave agent o = reads_leaves agent (record o { reading = record o.reading { turns = o.reading.turns + 1 } }) (read_turn o.reading)

  pub sighted_leaves : (agent : Agent Row) (given : Given) (h : ℕ) (writes : Bool) (sight : Sight Row) (x : Found Row)
      → Leaves agent (sighted s rows a agent given h writes sight x)
  sighted_leaves agent given h writes sight As_empty = refl
  sighted_leaves agent given h writes sight (On_clouds v) = refl

  -- uploads
  stores_begun : (agent : Agent Row) (x : Closed Row) (u : Upload Row) (next : Next (Unit {0})) → agent.closed ≡ []
      → HasBegun (stores s a agent x u next).agent.closed
  stores_begun agent x u Goes_on none = refl
  stores_begun agent x u (Asks clouds) none = refl
  stores_begun agent x u (Has enough) none = refl
  stores_begun agent x u (Gives_up acks) none = subst HasBegun (sym none) tt

  pub hears_begun : (agent : Agent Row) (x : Closed Row) (u : Upload Row) (c : ℕ) (request : RequestNo) (answer : CloudAnswer) → agent.closed ≡ []
      → HasBegun (upload_hears s a agent x u c request answer).agent.closed
  hears_begun agent x u c request answer none = by (is_new_ack u.storing c request answer) where
    by : (b : Bool) → HasBegun
        (if b then stores s a agent x (with_storing u (with_ack u.storing c)) (store_on s u.storing) else stores s a agent x u Goes_on).agent.closed
    by true = stores_begun agent x (with_storing u (with_ack u.storing c)) (store_on s u.storing) none
    by false = refl

  pub turns_begun : (agent : Agent Row) (x : Closed Row) (u : Upload Row) → agent.closed ≡ [] → HasBegun (upload_turns s a agent x u).agent.closed
  turns_begun agent x u none = stores_begun agent x _ (store_turn s u.storing) none
