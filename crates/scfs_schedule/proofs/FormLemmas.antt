use Rattle.std.proofs.Common.{◌≡◌, ℕ, List, [], ◌∷◌, ◌++◌, map, refl, ap, ◌∙◌, sym, append_assoc, append-nil, length, length-append, ◌<◌, arith, Bor}
use Rattle.std.specs.Prelude.{Result, Ok, Err}
use Rattle.scfs_schedule.specs.declared.types.BadKind.{BadKind}
use Rattle.scfs_schedule.specs.Grammar.{made, both, all_three, names, path, call_event, number_within, mode, seed, with_agent, agent_line}
use Rattle.scfs_schedule.specs.Places.{IsWithOneMore}
use Rattle.scfs_schedule.specs.declared.types.Header.{Header}
use Rattle.scfs_schedule.specs.declared.types.Mode.{Mode}
use Rattle.scfs_schedule.specs.declared.types.BadKind.TheVariants as kinds

step : (front : List (List ℕ)) (name : List ℕ) (rest : Result (List (List ℕ)) BadKind) → made (λ others. front ++ others) (both (λ first others. first ∷ others) (Ok name) rest) ≡ made (λ others. (front ++ name ∷ []) ++ others) rest
step front name (Ok others) = ap (λ t. Ok t) (sym (append_assoc front (name ∷ []) others))
step front name (Err kind) = refl

-- one more name was read
pub names_more : (all front more : List (List ℕ)) (word name : List ℕ) (rest : List (List ℕ)) → names all ≡ made (λ others. front ++ others) (names (word ∷ rest)) → Ok name ≡ path word → more ≡ front ++ name ∷ [] → names all ≡ made (λ others. more ++ others) (names rest)
names_more all front more word name rest before is pushed =
    before
    ∙ ap (λ r. made (λ others. front ++ others) (both (λ first others. first ∷ others) r (names rest))) (sym is)
    ∙ step front name (names rest)
    ∙ ap (λ f. made (λ others. f ++ others) (names rest)) (sym pushed)

pub names_bad : (all front : List (List ℕ)) (word : List ℕ) (rest : List (List ℕ)) (kind : BadKind) → names all ≡ made (λ others. front ++ others) (names (word ∷ rest)) → Err kind ≡ path word → Err kind ≡ names all
names_bad all front word rest kind before is =
    sym (before ∙ ap (λ r. made (λ others. front ++ others) (both (λ first others. first ∷ others) r (names rest))) (sym is))

pub names_all : (all front : List (List ℕ)) → names all ≡ made (λ others. front ++ others) (names []) → Ok front ≡ names all
names_all all front before = sym (before ∙ ap (λ t. Ok t) (append-nil front))

-- too few words for a call
pub call_few : (header : Header) (words : List (Bor (List ℕ))) → length words < 2 → Err kinds.Word ≡ call_event header (map (λ w. w.now) words)
call_few header [] few = refl
call_few header (a ∷ []) few = refl
call_few header (a ∷ b ∷ words) few = absurd (omega arith)

-- what one more agent changes
pub one_more : (header longer : Header) (m : Mode) (s : List ℕ) → longer ≡ with_agent header 0 m s → IsWithOneMore header longer
one_more header longer m s is = record {
  f = ap (λ (h : Header). h.f) is;
  lease = ap (λ (h : Header). h.lease) is;
  stale = ap (λ (h : Header). h.stale) is;
  one_more = ap (λ (h : Header). length h.agents) is ∙ length-append header.agents ((m, s) ∷ []);
}

-- an agent's line in form
pub agent_made : (header longer : Header) (words : List (Bor (List ℕ))) (a w s : Bor (List ℕ)) (n : ℕ) (m : Mode) (bytes : List ℕ) → words ≡ a ∷ w ∷ s ∷ [] → Ok n ≡ number_within (length header.agents) (length header.agents) a.now → Ok m ≡ mode w.now → Ok bytes ≡ seed s.now → longer ≡ with_agent header 0 m bytes → Ok longer ≡ agent_line header (map (λ w. w.now) words)
agent_made header longer words a w s n m bytes is hn hm hs made' =
    ap (λ h. Ok h) made'
    ∙ ap (λ r. all_three (with_agent header) (Ok n) (Ok m) r) hs
    ∙ ap (λ r. all_three (with_agent header) (Ok n) r (seed s.now)) hm
    ∙ ap (λ r. all_three (with_agent header) r (mode w.now) (seed s.now)) hn
    ∙ ap (λ ws. agent_line header (map (λ w. w.now) ws)) (sym is)
