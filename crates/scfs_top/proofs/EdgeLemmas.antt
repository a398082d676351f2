use Rattle.std.proofs.Common.{◌≡◌, ℕ, ◌-◌, List, [], ◌++◌, refl, ap, ◌∙◌, sym, subst, Option, Some, None, length, take, drop, append_assoc, append-nil}
use Rattle.std.proofs.lemmas.List.{take_rest, take-append-drop}
use Rattle.scfs_base.specs.Outside.{Takes, Puts}
use Rattle.scfs_live.specs.Edges.{GetsPart}
use Rattle.scfs_top.specs.Edges.{GetsFront, Passes}

pub puts_then : (a b c : Option (List ℕ)) (x y : List ℕ) → Puts a b x → Puts b c y → Puts a c (x ++ y)
puts_then None b c x y p q = tt
puts_then (Some before) b c x y p q =
    let r : c ≡ Some ((before ++ x) ++ y) = subst (λ m. Puts m c y) p q in r ∙ ap Some (append_assoc before x y)

pub takes_then : (a b c : Option (List ℕ)) (x y : List ℕ) → Takes a b x → Takes b c y → Takes a c (x ++ y)
takes_then None b c x y p q = tt
takes_then (Some all) b c x y p q =
    let r : Takes (Some p.0) c y = subst (λ m. Takes m c y) p.1 q in
    (r.0, r.1, p.2 ∙ ap (λ l. x ++ l) r.2 ∙ sym (append_assoc x y r.0))

pub takes_nothing : (a : Option (List ℕ)) → Takes a a []
takes_nothing None = tt
takes_nothing (Some all) = (all, refl, refl)

pub puts_nothing : (a : Option (List ℕ)) → Puts a a []
puts_nothing None = tt
puts_nothing (Some before) = ap Some (sym (append-nil before))

-- a rest of a piece without its front
pub rest_parts : (piece front rest : List ℕ) (count : ℕ) → piece ≡ front ++ rest → piece ≡ (front ++ take count rest) ++ take (length rest - count) (drop count rest)
rest_parts piece front rest count h =
    h ∙ ap (λ l. front ++ l) (sym (take-append-drop count rest) ∙ ap (λ l. take count rest ++ l) (sym (take_rest rest count))) ∙ sym (append_assoc front (take count rest) _)

-- a text that was written is a front of a longer one
pub front_of_more : (a b : Option (List ℕ)) (x y : List ℕ) → Puts a b x → GetsFront a b (x ++ y)
front_of_more a b x y p = record { front = x; back = y; whole = refl; puts = p }

-- a text, and then not all of another
pub then_part : (a b c : Option (List ℕ)) (x y : List ℕ) → Puts a b x → GetsPart b c y → GetsPart a c (x ++ y)
then_part a b c x y p g = record {
  front = x ++ g.front;
  back = g.back;
  whole = ap (λ l. x ++ l) g.whole ∙ sym (append_assoc x g.front g.back);
  more = g.more;
  puts = puts_then a b c x g.front p g.puts;
}

pub passes_nothing : (a : Option (List ℕ)) (waiting : List ℕ) → Passes a a waiting waiting []
passes_nothing a waiting = record { front = []; whole = append-nil waiting; puts = puts_nothing a }

pub passes_then : (a b c : Option (List ℕ)) (w w' w'' x y : List ℕ) → Passes a b w w' x → Passes b c w' w'' y → Passes a c w w'' (x ++ y)
passes_then a b c w w' w'' x y p q = record {
  front = p.front ++ q.front;
  whole = sym (append_assoc w x y) ∙ ap (λ l. l ++ y) p.whole ∙ append_assoc p.front w' y ∙ ap (λ l. p.front ++ l) q.whole ∙ sym (append_assoc p.front q.front w'');
  puts = puts_then a b c p.front q.front p.puts q.puts;
}

-- nothing came behind a text
pub passes_on : (a b c : Option (List ℕ)) (w w' w'' x : List ℕ) → Passes a b w w' x → Passes b c w' w'' [] → Passes a c w w'' x
passes_on a b c w w' w'' x p q = subst (Passes a c w w'') (append-nil x) (passes_then a b c w w' w'' x [] p q)

-- what waits and a text were not all written
pub passes_part : (a b c : Option (List ℕ)) (w x y : List ℕ) → Passes a b [] w x → GetsPart b c (w ++ y) → GetsPart a c (x ++ y)
passes_part a b c w x y p g =
    subst (GetsPart a c) (sym (append_assoc p.front w y) ∙ ap (λ l. l ++ y) (sym p.whole)) (then_part a b c p.front (w ++ y) p.puts g)

-- nothing waits
pub passes_all : (a b : Option (List ℕ)) (x : List ℕ) → Passes a b [] [] x → Puts a b x
passes_all a b x p = subst (Puts a b) (sym (p.whole ∙ append-nil p.front)) p.puts

-- nothing waits any more
pub passes_put : (a b : Option (List ℕ)) (w w' : List ℕ) → w' ≡ [] → Puts a b w → Passes a b w w' []
passes_put a b w w' none p = record { front = w; whole = ap (λ l. w ++ l) (sym none); puts = p }

-- nothing more was written
pub puts_more : (a b c : Option (List ℕ)) (x : List ℕ) → Puts a b x → Puts b c [] → Puts a c x
puts_more a b c x p q = subst (Puts a c) (append-nil x) (puts_then a b c x [] p q)
