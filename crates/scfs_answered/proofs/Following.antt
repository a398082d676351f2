-- From entry to entry an open reads on until it is answered: each cloud that gave its own object is among those of its pieces.
use Rattle.std.proofs.Common.{◌≡◌, inl, inr, ℕ, zero, suc, ◌+◌, ◌<◌, ◌≤◌, List, [], ◌∷◌, ◌++◌, length, map, refl, ap, ◌∙◌, subst, arith, true, Some, Contains}
use Rattle.std.proofs.lemmas.List.Elements.{Contains-append_left, Contains-append_right}
use Rattle.scfs_base.specs.declared.naming.FileId.{FileId}
use Rattle.scfs_base.specs.declared.naming.RequestNo.{RequestNo}
use Rattle.scfs_unit.specs.declared.pieces.KeptPiece.{KeptPiece}
use Rattle.scfs_unit.specs.Unsealing.{unseal}
use Rattle.scfs_schedule.specs.declared.types.Header.{Header}
use Rattle.scfs_schedule.specs.declared.types.Line.{Line}
use Rattle.scfs_schedule.specs.declared.types.Line.TheVariants as lines
use Rattle.scfs_schedule.specs.declared.types.Src.TheVariants as sources
use Rattle.scfs_model.specs.Names.{upload_name}
use Rattle.scfs_model.specs.Format.{Setup, clouds_of, sealed, object_at}
use Rattle.scfs_model.specs.UnitFormat.{under}
use Rattle.scfs_model.specs.History.{Entry, History}
use Rattle.scfs_model.specs.Asked.{is_answer_to}
use Rattle.scfs_model.specs.Reading.{is_good}
use Rattle.scfs_model.specs.Sayings.{Saying, said_by}
use Rattle.scfs_model.specs.Sayings as says
use Rattle.scfs_model.specs.Agents.{Opening, For_clouds, Agent, Sent, Reaction}
use Rattle.scfs_model.specs.Layers.{Row, Version}
use Rattle.scfs_model.specs.States.{request_line}
use Rattle.scfs_laws.proofs.Lists.{Each, each_of-contains}
use Rattle.scfs_answered.specs.Answered.{WasAsked, IsGiven, WasGivenOwn, turns_in, turns_since}
use Rattle.scfs_answered.proofs.UnitSizes.{length-unseal}
use Rattle.scfs_answered.proofs.Reader.{Answers}
use Rattle.scfs_answered.proofs.AgentLines.{Tells}

-- whatever sight a line tells of
abbrev pub AnySaw : RequestNo → FileId → (number : ℕ) → Type 0
AnySaw request file number = Unit {0}

module _ (header : Header) (sight : Entry) (a : ℕ) (close : Version) where
  abbrev pub s : Setup
  s = under header

  abbrev pub size : ℕ
  size = length close.bytes

  -- cloud c's own object
  abbrev pub own : (c : ℕ) → List ℕ
  own c = object_at (sealed s close.upload close.bytes) c

  -- since the sight agent g reads the version, and has a piece of each cloud that gave its own object
  pub record IsReading (new : History) (g : Agent Row) : Type 0 where
    pub o : Opening Row
    pub waits : g.waiting ≡ Some (For_clouds o)
    pub number : o.version.number ≡ close.number
    pub root : o.reading.root ≡ (sealed s close.upload close.bytes).root
    pub long : o.reading.size ≡ size
    pub turns : o.reading.turns ≤ turns_since a new
    pub few : length o.reading.pieces ≤ header.f
    pub sized : Each (λ (p : KeptPiece). p.length ≡ size) o.reading.pieces
    pub asked : (c : ℕ) (n : RequestNo) → n.agent ≡ a → WasAsked sight new n c (upload_name close.upload) → is_answer_to o.reading.gets c n ≡ true
    pub good : (c : ℕ) → c < clouds_of s → WasGivenOwn s sight new a close c → is_good o.reading c ≡ true

  -- a Get line of it is of the open's reading, after it
  abbrev pub OfOpen : Opening Row → RequestNo → (c : ℕ) → Type 0
  OfOpen o n c = n.agent ≡ a → is_answer_to o.reading.gets c n ≡ true

  -- its own object that a cloud gave in an entry is among the pieces
  abbrev pub GivesGood : Entry → (before next : Opening Row) → Type 0
  GivesGood e o next =
      (c : ℕ) (n : RequestNo) → c < clouds_of s → n.agent ≡ a → is_answer_to o.reading.gets c n ≡ true → IsGiven s e n c (own c)
      → is_good next.reading c ≡ true

  module _ (e : Entry) (new : History) (g : Agent Row) (k : IsReading new g) where
    -- the open after one entry more
    pub record IsNext (h : Agent Row) (next : Opening Row) : Type 0 where
      pub waits : h.waiting ≡ Some (For_clouds next)
      pub version : next.version ≡ k.o.version
      pub root : next.reading.root ≡ k.o.reading.root
      pub size : next.reading.size ≡ k.o.reading.size
      pub turns : next.reading.turns ≤ turns_in a e.event + turns_since a new
      pub few : length next.reading.pieces ≤ header.f
      pub sized : Each (λ (p : KeptPiece). p.length ≡ length close.bytes) next.reading.pieces
      pub still_asked : (c : ℕ) (n : RequestNo) → is_answer_to k.o.reading.gets c n ≡ true → is_answer_to next.reading.gets c n ≡ true
      pub still_good : (c : ℕ) → is_good k.o.reading c ≡ true → is_good next.reading c ≡ true
      pub gives : GivesGood e k.o next

    pub next_reading : (Gave : Type 0) (h : Agent Row) (next : Opening Row) → IsNext h next → Each (Tells (OfOpen next) AnySaw Gave) e.lines
        → IsReading (e ∷ new) h
    next_reading Gave h next is told =
        record {
          o = next;
          waits = is.waits;
          number = ap (λ (v : Row). v.number) is.version ∙ k.number;
          root = is.root ∙ k.root;
          long = is.size ∙ k.long;
          turns = is.turns;
          few = is.few;
          sized = is.sized;
          asked = λ c n mine was. asked c n mine was;
          good = λ c below was. good c below was;
        }
      where
        asked : (c : ℕ) (n : RequestNo) → n.agent ≡ a → WasAsked sight (e ∷ new) n c (upload_name close.upload) → is_answer_to next.reading.gets c n ≡ true
        asked c n mine (inl there) = each_of-contains (Tells (OfOpen next) AnySaw Gave) e.lines (lines.Get n c (upload_name close.upload)) told there mine
        asked c n mine (inr before) = is.still_asked c n (k.asked c n mine before)

        good : (c : ℕ) → c < clouds_of s → WasGivenOwn s sight (e ∷ new) a close c → is_good next.reading c ≡ true
        good c below (inl (n, mine, was, given)) = is.gives c n below mine (k.asked c n mine was) given
        good c below (inr before) = is.still_good c (k.good c below before)

    -- an entry that gives agent a nothing leaves the open
    pub left_alone : (Gave : Type 0) (h : Agent Row) → h.waiting ≡ g.waiting → ((c : ℕ) (n : RequestNo) → n.agent ≡ a → ¬ IsGiven s e n c (own c))
        → Each (Tells (λ n c. ¬ (n.agent ≡ a)) AnySaw Gave) e.lines → IsReading (e ∷ new) h
    left_alone Gave h same none told =
        next_reading Gave h k.o
        (record {
          waits = same ∙ k.waits;
          version = refl;
          root = refl;
          size = refl;
          turns = let turns = k.turns in omega (arith, turns);
          few = k.few;
          sized = k.sized;
          still_asked = λ c n yes. yes;
          still_good = λ c yes. yes;
          gives = λ c n below mine was given. absurd (none c n mine given);
        })
        (each_told e.lines told)
      where
        one_told : (l : Line) → Tells (λ n c. ¬ (n.agent ≡ a)) AnySaw Gave l → Tells (OfOpen k.o) AnySaw Gave l
        one_told (lines.Get request c name) other = λ mine. absurd (other mine)
        one_told (lines.Saw request file number) h = h
        one_told (lines.Gave c request sum) h = h
        one_told _ h = tt

        each_told : (ls : List Line) → Each (Tells (λ n c. ¬ (n.agent ≡ a)) AnySaw Gave) ls → Each (Tells (OfOpen k.o) AnySaw Gave) ls
        each_told [] h = tt
        each_told (l ∷ ls) h = (one_told l h.0, each_told ls h.1)

    -- one that has no line of an answer given gives nothing
    pub none_given : Each (Tells (λ n c. ¬ (n.agent ≡ a)) AnySaw ⊥) e.lines → (c : ℕ) (n : RequestNo) → n.agent ≡ a → ¬ IsGiven s e n c (own c)
    none_given told c n mine given = each_of-contains (Tells (λ n c. ¬ (n.agent ≡ a)) AnySaw ⊥) e.lines _ told given.2

    pub alone : (h : Agent Row) → h.waiting ≡ g.waiting → Each (Tells (λ n c. ¬ (n.agent ≡ a)) AnySaw ⊥) e.lines → IsReading (e ∷ new) h
    alone h same told = left_alone ⊥ h same (none_given told) told

  -- f + 1 pieces of contents of the size open to as much
  pub opened_size : (pieces : List KeptPiece) → length pieces ≡ header.f + 1 → Each (λ (p : KeptPiece). p.length ≡ size) pieces
      → length (unseal header.f pieces) ≡ size
  opened_size [] enough sized = absurd (omega (arith, enough))
  opened_size (p ∷ pieces) enough sized = length-unseal header.f (p ∷ pieces) ∙ sized.0

  -- the opened line is among those of what an agent did
  pub answered_line : (before : List Line) (r : Reaction Row) (o : Opening Row) (pieces : List KeptPiece) → o.version.number ≡ close.number
      → Answers s o pieces r → Each (λ (p : KeptPiece). p.length ≡ size) pieces →
      let shown : List Line = before ++ map (said_by a) r.says ++ map (λ (x : Sent). request_line s x.number x.cloud x.body) r.sent in
      (h : ℕ) × Contains shown (lines.Opened a h close.number sources.Clouds size)
  answered_line before r o pieces same answers sized =
      let there = said_there r.says (says.Opened o.session o.version.number sources.Clouds (length (unseal header.f pieces))) answers.says in
      let line = lines.Opened a o.session o.version.number sources.Clouds (length (unseal header.f pieces)) in
      let asked = map (λ (x : Sent). request_line s x.number x.cloud x.body) r.sent in
      let shown = before ++ map (said_by a) r.says ++ asked in
      let inside : Contains shown line =
      Contains-append_left (before ++ map (said_by a) r.says) asked line (Contains-append_right before (map (said_by a) r.says) line there) in (
        o.session,
        subst (λ n. Contains shown (lines.Opened a o.session n sources.Clouds size)) same
            (subst (λ n. Contains shown (lines.Opened a o.session o.version.number sources.Clouds n)) (opened_size pieces answers.enough sized) inside),
      )
    where
      said_there : (xs : List Saying) (x : Saying) → Contains xs x → Contains (map (said_by a) xs) (said_by a x)
      said_there [] x (n, less, is) = absurd (omega (arith, less))
      said_there (y ∷ xs) x (zero, less, is) = (0, omega arith, ap (said_by a) is)
      said_there (y ∷ xs) x (suc n, less, is) =
          let k = said_there xs x (n, omega (arith, less), is) in (suc k.0, (let more = k.1 in omega (arith, more)), k.2)
