-- What the program's `clap` command reads of one word.
use Rattle.std.proofs.Common.{◌≡◌, ◌∙◌, ◌⊎◌, inl, inr, Bool, true, false, List, [], ◌∷◌, Option, Some, None, ap, refl, sym, subst, codes, option_map}
use Rattle.std.specs.Prelude.{option_and_then, if◌then◌else◌, Box}
use Rattle.std.specs.Str.{bytes_eq}
use Rattle.std.proofs.lemmas.Slice.Eq.{bytes_eq-Decides}
use Rattle.clap.specs.Walk.{Row, Text}
use Rattle.clap.proofs.OnLiterals.{clap_on_literals}
use Rattle.clap.specs.Words.{App, HasMatchesOf, is_simple, subcommand_name_of, subcommand_of, subcommand_rows_of, takes}
use Rattle.clap.specs.Simple.{subcommand_rows}
use Rattle.std.proofs.Common.{Global, arith, length, map}
use Rattle.std.specs.Box.{box_value}
use Rattle.clap.specs.declared.parser.matches.SubCommand.{SubCommand}
use Rattle.clap.specs.declared.parser.matches.ArgMatches.{ArgMatches}
use Rattle.clap.specs.declared.parser.matches.ArgMatches.TheViews.{out-ArgMatches, out-SubCommand}
use Rattle.scfs_words.specs.Command.{command_of, named}
use Rattle.scfs_words.specs.Program.{program}
use Rattle.scfs_words.specs.declared.Command.{Command}
use Rattle.scfs_words.specs.declared.Command.TheVariants as commands
use Rattle.scfs_words.proofs.StrayLemmas.{stray}
use Rattle.scfs_words.proofs.WordLemmas.{replay_met, dump_met, run_met, replay_taken, dump_taken, run_taken}

-- the command of the subcommand that was entered
abbrev pub command_in : Option (Text × List Row) → Option Command
command_in entered = option_and_then (λ p. named p.0) entered

-- `clap` enters the subcommand that the word names, and refuses no such word
abbrev pub Reads : Text → Type 0
Reads word = (command_in (subcommand_of program (word ∷ [])) ≡ named word)
    × ((takes program (word ∷ []) ≡ true) ⊎ (named word ≡ None))

swapped : (word name : Text) → bytes_eq word name ≡ false → bytes_eq name word ≡ false
swapped word name apart = go (bytes_eq name word) refl
  where
    go : (t : Bool) → bytes_eq name word ≡ t → bytes_eq name word ≡ false
    go false e = e
    go true e = let same : bytes_eq word name ≡ true = (bytes_eq-Decides word name).1 (sym ((bytes_eq-Decides name word).0 e)) in absurd (cc)

choose : (a b c : Bool) (x y z : Option Command) → a ≡ false → b ≡ false → c ≡ false → (if a then x else (if b then y else (if c then z else None))) ≡ None
choose a b c x y z p q r = rw (p, q, r) refl

pub one_word : (word : Text) → Reads word
one_word word = first (bytes_eq word (codes "replay")) (bytes_eq word (codes "dump")) (bytes_eq word (codes "run")) refl refl refl
  where
    first : (a b c : Bool) → bytes_eq word (codes "replay") ≡ a → bytes_eq word (codes "dump") ≡ b → bytes_eq word (codes "run") ≡ c → Reads word
    first true b c p q r = subst Reads (sym ((bytes_eq-Decides word (codes "replay")).0 p)) (ap command_in replay_met, inl replay_taken)
    first false true c p q r = subst Reads (sym ((bytes_eq-Decides word (codes "dump")).0 q)) (ap command_in dump_met, inl dump_taken)
    first false false true p q r = subst Reads (sym ((bytes_eq-Decides word (codes "run")).0 r)) (ap command_in run_met, inl run_taken)
    first false false false p q r =
        let none : named word ≡ None = choose (bytes_eq word (codes "replay")) (bytes_eq word (codes "dump")) (bytes_eq word (codes "run")) (Some commands.Replay) (Some commands.Dump) (Some commands.Run) p q r in
        (ap command_in (stray word (swapped word (codes "replay") p) (swapped word (codes "dump") q) (swapped word (codes "run") r)) ∙ sym none, inr none)

named_so : (entered : Option (Box SubCommand Global)) → option_and_then named (option_map (λ b. (out-SubCommand (box_value b)).name.now) entered) ≡ command_in (subcommand_rows entered)
named_so None = refl
named_so (Some b) = refl

program_simple : is_simple program ≡ true
unfolding clap_on_literals
program_simple = refl

module _ {A : Type 0} (text : A → Text) (made : App) (is_program : made ≡ program) where
  pub reads_one : (words : List A) (m : ArgMatches) → length words ≡ 1 → HasMatchesOf made (map text words) m
      → option_and_then named (subcommand_name_of m) ≡ command_of (map text words)
  reads_one (word ∷ []) m one has =
      let rows : subcommand_rows_of m ≡ subcommand_of program (text word ∷ []) =
      (subst (λ (a : App). HasMatchesOf a (text word ∷ []) m) is_program has program_simple).1 in
      named_so (out-ArgMatches m).subcommand ∙ ap command_in rows ∙ (one_word (text word)).0
  reads_one [] m one has = absurd (omega arith)
  reads_one (word ∷ next ∷ rest) m one has = absurd (omega arith)

  pub reads_none : (words : List A) → (takes made (map text words) ≡ true → ⊥) → command_of (map text words) ≡ None
  reads_none [] refuses = refl
  reads_none (word ∷ []) refuses = elim (one_word (text word)).1 [
    | inl took ↦ absurd (refuses (subst (λ (a : App). takes a (text word ∷ []) ≡ true) (sym is_program) took))
    | inr none ↦ none
  ]
  reads_none (word ∷ next ∷ rest) refuses = refl

  pub reads_not_one : (words : List A) → (length words ≡ 1 → ⊥) → command_of (map text words) ≡ None
  reads_not_one [] several = refl
  reads_not_one (word ∷ []) several = absurd (several refl)
  reads_not_one (word ∷ next ∷ rest) several = refl
