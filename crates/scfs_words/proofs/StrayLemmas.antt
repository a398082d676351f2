-- What `clap` makes of a word that names no subcommand.
use Rattle.std.proofs.Common.{◌≡◌, ℕ, zero, suc, Bool, true, false, [], ◌∷◌, Option, Some, None, ap, refl, sym, subst, codes, length}
use Rattle.std.specs.Prelude.{slice_get, if◌then◌else◌}
use Rattle.std.specs.Str.{bytes_eq, chars}
use Rattle.clap.specs.Lexer.{long_of, short_of}
use Rattle.clap.specs.Walk.{Text, Held, Step, Names, idle, plain, trailing, after_flag, after_step, bundle_met, bundle_step, long_or_other, nothing_held, short_or_plain, stop_after, subcommand_met, subcommand_or_other, walk_from, walked}
use Rattle.clap.specs.Simple.{built, entered}
use Rattle.clap.specs.Words.{subcommand_of}
use Rattle.scfs_words.specs.Program.{program}

-- the walk over the word stops at no subcommand
Stays : Text → Held × Step → Type 0
Stays word met = (after_step [] word (walk_from nothing_held) met.0 met.1).stopped ≡ None

bundle_stays : (word flags : Text) (n : ℕ) → Stays word (after_flag [] idle word (bundle_met [] n flags 0 plain nothing_held).0 (bundle_met [] n flags 0 plain nothing_held).1)
unfolding bundle_met Stays
bundle_stays word flags zero = refl
bundle_stays word flags (suc k) = step (slice_get (chars flags) 0)
  where
    step : (x : Option ℕ) → Stays word (after_flag [] idle word (bundle_step [] x flags 0 plain nothing_held (bundle_met [] k)).0 (bundle_step [] x flags 0 plain nothing_held (bundle_met [] k)).1)
    step None = refl
    step (Some x) = refl

short_stays : (word : Text) (flags : Option Text) → Stays word (short_or_plain [] idle word flags nothing_held)
unfolding Stays
short_stays word None = refl
short_stays word (Some flags) = bundle_stays word flags (length flags)

long_stays : (word : Text) (met : Option (Text × Option Text)) → Stays word (long_or_other [] idle word met nothing_held)
unfolding Stays
long_stays word None = short_stays word (short_of word)
long_stays word (Some p) = refl

word_stays : (word : Text) (ends : Bool) → Stays word (if ends then (nothing_held, trailing 1) else long_or_other [] idle word (long_of word) nothing_held)
unfolding Stays
word_stays word true = refl
word_stays word false = long_stays word (long_of word)

name_list : Text → Text → Text → Names
name_list a b c = (a, []) ∷ (b, []) ∷ (c, []) ∷ []

none_met : (a b c word : Text) → bytes_eq a word ≡ false → bytes_eq b word ≡ false → bytes_eq c word ≡ false → subcommand_met (name_list a b c) idle word ≡ None
unfolding name_list
none_met a b c word p q r = rw (p, q, r) refl

stops_nowhere : (names : Names) (word : Text) → subcommand_met names idle word ≡ None → stop_after [] names (word ∷ []) ≡ None
unfolding walked Stays
stops_nowhere names word none = subst (λ (o : Option Text). Stays word (subcommand_or_other [] o idle 1 word nothing_held)) (sym none) (word_stays word (bytes_eq word (45 ∷ 45 ∷ [])))

pub stray : (word : Text) → bytes_eq (codes "replay") word ≡ false → bytes_eq (codes "dump") word ≡ false → bytes_eq (codes "run") word ≡ false → subcommand_of program (word ∷ []) ≡ None
unfolding name_list
stray word p q r = ap (entered (built program)) (stops_nowhere (name_list (codes "replay") (codes "dump") (codes "run")) word (none_met (codes "replay") (codes "dump") (codes "run") word p q r))
