-- What a run wrote to its journal is a front of what was missing and of the pieces of its new events.
use Rattle.std.proofs.Common.{◌≡◌, ◌≢◌, ℕ, List, [], ◌∷◌, ◌++◌, refl, ap, ◌∙◌, sym, Option, Some, None, append_assoc, append-nil}
use Rattle.std.specs.Prelude.{IfSome}
use Rattle.scfs_base.specs.Outside.{Puts, Takes}
use Rattle.scfs_schedule.specs.declared.types.Which.TheVariants as whichs
use Rattle.scfs_model.specs.History.{History}
use Rattle.scfs_live.specs.Edges.{GetsPart, GetsThenPart}
use Rattle.scfs_live.specs.Journal.{entry_piece, pieces_of}
use Rattle.scfs_live.specs.Recording.{ShowedPart, WrotePart}
use Rattle.scfs_live.specs.Stopping.{StopWrites}
use Rattle.scfs_live.specs.declared.ending.LiveEnd.{LiveEnd}
use Rattle.scfs_live.specs.declared.ending.LiveEnd.TheVariants as lives
use Rattle.scfs_top.specs.declared.stopping.RunEnd.{RunEnd}
use Rattle.scfs_top.specs.declared.stopping.RunEnd.TheVariants as runs
use Rattle.scfs_top.specs.Running.{RunWrites}

-- a source that tells gave all of its bytes where nothing is left

nothing_more : (left' : Option (List ℕ)) (rest : List ℕ) → left' ≡ Some rest → IfSome left' (λ left. left ≡ []) → rest ≡ []
nothing_more None rest is none = cc
nothing_more (Some left) rest is none = let same : left ≡ rest = cc in sym same ∙ none

pub took_all : (text taken : List ℕ) (left left' : Option (List ℕ)) → left ≡ Some text → Takes left left' taken → IfSome left' (λ rest. rest ≡ []) → taken ≡ text
took_all text taken None left' is takes none = cc
took_all text taken (Some all) left' is takes none =
    let same : all ≡ text = cc in
    sym (append-nil taken) ∙ ap (λ r. taken ++ r) (sym (nothing_more left' takes.0 takes.1 none)) ∙ sym takes.2 ∙ same

-- what a sink that tells has got
pub puts_told : (o after : Option (List ℕ)) (before text : List ℕ) → o ≡ Some before → Puts o after text → after ≡ Some (before ++ text)
puts_told None after before text is puts = cc
puts_told (Some b) after before text is puts = let same : b ≡ before = cc in puts ∙ ap (λ x. Some (x ++ text)) same

-- a journal that had these bytes got a front of a text; all of it, unless writing to it failed
pub record Got (before : List ℕ) (after : Option (List ℕ)) (text : List ℕ) (end : RunEnd) : Type 0 where
  pub front : List ℕ
  pub back : List ℕ
  pub parts : text ≡ front ++ back
  pub told : after ≡ Some (before ++ front)
  pub all : end ≢ runs.Stopped (lives.WriteFault whichs.Journal) → back ≡ []

got_all : (j j' : Option (List ℕ)) (before text : List ℕ) (end : RunEnd) → j ≡ Some before → Puts j j' text → Got before j' text end
got_all j j' before text end is puts =
    record { front = text; back = []; parts = sym (append-nil text); told = puts_told j j' before text is puts; all = λ other. refl }

got_then : (j j' : Option (List ℕ)) (before text last : List ℕ) → j ≡ Some before → GetsThenPart j j' text last
    → Got before j' (text ++ last) (runs.Stopped (lives.WriteFault whichs.Journal))
got_then j j' before text last is gets =
    let between = puts_told j gets.between before text is gets.all in
    let part = gets.part in
    record {
      front = text ++ part.front;
      back = part.back;
      parts = ap (λ t. text ++ t) part.whole ∙ sym (append_assoc text part.front part.back);
      told = puts_told gets.between j' (before ++ text) part.front between part.puts ∙ ap Some (append_assoc before text part.front);
      all = λ other. absurd (other refl);
    }

got_part : (j j' o o' : Option (List ℕ)) (before : List ℕ) (new past : History) → j ≡ Some before → WrotePart j j' o o' new past
    → Got before j' (pieces_of new past) (runs.Stopped (lives.WriteFault whichs.Journal))
got_part j j' o o' before [] past is wrote = absurd wrote
got_part j j' o o' before (e ∷ new) past is wrote = got_then j j' before (pieces_of new past) (entry_piece (new ++ past) e) is wrote.0

got_shown : (j j' o o' : Option (List ℕ)) (before : List ℕ) (new past : History) (end : RunEnd) → j ≡ Some before → ShowedPart j j' o o' new past
    → Got before j' (pieces_of new past) end
got_shown j j' o o' before [] past end is wrote = absurd wrote
got_shown j j' o o' before (e ∷ new) past end is wrote = got_all j j' before (pieces_of (e ∷ new) past) end is wrote.0

module _ (j j' o o' : Option (List ℕ)) (before : List ℕ) (new past : History) (is : j ≡ Some before) where
  by_why : (why : LiveEnd) → StopWrites why j j' o o' new past → Got before j' (pieces_of new past) (runs.Stopped why)
  by_why (lives.WriteFault whichs.Journal) wrote = got_part j j' o o' before new past is wrote
  by_why (lives.WriteFault whichs.Out) wrote = got_shown j j' o o' before new past (runs.Stopped (lives.WriteFault whichs.Out)) is wrote
  by_why (lives.TooLarge whichs.Events) wrote = got_all j j' before (pieces_of new past) (runs.Stopped (lives.TooLarge whichs.Events)) is wrote.journal
  by_why (lives.TooLarge whichs.Objects) wrote = got_all j j' before (pieces_of new past) (runs.Stopped (lives.TooLarge whichs.Objects)) is wrote.journal
  by_why lives.Memory wrote = got_all j j' before (pieces_of new past) (runs.Stopped lives.Memory) is wrote.journal
  by_why other wrote = absurd wrote

  pub got_pieces : (end : RunEnd) → RunWrites end j j' o o' new past → Got before j' (pieces_of new past) end
  got_pieces (runs.Finished count finish filled) wrote = got_all j j' before (pieces_of new past) (runs.Finished count finish filled) is wrote.journal
  got_pieces (runs.Stopped why) wrote = by_why why wrote

-- what came behind a text that was put before
pub got_behind : (first : List ℕ) (before : List ℕ) (after : Option (List ℕ)) (text : List ℕ) (end : RunEnd) → Got (before ++ first) after text end
    → Got before after (first ++ text) end
got_behind first before after text end got = record {
  front = first ++ got.front;
  back = got.back;
  parts = ap (λ t. first ++ t) got.parts ∙ sym (append_assoc first got.front got.back);
  told = got.told ∙ ap Some (append_assoc before first got.front);
  all = got.all;
}

-- a front of a text, where writing that failed
pub got_front : (j j' : Option (List ℕ)) (before text : List ℕ) → j ≡ Some before → GetsPart j j' text → Got before j' text (runs.Stopped (lives.WriteFault whichs.Journal))
got_front j j' before text is part = record {
  front = part.front;
  back = part.back;
  parts = part.whole;
  told = puts_told j j' before part.front is part.puts;
  all = λ other. absurd (other refl);
}
