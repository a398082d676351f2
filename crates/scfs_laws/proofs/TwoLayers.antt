-- Where each open got what was closed, what agents, space and clouds make is what the file map demands.
use Rattle.std.proofs.Common.{◌≡◌, ◌+◌, [], ◌∷◌, length, refl, sym, ap, ◌∙◌}
use Rattle.scfs_model.specs.Format.{Setup}
use Rattle.scfs_model.specs.History.{Entry, History}
use Rattle.scfs_model.specs.Given.{given_of}
use Rattle.scfs_model.specs.Tree.{empty_tree}
use Rattle.scfs_model.specs.Events.{place_of}
use Rattle.scfs_model.specs.States.{State, Effect, first_seat, first_state}
use Rattle.scfs_model.specs.Layers.{Row, Version, rows, closes, row_of}
use Rattle.scfs_model.specs.Runs.{effect_of, actual, mapped, made, due, Happens, Run}
use Rattle.scfs_laws.specs.Mapped as to
use Rattle.scfs_laws.specs.Mapped.{Own, through}
use Rattle.scfs_laws.specs.Sound.{FitsPlace, WasClosed, IsSound}
use Rattle.scfs_laws.proofs.ListMaps.{replicate_map}
use Rattle.scfs_laws.proofs.StateMaps.{same_effect}

abbrev own : Own Version
own =
    record {
      contents = λ v came. v.bytes;
      closed = λ y u it. record { file = y.file; number = y.base + 1; upload = u; moment = 0; bytes = y.contents };
      completed = λ v now. record v { moment = now };
    }

pub entry_alike : (s : Setup) (x : State Version) (e : Entry) → FitsPlace s WasClosed x e.message (place_of e.event)
    → effect_of s rows (to.state (row_of s) x) e ≡ to.effect (row_of s) (effect_of s (closes s) x e)
entry_alike s x e sound =
    same_effect s rows (row_of s) own (λ y u. refl) (λ v now. refl) x e.event e.message (given_of x.clock e) sound

first_alike : (s : Setup) → first_state s ≡ to.state (row_of s) (first_state s)
first_alike s =
    ap (λ seats. record { clock = 0; tree = empty_tree; seats = seats })
    (sym (replicate_map (to.seat (row_of s)) (length s.header.agents) (first_seat s)))

-- what a history leaves: the same, with rows in place of closes
pub states_alike : (s : Setup) (past : History) → IsSound s past → actual s past ≡ to.state (row_of s) (mapped s past)
states_alike s [] sound = first_alike s
states_alike s (e ∷ past) sound =
    ap (λ x. (effect_of s rows x e).state) (states_alike s past sound.1)
    ∙ ap (λ (x : Effect Row). x.state) (entry_alike s (mapped s past) e sound.0)

pub made_is_due : (s : Setup) (past : History) (e : Entry) → IsSound s past → FitsPlace s WasClosed (mapped s past) e.message (place_of e.event)
    → made s past e ≡ due s past e
made_is_due s past e sound now =
    ap (λ x. (effect_of s rows x e).lines) (states_alike s past sound) ∙ ap (λ (x : Effect Row). x.lines) (entry_alike s (mapped s past) e now)

-- a history that agents, space and clouds make is a run of the file map
pub is_run : (s : Setup) (past : History) → IsSound s past → Happens s past → Run s past
is_run s [] sound happens = _
is_run s (e ∷ past) sound happens = (happens.0 ∙ made_is_due s past e sound.1 sound.0, is_run s past sound.1 happens.1)
