-- The command line as `clap` reads it.
use Rattle.std.specs.Prelude.{true, codes}
use Rattle.clap.specs.Words.{App, new_app, with_subcommand}
use Rattle.clap.specs.Simple.{new_shape, on_top}

-- a program without words of its own, that wants a subcommand
abbrev pub bare : App
bare = on_top (λ s. record s {
  no_binary_name = true;
  disable_help_flag = true;
  disable_help_subcommand = true;
  subcommand_required = true;
}) (new_app (codes "scfs"))

-- its three subcommands, each without words of its own
abbrev pub program : App
program = with_subcommand
    (with_subcommand (with_subcommand bare (new_shape (codes "replay"))) (new_shape (codes "dump")))
    (new_shape (codes "run"))
