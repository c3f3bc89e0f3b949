-- The command line as `clap` is told it, and what is read of its answer.
use Rattle.std.specs.Prelude.{true, List, codes, Option, Some, None, option_map, option_and_then}
use Rattle.clap.specs.Words.{App, Row, Text, all_of, new_app, new_rule, with_rule, with_subcommand}
use Rattle.clap.specs.declared.builder.action.ArgAction.TheVariants.{Append}
use Rattle.crl_commands.specs.declared.command.Command.{Command}
use Rattle.crl_commands.specs.Commands.{command_named}

-- a command of this name, with words behind it
abbrev pub words_behind : Text → App
words_behind name = with_rule (new_app name) (record (new_rule (codes "words")) { required = true; action = Some Append })

-- the program, which has no flags and no command for help, and wants a command
abbrev pub program : App
program = record (new_app (codes "crl")) {
  top = record (new_app (codes "crl")).top {
    no_binary_name = true;
    disable_help_flag = true;
    disable_help_subcommand = true;
    subcommand_required = true;
  };
}

-- the line with a command of this name too
abbrev pub with_command : App → Text → App
with_command line name = with_subcommand line (words_behind name).top

abbrev pub command_line : App
command_line =
    with_command (with_command (with_command (with_command (with_command program (codes "order")) (codes "check")) (codes "gen")) (codes "summary")) (codes "threads")

-- the name that was found, and the words behind it
abbrev pub named_words : Option (Text × List Row) → Option (Text × List Text)
named_words = option_and_then (λ found. option_map (λ words. (found.0, words)) (all_of (codes "words") found.1))

-- the command that they are
abbrev pub command_in : Option (Text × List Text) → Option Command
command_in None = None
command_in (Some found) = command_named found.0 found.1
