use Rattle.std.proofs.Common.{◌≡◌, List, Some, None, map, sym, ◌∙◌, codes}
use Rattle.std.proofs.lemmas.Result.{IfOk-weaker}
use Rattle.clap.specs.Words.{Text, all_of, subcommand_rows_of, found_of, rows_of}
use Rattle.clap.proofs.WalkLemmas.{raw_values-rows}
use Rattle.crl_commands.proofs.Agrees.{apart, command_from}
use Rattle.crl_commands.proofs.table.command_in.Goals as goal

pub returns-in-Some-get_strs-clause-command : goal.returns-in-Some-get_strs-clause-command
returns-in-Some-get_strs-clause-command c =
    let found = found_of c.in-Some.found.now in
    let words : List Text = map (λ w. w.now) c.in-Some-get_strs.words.now in
    let rows : subcommand_rows_of c.args.matches.now ≡ Some (c.in-Some.name.now, rows_of found) = apart _ _ _ _ _ c.in-Some.ensures.name c.in-Some.ensures.rows in
    let some : all_of (codes "words") (rows_of found) ≡ Some words = sym (raw_values-rows found (codes "words")) ∙ sym c.in-Some-get_strs.ensures in
    IfOk-weaker c.command_named.result _ _ (λ r h. h ∙ sym (command_from _ c.in-Some.name.now (rows_of found) (Some words) rows some)) c.command_named.ensures.command

pub returns-in-None-clause-command : goal.returns-in-None-clause-command
returns-in-None-clause-command c =
    let found = found_of c.in-Some.found.now in
    let rows : subcommand_rows_of c.args.matches.now ≡ Some (c.in-Some.name.now, rows_of found) = apart _ _ _ _ _ c.in-Some.ensures.name c.in-Some.ensures.rows in
    let none : all_of (codes "words") (rows_of found) ≡ None = sym (raw_values-rows found (codes "words")) ∙ sym c.in-None.ensures in
    sym (command_from _ c.in-Some.name.now (rows_of found) None rows none)
