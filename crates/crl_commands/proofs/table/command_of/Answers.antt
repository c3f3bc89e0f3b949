use Rattle.std.proofs.Common.{◌≡◌, [], map, string_bytes, cond, None, ap, sym, subst, ◌∙◌, true, false}
use Rattle.std.proofs.lemmas.Result.{IfOk-weaker}
use Rattle.clap.specs.Words.{App, HasKind, app_of, fault_of, is_simple, is_simple_and_free, subcommand_of, subcommand_rows_of}
use Rattle.crl_commands.proofs.Parses.{is_free, is_plain}
use Rattle.crl_commands.proofs.Agrees.{any_in, failed, well}
use Rattle.crl_commands.specs.CommandLine.{command_in, command_line, named_words}
use Rattle.crl_commands.specs.Commands.{any_hyphenated, command_by, command_of}
use Rattle.crl_commands.proofs.table.command_of.Goals as goal

pub returns-then-any_hyphenated-clause-command : goal.returns-then-any_hyphenated-clause-command
returns-then-any_hyphenated-clause-command c =
    let words = map string_bytes c.args.words.now in
    let hyphened : any_hyphenated words ≡ true = any_in string_bytes c.args.words.now ∙ (sym c.any_hyphenated.ensures ∙ c.if-any_hyphenated.true) in
    sym (ap (λ b. cond b None (command_by words)) hyphened)

pub returns-in-Ok-clause-command : goal.returns-in-Ok-clause-command
returns-in-Ok-clause-command c =
    let words = map string_bytes c.args.words.now in
    let plain : any_hyphenated words ≡ false = any_in string_bytes c.args.words.now ∙ (sym c.any_hyphenated.ensures ∙ c.if-any_hyphenated.false) in
    let line_is : app_of c.in_ok-command_line.field-0 ≡ command_line = c.in_ok-command_line.ensures in
    let found_is : subcommand_rows_of c.in-Ok.matches ≡ subcommand_of command_line words = (c.in-Ok.ensures.matches (ap is_simple line_is ∙ is_plain)).1 ∙ ap (λ (a : App). subcommand_of a words) line_is in
    let fits : fault_of command_line words ≡ [] = sym (ap (λ (a : App). fault_of a words) line_is) ∙ c.in-Ok.ensures.kinds (ap is_simple_and_free line_is ∙ is_free) in
    let all : command_in (named_words (subcommand_rows_of c.in-Ok.matches)) ≡ command_of words =
    ap command_in (ap named_words found_is) ∙ (well words plain fits ∙ sym (ap (λ b. cond b None (command_by words)) plain)) in
    IfOk-weaker c.command_in.result _ _ (λ r h. h ∙ all) c.command_in.ensures.command

pub returns-clause-command : goal.returns-clause-command
returns-clause-command c =
    let words = map string_bytes c.args.words.now in
    let plain : any_hyphenated words ≡ false = any_in string_bytes c.args.words.now ∙ (sym c.any_hyphenated.ensures ∙ c.if-any_hyphenated.false) in
    let line_is : app_of c.in_ok-command_line.field-0 ≡ command_line = c.in_ok-command_line.ensures in
    let has : HasKind (fault_of command_line words) c.in-Err.error = subst (λ (a : App). HasKind (fault_of a words) c.in-Err.error) line_is (c.in-Err.ensures.kinds (ap is_simple_and_free line_is ∙ is_free)) in
    sym (ap (λ b. cond b None (command_by words)) plain ∙ failed words c.in-Err.error plain has (λ k. c.in_default.not-OutOfMemory (c.kind.ensures ∙ k)))
