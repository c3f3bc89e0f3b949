use Rattle.std.proofs.Common.{◌≡◌, ◌∙◌, ap, ap₂, codes, true}
use Rattle.std.proofs.lemmas.Result.{IfOk-weaker}
use Rattle.clap.specs.Words.{App, Shape, app_of, with_subcommand}
use Rattle.clap.specs.Simple.{app_of_fields, on_top}
use Rattle.crl_commands.specs.CommandLine.{program, with_command}
use Rattle.crl_commands.proofs.command_line.command_line.Goals as goal

abbrev top_of : App → Shape
top_of a = a.top

pub returns : goal.returns
returns c =
    let bare : app_of c.subcommand_required.result ≡ program =
    ap app_of_fields c.subcommand_required.ensures ∙ ap (on_top (λ (s : Shape). record s { subcommand_required = true }))
    (ap app_of_fields c.disable_help_subcommand.ensures ∙ ap (on_top (λ (s : Shape). record s { disable_help_subcommand = true }))
    (ap app_of_fields c.disable_help_flag.ensures ∙ ap (on_top (λ (s : Shape). record s { disable_help_flag = true }))
    (ap app_of_fields c.no_binary_name.ensures ∙ ap (on_top (λ (s : Shape). record s { no_binary_name = true })) c.new.ensures.app))) in
    let order : app_of c.in_ok-subcommand.field-0 ≡ with_command program (codes "order") =
    c.in_ok-subcommand.ensures.shape c.in_ok-words_behind.ensures.local ∙ ap₂ with_subcommand bare (ap top_of c.in_ok-words_behind.ensures.shape) in
    let check = c.in_ok-subcommand-2.ensures.shape c.in_ok-words_behind-2.ensures.local ∙ ap₂ with_subcommand order (ap top_of c.in_ok-words_behind-2.ensures.shape) in
    let gen = c.in_ok-subcommand-3.ensures.shape c.in_ok-words_behind-3.ensures.local ∙ ap₂ with_subcommand check (ap top_of c.in_ok-words_behind-3.ensures.shape) in
    let summary = c.in_ok-subcommand-4.ensures.shape c.in_ok-words_behind-4.ensures.local ∙ ap₂ with_subcommand gen (ap top_of c.in_ok-words_behind-4.ensures.shape) in
    IfOk-weaker c.subcommand-5.result _ _ (λ r h. h.shape c.in_ok-words_behind-5.ensures.local ∙ ap₂ with_subcommand summary (ap top_of c.in_ok-words_behind-5.ensures.shape)) c.subcommand-5.ensures
