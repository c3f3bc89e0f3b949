use Rattle.std.proofs.Common.{◌∙◌, ap}
use Rattle.std.proofs.lemmas.Result.{IfOk-weaker}
use Rattle.crl_script.specs.Sentence.{script_of}
use Rattle.crl_script.proofs.AgainLemmas.{again}
use Rattle.crl_script.proofs.printing.print_script.Goals as goal

pub returns-clause-again : goal.returns-clause-again
returns-clause-again c =
    IfOk-weaker c.canonical.result _ _ (λ text same h. ap script_of same ∙ again c.args.script.now c.canonical.ensures.script h) c.canonical.ensures.text
