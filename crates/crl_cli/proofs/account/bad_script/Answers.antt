use Rattle.std.proofs.Common.{◌∙◌, ap, append_assoc, refl}
use Rattle.crl_cli.proofs.account.bad_script.Goals as goal

pub returns-clause-text : goal.returns-clause-text
returns-clause-text c = ap (λ v. v.items) c.into_bytes.ensures.value ∙ c.in_ok-text.ensures.ok ∙ simp append_assoc refl
