use Rattle.std.proofs.Common.{◌≡◌, ◌∙◌, ap, subst, Ok}
use Rattle.crl_script.specs.Canonical.{canonical_of}
use Rattle.crl_script.specs.Program.{Program}
use Rattle.crl_script.specs.Sentence.{script_of}
use Rattle.crl_cli.proofs.generate.generate.Goals as goal

pub returns : goal.returns
returns c = record {
  printed = c.in_ok-text.ensures.text ∙ ap canonical_of c.in_ok-script.ensures.made;
  again = subst (λ (p : Program). script_of c.in_ok-text.text.items ≡ Ok p) c.in_ok-script.ensures.made (c.in_ok-text.ensures.again c.in_ok-script.ensures.printable);
}
