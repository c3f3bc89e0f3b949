use Rattle.std.proofs.lemmas.Bool.{eq-eqb}
use Rattle.crl_desk.specs.Desks.{state}
use Rattle.crl_naming.proofs.Deletes.{delete_is_live}
use Rattle.crl_naming.proofs.deleting.delete.Goals as goal

pub delete_own-requires-clause-live : goal.delete_own-requires-clause-live
delete_own-requires-clause-live c =
    delete_is_live (state c.args.desk.now) c.args.name c.requires.verdict (eq-eqb c.args.name.home c.args.desk.now.me c.if-name-desk.true)
