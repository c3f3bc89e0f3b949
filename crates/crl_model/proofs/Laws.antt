-- What the crates above may cite of the proofs here: when two names are one, and what the fold of a round is.
pub use Rattle.crl_model.proofs.Order.{name_eq_is, same_name, name_eq_self, name_total, name_exact}
pub use Rattle.crl_model.proofs.PartFolds.{agrees_of, fold_agreed}
