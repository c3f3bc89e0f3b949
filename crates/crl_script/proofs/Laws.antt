-- What the crates above may cite of the proofs here: how many regions a block creates, and which scripts are printable.
pub use Rattle.crl_script.proofs.AgainLemmas.{made_most}
pub use Rattle.crl_script.proofs.PlainTexts.{plain_is_printable}
