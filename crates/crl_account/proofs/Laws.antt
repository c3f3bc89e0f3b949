-- What the crates above may cite of the proofs here.
pub use Rattle.crl_account.proofs.Plain.{name_parts}
pub use Rattle.crl_account.proofs.Lines.{first_word, other_words, line_parts}
pub use Rattle.crl_account.proofs.Feeds.{lines_some, written_lines}
