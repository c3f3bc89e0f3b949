mod AgainLemmas
mod SoFarLemmas
mod BlockLemmas
mod BlockRun
pub mod Laws
mod NumberLemmas
mod PlainLemmas
mod PlainRun
mod PlainTexts
mod ReadingLemmas
mod RunLemmas
mod ScriptRun
mod ShortTexts
mod SoundLemmas
mod SpellLemmas
mod StatementLemmas
mod TextLemmas
mod WordLengths
