mod ValueLemmas
mod TableLemmas
mod KindLemmas
mod HeaderLemmas
mod FrameLemmas
mod ReadingLemmas
