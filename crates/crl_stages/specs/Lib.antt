pub mod NodeSets
pub mod RowLifetimes
pub mod StagesState
