pub mod Blocks
pub mod GuardLends
pub mod PaneLends
pub mod Panes
pub mod RowLends
pub mod Shelves
pub mod Shown
