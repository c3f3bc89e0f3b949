pub mod OpenSections
pub mod SectionsState
