pub mod ParcelKeys
pub mod ParcelsState
pub mod PieceComes
