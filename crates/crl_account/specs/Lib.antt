pub mod Text
pub mod Parts
pub mod Account
pub mod Reports
