pub mod Commits
pub mod FitLaws
pub mod Fits
pub mod OfSetting
pub mod OpenLaws
pub mod Openable
