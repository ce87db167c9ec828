pub mod ColumnSteps
pub mod Factors
pub mod LaneSteps
pub mod QuarticSteps
pub mod RowSteps
