pub mod BabyBear
pub mod Context
pub mod Hiding
pub mod Numbers
pub mod Setting
pub mod Stated
pub mod Statement
pub mod StatementLaws
