pub mod IntLaws
pub mod Ring
pub mod Size
pub mod Signs
