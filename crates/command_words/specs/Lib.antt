pub mod Names
pub mod Words
pub mod Formats
pub mod Meaning
pub mod Grammar
pub mod Laws
