pub mod Posting
pub mod Stated
