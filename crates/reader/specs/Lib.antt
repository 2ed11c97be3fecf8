pub mod Lines
pub mod Numbers
pub mod Reading
pub mod Refusals
pub mod Words
